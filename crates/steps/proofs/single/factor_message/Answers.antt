-- `steps::single::factor_message` meets its contract.
use Rattle.std.proofs.Common.{◌≡◌, ap, ◌∙◌, ◌+◌, ◌-◌, arith, length}
use Rattle.definition.specs.Vectors.{binary}
use Rattle.graph_laws.specs.Lengths.{length-out_message_factor}
use Rattle.list_laws.specs.Put.{put, put-part}
use Rattle.node.specs.Rows.{given}
use Rattle.messages.specs.Factor.{factor-part}
use Rattle.steps.proofs.single.factor_message.Goals as goal

pub returns : goal.returns
returns c =
    let a = c.args in
    let f = c.out_message_factor in
    let n = a.at + a.degree - a.at in
    let s = given a.alpha a.beta a.regularised in
    let m = binary a.message.absent a.message.present in
    let p = factor-part s m a.w.now f.new.out a.at n a.degree (omega (arith, c.requires.1)) (omega arith) f.ensures in
    let l : length f.new.out ≡ n = ap length p ∙ length-out_message_factor s a.degree m ∙ omega arith in
    put-part a.w.now f.new.out a.at n l ∙ ap (put a.w.now a.at) p
