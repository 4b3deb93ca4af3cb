-- `opening::initialize::send_factor` meets its contract.
use Rattle.std.proofs.Common.{refl, ◌-◌, arith}
use Rattle.node.specs.Rows.{given}
use Rattle.messages.specs.Factor.{factor-part}
use Rattle.definition.specs.Vectors.{binary}
use Rattle.opening.specs.OpenFactors.{factor-put}
use Rattle.opening.proofs.initialize.send_factor.Goals as goal

pub returns : goal.returns
returns c =
    let a = c.args in
    let f = c.word-from in
    let g = c.word-to in
    let w = c.word in
    let m = c.read-message in
    let o = c.out_message_factor in
    let s = given a.alpha a.beta a.regularised in
    let n = g.result - f.result in
    let p = factor-part s (binary m.result.absent m.result.present) a.row.now o.new.out f.result n n
    (omega (arith, c.requires.ordered, c.requires.inside, f.ensures.0, g.ensures.0)) refl o.ensures in
    factor-put a.row.now o.new.out s (binary m.result.absent m.result.present) f.result g.result w.result _ _ _ f.ensures.0 g.ensures.0 w.ensures.0
    m.ensures.two p
