-- `messages::factor::out_message_factor_with` meets its contract.
use mathlib.Core.Path.{ap, ◌∙◌}
use mathlib.Core.List.{List}
use lib.ListN.{length}
use lib.Ieee.{Float}
use Rattle.definition.specs.Vectors.{binary}
use Rattle.messages.specs.Factor.{from_table, from_table-is}
use Rattle.node.specs.Rows.{given}
use Rattle.messages.proofs.factor.out_message_factor_with.Goals as goal

pub fill_in_factor-requires : goal.fill_in_factor-requires
fill_in_factor-requires c = let p = c.requires in (p.0, p.1)

pub returns : goal.returns
returns c =
    let a = c.args in
    let m = binary a.message.absent a.message.present in
    let t = c.fill_in_factor.ensures in
    (c.out_message_factor_from.ensures ∙ ap (λ (l : List Float). from_table l m) t ∙ from_table-is (given a.alpha a.beta a.regularised) (length a.out.now) m, t)
