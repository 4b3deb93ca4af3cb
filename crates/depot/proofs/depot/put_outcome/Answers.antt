-- `depot::depot::put_outcome` meets its contract.
use Rattle.std.specs.Prelude.{◌<◌, ◌^◌}
use Rattle.std.proofs.Common.{rules, arith, sym, ◌∙◌}
use Rattle.definition.specs.Tonnage.{weighing_lines}
use Rattle.listing.specs.Sizes.{refusal-short}
use Rattle.depot.specs.Held.{outcome_put}
use Rattle.depot.proofs.depot.put_outcome.Goals as goal

pub put_refusal-requires : goal.put_refusal-requires
put_refusal-requires c =
    let n : c.number.result < 2 ^ 32 = search rules in
    let l : c.into.result < 2 ^ 64 = search rules in
    omega (arith, refusal-short c.number.result c.into.result n l, c.requires)

pub returns-in-Ok : goal.returns-in-Ok
unfolding weighing_lines
returns-in-Ok c =
    let settled = sym c.is_settled.ensures ∙ c.if-not-is_settled.false in
    outcome_put c.args.depot c.args.sums.now c.outcome_of.result settled c.outcome_of.ensures _ c.in-Ok.is c.args.out.now _ _ c.put_totals.ensures

pub returns-in-Err : goal.returns-in-Err
unfolding weighing_lines
returns-in-Err c =
    let settled = sym c.is_settled.ensures ∙ c.if-not-is_settled.false in
    let put = rw (c.number.ensures, c.into.ensures) at c.put_refusal.ensures in
    outcome_put c.args.depot c.args.sums.now c.outcome_of.result settled c.outcome_of.ensures _ c.in-Err.is c.args.out.now _ _ put
