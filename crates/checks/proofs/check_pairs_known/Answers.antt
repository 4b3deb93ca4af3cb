-- `checks::check_pairs_known` meets its contract. The loop's invariant: no pair before this one fails.
use Rattle.std.proofs.Common.{◌<◌, map, length, arith, sym, ◌∙◌}
use Rattle.definition.specs.Refusals.{pairs_of, bale_of, unknown_pair}
use Rattle.checks.specs.Tests.{known_count}
use Rattle.checks.specs.Searching.{reached_first, reached_next, reached_here, reached_end}
use Rattle.checks.proofs.check_pairs_known.Goals as goal

pub loop-pair-init : goal.loop-pair-init
loop-pair-init c = reached_first _

pub returns-then-is_unknown_pair : goal.returns-then-is_unknown_pair
returns-then-is_unknown_pair c =
    let a = c.args in
    let l = known_count a.grades a.evidence.now a.pairs.now in
    reached_here _ c.loop-pair.pair (omega (arith, l)) (sym c.is_unknown_pair.ensures ∙ c.if-is_unknown_pair.true) c.loop-pair.invariant

pub loop-pair-preserved : goal.loop-pair-preserved
loop-pair-preserved c =
    let a = c.args in
    let n = known_count a.grades a.evidence.now a.pairs.now in
    let l : c.loop-pair.pair < length (map (unknown_pair (bale_of a.grades a.evidence.now a.pairs.now)) (pairs_of a.pairs.now)) = omega (arith, n) in
    reached_next _ c.loop-pair.pair l (sym c.is_unknown_pair.ensures ∙ c.if-is_unknown_pair.false) c.loop-pair.invariant

pub returns : goal.returns
returns c = let a = c.args in reached_end _ c.loop-pair.pair (omega (arith, known_count a.grades a.evidence.now a.pairs.now)) c.loop-pair.invariant
