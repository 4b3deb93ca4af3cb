-- `check::check_settings` meets its contract. The loop's invariant: no number before i is outside.
use Rattle.std.proofs.Common.{ℕ, ◌*◌, ◌/◌, ◌<◌, ◌≡◌, Bool, List, length, take, length-take-le, get_or, arith, sym, ap, ◌∙◌}
use Rattle.std.proofs.Math.Bool.{false}
use Rattle.std.proofs.lemmas.List.{get_or-take}
use Rattle.definition.specs.Refusals.{lowest_place}
use Rattle.definition.specs.Trials.{outside_range}
use Rattle.checks.specs.Searching.{reached_first, reached_next, reached_here, reached_end}
use Rattle.trials.specs.Each.{length-settings}
use Rattle.trials.specs.Checked.{tests, tests_are, tests-length, test_at}
use Rattle.trials.proofs.check.check_settings.Goals as goal

-- the number that is looked at, and whether it is outside
inside : (ns : List ℕ) (i : ℕ) → i < length (take (3 * (length ns / 3)) ns) → i < 3 * (length ns / 3)
inside ns i l = omega (arith, length-take-le (3 * (length ns / 3)) ns (omega arith))

tested :
    (ns : List ℕ) (i : ℕ) (b d : Bool) → i < length (take (3 * (length ns / 3)) ns) → b ≡ outside_range (get_or (take (3 * (length ns / 3)) ns) i 0) → b ≡ d →
    get_or (tests ns) i false ≡ d
tested ns i b d l e q =
    test_at ns i (inside ns i l) ∙ sym (ap outside_range (get_or-take (3 * (length ns / 3)) ns i 0 (inside ns i l))) ∙ sym e ∙ q

pub loop-i-init : goal.loop-i-init
loop-i-init c = reached_first _

pub overflow_cast-result : goal.overflow_cast-result
overflow_cast-result c = omega (arith, inside c.args.settings.now c.loop-i.i c.loop-i-test.true, c.requires, length-settings c.args.settings.now)

pub returns-then-is_outside : goal.returns-then-is_outside
returns-then-is_outside c =
    let ns = c.args.settings.now in
    reached_here (tests ns) c.loop-i.i (omega (arith, inside ns c.loop-i.i c.loop-i-test.true, tests-length ns))
    (tested ns c.loop-i.i _ _ c.loop-i-test.true c.is_outside.ensures c.if-is_outside.true) c.loop-i.invariant
    ∙ ap lowest_place (sym (tests_are ns))

pub loop-i-preserved : goal.loop-i-preserved
loop-i-preserved c =
    let ns = c.args.settings.now in
    reached_next (tests ns) c.loop-i.i (omega (arith, inside ns c.loop-i.i c.loop-i-test.true, tests-length ns))
    (tested ns c.loop-i.i _ _ c.loop-i-test.true c.is_outside.ensures c.if-is_outside.false) c.loop-i.invariant

pub returns : goal.returns
returns c =
    let ns = c.args.settings.now in
    let n = length-take-le (3 * (length ns / 3)) ns (omega arith) in
    reached_end (tests ns) c.loop-i.i (omega (arith, n, tests-length ns)) c.loop-i.invariant ∙ ap lowest_place (sym (tests_are ns))
