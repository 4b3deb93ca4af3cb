-- `tally::count_beliefs` meets its contract. What is left to tally comes to the same, and may be moved.
use Rattle.std.proofs.Common.{◌-◌, ◌*◌, ◌≡◌, drop}
use Rattle.patterns.specs.Tally.{Movable, tallied}
use Rattle.patterns.proofs.tally.count_beliefs.Given as goal

abbrev pub invariant-loop-i : goal.invariant-loop-i
invariant-loop-i l =
    let ns = drop l.i l.numbers in
    let fs = drop (2 * l.i) l.floats in
    Movable (l.count - l.i) ns fs l.report × (tallied (l.count - l.i) ns fs l.report ≡ tallied l.count l.numbers l.floats l.initial.report)
