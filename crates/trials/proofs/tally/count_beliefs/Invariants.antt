-- `tally::count_beliefs` meets its contract. The loop's invariant: the first i beliefs are counted.
use Rattle.std.proofs.Common.{◌+◌, ◌≡◌}
use Rattle.definition.specs.Lists.{how_many}
use Rattle.definition.specs.Trials.{agrees, differs}
use Rattle.trials.specs.Tally.{judged_to}
use Rattle.trials.proofs.tally.count_beliefs.Given as goal

abbrev pub invariant-loop-i : goal.invariant-loop-i
invariant-loop-i l =
    (l.tally.agreed ≡ l.initial.tally.agreed + how_many agrees (judged_to l.i l.numbers l.floats l.drawn))
    × (l.tally.differed ≡ l.initial.tally.differed + how_many differs (judged_to l.i l.numbers l.floats l.drawn))
