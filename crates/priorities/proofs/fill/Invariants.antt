-- `priorities::fill` meets its contract: what is left to fill makes the whole.
use Rattle.std.proofs.Common.{◌≡◌, ◌-◌, ◌≤◌}
use Rattle.priorities.specs.Tournament.{fill_from}
use Rattle.priorities.proofs.fill.Given as goal

abbrev pub invariant-loop-j : goal.invariant-loop-j
invariant-loop-j l = (1 ≤ l.j) × (fill_from (l.j - 1) l.words ≡ fill_from (l.w - 1) l.initial.words)
