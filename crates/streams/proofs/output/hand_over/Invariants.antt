-- `streams::output::hand_over` meets its contract: the first `done` bytes went, and a writer whose bytes are known holds them.
use Rattle.std.specs.Prelude.{◌-◌, length, take}
use Rattle.std.specs.Io.KnownBytes.{Appends}
use Rattle.streams.specs.Writes.{Handed}
use Rattle.streams.proofs.output.hand_over.Given as goal

abbrev pub invariant-loop-done : goal.invariant-loop-done
invariant-loop-done g l = Handed l.text l.done × Appends (g.W.Write.contents l.initial.to) (g.W.Write.contents l.to) (take l.done l.text)

abbrev pub decreases-loop-done : goal.decreases-loop-done
decreases-loop-done g l = length l.text - l.done
