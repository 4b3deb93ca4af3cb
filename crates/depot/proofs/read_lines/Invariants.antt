-- `depot::read_lines` meets its contract: what stands at the front of the text came by calls of `read`, each because there was more to read.
use Rattle.std.specs.Prelude.{◌≡◌, length}
use Rattle.streams.specs.Input.{to_read}
use Rattle.depot.specs.Lines.{Going}
use Rattle.depot.proofs.read_lines.Given as goal

abbrev pub invariant-loop-at : goal.invariant-loop-at
invariant-loop-at g l = Going (g.R.Read.remaining l.initial.from) (g.R.Read.remaining l.from) l.lines l.text × (length l.text ≡ 165546)

abbrev pub decreases-loop-at : goal.decreases-loop-at
decreases-loop-at g l = to_read l.lines.phase l.lines.len
