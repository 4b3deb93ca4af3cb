-- `depot::csv::take_read` meets its contract.
use Rattle.std.specs.Prelude.{ℕ, ◌+◌}
use Rattle.std.proofs.Common.{sym, ap}
use Rattle.depot.specs.LinesHeld.{counted-read}
use Rattle.depot.proofs.csv.take_read.Goals as goal

pub returns : goal.returns
returns c bs e =
    let n = c.count-n in
    counted-read bs c.args.got c.args.buffer.now n.result n.ensures.value n.ensures.within _
    (ap (λ (m : ℕ). m + n.result) (sym e)) c.phase_after-phase.ensures
