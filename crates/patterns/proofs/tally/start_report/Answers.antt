-- `tally::start_report` meets its contract.
use Rattle.std.proofs.Common.{ℕ, ◌+◌, ◌*◌, ◌<◌, List, length, set, arith, ap, ◌∙◌}
use Rattle.patterns.specs.Tally.{start-next}
use Rattle.patterns.proofs.tally.start_report.Goals as goal

pub loop-g-preserved : goal.loop-g-preserved
loop-g-preserved c =
    let g = c.loop-g.g in
    let n = c.args.patterns in
    let h : 3 * g + 2 < length c.args.report.now = omega arith in
    ap (λ (l : List ℕ). set (set (set l (3 * g) 0) (3 * g + 1) 0) (3 * g + 2) n) c.loop-g.invariant ∙ start-next c.args.report.now g n h
