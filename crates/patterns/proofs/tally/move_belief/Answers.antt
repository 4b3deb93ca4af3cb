-- `tally::move_belief` meets its contract.
use Rattle.std.proofs.Common.{ℕ, ◌+◌, ◌-◌, ◌*◌, get_or, set, ap, ◌∙◌}
use Rattle.patterns.specs.Tally.{side_is, moved}
use Rattle.patterns.proofs.tally.move_belief.Goals as goal

pub returns : goal.returns
unfolding moved
returns c =
    let r = c.args.report.now in
    let g = c.args.grade in
    ap (λ (n : ℕ). let x = set r (3 * g + n) (get_or r (3 * g + n) 0 + 1) in set x (3 * g + 2) (get_or x (3 * g + 2) 0 - 1))
    (c.from.ensures ∙ side_is c.args.above)
