-- `tally::begin` meets its contract.
use native.Mathlib.Omega.{arith}
use Rattle.tonnage.specs.Tallies.{upto-none, stands_next}
use Rattle.tonnage.proofs.tally.begin.Goals as goal

pub returns : goal.returns
returns c =
    let u = upto-none c.args.csv.now in
    record { stands = stands_next _ _ _ _ _ _ u c.standing_at-standing.result c.standing_at-standing.ensures (omega arith); long = u.long }
