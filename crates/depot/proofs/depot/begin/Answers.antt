-- `depot::depot::begin` meets its contract.
use Rattle.std.specs.Prelude.{refl}
use Rattle.tonnage.specs.Pieces.{weighs_none}
use Rattle.depot.proofs.depot.begin.Goals as goal

pub returns : goal.returns
returns c ms ps m p =
    record { phase = refl; counted = refl; weighs = weighs_none _ _ _ ms ps _ refl c.begin-tally.ensures (c.begin-input.ensures ms ps m p) }
