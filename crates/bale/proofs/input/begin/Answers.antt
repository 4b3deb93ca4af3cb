-- `bale::input::begin` meets its contract.
use Rattle.std.specs.Prelude.{refl}
use Rattle.bale.proofs.input.begin.Goals as goal

pub returns : goal.returns
returns c ms ps m p = record { phase = refl; taken = c.begin-input.ensures ms ps m p }
