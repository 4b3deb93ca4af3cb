-- `bale_file::fields::over_16384` meets its contract.
use lib.Ieee.{of_bits}
use Rattle.bale_file.specs.Fractions.{over_16384}
use Rattle.bale_file.proofs.fields.over_16384.Goals as goal

pub returns : goal.returns
unfolding of_bits
returns c = over_16384 c.args.n c.requires
