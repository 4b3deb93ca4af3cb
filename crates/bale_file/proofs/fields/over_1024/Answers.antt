-- `bale_file::fields::over_1024` meets its contract.
use lib.Ieee.{of_bits}
use Rattle.bale_file.specs.Fractions.{over_1024}
use Rattle.bale_file.proofs.fields.over_1024.Goals as goal

pub returns : goal.returns
unfolding of_bits
returns c = over_1024 c.args.n c.requires
