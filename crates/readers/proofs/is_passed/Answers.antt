-- `readers::is_passed` meets its contract. The two tests decide `is_passed`.
use Rattle.std.proofs.Common.{eq-eqb}
use Rattle.readers.specs.Scan.{passed_slice}
use Rattle.readers.proofs.is_passed.Goals as goal

pub returns-else-marks-j-ne0 : goal.returns-else-marks-j-ne0
returns-else-marks-j-ne0 c = rw (passed_slice _ _ _ _ _ c.requires.1, eq-eqb _ _ c.if-marks-j-ne0.false) c.is_long_before.ensures
