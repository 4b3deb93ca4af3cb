-- `weights::read_line` meets its contract: a line is what its two numbers say.
use Rattle.std.proofs.Common.{arith}
use Rattle.std.proofs.lemmas.Result.{err_from_is_err_and}
use Rattle.weights.specs.Reading.{no_bale, falling, no_kilograms, no_weight, whole-line}
use Rattle.weights.proofs.read_line.Goals as goal

pub returns-in_err-bale : goal.returns-in_err-bale
returns-in_err-bale c =
    let p = err_from_is_err_and c.from_residual.result c.from_residual.ensures.1 in
    rw p.1 (no_bale _ _ _ c.if-csv-at.false (rw c.in_err-bale.ensures.ok_part at c.read_number.ensures))

pub returns-then-bale-next : goal.returns-then-bale-next
returns-then-bale-next c =
    falling _ _ _ c.if-csv-at.false _ (rw c.in_ok-bale.ensures.ok_part at c.read_number.ensures) c.if-bale-next.true

pub returns-in_err-kilograms : goal.returns-in_err-kilograms
returns-in_err-kilograms c =
    let p = err_from_is_err_and c.from_residual-in_err-kilograms.result c.from_residual-in_err-kilograms.ensures.1 in
    rw p.1
    (no_kilograms _ _ _ c.if-csv-at.false _ (rw c.in_ok-bale.ensures.ok_part at c.read_number.ensures)
    (rw c.in_err-kilograms.ensures.ok_part at c.read_number-2.ensures))

pub returns-then-kilograms-eq0 : goal.returns-then-kilograms-eq0
returns-then-kilograms-eq0 c =
    no_weight _ _ _ c.if-csv-at.false _ (rw c.in_ok-bale.ensures.ok_part at c.read_number.ensures) _
    (rw c.in_ok-kilograms.ensures.ok_part at c.read_number-2.ensures) c.if-bale-next.false c.if-kilograms-eq0.true

pub returns : goal.returns
returns c =
    whole-line _ _ _ c.if-csv-at.false _ (rw c.in_ok-bale.ensures.ok_part at c.read_number.ensures) _
    (rw c.in_ok-kilograms.ensures.ok_part at c.read_number-2.ensures) c.if-bale-next.false (omega (arith, c.if-kilograms-eq0.false))
