-- `readers::is_open` meets its contract. The four tests decide `is_open`.
use Prim.Native.Nat.{◌+◌, ◌*◌, ◌<◌, ◌≤◌}
use mathlib.Core.Path.{◌≡◌, sym, ◌∙◌}
use mathlib.Core.Bool.{and-false}
use borrow.Author.Tests.{eq-eqb, ne_eqb, lt-leb, le-leb, ltb-true, ltb-false}
use lib.Dec.{eqb}
use lib.ListN.{get_or}
use Rattle.readers.specs.Scan.{open_slice, not_beyond}
use Rattle.readers.proofs.is_open.Goals as goal

pub returns-then-lower-j : goal.returns-then-lower-j
returns-then-lower-j c =
    let a = c.args in
    let d : a.marker ≡ get_or a.lower.now (2 * a.j + 1) 0 → ⊥ = λ e. c.if-lower-j.true (sym e) in
    rw (open_slice _ _ _ _ _ _ c.requires.1, ne_eqb _ _ d) (sym (and-false (eqb (get_or a.marks.now a.j 0) 0)))

pub returns-then-marks-j-ne0 : goal.returns-then-marks-j-ne0
returns-then-marks-j-ne0 c = rw (open_slice _ _ _ _ _ _ c.requires.1, ne_eqb _ _ c.if-marks-j-ne0.true)

pub returns-then-is_long_before : goal.returns-then-is_long_before
returns-then-is_long_before c =
    let a = c.args in
    let l : get_or a.lower.now (2 * a.j) 0 + a.window < a.tick = ltb-true _ _ (sym c.is_long_before.ensures ∙ c.if-is_long_before.true) in
    rw (open_slice _ _ _ _ _ _ c.requires.1, eq-eqb _ _ c.if-marks-j-ne0.false, eq-eqb _ _ (sym c.if-lower-j.false), lt-leb _ _ l)

pub returns : goal.returns
returns c =
    let a = c.args in
    let l : a.tick ≤ get_or a.lower.now (2 * a.j) 0 + a.window = ltb-false _ _ (sym c.is_long_before.ensures ∙ c.if-is_long_before.false) in
    rw (open_slice _ _ _ _ _ _ c.requires.1, eq-eqb _ _ c.if-marks-j-ne0.false, eq-eqb _ _ (sym c.if-lower-j.false), le-leb _ _ l)
    (not_beyond _ (a.tick + a.window) (get_or a.lower.now (2 * a.j) 0) c.is_long_before-2.ensures)
