-- The tests of the tolerance, as branches on floats make them.
use Rattle.std.specs.Prelude.{◌≡◌, refl, true, false, Float}
use Rattle.std.proofs.Common.{sym, true≢false}
use Rattle.std.specs.Float.{nan, inf, fin}
use Rattle.std.specs.Float.Ieee.{lt}
use Rattle.definition.specs.Floats.{zeroᶠ}
use Rattle.definition.specs.Refusals.{bad_tolerance}

pub tolerance_negative : (x : Float) → lt x zeroᶠ ≡ true → true ≡ bad_tolerance x
unfolding bad_tolerance lt
tolerance_negative nan h = refl
tolerance_negative (inf s) h = refl
tolerance_negative (fin s m e) h = sym h

-- neither below 0 nor NaN nor infinite
pub tolerance_good : (x : Float) → lt x zeroᶠ ≡ false → lt x (inf false) ≡ true → false ≡ bad_tolerance x
unfolding bad_tolerance lt
tolerance_good nan h k = k
tolerance_good (inf true) h k = sym h
tolerance_good (inf false) h k = k
tolerance_good (fin s m e) h k = sym h

pub tolerance_large : (x : Float) → lt x (inf false) ≡ false → true ≡ bad_tolerance x
unfolding bad_tolerance lt
tolerance_large nan h = refl
tolerance_large (inf s) h = refl
tolerance_large (fin s m e) h = absurd (true≢false h)
