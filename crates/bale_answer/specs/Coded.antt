-- The call with the settings of the words of kinds 1 and 2, as the code gives it.
use Rattle.std.specs.Prelude.{ℕ, ◌≡◌, refl, Bool, List, eqb, Float}
use Rattle.std.proofs.Common.{◌∙◌}
use Rattle.std.specs.Float.{binary32}
use Rattle.std.specs.Float.Ieee.{of_bits, round}
use Rattle.definition.specs.Floats.{ratio}
use Rattle.definition.specs.Settings.{Settings, settings_of}
use Rattle.definition.specs.Call.{Lent, Result, call}
use Rattle.definition.specs.BaleFile.{bits, coded_settings}

-- 1002740646 being the bits of the tolerance
tolerance_is : of_bits binary32 1002740646 ≡ ratio 6 1000
unfolding of_bits round
tolerance_is = refl

pub settings_are :
    (r p : ℕ) (alpha beta prior : Float) (regularised : Bool) →
    alpha ≡ ratio (bits 20 10 r) 1024 → beta ≡ ratio (bits 10 0 r) 1024 → prior ≡ ratio (bits 10 0 p) 1024 → regularised ≡ eqb (bits 11 10 p) 1 →
    settings_of alpha beta prior regularised (of_bits binary32 1002740646) 10000 ≡ coded_settings r p
settings_are r p alpha beta prior regularised a b q g = λ i. settings_of (a i) (b i) (q i) (g i) (tolerance_is i) 10000

pub same-call :
    (s t : Settings) (g h : ℕ) (es : List Float) (ps : List ℕ) (l : Lent) (x : Result) → s ≡ t → g ≡ h → x ≡ call s g es ps l → x ≡ call t h es ps l
same-call s t g h es ps l x p q e = e ∙ (λ i. call (p i) (q i) es ps l)
