-- Whole numbers over 1,024 and over 16,384, as the code divides them; and evidence with a base rate taken out, as the code multiplies it.
use Rattle.std.specs.Prelude.{ℕ, ◌-◌, ◌≤◌, ◌<◌, ◌≡◌, refl, false, pos, Float}
use Rattle.std.proofs.Common.{arith, sym, ap, ◌∙◌, lit≤}
use Rattle.std.proofs.Math.Option.{none, some}
use Rattle.std.specs.Float.{fin}
use Rattle.std.specs.Float.Ieee.{of_int}
use Rattle.definition.specs.Floats.{◌⊗◌, ◌⊘◌, of_nat, ratio}
use Rattle.definition.specs.BaleFile.{bits, evidence_of}
use Rattle.float_laws.specs.Whole.{whole-over, ratios_times}

thousand : of_nat 1024 ≡ fin false 1 (pos 10)
unfolding of_int
thousand = refl

sixteen_thousand : of_nat 16384 ≡ fin false 1 (pos 14)
unfolding of_int
sixteen_thousand = refl

pub over_1024 : (n : ℕ) → n ≤ 1024 → of_nat n ⊘ fin false 1 (pos 10) ≡ ratio n 1024
over_1024 n l = ap (λ (s : Float). of_nat n ⊘ s) (sym thousand) ∙ whole-over n 1023 (omega arith) (lit≤ tt)

pub over_16384 : (n : ℕ) → n < 32768 → of_nat n ⊘ fin false 1 (pos 14) ≡ ratio n 16384
over_16384 n l = ap (λ (s : Float). of_nat n ⊘ s) (sym sixteen_thousand) ∙ whole-over n 16383 (omega arith) (lit≤ tt)

-- ---- bare evidence times a rate

read_short : (w : ℕ) → bits 15 0 w < 32768
unfolding bits
read_short w = omega arith

module _ (b w : ℕ) (l : b ≤ 1024) where
  pub absent_based : (evidence_of none w).absent ⊗ ratio b 1024 ≡ (evidence_of (some b) w).absent
  unfolding evidence_of
  absent_based = ratios_times (16384 - bits 15 0 w) b 14 10 (omega arith) (omega arith) (lit≤ tt) (lit≤ tt)

  pub present_based : (evidence_of none w).present ⊗ ratio (1024 - b) 1024 ≡ (evidence_of (some b) w).present
  unfolding evidence_of
  present_based = ratios_times (bits 15 0 w) (1024 - b) 14 10 (omega (arith, read_short w)) (omega arith) (lit≤ tt) (lit≤ tt)
