-- What a call of C answered, stored in 64 bits and read again.
use Rattle.std.specs.Prelude.{ℕ, ◌^◌, ◌<◌, ◌≡◌, Bool, ℤ, pos}
use Rattle.std.proofs.Common.{sym, ap, subst, ◌∙◌, to_z, of_z, to_z-of_z}
use Rattle.std.specs.Int.Signed.{mag, lt_z}
use Rattle.std.specs.Int.{w64}
use Rattle.io.specs.Counts.{clamp_len}

module _ (z : ℤ) (small : mag z < 2 ^ 63) where
  pub answer-kept : to_z w64 (of_z w64 z) ≡ z
  answer-kept = to_z-of_z {w = w64} {z = z} (record { sfits = small })

  -- what holds of the one holds of the other
  pub stored_as : (P : ℤ → Type 0) → P (to_z w64 (of_z w64 z)) → P z
  stored_as P h = subst P answer-kept h

  pub counted-as : (n k : ℕ) → k ≡ clamp_len (to_z w64 (of_z w64 z)) n → k ≡ clamp_len z n
  counted-as n k e = e ∙ ap (λ (y : ℤ). clamp_len y n) answer-kept

  pub negative_as : (b : Bool) → lt_z (to_z w64 (of_z w64 z)) (pos 0) ≡ b → lt_z z (pos 0) ≡ b
  negative_as b e = sym (ap (λ (y : ℤ). lt_z y (pos 0)) answer-kept) ∙ e
