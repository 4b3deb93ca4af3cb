-- A row of pairs by its two columns: absent, present, absent, present and so on. A float that has no partner is not read.
use Rattle.std.specs.Prelude.{◌≡◌, refl, List, [], ◌∷◌, ℕ, zero, suc, ◌+◌, ◌*◌, ◌/◌, ◌<◌, length, take, drop, get_or, Float}
use Rattle.std.proofs.Common.{sym, ap, ◌∙◌, not-suc-le-zero, arith}
use Rattle.std.specs.Float.{nan}

double : (k : ℕ) → 2 * suc k ≡ suc (suc (2 * k))
double k = omega arith

-- ---- either column: which of a pair it takes
module _ (pick : Float → Float → Float) where
  abbrev pub column : List Float → List Float
  column [] = []
  column (a ∷ []) = []
  column (a ∷ b ∷ l) = pick a b ∷ column l

  pub length-column : (l : List Float) → length (column l) ≡ length l / 2
  length-column [] = refl
  length-column (a ∷ []) = refl
  length-column (a ∷ b ∷ l) = ap suc (length-column l) ∙ half_step (length l)
    where
      half_step : (n : ℕ) → suc (n / 2) ≡ suc (suc n) / 2
      half_step n = omega arith

  -- entry k
  pub column-at : (l : List Float) (k : ℕ) → 2 * k + 1 < length l → get_or (column l) k nan ≡ pick (get_or l (2 * k) nan) (get_or l (2 * k + 1) nan)
  column-at [] k h = absurd (not-suc-le-zero h)
  column-at (a ∷ []) k h = absurd (none k h)
    where
      none : (k : ℕ) → 2 * k + 1 < 1 → ⊥
      none k h = omega arith
  column-at (a ∷ b ∷ l) zero h = refl
  column-at (a ∷ b ∷ l) (suc k) h =
      column-at l k (less k (length l) h)
      ∙ ap (λ (n : ℕ). pick (get_or (a ∷ b ∷ l) n nan) (get_or l (2 * k + 1) nan)) (sym (double k))
      ∙ ap (λ (n : ℕ). pick (get_or (a ∷ b ∷ l) (2 * suc k) nan) (get_or (a ∷ b ∷ l) n nan)) (next k)
    where
      less : (k n : ℕ) → 2 * suc k + 1 < suc (suc n) → 2 * k + 1 < n
      less k n h = omega arith

      next : (k : ℕ) → suc (suc (2 * k + 1)) ≡ 2 * suc k + 1
      next k = omega arith

  -- k pairs taken or left out
  pub column-take : (k : ℕ) (l : List Float) → column (take (2 * k) l) ≡ take k (column l)
  column-take zero l = refl
  column-take (suc k) [] = ap (λ (n : ℕ). column (take n [])) (double k)
  column-take (suc k) (a ∷ []) = ap (λ (n : ℕ). column (take n (a ∷ []))) (double k)
  column-take (suc k) (a ∷ b ∷ l) = ap (λ (n : ℕ). column (take n (a ∷ b ∷ l))) (double k) ∙ ap {B = List Float} (λ r. pick a b ∷ r) (column-take k l)

  drop-none : (k : ℕ) → drop {A = Float} k [] ≡ []
  drop-none zero = refl
  drop-none (suc k) = refl

  pub column-drop : (k : ℕ) (l : List Float) → column (drop (2 * k) l) ≡ drop k (column l)
  column-drop zero l = refl
  column-drop (suc k) [] = ap (λ (n : ℕ). column (drop n [])) (double k)
  column-drop (suc k) (a ∷ []) = ap (λ (n : ℕ). column (drop n (a ∷ []))) (double k) ∙ ap column (drop-none (suc (2 * k)))
  column-drop (suc k) (a ∷ b ∷ l) = ap (λ (n : ℕ). column (drop n (a ∷ b ∷ l))) (double k) ∙ column-drop k l

-- ---- the two
abbrev pub absent : Float → Float → Float
absent a b = a

abbrev pub present : Float → Float → Float
present a b = b

abbrev pub absents : List Float → List Float
absents = column absent

abbrev pub presents : List Float → List Float
presents = column present
