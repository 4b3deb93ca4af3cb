-- Entries in twos: how many things they are, and of which entries each is.
use Rattle.std.specs.Prelude.{ℕ, zero, suc, ◌+◌, ◌*◌, ◌/◌, ◌<◌, ◌≡◌, refl, List, [], ◌∷◌, length, get_or}
use Rattle.std.proofs.Common.{arith, ap, ◌∙◌}
use Rattle.definition.specs.Lists.{twos}

module _ {A B : Type 0} (f : A → A → B) where
  pub length-twos : (l : List A) → length (twos f l) ≡ length l / 2
  length-twos [] = omega arith
  length-twos (x ∷ []) = omega arith
  length-twos (x ∷ y ∷ l) = omega (arith, length-twos l)

  pub twos-at : (l : List A) (i : ℕ) (d : A) (e : B) → i < length l / 2 → get_or (twos f l) i e ≡ f (get_or l (2 * i) d) (get_or l (2 * i + 1) d)
  twos-at [] i d e h = absurd (let z : ⊥ = omega arith in z)
  twos-at (x ∷ []) i d e h = absurd (let z : ⊥ = omega arith in z)
  twos-at (x ∷ y ∷ l) zero d e h = refl
  twos-at (x ∷ y ∷ l) (suc i) d e h =
      let even : suc (suc (2 * i)) ≡ 2 * suc i = omega arith in
      let uneven : suc (suc (2 * i + 1)) ≡ 2 * suc i + 1 = omega arith in
      twos-at l i d e (omega arith)
      ∙ ap (λ (k : ℕ). f (get_or (x ∷ y ∷ l) k d) (get_or l (2 * i + 1) d)) even
      ∙ ap (λ (k : ℕ). f (get_or (x ∷ y ∷ l) (2 * suc i) d) (get_or (x ∷ y ∷ l) k d)) uneven
