-- A loop that replaces each entry x of a slice by g x, in place: after i turns the slice is `mapped g i` of what it was.
use Rattle.std.specs.Prelude.{◌≡◌, refl, List, [], ◌∷◌, map, ℕ, zero, suc, ◌+◌, ◌≤◌, ◌<◌, length, get_or, set}
use Rattle.std.proofs.Common.{sym, ap, subst, ◌∙◌, not-suc-le-zero, le_of_suc-le-suc, add-one}

module _ {A : Type 0} where
  -- the first i entries are replaced
  abbrev pub mapped : (A → A) → ℕ → List A → List A
  mapped g zero xs = xs
  mapped g (suc i) [] = []
  mapped g (suc i) (x ∷ xs) = g x ∷ mapped g i xs

  -- entry i is still as it was
  pub mapped_get : (g : A → A) (i : ℕ) (xs : List A) (d : A) → get_or (mapped g i xs) i d ≡ get_or xs i d
  mapped_get g zero xs d = refl
  mapped_get g (suc i) [] d = refl
  mapped_get g (suc i) (x ∷ xs) d = mapped_get g i xs d

  pub mapped-set : (g : A → A) (i : ℕ) (xs : List A) (d : A) → i < length xs → set (mapped g i xs) i (g (get_or xs i d)) ≡ mapped g (suc i) xs
  mapped-set g i [] d h = absurd (not-suc-le-zero h)
  mapped-set g zero (x ∷ xs) d h = refl
  mapped-set g (suc i) (x ∷ xs) d h = ap (◌∷◌ (g x)) (mapped-set g i xs d (le_of_suc-le-suc h))

  -- the step, as a loop has it: entry i of the slice as it is now
  pub mapped_step : (g : A → A) (i : ℕ) (xs : List A) (d : A) → i < length xs → set (mapped g i xs) i (g (get_or (mapped g i xs) i d)) ≡ mapped g (suc i) xs
  mapped_step g i xs d h = ap (λ (y : A). set (mapped g i xs) i (g y)) (mapped_get g i xs d) ∙ mapped-set g i xs d h

  pub mapped-all : (g : A → A) (i : ℕ) (xs : List A) → length xs ≤ i → mapped g i xs ≡ map g xs
  mapped-all g zero [] h = refl
  mapped-all g zero (x ∷ xs) h = absurd (not-suc-le-zero h)
  mapped-all g (suc i) [] h = refl
  mapped-all g (suc i) (x ∷ xs) h = ap (◌∷◌ (g x)) (mapped-all g i xs (le_of_suc-le-suc h))

  -- the same where the slice a is known to be the mapped one, and v to be what is stored: what a loop's proof cites
  pub mapped-turn : (g : A → A) (xs a : List A) (i : ℕ) (d v : A) → i < length a → length a ≡ length xs → a ≡ mapped g i xs → v ≡ g (get_or a i d) → set a i v ≡ mapped g (i + 1) xs
  mapped-turn g xs a i d v h l e r =
      ap (set a i) r
      ∙ ap (λ (b : List A). set b i (g (get_or b i d))) e
      ∙ mapped_step g i xs d (subst (λ (n : ℕ). i < n) l h)
      ∙ ap (λ (n : ℕ). mapped g n xs) (sym (add-one i))
