-- A slice that begins with a list.
use Rattle.std.specs.Prelude.{◌≡◌, refl, List, ◌++◌, ℕ, ◌≤◌, length, take, drop}
use Rattle.std.proofs.Common.{sym, ap, ◌∙◌, append_assoc, arith, length-append, take-append-drop, take_at, drop_at}
use Rattle.definition.specs.Call.{overwrite}

module _ {A : Type 0} where
  abbrev pub Begins : List A → List A → Type 0
  Begins xs l = take (length xs) l ≡ xs

  pub begins_split : (xs l : List A) → Begins xs l → l ≡ xs ++ drop (length xs) l
  begins_split xs l h = sym (take-append-drop (length xs) l) ∙ ap (λ (r : List A). r ++ drop (length xs) l) h

  pub begins-long : (xs l : List A) → Begins xs l → length xs ≤ length l
  begins-long xs l h = omega (arith, ap length (begins_split xs l h), length-append xs (drop (length xs) l))

  -- one list, and then another
  both : (xs ys l : List A) → Begins (xs ++ ys) l → l ≡ xs ++ (ys ++ drop (length (xs ++ ys)) l)
  both xs ys l h = begins_split (xs ++ ys) l h ∙ append_assoc xs ys (drop (length (xs ++ ys)) l)

  pub begins-first : (xs ys l : List A) (n : ℕ) → length xs ≡ n → Begins (xs ++ ys) l → take n l ≡ xs
  begins-first xs ys l n e h = ap (take n) (both xs ys l h) ∙ take_at xs (ys ++ drop (length (xs ++ ys)) l) n e

  pub begins-rest : (xs ys l : List A) (n : ℕ) → length xs ≡ n → Begins (xs ++ ys) l → Begins ys (drop n l)
  begins-rest xs ys l n e h =
      ap (λ (r : List A). take (length ys) (drop n r)) (both xs ys l h)
      ∙ ap (take (length ys)) (drop_at xs (ys ++ drop (length (xs ++ ys)) l) n e)
      ∙ take_at ys (drop (length (xs ++ ys)) l) (length ys) refl

  -- a list written over the front of another
  pub begins_overwritten : (xs l : List A) → Begins xs (overwrite xs l)
  begins_overwritten xs l = take_at xs (drop (length xs) l) (length xs) refl

  -- n entries of it were: they fit, and are read back
  module _ (xs l k : List A) (n : ℕ) (e : (k ≡ overwrite xs l) × (n ≡ length xs)) where
    begins : Begins xs k
    begins = rw e.0 (begins_overwritten xs l)

    pub front_fits : n ≤ length k
    front_fits = omega (arith, e.1, begins-long xs k begins)

    pub front-is : take n k ≡ xs
    front-is = rw e.1 begins
