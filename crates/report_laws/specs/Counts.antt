-- How many things of a list pass a test; lists one after the other.
use Rattle.std.specs.Prelude.{ℕ, ◌+◌, ◌≤◌, ◌≡◌, Bool, true, false, List, [], ◌∷◌, ◌++◌, map, length}
use Rattle.std.proofs.Common.{arith, ap, ◌∙◌, length-append}
use Rattle.std.proofs.lemmas.List.{length-map}
use Rattle.definition.specs.Lists.{cons_if, filter, how_many, concat}
use Rattle.graph_laws.specs.Lists.{concat_append, filter_append, filter_map, append_none}

abbrev pub one_if : Bool → ℕ
one_if true = 1
one_if false = 0

pub one_small : (b : Bool) → one_if b ≤ 1
one_small true = omega arith
one_small false = omega arith

module _ {A : Type 0} (p : A → Bool) where
  one_more_lem : (b : Bool) (x : A) (xs : List A) → length (cons_if b x xs) ≡ one_if b + length xs
  one_more_lem true x xs = omega arith
  one_more_lem false x xs = omega arith

  pub count_cons : (x : A) (xs : List A) → how_many p (x ∷ xs) ≡ one_if (p x) + how_many p xs
  count_cons x xs = one_more_lem (p x) x (filter p xs)

  pub count_append : (xs ys : List A) → how_many p (xs ++ ys) ≡ how_many p xs + how_many p ys
  count_append xs ys = ap length (filter_append p xs ys) ∙ length-append (filter p xs) (filter p ys)

  pub count_snoc : (xs : List A) (x : A) → how_many p (xs ++ x ∷ []) ≡ how_many p xs + one_if (p x)
  count_snoc xs x = omega (arith, count_append xs (x ∷ []), count_cons x [])

  pub count_le : (xs : List A) → how_many p xs ≤ length xs
  count_le [] = omega arith
  count_le (x ∷ xs) = omega (arith, count_cons x xs, count_le xs, one_small (p x))

-- those of a list that is made of another
pub count_map : {A B : Type 0} (h : A → B) (p : B → Bool) (xs : List A) → how_many p (map h xs) ≡ how_many (λ a. p (h a)) xs
count_map h p xs = ap length (filter_map h p xs) ∙ length-map (filter (λ a. p (h a)) xs) h

-- one list more
pub concat_snoc : {A : Type 0} (xs : List (List A)) (x : List A) → concat (xs ++ x ∷ []) ≡ concat xs ++ x
concat_snoc xs x = concat_append xs (x ∷ []) ∙ ap (λ l. concat xs ++ l) (append_none x)
