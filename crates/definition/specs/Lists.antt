-- Lists: runs of numbers, choosing, entries in twos, all patterns, and where a thing stands. `eq` is the test by which two things are the same.
use Rattle.std.specs.Prelude.{ℕ, zero, suc, Bool, true, false, cond, ◌||◌, List, [], ◌∷◌, ◌++◌, map, length}

-- n numbers, from i on
abbrev pub range : ℕ → ℕ → List ℕ
range i zero = []
range i (suc n) = i ∷ range (suc i) n

module _ {A : Type 0} where
  -- x before r, or r alone
  abbrev pub cons_if : Bool → A → List A → List A
  cons_if true x r = x ∷ r
  cons_if false x r = r

  -- the things that pass a test, in their order
  abbrev pub filter : (A → Bool) → List A → List A
  filter f [] = []
  filter f (x ∷ xs) = cons_if (f x) x (filter f xs)

  -- how many do
  abbrev pub how_many : (A → Bool) → List A → ℕ
  how_many f xs = length (filter f xs)

  -- one list after the other
  abbrev pub concat : List (List A) → List A
  concat [] = []
  concat (x ∷ xs) = x ++ concat xs

-- one thing of each two entries; an odd last entry is not read
module _ {A B : Type 0} (f : A → A → B) where
  abbrev pub twos : List A → List B
  twos [] = []
  twos (x ∷ []) = []
  twos (x ∷ y ∷ l) = f x y ∷ twos l

-- every list of n Booleans, once: those that begin with false, then those that begin with true
unfoldable pub patterns : ℕ → List (List Bool)
patterns zero = [] ∷ []
patterns (suc n) = map (λ (p : List Bool). false ∷ p) (patterns n) ++ map (λ (p : List Bool). true ∷ p) (patterns n)

module _ {A : Type 0} (eq : A → A → Bool) where
  -- whether a stands in the list, and at which place first
  abbrev pub mem : A → List A → Bool
  mem a [] = false
  mem a (x ∷ xs) = eq a x || mem a xs

  abbrev pub index_of : A → List A → ℕ
  index_of a [] = zero
  index_of a (x ∷ xs) = cond (eq a x) zero (suc (index_of a xs))
