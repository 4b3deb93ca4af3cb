-- The patterns of n Booleans: how many of a list pass a test, and that there are 2 ^ n patterns, each list of n Booleans once.
use Rattle.std.specs.Prelude.{ℕ, zero, suc, ◌+◌, ◌^◌, ◌≡◌, refl, Bool, true, false, List, [], ◌∷◌, ◌++◌, map, length}
use Rattle.std.proofs.Common.{arith, ap, ◌∙◌, length-append}
use Rattle.std.proofs.lemmas.List.{length-map}
use Rattle.definition.specs.Lists.{filter, how_many, patterns}
use Rattle.claims.specs.Patterns.{same_pattern, PatternsEachOnce}
use Rattle.graph_laws.specs.Lengths.{double}
use Rattle.graph_laws.specs.Lists.{All-every, filter_append, filter_map, filter_none}

-- ---- how many pass, of two lists, of a mapped one, and of none

module _ {A : Type 0} (f : A → Bool) where
  how_many_append : (xs ys : List A) → how_many f (xs ++ ys) ≡ how_many f xs + how_many f ys
  how_many_append xs ys = ap length (filter_append f xs ys) ∙ length-append (filter f xs) (filter f ys)

  how_many-none : (xs : List A) → ((x : A) → f x ≡ false) → how_many f xs ≡ 0
  how_many-none xs h = ap length (filter_none f xs (All-every (λ x. f x ≡ false) h xs))

how_many-map : {A B : Type 0} (f : B → Bool) (h : A → B) (xs : List A) → how_many f (map h xs) ≡ how_many (λ x. f (h x)) xs
how_many-map f h xs = ap length (filter_map h f xs) ∙ length-map (filter (λ x. f (h x)) xs) h

-- ---- the patterns

abbrev begun : Bool → ℕ → List (List Bool)
begun b n = map (λ (p : List Bool). b ∷ p) (patterns n)

pub length-patterns : (n : ℕ) → length (patterns n) ≡ 2 ^ n
unfolding patterns
length-patterns zero = refl
length-patterns (suc n) = simp (length-append, length-map) (omega (arith, length-patterns n, double n))

-- those that begin with false, and those that begin with true
pub passing : (f : List Bool → Bool) (n : ℕ)
    → how_many f (patterns (suc n)) ≡ how_many (λ (p : List Bool). f (false ∷ p)) (patterns n) + how_many (λ (p : List Bool). f (true ∷ p)) (patterns n)
unfolding patterns
passing f n =
    how_many_append f (begun false n) (begun true n)
    ∙ (λ i. how_many-map f (λ (p : List Bool). false ∷ p) (patterns n) i + how_many-map f (λ (p : List Bool). true ∷ p) (patterns n) i)

each_once : (n : ℕ) (p : List Bool) → length p ≡ n → how_many (same_pattern p) (patterns n) ≡ 1
unfolding patterns
each_once zero [] e = refl
each_once zero (b ∷ p) e = absurd (let z : ⊥ = omega arith in z)
each_once (suc n) [] e = absurd (let z : ⊥ = omega arith in z)
each_once (suc n) (b ∷ p) e = passing (same_pattern (b ∷ p)) n ∙ one b (each_once n p (omega arith))
  where
    other : how_many (λ (q : List Bool). false) (patterns n) ≡ 0
    other = how_many-none (λ (q : List Bool). false) (patterns n) (λ q. refl)

    one : (b : Bool) → how_many (same_pattern p) (patterns n) ≡ 1
        → how_many (λ (q : List Bool). same_pattern (b ∷ p) (false ∷ q)) (patterns n) + how_many (λ (q : List Bool). same_pattern (b ∷ p) (true ∷ q)) (patterns n) ≡ 1
    one false h = λ i. h i + other i
    one true h = λ i. other i + h i

pub patterns_each_once : PatternsEachOnce
patterns_each_once n = record { many = length-patterns n; once = each_once n }
