-- The patterns by number: counting over the numbers below 2 ^ m, bit by bit, is counting over the patterns.
use Rattle.std.specs.Prelude.{ℕ, zero, suc, ◌+◌, ◌*◌, ◌/◌, ◌%◌, ◌^◌, ◌≤◌, ◌≡◌, refl, Bool, true, false, List, [], ◌∷◌, ◌++◌, eqb, length}
use Rattle.std.proofs.Common.{arith, div-one, sym, ap, ◌∙◌}
use Rattle.std.proofs.Math.Nat.{div-div-eq-div-mul}
use Rattle.definition.specs.Lists.{cons_if, how_many, patterns}
use Rattle.graph_laws.specs.Lengths.{double}
use Rattle.graph_laws.specs.Patterns.{passing}
use Rattle.report_laws.specs.Counts.{one_if}

-- ---- pattern p of m markers: marker i is read strongly if bit i of p is set

abbrev pub pattern_at : ℕ → ℕ → List Bool
pattern_at zero p = []
pattern_at (suc m) p = eqb (p % 2) 1 ∷ pattern_at m (p / 2)

pub length-pattern : (m p : ℕ) → length (pattern_at m p) ≡ m
length-pattern zero p = refl
length-pattern (suc m) p = ap suc (length-pattern m (p / 2))

-- one marker more is one bit more
pub pattern_snoc : (m p : ℕ) → pattern_at (suc m) p ≡ pattern_at m p ++ eqb (p / 2 ^ m % 2) 1 ∷ []
pattern_snoc zero p = ap (λ (q : ℕ). eqb (q % 2) 1 ∷ []) (sym (div-one p))
pattern_snoc (suc m) p =
    let e : 2 * 2 ^ m ≡ 2 ^ suc m = omega arith in
    ap (λ (l : List Bool). eqb (p % 2) 1 ∷ l)
    (pattern_snoc m (p / 2)
    ∙ ap (λ (q : ℕ). pattern_at m (p / 2) ++ eqb (q % 2) 1 ∷ []) (div-div-eq-div-mul p 2 (2 ^ m) ∙ ap (λ (k : ℕ). p / k) e))

-- ---- how many numbers below n pass

abbrev pub count_to : ℕ → (ℕ → Bool) → ℕ
count_to zero f = 0
count_to (suc n) f = count_to n f + one_if (f n)

pub count_to-le : (n : ℕ) (f : ℕ → Bool) → count_to n f ≤ n
count_to-le zero f = omega arith
count_to-le (suc n) f = go (f n) (count_to-le n f)
  where
    go : (c : Bool) → count_to n f ≤ n → count_to n f + one_if c ≤ suc n
    go true h = omega arith
    go false h = omega arith

-- the even ones and the odd ones
count_to_double : (n : ℕ) (f : ℕ → Bool) → count_to (n + n) f ≡ count_to n (λ q. f (q + q)) + count_to n (λ q. f (suc (q + q)))
count_to_double zero f = refl
count_to_double (suc n) f =
    ap (λ (k : ℕ). count_to k f) (let e : suc n + suc n ≡ suc (suc (n + n)) = omega arith in e)
    ∙ omega (arith, count_to_double n f)

even_pattern : (m q : ℕ) → pattern_at (suc m) (q + q) ≡ false ∷ pattern_at m q
even_pattern m q =
    let r : (q + q) % 2 ≡ 0 = omega arith in
    let d : (q + q) / 2 ≡ q = omega arith in
    λ i. eqb (r i) 1 ∷ pattern_at m (d i)

odd-pattern : (m q : ℕ) → pattern_at (suc m) (suc (q + q)) ≡ true ∷ pattern_at m q
odd-pattern m q =
    let r : suc (q + q) % 2 ≡ 1 = omega arith in
    let d : suc (q + q) / 2 ≡ q = omega arith in
    λ i. eqb (r i) 1 ∷ pattern_at m (d i)

one-pattern : (f : List Bool → Bool) → one_if (f []) ≡ how_many f ([] ∷ [])
one-pattern f = go (f [])
  where
    go : (c : Bool) → one_if c ≡ length (cons_if {A = List Bool} c [] [])
    go true = refl
    go false = refl

pub patterns-by-number : (m : ℕ) (f : List Bool → Bool) → count_to (2 ^ m) (λ p. f (pattern_at m p)) ≡ how_many f (patterns m)
unfolding patterns
patterns-by-number zero f = omega (arith, one-pattern f)
patterns-by-number (suc m) f =
    ap (λ (k : ℕ). count_to k (λ p. f (pattern_at (suc m) p))) (double m)
    ∙ count_to_double (2 ^ m) (λ p. f (pattern_at (suc m) p))
    ∙ (λ i. count_to (2 ^ m) (λ q. f (even_pattern m q i)) + count_to (2 ^ m) (λ q. f (odd-pattern m q i)))
    ∙ (λ i. patterns-by-number m (λ r. f (false ∷ r)) i + patterns-by-number m (λ r. f (true ∷ r)) i)
    ∙ sym (passing f m)
