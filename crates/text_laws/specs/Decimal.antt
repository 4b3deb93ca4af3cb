-- The decimal digits of a number, as the definition has them: the last one after those of the rest.
use Rattle.std.specs.Prelude.{◌≡◌, refl, Bool, true, false, not, List, [], ◌∷◌, ◌++◌, ℕ, zero, suc, ◌+◌, ◌*◌, ◌/◌, ◌%◌, ◌^◌, ◌≤◌, ◌<◌, T, ltb, length}
use Rattle.std.proofs.Common.{sym, ap, ◌∙◌, subst, append_assoc, pow-suc, arith, nltb→le, lt-ltb, le-ltb, length-append}
use Rattle.std.proofs.Math.Logic.{by_cases}
use Rattle.std.proofs.Math.Decide.{dec_lt}
use Rattle.definition.specs.Listing.{decimal_before, decimal}

-- the digits by the test of the first step
abbrev digits_by : Bool → ℕ → ℕ → List ℕ → List ℕ
digits_by true d n l = (48 + n) ∷ l
digits_by false d n l = decimal_before d (n / 10) ((48 + n % 10) ∷ l)

before-by : (d n : ℕ) (l : List ℕ) (b : Bool) → ltb n 10 ≡ b → decimal_before (suc d) n l ≡ digits_by b d n l
unfolding decimal_before
before-by d n l b e = subst (λ (a : Bool). decimal_before (suc d) n l ≡ digits_by a d n l) e (go (ltb n 10))
  where
    go : (a : Bool) → elim a [ true ↦ (48 + n) ∷ l | false ↦ decimal_before d (n / 10) ((48 + n % 10) ∷ l) ] ≡ digits_by a d n l
    go true = refl
    go false = refl

before_append : (d n : ℕ) (l : List ℕ) → decimal_before d n l ≡ decimal_before d n [] ++ l
unfolding decimal_before
before_append zero n l = refl
before_append (suc d) n l =
    before-by d n l (ltb n 10) refl
    ∙ go (ltb n 10)
    (before_append d (n / 10) ((48 + n % 10) ∷ l)
    ∙ sym (append_assoc (decimal_before d (n / 10) []) ((48 + n % 10) ∷ []) l)
    ∙ ap (λ (r : List ℕ). r ++ l) (sym (before_append d (n / 10) ((48 + n % 10) ∷ []))))
    ∙ ap (λ (r : List ℕ). r ++ l) (sym (before-by d n [] (ltb n 10) refl))
  where
    go : (b : Bool) → decimal_before d (n / 10) ((48 + n % 10) ∷ l) ≡ decimal_before d (n / 10) ((48 + n % 10) ∷ []) ++ l → digits_by b d n l ≡ digits_by b d n [] ++ l
    go true r = refl
    go false r = r

-- more steps than digits change nothing
before_fuel : (d e n : ℕ) (l : List ℕ) → n < d → n < e → decimal_before d n l ≡ decimal_before e n l
before_fuel zero e n l h k = absurd (let z : ⊥ = omega arith in z)
before_fuel (suc d) zero n l h k = absurd (let z : ⊥ = omega arith in z)
before_fuel (suc d) (suc e) n l h k =
    before-by d n l (ltb n 10) refl
    ∙ go (ltb n 10) (λ t. let q = nltb→le n 10 t in before_fuel d e (n / 10) ((48 + n % 10) ∷ l) (omega arith) (omega arith))
    ∙ sym (before-by e n l (ltb n 10) refl)
  where
    go : (b : Bool) → (T (not b) → decimal_before d (n / 10) ((48 + n % 10) ∷ l) ≡ decimal_before e (n / 10) ((48 + n % 10) ∷ l)) → digits_by b d n l ≡ digits_by b e n l
    go true f = refl
    go false f = f tt

pub decimal_digit : (n : ℕ) → n < 10 → decimal n ≡ (48 + n) ∷ []
unfolding decimal
decimal_digit n h = before-by n n [] true (lt-ltb n 10 h)

pub decimal-next : (n : ℕ) → 10 ≤ n → decimal n ≡ decimal (n / 10) ++ (48 + n % 10) ∷ []
unfolding decimal
decimal-next n h =
    before-by n n [] false (le-ltb n 10 h)
    ∙ before_append n (n / 10) ((48 + n % 10) ∷ [])
    ∙ ap (λ (r : List ℕ). r ++ (48 + n % 10) ∷ []) (before_fuel n (suc (n / 10)) (n / 10) [] (omega arith) (omega arith))

pub decimal_longer : (n : ℕ) → 10 ≤ n → length (decimal n) ≡ length (decimal (n / 10)) + 1
decimal_longer n h = ap length (decimal-next n h) ∙ length-append (decimal (n / 10)) ((48 + n % 10) ∷ [])

pub decimal-short : (d n : ℕ) → n < 10 ^ suc d → length (decimal n) ≤ suc d
decimal-short zero n h = omega (arith, ap length (decimal_digit n (omega (arith, pow-suc 10 zero))))
decimal-short (suc d) n h =
    by_cases (dec_lt n 10)
    (λ (k : n < 10). omega (arith, ap length (decimal_digit n k)))
    (λ k. let e : 10 ^ suc (suc d) ≡ 10 ^ suc d * 10 = pow-suc 10 (suc d) in omega (arith, decimal_longer n (omega arith), decimal-short d (n / 10) (omega arith)))
