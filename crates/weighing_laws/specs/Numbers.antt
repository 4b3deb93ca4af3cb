-- A number is read exactly where its decimal digits stand, up to the byte that ends it.
use Rattle.std.specs.Prelude.{ℕ, zero, suc, ◌+◌, ◌-◌, ◌*◌, ◌/◌, ◌%◌, ◌≤◌, ◌<◌, ◌≡◌, refl, Bool, true, false, cond, ◌&&◌, List, [], ◌∷◌, ◌++◌, eqb, leb, ltb}
use Rattle.std.proofs.Common.{arith, sym, ap, ◌∙◌, subst, append-nil, append_assoc, leb-true, le-leb, ltb-true, ltb-false, eqb-true, eq-eqb, ne_eqb}
use Rattle.std.proofs.Math.Option.{Option, none, some}
use Rattle.definition.specs.Lists.{mem}
use Rattle.definition.specs.Listing.{decimal}
use Rattle.definition.specs.Tonnage.{Number, at_most, next_digit, ended, number_from}
use Rattle.weighing_laws.specs.Lines.{neither}
use Rattle.text_laws.specs.Decimal.{decimal_digit, decimal-next}

pub none-some : {A : Type 0} (x : A) → ◌≡◌ {A = Option A} none (some x) → ⊥
none-some x h = let z : ◌≡◌ {A = ℕ} 0 1 = cc in omega arith

-- the digits of what is read so far
abbrev pub front : Option ℕ → List ℕ
front none = []
front (some n) = decimal n

-- ---- one more digit

pub record Digit (most : ℕ) (r : Option ℕ) (c n : ℕ) : Type 0 where
  pub text : decimal n ≡ front r ++ c ∷ []
  pub fits : n ≤ most

at-most : (most n k : ℕ) → at_most most n ≡ some k → (n ≡ k) × (n ≤ most)
unfolding at_most
at-most most n k h = go (leb n most) refl h
  where
    go : (b : Bool) → leb n most ≡ b → cond b (some n) none ≡ some k → (n ≡ k) × (n ≤ most)
    go true e g = (cc, leb-true n most e)
    go false e g = absurd (none-some k g)

-- the byte is a digit, and what it makes is at most `most`
digit_of_lem : (most c m n : ℕ) → cond (leb 48 c && leb c 57) (at_most most m) none ≡ some n → (48 ≤ c) × (c ≤ 57) × (m ≡ n) × (m ≤ most)
digit_of_lem most c m n h = go (leb 48 c) (leb c 57) refl refl h
  where
    go : (a b : Bool) → leb 48 c ≡ a → leb c 57 ≡ b → cond (a && b) (at_most most m) none ≡ some n → (48 ≤ c) × (c ≤ 57) × (m ≡ n) × (m ≤ most)
    go true true d e g = let k = at-most most m n g in (leb-true 48 c d, leb-true c 57 e, k.0, k.1)
    go true false d e g = absurd (none-some n g)
    go false b d e g = absurd (none-some n g)

pub digit-read : (most : ℕ) (r : Option ℕ) (c n : ℕ) → next_digit most r c ≡ some n → Digit most r c n
unfolding next_digit
digit-read most none c n h =
    let d = digit_of_lem most c (c - 48) n h in
    let e : n ≡ c - 48 = omega (arith, d.2) in
    let f : 48 + n ≡ c = omega (arith, d.0) in
    record { text = decimal_digit n (omega (arith, d.1)) ∙ ap (λ (x : ℕ). x ∷ []) f; fits = omega (arith, d.2, d.3) }
digit-read most (some zero) c n h = absurd (none-some n h)
digit-read most (some (suc m)) c n h =
    let d = digit_of_lem most c (10 * suc m + (c - 48)) n h in
    let p : n / 10 ≡ suc m = omega (arith, d.0, d.1, d.2) in
    let q : 48 + n % 10 ≡ c = omega (arith, d.0, d.1, d.2) in
    record {
      text = decimal-next n (omega (arith, d.2)) ∙ ap (λ (x : ℕ). decimal x ++ (48 + n % 10) ∷ []) p ∙ ap (λ (x : ℕ). decimal (suc m) ++ x ∷ []) q;
      fits = omega (arith, d.2, d.3);
    }

-- what makes a digit more: a digit's byte, behind nothing, or behind a number that is not 0
first-digit : (most n : ℕ) → n < 10 → n ≤ most → next_digit most none (48 + n) ≡ some n
unfolding next_digit at_most
first-digit most n h k = let e : 48 + n - 48 ≡ n = omega arith in rw (le-leb 48 (48 + n) (omega arith), le-leb (48 + n) 57 (omega arith), e, le-leb n most k)

later-digit : (most n : ℕ) → 10 ≤ n → n ≤ most → next_digit most (some (n / 10)) (48 + n % 10) ≡ some n
unfolding next_digit at_most
later-digit most n h k = go (n / 10) refl
  where
    go : (m : ℕ) → n / 10 ≡ m → next_digit most (some m) (48 + n % 10) ≡ some n
    go zero e = absurd (let z : ⊥ = omega arith in z)
    go (suc m) e =
        let f : 10 * suc m + (48 + n % 10 - 48) ≡ n = omega arith in
        rw (le-leb 48 (48 + n % 10) (omega arith), le-leb (48 + n % 10) 57 (omega arith), f, le-leb n most k)

-- ---- a whole number

-- v is read of l: digits that follow what was read before, then the byte `end`, then the rest
pub record Stands (end : ℕ) (r : Option ℕ) (l : List ℕ) (v : Number) : Type 0 where
  pub digits : List ℕ
  pub cut : l ≡ digits ++ end ∷ v.rest
  pub text : decimal v.value ≡ front r ++ digits

abbrev Within : ℕ → Option ℕ → Type 0
Within most none = Unit {0}
Within most (some n) = n ≤ most

ended_is :
    (end : ℕ) (r : Option ℕ) (c : ℕ) (l : List ℕ) (v : Number) → c ≡ end → ended r l ≡ some v → (most : ℕ) → Within most r →
    Stands end r (c ∷ l) v × (v.value ≤ most)
unfolding ended
ended_is end none c l v e h most w = absurd (none-some v h)
ended_is end (some n) c l v e h most w =
    let i : record { value = n; rest = l } ≡ v = cc in
    let p : n ≡ v.value = ap (λ (x : Number). x.value) i in
    let q : l ≡ v.rest = ap (λ (x : Number). x.rest) i in
    (record { digits = []; cut = cc; text = ap decimal (sym p) ∙ sym (append-nil (decimal n)) }, omega arith)

-- The next byte, by whether it ends the number, and by what it makes as a digit.
abbrev number_by : Bool → Option ℕ → ℕ → ℕ → Option ℕ → List ℕ → Option Number
number_by true o most end r l = ended r l
number_by false none most end r l = none
number_by false (some n) most end r l = number_from most end (some n) l

number_by_lem :
    (most end : ℕ) (r : Option ℕ) (c : ℕ) (l : List ℕ) (b : Bool) (o : Option ℕ) → eqb c end ≡ b → next_digit most r c ≡ o →
    number_from most end r (c ∷ l) ≡ number_by b o most end r l
unfolding number_from
number_by_lem most end r c l b o e f =
    subst (λ (a : Bool). number_from most end r (c ∷ l) ≡ number_by a o most end r l) e
    (subst (λ (p : Option ℕ). number_from most end r (c ∷ l) ≡ number_by (eqb c end) p most end r l) f (go (eqb c end) (next_digit most r c)))
  where
    go : (a : Bool) (p : Option ℕ) →
        elim a [ true ↦ ended r l | false ↦ elim p [ none ↦ none | some n ↦ number_from most end (some n) l ] ] ≡ number_by a p most end r l
    go true p = refl
    go false none = refl
    go false (some n) = refl

-- one byte further, where it does not end the number and is a digit of it
pub number_step :
    (most end : ℕ) (r : Option ℕ) (c n : ℕ) (l : List ℕ) → eqb c end ≡ false → next_digit most r c ≡ some n →
    number_from most end r (c ∷ l) ≡ number_from most end (some n) l
number_step most end r c n l h k = number_by_lem most end r c l false (some n) h k

-- the byte ends it; or it is no digit of it
pub number-ends : (most end : ℕ) (r : Option ℕ) (c : ℕ) (l : List ℕ) → eqb c end ≡ true → number_from most end r (c ∷ l) ≡ ended r l
number-ends most end r c l h = number_by_lem most end r c l true (next_digit most r c) h refl

pub number_fails : (most end : ℕ) (r : Option ℕ) (c : ℕ) (l : List ℕ) → eqb c end ≡ false → next_digit most r c ≡ none → number_from most end r (c ∷ l) ≡ none
number_fails most end r c l h k = number_by_lem most end r c l false none h k

pub number-nothing : (most end : ℕ) (r : Option ℕ) → number_from most end r [] ≡ none
unfolding number_from
number-nothing most end r = refl

pub number_stands :
    (most end : ℕ) (r : Option ℕ) (l : List ℕ) (v : Number) → Within most r → number_from most end r l ≡ some v → Stands end r l v × (v.value ≤ most)
number_stands most end r [] v w h = absurd (none-some v (sym (number-nothing most end r) ∙ h))
number_stands most end r (c ∷ l) v w h = go (eqb c end) refl (next_digit most r c) refl (λ n. number_stands most end (some n) l v)
  where
    go : (b : Bool) → eqb c end ≡ b → (o : Option ℕ) → next_digit most r c ≡ o →
        ((n : ℕ) → n ≤ most → number_from most end (some n) l ≡ some v → Stands end (some n) l v × (v.value ≤ most)) → Stands end r (c ∷ l) v × (v.value ≤ most)
    go true e o f i = ended_is end r c l v (eqb-true c end e) (sym (number-ends most end r c l e) ∙ h) most w
    go false e none f i = absurd (none-some v (sym (number_fails most end r c l e f) ∙ h))
    go false e (some n) f i =
        let d = digit-read most r c n f in
        let s = i n d.fits (sym (number_step most end r c n l e f) ∙ h) in
        let e = s.0.text ∙ ap (λ (t : List ℕ). t ++ s.0.digits) d.text ∙ append_assoc (front r) (c ∷ []) s.0.digits in
        (record { digits = c ∷ s.0.digits; cut = ap (λ (t : List ℕ). c ∷ t) s.0.cut; text = e }, s.1)

-- ---- and back: the digits of v are read as v

module _ (most end : ℕ) (low : end < 48) where
  no_end : (n : ℕ) → eqb (48 + n) end ≡ false
  no_end n = ne_eqb (48 + n) end (λ e. omega arith)

  digits-read : (d v : ℕ) (l : List ℕ) → v < d → v ≤ most → number_from most end none (decimal v ++ l) ≡ number_from most end (some v) l
  digits-read zero v l h k = absurd (let z : ⊥ = omega arith in z)
  digits-read (suc d) v l h k = go (ltb v 10) refl (digits-read d (v / 10) ((48 + v % 10) ∷ l))
    where
      go : (b : Bool) → ltb v 10 ≡ b →
          (v / 10 < d → v / 10 ≤ most → number_from most end none (decimal (v / 10) ++ (48 + v % 10) ∷ l) ≡ number_from most end (some (v / 10)) ((48 + v % 10) ∷ l)) →
          number_from most end none (decimal v ++ l) ≡ number_from most end (some v) l
      go true e i =
          let q = ltb-true v 10 e in
          ap (λ (t : List ℕ). number_from most end none (t ++ l)) (decimal_digit v q) ∙ number_step most end none (48 + v) v l (no_end v) (first-digit most v q k)
      go false e i =
          let q = ltb-false v 10 e in
          ap (λ (t : List ℕ). number_from most end none (t ++ l)) (decimal-next v q)
          ∙ ap (number_from most end none) (append_assoc (decimal (v / 10)) ((48 + v % 10) ∷ []) l)
          ∙ i (omega arith) (omega arith)
          ∙ number_step most end (some (v / 10)) (48 + v % 10) v l (no_end (v % 10)) (later-digit most v q k)

  pub number-reads : (v : ℕ) (l : List ℕ) → v ≤ most → number_from most end none (decimal v ++ end ∷ l) ≡ some (record { value = v; rest = l })
  unfolding ended
  number-reads v l k = digits-read (suc v) v (end ∷ l) (omega arith) k ∙ number-ends most end (some v) end l (eq-eqb end end refl)

-- ---- no digit is a line feed

pub mem_append : (xs ys : List ℕ) → mem eqb 10 xs ≡ false → mem eqb 10 ys ≡ false → mem eqb 10 (xs ++ ys) ≡ false
mem_append [] ys h k = k
mem_append (x ∷ xs) ys h k = let n = neither (eqb 10 x) (mem eqb 10 xs) h in rw n.0 (mem_append xs ys n.1 k)

digits_clean : (d v : ℕ) → v < d → mem eqb 10 (decimal v) ≡ false
digits_clean zero v h = absurd (let z : ⊥ = omega arith in z)
digits_clean (suc d) v h = go (ltb v 10) refl (digits_clean d (v / 10))
  where
    clean : (n : ℕ) → mem eqb 10 ((48 + n) ∷ []) ≡ false
    clean n = rw (ne_eqb 10 (48 + n) (λ e. omega arith))

    go : (b : Bool) → ltb v 10 ≡ b → (v / 10 < d → mem eqb 10 (decimal (v / 10)) ≡ false) → mem eqb 10 (decimal v) ≡ false
    go true e i = ap (mem eqb 10) (decimal_digit v (ltb-true v 10 e)) ∙ clean v
    go false e i =
        let q = ltb-false v 10 e in
        ap (mem eqb 10) (decimal-next v q) ∙ mem_append (decimal (v / 10)) ((48 + v % 10) ∷ []) (i (omega arith)) (clean (v % 10))

pub decimal_clean : (v : ℕ) → mem eqb 10 (decimal v) ≡ false
decimal_clean v = digits_clean (suc v) v (omega arith)
