-- The table of refusals of a call for matches; and what an accepted call's reads are.
use Rattle.std.specs.Prelude.{ℕ, zero, suc, ◌+◌, ◌-◌, ◌*◌, ◌≤◌, ◌<◌, ◌≡◌, ◌⊎◌, Bool, true, false, cond, ◌||◌, List, [], ◌∷◌, ◌++◌, leb, ltb, length, get_or}
use Rattle.std.proofs.Common.{arith, sym, ap, ◌∙◌, subst, inl, inr, ltb-true, ltb-false, lt-ltb, leb-true, leb-false, get_or-append-add}
use Rattle.std.proofs.Math.Path.{refl}
use Rattle.std.proofs.lemmas.Bool.{false≢true}
use Rattle.std.proofs.lemmas.List.{length-map}
use Rattle.std.proofs.Math.ListN.{get_or-append}
use Rattle.definition.specs.Lists.{range}
use Rattle.definition.specs.Refusals.{lowest_place_from, lowest_place, or_refused, accepted}
use Rattle.definition.specs.Readers.{Read, read_at, lesser, falls_at, falls, match_verdict}
use Rattle.claims.specs.Matching.{InOrder, MatchFails, many_upper, many_lower, small_buffer, upper_falls, lower_falls, Table}
use Rattle.graph_laws.specs.Bools.{or_cases, or_left, or_right}
use Rattle.graph_laws.specs.Lists.{length_count, count_at}
use Rattle.graph_laws.specs.FirstChecks.{Check, test, number_at, first_of, count_test, accepted_none, accepted_exactly, refused_exactly}

-- ---- the lesser of two

pub lesser_cases : (P : ℕ → Type 0) (a b : ℕ) → P a → P b → P (lesser a b)
lesser_cases P a b x y = go (leb a b)
  where
    go : (c : Bool) → P (cond c a b)
    go true = x
    go false = y

both_less : (s a b : ℕ) → s < 2 * lesser a b → (s < 2 * a) × (s < 2 * b)
both_less s a b = go (leb a b) refl
  where
    go : (c : Bool) → leb a b ≡ c → s < 2 * cond c a b → (s < 2 * a) × (s < 2 * b)
    go true e l = (l, omega (arith, leb-true a b e))
    go false e l = (omega (arith, leb-false a b e), l)

-- ---- falls

pub length-falls : (rs : List Read) → length (falls rs) ≡ length rs
unfolding falls
length-falls rs = length-map (range 0 (length rs)) (falls_at rs) ∙ length_count 0 (length rs)

record Fall (rs : List Read) (p : ℕ) : Type 0 where
  at : ℕ
  is : p ≡ suc at
  there : suc at < length rs
  lower : (read_at rs (suc at)).tick < (read_at rs at).tick

fall : (rs : List Read) (p : ℕ) → get_or (falls rs) p false ≡ true → Fall rs p
unfolding falls falls_at
fall rs p h =
    let r = count_test (falls_at rs) (length rs) p h in
    go p r.0 r.1
  where
    go : (i : ℕ) → i < length rs → falls_at rs i ≡ true → Fall rs i
    go zero l t = absurd (false≢true t)
    go (suc i) l t = record { at = i; is = refl; there = l; lower = ltb-true _ _ t }

pub fall_at : (rs : List Read) (i : ℕ) → i < length rs → get_or (falls rs) i false ≡ falls_at rs i
unfolding falls
fall_at rs i l = count_at (falls_at rs) false (length rs) i l

fall_listed : (rs : List Read) (i : ℕ) → suc i < length rs → (read_at rs (suc i)).tick < (read_at rs i).tick → get_or (falls rs) (suc i) false ≡ true
unfolding falls_at
fall_listed rs i l h = fall_at rs (suc i) l ∙ lt-ltb _ _ h

-- ---- the checks as lists of tests, in their order

abbrev checks : List Read → List Read → ℕ → List Check
checks us ls size =
    (1, (ltb 1024 (length us) || ltb 1024 (length ls)) ∷ [])
    ∷ (2, ltb size (2 * lesser (length us) (length ls)) ∷ [])
    ∷ (10, falls us ++ falls ls)
    ∷ []

module _ (us ls : List Read) (size : ℕ) where
  verdict-first : match_verdict us ls size ≡ first_of (checks us ls size)
  unfolding match_verdict or_refused lowest_place lowest_place_from
  verdict-first = refl

  many : (p : ℕ) → get_or ((ltb 1024 (length us) || ltb 1024 (length ls)) ∷ []) p false ≡ true → MatchFails us ls size 1 p
  many (suc p) h = absurd (false≢true h)
  many zero h = go (or_cases (ltb 1024 (length us)) (ltb 1024 (length ls)) h)
    where
      go : (ltb 1024 (length us) ≡ true) ⊎ (ltb 1024 (length ls) ≡ true) → MatchFails us ls size 1 0
      go (inl e) = many_upper (ltb-true _ _ e)
      go (inr e) = many_lower (ltb-true _ _ e)

  small : (p : ℕ) → get_or (ltb size (2 * lesser (length us) (length ls)) ∷ []) p false ≡ true → MatchFails us ls size 2 p
  small (suc p) h = absurd (false≢true h)
  small zero h = let r = both_less size (length us) (length ls) (ltb-true _ _ h) in small_buffer r.0 r.1

  upper_falls_lem : (p : ℕ) → get_or (falls us) p false ≡ true → MatchFails us ls size 10 p
  upper_falls_lem p h = let r = fall us p h in subst (λ i. MatchFails us ls size 10 i) (sym r.is) (upper_falls r.there r.lower)

  lower-falls : (q : ℕ) → get_or (falls ls) q false ≡ true → MatchFails us ls size 10 (length us + q)
  lower-falls q h = let r = fall ls q h in subst (λ i. MatchFails us ls size 10 (length us + i)) (sym r.is) (lower_falls r.there r.lower)

  fallen : (p : ℕ) → get_or (falls us ++ falls ls) p false ≡ true → MatchFails us ls size 10 p
  fallen p h = go (ltb p (length us)) refl
    where
      go : (b : Bool) → ltb p (length us) ≡ b → MatchFails us ls size 10 p
      go true e = upper_falls_lem p (sym (get_or-append (falls us) (falls ls) false p (omega (arith, ltb-true p (length us) e, length-falls us))) ∙ h)
      go false e =
          let k : length us ≤ p = ltb-false p (length us) e in
          let z : length us + (p - length us) ≡ p = omega arith in
          subst (λ i. MatchFails us ls size 10 i) z
          (lower-falls (p - length us)
          (sym (get_or-append-add (falls us) (falls ls) (p - length us) false)
          ∙ ap (λ (i : ℕ). get_or (falls us ++ falls ls) i false) (let y : length (falls us) + (p - length us) ≡ p = omega (arith, length-falls us) in y)
          ∙ h))

  row : (k p : ℕ) → test (checks us ls size) k p ≡ true → MatchFails us ls size (number_at (checks us ls size) k) p
  row zero p h = many p h
  row (suc zero) p h = small p h
  row (suc (suc zero)) p h = fallen p h
  row (suc (suc (suc k))) p h = absurd (false≢true h)

  listed : {n p : ℕ} → MatchFails us ls size n p → (k : ℕ) × (n ≡ number_at (checks us ls size) k) × (test (checks us ls size) k p ≡ true)
  listed (many_upper l) = (0, refl, or_left _ _ (lt-ltb _ _ l))
  listed (many_lower l) = (0, refl, or_right (ltb 1024 (length us)) _ (lt-ltb _ _ l))
  listed (small_buffer a b) = (1, refl, lt-ltb _ _ (lesser_cases (λ n. size < 2 * n) (length us) (length ls) a b))
  listed (upper_falls {i = i} l h) = (2, refl, get_or-append (falls us) (falls ls) false (suc i) (omega (arith, l, length-falls us)) ∙ fall_listed us i l h)
  listed (lower_falls {j = j} l h) =
      (2, refl, ap (λ (n : ℕ). get_or (falls us ++ falls ls) (n + suc j) false) (sym (length-falls us)) ∙ get_or-append-add (falls us) (falls ls) (suc j) false ∙ fall_listed ls j l h)

  -- ---- what an accepted call has

  module _ (h : match_verdict us ls size ≡ accepted) where
    fine : (n p : ℕ) → MatchFails us ls size n p → ⊥
    fine = accepted_none (1 ∷ 2 ∷ 10 ∷ []) (MatchFails us ls size) (checks us ls size) (match_verdict us ls size) verdict-first refl row (λ n p. listed) h

    pub upper_fits : length us ≤ 1024
    upper_fits = let z : 1024 < length us → ⊥ = λ l. fine 1 0 (many_upper l) in omega arith

    pub lower-fits : length ls ≤ 1024
    lower-fits = let z : 1024 < length ls → ⊥ = λ l. fine 1 0 (many_lower l) in omega arith

    pub buffer-fits : 2 * lesser (length us) (length ls) ≤ size
    buffer-fits =
        let z : size < 2 * lesser (length us) (length ls) → ⊥ = λ l. let r = both_less size (length us) (length ls) l in fine 2 0 (small_buffer r.0 r.1) in
        omega arith

    pub upper_ordered : InOrder us
    upper_ordered i l = let z : (read_at us (suc i)).tick < (read_at us i).tick → ⊥ = λ q. fine 10 (suc i) (upper_falls l q) in omega arith

    pub lower_ordered : InOrder ls
    lower_ordered j l = let z : (read_at ls (suc j)).tick < (read_at ls j).tick → ⊥ = λ q. fine 10 (length us + suc j) (lower_falls l q) in omega arith

pub table : Table
table us ls size =
    record {
      accepts = accepted_exactly (1 ∷ 2 ∷ 10 ∷ []) (MatchFails us ls size) (checks us ls size) (match_verdict us ls size) (verdict-first us ls size) refl (row us ls size) (λ n p. listed us ls size);
      refuses = refused_exactly (1 ∷ 2 ∷ 10 ∷ []) (MatchFails us ls size) (checks us ls size) (match_verdict us ls size) (verdict-first us ls size) refl (row us ls size) (λ n p. listed us ls size);
    }
