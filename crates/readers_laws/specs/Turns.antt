-- What a turn does: the next upper read takes the lowest lower read that is free, or none is.
use Rattle.std.specs.Prelude.{ℕ, zero, suc, ◌+◌, ◌-◌, ◌≤◌, ◌<◌, ◌≡◌, Bool, ◌&&◌, List, [], ◌∷◌, ◌++◌, map, leb, length}
use native.Mathlib.Omega.{arith}
use Rattle.std.proofs.Math.Path.{refl, sym, subst}
use Rattle.std.proofs.Common.{ap, ◌∙◌, eqb-true, leb-true, eq-eqb, le-leb}
use Rattle.std.proofs.Math.Bool.{true, false, not}
use Rattle.std.proofs.Math.Option.{Option, none, some}
use Rattle.std.proofs.Math.Dec.{eqb}
use Rattle.std.proofs.Math.ListN.{get_or}
use Rattle.definition.specs.Lists.{range, mem}
use Rattle.definition.specs.Refusals.{lowest_place}
use Rattle.definition.specs.Readers.{Read, read_at, Match, lowers_of, may_match, is_free, first_free, match_with, matches_up_to}
use Rattle.claims.specs.Matching.{InOrder}
use Rattle.graph_laws.specs.Bools.{and_left, and_right}
use Rattle.graph_laws.specs.Lists.{append_none, count_at}
use Rattle.graph_laws.specs.FirstChecks.{Found, FirstTest, found, count_test}

-- ---- two reads that may be matched

pub record May (w : ℕ) (u l : Read) : Type 0 where
  pub marker : u.marker ≡ l.marker
  pub not_late : u.tick ≤ l.tick + w
  pub not-early : l.tick ≤ u.tick + w

pub may : (w : ℕ) (u l : Read) → may_match w u l ≡ true → May w u l
unfolding may_match
may w u l h =
    let m = eqb u.marker l.marker in
    let a = leb u.tick (l.tick + w) in
    let b = leb l.tick (u.tick + w) in
    let r = and_right m (a && b) h in
    record { marker = eqb-true _ _ (and_left m (a && b) h); not_late = leb-true _ _ (and_left a b r); not-early = leb-true _ _ (and_right a b r) }

pub may_match_lem : (w : ℕ) (u l : Read) → May w u l → may_match w u l ≡ true
unfolding may_match
may_match_lem w u l m = rw (eq-eqb _ _ m.marker, le-leb _ _ m.not_late, le-leb _ _ m.not-early)

-- ---- ticks in order

in_steps : (rs : List Read) → InOrder rs → (i d : ℕ) → i + d < length rs → (read_at rs i).tick ≤ (read_at rs (i + d)).tick
in_steps rs o i zero l = let e : i + 0 ≡ i = omega arith in rw e (omega arith)
in_steps rs o i (suc d) l =
    let e : i + suc d ≡ suc (i + d) = omega arith in
    let b : (read_at rs (i + d)).tick ≤ (read_at rs (suc (i + d))).tick = o (i + d) (omega arith) in
    rw e (omega (arith, in_steps rs o i d (omega arith), b))

pub in_order : (rs : List Read) → InOrder rs → (i k : ℕ) → i ≤ k → k < length rs → (read_at rs i).tick ≤ (read_at rs k).tick
in_order rs o i k a l =
    let e : i + (k - i) ≡ k = omega arith in
    subst (λ (n : ℕ). (read_at rs i).tick ≤ (read_at rs n).tick) e (in_steps rs o i (k - i) (omega arith))

-- ---- what is free

module _ (w : ℕ) (ls : List Read) (ms : List Match) (u : Read) where
  pub free_unused : (j : ℕ) → is_free w ls ms u j ≡ true → mem eqb j (lowers_of ms) ≡ false
  unfolding is_free
  free_unused j h = not-not (mem eqb j (lowers_of ms)) (and_left (not (mem eqb j (lowers_of ms))) (may_match w u (read_at ls j)) h)
    where
      not-not : (b : Bool) → not b ≡ true → b ≡ false
      not-not true e = sym e
      not-not false e = refl

  pub free_may : (j : ℕ) → is_free w ls ms u j ≡ true → may_match w u (read_at ls j) ≡ true
  unfolding is_free
  free_may j h = and_right (not (mem eqb j (lowers_of ms))) (may_match w u (read_at ls j)) h

  pub is_free_lem : (j : ℕ) → mem eqb j (lowers_of ms) ≡ false → may_match w u (read_at ls j) ≡ true → is_free w ls ms u j ≡ true
  unfolding is_free
  is_free_lem j n m = rw (n, m)

  abbrev tests : List Bool
  tests = map (is_free w ls ms u) (range 0 (length ls))

  test_free : (j : ℕ) → j < length ls → get_or tests j false ≡ false → is_free w ls ms u j ≡ false
  test_free j l h = sym (count_at (is_free w ls ms u) false (length ls) j l) ∙ h

  -- nothing is free
  pub none_free : first_free w ls ms u ≡ none → (j : ℕ) → j < length ls → is_free w ls ms u j ≡ false
  unfolding first_free lowest_place
  none_free e j l = let r : Found 0 tests none = subst (Found 0 tests) e (found 0 tests) in test_free j l (r j)

  -- j is the lowest that is
  pub record Lowest (j : ℕ) : Type 0 where
    pub there : j < length ls
    pub free : is_free w ls ms u j ≡ true
    pub before : (k : ℕ) → k < j → is_free w ls ms u k ≡ false

  pub lowest_free : (j : ℕ) → first_free w ls ms u ≡ some j → Lowest j
  unfolding first_free lowest_place
  lowest_free j e =
      let r : FirstTest 0 tests j = subst (Found 0 tests) e (found 0 tests) in
      let a : r.at ≡ j = let x = r.is in omega arith in
      let t = count_test (is_free w ls ms u) (length ls) j (subst (λ (k : ℕ). get_or tests k false ≡ true) a r.holds) in
      record { there = t.0; free = t.1; before = λ k l. test_free k (omega (arith, t.0)) (r.before k (omega arith)) }

-- ---- the turn of upper read n

pub data Turn (w : ℕ) (us ls : List Read) (n : ℕ) : Type 0 where
  passes : matches_up_to w us ls (suc n) ≡ matches_up_to w us ls n →
      ((j : ℕ) → j < length ls → is_free w ls (matches_up_to w us ls n) (read_at us n) j ≡ false) → Turn w us ls n
  takes : (j : ℕ) → matches_up_to w us ls (suc n) ≡ matches_up_to w us ls n ++ (record { upper = n; lower = j } ∷ []) →
      Lowest w ls (matches_up_to w us ls n) (read_at us n) j → Turn w us ls n

pub passes_by : (w : ℕ) (us ls : List Read) (n : ℕ) → first_free w ls (matches_up_to w us ls n) (read_at us n) ≡ none → matches_up_to w us ls (suc n) ≡ matches_up_to w us ls n
unfolding matches_up_to match_with
passes_by w us ls n e = ap (λ o. matches_up_to w us ls n ++ match_with n o) e ∙ append_none (matches_up_to w us ls n)

pub takes_by : (w : ℕ) (us ls : List Read) (n j : ℕ) → first_free w ls (matches_up_to w us ls n) (read_at us n) ≡ some j →
    matches_up_to w us ls (suc n) ≡ matches_up_to w us ls n ++ (record { upper = n; lower = j } ∷ [])
unfolding matches_up_to match_with
takes_by w us ls n j e = ap (λ o. matches_up_to w us ls n ++ match_with n o) e

pub turn : (w : ℕ) (us ls : List Read) (n : ℕ) → Turn w us ls n
turn w us ls n = go (first_free w ls (matches_up_to w us ls n) (read_at us n)) refl
  where
    go : (o : Option ℕ) → first_free w ls (matches_up_to w us ls n) (read_at us n) ≡ o → Turn w us ls n
    go none e = passes (passes_by w us ls n e) (none_free w ls (matches_up_to w us ls n) (read_at us n) e)
    go (some j) e = takes j (takes_by w us ls n j e) (lowest_free w ls (matches_up_to w us ls n) (read_at us n) j e)

-- What holds before the first turn, and is kept by a turn of either kind, holds after n turns.
pub by-turns : (w : ℕ) (us ls : List Read) (P : ℕ → List Match → Type 0) → P 0 [] →
    ((n : ℕ) → P n (matches_up_to w us ls n) → P (suc n) (matches_up_to w us ls n)) →
    ((n j : ℕ) → Lowest w ls (matches_up_to w us ls n) (read_at us n) j → P n (matches_up_to w us ls n) →
    P (suc n) (matches_up_to w us ls n ++ (record { upper = n; lower = j } ∷ []))) →
    (n : ℕ) → P n (matches_up_to w us ls n)
unfolding matches_up_to
by-turns w us ls P z p t zero = z
by-turns w us ls P z p t (suc n) = go (turn w us ls n) (by-turns w us ls P z p t n)
  where
    go : Turn w us ls n → P n (matches_up_to w us ls n) → P (suc n) (matches_up_to w us ls (suc n))
    go (passes e f) r = subst (P (suc n)) (sym e) (p n r)
    go (takes j e f) r = subst (P (suc n)) (sym e) (t n j f r)
