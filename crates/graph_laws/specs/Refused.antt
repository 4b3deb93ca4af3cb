-- Document 01's table of refusals: a call is refused with a number and a place exactly if that check fails there, no check with a lower number fails at all,
-- and this one at no lower place.
use Prim.Native.Nat.{ℕ, zero, suc, ◌≤◌, ◌<◌}
use Rattle.std.proofs.Common.{arith, sym, ap, ◌∙◌, subst, inl, inr}
use Rattle.std.specs.Prelude.{◌≡◌, ◌↔◌, ◌⊎◌, Bool, true, ◌||◌, eqb, leb, ltb, length, get_or}
use Rattle.std.proofs.Math.Path.{refl}
use Rattle.std.proofs.Math.Bool.{false, or-true}
use Rattle.std.proofs.lemmas.Bool.{false≢true}
use Rattle.std.proofs.Math.Option.{some}
use mathlib.Core.List.{List, [], ◌∷◌, map}
use borrow.Author.Tests.{ltb-true, lt-ltb, leb-true, le-leb}
use Rattle.std.proofs.Math.ListN.{get_elem?}
use Rattle.graph_laws.specs.Bools.{or_cases, or_left, or_right}
use Rattle.definition.specs.Floats.{oneᶠ}
use Rattle.definition.specs.Lists.{range, mem, index_of}
use Rattle.definition.specs.Settings.{Settings}
use Rattle.definition.specs.FactorGraph.{Evidence, Pair, Bale, marker_numbers, eq_pair}
use Rattle.definition.specs.Refusals.{Buffers, outside, least_probability, greatest_probability, least_evidence, too_many, work_needed, too_small, bad_tolerance, bad_evidence, unknown_pair, repeated_pairs, too_many_grades, accepted, refused, verdict}
use Rattle.claims.specs.First.{First}
use Rattle.claims.specs.Refused.{Fails, many_grades, many_markers, many_pairs, small_work_floats, small_work_numbers, small_belief_numbers, small_belief_floats, small_ending_numbers, small_ending_floats, bad_alpha, bad_beta, bad_prior, tolerance, limit, absent, present, unknown_grade, unknown_marker, again, crowds}
use Rattle.graph_laws.specs.Lists.{count_at}
use Rattle.graph_laws.specs.AloneChecks.{eq_pair_sound, eq_pair-same}
use Rattle.graph_laws.specs.FirstChecks.{Check, test, number_at, first_of, nothing, nth_lt, map-test, test-map, count_test, accepted_exactly, refused_exactly}

-- ---- the checks as lists of tests, in the order of their numbers

abbrev pub checks : Settings → Buffers → Bale → List Check
checks s f b =
    (1, too_many 1024 1024 8192 b ∷ [])
    ∷ (2, too_small f b ∷ [])
    ∷ (3, map (outside least_probability greatest_probability) (s.alpha ∷ s.beta ∷ s.prior ∷ []))
    ∷ (4, bad_tolerance s.tolerance ∷ ltb 1000000 s.loop_limit ∷ [])
    ∷ (5, map bad_evidence b.markers)
    ∷ (6, map (unknown_pair b) b.pairs)
    ∷ (7, repeated_pairs [] b.pairs)
    ∷ (8, map (too_many_grades b) (marker_numbers b))
    ∷ []

pub verdict-first : (s : Settings) (f : Buffers) (b : Bale) → verdict s f b ≡ first_of (checks s f b)
unfolding verdict
verdict-first s f b = refl

-- a pair that was given before
repeats_test : (before ps : List Pair) (i : ℕ) → get_or (repeated_pairs before ps) i false ≡ true
    → (q : Pair) × (get_elem? ps i ≡ some q) × ((mem eq_pair q before ≡ true) ⊎ ((j : ℕ) × (j < i) × (get_elem? ps j ≡ some q)))
unfolding repeated_pairs
repeats_test before [] i h = absurd (false≢true h)
repeats_test before (p ∷ ps) zero h = (p, refl, inl h)
repeats_test before (p ∷ ps) (suc i) h = go (repeats_test (p ∷ before) ps i h)
  where
    Before : Pair → Type 0
    Before q = (mem eq_pair q before ≡ true) ⊎ ((j : ℕ) × (j < suc i) × (get_elem? (p ∷ ps) j ≡ some q))

    old : (q : Pair) → (eq_pair q p ≡ true) ⊎ (mem eq_pair q before ≡ true) → Before q
    old q (inl e) = inr (0, omega arith, ap some (sym (eq_pair_sound q p e)))
    old q (inr e) = inl e

    either : (q : Pair) → (mem eq_pair q (p ∷ before) ≡ true) ⊎ ((j : ℕ) × (j < i) × (get_elem? ps j ≡ some q)) → Before q
    either q (inl e) = old q (or_cases (eq_pair q p) (mem eq_pair q before) e)
    either q (inr r) = inr (suc r.0, (let l = r.1 in omega arith), r.2)

    go : (q : Pair) × (get_elem? ps i ≡ some q) × ((mem eq_pair q (p ∷ before) ≡ true) ⊎ ((j : ℕ) × (j < i) × (get_elem? ps j ≡ some q)))
        → (q : Pair) × (get_elem? ps i ≡ some q) × Before q
    go r = (r.0, r.1, either r.0 r.2)

test-given : (before ps : List Pair) (i : ℕ) (q : Pair) → get_elem? ps i ≡ some q → mem eq_pair q before ≡ true → get_or (repeated_pairs before ps) i false ≡ true
unfolding repeated_pairs
test-given before [] i q e h = absurd (nothing e)
test-given before (p ∷ ps) zero q e h = let z : p ≡ q = cc in ap (λ (x : Pair). mem eq_pair x before) z ∙ h
test-given before (p ∷ ps) (suc i) q e h = test-given (p ∷ before) ps i q e (or_right (eq_pair q p) (mem eq_pair q before) h)

test_repeats : (before ps : List Pair) (i j : ℕ) (q : Pair) → j < i → get_elem? ps j ≡ some q → get_elem? ps i ≡ some q → get_or (repeated_pairs before ps) i false ≡ true
unfolding repeated_pairs
test_repeats before [] i j q l e h = absurd (nothing e)
test_repeats before (p ∷ ps) zero j q l e h = absurd (let z : ⊥ = omega arith in z)
test_repeats before (p ∷ ps) (suc i) zero q l e h =
    let z : p ≡ q = cc in
    test-given (p ∷ before) ps i q h (or_left (eq_pair q p) (mem eq_pair q before) (subst (λ (x : Pair). eq_pair q x ≡ true) (sym z) (eq_pair-same q)))
test_repeats before (p ∷ ps) (suc i) (suc j) q l e h = test_repeats (p ∷ before) ps i j q (omega arith) e h

-- one of six
six : (P : Type 0) (x₁ x₂ x₃ x₄ x₅ x₆ : Bool) → (x₁ || x₂ || x₃ || x₄ || x₅ || x₆) ≡ true
    → (x₁ ≡ true → P) → (x₂ ≡ true → P) → (x₃ ≡ true → P) → (x₄ ≡ true → P) → (x₅ ≡ true → P) → (x₆ ≡ true → P) → P
six P true x₂ x₃ x₄ x₅ x₆ h k₁ k₂ k₃ k₄ k₅ k₆ = k₁ refl
six P false true x₃ x₄ x₅ x₆ h k₁ k₂ k₃ k₄ k₅ k₆ = k₂ refl
six P false false true x₄ x₅ x₆ h k₁ k₂ k₃ k₄ k₅ k₆ = k₃ refl
six P false false false true x₅ x₆ h k₁ k₂ k₃ k₄ k₅ k₆ = k₄ refl
six P false false false false true x₆ h k₁ k₂ k₃ k₄ k₅ k₆ = k₅ refl
six P false false false false false x₆ h k₁ k₂ k₃ k₄ k₅ k₆ = k₆ h

-- ---- the rows: a test that is true is a row of the table

module _ (s : Settings) (f : Buffers) (b : Bale) where
  row1 : (p : ℕ) → get_or (too_many 1024 1024 8192 b ∷ []) p false ≡ true → Fails s f b 1 p
  unfolding too_many
  row1 (suc p) h = absurd (false≢true h)
  row1 zero h =
      six (Fails s f b 1 0) false false false (ltb 1024 b.grades) (ltb 1024 (length b.markers)) (ltb 8192 (length b.pairs)) h
      (λ e. absurd (false≢true e)) (λ e. absurd (false≢true e)) (λ e. absurd (false≢true e))
      (λ e. many_grades (ltb-true _ _ e)) (λ e. many_markers (ltb-true _ _ e)) (λ e. many_pairs (ltb-true _ _ e))

  row2 : (p : ℕ) → get_or (too_small f b ∷ []) p false ≡ true → Fails s f b 2 p
  unfolding too_small work_needed
  row2 (suc p) h = absurd (false≢true h)
  row2 zero h =
      six (Fails s f b 2 0) _ _ _ _ _ _ h
      (λ e. small_work_floats (ltb-true _ _ e)) (λ e. small_work_numbers (ltb-true _ _ e)) (λ e. small_belief_numbers (ltb-true _ _ e))
      (λ e. small_belief_floats (ltb-true _ _ e)) (λ e. small_ending_numbers (ltb-true _ _ e)) (λ e. small_ending_floats (ltb-true _ _ e))

  row3 : (p : ℕ) → get_or (map (outside least_probability greatest_probability) (s.alpha ∷ s.beta ∷ s.prior ∷ [])) p false ≡ true → Fails s f b 3 p
  row3 zero h = bad_alpha h
  row3 (suc zero) h = bad_beta h
  row3 (suc (suc zero)) h = bad_prior h
  row3 (suc (suc (suc p))) h = absurd (false≢true h)

  row4 : (p : ℕ) → get_or (bad_tolerance s.tolerance ∷ ltb 1000000 s.loop_limit ∷ []) p false ≡ true → Fails s f b 4 p
  row4 zero h = tolerance h
  row4 (suc zero) h = limit (ltb-true _ _ h)
  row4 (suc (suc p)) h = absurd (false≢true h)

  row5 : (p : ℕ) → get_or (map bad_evidence b.markers) p false ≡ true → Fails s f b 5 p
  unfolding bad_evidence
  row5 p h = let r = map-test bad_evidence b.markers p h in go r.0 r.1 (or_cases _ _ r.2)
    where
      go : (e : Evidence) → get_elem? b.markers p ≡ some e → (outside least_evidence oneᶠ e.absent ≡ true) ⊎ (outside least_evidence oneᶠ e.present ≡ true) → Fails s f b 5 p
      go e m (inl t) = absent m t
      go e m (inr t) = present m t

  row6 : (p : ℕ) → get_or (map (unknown_pair b) b.pairs) p false ≡ true → Fails s f b 6 p
  unfolding unknown_pair
  row6 p h = let r = map-test (unknown_pair b) b.pairs p h in go r.0 r.1 (or_cases _ _ r.2)
    where
      go : (q : Pair) → get_elem? b.pairs p ≡ some q → (leb b.grades q.grade ≡ true) ⊎ (leb (length b.markers) q.marker ≡ true) → Fails s f b 6 p
      go q m (inl t) = unknown_grade m (leb-true _ _ t)
      go q m (inr t) = unknown_marker m (leb-true _ _ t)

  row7 : (p : ℕ) → get_or (repeated_pairs [] b.pairs) p false ≡ true → Fails s f b 7 p
  row7 p h = let r = repeats_test [] b.pairs p h in go r.0 r.1 r.2
    where
      go : (q : Pair) → get_elem? b.pairs p ≡ some q → (mem eq_pair q [] ≡ true) ⊎ ((j : ℕ) × (j < p) × (get_elem? b.pairs j ≡ some q)) → Fails s f b 7 p
      go q m (inl t) = absurd (false≢true t)
      go q m (inr t) = again t.0 t.1 t.2 m

  row8 : (p : ℕ) → get_or (map (too_many_grades b) (marker_numbers b)) p false ≡ true → Fails s f b 8 p
  unfolding too_many_grades
  row8 p h =
      let r = count_test (too_many_grades b) (length b.markers) p h in
      crowds r.0 (ltb-true _ _ r.1)

  pub row : (k p : ℕ) → test (checks s f b) k p ≡ true → Fails s f b (number_at (checks s f b) k) p
  row zero p h = row1 p h
  row (suc zero) p h = row2 p h
  row (suc (suc zero)) p h = row3 p h
  row (suc (suc (suc zero))) p h = row4 p h
  row (suc (suc (suc (suc zero)))) p h = row5 p h
  row (suc (suc (suc (suc (suc zero))))) p h = row6 p h
  row (suc (suc (suc (suc (suc (suc zero)))))) p h = row7 p h
  row (suc (suc (suc (suc (suc (suc (suc zero))))))) p h = row8 p h
  row (suc (suc (suc (suc (suc (suc (suc (suc n)))))))) p h = absurd (false≢true h)

  -- and a row of the table is a test that is true
  abbrev pub Listed : ℕ → ℕ → Type 0
  Listed n p = (k : ℕ) × (n ≡ number_at (checks s f b) k) × (test (checks s f b) k p ≡ true)

  pub listed : {n p : ℕ} → Fails s f b n p → Listed n p
  unfolding too_many too_small work_needed bad_evidence unknown_pair too_many_grades
  listed (many_grades l) = (0, refl, simp (lt-ltb _ _ l))
  listed (many_markers l) = (0, refl, simp (lt-ltb _ _ l, or-true))
  listed (many_pairs l) = (0, refl, simp (lt-ltb _ _ l, or-true))
  listed (small_work_floats l) = (1, refl, simp (lt-ltb _ _ l))
  listed (small_work_numbers l) = (1, refl, simp (lt-ltb _ _ l, or-true))
  listed (small_belief_numbers l) = (1, refl, simp (lt-ltb _ _ l, or-true))
  listed (small_belief_floats l) = (1, refl, simp (lt-ltb _ _ l, or-true))
  listed (small_ending_numbers l) = (1, refl, simp (lt-ltb _ _ l, or-true))
  listed (small_ending_floats l) = (1, refl, simp (lt-ltb _ _ l, or-true))
  listed (bad_alpha h) = (2, refl, h)
  listed (bad_beta h) = (2, refl, h)
  listed (bad_prior h) = (2, refl, h)
  listed (tolerance h) = (3, refl, h)
  listed (limit l) = (3, refl, lt-ltb _ _ l)
  listed (absent {m = m} {e = e} a h) = (4, refl, test-map bad_evidence b.markers m e a (or_left (outside least_evidence oneᶠ e.absent) (outside least_evidence oneᶠ e.present) h))
  listed (present {m = m} {e = e} a h) = (4, refl, test-map bad_evidence b.markers m e a (or_right (outside least_evidence oneᶠ e.absent) (outside least_evidence oneᶠ e.present) h))
  listed (unknown_grade {i = i} {q = q} a l) = (5, refl, test-map (unknown_pair b) b.pairs i q a (or_left (leb b.grades q.grade) (leb (length b.markers) q.marker) (le-leb _ _ l)))
  listed (unknown_marker {i = i} {q = q} a l) = (5, refl, test-map (unknown_pair b) b.pairs i q a (or_right (leb b.grades q.grade) (leb (length b.markers) q.marker) (le-leb _ _ l)))
  listed (again {i = i} {q = q} j l a h) = (6, refl, test_repeats [] b.pairs i j q l a h)
  listed (crowds {m = m} l h) =
      (7, refl, count_at (too_many_grades b) false (length b.markers) m l ∙ lt-ltb _ _ h)

  -- ---- the verdict

  -- accepted exactly if no check fails
  pub verdict_accepted : verdict s f b ≡ accepted ↔ ((n p : ℕ) → Fails s f b n p → ⊥)
  verdict_accepted = accepted_exactly (range 1 8) (Fails s f b) (checks s f b) (verdict s f b) (verdict-first s f b) refl row (λ n p. listed)

  -- refused with number n and place p exactly if check n fails at p, at no lower place, and no check that is made before fails
  pub verdict_refused : (n p : ℕ) → verdict s f b ≡ refused n p ↔ First (range 1 8) (Fails s f b) n p
  verdict_refused = refused_exactly (range 1 8) (Fails s f b) (checks s f b) (verdict s f b) (verdict-first s f b) refl row (λ n p. listed)

  -- ---- a refusal's number and place are small

  abbrev Small : ℕ → ℕ → Type 0
  Small n p = (1 ≤ n) × (n ≤ 8) × (p < 8192)

  abbrev Earlier : ℕ → Type 0
  Earlier n = (m q : ℕ) → index_of eqb m (range 1 8) < index_of eqb n (range 1 8) → Fails s f b m q → ⊥

  small_marker : (n p : ℕ) → 1 ≤ n → n ≤ 8 → (1024 < length b.markers → ⊥) → p < length b.markers → Small n p
  small_marker n p l u h k = (l, u, omega arith)

  small_pair : (n p : ℕ) → 1 ≤ n → n ≤ 8 → (8192 < length b.pairs → ⊥) → p < length b.pairs → Small n p
  small_pair n p l u h k = (l, u, omega arith)

  small : {n p : ℕ} → Fails s f b n p → Earlier n → Small n p
  small (many_grades l) h = omega arith
  small (many_markers l) h = omega arith
  small (many_pairs l) h = omega arith
  small (small_work_floats l) h = omega arith
  small (small_work_numbers l) h = omega arith
  small (small_belief_numbers l) h = omega arith
  small (small_belief_floats l) h = omega arith
  small (small_ending_numbers l) h = omega arith
  small (small_ending_floats l) h = omega arith
  small (bad_alpha x) h = omega arith
  small (bad_beta x) h = omega arith
  small (bad_prior x) h = omega arith
  small (tolerance x) h = omega arith
  small (limit x) h = omega arith
  small (absent {m = m} {e = e} a x) h = small_marker 5 m (omega arith) (omega arith) (λ z. h 1 0 (omega arith) (many_markers z)) (nth_lt b.markers m e a)
  small (present {m = m} {e = e} a x) h = small_marker 5 m (omega arith) (omega arith) (λ z. h 1 0 (omega arith) (many_markers z)) (nth_lt b.markers m e a)
  small (unknown_grade {i = i} {q = q} a x) h = small_pair 6 i (omega arith) (omega arith) (λ z. h 1 0 (omega arith) (many_pairs z)) (nth_lt b.pairs i q a)
  small (unknown_marker {i = i} {q = q} a x) h = small_pair 6 i (omega arith) (omega arith) (λ z. h 1 0 (omega arith) (many_pairs z)) (nth_lt b.pairs i q a)
  small (again {i = i} {q = q} j l a x) h = small_pair 7 i (omega arith) (omega arith) (λ z. h 1 0 (omega arith) (many_pairs z)) (nth_lt b.pairs i q x)
  small (crowds {m = m} l x) h = small_marker 8 m (omega arith) (omega arith) (λ z. h 1 0 (omega arith) (many_markers z)) l

  pub refused_small : (n p : ℕ) → verdict s f b ≡ refused n p → (1 ≤ n) × (n ≤ 8) × (p < 8192)
  refused_small n p h = let x = (verdict_refused n p).0 h in small x.fails x.earlier
