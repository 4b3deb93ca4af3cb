-- How many grades each marker has, counted pair by pair.
use Rattle.std.specs.Prelude.{ℕ, suc, ◌+◌, ◌*◌, ◌/◌, ◌≤◌, ◌<◌, ◌≡◌, refl, Bool, true, List, ◌∷◌, map, eqb, ltb, Float, length, get_or, set, drop, replicate}
use Rattle.std.proofs.Common.{add-one, arith, sym, ap, subst, ◌∙◌, eqb-true, eq-eqb, ne_eqb, drop_of_length-le, drop-cons, get_or-set_same, get_or-set_other}
use Rattle.std.proofs.Math.Bool.{false}
use Rattle.std.proofs.lemmas.Bool.{eqb-false}
use Rattle.std.proofs.Math.ListN.{length-map}
use Rattle.definition.specs.Lists.{cons_if, filter}
use Rattle.definition.specs.FactorGraph.{Pair, marker_numbers, grades_of}
use Rattle.definition.specs.Refusals.{pairs_of, markers_of, bale_of, too_many_grades}
use Rattle.graph_laws.specs.Lists.{length_count, count_at}
use Rattle.graph_laws.specs.OneComponent.{filter-length}
use Rattle.checks.specs.Slices.{zeros, pair_at, no_pair, length_markers, length_pairs, get_d_pairs}

-- how many of the pairs are marker m's
abbrev pub grade_count : List Pair → ℕ → ℕ
grade_count ps m = length (grades_of ps m)

one_more_lem : (p : Pair) (ps : List Pair) (m : ℕ) → p.marker ≡ m → grade_count (p ∷ ps) m ≡ suc (grade_count ps m)
one_more_lem p ps m e = ap (λ (b : Bool). length (map (λ q. q.grade) (cons_if b p (filter (λ q. eqb q.marker m) ps)))) (eq-eqb p.marker m e)

no_more : (p : Pair) (ps : List Pair) (m : ℕ) → (p.marker ≡ m → ⊥) → grade_count (p ∷ ps) m ≡ grade_count ps m
no_more p ps m n = ap (λ (b : Bool). length (map (λ q. q.grade) (cons_if b p (filter (λ q. eqb q.marker m) ps)))) (ne_eqb p.marker m n)

count_most : (ps : List Pair) (m : ℕ) → grade_count ps m ≤ length ps
count_most ps m = omega (arith, length-map (filter (λ q. eqb q.marker m) ps) (λ q. q.grade), filter-length (λ q. eqb q.marker m) ps)

-- the pairs before place i are counted
abbrev pub Counted : List Pair → ℕ → List ℕ → Type 0
Counted ps i c = (m : ℕ) → m < 1024 → get_or c m 0 + grade_count (drop i ps) m ≡ grade_count ps m

pub counted_none : (ps : List Pair) → Counted ps 0 (replicate 1024 0)
counted_none ps m l = omega (arith, zeros 1024 m)

module _ (ps c : List ℕ) (i k : ℕ) (l : i < length ps / 2) (e : k ≡ get_or ps (2 * i + 1) 0) (b : k < 1024) (C : Counted (pairs_of ps) i c) where
  here : drop i (pairs_of ps) ≡ pair_at ps i ∷ drop (suc i) (pairs_of ps)
  here = drop-cons (pairs_of ps) i no_pair (omega (arith, length_pairs ps)) ∙ ap (λ (q : Pair). q ∷ drop (suc i) (pairs_of ps)) (get_d_pairs ps i no_pair l)

  own : grade_count (drop i (pairs_of ps)) k ≡ suc (grade_count (drop (suc i) (pairs_of ps)) k)
  own = ap (λ (qs : List Pair). grade_count qs k) here ∙ one_more_lem (pair_at ps i) (drop (suc i) (pairs_of ps)) k (sym e)

  pub counted-fits : get_or c k 0 < length ps / 2
  counted-fits = omega (arith, C k b, own, count_most (pairs_of ps) k, length_pairs ps)

  pub counted_next : length c ≡ 1024 → Counted (pairs_of ps) (i + 1) (set c k (get_or c k 0 + 1))
  counted_next s m a = subst (λ (j : ℕ). get_or (set c k (get_or c k 0 + 1)) m 0 + grade_count (drop j (pairs_of ps)) m ≡ grade_count (pairs_of ps) m) (sym (add-one i)) (go (eqb m k) refl)
    where
      go : (t : Bool) → eqb m k ≡ t → get_or (set c k (get_or c k 0 + 1)) m 0 + grade_count (drop (suc i) (pairs_of ps)) m ≡ grade_count (pairs_of ps) m
      go true q =
          subst (λ (n : ℕ). get_or (set c k (get_or c k 0 + 1)) n 0 + grade_count (drop (suc i) (pairs_of ps)) n ≡ grade_count (pairs_of ps) n) (sym (eqb-true m k q))
          (omega (arith, get_or-set_same c k (get_or c k 0 + 1) 0 (omega arith), C k b, own))
      go false q =
          let n : m ≡ k → ⊥ = eqb-false m k q in
          omega (
            arith,
            get_or-set_other c k m (get_or c k 0 + 1) 0 n,
            C m a,
            ap (λ (qs : List Pair). grade_count qs m) here,
            no_more (pair_at ps i) (drop (suc i) (pairs_of ps)) m (λ r. n (sym r ∙ sym e)),
          )

pub counted-all : (ps : List Pair) (i : ℕ) (c : List ℕ) → length ps ≤ i → Counted ps i c → (m : ℕ) → m < 1024 → get_or c m 0 ≡ grade_count ps m
counted-all ps i c l C m b = omega (arith, C m b, ap (λ (qs : List Pair). grade_count qs m) (drop_of_length-le ps l))

-- ---- the test of each marker

module _ (g : ℕ) (es : List Float) (ps : List ℕ) where
  pub shared_count : length (map (too_many_grades (bale_of g es ps)) (marker_numbers (bale_of g es ps))) ≡ length es / 2
  unfolding bale_of
  shared_count = length-map (marker_numbers (bale_of g es ps)) (too_many_grades (bale_of g es ps)) ∙ length_count 0 (length (markers_of es)) ∙ length_markers es

  pub shared-test : (m : ℕ) → m < length es / 2 → get_or (map (too_many_grades (bale_of g es ps)) (marker_numbers (bale_of g es ps))) m false ≡ ltb 128 (grade_count (pairs_of ps) m)
  unfolding bale_of too_many_grades
  shared-test m l =
      count_at (too_many_grades (bale_of g es ps)) false (length (markers_of es)) m (omega (arith, length_markers es))
