-- How many present grades each marker has, counted pair by pair.
use Rattle.std.specs.Prelude.{ℕ, zero, suc, ◌+◌, ◌*◌, ◌/◌, ◌≤◌, ◌<◌, ◌≡◌, refl, Bool, true, false, List, [], ◌∷◌, ◌++◌, map, eqb, length, get_or, take, set, replicate}
use Rattle.std.proofs.Common.{add-one, arith, sym, ap, ◌∙◌, subst, true≢false, take-suc, take_all, get_or-set_same, get_or-set_other, length-take-le}
use Rattle.std.proofs.lemmas.List.{map-append, length-map}
use Rattle.definition.specs.Lists.{cons_if, filter}
use Rattle.definition.specs.FactorGraph.{Pair, Bale, grades_of}
use Rattle.definition.specs.Refusals.{pairs_of}
use Rattle.definition.specs.Trials.{TrialSetting, present_among, marker_limits}
use Rattle.graph_laws.specs.Bools.{eqb_sound, eqb_same}
use Rattle.graph_laws.specs.Lists.{All, All-mono, filter_append}
use Rattle.graph_laws.specs.AloneChecks.{All-getD}
use Rattle.graph_laws.specs.Twos.{length-twos, twos-at}
use Rattle.report_laws.specs.Counts.{one_if, count_cons, count_append, count_le}

-- ---- what is asked and answered

-- each pair names a grade and a marker that are there
abbrev pub Known : ℕ → ℕ → List ℕ → Type 0
Known g m ps = All (λ q. (q.grade < g) × (q.marker < m)) (pairs_of ps)

abbrev pub NoneCounted : List ℕ → Type 0
NoneCounted cs = (m : ℕ) → get_or cs m 0 ≡ 0

-- how many present grades marker m has
abbrev pub present_count : List Bool → List Pair → ℕ → ℕ
present_count ds ps m = length (present_among ds (grades_of ps m))

abbrev pub PresentCounted : List Bool → List ℕ → List ℕ → Type 0
PresentCounted ds ps cs = (m : ℕ) → get_or cs m 0 ≡ present_count ds (pairs_of ps) m

-- beta, and alpha so many times
abbrev pub count_limits : TrialSetting → ℕ → List ℕ
count_limits t n = t.beta ∷ replicate n t.alpha

abbrev pub limits_at : TrialSetting → List ℕ → ℕ → List ℕ
limits_at t cs m = count_limits t (get_or cs m 0)

-- the graph of so many grades and markers and these pairs
pub record GraphOf (b : Bale) (g m : ℕ) (ps : List ℕ) : Type 0 where
  pub grades : b.grades ≡ g
  pub markers : length b.markers ≡ m
  pub pairs : b.pairs ≡ pairs_of ps

-- ---- one pair more

-- a pair as it lies in the slice
abbrev pub pair_at : List ℕ → ℕ → Pair
pair_at ps i = record { grade = get_or ps (2 * i) 0; marker = get_or ps (2 * i + 1) 0 }

no_pair : Pair
no_pair = record { grade = 0; marker = 0 }

pair_at_lem : (ps : List ℕ) (i : ℕ) → i < length ps / 2 → get_or (pairs_of ps) i no_pair ≡ pair_at ps i
unfolding pairs_of
pair_at_lem ps i h = twos-at _ ps i 0 no_pair h

pub length_pairs : (ps : List ℕ) → length (pairs_of ps) ≡ length ps / 2
unfolding pairs_of
length_pairs = length-twos _

pub known_at : (g m : ℕ) (ps : List ℕ) (i : ℕ) → i < length ps / 2 → Known g m ps → (get_or ps (2 * i) 0 < g) × (get_or ps (2 * i + 1) 0 < m)
known_at g m ps i h k =
    subst (λ (q : Pair). (q.grade < g) × (q.marker < m)) (pair_at_lem ps i h)
    (All-getD (λ q. (q.grade < g) × (q.marker < m)) (pairs_of ps) k no_pair i (omega (arith, length_pairs ps)))

pub known_more : (g m g' m' : ℕ) (ps : List ℕ) → g ≤ g' → m ≤ m' → Known g m ps → Known g' m' ps
known_more g m g' m' ps a b = All-mono (λ q. (q.grade < g) × (q.marker < m)) (λ q. (q.grade < g') × (q.marker < m')) (λ q z. (omega (arith, z.0), omega (arith, z.1))) (pairs_of ps)

pub none-counted : (n : ℕ) → NoneCounted (replicate n 0)
none-counted zero m = refl
none-counted (suc n) zero = refl
none-counted (suc n) (suc m) = none-counted n m

module _ (ds : List Bool) where
  -- what pair q adds to marker m's count
  abbrev added : Pair → ℕ → ℕ
  added q m = length (present_among ds (map (λ (p : Pair). p.grade) (cons_if (eqb q.marker m) q [])))

  count_more : (ps : List Pair) (q : Pair) (m : ℕ) → present_count ds (ps ++ q ∷ []) m ≡ present_count ds ps m + added q m
  count_more ps q m =
      let own : Pair → Bool = λ p. eqb p.marker m in
      let grade : Pair → ℕ = λ p. p.grade in
      ap (λ (l : List Pair). length (present_among ds (map grade l))) (filter_append own ps (q ∷ []))
      ∙ ap (λ (l : List ℕ). length (present_among ds l)) (map-append grade (filter own ps) (filter own (q ∷ [])))
      ∙ count_append (λ g. get_or ds g false) (grades_of ps m) (map grade (filter own (q ∷ [])))

  added-own : (q : Pair) (m : ℕ) → eqb q.marker m ≡ true → added q m ≡ one_if (get_or ds q.grade false)
  added-own q m e = rw e (omega (arith, count_cons (λ g. get_or ds g false) q.grade []))

  added_other : (q : Pair) (m : ℕ) → eqb q.marker m ≡ false → added q m ≡ 0
  added_other q m e = rw e

  -- the first i pairs are counted
  abbrev pub PresentTo : List ℕ → ℕ → List ℕ → Type 0
  PresentTo ps i cs = (m : ℕ) → get_or cs m 0 ≡ present_count ds (take i (pairs_of ps)) m

  pub present-next : (ps : List ℕ) (i : ℕ) (cs : List ℕ) → i < length ps / 2 → get_or ps (2 * i + 1) 0 < length cs → PresentTo ps i cs →
      PresentTo ps (i + 1) (set cs (get_or ps (2 * i + 1) 0) (get_or cs (get_or ps (2 * i + 1) 0) 0 + one_if (get_or ds (get_or ps (2 * i) 0) false)))
  present-next ps i cs l h C m =
      let q = pair_at ps i in
      let qs = pairs_of ps in
      let more : present_count ds (take (i + 1) qs) m ≡ present_count ds (take i qs) m + added q m =
      ap (λ (k : ℕ). present_count ds (take k qs) m) (add-one i)
      ∙ ap (λ (y : List Pair). present_count ds y m) (take-suc qs i no_pair (omega (arith, length_pairs ps)) ∙ ap (λ (p : Pair). take i qs ++ p ∷ []) (pair_at_lem ps i l))
      ∙ count_more (take i qs) q m in
      go (eqb q.marker m) refl more
    where
      v : ℕ
      v = get_or cs (get_or ps (2 * i + 1) 0) 0 + one_if (get_or ds (get_or ps (2 * i) 0) false)

      go : (b : Bool) → eqb (get_or ps (2 * i + 1) 0) m ≡ b → present_count ds (take (i + 1) (pairs_of ps)) m ≡ present_count ds (take i (pairs_of ps)) m + added (pair_at ps i) m →
          get_or (set cs (get_or ps (2 * i + 1) 0) v) m 0 ≡ present_count ds (take (i + 1) (pairs_of ps)) m
      go true e more =
          let k = get_or ps (2 * i + 1) 0 in
          let z : k ≡ m = eqb_sound k m e in
          ap (λ (n : ℕ). get_or (set cs k v) n 0) (sym z) ∙ get_or-set_same cs k v 0 h
          ∙ ap (λ (n : ℕ). get_or cs n 0 + one_if (get_or ds (get_or ps (2 * i) 0) false)) z
          ∙ omega (arith, C m, more, added-own (pair_at ps i) m e)
      go false e more =
          let k = get_or ps (2 * i + 1) 0 in
          get_or-set_other cs k m v 0 (λ z. true≢false (sym (eqb_same m) ∙ ap (λ (n : ℕ). eqb n m) z ∙ e))
          ∙ omega (arith, C m, more, added_other (pair_at ps i) m e)

  -- none has more than there are pairs
  pub present_few : (ps : List ℕ) (i : ℕ) (cs : List ℕ) → i ≤ length ps / 2 → PresentTo ps i cs → (m : ℕ) → get_or cs m 0 ≤ i
  present_few ps i cs l C m =
      let qs = take i (pairs_of ps) in
      let own : Pair → Bool = λ p. eqb p.marker m in
      omega
      (arith, C m, count_le (λ g. get_or ds g false) (grades_of qs m), length-map (filter own qs) (λ (p : Pair). p.grade), count_le own qs, length-take-le i (pairs_of ps) (omega (arith, length_pairs ps)))

  pub present-all : (ps : List ℕ) (i : ℕ) (cs : List ℕ) → i ≡ length ps / 2 → PresentTo ps i cs → PresentCounted ds ps cs
  present-all ps i cs e C m = C m ∙ ap (λ (qs : List Pair). present_count ds qs m) (take_all i (pairs_of ps) (omega (arith, length_pairs ps)))

-- ---- the limits of a marker

constant : (a : ℕ) (gs : List ℕ) → map (λ g. a) gs ≡ replicate (length gs) a
constant a [] = refl
constant a (g ∷ gs) = ap (λ (l : List ℕ). a ∷ l) (constant a gs)

pub limits_counted : (t : TrialSetting) (ds : List Bool) (gs : List ℕ) → marker_limits t ds gs ≡ count_limits t (length (present_among ds gs))
unfolding marker_limits
limits_counted t ds gs = ap (λ (l : List ℕ). t.beta ∷ l) (constant t.alpha (present_among ds gs))
