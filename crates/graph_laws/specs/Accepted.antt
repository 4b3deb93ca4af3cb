-- What an accepted bale passes, check by check; and that the part entered by itself passes every check that the whole passes, the buffers' included.
use Rattle.std.specs.Prelude.{ℕ, suc, ◌*◌, ◌≤◌, ◌<◌, ◌≡◌, refl, Bool, true, false, List, [], ◌∷◌, map, leb, ltb, length}
use Rattle.std.proofs.Common.{arith, sym, ap, ◌∙◌, subst, true≢false}
use Rattle.std.proofs.Math.Option.{Option, none, some}
use Rattle.graph_laws.specs.Bools.{not-true, or_no, no_or, no_ltb, ltb_no, no_leb, leb_no}
use Rattle.definition.specs.Lists.{mem}
use Rattle.definition.specs.Settings.{Settings}
use Rattle.definition.specs.FactorGraph.{Pair, eq_pair, Bale, Node, eq_node, marker_numbers, grades_of, built_nodes, built_edges, built_graph}
use Rattle.definition.specs.Refusals.{Buffers, least_probability, greatest_probability, outside, too_many, work_needed, too_small, bad_tolerance, bad_evidence, unknown_pair, lowest_place_from, lowest_place, repeated_pairs, too_many_grades, Verdict, accepted, refused, or_refused, verdict}
use Rattle.definition.specs.PartAlone.{part_alone}
use Rattle.graph_laws.specs.Lists.{All, All-mono, All-at, All-map-into, All-map-from}
use Rattle.graph_laws.specs.Ranks.{NoDup, others}
use Rattle.graph_laws.specs.Components.{Both, Holds}
use Rattle.graph_laws.specs.Names.{Valid}
use Rattle.graph_laws.specs.Locality.{Part, of_nodes, passes}
use Rattle.graph_laws.specs.AloneChecks.{eq_pair_sound, eq_pair-same, fewer_grades, fewer_markers, fewer_pairs, evidence-kept, pairs_once, counts-kept}

-- ---- the lowest place: there is none where no test is true

abbrev IsNothing : Option ℕ → Type 0
IsNothing none = Unit {0}
IsNothing (some n) = ⊥

pub no_place : (i : ℕ) (bs : List Bool) → lowest_place_from i bs ≡ none → All (λ c. c ≡ false) bs
unfolding lowest_place_from
no_place i [] h = tt
no_place i (true ∷ bs) h = absurd (subst IsNothing (sym h) tt)
no_place i (false ∷ bs) h = (refl, no_place (suc i) bs h)

pub nowhere : (i : ℕ) (bs : List Bool) → All (λ c. c ≡ false) bs → lowest_place_from i bs ≡ none
unfolding lowest_place_from
nowhere i [] h = refl
nowhere i (true ∷ bs) h = absurd (true≢false h.0)
nowhere i (false ∷ bs) h = nowhere (suc i) bs h.1

abbrev IsAccepted : Verdict → Type 0
IsAccepted accepted = Unit {0}
IsAccepted (refused n p) = ⊥

pub passed : (n : ℕ) (o : Option ℕ) (v : Verdict) → or_refused n o v ≡ accepted → (o ≡ none) × (v ≡ accepted)
unfolding or_refused
passed n none v h = (refl, h)
passed n (some p) v h = absurd (subst IsAccepted (sym h) tt)

passing : (n : ℕ) (o : Option ℕ) (v : Verdict) → o ≡ none → v ≡ accepted → or_refused n o v ≡ accepted
unfolding or_refused
passing n o v h k = ap (λ (x : Option ℕ). or_refused n x v) h ∙ k

-- ---- what an accepted bale passes

pub record Passes (s : Settings) (f : Buffers) (b : Bale) : Type 0 where
  pub sizes : All (λ c. c ≡ false) (too_many 1024 1024 8192 b ∷ [])
  pub buffers : All (λ c. c ≡ false) (too_small f b ∷ [])
  pub numbers : All (λ c. c ≡ false) (map (outside least_probability greatest_probability) (s.alpha ∷ s.beta ∷ s.prior ∷ []))
  pub loop : All (λ c. c ≡ false) (bad_tolerance s.tolerance ∷ ltb 1000000 s.loop_limit ∷ [])
  pub evidence : All (λ c. c ≡ false) (map bad_evidence b.markers)
  pub known : All (λ c. c ≡ false) (map (unknown_pair b) b.pairs)
  pub once : All (λ c. c ≡ false) (repeated_pairs [] b.pairs)
  pub few : All (λ c. c ≡ false) (map (too_many_grades b) (marker_numbers b))

pub passes_all : (s : Settings) (f : Buffers) (b : Bale) → verdict s f b ≡ accepted → Passes s f b
unfolding verdict lowest_place
passes_all s f b h =
    let h1 = passed 1 _ _ h in
    let h2 = passed 2 _ _ h1.1 in
    let h3 = passed 3 _ _ h2.1 in
    let h4 = passed 4 _ _ h3.1 in
    let h5 = passed 5 _ _ h4.1 in
    let h6 = passed 6 _ _ h5.1 in
    let h7 = passed 7 _ _ h6.1 in
    let h8 = passed 8 _ _ h7.1 in
    record {
      sizes = no_place 0 _ h1.0;
      buffers = no_place 0 _ h2.0;
      numbers = no_place 0 _ h3.0;
      loop = no_place 0 _ h4.0;
      evidence = no_place 0 _ h5.0;
      known = no_place 0 _ h6.0;
      once = no_place 0 _ h7.0;
      few = no_place 0 _ h8.0;
    }

pub all-passed : (s : Settings) (f : Buffers) (b : Bale) → Passes s f b → verdict s f b ≡ accepted
unfolding verdict lowest_place
all-passed s f b p =
    passing 1 _ _ (nowhere 0 _ p.sizes)
    (passing 2 _ _ (nowhere 0 _ p.buffers)
    (passing 3 _ _ (nowhere 0 _ p.numbers)
    (passing 4 _ _ (nowhere 0 _ p.loop)
    (passing 5 _ _ (nowhere 0 _ p.evidence)
    (passing 6 _ _ (nowhere 0 _ p.known) (passing 7 _ _ (nowhere 0 _ p.once) (passing 8 _ _ (nowhere 0 _ p.few) refl)))))))

-- ---- as facts of numbers and lists

pub record Sized (b : Bale) : Type 0 where
  pub grades : b.grades ≤ 1024
  pub markers : length b.markers ≤ 1024
  pub pairs : length b.pairs ≤ 8192

pub sized : (b : Bale) → too_many 1024 1024 8192 b ≡ false → Sized b
unfolding too_many
sized b h =
    let x = or_no _ _ h in
    let y = or_no _ _ x.0 in
    record { grades = no_ltb _ _ y.0; markers = no_ltb _ _ y.1; pairs = no_ltb _ _ x.1 }

pub valid : (b : Bale) → All (λ c. c ≡ false) (map (unknown_pair b) b.pairs) → Valid b
unfolding unknown_pair
valid b h =
    All-mono (λ q. unknown_pair b q ≡ false) (λ q. (q.grade < b.grades) × (q.marker < length b.markers))
    (λ q n. let x = or_no (leb b.grades q.grade) (leb (length b.markers) q.marker) n in (no_leb _ _ x.0, no_leb _ _ x.1))
    b.pairs (All-map-from (λ c. c ≡ false) (unknown_pair b) b.pairs h)

known_of : (b : Bale) → Valid b → All (λ c. c ≡ false) (map (unknown_pair b) b.pairs)
unfolding unknown_pair
known_of b v =
    All-map-into (λ c. c ≡ false) (unknown_pair b) b.pairs
    (All-mono (λ q. (q.grade < b.grades) × (q.marker < length b.markers)) (λ q. unknown_pair b q ≡ false)
    (λ q l. no_or (leb b.grades q.grade) (leb (length b.markers) q.marker) (leb_no _ _ l.0) (leb_no _ _ l.1)) b.pairs v)

-- no pair is given twice
once_from : (before ps : List Pair) → All (λ c. c ≡ false) (repeated_pairs before ps) → NoDup eq_pair ps × All (λ q. mem eq_pair q before ≡ false) ps
unfolding repeated_pairs
once_from before [] h = (tt, tt)
once_from before (p ∷ ps) h =
    let r = once_from (p ∷ before) ps h.1 in (
      (not-true (mem eq_pair p ps) (λ m. true≢false (sym (eq_pair-same p) ∙ (or_no _ _ (All-at eq_pair eq_pair_sound (λ q. mem eq_pair q (p ∷ before) ≡ false) ps r.1 p m)).0)), r.0),
      (h.0, All-mono (λ q. mem eq_pair q (p ∷ before) ≡ false) (λ q. mem eq_pair q before ≡ false) (λ q n. (or_no (eq_pair q p) _ n).1) ps r.1),
    )

from_once : (before ps : List Pair) → NoDup eq_pair ps → All (λ q. mem eq_pair q before ≡ false) ps → All (λ c. c ≡ false) (repeated_pairs before ps)
unfolding repeated_pairs
from_once before [] n h = tt
from_once before (p ∷ ps) n h = (h.0, from_once (p ∷ before) ps n.1 (both ps (others eq_pair eq_pair_sound eq_pair-same p ps n.0) h.1))
  where
    both : (qs : List Pair) → All (λ q. eq_pair q p ≡ false) qs → All (λ q. mem eq_pair q before ≡ false) qs → All (λ q. mem eq_pair q (p ∷ before) ≡ false) qs
    both [] a c = tt
    both (q ∷ qs) a c = (no_or (eq_pair q p) (mem eq_pair q before) a.0 c.0, both qs a.1 c.1)

pub pairs_apart : (b : Bale) → All (λ c. c ≡ false) (repeated_pairs [] b.pairs) → NoDup eq_pair b.pairs
pairs_apart b h = (once_from [] b.pairs h).0

-- no marker has over 128 grades
pub uncrowded : (b : Bale) → All (λ c. c ≡ false) (map (too_many_grades b) (marker_numbers b)) → All (λ m. length (grades_of b.pairs m) ≤ 128) (marker_numbers b)
unfolding too_many_grades
uncrowded b h =
    All-mono (λ m. too_many_grades b m ≡ false) (λ m. length (grades_of b.pairs m) ≤ 128) (λ m n. no_ltb _ _ n) (marker_numbers b)
    (All-map-from (λ c. c ≡ false) (too_many_grades b) (marker_numbers b) h)

crowded_not : (b : Bale) → All (λ m. length (grades_of b.pairs m) ≤ 128) (marker_numbers b) → All (λ c. c ≡ false) (map (too_many_grades b) (marker_numbers b))
unfolding too_many_grades
crowded_not b h =
    All-map-into (λ c. c ≡ false) (too_many_grades b) (marker_numbers b)
    (All-mono (λ m. length (grades_of b.pairs m) ≤ 128) (λ m. too_many_grades b m ≡ false) (λ m n. ltb_no _ _ n) (marker_numbers b) h)

-- ---- a smaller bale has the sizes and the buffers that a larger one has

pub record Smaller (a b : Bale) : Type 0 where
  pub grades : a.grades ≤ b.grades
  pub markers : length a.markers ≤ length b.markers
  pub pairs : length a.pairs ≤ length b.pairs

ltb_less : (n x y : ℕ) → x ≤ y → ltb n y ≡ false → ltb n x ≡ false
ltb_less n x y l h = ltb_no n x (omega (arith, no_ltb n y h))

smaller_sizes : (a b : Bale) → Smaller a b → too_many 1024 1024 8192 b ≡ false → too_many 1024 1024 8192 a ≡ false
unfolding too_many
smaller_sizes a b l h =
    let x = or_no _ _ h in
    let y = or_no _ _ x.0 in
    no_or _ _ (no_or _ _ (ltb_less 1024 a.grades b.grades l.grades y.0) (ltb_less 1024 (length a.markers) (length b.markers) l.markers y.1))
    (ltb_less 8192 (length a.pairs) (length b.pairs) l.pairs x.1)

less_work : (a b : Bale) → Smaller a b → work_needed a ≤ work_needed b
unfolding work_needed
less_work a b l = omega (arith, l.grades, l.markers, l.pairs)

smaller_buffers : (f : Buffers) (a b : Bale) → Smaller a b → too_small f b ≡ false → too_small f a ≡ false
unfolding too_small work_needed
smaller_buffers f a b l h =
    let w = less_work a b l in
    let x5 = or_no _ _ h in
    let x4 = or_no _ _ x5.0 in
    let x3 = or_no _ _ x4.0 in
    let x2 = or_no _ _ x3.0 in
    let x1 = or_no _ _ x2.0 in
    no_or _ _
    (no_or _ _
    (no_or _ _
    (no_or _ _
    (no_or _ _ (ltb_less f.work_floats (work_needed a) (work_needed b) w x1.0) (ltb_less f.work_numbers (work_needed a) (work_needed b) w x1.1))
    (ltb_less f.belief_numbers a.grades b.grades l.grades x2.1))
    (ltb_less f.belief_floats (2 * a.grades) (2 * b.grades) (omega (arith, l.grades)) x3.1))
    (ltb_less f.ending_numbers (4 * a.grades) (4 * b.grades) (omega (arith, l.grades)) x4.1))
    (ltb_less f.ending_floats a.grades b.grades l.grades x5.1)

-- ---- the part entered by itself

module _ (s : Settings) (f : Buffers) (b : Bale) (P : Passes s f b) (p : List Node) (is : Part b (valid b P.known) p) where
  abbrev ok : Valid b
  ok = valid b P.known

  both : All (Both eq_node p) (built_edges b)
  unfolding built_graph
  both = is.both

  abbrev inside : All (Holds eq_node (built_nodes b)) p
  inside = of_nodes b ok p is

  alone_smaller : Smaller (part_alone b p) b
  alone_smaller = record { grades = fewer_grades b ok p both inside; markers = fewer_markers b ok p both inside; pairs = fewer_pairs b ok p both inside }

  alone_passes : Passes s f (part_alone b p)
  alone_passes =
      record {
        sizes = (smaller_sizes (part_alone b p) b alone_smaller P.sizes.0, tt);
        buffers = (smaller_buffers f (part_alone b p) b alone_smaller P.buffers.0, tt);
        numbers = P.numbers;
        loop = P.loop;
        evidence = All-map-into (λ c. c ≡ false) bad_evidence (part_alone b p).markers (evidence-kept b ok p both inside (λ e. bad_evidence e ≡ false) (All-map-from (λ c. c ≡ false) bad_evidence b.markers P.evidence));
        known = known_of (part_alone b p) (passes b ok p is);
        once = from_once [] (part_alone b p).pairs (pairs_once b ok p both inside (pairs_apart b P.once)) (none (part_alone b p).pairs);
        few = crowded_not (part_alone b p) (counts-kept b ok p both inside (λ n. n ≤ 128) (uncrowded b P.few));
      }
    where
      none : (ps : List Pair) → All (λ q. mem eq_pair q [] ≡ false) ps
      none [] = tt
      none (q ∷ ps) = (refl, none ps)

  -- the part entered by itself is accepted, with the same buffers
  pub alone_accepted : verdict s f (part_alone b p) ≡ accepted
  alone_accepted = all-passed s f (part_alone b p) alone_passes
