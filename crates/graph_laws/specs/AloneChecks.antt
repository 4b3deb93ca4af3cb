-- The part entered by itself passes each check that the whole bale passes: sizes, evidence, pairs given once, grades of a marker. (Check 6 is `valid_alone`.)
use Rattle.std.specs.Prelude.{◌≡◌, Bool, true}
use Rattle.std.proofs.Common.{sym, ap, ◌∙◌, arith}
use Rattle.std.proofs.Math.Path.{subst}
use mathlib.Core.List.{List, [], ◌∷◌, map}
use Prim.Native.Nat.{ℕ, zero, suc, ◌≤◌, ◌<◌}
use Rattle.std.proofs.Math.ListN.{length, length-map, get_or}
use Rattle.std.proofs.Math.Dec.{eqb}
use Rattle.graph_laws.specs.Bools.{and_left, and_right, eqb_sound, eqb_same}
use Rattle.definition.specs.Lists.{mem, index_of}
use Rattle.graph_laws.specs.Lists.{All, upto, length_count, All-map-into, All-mono, All-both, All-filter, All-at, All-in, filter_holds}
use Rattle.graph_laws.specs.Walk.{mem-map}
use Rattle.graph_laws.specs.Ranks.{NoDup, index_inj, upto-below, filter_nodup, mem-upto}
use Rattle.definition.specs.FactorGraph.{Evidence, no_evidence, Bale, Pair, eq_pair, Node, grade_node, factor_node, eq_node, grades_of, marker_numbers, built_nodes, built_edges}
use Rattle.definition.specs.PartAlone.{grades_in, markers_in, pairs_in, renumbered, part_alone}
use Rattle.graph_laws.specs.Components.{Holds, Both}
use Rattle.graph_laws.specs.OneComponent.{filter-length}
use Rattle.graph_laws.specs.Names.{Valid}
use Rattle.graph_laws.specs.Renumbering.{of_grade_lem, to-ms, pairs_tied, grades_renamed, new_markers}

pub eq_pair_sound : (q r : Pair) → eq_pair q r ≡ true → q ≡ r
eq_pair_sound q r h =
    λ i. record {
      grade = eqb_sound q.grade r.grade (and_left (eqb q.grade r.grade) (eqb q.marker r.marker) h) i;
      marker = eqb_sound q.marker r.marker (and_right (eqb q.grade r.grade) (eqb q.marker r.marker) h) i;
    }

pub eq_pair-same : (q : Pair) → eq_pair q q ≡ true
eq_pair-same q = rw (eqb_same q.grade) (eqb_same q.marker)

pub nodup_map : {A B : Type 0} (eq_a : A → A → Bool) (eq_b : B → B → Bool) (f : A → B) (C : A → Type 0)
    → ((a b : A) → C a → C b → eq_b (f a) (f b) ≡ eq_a a b) → (xs : List A) → All C xs → NoDup eq_a xs → NoDup eq_b (map f xs)
nodup_map eq_a eq_b f C inj [] c n = tt
nodup_map eq_a eq_b f C inj (x ∷ xs) c n = (mem-map eq_a eq_b f C inj x xs c.0 c.1 ∙ n.0, nodup_map eq_a eq_b f C inj xs c.1 n.1)

pub length-upto : (n : ℕ) → length (upto n) ≡ n
length-upto n = length_count 0 n

pub All-getD : {E : Type 0} (P : E → Type 0) (l : List E) → All P l → (d : E) (m : ℕ) → m < length l → P (get_or l m d)
All-getD P [] h d m k = absurd (omega arith)
All-getD P (x ∷ xs) h d zero k = h.0
All-getD P (x ∷ xs) h d (suc m) k = All-getD P xs h.1 d m (omega arith)

module _ (b : Bale) (valid : Valid b) (p : List Node) (both : All (Both eq_node p) (built_edges b))
    (in_nodes : All (Holds eq_node (built_nodes b)) p) where
  pub fewer_grades : (part_alone b p).grades ≤ b.grades
  unfolding part_alone
  fewer_grades = omega (arith, filter-length (λ g. mem eq_node (grade_node g) p) (upto b.grades), length-upto b.grades)

  pub fewer_markers : length (part_alone b p).markers ≤ length b.markers
  unfolding part_alone
  fewer_markers =
      omega
      (arith, length-map (markers_in b p) (λ m. get_or b.markers m no_evidence), filter-length (λ m. mem eq_node (factor_node m) p) (marker_numbers b), length-upto (length b.markers))

  pub fewer_pairs : length (part_alone b p).pairs ≤ length b.pairs
  unfolding part_alone
  fewer_pairs =
      omega (arith, length-map (pairs_in b p) (renumbered (grades_in b p) (markers_in b p)), filter-length (λ q. mem eq_node (grade_node q.grade) p) b.pairs)

  pub evidence-kept : (P : Evidence → Type 0) → All P b.markers → All P (part_alone b p).markers
  unfolding part_alone
  evidence-kept P h =
      All-map-into P (λ m. get_or b.markers m no_evidence) (markers_in b p)
      (All-mono (λ m. m < length b.markers) (λ m. P (get_or b.markers m no_evidence)) (λ m k. All-getD P b.markers h no_evidence m k) (markers_in b p)
      (All-filter (λ m. m < length b.markers) (λ m. mem eq_node (factor_node m) p) (marker_numbers b) (upto-below (length b.markers))))

  pub pairs_once : NoDup eq_pair b.pairs → NoDup eq_pair (part_alone b p).pairs
  unfolding part_alone
  pairs_once n =
      nodup_map eq_pair eq_pair (renumbered (grades_in b p) (markers_in b p)) Named
      (λ q r h k.
      cc
      (index_inj eqb eqb_sound eqb_same q.grade r.grade (grades_in b p) h.0 k.0, index_inj eqb eqb_sound eqb_same q.marker r.marker (markers_in b p) h.1 k.1))
      (pairs_in b p)
      (All-mono (λ q. (mem eq_node (grade_node q.grade) p ≡ true) × Old q) Named
      (λ q h. (
        of_grade_lem b valid p both in_nodes q.grade h.0,
        to-ms b valid p both in_nodes q.marker (mem-upto (length b.markers) q.marker h.1.0.1) (sym h.1.1 ∙ h.0),
      ))
      (pairs_in b p)
      (All-both (λ q. mem eq_node (grade_node q.grade) p ≡ true) Old (pairs_in b p) (filter_holds (λ q. mem eq_node (grade_node q.grade) p) b.pairs)
      (All-filter Old (λ q. mem eq_node (grade_node q.grade) p) b.pairs (All-both Fine Same b.pairs valid (pairs_tied b valid p both in_nodes)))))
      (filter_nodup eq_pair eq_pair_sound eq_pair-same (λ q. mem eq_node (grade_node q.grade) p) b.pairs n)
    where
      Named : Pair → Type 0
      Named q = (mem eqb q.grade (grades_in b p) ≡ true) × (mem eqb q.marker (markers_in b p) ≡ true)

      Fine : Pair → Type 0
      Fine q = (q.grade < b.grades) × (q.marker < length b.markers)

      Same : Pair → Type 0
      Same q = mem eq_node (grade_node q.grade) p ≡ mem eq_node (factor_node q.marker) p

      Old : Pair → Type 0
      Old q = Fine q × Same q

  -- a marker's count of grades
  pub counts-kept : (P : ℕ → Type 0) → All (λ m. P (length (grades_of b.pairs m))) (marker_numbers b)
      → All (λ j. P (length (grades_of (part_alone b p).pairs j))) (marker_numbers (part_alone b p))
  unfolding part_alone
  counts-kept P h =
      subst (λ (l : List ℕ). All (λ j. P (length (grades_of ps j))) l)
      (sym (ap upto (length-map ms (λ m. get_or b.markers m no_evidence)) ∙ new_markers b valid p both in_nodes))
      (All-map-into (λ j. P (length (grades_of ps j))) (λ m. index_of eqb m ms) ms
      (All-in eqb eqb_same (λ m. P (length (grades_of ps (index_of eqb m ms)))) ms
      (λ m k.
      subst P
      (sym (ap length (grades_renamed b valid p both in_nodes m k) ∙ length-map (grades_of b.pairs m) (λ g. index_of eqb g (grades_in b p))))
      (All-at eqb eqb_sound (λ i. P (length (grades_of b.pairs i))) ms
      (All-filter (λ i. P (length (grades_of b.pairs i))) (λ i. mem eq_node (factor_node i) p) (marker_numbers b) h) m k))))
    where
      ms : List ℕ
      ms = markers_in b p

      ps : List Pair
      ps = map (renumbered (grades_in b p) (markers_in b p)) (pairs_in b p)
