-- Which grades have a belief: in an accepted call those that stand in a pair.
use Rattle.std.specs.Prelude.{ℕ, ◌<◌, ◌≡◌, refl, ◌⊎◌, Bool, true, false, cond, ◌||◌, ◌&&◌, eqb}
use Rattle.std.proofs.Common.{arith, sym, ◌∙◌, inl, inr}
use Rattle.std.proofs.Math.Path.{ap}
use Rattle.std.proofs.lemmas.Bool.{false≢true}
use mathlib.Core.List.{List, [], ◌∷◌, ◌++◌, map}
use borrow.Author.Tests.{lt-ltb}
use Rattle.std.proofs.Math.ListN.{length}
use Rattle.definition.specs.Lists.{cons_if, filter, concat, mem}
use Rattle.definition.specs.Settings.{Settings}
use Rattle.definition.specs.FactorGraph.{Pair, Bale, Node, grade_node, factor_node, input_node, eq_node, Edge, marker_numbers, grades_of, has_tree, marker_edges, built_nodes, built_edges, built_graph}
use Rattle.definition.specs.Components.{is_incident, other_end, neighbours, components_of}
use Rattle.definition.specs.Answer.{answer, answered_beliefs, belief_numbers}
use Rattle.definition.specs.Refusals.{Buffers, accepted, verdict}
use Rattle.claims.specs.Parts.{in_pair}
use Rattle.graph_laws.specs.Bools.{or_cases, or_left, or_right, eqb_sound, eqb_same, ltb_no}
use Rattle.graph_laws.specs.Lists.{All, All-mono, All-at, All-in, All-every, All-left, All-right, All-map-from, filter_none}
use Rattle.graph_laws.specs.Reach.{mem_append}
use Rattle.graph_laws.specs.Ranks.{mem-upto, All-concat-from, All-concat-into}
use Rattle.graph_laws.specs.Components.{Both, Holds}
use Rattle.graph_laws.specs.Partition.{components-all}
use Rattle.graph_laws.specs.Names.{eq_node_sound, eq_node-same, Valid, built-inside, node-grade}
use Rattle.graph_laws.specs.Incident.{to_factor, to_grade, of_grade, of_input, marker_edges-all}
use Rattle.graph_laws.specs.Subsets.{no_longer}
use Rattle.graph_laws.specs.Locality.{Part, all-components}
use Rattle.graph_laws.specs.Connected.{Reaches, here, along, part_of}
use Rattle.graph_laws.specs.Accepted.{passes_all, valid}
use Rattle.graph_laws.specs.AnswerSizes.{large, mem_among, part_once, answered_grades}

-- ---- pairs and the grades of markers

abbrev pair_grades : List Pair → List ℕ
pair_grades ps = map (λ (q : Pair). q.grade) ps

-- a grade of a marker stands in a pair
of_marker : (ps : List Pair) (g m : ℕ) → mem eqb g (grades_of ps m) ≡ true → mem eqb g (pair_grades ps) ≡ true
of_marker [] g m h = h
of_marker (q ∷ ps) g m h = go (eqb q.marker m) h (of_marker ps g m)
  where
    rest : List Pair
    rest = filter (λ x. eqb x.marker m) ps

    go : (c : Bool) → mem eqb g (pair_grades (cons_if c q rest)) ≡ true → (mem eqb g (pair_grades rest) ≡ true → mem eqb g (pair_grades ps) ≡ true)
        → (eqb g q.grade || mem eqb g (pair_grades ps)) ≡ true
    go false n r = or_right (eqb g q.grade) (mem eqb g (pair_grades ps)) (r n)
    go true n r = elim (or_cases (eqb g q.grade) (mem eqb g (pair_grades rest)) n) [
      | inl e ↦ or_left (eqb g q.grade) (mem eqb g (pair_grades ps)) e
      | inr e ↦ or_right (eqb g q.grade) (mem eqb g (pair_grades ps)) (r e)
    ]

-- a grade in a pair is a grade of a marker, which is below n if all are
a_marker : (ps : List Pair) (g n : ℕ) → All (λ q. q.marker < n) ps → mem eqb g (pair_grades ps) ≡ true → (m : ℕ) × (m < n) × (mem eqb g (grades_of ps m) ≡ true)
a_marker [] g n h k = absurd (false≢true k)
a_marker (q ∷ ps) g n h k = go (or_cases (eqb g q.grade) (mem eqb g (pair_grades ps)) k) (a_marker ps g n h.1)
  where
    rest : ℕ → List Pair
    rest m = filter (λ x. eqb x.marker m) ps

    later : (m : ℕ) (c : Bool) → mem eqb g (pair_grades (rest m)) ≡ true → mem eqb g (pair_grades (cons_if c q (rest m))) ≡ true
    later m true e = or_right (eqb g q.grade) (mem eqb g (pair_grades (rest m))) e
    later m false e = e

    go : (eqb g q.grade ≡ true) ⊎ (mem eqb g (pair_grades ps) ≡ true) → (mem eqb g (pair_grades ps) ≡ true → (m : ℕ) × (m < n) × (mem eqb g (grades_of ps m) ≡ true))
        → (m : ℕ) × (m < n) × (mem eqb g (grades_of (q ∷ ps) m) ≡ true)
    go (inl e) r = (q.marker, h.0, rw (eqb_same q.marker) (or_left (eqb g q.grade) (mem eqb g (pair_grades (rest q.marker))) e))
    go (inr e) r = let x = r e in (x.0, x.1, later x.0 (eqb q.marker x.0) x.2)

-- ---- a grade in a pair has its marker's factor and input in its part

module _ (D : List Node) (m g : ℕ) (gs : List ℕ) (i : mem eqb g gs ≡ true) (k : Holds eq_node D (grade_node g)) where
  -- where D has both ends or neither of each of the marker's edges
  marker_joined : All (Both eq_node D) (marker_edges m gs) → Holds eq_node D (factor_node m) × Holds eq_node D (input_node m)
  marker_joined h = go (has_tree gs) h
    where
      at : (f : ℕ → Edge Node) (es : List (Edge Node)) → All (Both eq_node D) (map f gs ++ es) → Both eq_node D (f g)
      at f es a = All-at eqb eqb_sound (λ x. Both eq_node D (f x)) gs (All-map-from (Both eq_node D) f gs (All-left (Both eq_node D) (map f gs) es a)) g i

      input : (f : ℕ → Edge Node) → All (Both eq_node D) (map f gs ++ of_input m ∷ []) → Both eq_node D (of_input m)
      input f a = (All-right (Both eq_node D) (map f gs) (of_input m ∷ []) a).0

      go : (c : Bool)
          → All (Both eq_node D) (cond c (to_factor m (length gs) ∷ map (λ x. to_grade m x) gs ++ of_input m ∷ []) (map (λ x. of_grade m x) gs ++ of_input m ∷ []))
          → Holds eq_node D (factor_node m) × Holds eq_node D (input_node m)
      go true a =
          let f : Holds eq_node D (factor_node m) = sym a.0 ∙ at (λ x. to_grade m x) (of_input m ∷ []) a.1 ∙ k in
          (f, input (λ x. to_grade m x) a.1 ∙ f)
      go false a =
          let f : Holds eq_node D (factor_node m) = sym (at (λ x. of_grade m x) (of_input m ∷ []) a) ∙ k in
          (f, input (λ x. of_grade m x) a ∙ f)

-- ---- a grade in no pair is alone

-- no edge has its node as an end
no_edge : (b : Bale) (g : ℕ) → in_pair b g ≡ false → All (λ e. is_incident eq_node (grade_node g) e ≡ false) (built_edges b)
no_edge b g n =
    All-concat-into P (λ m. marker_edges m (grades_of b.pairs m)) (marker_numbers b)
    (All-every (λ m. All P (marker_edges m (grades_of b.pairs m))) marker (marker_numbers b))
  where
    P : Edge Node → Type 0
    P e = is_incident eq_node (grade_node g) e ≡ false

    other : (m : ℕ) → All (λ x. eqb g x ≡ false) (grades_of b.pairs m)
    other m = All-in eqb eqb_same (λ x. eqb g x ≡ false) (grades_of b.pairs m) (λ x i. not_it x (eqb g x) refl i)
      where
        not_it : (x : ℕ) (c : Bool) → eqb g x ≡ c → mem eqb x (grades_of b.pairs m) ≡ true → c ≡ false
        not_it x false e i = refl
        not_it x true e i = sym (of_marker b.pairs g m (ap (λ (y : ℕ). mem eqb y (grades_of b.pairs m)) (eqb_sound g x e) ∙ i)) ∙ n

    marker : (m : ℕ) → All P (marker_edges m (grades_of b.pairs m))
    marker m =
        marker_edges-all P m (grades_of b.pairs m) (λ t. (refl, other m))
        (λ t. All-mono (λ x. eqb g x ≡ false) (λ x. P (of_grade m x)) (λ x e. rw e) (grades_of b.pairs m) (other m)) refl

-- a node without neighbours reaches itself only
stays : (es : List (Edge Node)) (u : Node) → neighbours eq_node es u ≡ [] → {w : Node} → Reaches eq_node es u w → w ≡ u
stays es u n here = refl
stays es u n (along {u = x} {w = w} r m) =
    absurd (false≢true (sym (ap (λ (l : List Node). mem eq_node w l) (ap (neighbours eq_node es) (stays es u n r) ∙ n)) ∙ m))

-- ---- a part with a grade has over 2 nodes exactly if the grade stands in a pair

module _ (b : Bale) (ok : Valid b) (p : List Node) (is : Part b ok p) (g : ℕ) (k : Holds eq_node p (grade_node g)) where
  -- its own node, the marker's factor and the marker's input are three
  part_paired : in_pair b g ≡ true → large p ≡ true
  unfolding built_graph
  part_paired h =
      let x = a_marker b.pairs g (length b.markers) known h in
      let m = x.0 in
      let y = marker_joined p m g (grades_of b.pairs m) x.2 k (both m (mem-upto (length b.markers) m x.1)) in
      lt-ltb 2 (length p)
      (no_longer eq_node eq_node_sound eq_node-same (grade_node g ∷ factor_node m ∷ input_node m ∷ []) p (refl, (refl, (refl, tt))) (k, (y.0, (y.1, tt))))
    where
      known : All (λ q. q.marker < length b.markers) b.pairs
      known = All-mono (λ q. (q.grade < b.grades) × (q.marker < length b.markers)) (λ q. q.marker < length b.markers) (λ q l. l.1) b.pairs ok

      both : (m : ℕ) → mem eqb m (marker_numbers b) ≡ true → All (Both eq_node p) (marker_edges m (grades_of b.pairs m))
      both =
          All-at eqb eqb_sound (λ m. All (Both eq_node p) (marker_edges m (grades_of b.pairs m))) (marker_numbers b)
          (All-concat-from (Both eq_node p) (λ m. marker_edges m (grades_of b.pairs m)) (marker_numbers b) is.both)

  -- its own node is all
  part_unpaired : in_pair b g ≡ false → large p ≡ false
  unfolding built_graph
  part_unpaired h = ltb_no 2 (length p) (omega (arith, no_longer eq_node eq_node_sound eq_node-same p (grade_node g ∷ []) (part_once b ok p is) only))
    where
      none : neighbours eq_node (built_edges b) (grade_node g) ≡ []
      none = ap (map (other_end eq_node (grade_node g))) (filter_none (is_incident eq_node (grade_node g)) (built_edges b) (no_edge b g h))

      only : All (λ w. mem eq_node w (grade_node g ∷ []) ≡ true) p
      only =
          All-in eq_node eq_node-same (λ w. mem eq_node w (grade_node g ∷ []) ≡ true) p
          (λ w i.
          let r = (part_of eq_node eq_node_sound eq_node-same (built_graph b) p is (grade_node g) w k).0 i in
          ap (λ (v : Node). mem eq_node v (grade_node g ∷ [])) (stays (built_edges b) (grade_node g) none r) ∙ rw (eqb_same g))

  part-large : large p ≡ in_pair b g
  part-large = go (in_pair b g) refl
    where
      go : (c : Bool) → in_pair b g ≡ c → large p ≡ c
      go true h = part_paired h
      go false h = part_unpaired h

-- ---- a grade has a belief exactly if it stands in a pair

-- a node among the chosen lists, where all lists that have it are chosen alike
mem_alike : (f : List Node → Bool) (a : Node) (c : Bool) (ps : List (List Node)) → All (λ p. mem eq_node a p ≡ true → f p ≡ c) ps
    → mem eq_node a (concat (filter f ps)) ≡ (mem eq_node a (concat ps) && c)
mem_alike f a c [] h = refl
mem_alike f a c (p ∷ ps) h = go (mem eq_node a p) refl (f p) h.0 (mem_alike f a c ps h.1) ∙ ap (λ (x : Bool). x && c) (sym (mem_append eq_node a p (concat ps)))
  where
    r : List (List Node)
    r = filter f ps

    none : (x : Bool) → (x && false) ≡ false
    none true = refl
    none false = refl

    with_it : (d : Bool) → d ≡ c → mem eq_node a p ≡ true → mem eq_node a (concat r) ≡ (mem eq_node a (concat ps) && c) → mem eq_node a (concat (cons_if d p r)) ≡ c
    with_it true e i q = mem_append eq_node a p (concat r) ∙ or_left (mem eq_node a p) (mem eq_node a (concat r)) i ∙ e
    with_it false e i q = q ∙ ap (λ (x : Bool). mem eq_node a (concat ps) && x) (sym e) ∙ none (mem eq_node a (concat ps)) ∙ e

    go : (i : Bool) → mem eq_node a p ≡ i → (d : Bool) → (i ≡ true → d ≡ c) → mem eq_node a (concat r) ≡ (mem eq_node a (concat ps) && c)
        → mem eq_node a (concat (cons_if d p r)) ≡ ((mem eq_node a p || mem eq_node a (concat ps)) && c)
    go true i d e q = with_it d (e refl) i q ∙ sym (ap (λ (x : Bool). (x || mem eq_node a (concat ps)) && c) i)
    go false i true e q = mem_append eq_node a p (concat r) ∙ rw i q
    go false i false e q = rw i q

-- of a valid bale
valid_paired : (s : Settings) (b : Bale) → Valid b → (g : ℕ) → g < b.grades → mem eqb g (belief_numbers (answered_beliefs (answer s b))) ≡ in_pair b g
unfolding built_graph components_of
valid_paired s b ok g l =
    ap (mem eqb g) (answered_grades s b)
    ∙ mem_among g (concat (filter large (components_of b)))
    ∙ mem_alike large (grade_node g) (in_pair b g) (components_of b)
    (All-mono (Part b ok) (λ p. mem eq_node (grade_node g) p ≡ true → large p ≡ in_pair b g) (λ p is k. part-large b ok p is g k) (components_of b) (all-components b ok))
    ∙ ap (λ (x : Bool). x && in_pair b g) home
  where
    home : mem eq_node (grade_node g) (concat (components_of b)) ≡ true
    home =
        All-at eq_node eq_node_sound (λ v. mem eq_node v (concat (components_of b)) ≡ true) (built_nodes b)
        (components-all eq_node eq_node_sound eq_node-same (built_graph b) (built-inside b ok)) (grade_node g) (node-grade b g ∙ mem-upto b.grades g l)

-- In an accepted call a grade has a belief exactly if it stands in a pair.
pub believed_paired : (s : Settings) (f : Buffers) (b : Bale) → verdict s f b ≡ accepted → (g : ℕ) → g < b.grades
    → mem eqb g (belief_numbers (answered_beliefs (answer s b))) ≡ in_pair b g
believed_paired s f b h = valid_paired s b (valid b (passes_all s f b h).known)
