-- Counts of an accepted bale's answer: each part that is answered has a grade, no grade is answered twice, and every number that is answered fits 32 bits.
use Prim.Native.Nat.{ℕ, suc, ◌+◌, ◌-◌, ◌*◌, ◌^◌, ◌≤◌, ◌<◌}
use native.Mathlib.Omega.{arith}
use Rattle.std.specs.Prelude.{◌≡◌, Bool, cond, ◌||◌, ◌&&◌, T, eqb, ltb}
use Rattle.std.proofs.Math.Path.{refl, ap, subst}
use Rattle.std.proofs.Common.{sym, ◌∙◌, length-append}
use Rattle.std.proofs.Math.Bool.{true, false}
use Rattle.std.proofs.lemmas.Bool.{false≢true}
use mathlib.Core.List.{List, [], ◌∷◌, ◌++◌, map, map-append}
use Rattle.std.proofs.Math.Dec.{ltb→lt}
use Rattle.std.proofs.Math.ListN.{length}
use Rattle.std.proofs.lemmas.List.{length-map}
use Rattle.graph_laws.specs.Events.{run_follows}
use Rattle.graph_laws.specs.Bools.{eqb_sound, eqb_same, and_left, and_right, no_ltb}
use Rattle.definition.specs.Lists.{cons_if, filter, concat, mem}
use Rattle.definition.specs.Vectors.{Message, log_normalize}
use Rattle.definition.specs.Settings.{Settings}
use Rattle.definition.specs.FactorGraph.{Bale, Node, grade_node, factor_node, input_node, tree_node, eq_node, Edge, marker_numbers, grades_of, has_tree, built_nodes, built_edges, built_graph}
use Rattle.definition.specs.Components.{other_end, incident_edges, neighbours, SubgraphNode, Subgraph, subgraph, subgraph_of, components_of}
use Rattle.definition.specs.Directions.{MessageNode, MessageGraph, message_nodes_from, message_graph, message_graph_of}
use Rattle.definition.specs.Run.{begin_loop, Ending, limit, settled, empty, run}
use Rattle.definition.specs.Sweeps.{opening}
use Rattle.definition.specs.Answer.{Belief, marginal, beliefs_among, PartAnswer, part_answer, answers_of, answers_from, answer, ending_number, answered_beliefs, belief_numbers, belief_floats, ending_numbers, ending_floats}
use Rattle.definition.specs.Refusals.{Buffers, accepted, verdict}
use Rattle.graph_laws.specs.Lists.{All, upto, concat-map_append, All-append, All-filter, All-every, All-mono, All-at}
use Rattle.graph_laws.specs.Ranks.{NoDup, mem-upto, upto-below, All-concat-into}
use Rattle.graph_laws.specs.Components.{Holds, Both, closed_of_both}
use Rattle.graph_laws.specs.Partition.{part_nodup, components_nodup}
use Rattle.graph_laws.specs.Names.{eq_node_sound, eq_node-same, Valid, built-inside, node-grade, node-factor, node_input, node-tree}
use Rattle.graph_laws.specs.AloneChecks.{length-upto}
use Rattle.graph_laws.specs.Incident.{to_factor, to_grade, of_grade, of_input, factor_list, tree_list, input_list}
use Rattle.graph_laws.specs.Sizes.{nodes-length}
use Rattle.graph_laws.specs.OneComponent.{filter-length}
use Rattle.graph_laws.specs.Locality as Locality
use Rattle.graph_laws.specs.Accepted.{passes_all, sized, valid}
use Rattle.graph_laws.specs.Connected.{Reaches, here, along, part_connected}
use Rattle.graph_laws.specs.Subsets.{nodup_chosen, no_longer, no_more}

-- ---- the grades among nodes

-- their numbers, in order
abbrev pub grades_among : List Node → List ℕ
grades_among [] = []
grades_among (grade_node g ∷ ns) = g ∷ grades_among ns
grades_among (factor_node m ∷ ns) = grades_among ns
grades_among (input_node m ∷ ns) = grades_among ns
grades_among (tree_node m ∷ ns) = grades_among ns

pub mem_among : (g : ℕ) (ns : List Node) → mem eqb g (grades_among ns) ≡ mem eq_node (grade_node g) ns
mem_among g [] = refl
mem_among g (grade_node h ∷ ns) = ap (λ (c : Bool). eqb g h || c) (mem_among g ns)
mem_among g (factor_node m ∷ ns) = mem_among g ns
mem_among g (input_node m ∷ ns) = mem_among g ns
mem_among g (tree_node m ∷ ns) = mem_among g ns

among_append : (xs ys : List Node) → grades_among (xs ++ ys) ≡ grades_among xs ++ grades_among ys
among_append [] ys = refl
among_append (grade_node g ∷ xs) ys = ap (λ (l : List ℕ). g ∷ l) (among_append xs ys)
among_append (factor_node m ∷ xs) ys = among_append xs ys
among_append (input_node m ∷ xs) ys = among_append xs ys
among_append (tree_node m ∷ xs) ys = among_append xs ys

among_nodup : (ns : List Node) → NoDup eq_node ns → NoDup eqb (grades_among ns)
among_nodup [] n = tt
among_nodup (grade_node g ∷ ns) n = (mem_among g ns ∙ n.0, among_nodup ns n.1)
among_nodup (factor_node m ∷ ns) n = among_nodup ns n.1
among_nodup (input_node m ∷ ns) n = among_nodup ns n.1
among_nodup (tree_node m ∷ ns) n = among_nodup ns n.1

among_some : (ns : List Node) (g : ℕ) → mem eq_node (grade_node g) ns ≡ true → 1 ≤ length (grades_among ns)
among_some ns g m = go (grades_among ns) (mem_among g ns ∙ m)
  where
    go : (l : List ℕ) → mem eqb g l ≡ true → 1 ≤ length l
    go [] e = absurd (false≢true e)
    go (x ∷ l) e = omega arith

-- ---- a part of over 2 nodes has a grade

-- what each step keeps, a node has that another reaches
reached_keeps : (C : Node → Type 0) (es : List (Edge Node)) → ((u : Node) → C u → All C (neighbours eq_node es u)) → {u w : Node} → Reaches eq_node es u w → C u → C w
reached_keeps C es h here c = c
reached_keeps C es h (along {u = x} {w = w} r m) c = All-at eq_node eq_node_sound C (neighbours eq_node es x) (h x (reached_keeps C es h r c)) w m

module _ (b : Bale) (ok : Valid b) (p : List Node) (is : Locality.Part b ok p) where
  abbrev grades : ℕ → List ℕ
  grades m = grades_of b.pairs m

  abbrev Has : Node → Type 0
  Has u = mem eq_node u p ≡ true

  -- a grade of the part
  abbrev Graded : Type 0
  Graded = (g : ℕ) × Has (grade_node g)

  both : All (Both eq_node p) (built_edges b)
  unfolding built_graph
  both = is.both

  known : (u : Node) → Has u → Holds eq_node (built_nodes b) u
  known u h = All-at eq_node eq_node_sound (Holds eq_node (built_nodes b)) p (Locality.of_nodes b ok p is) u h

  -- the neighbours of a node of the part, es being its edges
  near : (u : Node) (es : List (Edge Node)) → incident_edges eq_node (built_edges b) u ≡ es → Has u → All Has (map (other_end eq_node u) es)
  near u es e h =
      subst (λ (l : List (Edge Node)). All Has (map (other_end eq_node u) l)) e (closed_of_both eq_node eq_node_sound eq_node-same p (built_edges b) both u h)

  pub part_once : NoDup eq_node p
  unfolding built_graph
  part_once = subst (NoDup eq_node) is.is (part_nodup eq_node eq_node_sound eq_node-same (built_graph b) (built-inside b ok) is.done is.root)

  -- a marker of the part, with its factor's edges
  module _ (m : ℕ) (i : mem eqb m (marker_numbers b) ≡ true) where
    abbrev factor_edges : List ℕ → Bool → List (Edge Node)
    factor_edges gs c = cond c (to_factor m (length gs) ∷ of_input m ∷ []) (map (λ g. of_grade m g) gs ++ of_input m ∷ [])

    -- with a grade
    some-grade : (g : ℕ) (gs : List ℕ) → grades m ≡ g ∷ gs → Has (factor_node m) → Has (grade_node g)
    some-grade g gs e h = go (has_tree (grades m)) refl
      where
        go : (c : Bool) → has_tree (grades m) ≡ c → Has (grade_node g)
        go false t = (near (factor_node m) (factor_edges (g ∷ gs) false) (factor_list b m i ∙ ap (factor_edges (grades m)) t ∙ ap (λ (l : List ℕ). factor_edges l false) e) h).0
        go true t =
            let tree = (near (factor_node m) (factor_edges (grades m) true) (factor_list b m i ∙ ap (factor_edges (grades m)) t) h).0 in
            rw (eqb_same m) at
            (near (tree_node m) (to_factor m (length (g ∷ gs)) ∷ map (λ x. to_grade m x) (g ∷ gs))
            (tree_list b m i t ∙ ap (λ (l : List ℕ). to_factor m (length l) ∷ map (λ x. to_grade m x) l) e) tree).1.0

    -- with none: factor and input are all that they reach
    abbrev Two : Node → Type 0
    Two u = mem eq_node u (factor_node m ∷ input_node m ∷ []) ≡ true

    two_closed : grades m ≡ [] → (u : Node) → Two u → All Two (neighbours eq_node (built_edges b) u)
    two_closed e u t = All-at eq_node eq_node_sound (λ x. All Two (neighbours eq_node (built_edges b) x)) (factor_node m ∷ input_node m ∷ []) (factor, (input, tt)) u t
      where
        input : All Two (neighbours eq_node (built_edges b) (input_node m))
        input =
            subst (λ (l : List (Edge Node)). All Two (map (other_end eq_node (input_node m)) l)) (sym (input_list b m i))
            (rw (eqb_same m) (rw (eqb_same m) refl, tt))

        factor : All Two (neighbours eq_node (built_edges b) (factor_node m))
        factor =
            subst (λ (l : List (Edge Node)). All Two (map (other_end eq_node (factor_node m)) l))
            (sym (factor_list b m i ∙ ap (λ (l : List ℕ). factor_edges l (has_tree l)) e))
            (rw (eqb_same m) refl, tt)

    two_small : grades m ≡ [] → (u : Node) → Two u → All (Reaches eq_node (built_edges b) u) p → length p ≤ 2
    two_small e u t r =
        no_longer eq_node eq_node_sound eq_node-same p (factor_node m ∷ input_node m ∷ []) part_once
        (All-mono (Reaches eq_node (built_edges b) u) Two (λ w q. reached_keeps Two (built_edges b) (two_closed e) q t) p r)

    -- from a node u of the marker
    of_marker : (u : Node) → Two u → All (Reaches eq_node (built_edges b) u) p → 2 < length p → Has (factor_node m) → Graded
    of_marker u t r l h = go (grades m) refl
      where
        go : (gs : List ℕ) → grades m ≡ gs → Graded
        go [] e = absurd (let z : ⊥ = omega (arith, two_small e u t r) in z)
        go (g ∷ gs) e = (g, some-grade g gs e h)

  -- from the part's first node
  from_first : (u : Node) → Has u → All (Reaches eq_node (built_edges b) u) p → 2 < length p → Graded
  from_first (grade_node g) h r l = (g, h)
  from_first (factor_node m) h r l = of_marker m (sym (node-factor b m) ∙ known (factor_node m) h) (factor_node m) (rw (eqb_same m)) r l h
  from_first (input_node m) h r l =
      let i = sym (node_input b m) ∙ known (input_node m) h in
      of_marker m i (input_node m) (rw (eqb_same m)) r l (rw (eqb_same m) at (near (input_node m) (of_input m ∷ []) (input_list b m i) h).0)
  from_first (tree_node m) h r l = go (grades m) refl
    where
      known-tree : (mem eqb m (marker_numbers b) && has_tree (grades m)) ≡ true
      known-tree = sym (node-tree b m) ∙ known (tree_node m) h

      i : mem eqb m (marker_numbers b) ≡ true
      i = and_left (mem eqb m (marker_numbers b)) (has_tree (grades m)) known-tree

      t : has_tree (grades m) ≡ true
      t = and_right (mem eqb m (marker_numbers b)) (has_tree (grades m)) known-tree

      factor : Has (factor_node m)
      factor = rw (eqb_same m) at (near (tree_node m) (to_factor m (length (grades m)) ∷ map (λ x. to_grade m x) (grades m)) (tree_list b m i t) h).0

      go : (gs : List ℕ) → grades m ≡ gs → Graded
      go [] e = absurd (false≢true (ap has_tree (sym e) ∙ t))
      go (g ∷ gs) e = (g, some-grade m i g gs e factor)

  pub has_grade : 2 < length p → 1 ≤ length (grades_among p)
  unfolding built_graph
  has_grade l =
      let c = part_connected eq_node eq_node-same (built_graph b) p is in
      let here : Has c.root = subst (λ (q : List Node). mem eq_node c.root q ≡ true) (sym c.heads) (rw (eq_node-same c.root)) in
      let x = from_first c.root here c.reached l in
      among_some p x.0 x.1

-- ---- a part's beliefs are its grades', in order

message_nodes_length : (g : Subgraph) (fs : List ℕ) (n : ℕ) (xs : List SubgraphNode) → length (message_nodes_from g fs n xs) ≡ length xs
unfolding message_nodes_from
message_nodes_length g fs n [] = refl
message_nodes_length g fs n (x ∷ xs) = ap suc (message_nodes_length g fs (suc n) xs)

pub message_graph-length : (b : Bale) (p : List Node) → length (message_graph_of b p).nodes ≡ length p
unfolding message_graph_of message_graph subgraph_of subgraph
message_graph-length b p = message_nodes_length _ _ 0 _ ∙ length-map p _

beliefs-grades : (s : Settings) (ms : List Message) (ns : List Node) (xs : List MessageNode) → length xs ≡ length ns → belief_numbers (beliefs_among s ms ns xs) ≡ grades_among ns
unfolding beliefs_among belief_numbers
beliefs-grades s ms [] xs e = refl
beliefs-grades s ms (n ∷ ns) [] e = absurd (let z : ⊥ = omega arith in z)
beliefs-grades s ms (grade_node g ∷ ns) (x ∷ xs) e = ap (λ (l : List ℕ). g ∷ l) (beliefs-grades s ms ns xs (omega arith))
beliefs-grades s ms (factor_node m ∷ ns) (x ∷ xs) e = beliefs-grades s ms ns xs (omega arith)
beliefs-grades s ms (input_node m ∷ ns) (x ∷ xs) e = beliefs-grades s ms ns xs (omega arith)
beliefs-grades s ms (tree_node m ∷ ns) (x ∷ xs) e = beliefs-grades s ms ns xs (omega arith)

pub part-grades : (s : Settings) (b : Bale) (n : ℕ) (p : List Node) → belief_numbers (part_answer s n p (message_graph_of b p)).beliefs ≡ grades_among p
unfolding part_answer
part-grades s b n p = beliefs-grades s _ p (message_graph_of b p).nodes (message_graph-length b p)

-- ---- two floats to a belief

abbrev pub TwoFloats : Belief → Type 0
TwoFloats x = length x.value ≡ 2

beliefs-two : (s : Settings) (ms : List Message) (ns : List Node) (xs : List MessageNode) → All TwoFloats (beliefs_among s ms ns xs)
unfolding beliefs_among marginal log_normalize
beliefs-two s ms [] xs = tt
beliefs-two s ms (n ∷ ns) [] = tt
beliefs-two s ms (grade_node g ∷ ns) (x ∷ xs) = (refl, beliefs-two s ms ns xs)
beliefs-two s ms (factor_node m ∷ ns) (x ∷ xs) = beliefs-two s ms ns xs
beliefs-two s ms (input_node m ∷ ns) (x ∷ xs) = beliefs-two s ms ns xs
beliefs-two s ms (tree_node m ∷ ns) (x ∷ xs) = beliefs-two s ms ns xs

-- ---- the steps of a run

-- the limit counts from 5
pub run_steps : (s : Settings) (t : MessageGraph) → (run s t).state.steps ≤ s.loop_limit - 5
run_steps s t = (run_follows s t (begin_loop s t (opening s t))).few

-- ---- how long the answer's lists are

pub numbers-length : (xs : List Belief) → length (belief_numbers xs) ≡ length xs
unfolding belief_numbers
numbers-length xs = length-map xs _

pub floats_length : (xs : List Belief) → All TwoFloats xs → length (belief_floats xs) ≡ 2 * length xs
unfolding belief_floats
floats_length [] h = refl
floats_length (x ∷ xs) h = omega (arith, length-append x.value (belief_floats xs), h.0, floats_length xs h.1)

pub floats_append : (xs ys : List Belief) → belief_floats (xs ++ ys) ≡ belief_floats xs ++ belief_floats ys
unfolding belief_floats
floats_append = concat-map_append (λ (x : Belief). x.value)

pub endings_length : (qs : List PartAnswer) → length (ending_numbers qs) ≡ 4 * length qs
unfolding ending_numbers
endings_length [] = refl
endings_length (q ∷ qs) = omega (arith, endings_length qs)

pub residuals_length : (qs : List PartAnswer) → length (ending_floats qs) ≡ length qs
unfolding ending_floats
residuals_length qs = length-map qs _

-- ---- what holds of each part, each belief, each number

All-concat : {A : Type 0} (P : A → Type 0) (ps : List (List A)) → All (All P) ps → All P (concat ps)
All-concat P [] h = tt
All-concat P (p ∷ ps) h = All-append P p (concat ps) h.0 (All-concat P ps h.1)

pub beliefs_each : (P : Belief → Type 0) (qs : List PartAnswer) → All (λ q. All P q.beliefs) qs → All P (answered_beliefs qs)
unfolding answered_beliefs
beliefs_each P = All-concat-into P (λ (q : PartAnswer). q.beliefs)

endings_each : (P : ℕ → Type 0) (qs : List PartAnswer) → All (λ q. P q.number × P (ending_number q.ending) × P q.steps × P (length q.beliefs)) qs → All P (ending_numbers qs)
unfolding ending_numbers
endings_each P [] h = tt
endings_each P (q ∷ qs) h = (h.0.0, (h.0.1, (h.0.2, (h.0.3, endings_each P qs h.1))))

ending_small : (e : Ending) → ending_number e ≤ 2
unfolding ending_number
ending_small (limit r) = omega arith
ending_small (settled r) = omega arith
ending_small empty = omega arith

-- a part has no more beliefs than all together
beliefs-within : (n : ℕ) (qs : List PartAnswer) → length (answered_beliefs qs) ≤ n → All (λ q. length q.beliefs ≤ n) qs
unfolding answered_beliefs
beliefs-within n [] l = tt
beliefs-within n (q ∷ qs) l =
    let e = length-append q.beliefs (answered_beliefs qs) in
    (omega arith, beliefs-within n qs (omega arith))

-- parts that each have a belief are no more than the beliefs
parts_within : (qs : List PartAnswer) → All (λ q. 1 ≤ length q.beliefs) qs → length qs ≤ length (answered_beliefs qs)
unfolding answered_beliefs
parts_within [] h = omega arith
parts_within (q ∷ qs) h = omega (arith, length-append q.beliefs (answered_beliefs qs), h.0, parts_within qs h.1)

-- ---- what the parts yield

-- over 2 nodes
abbrev pub large : List Node → Bool
large p = ltb 2 (length p)

module _ (s : Settings) (b : Bale) where
  answers_from_each : (P : PartAnswer → Type 0) (Q : List Node → Type 0) → ((n : ℕ) (p : List Node) → Q p → 2 < length p → P (part_answer s n p (message_graph_of b p)))
      → (k : ℕ) (ps : List (List Node)) → All Q ps → All P (answers_from s b k ps)
  unfolding answers_from answers_of
  answers_from_each P Q h k [] q = tt
  answers_from_each P Q h k (p ∷ ps) q =
      All-append P (answers_of s b k p) (answers_from s b (suc k) ps) (go (large p) (λ t. ltb→lt 2 (length p) t)) (answers_from_each P Q h (suc k) ps q.1)
    where
      go : (c : Bool) → (T c → 2 < length p) → All {A = PartAnswer} P (elim c [ true ↦ part_answer s k p (message_graph_of b p) ∷ [] | false ↦ [] ])
      go true l = (h k p q.0 (l tt), tt)
      go false l = tt

  answers_from-numbers : (k : ℕ) (ps : List (List Node)) → All (λ q. q.number < k + length ps) (answers_from s b k ps)
  unfolding answers_from answers_of part_answer
  answers_from-numbers k [] = tt
  answers_from-numbers k (p ∷ ps) =
      All-append (λ q. q.number < k + suc (length ps)) (answers_of s b k p) (answers_from s b (suc k) ps) (go (large p))
      (All-mono (λ q. q.number < suc k + length ps) (λ q. q.number < k + suc (length ps)) (λ q l. omega arith) (answers_from s b (suc k) ps) (answers_from-numbers (suc k) ps))
    where
      go : (c : Bool) → All {A = PartAnswer} (λ q. q.number < k + suc (length ps)) (elim c [ true ↦ part_answer s k p (message_graph_of b p) ∷ [] | false ↦ [] ])
      go true = (omega arith, tt)
      go false = tt

  answers_from-grades : (k : ℕ) (ps : List (List Node)) → belief_numbers (answered_beliefs (answers_from s b k ps)) ≡ grades_among (concat (filter large ps))
  unfolding answers_from answers_of answered_beliefs belief_numbers
  answers_from-grades k [] = refl
  answers_from-grades k (p ∷ ps) = go (large p) (answers_from-grades (suc k) ps)
    where
      r : List (List Node)
      r = filter large ps

      rest : List PartAnswer
      rest = answers_from s b (suc k) ps

      go : (c : Bool) → belief_numbers (answered_beliefs rest) ≡ grades_among (concat r)
          → belief_numbers (answered_beliefs ((elim c as (λ _. List PartAnswer) [ true ↦ part_answer s k p (message_graph_of b p) ∷ [] | false ↦ [] ]) ++ rest)) ≡ grades_among (concat (cons_if c p r))
      go true e =
          map-append _ (part_answer s k p (message_graph_of b p)).beliefs (answered_beliefs rest)
          ∙ ap (λ (l : List ℕ). l ++ belief_numbers (answered_beliefs rest)) (part-grades s b k p)
          ∙ ap (λ (l : List ℕ). grades_among p ++ l) e
          ∙ sym (among_append p (concat r))
      go false e = e

  -- The grades that are answered: those of the parts of over 2 nodes, part by part.
  pub answered_grades : belief_numbers (answered_beliefs (answer s b)) ≡ grades_among (concat (filter large (components_of b)))
  unfolding answer
  answered_grades = answers_from-grades 0 (components_of b)

  -- a part's number is below the number of parts
  pub numbers-below : All (λ q. q.number < length (components_of b)) (answer s b)
  unfolding answer
  numbers-below =
      All-mono (λ q. q.number < 0 + length (components_of b)) (λ q. q.number < length (components_of b)) (λ q l. omega arith) (answers_from s b 0 (components_of b)) (answers_from-numbers 0 (components_of b))

  -- each belief has two floats
  pub answer_floats : All TwoFloats (answered_beliefs (answer s b))
  unfolding answer part_answer
  answer_floats =
      beliefs_each TwoFloats (answer s b)
      (answers_from_each (λ q. All TwoFloats q.beliefs) (λ p. Unit {0}) (λ n p u l. beliefs-two s _ p (message_graph_of b p).nodes) 0 (components_of b) (All-every (λ p. Unit {0}) (λ p. tt) (components_of b)))

  pub answer_steps : All (λ q. q.steps ≤ s.loop_limit - 5) (answer s b)
  unfolding answer part_answer
  answer_steps =
      answers_from_each (λ q. q.steps ≤ s.loop_limit - 5) (λ p. Unit {0}) (λ n p u l. run_steps s (message_graph_of b p)) 0 (components_of b) (All-every (λ p. Unit {0}) (λ p. tt) (components_of b))

-- ---- of a valid bale

among_below : (b : Bale) (ns : List Node) → All (Holds eq_node (built_nodes b)) ns → All (λ g. g < b.grades) (grades_among ns)
among_below b [] h = tt
among_below b (grade_node g ∷ ns) h =
    (All-at eqb eqb_sound (λ m. m < b.grades) (upto b.grades) (upto-below b.grades) g (sym (node-grade b g) ∙ h.0), among_below b ns h.1)
among_below b (factor_node m ∷ ns) h = among_below b ns h.1
among_below b (input_node m ∷ ns) h = among_below b ns h.1
among_below b (tree_node m ∷ ns) h = among_below b ns h.1

module _ (b : Bale) (ok : Valid b) where
  abbrev Inside : List Node → Type 0
  Inside p = All (Holds eq_node (built_nodes b)) p

  components-inside : All Inside (components_of b)
  components-inside = All-mono (Locality.Part b ok) Inside (Locality.of_nodes b ok) (components_of b) (Locality.all-components b ok)

  components_once : NoDup eq_node (concat (components_of b))
  unfolding components_of built_graph
  components_once = components_nodup eq_node eq_node_sound eq_node-same (built_graph b) (built-inside b ok)

  -- each part has a node
  components_full : All (λ p. 1 ≤ length p) (components_of b)
  components_full =
      All-mono (Locality.Part b ok) (λ p. 1 ≤ length p)
      (λ p is. let c = part_connected eq_node eq_node-same (built_graph b) p is in let l : length p ≡ suc (length c.rest) = ap length c.heads in omega arith)
      (components_of b) (Locality.all-components b ok)

  -- there are no more parts than nodes
  pub components_few : length (components_of b) ≤ length (built_nodes b)
  components_few =
      omega
      (arith, no_more (components_of b) components_full, no_longer eq_node eq_node_sound eq_node-same (concat (components_of b)) (built_nodes b) components_once (All-concat (Holds eq_node (built_nodes b)) (components_of b) components-inside))

  module _ (s : Settings) where
    -- no grade is answered twice, and each is a grade of the bale
    pub grades_once : NoDup eqb (belief_numbers (answered_beliefs (answer s b)))
    grades_once =
        subst (NoDup eqb) (sym (answered_grades s b))
        (among_nodup (concat (filter large (components_of b))) (nodup_chosen eq_node eq_node_sound eq_node-same large (components_of b) components_once))

    pub grades-below : All (λ g. g < b.grades) (belief_numbers (answered_beliefs (answer s b)))
    grades-below =
        subst (All (λ g. g < b.grades)) (sym (answered_grades s b))
        (among_below b (concat (filter large (components_of b)))
        (All-concat (Holds eq_node (built_nodes b)) (filter large (components_of b)) (All-filter Inside large (components_of b) components-inside)))

    -- at most as many beliefs as grades
    pub beliefs_few : length (answered_beliefs (answer s b)) ≤ b.grades
    beliefs_few =
        omega
        (arith, numbers-length (answered_beliefs (answer s b)), no_longer eqb eqb_sound eqb_same (belief_numbers (answered_beliefs (answer s b))) (upto b.grades) grades_once listed, length-upto b.grades)
      where
        listed : All (λ g. mem eqb g (upto b.grades) ≡ true) (belief_numbers (answered_beliefs (answer s b)))
        listed = All-mono (λ g. g < b.grades) (λ g. mem eqb g (upto b.grades) ≡ true) (mem-upto b.grades) (belief_numbers (answered_beliefs (answer s b))) grades-below

    -- each part that is answered has a belief, so that there are at most as many as grades
    pub answer_graded : All (λ q. 1 ≤ length q.beliefs) (answer s b)
    unfolding answer
    answer_graded = answers_from_each s b (λ q. 1 ≤ length q.beliefs) (Locality.Part b ok) answer-sizes 0 (components_of b) (Locality.all-components b ok)
      where
        answer-sizes : (n : ℕ) (p : List Node) → Locality.Part b ok p → 2 < length p → 1 ≤ length (part_answer s n p (message_graph_of b p)).beliefs
        answer-sizes n p is l = omega (arith, has_grade b ok p is l, numbers-length (part_answer s n p (message_graph_of b p)).beliefs, ap length (part-grades s b n p))

    pub answer_few : length (answer s b) ≤ b.grades
    answer_few = omega (arith, parts_within (answer s b) answer_graded, beliefs_few)

-- ---- of an accepted bale

-- the limit that check 4 allows
limit_few : (s : Settings) (f : Buffers) (b : Bale) → verdict s f b ≡ accepted → s.loop_limit ≤ 1000000
limit_few s f b h = no_ltb _ _ (passes_all s f b h).loop.1.0

pub record AnswerSizes (s : Settings) (b : Bale) : Type 0 where
  -- each part that is answered has a belief, and so many steps at most
  pub graded : All (λ q. 1 ≤ length q.beliefs) (answer s b)
  pub steps : All (λ q. q.steps ≤ 999995) (answer s b)
  -- the grades that are answered are different, and grades of the bale
  pub once : NoDup eqb (belief_numbers (answered_beliefs (answer s b)))
  pub below : All (λ g. g < b.grades) (belief_numbers (answered_beliefs (answer s b)))
  -- how many beliefs and parts are answered
  pub beliefs : length (answered_beliefs (answer s b)) ≤ b.grades
  pub parts : length (answer s b) ≤ b.grades
  -- a part's number is below the number of parts, and that at most the number of nodes
  pub numbers : All (λ q. q.number < length (components_of b)) (answer s b)
  pub components : length (components_of b) ≤ length (built_nodes b)
  pub nodes : length (built_nodes b) ≤ 4096
  -- each belief has two floats; how long the four lists are
  pub floats : All TwoFloats (answered_beliefs (answer s b))
  pub belief_numbers_long : length (belief_numbers (answered_beliefs (answer s b))) ≡ length (answered_beliefs (answer s b))
  pub belief_floats_long : length (belief_floats (answered_beliefs (answer s b))) ≡ 2 * length (answered_beliefs (answer s b))
  pub ending_numbers_long : length (ending_numbers (answer s b)) ≡ 4 * length (answer s b)
  pub ending_floats_long : length (ending_floats (answer s b)) ≡ length (answer s b)
  -- the numbers fit
  pub belief_numbers_fit : All (λ n. n < 2 ^ 32) (belief_numbers (answered_beliefs (answer s b)))
  pub ending_numbers_fit : All (λ n. n < 2 ^ 32) (ending_numbers (answer s b))

module _ (s : Settings) (f : Buffers) (b : Bale) (h : verdict s f b ≡ accepted) where
  accepted_valid : Valid b
  accepted_valid = valid b (passes_all s f b h).known

  nodes_few : length (built_nodes b) ≤ 4096
  nodes_few =
      let z = sized b (passes_all s f b h).sizes.0 in
      omega (arith, nodes-length b, filter-length (λ m. has_tree (grades_of b.pairs m)) (marker_numbers b), length-upto (length b.markers))

  steps_few : All (λ q. q.steps ≤ 999995) (answer s b)
  steps_few = All-mono (λ q. q.steps ≤ s.loop_limit - 5) (λ q. q.steps ≤ 999995) (λ q l. omega (arith, limit_few s f b h)) (answer s b) (answer_steps s b)

  beliefs_fit : All (λ n. n < 2 ^ 32) (belief_numbers (answered_beliefs (answer s b)))
  beliefs_fit =
      let z = sized b (passes_all s f b h).sizes.0 in
      All-mono (λ g. g < b.grades) (λ n. n < 2 ^ 32) (λ g l. omega arith) (belief_numbers (answered_beliefs (answer s b))) (grades-below b accepted_valid s)

  endings_fit : All (λ n. n < 2 ^ 32) (ending_numbers (answer s b))
  endings_fit = endings_each (λ n. n < 2 ^ 32) (answer s b)
      (all4 (answer s b) (numbers-below s b) steps_few (beliefs-within b.grades (answer s b) (beliefs_few b accepted_valid s)))
    where
      all4 : (qs : List PartAnswer) → All (λ q. q.number < length (components_of b)) qs → All (λ q. q.steps ≤ 999995) qs → All (λ q. length q.beliefs ≤ b.grades) qs
          → All (λ q. (q.number < 2 ^ 32) × (ending_number q.ending < 2 ^ 32) × (q.steps < 2 ^ 32) × (length q.beliefs < 2 ^ 32)) qs
      all4 [] x y z = tt
      all4 (q ∷ qs) x y z =
          let w = sized b (passes_all s f b h).sizes.0 in
          let n = components_few b accepted_valid in
          let m = nodes_few in
          let e = ending_small q.ending in
          ((omega arith, omega arith, omega arith, omega arith), all4 qs x.1 y.1 z.1)

  pub answer-sizes : AnswerSizes s b
  answer-sizes =
      record {
        graded = answer_graded b accepted_valid s;
        steps = steps_few;
        once = grades_once b accepted_valid s;
        below = grades-below b accepted_valid s;
        beliefs = beliefs_few b accepted_valid s;
        parts = answer_few b accepted_valid s;
        numbers = numbers-below s b;
        components = components_few b accepted_valid;
        nodes = nodes_few;
        floats = answer_floats s b;
        belief_numbers_long = numbers-length (answered_beliefs (answer s b));
        belief_floats_long = floats_length (answered_beliefs (answer s b)) (answer_floats s b);
        ending_numbers_long = endings_length (answer s b);
        ending_floats_long = residuals_length (answer s b);
        belief_numbers_fit = beliefs_fit;
        ending_numbers_fit = endings_fit;
      }
