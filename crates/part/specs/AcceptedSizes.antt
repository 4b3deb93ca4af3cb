-- How many nodes, edges and message entries a part has, in the grades, markers and pairs of its bale.
use Rattle.std.specs.Prelude.{◌≡◌, refl, Bool, true, false, cond, ◌||◌, List, [], ◌∷◌, ◌++◌, map, ℕ, suc, ◌+◌, ◌*◌, ◌≤◌, T, length}
use Rattle.std.proofs.Common.{sym, ap, ◌∙◌, subst, arith, suc-mul, mul-le-mul_right, leb→le, length-append}
use Rattle.std.proofs.Math.Bool.{or-false}
use Rattle.std.proofs.lemmas.List.{length-map}
use Rattle.definition.specs.Lists.{cons_if, filter, concat, mem}
use Rattle.definition.specs.FactorGraph.{Bale, Node, eq_node, Edge, built_nodes, built_edges, marker_numbers, grades_of, has_tree, marker_edges, kind_of}
use Rattle.definition.specs.Components.{is_incident, incident_edges}
use Rattle.definition.specs.Directions.{Direction, MessageGraph, message_graph_of}
use Rattle.graph_laws.specs.Lists.{All-mono, filter_holds}
use Rattle.graph_laws.specs.Ranks.{NoDup, filter_nodup}
use Rattle.graph_laws.specs.Names.{eq_node_sound, eq_node-same, Valid}
use Rattle.graph_laws.specs.Locality.{Part, of_nodes}
use Rattle.graph_laws.specs.Incident.{to_factor, to_grade, of_grade, of_input}
use Rattle.graph_laws.specs.Subsets.{no_longer}
use Rattle.graph_laws.specs.AloneChecks.{length-upto}
use Rattle.graph_laws.specs.Sizes.{tree_count, nodes-length, edges-length}
use Rattle.graph_laws.specs.ByNames.{dir, row}
use Rattle.messages.specs.Layout.{width}
use Rattle.part.specs.AcceptedFactor.{part-both, part_once, by_name}

-- ---- sums

abbrev sum : {A : Type 0} → (A → ℕ) → List A → ℕ
sum f [] = 0
sum f (x ∷ xs) = f x + sum f xs

sum_append : {A : Type 0} (f : A → ℕ) (xs ys : List A) → sum f (xs ++ ys) ≡ sum f xs + sum f ys
sum_append f [] ys = omega arith
sum_append f (x ∷ xs) ys = omega (arith, sum_append f xs ys)

sum_ones : {A : Type 0} (xs : List A) → sum (λ x. 1) xs ≡ length xs
sum_ones [] = refl
sum_ones (x ∷ xs) = omega (arith, sum_ones xs)

-- ---- the lists of a part's nodes have each edge twice at most

abbrev lists : List (Edge Node) → List Node → List (Edge Node)
lists es q = concat (map (incident_edges eq_node es) q)

-- a list of different nodes has two ends of an edge at most
few_ends : (p : List Node) → NoDup eq_node p → (e : Edge Node) → length (filter (λ v. is_incident eq_node v e) p) ≤ 2
few_ends p once e =
    no_longer eq_node eq_node_sound eq_node-same (filter (λ v. is_incident eq_node v e) p) (e.node1 ∷ e.node2 ∷ []) (filter_nodup eq_node eq_node_sound eq_node-same (λ v. is_incident eq_node v e) p once)
    (All-mono (λ v. is_incident eq_node v e ≡ true) (λ v. mem eq_node v (e.node1 ∷ e.node2 ∷ []) ≡ true)
    (λ v t. ap (λ (c : Bool). eq_node v e.node1 || c) (or-false (eq_node v e.node2)) ∙ t) (filter (λ v. is_incident eq_node v e) p) (filter_holds (λ v. is_incident eq_node v e) p))

module _ (f : Edge Node → ℕ) where
  lists-none : (q : List Node) → sum f (lists [] q) ≡ 0
  lists-none [] = refl
  lists-none (v ∷ q) = lists-none q

  lists-more : (e : Edge Node) (es : List (Edge Node)) (q : List Node) → sum f (lists (e ∷ es) q) ≡ length (filter (λ v. is_incident eq_node v e) q) * f e + sum f (lists es q)
  lists-more e es [] = omega arith
  lists-more e es (v ∷ q) = go (is_incident eq_node v e) (lists-more e es q)
    where
      go : (c : Bool) → sum f (lists (e ∷ es) q) ≡ length (filter (λ u. is_incident eq_node u e) q) * f e + sum f (lists es q)
          → sum f (cons_if c e (incident_edges eq_node es v) ++ lists (e ∷ es) q) ≡ length (cons_if c v (filter (λ u. is_incident eq_node u e) q)) * f e + sum f (incident_edges eq_node es v ++ lists es q)
      go true r =
          omega
          (arith, r, sum_append f (incident_edges eq_node es v) (lists (e ∷ es) q), sum_append f (incident_edges eq_node es v) (lists es q), suc-mul (length (filter (λ u. is_incident eq_node u e) q)) (f e))
      go false r = omega (arith, r, sum_append f (incident_edges eq_node es v) (lists (e ∷ es) q), sum_append f (incident_edges eq_node es v) (lists es q))

  lists_twice : (p : List Node) → NoDup eq_node p → (es : List (Edge Node)) → sum f (lists es p) ≤ 2 * sum f es
  lists_twice p once [] = omega (arith, lists-none p)
  lists_twice p once (e ∷ es) =
      let twice : length (filter (λ v. is_incident eq_node v e) p) * f e ≤ 2 * f e = mul-le-mul_right (f e) (few_ends p once e) in
      omega (arith, twice, lists-more e es p, lists_twice p once es)

-- ---- the built edges, marker by marker

abbrev long : Edge Node → ℕ
long e = e.message_length

abbrev edges_of : Bale → ℕ → List (Edge Node)
edges_of b m = marker_edges m (grades_of b.pairs m)

-- a marker's edges: they have at most three times as many message entries as they are; one is the input's, and with a tree there are three more
record MarkerSizes (m : ℕ) (gs : List ℕ) : Type 0 where
  entries : sum long (marker_edges m gs) ≤ 3 * length (marker_edges m gs)
  some : 1 + cond (has_tree gs) 3 0 ≤ length (marker_edges m gs)

marker_sizes : (m : ℕ) (gs : List ℕ) → MarkerSizes m gs
marker_sizes m gs = record { entries = entries (has_tree gs); some = some (has_tree gs) refl }
  where
    twos : (f : ℕ → Edge Node) → ((g : ℕ) → long (f g) ≡ 2) → (hs : List ℕ) → sum long (map f hs) ≡ 2 * length hs
    twos f h [] = refl
    twos f h (g ∷ hs) = omega (arith, h g, twos f h hs)

    list : Bool → List (Edge Node)
    list c = cond c (to_factor m (length gs) ∷ map (λ g. to_grade m g) gs ++ of_input m ∷ []) (map (λ g. of_grade m g) gs ++ of_input m ∷ [])

    entries : (c : Bool) → sum long (list c) ≤ 3 * length (list c)
    entries true =
        omega
        (arith, sum_append long (map (λ g. to_grade m g) gs) (of_input m ∷ []), twos (λ g. to_grade m g) (λ g. refl) gs, length-append (map (λ g. to_grade m g) gs) (of_input m ∷ []), length-map gs (λ g. to_grade m g))
    entries false =
        omega
        (arith, sum_append long (map (λ g. of_grade m g) gs) (of_input m ∷ []), twos (λ g. of_grade m g) (λ g. refl) gs, length-append (map (λ g. of_grade m g) gs) (of_input m ∷ []), length-map gs (λ g. of_grade m g))

    some : (c : Bool) → has_tree gs ≡ c → 1 + cond c 3 0 ≤ length (list c)
    some true t =
        omega (arith, leb→le 2 (length gs) (subst T (sym t) tt), length-append (map (λ g. to_grade m g) gs) (of_input m ∷ []), length-map gs (λ g. to_grade m g))
    some false t = omega (arith, length-append (map (λ g. of_grade m g) gs) (of_input m ∷ []))

module _ (b : Bale) where
  abbrev tree : ℕ → Bool
  tree m = has_tree (grades_of b.pairs m)

  entries_of : (ms : List ℕ) → sum long (concat (map (edges_of b) ms)) ≤ 3 * length (concat (map (edges_of b) ms))
  entries_of [] = omega arith
  entries_of (m ∷ ms) =
      let r = concat (map (edges_of b) ms) in
      omega (arith, (marker_sizes m (grades_of b.pairs m)).entries, entries_of ms, sum_append long (edges_of b m) r, length-append (edges_of b m) r)

  trees_of_lem : (ms : List ℕ) → length ms + 3 * length (filter tree ms) ≤ length (concat (map (edges_of b) ms))
  trees_of_lem [] = omega arith
  trees_of_lem (m ∷ ms) = go (tree m) (marker_sizes m (grades_of b.pairs m)).some (trees_of_lem ms)
    where
      go : (c : Bool) → 1 + cond c 3 0 ≤ length (edges_of b m) → length ms + 3 * length (filter tree ms) ≤ length (concat (map (edges_of b) ms))
          → suc (length ms) + 3 * length (cons_if c m (filter tree ms)) ≤ length (edges_of b m ++ concat (map (edges_of b) ms))
      go true h r = omega (arith, length-append (edges_of b m) (concat (map (edges_of b) ms)))
      go false h r = omega (arith, length-append (edges_of b m) (concat (map (edges_of b) ms)))

  -- a tree has two pairs at least
  trees_few : Valid b → 2 * tree_count b ≤ length b.pairs
  trees_few ok = omega (arith, trees_of_lem (marker_numbers b), edges-length b ok, length-upto (length b.markers))

-- ---- of a part

width_append : (xs ys : List Direction) → width (xs ++ ys) ≡ width xs + width ys
width_append [] ys = omega arith
width_append (x ∷ xs) ys = omega (arith, width_append xs ys)

pub record PartSizes (b : Bale) (p : List Node) : Type 0 where
  pub nodes : 2 * length p ≤ 2 * b.grades + 4 * length b.markers + length b.pairs
  pub directions : length (message_graph_of b p).directions ≤ 3 * length b.pairs + 2 * length b.markers
  pub entries : width (message_graph_of b p).directions ≤ 9 * length b.pairs + 6 * length b.markers

module _ (b : Bale) (ok : Valid b) (p : List Node) (is : Part b ok p) where
  abbrev row_of : Node → List Direction
  row_of = row eq_node eq_node_sound eq_node-same (built_edges b) p (part-both b ok p is) (part_once b ok p is) (kind_of b)

  row-width : (v : Node) (es : List (Edge Node)) → width (map (dir eq_node eq_node_sound eq_node-same (built_edges b) p (part-both b ok p is) (part_once b ok p is) (kind_of b) v) es) ≡ sum long es
  row-width v [] = refl
  row-width v (e ∷ es) = omega (arith, row-width v es)

  rows-width : (q : List Node) → width (concat (map row_of q)) ≡ sum long (lists (built_edges b) q)
  rows-width [] = refl
  rows-width (v ∷ q) =
      let es = incident_edges eq_node (built_edges b) v in
      let r = lists (built_edges b) q in
      omega (arith, width_append (row_of v) (concat (map row_of q)), row-width v es, rows-width q, sum_append long es r)

  rows-length : (q : List Node) → length (concat (map row_of q)) ≡ length (lists (built_edges b) q)
  rows-length [] = refl
  rows-length (v ∷ q) =
      let es = incident_edges eq_node (built_edges b) v in
      let r = lists (built_edges b) q in
      omega (arith, length-append (row_of v) (concat (map row_of q)), length-map es (dir eq_node eq_node_sound eq_node-same (built_edges b) p (part-both b ok p is) (part_once b ok p is) (kind_of b) v), rows-length q, length-append es r)

  pub part-sizes : PartSizes b p
  part-sizes =
      let once = part_once b ok p is in
      let e = edges-length b ok in
      let t = trees_few b ok in
      record {
        nodes = omega (arith, no_longer eq_node eq_node_sound eq_node-same p (built_nodes b) once (of_nodes b ok p is), nodes-length b);
        directions = omega (arith, ap (λ (g : MessageGraph). length g.directions) (by_name b ok p is), rows-length p, sum_ones (lists (built_edges b) p), lists_twice (λ x. 1) p once (built_edges b), sum_ones (built_edges b));
        entries = omega (arith, ap (λ (g : MessageGraph). width g.directions) (by_name b ok p is), rows-width p, lists_twice long p once (built_edges b), entries_of b (marker_numbers b));
      }
