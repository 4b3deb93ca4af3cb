-- The edges that are written by the markers' counts and the sorted grades are those of the built graph, each end by its number.
use Rattle.std.specs.Prelude.{◌≡◌, Bool, true, false, cond, leb, eqb}
use Rattle.std.proofs.Math.Path.{refl, ap}
use Rattle.std.proofs.Common.{sym, ◌∙◌, length-append}
use mathlib.Core.List.{List, [], ◌∷◌, ◌++◌, map, map-append, map-map}
use Prim.Native.Nat.{ℕ, zero, suc, ◌+◌, ◌*◌, ◌<◌}
use native.Mathlib.Omega.{arith}
use Rattle.std.proofs.Math.ListN.{length, get_or}
use Rattle.definition.specs.Lists.{range, cons_if, filter, concat}
use Rattle.definition.specs.FactorGraph.{Bale, Node, grade_node, factor_node, input_node, tree_node, Edge, edge, grades_of, has_tree, marker_numbers, marker_edges, built_edges}
use Rattle.graph_laws.specs.Lists.{All, upto, upto_snoc, All-mono, All-map-into, All-filter, filter_append, map_cong}
use Rattle.graph_laws.specs.Names.{Valid}
use Rattle.graph_laws.specs.Numbers.{number, number-grade, number-factor, number_input, number-tree}
use Rattle.graph_laws.specs.Isomorphism.{on_edge}
use Rattle.graph_laws.specs.Ranks.{map-concat}
use Rattle.graph_laws.specs.WalkLoop.{index_filter}
use Rattle.list_laws.specs.Part.{region}
use Rattle.factor_graph.specs.BuildGroup.{start, start-suc}
use Rattle.factor_graph.specs.BuildEdges.{edge_by, tree_edge, grade_edge, trees_of, marker_edges_by, edges_from}
use Rattle.factor_graph.specs.BuildNodes.{trees_from}

module _ (b : Bale) (valid : Valid b) where
  abbrev G : ℕ
  G = b.grades

  abbrev M : ℕ
  M = length b.markers

  abbrev row : ℕ → List ℕ
  row m = grades_of b.pairs m

  abbrev treed : ℕ → Bool
  treed m = has_tree (row m)

  -- how many markers below m have a tree
  abbrev before : ℕ → ℕ
  before m = length (filter treed (upto m))

  before-suc : (m : ℕ) → before (suc m) ≡ before m + trees_of (length (row m))
  before-suc m =
      ap (λ (l : List ℕ). length (filter treed l)) (upto_snoc m)
      ∙ ap length (filter_append treed (upto m) (m ∷ []))
      ∙ length-append (filter treed (upto m)) (filter treed (m ∷ []))
      ∙ ap (λ (n : ℕ). before m + n) (go (treed m))
    where
      go : (c : Bool) → length (cons_if c m []) ≡ cond c 1 0
      go true = refl
      go false = refl

  row_inside : (m : ℕ) → All (λ g. g < G) (row m)
  row_inside m =
      All-map-into (λ g. g < G) (λ q. q.grade) (filter (λ q. eqb q.marker m) b.pairs)
      (All-filter (λ q. q.grade < G) (λ q. eqb q.marker m) b.pairs
      (All-mono (λ q. (q.grade < G) × (q.marker < M)) (λ q. q.grade < G) (λ q h. h.0) b.pairs valid))

  -- one marker
  marker_by : (m t : ℕ) → m < M → t ≡ G + 2 * M + before m → marker_edges_by (G + m) (G + M + m) t (row m) ≡ map (on_edge (number b)) (marker_edges m (row m))
  unfolding marker_edges_by
  marker_by m t h e = go (treed m) refl
    where
      f : number b (factor_node m) ≡ G + m
      f = number-factor b m h

      i : number b (input_node m) ≡ G + M + m
      i = let n = number_input b m h in omega arith

      lastly : edge_by (G + M + m) (G + m) 2 ∷ [] ≡ map (on_edge (number b)) (edge (input_node m) (factor_node m) 2 ∷ [])
      lastly = ap (λ (x : ℕ). edge_by x (G + m) 2 ∷ []) (sym i) ∙ ap (λ (x : ℕ). edge_by (number b (input_node m)) x 2 ∷ []) (sym f)

      run : (by : ℕ → Edge ℕ) (named : ℕ → Edge Node) → ((g : ℕ) → g < G → by g ≡ on_edge (number b) (named g)) →
          map by (row m) ++ edge_by (G + M + m) (G + m) 2 ∷ [] ≡ map (on_edge (number b)) (map named (row m) ++ edge (input_node m) (factor_node m) 2 ∷ [])
      run by named k =
          ap (λ (l : List (Edge ℕ)). l ++ edge_by (G + M + m) (G + m) 2 ∷ [])
          (map_cong by (λ g. on_edge (number b) (named g)) (row m) (All-mono (λ g. g < G) (λ g. by g ≡ on_edge (number b) (named g)) k (row m) (row_inside m)) ∙ sym (map-map (on_edge (number b)) named (row m)))
          ∙ ap (λ (l : List (Edge ℕ)). map (on_edge (number b)) (map named (row m)) ++ l) lastly
          ∙ sym (map-append (on_edge (number b)) (map named (row m)) (edge (input_node m) (factor_node m) 2 ∷ []))

      tree : treed m ≡ true → t ≡ number b (tree_node m)
      tree q = let n = number-tree b m in let j = index_filter treed M m h q in omega arith

      go : (c : Bool) → treed m ≡ c →
          cond c (edge_by t (G + m) (length (row m) + 1) ∷ map (tree_edge t) (row m) ++ edge_by (G + M + m) (G + m) 2 ∷ []) (map (grade_edge (G + m)) (row m) ++ edge_by (G + M + m) (G + m) 2 ∷ [])
          ≡ map (on_edge (number b)) (cond c (edge (tree_node m) (factor_node m) (suc (length (row m))) ∷ map (λ g. edge (tree_node m) (grade_node g) 2) (row m) ++ edge (input_node m) (factor_node m) 2 ∷ []) (map (λ g. edge (grade_node g) (factor_node m) 2) (row m) ++ edge (input_node m) (factor_node m) 2 ∷ []))
      go true q =
          let s : length (row m) + 1 ≡ suc (length (row m)) = omega arith in
          ap (λ (l : List (Edge ℕ)). edge_by t (G + m) (length (row m) + 1) ∷ l)
          (run (tree_edge t) (λ g. edge (tree_node m) (grade_node g) 2) (λ g l. ap (λ (x : ℕ). edge_by x g 2) (tree q) ∙ ap (λ (x : ℕ). edge_by (number b (tree_node m)) x 2) (sym (number-grade b g l))))
          ∙ ap (λ (x : Edge ℕ). x ∷ map (on_edge (number b)) (map (λ g. edge (tree_node m) (grade_node g) 2) (row m) ++ edge (input_node m) (factor_node m) 2 ∷ []))
          (ap (λ (x : ℕ). edge_by x (G + m) (length (row m) + 1)) (tree q) ∙ ap (λ (x : ℕ). edge_by (number b (tree_node m)) x (length (row m) + 1)) (sym f) ∙ ap (edge_by (number b (tree_node m)) (number b (factor_node m))) s)
      go false q = run (grade_edge (G + m)) (λ g. edge (grade_node g) (factor_node m) 2) (λ g l. ap (λ (x : ℕ). edge_by x (G + m) 2) (sym (number-grade b g l)) ∙ ap (λ (x : ℕ). edge_by (number b (grade_node g)) x 2) (sym f))

  module _ (counts grades : List ℕ) (counted : (m : ℕ) → m < M → get_or counts m 0 ≡ length (row m)) (sorted : (m : ℕ) → m < M → region grades (start row m) (length (row m)) ≡ row m) where
    from-by : (n m t s : ℕ) → m + n ≡ M → t ≡ G + 2 * M + before m → s ≡ start row m →
        edges_from G (G + M) counts grades n m t s ≡ concat (map (λ j. map (on_edge (number b)) (marker_edges j (row j))) (range m n))
    unfolding edges_from
    from-by zero m t s h e q = refl
    from-by (suc n) m t s h e q =
        let l : m < M = omega arith in
        let c : get_or counts m 0 ≡ length (row m) = counted m l in
        let r : region grades s (get_or counts m 0) ≡ row m = ap (λ (x : ℕ). region grades x (get_or counts m 0)) q ∙ ap (region grades (start row m)) c ∙ sorted m l in
        let a : m + 1 ≡ suc m = omega arith in
        ap (λ (gs : List ℕ). marker_edges_by (G + m) (G + M + m) t gs ++ edges_from G (G + M) counts grades n (m + 1) (t + trees_of (get_or counts m 0)) (s + get_or counts m 0)) r
        ∙ ap (λ (es : List (Edge ℕ)). es ++ edges_from G (G + M) counts grades n (m + 1) (t + trees_of (get_or counts m 0)) (s + get_or counts m 0)) (marker_by m t l e)
        ∙ ap (λ (es : List (Edge ℕ)). map (on_edge (number b)) (marker_edges m (row m)) ++ es)
        (ap (λ (x : ℕ). edges_from G (G + M) counts grades n x (t + trees_of (get_or counts m 0)) (s + get_or counts m 0)) a
        ∙ from-by n (suc m) (t + trees_of (get_or counts m 0)) (s + get_or counts m 0) (omega arith) (let k = ap trees_of c in omega (arith, before-suc m)) (omega (arith, start-suc row m)))

    -- all of them
    pub edges-by-number : edges_from G (G + M) counts grades M 0 (G + 2 * M) 0 ≡ map (on_edge (number b)) (built_edges b)
    edges-by-number = from-by M 0 (G + 2 * M) 0 (omega arith) (omega arith) refl ∙ map-concat (on_edge (number b)) (λ m. marker_edges m (row m)) (marker_numbers b)

    -- the markers that have a tree
    trees-by : (n m : ℕ) → m + n ≡ M → trees_from counts n m ≡ filter treed (range m n)
    unfolding trees_from
    trees-by zero m h = refl
    trees-by (suc n) m h =
        let a : m + 1 ≡ suc m = omega arith in
        let c : get_or counts m 0 ≡ length (row m) = counted m (omega arith) in
        ap (λ (x : ℕ). cons_if (leb 2 x) m (trees_from counts n (m + 1))) c
        ∙ ap (λ (x : ℕ). cons_if (treed m) m (trees_from counts n x)) a
        ∙ ap (cons_if (treed m) m) (trees-by n (suc m) (omega arith))

    pub trees-by-number : trees_from counts M 0 ≡ filter treed (marker_numbers b)
    trees-by-number = trees-by M 0 (omega arith)
