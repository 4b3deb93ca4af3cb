-- The names of nodes: their test of equality, and which names the built graph of a bale has. Each end of an edge is a node.
use Rattle.std.specs.Prelude.{◌≡◌, refl, Bool, true, false, cond, ◌||◌, ◌&&◌, List, [], ◌∷◌, ◌++◌, map, ℕ, suc, ◌<◌, length, eqb}
use Rattle.std.proofs.Common.{ap, ◌∙◌}
use Rattle.std.proofs.lemmas.Bool.{false≢true}
use Rattle.std.proofs.Math.Bool.{or-false}
use Rattle.graph_laws.specs.Bools.{eqb_sound, eqb_same}
use Rattle.definition.specs.Lists.{filter, mem}
use Rattle.graph_laws.specs.Lists.{All, upto, All-append, All-map-into, All-mono, All-every, All-filter, All-in}
use Rattle.graph_laws.specs.Walk.{mem-map}
use Rattle.graph_laws.specs.Reach.{mem_append}
use Rattle.graph_laws.specs.Ranks.{mem-upto, mem-filter, mem-none, All-concat-into}
use Rattle.definition.specs.FactorGraph.{Edge, Bale, Node, grade_node, factor_node, input_node, tree_node, eq_node, grades_of, has_tree, edge, marker_edges, marker_numbers, built_nodes, built_edges}
use Rattle.graph_laws.specs.Components.{Holds}

pub eq_node_sound : (a b : Node) → eq_node a b ≡ true → a ≡ b
eq_node_sound (grade_node a) (grade_node b) h = ap grade_node (eqb_sound a b h)
eq_node_sound (grade_node a) (factor_node b) h = absurd (false≢true h)
eq_node_sound (grade_node a) (input_node b) h = absurd (false≢true h)
eq_node_sound (grade_node a) (tree_node b) h = absurd (false≢true h)
eq_node_sound (factor_node a) (grade_node b) h = absurd (false≢true h)
eq_node_sound (factor_node a) (factor_node b) h = ap factor_node (eqb_sound a b h)
eq_node_sound (factor_node a) (input_node b) h = absurd (false≢true h)
eq_node_sound (factor_node a) (tree_node b) h = absurd (false≢true h)
eq_node_sound (input_node a) (grade_node b) h = absurd (false≢true h)
eq_node_sound (input_node a) (factor_node b) h = absurd (false≢true h)
eq_node_sound (input_node a) (input_node b) h = ap input_node (eqb_sound a b h)
eq_node_sound (input_node a) (tree_node b) h = absurd (false≢true h)
eq_node_sound (tree_node a) (grade_node b) h = absurd (false≢true h)
eq_node_sound (tree_node a) (factor_node b) h = absurd (false≢true h)
eq_node_sound (tree_node a) (input_node b) h = absurd (false≢true h)
eq_node_sound (tree_node a) (tree_node b) h = ap tree_node (eqb_sound a b h)

pub eq_node-same : (a : Node) → eq_node a a ≡ true
eq_node-same (grade_node a) = eqb_same a
eq_node-same (factor_node a) = eqb_same a
eq_node-same (input_node a) = eqb_same a
eq_node-same (tree_node a) = eqb_same a

-- a name of a kind among names of that kind
among : (k : ℕ → Node) → ((a b : ℕ) → eq_node (k a) (k b) ≡ eqb a b) → (m : ℕ) (xs : List ℕ) → mem eq_node (k m) (map k xs) ≡ mem eqb m xs
among k h m xs = mem-map eqb eq_node k (λ n. Unit {0}) (λ a b c d. h a b) m xs tt (All-every (λ n. Unit {0}) (λ n. tt) xs)

-- membership in the four runs of names
module _ (gs ms ns ts : List ℕ) where
  abbrev runs : List Node
  runs = map grade_node gs ++ (map factor_node ms ++ (map input_node ns ++ map tree_node ts))

  four : (v : Node)
      → mem eq_node v runs
      ≡ (mem eq_node v (map grade_node gs) || (mem eq_node v (map factor_node ms) || (mem eq_node v (map input_node ns) || mem eq_node v (map tree_node ts))))
  four v =
      mem_append eq_node v (map grade_node gs) (map factor_node ms ++ (map input_node ns ++ map tree_node ts))
      ∙ ap (λ (b : Bool). mem eq_node v (map grade_node gs) || b)
      (mem_append eq_node v (map factor_node ms) (map input_node ns ++ map tree_node ts)
      ∙ ap (λ (b : Bool). mem eq_node v (map factor_node ms) || b) (mem_append eq_node v (map input_node ns) (map tree_node ts)))

  in_grade : (g : ℕ) → mem eq_node (grade_node g) runs ≡ mem eqb g gs
  in_grade g =
      four (grade_node g)
      ∙ rw (among grade_node (λ a b. refl) g gs, mem-none eq_node (grade_node g) factor_node (λ a. refl) ms, mem-none eq_node (grade_node g) input_node (λ a. refl) ns, mem-none eq_node (grade_node g) tree_node (λ a. refl) ts)
      (or-false (mem eqb g gs))

  in_factor : (m : ℕ) → mem eq_node (factor_node m) runs ≡ mem eqb m ms
  in_factor m =
      four (factor_node m)
      ∙ rw (mem-none eq_node (factor_node m) grade_node (λ a. refl) gs, among factor_node (λ a b. refl) m ms, mem-none eq_node (factor_node m) input_node (λ a. refl) ns, mem-none eq_node (factor_node m) tree_node (λ a. refl) ts)
      (or-false (mem eqb m ms))

  in_input : (m : ℕ) → mem eq_node (input_node m) runs ≡ mem eqb m ns
  in_input m =
      four (input_node m)
      ∙ rw (mem-none eq_node (input_node m) grade_node (λ a. refl) gs, mem-none eq_node (input_node m) factor_node (λ a. refl) ms, among input_node (λ a b. refl) m ns, mem-none eq_node (input_node m) tree_node (λ a. refl) ts)
      (or-false (mem eqb m ns))

  in_tree : (m : ℕ) → mem eq_node (tree_node m) runs ≡ mem eqb m ts
  in_tree m =
      four (tree_node m)
      ∙ rw (mem-none eq_node (tree_node m) grade_node (λ a. refl) gs, mem-none eq_node (tree_node m) factor_node (λ a. refl) ms, mem-none eq_node (tree_node m) input_node (λ a. refl) ns, among tree_node (λ a b. refl) m ts)

-- what checks 6 of the paper asks: each pair names a grade and a marker that are there
abbrev pub Valid : Bale → Type 0
Valid b = All (λ q. (q.grade < b.grades) × (q.marker < length b.markers)) b.pairs

module _ (b : Bale) where
  abbrev trees : List ℕ
  trees = filter (λ m. has_tree (grades_of b.pairs m)) (marker_numbers b)

  pub node-grade : (g : ℕ) → mem eq_node (grade_node g) (built_nodes b) ≡ mem eqb g (upto b.grades)
  node-grade g = in_grade (upto b.grades) (marker_numbers b) (marker_numbers b) trees g

  pub node-factor : (m : ℕ) → mem eq_node (factor_node m) (built_nodes b) ≡ mem eqb m (marker_numbers b)
  node-factor m = in_factor (upto b.grades) (marker_numbers b) (marker_numbers b) trees m

  pub node_input : (m : ℕ) → mem eq_node (input_node m) (built_nodes b) ≡ mem eqb m (marker_numbers b)
  node_input m = in_input (upto b.grades) (marker_numbers b) (marker_numbers b) trees m

  pub node-tree : (m : ℕ) → mem eq_node (tree_node m) (built_nodes b) ≡ (mem eqb m (marker_numbers b) && has_tree (grades_of b.pairs m))
  node-tree m =
      in_tree (upto b.grades) (marker_numbers b) (marker_numbers b) trees m
      ∙ mem-filter eqb eqb_sound eqb_same (λ k. has_tree (grades_of b.pairs k)) m (marker_numbers b)

  abbrev Inside : Edge Node → Type 0
  Inside e = Holds eq_node (built_nodes b) e.node1 × Holds eq_node (built_nodes b) e.node2

  grades-inside : Valid b → (m : ℕ) → All (λ g. Holds eq_node (built_nodes b) (grade_node g)) (grades_of b.pairs m)
  grades-inside valid m =
      All-map-into (λ g. Holds eq_node (built_nodes b) (grade_node g)) (λ q. q.grade) (filter (λ q. eqb q.marker m) b.pairs)
      (All-filter (λ q. Holds eq_node (built_nodes b) (grade_node q.grade)) (λ q. eqb q.marker m) b.pairs
      (All-mono (λ q. (q.grade < b.grades) × (q.marker < length b.markers)) (λ q. Holds eq_node (built_nodes b) (grade_node q.grade))
      (λ q h. node-grade q.grade ∙ mem-upto b.grades q.grade h.0) b.pairs valid))

  marker_edges-inside : (m : ℕ) (gs : List ℕ) → Holds eq_node (built_nodes b) (factor_node m) → Holds eq_node (built_nodes b) (input_node m)
      → (has_tree gs ≡ true → Holds eq_node (built_nodes b) (tree_node m)) → All (λ g. Holds eq_node (built_nodes b) (grade_node g)) gs → All Inside (marker_edges m gs)
  marker_edges-inside m gs f i t h = go (has_tree gs) t
    where
      last : All Inside (edge (input_node m) (factor_node m) 2 ∷ [])
      last = ((i, f), tt)

      go : (c : Bool) → (c ≡ true → Holds eq_node (built_nodes b) (tree_node m))
          → All Inside
          (cond c
          (edge (tree_node m) (factor_node m) (suc (length gs)) ∷ map (λ g. edge (tree_node m) (grade_node g) 2) gs ++ edge (input_node m) (factor_node m) 2 ∷ [])
          (map (λ g. edge (grade_node g) (factor_node m) 2) gs ++ edge (input_node m) (factor_node m) 2 ∷ []))
      go true t' = (
        (t' refl, f),
        All-append Inside (map (λ g. edge (tree_node m) (grade_node g) 2) gs) (edge (input_node m) (factor_node m) 2 ∷ [])
            (All-map-into Inside (λ g. edge (tree_node m) (grade_node g) 2) gs
            (All-mono (λ g. Holds eq_node (built_nodes b) (grade_node g)) (λ g. Inside (edge (tree_node m) (grade_node g) 2)) (λ g k. (t' refl, k)) gs h))
            last,
      )
      go false t' =
          All-append Inside (map (λ g. edge (grade_node g) (factor_node m) 2) gs) (edge (input_node m) (factor_node m) 2 ∷ [])
          (All-map-into Inside (λ g. edge (grade_node g) (factor_node m) 2) gs
          (All-mono (λ g. Holds eq_node (built_nodes b) (grade_node g)) (λ g. Inside (edge (grade_node g) (factor_node m) 2)) (λ g k. (k, f)) gs h))
          last

  -- each end of an edge is a node
  pub built-inside : Valid b → All Inside (built_edges b)
  built-inside valid =
      All-concat-into Inside (λ m. marker_edges m (grades_of b.pairs m)) (marker_numbers b)
      (All-in eqb eqb_same (λ m. All Inside (marker_edges m (grades_of b.pairs m))) (marker_numbers b)
      (λ m h.
      marker_edges-inside m (grades_of b.pairs m) (node-factor m ∙ h) (node_input m ∙ h)
      (λ t. node-tree m ∙ rw (h, t)) (grades-inside valid m)))
