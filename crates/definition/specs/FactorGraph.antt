-- The factor graph that is built of a bale (`add_factor_nodes` and `add_ct_nodes` of src/factor_graph.rs).
-- A node goes by its name, and an edge by its two ends. A node's number is its place in the list of nodes, an edge's its place in the list of edges.
use Rattle.std.specs.Prelude.{ℕ, suc, Bool, true, false, cond, ◌&&◌, List, [], ◌∷◌, ◌++◌, map, eqb, leb, Float, length, get_or}
use Rattle.definition.specs.Floats.{zeroᶠ}
use Rattle.definition.specs.Lists.{range, filter, concat}

-- ---- what is given. Document 01's words: a grade is an output variable, a marker an input variable, a pair an edge of one of each, a bale the graph.

-- the two evidence floats of a marker: the initial belief of its input variable
pub record Evidence : Type 0 where
  pub absent : Float
  pub present : Float

pub record Pair : Type 0 where
  pub grade : ℕ
  pub marker : ℕ

abbrev pub eq_pair : Pair → Pair → Bool
eq_pair q r = eqb q.grade r.grade && eqb q.marker r.marker

pub record Bale : Type 0 where
  pub grades : ℕ
  pub markers : List Evidence
  pub pairs : List Pair

-- ---- nodes and edges

-- Grade g; or marker m's factor, its input variable, its convolution tree.
pub data Node : Type 0 where
  grade_node factor_node input_node tree_node : ℕ → Node

abbrev pub eq_node : Node → Node → Bool
eq_node (grade_node a) (grade_node b) = eqb a b
eq_node (grade_node a) (factor_node b) = false
eq_node (grade_node a) (input_node b) = false
eq_node (grade_node a) (tree_node b) = false
eq_node (factor_node a) (grade_node b) = false
eq_node (factor_node a) (factor_node b) = eqb a b
eq_node (factor_node a) (input_node b) = false
eq_node (factor_node a) (tree_node b) = false
eq_node (input_node a) (grade_node b) = false
eq_node (input_node a) (factor_node b) = false
eq_node (input_node a) (input_node b) = eqb a b
eq_node (input_node a) (tree_node b) = false
eq_node (tree_node a) (grade_node b) = false
eq_node (tree_node a) (factor_node b) = false
eq_node (tree_node a) (input_node b) = false
eq_node (tree_node a) (tree_node b) = eqb a b

-- An edge has two ends, and its messages so many entries.
pub record Edge (A : Type 0) : Type 0 where
  pub node1 : A
  pub node2 : A
  pub message_length : ℕ

-- the nodes and the edges, each in the order of their numbers
pub record Graph (A : Type 0) : Type 0 where
  pub nodes : List A
  pub edges : List (Edge A)

abbrev pub edge : Node → Node → ℕ → Edge Node
edge a b l = record { node1 = a; node2 = b; message_length = l }

abbrev pub eq_edge : {A : Type 0} → (A → A → Bool) → Edge A → Edge A → Bool
eq_edge eq e f = eq e.node1 f.node1 && eq e.node2 f.node2 && eqb e.message_length f.message_length

-- ---- the markers

abbrev pub marker_numbers : Bale → List ℕ
marker_numbers b = range 0 (length b.markers)

-- the grades of marker m, in the order of the pairs
abbrev pub grades_of : List Pair → ℕ → List ℕ
grades_of ps m = map (λ q. q.grade) (filter (λ q. eqb q.marker m) ps)

-- A marker's degree is one more than its grades, for the input. It has a tree if the degree is above 2.
abbrev pub degree : Bale → ℕ → ℕ
degree b m = suc (length (grades_of b.pairs m))

abbrev pub has_tree : List ℕ → Bool
has_tree gs = leb 2 (length gs)

-- ---- the graph

-- the grades, the factors, the inputs, then the trees
abbrev pub built_nodes : Bale → List Node
built_nodes b =
    map grade_node (range 0 b.grades)
    ++ (map factor_node (marker_numbers b) ++ (map input_node (marker_numbers b) ++ map tree_node (filter (λ m. has_tree (grades_of b.pairs m)) (marker_numbers b))))

-- the edges of marker m, whose grades are gs: where it has a tree, that one stands between the factor and the grades
abbrev pub marker_edges : ℕ → List ℕ → List (Edge Node)
marker_edges m gs =
    cond (has_tree gs)
    (edge (tree_node m) (factor_node m) (suc (length gs)) ∷ map (λ g. edge (tree_node m) (grade_node g) 2) gs ++ edge (input_node m) (factor_node m) 2 ∷ [])
    (map (λ g. edge (grade_node g) (factor_node m) 2) gs ++ edge (input_node m) (factor_node m) 2 ∷ [])

abbrev pub built_edges : Bale → List (Edge Node)
built_edges b = concat (map (λ m. marker_edges m (grades_of b.pairs m)) (marker_numbers b))

unfoldable pub built_graph : Bale → Graph Node
built_graph b = record { nodes = built_nodes b; edges = built_edges b }

-- ---- kinds: what a run needs to know of a node

-- A factor and a tree have the marker's degree, an input its evidence. A grade does not know its number.
pub data Kind : Type 0 where
  grade : Kind
  factor : ℕ → Kind
  input : Evidence → Kind
  tree : ℕ → Kind

abbrev pub is_grade : Kind → Bool
is_grade grade = true
is_grade (factor d) = false
is_grade (input e) = false
is_grade (tree d) = false

abbrev pub is_factor : Kind → Bool
is_factor grade = false
is_factor (factor d) = true
is_factor (input e) = false
is_factor (tree d) = false

abbrev pub is_input : Kind → Bool
is_input grade = false
is_input (factor d) = false
is_input (input e) = true
is_input (tree d) = false

abbrev pub is_tree : Kind → Bool
is_tree grade = false
is_tree (factor d) = false
is_tree (input e) = false
is_tree (tree d) = true

-- for a marker that is not there
abbrev pub no_evidence : Evidence
no_evidence = record { absent = zeroᶠ; present = zeroᶠ }

abbrev pub kind_of : Bale → Node → Kind
kind_of b (grade_node g) = grade
kind_of b (factor_node m) = factor (degree b m)
kind_of b (input_node m) = input (get_or b.markers m no_evidence)
kind_of b (tree_node m) = tree (degree b m)
