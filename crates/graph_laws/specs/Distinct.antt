-- No node is listed twice; and where no pair is given twice, no edge.
use Rattle.std.specs.Prelude.{◌≡◌, refl, Bool, true, false, cond, ◌&&◌, List, [], ◌∷◌, ◌++◌, map, ℕ, suc, length, eqb}
use Rattle.std.proofs.Common.{sym, ap, ◌∙◌, subst, true≢false}
use Rattle.std.proofs.Math.Bool.{and-true}
use Rattle.graph_laws.specs.Bools.{not-true, eqb_sound, eqb_same}
use Rattle.definition.specs.Lists.{filter, concat, mem}
use Rattle.graph_laws.specs.Lists.{All, upto, All-append, All-map-into, All-mono, All-every, All-at, All-in, filter_holds}
use Rattle.graph_laws.specs.Reach.{mem_append}
use Rattle.graph_laws.specs.Ranks.{NoDup, mem-none, filter_nodup, upto_nodup, All-concat-into}
use Rattle.graph_laws.specs.Partition.{nodup_append}
use Rattle.graph_laws.specs.Positions.{eq_edge_sound, eq_edge-same}
use Rattle.graph_laws.specs.AloneChecks.{eq_pair_sound, eq_pair-same, nodup_map}
use Rattle.definition.specs.FactorGraph.{Edge, Bale, Pair, eq_pair, Node, grade_node, factor_node, input_node, tree_node, eq_node, eq_edge, grades_of, has_tree, edge, marker_edges, marker_numbers, built_nodes, built_edges}
use Rattle.graph_laws.specs.Names.{eq_node_sound, eq_node-same}

-- runs of names
run : (k : ℕ → Node) → ((a b : ℕ) → eq_node (k a) (k b) ≡ eqb a b) → (xs : List ℕ) → NoDup eqb xs → NoDup eq_node (map k xs)
run k h xs n = nodup_map eqb eq_node k (λ m. Unit {0}) (λ a b c d. h a b) xs (All-every (λ m. Unit {0}) (λ m. tt) xs) n

-- the names of one kind are not among those of another
out : (k l : ℕ → Node) → ((a b : ℕ) → eq_node (k a) (l b) ≡ false) → (xs ys : List ℕ) → All (λ v. mem eq_node v (map l ys) ≡ false) (map k xs)
out k l h xs ys = All-map-into (λ v. mem eq_node v (map l ys) ≡ false) k xs (All-every (λ a. mem eq_node (k a) (map l ys) ≡ false) (λ a. mem-none eq_node (k a) l (h a) ys) xs)

out_append : (vs xs ys : List Node) → All (λ v. mem eq_node v xs ≡ false) vs → All (λ v. mem eq_node v ys ≡ false) vs → All (λ v. mem eq_node v (xs ++ ys) ≡ false) vs
out_append [] xs ys h k = tt
out_append (v ∷ vs) xs ys h k = (mem_append eq_node v xs ys ∙ rw h.0 k.0, out_append vs xs ys h.1 k.1)

pub nodes_nodup : (b : Bale) → NoDup eq_node (built_nodes b)
nodes_nodup b =
    nodup_append eq_node eq_node_sound eq_node-same A (B ++ (C ++ D)) (run grade_node (λ x y. refl) gs (upto_nodup b.grades))
    (nodup_append eq_node eq_node_sound eq_node-same B (C ++ D) (run factor_node (λ x y. refl) ms (upto_nodup (length b.markers)))
    (nodup_append eq_node eq_node_sound eq_node-same C D (run input_node (λ x y. refl) ms (upto_nodup (length b.markers)))
    (run tree_node (λ x y. refl) ts (filter_nodup eqb eqb_sound eqb_same (λ m. has_tree (grades_of b.pairs m)) ms (upto_nodup (length b.markers))))
    (out input_node tree_node (λ x y. refl) ms ts))
    (out_append B C D (out factor_node input_node (λ x y. refl) ms ms) (out factor_node tree_node (λ x y. refl) ms ts)))
    (out_append A B (C ++ D) (out grade_node factor_node (λ x y. refl) gs ms)
    (out_append A C D (out grade_node input_node (λ x y. refl) gs ms) (out grade_node tree_node (λ x y. refl) gs ts)))
  where
    gs : List ℕ
    gs = upto b.grades

    ms : List ℕ
    ms = marker_numbers b

    ts : List ℕ
    ts = filter (λ m. has_tree (grades_of b.pairs m)) (marker_numbers b)

    A : List Node
    A = map grade_node gs

    B : List Node
    B = map factor_node ms

    C : List Node
    C = map input_node ms

    D : List Node
    D = map tree_node ts

-- lists whose elements tell which of the lists they are in
concat_nodup : {X : Type 0} (eq_x : X → X → Bool) (sound : (a b : X) → eq_x a b ≡ true → a ≡ b) (same : (a : X) → eq_x a a ≡ true) (tag : X → ℕ) (f : ℕ → List X)
    → ((m : ℕ) → All (λ e. tag e ≡ m) (f m)) → (xs : List ℕ) → NoDup eqb xs → All (λ m. NoDup eq_x (f m)) xs → NoDup eq_x (concat (map f xs))
concat_nodup eq_x sound same tag f t [] n h = tt
concat_nodup {X} eq_x sound same tag f t (m ∷ xs) n h =
    nodup_append eq_x sound same (f m) (concat (map f xs)) h.0 (concat_nodup eq_x sound same tag f t xs n.1 h.1)
    (All-mono (λ e. tag e ≡ m) (λ e. mem eq_x e (concat (map f xs)) ≡ false)
    (λ e q. not-true (mem eq_x e (concat (map f xs)))
    (λ i. true≢false (sym (All-at eq_x sound (λ x. mem eqb (tag x) xs ≡ true) (concat (map f xs)) tags e i) ∙ ap (λ (k : ℕ). mem eqb k xs) q ∙ n.0)))
    (f m) (t m))
  where
    tags : All (λ x. mem eqb (tag x) xs ≡ true) (concat (map f xs))
    tags =
        All-concat-into (λ x. mem eqb (tag x) xs ≡ true) f xs
        (All-in eqb eqb_same (λ k. All (λ x. mem eqb (tag x) xs ≡ true) (f k)) xs
        (λ k i. All-mono (λ x. tag x ≡ k) (λ x. mem eqb (tag x) xs ≡ true) (λ x q. ap (λ (j : ℕ). mem eqb j xs) q ∙ i) (f k) (t k)))

-- the marker of an edge
abbrev tag_of : Node → Node → ℕ
tag_of (tree_node m) w = m
tag_of (input_node m) w = m
tag_of (factor_node m) w = m
tag_of (grade_node g) (factor_node m) = m
tag_of (grade_node g) (grade_node m) = m
tag_of (grade_node g) (input_node m) = m
tag_of (grade_node g) (tree_node m) = m

abbrev tag : Edge Node → ℕ
tag e = tag_of e.node1 e.node2

marker_edges-tag : (m : ℕ) (hs : List ℕ) → All (λ e. tag e ≡ m) (marker_edges m hs)
marker_edges-tag m hs = go (has_tree hs)
  where
    P : Edge Node → Type 0
    P e = tag e ≡ m

    part : (f : ℕ → Edge Node) → ((g : ℕ) → P (f g)) → All P (map f hs ++ edge (input_node m) (factor_node m) 2 ∷ [])
    part f h = All-append P (map f hs) (edge (input_node m) (factor_node m) 2 ∷ []) (All-map-into P f hs (All-every (λ g. P (f g)) h hs)) (refl, tt)

    go : (c : Bool)
        → All P
        (cond c
        (edge (tree_node m) (factor_node m) (suc (length hs)) ∷ map (λ g. edge (tree_node m) (grade_node g) 2) hs ++ edge (input_node m) (factor_node m) 2 ∷ [])
        (map (λ g. edge (grade_node g) (factor_node m) 2) hs ++ edge (input_node m) (factor_node m) 2 ∷ []))
    go true = (refl, part (λ g. edge (tree_node m) (grade_node g) 2) (λ g. refl))
    go false = part (λ g. edge (grade_node g) (factor_node m) 2) (λ g. refl)

marker_edges_nodup : (m : ℕ) (hs : List ℕ) → NoDup eqb hs → NoDup (eq_edge eq_node) (marker_edges m hs)
marker_edges_nodup m hs n = go (has_tree hs)
  where
    eq_e : Edge Node → Edge Node → Bool
    eq_e = eq_edge eq_node

    ine : Edge Node
    ine = edge (input_node m) (factor_node m) 2

    part : (f : ℕ → Edge Node) → ((a c : ℕ) → eq_e (f a) (f c) ≡ eqb a c) → ((a : ℕ) → eq_e (f a) ine ≡ false) → NoDup eq_e (map f hs ++ ine ∷ [])
    part f h k =
        nodup_append eq_e (eq_edge_sound eq_node eq_node_sound eq_node-same) (eq_edge-same eq_node eq_node_sound eq_node-same) (map f hs) (ine ∷ [])
        (nodup_map eqb eq_e f (λ a. Unit {0}) (λ a c x y. h a c) hs (All-every (λ a. Unit {0}) (λ a. tt) hs) n) (refl, tt)
        (All-map-into (λ e. mem eq_e e (ine ∷ []) ≡ false) f hs (All-every (λ a. mem eq_e (f a) (ine ∷ []) ≡ false) (λ a. rw (k a)) hs))

    first : mem eq_e (edge (tree_node m) (factor_node m) (suc (length hs))) (map (λ g. edge (tree_node m) (grade_node g) 2) hs ++ ine ∷ []) ≡ false
    first =
        mem_append eq_e (edge (tree_node m) (factor_node m) (suc (length hs))) (map (λ g. edge (tree_node m) (grade_node g) 2) hs) (ine ∷ [])
        ∙ rw (mem-none eq_e (edge (tree_node m) (factor_node m) (suc (length hs))) (λ g. edge (tree_node m) (grade_node g) 2) (λ g. rw (eqb_same m)) hs)

    go : (c : Bool)
        → NoDup eq_e
        (cond c
        (edge (tree_node m) (factor_node m) (suc (length hs)) ∷ map (λ g. edge (tree_node m) (grade_node g) 2) hs ++ ine ∷ [])
        (map (λ g. edge (grade_node g) (factor_node m) 2) hs ++ ine ∷ []))
    go true = (first, part (λ g. edge (tree_node m) (grade_node g) 2) (λ a c. rw (eqb_same m) (and-true (eqb a c))) (λ a. refl))
    go false = part (λ g. edge (grade_node g) (factor_node m) 2) (λ a c. rw (eqb_same m) (and-true (eqb a c && true) ∙ and-true (eqb a c))) (λ a. refl)

pub grades_nodup : (ps : List Pair) → NoDup eq_pair ps → (m : ℕ) → NoDup eqb (grades_of ps m)
grades_nodup ps n m =
    nodup_map eq_pair eqb (λ q. q.grade) (λ q. eqb q.marker m ≡ true)
    (λ q r h k. sym (and-true (eqb q.grade r.grade)) ∙ ap (λ (c : Bool). eqb q.grade r.grade && c) (sym (same q r h k)))
    (filter (λ q. eqb q.marker m) ps) (filter_holds (λ q. eqb q.marker m) ps)
    (filter_nodup eq_pair eq_pair_sound eq_pair-same (λ q. eqb q.marker m) ps n)
  where
    same : (q r : Pair) → eqb q.marker m ≡ true → eqb r.marker m ≡ true → eqb q.marker r.marker ≡ true
    same q r h k = subst (λ (x : ℕ). eqb q.marker x ≡ true) (sym (eqb_sound r.marker m k)) h

pub edges_nodup : (b : Bale) → NoDup eq_pair b.pairs → NoDup (eq_edge eq_node) (built_edges b)
edges_nodup b n =
    concat_nodup (eq_edge eq_node) (eq_edge_sound eq_node eq_node_sound eq_node-same) (eq_edge-same eq_node eq_node_sound eq_node-same) tag
    (λ m. marker_edges m (grades_of b.pairs m)) (λ m. marker_edges-tag m (grades_of b.pairs m)) (marker_numbers b) (upto_nodup (length b.markers))
    (All-every (λ m. NoDup (eq_edge eq_node) (marker_edges m (grades_of b.pairs m))) (λ m. marker_edges_nodup m (grades_of b.pairs m) (grades_nodup b.pairs n m)) (marker_numbers b))
