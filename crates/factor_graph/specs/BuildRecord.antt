-- The record of the built graph: its parts, put together.
use Rattle.std.specs.Prelude.{◌≡◌, refl, ℕ, ◌+◌, ◌*◌, ◌≤◌, length, set}
use Rattle.std.proofs.Common.{sym, ◌∙◌, arith, length-set, length-append}
use Rattle.std.proofs.Math.Path.{ap}
use mathlib.Core.List.{List, [], ◌∷◌, ◌++◌, map, map-append, map-map, append_assoc}
use Rattle.std.proofs.Math.ListN.{replicate}
use Rattle.definition.specs.Lists.{range, filter}
use Rattle.definition.specs.FactorGraph.{Bale, Node, grade_node, factor_node, input_node, tree_node, grades_of, has_tree, marker_numbers, built_nodes, kind_of}
use Rattle.definition.specs.Components.{SubgraphNode}
use Rattle.list_laws.specs.Put.{put, put-none, put_next, length-put}
use Rattle.factor_graph.specs.Words.{kind_code, label, numbered_graph}
use Rattle.list_laws.specs.PutParts.{put_cons, put_comm}
use Rattle.factor_graph.specs.BuildSums.{length-range}
use Rattle.factor_graph.specs.BuildNodes.{kind_words}

-- ---- kinds and labels, run by run

map_same : {A : Type 0} (f : A → ℕ) (v : ℕ) (xs : List A) → ((a : A) → f a ≡ v) → map f xs ≡ replicate (length xs) v
map_same f v [] h = refl
map_same f v (x ∷ xs) h = ap (λ (y : ℕ). y ∷ map f xs) (h x) ∙ ap (λ (l : List ℕ). v ∷ l) (map_same f v xs h)

map_self : (f : ℕ → ℕ) (xs : List ℕ) → ((a : ℕ) → f a ≡ a) → map f xs ≡ xs
map_self f [] h = refl
map_self f (x ∷ xs) h = ap (λ (y : ℕ). y ∷ map f xs) (h x) ∙ ap (λ (l : List ℕ). x ∷ l) (map_self f xs h)

four_map : (f : Node → ℕ) (us vs ws xs : List Node) → map f (us ++ (vs ++ (ws ++ xs))) ≡ map f us ++ (map f vs ++ (map f ws ++ map f xs))
four_map f us vs ws xs =
    map-append f us (vs ++ (ws ++ xs))
    ∙ ap (λ (l : List ℕ). map f us ++ l) (map-append f vs (ws ++ xs) ∙ ap (λ (l : List ℕ). map f vs ++ l) (map-append f ws xs))

module _ (b : Bale) where
  abbrev trees : List ℕ
  trees = filter (λ m. has_tree (grades_of b.pairs m)) (marker_numbers b)

  abbrev code : Node → ℕ
  code v = kind_code (kind_of b v)

  codes : (k : ℕ → Node) (v : ℕ) (xs : List ℕ) → ((m : ℕ) → code (k m) ≡ v) → map code (map k xs) ≡ replicate (length xs) v
  codes k v xs h = map-map code k xs ∙ map_same (λ m. code (k m)) v xs h

  pub kinds_are : map (λ (x : SubgraphNode). kind_code x.kind) (numbered_graph b).nodes ≡ kind_words b.grades (length b.markers) (length trees)
  unfolding numbered_graph
  kinds_are =
      map-map (λ (x : SubgraphNode). kind_code x.kind) _ (built_nodes b)
      ∙ four_map code (map grade_node (range 0 b.grades)) (map factor_node (marker_numbers b)) (map input_node (marker_numbers b)) (map tree_node trees)
      ∙ ap (λ (l : List ℕ). l ++ (map code (map factor_node (marker_numbers b)) ++ (map code (map input_node (marker_numbers b)) ++ map code (map tree_node trees)))) (codes grade_node 0 (range 0 b.grades) (λ m. refl) ∙ ap (λ (n : ℕ). replicate n 0) (length-range 0 b.grades))
      ∙ ap (λ (l : List ℕ). replicate b.grades 0 ++ (l ++ (map code (map input_node (marker_numbers b)) ++ map code (map tree_node trees)))) (codes factor_node 1 (marker_numbers b) (λ m. refl) ∙ ap (λ (n : ℕ). replicate n 1) (length-range 0 (length b.markers)))
      ∙ ap (λ (l : List ℕ). replicate b.grades 0 ++ (replicate (length b.markers) 1 ++ (l ++ map code (map tree_node trees)))) (codes input_node 2 (marker_numbers b) (λ m. refl) ∙ ap (λ (n : ℕ). replicate n 2) (length-range 0 (length b.markers)))
      ∙ ap (λ (l : List ℕ). replicate b.grades 0 ++ (replicate (length b.markers) 1 ++ (replicate (length b.markers) 2 ++ l))) (codes tree_node 3 trees (λ m. refl))

  labelled : (k : ℕ → Node) (xs : List ℕ) → ((m : ℕ) → label (k m) ≡ m) → map label (map k xs) ≡ xs
  labelled k xs h = map-map label k xs ∙ map_self (λ m. label (k m)) xs h

  pub labels_are : map label (built_nodes b) ≡ range 0 b.grades ++ (marker_numbers b ++ (marker_numbers b ++ trees))
  labels_are =
      four_map label (map grade_node (range 0 b.grades)) (map factor_node (marker_numbers b)) (map input_node (marker_numbers b)) (map tree_node trees)
      ∙ ap (λ (l : List ℕ). l ++ (map label (map factor_node (marker_numbers b)) ++ (map label (map input_node (marker_numbers b)) ++ map label (map tree_node trees)))) (labelled grade_node (range 0 b.grades) (λ m. refl))
      ∙ ap (λ (l : List ℕ). range 0 b.grades ++ (l ++ (map label (map input_node (marker_numbers b)) ++ map label (map tree_node trees)))) (labelled factor_node (marker_numbers b) (λ m. refl))
      ∙ ap (λ (l : List ℕ). range 0 b.grades ++ (marker_numbers b ++ (l ++ map label (map tree_node trees)))) (labelled input_node (marker_numbers b) (λ m. refl))
      ∙ ap (λ (l : List ℕ). range 0 b.grades ++ (marker_numbers b ++ (marker_numbers b ++ l))) (labelled tree_node trees (λ m. refl))

-- ---- the parts in their places

-- two words and five ranges, of which the last is put before the two that precede it
pub assembled : (w : List ℕ) (n e : ℕ) (K L F S D : List ℕ) → length K ≡ n → length L ≡ n → length F ≡ n + 1 → length S ≡ 2 * e → length D ≡ 5 * e → 3 + 3 * n + 7 * e ≤ length w →
    put (put (put (put (put (set (set w 0 n) 1 e) 2 K) (2 + n) L) (3 + 3 * n + 2 * e) D) (2 + 2 * n) F) (3 + 3 * n) S ≡ put w 0 (n ∷ e ∷ K ++ (L ++ (F ++ (S ++ D))))
assembled w n e K L F S D k l f s d h =
    let w2 = put (set (set w 0 n) 1 e) 2 K in
    let w3 = put w2 (2 + n) L in
    let H = n ∷ e ∷ [] in
    let a1 = put w 0 H in
    let c1 = H ++ K in
    let c2 = c1 ++ L in
    let c3 = c2 ++ F in
    let c4 = c3 ++ S in
    let n1 : length c1 ≡ 2 + n = omega (arith, length-append H K) in
    let n2 : length c2 ≡ 2 + 2 * n = omega (arith, length-append c1 L) in
    let n3 : length c3 ≡ 3 + 3 * n = omega (arith, length-append c2 F) in
    let n4 : length c4 ≡ 3 + 3 * n + 2 * e = omega (arith, length-append c3 S) in
    let head : set (set w 0 n) 1 e ≡ put w 0 H =
    put-none (set (set w 0 n) 1 e) (1 + 1) (rw (length-set (set w 0 n) 1 e, length-set w 0 n) (omega arith))
    ∙ put_cons (set w 0 n) 1 e [] (rw (length-set w 0 n) (omega arith))
    ∙ put_cons w 0 n (e ∷ []) (omega arith)
    in
    let q2 : w2 ≡ put w 0 c1 = ap (λ (x : List ℕ). put x 2 K) head ∙ put_next 0 w 0 H K (omega arith) in
    let q3 : w3 ≡ put w 0 c2 = ap (λ (x : List ℕ). put x (2 + n) L) q2 ∙ ap (λ (i : ℕ). put (put w 0 c1) i L) (let z : 2 + n ≡ 0 + length c1 = omega arith in z) ∙ put_next 0 w 0 c1 L (omega arith) in
    let m3 : length w3 ≡ length w = ap length q3 ∙ length-put w 0 c2 (omega arith) in
    let q5 : put (put w3 (3 + 3 * n + 2 * e) D) (2 + 2 * n) F ≡ put (put w 0 c3) (3 + 3 * n + 2 * e) D =
    sym (put_comm 0 w3 (2 + 2 * n) (3 + 3 * n + 2 * e) F D (omega arith) (omega arith))
    ∙ ap (λ (x : List ℕ). put (put x (2 + 2 * n) F) (3 + 3 * n + 2 * e) D) q3
    ∙ ap (λ (i : ℕ). put (put (put w 0 c2) i F) (3 + 3 * n + 2 * e) D) (let z : 2 + 2 * n ≡ 0 + length c2 = omega arith in z)
    ∙ ap (λ (x : List ℕ). put x (3 + 3 * n + 2 * e) D) (put_next 0 w 0 c2 F (omega arith))
    in
    let m5 : length (put w 0 c3) ≡ length w = length-put w 0 c3 (omega arith) in
    ap (λ (x : List ℕ). put x (3 + 3 * n) S) q5
    ∙ sym (put_comm 0 (put w 0 c3) (3 + 3 * n) (3 + 3 * n + 2 * e) S D (omega arith) (omega arith))
    ∙ ap (λ (i : ℕ). put (put (put w 0 c3) i S) (3 + 3 * n + 2 * e) D) (let z : 3 + 3 * n ≡ 0 + length c3 = omega arith in z)
    ∙ ap (λ (x : List ℕ). put x (3 + 3 * n + 2 * e) D) (put_next 0 w 0 c3 S (omega arith))
    ∙ ap (λ (i : ℕ). put (put w 0 c4) i D) (let z : 3 + 3 * n + 2 * e ≡ 0 + length c4 = omega arith in z)
    ∙ put_next 0 w 0 c4 D (omega arith)
    ∙ ap (put w 0) (append_assoc c3 S D ∙ append_assoc c2 F (S ++ D) ∙ append_assoc c1 L (F ++ (S ++ D)) ∙ append_assoc H K (L ++ (F ++ (S ++ D))))
