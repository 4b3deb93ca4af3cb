-- How many nodes and edges a built graph has, for whoever lays them out in lent words.
use Rattle.std.specs.Prelude.{◌≡◌, refl, Bool, true, false, cond, ◌||◌, List, [], ◌∷◌, ◌++◌, map, ℕ, suc, ◌+◌, ◌<◌, length, eqb}
use Rattle.std.proofs.Common.{ap, ◌∙◌, true≢false, arith, length-append}
use Rattle.std.proofs.lemmas.Bool.{false≢true}
use Rattle.std.proofs.lemmas.List.{length-map}
use Rattle.graph_laws.specs.Bools.{eqb_sound}
use Rattle.definition.specs.Lists.{cons_if, filter, concat, mem}
use Rattle.graph_laws.specs.Lists.{All, upto, All-mono}
use Rattle.graph_laws.specs.Ranks.{NoDup, mem-upto, upto_nodup}
use Rattle.definition.specs.FactorGraph.{Bale, Pair, Node, grade_node, factor_node, input_node, tree_node, edge, Edge, grades_of, has_tree, marker_edges, marker_numbers, built_nodes, built_edges}
use Rattle.graph_laws.specs.Names.{Valid}
use Rattle.graph_laws.specs.AloneChecks.{length-upto}

abbrev total : (ℕ → ℕ) → List ℕ → ℕ
total f [] = 0
total f (x ∷ xs) = f x + total f xs

total-add : (f g h : ℕ → ℕ) → ((x : ℕ) → f x ≡ g x + h x) → (xs : List ℕ) → total f xs ≡ total g xs + total h xs
total-add f g h e [] = omega arith
total-add f g h e (x ∷ xs) = omega (arith, e x, total-add f g h e xs)

total-zero : (f : ℕ → ℕ) (k : ℕ) (xs : List ℕ) → mem eqb k xs ≡ false → total (λ m. cond (eqb k m) 1 0) xs ≡ 0
total-zero f k [] h = refl
total-zero f k (x ∷ xs) h = go (eqb k x) h (total-zero f k xs)
  where
    go : (b : Bool) → (b || mem eqb k xs) ≡ false → (mem eqb k xs ≡ false → total (λ m. cond (eqb k m) 1 0) xs ≡ 0) → cond b 1 0 + total (λ m. cond (eqb k m) 1 0) xs ≡ 0
    go true m r = absurd (true≢false m)
    go false m r = omega (arith, r m)

total-one : (k : ℕ) (xs : List ℕ) → NoDup eqb xs → mem eqb k xs ≡ true → total (λ m. cond (eqb k m) 1 0) xs ≡ 1
total-one k [] n h = absurd (false≢true h)
total-one k (x ∷ xs) n h = go (eqb k x) refl h (total-one k xs n.1)
  where
    go : (b : Bool) → eqb k x ≡ b → (b || mem eqb k xs) ≡ true → (mem eqb k xs ≡ true → total (λ m. cond (eqb k m) 1 0) xs ≡ 1)
        → cond b 1 0 + total (λ m. cond (eqb k m) 1 0) xs ≡ 1
    go true e m r = omega (arith, total-zero (λ y. y) k xs (ap (λ (y : ℕ). mem eqb y xs) (eqb_sound k x e) ∙ n.0))
    go false e m r = omega (arith, r m)

total-nothing : (xs : List ℕ) → total (λ m. 0) xs ≡ 0
total-nothing [] = refl
total-nothing (x ∷ xs) = omega (arith, total-nothing xs)

-- each pair is counted at its marker
pairs-total : (M : ℕ) (ps : List Pair) → All (λ q. q.marker < M) ps → total (λ m. length (grades_of ps m)) (upto M) ≡ length ps
pairs-total M [] h = total-nothing (upto M)
pairs-total M (q ∷ ps) h =
    total-add (λ m. length (grades_of (q ∷ ps) m)) (λ m. cond (eqb q.marker m) 1 0) (λ m. length (grades_of ps m)) (λ m. one m (eqb q.marker m)) (upto M)
    ∙ omega (arith, total-one q.marker (upto M) (upto_nodup M) (mem-upto M q.marker h.0), pairs-total M ps h.1)
  where
    one : (m : ℕ) (b : Bool) → length (map (λ r. r.grade) (cons_if b q (filter (λ r. eqb r.marker m) ps))) ≡ cond b 1 0 + length (grades_of ps m)
    one m true = omega arith
    one m false = omega arith

marker_edges-length : (m : ℕ) (hs : List ℕ) → length (marker_edges m hs) ≡ length hs + (1 + cond (has_tree hs) 1 0)
marker_edges-length m hs = go (has_tree hs)
  where
    part : (f : ℕ → Edge Node) → length (map f hs ++ edge (input_node m) (factor_node m) 2 ∷ []) ≡ length hs + 1
    part f = length-append (map f hs) (edge (input_node m) (factor_node m) 2 ∷ []) ∙ ap (λ (n : ℕ). n + 1) (length-map hs f)

    go : (c : Bool)
        → length
        (cond c
        (edge (tree_node m) (factor_node m) (suc (length hs)) ∷ map (λ g. edge (tree_node m) (grade_node g) 2) hs ++ edge (input_node m) (factor_node m) 2 ∷ [])
        (map (λ g. edge (grade_node g) (factor_node m) 2) hs ++ edge (input_node m) (factor_node m) 2 ∷ []))
        ≡ length hs + (1 + cond c 1 0)
    go true = omega (arith, part (λ g. edge (tree_node m) (grade_node g) 2))
    go false = omega (arith, part (λ g. edge (grade_node g) (factor_node m) 2))

filter-total : (f : ℕ → Bool) (xs : List ℕ) → total (λ m. 1 + cond (f m) 1 0) xs ≡ length xs + length (filter f xs)
filter-total f [] = omega arith
filter-total f (x ∷ xs) = go (f x) (filter-total f xs)
  where
    go : (b : Bool) → total (λ m. 1 + cond (f m) 1 0) xs ≡ length xs + length (filter f xs)
        → (1 + cond b 1 0) + total (λ m. 1 + cond (f m) 1 0) xs ≡ suc (length xs) + length (cons_if b x (filter f xs))
    go true r = omega arith
    go false r = omega arith

concat-length : {X : Type 0} (f : ℕ → List X) (xs : List ℕ) → length (concat (map f xs)) ≡ total (λ m. length (f m)) xs
concat-length f [] = refl
concat-length f (x ∷ xs) = length-append (f x) (concat (map f xs)) ∙ ap (λ (n : ℕ). length (f x) + n) (concat-length f xs)

module _ (b : Bale) where
  -- how many markers have a tree
  abbrev pub tree_count : ℕ
  tree_count = length (filter (λ m. has_tree (grades_of b.pairs m)) (marker_numbers b))

  pub nodes-length : length (built_nodes b) ≡ b.grades + (length b.markers + (length b.markers + tree_count))
  nodes-length =
      omega
      (arith, length-append (map grade_node (upto b.grades)) (map factor_node (marker_numbers b) ++ (map input_node (marker_numbers b) ++ map tree_node ts)), length-append (map factor_node (marker_numbers b)) (map input_node (marker_numbers b) ++ map tree_node ts), length-append (map input_node (marker_numbers b)) (map tree_node ts), length-map (upto b.grades) grade_node, length-map (marker_numbers b) factor_node, length-map (marker_numbers b) input_node, length-map ts tree_node, length-upto b.grades, length-upto (length b.markers))
    where
      ts : List ℕ
      ts = filter (λ m. has_tree (grades_of b.pairs m)) (marker_numbers b)

  pub edges-length : Valid b → length (built_edges b) ≡ length b.pairs + (length b.markers + tree_count)
  edges-length valid =
      concat-length (λ m. marker_edges m (grades_of b.pairs m)) (marker_numbers b)
      ∙ total-add (λ m. length (marker_edges m (grades_of b.pairs m))) (λ m. length (grades_of b.pairs m)) (λ m. 1 + cond (has_tree (grades_of b.pairs m)) 1 0)
      (λ m. marker_edges-length m (grades_of b.pairs m)) (marker_numbers b)
      ∙ omega
      (arith, pairs-total (length b.markers) b.pairs (All-mono (λ q. (q.grade < b.grades) × (q.marker < length b.markers)) (λ q. q.marker < length b.markers) (λ q h. h.1) b.pairs valid), filter-total (λ m. has_tree (grades_of b.pairs m)) (marker_numbers b), length-upto (length b.markers))
