-- Induction over the layers of a tree: up from the leaves to the root, and from the root's likelihoods down again to those of the leaves.
use Rattle.std.specs.Prelude.{◌≡◌, refl, length, replicate, Float}
use Rattle.std.proofs.Common.{ap, ◌∙◌, add-zero, zero-add, length-append}
use mathlib.Core.List.{List, [], ◌∷◌, ◌++◌, map}
use Prim.Native.Nat.{ℕ, zero, suc, ◌+◌, ◌-◌, ◌^◌, ◌≤◌, ◌<◌}
use Rattle.std.proofs.Math.Nat.{add-suc, suc-add}
use native.Mathlib.Omega.{arith}
use Rattle.std.proofs.lemmas.List.{length-map, length-replicate}
use Rattle.definition.specs.Floats.{zeroᶠ, oneᶠ}
use Rattle.definition.specs.Vectors.{Message, binary, normalize}
use Rattle.definition.specs.ConvolutionTree.{convolve, count_layer, message_up, likelihoods_below, tree_layers, log_length, first_layer}
use Rattle.graph_laws.specs.Convolution.{log_length-least}
use Rattle.graph_laws.specs.Lengths.{Long, double}
use Rattle.graph_laws.specs.Sending.{Goods}
use Rattle.message_bounds.specs.Bounded.{BoundedEntries}

-- What is known of the leaves under a vector: of none, of one, and of two vectors' together. `Up q x j`: j is the vector of the leaves x, in layer q.
-- `Down q before x after l`: l is its likelihoods, where all other leaves are those before and those after.
pub record Layered (depth : ℕ) : Type 1 where
  pub Leaves : Type 0
  pub none : Leaves
  pub leaf : Message → Leaves
  pub and : Leaves → Leaves → Leaves
  pub and_none : (x : Leaves) → and x none ≡ x
  pub and_assoc : (x y z : Leaves) → and (and x y) z ≡ and x (and y z)
  pub Up : ℕ → Leaves → List Float → Type 0
  pub Down : ℕ → Leaves → Leaves → Leaves → List Float → Type 0
  pub padded : Up 0 none (normalize (binary oneᶠ zeroᶠ))
  pub real : (m : Message) → length m ≡ 2 → BoundedEntries m → Up 0 (leaf m) (normalize m)
  pub joined : (q : ℕ) (x y : Leaves) (a b : List Float) → q < depth → Up q x a → Up q y b → Up (suc q) (and x y) (normalize (convolve a b))
  pub left : (q : ℕ) (before x y after : Leaves) (a b l : List Float) → q < depth → Up q x a → Up q y b → Down (suc q) before (and x y) after l
      → Down q before x (and y after) (message_up (length a) b l)
  pub right : (q : ℕ) (before x y after : Leaves) (a b l : List Float) → q < depth → Up q x a → Up q y b → Down (suc q) before (and x y) after l
      → Down q (and before x) y after (message_up (length b) a l)

-- how many vectors pad the first layer
abbrev pub spare : List Message → ℕ
spare ms = 2 ^ log_length (length ms) - length ms

module _ {depth : ℕ} (S : Layered depth) where
  open S use {Leaves, none, leaf, and, and_none, and_assoc, Up, Down, padded, real, joined, left, right}

  abbrev pub all : List Leaves → Leaves
  all [] = none
  all (x ∷ xs) = and x (all xs)

  abbrev pairs : List Leaves → List Leaves
  pairs [] = []
  pairs (x ∷ []) = []
  pairs (x ∷ y ∷ xs) = and x y ∷ pairs xs

  all-pairs : (n : ℕ) (xs : List Leaves) → length xs ≡ n + n → all (pairs xs) ≡ all xs
  all-pairs n [] h = refl
  all-pairs n (x ∷ []) h = absurd (let z : ⊥ = omega arith in z)
  all-pairs zero (x ∷ y ∷ xs) h = absurd (let z : ⊥ = omega arith in z)
  all-pairs (suc n) (x ∷ y ∷ xs) h = and_assoc x y (all (pairs xs)) ∙ ap (λ (z : Leaves). and x (and y z)) (all-pairs n xs (omega arith))

  length_pairs : (n : ℕ) (xs : List Leaves) → length xs ≡ n + n → length (pairs xs) ≡ n
  length_pairs n [] h = omega arith
  length_pairs n (x ∷ []) h = absurd (let z : ⊥ = omega arith in z)
  length_pairs zero (x ∷ y ∷ xs) h = absurd (let z : ⊥ = omega arith in z)
  length_pairs (suc n) (x ∷ y ∷ xs) h = ap suc (length_pairs n xs (omega arith))

  -- ---- a layer's vectors, and its likelihoods: as many as there are, or fewer
  abbrev Ups : ℕ → List Leaves → List (List Float) → Type 0
  Ups q [] [] = Unit {0}
  Ups q [] (j ∷ js) = ⊥
  Ups q (x ∷ xs) [] = ⊥
  Ups q (x ∷ xs) (j ∷ js) = Up q x j × Ups q xs js

  abbrev pub Downs : ℕ → Leaves → List Leaves → List (List Float) → Type 0
  Downs q before xs [] = Unit {0}
  Downs q before [] (l ∷ ls) = ⊥
  Downs q before (x ∷ xs) (l ∷ ls) = Down q before x (all xs) l × Downs q (and before x) xs ls

  -- ---- the layer above, and the layer below
  ups-count_layer : (q : ℕ) (xs : List Leaves) (js : List (List Float)) → q < depth → Ups q xs js → Ups (suc q) (pairs xs) (count_layer js)
  unfolding count_layer
  ups-count_layer q [] [] h J = tt
  ups-count_layer q [] (j ∷ js) h J = absurd J
  ups-count_layer q (x ∷ xs) [] h J = absurd J
  ups-count_layer q (x ∷ []) (a ∷ []) h J = tt
  ups-count_layer q (x ∷ []) (a ∷ b ∷ js) h J = absurd J.1
  ups-count_layer q (x ∷ y ∷ xs) (a ∷ []) h J = absurd J.1
  ups-count_layer q (x ∷ y ∷ xs) (a ∷ b ∷ js) h J = (joined q x y a b h J.0 J.1.0, ups-count_layer q xs js h J.1.1)

  downs-below : (q n : ℕ) (before : Leaves) (xs : List Leaves) (js ls : List (List Float)) → q < depth → Ups q xs js → length xs ≡ n + n
      → Downs (suc q) before (pairs xs) ls → Downs q before xs (likelihoods_below ls js)
  unfolding likelihoods_below
  downs-below q n before xs js [] h J e L = tt
  downs-below q n before xs [] (l ∷ ls) h J e L = tt
  downs-below q n before xs (a ∷ []) (l ∷ ls) h J e L = tt
  downs-below q n before [] (a ∷ b ∷ js) (l ∷ ls) h J e L = absurd J
  downs-below q n before (x ∷ []) (a ∷ b ∷ js) (l ∷ ls) h J e L = absurd L
  downs-below q zero before (x ∷ y ∷ xs) (a ∷ b ∷ js) (l ∷ ls) h J e L = absurd (let z : ⊥ = omega arith in z)
  downs-below q (suc n) before (x ∷ y ∷ xs) (a ∷ b ∷ js) (l ∷ ls) h J e L =
      let A = rw (all-pairs n xs (omega arith)) at L.0 in (
        left q before x y (all xs) a b l h J.0 J.1.0 A,
        (
          right q before x y (all xs) a b l h J.0 J.1.0 A,
          rw and_assoc (downs-below q n (and before (and x y)) xs js ls h J.1.1 (omega arith) L.1),
        ),
      )

  -- ---- to the root, and from the root
  up : (p q : ℕ) (l : List Float) (xs : List Leaves) (js : List (List Float)) → q + p ≤ depth → Ups q xs js → length xs ≡ 2 ^ p
      → Up (q + p) (all xs) (tree_layers p l js).root
  unfolding tree_layers
  up zero q l [] js h J e = absurd (let z : ⊥ = omega arith in z)
  up zero q l (x ∷ xs) [] h J e = absurd J
  up zero q l (x ∷ y ∷ xs) (j ∷ js) h J e = absurd (let z : ⊥ = omega arith in z)
  up zero q l (x ∷ []) (j ∷ js) h J e = rw (add-zero, and_none x) J.0
  up (suc p) q l xs js h J e =
      let d = e ∙ double p in
      rw (← all-pairs (2 ^ p) xs d, add-suc, ← suc-add)
      (up p (suc q) l (pairs xs) (count_layer js) (omega arith) (ups-count_layer q xs js (omega arith) J) (length_pairs (2 ^ p) xs d))

  down : (p q : ℕ) (l : List Float) (xs : List Leaves) (js : List (List Float)) → q + p ≤ depth → Ups q xs js → length xs ≡ 2 ^ p
      → Down (q + p) none (all xs) none l → Downs q none xs (tree_layers p l js).likelihoods
  unfolding tree_layers
  down zero q l [] js h J e L = absurd (let z : ⊥ = omega arith in z)
  down zero q l (x ∷ xs) [] h J e L = absurd J
  down zero q l (x ∷ y ∷ xs) (j ∷ js) h J e L = absurd (let z : ⊥ = omega arith in z)
  down zero q l (x ∷ []) (j ∷ js) h J e L = (rw (add-zero, and_none x) at L, tt)
  down (suc p) q l xs js h J e L =
      let d = e ∙ double p in
      downs-below q (2 ^ p) none xs js (tree_layers p l (count_layer js)).likelihoods (omega arith) J d
      (down p (suc q) l (pairs xs) (count_layer js) (omega arith) (ups-count_layer q xs js (omega arith) J) (length_pairs (2 ^ p) xs d)
      (rw (all-pairs (2 ^ p) xs d, suc-add, ← add-suc) L))

  -- ---- the whole tree: its leaves, and what pads them
  abbrev pub first : List Message → ℕ → List Leaves
  first ms z = map leaf ms ++ replicate z none

  pub all_first : (ms : List Message) (z : ℕ) → all (first ms z) ≡ all (map leaf ms)
  all_first [] zero = refl
  all_first [] (suc z) = ap (and none) (all_first [] z) ∙ and_none none
  all_first (m ∷ ms) z = ap (and (leaf m)) (all_first ms z)

  ups-first : (ms : List Message) (z : ℕ) → Long 2 ms → Goods BoundedEntries ms → Ups 0 (first ms z) (map normalize (ms ++ replicate z (binary oneᶠ zeroᶠ)))
  ups-first [] zero l g = tt
  ups-first [] (suc z) l g = (padded, ups-first [] z l g)
  ups-first (m ∷ ms) z l g = (real m l.0 g.0, ups-first ms z l.1 g.1)

  module _ (ms : List Message) (few : length ms ≤ 2 ^ depth) (l : Long 2 ms) (g : Goods BoundedEntries ms) where
    abbrev p : ℕ
    p = log_length (length ms)

    vectors : Ups 0 (first ms (spare ms)) (first_layer ms)
    unfolding first_layer
    vectors = ups-first ms (spare ms) l g

    vectors_many : length (first ms (spare ms)) ≡ 2 ^ p
    vectors_many = simp (length-append, length-map, length-replicate) (omega (arith, (log_length-least (length ms)).0))

    shallow : 0 + p ≤ depth
    shallow = omega (arith, (log_length-least (length ms)).1 depth few)

    -- whatever likelihoods r the root has
    pub root_up : (r : List Float) → Up p (all (map leaf ms)) (tree_layers p r (first_layer ms)).root
    root_up r = rw (← all_first ms (spare ms)) (rw zero-add at (up p 0 r (first ms (spare ms)) (first_layer ms) shallow vectors vectors_many))

    pub leaves-down : (r : List Float) → Down p none (all (map leaf ms)) none r
        → Downs 0 none (first ms (spare ms)) (tree_layers p r (first_layer ms)).likelihoods
    leaves-down r L = down p 0 r (first ms (spare ms)) (first_layer ms) shallow vectors vectors_many (rw (zero-add, all_first ms (spare ms)) L)
