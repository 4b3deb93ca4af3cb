-- The tree: its root is near the exact sums of all leaves, and each leaf's likelihoods near those of all others.
use Rattle.std.specs.Prelude.{◌≡◌, refl, List, [], ◌∷◌, ◌++◌, map, ℕ, zero, suc, ◌+◌, ◌≤◌, ◌<◌, length, get_or, Float}
use Rattle.std.proofs.Common.{ap, ◌∙◌, subst, append_assoc, append-nil, add_comm, not-suc-le-zero, le_of_suc-le-suc, arith, length-append}
use Rattle.std.proofs.Math.Path.{fun_ext}
use Rattle.std.proofs.lemmas.List.{length-map}
use Rattle.definition.specs.Vectors.{Message}
use Rattle.definition.specs.ConvolutionTree.{message_up, tree_layers, log_length, first_layer}
use Rattle.claims.specs.ExactSums.{without}
use Rattle.graph_laws.specs.Convolution.{log_length-least}
use Rattle.graph_laws.specs.Lengths.{Long, length-first_layer}
use Rattle.graph_laws.specs.Sending.{Goods}
use Rattle.graph_laws.specs.Unread.{length_likelihoods}
use Rattle.message_bounds.specs.Bounded.{BoundedEntries}
use Rattle.message_bounds.specs.TreeLayers.{Layered, Downs, all, first, all_first, spare, root_up, leaves-down}
use Rattle.tree_error.specs.Weights.{Leaf, like, like_middle}
use Rattle.tree_error.specs.Layers.{JointNear, near_joined, leaf_of, near_leaf, near_padding}
use Rattle.tree_error.specs.Down.{LikelihoodNear, stepped_near}

module _ (F : ℕ → ℕ) where
  -- to the leaves x, past the leaves y beside them
  step : (q : ℕ) (before x y after : List Leaf) (a b l : List Float) → q < 6 → JointNear q x a → JointNear q y b
      → LikelihoodNear (suc q) (length x + length y) (like F (before ++ after)) l
      → LikelihoodNear q (length x) (like F (before ++ (y ++ after))) (message_up (length a) b l)
  step q before x y after a b l h A B L =
      subst (λ (c : ℕ → ℕ). LikelihoodNear q (length x) c (message_up (length a) b l)) (fun_ext (like_middle F before y after))
      (rw A.joint.long (stepped_near q (length x) y b l (like F (before ++ after)) h A.joint.short B L))

  abbrev exact : Layered 6
  exact =
      record {
        Leaves = List Leaf;
        none = [];
        leaf = λ (m : Message). leaf_of m ∷ [];
        and = λ (x y : List Leaf). x ++ y;
        and_none = append-nil;
        and_assoc = append_assoc;
        Up = JointNear;
        Down = λ (q : ℕ) (before x after : List Leaf) (l : List Float). LikelihoodNear q (length x) (like F (before ++ after)) l;
        padded = near_padding;
        real = near_leaf;
        joined = near_joined;
        left = λ q before x y after a b l h A B L. step q before x y after a b l h A B (rw length-append at L);
        right = λ q before x y after a b l h A B L. rw append_assoc (step q before y x after b a l h B A (rw (length-append, add_comm (length x)) at L));
      }

  all-leaves : (ms : List Message) → all exact (map exact.leaf ms) ≡ map leaf_of ms
  all-leaves [] = refl
  all-leaves (m ∷ ms) = ap (λ (l : List Leaf). leaf_of m ∷ l) (all-leaves ms)

  leaf_at : (z : ℕ) (before : List Leaf) (ms : List Message) (ls : List (List Float)) (i : ℕ) → Downs exact 0 before (first exact ms z) ls
      → i < length ms → i < length ls → LikelihoodNear 0 1 (like F (before ++ without i (map leaf_of ms))) (get_or ls i [])
  leaf_at z before [] ls i L h g = absurd (not-suc-le-zero h)
  leaf_at z before (m ∷ ms) [] i L h g = absurd (not-suc-le-zero g)
  leaf_at z before (m ∷ ms) (l ∷ ls) zero L h g = rw (all_first exact ms z ∙ all-leaves ms) at L.0
  leaf_at z before (m ∷ ms) (l ∷ ls) (suc i) L h g =
      rw append_assoc at (leaf_at z (before ++ (leaf_of m ∷ [])) ms ls i L.1 (le_of_suc-le-suc h) (le_of_suc-le-suc g))

  -- ---- a tree of at most 64 leaves, whose root has the likelihoods r
  module _ (ms : List Message) (few : length ms ≤ 64) (l : Long 2 ms) (g : Goods BoundedEntries ms) (r : List Float) where
    abbrev p : ℕ
    p = log_length (length ms)

    pub root_near : JointNear p (map leaf_of ms) (tree_layers p r (first_layer ms)).root
    root_near = rw (← all-leaves ms) (root_up exact ms few l g r)

    pub leaf_near : LikelihoodNear p (length ms) F r → (i : ℕ) → i < length ms
        → LikelihoodNear 0 1 (like F (without i (map leaf_of ms))) (get_or (tree_layers p r (first_layer ms)).likelihoods i [])
    leaf_near L i h =
        leaf_at (spare ms) [] ms (tree_layers p r (first_layer ms)).likelihoods i
        (leaves-down exact ms few l g r (rw (ap length (all-leaves ms), length-map ms leaf_of) L)) h
        (omega (arith, length_likelihoods p r (first_layer ms) (length-first_layer ms), (log_length-least (length ms)).0))
