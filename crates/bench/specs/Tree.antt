-- The tree that is timed, made total: where it is not defined, or has no room, the slice stays as it is.
use Rattle.std.specs.Prelude.{◌≡◌, cond, List, ◌++◌, ℕ, ◌+◌, ◌*◌, ◌≤◌, ◌<◌, leb, length, take, drop, replicate, Float}
use borrow.Author.Tests.{le-leb, lt-leb}
use Rattle.list_laws.specs.Put.{put}
use Rattle.definition.specs.Floats.{zeroᶠ}
use Rattle.definition.specs.ConvolutionTree.{tree_messages}
use Rattle.graph_laws.specs.Flat.{flat}
use Rattle.convolution_tree.specs.Nodes.{nodes}
use Rattle.convolution_tree.specs.Tree.{scratch_len}

-- the messages of a tree over n grades, and zeros in the scratch behind them
abbrev pub sent_by : ℕ → List Float → List Float
sent_by n w = put w 0 (flat (tree_messages (take (n + 1) w) (nodes 2 n (drop (n + 1) w))) ++ replicate (scratch_len n) zeroᶠ)

unfoldable pub tree_of : ℕ → List Float → List Float
tree_of n w = cond (leb 2 n) (cond (leb n 128) (cond (leb (3 * n + 1 + scratch_len n) (length w)) (sent_by n w) w) w) w

-- by what the tests say
module _ (n : ℕ) (w : List Float) where
  pub tree_few : n < 2 → tree_of n w ≡ w
  unfolding tree_of
  tree_few h = rw (lt-leb 2 n h)

  pub tree-many : 2 ≤ n → 128 < n → tree_of n w ≡ w
  unfolding tree_of
  tree-many h k = rw (le-leb 2 n h, lt-leb n 128 k)

  pub tree-short : 2 ≤ n → n ≤ 128 → length w < 3 * n + 1 + scratch_len n → tree_of n w ≡ w
  unfolding tree_of
  tree-short h k l = rw (le-leb 2 n h, le-leb n 128 k, lt-leb (3 * n + 1 + scratch_len n) (length w) l)

  pub tree-fits : 2 ≤ n → n ≤ 128 → 3 * n + 1 + scratch_len n ≤ length w → tree_of n w ≡ sent_by n w
  unfolding tree_of
  tree-fits h k l = rw (le-leb 2 n h, le-leb n 128 k, le-leb (3 * n + 1 + scratch_len n) (length w) l)
