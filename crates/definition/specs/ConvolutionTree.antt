-- The convolution tree (O. Serang, The probabilistic convolution tree, PLoS ONE 9(3), 2014; src/convolution_tree.rs). With at most 128 grades the shorter of
-- two vectors has at most 65 entries; every convolution is direct, as the Rust's is with its DIRECT_CONVOLUTION_MAX_LEN at 256.
use Rattle.std.specs.Prelude.{ℕ, zero, suc, ◌+◌, ◌-◌, ◌^◌, List, [], ◌∷◌, ◌++◌, map, reverse, Float, length, take, drop, replicate}
use Rattle.std.specs.Float.Ieee.{size}
use Rattle.definition.specs.Floats.{◌⊗◌, zeroᶠ, oneᶠ}
use Rattle.definition.specs.Vectors.{Message, binary, sum_of, zip_with, normalize, avoid_underflow_all}
use Rattle.definition.specs.Lists.{range, twos}

-- ---- up: the distribution of a sum

-- entry k is the sum, from zero, of a[i] * b[k - i], i rising, as far as both lists go: a from the first such i on, against the start of b read backwards
unfoldable pub convolve : List Float → List Float → List Float
convolve a b = map (λ (k : ℕ). sum_of (zip_with ◌⊗◌ (drop (suc k - length b) a) (reverse (take (suc k) b)))) (range 0 (length a + length b - 1))

-- the layer above: one count node for two (`create_count_node`)
unfoldable pub count_layer : List (List Float) → List (List Float)
count_layer = twos (λ (a b : List Float). normalize (convolve a b))

-- ---- down: the likelihoods

-- `message_up`: entry k, for k below n, is the sum of b[j] * l[j + k], as far as both go
unfoldable pub message_up : ℕ → List Float → List Float → List Float
message_up n b l = normalize (map (λ (k : ℕ). sum_of (zip_with ◌⊗◌ b (drop k l))) (range 0 n))

-- `propagate_backward`, one layer: its likelihoods, from those of the layer above and its own distributions; a node's sibling is what is summed out
unfoldable pub likelihoods_below : List (List Float) → List (List Float) → List (List Float)
likelihoods_below [] js = []
likelihoods_below (l ∷ ls) [] = []
likelihoods_below (l ∷ ls) (a ∷ []) = []
likelihoods_below (l ∷ ls) (a ∷ b ∷ js) = message_up (length a) b l ∷ message_up (length b) a l ∷ likelihoods_below ls js

-- ---- the tree

-- The root's distribution, and the likelihoods of a layer that has p layers above it. The root's likelihood is l.
unfoldable pub tree_layers : ℕ → List Float → List (List Float) → record { root : List Float; likelihoods : List (List Float) }
tree_layers zero l [] = record { root = []; likelihoods = [] }
tree_layers zero l (j ∷ js) = record { root = j; likelihoods = l ∷ [] }
tree_layers (suc p) l js = let t = tree_layers p l (count_layer js) in record { root = t.root; likelihoods = likelihoods_below t.likelihoods js }

-- log_length, the least p with n ≤ 2 ^ p (`log_length-least` of graph_laws): as many as n - 1 has binary digits
unfoldable pub log_length : ℕ → ℕ
log_length n = size (n - 1)

-- `build_first_layer`: the grades' messages, then [1, 0] up to a power of two
unfoldable pub first_layer : List Message → List (List Float)
first_layer ms = map normalize (ms ++ replicate (2 ^ log_length (length ms) - length ms) (binary oneᶠ zeroᶠ))

-- What a tree sends, given the message of its factor and those of its grades: first to the factor, then to the grades in order.
unfoldable pub tree_messages : Message → List Message → List Message
tree_messages f ms =
    let t = tree_layers (log_length (length ms)) (normalize f) (first_layer ms) in
    avoid_underflow_all (take (suc (length ms)) t.root) ∷ map (λ (l : List Float). avoid_underflow_all (take 2 l)) (take (length ms) t.likelihoods)
