-- The message that goes along each direction, and how far it is from an older one (src/messages.rs).
use Rattle.std.specs.Prelude.{ℕ, ◌-◌, Bool, true, false, not, ◌&&◌, ◌||◌, List, [], ◌∷◌, map, leb, ltb, Float, length}
use Rattle.std.proofs.Math.Option.{Option, none, some}
use Rattle.std.specs.Float.{inf}
use Rattle.std.specs.Float.Ieee.{lt, eq}
use Rattle.definition.specs.Floats.{◌⊕◌, ◌⊖◌, ◌⊗◌, ◌⊘◌, zeroᶠ, oneᶠ, twoᶠ, maxᶠ, abs, clamp, ln}
use Rattle.definition.specs.Vectors.{Message, entry, binary, normalize, avoid_underflow_all, log_normalize, sum_logs_batched}
use Rattle.definition.specs.Settings.{Settings}
use Rattle.definition.specs.NoisyOr.{CpdRow, cpd_table}
use Rattle.definition.specs.ConvolutionTree.{tree_messages}
use Rattle.definition.specs.FactorGraph.{Kind, grade, factor, input, tree, is_tree}
use Rattle.definition.specs.Directions.{MessageNode, MessageGraph, node_at, direction_at, messages_in, message_at}

-- ---- from a variable: a grade or an input (`compute_out_message_variable`)

-- the belief that a variable starts with (`get_initial_belief`)
unfoldable pub initial_belief : Settings → Kind → Message
initial_belief s grade = binary (oneᶠ ⊖ s.prior) s.prior
initial_belief s (input e) = binary e.absent e.present
initial_belief s (factor d) = []
initial_belief s (tree d) = []

-- the sum of the logarithms of entry k of all incoming messages, less that of the receiver's own, and that of the node's belief b
unfoldable pub out_message_log : ℕ → Message → List Message → ℕ → Float
out_message_log k b ms i = sum_logs_batched (map (entry k) ms) ⊖ ln (entry k (message_at i ms)) ⊕ ln (entry k b)

-- to the neighbour at position i, from a variable with the belief b and the incoming messages ms
unfoldable pub out_message_variable : Message → List Message → ℕ → Message
out_message_variable b ms i = elim (leb (length ms) 1) [ true ↦ b | false ↦ avoid_underflow_all (log_normalize (out_message_log 0 b ms i) (out_message_log 1 b ms i)) ]

-- ---- from a factor of degree d (`compute_out_message_factor`, `compute_out_message_factor_ctree`)

-- what it makes of its input's message m
unfoldable pub out_message_factor : Settings → ℕ → Message → Message
out_message_factor s d m = map clamp (normalize (map (λ (r : CpdRow). r.absent ⊗ entry 0 m ⊕ r.present ⊗ entry 1 m) (cpd_table s d)))

-- A factor has two neighbours, the input and a grade or the tree. To an input it sends what it sent before, o.
unfoldable pub out_message_factor_to : Kind → Settings → ℕ → Message → Message → Message
out_message_factor_to (input e) s d m o = o
out_message_factor_to grade s d m o = out_message_factor s d m
out_message_factor_to (factor k) s d m o = out_message_factor s d m
out_message_factor_to (tree k) s d m o = out_message_factor s d m

-- ---- from any node but a tree, along direction number d

-- by the sender's kind, its incoming messages, the receiver's position, the receiver's kind, and the message in force o
unfoldable pub out_message_by : Kind → Settings → List Message → ℕ → Kind → Message → Message
out_message_by grade s ms i k o = out_message_variable (initial_belief s grade) ms i
out_message_by (input e) s ms i k o = out_message_variable (initial_belief s (input e)) ms i
out_message_by (factor d) s ms i k o = out_message_factor_to k s d (message_at (1 - i) ms) o
out_message_by (tree d) s ms i k o = o

unfoldable pub out_message : Settings → MessageGraph → List Message → ℕ → Message
out_message s t ms d =
    let w = direction_at t d in
    let x = node_at t w.start in
    out_message_by x.kind s (messages_in x ms) w.end_in_start (node_at t w.end).kind (message_at d ms)

-- ---- the residual (`compute_infinity_norm_residual`)

-- the logarithm of a ratio, without its sign
unfoldable pub abs_log_ratio : Float → Float → Float
abs_log_ratio x y = abs (ln (x ⊘ y))

-- of a variable's message: the logarithm of the larger ratio, then its sign off
unfoldable pub pair_residual : Message → Message → Float
pair_residual m o = abs (ln (maxᶠ (entry 0 m ⊘ entry 0 o) (entry 1 m ⊘ entry 1 o)))

-- of a vector: the largest logarithm without sign; a is the largest so far
unfoldable pub vector_residual : Float → Message → Message → Float
vector_residual a [] os = a
vector_residual a (x ∷ m) [] = a
vector_residual a (x ∷ m) (y ∷ os) = vector_residual (maxᶠ a (abs_log_ratio x y)) m os

-- by how much the message of direction d in ms differs from that in os
unfoldable pub residual : MessageGraph → List Message → List Message → ℕ → Float
residual t ms os d =
    let m = message_at d ms in
    let o = message_at d os in
    elim (ltb 2 (direction_at t d).message_length) [ true ↦ vector_residual (inf true) m o | false ↦ pair_residual m o ]

-- ---- from a convolution tree (`convolution_tree_needs_rebuild`, `compute_out_messages_ct_tree`)

-- The incoming messages that a tree was last built of (`ct_last_build`), if it was built.
abbrev pub LastBuild : Type 0
LastBuild = Option (List Message)

unfoldable pub equal_messages : Message → Message → Bool
equal_messages [] [] = true
equal_messages [] (y ∷ ys) = false
equal_messages (x ∷ xs) [] = false
equal_messages (x ∷ xs) (y ∷ ys) = eq x y && equal_messages xs ys

-- by how much a grade's message moved: the larger of the two logarithms without sign
unfoldable pub message_change : Message → Message → Float
message_change m o = maxᶠ (abs_log_ratio (entry 0 m) (entry 0 o)) (abs_log_ratio (entry 1 m) (entry 1 o))

-- twice the summed change of the grades' messages passes the tolerance t; a is the sum so far
unfoldable pub change_exceeds : Float → Float → List Message → List Message → Bool
change_exceeds t a [] os = false
change_exceeds t a (m ∷ ms) [] = false
change_exceeds t a (m ∷ ms) (o ∷ os) = let b = a ⊕ message_change m o in elim (lt t (twoᶠ ⊗ b)) [ true ↦ true | false ↦ change_exceeds t b ms os ]

-- A tree is rebuilt unless it was built before, its factor's message is equal and twice the summed change is within the tolerance.
unfoldable pub needs_rebuild : Float → List Message → LastBuild → Bool
needs_rebuild t ms none = true
needs_rebuild t [] (some os) = true
needs_rebuild t (m ∷ ms) (some []) = true
needs_rebuild t (m ∷ ms) (some (o ∷ os)) = not (equal_messages m o) || change_exceeds t zeroᶠ ms os

-- of its incoming messages, first its factor's and then the grades'
unfoldable pub tree_out_messages : List Message → List Message
tree_out_messages [] = []
tree_out_messages (f ∷ ms) = tree_messages f ms

-- ---- all that a node sends

pub record Outgoing : Type 0 where
  pub messages : List Message
  pub last_build : LastBuild

-- A tree that is not rebuilt sends what it sent before.
unfoldable pub out_messages_tree : Settings → List Message → MessageNode → LastBuild → Outgoing
out_messages_tree s ms x b =
    let h = messages_in x ms in
    elim (needs_rebuild s.tolerance h b) [
      | true ↦ record { messages = tree_out_messages h; last_build = some h }
      | false ↦ record { messages = map (λ (o : ℕ). message_at o ms) x.outgoing; last_build = b }
    ]

unfoldable pub out_messages : Settings → MessageGraph → List Message → MessageNode → LastBuild → Outgoing
out_messages s t ms x b =
    elim (is_tree x.kind) [ true ↦ out_messages_tree s ms x b | false ↦ record { messages = map (out_message s t ms) x.outgoing; last_build = b } ]
