-- What a call answers: of each part of over 2 nodes its ending and its grades' beliefs (src/zero_lookahead_belief_propagation.rs).
use Rattle.std.specs.Prelude.{ℕ, suc, true, false, List, [], ◌∷◌, ◌++◌, map, ltb, Float, length}
use Rattle.definition.specs.Floats.{◌⊕◌, zeroᶠ, ln}
use Rattle.definition.specs.Lists.{concat}
use Rattle.definition.specs.Vectors.{Message, entry, sum_of, log_normalize}
use Rattle.definition.specs.Settings.{Settings}
use Rattle.definition.specs.FactorGraph.{Bale, Node, grade_node, factor_node, input_node, tree_node, grade}
use Rattle.definition.specs.Components.{components_of}
use Rattle.definition.specs.Directions.{MessageNode, MessageGraph, message_graph_of, messages_in}
use Rattle.definition.specs.Messages.{initial_belief}
use Rattle.definition.specs.Run.{Ending, limit, settled, empty, run}

-- ---- beliefs

pub record Belief : Type 0 where
  pub grade : ℕ
  pub value : Message

-- the logarithm of the node's own belief, and the sum of those of all that it holds
unfoldable pub log_marginal : ℕ → Message → List Message → Float
log_marginal k b ms = ln (entry k b) ⊕ sum_of (map (λ (m : Message). ln (entry k m)) ms)

unfoldable pub marginal : Message → List Message → Message
marginal b ms = log_normalize (log_marginal 0 b ms) (log_marginal 1 b ms)

-- The beliefs of the grades among the nodes ns, in order; xs are the same nodes in the message graph.
unfoldable pub beliefs_among : Settings → List Message → List Node → List MessageNode → List Belief
beliefs_among s ms [] xs = []
beliefs_among s ms (n ∷ ns) [] = []
beliefs_among s ms (grade_node g ∷ ns) (x ∷ xs) = record { grade = g; value = marginal (initial_belief s grade) (messages_in x ms) } ∷ beliefs_among s ms ns xs
beliefs_among s ms (factor_node m ∷ ns) (x ∷ xs) = beliefs_among s ms ns xs
beliefs_among s ms (input_node m ∷ ns) (x ∷ xs) = beliefs_among s ms ns xs
beliefs_among s ms (tree_node m ∷ ns) (x ∷ xs) = beliefs_among s ms ns xs

-- ---- a part

pub record PartAnswer : Type 0 where
  pub number : ℕ
  pub ending : Ending
  pub steps : ℕ
  pub beliefs : List Belief

-- part number n with the nodes ns, as the message graph t
unfoldable pub part_answer : Settings → ℕ → List Node → MessageGraph → PartAnswer
part_answer s n ns t =
    let e = run s t in
    record { number = n; ending = e.ending; steps = e.state.steps; beliefs = beliefs_among s e.state.store.msg_in ns t.nodes }

-- what part number n with the nodes ns yields: nothing if it has at most 2 nodes
unfoldable pub answers_of : Settings → Bale → ℕ → List Node → List PartAnswer
answers_of s b n ns = elim (ltb 2 (length ns)) [ true ↦ part_answer s n ns (message_graph_of b ns) ∷ [] | false ↦ [] ]

-- of a list of parts, n being the number of the first
unfoldable pub answers_from : Settings → Bale → ℕ → List (List Node) → List PartAnswer
answers_from s b n [] = []
answers_from s b n (ns ∷ ps) = answers_of s b n ns ++ answers_from s b (suc n) ps

unfoldable pub answer : Settings → Bale → List PartAnswer
answer s b = answers_from s b 0 (components_of b)

-- ---- the answer as numbers and floats

-- an ending's number, and its residual
unfoldable pub ending_number : Ending → ℕ
ending_number (limit r) = 0
ending_number (settled r) = 1
ending_number empty = 2

unfoldable pub ending_residual : Ending → Float
ending_residual (limit r) = r
ending_residual (settled r) = r
ending_residual empty = zeroᶠ

unfoldable pub answered_beliefs : List PartAnswer → List Belief
answered_beliefs ps = concat (map (λ (p : PartAnswer). p.beliefs) ps)

unfoldable pub belief_numbers : List Belief → List ℕ
belief_numbers = map (λ (b : Belief). b.grade)

unfoldable pub belief_floats : List Belief → List Float
belief_floats bs = concat (map (λ (b : Belief). b.value) bs)

unfoldable pub ending_numbers : List PartAnswer → List ℕ
ending_numbers ps = concat (map (λ (p : PartAnswer). p.number ∷ ending_number p.ending ∷ p.steps ∷ length p.beliefs ∷ []) ps)

unfoldable pub ending_floats : List PartAnswer → List Float
ending_floats = map (λ (p : PartAnswer). ending_residual p.ending)
