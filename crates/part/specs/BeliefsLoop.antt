-- One node of the loop that writes a part's beliefs: what is written so far are the beliefs of the nodes so far.
use Rattle.std.specs.Prelude.{ℕ, ◌+◌, ◌-◌, ◌*◌, ◌≤◌, ◌<◌, ◌≡◌, refl, List, [], ◌∷◌, Float, length, get_or, take, set}
use Rattle.std.proofs.Common.{arith, sym, ◌∙◌, subst}
use Rattle.definition.specs.Floats.{◌⊖◌, oneᶠ}
use Rattle.definition.specs.Settings.{Settings}
use Rattle.definition.specs.FactorGraph.{Node, grade_node, factor_node, input_node, tree_node, grade}
use Rattle.definition.specs.Vectors.{Message, binary, log_normalize}
use Rattle.definition.specs.Directions.{MessageNode, MessageGraph, node_at, messages_in}
use Rattle.definition.specs.Messages.{initial_belief}
use Rattle.definition.specs.Answer.{Belief, marginal, beliefs_among, belief_floats}
use Rattle.list_laws.specs.Part.{region}
use Rattle.messages.specs.Pairs.{pairs}
use Rattle.steps.specs.StepLog.{begins_at, ends_at}
use Rattle.part.specs.Named.{Believed}
use Rattle.part.specs.Beliefs.{BeliefRows}
use Rattle.part.specs.BeliefsGrade.{grade-marginal, grade-next, grade_room, other_next}
use Rattle.part.specs.BeliefsWrite.{believed-none, believed-next}

-- two floats to a belief
among_two : (s : Settings) (ms : List Message) (ns : List Node) (xs : List MessageNode) → length (belief_floats (beliefs_among s ms ns xs)) ≡ 2 * length (beliefs_among s ms ns xs)
unfolding beliefs_among belief_floats marginal log_normalize
among_two s ms [] xs = refl
among_two s ms (n ∷ ns) [] = refl
among_two s ms (grade_node g ∷ ns) (x ∷ xs) = omega (arith, among_two s ms ns xs)
among_two s ms (factor_node m ∷ ns) (x ∷ xs) = among_two s ms ns xs
among_two s ms (input_node m ∷ ns) (x ∷ xs) = among_two s ms ns xs
among_two s ms (tree_node m ∷ ns) (x ∷ xs) = among_two s ms ns xs

pub no_beliefs : (s : Settings) (t : MessageGraph) (ms : List Message) (ns : List Node) (numbers : List ℕ) (floats : List Float) → Believed (beliefs_among s ms (take 0 ns) (take 0 t.nodes)) numbers floats 0 numbers floats
unfolding beliefs_among
no_beliefs s t ms ns numbers floats = believed-none numbers floats

module _ (s : Settings) (t : MessageGraph) (ms : List Message) (ns : List Node) (kinds labels firsts offsets : List ℕ) (w : List Float)
    (R : BeliefRows s t ms ns kinds labels firsts offsets w) (numbers : List ℕ) (floats : List Float)
    (a : length (beliefs_among s ms ns t.nodes) ≤ length numbers) (b : 2 * length (beliefs_among s ms ns t.nodes) ≤ length floats)
    (n k : ℕ) (h : n < length kinds) (numbers' : List ℕ) (floats' : List Float) (H : Believed (beliefs_among s ms (take n ns) (take n t.nodes)) numbers floats k numbers' floats') where
  pub other_step : (get_or kinds n 0 ≡ 0 → ⊥) → Believed (beliefs_among s ms (take (n + 1) ns) (take (n + 1) t.nodes)) numbers floats k numbers' floats'
  other_step z = subst (λ (l : List Belief). Believed l numbers floats k numbers' floats') (other_next s t ms ns kinds labels firsts offsets w R n h z) H

  module _ (z : get_or kinds n 0 ≡ 0) where
    pub belief_fits : (k < length numbers) × (2 * k + 1 < length floats)
    belief_fits = let r = grade_room s t ms ns kinds labels firsts offsets w R n h z in (omega (arith, H.count_is), omega (arith, H.count_is))

    pub grade_step : (prior x y : Float) → s.prior ≡ prior
        → binary x y ≡ marginal (binary (oneᶠ ⊖ prior) prior) (pairs (region w (begins_at firsts offsets n) (ends_at firsts offsets n - begins_at firsts offsets n)))
        → Believed (beliefs_among s ms (take (n + 1) ns) (take (n + 1) t.nodes)) numbers floats (k + 1) (set numbers' k (get_or labels n 0)) (set (set floats' (2 * k) x) (2 * k + 1) y)
    grade_step prior x y p e =
        let v : Belief = record { grade = get_or labels n 0; value = marginal (initial_belief s grade) (messages_in (node_at t n) ms) } in
        subst (λ (l : List Belief). Believed l numbers floats (k + 1) (set numbers' k (get_or labels n 0)) (set (set floats' (2 * k) x) (2 * k + 1) y))
        (sym (grade-next s t ms ns kinds labels firsts offsets w R n h z))
        (believed-next (beliefs_among s ms (take n ns) (take n t.nodes)) v numbers floats k numbers' floats' H (among_two s ms (take n ns) (take n t.nodes)) x y belief_fits.0 belief_fits.1
        (e ∙ grade-marginal s t ms ns kinds labels firsts offsets w R n h z prior p))
