-- What holds of every part of an accepted bale holds of every part that is answered.
use Rattle.std.specs.Prelude.{◌≡◌, refl, Bool, ℕ, suc, ◌+◌, ltb, length}
use Rattle.std.proofs.Math.Path.{subst}
use Rattle.std.proofs.Math.Bool.{true, false}
use Rattle.std.proofs.Math.Option.{some}
use mathlib.Core.List.{List, [], ◌∷◌}
use Rattle.std.proofs.Common.{arith}
use Rattle.std.proofs.Math.ListN.{get_elem?}
use Rattle.definition.specs.Settings.{Settings}
use Rattle.definition.specs.FactorGraph.{Bale, Node}
use Rattle.definition.specs.Components.{components_of}
use Rattle.definition.specs.Directions.{message_graph_of}
use Rattle.definition.specs.Answer.{PartAnswer, part_answer, answers_of, answers_from, answer}
use Rattle.definition.specs.Refusals.{Buffers, accepted, verdict}
use Rattle.graph_laws.specs.Lists.{All, All-append}
use Rattle.claims.specs.Parts.{AcceptedPart}

module _ (Q : PartAnswer → Type 0) (s : Settings) (f : Buffers) (b : Bale) (h : (n : ℕ) (p : List Node) → AcceptedPart s f b n p → Q (part_answer s n p (message_graph_of b p))) (A : verdict s f b ≡ accepted) where
  in_answers_from : (k : ℕ) (ps : List (List Node)) → ((i : ℕ) (p : List Node) → get_elem? ps i ≡ some p → get_elem? (components_of b) (k + i) ≡ some p) → All Q (answers_from s b k ps)
  unfolding answers_from answers_of
  in_answers_from k [] g = tt
  in_answers_from k (p ∷ ps) g =
      All-append Q (answers_of s b k p) (answers_from s b (suc k) ps)
      (go (ltb 2 (length p)) (h k p (record { accepts = A; stands = subst (λ (n : ℕ). get_elem? (components_of b) n ≡ some p) (omega arith) (g 0 p refl) })))
      (in_answers_from (suc k) ps (λ i q e. subst (λ (n : ℕ). get_elem? (components_of b) n ≡ some q) (omega arith) (g (suc i) q e)))
    where
      go : (c : Bool) → Q (part_answer s k p (message_graph_of b p)) → All Q (elim c as (λ z. List PartAnswer) [ true ↦ part_answer s k p (message_graph_of b p) ∷ [] | false ↦ [] ])
      go true q = (q, tt)
      go false q = tt

  pub in_answer : All Q (answer s b)
  unfolding answer
  in_answer = in_answers_from 0 (components_of b) (λ i p e. subst (λ (n : ℕ). get_elem? (components_of b) n ≡ some p) (omega arith) e)
