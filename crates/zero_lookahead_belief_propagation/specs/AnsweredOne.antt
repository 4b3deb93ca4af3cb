-- What one part yields: nothing where it has at most 2 nodes, and else its ending and its beliefs.
use Rattle.std.specs.Prelude.{ℕ, ◌≤◌, ◌<◌, ◌≡◌, Bool, ltb, Float, get_or}
use Rattle.std.proofs.Common.{arith, lt-ltb, le-ltb, sym, ◌∙◌, subst}
use Rattle.std.proofs.Math.Path.{ap}
use Rattle.std.proofs.Math.Bool.{true, false}
use mathlib.Core.List.{List, [], ◌∷◌, map, append-nil}
use Rattle.std.proofs.Math.ListN.{length}
use Rattle.definition.specs.Settings.{Settings}
use Rattle.definition.specs.FactorGraph.{Bale}
use Rattle.definition.specs.Components.{subgraph_of}
use Rattle.definition.specs.Directions.{message_graph_of}
use Rattle.definition.specs.Answer.{Belief, PartAnswer, part_answer, answers_of, ending_number, ending_residual, answered_beliefs, belief_numbers, belief_floats, ending_numbers, ending_floats}
use Rattle.definition.specs.Call.{overwrite}
use Rattle.graph_laws.specs.Accepted.{passes_all, sized}
use Rattle.graph_laws.specs.AnswerSizes.{answer-sizes}
use Rattle.graph_laws.specs.Consistency.{nodes_of}
use Rattle.factor_graph.specs.Words.{label}
use Rattle.messages.specs.DirectionsRecord.{node_count, record_room}
use Rattle.part.specs.declared.run.Ending.{Ending}
use Rattle.part.specs.Ending.{ending_from}
use Rattle.zero_lookahead_belief_propagation.specs.Answered.{Answers, answers_with, Written, written_none, part_at, part-beliefs}
use Rattle.zero_lookahead_belief_propagation.specs.AnsweredPart.{Placed, Large, PartRuns, Asked}

module _ (s : Settings) (b : Bale) (n out : ℕ) (evidence : List Float) (words : List ℕ) (floats : ℕ) (l : Answers) (A : Asked s b n out evidence words floats l) where
  abbrev P : Placed s b n out evidence words floats
  P = A.placed

  abbrev q : PartAnswer
  q = part_answer s n (part_at b n) (message_graph_of b (part_at b n))

  pub counts-there : 1 < length words
  counts-there = omega (arith, record_room words 0 (map label (part_at b n)) (subgraph_of b (part_at b n)) P.recorded)

  nodes_are : get_or words 0 0 ≡ length (part_at b n)
  nodes_are = node_count words 0 (map label (part_at b n)) (subgraph_of b (part_at b n)) P.recorded ∙ nodes_of b (part_at b n)

  by_size : (c : Bool) → ltb 2 (length (part_at b n)) ≡ c → answers_of s b n (part_at b n) ≡ elim c as (λ _. List PartAnswer) [ true ↦ part_answer s n (part_at b n) (message_graph_of b (part_at b n)) ∷ [] | false ↦ [] ]
  unfolding answers_of
  by_size c e = ap (λ (x : Bool). elim x as (λ _. List PartAnswer) [ true ↦ part_answer s n (part_at b n) (message_graph_of b (part_at b n)) ∷ [] | false ↦ [] ]) e

  pub small_written : get_or words 0 0 ≤ 2 → Written (answers_of s b n (part_at b n)) l 0 0 l
  small_written h =
      subst (λ (x : List PartAnswer). Written x l 0 0 l) (sym (by_size false (le-ltb 2 (length (part_at b n)) (omega (arith, nodes_are))))) (written_none l)

  module _ (h : 2 < get_or words 0 0) where
    one : answers_of s b n (part_at b n) ≡ part_answer s n (part_at b n) (message_graph_of b (part_at b n)) ∷ []
    one = by_size true (lt-ltb 2 (length (part_at b n)) (omega (arith, nodes_are)))

    beliefs_are : answered_beliefs (answers_of s b n (part_at b n)) ≡ (part_answer s n (part_at b n) (message_graph_of b (part_at b n))).beliefs
    unfolding answered_beliefs
    beliefs_are = ap answered_beliefs one ∙ append-nil q.beliefs

    pub asked_large : Large s b n out evidence words floats (length l.belief_numbers) (length l.belief_floats)
    asked_large =
        record {
          placed = P;
          large = omega (arith, nodes_are);
          numbers_room = omega (arith, ap length beliefs_are, A.fits.belief_numbers);
          floats_fit = omega (arith, ap length beliefs_are, A.fits.belief_floats);
        }

    pub endings_room : (4 ≤ length l.ending_numbers) × (1 ≤ length l.ending_floats)
    endings_room = (omega (arith, ap length one, A.fits.ending_numbers), omega (arith, ap length one, A.fits.ending_floats))

    pub beliefs_small : length (part_answer s n (part_at b n) (message_graph_of b (part_at b n))).beliefs < 4294967296
    beliefs_small =
        omega
        (arith, ap length beliefs_are, part-beliefs s b n P.there, (answer-sizes s P.buffers b P.accepts).beliefs, (sized b (passes_all s P.buffers b P.accepts).sizes.0).grades)

    pub large-written : (ending : Ending) (steps count : ℕ) (l' : Answers)
        → PartRuns (part_answer s n (part_at b n) (message_graph_of b (part_at b n))) l.belief_numbers l.belief_floats ending steps count l'.belief_numbers l'.belief_floats
        → l'.ending_numbers ≡ overwrite (n ∷ ending_number (ending_from ending) ∷ steps ∷ count ∷ []) l.ending_numbers
        → l'.ending_floats ≡ overwrite (ending_residual (ending_from ending) ∷ []) l.ending_floats
        → Written (answers_of s b n (part_at b n)) l count 1 l'
    unfolding ending_numbers ending_floats part_answer
    large-written ending steps count l' R en ef =
        record {
          beliefs_are = R.believed.count_is ∙ ap length (sym beliefs_are);
          endings_are = ap length (sym one);
          is = λ i. answers_with (bn' i) (bf' i) (en' i) (ef' i);
        }
      where
        bn' : l'.belief_numbers ≡ overwrite (belief_numbers (answered_beliefs (answers_of s b n (part_at b n)))) l.belief_numbers
        bn' = R.believed.numbers_are ∙ ap (λ (x : List Belief). overwrite (belief_numbers x) l.belief_numbers) (sym beliefs_are)

        bf' : l'.belief_floats ≡ overwrite (belief_floats (answered_beliefs (answers_of s b n (part_at b n)))) l.belief_floats
        bf' = R.believed.floats_are ∙ ap (λ (x : List Belief). overwrite (belief_floats x) l.belief_floats) (sym beliefs_are)

        en' : l'.ending_numbers ≡ overwrite (ending_numbers (answers_of s b n (part_at b n))) l.ending_numbers
        en' =
            en ∙ ap (λ (e : _). overwrite (n ∷ ending_number e ∷ steps ∷ count ∷ []) l.ending_numbers) R.ending-is
            ∙ ap (λ (k : ℕ). overwrite (n ∷ ending_number q.ending ∷ k ∷ count ∷ []) l.ending_numbers) R.steps_are
            ∙ ap (λ (k : ℕ). overwrite (n ∷ ending_number q.ending ∷ q.steps ∷ k ∷ []) l.ending_numbers) R.believed.count_is
            ∙ ap (λ (x : List PartAnswer). overwrite (ending_numbers x) l.ending_numbers) (sym one)

        ef' : l'.ending_floats ≡ overwrite (ending_floats (answers_of s b n (part_at b n))) l.ending_floats
        ef' =
            ef ∙ ap (λ (e : _). overwrite (ending_residual e ∷ []) l.ending_floats) R.ending-is
            ∙ ap (λ (x : List PartAnswer). overwrite (ending_floats x) l.ending_floats) (sym one)
