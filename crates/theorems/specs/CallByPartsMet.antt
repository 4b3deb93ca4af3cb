-- That the claim of a call by parts speaks of something: a call with two parts of over 2 nodes is answered, and so the claim holds of it.
use Rattle.std.specs.Prelude.{ℕ, ◌≡◌, refl, List, [], ◌∷◌, map, Float, length, replicate}
use Rattle.std.specs.Float.Ieee.{round, div, lt, le, eq, is_nan, of_int, fits}
use Rattle.definition.specs.Floats.{zeroᶠ, halfᶠ}
use Rattle.definition.specs.FactorGraph.{built_graph, Bale, Node}
use Rattle.definition.specs.Components.{walk, components, components_of, subgraph, subgraph_of}
use Rattle.definition.specs.Directions.{message_nodes_from, message_graph, message_graph_of}
use Rattle.definition.specs.Answer.{beliefs_among, part_answer, answers_of, answers_from, answer, answered_beliefs}
use Rattle.definition.specs.Refusals.{markers_of, pairs_of, bale_of, outside, too_many, work_needed, too_small, bad_tolerance, bad_evidence, unknown_pair, lowest_place_from, lowest_place, repeated_pairs, too_many_grades, or_refused, verdict}
use Rattle.definition.specs.Call.{Lent, sizes_of, answered, answered_by, result_of, call}
use Rattle.claims.specs.Parts.{Binary32}
use Rattle.claims.specs.CallByParts.{PartsAnswered}
use Rattle.theorems.specs.ExactSumsMet.{settings}
use Rattle.theorems.specs.Demand3.{call-by-parts}

-- grades 0, 1 and 2 on marker 0, and grade 3 on marker 1
abbrev evidence : List Float
evidence = halfᶠ ∷ halfᶠ ∷ halfᶠ ∷ halfᶠ ∷ []

abbrev pairs : List ℕ
pairs = 0 ∷ 0 ∷ 1 ∷ 0 ∷ 2 ∷ 0 ∷ 3 ∷ 1 ∷ []

abbrev bale : Bale
bale = bale_of 4 evidence pairs

abbrev lent : Lent
lent =
    record {
      work_floats = replicate 4736 zeroᶠ;
      work_numbers = replicate 4736 0;
      belief_numbers = replicate 4 0;
      belief_floats = replicate 8 zeroᶠ;
      ending_numbers = replicate 16 0;
      ending_floats = replicate 4 zeroᶠ;
    }

-- four beliefs and two endings; parts of 6 and of 3 nodes
pub answers : (call settings 4 evidence pairs lent).outcome ≡ answered 4 2
unfolding round div lt le eq is_nan of_int built_graph walk components components_of subgraph subgraph_of message_nodes_from message_graph message_graph_of beliefs_among part_answer answers_of answers_from answer answered_beliefs markers_of pairs_of bale_of outside too_many work_needed too_small bad_tolerance bad_evidence unknown_pair lowest_place_from lowest_place repeated_pairs too_many_grades or_refused verdict sizes_of answered_by result_of call
answers = refl

pub sizes : map (λ (p : List Node). length p) (components_of bale) ≡ 6 ∷ 3 ∷ []
unfolding built_graph walk components components_of markers_of pairs_of bale_of
sizes = refl

pub floats : Binary32 settings bale
unfolding fits markers_of bale_of
floats =
    record {
      settings = record { alpha = tt; beta = tt; prior = tt };
      evidence = (record { absent = tt; present = tt }, (record { absent = tt; present = tt }, tt));
    }

pub met : PartsAnswered settings bale lent (call settings 4 evidence pairs lent) 4 2
met = call-by-parts settings 4 evidence pairs lent floats 4 2 answers
