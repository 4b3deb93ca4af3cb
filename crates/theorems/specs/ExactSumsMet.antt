-- That S-31's claim speaks of something: a marker with three grades has a tree in an accepted part; and its sums, of two grades, computed.
use Rattle.std.specs.Prelude.{ℕ, ◌*◌, ◌^◌, ◌≡◌, refl, false, List, [], ◌∷◌, map, T, negsuc, length, get_or}
use Rattle.std.specs.Float.{fin}
use Rattle.std.specs.Float.Ieee.{round, div, lt, le, eq, is_nan, of_int}
use Rattle.definition.specs.Floats.{halfᶠ, oneᶠ, ratio}
use Rattle.definition.specs.Lists.{range, patterns}
use Rattle.definition.specs.Vectors.{Message, binary}
use Rattle.definition.specs.Settings.{Settings}
use Rattle.definition.specs.FactorGraph.{built_graph, Bale, Node, is_tree}
use Rattle.definition.specs.Components.{walk, components, components_of, subgraph, subgraph_of}
use Rattle.definition.specs.Directions.{edge_at, direction_to, directions_to, firsts_incoming, direction_from, message_nodes_from, message_graph, message_graph_of, node_at}
use Rattle.definition.specs.Refusals.{outside, too_many, work_needed, too_small, bad_tolerance, bad_evidence, unknown_pair, lowest_place_from, lowest_place, repeated_pairs, too_many_grades, or_refused, verdict, Buffers}
use Rattle.claims.specs.Parts.{AcceptedPart}
use Rattle.claims.specs.ExactSums.{factor_sum, grade_sum}

abbrev pub settings : Settings
settings = record { alpha = halfᶠ; beta = halfᶠ; prior = halfᶠ; regularised = false; tolerance = ratio 6 1000; loop_limit = 10000 }

abbrev lent : Buffers
lent = record { work_floats = 5000; work_numbers = 5000; belief_numbers = 3; belief_floats = 6; ending_numbers = 12; ending_floats = 3 }

abbrev three : Bale
three = record { grades = 3; markers = record { absent = halfᶠ; present = halfᶠ } ∷ []; pairs = map (λ (g : ℕ). record { grade = g; marker = 0 }) (range 0 3) }

abbrev part : List Node
part = get_or (components_of three) 0 []

-- two grades of which each is as likely present as not, and a factor's message 1/2, 1, 1/4
abbrev halves : List Message
halves = binary halfᶠ halfᶠ ∷ binary halfᶠ halfᶠ ∷ []

abbrev counted : Message
counted = halfᶠ ∷ oneᶠ ∷ fin false 1 (negsuc 1) ∷ []

pub record Met : Type 0 where
  pub accepted : AcceptedPart settings lent three 0 part
  pub a-tree : T (is_tree (node_at (message_graph_of three part) 1).kind)
  pub of_three : length (node_at (message_graph_of three part) 1).outgoing ≡ 4
  -- to the factor 1 : 2 : 1; to a grade 1/2 * 1/2 + 1/2 * 1 : 1/2 * 1 + 1/2 * 1/4, so 6 : 5
  pub to-factor : map (factor_sum halves) (range 0 3) ≡ 2 ^ 296 ∷ 2 * 2 ^ 296 ∷ 2 ^ 296 ∷ []
  pub to-grade : map (grade_sum counted halves 1) (range 0 2) ≡ 6 * 2 ^ 295 ∷ 5 * 2 ^ 295 ∷ []

pub met : Met
unfolding patterns round div lt le eq is_nan of_int built_graph walk components components_of subgraph subgraph_of edge_at direction_to directions_to firsts_incoming direction_from message_nodes_from message_graph message_graph_of outside too_many work_needed too_small bad_tolerance bad_evidence unknown_pair lowest_place_from lowest_place repeated_pairs too_many_grades or_refused verdict
met = record { accepted = record { accepts = refl; stands = refl }; a-tree = tt; of_three = refl; to-factor = refl; to-grade = refl }
