-- Demand 3, whole, and that a run is its list of events: stated of the definition. The crate `theorems` proves each of these types.
use Rattle.std.specs.Prelude.{ℕ, ◌-◌, ◌*◌, ◌≤◌, ◌<◌, ◌≡◌, true, false, List, [], ◌∷◌, map, eqb, length, get_or}
use Rattle.std.proofs.Math.Option.{none}
use Rattle.std.specs.Float.Ieee.{lt}
use Rattle.definition.specs.Lists.{filter}
use Rattle.definition.specs.Vectors.{Message}
use Rattle.definition.specs.Settings.{Settings}
use Rattle.definition.specs.FactorGraph.{Bale, Node}
use Rattle.definition.specs.Components.{Subgraph, subgraph_of, components_of}
use Rattle.definition.specs.Directions.{MessageGraph, edge_at, node_at, message_at, messages_in, message_graph_of}
use Rattle.definition.specs.Priorities.{highest_priority}
use Rattle.definition.specs.Run.{State, Event, opened, state_after, events, Ending, limit, settled, empty, run}
use Rattle.definition.specs.Answer.{Belief, PartAnswer, answer}
use Rattle.definition.specs.Refusals.{Buffers, accepted, verdict}
use Rattle.definition.specs.PartAlone.{grades_in, part_alone}
use Rattle.claims.specs.Parts.{AcceptedPart, Binary32, degree_of, edge_number_at, Within, Present}

-- ---- (a) bounded

-- Of the messages in force ms: two for each edge; and at each position i of each node n stands a message as long as the edge there says, with every entry
-- between c and 1.
pub record Bounded (g : Subgraph) (t : MessageGraph) (ms : List Message) : Type 0 where
  pub two_for_each_edge : length ms ≡ 2 * length g.edges
  pub long : (n i : ℕ) → n < length g.nodes → i < degree_of g n → length (message_at i (messages_in (node_at t n) ms)) ≡ (edge_at g (edge_number_at g n i)).message_length
  pub within : (n i : ℕ) → n < length g.nodes → i < degree_of g n → Within (message_at i (messages_in (node_at t n) ms))

-- So it is of every part of an accepted call whose floats are binary32 values, after every list of events that begins with the opening, whatever state stood
-- before it.
abbrev pub BoundedMessages : Type 0
BoundedMessages = (s : Settings) (f : Buffers) (b : Bale) (n : ℕ) (p : List Node) → AcceptedPart s f b n p → Binary32 s b → (es : List Event) (x : State) →
    Bounded (subgraph_of b p) (message_graph_of b p) (state_after s (message_graph_of b p) (opened ∷ es) x).store.msg_in

-- ---- the run is its list of events, and does not stop early

-- the three tests of the loop, before a step that has k steps left before the limit
pub record Passed (s : Settings) (k : ℕ) (x : State) : Type 0 where
  pub room : 0 < k
  pub unsettled : lt s.tolerance x.last_residual ≡ true
  pub waiting : Present (highest_priority x.priorities)

-- the first test that fails where k steps are left, and the residual that the ending tells
abbrev pub EndsBy : Settings → ℕ → Ending → State → Type 0
EndsBy s k (limit r) x = (k ≡ 0) × (r ≡ x.last_residual)
EndsBy s k (settled r) x = (0 < k) × (lt s.tolerance x.last_residual ≡ false) × (r ≡ x.last_residual)
EndsBy s k empty x = (0 < k) × (lt s.tolerance x.last_residual ≡ true) × (highest_priority x.priorities ≡ none)

-- The run's state is what its events leave, whatever state stood before them, and its steps are how many of them are scheduled: at most as many as the limit
-- leaves after the five sweeps. Before each step the state is what the events up to there leave, and the tests passed in it. The ending is the first that fails.
pub record RunFollows (s : Settings) (t : MessageGraph) (x : State) : Type 0 where
  pub few : (run s t).state.steps ≤ s.loop_limit - 5
  pub state : (run s t).state ≡ state_after s t (events (run s t).state.steps) x
  pub passed : (j : ℕ) → j < (run s t).state.steps → Passed s (s.loop_limit - 5 - j) (state_after s t (events j) x)
  pub ended : EndsBy s (s.loop_limit - 5 - (run s t).state.steps) (run s t).ending (run s t).state

abbrev pub RunOfEvents : Type 0
RunOfEvents = (s : Settings) (t : MessageGraph) (x : State) → RunFollows s t x

-- ---- (b) local

-- the answer of a part entered by itself, each grade led back to its number in the whole (gs has the part's grades), under the part's number n
abbrev pub relabel_belief : List ℕ → Belief → Belief
relabel_belief gs x = record { grade = get_or gs x.grade 0; value = x.value }

abbrev pub relabel_answer : ℕ → List ℕ → PartAnswer → PartAnswer
relabel_answer n gs q = record { number = n; ending = q.ending; steps = q.steps; beliefs = map (relabel_belief gs) q.beliefs }

-- The part entered by itself is accepted, with the same buffers; it has exactly one part; what it answers, led back, is just what the whole answers under the
-- part's number: beliefs in order and so their count, ending with residual, steps. A part of at most 2 nodes has no answer, alone or in the whole.
pub record Alike (s : Settings) (f : Buffers) (b : Bale) (n : ℕ) (p : List Node) : Type 0 where
  pub accepts : verdict s f (part_alone b p) ≡ accepted
  pub one-part : length (components_of (part_alone b p)) ≡ 1
  pub same : map (relabel_answer n (grades_in b p)) (answer s (part_alone b p)) ≡ filter (λ q. eqb q.number n) (answer s b)
  pub none-alone : length p ≤ 2 → answer s (part_alone b p) ≡ []
  pub none_in_whole : length p ≤ 2 → filter (λ q. eqb q.number n) (answer s b) ≡ []
  pub one-alone : 2 < length p → length (answer s (part_alone b p)) ≡ 1

abbrev pub Locality : Type 0
Locality = (s : Settings) (f : Buffers) (b : Bale) (n : ℕ) (p : List Node) → AcceptedPart s f b n p → Alike s f b n p
