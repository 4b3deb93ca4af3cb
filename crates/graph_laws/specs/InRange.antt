-- What a run reads by number is there: after any events that begin with the opening, what waits in the queue is a direction, the nodes to be copied are nodes
-- and a node's neighbours are nodes.
use Rattle.std.specs.Prelude.{ℕ, ◌<◌, ◌≡◌, refl, Bool, Float, length, get_or, take, drop}
use Rattle.std.proofs.Common.{arith}
use Rattle.std.proofs.Math.Bool.{true, false}
use Rattle.std.proofs.Math.Option.{Option, none, some}
use mathlib.Core.List.{List, [], ◌∷◌}
use Rattle.definition.specs.Vectors.{Message}
use Rattle.definition.specs.Settings.{Settings}
use Rattle.definition.specs.FactorGraph.{is_tree}
use Rattle.definition.specs.Components.{Subgraph}
use Rattle.definition.specs.Directions.{Direction, no_direction, MessageGraph, node_at, direction_at}
use Rattle.definition.specs.Sweeps.{Store, opening, sweep}
use Rattle.definition.specs.Run.{State, begin_loop, MessageUpdate, update_single, neighbour_numbers, update_tree, update_message, scheduled_step, Event, opened, swept, stepped, apply_event, state_after}
use Rattle.definition.specs.Priorities.{Highest, highest_priority}
use Rattle.graph_laws.specs.Lists.{All, All-map-into, All-take, All-drop}
use Rattle.graph_laws.specs.Ranks.{upto-below}
use Rattle.graph_laws.specs.Places.{All-numbered}
use Rattle.graph_laws.specs.Consistency.{DirectionFits, Consistent}
use Rattle.graph_laws.specs.MessageCounts.{Counts, opening-counts, begin_counts, apply_event-counts, counted}
use Rattle.graph_laws.specs.Highest.{IsHighest, top_highest, in_range}

-- what waits after the events
module _ (s : Settings) (t : MessageGraph) (es : List Event) (x : State) where
  pub waiting_there : (d : ℕ) (a : Float) → get_or (state_after s t (opened ∷ es) x).priorities d none ≡ some a → d < length t.directions
  waiting_there d a h = omega (arith, in_range (state_after s t (opened ∷ es) x).priorities d a h, (counted s t es x).priorities)

  pub top-there : (b : Highest) → highest_priority (state_after s t (opened ∷ es) x).priorities ≡ some b → b.direction < length t.directions
  top-there b h = omega (arith, (top_highest (state_after s t (opened ∷ es) x).priorities b h).there, (counted s t es x).priorities)

module _ (g : Subgraph) (t : MessageGraph) (C : Consistent g t) where
  abbrev There : ℕ → Type 0
  There n = n < length t.nodes

  abbrev Way : ℕ → Type 0
  Way d = d < length t.directions

  -- a node's neighbours
  starts : All (λ (w : Direction). There w.start) t.directions
  starts = All-numbered (λ (w : Direction). There w.start) no_direction t.directions (λ d l. let w : DirectionFits g t d (direction_at t d) = C.direction d l in omega (arith, w.start-there, C.nodes))

  pub neighbours-there : (n : ℕ) → All There (neighbour_numbers t (node_at t n))
  unfolding neighbour_numbers
  neighbours-there n =
      All-map-into There (λ (d : Direction). d.start) (take (length (node_at t n).outgoing) (drop (node_at t n).first_incoming t.directions))
      (All-take (λ (w : Direction). There w.start) (length (node_at t n).outgoing) (drop (node_at t n).first_incoming t.directions)
      (All-drop (λ (w : Direction). There w.start) (node_at t n).first_incoming t.directions starts))

  -- the nodes that the next step copies
  move_there : (s : Settings) (d : ℕ) (log : List Message) (x : Store) → Way d → All There (update_message s t d log x).changed
  unfolding update_message update_tree update_single
  move_there s d log x l = go (is_tree (node_at t (direction_at t d).start).kind)
    where
      go : (b : Bool) → All There (elim b as (λ c. MessageUpdate) [ true ↦ update_tree s t (direction_at t d).start log x | false ↦ update_single s t d log x ]).changed
      go true = neighbours-there (direction_at t d).start
      go false = (let w : DirectionFits g t d (direction_at t d) = C.direction d l in omega (arith, w.end-there, C.nodes), tt)

  begin_there : (s : Settings) (x : Store) → All There (begin_loop s t x).changed
  unfolding begin_loop
  begin_there s x = upto-below (length t.nodes)

  apply_event-there : (s : Settings) (e : Event) (x : State) → Counts t x → All There x.changed → All There (apply_event s t e x).changed
  unfolding apply_event scheduled_step
  apply_event-there s opened x h k = begin_there s (opening s t)
  apply_event-there s swept x h k = begin_there s (sweep s t x.store)
  apply_event-there s stepped x h k = go (highest_priority x.priorities) (λ b e. top_highest x.priorities b e)
    where
      go : (o : Option Highest) → ((b : Highest) → o ≡ some b → IsHighest x.priorities b) → All There (elim o as (λ c. State) [ none ↦ x | some b ↦ scheduled_step s t b x ]).changed
      go none f = k
      go (some b) f = move_there s b.direction _ x.store (omega (arith, (f b refl).there, h.priorities))

  after-there : (s : Settings) (es : List Event) (x : State) → Counts t x → All There x.changed → All There (state_after s t es x).changed
  unfolding state_after
  after-there s [] x h k = k
  after-there s (e ∷ es) x h k = after-there s es (apply_event s t e x) (apply_event-counts s t e x h) (apply_event-there s e x h k)

  pub changed-there : (s : Settings) (es : List Event) (x : State) → All There (state_after s t (opened ∷ es) x).changed
  unfolding state_after apply_event
  changed-there s es x = after-there s es (begin_loop s t (opening s t)) (begin_counts s t (opening s t) (opening-counts s t)) (begin_there s (opening s t))
