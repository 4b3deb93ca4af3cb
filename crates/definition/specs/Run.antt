-- The run of a component: the opening, five sweeps, then scheduled steps (`zero_lookahead_bp` of src/messages.rs; document 01, 'How a part ends').
use Rattle.std.specs.Prelude.{ℕ, zero, suc, ◌-◌, true, false, cond, List, [], ◌∷◌, ◌++◌, map, Float, length, get_or, take, drop, set, replicate}
use Rattle.std.proofs.Math.Option.{Option, none, some}
use Rattle.std.specs.Float.Ieee.{lt}
use Rattle.definition.specs.Settings.{Settings}
use Rattle.definition.specs.Floats.{◌⊕◌, zeroᶠ, largest_finite}
use Rattle.definition.specs.Lists.{range}
use Rattle.definition.specs.Vectors.{Message}
use Rattle.definition.specs.FactorGraph.{is_tree}
use Rattle.definition.specs.Directions.{Direction, MessageNode, MessageGraph, node_at, direction_at, set_messages, copy_nodes}
use Rattle.definition.specs.Messages.{out_message, residual, out_messages_tree}
use Rattle.definition.specs.Sweeps.{Store, opening, sweep}
use Rattle.definition.specs.Priorities.{Highest, highest_priority}

-- ---- what the loop holds

-- `pending` (`pending_residuals`) has of each direction the summed residuals that came in at its start since its message was last computed; `priorities` whether
-- it waits, and with what amount; `changed` (`prev_changed`) the nodes whose messages the next step copies into the log; `last_residual` (`max_residual`) the amount
-- with which the last step was taken; `steps` how many steps were taken.
pub record State : Type 0 where
  pub store : Store
  pub pending : List Float
  pub priorities : List (Option Float)
  pub changed : List ℕ
  pub last_residual : Float
  pub steps : ℕ

-- ---- where the loop begins: nothing is pending, and a direction waits if its residual exceeds the tolerance

unfoldable pub initial_priority : Float → Float → Option Float
initial_priority t r = cond (lt t r) (some r) none

unfoldable pub begin_loop : Settings → MessageGraph → Store → State
begin_loop s t x =
    record {
      store = x;
      pending = map (λ (d : Direction). zeroᶠ) t.directions;
      priorities = map (λ (d : ℕ). initial_priority s.tolerance (residual t x.msg_in x.msg_in_log d)) (range 0 (length t.directions));
      changed = range 0 (length t.nodes);
      last_residual = largest_finite;
      steps = 0;
    }

-- ---- a scheduled step, along direction number d

-- One message is computed and put in force (`single_message_update`). The new log is given.
pub record MessageUpdate : Type 0 where
  pub store : Store
  pub changed : List ℕ

unfoldable pub update_single : Settings → MessageGraph → ℕ → List Message → Store → MessageUpdate
update_single s t d log x =
    let m = out_message s t x.msg_in d in
    record { store = record { msg_in = set x.msg_in d m; msg_in_new = set x.msg_in_new d m; msg_in_log = log; last_builds = x.last_builds }; changed = (direction_at t d).end ∷ [] }

-- a node's neighbours
unfoldable pub neighbour_numbers : MessageGraph → MessageNode → List ℕ
neighbour_numbers t x = map (λ (d : Direction). d.start) (take (length x.outgoing) (drop x.first_incoming t.directions))

-- The tree at node n sends all its messages. Then each neighbour's whole set is copied from the new ones, older entries included.
unfoldable pub update_tree : Settings → MessageGraph → ℕ → List Message → Store → MessageUpdate
update_tree s t n log x =
    let y = node_at t n in
    let r = out_messages_tree s x.msg_in y (get_or x.last_builds n none) in
    let l = set_messages y.outgoing r.messages x.msg_in_new in
    record { store = record { msg_in = copy_nodes t l (neighbour_numbers t y) x.msg_in; msg_in_new = l; msg_in_log = log; last_builds = set x.last_builds n r.last_build }; changed = neighbour_numbers t y }

unfoldable pub update_message : Settings → MessageGraph → ℕ → List Message → Store → MessageUpdate
update_message s t d log x =
    let n = (direction_at t d).start in
    elim (is_tree (node_at t n).kind) [ true ↦ update_tree s t n log x | false ↦ update_single s t d log x ]

-- a node's outgoing directions, without that at position i
unfoldable pub other_outgoing : ℕ → List ℕ → List ℕ
other_outgoing i os = take i os ++ drop (suc i) os

-- r is added to what is pending for each direction of a list
unfoldable pub add_pending : Float → List ℕ → List Float → List Float
add_pending r [] p = p
add_pending r (d ∷ ds) p = add_pending r ds (set p d (get_or p d zeroᶠ ⊕ r))

-- each direction of a list waits with all that is pending for it
unfoldable pub push_priorities : List Float → List ℕ → List (Option Float) → List (Option Float)
push_priorities p [] q = q
push_priorities p (d ∷ ds) q = push_priorities p ds (set q d (some (get_or p d zeroᶠ)))

-- The residual is that of the messages in force against the log, both as they were before the step. For the direction itself nothing is pending any more
-- and it waits no more; what its end sends to its other neighbours has the residual pending too, and waits (`compute_total_residuals`, `compute_priority`).
unfoldable pub scheduled_step : Settings → MessageGraph → Highest → State → State
scheduled_step s t b x =
    let z = x.store in
    let w = direction_at t b.direction in
    let r = residual t z.msg_in z.msg_in_log b.direction in
    let v = update_message s t b.direction (copy_nodes t z.msg_in x.changed z.msg_in_log) z in
    let os = other_outgoing w.start_in_end (node_at t w.end).outgoing in
    let p = add_pending r os (set x.pending b.direction zeroᶠ) in
    record { store = v.store; pending = p; priorities = push_priorities p os (set x.priorities b.direction none); changed = v.changed; last_residual = b.priority; steps = suc x.steps }

-- ---- the events: document 01's list. A refused call and a part of at most 2 nodes have none, since they are not run.

pub data Event : Type 0 where
  opened swept stepped : Event

-- What an event makes of the state before it. The opening reads none of it. An opening and a sweep leave the state with which the loop would begin, and
-- only after the fifth sweep does it. A step is taken from the queue.
unfoldable pub apply_event : Settings → MessageGraph → Event → State → State
apply_event s t opened x = begin_loop s t (opening s t)
apply_event s t swept x = begin_loop s t (sweep s t x.store)
apply_event s t stepped x = elim (highest_priority x.priorities) [ none ↦ x | some b ↦ scheduled_step s t b x ]

unfoldable pub state_after : Settings → MessageGraph → List Event → State → State
state_after s t [] x = x
state_after s t (e ∷ es) x = state_after s t es (apply_event s t e x)

-- the events before the loop, and all events of a run of n steps
unfoldable pub opening_and_sweeps : List Event
opening_and_sweeps = opened ∷ replicate 5 swept

unfoldable pub events : ℕ → List Event
events n = opening_and_sweeps ++ replicate n stepped

-- ---- the loop, and how it ends

pub data Ending : Type 0 where
  limit : Float → Ending
  settled : Float → Ending
  empty : Ending

pub record Ended : Type 0 where
  pub ending : Ending
  pub state : State

-- k steps are left before the limit. The tests come in this order: the limit, the last residual, the queue.
unfoldable pub loop : Settings → MessageGraph → ℕ → State → Ended
loop s t zero x = record { ending = limit x.last_residual; state = x }
loop s t (suc k) x =
    elim (lt s.tolerance x.last_residual) [
      | false ↦ record { ending = settled x.last_residual; state = x }
      | true ↦ elim (highest_priority x.priorities) [ none ↦ record { ending = empty; state = x } | some b ↦ loop s t k (scheduled_step s t b x) ]
    ]

-- The loop's count k starts at 5. The state that stands before the opening is of no account.
unfoldable pub run : Settings → MessageGraph → Ended
run s t = loop s t (s.loop_limit - 5) (state_after s t opening_and_sweeps (begin_loop s t (opening s t)))
