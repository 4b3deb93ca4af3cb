-- A state has as many entries as it should: after any events that begin with the opening, one message for each direction in each of the three sets, one build for
-- each node, one amount pending and one entry of the queue for each direction. So the message at each of a node's positions is as long as the edge there says,
-- and the bounds do not hold for want of messages.
use Prim.Native.Nat.{ℕ, suc, ◌+◌, ◌<◌}
use native.Mathlib.Omega.{arith}
use Rattle.std.specs.Prelude.{◌≡◌, Bool, Float, length, get_or, drop, set}
use Rattle.std.proofs.Math.Path.{refl, ap}
use Rattle.std.proofs.Common.{sym, ◌∙◌, subst, get_or-take, get_or-drop}
use Rattle.std.proofs.Math.Bool.{true, false}
use Rattle.std.proofs.Math.Option.{Option, none, some}
use mathlib.Core.List.{List, [], ◌∷◌}
use Rattle.std.proofs.Math.ListN.{length-set, length-map}
use Rattle.definition.specs.Floats.{◌⊕◌, zeroᶠ}
use Rattle.definition.specs.Lists.{range}
use Rattle.definition.specs.Vectors.{Message}
use Rattle.definition.specs.Settings.{Settings}
use Rattle.definition.specs.FactorGraph.{Bale, Node, Kind, is_grade, is_factor, is_input, is_tree}
use Rattle.definition.specs.Components.{Subgraph, subgraph_of}
use Rattle.definition.specs.Directions.{Direction, MessageNode, MessageGraph, node_at, direction_at, message_at, incoming, messages_in, set_messages, copy_node, copy_nodes, edge_at, message_graph_of}
use Rattle.definition.specs.Messages.{LastBuild, out_messages, residual}
use Rattle.definition.specs.Sweeps.{Store, initial_message, update_kind, opening_input, opening_factor, opening_grade, initialize_messages, opening, compute_update, sweep}
use Rattle.definition.specs.Run.{State, initial_priority, begin_loop, MessageUpdate, update_single, neighbour_numbers, update_tree, update_message, other_outgoing, add_pending, push_priorities, scheduled_step, Event, opened, swept, stepped, apply_event, state_after}
use Rattle.definition.specs.Priorities.{Highest, highest_priority}
use Rattle.definition.specs.Refusals.{Buffers}
use Rattle.graph_laws.specs.Lists.{length_count}
use Rattle.claims.specs.Parts.{AcceptedPart, Within, degree_of, edge_number_at}
use Rattle.graph_laws.specs.Structure.{WithinByDirection, long_in_force}
use Rattle.graph_laws.specs.Consistency.{NodeFits, PositionFits, Consistent, consistent}

-- ---- what is written over keeps its length

pub length-set_messages : (os : List ℕ) (ms l : List Message) → length (set_messages os ms l) ≡ length l
unfolding set_messages
length-set_messages [] ms l = refl
length-set_messages (o ∷ os) [] l = refl
length-set_messages (o ∷ os) (m ∷ ms) l = length-set_messages os ms (set l o m) ∙ length-set l o m

pub length_copy : (from : List Message) (x : MessageNode) (to : List Message) → length (copy_node from x to) ≡ length to
unfolding copy_node
length_copy from x to = length-set_messages (incoming x) (messages_in x from) to

pub length-copy_nodes : (t : MessageGraph) (from : List Message) (ns : List ℕ) (to : List Message) → length (copy_nodes t from ns to) ≡ length to
unfolding copy_nodes
length-copy_nodes t from [] to = refl
length-copy_nodes t from (n ∷ ns) to = length-copy_nodes t from ns (copy_node from (node_at t n) to) ∙ length_copy from (node_at t n) to

pub length-update_kind : (p : Kind → Bool) (f : MessageNode → List Message → List Message) (xs : List MessageNode) (ms : List Message) → length (update_kind p f xs ms) ≡ length ms
unfolding update_kind
length-update_kind p f [] ms = refl
length-update_kind p f (x ∷ xs) ms = length-update_kind p f xs _ ∙ go (p x.kind)
  where
    go : (b : Bool) → length {A = Message} (elim b as (λ c. List Message) [ true ↦ set_messages x.outgoing (f x ms) ms | false ↦ ms ]) ≡ length ms
    go true = length-set_messages x.outgoing (f x ms) ms
    go false = refl

pub length-add_pending : (r : Float) (ds : List ℕ) (p : List Float) → length (add_pending r ds p) ≡ length p
unfolding add_pending
length-add_pending r [] p = refl
length-add_pending r (d ∷ ds) p = length-add_pending r ds (set p d (get_or p d zeroᶠ ⊕ r)) ∙ length-set p d (get_or p d zeroᶠ ⊕ r)

pub length_wait : (p : List Float) (ds : List ℕ) (q : List (Option Float)) → length (push_priorities p ds q) ≡ length q
unfolding push_priorities
length_wait p [] q = refl
length_wait p (d ∷ ds) q = length_wait p ds (set q d (some (get_or p d zeroᶠ))) ∙ length-set q d (some (get_or p d zeroᶠ))

-- ---- the three sets, and the builds

pub record StoreCounts (t : MessageGraph) (x : Store) : Type 0 where
  pub msg_in : length x.msg_in ≡ length t.directions
  pub msg_in_new : length x.msg_in_new ≡ length t.directions
  pub msg_in_log : length x.msg_in_log ≡ length t.directions
  pub last_builds : length x.last_builds ≡ length t.nodes

pub record Counts (t : MessageGraph) (x : State) : Type 0 where
  pub store : StoreCounts t x.store
  pub pending : length x.pending ≡ length t.directions
  pub priorities : length x.priorities ≡ length t.directions

module _ (s : Settings) (t : MessageGraph) where
  pub length-initialize_messages : length (initialize_messages s t) ≡ length t.directions
  unfolding initialize_messages
  length-initialize_messages =
      length-update_kind is_grade (opening_grade s) t.nodes _ ∙ length-update_kind is_factor (opening_factor s t) t.nodes _ ∙ length-update_kind is_input (opening_input s) t.nodes _
      ∙ length-map t.directions initial_message

  pub length-compute_update : (ms : List Message) (xs : List MessageNode) (bs : List LastBuild) (l : List Message) → length (compute_update s t ms xs bs l).msg_in_new ≡ length l
  unfolding compute_update
  length-compute_update ms [] bs l = refl
  length-compute_update ms (x ∷ xs) [] l = refl
  length-compute_update ms (x ∷ xs) (b ∷ bs) l = length-compute_update ms xs bs (set_messages x.outgoing (out_messages s t ms x b).messages l) ∙ length-set_messages x.outgoing (out_messages s t ms x b).messages l

  pub length_builds : (ms : List Message) (xs : List MessageNode) (bs : List LastBuild) (l : List Message) → length bs ≡ length xs → length (compute_update s t ms xs bs l).last_builds ≡ length xs
  unfolding compute_update
  length_builds ms [] bs l h = refl
  length_builds ms (x ∷ xs) [] l h = absurd (let z : ⊥ = omega arith in z)
  length_builds ms (x ∷ xs) (b ∷ bs) l h = ap suc (length_builds ms xs bs (set_messages x.outgoing (out_messages s t ms x b).messages l) (omega arith))

  pub opening-counts : StoreCounts t (opening s t)
  unfolding opening
  opening-counts = record { msg_in = length-initialize_messages; msg_in_new = length-initialize_messages; msg_in_log = length-initialize_messages; last_builds = length-map t.nodes (λ (x : MessageNode). none) }

  pub sweep-counts : (x : Store) → StoreCounts t x → StoreCounts t (sweep s t x)
  unfolding sweep
  sweep-counts x h =
      record {
        msg_in = length-compute_update x.msg_in t.nodes x.last_builds x.msg_in_new ∙ h.msg_in_new;
        msg_in_new = h.msg_in_log;
        msg_in_log = h.msg_in;
        last_builds = length_builds x.msg_in t.nodes x.last_builds x.msg_in_new h.last_builds;
      }

  one-counts : (d : ℕ) (log : List Message) (x : Store) → length log ≡ length t.directions → StoreCounts t x → StoreCounts t (update_single s t d log x).store
  unfolding update_single
  one-counts d log x l h = record { msg_in = length-set x.msg_in d _ ∙ h.msg_in; msg_in_new = length-set x.msg_in_new d _ ∙ h.msg_in_new; msg_in_log = l; last_builds = h.last_builds }

  tree-counts : (n : ℕ) (log : List Message) (x : Store) → length log ≡ length t.directions → StoreCounts t x → StoreCounts t (update_tree s t n log x).store
  unfolding update_tree
  tree-counts n log x l h =
      record {
        msg_in = length-copy_nodes t _ (neighbour_numbers t (node_at t n)) x.msg_in ∙ h.msg_in;
        msg_in_new = length-set_messages (node_at t n).outgoing _ x.msg_in_new ∙ h.msg_in_new;
        msg_in_log = l;
        last_builds = length-set x.last_builds n _ ∙ h.last_builds;
      }

  move_counts : (d : ℕ) (log : List Message) (x : Store) → length log ≡ length t.directions → StoreCounts t x → StoreCounts t (update_message s t d log x).store
  unfolding update_message
  move_counts d log x l h = go (is_tree (node_at t (direction_at t d).start).kind)
    where
      go : (b : Bool) → StoreCounts t (elim b as (λ c. MessageUpdate) [ true ↦ update_tree s t (direction_at t d).start log x | false ↦ update_single s t d log x ]).store
      go true = tree-counts (direction_at t d).start log x l h
      go false = one-counts d log x l h

  -- ---- the events
  pub begin_counts : (x : Store) → StoreCounts t x → Counts t (begin_loop s t x)
  unfolding begin_loop
  begin_counts x h =
      record {
        store = h;
        pending = length-map t.directions (λ (d : Direction). zeroᶠ);
        priorities = length-map (range 0 (length t.directions)) (λ (d : ℕ). initial_priority s.tolerance (residual t x.msg_in x.msg_in_log d)) ∙ length_count 0 (length t.directions);
      }

  pub step_counts : (b : Highest) (x : State) → Counts t x → Counts t (scheduled_step s t b x)
  unfolding scheduled_step
  step_counts b x h =
      record {
        store = move_counts b.direction _ x.store (length-copy_nodes t x.store.msg_in x.changed x.store.msg_in_log ∙ h.store.msg_in_log) h.store;
        pending = length-add_pending _ (other_outgoing (direction_at t b.direction).start_in_end (node_at t (direction_at t b.direction).end).outgoing) _ ∙ length-set x.pending b.direction zeroᶠ ∙ h.pending;
        priorities = length_wait _ (other_outgoing (direction_at t b.direction).start_in_end (node_at t (direction_at t b.direction).end).outgoing) _ ∙ length-set x.priorities b.direction none ∙ h.priorities;
      }

  pub apply_event-counts : (e : Event) (x : State) → Counts t x → Counts t (apply_event s t e x)
  unfolding apply_event
  apply_event-counts opened x h = begin_counts (opening s t) opening-counts
  apply_event-counts swept x h = begin_counts (sweep s t x.store) (sweep-counts x.store h.store)
  apply_event-counts stepped x h = go (highest_priority x.priorities)
    where
      go : (o : Option Highest) → Counts t (elim o as (λ c. State) [ none ↦ x | some b ↦ scheduled_step s t b x ])
      go none = h
      go (some b) = step_counts b x h

  pub after-counts : (es : List Event) (x : State) → Counts t x → Counts t (state_after s t es x)
  unfolding state_after
  after-counts [] x h = h
  after-counts (e ∷ es) x h = after-counts es (apply_event s t e x) (apply_event-counts e x h)

  -- after any list of events that begins with the opening, and from any state
  pub counted : (es : List Event) (x : State) → Counts t (state_after s t (opened ∷ es) x)
  unfolding state_after apply_event
  counted es x = after-counts es (begin_loop s t (opening s t)) (begin_counts (opening s t) opening-counts)

-- ---- by nodes and positions

pub message_messages_in : (x : MessageNode) (ms : List Message) (i : ℕ) → i < length x.outgoing → message_at i (messages_in x ms) ≡ message_at (x.first_incoming + i) ms
message_messages_in x ms i h = get_or-take (length x.outgoing) (drop x.first_incoming ms) i [] h ∙ get_or-drop x.first_incoming ms i []

module _ (g : Subgraph) (t : MessageGraph) (C : Consistent g t) where
  pub messages_in-at : (ms : List Message) (n i : ℕ) → n < length g.nodes → i < degree_of g n → message_at i (messages_in (node_at t n) ms) ≡ message_at ((node_at t n).first_incoming + i) ms
  messages_in-at ms n i l j = message_messages_in (node_at t n) ms i (let f : NodeFits g t n = C.node n l in omega (arith, f.outgoing))

  -- what holds of the message of each direction holds of the message at each position
  pub messages_in-all : (Good : Message → Type 0) (ms : List Message) → ((d : ℕ) → d < length t.directions → Good (message_at d ms))
      → (n i : ℕ) → n < length g.nodes → i < degree_of g n → Good (message_at i (messages_in (node_at t n) ms))
  messages_in-all Good ms h n i l j = subst Good (sym (messages_in-at ms n i l j)) (h ((node_at t n).first_incoming + i) (C.position n i l j).in_there)

module _ (s : Settings) (f : Buffers) (b : Bale) (k : ℕ) (p : List Node) (h : AcceptedPart s f b k p) where
  abbrev g : Subgraph
  g = subgraph_of b p

  abbrev t : MessageGraph
  t = message_graph_of b p

  -- each as long as the edge there says
  pub messages_in-long : (es : List Event) (x : State) (n i : ℕ) → n < length g.nodes → i < degree_of g n
      → length (message_at i (messages_in (node_at t n) (state_after s t (opened ∷ es) x).store.msg_in)) ≡ (edge_at g (edge_number_at g n i)).message_length
  messages_in-long es x n i l j =
      let C = consistent s f b k p h in
      let P : PositionFits g t n i = C.position n i l j in
      ap length (messages_in-at g t C (state_after s t (opened ∷ es) x).store.msg_in n i l j) ∙ long_in_force s f b k p h es x ((node_at t n).first_incoming + i) P.in_there ∙ P.in_long

  -- and each within the bounds
  pub messages_in-within : WithinByDirection s b p → (es : List Event) (x : State) (n i : ℕ) → n < length g.nodes → i < degree_of g n
      → Within (message_at i (messages_in (node_at t n) (state_after s t (opened ∷ es) x).store.msg_in))
  messages_in-within B es x n i l j = messages_in-all g t (consistent s f b k p h) Within (state_after s t (opened ∷ es) x).store.msg_in (B es x) n i l j
