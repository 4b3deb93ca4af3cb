-- The shape of the bounds: whatever holds of every message that is sent holds of every message in force, after each beginning of the list of events
-- that holds the opening. P d m says it of the message m of direction number d.
use Rattle.std.specs.Prelude.{ℕ, zero, suc, ◌+◌, ◌<◌, ◌≡◌, refl, Bool, T, length, get_or, take, drop, set}
use Rattle.std.proofs.Common.{add-zero, add-suc, suc-add, arith, ap, sym, subst, ◌∙◌, get_or-drop}
use Rattle.std.proofs.Math.Option.{Option, none, some}
use mathlib.Core.List.{List, [], ◌∷◌, ◌++◌, map}
use Rattle.definition.specs.Lists.{range}
use Rattle.definition.specs.Vectors.{Message}
use Rattle.graph_laws.specs.Bools.{either_arm}
use Rattle.graph_laws.specs.Lists.{All, All-every}
use Rattle.graph_laws.specs.Places.{All-numbered}
use Rattle.definition.specs.Settings.{Settings}
use Rattle.definition.specs.FactorGraph.{Kind, is_grade, is_factor, is_input, is_tree}
use Rattle.definition.specs.Directions.{MessageNode, MessageGraph, no_message_node, node_at, direction_at, message_at, incoming, messages_in, set_messages, copy_node, copy_nodes}
use Rattle.definition.specs.Messages.{out_message, needs_rebuild, tree_out_messages, LastBuild, Outgoing, out_messages_tree, out_messages}
use Rattle.definition.specs.Sweeps.{Store, initial_message, update_kind, opening_input, opening_factor, opening_grade, initialize_messages, opening, compute_update, sweep}
use Rattle.definition.specs.Run.{State, begin_loop, MessageUpdate, update_single, neighbour_numbers, update_tree, update_message, scheduled_step, Event, opened, swept, stepped, apply_event, state_after}
use Rattle.definition.specs.Priorities.{Highest, highest_priority}

abbrev pub Family : Type 1
Family = ℕ → Message → Type 0

abbrev pub Holding : Family → List Message → Type 0
Holding P ms = (d : ℕ) → P d (message_at d ms)

-- of messages on their way to directions
abbrev pub Each : Family → List ℕ → List Message → Type 0
Each P [] ms = Unit {0}
Each P (o ∷ os) [] = Unit {0}
Each P (o ∷ os) (m ∷ ms) = P o m × Each P os ms

fit_set : (P : Family) (l : List Message) (o : ℕ) (m : Message) → Holding P l → P o m → Holding P (set l o m)
fit_set P [] o m h k d = h d
fit_set P (x ∷ l) zero m h k zero = k
fit_set P (x ∷ l) zero m h k (suc d) = h (suc d)
fit_set P (x ∷ l) (suc o) m h k zero = h 0
fit_set P (x ∷ l) (suc o) m h k (suc d) = fit_set (λ (e : ℕ) (n : Message). P (suc e) n) l o m (λ e. h (suc e)) k d

fit_set_messages : (P : Family) (os : List ℕ) (ms l : List Message) → Holding P l → Each P os ms → Holding P (set_messages os ms l)
unfolding set_messages
fit_set_messages P [] ms l h k = h
fit_set_messages P (o ∷ os) [] l h k = h
fit_set_messages P (o ∷ os) (m ∷ ms) l h k = fit_set_messages P os ms (set l o m) (fit_set P l o m h k.0) k.1

each_take : (P : Family) (i k : ℕ) (l : List Message) → ((j : ℕ) → P (i + j) (get_or l j [])) → Each P (range i k) (take k l)
each_take P i zero l h = tt
each_take P i (suc k) [] h = tt
each_take P i (suc k) (x ∷ l) h = (subst (λ (n : ℕ). P n x) (add-zero i) (h 0), each_take P (suc i) k l (λ j. subst (λ (n : ℕ). P n (get_or l j [])) (add-suc i j ∙ sym (suc-add i j)) (h (suc j))))

pub each_messages_in : (P : Family) (x : MessageNode) (ms : List Message) → Holding P ms → Each P (incoming x) (messages_in x ms)
each_messages_in P x ms h = each_take P x.first_incoming (length x.outgoing) (drop x.first_incoming ms) (λ j. rw get_or-drop (h (x.first_incoming + j)))

fit_copy : (P : Family) (from to : List Message) (x : MessageNode) → Holding P from → Holding P to → Holding P (copy_node from x to)
unfolding copy_node
fit_copy P from to x h k = fit_set_messages P (incoming x) (messages_in x from) to k (each_messages_in P x from h)

fit_copy_nodes : (P : Family) (t : MessageGraph) (from : List Message) (ns : List ℕ) (to : List Message) → Holding P from → Holding P to → Holding P (copy_nodes t from ns to)
unfolding copy_nodes
fit_copy_nodes P t from [] to h k = k
fit_copy_nodes P t from (n ∷ ns) to h k = fit_copy_nodes P t from ns (copy_node from (node_at t n) to) h (fit_copy P from to (node_at t n) h k)

pub each_map : (P : Family) (f : ℕ → Message) (os : List ℕ) → ((o : ℕ) → P o (f o)) → Each P os (map f os)
each_map P f [] h = tt
each_map P f (o ∷ os) h = (h o, each_map P f os h)

-- by number
pub each_numbered : (P : Family) (os : List ℕ) (ms : List Message) → ((i : ℕ) → i < length os → P (get_or os i 0) (message_at i ms)) → Each P os ms
each_numbered P [] ms h = tt
each_numbered P (o ∷ os) [] h = tt
each_numbered P (o ∷ os) (m ∷ ms) h = (h 0 (omega arith), each_numbered P os ms (λ i l. h (suc i) (omega arith)))

pub all-at : (Q : MessageNode → Type 0) (e : MessageNode) (xs : List MessageNode) (n : ℕ) → Q e → All Q xs → Q (get_or xs n e)
all-at Q e [] n k h = k
all-at Q e (x ∷ xs) zero k h = h.0
all-at Q e (x ∷ xs) (suc n) k h = all-at Q e xs n k h.1

-- a kind of node sends only what fits
abbrev pub SendsHolding : Family → (Kind → Bool) → (MessageNode → List Message → List Message) → MessageNode → Type 0
SendsHolding P p f x = T (p x.kind) → (ms : List Message) → Holding P ms → Each P x.outgoing (f x ms)

-- and so does a tree, built of messages ms that R holds of
abbrev pub BuiltHolding : Family → (List Message → Type 0) → MessageNode → Type 0
BuiltHolding P R x = T (is_tree x.kind) → (ms : List Message) → R ms → Holding P ms → Each P x.outgoing (tree_out_messages (messages_in x ms))

-- where it is of no account what a tree is built of
abbrev pub Anything : List Message → Type 0
Anything ms = Unit {0}

-- What is to be shown of a part, and of a family, that sweeps and steps keep it.
pub record Preserved (s : Settings) (t : MessageGraph) (P : Family) (R : List Message → Type 0) : Type 0 where
  pub trees : All (BuiltHolding P R) t.nodes
  pub single : (ms : List Message) → Holding P ms → (d : ℕ) → P d (out_message s t ms d)

-- And that it holds after the opening.
pub record Invariant (s : Settings) (t : MessageGraph) (P : Family) (R : List Message → Type 0) : Type 0 where
  pub blanks : Holding P (map initial_message t.directions)
  pub inputs : All (SendsHolding P is_input (opening_input s)) t.nodes
  pub grades : All (SendsHolding P is_grade (opening_grade s)) t.nodes
  pub preserved : Preserved s t P R

-- the three sets of a state
pub record Stored (P : Family) (x : Store) : Type 0 where
  pub msg_in : Holding P x.msg_in
  pub msg_in_new : Holding P x.msg_in_new
  pub msg_in_log : Holding P x.msg_in_log

-- ---- a sweep

-- if each node sends what fits, where Q holds of what it was last built of
module _ (s : Settings) (t : MessageGraph) (P : Family) (Q : LastBuild → Type 0) (ms : List Message) where
  pub fit_compute_update : (xs : List MessageNode) (bs : List LastBuild) (l : List Message)
      → All (λ x. (b : LastBuild) → Q b → Each P x.outgoing (out_messages s t ms x b).messages) xs → All Q bs
      → Holding P l → Holding P (compute_update s t ms xs bs l).msg_in_new
  unfolding compute_update
  fit_compute_update [] bs l a q h = h
  fit_compute_update (x ∷ xs) [] l a q h = h
  fit_compute_update (x ∷ xs) (b ∷ bs) l a q h = fit_compute_update xs bs _ a.1 q.1 (fit_set_messages P x.outgoing _ l h (a.0 b q.0))

module _ {s : Settings} {t : MessageGraph} {P : Family} {R : List Message → Type 0} (H : Preserved s t P R) where
  each_tree : (n : ℕ) (b : LastBuild) (ms : List Message) → T (is_tree (node_at t n).kind) → R ms → Holding P ms
      → Each P (node_at t n).outgoing (out_messages_tree s ms (node_at t n) b).messages
  unfolding out_messages_tree
  each_tree n b ms k r h =
      either_arm (λ (y : Outgoing). Each P (node_at t n).outgoing y.messages) (needs_rebuild s.tolerance (messages_in (node_at t n) ms) b) _ _
      (λ _. all-at (BuiltHolding P R) no_message_node t.nodes n (λ e. absurd e) H.trees k ms r h)
      (λ _. each_map P (λ (o : ℕ). message_at o ms) (node_at t n).outgoing h)

  pub each_out_messages : (n : ℕ) (b : LastBuild) (ms : List Message) → R ms → Holding P ms
      → Each P (node_at t n).outgoing (out_messages s t ms (node_at t n) b).messages
  unfolding out_messages
  each_out_messages n b ms r h =
      either_arm (λ (y : Outgoing). Each P (node_at t n).outgoing y.messages) (is_tree (node_at t n).kind) _ _
      (λ k. each_tree n b ms k r h) (λ _. each_map P (out_message s t ms) (node_at t n).outgoing (H.single ms h))

  -- The log is not read.
  pub fit_sweep : (x : Store) → R x.msg_in → Holding P x.msg_in → Holding P x.msg_in_new → Holding P (sweep s t x).msg_in
  unfolding sweep
  fit_sweep x r h k =
      fit_compute_update s t P (λ b. Unit {0}) x.msg_in t.nodes x.last_builds x.msg_in_new
      (All-numbered _ no_message_node t.nodes (λ n l b _. each_out_messages n b x.msg_in r h)) (All-every (λ b. Unit {0}) (λ b. tt) x.last_builds) k

  pub stored_sweep : (x : Store) → R x.msg_in → Stored P x → Stored P (sweep s t x)
  unfolding sweep
  stored_sweep x r h = record { msg_in = fit_sweep x r h.msg_in h.msg_in_new; msg_in_new = h.msg_in_log; msg_in_log = h.msg_in }

  -- ---- a step
  stored_one : (d : ℕ) (log : List Message) (x : Store) → Holding P log → Stored P x → Stored P (update_single s t d log x).store
  unfolding update_single
  stored_one d log x l h =
      let m = H.single x.msg_in h.msg_in d in
      record { msg_in = fit_set P x.msg_in d _ h.msg_in m; msg_in_new = fit_set P x.msg_in_new d _ h.msg_in_new m; msg_in_log = l }

  stored_tree : (n : ℕ) (log : List Message) (x : Store) → T (is_tree (node_at t n).kind) → R x.msg_in → Holding P log
      → Stored P x → Stored P (update_tree s t n log x).store
  unfolding update_tree
  stored_tree n log x k r l h =
      let y = node_at t n in
      let f = fit_set_messages P y.outgoing _ x.msg_in_new h.msg_in_new (each_tree n (get_or x.last_builds n none) x.msg_in k r h.msg_in) in
      record { msg_in = fit_copy_nodes P t _ (neighbour_numbers t y) x.msg_in f h.msg_in; msg_in_new = f; msg_in_log = l }

  stored_move : (d : ℕ) (log : List Message) (x : Store) → R x.msg_in → Holding P log → Stored P x → Stored P (update_message s t d log x).store
  unfolding update_message
  stored_move d log x r l h =
      either_arm (λ (u : MessageUpdate). Stored P u.store) (is_tree (node_at t (direction_at t d).start).kind) _ _
      (λ k. stored_tree (direction_at t d).start log x k r l h) (λ _. stored_one d log x l h)

  pub stored_step : (b : Highest) (x : State) → R x.store.msg_in → Stored P x.store → Stored P (scheduled_step s t b x).store
  unfolding scheduled_step
  stored_step b x r h =
      stored_move b.direction _ x.store r (fit_copy_nodes P t x.store.msg_in x.changed x.store.msg_in_log h.msg_in h.msg_in_log) h

  -- ---- the events
  stored_top : (o : Option Highest) (x : State) → R x.store.msg_in → Stored P x.store
      → Stored P (elim o as (λ c. State) [ none ↦ x | some b ↦ scheduled_step s t b x ]).store
  stored_top none x r h = h
  stored_top (some b) x r h = stored_step b x r h

  -- An opening among the events is to leave only what fits.
  abbrev pub Reopens : Event → Type 0
  Reopens opened = Stored P (opening s t)
  Reopens swept = Unit {0}
  Reopens stepped = Unit {0}

  stored_apply_event : (e : Event) (x : State) → Reopens e → R x.store.msg_in → Stored P x.store → Stored P (apply_event s t e x).store
  unfolding apply_event begin_loop
  stored_apply_event opened x o r h = o
  stored_apply_event swept x o r h = stored_sweep x.store r h
  stored_apply_event stepped x o r h = stored_top (highest_priority x.priorities) x r h

  -- R is to hold of the messages in force before each of the events.
  pub stored_after : (es : List Event) (x : State) → All Reopens es → ((us : List Event) (e : Event) (vs : List Event) → us ++ (e ∷ vs) ≡ es → R (state_after s t us x).store.msg_in)
      → Stored P x.store → Stored P (state_after s t es x).store
  unfolding state_after
  stored_after [] x o r h = h
  stored_after (e ∷ es) x o r h =
      stored_after es (apply_event s t e x) o.1 (λ us d vs q. r (e ∷ us) d vs (ap (λ (l : List Event). e ∷ l) q))
      (stored_apply_event e x o.0 (r [] e es refl) h)

module _ {s : Settings} {t : MessageGraph} {P : Family} {R : List Message → Type 0} (H : Invariant s t P R) where
  fit_update_kind : (p : Kind → Bool) (f : MessageNode → List Message → List Message) (xs : List MessageNode) (ms : List Message) → All (SendsHolding P p f) xs
      → Holding P ms → Holding P (update_kind p f xs ms)
  unfolding update_kind
  fit_update_kind p f [] ms a h = h
  fit_update_kind p f (x ∷ xs) ms a h =
      fit_update_kind p f xs _ a.1 (either_arm (Holding P) (p x.kind) _ _ (λ k. fit_set_messages P x.outgoing (f x ms) ms h (a.0 k ms h)) (λ _. h))

  fit_open : Holding P (initialize_messages s t)
  unfolding initialize_messages opening_factor
  fit_open =
      fit_update_kind is_grade (opening_grade s) t.nodes _ H.grades
      (fit_update_kind is_factor (opening_factor s t) t.nodes _
      (All-every (SendsHolding P is_factor (opening_factor s t))
      (λ x k ms h. each_map P (out_message s t ms) x.outgoing (H.preserved.single ms h)) t.nodes)
      (fit_update_kind is_input (opening_input s) t.nodes _ H.inputs H.blanks))

  pub stored_opening : Stored P (opening s t)
  unfolding opening
  stored_opening = record { msg_in = fit_open; msg_in_new = fit_open; msg_in_log = fit_open }

  reopens : (e : Event) → Reopens H.preserved e
  reopens opened = stored_opening
  reopens swept = tt
  reopens stepped = tt

  -- After any list of events that begins with the opening, and from any state, every message in force fits.
  pub in_force : (es : List Event) (x : State)
      → ((us : List Event) (e : Event) (vs : List Event) → us ++ (e ∷ vs) ≡ es → R (state_after s t (opened ∷ us) x).store.msg_in)
      → Holding P (state_after s t (opened ∷ es) x).store.msg_in
  unfolding state_after apply_event begin_loop
  in_force es x r = (stored_after H.preserved es (begin_loop s t (opening s t)) (All-every (Reopens H.preserved) reopens es) r stored_opening).msg_in
