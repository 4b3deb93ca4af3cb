-- The opening and the sweeps (`Messages::new`, `initialize_messages` and `compute_update` of src/messages.rs).
use Rattle.std.specs.Prelude.{ℕ, Bool, true, false, List, [], ◌∷◌, map, ltb, leb, Float, length, replicate}
use Rattle.std.proofs.Math.Option.{none}
use Rattle.definition.specs.Settings.{Settings}
use Rattle.definition.specs.Floats.{◌⊖◌, halfᶠ, oneᶠ, ln}
use Rattle.definition.specs.Vectors.{Message, entry, binary, avoid_underflow_all, log_normalize, sum_from}
use Rattle.definition.specs.FactorGraph.{Kind, is_grade, is_factor, is_input}
use Rattle.definition.specs.Directions.{Direction, MessageNode, MessageGraph, messages_in, set_messages}
use Rattle.definition.specs.Messages.{initial_belief, out_message, LastBuild, out_messages}

-- The messages in force (`msg_in`), the new ones (`msg_in_new`) and the log (`msg_in_log`), each a message for each direction; and of each node what it was
-- last built of.
pub record Store : Type 0 where
  pub msg_in : List Message
  pub msg_in_new : List Message
  pub msg_in_log : List Message
  pub last_builds : List LastBuild

-- ---- the opening (`Messages::new` and `initialize_messages`)

-- before anything is sent
unfoldable pub initial_message : Direction → Message
initial_message d = elim (ltb 2 d.message_length) [ true ↦ replicate d.message_length oneᶠ | false ↦ binary halfᶠ halfᶠ ]

-- The nodes of a kind send, one after the other: f says what, given the messages so far.
unfoldable pub update_kind : (Kind → Bool) → (MessageNode → List Message → List Message) → List MessageNode → List Message → List Message
update_kind p f [] ms = ms
update_kind p f (x ∷ xs) ms = update_kind p f xs (elim (p x.kind) [ true ↦ set_messages x.outgoing (f x ms) ms | false ↦ ms ])

-- an input sends its belief, a factor what it always sends
unfoldable pub opening_input : Settings → MessageNode → List Message → List Message
opening_input s x ms = map (λ (o : ℕ). initial_belief s x.kind) x.outgoing

unfoldable pub opening_factor : Settings → MessageGraph → MessageNode → List Message → List Message
opening_factor s t x ms = map (out_message s t ms) x.outgoing

-- a grade takes the sum of all logarithms once, and each message leaves the receiver's out
unfoldable pub log_total : ℕ → Message → List Message → Float
log_total k b ms = sum_from (ln (entry k b)) (map (λ (m : Message). ln (entry k m)) ms)

unfoldable pub leave_one_out : Float → Float → Message → Message
leave_one_out p q m = avoid_underflow_all (log_normalize (p ⊖ ln (entry 0 m)) (q ⊖ ln (entry 1 m)))

unfoldable pub opening_variable : Message → List Message → List Message
opening_variable b ms =
    let p = log_total 0 b ms in
    let q = log_total 1 b ms in
    elim (leb (length ms) 1) [ true ↦ map (λ (m : Message). b) ms | false ↦ map (leave_one_out p q) ms ]

unfoldable pub opening_grade : Settings → MessageNode → List Message → List Message
opening_grade s x ms = opening_variable (initial_belief s x.kind) (messages_in x ms)

-- first the inputs, then the factors, then the grades
unfoldable pub initialize_messages : Settings → MessageGraph → List Message
initialize_messages s t =
    let a = update_kind is_input (opening_input s) t.nodes (map initial_message t.directions) in
    let b = update_kind is_factor (opening_factor s t) t.nodes a in
    update_kind is_grade (opening_grade s) t.nodes b

-- (The Rust has zeros in `msg_in_new` here. The first sweep writes all of it and reads none: `sweep_unread` of graph_laws.)
unfoldable pub opening : Settings → MessageGraph → Store
opening s t = let ms = initialize_messages s t in record { msg_in = ms; msg_in_new = ms; msg_in_log = ms; last_builds = map (λ (x : MessageNode). none) t.nodes }

-- ---- a sweep (`compute_update`)

-- Every node sends, from the messages in force ms into l; bs has what each was last built of.
pub record Update : Type 0 where
  pub msg_in_new : List Message
  pub last_builds : List LastBuild

unfoldable pub compute_update : Settings → MessageGraph → List Message → List MessageNode → List LastBuild → List Message → Update
compute_update s t ms [] bs l = record { msg_in_new = l; last_builds = [] }
compute_update s t ms (x ∷ xs) [] l = record { msg_in_new = l; last_builds = [] }
compute_update s t ms (x ∷ xs) (b ∷ bs) l =
    let y = out_messages s t ms x b in
    let r = compute_update s t ms xs bs (set_messages x.outgoing y.messages l) in
    record { msg_in_new = r.msg_in_new; last_builds = y.last_build ∷ r.last_builds }

-- Then the new messages are in force, those that were in force are the log, and the log is what is written over next.
unfoldable pub sweep : Settings → MessageGraph → Store → Store
sweep s t x =
    let r = compute_update s t x.msg_in t.nodes x.last_builds x.msg_in_new in
    record { msg_in = r.msg_in_new; msg_in_new = x.msg_in_log; msg_in_log = x.msg_in; last_builds = r.last_builds }
