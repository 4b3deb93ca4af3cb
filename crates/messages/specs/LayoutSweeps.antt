-- A loop over the nodes in rows: each node sends messages that fit where they go, and a sweep's or the opening's state after n nodes leads to that after one more.
use Prim.Native.Nat.{ℕ, zero, suc, ◌+◌, ◌≤◌, ◌<◌}
use Rattle.std.proofs.Common.{add-one, sym, ◌∙◌}
use native.Mathlib.Omega.{arith}
use Rattle.std.specs.Prelude.{◌≡◌, Bool, true, false, Float, length, get_or, take}
use Rattle.std.proofs.Math.Path.{refl, ap}
use Rattle.std.proofs.Math.Option.{none}
use mathlib.Core.List.{List, [], ◌∷◌, ◌++◌}
use Rattle.definition.specs.Vectors.{Message}
use Rattle.definition.specs.Settings.{Settings}
use Rattle.definition.specs.FactorGraph.{Kind}
use Rattle.definition.specs.Directions.{Direction, MessageNode, MessageGraph, no_message_node, node_at, message_at, set_messages}
use Rattle.definition.specs.Messages.{LastBuild, out_messages}
use Rattle.definition.specs.Sweeps.{update_kind, compute_update}
use Rattle.graph_laws.specs.Invariant.{Each, each_out_messages}
use Rattle.graph_laws.specs.MessageLengths.{AsLong, Sound, fits}
use Rattle.graph_laws.specs.Unread.{length-out_messages}
use Rattle.messages.specs.Layout.{cut, width}
use Rattle.messages.specs.LayoutCut.{SetFits}
use Rattle.messages.specs.LayoutWrite.{Takes, sent, set_messages-cut, length-sent}

-- ---- what a node sends fits

-- a message for each direction of a list, each as long as its direction says
pub record Sends (ds : List Direction) (os : List ℕ) (ms : List Message) : Type 0 where
  pub count : length ms ≡ length os
  pub takes : (k : ℕ) → k < length os → Takes ds (get_or os k 0) (message_at k ms)

pub set_messages-sends : (ds : List Direction) (os : List ℕ) (ms : List Message) (r : List Float) → length r ≡ width ds → Sends ds os ms → set_messages os ms (cut ds r) ≡ cut ds (sent ds os ms r (length os))
set_messages-sends ds os ms r e s = set_messages-cut ds os ms r e s.count s.takes

pub length-sends : (ds : List Direction) (os : List ℕ) (ms : List Message) (r : List Float) (i : ℕ) → i ≤ length os → length r ≡ width ds → Sends ds os ms → length (sent ds os ms r i) ≡ width ds
length-sends ds os ms r i h e s = length-sent ds os ms r i e (λ k q. s.takes k (omega arith))

module _ (s : Settings) (t : MessageGraph) (S : Sound t) (ms : List Message) (F : SetFits t.directions ms) (n : ℕ)
    (inside : (node_at t n).first_incoming + length (node_at t n).outgoing ≤ length t.directions) (there : (k : ℕ) → k < length (node_at t n).outgoing → get_or (node_at t n).outgoing k 0 < length t.directions) where
  abbrev x : MessageNode
  x = node_at t n

  each_at : (os : List ℕ) (l : List Message) (k : ℕ) → Each (AsLong t) os l → k < length os → k < length l → AsLong t (get_or os k 0) (message_at k l)
  each_at [] l k a p q = absurd (let z : ⊥ = omega arith in z)
  each_at (o ∷ os) [] k a p q = absurd (let z : ⊥ = omega arith in z)
  each_at (o ∷ os) (m ∷ l) zero a p q = a.0
  each_at (o ∷ os) (m ∷ l) (suc k) a p q = each_at os l k a.1 (omega arith) (omega arith)

  each_sends : (l : List Message) → length l ≡ length x.outgoing → Each (AsLong t) x.outgoing l → Sends t.directions x.outgoing l
  each_sends l c a = record { count = c; takes = (λ k q. record { there = there k q; long = each_at x.outgoing l k a q (omega arith) (there k q) }) }

  room : x.first_incoming + length x.outgoing ≤ length ms
  room = omega (arith, inside, F.count)

  pub node-sends : (b : LastBuild) → Sends t.directions x.outgoing (out_messages s t ms x b).messages
  node-sends b =
      each_sends (out_messages s t ms x b).messages (length-out_messages s t ms x b room) (each_out_messages (fits s t S).preserved n b ms tt F.long)

-- ---- a sweep, node by node

module _ (s : Settings) (t : MessageGraph) (ms : List Message) where
  update_suc : (xs : List MessageNode) (bs : List LastBuild) (l : List Message) (n : ℕ) → n < length xs → n < length bs
      → (compute_update s t ms (take (suc n) xs) (take (suc n) bs) l).msg_in_new
      ≡ set_messages (get_or xs n no_message_node).outgoing (out_messages s t ms (get_or xs n no_message_node) (get_or bs n none)).messages (compute_update s t ms (take n xs) (take n bs) l).msg_in_new
  unfolding compute_update
  update_suc [] bs l n h k = absurd (let z : ⊥ = omega arith in z)
  update_suc (x ∷ xs) [] l n h k = absurd (let z : ⊥ = omega arith in z)
  update_suc (x ∷ xs) (b ∷ bs) l zero h k = refl
  update_suc (x ∷ xs) (b ∷ bs) l (suc n) h k = update_suc xs bs (set_messages x.outgoing (out_messages s t ms x b).messages l) n (omega arith) (omega arith)

  builds_suc : (xs : List MessageNode) (bs : List LastBuild) (l : List Message) (n : ℕ) → n < length xs → n < length bs
      → (compute_update s t ms (take (suc n) xs) (take (suc n) bs) l).last_builds
      ≡ (compute_update s t ms (take n xs) (take n bs) l).last_builds ++ ((out_messages s t ms (get_or xs n no_message_node) (get_or bs n none)).last_build ∷ [])
  unfolding compute_update
  builds_suc [] bs l n h k = absurd (let z : ⊥ = omega arith in z)
  builds_suc (x ∷ xs) [] l n h k = absurd (let z : ⊥ = omega arith in z)
  builds_suc (x ∷ xs) (b ∷ bs) l zero h k = refl
  builds_suc (x ∷ xs) (b ∷ bs) l (suc n) h k =
      ap (λ (r : List LastBuild). (out_messages s t ms x b).last_build ∷ r) (builds_suc xs bs (set_messages x.outgoing (out_messages s t ms x b).messages l) n (omega arith) (omega arith))

  module _ (bs : List LastBuild) (l : List Message) (n : ℕ) (h : n < length t.nodes) (k : n < length bs) where
    pub update_next : (compute_update s t ms (take (n + 1) t.nodes) (take (n + 1) bs) l).msg_in_new
        ≡ set_messages (node_at t n).outgoing (out_messages s t ms (node_at t n) (get_or bs n none)).messages (compute_update s t ms (take n t.nodes) (take n bs) l).msg_in_new
    update_next = ap (λ (i : ℕ). (compute_update s t ms (take i t.nodes) (take i bs) l).msg_in_new) (add-one n) ∙ update_suc t.nodes bs l n h k

    pub builds_next : (compute_update s t ms (take (n + 1) t.nodes) (take (n + 1) bs) l).last_builds
        ≡ (compute_update s t ms (take n t.nodes) (take n bs) l).last_builds ++ ((out_messages s t ms (node_at t n) (get_or bs n none)).last_build ∷ [])
    builds_next = ap (λ (i : ℕ). (compute_update s t ms (take i t.nodes) (take i bs) l).last_builds) (add-one n) ∙ builds_suc t.nodes bs l n h k

    -- in rows: w is the new row after n nodes, and node n's messages are sent into it
    pub update_row : (w : List Float) → length w ≡ width t.directions → cut t.directions w ≡ (compute_update s t ms (take n t.nodes) (take n bs) l).msg_in_new
        → Sends t.directions (node_at t n).outgoing (out_messages s t ms (node_at t n) (get_or bs n none)).messages
        → cut t.directions (sent t.directions (node_at t n).outgoing (out_messages s t ms (node_at t n) (get_or bs n none)).messages w (length (node_at t n).outgoing))
        ≡ (compute_update s t ms (take (n + 1) t.nodes) (take (n + 1) bs) l).msg_in_new
    update_row w e i f =
        let m = (out_messages s t ms (node_at t n) (get_or bs n none)).messages in
        sym (set_messages-sends t.directions (node_at t n).outgoing m w e f) ∙ ap (set_messages (node_at t n).outgoing m) i ∙ sym update_next

-- ---- the opening, node by node

-- what one node makes of the messages so far
abbrev pub kind_step : (Kind → Bool) → (MessageNode → List Message → List Message) → MessageNode → List Message → List Message
kind_step p f x ms = elim (p x.kind) [ true ↦ set_messages x.outgoing (f x ms) ms | false ↦ ms ]

module _ (p : Kind → Bool) (f : MessageNode → List Message → List Message) where
  kind-suc : (xs : List MessageNode) (ms : List Message) (n : ℕ) → n < length xs → update_kind p f (take (suc n) xs) ms ≡ kind_step p f (get_or xs n no_message_node) (update_kind p f (take n xs) ms)
  unfolding update_kind
  kind-suc [] ms n h = absurd (let z : ⊥ = omega arith in z)
  kind-suc (x ∷ xs) ms zero h = refl
  kind-suc (x ∷ xs) ms (suc n) h = kind-suc xs (kind_step p f x ms) n (omega arith)

  pub kind-next : (t : MessageGraph) (ms : List Message) (n : ℕ) → n < length t.nodes → update_kind p f (take (n + 1) t.nodes) ms ≡ kind_step p f (node_at t n) (update_kind p f (take n t.nodes) ms)
  kind-next t ms n h = ap (λ (i : ℕ). update_kind p f (take i t.nodes) ms) (add-one n) ∙ kind-suc t.nodes ms n h
