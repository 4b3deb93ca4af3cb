-- A sweep does not read `msg_in_new`: it writes a message to every direction. So what the opening leaves there is of no account.
use Rattle.std.specs.Prelude.{ℕ, zero, suc, ◌+◌, ◌^◌, ◌≤◌, ◌<◌, ◌≡◌, Bool, true, false, ◌||◌, Float, length, get_or, drop, set}
use native.Mathlib.Omega.{arith}
use Rattle.std.proofs.Math.Path.{refl, sym, ap}
use Rattle.std.proofs.Common.{◌∙◌, subst, true≢false, length-set, length-take, length-drop, get_or-set_same, get_or-set_other, ext_get_or}
use mathlib.Core.List.{List, [], ◌∷◌, map}
use Rattle.std.proofs.Math.Dec.{eqb}
use Rattle.std.proofs.lemmas.List.{length-map}
use Rattle.graph_laws.specs.Convolution.{log_length-least}
use Rattle.graph_laws.specs.Lengths.{length-count_layer, double, length-first_layer}
use Rattle.graph_laws.specs.Bools.{or_left, or_right, no_or, either_arm, eqb_sound, eqb_same}
use Rattle.definition.specs.Lists.{concat, mem}
use Rattle.definition.specs.Vectors.{Message, normalize}
use Rattle.definition.specs.Settings.{Settings}
use Rattle.definition.specs.FactorGraph.{is_tree}
use Rattle.definition.specs.Components.{Subgraph}
use Rattle.definition.specs.ConvolutionTree.{count_layer, likelihoods_below, tree_layers, log_length, first_layer, tree_messages}
use Rattle.definition.specs.Directions.{MessageNode, no_message_node, MessageGraph, node_at, direction_at, message_at, messages_in, set_messages}
use Rattle.definition.specs.Messages.{out_message, LastBuild, Outgoing, needs_rebuild, tree_out_messages, out_messages_tree, out_messages}
use Rattle.definition.specs.Sweeps.{Store, opening, compute_update, sweep}
use Rattle.graph_laws.specs.Lists.{All}
use Rattle.graph_laws.specs.Reach.{mem_append}
use Rattle.graph_laws.specs.Places.{All-numbered}
use Rattle.graph_laws.specs.Consistency.{NodeFits, DirectionFits, Consistent}
use Rattle.graph_laws.specs.MessageCounts.{length-set_messages, length-compute_update, StoreCounts, opening-counts}

-- ---- a tree sends as many messages as it holds

length-likelihoods_below : (n : ℕ) (ls js : List (List Float)) → length ls ≡ n → length js ≡ n + n → length (likelihoods_below ls js) ≡ n + n
unfolding likelihoods_below
length-likelihoods_below n [] js h k = omega arith
length-likelihoods_below n (l ∷ ls) [] h k = absurd (let z : ⊥ = omega arith in z)
length-likelihoods_below n (l ∷ ls) (a ∷ []) h k = absurd (let z : ⊥ = omega arith in z)
length-likelihoods_below zero (l ∷ ls) (a ∷ b ∷ js) h k = absurd (let z : ⊥ = omega arith in z)
length-likelihoods_below (suc n) (l ∷ ls) (a ∷ b ∷ js) h k = let r = length-likelihoods_below n ls js (omega arith) (omega arith) in omega (arith, r)

pub length_likelihoods : (p : ℕ) (l : List Float) (js : List (List Float)) → length js ≡ 2 ^ p → length (tree_layers p l js).likelihoods ≡ 2 ^ p
unfolding tree_layers
length_likelihoods zero l [] h = h
length_likelihoods zero l (j ∷ js) h = refl
length_likelihoods (suc p) l js h =
    length-likelihoods_below (2 ^ p) (tree_layers p l (count_layer js)).likelihoods js (length_likelihoods p l (count_layer js) (length-count_layer (2 ^ p) js (h ∙ double p))) (h ∙ double p) ∙ sym (double p)

pub length-built : (h : List Message) → length (tree_out_messages h) ≡ length h
unfolding tree_out_messages tree_messages
length-built [] = refl
length-built (f ∷ ms) =
    ap suc
    (simp (length-map, length-take)
    (omega (arith, (log_length-least (length ms)).0, length_likelihoods (log_length (length ms)) (normalize f) (first_layer ms) (length-first_layer ms))))

-- ---- a node sends a message to each of its neighbours

pub length-messages_in : (x : MessageNode) (ms : List Message) → x.first_incoming + length x.outgoing ≤ length ms → length (messages_in x ms) ≡ length x.outgoing
length-messages_in x ms h = omega (arith, length-take (length x.outgoing) (drop x.first_incoming ms), length-drop x.first_incoming ms)

pub length-out_messages_tree : (s : Settings) (ms : List Message) (x : MessageNode) (b : LastBuild)
    → x.first_incoming + length x.outgoing ≤ length ms → length (out_messages_tree s ms x b).messages ≡ length x.outgoing
unfolding out_messages_tree
length-out_messages_tree s ms x b h =
    either_arm (λ (o : Outgoing). length o.messages ≡ length x.outgoing) (needs_rebuild s.tolerance (messages_in x ms) b) _ _
    (λ _. length-built (messages_in x ms) ∙ length-messages_in x ms h) (λ _. length-map x.outgoing (λ (o : ℕ). message_at o ms))

pub length-out_messages : (s : Settings) (t : MessageGraph) (ms : List Message) (x : MessageNode) (b : LastBuild)
    → x.first_incoming + length x.outgoing ≤ length ms → length (out_messages s t ms x b).messages ≡ length x.outgoing
unfolding out_messages
length-out_messages s t ms x b h =
    either_arm (λ (o : Outgoing). length o.messages ≡ length x.outgoing) (is_tree x.kind) _ _
    (λ _. length-out_messages_tree s ms x b h) (λ _. length-map x.outgoing (out_message s t ms))

-- ---- what is written is the same over any set

set_messages-over : (d : ℕ) (os : List ℕ) (ms k l : List Message) → length os ≤ length ms → length k ≡ length l → d < length k
    → (mem eqb d os ≡ false → message_at d k ≡ message_at d l) → message_at d (set_messages os ms k) ≡ message_at d (set_messages os ms l)
unfolding set_messages
set_messages-over d [] ms k l e f h r = r refl
set_messages-over d (o ∷ os) [] k l e f h r = absurd (let z : ⊥ = omega arith in z)
set_messages-over d (o ∷ os) (m ∷ ms) k l e f h r =
    set_messages-over d os ms (set k o m) (set l o m) (omega arith) (length-set k o m ∙ f ∙ sym (length-set l o m)) (omega (arith, length-set k o m)) (go (eqb d o) refl r)
  where
    at : d ≡ o → message_at d (set k o m) ≡ message_at d (set l o m)
    at q =
        subst (λ (j : ℕ). message_at d (set k j m) ≡ message_at d (set l j m)) q (get_or-set_same k d m [] h ∙ sym (get_or-set_same l d m [] (omega arith)))

    go : (c : Bool) → eqb d o ≡ c → ((c || mem eqb d os) ≡ false → message_at d k ≡ message_at d l) → mem eqb d os ≡ false → message_at d (set k o m) ≡ message_at d (set l o m)
    go true q u n = at (eqb_sound d o q)
    go false q u n =
        let w : d ≡ o → ⊥ = λ j. true≢false (sym (subst (λ (x : ℕ). eqb d x ≡ true) j (eqb_same d)) ∙ q) in
        get_or-set_other k o d m [] w ∙ u n ∙ sym (get_or-set_other l o d m [] w)

-- all directions by which nodes of a list send
abbrev pub outs_of : List MessageNode → List ℕ
outs_of xs = concat (map (λ (x : MessageNode). x.outgoing) xs)

-- each node of a list holds what it should
abbrev pub NodesInside : List Message → List MessageNode → Type 0
NodesInside ms xs = All (λ x. x.first_incoming + length x.outgoing ≤ length ms) xs

module _ (s : Settings) (t : MessageGraph) (ms : List Message) where
  over : (d : ℕ) (xs : List MessageNode) (bs : List LastBuild) (k l : List Message) → NodesInside ms xs → length bs ≡ length xs → length k ≡ length l → d < length k
      → (mem eqb d (outs_of xs) ≡ false → message_at d k ≡ message_at d l) → message_at d (compute_update s t ms xs bs k).msg_in_new ≡ message_at d (compute_update s t ms xs bs l).msg_in_new
  unfolding compute_update
  over d [] bs k l a b f h r = r refl
  over d (x ∷ xs) [] k l a b f h r = absurd (let z : ⊥ = omega arith in z)
  over d (x ∷ xs) (c ∷ bs) k l a b f h r =
      let m = (out_messages s t ms x c).messages in
      over d xs bs (set_messages x.outgoing m k) (set_messages x.outgoing m l) a.1 (omega arith) (length-set_messages x.outgoing m k ∙ f ∙ sym (length-set_messages x.outgoing m l)) (omega (arith, length-set_messages x.outgoing m k))
      (λ n. set_messages-over d x.outgoing m k l (omega (arith, length-out_messages s t ms x c a.0)) f h (λ o. r (mem_append eqb d x.outgoing (outs_of xs) ∙ no_or (mem eqb d x.outgoing) (mem eqb d (outs_of xs)) o n)))

  builds_over : (xs : List MessageNode) (bs : List LastBuild) (k l : List Message) → (compute_update s t ms xs bs k).last_builds ≡ (compute_update s t ms xs bs l).last_builds
  unfolding compute_update
  builds_over [] bs k l = refl
  builds_over (x ∷ xs) [] k l = refl
  builds_over (x ∷ xs) (b ∷ bs) k l = ap (λ (r : List LastBuild). (out_messages s t ms x b).last_build ∷ r) (builds_over xs bs _ _)

  -- where the nodes send by every direction, what stood there before is of no account
  pub compute_update-over : (xs : List MessageNode) (bs : List LastBuild) (k l : List Message) → NodesInside ms xs → length bs ≡ length xs → length k ≡ length l
      → ((d : ℕ) → d < length k → mem eqb d (outs_of xs) ≡ true) → compute_update s t ms xs bs k ≡ compute_update s t ms xs bs l
  compute_update-over xs bs k l a b f h =
      let e : (compute_update s t ms xs bs k).msg_in_new ≡ (compute_update s t ms xs bs l).msg_in_new =
      ext_get_or [] (compute_update s t ms xs bs k).msg_in_new (compute_update s t ms xs bs l).msg_in_new (length-compute_update s t ms xs bs k ∙ f ∙ sym (length-compute_update s t ms xs bs l))
      (λ d i. let j : d < length k = omega (arith, length-compute_update s t ms xs bs k) in over d xs bs k l a b f j (λ n. absurd (true≢false (sym (h d j) ∙ n))))
      in
      λ i. record { msg_in_new = e i; last_builds = builds_over xs bs k l i }

-- ---- in a consistent message graph each direction is one by which a node sends

mem-at : (os : List ℕ) (i : ℕ) → i < length os → mem eqb (get_or os i 0) os ≡ true
mem-at [] i h = absurd (let z : ⊥ = omega arith in z)
mem-at (o ∷ os) zero h = or_left (eqb o o) (mem eqb o os) (eqb_same o)
mem-at (o ∷ os) (suc i) h = or_right (eqb (get_or os i 0) o) (mem eqb (get_or os i 0) os) (mem-at os i (omega arith))

mem_outs : (d : ℕ) (xs : List MessageNode) (n : ℕ) → n < length xs → mem eqb d (get_or xs n no_message_node).outgoing ≡ true → mem eqb d (outs_of xs) ≡ true
mem_outs d [] n h m = absurd (let z : ⊥ = omega arith in z)
mem_outs d (x ∷ xs) zero h m = mem_append eqb d x.outgoing (outs_of xs) ∙ or_left (mem eqb d x.outgoing) (mem eqb d (outs_of xs)) m
mem_outs d (x ∷ xs) (suc n) h m = mem_append eqb d x.outgoing (outs_of xs) ∙ or_right (mem eqb d x.outgoing) (mem eqb d (outs_of xs)) (mem_outs d xs n (omega arith) m)

module _ (g : Subgraph) (t : MessageGraph) (C : Consistent g t) where
  pub each_outgoing : (d : ℕ) → d < length t.directions → mem eqb d (outs_of t.nodes) ≡ true
  each_outgoing d l =
      let w : DirectionFits g t d (direction_at t d) = C.direction d l in
      let n : NodeFits g t (direction_at t d).start = C.node (direction_at t d).start w.start-there in
      mem_outs d t.nodes (direction_at t d).start (omega (arith, w.start-there, C.nodes))
      (subst (λ (k : ℕ). mem eqb k (node_at t (direction_at t d).start).outgoing ≡ true) w.is-out
      (mem-at (node_at t (direction_at t d).start).outgoing (direction_at t d).end_in_start (omega (arith, w.end_in_start_there, n.outgoing))))

  pub nodes-inside : (ms : List Message) → length ms ≡ length t.directions → NodesInside ms t.nodes
  nodes-inside ms h =
      All-numbered (λ x. x.first_incoming + length x.outgoing ≤ length ms) no_message_node t.nodes
      (λ n l. let f : NodeFits g t n = C.node n (omega (arith, C.nodes)) in omega (arith, f.outgoing, f.room))

  -- the sweep of two stores that differ in `fresh` only
  pub sweep_unread : (s : Settings) (x y : Store) → x.msg_in ≡ y.msg_in → x.msg_in_log ≡ y.msg_in_log → x.last_builds ≡ y.last_builds → StoreCounts t x → length y.msg_in_new ≡ length t.directions
      → sweep s t x ≡ sweep s t y
  unfolding sweep
  sweep_unread s x y f l b h k =
      let e : compute_update s t x.msg_in t.nodes x.last_builds x.msg_in_new ≡ compute_update s t y.msg_in t.nodes y.last_builds y.msg_in_new =
      compute_update-over s t x.msg_in t.nodes x.last_builds x.msg_in_new y.msg_in_new (nodes-inside x.msg_in h.msg_in) h.last_builds (h.msg_in_new ∙ sym k)
      (λ d i. each_outgoing d (omega (arith, h.msg_in_new)))
      ∙ ap (λ (m : List Message). compute_update s t m t.nodes x.last_builds y.msg_in_new) f ∙ ap (λ (c : List LastBuild). compute_update s t y.msg_in t.nodes c y.msg_in_new) b
      in
      λ i. record { msg_in = (e i).msg_in_new; msg_in_new = l i; msg_in_log = f i; last_builds = (e i).last_builds }

  -- so the opening may leave in it what it likes
  pub opening_unread : (s : Settings) (z : List Message) → length z ≡ length t.directions
      → sweep s t (record { msg_in = (opening s t).msg_in; msg_in_new = z; msg_in_log = (opening s t).msg_in_log; last_builds = (opening s t).last_builds }) ≡ sweep s t (opening s t)
  opening_unread s z h =
      sym (sweep_unread s (opening s t) (record { msg_in = (opening s t).msg_in; msg_in_new = z; msg_in_log = (opening s t).msg_in_log; last_builds = (opening s t).last_builds }) refl refl refl (opening-counts s t) h)
