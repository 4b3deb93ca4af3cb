-- A message in force out of a tree is what the opening put there or what the tree sent, built of the messages in force before one of the events. In a run it
-- is what the tree sent, from the first sweep on: all trees are built then, and a sweep leaves nothing of what stood where it writes.
use Rattle.std.specs.Prelude.{ℕ, zero, suc, ◌<◌, ◌≡◌, refl, ◌⊎◌, Bool, T, length, take, replicate}
use Rattle.std.proofs.Common.{arith, ap, ◌∙◌, inl, inr, T_not}
use Rattle.std.proofs.Math.Path.{subst}
use Rattle.std.proofs.Math.Option.{none}
use mathlib.Core.List.{List, [], ◌∷◌, ◌++◌, map}
use Rattle.std.proofs.lemmas.List.{length-map}
use Rattle.definition.specs.Vectors.{Message}
use Rattle.definition.specs.Settings.{Settings}
use Rattle.definition.specs.FactorGraph.{Kind, grade, factor, input, tree, is_grade, is_input, is_tree}
use Rattle.definition.specs.Components.{Subgraph, subgraph_of}
use Rattle.definition.specs.Directions.{Direction, MessageNode, no_message_node, MessageGraph, no_direction, node_at, direction_at, message_at, messages_in, message_graph_of}
use Rattle.definition.specs.Messages.{out_message_by, out_message, needs_rebuild, tree_out_messages, LastBuild, Outgoing, out_messages_tree, out_messages}
use Rattle.definition.specs.Sweeps.{Store, initial_message, opening_input, opening_grade, opening, sweep}
use Rattle.definition.specs.Run.{State, begin_loop, Event, opened, swept, stepped, apply_event, state_after}
use Rattle.claims.specs.ExactSums.{SentBefore, FromTree, InForceBuilt, sweeps_and_steps, InForceSent}
use Rattle.graph_laws.specs.Bools.{either_arm}
use Rattle.graph_laws.specs.Lists.{All, All-every, All-map-into, All-take, All-replicate}
use Rattle.graph_laws.specs.Places.{All-numbered}
use Rattle.graph_laws.specs.Invariant.{Family, Holding, Each, each_numbered, SendsHolding, BuiltHolding, Preserved, Invariant, Stored, fit_compute_update, fit_sweep, Reopens, stored_after, in_force}
use Rattle.graph_laws.specs.Consistency.{PositionFits, Consistent, outgoing_at, consistent}
use Rattle.graph_laws.specs.DirectionNumbers.{get_d_mapped}
use Rattle.graph_laws.specs.MessageCounts.{StoreCounts, sweep-counts, counted}
use Rattle.graph_laws.specs.Unread.{sweep_unread}

-- what the tree where direction w starts sends by it, built of the messages ms
abbrev sent_by : MessageGraph → List Message → Direction → Message
sent_by t ms w = message_at w.end_in_start (tree_out_messages (messages_in (node_at t w.start) ms))

-- a tree is no input and no grade
tree_apart : (k : Kind) → T (is_tree k) → (T (is_input k) → ⊥) × (T (is_grade k) → ⊥)
tree_apart grade h = absurd h
tree_apart (factor d) h = absurd h
tree_apart (input e) h = absurd h
tree_apart (tree d) h = ((λ k. k), (λ k. k))

-- where one message is computed by itself, a tree's stays
tree_keeps : (s : Settings) (k j : Kind) (hs : List Message) (i : ℕ) (o : Message) → T (is_tree k) → o ≡ out_message_by k s hs i j o
unfolding out_message_by
tree_keeps s grade j hs i o h = absurd h
tree_keeps s (factor d) j hs i o h = absurd h
tree_keeps s (input e) j hs i o h = absurd h
tree_keeps s (tree d) j hs i o h = refl

module _ (s : Settings) (g : Subgraph) (t : MessageGraph) (C : Consistent g t) where
  -- Out is to hold of each message out of a tree.
  module _ (Out : Family) where
    abbrev P : Family
    P d m = FromTree t d → Out d m

    -- so is it of all that trees send, built of ms
    abbrev Sent : List Message → Type 0
    Sent ms = (d : ℕ) → P d (sent_by t ms (direction_at t d))

    -- ---- node n
    module _ (n : ℕ) (l : n < length t.nodes) where
      abbrev node : MessageNode
      node = node_at t n

      there : (i : ℕ) → i < length node.outgoing → PositionFits g t n i
      there i h = let k : n < length g.nodes = omega (arith, C.nodes) in C.position n i k (omega (arith, (C.node n k).outgoing))

      no_tree : (T (is_tree node.kind) → ⊥) → (hs : List Message) → Each P node.outgoing hs
      no_tree k hs = each_numbered P node.outgoing hs (λ i h f. absurd (k (rw (there i h).out-start at f.1)))

      built : (ms : List Message) → Sent ms → Each P node.outgoing (tree_out_messages (messages_in node ms))
      built ms r = each_numbered P node.outgoing _ (λ i h f. let w = there i h in rw (w.out-start, w.out_end_in_start) at (r (outgoing_at t n i) f))

      -- where no tree was built before, all are
      sends-first : (ms : List Message) → Sent ms → (b : LastBuild) → b ≡ none → Each P node.outgoing (out_messages s t ms node b).messages
      unfolding out_messages out_messages_tree needs_rebuild
      sends-first ms r b q =
          rw q
          (either_arm (λ (o : Outgoing). Each P node.outgoing o.messages) (is_tree node.kind) _ _
          (λ _. built ms r) (λ k. no_tree (T_not (is_tree node.kind) k) _))

    mapped : (f : Direction → Message) → ((d : ℕ) → P d (f (direction_at t d))) → Holding P (map f t.directions)
    mapped f h d q = rw (get_d_mapped f t.directions d no_direction [] q.0) (h d q)

    -- ---- what sweeps and steps need, and the opening
    single : (ms : List Message) → Holding P ms → (d : ℕ) → P d (out_message s t ms d)
    unfolding out_message
    single ms h d f = subst (Out d) (tree_keeps s (node_at t (direction_at t d).start).kind _ _ _ (message_at d ms) f.1) (h d f)

    kept : Preserved s t P Sent
    kept = record { trees = All-numbered (BuiltHolding P Sent) no_message_node t.nodes (λ n l k ms r h. built n l ms r); single = single }

    others : (p : Kind → Bool) (f : MessageNode → List Message → List Message) → ((k : Kind) → T (p k) → T (is_tree k) → ⊥) → All (SendsHolding P p f) t.nodes
    others p f q = All-numbered (SendsHolding P p f) no_message_node t.nodes (λ n l k ms h. no_tree n l (q (node_at t n).kind k) (f (node_at t n) ms))

    from-opening : ((d : ℕ) → P d (initial_message (direction_at t d))) → Invariant s t P Sent
    from-opening b =
        record {
          blanks = mapped initial_message b;
          inputs = others is_input (opening_input s) (λ k h q. (tree_apart k q).0 h);
          grades = others is_grade (opening_grade s) (λ k h q. (tree_apart k q).1 h);
          preserved = kept;
        }

    -- ---- the sweeps
    module _ (z : Store) (N : StoreCounts t z) (r : Sent z.msg_in) where
      -- as if what trees send stood where the sweep writes
      abbrev over : Store
      over = record { msg_in = z.msg_in; msg_in_new = map (sent_by t z.msg_in) t.directions; msg_in_log = z.msg_in_log; last_builds = z.last_builds }

      swept-over : (Holding P over.msg_in_new → Holding P (sweep s t over).msg_in) → Holding P (sweep s t z).msg_in
      swept-over h = rw (sweep_unread g t C s z over refl refl refl N (length-map t.directions (sent_by t z.msg_in))) (h (mapped (sent_by t z.msg_in) r))

      -- where nothing was built before
      first-sweep : All (λ (b : LastBuild). b ≡ none) z.last_builds → Holding P (sweep s t z).msg_in
      unfolding sweep
      first-sweep e =
          swept-over
          (fit_compute_update s t P (λ b. b ≡ none) z.msg_in t.nodes z.last_builds over.msg_in_new
          (All-numbered _ no_message_node t.nodes (λ n l. sends-first n l z.msg_in r)) e)

      -- where what is in force fits
      next-sweep : Holding P z.msg_in → Holding P (sweep s t z).msg_in
      next-sweep h = swept-over (fit_sweep kept over r h)

    -- Two sweeps more, and all three sets fit.
    stored_sweeps : (z : Store) → StoreCounts t z → Sent z.msg_in → Sent (sweep s t z).msg_in → Holding P z.msg_in → Stored P (sweep s t (sweep s t z))
    stored_sweeps z N r q h =
        let k = next-sweep z N r h in
        record { msg_in = next-sweep (sweep s t z) (sweep-counts s t z N) q k; msg_in_new = unfold sweep in h; msg_in_log = unfold sweep in k }

  -- ---- the events
  module _ (es : List Event) (x : State) where
    abbrev after : List Event → Store
    after us = (state_after s t (opened ∷ us) x).store

    abbrev Out : Family
    Out = SentBefore s t es x

    sent : (us : List Event) (e : Event) (vs : List Event) → us ++ (e ∷ vs) ≡ es → Sent Out (after us).msg_in
    sent us e vs q d f = record { done = us; next = e; left = vs; beginning = q; built = refl }

    abbrev OpenedOrSent : Family
    OpenedOrSent d m = (m ≡ initial_message (direction_at t d)) ⊎ Out d m

    opened_or_sent : Holding (P OpenedOrSent) (after es).msg_in
    opened_or_sent = in_force (from-opening OpenedOrSent (λ d f. inl refl)) es x (λ us e vs q d f. inr (sent us e vs q d f))

    one-sweep : (vs : List Event) → swept ∷ vs ≡ es → Holding (P Out) (after (swept ∷ [])).msg_in
    unfolding state_after apply_event begin_loop opening
    one-sweep vs q =
        first-sweep Out (after []) (counted s t [] x).store (sent [] swept vs q)
        (All-map-into (λ b. b ≡ none) (λ y. none) t.nodes (All-every (λ y. none ≡ none) (λ y. refl) t.nodes))

    two_sweeps : (vs : List Event) → swept ∷ swept ∷ vs ≡ es → Holding (P Out) (after (swept ∷ swept ∷ [])).msg_in
    unfolding state_after apply_event begin_loop
    two_sweeps vs q = next-sweep Out (after (swept ∷ [])) (counted s t (swept ∷ []) x).store (sent (swept ∷ []) swept vs q) (one-sweep (swept ∷ vs) q)

    three_sweeps : (vs : List Event) → swept ∷ swept ∷ swept ∷ vs ≡ es → All (Reopens (kept Out)) vs
        → Holding (P Out) (after (swept ∷ swept ∷ swept ∷ vs)).msg_in
    unfolding state_after apply_event begin_loop
    three_sweeps vs q o =
        (stored_after (kept Out) vs (state_after s t (opened ∷ swept ∷ swept ∷ swept ∷ []) x) o
        (λ us e ws p. sent (swept ∷ swept ∷ swept ∷ us) e ws (ap (λ (l : List Event). swept ∷ swept ∷ swept ∷ l) p ∙ q))
        (stored_sweeps Out (after (swept ∷ [])) (counted s t (swept ∷ []) x).store (sent (swept ∷ []) swept (swept ∷ vs) q)
        (sent (swept ∷ swept ∷ []) swept vs q) (one-sweep (swept ∷ swept ∷ vs) q))
        ).msg_in

  in_run : (steps k : ℕ) (x : State) → let es = take (suc k) (sweeps_and_steps steps) in
      Holding (P (SentBefore s t es x)) (state_after s t (opened ∷ es) x).store.msg_in
  in_run steps zero x = one-sweep (swept ∷ []) x [] refl
  in_run steps (suc zero) x = two_sweeps (swept ∷ swept ∷ []) x [] refl
  in_run steps (suc (suc k)) x =
      let vs = take k (swept ∷ swept ∷ replicate steps stepped) in
      three_sweeps (swept ∷ swept ∷ swept ∷ vs) x vs refl (All-take _ k (swept ∷ swept ∷ replicate steps stepped) (tt, (tt, All-replicate _ steps stepped tt)))

pub in_force_built : InForceBuilt
in_force_built s f b n p h es x = opened_or_sent s (subgraph_of b p) (message_graph_of b p) (consistent s f b n p h) es x

pub in_force_sent : InForceSent
in_force_sent s f b n p h = in_run s (subgraph_of b p) (message_graph_of b p) (consistent s f b n p h)
