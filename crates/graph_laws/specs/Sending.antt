-- The bounds, but for the floats: in a sound message graph, whatever each way to make a message keeps holds of every message in force after each beginning of the
-- list of events that holds the opening. `Good` is to be: every entry lies between c and 1.
use Rattle.std.specs.Prelude.{ℕ, zero, suc, ◌+◌, ◌-◌, ◌≤◌, ◌<◌, ◌≡◌, Bool, T, ltb, length, drop}
use Rattle.std.proofs.Common.{arith, le_of_suc-le-suc, not-suc-le-zero, sym, ap, ◌∙◌, subst, get_or-drop, get_or-take, length-take, length-drop}
use Rattle.std.proofs.Math.Bool.{true, false}
use mathlib.Core.List.{List, [], ◌∷◌, map}
use Rattle.std.proofs.Math.ListN.{replicate}
use Rattle.definition.specs.Vectors.{Message, binary}
use Rattle.definition.specs.Floats.{oneᶠ, halfᶠ}
use Rattle.definition.specs.Settings.{Settings}
use Rattle.definition.specs.ConvolutionTree.{tree_messages}
use Rattle.definition.specs.FactorGraph.{Kind, grade, factor, input, tree, is_grade, is_input, is_tree}
use Rattle.definition.specs.Directions.{Direction, MessageNode, MessageGraph, node_at, no_message_node, direction_at, message_at, incoming, messages_in}
use Rattle.definition.specs.Messages.{initial_belief, out_message_variable, out_message_factor, out_message_factor_to, out_message_by, out_message, tree_out_messages}
use Rattle.definition.specs.Run.{State, Event, opened, state_after}
use Rattle.definition.specs.Sweeps.{initial_message, opening_input, opening_variable, opening_grade}
use Rattle.graph_laws.specs.Lists.{All}
use Rattle.graph_laws.specs.Invariant.{Holding, Each, SendsHolding, BuiltHolding, Anything, Invariant, all-at, each_messages_in, in_force}
use Rattle.graph_laws.specs.Lengths.{Long}
use Rattle.graph_laws.specs.MessageLengths.{AllBinary, FactorFirst, MessageNodeSound, Sound, AsLong, Below, below_count, length_count, length_belief_grade, length_belief_input, long_each, covers, fits}

module _ (Good : Message → Type 0) where
  abbrev pub Goods : List Message → Type 0
  Goods [] = Unit {0}
  Goods (m ∷ ms) = Good m × Goods ms

  -- The facts about floats: each way to make a message keeps what is good. (Alpha and the other settings, and the evidence, are in their ranges.)
  pub record Keeps (s : Settings) : Type 0 where
    pub ones : (n : ℕ) → Good (replicate n oneᶠ)
    pub halves : Good (binary halfᶠ halfᶠ)
    pub prior : Good (initial_belief s grade)
    pub variable : (b : Message) (ms : List Message) (i : ℕ) → length ms ≤ 1024 → length b ≡ 2 → Good b → Long 2 ms → Goods ms → Good (out_message_variable b ms i)
    pub opening : (b : Message) (ms : List Message) → length ms ≤ 1024 → length b ≡ 2 → Good b → Long 2 ms → Goods ms → Goods (opening_variable b ms)
    pub factors : (d : ℕ) (m : Message) → d ≤ 129 → length m ≡ 2 → Good m → Good (out_message_factor s d m)
    pub trees : (f : Message) (ms : List Message) → 2 ≤ length ms → length ms ≤ 128 → length f ≡ suc (length ms) → Good f → Long 2 ms → Goods ms → Goods (tree_messages f ms)

  -- The facts about the message graph, beyond that it is sound.
  -- a grade or an input holds messages of two entries
  pub record Paired (t : MessageGraph) (x : MessageNode) : Type 0 where
    pub few : length x.outgoing ≤ 1024
    pub inside : x.first_incoming + length x.outgoing ≤ length t.directions
    pub twos : AllBinary t (incoming x)

  abbrev pub MessageNodeKept : MessageGraph → Settings → Kind → MessageNode → Type 0
  MessageNodeKept t s grade x = Paired t x
  MessageNodeKept t s (input e) x = Paired t x × Good (initial_belief s (input e))
  MessageNodeKept t s (factor d) x = Unit {0}
  MessageNodeKept t s (tree d) x = length x.outgoing ≤ 129

  -- a factor, where it sends to a grade or a tree, has that one first in its list, and holds its input's message next
  pub record FactorKept (t : MessageGraph) (d i : ℕ) (x : MessageNode) : Type 0 where
    pub few : d ≤ 129
    pub first_slot : i ≡ 0
    pub two-neighbours : 2 ≤ length x.outgoing
    pub inside : x.first_incoming + 1 < length t.directions
    pub input_long : (direction_at t (x.first_incoming + 1)).message_length ≡ 2

  abbrev pub DirectionKept : MessageGraph → Kind → Kind → ℕ → MessageNode → Type 0
  DirectionKept t grade k i x = Unit {0}
  DirectionKept t (input e) k i x = Unit {0}
  DirectionKept t (factor d) grade i x = FactorKept t d i x
  DirectionKept t (factor d) (factor e) i x = FactorKept t d i x
  DirectionKept t (factor d) (input e) i x = Unit {0}
  DirectionKept t (factor d) (tree e) i x = FactorKept t d i x
  DirectionKept t (tree d) k i x = Unit {0}

  pub record MessageGraphKept (s : Settings) (t : MessageGraph) : Type 0 where
    pub sound : Sound t
    pub nodes : All (λ x. MessageNodeKept t s x.kind x) t.nodes
    pub directions : (d : ℕ) → d < length t.directions → DirectionKept t (node_at t (direction_at t d).start).kind (node_at t (direction_at t d).end).kind (direction_at t d).end_in_start (node_at t (direction_at t d).start)

  -- as long as it should be, and good
  abbrev pub Fine : MessageGraph → ℕ → Message → Type 0
  Fine t d m = AsLong t d m × (d < length t.directions → Good m)

  module _ (s : Settings) (t : MessageGraph) (K : Keeps s) (N : MessageGraphKept s t) where
    abbrev Bound : ℕ
    Bound = length t.directions

    good_each : (is : List ℕ) (ms : List Message) → length ms ≤ length is → Below Bound is → Each (λ d m. d < Bound → Good m) is ms → Goods ms
    good_each is [] l b e = tt
    good_each [] (m ∷ ms) l b e = absurd (not-suc-le-zero l)
    good_each (i ∷ is) (m ∷ ms) l b e = (e.0 b.0, good_each is ms (le_of_suc-le-suc l) b.1 e.1)

    each_good : (os : List ℕ) (ms : List Message) → Goods ms → Each (λ d m. d < Bound → Good m) os ms
    each_good [] ms g = tt
    each_good (o ∷ os) [] g = tt
    each_good (o ∷ os) (m ∷ ms) g = ((λ _. g.0), each_good os ms g.1)

    each_both : (os : List ℕ) (ms : List Message) → Each (AsLong t) os ms → Each (λ d m. d < Bound → Good m) os ms → Each (Fine t) os ms
    each_both [] ms a b = tt
    each_both (o ∷ os) [] a b = tt
    each_both (o ∷ os) (m ∷ ms) a b = ((a.0, b.0), each_both os ms a.1 b.1)

    as-long_of : (ms : List Message) → Holding (Fine t) ms → Holding (AsLong t) ms
    as-long_of ms h d = (h d).0

    good_of : (ms : List Message) → Holding (Fine t) ms → Holding (λ d m. d < Bound → Good m) ms
    good_of ms h d = (h d).1

    short : (x : MessageNode) (ms : List Message) → length (messages_in x ms) ≤ length (incoming x)
    short x ms = simp (length-take, length_count) (omega arith)

    messages_in_few : (x : MessageNode) (ms : List Message) → Paired t x → length (messages_in x ms) ≤ 1024
    messages_in_few x ms p = simp length-take (omega (arith, p.few))

    messages_in-long : (x : MessageNode) (ms : List Message) → Paired t x → Holding (Fine t) ms → Long 2 (messages_in x ms)
    messages_in-long x ms p h = long_each t (incoming x) (messages_in x ms) (short x ms) (below_count Bound x.first_incoming (length x.outgoing) p.inside) p.twos (each_messages_in (AsLong t) x ms (as-long_of ms h))

    messages_in_good : (x : MessageNode) (ms : List Message) → x.first_incoming + length x.outgoing ≤ Bound → Holding (Fine t) ms → Goods (messages_in x ms)
    messages_in_good x ms p h = good_each (incoming x) (messages_in x ms) (short x ms) (below_count Bound x.first_incoming (length x.outgoing) p) (each_messages_in (λ d m. d < Bound → Good m) x ms (good_of ms h))

    -- ---- along one direction
    input_of : (d i : ℕ) (x : MessageNode) (ms : List Message) → FactorKept t d i x → message_at (1 - i) (messages_in x ms) ≡ message_at (x.first_incoming + 1) ms
    input_of d i x ms w =
        ap (λ (j : ℕ). message_at (1 - j) (messages_in x ms)) w.first_slot ∙ get_or-take (length x.outgoing) (drop x.first_incoming ms) 1 [] w.two-neighbours ∙ get_or-drop x.first_incoming ms 1 []

    good_factor : (d i : ℕ) (x : MessageNode) (ms : List Message) → FactorKept t d i x → Holding (Fine t) ms → Good (out_message_factor s d (message_at (1 - i) (messages_in x ms)))
    good_factor d i x ms w h =
        subst (λ (m : Message). Good (out_message_factor s d m)) (sym (input_of d i x ms w))
        (K.factors d (message_at (x.first_incoming + 1) ms) (omega (arith, w.few)) ((h (x.first_incoming + 1)).0 w.inside ∙ w.input_long) ((h (x.first_incoming + 1)).1 w.inside))

    good_out_message_by : (k j : Kind) (x : MessageNode) (i : ℕ) (ms : List Message) (o : Message) → MessageNodeKept t s k x → DirectionKept t k j i x → Holding (Fine t) ms → Good o → Good (out_message_by k s (messages_in x ms) i j o)
    unfolding out_message_by out_message_factor_to
    good_out_message_by grade j x i ms o a w h g = K.variable _ (messages_in x ms) i (messages_in_few x ms a) (length_belief_grade s grade tt) K.prior (messages_in-long x ms a h) (messages_in_good x ms a.inside h)
    good_out_message_by (input e) j x i ms o a w h g = K.variable _ (messages_in x ms) i (messages_in_few x ms a.0) (length_belief_input s (input e) tt) a.1 (messages_in-long x ms a.0 h) (messages_in_good x ms a.0.inside h)
    good_out_message_by (factor d) grade x i ms o a w h g = good_factor d i x ms w h
    good_out_message_by (factor d) (factor f) x i ms o a w h g = good_factor d i x ms w h
    good_out_message_by (factor d) (input e) x i ms o a w h g = g
    good_out_message_by (factor d) (tree f) x i ms o a w h g = good_factor d i x ms w h
    good_out_message_by (tree d) j x i ms o a w h g = g

    kept_at : (n : ℕ) → MessageNodeKept t s (node_at t n).kind (node_at t n)
    kept_at n = all-at (λ x. MessageNodeKept t s x.kind x) no_message_node t.nodes n (record { few = omega arith; inside = omega arith; twos = tt }) N.nodes

    fine_one : (ms : List Message) → Holding (Fine t) ms → (d : ℕ) → Fine t d (out_message s t ms d)
    unfolding out_message
    fine_one ms h d = (
      (fits s t N.sound).preserved.single ms (as-long_of ms h) d,
      (λ l. good_out_message_by (node_at t (direction_at t d).start).kind (node_at t (direction_at t d).end).kind (node_at t (direction_at t d).start) (direction_at t d).end_in_start ms (message_at d ms) (kept_at (direction_at t d).start) (N.directions d l) h ((h d).1 l)),
    )

    -- ---- the opening
    good_initial_message : (x : Direction) → Good (initial_message x)
    unfolding initial_message
    good_initial_message x = go (ltb 2 x.message_length)
      where
        go : (b : Bool) → Good (elim b [ true ↦ replicate x.message_length oneᶠ | false ↦ binary halfᶠ halfᶠ ])
        go true = K.ones x.message_length
        go false = K.halves

    good_initial_message-at : (ds : List Direction) (d : ℕ) → d < length ds → Good (message_at d (map initial_message ds))
    good_initial_message-at [] d h = absurd (not-suc-le-zero h)
    good_initial_message-at (x ∷ ds) zero h = good_initial_message x
    good_initial_message-at (x ∷ ds) (suc d) h = good_initial_message-at ds d (le_of_suc-le-suc h)

    goods_same : (m : Message) (os : List ℕ) → Good m → Goods (map (λ (o : ℕ). m) os)
    goods_same m [] g = tt
    goods_same m (o ∷ os) g = (g, goods_same m os g)

    good_inputs : (k : Kind) (x : MessageNode) → MessageNodeKept t s k x → T (is_input k) → Goods (map (λ (o : ℕ). initial_belief s k) x.outgoing)
    good_inputs grade x a h = absurd h
    good_inputs (factor d) x a h = absurd h
    good_inputs (input e) x a h = goods_same _ x.outgoing a.1
    good_inputs (tree d) x a h = absurd h

    good_grades : (k : Kind) (x : MessageNode) → MessageNodeKept t s k x → T (is_grade k) → (ms : List Message) → Holding (Fine t) ms → Goods (opening_variable (initial_belief s k) (messages_in x ms))
    good_grades grade x a h ms f = K.opening _ (messages_in x ms) (messages_in_few x ms a) (length_belief_grade s grade tt) K.prior (messages_in-long x ms a f) (messages_in_good x ms a.inside f)
    good_grades (factor d) x a h ms f = absurd h
    good_grades (input e) x a h ms f = absurd h
    good_grades (tree d) x a h ms f = absurd h

    all_inputs : (xs : List MessageNode) → All (λ x. MessageNodeKept t s x.kind x) xs → All (SendsHolding (AsLong t) is_input (opening_input s)) xs → All (SendsHolding (Fine t) is_input (opening_input s)) xs
    unfolding opening_input
    all_inputs [] a b = tt
    all_inputs (x ∷ xs) a b = ((λ h ms f. each_both x.outgoing _ (b.0 h ms (as-long_of ms f)) (each_good x.outgoing _ (good_inputs x.kind x a.0 h))), all_inputs xs a.1 b.1)

    all-grades : (xs : List MessageNode) → All (λ x. MessageNodeKept t s x.kind x) xs → All (SendsHolding (AsLong t) is_grade (opening_grade s)) xs → All (SendsHolding (Fine t) is_grade (opening_grade s)) xs
    unfolding opening_grade
    all-grades [] a b = tt
    all-grades (x ∷ xs) a b = ((λ h ms f. each_both x.outgoing _ (b.0 h ms (as-long_of ms f)) (each_good x.outgoing _ (good_grades x.kind x a.0 h ms f))), all-grades xs a.1 b.1)

    -- ---- a tree
    -- It holds a factor's message and those of 2 to 128 grades, all good.
    abbrev pub OfHeld : (List Message → Type 0) → Type 0
    OfHeld Q = (f : Message) (gs : List Message) → 2 ≤ length gs → length gs ≤ 128 → length f ≡ suc (length gs) → Good f → Long 2 gs → Goods gs → Q (f ∷ gs)

    module _ (Q : List Message → Type 0) (q : OfHeld Q) where
      held-built : (k : ℕ) (is : List ℕ) (hs : List Message) → length hs ≡ k → length is ≡ k → 3 ≤ k → k ≤ 129
          → Below Bound is → FactorFirst t k is → Each (AsLong t) is hs → Goods hs → Q hs
      held-built k is [] p r n m b l e g = absurd (let z : ⊥ = omega arith in z)
      held-built k [] (f ∷ gs) p r n m b l e g = absurd (let z : ⊥ = omega arith in z)
      held-built k (i ∷ is) (f ∷ gs) p r n m b l e g =
          q f gs (omega arith) (omega arith) (e.0 b.0 ∙ l.0 ∙ sym p) g.0 (long_each t is gs (omega arith) b.1 l.1 e.1) g.1

      held_by : (k : Kind) (x : MessageNode) → MessageNodeSound t k x → MessageNodeKept t s k x → T (is_tree k)
          → (ms : List Message) → Holding (Fine t) ms → Q (messages_in x ms)
      held_by grade x a c h ms f = absurd h
      held_by (factor d) x a c h ms f = absurd h
      held_by (input e) x a c h ms f = absurd h
      held_by (tree d) x a c h ms f =
          held-built (length x.outgoing) (incoming x) (messages_in x ms) (simp (length-take, length-drop) (omega (arith, covers t ms N.sound.wide (as-long_of ms f), a.inside)))
          (length_count x.first_incoming (length x.outgoing)) a.some-grades c (below_count Bound x.first_incoming (length x.outgoing) a.inside) a.incoming_factor_first
          (each_messages_in (AsLong t) x ms (as-long_of ms f)) (messages_in_good x ms a.inside f)

    good_built : OfHeld (λ hs. Goods (tree_out_messages hs))
    unfolding tree_out_messages
    good_built f gs n m l g b h = K.trees f gs n (omega arith) l g b h

    all-trees : (xs : List MessageNode) → All (λ x. MessageNodeSound t x.kind x) xs → All (λ x. MessageNodeKept t s x.kind x) xs
        → All (BuiltHolding (AsLong t) Anything) xs → All (BuiltHolding (Fine t) Anything) xs
    all-trees [] a c b = tt
    all-trees (x ∷ xs) a c b = (
      (λ h ms r f.
          each_both x.outgoing _ (b.0 h ms r (as-long_of ms f))
          (each_good x.outgoing _ (held_by (λ hs. Goods (tree_out_messages hs)) good_built x.kind x a.0 c.0 h ms f))),
      all-trees xs a.1 c.1 b.1,
    )

    -- ---- the whole
    abbrev lengths : Invariant s t (AsLong t) Anything
    lengths = fits s t N.sound

    fine : Invariant s t (Fine t) Anything
    fine =
        record {
          blanks = (λ d. (lengths.blanks d, (λ l. good_initial_message-at t.directions d l)));
          inputs = all_inputs t.nodes N.nodes lengths.inputs;
          grades = all-grades t.nodes N.nodes lengths.grades;
          preserved = record { trees = all-trees t.nodes N.sound.nodes N.nodes lengths.preserved.trees; single = fine_one };
        }

    fine_in_force : (es : List Event) (x : State) → Holding (Fine t) (state_after s t (opened ∷ es) x).store.msg_in
    fine_in_force es x = in_force fine es x (λ us e vs q. tt)

    -- After any list of events that begins with the opening, and from any state, every message in force is good.
    pub good_in_force : (es : List Event) (x : State) (d : ℕ) → d < length t.directions → Good (message_at d (state_after s t (opened ∷ es) x).store.msg_in)
    good_in_force es x d l = (fine_in_force es x d).1 l

    -- What a node holds then of two-entry messages is good too, and it is at most 1,024 of them.
    pub messages_in_in_force : (es : List Event) (x : State) (y : MessageNode) → Paired t y → (length (messages_in y (state_after s t (opened ∷ es) x).store.msg_in) ≤ 1024) × Goods (messages_in y (state_after s t (opened ∷ es) x).store.msg_in)
    messages_in_in_force es x y p = (messages_in_few y _ p, messages_in_good y _ p.inside (fine_in_force es x))

    -- And so is what a tree holds.
    pub tree_in_force : (Q : List Message → Type 0) → OfHeld Q → (es : List Event) (x : State) (v : ℕ) → T (is_tree (node_at t v).kind)
        → Q (messages_in (node_at t v) (state_after s t (opened ∷ es) x).store.msg_in)
    tree_in_force Q q es x v h =
        held_by Q q (node_at t v).kind (node_at t v) (all-at (λ y. MessageNodeSound t y.kind y) no_message_node t.nodes v tt N.sound.nodes)
        (kept_at v) h _ (fine_in_force es x)
