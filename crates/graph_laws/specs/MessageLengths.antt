-- In a sound message graph every message in force has, after each beginning of the list of events that holds the opening, as many entries as its direction says.
use Rattle.std.specs.Prelude.{ℕ, zero, suc, ◌+◌, ◌≤◌, ◌<◌, ◌≡◌, refl, Bool, true, false, not, T, leb, ltb, Float, length, get_or, replicate}
use native.Mathlib.Omega.{arith}
use Rattle.std.proofs.Common.{le_of_suc-le-suc, not-suc-le-zero, le_refl, ap, ◌∙◌, nltb→le, leb→le, length-take, length-drop}
use Rattle.std.proofs.Math.Path.{sym}
use mathlib.Core.List.{List, [], ◌∷◌, map}
use Rattle.std.proofs.Math.Dec.{nleb→lt}
use Rattle.std.proofs.lemmas.List.{length-replicate}
use Rattle.std.proofs.Math.ListN.{get_or-eq_default}
use Rattle.definition.specs.Lists.{range}
use Rattle.definition.specs.Vectors.{Message, binary, avoid_underflow_all, log_normalize}
use Rattle.definition.specs.Floats.{oneᶠ, halfᶠ}
use Rattle.definition.specs.Settings.{Settings}
use Rattle.definition.specs.ConvolutionTree.{tree_messages}
use Rattle.definition.specs.FactorGraph.{Kind, grade, factor, input, tree, is_grade, is_input, is_tree}
use Rattle.definition.specs.Directions.{Direction, MessageNode, MessageGraph, node_at, direction_at, no_direction, message_at, incoming, messages_in}
use Rattle.definition.specs.Messages.{initial_belief, out_message_factor_to, out_message_by, out_message, tree_out_messages}
use Rattle.definition.specs.Run.{State, Event, opened, state_after}
use Rattle.definition.specs.Sweeps.{initial_message, opening_input, log_total, leave_one_out, opening_variable, opening_grade}
use Rattle.graph_laws.specs.Lists.{All}
pub use Rattle.graph_laws.specs.Lists.{length_count}
use Rattle.graph_laws.specs.Invariant.{Holding, Each, SendsHolding, BuiltHolding, Anything, Invariant, each_messages_in, in_force}
use Rattle.graph_laws.specs.Lengths.{Long, length-out_message_factor, length-out_message_variable, tree_shape}

-- by the kinds of a direction's start and end, how long its messages are
abbrev pub Along : Kind → Kind → ℕ → Type 0
Along grade k l = l ≡ 2
Along (input e) k l = l ≡ 2
Along (factor d) grade l = l ≡ d
Along (factor d) (factor e) l = l ≡ d
Along (factor d) (input e) l = l ≡ 2
Along (factor d) (tree e) l = l ≡ d
Along (tree d) k l = Unit {0}

-- all directions of a list are two long
abbrev pub AllBinary : MessageGraph → List ℕ → Type 0
AllBinary t [] = Unit {0}
AllBinary t (o ∷ os) = ((direction_at t o).message_length ≡ 2) × AllBinary t os

abbrev pub FactorFirst : MessageGraph → ℕ → List ℕ → Type 0
FactorFirst t l [] = Unit {0}
FactorFirst t l (o ∷ os) = ((direction_at t o).message_length ≡ l) × AllBinary t os

-- A tree has two grades or more. The first message that it holds and the first that it sends have as many entries as it has neighbours, the others two.
pub record TreeSound (t : MessageGraph) (x : MessageNode) : Type 0 where
  pub some-grades : 3 ≤ length x.outgoing
  pub inside : x.first_incoming + length x.outgoing ≤ length t.directions
  pub incoming_factor_first : FactorFirst t (length x.outgoing) (incoming x)
  pub outgoing_factor_first : FactorFirst t (length x.outgoing) x.outgoing

abbrev pub MessageNodeSound : MessageGraph → Kind → MessageNode → Type 0
MessageNodeSound t grade x = AllBinary t x.outgoing
MessageNodeSound t (input e) x = AllBinary t x.outgoing
MessageNodeSound t (factor d) x = Unit {0}
MessageNodeSound t (tree d) x = TreeSound t x

pub record Sound (t : MessageGraph) : Type 0 where
  pub wide : (d : ℕ) → d < length t.directions → 2 ≤ (direction_at t d).message_length
  pub along : (d : ℕ) → d < length t.directions → Along (node_at t (direction_at t d).start).kind (node_at t (direction_at t d).end).kind (direction_at t d).message_length
  pub nodes : All (λ x. MessageNodeSound t x.kind x) t.nodes

-- message m is as long as direction d says
abbrev pub AsLong : MessageGraph → ℕ → Message → Type 0
AsLong t d m = d < length t.directions → length m ≡ (direction_at t d).message_length

-- ---- the blanks

initial_message-at : (ds : List Direction) (d : ℕ) → d < length ds → message_at d (map initial_message ds) ≡ initial_message (get_or ds d no_direction)
initial_message-at [] d h = absurd (not-suc-le-zero h)
initial_message-at (x ∷ ds) zero h = refl
initial_message-at (x ∷ ds) (suc d) h = initial_message-at ds d (le_of_suc-le-suc h)

initial_message-long : (x : Direction) → 2 ≤ x.message_length → length (initial_message x) ≡ x.message_length
unfolding initial_message
initial_message-long x h = go (ltb 2 x.message_length) (λ e. nltb→le 2 x.message_length e)
  where
    go : (b : Bool) → (T (not b) → x.message_length ≤ 2) → length {A = Float} (elim b as (λ c. Message) [ true ↦ replicate x.message_length oneᶠ | false ↦ binary halfᶠ halfᶠ ]) ≡ x.message_length
    go true f = length-replicate x.message_length oneᶠ
    go false f = omega (arith, f tt)

-- ---- what is sent along one direction

pub length_belief_grade : (s : Settings) (k : Kind) → T (is_grade k) → length (initial_belief s k) ≡ 2
unfolding initial_belief
length_belief_grade s grade h = refl
length_belief_grade s (factor d) h = absurd h
length_belief_grade s (input e) h = absurd h
length_belief_grade s (tree d) h = absurd h

pub length_belief_input : (s : Settings) (k : Kind) → T (is_input k) → length (initial_belief s k) ≡ 2
unfolding initial_belief
length_belief_input s grade h = absurd h
length_belief_input s (factor d) h = absurd h
length_belief_input s (input e) h = refl
length_belief_input s (tree d) h = absurd h

pub length-out_message_by : (s : Settings) (k j : Kind) (hs : List Message) (i l : ℕ) (o : Message) → Along k j l → length o ≡ l → length (out_message_by k s hs i j o) ≡ l
unfolding out_message_by out_message_factor_to
length-out_message_by s grade j hs i l o a e = length-out_message_variable _ hs i (length_belief_grade s grade tt) ∙ sym a
length-out_message_by s (input x) j hs i l o a e = length-out_message_variable _ hs i (length_belief_input s (input x) tt) ∙ sym a
length-out_message_by s (factor d) grade hs i l o a e = length-out_message_factor s d _ ∙ sym a
length-out_message_by s (factor d) (factor f) hs i l o a e = length-out_message_factor s d _ ∙ sym a
length-out_message_by s (factor d) (input x) hs i l o a e = e
length-out_message_by s (factor d) (tree f) hs i l o a e = length-out_message_factor s d _ ∙ sym a
length-out_message_by s (tree d) j hs i l o a e = e

length-leave_one_out : (p q : Float) (m : Message) → length (leave_one_out p q m) ≡ 2
unfolding leave_one_out log_normalize avoid_underflow_all
length-leave_one_out p q m = refl

-- ---- what a tree sends

abbrev pub Below : ℕ → List ℕ → Type 0
Below n [] = Unit {0}
Below n (i ∷ is) = (i < n) × Below n is

pub below_count : (n i k : ℕ) → i + k ≤ n → Below n (range i k)
below_count n i zero h = tt
below_count n i (suc k) h = (omega arith, below_count n (suc i) k (omega arith))

module _ (t : MessageGraph) where
  each_long : (os : List ℕ) (ms : List Message) → AllBinary t os → Long 2 ms → Each (AsLong t) os ms
  each_long [] ms a b = tt
  each_long (o ∷ os) [] a b = tt
  each_long (o ∷ os) (m ∷ ms) a b = ((λ _. b.0 ∙ sym a.0), each_long os ms a.1 b.1)

  pub long_each : (is : List ℕ) (ms : List Message) → length ms ≤ length is → Below (length t.directions) is → AllBinary t is → Each (AsLong t) is ms → Long 2 ms
  long_each is [] l b a e = tt
  long_each [] (m ∷ ms) l b a e = absurd (not-suc-le-zero l)
  long_each (i ∷ is) (m ∷ ms) l b a e = (e.0 b.0 ∙ a.0, long_each is ms (le_of_suc-le-suc l) b.1 a.1 e.1)

  pub each_built : (is os : List ℕ) (hs : List Message) → length hs ≡ length os → length is ≡ length os → 3 ≤ length os →
      Below (length t.directions) is → FactorFirst t (length os) is → FactorFirst t (length os) os → Each (AsLong t) is hs → Each (AsLong t) os (tree_out_messages hs)
  unfolding tree_out_messages tree_messages
  each_built is [] hs p q n b i o e = tt
  each_built is (x ∷ os) [] p q n b i o e = tt
  each_built [] (x ∷ os) (f ∷ gs) p q n b i o e = absurd (let z : ⊥ = omega arith in z)
  each_built (j ∷ is) (x ∷ os) (f ∷ gs) p q n b i o e =
      let r = tree_shape f gs (omega arith) (long_each is gs (omega arith) b.1 i.1 e.1) in
      ((λ _. r.0 ∙ p ∙ sym o.0), each_long os _ o.1 r.1)

  -- a set that fits has a message for each direction
  pub covers : (ms : List Message) → ((d : ℕ) → d < length t.directions → 2 ≤ (direction_at t d).message_length) → Holding (AsLong t) ms → length t.directions ≤ length ms
  covers ms w h = go (leb (length t.directions) (length ms)) (λ e. leb→le _ _ e) (λ e. nleb→lt _ _ e)
    where
      go : (b : Bool) → (T b → length t.directions ≤ length ms) → (T (not b) → length ms < length t.directions) → length t.directions ≤ length ms
      go true f k = f tt
      go false f k =
          let l = k tt in
          let z : length (message_at (length ms) ms) ≡ 0 = ap length (get_or-eq_default ms [] (le_refl (length ms))) in
          absurd (let y : ⊥ = omega (arith, z, h (length ms) l, w (length ms) l) in y)

-- ---- the five facts

module _ (s : Settings) (t : MessageGraph) (S : Sound t) where
  fits_one : (ms : List Message) → Holding (AsLong t) ms → (d : ℕ) → AsLong t d (out_message s t ms d)
  unfolding out_message
  fits_one ms h d l = length-out_message_by s _ _ _ _ _ _ (S.along d l) (h d l)

  long_same : (m : Message) (hs : List ℕ) → length m ≡ 2 → Long 2 (map (λ (o : ℕ). m) hs)
  long_same m [] e = tt
  long_same m (h ∷ hs) e = (e, long_same m hs e)

  sends_input : (k : Kind) (x : MessageNode) → MessageNodeSound t k x → T (is_input k) → (ms : List Message) → Each (AsLong t) x.outgoing (map (λ (o : ℕ). initial_belief s k) x.outgoing)
  sends_input grade x a h ms = absurd h
  sends_input (factor d) x a h ms = absurd h
  sends_input (input e) x a h ms = each_long t x.outgoing _ a (long_same (initial_belief s (input e)) x.outgoing (length_belief_input s (input e) tt))
  sends_input (tree d) x a h ms = absurd h

  all_inputs : (xs : List MessageNode) → All (λ x. MessageNodeSound t x.kind x) xs → All (SendsHolding (AsLong t) is_input (opening_input s)) xs
  unfolding opening_input
  all_inputs [] a = tt
  all_inputs (x ∷ xs) a = ((λ h ms f. sends_input x.kind x a.0 h ms), all_inputs xs a.1)

  long_open : (b : Message) (hs : List Message) → length b ≡ 2 → Long 2 (opening_variable b hs)
  unfolding opening_variable
  long_open b hs e = go (leb (length hs) 1)
    where
      sames : (l : List Message) → Long 2 (map (λ (m : Message). b) l)
      sames [] = tt
      sames (m ∷ l) = (e, sames l)

      outs : (p q : Float) (l : List Message) → Long 2 (map (leave_one_out p q) l)
      outs p q [] = tt
      outs p q (m ∷ l) = (length-leave_one_out p q m, outs p q l)

      go : (c : Bool) → Long 2 (elim c as (λ x. List Message) [ true ↦ map (λ (m : Message). b) hs | false ↦ map (leave_one_out (log_total 0 b hs) (log_total 1 b hs)) hs ])
      go true = sames hs
      go false = outs _ _ hs

  sends-grade : (k : Kind) (x : MessageNode) → MessageNodeSound t k x → T (is_grade k) → (ms : List Message) → Each (AsLong t) x.outgoing (opening_variable (initial_belief s k) (messages_in x ms))
  sends-grade grade x a h ms = each_long t x.outgoing _ a (long_open (initial_belief s grade) (messages_in x ms) (length_belief_grade s grade tt))
  sends-grade (factor d) x a h ms = absurd h
  sends-grade (input e) x a h ms = absurd h
  sends-grade (tree d) x a h ms = absurd h

  all-grades : (xs : List MessageNode) → All (λ x. MessageNodeSound t x.kind x) xs → All (SendsHolding (AsLong t) is_grade (opening_grade s)) xs
  unfolding opening_grade
  all-grades [] a = tt
  all-grades (x ∷ xs) a = ((λ h ms f. sends-grade x.kind x a.0 h ms), all-grades xs a.1)

  sends-tree : (k : Kind) (x : MessageNode) → MessageNodeSound t k x → T (is_tree k) → (ms : List Message) → Holding (AsLong t) ms → Each (AsLong t) x.outgoing (tree_out_messages (messages_in x ms))
  sends-tree grade x a h ms f = absurd h
  sends-tree (factor d) x a h ms f = absurd h
  sends-tree (input e) x a h ms f = absurd h
  sends-tree (tree d) x a h ms f =
      each_built t (incoming x) x.outgoing (messages_in x ms) (simp (length-take, length-drop) (omega (arith, covers t ms S.wide f, a.inside))) (length_count x.first_incoming (length x.outgoing)) a.some-grades
      (below_count _ x.first_incoming (length x.outgoing) a.inside) a.incoming_factor_first a.outgoing_factor_first (each_messages_in (AsLong t) x ms f)

  all-trees : (xs : List MessageNode) → All (λ x. MessageNodeSound t x.kind x) xs → All (BuiltHolding (AsLong t) Anything) xs
  all-trees [] a = tt
  all-trees (x ∷ xs) a = ((λ h ms _ f. sends-tree x.kind x a.0 h ms f), all-trees xs a.1)

  fits-initial_message : Holding (AsLong t) (map initial_message t.directions)
  fits-initial_message d l = ap length (initial_message-at t.directions d l) ∙ initial_message-long (direction_at t d) (S.wide d l)

  pub fits : Invariant s t (AsLong t) Anything
  fits =
      record {
        blanks = fits-initial_message;
        inputs = all_inputs t.nodes S.nodes;
        grades = all-grades t.nodes S.nodes;
        preserved = record { trees = all-trees t.nodes S.nodes; single = fits_one };
      }

  -- the message of each direction is as long as the direction says
  pub as_long : (es : List Event) (x : State) (d : ℕ) → d < length t.directions → length (message_at d (state_after s t (opened ∷ es) x).store.msg_in) ≡ (direction_at t d).message_length
  as_long es x d l = in_force fits es x (λ us e vs q. tt) d l
