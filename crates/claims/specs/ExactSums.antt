-- How far what a convolution tree sends is from the exact sum, stated of the definition. `theorems` proves it. Change request S-31: "each entry a built tree sends
-- in a run from an opening, to a grade or to its factor, is within 2^-10 of the exact fraction: the sum, over the presence patterns that have the entry's presence
-- or counts, of the products of the leaf and factor messages that entry was built from, the receiver's own left out, normalised. The fraction is written over
-- whole numbers."
use Rattle.std.specs.Prelude.{ℕ, zero, suc, ◌+◌, ◌*◌, ◌/◌, ◌^◌, ◌≤◌, ◌<◌, ◌≡◌, ◌⊎◌, Bool, true, false, List, [], ◌∷◌, ◌++◌, map, T, eqb, length, get_or, take, replicate, Float}
use Rattle.std.specs.Float.Ieee.Positive.{num, den}
use Rattle.definition.specs.Lists.{range, filter, patterns}
use Rattle.definition.specs.Vectors.{Message, entry}
use Rattle.definition.specs.Settings.{Settings}
use Rattle.definition.specs.FactorGraph.{Bale, Node, is_tree}
use Rattle.definition.specs.Directions.{MessageGraph, node_at, direction_at, message_at, messages_in, message_graph_of}
use Rattle.definition.specs.Messages.{tree_out_messages}
use Rattle.definition.specs.Sweeps.{initial_message}
use Rattle.definition.specs.Run.{State, Event, opened, swept, stepped, state_after}
use Rattle.definition.specs.Refusals.{Buffers}
use Rattle.claims.specs.Parts.{AcceptedPart, Binary32}

-- ---- whole numbers for floats

-- A float's size is the fraction `num` / `den`. In units of 2 ^ -149 it is taken as a whole number, rounded down; `Whole` says that nothing was lost by it.
abbrev pub units : Float → ℕ
units x = num x * 2 ^ 149 / den x

abbrev pub Whole : Float → Type 0
Whole x = units x * den x ≡ num x * 2 ^ 149

abbrev pub AllWhole : List Message → Type 0
AllWhole [] = Unit {0}
AllWhole ([] ∷ ms) = AllWhole ms
AllWhole ((x ∷ m) ∷ ms) = Whole x × AllWhole (m ∷ ms)

-- ---- sums and products over presence patterns

abbrev pub sum_over : {A : Type 0} → (A → ℕ) → List A → ℕ
sum_over f [] = 0
sum_over f (x ∷ xs) = f x + sum_over f xs

-- 1 for present, and how many of a pattern are present
abbrev pub digit : Bool → ℕ
digit false = 0
digit true = 1

abbrev pub present_count : List Bool → ℕ
present_count p = sum_over digit p

-- the presence of grade i
abbrev pub presence : ℕ → List Bool → ℕ
presence i p = digit (get_or p i false)

-- the product of the entries that a pattern takes of the grades' messages
abbrev pub product : List Bool → List Message → ℕ
product [] ms = 1
product (b ∷ p) [] = 1
product (b ∷ p) (m ∷ ms) = units (entry (digit b) m) * product p ms

-- a list without its entry i
abbrev pub without : {A : Type 0} → ℕ → List A → List A
without i [] = []
without zero (x ∷ l) = l
without (suc i) (x ∷ l) = x ∷ without i l

-- ---- the exact sums

-- To the factor, the entry for k present grades: over the patterns with that count, the products of the grades' messages. The factor's own is left out.
abbrev pub factor_sum : List Message → ℕ → ℕ
factor_sum ms k = sum_over (λ (p : List Bool). product p ms) (filter (λ (p : List Bool). eqb (present_count p) k) (patterns (length ms)))

-- To grade i, the entry for its presence t: over the patterns with that presence, the products of the other grades' messages and the factor's. Its own is left out.
abbrev pub grade_sum : Message → List Message → ℕ → ℕ → ℕ
grade_sum f ms i t =
    sum_over (λ (p : List Bool). product (without i p) (without i ms) * units (entry (present_count p) f)) (filter (λ (p : List Bool). eqb (presence i p) t) (patterns (length ms)))

-- ---- within 2 ^ -10

-- |x - n / d| ≤ 2 ^ -10, with both sides multiplied by 2 ^ 10, by d and by 2 ^ 149
pub record Near (x : Float) (n d : ℕ) : Type 0 where
  pub divisor : 0 < d
  pub over : 2 ^ 10 * (units x * d) ≤ 2 ^ 10 * (n * 2 ^ 149) + d * 2 ^ 149
  pub under : 2 ^ 10 * (n * 2 ^ 149) ≤ 2 ^ 10 * (units x * d) + d * 2 ^ 149

-- What is sent where a tree is built of its factor's message f and its grades' messages ms: to the factor an entry for each number of present grades, to each grade
-- an entry for absent and one for present, and nothing else; each is near its sum, divided by the sums of all entries of its message together. (All products of one
-- message's sums have equally many factors, so that the units cancel.)
pub record NearExact (f : Message) (ms sent : List Message) : Type 0 where
  pub whole : AllWhole (f ∷ ms) × AllWhole sent
  pub lengths : map length sent ≡ suc (length ms) ∷ replicate (length ms) 2
  pub factor : (k : ℕ) → k < suc (length ms) → Near (entry k (message_at 0 sent)) (factor_sum ms k) (sum_over (factor_sum ms) (range 0 (suc (length ms))))
  pub grade : (i t : ℕ) → i < length ms → t < 2 → Near (entry t (message_at (suc i) sent)) (grade_sum f ms i t) (sum_over (grade_sum f ms i) (range 0 2))

-- of what a tree holds: its factor's message, then those of at most 64 grades
abbrev pub NearExactOf : List Message → Type 0
NearExactOf [] = ⊥
NearExactOf (f ∷ ms) = length ms ≤ 64 → NearExact f ms (tree_out_messages (f ∷ ms))

-- So it is in every part of an accepted call whose floats are binary32 values, after every list of events that begins with the opening: a tree that is built of the
-- messages then in force sends what is near the exact fractions of those same messages, each entry as it is sent, that is after raising to c.
abbrev pub BuiltNearExact : Type 0
BuiltNearExact = (s : Settings) (f : Buffers) (b : Bale) (n : ℕ) (p : List Node) → AcceptedPart s f b n p → Binary32 s b → (es : List Event) (x : State) (v : ℕ) →
    T (is_tree (node_at (message_graph_of b p) v).kind) → NearExactOf (messages_in (node_at (message_graph_of b p) v) (state_after s (message_graph_of b p) (opened ∷ es) x).store.msg_in)

-- ---- what is in force

-- m is what the tree where direction d starts sends by it, built of the messages in force after the opening and the first of the events es, before the next of
-- them. (A tree that is not built anew sends such an older message again, and a step copies older ones back.)
pub record SentBefore (s : Settings) (t : MessageGraph) (es : List Event) (x : State) (d : ℕ) (m : Message) : Type 0 where
  pub done : List Event
  pub next : Event
  pub left : List Event
  pub beginning : done ++ (next ∷ left) ≡ es
  pub built : m ≡ message_at (direction_at t d).end_in_start (tree_out_messages (messages_in (node_at t (direction_at t d).start) (state_after s t (opened ∷ done) x).store.msg_in))

-- direction d starts at a tree
abbrev pub FromTree : MessageGraph → ℕ → Type 0
FromTree t d = (d < length t.directions) × T (is_tree (node_at t (direction_at t d).start).kind)

-- After every list of events that begins with the opening, a message in force out of a tree is what the opening put there or what the tree sent.
abbrev pub InForceBuilt : Type 0
InForceBuilt = (s : Settings) (f : Buffers) (b : Bale) (n : ℕ) (p : List Node) → AcceptedPart s f b n p → (es : List Event) (x : State) (d : ℕ) → FromTree (message_graph_of b p) d →
    let m = message_at d (state_after s (message_graph_of b p) (opened ∷ es) x).store.msg_in in
    (m ≡ initial_message (direction_at (message_graph_of b p) d)) ⊎ SentBefore s (message_graph_of b p) es x d m

-- In a run, whose opening is followed by five sweeps and then steps, it is what the tree sent, after every beginning that holds a sweep: k more events.
abbrev pub sweeps_and_steps : ℕ → List Event
sweeps_and_steps n = replicate 5 swept ++ replicate n stepped

abbrev pub InForceSent : Type 0
InForceSent = (s : Settings) (f : Buffers) (b : Bale) (n : ℕ) (p : List Node) → AcceptedPart s f b n p → (steps k : ℕ) (x : State) (d : ℕ) → FromTree (message_graph_of b p) d →
    let es = take (suc k) (sweeps_and_steps steps) in
    SentBefore s (message_graph_of b p) es x d (message_at d (state_after s (message_graph_of b p) (opened ∷ es) x).store.msg_in)
