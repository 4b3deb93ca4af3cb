-- Demand 3 of a call, in terms of what it leaves in the buffers that were lent. The crate `theorems` proves it, and the contract of the code's call cites it.
use Rattle.std.specs.Prelude.{ℕ, zero, suc, ◌*◌, ◌≡◌, List, [], ◌∷◌, map, eqb, Float, length, get_or, take, drop}
use Rattle.std.proofs.Math.Option.{some}
use Rattle.std.proofs.Math.ListN.{get_elem?}
use Rattle.definition.specs.Floats.{zeroᶠ}
use Rattle.definition.specs.Lists.{filter}
use Rattle.definition.specs.Settings.{Settings}
use Rattle.definition.specs.FactorGraph.{Evidence, Pair, Bale, Node}
use Rattle.definition.specs.Components.{subgraph_of, components_of}
use Rattle.definition.specs.Directions.{message_graph_of}
use Rattle.definition.specs.Run.{State, Event, opened, state_after, Ending, limit, settled, empty}
use Rattle.definition.specs.Answer.{Belief, PartAnswer, answers_of, answer, answered_beliefs}
use Rattle.definition.specs.Refusals.{bale_of}
use Rattle.definition.specs.PartAlone.{grades_in, part_alone}
use Rattle.definition.specs.Call.{Lent, Outcome, answered, refused_at, Result, call}
use Rattle.claims.specs.Parts.{Binary32}
use Rattle.claims.specs.Claims.{Bounded, RunFollows, relabel_answer}

-- ---- what a caller reads in the buffers

-- an ending from its number and its residual
abbrev pub ending_of : ℕ → Float → Ending
ending_of zero r = limit r
ending_of (suc zero) r = settled r
ending_of (suc (suc n)) r = empty

-- so many beliefs: a number and two floats each
unfoldable pub beliefs_in : ℕ → List ℕ → List Float → List Belief
beliefs_in zero ns xs = []
beliefs_in (suc n) ns xs = record { grade = get_or ns 0 0; value = take 2 xs } ∷ beliefs_in n (drop 1 ns) (drop 2 xs)

-- So many endings: the part's number, the ending's, the steps, how many beliefs the part has; the residual; and the beliefs, behind those of the parts before.
unfoldable pub answers_in : ℕ → List ℕ → List Float → List ℕ → List Float → List PartAnswer
answers_in zero bn bf en ef = []
answers_in (suc k) bn bf en ef =
    let m = get_or en 3 0 in
    record { number = get_or en 0 0; ending = ending_of (get_or en 1 0) (get_or ef 0 zeroᶠ); steps = get_or en 2 0; beliefs = beliefs_in m bn bf }
    ∷ answers_in k (drop m bn) (drop (2 * m) bf) (drop 4 en) (drop 1 ef)

-- by the counts that a call returns; after a refusal there is nothing to read
abbrev pub read_from : Outcome → Lent → List PartAnswer
read_from (answered m k) l = answers_in k l.belief_numbers l.belief_floats l.ending_numbers l.ending_floats
read_from (refused_at n p) l = []

abbrev pub read_back : Result → List PartAnswer
read_back r = read_from r.outcome r.lent

-- what is read with part number n
abbrev pub read_of : ℕ → Result → List PartAnswer
read_of n r = filter (λ q. eqb q.number n) (read_back r)

-- ---- a bale as a call's arguments

abbrev pub evidence_floats : List Evidence → List Float
evidence_floats [] = []
evidence_floats (e ∷ es) = e.absent ∷ e.present ∷ evidence_floats es

abbrev pub pair_numbers : List Pair → List ℕ
pair_numbers [] = []
pair_numbers (q ∷ qs) = q.grade ∷ q.marker ∷ pair_numbers qs

abbrev pub call_of : Settings → Bale → Lent → Result
call_of s b l = call s b.grades (evidence_floats b.markers) (pair_numbers b.pairs) l

-- ---- the claim

-- Of part number n, with the nodes p, of bale b, where l was lent and r is the result.
pub record PartAnswered (s : Settings) (b : Bale) (l : Lent) (r : Result) (n : ℕ) (p : List Node) : Type 0 where
  -- bounded after every list of events that begins with the opening, whatever state stood before it
  pub bounded : (es : List Event) (x : State) → Bounded (subgraph_of b p) (message_graph_of b p) (state_after s (message_graph_of b p) (opened ∷ es) x).store.msg_in
  -- its run is its list of events, and what the run leaves is read with its number; nothing is, if it has at most 2 nodes
  pub runs : (x : State) → RunFollows s (message_graph_of b p) x
  pub left : read_of n r ≡ answers_of s b n p
  -- Entered by itself, with the same buffers lent, it is accepted, with as many beliefs and endings. What is read then, led back, is what is read here.
  pub alone : (call_of s (part_alone b p) l).outcome ≡ answered (length (answered_beliefs (read_of n r))) (length (read_of n r))
  pub alike : map (relabel_answer n (grades_in b p)) (read_back (call_of s (part_alone b p) l)) ≡ read_of n r

-- Of a call that returned m beliefs and k endings: so many are read, they are the answer's, and of each part the above holds.
pub record PartsAnswered (s : Settings) (b : Bale) (l : Lent) (r : Result) (m k : ℕ) : Type 0 where
  pub beliefs : length (answered_beliefs (read_back r)) ≡ m
  pub endings : length (read_back r) ≡ k
  pub whole : read_back r ≡ answer s b
  pub part : (n : ℕ) (p : List Node) → get_elem? (components_of b) n ≡ some p → PartAnswered s b l r n p

-- r is the result of a call with these arguments: if it is accepted
abbrev pub AnsweredByParts : Settings → ℕ → List Float → List ℕ → Lent → Result → Type 0
AnsweredByParts s g es ps l r = (m k : ℕ) → r.outcome ≡ answered m k → PartsAnswered s (bale_of g es ps) l r m k

-- So it is of every call whose floats are binary32 values.
abbrev pub CallByParts : Type 0
CallByParts = (s : Settings) (g : ℕ) (es : List Float) (ps : List ℕ) (l : Lent) → Binary32 s (bale_of g es ps) → AnsweredByParts s g es ps l (call s g es ps l)
