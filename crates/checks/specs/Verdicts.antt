-- What the functions' arguments and answers are in the definition's terms.
use Rattle.std.specs.Prelude.{ℕ, ◌≡◌, Option, None, Some, Result, Ok, Err, IsErrAnd, [], map}
use Rattle.std.proofs.Common.{sym}
use Rattle.std.proofs.Math.Option as definition_option
use Rattle.std.proofs.Math.Option.{none, some}
use Rattle.std.proofs.lemmas.Result.{err_from_is_err_and}
use Rattle.definition.specs.FactorGraph.{Bale, marker_numbers}
use Rattle.definition.specs.Refusals as definition
use Rattle.definition.specs.Refusals.{bad_evidence, unknown_pair, lowest_place, repeated_pairs, too_many_grades, accepted, refused, or_refused}
use Rattle.checks.specs.declared.Buffers.{Buffers}
use Rattle.checks.specs.declared.refusal.Check.{Check}
use Rattle.checks.specs.declared.refusal.Check.TheVariants.{TooMany, BuffersTooSmall, Probability, Stopping, Evidence, UnknownPair, RepeatedPair, CrowdedMarker, BadWord, OutOfOrder, ZeroBase, MalformedLine, MissingBale, ZeroSeed, TooManyTrials, TooManyMarkers}
use Rattle.checks.specs.declared.refusal.Refusal.{Refusal}

abbrev pub place_of : Option ℕ → definition_option.Option ℕ
place_of None = none
place_of (Some p) = some p

-- a check's number in documents 01 and 02
abbrev pub number_of : Check → ℕ
number_of TooMany = 1
number_of BuffersTooSmall = 2
number_of Probability = 3
number_of Stopping = 4
number_of Evidence = 5
number_of UnknownPair = 6
number_of RepeatedPair = 7
number_of CrowdedMarker = 8
number_of BadWord = 9
number_of OutOfOrder = 10
number_of ZeroBase = 11
number_of MalformedLine = 14
number_of MissingBale = 15
number_of ZeroSeed = 16
number_of TooManyTrials = 17
number_of TooManyMarkers = 18

abbrev pub verdict_of : Result Unit Refusal → definition.Verdict
verdict_of (Ok u) = accepted
verdict_of (Err r) = refused (number_of r.check) r.place

abbrev pub buffers_of : Buffers → definition.Buffers
buffers_of f =
    record {
      work_floats = f.work_floats;
      work_numbers = f.work_numbers;
      belief_numbers = f.belief_numbers;
      belief_floats = f.belief_floats;
      ending_numbers = f.ending_numbers;
      ending_floats = f.ending_floats;
    }

-- what the checks 5 to 8 say, which are those of the graph
unfoldable pub graph_verdict : Bale → definition.Verdict
graph_verdict b =
    or_refused 5 (lowest_place (map bad_evidence b.markers))
    (or_refused 6 (lowest_place (map (unknown_pair b) b.pairs))
    (or_refused 7 (lowest_place (repeated_pairs [] b.pairs)) (or_refused 8 (lowest_place (map (too_many_grades b) (marker_numbers b))) accepted)))

-- a check that finds nothing leaves the verdict to the later ones, and one that finds a place decides it
pub skip : (n : ℕ) (o : definition_option.Option ℕ) (v : definition.Verdict) → o ≡ none → or_refused n o v ≡ v
unfolding or_refused
skip n o v e = rw e

pub stop : (n : ℕ) (o : definition_option.Option ℕ) (v : definition.Verdict) (p : ℕ) → o ≡ some p → or_refused n o v ≡ refused n p
unfolding or_refused
stop n o v p e = rw e

-- the same at a `?`, where `refuse` has answered for place p, which is o
pub passed : (n : ℕ) (p o : definition_option.Option ℕ) → accepted ≡ or_refused n p accepted → p ≡ o → o ≡ none
unfolding or_refused
passed n none o e q = sym q
passed n (some i) o e q = cc

pub failed : (n k i : ℕ) (p o : definition_option.Option ℕ) (v : definition.Verdict) → refused k i ≡ or_refused n p accepted → p ≡ o → refused k i ≡ or_refused n o v
unfolding or_refused
failed n k i none o v e q = cc
failed n k i (some j) o v e q = rw (← q) e

pub returned : (r : Result Unit Refusal) (e : Refusal) → IsErrAnd r (λ y. y ≡ e) → verdict_of r ≡ verdict_of (Err e)
returned r e h = let p = err_from_is_err_and r h in rw (p.1, p.2)
