-- The call for matches: what it leaves of the buffer, and that an accepted one has the most matches there are.
use Rattle.std.specs.Prelude.{ℕ, ◌*◌, ◌≤◌, ◌≡◌, List, [], ◌∷◌, length}
use Rattle.std.proofs.Common.{arith}
use Rattle.std.proofs.Math.Path.{refl}
use Rattle.definition.specs.Refusals.{Verdict, accepted, refused}
use Rattle.definition.specs.Readers.{Match, reads_of, matches, match_verdict, match_numbers, match_result, match_call}
use Rattle.claims.specs.Matching.{CallAnswers}
use Rattle.graph_laws.specs.Overwriting.{over-length}
use Rattle.readers_laws.specs.Answer.{answer-listed}
use Rattle.readers_laws.specs.Table.{lesser_cases, buffer-fits, upper_ordered, lower_ordered}
use Rattle.readers_laws.specs.Longest.{longest}

pub length-numbers : (ms : List Match) → length (match_numbers ms) ≡ 2 * length ms
unfolding match_numbers
length-numbers [] = refl
length-numbers (m ∷ ms) = omega (arith, length-numbers ms)

module _ (upper lower : List ℕ) (w : ℕ) (b : List ℕ) where
  abbrev ms : List Match
  ms = matches w (reads_of upper) (reads_of lower)

  abbrev v : Verdict
  v = match_verdict (reads_of upper) (reads_of lower) (length b)

  has_room : v ≡ accepted → length (match_numbers ms) ≤ length b
  has_room e =
      let r = answer-listed w (reads_of upper) (reads_of lower) in
      omega
      (arith, length-numbers ms, lesser_cases (λ n. length ms ≤ n) (length (reads_of upper)) (length (reads_of lower)) r.upper_few r.lower_few, buffer-fits (reads_of upper) (reads_of lower) (length b) e)

  same_length : (u : Verdict) → v ≡ u → length (match_result u ms b).buffer ≡ length b
  unfolding match_result
  same_length accepted e = over-length (match_numbers ms) b (has_room e)
  same_length (refused n p) e = refl

pub call-answers : CallAnswers
unfolding match_call match_result
call-answers upper lower w b =
    record {
      accepted_call = λ e. rw e;
      refused_call = λ n p e. rw e;
      same_length = same_length upper lower w b (v upper lower w b) refl;
      most = λ e xs m.
          longest w (reads_of upper) (reads_of lower) (upper_ordered (reads_of upper) (reads_of lower) (length b) e) (lower_ordered (reads_of upper) (reads_of lower) (length b) e) xs m;
    }
