-- The answer of a call for matches as numbers.
use Rattle.std.specs.Prelude.{ℕ, ◌≡◌, List, Result}
use Rattle.definition.specs.Readers.{MatchOutcome, matched, match_refused, MatchResult}
use Rattle.readers.specs.Outcomes.{outcome_of}
use Rattle.checks.specs.declared.refusal.Refusal.{Refusal}
use Rattle.pikaplatinum.specs.declared.matches.Matches.{Matches}

-- an answer has refusal 0, and a refusal no matches
abbrev pub match_reply : MatchOutcome → Matches
match_reply (matched n) = record { refusal = 0; place = 0; matches = n }
match_reply (match_refused n p) = record { refusal = n; place = p; matches = 0 }

abbrev pub matches_to : Result ℕ Refusal → Matches
matches_to a = match_reply (outcome_of a)

-- what is replied, and what the buffer holds afterwards, is the definition's result
pub record MatchAnswers (r : Matches) (b : List ℕ) (x : MatchResult) : Type 0 where
  pub reply : r ≡ match_reply x.outcome
  pub buffer : b ≡ x.buffer
