-- What the call answers, in the definition's terms.
use Rattle.std.specs.Prelude.{ℕ, List, Result, Ok, Err}
use Rattle.definition.specs.Readers.{MatchOutcome, matched, match_refused, MatchResult}
use Rattle.checks.specs.declared.refusal.Refusal.{Refusal}
use Rattle.checks.specs.Verdicts.{number_of}

abbrev pub outcome_of : Result ℕ Refusal → MatchOutcome
outcome_of (Ok n) = matched n
outcome_of (Err r) = match_refused (number_of r.check) r.place

-- an answer, with what the buffer holds
abbrev pub result_of : Result ℕ Refusal → List ℕ → MatchResult
result_of a b = record { outcome = outcome_of a; buffer = b }
