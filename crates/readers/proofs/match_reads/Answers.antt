-- `readers::match_reads` meets its contract. A refusal changes nothing; an accepted call is matched.
use Rattle.std.proofs.Common.{sym}
use Rattle.std.proofs.lemmas.Result.{err_from_is_err_and}
use Rattle.definition.specs.Readers.{matched, match_result, match_call}
use Rattle.readers.proofs.match_reads.Goals as goal

pub returns-in_err-check : goal.returns-in_err-check
unfolding match_call match_result
returns-in_err-check c = let p = err_from_is_err_and c.from_residual.result c.from_residual.ensures.1 in rw (p.1, p.2, ← c.in_err-check.ensures)

pub match_all-requires : goal.match_all-requires
match_all-requires c = sym c.in_ok-check.ensures

pub returns : goal.returns
unfolding match_call match_result
returns c = let k = c.match_all.ensures in rw (← c.in_ok-check.ensures) (λ i. record { outcome = matched (k.0 i); buffer = k.1 i })
