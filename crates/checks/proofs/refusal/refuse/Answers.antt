-- `refusal::refuse` meets its contract.
use Rattle.std.proofs.Common.{sym, ap}
use Rattle.checks.specs.Verdicts.{place_of, skip, stop}
use Rattle.checks.proofs.refusal.refuse.Goals as goal

pub returns-in-Some : goal.returns-in-Some
returns-in-Some c = sym (stop _ _ _ _ (ap place_of c.in-Some.is))

pub returns-in-None : goal.returns-in-None
returns-in-None c = sym (skip _ _ _ (ap place_of c.in-None.is))
