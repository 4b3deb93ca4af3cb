-- `listing::totals::put_totals` meets its contract.
use Rattle.listing.specs.Totals.{TotalsWritten}
use Rattle.listing.proofs.totals.put_totals.Given as goal

abbrev pub invariant-loop-grade : goal.invariant-loop-grade
invariant-loop-grade l = TotalsWritten l.initial.out l.totals l.out l.end l.grade
