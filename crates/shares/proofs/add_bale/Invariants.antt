-- `add_bale` meets its contract. The loop's invariant: with the beliefs from the i-th on, the totals become what all of them make of the first.
use Rattle.shares.specs.Adding.{Adding}
use Rattle.shares.proofs.add_bale.Given as goal

abbrev pub invariant-loop-i : goal.invariant-loop-i
invariant-loop-i l = Adding l.initial.sums l.grams l.numbers l.floats l.sums l.i
