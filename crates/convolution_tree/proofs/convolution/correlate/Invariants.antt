-- `convolution_tree::correlate` meets its contract: after j turns the first j rows are added.
use Rattle.std.proofs.Common.{◌≡◌, length, take}
use Rattle.convolution_tree.specs.Correlation.{correlation}
use Rattle.convolution_tree.proofs.convolution.correlate.Given as goal

abbrev pub invariant-loop-j : goal.invariant-loop-j
invariant-loop-j l = l.out ≡ correlation (length l.initial.out) (take l.j l.b) l.l
