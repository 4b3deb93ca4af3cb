-- `convolution_tree::convolve` meets its contract: after i turns the first i rows are added.
use Rattle.std.proofs.Common.{◌≡◌, take}
use Rattle.graph_laws.specs.Convolution.{add_all_products}
use Rattle.convolution_tree.proofs.convolution.convolve.Given as goal

abbrev pub invariant-loop-i : goal.invariant-loop-i
invariant-loop-i l = l.out ≡ add_all_products 0 (take l.i l.a) l.b l.initial.out
