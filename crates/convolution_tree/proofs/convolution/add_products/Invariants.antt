-- `convolution_tree::add_products` meets its contract: after j turns the first j products are added.
use Rattle.std.proofs.Common.{◌≡◌, take}
use Rattle.graph_laws.specs.Convolution.{add_products}
use Rattle.convolution_tree.proofs.convolution.add_products.Given as goal

abbrev pub invariant-loop-j : goal.invariant-loop-j
invariant-loop-j l = l.out ≡ add_products 0 l.x (take l.j l.b) l.initial.out
