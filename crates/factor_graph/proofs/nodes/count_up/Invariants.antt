-- `nodes::count_up` meets its contract: the numbers that are left to store, stored, give them all.
use Rattle.std.proofs.Common.{◌≡◌}
use Rattle.factor_graph.specs.BuildNodes.{counting}
use Rattle.factor_graph.proofs.nodes.count_up.Given as goal

abbrev pub invariant-loop-i : goal.invariant-loop-i
invariant-loop-i l = counting l.words l.at l.n l.i ≡ counting l.initial.words l.at l.n 0
