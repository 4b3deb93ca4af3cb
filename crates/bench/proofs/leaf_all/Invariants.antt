-- `bench::leaf_all` meets its contract: the entries before the index are done.
use Rattle.std.proofs.Common.{◌≡◌}
use Rattle.list_laws.specs.InPlace.{mapped}
use Rattle.bench.specs.Leaves.{leaf_of}
use Rattle.bench.proofs.leaf_all.Given as goal

abbrev pub invariant-loop-x : goal.invariant-loop-x
invariant-loop-x l = l.xs ≡ mapped (leaf_of l.which) l.x-index l.initial.xs
