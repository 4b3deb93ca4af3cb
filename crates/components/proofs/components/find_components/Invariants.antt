-- `factor_graph::components::find_components` meets its contract.
use mathlib.Core.Path.{◌≡◌}
use mathlib.Core.Bool.{true}
use Prim.Native.Nat.{◌≤◌, ◌<◌, ◌-◌}
use lib.Dec.{eqb}
use lib.ListN.{length, get_or}
use Rattle.components.specs.ComponentMemory.{memory}
use Rattle.components.specs.ComponentAll.{all_from}
use Rattle.components.proofs.components.find_components.Given as goal

abbrev pub invariant-loop-v : goal.invariant-loop-v
invariant-loop-v l = (length l.words ≡ length l.initial.words) × ((memory l.n l.e l.s l.words).graph ≡ (memory l.n l.e l.s l.initial.words).graph) × (l.v ≤ l.n) × (l.count ≤ l.v)
    × (l.v < l.n → eqb (get_or (memory l.n l.e l.s l.words).node_numbers l.v 0) 0 ≡ true)
    × (all_from l.n l.s (l.n - l.v) l.v l.count l.at (memory l.n l.e l.s l.words) ≡ all_from l.n l.s l.n 0 0 0 (memory l.n l.e l.s l.initial.words))

abbrev pub decreases-loop-v : goal.decreases-loop-v
decreases-loop-v l = l.n - l.v
