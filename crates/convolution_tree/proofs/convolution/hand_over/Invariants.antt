-- `convolution_tree::hand_over` meets its contract: after k turns the first k entries are handed over.
use Rattle.std.proofs.Common.{◌≡◌, get_or}
use Rattle.std.specs.Prelude.{Float}
use Rattle.std.specs.Float.{nan}
use Rattle.list_laws.specs.Write.{write}
use Rattle.list_laws.specs.InPlace.{mapped}
use Rattle.definition.specs.Floats.{zeroᶠ}
use Rattle.convolution_tree.proofs.convolution.hand_over.Given as goal

abbrev pub invariant-loop-k : goal.invariant-loop-k
invariant-loop-k l = record {
  handed : l.to ≡ write l.initial.to 0 l.k (λ i. get_or l.initial.from i nan);
  cleared : l.from ≡ mapped (λ (x : Float). zeroᶠ) l.k l.initial.from;
}
