-- `convolution_tree::hand_over` meets its contract: after k turns the first k entries are handed over.
use Rattle.std.proofs.Common.{refl, ap, ◌∙◌, List, arith, get_or}
use Rattle.std.specs.Prelude.{Float}
use Rattle.std.specs.Float.{nan}
use lib.Ieee.{of_bits}
use Rattle.list_laws.specs.Write.{write-none}
use Rattle.list_laws.specs.Whole.{start-next, write-whole}
use Rattle.list_laws.specs.InPlace.{mapped_get, mapped-turn, mapped-all}
use Rattle.definition.specs.Floats.{zeroᶠ}
use Rattle.convolution_tree.specs.Zeros.{map-zero}
use Rattle.convolution_tree.proofs.convolution.hand_over.Goals as goal

pub loop-k-init : goal.loop-k-init
loop-k-init c = record { handed = write-none _ _ _; cleared = refl }

pub loop-k-preserved : goal.loop-k-preserved
unfolding of_bits
loop-k-preserved c =
    let l = c.loop-k in
    let a = c.args in
    let v = l.invariant in
    let z : Float → Float = λ x. zeroᶠ in
    record {
      handed = start-next a.to.now l.to (λ i. get_or a.from.now i nan) l.k (get_or l.from l.k nan) v.handed (ap (λ (x : List Float). get_or x l.k nan) v.cleared ∙ mapped_get z l.k a.from.now nan);
      cleared = mapped-turn z a.from.now l.from l.k nan zeroᶠ (omega arith) (omega arith) v.cleared refl;
    }

pub returns : goal.returns
returns c =
    let l = c.loop-k in
    let a = c.args in
    (l.invariant.handed ∙ write-whole nan a.to.now a.from.now l.k (omega arith) (omega arith), l.invariant.cleared ∙ mapped-all (λ (x : Float). zeroᶠ) l.k a.from.now (omega arith) ∙ map-zero a.from.now)
