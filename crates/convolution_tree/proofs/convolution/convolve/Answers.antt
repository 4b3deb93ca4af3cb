-- `convolution_tree::convolve` meets its contract: after i turns the first i rows are added.
use Rattle.std.proofs.Common.{◌≡◌, ap, ◌∙◌, ◌+◌, ◌-◌, arith, length}
use Rattle.std.proofs.lemmas.List.{length-replicate}
use Rattle.definition.specs.Floats.{zeroᶠ}
use Rattle.convolution_tree.specs.Rows.{rows_none, rows-turn, rows_all}
use Rattle.convolution_tree.proofs.convolution.convolve.Goals as goal

pub loop-i-init : goal.loop-i-init
loop-i-init c =
    let a = c.args in
    rows_none a.a.now a.b.now a.out.now

pub loop-i-preserved : goal.loop-i-preserved
loop-i-preserved c =
    let s = c.loop-i in
    let a = c.args in
    let e : length a.out.now ≡ length a.a.now + length a.b.now - 1 = ap length c.requires ∙ length-replicate (length a.a.now + length a.b.now - 1) zeroᶠ in
    rows-turn s.i (length s.out - s.i) a.a.now a.b.now a.out.now s.out c.add_products.new.out (omega arith) (omega arith) (omega arith) s.invariant c.add_products.ensures

pub returns : goal.returns
returns c =
    let s = c.loop-i in
    let a = c.args in
    rows_all s.i a.a.now a.b.now a.out.now s.out c.requires (omega arith) s.invariant
