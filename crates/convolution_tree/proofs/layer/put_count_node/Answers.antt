-- `convolution_tree::put_count_node` meets its contract.
use mathlib.Core.Path.{◌≡◌, ap, ◌∙◌}
use Prim.Native.Nat.{ℕ, ◌+◌, ◌-◌}
use native.Mathlib.Omega.{arith}
use lib.ListN.{length, replicate, length-replicate}
use Rattle.list_laws.specs.Part.{region}
use Rattle.definition.specs.Floats.{zeroᶠ}
use Rattle.definition.specs.Vectors.{normalize}
use Rattle.definition.specs.ConvolutionTree.{convolve}
use Rattle.convolution_tree.specs.Lent.{lent-made}
use Rattle.convolution_tree.proofs.layer.put_count_node.Goals as goal

pub returns : goal.returns
returns c =
    let a = c.args in
    let x = c.create_count_node.new.out in
    let m = a.m in
    let k : length x ≡ m + m - 1 = omega (arith, ap length c.requires.0, length-replicate (m + m - 1) zeroᶠ) in
    (lent-made a.w.now c.hand_over.new.to x (normalize (convolve (region a.w.now a.at a.m) (region a.w.now (a.at + a.m) a.m))) a.out c.hand_over.ensures.0 c.create_count_node.ensures, c.hand_over.ensures.1 ∙ ap (λ (n : ℕ). replicate n zeroᶠ) k)
