-- `convolution_tree::message_up` meets its contract.
use mathlib.Core.Path.{◌≡◌, ap, ◌∙◌}
use mathlib.Core.List.{List}
use Prim.Native.Nat.{ℕ, ◌+◌, ◌-◌}
use native.Mathlib.Omega.{arith}
use lib.ListN.{length}
use lib.Ieee.{Float}
use Rattle.list_laws.specs.Part.{region}
use Rattle.definition.specs.Vectors.{normalize}
use Rattle.definition.specs.ConvolutionTree.{message_up}
use Rattle.convolution_tree.specs.Correlation.{correlation, message_up-is}
use Rattle.convolution_tree.proofs.layer.message_up.Goals as goal

pub returns : goal.returns
returns c =
    let a = c.args in
    made a.w.now c.correlate.new.out c.normalize.new.a (length a.out.now) a.other a.m a.l a.n c.correlate.ensures c.normalize.ensures
  where
    made : (w u v : List Float) (k b m l n : ℕ) → u ≡ correlation k (region w b (b + m - b)) (region w l (l + n - l)) → v ≡ normalize u → v ≡ message_up k (region w b m) (region w l n)
    made w u v k b m l n e f =
        let x : b + m - b ≡ m = omega arith in
        let y : l + n - l ≡ n = omega arith in
        f
        ∙ ap normalize e
        ∙ message_up-is k (region w b (b + m - b)) (region w l (l + n - l))
        ∙ ap (λ (i : ℕ). message_up k (region w b i) (region w l (l + n - l))) x
        ∙ ap (λ (i : ℕ). message_up k (region w b m) (region w l i)) y
