-- `convolution_tree::count_layer` meets its contract: after i turns the first i nodes of the layer above stand there.
use Rattle.std.proofs.Common.{◌≡◌, ap, ◌∙◌, List, ℕ, ◌+◌, ◌-◌, ◌*◌, arith}
use native.Mathlib.Nat.{zero-mul}
use Rattle.std.specs.Prelude.{Float}
use Rattle.list_laws.specs.Part.{region}
use Rattle.list_laws.specs.Put.{put}
use Rattle.definition.specs.Vectors.{normalize}
use Rattle.definition.specs.ConvolutionTree.{convolve}
use Rattle.convolution_tree.specs.CountLayer.{up_start, up_turn}
use Rattle.convolution_tree.proofs.layer.count_layer.Goals as goal

pub loop-init : goal.loop-init
loop-init c =
    let a = c.args in
    let p = c.requires in
    record { from = omega (arith, zero-mul a.m); to = omega (arith, zero-mul (a.m + a.m - 1)); made = up_start a.w.now a.at a.count a.m a.out p.1 p.2 p.3; zeros = p.0 }

pub loop-preserved : goal.loop-preserved
loop-preserved c =
    let a = c.args in
    let p = c.requires in
    let s = c.loop in
    let i = s.invariant in
    let v = c.put_count_node.new.w in
    record {
      from = omega arith;
      to = omega arith;
      made = up_turn a.w.now a.at a.count a.m a.out p.1 p.2 p.3 s.w v s.counter (omega arith) i.made (placed s.w v a.at s.counter a.m a.out s.a s.o i.from i.to c.put_count_node.ensures.0);
      zeros = c.put_count_node.ensures.1;
    }
  where
    -- the turn's places, by its number
    placed :
        (w v : List Float) (at i m out a o : ℕ) → a ≡ at + 2 * (i * m) → o ≡ out + i * (m + m - 1) → v ≡ put w o (normalize (convolve (region w a m) (region w (a + m) m))) →
        v ≡ put w (out + i * (m + m - 1)) (normalize (convolve (region w (at + 2 * (i * m)) m) (region w (at + 2 * (i * m) + m) m)))
    placed w v at i m out a o e f r =
        r
        ∙ ap (λ (x : ℕ). put w x (normalize (convolve (region w a m) (region w (a + m) m)))) f
        ∙ ap (λ (x : ℕ). put w (out + i * (m + m - 1)) (normalize (convolve (region w x m) (region w (x + m) m)))) e
