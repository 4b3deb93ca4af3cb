-- `convolution_tree::likelihoods_below` meets its contract: after i turns the likelihoods of the first 2 * i nodes stand in their place.
use Rattle.std.proofs.Common.{◌≡◌, ap, ◌∙◌, List, ◌++◌, ℕ, ◌+◌, ◌*◌, arith}
use native.Mathlib.Nat.{zero-mul}
use Rattle.std.specs.Prelude.{Float}
use Rattle.list_laws.specs.Part.{region}
use Rattle.list_laws.specs.Put.{put}
use Rattle.definition.specs.ConvolutionTree.{message_up}
use Rattle.convolution_tree.specs.LikelihoodLayer.{down-start, down_turn}
use Rattle.convolution_tree.proofs.layer.likelihoods_below.Goals as goal

pub loop-init : goal.loop-init
loop-init c =
    let a = c.args in
    let p = c.requires in
    record { from = omega (arith, zero-mul a.n); to = omega (arith, zero-mul a.m); made = down-start a.w.now a.above a.n a.at a.count a.m p.1 p.3; zeros = p.0 }

pub loop-preserved : goal.loop-preserved
loop-preserved c =
    let a = c.args in
    let p = c.requires in
    let s = c.loop in
    let i = s.invariant in
    let u = c.put_likelihoods.new.w in
    record {
      from = omega arith;
      to = omega arith;
      made = down_turn a.w.now a.above a.n a.at a.count a.m p.1 p.3 s.w u s.counter (omega arith) i.made (placed s.w u a.above a.n a.at s.counter a.m s.l s.a i.from i.to c.put_likelihoods.ensures.0);
      zeros = c.put_likelihoods.ensures.1;
    }
  where
    -- the turn's places, by its number
    both : List Float → ℕ → ℕ → ℕ → ℕ → List Float
    both w l n a m = message_up m (region w (a + m) m) (region w l n) ++ message_up m (region w a m) (region w l n)

    placed : (w v : List Float) (likes n at i m l a : ℕ) → l ≡ likes + i * n → a ≡ at + 2 * (i * m) → v ≡ put w a (both w l n a m) → v ≡ put w (at + 2 * (i * m)) (both w (likes + i * n) n (at + 2 * (i * m)) m)
    placed w v likes n at i m l a g e r = r ∙ ap (λ (x : ℕ). put w a (both w x n a m)) g ∙ ap (λ (x : ℕ). put w x (both w (likes + i * n) n x m)) e
