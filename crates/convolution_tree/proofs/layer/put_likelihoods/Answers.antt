-- `convolution_tree::put_likelihoods` meets its contract.
use mathlib.Core.Path.{ap, ◌∙◌}
use mathlib.Core.List.{[]}
use Prim.Native.Nat.{ℕ}
use native.Mathlib.Omega.{arith}
use lib.ListN.{replicate, length-replicate}
use Rattle.definition.specs.Floats.{zeroᶠ}
use Rattle.convolution_tree.specs.LikelihoodLayer.{first-long, both_long, both-put}
use Rattle.convolution_tree.specs.Lent.{first-zeros, second_zeros}
use Rattle.convolution_tree.proofs.layer.put_likelihoods.Goals as goal

pub message_up-requires : goal.message_up-requires
message_up-requires c =
    let a = c.args in
    let p = c.requires in
    (first-zeros a.t.now (replicate a.m zeroᶠ) [] a.m p.0 (length-replicate a.m zeroᶠ), omega arith, p.2, p.3)

pub message_up-requires-2 : goal.message_up-requires-2
message_up-requires-2 c =
    let a = c.args in
    let p = c.requires in
    let u = c.message_up.new.out in
    let k = first-long a.w.now a.t.now u [] a.l a.n a.at a.m p.0 c.message_up.ensures in
    (second_zeros a.t.now u [] a.m p.0 k, omega arith, p.2, p.3)

pub returns : goal.returns
returns c =
    let a = c.args in
    let p = c.requires in
    let u = c.message_up.new.out in
    let v = c.message_up-2.new.out in
    let e = c.message_up.ensures in
    let f = c.message_up-2.ensures in
    (both-put a.w.now a.t.now u v a.l a.n a.at a.m p.0 e f c.hand_over.new.to c.hand_over.ensures.0, c.hand_over.ensures.1 ∙ ap (λ (k : ℕ). replicate k zeroᶠ) (both_long a.w.now a.t.now u v a.l a.n a.at a.m p.0 e f))
