-- `convolution_tree::tree_messages` meets its contract.
use Rattle.std.proofs.Common.{◌≡◌, refl, sym, ap, ◌∙◌, List, ◌++◌, ℕ, ◌+◌, ◌-◌, ◌*◌, ◌^◌, arith, pow_pos, take, replicate}
use native.Mathlib.Nat.{add-mul}
use lib.Ieee.{of_bits}
use Rattle.std.specs.Prelude.{Float}
use Rattle.list_laws.specs.Put.{put}
use Rattle.definition.specs.Floats.{zeroᶠ}
use Rattle.definition.specs.Vectors.{avoid_underflow_all}
use Rattle.definition.specs.ConvolutionTree.{log_length}
use Rattle.convolution_tree.specs.Leaves.{size_small, sized, size-bound}
use Rattle.convolution_tree.specs.Tree.{propagated}
use Rattle.convolution_tree.specs.Sent.{leaves_bounds, enough, tree_is}
use Rattle.convolution_tree.proofs.tree.tree_messages.Goals as goal
use Rattle.convolution_tree.proofs.tree.tree_messages.Goals.{After-size_for-s}

-- the floats of all layers, by the length
floats : (c : After-size_for-s) → let s = c.size_for-s.result in (s.layers + 3) * s.leaves ≡ (log_length c.args.n + 3) * 2 ^ log_length c.args.n
floats c = let s = c.size_for-s in sized s.result.layers s.result.leaves c.args.n s.ensures.0 s.ensures.1

by_size : (x y : List Float) (n p l : ℕ) → p ≡ log_length n → l ≡ 2 ^ log_length n → y ≡ put x 0 (propagated n p l x) → y ≡ put x 0 (propagated n (log_length n) (2 ^ log_length n) x)
by_size x y n p l e f g = g ∙ ap (λ (i : ℕ). put x 0 (propagated n i l x)) e ∙ ap (λ (i : ℕ). put x 0 (propagated n (log_length n) i x)) f

pub seed-requires : goal.seed-requires
seed-requires c =
    let a = c.args in
    let p = c.requires in
    let s = c.size_for-s in
    let b = leaves_bounds a.n p.0 p.1 in
    (s.ensures.1, omega (arith, b.1, s.ensures.1), omega (arith, enough a.w.now a.n p.0 p.1 p.2, s.ensures.1, b.1, add-mul (log_length a.n) 3 (2 ^ log_length a.n), pow_pos (log_length a.n)))

pub propagate-requires : goal.propagate-requires
unfolding of_bits
propagate-requires c =
    let a = c.args in
    let p = c.requires in
    let s = c.size_for-s in
    let b = leaves_bounds a.n p.0 p.1 in (
      refl,
      s.ensures.1 ∙ ap (λ (i : ℕ). 2 ^ i) (sym s.ensures.0),
      omega (arith, b.3, s.ensures.1),
      omega (arith, b.0, s.ensures.0),
      omega (arith, b.1, s.ensures.1),
      omega (arith, b.2, s.ensures.1),
      omega (arith, floats (goal.at.propagate-requires c).After-size_for-s, enough a.w.now a.n p.0 p.1 p.2),
    )

pub overflow_add-layers : goal.overflow_add-layers
overflow_add-layers c = omega (arith, c.size_for-s.ensures.0, size_small c.args.n c.requires.1)

pub overflow_mul-layers : goal.overflow_mul-layers
overflow_mul-layers c = omega (arith, floats (goal.at.overflow_mul-layers c).After-size_for-s, size-bound c.args.n 7 c.requires.1)

pub overflow_add-n-2 : goal.overflow_add-n-2
overflow_add-n-2 c = omega (arith, floats (goal.at.overflow_add-n-2 c).After-size_for-s, size-bound c.args.n 7 c.requires.1)

pub finish-requires : goal.finish-requires
finish-requires c =
    let a = c.args in
    let p = c.requires in
    let b = leaves_bounds a.n p.0 p.1 in
    let e = floats (goal.at.finish-requires c).After-size_for-s in
    (omega (arith, e, b.1, add-mul (log_length a.n) 3 (2 ^ log_length a.n), pow_pos (log_length a.n)), omega (arith, e, enough a.w.now a.n p.0 p.1 p.2))

pub returns : goal.returns
returns c =
    let a = c.args in
    let p = c.requires in
    let s = c.size_for-s in
    let x = c.seed in
    let y = c.propagate in
    let z = c.finish in
    tree_is a.w.now a.n p.0 p.1 p.2 x.new.w y.new.w z.new.w x.ensures (by_size x.new.w y.new.w a.n s.result.layers s.result.leaves s.ensures.0 s.ensures.1 y.ensures.0)
    (z.ensures ∙ ap (λ (i : ℕ). put y.new.w 0 (avoid_underflow_all (take (3 * a.n + 1) y.new.w) ++ replicate (a.n + i - (3 * a.n + 1)) zeroᶠ)) (floats (goal.at.returns c).After-size_for-s))
