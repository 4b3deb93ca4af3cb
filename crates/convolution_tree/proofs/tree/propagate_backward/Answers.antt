-- `convolution_tree::propagate_backward` meets its contract: the loop goes from the root, layer `layers`, down to the leaves, layer 0.
use Rattle.std.proofs.Common.{◌≡◌, sym, subst, ℕ, suc, ◌+◌, ◌-◌, ◌*◌, ◌/◌, ◌≤◌, arith, length, length-take-le}
use Rattle.convolution_tree.specs.Zeros.{zeros-front, zeros-back, zeros-long}
use Rattle.convolution_tree.specs.WayDown.{Descending, descending_start, descending_fits, descending_turn, descending_end}
use Rattle.convolution_tree.proofs.tree.propagate_backward.Goals as goal
use Rattle.convolution_tree.proofs.tree.propagate_backward.Goals.{In-loop}

-- before a turn, by the layer that it makes
before :
    (c : In-loop) →
    let a = c.args in
    let s = c.loop in
    Descending a.w.now a.layers a.leaves a.n a.root s.w s.at s.c s.m s.f (suc (a.layers - (s.counter + 1)))
before c =
    let a = c.args in
    let s = c.loop in
    let e : a.layers - s.counter ≡ suc (a.layers - (s.counter + 1)) = omega (arith, c.loop-test.true) in
    subst (λ (i : ℕ). Descending a.w.now a.layers a.leaves a.n a.root s.w s.at s.c s.m s.f i) e s.invariant.descended

fits :
    (c : In-loop) →
    let s = c.loop in
    let n = c.args.leaves in
    (n + s.c + s.c ≤ s.at)
    × (s.at - (n + s.c + s.c) + 2 * (s.c * ((s.m + 1) / 2)) ≤ s.at)
    × ((s.m + 1) / 2 ≤ s.f)
    × (s.at + s.c * s.f ≤ length s.w)
    × ((s.m + 1) / 2 + (s.m + 1) / 2 ≤ n + 2)
fits c =
    let a = c.args in
    let p = c.requires in
    let s = c.loop in
    descending_fits a.w.now a.layers a.leaves a.n a.root p.1 p.3 p.4 p.6 s.w s.at s.c s.m s.f (a.layers - (s.counter + 1)) (before c) s.auto.w (omega arith)

long : (c : In-loop) → (c.loop.m + 1) / 2 + (c.loop.m + 1) / 2 ≤ length c.loop.t
long c = let two = (c.loop.m + 1) / 2 + (c.loop.m + 1) / 2 in zeros-long c.loop.t 130 two c.loop.invariant.zeros (omega (arith, fits c, c.requires.2))

pub loop-init : goal.loop-init
loop-init c =
    let a = c.args in
    let p = c.requires in
    let e : a.layers - 0 ≡ a.layers = omega arith in
    record { descended = rw e (descending_start a.w.now a.layers a.leaves a.n a.root p.1 p.3 p.4 p.6 p.5); zeros = p.0 }

pub overflow_add-low : goal.overflow_add-low
overflow_add-low c = omega (arith, fits c)

pub overflow_add-low-in-loop : goal.overflow_add-low-in-loop
overflow_add-low-in-loop c = omega (arith, fits (goal.at.overflow_add-low-in-loop c).In-loop)

pub overflow_sub-low : goal.overflow_sub-low
overflow_sub-low c = omega (arith, fits (goal.at.overflow_sub-low c).In-loop)

pub overflow_add-half : goal.overflow_add-half
overflow_add-half c = omega (arith, c.loop.invariant.descended, c.requires.2, fits (goal.at.overflow_add-half c).In-loop)

pub overflow_add-two : goal.overflow_add-two
overflow_add-two c = omega (arith, c.requires.2, fits (goal.at.overflow_add-two c).In-loop)

pub slice_bounds-likelihoods_below-end : goal.slice_bounds-likelihoods_below-end
slice_bounds-likelihoods_below-end c = long (goal.at.slice_bounds-likelihoods_below-end c).In-loop

pub slice_bounds-likelihoods_below-end-in-loop : goal.slice_bounds-likelihoods_below-end-in-loop
slice_bounds-likelihoods_below-end-in-loop c = sym (length-take-le _ c.loop.t (long (goal.at.slice_bounds-likelihoods_below-end-in-loop c).In-loop))

pub likelihoods_below-requires : goal.likelihoods_below-requires
likelihoods_below-requires c =
    let s = c.loop in
    let q = fits (goal.at.likelihoods_below-requires c).In-loop in
    (zeros-front s.t 130 ((s.m + 1) / 2 + (s.m + 1) / 2) s.invariant.zeros (omega (arith, q.4, c.requires.2)), q.1, q.2, q.3)

pub overflow_add-c : goal.overflow_add-c
overflow_add-c c = omega (arith, fits (goal.at.overflow_add-c c).In-loop)

pub loop-preserved : goal.loop-preserved
loop-preserved c =
    let a = c.args in
    let p = c.requires in
    let s = c.loop in
    let i = (goal.at.loop-preserved c).In-loop in
    let d = c.likelihoods_below in
    record {
      descended = descending_turn a.w.now a.layers a.leaves a.n a.root p.1 p.3 p.4 p.6 s.w s.at s.c s.m s.f (a.layers - (s.counter + 1)) (before i) s.auto.w (omega arith) d.new.w d.ensures.0;
      zeros = zeros-back s.t 130 ((s.m + 1) / 2 + (s.m + 1) / 2) s.invariant.zeros (omega (arith, fits i, p.2)) d.new.t d.ensures.1;
    }

pub returns : goal.returns
returns c =
    let a = c.args in
    let p = c.requires in
    let s = c.loop in
    let e : a.layers - s.counter ≡ 0 = omega arith in
    let d = subst (λ (i : ℕ). Descending a.w.now a.layers a.leaves a.n a.root s.w s.at s.c s.m s.f i) e s.invariant.descended in
    (descending_end a.w.now a.layers a.leaves a.n a.root p.1 p.3 p.4 p.6 s.w s.at s.c s.m s.f d, s.invariant.zeros)
