-- `convolution_tree::build_remaining_layers` meets its contract: after i turns i layers stand above the leaves.
use Rattle.std.proofs.Common.{sym, ◌+◌, ◌-◌, ◌*◌, ◌/◌, ◌≤◌, arith, length, length-take-le}
use Rattle.convolution_tree.specs.Zeros.{zeros-front, zeros-back, zeros-long}
use Rattle.convolution_tree.specs.WayUp.{growing_fits, growing_turn, growing_end}
use Rattle.convolution_tree.proofs.tree.build_remaining_layers.Goals as goal
use Rattle.convolution_tree.proofs.tree.build_remaining_layers.Goals.{In-loop}

-- the next layer fits behind the last, and a node of it in t
fits :
    (c : In-loop) →
    let s = c.loop in
    (s.at + 2 * (s.c / 2 * s.m) ≤ s.at + c.args.leaves + s.c) × (s.at + c.args.leaves + s.c + s.c / 2 * (s.m + s.m - 1) ≤ length s.w) × (s.m + s.m ≤ c.args.leaves + 2)
fits c =
    let a = c.args in
    let s = c.loop in
    growing_fits a.w.now a.layers a.leaves c.requires.3 s.w s.at s.c s.m s.counter s.invariant.grown s.auto.w c.loop-test.true

long : (c : In-loop) → c.loop.m + c.loop.m - 1 ≤ length c.loop.t
long c = let s = c.loop in zeros-long s.t 130 (s.m + s.m - 1) s.invariant.zeros (omega (arith, fits c))

pub slice_bounds-count_layer-end : goal.slice_bounds-count_layer-end
slice_bounds-count_layer-end c = long (goal.at.slice_bounds-count_layer-end c).In-loop

pub slice_bounds-count_layer-end-in-loop : goal.slice_bounds-count_layer-end-in-loop
slice_bounds-count_layer-end-in-loop c = let s = c.loop in sym (length-take-le (s.m + s.m - 1) s.t (long (goal.at.slice_bounds-count_layer-end-in-loop c).In-loop))

pub count_layer-requires : goal.count_layer-requires
count_layer-requires c =
    let s = c.loop in
    let q = fits (goal.at.count_layer-requires c).In-loop in
    (zeros-front s.t 130 (s.m + s.m - 1) s.invariant.zeros (omega (arith, q.2)), q.0, s.invariant.grown.wide, q.1)

pub loop-preserved : goal.loop-preserved
loop-preserved c =
    let a = c.args in
    let s = c.loop in
    let i = s.invariant in
    let q = fits (goal.at.loop-preserved c).In-loop in
    record {
      grown = growing_turn a.w.now a.layers a.leaves c.requires.3 s.w s.at s.c s.m s.counter i.grown s.auto.w c.loop-test.true c.count_layer.new.w c.count_layer.ensures.0;
      zeros = zeros-back s.t 130 (s.m + s.m - 1) i.zeros (omega (arith, q.2)) c.count_layer.new.t c.count_layer.ensures.1;
    }

pub returns : goal.returns
returns c =
    let s = c.loop in
    let a = c.args in
    let r = growing_end a.w.now a.layers a.leaves c.requires.3 s.w s.at s.c s.m s.counter s.invariant.grown s.auto.w (omega arith) in
    (r.0, s.invariant.zeros, r.1)
