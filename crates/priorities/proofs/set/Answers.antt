-- `priorities::set` meets its contract: a climb from the leaf, which ends at the root or where a node does not change.
use mathlib.Core.Path.{◌∙◌}
use native.Mathlib.Omega.{arith}
use Rattle.priorities.specs.Tournament.{Tree, holds_tree}
use Rattle.priorities.specs.Climb.{climb_start, climb_next, climb_top, climb_stop, climbed, climbed_queue}
use Rattle.priorities.proofs.set.Goals as goal
use Rattle.priorities.proofs.set.Goals.{Start}

tree : (c : Start) → Tree c.args.words.now c.args.w
tree c = holds_tree c.args.w c.requires.queue.keys c.args.words.now c.requires.queue.holds

pub overflow_add-k : goal.overflow_add-k
overflow_add-k c = omega (arith, (tree c.before).size)

pub offset_bounds-words-k : goal.offset_bounds-words-k
offset_bounds-words-k c = omega (arith, (tree c.before).size)

pub bounds-words-k : goal.bounds-words-k
bounds-words-k c = omega (arith, (tree c.before).size)

pub loop-k-init : goal.loop-k-init
loop-k-init c =
    let a = c.args in
    (omega arith, omega arith, climb_start a.w a.words.now a.d a.key (tree c.before))

pub offset_bounds-words-k-in-loop-k : goal.offset_bounds-words-k-in-loop-k
offset_bounds-words-k-in-loop-k c = omega (arith, (tree c.before.before.before.before).size)

pub shape_of-words-then-words-k : goal.shape_of-words-then-words-k
shape_of-words-then-words-k c = omega (arith, (tree c.before.before.before.before.before.before.before).size)

pub returns-then-words-k : goal.returns-then-words-k
returns-then-words-k c =
    let t = climb_stop c.args.w _ c.loop-k.words c.loop-k.k (tree c.before.before.before.before.before.before.before).wide (c.if-words-k.true ∙ c.larger_child-larger.ensures) c.loop-k.invariant.2 in record { queue_2 = climbed_queue c.args.w c.args.words.now c.loop-k.words c.args.d c.args.key c.loop-k.k c.requires.queue c.requires.d_lt_w.1 c.loop-k.invariant.2 t; by_index = λ keys H h. climbed c.args.w keys c.args.words.now c.loop-k.words c.args.d c.args.key c.loop-k.k H h c.loop-k.invariant.2 t }

pub offset_bounds-words-k-in-loop-k-2 : goal.offset_bounds-words-k-in-loop-k-2
offset_bounds-words-k-in-loop-k-2 c = omega (arith, (tree c.before.before.before.before.before.before).size)

pub loop-k-preserved : goal.loop-k-preserved
loop-k-preserved c = (
  omega arith,
  omega arith,
  climb_next c.args.w _ c.loop-k.words c.loop-k.k c.larger_child-larger.result (omega arith) c.loop-k.invariant.1 c.larger_child-larger.ensures c.loop-k.invariant.2,
)

pub shape_of-words : goal.shape_of-words
shape_of-words c = omega (arith, (tree c.before.before.before).size)

pub returns : goal.returns
returns c =
    let t = climb_top c.args.w _ c.loop-k.words c.loop-k.k (tree c.before.before.before).wide c.loop-k-test.false c.loop-k.invariant.2 in record { queue_2 = climbed_queue c.args.w c.args.words.now c.loop-k.words c.args.d c.args.key c.loop-k.k c.requires.queue c.requires.d_lt_w.1 c.loop-k.invariant.2 t; by_index = λ keys H h. climbed c.args.w keys c.args.words.now c.loop-k.words c.args.d c.args.key c.loop-k.k H h c.loop-k.invariant.2 t }
