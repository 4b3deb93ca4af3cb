-- `tally::count_beliefs` meets its contract. What is left to tally comes to the same, and may be moved.
use Rattle.std.proofs.Common.{◌-◌, ◌+◌, ◌*◌, ◌≡◌, get_or, drop, arith, sym, ap, ◌∙◌, subst}
use Rattle.std.specs.Float.{nan}
use Rattle.definition.specs.Reads.{above_half}
use Rattle.patterns.specs.Tally.{moved, Movable, tallied, belief_at, movable_start, tallied-start, tallied_done}
use Rattle.patterns.proofs.tally.count_beliefs.Goals as goal

pub loop-i-init : goal.loop-i-init
loop-i-init c =
    let a = c.args in
    (movable_start a.count a.numbers.now a.floats.now a.report.now c.requires, tallied-start a.count a.numbers.now a.floats.now a.report.now)

pub offset_bounds-numbers-i : goal.offset_bounds-numbers-i
offset_bounds-numbers-i c = omega (arith, belief_at c.args.count c.loop-i.i _ _ _ c.loop-i-test.true c.loop-i.invariant.0)

pub bounds-numbers-i : goal.bounds-numbers-i
bounds-numbers-i c = (belief_at c.args.count c.loop-i.i _ _ _ c.loop-i-test.true c.loop-i.invariant.0).in_numbers

pub overflow_mul-i : goal.overflow_mul-i
overflow_mul-i c = omega (arith, belief_at c.args.count c.loop-i.i _ _ _ c.loop-i-test.true c.loop-i.invariant.0)

pub overflow_add-i : goal.overflow_add-i
overflow_add-i c = omega (arith, belief_at c.args.count c.loop-i.i _ _ _ c.loop-i-test.true c.loop-i.invariant.0)

pub offset_bounds-floats-i : goal.offset_bounds-floats-i
offset_bounds-floats-i c = omega (arith, belief_at c.args.count c.loop-i.i _ _ _ c.loop-i-test.true c.loop-i.invariant.0)

pub bounds-floats-i : goal.bounds-floats-i
bounds-floats-i c = (belief_at c.args.count c.loop-i.i _ _ _ c.loop-i-test.true c.loop-i.invariant.0).in_floats

pub move_belief-requires : goal.move_belief-requires
move_belief-requires c =
    let next = belief_at c.args.count c.loop-i.i c.args.numbers.now c.args.floats.now c.loop-i.report c.loop-i-test.true c.loop-i.invariant.0 in
    rw c.is_above_half-above.ensures next.room

pub loop-i-preserved : goal.loop-i-preserved
loop-i-preserved c =
    let a = c.args in
    let i = c.loop-i.i in
    let r = c.loop-i.report in
    let next = belief_at a.count i a.numbers.now a.floats.now r c.loop-i-test.true c.loop-i.invariant.0 in
    let g = get_or a.numbers.now i 0 in
    let e : c.move_belief.new.report ≡ moved r g (above_half (get_or a.floats.now (2 * i + 1) nan)) =
    c.move_belief.ensures ∙ ap (moved r g) c.is_above_half-above.ensures
    in
    let k = a.count - (i + 1) in
    let ns = drop (i + 1) a.numbers.now in
    let fs = drop (2 * (i + 1)) a.floats.now in
    (subst (Movable k ns fs) (sym e) next.rest, ap (tallied k ns fs) e ∙ sym next.same ∙ c.loop-i.invariant.1)

pub returns : goal.returns
returns c =
    let a = c.args in
    let i = c.loop-i.i in
    sym (tallied_done a.count i (drop i a.numbers.now) (drop (2 * i) a.floats.now) c.loop-i.report (omega arith)) ∙ c.loop-i.invariant.1
