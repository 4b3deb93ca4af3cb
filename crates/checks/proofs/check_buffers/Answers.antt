-- `checks::check_buffers` meets its contract. The six tests decide `too_small`.
use native.Mathlib.Omega.{arith}
use borrow.Author.Tests.{lt-ltb, le-ltb}
use Rattle.definition.specs.Refusals.{bale_of, too_small, work_needed, lowest_place, lowest_place_from}
use Rattle.checks.specs.Slices.{length_markers, length_pairs, counts}
use Rattle.checks.proofs.check_buffers.Goals as goal

pub overflow_mul-work : goal.overflow_mul-work
overflow_mul-work c = omega (arith, counts _ _ _ c.requires)

pub overflow_add-work-3 : goal.overflow_add-work-3
overflow_add-work-3 c = omega (arith, counts _ _ _ c.requires)

pub returns-then-buffers-work : goal.returns-then-buffers-work
unfolding too_small work_needed bale_of lowest_place lowest_place_from
returns-then-buffers-work c = simp (length_markers, length_pairs, lt-ltb _ _ c.if-buffers-work.true)

pub returns-then-buffers-work-2 : goal.returns-then-buffers-work-2
unfolding too_small work_needed bale_of lowest_place lowest_place_from
returns-then-buffers-work-2 c = simp (length_markers, length_pairs, le-ltb _ _ c.if-buffers-work.false, lt-ltb _ _ c.if-buffers-work-2.true)

pub returns-then-buffers-count : goal.returns-then-buffers-count
unfolding too_small work_needed bale_of lowest_place lowest_place_from
returns-then-buffers-count c = simp (length_markers, length_pairs, le-ltb _ _ c.if-buffers-work.false, le-ltb _ _ c.if-buffers-work-2.false, lt-ltb _ _ c.if-buffers-count.true)

pub returns-then-buffers-count-2 : goal.returns-then-buffers-count-2
unfolding too_small work_needed bale_of lowest_place lowest_place_from
returns-then-buffers-count-2 c = simp (length_markers, length_pairs, le-ltb _ _ c.if-buffers-work.false, le-ltb _ _ c.if-buffers-work-2.false, le-ltb _ _ c.if-buffers-count.false, lt-ltb _ _ c.if-buffers-count-2.true)

pub returns-then-buffers-count-3 : goal.returns-then-buffers-count-3
unfolding too_small work_needed bale_of lowest_place lowest_place_from
returns-then-buffers-count-3 c = simp (length_markers, length_pairs, le-ltb _ _ c.if-buffers-work.false, le-ltb _ _ c.if-buffers-work-2.false, le-ltb _ _ c.if-buffers-count.false, le-ltb _ _ c.if-buffers-count-2.false, lt-ltb _ _ c.if-buffers-count-3.true)

pub returns-then-buffers-count-4 : goal.returns-then-buffers-count-4
unfolding too_small work_needed bale_of lowest_place lowest_place_from
returns-then-buffers-count-4 c = simp (length_markers, length_pairs, le-ltb _ _ c.if-buffers-work.false, le-ltb _ _ c.if-buffers-work-2.false, le-ltb _ _ c.if-buffers-count.false, le-ltb _ _ c.if-buffers-count-2.false, le-ltb _ _ c.if-buffers-count-3.false, lt-ltb _ _ c.if-buffers-count-4.true)

pub returns : goal.returns
unfolding too_small work_needed bale_of lowest_place lowest_place_from
returns c = simp (length_markers, length_pairs, le-ltb _ _ c.if-buffers-work.false, le-ltb _ _ c.if-buffers-work-2.false, le-ltb _ _ c.if-buffers-count.false, le-ltb _ _ c.if-buffers-count-2.false, le-ltb _ _ c.if-buffers-count-3.false, le-ltb _ _ c.if-buffers-count-4.false)
