-- `zero_lookahead::pending::add_along` meets its contract.
use native.Mathlib.Omega.{arith}
use mathlib.Core.Path.{ap, ◌∙◌}
use Rattle.steps.specs.StepLog.{total}
use Rattle.zero_lookahead.specs.StepAdded.{along_room, along_adding, along_added}
use Rattle.zero_lookahead.specs.StepReads.{offsets_there}
use Rattle.zero_lookahead.proofs.pending.add_along.Goals as goal

pub row_len-from-requires : goal.row_len-from-requires
row_len-from-requires c =
    let a = c.args in
    rw c.offsets_row-offsets.ensures (offsets_there a.out a.words.now c.requires.adding.part)

pub overflow_mul-from : goal.overflow_mul-from
overflow_mul-from c =
    let a = c.args in
    let e = (c.row_len-from.ensures ∙ ap total c.offsets_row-offsets.ensures) in
    omega (arith, e, c.requires.room)

pub overflow_add-to : goal.overflow_add-to
overflow_add-to c =
    let a = c.args in
    let e = (c.row_len-from.ensures ∙ ap total c.offsets_row-offsets.ensures) in
    omega (arith, along_room a.out a.d a.r a.words.now a.w.now c.requires c.row_len-from.result c.word.result e c.word.ensures.0)

pub offset_bounds-w-from : goal.offset_bounds-w-from
offset_bounds-w-from c =
    let a = c.args in
    let e = (c.row_len-from.ensures ∙ ap total c.offsets_row-offsets.ensures) in
    omega (arith, along_room a.out a.d a.r a.words.now a.w.now c.requires c.row_len-from.result c.word.result e c.word.ensures.0)

pub slice_bounds-add_residual-end : goal.slice_bounds-add_residual-end
slice_bounds-add_residual-end c =
    let a = c.args in
    along_room a.out a.d a.r a.words.now a.w.now c.requires c.row_len-from.result c.word.result (c.row_len-from.ensures ∙ ap total c.offsets_row-offsets.ensures) c.word.ensures.0

pub add_residual-requires : goal.add_residual-requires
add_residual-requires c =
    let a = c.args in
    along_adding a.out a.d a.r a.words.now a.w.now c.requires c.row_len-from.result c.word.result (c.row_len-from.ensures ∙ ap total c.offsets_row-offsets.ensures) c.word.ensures.0

pub returns : goal.returns
returns c =
    let a = c.args in
    let z = c.add_residual in
    along_added a.out a.d a.r a.words.now a.w.now c.requires c.row_len-from.result c.word.result (c.row_len-from.ensures ∙ ap total c.offsets_row-offsets.ensures) c.word.ensures.0 z.new.pending z.new.words z.ensures
