-- `shift::take_read` meets its contract.
use Rattle.std.specs.Prelude.{refl}
use Rattle.std.proofs.Common.{arith, length-take-le}
use Rattle.shift_laws.specs.Ended.{open_bale, open_short}
use Rattle.shift.specs.Held.{held-read}
use Rattle.shift.proofs.take_read.Goals as goal

pub list_piece-went-requires-clause-some_open_in : goal.list_piece-went-requires-clause-some_open_in
list_piece-went-requires-clause-some_open_in g c =
    let s = c.requires.some_going in
    record { bytes = open_bale s.came.bytes; held = s.holds.over.held s.written }

pub list_piece-went-requires-clause-piece_bound : goal.list_piece-went-requires-clause-piece_bound
list_piece-went-requires-clause-piece_bound g c =
    let s = c.requires.some_going in
    let o = s.holds.over.held s.written in
    omega (arith, o.taken.counted, open_short s.came.bytes, s.few, c.requires.buffer_len_bound, length-take-le c.count-n.result c.args.buffer.now c.count-n.ensures.within, c.count-n.ensures.within)

pub overflow_add-bytes : goal.overflow_add-bytes
overflow_add-bytes g c =
    let s = c.requires.some_going in
    omega (arith, s.holds.counted, s.few, c.requires.buffer_len_bound, c.count-n.ensures.within)

pub returns : goal.returns
returns g c before x h =
    let n = c.count-n in
    let w = c.list_piece-went in
    let all = c.requires.some_going.written in
    held-read x c.args.got c.args.buffer.now n.result n.ensures.value n.ensures.within before _ _ c.args.shift _ _ _ _ _ h all
    (w.ensures (open_bale x.bytes) (h.over.held all)) refl c.phase_after-phase.ensures
