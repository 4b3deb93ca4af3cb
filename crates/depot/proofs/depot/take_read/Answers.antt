-- `depot::depot::take_read` meets its contract.
use Rattle.std.specs.Prelude.{◌+◌, ◌<◌, ◌^◌, length, take}
use Rattle.std.proofs.Common.{arith, refl, length-take-le}
use Rattle.depot.specs.Held.{held-read}
use Rattle.depot.proofs.depot.take_read.Goals as goal

pub returns : goal.returns
returns c x h =
    let n = c.count-n in
    let s = c.requires.some_going in
    let l = length-take-le n.result c.args.buffer.now n.ensures.within in
    let few : length x.bytes + length (take n.result c.args.buffer.now) < 2 ^ 64 =
    omega (arith, l, h.counted, s.holds.counted, s.few, n.ensures.within, c.requires.buffer_len_bound) in
    let w = c.weigh_piece-weighing.ensures x.bytes h.weighs few in
    held-read _ x c.args.got c.args.buffer.now n.result n.ensures.value n.ensures.within c.args.depot _ _ _ _ _ _ _ h w refl c.phase_after-phase.ensures
