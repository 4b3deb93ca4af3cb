-- `bale::input::take_read` meets its contract.
use Rattle.bale.specs.Taking.{held-read}
use Rattle.bale.proofs.input.take_read.Goals as goal

pub returns : goal.returns
returns c bs h =
    let n = c.count-n in
    let t = c.take_piece-taken in
    held-read bs c.args.buffer.now c.args.got n.result n.ensures.value _ t.new.markers t.new.pairs (t.ensures bs h) n.ensures.within
    c.is_decided-enough.result c.is_decided-enough.ensures.value c.phase_after-phase.ensures
