-- `bale_file::bale::fill_evidence` meets its contract. The loop's invariant: the words before this one are laid.
use Rattle.std.proofs.Common.{arith}
use Rattle.bale_file.specs.Laid.{laid_next}
use Rattle.bale_file.proofs.bale.fill_evidence.Goals as goal

pub loop-i-preserved : goal.loop-i-preserved
loop-i-preserved c =
    laid_next _ _ c.loop-i.i c.args.words.now c.args.evidence.now _ _ _ (omega arith) (omega arith) c.loop-i.invariant c.absent.ensures c.present.ensures
