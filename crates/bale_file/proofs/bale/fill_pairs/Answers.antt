-- `bale_file::bale::fill_pairs` meets its contract. The loop's invariant: the words before this one are laid.
use Rattle.std.proofs.Common.{arith}
use Rattle.definition.specs.BaleFile.{pair_of}
use Rattle.bale_file.specs.Laid.{laid_next}
use Rattle.bale_file.proofs.bale.fill_pairs.Goals as goal

pub loop-i-preserved : goal.loop-i-preserved
unfolding pair_of
loop-i-preserved c =
    laid_next _ _ c.loop-i.i c.args.words.now c.args.pairs.now _ _ _ (omega arith) (omega arith) c.loop-i.invariant c.upper_ten.ensures.0 c.lower_ten.ensures.0
