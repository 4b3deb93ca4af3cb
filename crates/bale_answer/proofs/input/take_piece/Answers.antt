-- `input::take_piece` meets its contract.
use mathlib.Core.Path.{refl}
use Rattle.bale_answer.specs.Taken.{taken_more}
use Rattle.bale_answer.proofs.input.take_piece.Goals as goal

pub returns : goal.returns
returns c = let f = c.feed-decoder in λ bs t. taken_more bs _ _ _ _ _ _ _ t c.requires.piece_bound f.ensures f.auto.markers f.auto.pairs refl
