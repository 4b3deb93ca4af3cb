-- `input::take_bale` meets its contract.
use native.Mathlib.Omega.{arith}
use Rattle.bale_answer.specs.Open.{used_of_piece, took}
use Rattle.bale_answer.proofs.input.take_bale.Goals as goal

pub overflow_add-taken : goal.overflow_add-taken
overflow_add-taken c =
    omega (arith, used_of_piece _ _ _ _ _ c.feed_bale-fed.ensures.pairs_after, c.requires.piece_bound)

pub returns : goal.returns
returns c =
    let f = c.feed_bale-fed in
    λ bs o. took bs _ _ _ _ _ _ f.result o c.requires.piece_bound f.ensures.pairs_after f.auto.markers f.auto.pairs
