-- `pieces::weigh_piece` meets its contract. What a turn weighed is said of whatever bytes came before the piece.
use Rattle.std.proofs.Common.{◌∙◌}
use Rattle.tonnage.specs.Pieces.{piece-next, piece-within}
use Rattle.tonnage.proofs.pieces.weigh_piece.Goals as goal

pub loop-at-preserved : goal.loop-at-preserved
loop-at-preserved c =
    let h = c.requires.some_weighs in
    let w = c.weigh_next-next in
    let x = c.loop-at in (
      (λ bs b. piece-next bs c.args.piece.now x.at _ _ _ _ _ (w.ensures _ (x.invariant.0 bs b)) c.loop-at-test.true),
      piece-within h.bytes c.args.piece.now x.at _ _ _ _ _ (w.ensures _ (x.invariant.0 h.bytes h.weighs)) c.loop-at-test.true,
      w.auto.work_floats ∙ x.invariant.2,
      w.auto.work_numbers ∙ x.invariant.3,
    )
