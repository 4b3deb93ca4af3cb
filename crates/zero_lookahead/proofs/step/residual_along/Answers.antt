-- `zero_lookahead::step::residual_along` meets its contract.
use Rattle.zero_lookahead.specs.StepStands.{stands_along, stands_part, stands_residual}
use Rattle.zero_lookahead.proofs.step.residual_along.Goals as goal

pub residual_at-requires : goal.residual_at-requires
residual_at-requires c =
    let a = c.args in
    let S = c.requires.some_stands.0 in
    record { along = rw c.offsets_row.ensures (stands_along S.settings S.graph a.out S.evidence S.store a.words.now a.w.now S.stands a.d c.requires.some_stands.1) }

pub returns : goal.returns
returns c =
    let a = c.args in
    let u = rw c.offsets_row.ensures at c.residual_at.ensures in
    λ s t evidence x S. stands_residual s t a.out evidence x a.words.now a.w.now S a.d _ (u _ _ (stands_part s t a.out evidence x a.words.now a.w.now S))
