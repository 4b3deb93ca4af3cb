-- `zero_lookahead::step::log_changed` meets its contract.
use Rattle.steps.specs.StepChanged.{changed_from}
use Rattle.zero_lookahead.specs.StepStands.{stands_part, stands_within, stands_logged}
use Rattle.zero_lookahead.proofs.step.log_changed.Goals as goal

pub update_log-requires : goal.update_log-requires
update_log-requires c =
    let a = c.args in
    let S = c.requires.0 in
    let p = stands_part S.settings S.graph a.out S.evidence S.store a.words.now a.w.now S.stands in
    let i = stands_within S.settings S.graph a.out S.evidence S.store a.words.now a.w.now S.stands (changed_from a.changed) c.requires.1 in
    rw (c.firsts_row-firsts.ensures, c.starts_row-starts.ensures, c.offsets_row-offsets.ensures) (p, i)

pub returns : goal.returns
returns c =
    let a = c.args in
    let u = rw (c.firsts_row-firsts.ensures, c.starts_row-starts.ensures, c.offsets_row-offsets.ensures) at c.update_log.ensures in
    λ s t evidence x p q W. stands_logged s t a.out evidence x p q a.words.now a.w.now W (changed_from a.changed) _ (u (stands_part s t a.out evidence x a.words.now a.w.now W.stands))
