-- `zero_lookahead::update::take_around` meets its contract.
use native.Mathlib.Omega.{arith}
use Rattle.messages.specs.State.{around}
use Rattle.zero_lookahead.specs.StepStands.{stands_part, stands_within, stands_taken}
use Rattle.zero_lookahead.proofs.update.take_around.Goals as goal

pub copy_neighbours-requires : goal.copy_neighbours-requires
copy_neighbours-requires c =
    let a = c.args in
    let S = c.requires.0 in
    let p = stands_part S.settings S.graph a.out S.evidence S.store a.words.now a.w.now S.stands in
    let i = stands_within S.settings S.graph a.out S.evidence S.store a.words.now a.w.now S.stands (around a.n) (omega (arith, c.requires.1)) in
    rw (c.firsts_row-firsts.ensures, c.starts_row-starts.ensures, c.offsets_row-offsets.ensures) (p, i)

pub returns : goal.returns
returns c =
    let a = c.args in
    let u = rw (c.firsts_row-firsts.ensures, c.starts_row-starts.ensures, c.offsets_row-offsets.ensures) at c.copy_neighbours.ensures in
    λ s t evidence x p q W. stands_taken s t a.out evidence x a.words.now a.w.now W.stands a.n _ (u (stands_part s t a.out evidence x a.words.now a.w.now W.stands)) p q W.pending_is W.queue_is
