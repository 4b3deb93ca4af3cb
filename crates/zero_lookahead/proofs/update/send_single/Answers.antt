-- `zero_lookahead::update::send_single` meets its contract.
use mathlib.Core.Path.{ap}
use Rattle.definition.specs.Settings as definition
use Rattle.definition.specs.Vectors.{binary}
use Rattle.steps.specs.StepUpdate.{single_reads}
use Rattle.zero_lookahead.specs.StepReads.{start-node}
use Rattle.zero_lookahead.specs.StepSingle.{single_sender, single_at, single_stands}
use Rattle.zero_lookahead.proofs.update.send_single.Goals as goal

pub belief_of-belief-requires : goal.belief_of-belief-requires
belief_of-belief-requires c =
    let a = c.args in
    let S = c.requires.some_standing.0 in
    single_sender S.settings S.graph a.out a.evidence.now S.store a.words.now a.w.now S.stands a.d a.n c.requires.some_standing.1

pub update_single-requires : goal.update_single-requires
update_single-requires c =
    let a = c.args in
    let S = c.requires.some_standing.0 in
    let G = S.given in
    let z = c.belief_of-belief in
    let m = binary z.result.absent z.result.present in
    let p = single_at S.settings S.graph a.out a.evidence.now S.store a.words.now a.w.now S.stands a.d a.n c.requires.some_standing.1 a.settings m G
    (λ v. z.ensures S.settings S.graph a.out S.stands.part (ap (λ (y : definition.Settings). y.prior) G) (start-node S.settings S.graph a.out a.evidence.now a.words.now S.stands.part a.d a.n c.requires.some_standing.1.there c.requires.some_standing.1.start) v) in
    record {
      single_reads = rw (c.kinds_row-kinds.ensures, c.firsts_row-firsts.ensures, c.starts_row-starts.ensures, c.outs_row-outs.ensures) (single_reads _ _ _ _ _ a.w.now a.d m a.settings.alpha a.settings.beta a.settings.regularised p);
      single_at = rw (c.kinds_row-kinds.ensures, c.firsts_row-firsts.ensures, c.starts_row-starts.ensures, c.outs_row-outs.ensures, c.offsets_row-offsets.ensures) p;
    }

pub returns : goal.returns
returns c =
    let a = c.args in
    let u = rw (c.kinds_row-kinds.ensures, c.firsts_row-firsts.ensures, c.starts_row-starts.ensures, c.outs_row-outs.ensures, c.offsets_row-offsets.ensures) at c.update_single.ensures in
    let z = c.belief_of-belief in
    let m = binary z.result.absent z.result.present in
    λ s t x p q W G.
    let S = W.stands in
    let at = single_at s t a.out a.evidence.now x a.words.now a.w.now S a.d a.n c.requires.some_standing.1 a.settings m G
    (λ v. z.ensures s t a.out S.part (ap (λ (y : definition.Settings). y.prior) G) (start-node s t a.out a.evidence.now a.words.now S.part a.d a.n c.requires.some_standing.1.there c.requires.some_standing.1.start) v) in
    single_stands s t a.out a.evidence.now x a.words.now a.w.now S a.d a.n c.requires.some_standing.1 _ (u at) p q W.pending_is W.queue_is
