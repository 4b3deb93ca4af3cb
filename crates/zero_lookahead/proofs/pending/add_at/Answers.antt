-- `zero_lookahead::pending::add_at` meets its contract.
use Rattle.zero_lookahead.specs.StepQueue.{lent-waits, lent-after, lent-only, lent-kept}
use Rattle.zero_lookahead.proofs.pending.add_at.Goals as goal

pub add_to_pending-requires : goal.add_to_pending-requires
add_to_pending-requires c =
    let a = c.args in
    record { waiting = lent-waits a.queue a.leaves a.pending.now a.words.now c.requires.waiting_at; d_in_bounds = c.requires.d_in_bounds }

pub returns : goal.returns
returns c =
    let a = c.args in
    let z = c.add_to_pending in
    let p = z.new.pending in
    let q = z.new.words in
    let W = z.ensures.waiting_2 in
    let o = (lent-only a.queue a.leaves a.pending.now a.words.now c.requires.waiting_at p q W) in
    let k = lent-kept a.queue a.leaves a.pending.now a.words.now c.requires.waiting_at p q W _ _ _ z.ensures.one_kept in
    record { waiting_at_2 = lent-after a.queue a.leaves a.pending.now a.words.now c.requires.waiting_at p q W; only_at = o; pending_after = z.ensures.pending_after; one_kept = k }
