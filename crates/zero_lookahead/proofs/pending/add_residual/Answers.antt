-- `zero_lookahead::pending::add_residual` meets its contract.
use Prim.Native.Nat.{ℕ, ◌+◌, ◌*◌}
use native.Mathlib.Omega.{arith}
use mathlib.Core.Path.{ap}
use Rattle.zero_lookahead.specs.StepAdded.{adding-at, adding-others, added}
use Rattle.zero_lookahead.specs.StepReads.{nodes_few, end-there, first-there}
use Rattle.zero_lookahead.proofs.pending.add_residual.Goals as goal

pub first_of-from-requires : goal.first_of-from-requires
first_of-from-requires c =
    let a = c.args in
    let z = end-there a.out a.words.now c.requires.part a.d (omega (arith, c.requires.long, c.requires.there)) in
    first-there a.out a.words.now c.requires.part c.end_at-end.result (omega (arith, z, c.end_at-end.ensures.0))

pub overflow_add-end : goal.overflow_add-end
overflow_add-end c =
    let a = c.args in
    let z = end-there a.out a.words.now c.requires.part a.d (omega (arith, c.requires.long, c.requires.there)) in
    omega (arith, z, c.end_at-end.ensures.0, nodes_few a.out a.words.now c.requires.part)

pub first_of-to-requires : goal.first_of-to-requires
first_of-to-requires c =
    let a = c.args in
    let z = end-there a.out a.words.now c.requires.part a.d (omega (arith, c.requires.long, c.requires.there)) in
    first-there a.out a.words.now c.requires.part (c.end_at-end.result + 1) (omega (arith, z, c.end_at-end.ensures.0))

pub clear_at-requires : goal.clear_at-requires
clear_at-requires c =
    let a = c.args in
    record { waiting_at = adding-at a.out a.d a.r a.pending.now a.words.now c.requires c.leaves_in-leaves.result c.queue_at-queue.result c.leaves_in-leaves.ensures c.queue_at-queue.ensures; d_in_bounds = c.requires.there }

pub add_to_others-requires : goal.add_to_others-requires
add_to_others-requires c =
    let a = c.args in
    let z = c.clear_at in
    let e = c.word in record {
      waiting_at = z.ensures.waiting_at_2;
      others_at = (
        adding-others a.out a.d a.r a.pending.now a.words.now c.requires c.leaves_in-leaves.result c.queue_at-queue.result c.leaves_in-leaves.ensures c.queue_at-queue.ensures (a.out + 2 * e.result) c.end_at-end.result c.first_of-from.result c.first_of-to.result (ap (λ (n : ℕ). a.out + 2 * n) e.ensures.0) c.end_at-end.ensures.0 c.first_of-from.ensures c.first_of-to.ensures z.new.pending z.new.words z.ensures.pending_after z.ensures.only_at,
        c.requires.clear_sign,
      );
    }

pub returns : goal.returns
returns c =
    let a = c.args in
    let z = c.clear_at in
    let y = c.add_to_others in
    let e = c.word in
    added a.out a.d a.r a.pending.now a.words.now c.requires c.leaves_in-leaves.result c.queue_at-queue.result c.leaves_in-leaves.ensures c.queue_at-queue.ensures (a.out + 2 * e.result) c.end_at-end.result c.first_of-from.result c.first_of-to.result (ap (λ (n : ℕ). a.out + 2 * n) e.ensures.0) c.end_at-end.ensures.0 c.first_of-from.ensures c.first_of-to.ensures z.new.pending z.new.words z.ensures.pending_after z.ensures.only_at y.new.pending y.new.words z.ensures.one_kept y.ensures.waiting_at_2 y.ensures.only_at y.ensures.pending_after y.ensures.all_kept
