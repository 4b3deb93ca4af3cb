-- `steps::pending::add_to_pending` meets its contract.
use mathlib.Core.Path.{ap, subst}
use mathlib.Core.Option.{some}
use lib.Ieee.{Float, nan}
use lib.ListN.{length, get_or, set}
use Rattle.definition.specs.Floats.{◌⊕◌, zeroᶠ}
use Rattle.messages.specs.LayoutLists.{get_d_any}
use Rattle.steps.specs.StepPending.{OneKept, waiting_after, one_kept, sum-clear}
use Rattle.steps.proofs.pending.add_to_pending.Goals as goal

pub key_of-requires : goal.key_of-requires
key_of-requires c =
    let a = c.args in
    sum-clear a.leaves a.pending.now a.words.now a.d a.r c.requires.waiting c.requires.d_in_bounds.0 c.requires.d_in_bounds.1

pub returns : goal.returns
returns c =
    let a = c.args in
    let p = a.pending.now in
    let d = a.d in
    let e = get_d_any p d nan zeroᶠ c.requires.d_in_bounds.0 in
    let k = sum-clear a.leaves p a.words.now d a.r c.requires.waiting c.requires.d_in_bounds.0 c.requires.d_in_bounds.1 in
    let f = c.set.ensures in record {
      waiting_2 = waiting_after a.leaves p a.words.now c.set.new.words d (get_or p d nan ⊕ a.r) c.requires.waiting k f.queue_2;
      pending_after = ap (λ (x : Float). set p d (x ⊕ a.r)) e;
      one_kept = subst (λ (x : Float). OneKept a.leaves (length p) d (some (x ⊕ a.r)) a.words.now c.set.new.words) e
          (one_kept a.leaves (length p) d (some (get_or p d nan ⊕ a.r)) c.key_of.result a.words.now c.set.new.words c.requires.d_in_bounds.0 c.key_of.ensures.0 f.by_index);
    }
