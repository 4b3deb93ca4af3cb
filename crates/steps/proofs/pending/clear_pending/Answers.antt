-- `steps::pending::clear_pending` meets its contract.
use mathlib.Core.Path.{refl}
use mathlib.Core.Option.{none}
use lib.Ieee.{of_bits}
use lib.ListN.{length}
use Rattle.definition.specs.Floats.{zeroᶠ}
use Rattle.steps.specs.StepPending.{waiting_after, one_kept}
use Rattle.steps.proofs.pending.clear_pending.Goals as goal

pub returns : goal.returns
unfolding of_bits
returns c =
    let a = c.args in
    let s = c.set in record { waiting_2 = waiting_after a.leaves a.pending.now a.words.now s.new.words a.d zeroᶠ c.requires.waiting tt s.ensures.queue_2; pending_after = refl; one_kept = one_kept a.leaves (length a.pending.now) a.d none 0 a.words.now s.new.words c.requires.d_in_bounds refl s.ensures.by_index }
