-- `zero_lookahead::pending::add_to_others` meets its contract.
use Rattle.std.proofs.Common.{◌*◌, ◌≡◌, length}
use Rattle.definition.specs.Run.{add_pending}
use Rattle.list_laws.specs.Part.{region}
use Rattle.messages.specs.LayoutWords.{others_to}
use Rattle.steps.specs.StepPending.{AllKept}
use Rattle.zero_lookahead.specs.StepQueue.{WaitingAt, OnlyAt}
use Rattle.zero_lookahead.proofs.pending.add_to_others.Given as goal

abbrev pub invariant-loop-k : goal.invariant-loop-k
invariant-loop-k l =
    let os = region l.initial.words l.outs (length l.initial.pending) in record {
      waiting : WaitingAt l.queue l.leaves l.pending l.words;
      only : OnlyAt l.queue (2 * l.leaves) l.initial.words l.words;
      added : l.pending ≡ add_pending l.r (others_to os l.from l.d l.k) l.initial.pending;
      kept : AllKept l.leaves (length l.initial.pending) (add_pending l.r (others_to os l.from l.d l.to) l.initial.pending) (others_to os l.from l.d l.k)
          (region l.initial.words l.queue (2 * l.leaves)) (region l.words l.queue (2 * l.leaves));
    }
