-- `zero_lookahead::pending::add_to_others` meets its contract.
use Rattle.std.proofs.Common.{◌≡◌, ℕ, ◌*◌, ◌<◌, ◌∙◌, get_or, set, length, ap, subst, arith}
use Rattle.std.proofs.Math.Option.{some}
use Rattle.definition.specs.Floats.{◌⊕◌, zeroᶠ}
use Rattle.list_laws.specs.Part.{region}
use Rattle.messages.specs.LayoutPending.{pending_none, pending_pass, pending_step}
use Rattle.steps.specs.StepPending.{OneKept, all_none, all_pass, all_step}
use Rattle.zero_lookahead.specs.StepQueue.{only_none, only_next, other_read}
use Rattle.zero_lookahead.proofs.pending.add_to_others.Goals as goal
use Rattle.zero_lookahead.proofs.pending.add_to_others.Goals.{then-k-d, else-k-d}

pub loop-k-init : goal.loop-k-init
loop-k-init c =
    let a = c.args in
    let os = region a.words.now a.outs (length a.pending.now) in
    let O = c.requires.others_at.0.others in
    record {
      waiting = c.requires.waiting_at;
      only = only_none a.queue (2 * a.leaves) a.words.now c.requires.waiting_at.room;
      added = pending_none os a.from a.d O.begins a.r a.pending.now;
      kept = all_none a.leaves os a.from a.to a.d a.pending.now O a.r (region a.words.now a.queue (2 * a.leaves));
    }

pub add_at-requires-clause-d_in_bounds : goal.add_at-requires-clause-d_in_bounds
add_at-requires-clause-d_in_bounds c =
    let l = c.loop-k in
    let a = c.args in
    let n = length a.pending.now in
    let O = c.requires.others_at.0.others in
    let e = other_read a.queue a.leaves a.words.now c.requires.waiting_at.room a.outs a.from a.to a.d n c.requires.others_at.0 l.words l.invariant.only l.k
    (omega arith) c.word-o.result c.word-o.ensures.0 in
    (omega (arith, e, O.there l.k (omega (arith, O.within)), l.auto.pending), c.requires.others_at.1)

pub loop-k-preserved : goal.loop-k-preserved
loop-k-preserved c =
    let l = c.loop-k in
    let a = c.args in
    let n = length a.pending.now in
    let os = region a.words.now a.outs n in
    let O = c.requires.others_at.0.others in
    let m = 2 * a.leaves in
    elim c.if-k-d.branch [
      | then-k-d w ↦
          let z : l.k ≡ a.d → ⊥ = w.if-k-d.true in
          let y = w.add_at.ensures in
          let o = get_or os l.k 0 in
          let e : w.word-o.result ≡ o =
          other_read a.queue a.leaves a.words.now c.requires.waiting_at.room a.outs a.from a.to a.d n c.requires.others_at.0 l.words l.invariant.only l.k
          (omega arith) w.word-o.result w.word-o.ensures.0 in
          let there : o < n = O.there l.k (omega (arith, O.within)) in
          let put : w.add_at.new.pending ≡ set l.pending o (get_or l.pending o zeroᶠ ⊕ a.r) =
          y.pending_after ∙ ap (λ (i : ℕ). set l.pending i (get_or l.pending i zeroᶠ ⊕ a.r)) e in
          let one = subst (λ (i : ℕ). OneKept a.leaves (length l.pending) i (some (get_or l.pending i zeroᶠ ⊕ a.r)) (region l.words a.queue m)
          (region w.add_at.new.words a.queue m)) e y.one_kept in
          record {
            waiting = rw (w.pending-is, w.words-is) y.waiting_at_2;
            only = rw w.words-is (only_next a.queue m a.words.now c.requires.waiting_at.room l.words w.add_at.new.words l.invariant.only y.only_at);
            added =
                rw w.pending-is (put ∙ pending_step os a.from a.d O.begins l.k l.auto.k (omega (arith, O.within, O.long)) z a.r a.pending.now l.pending
                zeroᶠ there l.invariant.added);
            kept =
                rw w.words-is
                (all_step a.leaves os a.from a.to a.d a.pending.now O a.r l.k l.auto.k (omega arith) z l.pending l.invariant.added
                (region a.words.now a.queue m) (region l.words a.queue m) (region w.add_at.new.words a.queue m)
                l.invariant.kept one);
          }
      | else-k-d w ↦
          let z : l.k ≡ a.d = w.if-k-d.false in
          record {
            waiting = rw (w.pending-is, w.words-is) l.invariant.waiting;
            only = rw w.words-is l.invariant.only;
            added = rw w.pending-is (pending_pass os a.from a.d O.begins a.r a.pending.now l.pending l.k z l.invariant.added);
            kept =
                rw w.words-is (all_pass a.leaves os a.from a.to a.d a.pending.now O a.r l.k z (region a.words.now a.queue m) (region l.words a.queue m)
                l.invariant.kept);
          }
    ]
