-- `zero_lookahead::step::scheduled_step` meets its contract.
use Prim.Native.Nat.{ℕ, ◌+◌}
use mathlib.Core.Path.{◌∙◌, subst}
use Rattle.messages.specs.State.{changed_of}
use Rattle.steps.specs.StepChanged.{changed_from}
use Rattle.steps.specs.StepLog.{ChangedBelow}
use Rattle.zero_lookahead.specs.Part.{queue_row}
use Rattle.zero_lookahead.specs.Step.{running_with, running_adding, added-front, added-nodes, running_all}
use Rattle.zero_lookahead.specs.StepStands.{logged_store, residual_sign}
use Rattle.zero_lookahead.proofs.step.scheduled_step.Goals as goal

pub update_message-next-requires : goal.update_message-next-requires
update_message-next-requires c =
    let a = c.args in
    let Y = c.requires.some_running in
    let W = (c.log_changed.ensures Y.settings Y.graph a.evidence.now Y.state.store Y.state.pending (queue_row a.words.now a.out) (running_with Y.settings Y.graph a.out a.evidence.now Y.state a.words.now a.w.now Y.runs)) in
    record { some_standing = (record { settings = Y.settings; given = Y.given; graph = Y.graph; store = logged_store Y.graph (changed_of Y.graph (changed_from a.changed)) Y.state.store; stands = W.stands }, c.requires.d_bound.0) }

pub add_along-requires : goal.add_along-requires
add_along-requires c =
    let a = c.args in
    let Y = c.requires.some_running in
    let U = (c.update_message-next.ensures.updated Y.settings Y.graph (logged_store Y.graph (changed_of Y.graph (changed_from a.changed)) Y.state.store) Y.state.pending (queue_row a.words.now a.out) (c.log_changed.ensures Y.settings Y.graph a.evidence.now Y.state.store Y.state.pending (queue_row a.words.now a.out) (running_with Y.settings Y.graph a.out a.evidence.now Y.state a.words.now a.w.now Y.runs)) Y.given) in
    running_adding Y.settings Y.graph a.out a.evidence.now Y.state a.words.now a.w.now Y.runs a.d c.requires.d_bound.0 _ c.update_message-next.new.words c.update_message-next.new.w U.stands c.residual_along-r.result (residual_sign Y.settings Y.graph a.out a.evidence.now Y.state.store a.words.now a.w.now Y.runs.stands a.d c.residual_along-r.result (c.residual_along-r.ensures Y.settings Y.graph a.evidence.now Y.state.store Y.runs.stands))

pub returns : goal.returns
returns c =
    let a = c.args in
    let Y = c.requires.some_running in
    let u = c.update_message-next in
    let z = c.add_along in
    let r = c.residual_along-r in
    let U = (c.update_message-next.ensures.updated Y.settings Y.graph (logged_store Y.graph (changed_of Y.graph (changed_from a.changed)) Y.state.store) Y.state.pending (queue_row a.words.now a.out) (c.log_changed.ensures Y.settings Y.graph a.evidence.now Y.state.store Y.state.pending (queue_row a.words.now a.out) (running_with Y.settings Y.graph a.out a.evidence.now Y.state a.words.now a.w.now Y.runs)) Y.given) in
    let front = added-front Y.settings Y.graph a.out a.evidence.now Y.state a.words.now a.w.now Y.runs a.d c.requires.d_bound.0 _ u.new.words u.new.w U.stands r.result z.new.words z.new.w z.ensures in
    let nodes = added-nodes Y.settings Y.graph a.out a.evidence.now Y.state a.words.now a.w.now Y.runs a.d c.requires.d_bound.0 _ u.new.words u.new.w U.stands r.result z.new.words z.new.w z.ensures in record {
      kept_front = (front ∙ u.ensures.kept_front.0, subst (λ (n : ℕ). ChangedBelow (changed_from u.result) (n + 1)) nodes u.ensures.kept_front.1);
      runs = λ s t x h R G e f.
          running_all s t a.out a.evidence.now x a.words.now a.w.now R a.d c.requires.d_bound.0 (changed_from a.changed) f r.result (r.ensures s t a.evidence.now x.store R.stands) u.new.words u.new.w (changed_from u.result)
          (u.ensures.updated s t (logged_store t (changed_of t (changed_from a.changed)) x.store) x.pending (queue_row a.words.now a.out)
          (c.log_changed.ensures s t a.evidence.now x.store x.pending (queue_row a.words.now a.out) (running_with s t a.out a.evidence.now x a.words.now a.w.now R)) G)
          z.new.words z.new.w z.ensures h e;
    }
