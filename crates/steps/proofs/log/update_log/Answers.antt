-- `steps::log::update_log` meets its contract.
use Rattle.std.proofs.Common.{ℕ, ◌+◌, ◌-◌, ◌*◌, ◌∙◌, get_or, length, sym, ap, subst, arith}
use Rattle.list_laws.specs.Part.{region}
use Rattle.list_laws.specs.Put.{put}
use Rattle.list_laws.specs.Slices.{copy_within-put}
use Rattle.messages.specs.State.{part_floats}
use Rattle.steps.specs.declared.log.Changed.{Changed}
use Rattle.steps.specs.StepChanged.{changed_from}
use Rattle.steps.specs.StepLog.{around_copied, ChangedBelow, logged, node_in, part-long, log_apart, log_all, log_one, log_around}
use Rattle.steps.proofs.log.update_log.Goals as goal

pub copy_node-requires-clause-node_in : goal.copy_node-requires-clause-node_in
copy_node-requires-clause-node_in c =
    let a = c.args in
    let k = c.in-One in
    node_in a.firsts.now a.starts.now a.offsets.now c.requires.0.words k.n (subst (λ (x : Changed). ChangedBelow (changed_from x) (length a.firsts.now))
    k.is c.requires.1)

pub copy_node-requires-clause-apart : goal.copy_node-requires-clause-apart
copy_node-requires-clause-apart c =
    let a = c.args in
    rw c.row_len-len.ensures (log_apart a.firsts.now a.starts.now a.offsets.now a.w.now c.requires.0)

pub copy_around-requires-clause-apart : goal.copy_around-requires-clause-apart
copy_around-requires-clause-apart c =
    let a = c.args in
    rw c.row_len-len.ensures (log_apart a.firsts.now a.starts.now a.offsets.now a.w.now c.requires.0)

pub returns-in-All : goal.returns-in-All
returns-in-All c =
    let a = c.args in
    λ p.
    c.copy_within.ensures.after
    ∙ copy_within-put a.w.now 0 c.row_len-len.result (2 * c.row_len-len.result) c.row_len-len.result
    (omega (arith, part-long a.firsts.now a.starts.now a.offsets.now a.w.now c.requires.0, c.row_len-len.ensures)) (omega arith)
    ∙ ap (λ (n : ℕ). put a.w.now (2 * n) (region a.w.now 0 n)) c.row_len-len.ensures
    ∙ log_all a.firsts.now a.starts.now a.offsets.now a.w.now p
    ∙ ap (λ (x : Changed). part_floats p.r_in p.r_new (logged p.words.graph (changed_from x) p.r_in p.r_log) p.r_build p.pending p.rest) (sym c.in-All.is)

pub returns-in-One : goal.returns-in-One
returns-in-One c =
    let a = c.args in
    let k = c.in-One in
    let m = k.n in
    let o = get_or a.offsets.now (get_or a.firsts.now m 0) 0 in
    let s = get_or a.offsets.now (get_or a.firsts.now (m + 1) 0) 0 - o in
    λ p.
    c.copy_node.ensures
    ∙ ap (λ (n : ℕ). put a.w.now (2 * n + o) (region a.w.now (0 + o) s)) c.row_len-len.ensures
    ∙ log_one a.firsts.now a.starts.now a.offsets.now a.w.now p m (subst (λ (x : Changed). ChangedBelow (changed_from x) (length a.firsts.now)) k.is
    c.requires.1)
    ∙ ap (λ (x : Changed). part_floats p.r_in p.r_new (logged p.words.graph (changed_from x) p.r_in p.r_log) p.r_build p.pending p.rest) (sym k.is)

pub returns-in-Around : goal.returns-in-Around
returns-in-Around c =
    let a = c.args in
    let k = c.in-Around in
    let m = k.n in
    λ p.
    c.copy_around.ensures p.words
    ∙ ap (λ (n : ℕ). around_copied p.words.graph a.w.now 0 (2 * n) m) c.row_len-len.ensures
    ∙ log_around a.firsts.now a.starts.now a.offsets.now a.w.now p m
    ∙ ap (λ (x : Changed). part_floats p.r_in p.r_new (logged p.words.graph (changed_from x) p.r_in p.r_log) p.r_build p.pending p.rest) (sym k.is)
