-- `steps::single::update_single` meets its contract.
use mathlib.Core.Path.{sym, ap, ◌∙◌}
use Prim.Native.Nat.{ℕ}
use lib.ListN.{get_or}
use Rattle.definition.specs.Vectors.{binary}
use Rattle.steps.specs.StepUpdate.{single_along, single_holder, single_variable, single_kept, single_sender, single_factor}
use Rattle.steps.proofs.single.update_single.Goals as goal

pub update_variable-requires : goal.update_variable-requires
update_variable-requires c =
    let a = c.args in
    record { along = (single_along a.kinds.now a.firsts.now a.starts.now a.outs.now a.offsets.now a.w.now a.d (binary a.belief.absent a.belief.present) a.alpha a.beta a.regularised c.requires.single_at, single_holder a.kinds.now a.firsts.now a.starts.now a.outs.now a.offsets.now a.w.now a.d (binary a.belief.absent a.belief.present) a.alpha a.beta a.regularised c.requires.single_at c.if-kinds-n.true) }

pub returns-then-kinds-n : goal.returns-then-kinds-n
returns-then-kinds-n c =
    let a = c.args in
    λ p. c.update_variable.ensures ∙ single_variable a.kinds.now a.firsts.now a.starts.now a.outs.now a.offsets.now a.w.now a.d (binary a.belief.absent a.belief.present) a.alpha a.beta a.regularised p c.if-kinds-n.true

pub keep_message-requires : goal.keep_message-requires
keep_message-requires c =
    let a = c.args in
    single_along a.kinds.now a.firsts.now a.starts.now a.outs.now a.offsets.now a.w.now a.d (binary a.belief.absent a.belief.present) a.alpha a.beta a.regularised c.requires.single_at

pub returns-then-kinds-end_of : goal.returns-then-kinds-end_of
returns-then-kinds-end_of c =
    let a = c.args in
    λ p. c.keep_message.ensures ∙ single_kept a.kinds.now a.firsts.now a.starts.now a.outs.now a.offsets.now a.w.now a.d (binary a.belief.absent a.belief.present) a.alpha a.beta a.regularised p c.if-kinds-n.false (ap (λ (i : ℕ). get_or a.kinds.now i 0) (sym c.end_of.ensures) ∙ c.if-kinds-end_of.true)

pub update_factor-requires : goal.update_factor-requires
update_factor-requires c =
    let a = c.args in
    let S = single_sender a.kinds.now a.firsts.now a.starts.now a.outs.now a.offsets.now a.w.now a.d (binary a.belief.absent a.belief.present) a.alpha a.beta a.regularised c.requires.single_at c.if-kinds-n.false (λ q. c.if-kinds-end_of.false (ap (λ (i : ℕ). get_or a.kinds.now i 0) c.end_of.ensures ∙ q)) in
    (single_along a.kinds.now a.firsts.now a.starts.now a.outs.now a.offsets.now a.w.now a.d (binary a.belief.absent a.belief.present) a.alpha a.beta a.regularised c.requires.single_at, S.0, S.1)

pub returns : goal.returns
returns c =
    let a = c.args in
    λ p. c.update_factor.ensures ∙ single_factor a.kinds.now a.firsts.now a.starts.now a.outs.now a.offsets.now a.w.now a.d (binary a.belief.absent a.belief.present) a.alpha a.beta a.regularised p c.if-kinds-n.false (λ q. c.if-kinds-end_of.false (ap (λ (i : ℕ). get_or a.kinds.now i 0) c.end_of.ensures ∙ q))
