-- `steps::single::update_factor` meets its contract.
use Rattle.std.proofs.Common.{◌≡◌, ℕ, ◌+◌, ◌-◌, ◌≤◌, ◌∙◌, length, get_or, ap, refl, arith}
use Rattle.std.specs.Float.{nan}
use Rattle.definition.specs.Vectors.{binary}
use Rattle.definition.specs.Messages.{out_message_factor}
use Rattle.graph_laws.specs.Lengths.{length-out_message_factor}
use Rattle.list_laws.specs.Part.{region}
use Rattle.list_laws.specs.Put.{put}
use Rattle.list_laws.specs.Slices.{copy_within-put}
use Rattle.node.specs.Rows.{given}
use Rattle.steps.specs.StepSingle.{computed_both}
use Rattle.steps.proofs.single.update_factor.Goals as goal

pub returns : goal.returns
returns c =
    let a = c.args in
    let f = c.factor_message in
    let at = get_or a.offsets.now a.d 0 in
    let n = get_or a.offsets.now (a.d + 1) 0 - at in
    let q = get_or a.offsets.now a.e 0 in
    let s = given a.alpha a.beta a.regularised in
    let i = binary (get_or a.w.now q nan) (get_or a.w.now (q + 1) nan) in
    let k : length (out_message_factor s n i) ≡ n = length-out_message_factor s n i in
    let D = c.requires.0 in
    let e = c.read-message.ensures.entries in
    let made = rw (e.0, e.1) at f.ensures in
    let long : at + n ≤ length f.new.w = omega (arith, f.auto.w, D.two, D.ends, D.rows) in
    c.copy_within.ensures.after
    ∙ copy_within-put f.new.w at (at + n) (c.row_len.result + at) n long refl
    ∙ ap (λ (r : ℕ). put f.new.w (r + at) (region f.new.w at n)) c.row_len.ensures
    ∙ computed_both a.offsets.now a.w.now f.new.w (out_message_factor s n i) a.d D k made
