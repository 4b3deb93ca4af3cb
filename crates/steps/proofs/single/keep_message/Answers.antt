-- `steps::single::keep_message` meets its contract.
use Rattle.std.proofs.Common.{ℕ, ◌+◌, ◌-◌, ◌∙◌, get_or, ap, arith}
use Rattle.list_laws.specs.Part.{region}
use Rattle.list_laws.specs.Put.{put}
use Rattle.list_laws.specs.Slices.{copy_within-put}
use Rattle.steps.specs.StepSingle.{along_apart, keep_both}
use Rattle.steps.proofs.single.keep_message.Goals as goal

pub returns : goal.returns
returns c =
    let a = c.args in
    let D = c.requires in
    let at = get_or a.offsets.now a.d 0 in
    let end = get_or a.offsets.now (a.d + 1) 0 in
    c.copy_within.ensures.after
    ∙ copy_within-put a.w.now at end (c.row_len.result + at) (end - at) (along_apart a.offsets.now a.w.now a.d D).from_in (omega (arith, D.two))
    ∙ ap (λ (n : ℕ). put a.w.now (n + at) (region a.w.now at (end - at))) c.row_len.ensures
    ∙ keep_both a.offsets.now a.w.now a.d D
