-- `steps::log::residual_at` meets its contract.
use Rattle.std.proofs.Common.{ap, ◌∙◌, ℕ, ◌+◌, ◌-◌, ◌*◌, get_or}
use Rattle.list_laws.specs.Part.{region}
use Rattle.messages.specs.Residual.{residual_of}
use Rattle.steps.specs.StepLog.{residual_along}
use Rattle.steps.proofs.log.residual_at.Goals as goal

pub returns : goal.returns
returns c =
    let a = c.args in
    let begin = get_or a.offsets.now a.d 0 in
    let end = get_or a.offsets.now (a.d + 1) 0 in
    λ firsts starts p.
    c.residual.ensures
    ∙ ap (λ (n : ℕ). residual_of (region a.w.now begin (end - begin)) (region a.w.now (2 * n + begin) (2 * n + end - (2 * n + begin)))) c.row_len-log.ensures
    ∙ residual_along firsts starts a.offsets.now a.w.now a.d c.requires.along p
