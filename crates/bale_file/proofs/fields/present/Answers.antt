-- `bale_file::fields::present` meets its contract.
use Prim.Native.Nat.{ℕ}
use native.Mathlib.Omega.{arith}
use mathlib.Core.Path.{sym, ap, ◌∙◌}
use mathlib.Core.Option.{Option, some}
use Rattle.definition.specs.Floats.{◌⊗◌}
use Rattle.definition.specs.BaleFile.{evidence_of}
use Rattle.bale_file.specs.Base.{rate_none, rate_of_lem}
use Rattle.bale_file.specs.Fractions.{present_based}
use Rattle.bale_file.proofs.fields.present.Goals as goal

pub returns-then-base-eq0 : goal.returns-then-base-eq0
returns-then-base-eq0 c =
    let a = c.args in
    c.bare_present.ensures ∙ ap (λ (r : Option ℕ). (evidence_of r a.word).present) (rate_none a.base c.if-base-eq0.true)

pub returns : goal.returns
returns c =
    let a = c.args in
    let n = c.lower_ten.result in
    let l = c.lower_ten.ensures in
    (λ i. c.bare_present-2.ensures i ⊗ c.over_1024.ensures i)
    ∙ present_based n a.word (omega (arith, l.1))
    ∙ ap (λ (r : Option ℕ). (evidence_of r a.word).present) (ap some l.0 ∙ sym (rate_of_lem a.base c.if-base-eq0.false))
