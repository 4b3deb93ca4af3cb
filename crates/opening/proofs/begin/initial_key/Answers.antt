-- `opening::begin::initial_key` meets its contract.
use mathlib.Core.Path.{ap, sym, ◌∙◌, subst}
use lib.Dec.{T}
use lib.Ieee.{Float}
use Rattle.float_laws.specs.Rounded.{clear}
use Rattle.definition.specs.Run.{initial_priority}
use Rattle.priorities.specs.Keys.{encode_key}
use Rattle.opening.specs.Begin.{residual-clear, key_waits, key_none}
use Rattle.opening.proofs.begin.initial_key.Goals as goal

pub residual-amount-requires : goal.residual-amount-requires
residual-amount-requires c = record { in_bounds = c.requires.in_bounds }

pub key_of-requires : goal.key_of-requires
key_of-requires c =
    subst (λ (x : Float). T (clear x)) (sym c.residual-amount.ensures) (residual-clear c.args.message.now c.args.log.now c.requires.in_bounds.1)

pub returns-then-tolerance-amount : goal.returns-then-tolerance-amount
returns-then-tolerance-amount c =
    let a = c.args in
    let r = c.residual-amount in
    key_waits a.tolerance r.result c.key_of.result c.if-tolerance-amount.true c.key_of.ensures.0 ∙ ap (λ (x : Float). encode_key (initial_priority a.tolerance x)) r.ensures

pub returns : goal.returns
returns c =
    let a = c.args in
    let r = c.residual-amount in
    key_none a.tolerance r.result c.if-tolerance-amount.false ∙ ap (λ (x : Float). encode_key (initial_priority a.tolerance x)) r.ensures
