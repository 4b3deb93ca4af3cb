-- `array_utils::power::powi` meets its contract: the product so far times the power that is left is the power.
use mathlib.Core.Path.{◌∙◌}
use native.Mathlib.Omega.{arith}
use Rattle.definition.specs.Floats.{powi}
use Rattle.array_utils.specs.PowerLaws.{power_zero, power_one, power_odd, power_even}
use Rattle.array_utils.proofs.power.powi.Goals as goal
use Rattle.array_utils.proofs.power.powi.Goals.{then-rest-eq1, else-rest-eq1}

pub loop-rest-preserved : goal.loop-rest-preserved
loop-rest-preserved c =
    let l = c.loop-rest in
    elim c.if-rest-eq1.branch [
      | then-rest-eq1 w ↦ rw w.product-is (power_odd l.product l.square l.rest w.if-rest-eq1.true ∙ l.invariant)
      | else-rest-eq1 w ↦ rw w.product-is (power_even l.product l.square l.rest w.if-rest-eq1.false ∙ l.invariant)
    ]

pub returns-then-rest-eq1-2 : goal.returns-then-rest-eq1-2
unfolding powi
returns-then-rest-eq1-2 c = let l = c.loop-rest in power_one l.product l.square l.rest c.if-rest-eq1-2.true ∙ l.invariant

pub returns-else-rest-eq1-2 : goal.returns-else-rest-eq1-2
unfolding powi
returns-else-rest-eq1-2 c = let l = c.loop-rest in power_zero l.product l.square l.rest (omega arith) ∙ l.invariant
