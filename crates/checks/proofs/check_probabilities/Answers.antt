-- `checks::check_probabilities` meets its contract. Each test is `outside` of one setting, in their order.
use mathlib.Core.Bool.{true, false}
use mathlib.Core.Path.{◌≡◌, sym, ◌∙◌}
use lib.Ieee.{of_bits}
use Rattle.definition.specs.Refusals.{outside, least_probability, greatest_probability, lowest_place, lowest_place_from}
use Rattle.checks.proofs.check_probabilities.Goals as goal

pub returns-then-is_outside : goal.returns-then-is_outside
unfolding of_bits lowest_place lowest_place_from
returns-then-is_outside c =
    let a = c.args in
    let e1 : outside least_probability greatest_probability a.alpha ≡ true = sym c.is_outside.ensures ∙ c.if-is_outside.true in
    simp e1

pub returns-then-is_outside-2 : goal.returns-then-is_outside-2
unfolding of_bits lowest_place lowest_place_from
returns-then-is_outside-2 c =
    let a = c.args in
    let e2 : outside least_probability greatest_probability a.beta ≡ true = sym c.is_outside-2.ensures ∙ c.if-is_outside-2.true in
    let e1 : outside least_probability greatest_probability a.alpha ≡ false = sym c.is_outside.ensures ∙ c.if-is_outside.false in
    simp (e1, e2)

pub returns-then-is_outside-3 : goal.returns-then-is_outside-3
unfolding of_bits lowest_place lowest_place_from
returns-then-is_outside-3 c =
    let a = c.args in
    let e3 : outside least_probability greatest_probability a.prior ≡ true = sym c.is_outside-3.ensures ∙ c.if-is_outside-3.true in
    let e2 : outside least_probability greatest_probability a.beta ≡ false = sym c.is_outside-2.ensures ∙ c.if-is_outside-2.false in
    let e1 : outside least_probability greatest_probability a.alpha ≡ false = sym c.is_outside.ensures ∙ c.if-is_outside.false in
    simp (e1, e2, e3)

pub returns : goal.returns
unfolding of_bits lowest_place lowest_place_from
returns c =
    let a = c.args in
    let e3 : outside least_probability greatest_probability a.prior ≡ false = sym c.is_outside-3.ensures ∙ c.if-is_outside-3.false in
    let e2 : outside least_probability greatest_probability a.beta ≡ false = sym c.is_outside-2.ensures ∙ c.if-is_outside-2.false in
    let e1 : outside least_probability greatest_probability a.alpha ≡ false = sym c.is_outside.ensures ∙ c.if-is_outside.false in
    simp (e1, e2, e3)
