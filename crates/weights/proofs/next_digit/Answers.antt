-- `weights::next_digit` meets its contract.
use Rattle.std.specs.Prelude.{ℕ, zero, suc, ◌+◌, ◌-◌, ◌*◌, ◌≡◌, refl, true, false, ◌&&◌, Option, None, Some, leb}
use Rattle.std.proofs.Common.{sym, ◌∙◌}
use Rattle.std.proofs.Math.Option.{none}
use Rattle.definition.specs.Tonnage.{at_most, next_digit}
use Rattle.weights.specs.Reading.{so_far}
use Rattle.weights.proofs.next_digit.Goals as goal

no_digit : (most : ℕ) (read : Option ℕ) (c : ℕ) → (leb 48 c && leb c 57) ≡ false → none ≡ next_digit most (so_far read) c
unfolding next_digit
no_digit most None c h = rw h
no_digit most (Some zero) c h = refl
no_digit most (Some (suc v)) c h = rw h

later : (most v c : ℕ) → (leb 48 c && leb c 57) ≡ true → (v ≡ 0 → ⊥) → at_most most (10 * v + (c - 48)) ≡ next_digit most (so_far (Some v)) c
unfolding next_digit
later most zero c h n = absurd (n refl)
later most (suc v) c h n = rw h

pub returns-then-not-is_ascii_digit : goal.returns-then-not-is_ascii_digit
returns-then-not-is_ascii_digit c = no_digit _ _ _ (sym c.is_ascii_digit.ensures.value ∙ c.if-not-is_ascii_digit.true)

pub returns-in-None : goal.returns-in-None
unfolding next_digit
returns-in-None c = rw (c.in-None.is, c.at_most.ensures, c.from-digit.ensures, sym c.is_ascii_digit.ensures.value, c.if-not-is_ascii_digit.false)

pub returns-in-Some-eq0 : goal.returns-in-Some-eq0
unfolding next_digit
returns-in-Some-eq0 c = rw (c.in-Some-eq0.is, sym c.in-Some-eq0.field-0-is, c.in-Some-eq0.field-0-test)

pub returns-in-Some : goal.returns-in-Some
returns-in-Some c =
    let some = rw c.in-Some.is at c.in-Some.value-test in
    rw (c.in-Some.is, c.at_most-in-Some.ensures, c.from-digit.ensures) (later _ _ _ (sym c.is_ascii_digit.ensures.value ∙ c.if-not-is_ascii_digit.false) some.1)
