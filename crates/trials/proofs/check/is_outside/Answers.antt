-- `check::is_outside` meets its contract.
use Rattle.std.proofs.Common.{ℕ, ◌≡◌, Bool, true, false, cond, not, ◌&&◌, leb, ltb, eqb, Less, Equal, Greater, is_le, arith, refl, sym, le-leb, ltb-true, ltb-false, eqb-true}
use Rattle.std.proofs.lemmas.Bool.{lt-leb, eqb-false}
use Rattle.definition.specs.Trials.{outside_range}
use Rattle.trials.proofs.check.is_outside.Goals as goal

-- a comparison is made by two tests
at_most : (a b : ℕ) → is_le (cond (ltb a b) Less (cond (eqb a b) Equal Greater)) ≡ leb a b
at_most a b = go (ltb a b) (eqb a b) refl refl
  where
    go : (l e : Bool) → ltb a b ≡ l → eqb a b ≡ e → is_le (cond l Less (cond e Equal Greater)) ≡ leb a b
    go true e p q = sym (le-leb a b (omega (arith, ltb-true a b p)))
    go false true p q = sym (le-leb a b (omega (arith, eqb-true a b q)))
    go false false p q = sym (lt-leb a b (omega (arith, ltb-false a b p, eqb-false a b q)))

pub returns : goal.returns
unfolding outside_range
returns c =
    let n = c.new.ensures in
    let x = c.args.number in
    rw (c.contains.ensures.value, n.exhausted, n.start, n.end) (λ i. not (at_most 1 x i && at_most x 1023 i))
