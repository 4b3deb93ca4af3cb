-- Every float that an accepted call answers is a finite binary32 value: so its bits, and the eight digits that are printed of it, determine it.
use Rattle.std.specs.Prelude.{◌≡◌, Bool, true, false, not, cond, List, [], ◌∷◌, ℕ, zero, suc, ◌+◌, ◌*◌, ◌/◌, ◌%◌, ◌^◌, ◌≤◌, ◌<◌, T, ltb, Float}
use Rattle.std.proofs.Common.{sym, ap, ◌∙◌, pow-suc, arith, ltb→lt, nltb→le}
use Rattle.std.specs.Float.{binary32}
use Rattle.std.specs.Float.Ieee.{fits, of_bits, to_bits}
use Rattle.std.specs.Float.Ieee.Bits.{of_bits-to_bits, to_bits-lt}
use Rattle.std.specs.Float.Ieee.Scale.{finite}
use Rattle.definition.specs.Floats.{largest_finite}
use Rattle.definition.specs.Settings.{Settings}
use Rattle.definition.specs.FactorGraph.{Bale}
use Rattle.definition.specs.Answer.{Belief, PartAnswer, answer, ending_residual, answered_beliefs, belief_floats, ending_floats}
use Rattle.definition.specs.Listing.{hex_digit, hex_before, hex}
use Rattle.definition.specs.Refusals.{Buffers, accepted, verdict}
use Rattle.graph_laws.specs.Lists.{All, All-mono, All-map-into}
use Rattle.graph_laws.specs.Ranks.{All-concat-into}
use Rattle.graph_laws.specs.AnswerSizes.{beliefs_each}
use Rattle.claims.specs.Parts.{SettingsFit, EvidenceFits, AllEvidence}
use Rattle.message_bounds.specs.Beliefs.{UnitValue, unit_finite, UnitValues, beliefs_in_unit}
use Rattle.message_bounds.specs.Residuals.{Small, small_finite}
use Rattle.message_bounds.specs.Amounts.{endings_bounded}

pub record Printable (x : Float) : Type 0 where
  pub number : T (finite x)
  pub holds : T (fits binary32 x)
  pub back : of_bits binary32 (to_bits binary32 x) ≡ x

printable : (x : Float) → T (finite x) → T (fits binary32 x) → Printable x
printable x f t = record { number = f; holds = t; back = of_bits-to_bits binary32 x t }

-- ---- lists of beliefs
printable_beliefs : (bs : List Belief) → All UnitValues bs → All Printable (belief_floats bs)
unfolding belief_floats
printable_beliefs bs h =
    All-concat-into Printable (λ (b : Belief). b.value) bs
    (All-mono UnitValues (λ b. All Printable b.value) (λ b. All-mono UnitValue Printable (λ x c. printable x (unit_finite x c) c.holds) b.value) bs h)

-- ---- the answer
pub beliefs_printable : (s : Settings) (f : Buffers) (b : Bale) → verdict s f b ≡ accepted → SettingsFit s → AllEvidence EvidenceFits b.markers → All Printable (belief_floats (answered_beliefs (answer s b)))
beliefs_printable s f b A t e = printable_beliefs (answered_beliefs (answer s b)) (beliefs_each UnitValues (answer s b) (beliefs_in_unit s f b A t e))

pub endings_printable : (s : Settings) (f : Buffers) (b : Bale) → verdict s f b ≡ accepted → All Printable (ending_floats (answer s b))
unfolding ending_floats
endings_printable s f b A =
    All-map-into Printable (λ (q : PartAnswer). ending_residual q.ending) (answer s b)
    (All-mono (λ q. Small largest_finite (ending_residual q.ending)) (λ q. Printable (ending_residual q.ending)) (λ q h. printable _ (small_finite largest_finite _ tt h) h.holds) (answer s b) (endings_bounded s f b A))

-- ---- the digits
same-digit : (a b : ℕ) → a < 16 → b < 16 → hex_digit a ≡ hex_digit b → a ≡ b
unfolding hex_digit
same-digit a b h k e = go (ltb a 10) (ltb b 10) (λ t. ltb→lt a 10 t) (λ t. nltb→le a 10 t) (λ t. ltb→lt b 10 t) (λ t. nltb→le b 10 t) e
  where
    go : (x y : Bool) → (T x → a < 10) → (T (not x) → 10 ≤ a) → (T y → b < 10) → (T (not y) → 10 ≤ b) → cond x (48 + a) (55 + a) ≡ cond y (48 + b) (55 + b) → a ≡ b
    go true true f f' g g' e = omega arith
    go true false f f' g g' e = omega (arith, f tt, g' tt)
    go false true f f' g g' e = omega (arith, f' tt, g tt)
    go false false f f' g g' e = omega arith

same_digits : (d a b : ℕ) (l m : List ℕ) → a < 16 ^ d → b < 16 ^ d → hex_before d a l ≡ hex_before d b m → (a ≡ b) × (l ≡ m)
unfolding hex_before
same_digits zero a b l m h k e = (omega arith, e)
same_digits (suc d) a b l m h k e =
    let p : 16 ^ suc d ≡ 16 ^ d * 16 = pow-suc 16 d in
    let r = same_digits d (a / 16) (b / 16) (hex_digit (a % 16) ∷ l) (hex_digit (b % 16) ∷ m) (omega arith) (omega arith) e in
    let q : hex_digit (a % 16) ≡ hex_digit (b % 16) = cc r.1 in
    (omega (arith, r.0, same-digit (a % 16) (b % 16) (omega arith) (omega arith) q), cc r.1)

-- Two floats of which the same is printed are the same.
pub printed_same : (x y : Float) → T (fits binary32 x) → T (fits binary32 y) → hex x ≡ hex y → x ≡ y
unfolding hex
printed_same x y t u e =
    sym (of_bits-to_bits binary32 x t) ∙ ap (of_bits binary32) (same_digits 8 (to_bits binary32 x) (to_bits binary32 y) [] [] (to_bits-lt binary32 x t) (to_bits-lt binary32 y u) e).0 ∙ of_bits-to_bits binary32 y u
