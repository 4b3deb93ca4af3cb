-- What the tests of a word say, as branches on numbers make them.
use Rattle.std.specs.Prelude.{ℕ, zero, suc, ◌/◌, ◌%◌, ◌^◌, ◌≤◌, ◌<◌, ◌≡◌, refl, Bool, true, false, ◌&&◌, eqb, leb, ltb}
use Rattle.std.proofs.Math.Nat.{div-eq_of_lt}
use Rattle.std.proofs.Common.{le-div_iff_mul-le, arith, sym, ltb-true, ltb-false, eq-eqb, ne_eqb, pow_pos}
use Rattle.definition.specs.BaleFile.{word_kind, bits, field_width, clean_word, may_follow}

-- ---- the order of kinds

-- after kinds 3 and 4
pub follows_marks : (j k : ℕ) → 3 ≤ j → j ≤ 4 → may_follow j k ≡ (leb 4 k && leb k 6)
unfolding may_follow
follows_marks zero k a b = absurd (let z : ⊥ = omega arith in z)
follows_marks (suc zero) k a b = absurd (let z : ⊥ = omega arith in z)
follows_marks (suc (suc zero)) k a b = absurd (let z : ⊥ = omega arith in z)
follows_marks (suc (suc (suc zero))) k a b = refl
follows_marks (suc (suc (suc (suc zero)))) k a b = refl
follows_marks (suc (suc (suc (suc (suc j))))) k a b = absurd (let z : ⊥ = omega arith in z)

-- after kind 6, and after what is no kind, comes nothing
pub follows_none : (j k : ℕ) → 5 < j → (j ≡ 7 → ⊥) → false ≡ may_follow j k
unfolding may_follow
follows_none zero k a n = absurd (let z : ⊥ = omega arith in z)
follows_none (suc zero) k a n = absurd (let z : ⊥ = omega arith in z)
follows_none (suc (suc zero)) k a n = absurd (let z : ⊥ = omega arith in z)
follows_none (suc (suc (suc zero))) k a n = absurd (let z : ⊥ = omega arith in z)
follows_none (suc (suc (suc (suc zero)))) k a n = absurd (let z : ⊥ = omega arith in z)
follows_none (suc (suc (suc (suc (suc zero))))) k a n = absurd (let z : ⊥ = omega arith in z)
follows_none (suc (suc (suc (suc (suc (suc zero)))))) k a n = refl
follows_none (suc (suc (suc (suc (suc (suc (suc zero))))))) k a n = absurd (n refl)
follows_none (suc (suc (suc (suc (suc (suc (suc (suc j)))))))) k a n = refl

-- ---- the fields

pub width-none : (k : ℕ) → (k ≡ 1 → ⊥) → (k ≡ 2 → ⊥) → (k ≡ 3 → ⊥) → (k ≡ 4 → ⊥) → (k ≡ 5 → ⊥) → (k ≡ 7 → ⊥) → field_width k ≡ 0
unfolding field_width
width-none zero a b c d e f = refl
width-none (suc zero) a b c d e f = absurd (a refl)
width-none (suc (suc zero)) a b c d e f = absurd (b refl)
width-none (suc (suc (suc zero))) a b c d e f = absurd (c refl)
width-none (suc (suc (suc (suc zero)))) a b c d e f = absurd (d refl)
width-none (suc (suc (suc (suc (suc zero))))) a b c d e f = absurd (e refl)
width-none (suc (suc (suc (suc (suc (suc zero)))))) a b c d e f = refl
width-none (suc (suc (suc (suc (suc (suc (suc zero))))))) a b c d e f = absurd (f refl)
width-none (suc (suc (suc (suc (suc (suc (suc (suc k)))))))) a b c d e f = refl

-- no bits from l on is being below 2 ^ l
below_power : (x l : ℕ) (t : Bool) → ltb x (2 ^ l) ≡ t → t ≡ eqb (x / 2 ^ l) 0
below_power x l true e = sym (eq-eqb (x / 2 ^ l) 0 (div-eq_of_lt (ltb-true x (2 ^ l) e)))
below_power x l false e =
    let p : 1 ≤ x / 2 ^ l = (le-div_iff_mul-le (pow_pos l)).1 (omega (arith, ltb-false x (2 ^ l) e)) in
    sym (ne_eqb (x / 2 ^ l) 0 (λ q. omega arith))

pub clean_below : (w : ℕ) → ltb (w % 536870912) (2 ^ field_width (word_kind w)) ≡ clean_word w
unfolding clean_word bits
clean_below w = below_power (w % 536870912) (field_width (word_kind w)) (ltb (w % 536870912) (2 ^ field_width (word_kind w))) refl
