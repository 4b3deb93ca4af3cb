-- The digits of a number, the last one after those of the rest: as the definition has them, and as a loop puts them that begins with the last.
use Rattle.std.specs.Prelude.{◌≡◌, refl, List, [], ◌∷◌, ◌++◌, ℕ, zero, suc, ◌+◌, ◌-◌, ◌/◌, ◌%◌, ◌≤◌, ◌<◌, length, set, Float}
use Rattle.std.proofs.Common.{sym, ap, ◌∙◌, append_assoc, append-nil, arith, lt-ltb, length-append}
use Rattle.std.proofs.Math.Logic.{by_cases}
use Rattle.std.proofs.Math.Decide.{dec_lt}
use Rattle.std.specs.Float.{binary32}
use Rattle.std.specs.Float.Ieee.{to_bits}
use Rattle.list_laws.specs.Put.{put}
use Rattle.list_laws.specs.PutParts.{put_last}
use Rattle.definition.specs.Listing.{decimal, hex_digit, hex_before, hex}
use Rattle.text_laws.specs.Decimal.{decimal_digit, decimal-next, decimal_longer}
use Rattle.listing.specs.Writing.{Fields, field_fits}

-- ---- the last digits to a base

-- the last d digits of n to a base, which is at most 16
unfoldable pub digits : ℕ → ℕ → ℕ → List ℕ
digits base zero n = []
digits base (suc d) n = digits base d (n / base) ++ hex_digit (n % base) ∷ []

pub digits-length : (base d n : ℕ) → length (digits base d n) ≡ d
unfolding digits
digits-length base zero n = refl
digits-length base (suc d) n = omega (arith, length-append (digits base d (n / base)) (hex_digit (n % base) ∷ []), digits-length base d (n / base))

-- the last digit is stored, and the others are put before it
pub digits-next :
    (base d n : ℕ) (l : List ℕ) (at : ℕ) → 0 < d → at + d ≤ length l →
    put (set l (at + (d - 1)) (hex_digit (n % base))) at (digits base (d - 1) (n / base)) ≡ put l at (digits base d n)
unfolding digits
digits-next base zero n l at h k = absurd (let z : ⊥ = omega arith in z)
digits-next base (suc d) n l at h k =
    let s = digits base d (n / base) in
    let v = hex_digit (n % base) in
    let e : suc d - 1 ≡ d = omega arith in
    rw e (ap (λ (i : ℕ). put (set l (at + i) v) at s) (sym (digits-length base d (n / base))) ∙ put_last 0 l at s v (omega (arith, digits-length base d (n / base))))

-- ---- decimal digits

-- a digit below ten is the same in both
low_digit : (n : ℕ) → n < 10 → hex_digit n ≡ 48 + n
unfolding hex_digit
low_digit n h = simp (lt-ltb n 10 h)

decimal-within : (b n : ℕ) → n < b → decimal n ≡ digits 10 (length (decimal n)) n
unfolding digits
decimal-within zero n h = absurd (let z : ⊥ = omega arith in z)
decimal-within (suc b) n h =
    by_cases (dec_lt n 10)
    (λ (k : n < 10). let r : n % 10 ≡ n = omega arith in rw (decimal_digit n k, r, low_digit n k))
    (λ k.
    let longer : length (decimal n) ≡ suc (length (decimal (n / 10))) = omega (arith, decimal_longer n (omega arith)) in
    rw (longer, decimal-next n (omega arith), low_digit (n % 10) (omega arith), ← (decimal-within b (n / 10) (omega arith))))

pub decimal-digits : (n : ℕ) → decimal n ≡ digits 10 (length (decimal n)) n
decimal-digits n = decimal-within (suc n) n (omega arith)

-- ---- hexadecimal digits

before-digits : (d n : ℕ) (l : List ℕ) → hex_before d n l ≡ digits 16 d n ++ l
unfolding hex_before digits
before-digits zero n l = refl
before-digits (suc d) n l = before-digits d (n / 16) (hex_digit (n % 16) ∷ l) ∙ sym (append_assoc (digits 16 d (n / 16)) (hex_digit (n % 16) ∷ []) l)

pub hex-digits : (x : Float) → hex x ≡ digits 16 8 (to_bits binary32 x)
unfolding hex
hex-digits x = before-digits 8 (to_bits binary32 x) [] ∙ append-nil (digits 16 8 (to_bits binary32 x))

pub hex-length : (x : Float) → length (hex x) ≡ 8
hex-length x = ap length (hex-digits x) ∙ digits-length 16 8 (to_bits binary32 x)

-- room for a float and the byte that ends it
pub float_fits : {l : List ℕ} {at : ℕ} {s m : List ℕ} {k : ℕ} {fs : List (List ℕ)} (x : Float) → Fields l at s m k (hex x ∷ fs) → k + 8 < length m
float_fits x a = rw (hex-length x) at (field_fits a)
