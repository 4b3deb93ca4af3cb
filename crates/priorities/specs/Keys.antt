-- The queue's keys: 0 for a direction that does not wait, else one more than the bits of its amount. The sign of an amount is clear, so the order of the
-- keys is that of the amounts, and the largest key's first place is the definition's `highest_priority`.
use Rattle.std.specs.Prelude.{◌≡◌, refl, Bool, true, false, cond, List, [], ◌∷◌, map, ℕ, zero, suc, ◌+◌, ◌-◌, ◌≤◌, ◌<◌, T, get_or, set, Float}
use Rattle.std.proofs.Common.{sym, ap, ◌∙◌, subst, inl, inr, eq-or-lt_of_le, add-one, arith}
use Rattle.std.proofs.Math.Option.{Option, none, some}
use Rattle.std.proofs.Math.ListN.{get_or-map}
use Rattle.std.specs.Float.{binary32}
use Rattle.std.specs.Float.Ieee.{of_bits, to_bits, fits, lt, is_nan}
use Rattle.std.specs.Float.Ieee.Bits.{is_true, of_bits-to_bits}
use Rattle.definition.specs.Priorities.{exceeds, highest_priority}
use Rattle.float_laws.specs.Rounded.{clear}
use Rattle.float_laws.specs.BitsLess.{bits_less, bits-number, clear-at-most}
use Rattle.graph_laws.specs.Highest.{highest_top, empty-top, above-back, above_itself, in_range}

abbrev pub decode_key : ℕ → Option Float
decode_key zero = none
decode_key (suc k) = some (of_bits binary32 k)

abbrev pub encode_key : Option Float → ℕ
encode_key none = 0
encode_key (some x) = suc (to_bits binary32 x)

abbrev pub decoded : List ℕ → List (Option Float)
decoded keys = map decode_key keys

abbrev pub encoded : List (Option Float) → List ℕ
encoded q = map encode_key q

-- the infinity's key: above it stand the NaNs, and then what has its sign set
abbrev pub last_key : ℕ
last_key = 2139095041

-- each key is 0 or an amount's
abbrev pub Amounts : List ℕ → Type 0
Amounts keys = (i : ℕ) → get_or keys i 0 ≤ last_key

pub decode_encode : (x : Float) → T (fits binary32 x) → decode_key (encode_key (some x)) ≡ some x
decode_encode x h = ap some (of_bits-to_bits binary32 x h)

-- the key that `key_of` makes
pub key_is : (x : Float) → T (fits binary32 x) → T (clear x) → (to_bits binary32 x + 1 ≡ encode_key (some x)) × (decode_key (to_bits binary32 x + 1) ≡ some x) × (to_bits binary32 x + 1 ≤ last_key)
key_is x t s =
    (add-one (to_bits binary32 x), ap decode_key (add-one (to_bits binary32 x)) ∙ decode_encode x t, omega (arith, clear-at-most x t s))

-- a queue of amounts, direction by direction
pub encoded-set : (q : List (Option Float)) (d : ℕ) (o : Option Float) → set (encoded q) d (encode_key o) ≡ encoded (set q d o)
encoded-set [] d o = refl
encoded-set (x ∷ q) zero o = refl
encoded-set (x ∷ q) (suc d) o = ap (λ (l : List ℕ). encode_key x ∷ l) (encoded-set q d o)

-- an entry that a key can hold
abbrev pub IsAmount : Option Float → Type 0
IsAmount none = Unit {0}
IsAmount (some x) = T (fits binary32 x) × T (clear x)

decode_back : (o : Option Float) → IsAmount o → decode_key (encode_key o) ≡ o
decode_back none h = refl
decode_back (some x) h = decode_encode x h.0

encode_most : (o : Option Float) → IsAmount o → encode_key o ≤ last_key
encode_most none h = omega arith
encode_most (some x) h = omega (arith, clear-at-most x h.0 h.1)

pub decoded-encoded : (q : List (Option Float)) → ((i : ℕ) → IsAmount (get_or q i none)) → decoded (encoded q) ≡ q
decoded-encoded [] h = refl
decoded-encoded (o ∷ q) h = cc (decode_back o (h 0), decoded-encoded q (λ i. h (suc i)))

pub encoded_amounts : (q : List (Option Float)) → ((i : ℕ) → IsAmount (get_or q i none)) → Amounts (encoded q)
encoded_amounts q h i = subst (λ (n : ℕ). n ≤ last_key) (sym (get_or-map encode_key q i none)) (encode_most (get_or q i none) (h i))

-- ---- the order
exceeds-bits : (b c : ℕ) → b < c → c ≤ 2139095040 → exceeds (of_bits binary32 c) (of_bits binary32 b) ≡ true
unfolding exceeds
exceeds-bits b c h k = go (is_nan (of_bits binary32 b)) (is_nan (of_bits binary32 c)) (bits-number b (omega arith)) (bits-number c k)
  where
    go : (i j : Bool) → i ≡ false → j ≡ false → cond i false (cond j true (lt (of_bits binary32 b) (of_bits binary32 c))) ≡ true
    go i j e f = rw (e, f) (is_true (lt (of_bits binary32 b) (of_bits binary32 c)) (bits_less b c h k))

not-exceeds-bits : (b c : ℕ) → b ≤ c → c ≤ 2139095040 → exceeds (of_bits binary32 b) (of_bits binary32 c) ≡ false
not-exceeds-bits b c h k =
    elim (eq-or-lt_of_le h) [
      | inl e ↦ subst (λ (n : ℕ). exceeds (of_bits binary32 b) (of_bits binary32 n) ≡ false) e (above_itself (of_bits binary32 b))
      | inr l ↦ above-back (of_bits binary32 c) (of_bits binary32 b) (exceeds-bits b c l k)
    ]

-- ---- what waits, by its key
pub decoded-at : (keys : List ℕ) (j : ℕ) → get_or (decoded keys) j none ≡ decode_key (get_or keys j 0)
decoded-at keys j = get_or-map decode_key keys j 0

decode_some : (n : ℕ) (x : Float) → decode_key n ≡ some x → (1 ≤ n) × (of_bits binary32 (n - 1) ≡ x)
decode_some zero x h = absurd (let z : ◌≡◌ {A = ℕ} 0 1 = cc in let y : ⊥ = omega arith in y)
decode_some (suc n) x h = let e : suc n - 1 ≡ n = omega arith in (omega arith, ap (of_bits binary32) e ∙ some_same (of_bits binary32 n) x h)
  where
    some_same : (a b : Float) → some a ≡ some b → a ≡ b
    some_same a b e = cc

pub decode_key_lem : (n : ℕ) → 1 ≤ n → decode_key n ≡ some (of_bits binary32 (n - 1))
decode_key_lem zero h = absurd (let y : ⊥ = omega arith in y)
decode_key_lem (suc n) h = let e : n ≡ suc n - 1 = omega arith in ap (λ (k : ℕ). some (of_bits binary32 k)) e

module _ (keys : List ℕ) (bound : Amounts keys) where
  waits : (j : ℕ) (x : Float) → get_or (decoded keys) j none ≡ some x → (1 ≤ get_or keys j 0) × (of_bits binary32 (get_or keys j 0 - 1) ≡ x)
  waits j x e = decode_some (get_or keys j 0) x (sym (decoded-at keys j) ∙ e)

  -- a key that is the largest, and larger than each before it
  pub keys_highest :
      (i : ℕ) → 1 ≤ get_or keys i 0 → ((j : ℕ) → get_or keys j 0 ≤ get_or keys i 0) → ((j : ℕ) → j < i → get_or keys j 0 < get_or keys i 0) →
      highest_priority (decoded keys) ≡ some (record { direction = i; priority = of_bits binary32 (get_or keys i 0 - 1) })
  keys_highest i h l f =
      highest_top (decoded keys) (record { direction = i; priority = of_bits binary32 (get_or keys i 0 - 1) })
      (record {
        there = in_range (decoded keys) i (of_bits binary32 (get_or keys i 0 - 1)) stands;
        stands = stands;
        largest = λ j x e.
            let w = waits j x e in
            subst (λ (y : Float). exceeds y (of_bits binary32 (get_or keys i 0 - 1)) ≡ false) w.1
            (not-exceeds-bits (get_or keys j 0 - 1) (get_or keys i 0 - 1) (omega (arith, l j)) (omega (arith, bound i)));
        first = λ j x k e.
            let w = waits j x e in
            subst (λ (y : Float). exceeds (of_bits binary32 (get_or keys i 0 - 1)) y ≡ true) w.1
            (exceeds-bits (get_or keys j 0 - 1) (get_or keys i 0 - 1) (omega (arith, w.0, f j k)) (omega (arith, bound i)));
      })
    where
      stands : get_or (decoded keys) i none ≡ some (of_bits binary32 (get_or keys i 0 - 1))
      stands = decoded-at keys i ∙ decode_key_lem (get_or keys i 0) h

pub keys-empty : (keys : List ℕ) → ((j : ℕ) → get_or keys j 0 ≡ 0) → highest_priority (decoded keys) ≡ none
keys-empty keys h = empty-top (decoded keys) (λ j. decoded-at keys j ∙ ap decode_key (h j))
