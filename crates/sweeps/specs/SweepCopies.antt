-- A tree's messages copied into the new row, one for each of its positions.
use Rattle.std.specs.Prelude.{ℕ, zero, suc, ◌+◌, ◌-◌, ◌≤◌, ◌<◌, ◌≡◌, refl, ◌⊎◌, List, Float, length, get_or, replicate}
use Rattle.std.proofs.Common.{arith, ap, ◌∙◌, inl, inr}
use Rattle.std.specs.Float.{nan}
use Rattle.definition.specs.Floats.{zeroᶠ}
use Rattle.list_laws.specs.Part.{region, length-region}
use Rattle.list_laws.specs.Put.{put}
use Rattle.messages.specs.LayoutPuts.{puts, puts-next, region-puts}
use Rattle.sweeps.specs.Sweep.{place_of}

-- ---- ranges copied to places of their own

module _ {A : Type 0} (d : A) (w₀ : List A) (at src len : ℕ → ℕ) where
  abbrev pub copies : ℕ → List A
  copies n = puts w₀ at (λ i. region w₀ (src i) (len i)) n

  module _ (n : ℕ) (to : (i : ℕ) → i < n → at i + len i ≤ length w₀) (from : (i : ℕ) → i < n → src i + len i ≤ length w₀) where
    room : (i : ℕ) → i < n → at i + length (region w₀ (src i) (len i)) ≤ length w₀
    room i q = omega (arith, length-region w₀ (src i) (len i) (from i q), to i q)

    pub copies-next : (w : List A) (a b m : ℕ) → w ≡ copies n → a ≡ at n → b ≡ src n → m ≡ len n → src n + len n ≤ length w₀ → ((i : ℕ) → i < n → (src n + len n ≤ at i) ⊎ (at i + len i ≤ src n)) → put w a (region w b m) ≡ copies (n + 1)
    copies-next w a b m e f g h l apart =
        puts-next w₀ w at (λ i. region w₀ (src i) (len i)) n a (region w b m) e f
        (ap (λ (u : List A). region u b m) e ∙ ap (λ (j : ℕ). region (copies n) j m) g ∙ ap (region (copies n) (src n)) h
        ∙ region-puts d w₀ at (λ i. region w₀ (src i) (len i)) n (src n) (len n) room l (λ i q. both i q (apart i q)))
      where
        both : (i : ℕ) → i < n → (src n + len n ≤ at i) ⊎ (at i + len i ≤ src n) → (src n + len n ≤ at i) ⊎ (at i + length (region w₀ (src i) (len i)) ≤ src n)
        both i q (inl u) = inl u
        both i q (inr u) = inr (omega (arith, length-region w₀ (src i) (len i) (from i q)))

-- ---- what was sent before

abbrev pub out_at : List ℕ → List ℕ → ℕ → ℕ → ℕ
out_at outs offsets f i = get_or offsets (get_or outs (f + i) 0) 0

abbrev pub out_long : List ℕ → List ℕ → ℕ → ℕ → ℕ
out_long outs offsets f i = get_or offsets (get_or outs (f + i) 0 + 1) 0 - get_or offsets (get_or outs (f + i) 0) 0

abbrev pub kept_sent : List ℕ → List ℕ → ℕ → ℕ → List Float → ℕ → List Float
kept_sent outs offsets l f w n = puts w (place_of outs offsets l f) (λ i. region w (out_at outs offsets f i) (out_long outs offsets f i)) n

-- where the message of the direction that the words name ends
pub end_is : (outs offsets : List ℕ) (j a b : ℕ) → a ≡ get_or outs j 0 → b ≡ get_or offsets (a + 1) 0 → b ≡ get_or offsets (get_or outs j 0 + 1) 0
end_is outs offsets j a b e f = f ∙ ap (λ (n : ℕ). get_or offsets (n + 1) 0) e

-- Each of the node's k messages fits into a row of l floats.
pub record Directed (outs offsets : List ℕ) (l f k room : ℕ) : Type 0 where
  pub listed : f + k ≤ length outs
  pub there : (i : ℕ) → i < k → get_or outs (f + i) 0 + 1 < length offsets
  pub order : (i : ℕ) → i < k → get_or offsets (get_or outs (f + i) 0) 0 ≤ get_or offsets (get_or outs (f + i) 0 + 1) 0
  pub fits : (i : ℕ) → i < k → get_or offsets (get_or outs (f + i) 0 + 1) 0 ≤ l
  pub roomy : l + l ≤ room

module _ (outs offsets : List ℕ) (l f k : ℕ) (w₀ : List Float) (P : Directed outs offsets l f k (length w₀)) where
  pub kept_next : (w : List Float) (i d a e : ℕ) → i < k → w ≡ kept_sent outs offsets l f w₀ i → d ≡ get_or outs (f + i) 0 → a ≡ get_or offsets d 0 → e ≡ get_or offsets (d + 1) 0 → put w (l + a) (region w a (e - a)) ≡ kept_sent outs offsets l f w₀ (i + 1)
  kept_next w i d a e h z p q r =
      let x : a ≡ out_at outs offsets f i = q ∙ ap (λ (n : ℕ). get_or offsets n 0) p in
      let y : e ≡ get_or offsets (get_or outs (f + i) 0 + 1) 0 = r ∙ ap (λ (n : ℕ). get_or offsets (n + 1) 0) p in
      copies-next nan w₀ (place_of outs offsets l f) (out_at outs offsets f) (out_long outs offsets f) i (λ j u. omega (arith, P.order j (omega arith), P.fits j (omega arith), P.roomy)) (λ j u. omega (arith, P.order j (omega arith), P.fits j (omega arith), P.roomy))
      w (l + a) a (e - a) z (omega arith) x (omega arith) (omega (arith, P.order i h, P.fits i h, P.roomy)) (λ j u. inl (omega (arith, P.order i h, P.fits i h)))

-- ---- what stands behind: from base on, one message after the other

abbrev pub held_at : List ℕ → ℕ → ℕ → ℕ → ℕ
held_at offsets f base i = base + (get_or offsets (f + i) 0 - get_or offsets f 0)

abbrev pub held_long : List ℕ → ℕ → ℕ → ℕ
held_long offsets f i = get_or offsets (f + i + 1) 0 - get_or offsets (f + i) 0

abbrev pub scattered : List ℕ → List ℕ → ℕ → ℕ → ℕ → List Float → ℕ → List Float
scattered outs offsets l f base w n = puts w (place_of outs offsets l f) (λ i. region w (held_at offsets f base i) (held_long offsets f i)) n

pub record Scattering (outs offsets : List ℕ) (l f k base room : ℕ) : Type 0 where
  pub listed : f + k ≤ length outs
  pub offsets_long : f + k < length offsets
  pub there : (i : ℕ) → i < k → get_or outs (f + i) 0 < length offsets
  pub above : (i : ℕ) → i < k → get_or offsets f 0 ≤ get_or offsets (f + i) 0
  pub order : (i : ℕ) → i < k → get_or offsets (f + i) 0 ≤ get_or offsets (f + i + 1) 0
  pub fits : (i : ℕ) → i < k → get_or offsets (get_or outs (f + i) 0) 0 + held_long offsets f i ≤ l
  pub behind : l + l ≤ base
  pub room_there : (i : ℕ) → i < k → base + (get_or offsets (f + i + 1) 0 - get_or offsets f 0) ≤ room

module _ (outs offsets : List ℕ) (l f k base : ℕ) (w₀ : List Float) (P : Scattering outs offsets l f k base (length w₀)) where
  to : (i : ℕ) → i < k → place_of outs offsets l f i + held_long offsets f i ≤ length w₀
  to i q = omega (arith, P.fits i q, P.behind, P.room_there i q)

  from : (i : ℕ) → i < k → held_at offsets f base i + held_long offsets f i ≤ length w₀
  from i q = omega (arith, P.above i q, P.order i q, P.room_there i q)

  pub scattered-next : (w : List Float) (i s a e o : ℕ) → i < k → w ≡ scattered outs offsets l f base w₀ i → s ≡ get_or offsets f 0 → a ≡ get_or offsets (f + i) 0 → e ≡ get_or offsets (f + i + 1) 0 → o ≡ get_or offsets (get_or outs (f + i) 0) 0
      → put w (l + o) (region w (base + (a - s)) (e - a)) ≡ scattered outs offsets l f base w₀ (i + 1)
  scattered-next w i s a e o h z p q r x =
      copies-next nan w₀ (place_of outs offsets l f) (held_at offsets f base) (held_long offsets f) i (λ j u. to j (omega arith)) (λ j u. from j (omega arith))
      w (l + o) (base + (a - s)) (e - a) z (omega arith) (omega arith) (omega arith) (from i h) (λ j u. inr (omega (arith, P.fits j (omega arith), P.behind)))

-- ---- zeros

pub zero-at : (n i : ℕ) → i < n → get_or (replicate n zeroᶠ) i nan ≡ zeroᶠ
zero-at zero i h = absurd (let z : ⊥ = omega arith in z)
zero-at (suc n) zero h = refl
zero-at (suc n) (suc i) h = zero-at n i (omega arith)
