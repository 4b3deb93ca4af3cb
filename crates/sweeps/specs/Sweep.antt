-- What the parts of a sweep write, in words and floats alone: a row of floats in force, and a new row behind it, which begins at float l.
use Prim.Native.Nat.{ℕ, zero, suc, ◌+◌, ◌-◌, ◌*◌, ◌/◌, ◌≤◌, ◌<◌}
use Rattle.std.proofs.Common.{arith, sym, ap, ◌∙◌, inl}
use Rattle.std.specs.Prelude.{◌≡◌, Bool, List, ◌++◌, Float, get_or, take, drop}
use Rattle.std.proofs.Math.Path.{refl}
use Rattle.std.specs.Float.{nan}
use Rattle.std.proofs.Math.ListN.{length}
use Rattle.definition.specs.Floats.{ln}
use Rattle.definition.specs.Vectors.{Message, entry, binary, sum_logs_batched}
use Rattle.definition.specs.Directions.{message_at}
use Rattle.definition.specs.Messages.{out_message_variable, out_message_factor}
use Rattle.graph_laws.specs.Lengths.{length-out_message_factor}
use Rattle.list_laws.specs.Part.{region, get_d_region, length-region}
use Rattle.list_laws.specs.Put.{put, put-below, put-part, region-out}
use Rattle.array_utils.specs.Columns.{absents, presents}
use Rattle.node.specs.Rows.{given}
use Rattle.messages.specs.Pairs.{pairs, length_pairs, pair_at_lem, absents-pairs, presents-pairs}
use Rattle.messages.specs.Variable.{out_from_sums, out-two, out_single, out-many}
use Rattle.messages.specs.LayoutPuts.{puts, length-puts, puts_none, puts-next, puts_ext}

-- ---- a variable

-- where in the new row the message goes that the node sends at its position i, f being its first position
abbrev pub place_of : List ℕ → List ℕ → ℕ → ℕ → ℕ → ℕ
place_of outs offsets l f i = l + get_or offsets (get_or outs (f + i) 0) 0

abbrev pub each_sent : Message → Message → List ℕ → List ℕ → ℕ → ℕ → ℕ → ℕ → List Float → ℕ → List Float
each_sent s p outs offsets l from f k w n = puts w (place_of outs offsets l f) (λ i. out_from_sums s p (message_at i (pairs (region w from (2 * k))))) n

abbrev pub variable_sent : Message → List ℕ → List ℕ → ℕ → ℕ → ℕ → List Float → List Float
variable_sent b outs offsets l f k w = puts w (place_of outs offsets l f) (λ i. out_message_variable b (pairs (region w (get_or offsets f 0) (2 * k))) i) k

-- The node's k messages in force, of two floats each, stand from `from` on, and what it sends fits.
pub record Pairing (outs offsets : List ℕ) (l from f k room : ℕ) : Type 0 where
  pub few : k ≤ 1024
  pub held : from + 2 * k ≤ l
  pub roomy : l ≤ room
  pub listed : f + k ≤ length outs
  pub there : (i : ℕ) → i < k → get_or outs (f + i) 0 < length offsets
  pub fits : (i : ℕ) → i < k → place_of outs offsets l f i + 2 ≤ room

-- what two words say, one after the other
pub place_is : (outs offsets : List ℕ) (j a b : ℕ) → a ≡ get_or outs j 0 → b ≡ get_or offsets a 0 → b ≡ get_or offsets (get_or outs j 0) 0
place_is outs offsets j a b e f = f ∙ ap (λ (n : ℕ). get_or offsets n 0) e

module _ {A : Type 0} (d : A) where
  -- what is below all ranges is left
  pub puts-below : (l : List A) (at : ℕ → ℕ) (s : ℕ → List A) (n j : ℕ) → ((k : ℕ) → k < n → at k + length (s k) ≤ length l) → ((k : ℕ) → k < n → j < at k) → get_or (puts l at s n) j d ≡ get_or l j d
  unfolding puts
  puts-below l at s zero j h b = refl
  puts-below l at s (suc n) j h b =
      let e : length (puts l at s n) ≡ length l = length-puts l at s n (λ k q. h k (omega arith)) in
      put-below (puts l at s n) (at n) (s n) d j (omega (arith, e, h n (omega arith))) (b n (omega arith)) ∙ puts-below l at s n j (λ k q. h k (omega arith)) (λ k q. b k (omega arith))

-- a turn of the loop over a variable's positions
module _ (s p : Message) (outs offsets : List ℕ) (l from f k : ℕ) (w₀ : List Float) (P : Pairing outs offsets l from f k (length w₀)) where
  abbrev row : List Float
  row = region w₀ from (2 * k)

  each_room : (n : ℕ) → n ≤ k → (i : ℕ) → i < n → place_of outs offsets l f i + length (out_from_sums s p (message_at i (pairs row))) ≤ length w₀
  each_room n h i q = omega (arith, out-two s p (message_at i (pairs row)), P.fits i (omega arith))

  module _ (w : List Float) (i : ℕ) (h : i < k) (e : w ≡ each_sent s p outs offsets l from f k w₀ i) where
    left : (j : ℕ) → j < 2 * k → get_or w (from + j) nan ≡ get_or row j nan
    left j q =
        ap (λ (u : List Float). get_or u (from + j) nan) e
        ∙ puts-below nan w₀ (place_of outs offsets l f) (λ n. out_from_sums s p (message_at n (pairs row))) i (from + j) (each_room i (omega arith)) (λ n z. omega (arith, P.held))
        ∙ sym (get_d_region w₀ from (2 * k) j nan q)

    pub each_next : (r : Message) → r ≡ out_from_sums s p (binary (get_or w (from + 2 * i) nan) (get_or w (from + 2 * i + 1) nan)) → put w (place_of outs offsets l f i) r ≡ each_sent s p outs offsets l from f k w₀ (i + 1)
    each_next r q =
        let n : length row ≡ 2 * k = length-region w₀ from (2 * k) (omega (arith, P.held, P.roomy)) in
        puts-next w₀ w (place_of outs offsets l f) (λ n. out_from_sums s p (message_at n (pairs row))) i (place_of outs offsets l f i) r e refl
        (q
        ∙ ap (λ (x : Float). out_from_sums s p (binary x (get_or w (from + 2 * i + 1) nan))) (left (2 * i) (omega arith))
        ∙ ap (λ (j : ℕ). out_from_sums s p (binary (get_or row (2 * i) nan) (get_or w j nan))) (let z : from + 2 * i + 1 ≡ from + (2 * i + 1) = omega arith in z)
        ∙ ap (λ (y : Float). out_from_sums s p (binary (get_or row (2 * i) nan) y)) (left (2 * i + 1) (omega arith))
        ∙ ap (out_from_sums s p) (pair_at_lem row i (omega arith)))

-- the whole: by the number of neighbours
module _ (b : Message) (outs offsets : List ℕ) (l f k : ℕ) (w : List Float) (P : Pairing outs offsets l (get_or offsets f 0) f k (length w)) where
  abbrev held : List Message
  held = pairs (region w (get_or offsets f 0) (2 * k))

  held-many : length held ≡ k
  held-many =
      let n : length (region w (get_or offsets f 0) (2 * k)) ≡ 2 * k = length-region w (get_or offsets f 0) (2 * k) (omega (arith, P.held, P.roomy)) in
      length_pairs (region w (get_or offsets f 0) (2 * k)) ∙ omega arith

  pub one-sent : k ≡ 1 → put w (l + get_or offsets (get_or outs f 0) 0) b ≡ variable_sent b outs offsets l f k w
  one-sent e =
      puts-next w w (place_of outs offsets l f) (λ i. out_message_variable b held i) 0 (l + get_or offsets (get_or outs f 0) 0) b (puts_none w (place_of outs offsets l f) (λ i. out_message_variable b held i))
      (ap (λ (n : ℕ). l + get_or offsets (get_or outs n 0) 0) (let z : f ≡ f + 0 = omega arith in z)) (out_single b held 0 (omega (arith, held-many)))
      ∙ ap (puts w (place_of outs offsets l f) (λ i. out_message_variable b held i)) (sym e)

  pub all-sent :
      (s p : Message) (r : List Float) → (k ≡ 1 → ⊥) → entry 0 s ≡ sum_logs_batched (absents (region w (get_or offsets f 0) (2 * k))) → entry 1 s ≡ sum_logs_batched (presents (region w (get_or offsets f 0) (2 * k))) →
      entry 0 p ≡ ln (entry 0 b) → entry 1 p ≡ ln (entry 1 b) → r ≡ each_sent s p outs offsets l (get_or offsets f 0) f k w k → r ≡ variable_sent b outs offsets l f k w
  all-sent s p r n e g h q z =
      z
      ∙ puts_ext w (place_of outs offsets l f) (place_of outs offsets l f) (λ i. out_from_sums s p (message_at i held)) (λ i. out_message_variable b held i) k (λ i _. refl)
      (λ i j.
      out-many b held s p (omega (arith, held-many, not-one k i n j)) (e ∙ ap sum_logs_batched (absents-pairs (region w (get_or offsets f 0) (2 * k)))) (g ∙ ap sum_logs_batched (presents-pairs (region w (get_or offsets f 0) (2 * k)))) h q i)
    where
      not-one : (k i : ℕ) → (k ≡ 1 → ⊥) → i < k → 1 < k
      not-one zero i n j = absurd (let z : ⊥ = omega arith in z)
      not-one (suc zero) i n j = absurd (n refl)
      not-one (suc (suc k)) i n j = omega arith

  -- the row in force as the code lends it, its n floats from a on
  module _ (a n : ℕ) (e : a ≡ get_or offsets f 0) (d : n ≡ 2 * k) where
    pub lent_few : length (region w a n) / 2 ≤ 1024
    lent_few = omega (arith, length-region w a n (omega (arith, P.held, P.roomy)), P.few)

    lent_row : region w a n ≡ region w (get_or offsets f 0) (2 * k)
    lent_row = ap (λ (x : ℕ). region w x n) e ∙ ap (region w (get_or offsets f 0)) d

    pub lent-sent :
        (s p : Message) (r : List Float) → (k ≡ 1 → ⊥) → entry 0 s ≡ sum_logs_batched (absents (region w a n)) → entry 1 s ≡ sum_logs_batched (presents (region w a n)) →
        entry 0 p ≡ ln (entry 0 b) → entry 1 p ≡ ln (entry 1 b) → r ≡ each_sent s p outs offsets l a f k w k → r ≡ variable_sent b outs offsets l f k w
    lent-sent s p r o g h i j z =
        all-sent s p r o (g ∙ ap (λ (x : List Float). sum_logs_batched (absents x)) lent_row) (h ∙ ap (λ (x : List Float). sum_logs_batched (presents x)) lent_row) i j
        (z ∙ ap (λ (x : ℕ). each_sent s p outs offsets l x f k w k) e)

-- ---- a factor

-- The factor holds two messages: that of its input, the second, has two floats; the new row holds what it sends.
pub record Factoring (outs offsets : List ℕ) (l f room : ℕ) : Type 0 where
  pub few : get_or offsets (f + 1) 0 ≤ get_or offsets f 0 + 129
  pub order : get_or offsets f 0 ≤ get_or offsets (f + 1) 0
  pub held : get_or offsets (f + 1) 0 + 2 ≤ l
  pub roomy : l + l ≤ room
  pub offsets_long : f + 1 < length offsets
  pub listed : f + 1 < length outs
  pub there : get_or outs f 0 < length offsets
  pub there_back : get_or outs (f + 1) 0 < length offsets
  pub fits : get_or offsets (get_or outs f 0) 0 + (get_or offsets (f + 1) 0 - get_or offsets f 0) ≤ l
  pub fits-back : get_or offsets (get_or outs (f + 1) 0) 0 + 2 ≤ l

-- to its grade or tree what it makes of its input's message, and to its input what is in force there
abbrev pub factor_sent : Float → Float → Bool → List ℕ → List ℕ → ℕ → ℕ → List Float → List Float
factor_sent alpha beta regularised outs offsets l f w =
    put
    (put w (l + get_or offsets (get_or outs f 0) 0)
    (out_message_factor (given alpha beta regularised) (get_or offsets (f + 1) 0 - get_or offsets f 0) (binary (get_or w (get_or offsets (f + 1) 0) nan) (get_or w (get_or offsets (f + 1) 0 + 1) nan))))
    (l + get_or offsets (get_or outs (f + 1) 0) 0) (region w (get_or offsets (get_or outs (f + 1) 0) 0) 2)

module _ (alpha beta : Float) (regularised : Bool) (outs offsets : List ℕ) (l f : ℕ) (w : List Float) (P : Factoring outs offsets l f (length w)) where
  abbrev degree : ℕ
  degree = get_or offsets (f + 1) 0 - get_or offsets f 0

  abbrev made : ℕ → Message
  made h = out_message_factor (given alpha beta regularised) degree (binary (get_or w h nan) (get_or w (h + 1) nan))

  -- as the code leaves it: the lent part of the new row back in its place, then the copy
  pub factor-is :
      (a b h : ℕ) (x r : List Float) → a ≡ get_or offsets (get_or outs f 0) 0 → b ≡ get_or offsets (get_or outs (f + 1) 0) 0 → h ≡ get_or offsets (f + 1) 0 → x ≡ made h →
      r ≡ put (take (l + a) w ++ (x ++ drop (l + a + degree - (l + a)) (drop (l + a) w))) (l + b) (region (take (l + a) w ++ (x ++ drop (l + a + degree - (l + a)) (drop (l + a) w))) b 2) →
      r ≡ factor_sent alpha beta regularised outs offsets l f w
  factor-is a b h x r e g i y z =
      let n : length x ≡ degree = ap length y ∙ length-out_message_factor (given alpha beta regularised) degree (binary (get_or w h nan) (get_or w (h + 1) nan)) in
      let d : length x ≡ l + a + degree - (l + a) = omega arith in
      let v = put w (l + a) x in
      let q : region v b 2 ≡ region w b 2 = region-out nan w (l + a) x b 2 (omega (arith, e, P.fits, P.roomy)) (omega (arith, P.fits-back, P.roomy)) (inl (omega (arith, P.fits-back))) in
      z
      ∙ ap (λ (u : List Float). put u (l + b) (region u b 2)) (put-part w x (l + a) (l + a + degree - (l + a)) d)
      ∙ ap (put v (l + b)) q
      ∙ ap (λ (m : ℕ). put (put w (l + m) x) (l + b) (region w b 2)) e
      ∙ ap (λ (m : ℕ). put (put w (l + get_or offsets (get_or outs f 0) 0) x) (l + m) (region w m 2)) g
      ∙ ap (λ (m : Message). put (put w (l + get_or offsets (get_or outs f 0) 0) m) (l + get_or offsets (get_or outs (f + 1) 0) 0) (region w (get_or offsets (get_or outs (f + 1) 0) 0) 2)) (y ∙ ap made i)
