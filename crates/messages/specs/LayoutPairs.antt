-- Messages of two floats each: a row taken two by two.
use Rattle.std.specs.Prelude.{ℕ, suc, ◌+◌, ◌*◌, ◌≤◌, ◌<◌, ◌≡◌, refl, List, [], ◌∷◌, Float, length, take, drop}
use Rattle.std.proofs.Common.{arith, ap, ◌∙◌}
use Rattle.definition.specs.Vectors.{Message}
use Rattle.definition.specs.Directions.{Direction, no_direction, MessageNode, messages_in}
use Rattle.list_laws.specs.Part.{get_d_region, length-region}
use Rattle.messages.specs.Layout.{cut, width}
pub use Rattle.messages.specs.Pairs.{pairs}
use Rattle.messages.specs.LayoutOffsets.{long_at, TwoLong, span-two}
use Rattle.messages.specs.LayoutCut.{directions_in, row_in, messages_in-cut, length-row_in}

pub cut-pairs : (ds : List Direction) (r : List Float) → length r ≡ 2 * length ds → ((d : ℕ) → d < length ds → long_at ds d ≡ 2) → cut ds r ≡ pairs r
cut-pairs [] [] h b = refl
cut-pairs [] (a ∷ r) h b = absurd (let z : ⊥ = omega arith in z)
cut-pairs (x ∷ ds) [] h b = absurd (let z : ⊥ = omega arith in z)
cut-pairs (x ∷ ds) (a ∷ []) h b = absurd (let z : ⊥ = omega arith in z)
cut-pairs (x ∷ ds) (a ∷ c ∷ r) h b =
    ap (λ (n : ℕ). take n (a ∷ c ∷ r) ∷ cut ds (drop n (a ∷ c ∷ r))) (b 0 (omega arith))
    ∙ ap (λ (l : List Message). (a ∷ c ∷ []) ∷ l) (cut-pairs ds r (omega arith) (λ d k. b (suc d) (omega arith)))

-- ---- of a node whose incoming messages are all two long
module _ (x : MessageNode) (ds : List Direction) (r : List Float) (inside : x.first_incoming + length x.outgoing ≤ length ds) (e : length r ≡ width ds)
    (two : TwoLong ds x.first_incoming (length x.outgoing)) where
  pub length-row_in-two : length (row_in x ds r) ≡ 2 * length x.outgoing
  length-row_in-two = length-row_in x ds r inside e ∙ span-two ds x.first_incoming (length x.outgoing) inside two

  pub messages_in-pairs : messages_in x (cut ds r) ≡ pairs (row_in x ds r)
  messages_in-pairs =
      let n : length (directions_in x ds) ≡ length x.outgoing = length-region ds x.first_incoming (length x.outgoing) inside in
      messages_in-cut x ds r inside
      ∙ cut-pairs (directions_in x ds) (row_in x ds r) (omega (arith, n, length-row_in-two))
      (λ d h.
      let k : d < length x.outgoing = omega arith in
      ap (λ (w : Direction). w.message_length) (get_d_region ds x.first_incoming (length x.outgoing) d no_direction k) ∙ two d k)
