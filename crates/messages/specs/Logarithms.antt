-- Sums of the logarithms of a row of messages, and that they are finite: the logarithm lies within 91 of 0 at any value that binary32 has.
use Rattle.std.specs.Prelude.{◌≡◌, List, [], map, ℕ, ◌+◌, ◌*◌, ◌/◌, ◌^◌, ◌≤◌, ◌<◌, length, drop, get_or, Float}
use Rattle.std.proofs.Common.{sym, ap, ◌∙◌, subst, add-one, arith, drop_of_length-le, drop-cons}
use Rattle.std.proofs.lemmas.List.{length-map}
use Rattle.std.proofs.Math.ListN.{get_or-map}
use Rattle.float_laws.specs.Order.{le_trans_at}
use Rattle.float_laws.specs.Interval.{In}
use Rattle.float_laws.specs.Sums.{minus32, of_nat, whole_mono, minus_mono, signed_step}
use Rattle.definition.specs.Floats.{◌⊕◌, ln}
use Rattle.definition.specs.Vectors.{Message, entry, sum_from}
use Rattle.definition.specs.Directions.{message_at}
use Rattle.messages.specs.Pairs.{pairs, length_pairs}

-- within n of 0
abbrev pub Wide : ℕ → Float → Type 0
Wide n x = In (minus32 n) (of_nat n) x

-- the two logarithms of a message
pub record Logs (absent present a b : Float) : Type 0 where
  pub is-absent : a ≡ ln absent
  pub is-present : b ≡ ln present
  pub wide_absent : Wide 91 a
  pub wide_present : Wide 91 b

-- ---- a running sum of the logarithms of entry k
abbrev pub logs_of : ℕ → List Message → List Float
logs_of k ms = map (λ (m : Message). ln (entry k m)) ms

abbrev pub summed : ℕ → Float → List Message → Float
summed k a ms = sum_from a (logs_of k ms)

-- After i messages: what is left to add makes the whole.
pub record Upto (k : ℕ) (from : Float) (l : List Float) (i : ℕ) (acc : Float) : Type 0 where
  pub rest : sum_from acc (drop i (logs_of k (pairs l))) ≡ summed k from (pairs l)
  pub wide : Wide (91 + i * 91) acc

module _ (k : ℕ) (from : Float) (l : List Float) where
  pub turn :
      (i : ℕ) (acc x : Float) →
      i < length l / 2 → i < 1100 → x ≡ ln (entry k (message_at i (pairs l))) → Wide 91 x → Upto k from l i acc → Upto k from l (i + 1) (acc ⊕ x)
  turn i acc x h few e w u =
      let g : i < length (logs_of k (pairs l)) = omega (arith, length-map (pairs l) (λ (m : Message). ln (entry k m)), length_pairs l) in
      let r : x ≡ get_or (logs_of k (pairs l)) i (ln (entry k [])) = e ∙ sym (get_or-map (λ (m : Message). ln (entry k m)) (pairs l) i []) in
      let n : 91 + i * 91 + 91 ≡ 91 + (i + 1) * 91 = omega arith in
      record {
        rest =
            ap (λ (y : Float). sum_from (acc ⊕ y) (drop (i + 1) (logs_of k (pairs l)))) r
            ∙ ap (λ (n : ℕ). sum_from (acc ⊕ get_or (logs_of k (pairs l)) i (ln (entry k []))) (drop n (logs_of k (pairs l)))) (add-one i)
            ∙ ap (sum_from acc) (sym (drop-cons (logs_of k (pairs l)) i (ln (entry k [])) g))
            ∙ u.rest;
        wide = subst (λ (n : ℕ). Wide n (acc ⊕ x)) n (signed_step (91 + i * 91) 91 acc x (omega arith) u.wide w);
      }

  pub finish : (i : ℕ) (acc : Float) → length l / 2 ≤ i → Upto k from l i acc → acc ≡ summed k from (pairs l)
  finish i acc h u =
      let g : length (logs_of k (pairs l)) ≤ i = omega (arith, length-map (pairs l) (λ (m : Message). ln (entry k m)), length_pairs l) in
      ap (sum_from acc) (sym (drop_of_length-le (logs_of k (pairs l)) g)) ∙ u.rest

pub widen : (n m : ℕ) (x : Float) → n ≤ m → m ≤ 2 ^ 24 → Wide n x → Wide m x
widen n m x h g i = record { low = le_trans_at (minus32 m) (minus32 n) x (minus_mono n m h g) i.low; high = le_trans_at x (of_nat n) (of_nat m) i.high (whole_mono n m h g) }
