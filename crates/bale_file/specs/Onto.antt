-- Words laid one after the other into a slice: the first that fit are there, and the others are counted.
use Prim.Native.Nat.{ℕ, zero, suc, ◌+◌, ◌-◌, ◌≤◌, ◌<◌, min}
use Rattle.std.proofs.Common.{add-one, arith, sym, ap, ◌∙◌, take-append-drop}
use Rattle.std.specs.Prelude.{◌≡◌, Bool, ltb, drop, set}
use Rattle.std.proofs.Math.Path.{refl}
use Rattle.std.proofs.Math.Bool.{true, false}
use mathlib.Core.List.{List, [], ◌∷◌, ◌++◌, append_assoc}
use borrow.Author.Tests.{ltb-true, ltb-false}
use Rattle.std.proofs.Math.ListN.{length, take, drop_of_length-le}
use Rattle.std.proofs.Math.Seq.{take-nil, take_all, take-suc-set, drop-set-lt, drop-cons, set_out}
use Rattle.bale_file.specs.Reading.{one_more, put_at}

-- a slice with words over its front
unfoldable pub onto : List ℕ → List ℕ → List ℕ
onto [] xs = xs
onto (w ∷ ws) [] = []
onto (w ∷ ws) (x ∷ xs) = w ∷ onto ws xs

onto_nil : (ws : List ℕ) → onto ws [] ≡ []
unfolding onto
onto_nil [] = refl
onto_nil (w ∷ ws) = refl

pub take-onto : (n : ℕ) (ws xs : List ℕ) → n ≤ length ws → n ≤ length xs → take n (onto ws xs) ≡ take n ws
unfolding onto
take-onto zero ws xs a b = refl
take-onto (suc n) [] xs a b = absurd (let z : ⊥ = omega arith in z)
take-onto (suc n) (w ∷ ws) [] a b = absurd (let z : ⊥ = omega arith in z)
take-onto (suc n) (w ∷ ws) (x ∷ xs) a b = ap (λ (l : List ℕ). w ∷ l) (take-onto n ws xs (omega arith) (omega arith))

-- how many words there are, and what holds them
pub record Slots : Type 0 where
  pub count : ℕ
  pub slots : List ℕ

abbrev pub slots_of : ℕ → List ℕ → Slots
slots_of n xs = record { count = n; slots = xs }

-- words put one after the other
module _ {A : Type 0} (put : ℕ → A → A) where
  abbrev pub put_each : List ℕ → A → A
  put_each [] a = a
  put_each (w ∷ ws) a = put_each ws (put w a)

module _ (most : ℕ) where
  unfoldable pub put_one : ℕ → Slots → Slots
  put_one w s = slots_of (one_more most s.count) (put_at most s.slots s.count w)

  abbrev pub put_all : List ℕ → Slots → Slots
  put_all = put_each put_one

  put_room : (w n : ℕ) (xs : List ℕ) → ltb n most ≡ true → put_one w (slots_of n xs) ≡ slots_of (n + 1) (set xs n w)
  unfolding put_one one_more put_at
  put_room w n xs e = rw e

  put_full : (w n : ℕ) (xs : List ℕ) → ltb n most ≡ false → put_one w (slots_of n xs) ≡ slots_of n xs
  unfolding put_one one_more put_at
  put_full w n xs e = rw e

  -- one word more
  step : (w : ℕ) (ws xs : List ℕ) (n : ℕ) (b : Bool) → ltb n (length xs) ≡ b → take (n + 1) (set xs n w) ++ onto ws (drop (n + 1) (set xs n w)) ≡ take n xs ++ onto (w ∷ ws) (drop n xs)
  unfolding onto
  step w ws xs n true e =
      rw (add-one n, take-suc-set xs n w (ltb-true n (length xs) e), drop-set-lt (suc n) xs n w (omega arith), drop-cons xs n 0 (ltb-true n (length xs) e), append_assoc)
  step w ws xs n false e =
      let a : length xs ≤ n = ltb-false n (length xs) e in
      rw (set_out xs n w a, take_all (n + 1) xs (omega arith), take_all n xs a, drop_of_length-le xs {i = n + 1} (omega arith), drop_of_length-le xs a, onto_nil ws)

  put-slots : (ws xs : List ℕ) (n : ℕ) → (put_all ws (slots_of n xs)).slots ≡ take n xs ++ onto (take (most - n) ws) (drop n xs)
  unfolding onto
  put-slots [] xs n = rw take-nil (sym (take-append-drop n xs))
  put-slots (w ∷ ws) xs n = go (ltb n most) refl (put-slots ws xs n) (put-slots ws (set xs n w) (n + 1))
    where
      Front : ℕ → List ℕ → List ℕ → ℕ → List ℕ
      Front m vs ys k = take k ys ++ onto (take m vs) (drop k ys)

      go :
          (b : Bool) →
          ltb n most ≡ b →
          (put_all ws (slots_of n xs)).slots ≡ Front (most - n) ws xs n →
          (put_all ws (slots_of (n + 1) (set xs n w))).slots ≡ Front (most - (n + 1)) ws (set xs n w) (n + 1) →
          (put_all ws (put_one w (slots_of n xs))).slots ≡ Front (most - n) (w ∷ ws) xs n
      go true e full room =
          let l : n < most = ltb-true n most e in
          let d : most - n ≡ suc (most - (n + 1)) = omega arith in
          ap (λ (s : Slots). (put_all ws s).slots) (put_room w n xs e)
          ∙ room
          ∙ step w (take (most - (n + 1)) ws) xs n (ltb n (length xs)) refl
          ∙ ap (λ (k : ℕ). Front k (w ∷ ws) xs n) (sym d)
      go false e full room =
          let d : most - n ≡ 0 = omega (arith, ltb-false n most e) in
          ap (λ (s : Slots). (put_all ws s).slots) (put_full w n xs e)
          ∙ full
          ∙ ap (λ (k : ℕ). Front k ws xs n) d
          ∙ ap (λ (k : ℕ). Front k (w ∷ ws) xs n) (sym d)

  put_count : (ws xs : List ℕ) (n : ℕ) → n ≤ most → (put_all ws (slots_of n xs)).count ≡ min most (n + length ws)
  put_count [] xs n l = omega arith
  put_count (w ∷ ws) xs n l = go (ltb n most) refl (put_count ws xs n l) (put_count ws (set xs n w) (n + 1))
    where
      go :
          (b : Bool) →
          ltb n most ≡ b →
          (put_all ws (slots_of n xs)).count ≡ min most (n + length ws) →
          (n + 1 ≤ most → (put_all ws (slots_of (n + 1) (set xs n w))).count ≡ min most (n + 1 + length ws)) →
          (put_all ws (put_one w (slots_of n xs))).count ≡ min most (n + suc (length ws))
      go true e full room =
          ap (λ (s : Slots). (put_all ws s).count) (put_room w n xs e)
          ∙ room (omega (arith, ltb-true n most e))
          ∙ (let z : min most (n + 1 + length ws) ≡ min most (n + suc (length ws)) = omega arith in z)
      go false e full room =
          ap (λ (s : Slots). (put_all ws s).count) (put_full w n xs e)
          ∙ full
          ∙ (let z : min most (n + length ws) ≡ min most (n + suc (length ws)) = omega (arith, ltb-false n most e) in z)

  -- from an empty slice
  pub put-all : (ws xs : List ℕ) → put_all ws (slots_of 0 xs) ≡ slots_of (min most (length ws)) (onto (take most ws) xs)
  put-all ws xs =
      let a : min most (0 + length ws) ≡ min most (length ws) = omega arith in
      let b : most - 0 ≡ most = omega arith in
      λ i.
      record {
        count = (put_count ws xs 0 (omega arith) ∙ a) i;
        slots = (put-slots ws xs 0 ∙ ap (λ (k : ℕ). onto (take k ws) xs) b) i;
      }

  -- where all have been counted and fit, all are there
  pub all_there : (n : ℕ) (ws xs : List ℕ) → n ≡ min most (length ws) → n < most → n ≤ length xs → take n (onto (take most ws) xs) ≡ ws
  all_there n ws xs e l m =
      let k : length ws ≤ n = omega arith in
      let t : take most ws ≡ ws = take_all most ws (omega arith) in
      ap (λ (v : List ℕ). take n (onto v xs)) t ∙ take-onto n ws xs (omega arith) m ∙ take_all n ws k
