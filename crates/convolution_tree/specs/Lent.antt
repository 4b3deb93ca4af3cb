-- A part of a slice that was lent, as it stands in the whole when it is back.
use Rattle.std.specs.Prelude.{◌≡◌, refl, List, [], ◌∷◌, ◌++◌, ℕ, zero, suc, ◌+◌, ◌-◌, ◌≤◌, length, take, drop, replicate, Float}
use Rattle.std.proofs.Common.{sym, ap, ◌∙◌, append-nil, arith, not-suc-le-zero, le_of_suc-le-suc, length-append, length-drop}
use Rattle.std.proofs.lemmas.List.{length-replicate}
use Rattle.std.proofs.Math.Seq.{drop-nil}
use Rattle.list_laws.specs.Put.{put, put-part}
use Rattle.definition.specs.Floats.{zeroᶠ}
use Rattle.convolution_tree.specs.Zeros.{zeros-part, zeros-own}
use Rattle.convolution_tree.specs.Nodes.{take-front, drop-front}

pub drop_all : (k : ℕ) (s : List Float) → length s ≤ k → drop k s ≡ []
drop_all k [] h = drop-nil k
drop_all zero (x ∷ s) h = absurd (not-suc-le-zero h)
drop_all (suc k) (x ∷ s) h = drop_all k s (le_of_suc-le-suc h)

pub lent-part : (w v s : List Float) (at n : ℕ) → length s ≡ n → v ≡ s → take at w ++ (v ++ drop (at + n - at) (drop at w)) ≡ put w at s
lent-part w v s at n k e =
    let z : at + n - at ≡ n = omega arith in
    ap (λ (i : ℕ). take at w ++ (v ++ drop i (drop at w))) z ∙ ap (λ (u : List Float). take at w ++ (u ++ drop n (drop at w))) e ∙ put-part w s at n k

-- where what was lent is known
pub lent-made : (w v s y : List Float) (at : ℕ) → v ≡ s → s ≡ y → take at w ++ (v ++ drop (at + length s - at) (drop at w)) ≡ put w at y
lent-made w v s y at e f = lent-part w v s at (length s) refl e ∙ ap (put w at) f

-- ---- a range of zeros whose halves are lent one after the other

module _ (t u v : List Float) (m : ℕ) (zero-before : t ≡ replicate (m + m) zeroᶠ) (lu : length u ≡ m) where
  abbrev half_done : List Float
  half_done = u ++ drop m t

  length_before : length t ≡ m + m
  length_before = ap length zero-before ∙ length-replicate (m + m) zeroᶠ

  pub first-zeros : take m t ≡ replicate (length (take m t)) zeroᶠ
  first-zeros = zeros-own (take m t) m (ap (take m) zero-before ∙ zeros-part (m + m) 0 m (omega arith))

  pub length-half : length half_done ≡ m + m
  length-half = omega (arith, length-append u (drop m t), length-drop m t, length_before)

  rest : drop m half_done ≡ drop m t
  rest = ap (λ (k : ℕ). drop k (u ++ drop m t)) (sym lu) ∙ drop-front u (drop m t)

  second : (k : ℕ) → k ≡ m → take k (drop m half_done) ≡ replicate m zeroᶠ
  second k e = ap (λ (i : ℕ). take i (drop m half_done)) e ∙ ap (take m) (rest ∙ ap (drop m) zero-before) ∙ zeros-part (m + m) m m (omega arith)

  pub second_zeros : take (length half_done - m) (drop m half_done) ≡ replicate (length (take (length half_done - m) (drop m half_done))) zeroᶠ
  second_zeros = zeros-own (take (length half_done - m) (drop m half_done)) m (second (length half_done - m) (omega (arith, length-half)))

  pub length_second : length (take (length half_done - m) (drop m half_done)) ≡ m
  length_second = ap length (second (length half_done - m) (omega (arith, length-half))) ∙ length-replicate m zeroᶠ

  pub both_done : take m half_done ++ (v ++ drop (length half_done - m) (drop m half_done)) ≡ u ++ v
  both_done =
      let k : length half_done - m ≡ m = omega (arith, length-half) in
      ap (λ (i : ℕ). take i half_done ++ (v ++ drop (length half_done - m) (drop m half_done))) (sym lu)
      ∙ ap (λ (x : List Float). x ++ (v ++ drop (length half_done - m) (drop m half_done))) (take-front u (drop m t))
      ∙ ap (λ (x : List Float). u ++ (v ++ x)) (drop_all (length half_done - m) (drop m half_done) (omega (arith, length-drop m half_done, length-half)))
      ∙ ap (λ (x : List Float). u ++ x) (append-nil v)
