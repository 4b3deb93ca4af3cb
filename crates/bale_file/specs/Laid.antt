-- Words laid over the front of a slice, two entries to each: the evidence and the pairs of the bale that they stand for.
use Rattle.std.specs.Prelude.{ℕ, zero, suc, ◌+◌, ◌*◌, ◌/◌, ◌<◌, ◌≡◌, refl, List, [], ◌∷◌, map, Float, length, get_or, set, take}
use Rattle.std.proofs.Common.{add-one, arith, ap, ◌∙◌, take_all}
use Rattle.std.proofs.Math.Option.{Option}
use Rattle.definition.specs.BaleFile.{evidence_of, pair_of}
use Rattle.definition.specs.Lists.{twos}
use Rattle.definition.specs.Refusals.{markers_of, pairs_of}
use Rattle.definition.specs.Call.{overwrite}

module _ {A : Type 0} (f g : ℕ → A) where
  abbrev pub in_twos : List ℕ → List A
  in_twos [] = []
  in_twos (w ∷ ws) = f w ∷ g w ∷ in_twos ws

  -- the first words, as many as there is room for; the rest of the slice stays
  abbrev pub laid : List ℕ → List A → List A
  laid ws xs = overwrite (in_twos (take (length xs / 2) ws)) xs

  -- one word more
  laid-suc :
      (i : ℕ) (ws : List ℕ) (xs : List A) → i < length ws → 2 * i + 1 < length xs →
      set (set (overwrite (in_twos (take i ws)) xs) (2 * i) (f (get_or ws i 0))) (2 * i + 1) (g (get_or ws i 0)) ≡ overwrite (in_twos (take (suc i) ws)) xs
  laid-suc i [] xs l e = absurd (let z : ⊥ = omega arith in z)
  laid-suc i (w ∷ ws) [] l e = absurd (let z : ⊥ = omega arith in z)
  laid-suc i (w ∷ ws) (x ∷ []) l e = absurd (let z : ⊥ = omega arith in z)
  laid-suc zero (w ∷ ws) (x ∷ y ∷ xs) l e = refl
  laid-suc (suc i) (w ∷ ws) (x ∷ y ∷ xs) l e =
      let p : 2 * suc i ≡ suc (suc (2 * i)) = omega arith in
      let q : 2 * suc i + 1 ≡ suc (suc (2 * i + 1)) = omega arith in
      rw (q, p) (ap (λ (t : List A). f w ∷ g w ∷ t) (laid-suc i ws xs (omega arith) (omega arith)))

  pub laid_next :
      (i : ℕ) (ws : List ℕ) (xs ys : List A) (a b : A) →
      i < length ws →
      2 * i + 1 < length xs →
      ys ≡ overwrite (in_twos (take i ws)) xs →
      a ≡ f (get_or ws i 0) →
      b ≡ g (get_or ws i 0) →
      set (set ys (2 * i) a) (2 * i + 1) b ≡ overwrite (in_twos (take (i + 1) ws)) xs
  laid_next i ws xs ys a b l e p q r = rw (p, q, r, add-one i) (laid-suc i ws xs l e)

abbrev pub evidence_laid : Option ℕ → List ℕ → List Float → List Float
evidence_laid b = laid (λ w. (evidence_of b w).absent) (λ w. (evidence_of b w).present)

abbrev pub pairs_laid : List ℕ → List ℕ → List ℕ
pairs_laid = laid (λ w. (pair_of w).grade) (λ w. (pair_of w).marker)

-- ---- in a slice of just their length they are the bale's markers and pairs

module _ {A B : Type 0} (f g : ℕ → A) (h : A → A → B) where
  all_laid : (ws : List ℕ) (xs : List A) → length xs ≡ 2 * length ws → twos h (overwrite (in_twos f g ws) xs) ≡ map (λ w. h (f w) (g w)) ws
  all_laid [] [] e = refl
  all_laid [] (x ∷ xs) e = absurd (let z : ⊥ = omega arith in z)
  all_laid (w ∷ ws) [] e = absurd (let z : ⊥ = omega arith in z)
  all_laid (w ∷ ws) (x ∷ []) e = absurd (let z : ⊥ = omega arith in z)
  all_laid (w ∷ ws) (x ∷ y ∷ xs) e = ap (λ (l : List B). h (f w) (g w) ∷ l) (all_laid ws xs (omega arith))

  laid-twos : (ws : List ℕ) (xs : List A) → length xs ≡ 2 * length ws → twos h (laid f g ws xs) ≡ map (λ w. h (f w) (g w)) ws
  laid-twos ws xs e = ap (λ (vs : List ℕ). twos h (overwrite (in_twos f g vs) xs)) (take_all (length xs / 2) ws (omega arith)) ∙ all_laid ws xs e

pub laid_markers :
    (b : Option ℕ) (ws : List ℕ) (xs : List Float) → length xs ≡ 2 * length ws → markers_of (evidence_laid b ws xs) ≡ map (evidence_of b) ws
unfolding markers_of
laid_markers b = laid-twos (λ w. (evidence_of b w).absent) (λ w. (evidence_of b w).present) (λ a p. record { absent = a; present = p })

pub laid-pairs : (ws xs : List ℕ) → length xs ≡ 2 * length ws → pairs_of (pairs_laid ws xs) ≡ map pair_of ws
unfolding pairs_of pair_of
laid-pairs = laid-twos (λ w. (pair_of w).grade) (λ w. (pair_of w).marker) (λ g m. record { grade = g; marker = m })
