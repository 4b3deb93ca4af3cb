-- A list that is written over the front of another.
use Rattle.std.specs.Prelude.{ℕ, suc, ◌+◌, ◌≤◌, ◌<◌, ◌≡◌, refl, List, [], ◌∷◌, ◌++◌, length, drop, get_or, set}
use Rattle.std.proofs.Common.{arith, sym, ap, ◌∙◌, append_assoc, length-append, length-drop, drop-cons, drop-drop}
use Rattle.std.proofs.Math.Seq.{drop-append_seam, drop-append-add}
use Rattle.std.proofs.lemmas.List.{set_at}
use Rattle.definition.specs.Call.{overwrite}

module _ {A : Type 0} where
  pub over-length : (l m : List A) → length l ≤ length m → length (overwrite l m) ≡ length m
  over-length l m h = omega (arith, length-append l (drop (length l) m), length-drop (length l) m)

  -- an entry is stored behind what was written, or two are
  pub over-one : (d : A) (l m : List A) (k : ℕ) (v : A) → length l ≡ k → k < length m → set (overwrite l m) k v ≡ overwrite (l ++ (v ∷ [])) m
  over-one d l m k v e h =
      ap (λ (r : List A). set (l ++ r) k v) (drop-cons m (length l) d (omega arith))
      ∙ set_at l (get_or m (length l) d) (drop (suc (length l)) m) v k e
      ∙ sym (append_assoc l (v ∷ []) (drop (suc (length l)) m))
      ∙ ap (λ (n : ℕ). (l ++ (v ∷ [])) ++ drop n m) (let z : suc (length l) ≡ length (l ++ (v ∷ [])) = omega (arith, length-append l (v ∷ [])) in z)

  pub over-two : (d : A) (l m : List A) (k : ℕ) (x y : A) → length l ≡ k → k + 1 < length m → set (set (overwrite l m) k x) (k + 1) y ≡ overwrite (l ++ (x ∷ y ∷ [])) m
  over-two d l m k x y e h =
      ap (λ (r : List A). set r (k + 1) y) (over-one d l m k x e (omega arith))
      ∙ over-one d (l ++ (x ∷ [])) m (k + 1) y (omega (arith, length-append l (x ∷ []))) h
      ∙ ap (λ (r : List A). overwrite r m) (append_assoc l (x ∷ []) (y ∷ []))

  -- what is written over as long a list, over itself, or over a beginning of it
  pub over_other : (l k m : List A) → length l ≡ length k → overwrite l (overwrite k m) ≡ overwrite l m
  over_other l k m e =
      ap (λ (n : ℕ). l ++ drop n (overwrite k m)) e ∙ ap (λ (x : List A). l ++ x) (drop-append_seam k (drop (length k) m)) ∙ ap (λ (n : ℕ). l ++ drop n m) (sym e)

  pub over_again : (l m : List A) → overwrite l (overwrite l m) ≡ overwrite l m
  over_again l m = over_other l l m refl

  pub over_beginning : (l r m : List A) → overwrite (l ++ r) (overwrite l m) ≡ overwrite (l ++ r) m
  over_beginning l r m =
      let e : length (l ++ r) ≡ length l + length r = length-append l r in
      ap (λ (n : ℕ). (l ++ r) ++ drop n (overwrite l m)) e
      ∙ ap (λ (x : List A). (l ++ r) ++ x) (drop-append-add l (drop (length l) m) (length r) ∙ drop-drop (length r) (length l) m)
      ∙ ap (λ (n : ℕ). (l ++ r) ++ drop n m) (sym e)
