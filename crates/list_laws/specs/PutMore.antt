-- More laws of a list put into another: stores beside it and at its end, and a part of it put anew.
use Rattle.std.specs.Prelude.{◌≡◌, ℕ, ◌+◌, ◌-◌, ◌≤◌, ◌<◌, get_or, set}
use Rattle.std.proofs.Common.{sym, ◌∙◌, add-one, arith, length-set, length-append, get_or-set_same, get_or-set_other, get_or-append-add}
use Rattle.std.proofs.Math.Path.{ap}
use Rattle.std.proofs.Math.Logic.{by_cases}
use mathlib.Core.List.{List, [], ◌∷◌, ◌++◌, append_assoc}
use Rattle.std.proofs.Math.Decide.{dec_lt}
use Rattle.std.proofs.Math.ListN.{length, take, drop, get_or-append}
use Rattle.std.proofs.Math.Seq.{set_split, sets-eq}
use Rattle.std.proofs.lemmas.List.Edits.{sets}
use Rattle.list_laws.specs.Write.{write, write-below, write-above, write_in, length-write}
use Rattle.list_laws.specs.Put.{put, length-put, put-below, put_in, put-above, put_is, put_next, put_inner}

module _ {A : Type 0} (d : A) where
  -- a range that is written is one that is put
  pub write-put : (l : List A) (at : ℕ) (s : List A) (f : ℕ → A) → at + length s ≤ length l → ((k : ℕ) → k < length s → f k ≡ get_or s k d) → write l at (length s) f ≡ put l at s
  write-put l at s f h e =
      put_is d (write l at (length s) f) l at s h (length-write l at (length s) f)
      (λ k q. write_in l at (length s) k f d q h ∙ e k q) (λ j q. write-below l at (length s) j f d q) (λ j q. write-above l at (length s) j f d q)

  pub put_one_lem : (l : List A) (at : ℕ) (v : A) → at < length l → set l at v ≡ put l at (v ∷ [])
  unfolding put
  put_one_lem l at v h = set_split l at v h ∙ ap (λ (k : ℕ). take at l ++ v ∷ drop k l) (sym (add-one at))

  pub put_snoc : (l : List A) (at : ℕ) (s : List A) (v : A) → at + length s < length l → set (put l at s) (at + length s) v ≡ put l at (s ++ v ∷ [])
  put_snoc l at s v h =
      put_one_lem (put l at s) (at + length s) v (rw (length-put l at s (omega arith)) h) ∙ put_next d l at s (v ∷ []) (omega arith)

  -- a store before the range
  pub set-put : (l : List A) (at : ℕ) (s : List A) (j : ℕ) (v : A) → at + length s ≤ length l → j < at → set (put l at s) j v ≡ put (set l j v) at s
  set-put l at s j v h q =
      put_is d (set (put l at s) j v) (set l j v) at s (rw length-set h) (length-set (put l at s) j v ∙ length-put l at s h ∙ sym (length-set l j v))
      (λ k r. get_or-set_other (put l at s) j (at + k) v d (λ z. omega arith) ∙ put_in l at s d k (omega arith) r)
      (λ i r. by_cases (dec_lt i j)
      (λ (a : i < j). get_or-set_other (put l at s) j i v d (λ z. omega arith) ∙ put-below l at s d i (omega arith) r ∙ sym (get_or-set_other l j i v d (λ z. omega arith)))
      (λ a. by_cases (dec_lt j i)
      (λ (b : j < i). get_or-set_other (put l at s) j i v d (λ z. omega arith) ∙ put-below l at s d i (omega arith) r ∙ sym (get_or-set_other l j i v d (λ z. omega arith)))
      (λ b. let z : i ≡ j = omega arith in rw z (get_or-set_same (put l at s) j v d (rw (length-put l at s h) (omega arith)) ∙ sym (get_or-set_same l j v d (omega arith))))))
      (λ i r. get_or-set_other (put l at s) j i v d (λ z. omega arith) ∙ put-above l at s d i (omega arith) r ∙ sym (get_or-set_other l j i v d (λ z. omega arith)))

  part-put : (x y r z : List A) → length z ≡ length y → put (x ++ (y ++ r)) (length x) z ≡ x ++ (z ++ r)
  part-put x y r z e =
      let n : length (x ++ (y ++ r)) ≡ length x + (length y + length r) = length-append x (y ++ r) ∙ ap (λ (k : ℕ). length x + k) (length-append y r) in
      let k : length (x ++ (z ++ r)) ≡ length x + (length z + length r) = length-append x (z ++ r) ∙ ap (λ (j : ℕ). length x + j) (length-append z r) in
      sym
      (put_is d (x ++ (z ++ r)) (x ++ (y ++ r)) (length x) z (omega arith) (omega arith)
      (λ i q. get_or-append-add x (z ++ r) i d ∙ get_or-append z r d i q)
      (λ j q. get_or-append x (z ++ r) d j q ∙ sym (get_or-append x (y ++ r) d j q))
      (λ j q.
      let u : length x + (length z + (j - (length x + length z))) ≡ j = omega arith in
      let w : length x + (length y + (j - (length x + length z))) ≡ j = omega arith in
      ap (λ (i : ℕ). get_or (x ++ (z ++ r)) i d) (sym u) ∙ get_or-append-add x (z ++ r) (length z + (j - (length x + length z))) d ∙ get_or-append-add z r (j - (length x + length z)) d
      ∙ sym (ap (λ (i : ℕ). get_or (x ++ (y ++ r)) i d) (sym w) ∙ get_or-append-add x (y ++ r) (length y + (j - (length x + length z))) d ∙ get_or-append-add y r (j - (length x + length z)) d)))

  -- a part of the range is put anew
  pub put_middle : (l : List A) (at : ℕ) (x y r z : List A) → at + length (x ++ (y ++ r)) ≤ length l → length z ≡ length y → put (put l at (x ++ (y ++ r))) (at + length x) z ≡ put l at (x ++ (z ++ r))
  put_middle l at x y r z h e =
      put_inner d l at (x ++ (y ++ r)) (length x) z h (omega (arith, length-append x (y ++ r), length-append y r)) ∙ ap (put l at) (part-put x y r z e)

  -- a run of stores
  pub put-sets : (l : List A) (at : ℕ) (s : List A) → at + length s ≤ length l → sets l at s ≡ put l at s
  unfolding put
  put-sets l at s h = sets-eq s l at h ∙ append_assoc (take at l) s (drop (at + length s) l)
