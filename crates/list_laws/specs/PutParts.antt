-- Ranges put into a list: element by element, in any order, and at the front of a lent range.
use Rattle.std.specs.Prelude.{◌≡◌, List, [], ◌∷◌, ◌++◌, get_or, take, drop, set}
use Rattle.std.proofs.Common.{sym, ap, ◌∙◌, append_assoc, ext_get_or}
use Rattle.std.proofs.Math.Logic.{by_cases}
use Prim.Native.Nat.{ℕ, suc, ◌+◌, ◌-◌, ◌≤◌, ◌<◌}
use Rattle.std.proofs.Math.Decide.{dec_lt}
use native.Mathlib.Omega.{arith}
use Rattle.std.proofs.Math.ListN.{length}
use Rattle.std.proofs.Math.Seq.{take-suc-set, drop-set-lt}
use Rattle.list_laws.specs.Part.{region, get_d_region, length-region}
use Rattle.list_laws.specs.Put.{put, put_is, put_in, put-below, put-above, length-put, put-part, put_inner, put-region, put_next}
use Rattle.list_laws.specs.PutMore.{put_one_lem}

module _ {A : Type 0} where
  -- the first of a range is stored, and then the rest of it is put
  pub put_cons : (l : List A) (i : ℕ) (v : A) (r : List A) → i < length l → put (set l i v) (i + 1) r ≡ put l i (v ∷ r)
  unfolding put
  put_cons l i v r h =
      let a : i + 1 ≡ suc i = omega arith in
      let b : suc i + length r ≡ i + suc (length r) = omega arith in
      rw (a, take-suc-set l i v h, b, drop-set-lt (i + suc (length r)) l i v (omega arith), append_assoc)

  -- ranges that lie apart are put in any order
  pub put_comm : (d : A) (l : List A) (a b : ℕ) (s t : List A) → a + length s ≤ b → b + length t ≤ length l → put (put l a s) b t ≡ put (put l b t) a s
  put_comm d l a b s t h g =
      let m : length (put l b t) ≡ length l = length-put l b t g in
      let n : length (put l a s) ≡ length l = length-put l a s (omega arith) in
      put_is d (put (put l a s) b t) (put l b t) a s (omega arith) (length-put (put l a s) b t (omega arith) ∙ n ∙ sym m)
      (λ k q. put-below (put l a s) b t d (a + k) (omega arith) (omega arith) ∙ put_in l a s d k (omega arith) q)
      (λ j q. put-below (put l a s) b t d j (omega arith) (omega arith) ∙ put-below l a s d j (omega arith) q ∙ sym (put-below l b t d j (omega arith) (omega arith)))
      (λ j q.
      by_cases (dec_lt j b)
      (λ (u : j < b). put-below (put l a s) b t d j (omega arith) u ∙ put-above l a s d j (omega arith) q ∙ sym (put-below l b t d j (omega arith) u))
      (λ u.
      by_cases (dec_lt j (b + length t))
      (λ (w : j < b + length t).
      let e : b + (j - b) ≡ j = omega arith in
      ap (λ (i : ℕ). get_or (put (put l a s) b t) i d) (sym e)
      ∙ put_in (put l a s) b t d (j - b) (omega arith) (omega arith)
      ∙ sym (put_in l b t d (j - b) (omega arith) (omega arith))
      ∙ ap (λ (i : ℕ). get_or (put l b t) i d) e)
      (λ w. put-above (put l a s) b t d j (omega arith) (omega arith) ∙ put-above l a s d j (omega arith) q ∙ sym (put-above l b t d j (omega arith) (omega arith)))))

  -- the last of a range is stored, and then the rest of it is put
  pub put_last : (d : A) (l : List A) (at : ℕ) (s : List A) (v : A) → at + length s < length l → put (set l (at + length s) v) at s ≡ put l at (s ++ v ∷ [])
  put_last d l at s v h =
      ap (λ (z : List A). put z at s) (put_one_lem d l (at + length s) v h)
      ∙ sym (put_comm d l at (at + length s) s (v ∷ []) (omega arith) (omega arith))
      ∙ put_next d l at s (v ∷ []) (omega arith)

  -- a range above what is put
  pub region-above : (d : A) (l : List A) (a : ℕ) (s : List A) (b m : ℕ) → a + length s ≤ b → b + m ≤ length l → region (put l a s) b m ≡ region l b m
  region-above d l a s b m h g =
      let n : length (put l a s) ≡ length l = length-put l a s (omega arith) in
      let e : length (region (put l a s) b m) ≡ m = length-region (put l a s) b m (omega arith) in
      ext_get_or d (region (put l a s) b m) (region l b m) (e ∙ sym (length-region l b m g))
      (λ i q.
      let r : i < m = rw e at q in
      get_d_region (put l a s) b m i d r ∙ put-above l a s d (b + i) (omega arith) (omega arith) ∙ sym (get_d_region l b m i d r))

  -- a lent range comes back with another put at its front
  pub put_front : (d : A) (l : List A) (at n : ℕ) (s y : List A) → at + n ≤ length l → length s ≤ n → y ≡ put (region l at n) 0 s → take at l ++ (y ++ drop n (drop at l)) ≡ put l at s
  put_front d l at n s y h g e =
      let m : length (region l at n) ≡ n = length-region l at n h in
      let k : length y ≡ n = ap length e ∙ length-put (region l at n) 0 s (omega arith) ∙ m in
      let z : at + 0 ≡ at = omega arith in
      put-part l y at n k
      ∙ ap (put l at) e
      ∙ sym (put_inner d l at (region l at n) 0 s (omega arith) (omega arith))
      ∙ ap (λ (x : List A). put x (at + 0) s) (sym (put-region d l at n h))
      ∙ ap (λ (i : ℕ). put l i s) z
