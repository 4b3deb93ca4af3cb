-- A list put into another from an index on, and its laws: what a function that writes one range of a slice ensures.
use Rattle.std.specs.Prelude.{◌≡◌, refl, ◌⊎◌, List, [], ◌++◌, ℕ, ◌+◌, ◌-◌, ◌≤◌, ◌<◌}
use Rattle.std.proofs.Common.{sym, ◌∙◌, ⊎_elim, get_or-set_same, get_or-set_other, ext_get_or, length-take-le}
use Rattle.std.proofs.Math.Path.{ap}
use Rattle.std.proofs.Math.Logic.{by_cases}
use Rattle.std.proofs.Math.Decide.{dec_lt}
use Rattle.std.proofs.Math.Nat.{add-zero}
use native.Mathlib.Omega.{arith}
use lib.ListN.{length, get_or, take, drop, set, length-set, length-take, length-drop, length-append, get_or-append}
use Rattle.std.proofs.Math.Seq.{get_or-take, get_or-drop, get_or-append-add, drop-drop}
use Rattle.list_laws.specs.Part.{region, get_d_region, length-region}

module _ {A : Type 0} where
  -- s from index at on
  unfoldable pub put : List A → ℕ → List A → List A
  put l at s = take at l ++ (s ++ drop (at + length s) l)

  -- what a lent part of a slice leaves in the whole
  pub put-part : (l s : List A) (at n : ℕ) → length s ≡ n → take at l ++ (s ++ drop n (drop at l)) ≡ put l at s
  unfolding put
  put-part l s at n e = rw (← e, drop-drop (length s) at l)

  pub length-put : (l : List A) (at : ℕ) (s : List A) → at + length s ≤ length l → length (put l at s) ≡ length l
  unfolding put
  length-put l at s h = simp (length-append, length-take, length-drop) (omega arith)

  pub put-below : (l : List A) (at : ℕ) (s : List A) (d : A) (j : ℕ) → at ≤ length l → j < at → get_or (put l at s) j d ≡ get_or l j d
  unfolding put
  put-below l at s d j b h =
      get_or-append (take at l) (s ++ drop (at + length s) l) d j (rw (length-take-le at l b) h) ∙ get_or-take at l j d h

  past : (l : List A) (at : ℕ) (r : List A) (d : A) (k : ℕ) → at ≤ length l → get_or (take at l ++ r) (at + k) d ≡ get_or r k d
  past l at r d k b = ap (λ (n : ℕ). get_or (take at l ++ r) (n + k) d) (sym (length-take-le at l b)) ∙ get_or-append-add (take at l) r k d

  pub put_in : (l : List A) (at : ℕ) (s : List A) (d : A) (k : ℕ) → at ≤ length l → k < length s → get_or (put l at s) (at + k) d ≡ get_or s k d
  unfolding put
  put_in l at s d k b h = past l at (s ++ drop (at + length s) l) d k b ∙ get_or-append s (drop (at + length s) l) d k h

  pub put-above : (l : List A) (at : ℕ) (s : List A) (d : A) (j : ℕ) → at ≤ length l → at + length s ≤ j → get_or (put l at s) j d ≡ get_or l j d
  unfolding put
  put-above l at s d j b h =
      let e : at + (length s + (j - (at + length s))) ≡ j = omega arith in
      let f : at + length s + (j - (at + length s)) ≡ j = omega arith in
      ap (λ (n : ℕ). get_or (take at l ++ (s ++ drop (at + length s) l)) n d) (sym e)
      ∙ past l at (s ++ drop (at + length s) l) d (length s + (j - (at + length s))) b
      ∙ get_or-append-add s (drop (at + length s) l) (j - (at + length s)) d
      ∙ get_or-drop (at + length s) l (j - (at + length s)) d
      ∙ ap (λ (n : ℕ). get_or l n d) f

  -- a list is l with s put in, where it has s there and l elsewhere
  pub put_is :
      (d : A) (w l : List A) (at : ℕ) (s : List A) →
      at + length s ≤ length l → length w ≡ length l →
      ((k : ℕ) → k < length s → get_or w (at + k) d ≡ get_or s k d) →
      ((j : ℕ) → j < at → get_or w j d ≡ get_or l j d) →
      ((j : ℕ) → at + length s ≤ j → get_or w j d ≡ get_or l j d) → w ≡ put l at s
  put_is d w l at s h e f g k =
      ext_get_or d w (put l at s) (e ∙ sym (length-put l at s h))
      (λ i q.
      by_cases (dec_lt i at)
      (λ (a : i < at). g i a ∙ sym (put-below l at s d i (omega arith) a))
      (λ a.
      by_cases (dec_lt i (at + length s))
      (λ (b : i < at + length s).
      let r : at + (i - at) ≡ i = omega arith in
      ap (λ (n : ℕ). get_or w n d) (sym r) ∙ f (i - at) (omega arith) ∙ sym (put_in l at s d (i - at) (omega arith) (omega arith)) ∙ ap (λ (n : ℕ). get_or (put l at s) n d) r)
      (λ b. k i (omega arith) ∙ sym (put-above l at s d i (omega arith) (omega arith)))))

  -- one element of the range is stored
  pub put-set : (d : A) (l : List A) (at : ℕ) (s : List A) (k : ℕ) (v : A) → at + length s ≤ length l → k < length s → set (put l at s) (at + k) v ≡ put l at (set s k v)
  put-set d l at s k v h q =
      let n : length (set s k v) ≡ length s = length-set s k v in
      let m : length (put l at s) ≡ length l = length-put l at s h in
      put_is d (set (put l at s) (at + k) v) l at (set s k v) (rw n h) (length-set (put l at s) (at + k) v ∙ m)
      (λ i r.
      by_cases (dec_lt i k)
      (λ (a : i < k). get_or-set_other (put l at s) (at + k) (at + i) v d (λ e. omega arith) ∙ put_in l at s d i (omega arith) (omega arith) ∙ sym (get_or-set_other s k i v d (λ e. omega arith)))
      (λ a.
      by_cases (dec_lt k i)
      (λ (b : k < i). get_or-set_other (put l at s) (at + k) (at + i) v d (λ e. omega arith) ∙ put_in l at s d i (omega arith) (omega arith) ∙ sym (get_or-set_other s k i v d (λ e. omega arith)))
      (λ b.
      let e : i ≡ k = omega arith in
      rw e (get_or-set_same (put l at s) (at + k) v d (omega arith) ∙ sym (get_or-set_same s k v d q)))))
      (λ j r. get_or-set_other (put l at s) (at + k) j v d (λ e. omega arith) ∙ put-below l at s d j (omega arith) r)
      (λ j r. get_or-set_other (put l at s) (at + k) j v d (λ e. omega arith) ∙ put-above l at s d j (omega arith) (omega arith))

  -- a range is put anew
  pub put_again : (d : A) (l : List A) (at : ℕ) (s t : List A) → at + length s ≤ length l → length t ≡ length s → put (put l at s) at t ≡ put l at t
  put_again d l at s t h e =
      let m : length (put l at s) ≡ length l = length-put l at s h in
      put_is d (put (put l at s) at t) l at t (rw e h) (length-put (put l at s) at t (omega arith) ∙ m)
      (λ k q. put_in (put l at s) at t d k (omega arith) q)
      (λ j q. put-below (put l at s) at t d j (omega arith) q ∙ put-below l at s d j (omega arith) q)
      (λ j q. put-above (put l at s) at t d j (omega arith) q ∙ put-above l at s d j (omega arith) (omega arith))

  -- a range within the range is put
  pub put_inner : (d : A) (l : List A) (at : ℕ) (s : List A) (i : ℕ) (t : List A) → at + length s ≤ length l → i + length t ≤ length s → put (put l at s) (at + i) t ≡ put l at (put s i t)
  put_inner d l at s i t h g =
      let m : length (put l at s) ≡ length l = length-put l at s h in
      let n : length (put s i t) ≡ length s = length-put s i t g in
      put_is d (put (put l at s) (at + i) t) l at (put s i t) (rw n h) (length-put (put l at s) (at + i) t (omega arith) ∙ m)
      (λ k q.
      by_cases (dec_lt k i)
      (λ (a : k < i). put-below (put l at s) (at + i) t d (at + k) (omega arith) (omega arith) ∙ put_in l at s d k (omega arith) (omega arith) ∙ sym (put-below s i t d k (omega arith) a))
      (λ a.
      by_cases (dec_lt k (i + length t))
      (λ (b : k < i + length t).
      let r : at + i + (k - i) ≡ at + k = omega arith in
      let u : i + (k - i) ≡ k = omega arith in
      ap (λ (z : ℕ). get_or (put (put l at s) (at + i) t) z d) (sym r)
      ∙ put_in (put l at s) (at + i) t d (k - i) (omega arith) (omega arith)
      ∙ sym (put_in s i t d (k - i) (omega arith) (omega arith))
      ∙ ap (λ (z : ℕ). get_or (put s i t) z d) u)
      (λ b. put-above (put l at s) (at + i) t d (at + k) (omega arith) (omega arith) ∙ put_in l at s d k (omega arith) (omega arith) ∙ sym (put-above s i t d k (omega arith) (omega arith)))))
      (λ j q. put-below (put l at s) (at + i) t d j (omega arith) (omega arith) ∙ put-below l at s d j (omega arith) q)
      (λ j q. put-above (put l at s) (at + i) t d j (omega arith) (omega arith) ∙ put-above l at s d j (omega arith) (omega arith))

  -- two ranges in a row are one
  pub put_next : (d : A) (l : List A) (at : ℕ) (s t : List A) → at + length s + length t ≤ length l → put (put l at s) (at + length s) t ≡ put l at (s ++ t)
  put_next d l at s t h =
      let n : length (s ++ t) ≡ length s + length t = length-append s t in
      let m : length (put l at s) ≡ length l = length-put l at s (omega arith) in
      put_is d (put (put l at s) (at + length s) t) l at (s ++ t) (omega arith) (length-put (put l at s) (at + length s) t (omega arith) ∙ m)
      (λ k q.
      by_cases (dec_lt k (length s))
      (λ (a : k < length s). put-below (put l at s) (at + length s) t d (at + k) (omega arith) (omega arith) ∙ put_in l at s d k (omega arith) a ∙ sym (get_or-append s t d k a))
      (λ a.
      let r : at + length s + (k - length s) ≡ at + k = omega arith in
      let u : length s + (k - length s) ≡ k = omega arith in
      ap (λ (z : ℕ). get_or (put (put l at s) (at + length s) t) z d) (sym r)
      ∙ put_in (put l at s) (at + length s) t d (k - length s) (omega arith) (omega arith)
      ∙ sym (get_or-append-add s t (k - length s) d)
      ∙ ap (λ (z : ℕ). get_or (s ++ t) z d) u))
      (λ j q. put-below (put l at s) (at + length s) t d j (omega arith) (omega arith) ∙ put-below l at s d j (omega arith) q)
      (λ j q. put-above (put l at s) (at + length s) t d j (omega arith) (omega arith) ∙ put-above l at s d j (omega arith) (omega arith))

  -- a range that is put as it is
  pub put-region : (d : A) (l : List A) (at n : ℕ) → at + n ≤ length l → l ≡ put l at (region l at n)
  put-region d l at n h =
      let m : length (region l at n) ≡ n = length-region l at n h in
      put_is d l l at (region l at n) (omega arith) refl (λ k q. sym (get_d_region l at n k d (omega arith))) (λ j q. refl) (λ j q. refl)

  pub put-none : (l : List A) (at : ℕ) → at ≤ length l → l ≡ put l at []
  unfolding put
  put-none l at h = rw add-zero (sym (lib.ListN.take-append-drop at l))

  -- ---- what is read

  pub region_in : (d : A) (l : List A) (at : ℕ) (s : List A) (i m : ℕ) → at + length s ≤ length l → i + m ≤ length s → region (put l at s) (at + i) m ≡ region s i m
  region_in d l at s i m h g =
      let p : length (put l at s) ≡ length l = length-put l at s h in
      let e : length (region (put l at s) (at + i) m) ≡ m = length-region (put l at s) (at + i) m (omega arith) in
      ext_get_or d (region (put l at s) (at + i) m) (region s i m) (e ∙ sym (length-region s i m g))
      (λ k q.
      let r : at + i + k ≡ at + (i + k) = omega arith in
      get_d_region (put l at s) (at + i) m k d (omega arith)
      ∙ ap (λ (z : ℕ). get_or (put l at s) z d) r
      ∙ put_in l at s d (i + k) (omega arith) (omega arith)
      ∙ sym (get_d_region s i m k d (omega arith)))

  pub region-all : (d : A) (l : List A) (at : ℕ) (s : List A) → at + length s ≤ length l → region (put l at s) at (length s) ≡ s
  region-all d l at s h =
      let p : length (put l at s) ≡ length l = length-put l at s h in
      let e : length (region (put l at s) at (length s)) ≡ length s = length-region (put l at s) at (length s) (omega arith) in
      ext_get_or d (region (put l at s) at (length s)) s e
      (λ k q. get_d_region (put l at s) at (length s) k d (omega arith) ∙ put_in l at s d k (omega arith) (omega arith))

  pub region-out : (d : A) (l : List A) (at : ℕ) (s : List A) (b m : ℕ) → at + length s ≤ length l → b + m ≤ length l → (b + m ≤ at) ⊎ (at + length s ≤ b) → region (put l at s) b m ≡ region l b m
  region-out d l at s b m h g apart =
      let p : length (put l at s) ≡ length l = length-put l at s h in
      let e : length (region (put l at s) b m) ≡ m = length-region (put l at s) b m (omega arith) in
      ext_get_or d (region (put l at s) b m) (region l b m) (e ∙ sym (length-region l b m g))
      (λ k q.
      get_d_region (put l at s) b m k d (omega arith)
      ∙ ⊎_elim (λ u. put-below l at s d (b + k) (omega arith) (omega arith)) (λ u. put-above l at s d (b + k) (omega arith) (omega arith)) apart
      ∙ sym (get_d_region l b m k d (omega arith)))
