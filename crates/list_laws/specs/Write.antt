-- A range of a list written in order: the definition, and its laws over any element type.
use Rattle.std.specs.Prelude.{◌≡◌, List, length, get_or, set}
use Rattle.std.proofs.Math.Path.{refl}
use Rattle.std.proofs.Common.{◌∙◌, eq-or-lt_of_le, le_of_suc-le-suc, not-suc-le-zero, arith, get_or-set_same}
use Rattle.std.proofs.Math.Logic.{⊎_elim}
use Prim.Native.Nat.{ℕ, zero, suc, ◌+◌, ◌≤◌, ◌<◌}
use Rattle.std.proofs.Math.Numerals.{add-one}
use Rattle.std.proofs.Math.ListN.{length-set}
use Rattle.std.proofs.Math.Seq.{get_or-set_other}

module _ {A : Type 0} where
  -- f k stored at from + k, for k = 0 up to n - 1, in that order
  unfoldable pub write : List A → ℕ → ℕ → (ℕ → A) → List A
  write l from zero f = l
  write l from (suc n) f = set (write l from n f) (from + n) (f n)

  pub write-none : (l : List A) (from : ℕ) (f : ℕ → A) → l ≡ write l from 0 f
  unfolding write
  write-none l from f = refl

  pub write-more : (l : List A) (from n : ℕ) (f : ℕ → A) → set (write l from n f) (from + n) (f n) ≡ write l from (n + 1) f
  unfolding write
  write-more l from n f = rw add-one

  pub length-write : (l : List A) (from n : ℕ) (f : ℕ → A) → length (write l from n f) ≡ length l
  unfolding write
  length-write l from zero f = refl
  length-write l from (suc n) f = length-set (write l from n f) (from + n) (f n) ∙ length-write l from n f

  -- outside the range nothing changes
  pub write-below : (l : List A) (from n j : ℕ) (f : ℕ → A) (d : A) → j < from → get_or (write l from n f) j d ≡ get_or l j d
  unfolding write
  write-below l from zero j f d h = refl
  write-below l from (suc n) j f d h =
      get_or-set_other (write l from n f) (from + n) j (f n) d (λ e. omega arith) ∙ write-below l from n j f d h

  pub write-above : (l : List A) (from n j : ℕ) (f : ℕ → A) (d : A) → from + n ≤ j → get_or (write l from n f) j d ≡ get_or l j d
  unfolding write
  write-above l from zero j f d h = refl
  write-above l from (suc n) j f d h =
      get_or-set_other (write l from n f) (from + n) j (f n) d (λ e. omega arith) ∙ write-above l from n j f d (omega arith)

  -- inside it stands what was written
  pub write_in :
      (l : List A) (from n k : ℕ) (f : ℕ → A) (d : A) →
      k < n → from + n ≤ length l → get_or (write l from n f) (from + k) d ≡ f k
  unfolding write
  write_in l from zero k f d h b = absurd (not-suc-le-zero h)
  write_in l from (suc n) k f d h b =
      ⊎_elim
      (λ (e : k ≡ n). rw e (get_or-set_same (write l from n f) (from + n) (f n) d (rw length-write (omega arith))))
      (λ (q : k < n).
      get_or-set_other (write l from n f) (from + n) (from + k) (f n) d (λ e. omega arith)
      ∙ write_in l from n k f d q (omega arith))
      (eq-or-lt_of_le (le_of_suc-le-suc h))

  pub write_ext :
      (l : List A) (from n : ℕ) (f g : ℕ → A) →
      ((k : ℕ) → k < n → f k ≡ g k) → write l from n f ≡ write l from n g
  unfolding write
  write_ext l from zero f g e = refl
  write_ext l from (suc n) f g e =
      rw (write_ext l from n f g (λ k h. e k (omega arith)), e n (omega arith)) refl

  -- the same of a list w that is known to be the written one: what a loop's proof cites
  pub write-next :
      (l w : List A) (f : ℕ → A) (from n : ℕ) (v : A) → w ≡ write l from n f → v ≡ f n → set w (from + n) v ≡ write l from (n + 1) f
  write-next l w f from n v e q = rw (e, q) (write-more l from n f)

  pub kept_above :
      (l w : List A) (f : ℕ → A) (from n j : ℕ) (d : A) → w ≡ write l from n f → from + n ≤ j → get_or w j d ≡ get_or l j d
  kept_above l w f from n j d e h = rw e (write-above l from n j f d h)

  pub kept-below :
      (l w : List A) (f : ℕ → A) (from n j : ℕ) (d : A) → w ≡ write l from n f → j < from → get_or w j d ≡ get_or l j d
  kept-below l w f from n j d e h = rw e (write-below l from n j f d h)
