-- A region of a list: its elements, its length, and that a write apart from it leaves it.
use Rattle.std.specs.Prelude.{◌≡◌, List, ℕ, ◌+◌, ◌≤◌, ◌<◌, length, get_or, take, drop, ◌⊎◌}
use Rattle.std.proofs.Common.{sym, ◌∙◌, arith, length-drop, ⊎_elim, ext_get_or, get_or-take, get_or-drop, length-take-le}
use Rattle.list_laws.specs.Write.{write, length-write, write-below, write-above}

module _ {A : Type 0} where
  -- the n elements from index `from` on
  abbrev pub region : List A → ℕ → ℕ → List A
  region l from n = take n (drop from l)

  pub get_d_region : (l : List A) (from n k : ℕ) (d : A) → k < n → get_or (region l from n) k d ≡ get_or l (from + k) d
  get_d_region l from n k d h = get_or-take n (drop from l) k d h ∙ get_or-drop from l k d

  pub length-region : (l : List A) (from n : ℕ) → from + n ≤ length l → length (region l from n) ≡ n
  length-region l from n h = length-take-le n (drop from l) (rw length-drop (omega arith))

  -- a write leaves every region that lies apart from it
  pub region-write :
      (l : List A) (a n b m : ℕ) (f : ℕ → A) (d : A) →
      b + m ≤ length l → (b + m ≤ a) ⊎ (a + n ≤ b) → region (write l a n f) b m ≡ region l b m
  region-write l a n b m f d h apart =
      let e : length (region (write l a n f) b m) ≡ m = length-region (write l a n f) b m (rw length-write h) in
      ext_get_or d (region (write l a n f) b m) (region l b m) (e ∙ sym (length-region l b m h))
      (λ i q.
      let q' : i < m = rw e at q in
      get_d_region (write l a n f) b m i d q'
      ∙ ⊎_elim (λ u. write-below l a n (b + i) f d (omega arith)) (λ u. write-above l a n (b + i) f d (omega arith)) apart
      ∙ sym (get_d_region l b m i d q'))
