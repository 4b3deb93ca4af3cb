-- What std's `copy_within` and `fill` leave, and two stores in a row, as lists put into a list.
use Rattle.std.specs.Prelude.{◌≡◌, List, [], ◌∷◌, ◌++◌, ℕ, ◌+◌, ◌-◌, ◌≤◌, ◌<◌, length, take, drop, set, replicate}
use Rattle.std.proofs.Common.{ap, ◌∙◌, append_assoc, arith}
use Rattle.std.proofs.lemmas.List.{length-replicate}
use Rattle.std.specs.List.{copy_within}
use Rattle.list_laws.specs.Part.{region, length-region}
use Rattle.list_laws.specs.Put.{put, put-part}
use Rattle.list_laws.specs.PutMore.{put_one_lem, put_snoc}

module _ {A : Type 0} where
  -- the n elements from index `from` on, up to index `end`, copied
  pub copy_within-put : (l : List A) (from end at n : ℕ) → from + n ≤ length l → end ≡ from + n → copy_within l from end at ≡ put l at (region l from n)
  unfolding put
  copy_within-put l from end at n h e =
      let f : end - from ≡ n = omega arith in
      rw (f, length-region l from n h) (append_assoc (take at l) (region l from n) (drop (at + n) l))

  -- the n elements from index `at` on, lent as s and filled with x
  pub fill-put : (l s : List A) (at m n : ℕ) (x : A) → at + n ≤ length l → m ≡ n → s ≡ replicate (length (region l at m)) x
      → take at l ++ (s ++ drop m (drop at l)) ≡ put l at (replicate n x)
  fill-put l s at m n x h q e =
      let f : s ≡ replicate n x = e ∙ ap (λ (k : ℕ). replicate k x) (length-region l at m (omega arith) ∙ q) in
      put-part l s at m (ap length f ∙ length-replicate n x ∙ (let z : n ≡ m = omega arith in z)) ∙ ap (put l at) f

  pub set-set-put : (d : A) (l : List A) (at : ℕ) (x y : A) → at + 1 < length l → set (set l at x) (at + 1) y ≡ put l at (x ∷ y ∷ [])
  set-set-put d l at x y h = ap (λ (k : List A). set k (at + 1) y) (put_one_lem d l at x (omega arith)) ∙ put_snoc d l at (x ∷ []) y h
