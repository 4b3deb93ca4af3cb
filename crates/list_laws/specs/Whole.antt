-- A list that is written from its start: a turn of such a loop, what stands, and the whole at its end.
use Rattle.std.specs.Prelude.{◌≡◌, refl, List, ℕ, ◌+◌, ◌*◌, ◌≤◌, ◌<◌, length, get_or, set}
use Rattle.std.proofs.Common.{sym, ap, ◌∙◌, zero-add, arith, ext_get_or}
use Rattle.list_laws.specs.Write.{write, length-write, write_in, write-next}

module _ {A : Type 0} where
  -- a turn writes one entry, or two
  pub start-next : (l w : List A) (f : ℕ → A) (n : ℕ) (v : A) → w ≡ write l 0 n f → v ≡ f n → set w n v ≡ write l 0 (n + 1) f
  start-next l w f n v e q = ap (λ (k : ℕ). set w k v) (sym (zero-add n)) ∙ write-next l w f 0 n v e q

  pub start_pair :
      (l w : List A) (f : ℕ → A) (i : ℕ) (x y : A) →
      w ≡ write l 0 (2 * i) f → x ≡ f (2 * i) → y ≡ f (2 * i + 1) → set (set w (2 * i) x) (2 * i + 1) y ≡ write l 0 (2 * (i + 1)) f
  start_pair l w f i x y e p q =
      let n : 2 * i + 1 + 1 ≡ 2 * (i + 1) = omega arith in
      start-next l (set w (2 * i) x) f (2 * i + 1) y (start-next l w f (2 * i) x e p) q ∙ ap (λ (k : ℕ). write l 0 k f) n

  pub start-at : (l w : List A) (f : ℕ → A) (n k : ℕ) (d : A) → w ≡ write l 0 n f → k < n → n ≤ length l → get_or w k d ≡ f k
  start-at l w f n k d e h b =
      ap (λ (x : List A). get_or x k d) e
      ∙ ap (λ (j : ℕ). get_or (write l 0 n f) j d) (sym (zero-add k))
      ∙ write_in l 0 n k f d h (omega arith)

  pub write-whole : (d : A) (l m : List A) (n : ℕ) → length l ≡ n → length m ≡ n → write l 0 n (λ k. get_or m k d) ≡ m
  write-whole d l m n e f =
      let g : ℕ → A = λ k. get_or m k d in
      ext_get_or d (write l 0 n g) m (length-write l 0 n g ∙ e ∙ sym f)
      (λ i h. start-at l (write l 0 n g) g n i d refl (omega (arith, length-write l 0 n g)) (omega arith))

  -- ... of a list w that is known to be the written one
  pub whole-written : (d : A) (l w m : List A) (i n : ℕ) → w ≡ write l 0 i (λ k. get_or m k d) → i ≡ n → length l ≡ n → length m ≡ n → w ≡ m
  whole-written d l w m i n e q h f = e ∙ ap (λ (k : ℕ). write l 0 k (λ j. get_or m j d)) q ∙ write-whole d l m n h f
