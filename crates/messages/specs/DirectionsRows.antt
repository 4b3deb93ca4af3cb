-- Three rows of words that are filled side by side, direction by direction: the starts, the directions back and the offsets of a message graph.
use Prim.Native.Nat.{ℕ, zero, suc, ◌+◌, ◌*◌, ◌≤◌, ◌<◌}
use native.Mathlib.Omega.{arith}
use Rattle.std.specs.Prelude.{◌≡◌}
use Rattle.std.proofs.Math.Path.{refl, ap}
use Rattle.std.proofs.Common.{sym, ◌∙◌, inl}
use mathlib.Core.List.{List, ◌++◌, map, append_assoc}
use Rattle.std.proofs.Math.ListN.{length, get_or, set, length-append}
use Rattle.std.proofs.lemmas.List.{length-map}
use Rattle.std.proofs.Math.Seq.{set_comm}
use Rattle.definition.specs.Directions.{Direction, MessageGraph}
use Rattle.list_laws.specs.Part.{region, region-write}
use Rattle.list_laws.specs.Put.{put, length-put, put_is, put_next}
use Rattle.list_laws.specs.Write.{write, write-more, length-write, write-below, write-above, write_in}
use Rattle.messages.specs.Layout.{outs_of, offsets_from}
use Rattle.messages.specs.LayoutOffsets.{offset_at, length_offsets}
use Rattle.messages.specs.LayoutOrder.{InOrder, length_outs}

module _ {A : Type 0} where
  -- a store below a range that is written
  set-write : (l : List A) (a n j : ℕ) (f : ℕ → A) (v : A) → j < a → set (write l a n f) j v ≡ write (set l j v) a n f
  unfolding write
  set-write l a zero j f v h = refl
  set-write l a (suc n) j f v h =
      set_comm (write l a n f) (a + n) j (f n) v (λ e. omega arith) ∙ ap (λ (w : List A). set w (a + n) (f n)) (set-write l a n j f v h)

  -- a range that is written with a list
  pub write-put : (d : A) (l s : List A) (at n : ℕ) → length s ≡ n → at + n ≤ length l → write l at n (λ k. get_or s k d) ≡ put l at s
  write-put d l s at n e h =
      let f : ℕ → A = λ k. get_or s k d in
      put_is d (write l at n f) l at s (omega arith) (length-write l at n f)
      (λ k q. write_in l at n k f d (omega arith) h)
      (λ j q. write-below l at n j f d q)
      (λ j q. write-above l at n j f d (omega arith))

  -- n entries of a first and of a second range, and one more of a third
  module _ (l : List A) (a b c : ℕ) (f g h : ℕ → A) where
    unfoldable pub three_to : ℕ → List A
    three_to n = write (write (write l a n f) b n g) c (n + 1) h

    pub three-none : set l c (h 0) ≡ three_to 0
    unfolding three_to write
    three-none = ap (λ (k : ℕ). set l k (h 0)) (let z : c ≡ c + 0 = omega arith in z)

    pub three-next : (m n : ℕ) → a + m ≤ b → b + m ≤ c → n < m → (w : List A) → w ≡ three_to n → set (set (set w (a + n) (f n)) (b + n) (g n)) (c + (n + 1)) (h (n + 1)) ≡ three_to (n + 1)
    unfolding three_to
    three-next m n p q r w e =
        let one : set w (a + n) (f n) ≡ write (write (write l a (n + 1) f) b n g) c (n + 1) h =
        ap (λ (v : List A). set v (a + n) (f n)) e
        ∙ set-write (write (write l a n f) b n g) c (n + 1) (a + n) h (f n) (omega arith)
        ∙ ap (λ (v : List A). write v c (n + 1) h) (set-write (write l a n f) b n (a + n) g (f n) (omega arith) ∙ ap (λ (v : List A). write v b n g) (write-more l a n f)) in
        let two : set (set w (a + n) (f n)) (b + n) (g n) ≡ write (write (write l a (n + 1) f) b (n + 1) g) c (n + 1) h =
        ap (λ (v : List A). set v (b + n) (g n)) one
        ∙ set-write (write (write l a (n + 1) f) b n g) c (n + 1) (b + n) h (g n) (omega arith)
        ∙ ap (λ (v : List A). write v c (n + 1) h) (write-more (write l a (n + 1) f) b n g) in
        ap (λ (v : List A). set v (c + (n + 1)) (h (n + 1))) two ∙ write-more (write (write l a (n + 1) f) b (n + 1) g) c (n + 1) h

    pub length_three : (n : ℕ) → length (three_to n) ≡ length l
    unfolding three_to
    length_three n = length-write (write (write l a n f) b n g) c (n + 1) h ∙ length-write (write l a n f) b n g ∙ length-write l a n f

    -- the newest entry of the third range
    pub three-last : (n : ℕ) (d : A) → c + (n + 1) ≤ length l → get_or (three_to n) (c + n) d ≡ h n
    unfolding three_to
    three-last n d k =
        write_in (write (write l a n f) b n g) c (n + 1) n h d (omega arith) (omega (arith, length-write (write l a n f) b n g, length-write l a n f))

    -- what lies before the ranges
    pub three-before : (n : ℕ) (d : A) (at m : ℕ) → a ≤ b → b ≤ c → at + m ≤ a → at + m ≤ length l → region (three_to n) at m ≡ region l at m
    unfolding three_to
    three-before n d at m p q r k =
        let e = length-write l a n f in
        let e' = length-write (write l a n f) b n g in
        region-write (write (write l a n f) b n g) c (n + 1) at m h d (omega arith) (inl (omega arith))
        ∙ region-write (write l a n f) b n at m g d (omega arith) (inl (omega arith))
        ∙ region-write l a n at m f d k (inl r)

  -- all of them, one range behind the other
  pub three-all : (d : A) (l : List A) (a m : ℕ) (s u v : List A) → length s ≡ m → length u ≡ m → length v ≡ m + 1 → a + (3 * m + 1) ≤ length l
      → three_to l a (a + m) (a + 2 * m) (λ k. get_or s k d) (λ k. get_or u k d) (λ k. get_or v k d) m ≡ put l a (s ++ (u ++ v))
  unfolding three_to
  three-all d l a m s u v e f g h =
      let f₁ : ℕ → A = λ k. get_or s k d in
      let f₂ : ℕ → A = λ k. get_or u k d in
      let f₃ : ℕ → A = λ k. get_or v k d in
      let n = length-append s u in
      let one : write l a m f₁ ≡ put l a s = write-put d l s a m e (omega arith) in
      let two : write (put l a s) (a + m) m f₂ ≡ put l a (s ++ u) =
      write-put d (put l a s) u (a + m) m f (omega (arith, length-put l a s (omega arith))) ∙ ap (λ (k : ℕ). put (put l a s) (a + k) u) (sym e) ∙ put_next d l a s u (omega arith) in
      ap (λ (w : List A). write (write w (a + m) m f₂) (a + 2 * m) (m + 1) f₃) one
      ∙ ap (λ (w : List A). write w (a + 2 * m) (m + 1) f₃) two
      ∙ write-put d (put l a (s ++ u)) v (a + 2 * m) (m + 1) g (omega (arith, length-put l a (s ++ u) (omega arith)))
      ∙ ap (λ (k : ℕ). put (put l a (s ++ u)) k v) (let z : a + 2 * m ≡ a + length (s ++ u) = omega arith in z)
      ∙ put_next d l a (s ++ u) v (omega arith)
      ∙ ap (put l a) (append_assoc s u v)

-- ---- the rows of a message graph

abbrev pub starts_of : MessageGraph → List ℕ
starts_of t = map (λ (d : Direction). d.start) t.directions

-- starts, directions back, offsets
unfoldable pub direction_rows : MessageGraph → List ℕ
direction_rows t = starts_of t ++ (outs_of t ++ offsets_from 0 t.directions)

-- of the first k directions, at index `out` of the words
unfoldable pub rows_to : List ℕ → ℕ → MessageGraph → ℕ → List ℕ
rows_to w out t k =
    three_to w out (out + length t.directions) (out + 2 * length t.directions) (λ i. get_or (starts_of t) i 0) (λ i. get_or (outs_of t) i 0) (λ i. offset_at t.directions i) k

pub length_starts : (t : MessageGraph) → length (starts_of t) ≡ length t.directions
length_starts t = length-map t.directions (λ (d : Direction). d.start)

pub length-rows : (t : MessageGraph) → InOrder t → length (direction_rows t) ≡ 3 * length t.directions + 1
unfolding direction_rows
length-rows t O =
    omega (arith, length-append (starts_of t) (outs_of t ++ offsets_from 0 t.directions), length-append (outs_of t) (offsets_from 0 t.directions), length_starts t, length_outs t O, length_offsets 0 t.directions)

pub rows_all : (w : List ℕ) (out : ℕ) (t : MessageGraph) → InOrder t → out + (3 * length t.directions + 1) ≤ length w → rows_to w out t (length t.directions) ≡ put w out (direction_rows t)
unfolding rows_to direction_rows
rows_all w out t O h =
    three-all 0 w out (length t.directions) (starts_of t) (outs_of t) (offsets_from 0 t.directions) (length_starts t) (length_outs t O) (omega (arith, length_offsets 0 t.directions)) h
