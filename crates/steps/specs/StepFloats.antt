-- The floats of a component, row by row: what is read of one row, and what is put into one.
use Rattle.std.specs.Prelude.{ℕ, ◌+◌, ◌*◌, ◌≤◌, ◌<◌, ◌≡◌, ◌⊎◌, Float, get_or, set}
use native.Mathlib.Omega.{arith}
use Rattle.std.proofs.Math.Path.{sym, ap}
use Rattle.std.proofs.Common.{◌∙◌, ⊎_elim, length-append, length-drop, drop_of_length-le, ext_get_or, take_all}
use mathlib.Core.List.{List, ◌++◌, append_assoc}
use Rattle.std.specs.Float.{nan}
use Rattle.std.proofs.Math.ListN.{length, take, drop}
use Rattle.std.proofs.lemmas.List.{take-append-le, drop-append-le}
use Rattle.std.proofs.Math.Seq.{take-append-add, drop-append-add}
use Rattle.graph_laws.specs.Lists.{append_none}
use Rattle.definition.specs.Directions.{MessageGraph}
use Rattle.list_laws.specs.Part.{region, length-region, get_d_region}
use Rattle.list_laws.specs.Put.{put, put_is}
use Rattle.list_laws.specs.Write.{write, length-write, write_in, write-below, write-above, kept-below, kept_above, write-next}
use Rattle.messages.specs.Layout.{width}
use Rattle.messages.specs.State.{FloatRows, part_floats}

module _ {A : Type 0} where
  -- behind a
  pub region-past : (a b : List A) (k n : ℕ) → region (a ++ b) (length a + k) n ≡ region b k n
  region-past a b k n = ap (take n) (drop-append-add a b k)

  pub put-past : (a b : List A) (k : ℕ) (s : List A) → put (a ++ b) (length a + k) s ≡ a ++ put b k s
  unfolding put
  put-past a b k s =
      ap (λ (l : List A). l ++ (s ++ drop (length a + k + length s) (a ++ b))) (take-append-add a b k)
      ∙ ap (λ (n : ℕ). (a ++ take k b) ++ (s ++ drop n (a ++ b))) (let z : length a + k + length s ≡ length a + (k + length s) = omega arith in z)
      ∙ ap (λ (l : List A). (a ++ take k b) ++ (s ++ l)) (drop-append-add a b (k + length s))
      ∙ append_assoc a (take k b) (s ++ drop (k + length s) b)

  -- within a
  pub region-left : (a b : List A) (k n : ℕ) → k + n ≤ length a → region (a ++ b) k n ≡ region a k n
  region-left a b k n h =
      ap (take n) (drop-append-le k a b (omega arith)) ∙ take-append-le n (drop k a) b (let z : n ≤ length (drop k a) = simp length-drop (omega arith) in z)

  pub put-left : (a b : List A) (k : ℕ) (s : List A) → k + length s ≤ length a → put (a ++ b) k s ≡ put a k s ++ b
  unfolding put
  put-left a b k s h =
      ap (λ (l : List A). l ++ (s ++ drop (k + length s) (a ++ b))) (take-append-le k a b (omega arith))
      ∙ ap (λ (l : List A). take k a ++ (s ++ l)) (drop-append-le (k + length s) a b h)
      ∙ ap (λ (l : List A). take k a ++ l) (sym (append_assoc s (drop (k + length s) a) b))
      ∙ sym (append_assoc (take k a) (s ++ drop (k + length s) a) b)

  -- the whole
  pub put-all : (l s : List A) → length s ≡ length l → put l 0 s ≡ s
  unfolding put
  put-all l s e = ap (λ (r : List A). s ++ r) (drop_of_length-le l (let z : length l ≤ 0 + length s = omega arith in z)) ∙ append_none s

  pub region-whole : (l : List A) (n : ℕ) → length l ≡ n → region l 0 n ≡ l
  region-whole l n e = take_all n l (let z : length l ≤ n = omega arith in z)

  -- a part of a part
  pub region-region : (d : A) (l : List A) (b n k m : ℕ) → b + n ≤ length l → k + m ≤ n → region (region l b n) k m ≡ region l (b + k) m
  region-region d l b n k m h g =
      let e : length (region l b n) ≡ n = length-region l b n h in
      let f : length (region (region l b n) k m) ≡ m = length-region (region l b n) k m (omega arith) in
      let f' : length (region l (b + k) m) ≡ m = length-region l (b + k) m (omega arith) in
      ext_get_or d (region (region l b n) k m) (region l (b + k) m) (f ∙ sym f')
      (λ i q.
      get_d_region (region l b n) k m i d (omega arith)
      ∙ get_d_region l b n (k + i) d (omega arith)
      ∙ ap (λ (j : ℕ). get_or l j d) (let z : b + (k + i) ≡ b + k + i = omega arith in z)
      ∙ sym (get_d_region l (b + k) m i d (omega arith)))

-- ---- a range copied: what a loop that copies one float after the other leaves

-- two ranges of n that lie apart
pub record Apart (from to n long : ℕ) : Type 0 where
  pub from_in : from + n ≤ long
  pub to_in : to + n ≤ long
  pub apart : (from + n ≤ to) ⊎ (to + n ≤ from)

abbrev pub copying : List Float → ℕ → ℕ → ℕ → List Float
copying l from to i = write l to i (λ k. get_or l (from + k) nan)

module _ (l : List Float) (from to n : ℕ) (p : Apart from to n (length l)) where
  -- what is read is as it was
  pub copy_reads : (w : List Float) (i : ℕ) → i < n → w ≡ copying l from to i → get_or w (from + i) nan ≡ get_or l (from + i) nan
  copy_reads w i h e =
      ⊎_elim (λ (u : from + n ≤ to). kept-below l w (λ k. get_or l (from + k) nan) to i (from + i) nan e (omega arith))
      (λ u. kept_above l w (λ k. get_or l (from + k) nan) to i (from + i) nan e (omega arith)) p.apart

  pub copy_next : (w : List Float) (i : ℕ) → i < n → w ≡ copying l from to i → set w (to + i) (get_or w (from + i) nan) ≡ copying l from to (i + 1)
  copy_next w i h e = write-next l w (λ k. get_or l (from + k) nan) to i (get_or w (from + i) nan) e (copy_reads w i h e)

  pub copy_all : copying l from to n ≡ put l to (region l from n)
  copy_all =
      let f : ℕ → Float = λ k. get_or l (from + k) nan in
      let m : length (region l from n) ≡ n = length-region l from n p.from_in in
      put_is nan (write l to n f) l to (region l from n) (omega (arith, p.to_in)) (length-write l to n f)
      (λ k q. write_in l to n k f nan (omega arith) p.to_in ∙ sym (get_d_region l from n k nan (omega arith)))
      (λ j q. write-below l to n j f nan q)
      (λ j q. write-above l to n j f nan (omega arith))

-- ---- the rows of a component

module _ (t : MessageGraph) (r_in r_new r_log r_build pending rest : List Float) (F : FloatRows t r_in r_new r_log r_build pending rest) where
  abbrev W : ℕ
  W = width t.directions

  abbrev w : List Float
  w = part_floats r_in r_new r_log r_build pending rest

  pub floats_long : length (part_floats r_in r_new r_log r_build pending rest) ≡ 4 * width t.directions + length t.directions + length rest
  floats_long =
      omega (arith, F.in_long, F.new-long, F.log_long, F.build-long, F.pending_long, length-append r_in (r_new ++ (r_log ++ (r_build ++ (pending ++ rest)))), length-append r_new (r_log ++ (r_build ++ (pending ++ rest))), length-append r_log (r_build ++ (pending ++ rest)), length-append r_build (pending ++ rest), length-append pending rest)

  abbrev behind_in : List Float
  behind_in = r_new ++ (r_log ++ (r_build ++ (pending ++ rest)))

  abbrev behind_new : List Float
  behind_new = r_log ++ (r_build ++ (pending ++ rest))

  -- ---- read
  pub in_read : (k n : ℕ) → k + n ≤ width t.directions → region (part_floats r_in r_new r_log r_build pending rest) k n ≡ region r_in k n
  in_read k n h = region-left r_in behind_in k n (omega (arith, F.in_long))

  pub new-read : (k n : ℕ) → k + n ≤ width t.directions → region (part_floats r_in r_new r_log r_build pending rest) (width t.directions + k) n ≡ region r_new k n
  new-read k n h =
      ap (λ (i : ℕ). region w (i + k) n) (sym F.in_long) ∙ region-past r_in behind_in k n ∙ region-left r_new behind_new k n (omega (arith, F.new-long))

  pub log_read : (k n : ℕ) → k + n ≤ width t.directions → region (part_floats r_in r_new r_log r_build pending rest) (2 * width t.directions + k) n ≡ region r_log k n
  log_read k n h =
      ap (λ (i : ℕ). region w i n) (let z : 2 * W + k ≡ length r_in + (length r_new + k) = omega (arith, F.in_long, F.new-long) in z)
      ∙ region-past r_in behind_in (length r_new + k) n
      ∙ region-past r_new behind_new k n
      ∙ region-left r_log (r_build ++ (pending ++ rest)) k n (omega (arith, F.log_long))

  -- ---- put
  pub in_put : (k : ℕ) (s : List Float) → k + length s ≤ width t.directions → put (part_floats r_in r_new r_log r_build pending rest) k s ≡ part_floats (put r_in k s) r_new r_log r_build pending rest
  in_put k s h = put-left r_in behind_in k s (omega (arith, F.in_long))

  pub new-put : (k : ℕ) (s : List Float) → k + length s ≤ width t.directions → put (part_floats r_in r_new r_log r_build pending rest) (width t.directions + k) s ≡ part_floats r_in (put r_new k s) r_log r_build pending rest
  new-put k s h =
      ap (λ (i : ℕ). put w (i + k) s) (sym F.in_long) ∙ put-past r_in behind_in k s ∙ ap (λ (l : List Float). r_in ++ l) (put-left r_new behind_new k s (omega (arith, F.new-long)))

  pub log_put : (k : ℕ) (s : List Float) → k + length s ≤ width t.directions → put (part_floats r_in r_new r_log r_build pending rest) (2 * width t.directions + k) s ≡ part_floats r_in r_new (put r_log k s) r_build pending rest
  log_put k s h =
      ap (λ (i : ℕ). put w i s) (let z : 2 * W + k ≡ length r_in + (length r_new + k) = omega (arith, F.in_long, F.new-long) in z)
      ∙ put-past r_in behind_in (length r_new + k) s
      ∙ ap (λ (l : List Float). r_in ++ l) (put-past r_new behind_new k s)
      ∙ ap (λ (l : List Float). r_in ++ (r_new ++ l)) (put-left r_log (r_build ++ (pending ++ rest)) k s (omega (arith, F.log_long)))

  -- what is pending
  pub pending_put : (s : List Float) → length s ≡ length t.directions → put (part_floats r_in r_new r_log r_build pending rest) (4 * width t.directions) s ≡ part_floats r_in r_new r_log r_build s rest
  pending_put s e =
      ap (λ (i : ℕ). put w i s) (let z : 4 * W ≡ length r_in + (length r_new + (length r_log + (length r_build + 0))) = omega (arith, F.in_long, F.new-long, F.log_long, F.build-long) in z)
      ∙ put-past r_in behind_in (length r_new + (length r_log + (length r_build + 0))) s
      ∙ ap (λ (l : List Float). r_in ++ l) (put-past r_new behind_new (length r_log + (length r_build + 0)) s)
      ∙ ap (λ (l : List Float). r_in ++ (r_new ++ l)) (put-past r_log (r_build ++ (pending ++ rest)) (length r_build + 0) s)
      ∙ ap (λ (l : List Float). r_in ++ (r_new ++ (r_log ++ l))) (put-past r_build (pending ++ rest) 0 s)
      ∙ ap (λ (l : List Float). r_in ++ (r_new ++ (r_log ++ (r_build ++ l)))) (put-left pending rest 0 s (omega (arith, F.pending_long)) ∙ ap (λ (l : List Float). l ++ rest) (put-all pending s (omega (arith, F.pending_long))))

  pub pending_read : region (part_floats r_in r_new r_log r_build pending rest) (4 * width t.directions) (length t.directions) ≡ pending
  pending_read =
      let n = length t.directions in
      ap (λ (i : ℕ). region w i n) (let z : 4 * W ≡ length r_in + (length r_new + (length r_log + (length r_build + 0))) = omega (arith, F.in_long, F.new-long, F.log_long, F.build-long) in z)
      ∙ region-past r_in behind_in (length r_new + (length r_log + (length r_build + 0))) n
      ∙ region-past r_new behind_new (length r_log + (length r_build + 0)) n
      ∙ region-past r_log (r_build ++ (pending ++ rest)) (length r_build + 0) n
      ∙ region-past r_build (pending ++ rest) 0 n
      ∙ region-left pending rest 0 n (omega (arith, F.pending_long))
      ∙ region-whole pending n F.pending_long
