-- A part's words where only what stands behind the rows was written: the part is the same, and so is all that stands in front of the rows.
use Rattle.std.specs.Prelude.{ℕ, ◌+◌, ◌*◌, ◌≤◌, ◌<◌, ◌≡◌, List, Float, length, get_or, set}
use Rattle.std.proofs.Common.{arith, sym, ap, ◌∙◌, subst, inl, inr, length-set, ext_get_or}
use Rattle.definition.specs.Settings.{Settings}
use Rattle.definition.specs.Directions.{MessageGraph}
use Rattle.list_laws.specs.Part.{region, get_d_region, length-region}
use Rattle.list_laws.specs.Put.{put, length-put, put-below, put-set, put-region, region-all, region-out}
use Rattle.priorities.specs.Leaves.{leaves_for}
use Rattle.messages.specs.DirectionsRecord.{firsts_place}
use Rattle.messages.specs.DirectionsRead.{kinds_row, labels_row, firsts_row, starts_row, outs_row, offsets_row}
use Rattle.messages.specs.State.{PartRows}
use Rattle.zero_lookahead.specs.Part.{rows_end, flags_row, leaves_in, queue_at, queue_row, PartWords, KeptFront}

-- ---- a list that is the same up to an index

module _ {A : Type 0} (d : A) (l m : List A) (e : ℕ) (long : length m ≡ length l) (same : (i : ℕ) → i < e → get_or m i d ≡ get_or l i d) where
  pub region-same : (a n : ℕ) → a + n ≤ e → a + n ≤ length l → region m a n ≡ region l a n
  region-same a n h k =
      let p : length (region m a n) ≡ n = length-region m a n (omega arith) in
      let q : length (region l a n) ≡ n = length-region l a n k in
      ext_get_or d (region m a n) (region l a n) (p ∙ sym q)
      (λ i z. get_d_region m a n i d (omega arith) ∙ same (a + i) (omega arith) ∙ sym (get_d_region l a n i d (omega arith)))

module _ (s : Settings) (t : MessageGraph) (out : ℕ) (evidence : List Float) (words : List ℕ) (P : PartWords s t out evidence words) where
  -- where things stand
  pub rows_room : rows_end words out + get_or words 0 0 + 2 * leaves_in words ≤ length words
  rows_room = P.room

  module _ (words' : List ℕ) (long : length words' ≡ length words) (same : (i : ℕ) → i < rows_end words out → get_or words' i 0 ≡ get_or words i 0) where
    abbrev N : ℕ
    N = get_or words 0 0

    abbrev E : ℕ
    E = get_or words 1 0

    pub nodes-kept : get_or words' 0 0 ≡ get_or words 0 0
    nodes-kept = same 0 (omega (arith, P.behind))

    pub edges-kept : get_or words' 1 0 ≡ get_or words 1 0
    edges-kept = same 1 (omega (arith, P.behind))

    part : (a n : ℕ) → a + n ≤ rows_end words out → region words' a n ≡ region words a n
    part a n h = region-same 0 words words' (rows_end words out) long same a n h (omega (arith, rows_room))

    kinds-same : kinds_row words' 0 ≡ kinds_row words 0
    kinds-same = ap (λ (n : ℕ). region words' 2 n) nodes-kept ∙ part 2 N (omega (arith, P.behind))

    labels-same : labels_row words' 0 ≡ labels_row words 0
    labels-same = ap (λ (n : ℕ). region words' (2 + n) n) nodes-kept ∙ part (2 + N) N (omega (arith, P.behind))

    firsts_same : firsts_row words' 0 ≡ firsts_row words 0
    firsts_same = ap (λ (n : ℕ). region words' (firsts_place 0 n) (n + 1)) nodes-kept ∙ part (firsts_place 0 N) (N + 1) (omega (arith, P.behind))

    starts_same : starts_row words' 0 out ≡ starts_row words 0 out
    starts_same = ap (λ (n : ℕ). region words' out (2 * n)) edges-kept ∙ part out (2 * E) (omega arith)

    outs_same : outs_row words' 0 out ≡ outs_row words 0 out
    outs_same = ap (λ (n : ℕ). region words' (out + 2 * n) (2 * n)) edges-kept ∙ part (out + 2 * E) (2 * E) (omega arith)

    offsets_same : offsets_row words' 0 out ≡ offsets_row words 0 out
    offsets_same = ap (λ (n : ℕ). region words' (out + 4 * n) (2 * n + 1)) edges-kept ∙ part (out + 4 * E) (2 * E + 1) (omega arith)

    rows_same : PartRows s t (kinds_row words' 0) (firsts_row words' 0) (starts_row words' 0 out) (outs_row words' 0 out) (offsets_row words' 0 out) (labels_row words' 0) evidence
    rows_same =
        subst (λ (l : List ℕ). PartRows s t l (firsts_row words' 0) (starts_row words' 0 out) (outs_row words' 0 out) (offsets_row words' 0 out) (labels_row words' 0) evidence) (sym kinds-same)
        (subst (λ (l : List ℕ). PartRows s t (kinds_row words 0) l (starts_row words' 0 out) (outs_row words' 0 out) (offsets_row words' 0 out) (labels_row words' 0) evidence) (sym firsts_same)
        (subst (λ (l : List ℕ). PartRows s t (kinds_row words 0) (firsts_row words 0) l (outs_row words' 0 out) (offsets_row words' 0 out) (labels_row words' 0) evidence) (sym starts_same)
        (subst (λ (l : List ℕ). PartRows s t (kinds_row words 0) (firsts_row words 0) (starts_row words 0 out) l (offsets_row words' 0 out) (labels_row words' 0) evidence) (sym outs_same)
        (subst (λ (l : List ℕ). PartRows s t (kinds_row words 0) (firsts_row words 0) (starts_row words 0 out) (outs_row words 0 out) l (labels_row words' 0) evidence) (sym offsets_same)
        (subst (λ (l : List ℕ). PartRows s t (kinds_row words 0) (firsts_row words 0) (starts_row words 0 out) (outs_row words 0 out) (offsets_row words 0 out) l evidence) (sym labels-same) P.rows)))))

    pub leaves_kept : leaves_in words' ≡ leaves_in words
    leaves_kept = ap (λ (e : ℕ). leaves_for (2 * e)) edges-kept

    pub part-kept : PartWords s t out evidence words'
    part-kept =
        record {
          rows = rows_same;
          nodes = nodes-kept ∙ P.nodes;
          edges = ap (λ (e : ℕ). 2 * e) edges-kept ∙ P.edges;
          few = rw edges-kept P.few;
          behind = rw (nodes-kept, edges-kept) P.behind;
          room = omega (arith, nodes-kept, edges-kept, leaves_kept, rows_room);
        }

    pub front_kept : KeptFront out words words'
    front_kept = part 0 out (omega arith)

  -- ---- the queue written
  module _ (q : List ℕ) (h : length q ≡ 2 * leaves_in words) where
    abbrev put_queue : List ℕ
    put_queue = put words (queue_at words out) q

    queue_long : length put_queue ≡ length words
    queue_long = length-put words (queue_at words out) q (omega (arith, rows_room))

    queue_same : (i : ℕ) → i < rows_end words out → get_or put_queue i 0 ≡ get_or words i 0
    queue_same i z = put-below words (queue_at words out) q 0 i (omega (arith, rows_room)) (omega arith)

    pub queue_part : PartWords s t out evidence (put words (queue_at words out) q)
    queue_part = part-kept put_queue queue_long queue_same

    pub queue_front : KeptFront out words (put words (queue_at words out) q)
    queue_front = front_kept put_queue queue_long queue_same

    pub queue_flags : flags_row (put words (queue_at words out) q) out ≡ flags_row words out
    queue_flags =
        ap (λ (n : ℕ). region put_queue (out + (6 * n + 1)) (get_or put_queue 0 0)) (edges-kept put_queue queue_long queue_same)
        ∙ ap (region put_queue (rows_end words out)) (nodes-kept put_queue queue_long queue_same)
        ∙ region-out 0 words (queue_at words out) q (rows_end words out) (get_or words 0 0) (omega (arith, rows_room)) (omega (arith, rows_room)) (inl (omega arith))

    pub queue_is : queue_row (put words (queue_at words out) q) out ≡ q
    queue_is =
        ap (λ (n : ℕ). region put_queue (out + (6 * n + 1) + get_or put_queue 0 0) (2 * leaves_in put_queue)) (edges-kept put_queue queue_long queue_same)
        ∙ ap (λ (n : ℕ). region put_queue (rows_end words out + n) (2 * leaves_in put_queue)) (nodes-kept put_queue queue_long queue_same)
        ∙ ap (region put_queue (queue_at words out)) (ap (λ (n : ℕ). 2 * n) (leaves_kept put_queue queue_long queue_same) ∙ sym h)
        ∙ region-all 0 words (queue_at words out) q (omega (arith, rows_room))

  -- ---- the flags written
  module _ (fs : List ℕ) (h : length fs ≡ get_or words 0 0) where
    abbrev put_flags : List ℕ
    put_flags = put words (rows_end words out) fs

    flags_long : length put_flags ≡ length words
    flags_long = length-put words (rows_end words out) fs (omega (arith, rows_room))

    flags_same : (i : ℕ) → i < rows_end words out → get_or put_flags i 0 ≡ get_or words i 0
    flags_same i z = put-below words (rows_end words out) fs 0 i (omega (arith, rows_room)) z

    pub flags_part : PartWords s t out evidence (put words (rows_end words out) fs)
    flags_part = part-kept put_flags flags_long flags_same

    pub flags_front : KeptFront out words (put words (rows_end words out) fs)
    flags_front = front_kept put_flags flags_long flags_same

    pub flags_are : flags_row (put words (rows_end words out) fs) out ≡ fs
    flags_are =
        ap (λ (n : ℕ). region put_flags (out + (6 * n + 1)) (get_or put_flags 0 0)) (edges-kept put_flags flags_long flags_same)
        ∙ ap (region put_flags (rows_end words out)) (nodes-kept put_flags flags_long flags_same ∙ sym h)
        ∙ region-all 0 words (rows_end words out) fs (omega (arith, rows_room))

    pub flags_queue : queue_row (put words (rows_end words out) fs) out ≡ queue_row words out
    flags_queue =
        ap (λ (n : ℕ). region put_flags (out + (6 * n + 1) + get_or put_flags 0 0) (2 * leaves_in put_flags)) (edges-kept put_flags flags_long flags_same)
        ∙ ap (λ (n : ℕ). region put_flags (rows_end words out + n) (2 * leaves_in put_flags)) (nodes-kept put_flags flags_long flags_same)
        ∙ ap (λ (n : ℕ). region put_flags (queue_at words out) (2 * n)) (leaves_kept put_flags flags_long flags_same)
        ∙ region-out 0 words (rows_end words out) fs (queue_at words out) (2 * leaves_in words) (omega (arith, rows_room)) (omega (arith, rows_room)) (inr (omega arith))

  -- one flag stored
  flag-row : length (flags_row words out) ≡ get_or words 0 0
  flag-row = length-region words (rows_end words out) (get_or words 0 0) (omega (arith, rows_room))

  pub flag-set : (n v : ℕ) → n < get_or words 0 0 → set words (rows_end words out + n) v ≡ put words (rows_end words out) (set (flags_row words out) n v)
  flag-set n v h =
      ap (λ (l : List ℕ). set l (rows_end words out + n) v) (put-region 0 words (rows_end words out) (get_or words 0 0) (omega (arith, rows_room)))
      ∙ put-set 0 words (rows_end words out) (flags_row words out) n v (omega (arith, rows_room, flag-row)) (omega (arith, flag-row))

  pub flag-set-long : (n v : ℕ) → length (set (flags_row words out) n v) ≡ get_or words 0 0
  flag-set-long n v = length-set (flags_row words out) n v ∙ flag-row
