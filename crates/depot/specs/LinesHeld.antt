-- What is held of the lines after a read more.
use Rattle.std.specs.Prelude.{ℕ, false, Option, ◌+◌, ◌≤◌, ◌<◌, ◌≡◌, refl, true, List, ◌++◌, leb, length, take, drop}
use Rattle.std.proofs.Common.{arith, sym, ap, ◌∙◌, length-append, length-take, take-append-drop, take-add, take_at, take-take, leb-false}
use Rattle.streams.specs.Calls.{AnsweredWithin, counted, ReadMoves}
use Rattle.streams.specs.Reads.{read_call, given}
use Rattle.streams.specs.Input.{Came, is_reading, phase_after, after_read, length-after, phase_is, to_read, more_wanted, all_came, came-more, less_to-read}
use Rattle.depot.specs.declared.csv.Csv.{Csv}
use Rattle.depot.specs.Program.{enough}
use Rattle.depot.specs.Lines.{CountsLines, Going, LinesReadBy}

-- ---- a read more, of which n bytes were counted

module _ (bs : List ℕ) (got : Option ℕ) (buffer : List ℕ) (n : ℕ) (is : n ≡ counted got (length buffer)) (within : n ≤ length buffer) where
  abbrev came : Came
  came = after_read enough (read_call got buffer) bs

  pub counted-read : (c : Csv) → c.len ≡ length bs + n → c.phase ≡ phase_after got n c.len (leb 100011 c.len) → CountsLines came c
  counted-read c e p =
      let l : c.len ≡ length came.bytes = e ∙ sym (length-after enough got buffer bs n is within) in
      record { phase = p ∙ phase_is enough got buffer bs n is within c.len (leb 100011 c.len) l (ap (leb 100011) l); counted = l }

-- ---- the loop

-- as many bytes as were taken, taken again
take-taken : (n : ℕ) (l : List ℕ) → take (length (take n l)) l ≡ take n l
take-taken n l = sym (ap (take (length (take n l))) (take-append-drop n l)) ∙ take_at (take n l) (drop n l) (length (take n l)) refl

-- the reader had `unread` before it and has `left` now
module _ (unread left : Option (List ℕ)) (c : Csv) (text : List ℕ) (g : Going unread left c text) (more : is_reading c.phase ≡ true) where
  reading : is_reading g.came.phase ≡ true
  reading = ap is_reading (sym g.holds.counts.phase) ∙ more

  pub going_few : c.len ≤ 100010
  going_few = omega (arith, g.holds.counts.counted, leb-false 100011 (length g.came.bytes) (more_wanted enough unread left g.came g.by reading refl))

  -- a read more, which answered `got`
  module _ (got : Option ℕ) (buffer : List ℕ) (u : Csv) (h : CountsLines (after_read enough (read_call got buffer) g.came.bytes) u) where
    abbrev new : List ℕ
    new = given (read_call got buffer)

    pub going_less : to_read u.phase u.len < to_read c.phase c.len
    going_less = rw (h.phase, h.counted, g.holds.counts.phase, g.holds.counts.counted) (less_to-read enough unread left g.came g.by reading got buffer)

    longer_by : u.len ≡ c.len + length new
    longer_by = h.counted ∙ length-append g.came.bytes new ∙ ap (λ (m : ℕ). m + length new) (sym g.holds.counts.counted)

    -- its buffer was k places of the text, and what stood before them is as it was
    module _
        (after : List ℕ) (k : ℕ) (lent : take k (drop c.len after) ≡ buffer)
        (kept : take c.len after ≡ take c.len text) (long : length buffer ≡ k) where
      bytes_now : take u.len after ≡ g.came.bytes ++ new
      bytes_now =
          let m = counted got (length buffer) in
          let few : length new ≤ k = omega (arith, length-take m buffer) in
          let front = sym (take-take (length new) k (drop c.len after) few) in
          ap (λ (j : ℕ). take j after) longer_by
          ∙ take-add c.len (length new) after
          ∙ ap (λ (l : List ℕ). l ++ take (length new) (drop c.len after)) (kept ∙ g.holds.bytes)
          ∙ ap (λ (l : List ℕ). g.came.bytes ++ l) (front ∙ ap (take (length new)) lent ∙ take-taken m buffer)

      pub going_more : (rest : Option (List ℕ)) → k ≡ 65536 → AnsweredWithin 65536 got → ReadMoves left rest got buffer → Going unread rest u after
      going_more rest e m r =
          record {
            came = after_read enough (read_call got buffer) g.came.bytes;
            by = came-more enough unread left g.came g.by reading got buffer rest (long ∙ e) m r;
            holds = record { counts = h; bytes = bytes_now };
          }

-- behind the loop
pub read_all : (unread left : Option (List ℕ)) (c : Csv) (text : List ℕ) → Going unread left c text → is_reading c.phase ≡ false → LinesReadBy unread left c text
read_all unread left c text g e = record { going = g; ended = e; whole = λ w n. all_came enough unread left g.came g.by (sym g.holds.counts.phase ∙ w) n }

pub lines_fit : (unread left : Option (List ℕ)) (c : Csv) (text : List ℕ) → LinesReadBy unread left c text → c.len ≤ length text
lines_fit unread left c text r = let h = r.going.holds in omega (arith, h.counts.counted, ap length h.bytes, length-take c.len text)
