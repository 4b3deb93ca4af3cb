-- What is held after a read more, and what is to be handed over at the end of the input.
use Rattle.std.specs.Prelude.{ℕ, ◌+◌, ◌≤◌, ◌<◌, ◌≡◌, refl, true, false, List, ◌++◌, map, Option, length, take}
use Rattle.std.proofs.Common.{sym, ap, subst, ◌∙◌}
use Rattle.definition.specs.Listing.{listing}
use Rattle.graph_laws.specs.Bools.{and_left, and_right}
use Rattle.shift_laws.specs.Ended.{ended_bales, open_bale}
use Rattle.streams.specs.Calls.{AnsweredWithin, counted, ReadMoves}
use Rattle.streams.specs.Reads.{read_call}
use Rattle.streams.specs.Input.{Came, never, is_reading, phase_after, after_read, to_read}
use Rattle.streams.specs.Input.{bytes_after, length-after, phase_is, few_while_reading, all_came, came-more, less_to-read}
use Rattle.streams.specs.Writes.{HandedInOrder}
use Rattle.streams.specs.declared.input.Phase.{Phase}
use Rattle.shift.specs.declared.input.Shift.{Shift}
use Rattle.shift.specs.Program.{texts_at, texts_of}
use Rattle.shift.specs.Shifts.{WentOver, went_of, HoldsShift, SomeGoing, is_going, Going, ReadBy}
use Rattle.shift.specs.Overs.{went-more}

-- ---- a read more, of which n bytes went over

module _ (x : Came) (got : Option ℕ) (buffer : List ℕ) (n : ℕ) (is : n ≡ counted got (length buffer)) (within : n ≤ length buffer) where
  abbrev next : Came
  next = after_read never (read_call got buffer) x.bytes

  -- the writer held a before all of it, b before these bytes and c behind them
  module _ (a b c : Option (List ℕ)) where
    pub held-read :
        (t u : Shift) (ms ps ns qs : List ℕ) → HoldsShift a b x t ms ps → t.written ≡ true → WentOver b c (open_bale x.bytes ++ take n buffer) (went_of u) ns qs →
        u.bytes ≡ t.bytes + n → u.phase ≡ phase_after got n u.bytes false → HoldsShift a c next u ns qs
    held-read t u ms ps ns qs h e w k p =
        let l : u.bytes ≡ length next.bytes = k ∙ ap (λ (m : ℕ). m + n) h.counted ∙ sym (length-after never got buffer x.bytes n is within) in
        let all = went-more x.bytes (take n buffer) a b c (went_of t) (went_of u) ms ps ns qs h.over e w in
        record {
          phase = p ∙ phase_is never got buffer x.bytes n is within u.bytes false l refl;
          counted = l;
          over = subst (λ (bs : List ℕ). WentOver a c bs (went_of u) ns qs) (bytes_after never got buffer x.bytes n is) all;
        }

-- ---- the loop

abbrev pub to_read_of : Shift → ℕ
to_read_of t = to_read t.phase t.bytes

-- the reader had `unread` before it and has `left` now, the writer held `before` and holds `now`
module _ (unread left before now : Option (List ℕ)) (t : Shift) (ms ps : List ℕ) (g : Going unread left before now t ms ps) (more : is_going t ≡ true) where
  written : t.written ≡ true
  written = and_left t.written (is_reading t.phase) more

  reading : is_reading g.came.phase ≡ true
  reading = ap is_reading (sym g.holds.phase) ∙ and_right t.written (is_reading t.phase) more

  pub going-some : SomeGoing t ms ps
  going-some =
      record { before = before; after = now; came = g.came; holds = g.holds; written = written; few = few_while_reading never unread left g.came g.by reading }

  -- a read more, which answered `got`
  module _
      (after : Option (List ℕ)) (got : Option ℕ) (buffer : List ℕ) (u : Shift) (ns qs : List ℕ)
      (h : HoldsShift before after (after_read never (read_call got buffer) g.came.bytes) u ns qs) where
    pub going_more :
        (rest : Option (List ℕ)) → length buffer ≡ 65536 → AnsweredWithin 65536 got → ReadMoves left rest got buffer → Going unread rest before after u ns qs
    going_more rest l m r =
        let all : HandedInOrder (map listing (ended_bales g.came.bytes)) true = rw written at g.holds.over.handed.calls in
        record {
          came = after_read never (read_call got buffer) g.came.bytes;
          by = came-more never unread left g.came g.by reading got buffer rest l m r;
          gone = (subst (λ (y : Came). HandedInOrder (map listing (ended_bales y.bytes)) true) g.by.came all, g.gone);
          holds = h;
        }

    pub going_less : to_read_of u < to_read_of t
    going_less = rw (h.phase, h.counted, g.holds.phase, g.holds.counted) (less_to-read never unread left g.came g.by reading got buffer)

-- ---- at the end of the input

pub texts_are : (a b : Option (List ℕ)) (x : Came) (t : Shift) (ms ps : List ℕ) → HoldsShift a b x t ms ps → (p : Phase) → t.phase ≡ p → texts_of x ≡ texts_at p x.bytes
texts_are a b x t ms ps h p e = ap (λ (q : Phase). texts_at q x.bytes) (sym h.phase ∙ e)

-- ---- behind the loop

pub read_all :
    (unread left before after : Option (List ℕ)) (t : Shift) (ms ps : List ℕ) → Going unread left before after t ms ps → is_going t ≡ false →
    ReadBy unread left before after t ms ps
read_all unread left before after t ms ps g e =
    record { going = g; ended = e; whole = λ w. all_came never unread left g.came g.by (sym g.holds.phase ∙ w) refl }
