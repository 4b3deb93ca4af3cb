-- What the code holds of the input that came.
use Rattle.std.specs.Prelude.{ℕ, ◌≤◌, ◌<◌, ◌≡◌, Bool, true, false, Option, List, ◌++◌, length, take, IfSome}
use Rattle.std.proofs.Common.{sym, ap, subst, ◌∙◌}
use Rattle.bale_file.specs.Decoder.{Fed}
use Rattle.bale_file.specs.Spoilt.{fed_bad}
use Rattle.bale_answer.specs.Taken.{TakenIn}
use Rattle.streams.specs.Calls.{AnsweredWithin, counted, ReadMoves}
use Rattle.streams.specs.Reads.{read_call}
use Rattle.streams.specs.Input.{Came, after_read, phase_after, CameBy, is_reading, bytes_after, phase_is, to_read, few_while_reading, all_came, came-more, less_to-read}
use Rattle.streams.specs.Writes.{Gone}
use Rattle.streams.specs.declared.input.Phase.{Phase}
use Rattle.streams.specs.declared.input.Phase.TheVariants.{Whole}
use Rattle.bale.specs.declared.input.Taking.{Taking}
use Rattle.bale.specs.Program.{decided, listing_at, listing_of}

-- t holds x: its bytes were taken in, and its phase is told
pub record HoldsInput (x : Came) (t : Taking) (ms ps : List ℕ) : Type 0 where
  pub phase : t.phase ≡ x.phase
  pub taken : TakenIn x.bytes t.input ms ps

pub record SomeHeld (t : Taking) (ms ps : List ℕ) : Type 0 where
  pub came : Came
  pub holds : HoldsInput came t ms ps

-- Some calls of `read`, each because there was more to read. What they gave is held: of a reader whose bytes are known, what it had more before them than after.
pub record Going (before after : Option (List ℕ)) (t : Taking) (ms ps : List ℕ) : Type 0 where
  pub came : Came
  pub by : CameBy decided before after came
  pub holds : HoldsInput came t ms ps

-- After the last of them there is no more: none is not enough. A whole input of which no word is bad is all that a reader had whose bytes are known.
pub record ReadBy (before after : Option (List ℕ)) (t : Taking) (ms ps : List ℕ) : Type 0 where
  pub going : Going before after t ms ps
  pub ended : is_reading t.phase ≡ false
  pub whole : t.phase ≡ Whole → decided going.came.bytes ≡ false → IfSome before (λ xs. going.came.bytes ≡ xs)

-- the listing was handed over, to a writer that held bytes before and after it
abbrev pub ListingHanded : Option (List ℕ) → Option (List ℕ) → Taking → List ℕ → List ℕ → Bool → Type 0
ListingHanded before after t ms ps all = (x : Came) → HoldsInput x t ms ps → Gone before after (listing_of x) all

-- what a read gave, taken in
module _
    (bs buffer : List ℕ) (got : Option ℕ) (n : ℕ) (is : n ≡ counted got (length buffer))
    (t : Taking) (ms ps : List ℕ) (u : TakenIn (bs ++ take n buffer) t.input ms ps) where
  abbrev came : Came
  came = after_read decided (read_call got buffer) bs

  taken-all : TakenIn came.bytes t.input ms ps
  taken-all = subst (λ (l : List ℕ). TakenIn l t.input ms ps) (bytes_after decided got buffer bs n is) u

  bad : t.input.decoder.reading.bad ≡ decided came.bytes
  bad = ap (λ (f : Fed). f.decoder.reading.bad) taken-all.taken.is-fed ∙ fed_bad came.bytes _ _

  pub held-read : n ≤ length buffer → (e : Bool) → e ≡ t.input.decoder.reading.bad → t.phase ≡ phase_after got n t.input.bytes e → HoldsInput came t ms ps
  held-read l e h p = record { phase = p ∙ phase_is decided got buffer bs n is l t.input.bytes e taken-all.counted (h ∙ bad); taken = taken-all }

pub listing-is : (x : Came) (t : Taking) (ms ps : List ℕ) → HoldsInput x t ms ps → (p : Phase) → t.phase ≡ p → listing_of x ≡ listing_at p x.bytes
listing-is x t ms ps h p e = ap (λ (q : Phase). listing_at q x.bytes) (sym h.phase ∙ e)

-- ---- the loop

abbrev pub to_read_of : Taking → ℕ
to_read_of t = to_read t.phase t.input.bytes

module _ (before now : Option (List ℕ)) (t : Taking) (ms ps : List ℕ) (g : Going before now t ms ps) (more : is_reading t.phase ≡ true) where
  reading : is_reading g.came.phase ≡ true
  reading = ap is_reading (sym g.holds.phase) ∙ more

  pub going_few : t.input.bytes ≤ 4294967296
  going_few = rw g.holds.taken.counted (few_while_reading decided before now g.came g.by reading)

  -- a read more, which answered `got`
  module _ (got : Option ℕ) (buffer : List ℕ) (u : Taking) (ns qs : List ℕ) (h : HoldsInput (after_read decided (read_call got buffer) g.came.bytes) u ns qs) where
    pub going_more : (after : Option (List ℕ)) → length buffer ≡ 65536 → AnsweredWithin 65536 got → ReadMoves now after got buffer → Going before after u ns qs
    going_more after l m r =
        record {
          came = after_read decided (read_call got buffer) g.came.bytes;
          by = came-more decided before now g.came g.by reading got buffer after l m r;
          holds = h;
        }

    pub going-less : to_read_of u < to_read_of t
    going-less = rw (h.phase, h.taken.counted, g.holds.phase, g.holds.taken.counted) (less_to-read decided before now g.came g.by reading got buffer)

-- behind the loop
pub read_all : (before after : Option (List ℕ)) (t : Taking) (ms ps : List ℕ) → Going before after t ms ps → is_reading t.phase ≡ false → ReadBy before after t ms ps
read_all before after t ms ps g e = record { going = g; ended = e; whole = λ w n. all_came decided before after g.came g.by (sym g.holds.phase ∙ w) n }
