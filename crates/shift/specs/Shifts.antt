-- What the code holds of the input that came, and what was handed over of its bales.
use Rattle.std.specs.Prelude.{ℕ, ◌≤◌, ◌≡◌, Bool, true, false, Option, ◌&&◌, List, [], ◌∷◌, map, length, IfSome}
use Rattle.definition.specs.Listing.{listing}
use Rattle.shift_laws.specs.Ended.{ended_bales, open_bale}
use Rattle.bale_answer.specs.Open.{OpenIn}
use Rattle.streams.specs.Reads.{ReadCall}
use Rattle.streams.specs.Input.{Came, never, is_reading, came_by, CameBy}
use Rattle.streams.specs.Writes.{HandedInOrder, GoneInOrder}
use Rattle.streams.specs.declared.input.Phase.TheVariants.{Whole}
use Rattle.shift.specs.declared.input.Shift.{Shift}
use Rattle.shift.specs.declared.input.Went.{Went}

-- Of the bytes bs the bales that were ended were handed over, to a writer that held bytes before and after that, and if all went the bytes of the one that was
-- not are held.
pub record WentOver (before after : Option (List ℕ)) (bs : List ℕ) (w : Went) (ms ps : List ℕ) : Type 0 where
  pub handed : GoneInOrder before after (map listing (ended_bales bs)) w.written
  pub held : w.written ≡ true → OpenIn (open_bale bs) w.input ms ps
  pub markers_now : length ms ≡ 24
  pub pairs_now : length ps ≡ 140

abbrev pub went_of : Shift → Went
went_of t = record { input = t.input; written = t.written }

-- t holds x: its bytes are counted, its phase is told, and they went over
pub record HoldsShift (before after : Option (List ℕ)) (x : Came) (t : Shift) (ms ps : List ℕ) : Type 0 where
  pub phase : t.phase ≡ x.phase
  pub counted : t.bytes ≡ length x.bytes
  pub over : WentOver before after x.bytes (went_of t) ms ps

pub record SomeShift (t : Shift) (ms ps : List ℕ) : Type 0 where
  pub before : Option (List ℕ)
  pub after : Option (List ℕ)
  pub came : Came
  pub holds : HoldsShift before after came t ms ps

-- all went, and few enough came that a read more can be counted
pub record SomeGoing (t : Shift) (ms ps : List ℕ) : Type 0 where
  pub before : Option (List ℕ)
  pub after : Option (List ℕ)
  pub came : Came
  pub holds : HoldsShift before after came t ms ps
  pub written : t.written ≡ true
  pub few : length came.bytes ≤ 4294967296

abbrev pub is_going : Shift → Bool
is_going t = t.written && is_reading t.phase

-- Before each read all that had ended was handed over.
abbrev pub HandedBefore : List ReadCall → Type 0
HandedBefore [] = Unit {0}
HandedBefore (r ∷ rs) = HandedInOrder (map listing (ended_bales (came_by never rs).bytes)) true × HandedBefore rs

-- Some calls of `read`, each because there was more to read and all had gone. What they gave is held: of a reader whose bytes are known, what it had more
-- before them than after.
pub record Going (unread left before after : Option (List ℕ)) (t : Shift) (ms ps : List ℕ) : Type 0 where
  pub came : Came
  pub by : CameBy never unread left came
  pub gone : HandedBefore by.reads
  pub holds : HoldsShift before after came t ms ps

-- After the last of them there is no more, or something did not go. A whole input is all that a reader had whose bytes are known.
pub record ReadBy (unread left before after : Option (List ℕ)) (t : Shift) (ms ps : List ℕ) : Type 0 where
  pub going : Going unread left before after t ms ps
  pub ended : is_going t ≡ false
  pub whole : t.phase ≡ Whole → IfSome unread (λ xs. going.came.bytes ≡ xs)
