-- What the code holds of the shift that came, and what of its outcome was handed over.
use Rattle.std.specs.Prelude.{ℕ, ◌≤◌, ◌≡◌, Bool, true, false, Option, cond, not, ◌&&◌, ◌||◌, List, [], ◌++◌, length, IfSome}
use Rattle.definition.specs.Tonnage.{tonnage, weighing_lines}
use Rattle.streams.specs.Input.{Came, never, CameBy, is_reading}
use Rattle.streams.specs.Writes.{Gone}
use Rattle.streams.specs.declared.input.Phase.{Phase}
use Rattle.streams.specs.declared.input.Phase.TheVariants.{Reading, Whole, TooLong, Unreadable}
use Rattle.tonnage.specs.Standings.{is_waiting}
use Rattle.tonnage.specs.Weighed.{Weighs}
use Rattle.depot.specs.declared.depot.Depot.{Depot}

-- d holds x: its bytes are counted, its phase is told, and its ended bales were weighed
pub record HoldsDepot (csv : List ℕ) (x : Came) (d : Depot) (ms ps sums : List ℕ) : Type 0 where
  pub phase : d.phase ≡ x.phase
  pub counted : d.bytes ≡ length x.bytes
  pub weighs : Weighs csv x.bytes d.weighing ms ps sums

-- few enough came that a read more can be counted
pub record SomeGoing (csv : List ℕ) (d : Depot) (ms ps sums : List ℕ) : Type 0 where
  pub came : Came
  pub holds : HoldsDepot csv came d ms ps sums
  pub few : length came.bytes ≤ 4294967296

abbrev pub waits : Depot → Bool
waits d = is_waiting d.weighing.tally.standing

abbrev pub is_going : Depot → Bool
is_going d = waits d && is_reading d.phase

abbrev pub is_whole : Phase → Bool
is_whole Whole = true
is_whole Reading = false
is_whole TooLong = false
is_whole Unreadable = false

abbrev pub is_settled : Depot → Bool
is_settled d = not (waits d) || is_whole d.phase

-- Some calls of `read`, each because there was more to read. What they gave is held: of a reader whose bytes are known, what it had more before them than after.
pub record Going (unread left : Option (List ℕ)) (csv : List ℕ) (d : Depot) (ms ps sums : List ℕ) : Type 0 where
  pub came : Came
  pub by : CameBy never unread left came
  pub holds : HoldsDepot csv came d ms ps sums

-- After the last of them there is no more, or no line waits for it. A whole shift is all that a reader had whose bytes are known.
pub record ReadBy (unread left : Option (List ℕ)) (csv : List ℕ) (d : Depot) (ms ps sums : List ℕ) : Type 0 where
  pub going : Going unread left csv d ms ps sums
  pub ended : is_going d ≡ false
  pub whole : d.phase ≡ Whole → IfSome unread (λ xs. going.came.bytes ≡ xs)

pub record SomeDepot (d : Depot) (sums : List ℕ) : Type 0 where
  pub csv : List ℕ
  pub came : Came
  pub markers : List ℕ
  pub pairs : List ℕ
  pub holds : HoldsDepot csv came d markers pairs sums

-- bytes that may follow: where a line waits, and the end of the shift was found, none
abbrev pub Follows : Depot → List ℕ → Type 0
Follows d xs = waits d ≡ true → xs ≡ []

-- what is printed: the tonnage of the shift that came, and where no line waits also of that and whatever follows; nothing while it is not known
abbrev pub text_of : List ℕ → Came → Depot → List ℕ → List ℕ
text_of csv x d xs = cond (is_settled d) (weighing_lines (tonnage csv (x.bytes ++ xs))) []

-- that was handed over, to a writer that held bytes before and after it
abbrev pub OutcomeHanded : Option (List ℕ) → Option (List ℕ) → Depot → List ℕ → Bool → Type 0
OutcomeHanded before after d sums all =
    (csv : List ℕ) (x : Came) (ms ps xs : List ℕ) → HoldsDepot csv x d ms ps sums → Follows d xs → Gone before after (text_of csv x d xs) all
