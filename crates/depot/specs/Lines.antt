-- What the code holds of the lines that came.
use Rattle.std.specs.Prelude.{ℕ, Option, ◌≡◌, false, List, length, take, IfSome}
use Rattle.streams.specs.Input.{Came, CameBy, is_reading}
use Rattle.streams.specs.declared.input.Phase.TheVariants.{Whole}
use Rattle.depot.specs.declared.csv.Csv.{Csv}
use Rattle.depot.specs.Program.{enough}

-- c counts x, and its phase is told
pub record CountsLines (x : Came) (c : Csv) : Type 0 where
  pub phase : c.phase ≡ x.phase
  pub counted : c.len ≡ length x.bytes

-- and its bytes stand at the front of the text
pub record HoldsLines (x : Came) (c : Csv) (text : List ℕ) : Type 0 where
  pub counts : CountsLines x c
  pub bytes : take c.len text ≡ x.bytes

-- Some calls of `read`, each because there was more to read. What they gave is held: of a reader whose bytes are known, what it had more before them than after.
pub record Going (unread left : Option (List ℕ)) (c : Csv) (text : List ℕ) : Type 0 where
  pub came : Came
  pub by : CameBy enough unread left came
  pub holds : HoldsLines came c text

-- After the last of them there is no more. Whole lines of which fewer bytes came than are enough are all that a reader had whose bytes are known.
pub record LinesReadBy (unread left : Option (List ℕ)) (c : Csv) (text : List ℕ) : Type 0 where
  pub going : Going unread left c text
  pub ended : is_reading c.phase ≡ false
  pub whole : c.phase ≡ Whole → enough going.came.bytes ≡ false → IfSome unread (λ xs. going.came.bytes ≡ xs)
