-- What the code holds of a shift's bytes that were taken in.
use Rattle.std.specs.Prelude.{ℕ, ◌+◌, ◌^◌, ◌≤◌, ◌<◌, ◌≡◌, true, List, ◌++◌, length, take}
use Rattle.theorems.specs.Facts.{ended_bales, open_bale}
use Rattle.bale_answer.specs.Open.{OpenIn}
use Rattle.tonnage.specs.declared.pieces.Weighing.{Weighing}
use Rattle.tonnage.specs.declared.pieces.Went.{Went}
use Rattle.tonnage.specs.Standings.{is_waiting, HoldsTally}

-- The ended bales were weighed, and as long as a line waits the bytes of the one that has not ended are held.
pub record Weighs (csv bs : List ℕ) (w : Weighing) (ms ps sums : List ℕ) : Type 0 where
  pub tally : HoldsTally csv (ended_bales bs) w.tally sums
  pub held : is_waiting w.tally.standing ≡ true → OpenIn (open_bale bs) w.input ms ps
  pub markers_now : length ms ≡ 24
  pub pairs_now : length ps ≡ 140

-- n bytes more can be counted
pub record SomeWeighs (csv : List ℕ) (w : Weighing) (ms ps sums : List ℕ) (n : ℕ) : Type 0 where
  pub bytes : List ℕ
  pub weighs : Weighs csv bytes w ms ps sums
  pub few : length bytes + n < 2 ^ 64

-- of a piece behind bs some bytes were taken in, unless it has none
pub record WeighedTo (csv bs piece : List ℕ) (r : Went) (ms ps sums : List ℕ) : Type 0 where
  pub within : r.used ≤ length piece
  pub some : 0 < length piece → 0 < r.used
  pub weighs : Weighs csv (bs ++ take r.used piece) r.weighing ms ps sums
