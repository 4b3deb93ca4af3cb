-- `replay::listed::is_shift_listing` meets its contract: what is left of the file and the text is compared as the whole is.
use Rattle.std.specs.Prelude.{◌≡◌, ◌-◌, length}
use Rattle.replay.specs.Told.{ToldTo}
use Rattle.replay.proofs.listed.is_shift_listing.Given as goal

abbrev pub invariant-loop-at : goal.invariant-loop-at
invariant-loop-at l =
    ToldTo l.file l.text l.at l.told l.input l.markers l.pairs × (length l.work_floats ≡ 16128) × (length l.work_numbers ≡ 16128) × (length l.out ≡ 4096)

abbrev pub decreases-loop-at : goal.decreases-loop-at
decreases-loop-at l = length l.file - l.at
