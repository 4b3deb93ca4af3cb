-- Which bales of the input that came are listed, and when.
use Rattle.std.specs.Prelude.{ℕ, List, map}
use Rattle.definition.specs.Listing.{listing}
use Rattle.definition.specs.Shift.{bales}
use Rattle.shift_laws.specs.Ended.{ended_bales}
use Rattle.streams.specs.declared.input.Phase.{Phase}
use Rattle.streams.specs.declared.input.Phase.TheVariants.{Reading, Whole, TooLong, Unreadable}
use Rattle.streams.specs.Input.{Came}

-- What is handed over: the listing of each bale that was ended, and once the end of the input was found that of every bale.
abbrev pub texts_at : Phase → List ℕ → List (List ℕ)
texts_at Whole bs = map listing (bales bs)
texts_at Reading bs = map listing (ended_bales bs)
texts_at TooLong bs = map listing (ended_bales bs)
texts_at Unreadable bs = map listing (ended_bales bs)

abbrev pub texts_of : Came → List (List ℕ)
texts_of x = texts_at x.phase x.bytes
