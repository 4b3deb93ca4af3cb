-- When the program has read enough, and the listing that it makes of what came.
use Rattle.std.specs.Prelude.{ℕ, Bool, List, []}
use Rattle.definition.specs.BaleFile.{words}
use Rattle.definition.specs.Listing.{listing}
use Rattle.bale_file.specs.Spoilt.{bad_among}
use Rattle.streams.specs.declared.input.Phase.{Phase}
use Rattle.streams.specs.declared.input.Phase.TheVariants.{Reading, Whole, TooLong, Unreadable}
use Rattle.streams.specs.Input.{Came}

-- once a word is bad no further byte counts
abbrev pub decided : List ℕ → Bool
decided bs = bad_among 0 (words bs)

-- the listing is that of all bytes, if all that count were read
abbrev pub listing_at : Phase → List ℕ → List ℕ
listing_at Whole bs = listing bs
listing_at Reading bs = []
listing_at TooLong bs = []
listing_at Unreadable bs = []

abbrev pub listing_of : Came → List ℕ
listing_of x = listing_at x.phase x.bytes
