-- Markers read strongly or weakly (document 02, S-36 and S-38; the Rust has nothing of it): the two evidences, a bale under a list of reads, and what its
-- answer says of a grade.
use Rattle.std.specs.Prelude.{ℕ, Bool, true, false, not, List, [], ◌∷◌, map, eqb, Float, negsuc, length, replicate}
use Rattle.std.proofs.Math.Option.{Option, none, some}
use Rattle.std.specs.Float.{fin}
use Rattle.std.specs.Float.Ieee.{lt}
use Rattle.definition.specs.Floats.{halfᶠ}
use Rattle.definition.specs.Vectors.{entry}
use Rattle.definition.specs.Settings.{Settings}
use Rattle.definition.specs.FactorGraph.{Evidence, Bale}
use Rattle.definition.specs.Answer.{Belief, answer, answered_beliefs}

-- 1/16 and 15/16
abbrev pub sixteenth : Float
sixteenth = fin false 1 (negsuc 3)

abbrev pub fifteen_sixteenths : Float
fifteen_sixteenths = fin false 15 (negsuc 3)

abbrev pub strong : Evidence
strong = record { absent = sixteenth; present = fifteen_sixteenths }

abbrev pub weak : Evidence
weak = record { absent = fifteen_sixteenths; present = sixteenth }

-- a read: true is strong
abbrev pub read_evidence : Bool → Evidence
read_evidence true = strong
read_evidence false = weak

-- The bale with one read for each marker, in the order of the markers. Of its own evidence nothing is left.
unfoldable pub with_reads : List Bool → Bale → Bale
with_reads rs b = record { grades = b.grades; markers = map read_evidence rs; pairs = b.pairs }

-- every marker read weakly
unfoldable pub all_weak : Bale → Bale
all_weak b = with_reads (replicate (length b.markers) false) b

-- ---- what the answer says of a grade

-- the present belief of grade g, where it has a belief
unfoldable pub present_of : List Belief → ℕ → Option Float
present_of [] g = none
present_of (x ∷ xs) g = elim (eqb x.grade g) [ true ↦ some (entry 1 x.value) | false ↦ present_of xs g ]

-- if the markers are read so
abbrev pub present_under : Settings → Bale → List Bool → ℕ → Option Float
present_under s b rs g = present_of (answered_beliefs (answer s (with_reads rs b))) g

-- exactly 1/2 is not above
unfoldable pub above_half : Float → Bool
above_half x = lt halfᶠ x

-- of a grade's present belief, which may not be there
abbrev pub is_above : Option Float → Bool
is_above none = false
is_above (some x) = above_half x

abbrev pub is_not_above : Option Float → Bool
is_not_above none = false
is_not_above (some x) = not (above_half x)

abbrev pub is_missing : Option Float → Bool
is_missing none = true
is_missing (some x) = false
