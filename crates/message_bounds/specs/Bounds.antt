-- The bounds, whole: of each part of an accepted bale whose floats are binary32 values, every message in force lies within.
use Rattle.std.specs.Prelude.{ℕ, List, [], ◌∷◌}
use Rattle.definition.specs.Settings.{Settings}
use Rattle.definition.specs.FactorGraph.{Evidence, Bale, Node}
use Rattle.definition.specs.Refusals.{Buffers}
use Rattle.graph_laws.specs.Lists.{All}
use Rattle.claims.specs.Parts.{AcceptedPart}
use Rattle.graph_laws.specs.Structure.{WithinByDirection, bounds_from_good}
use Rattle.message_bounds.specs.Bounded.{BoundedEntries, within_of}
use Rattle.claims.specs.Parts.{SettingsFit, EvidenceFits, AllEvidence}
use Rattle.message_bounds.specs.Accepted.{settings_in_range, evidence_bounded}
use Rattle.message_bounds.specs.Sending.{keeps}

pub all_of : (P : Evidence → Type 0) (es : List Evidence) → AllEvidence P es → All P es
all_of P [] h = tt
all_of P (e ∷ es) h = (h.0, all_of P es h.1)

pub bounds : (s : Settings) (f : Buffers) (b : Bale) (n : ℕ) (p : List Node) → AcceptedPart s f b n p → SettingsFit s → AllEvidence EvidenceFits b.markers → WithinByDirection s b p
bounds s f b n p h t e = bounds_from_good BoundedEntries within_of s (keeps s (settings_in_range s f b h.accepts t)) f b n p h (all_of _ b.markers (evidence_bounded s f b h.accepts e))
