-- What the claims speak of: a part of an accepted call, its nodes, positions and messages by number, a grade in a pair, and floats that binary32 has.
use Rattle.std.specs.Prelude.{ℕ, ◌≡◌, Bool, ◌&&◌, List, [], ◌∷◌, map, T, eqb, length, get_or}
use Rattle.std.proofs.Math.Option.{Option, none, some}
use Rattle.std.specs.Float.{binary32}
use Rattle.std.specs.Float.Ieee.{le, fits}
use Rattle.std.proofs.Math.ListN.{get_elem?}
use Rattle.definition.specs.Floats.{c, oneᶠ}
use Rattle.definition.specs.Lists.{mem}
use Rattle.definition.specs.Vectors.{Message}
use Rattle.definition.specs.Settings.{Settings}
use Rattle.definition.specs.FactorGraph.{Evidence, Pair, Bale, Node, grade}
use Rattle.definition.specs.Components.{Subgraph, SubgraphNode, components_of}
use Rattle.definition.specs.Refusals.{Buffers, accepted, verdict}

-- part number n of an accepted call has the nodes p
pub record AcceptedPart (s : Settings) (f : Buffers) (b : Bale) (n : ℕ) (p : List Node) : Type 0 where
  pub accepts : verdict s f b ≡ accepted
  pub stands : get_elem? (components_of b) n ≡ some p

-- the grade stands in a pair
abbrev pub in_pair : Bale → ℕ → Bool
in_pair b g = mem eqb g (map (λ (q : Pair). q.grade) b.pairs)

-- ---- the given floats are binary32 values

pub record SettingsFit (s : Settings) : Type 0 where
  pub alpha : T (fits binary32 s.alpha)
  pub beta : T (fits binary32 s.beta)
  pub prior : T (fits binary32 s.prior)

pub record EvidenceFits (e : Evidence) : Type 0 where
  pub absent : T (fits binary32 e.absent)
  pub present : T (fits binary32 e.present)

abbrev pub AllEvidence : (Evidence → Type 0) → List Evidence → Type 0
AllEvidence P [] = Unit {0}
AllEvidence P (e ∷ es) = P e × AllEvidence P es

pub record Binary32 (s : Settings) (b : Bale) : Type 0 where
  pub settings : SettingsFit s
  pub evidence : AllEvidence EvidenceFits b.markers

-- ---- a part's graph by number

abbrev pub no_node : SubgraphNode
no_node = record { kind = grade; edges = [] }

abbrev pub subgraph_node_at : Subgraph → ℕ → SubgraphNode
subgraph_node_at g n = get_or g.nodes n no_node

-- how many positions node n has, and the number of its edge at position i
abbrev pub degree_of : Subgraph → ℕ → ℕ
degree_of g n = length (subgraph_node_at g n).edges

abbrev pub edge_number_at : Subgraph → ℕ → ℕ → ℕ
edge_number_at g n i = get_or (subgraph_node_at g n).edges i 0

-- ---- a message's entries, and an option's presence

-- every entry lies between c and 1
abbrev pub Within : Message → Type 0
Within [] = Unit {0}
Within (x ∷ m) = T (le c x && le x oneᶠ) × Within m

abbrev pub Present : {A : Type 0} → Option A → Type 0
Present none = ⊥
Present (some x) = Unit {0}
