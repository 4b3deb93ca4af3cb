-- What the lent floats and words of a component mean: every content is some state of the definition's schedule.
use Rattle.std.specs.Prelude.{ℕ, zero, suc, ◌+◌, ◌*◌, ◌≤◌, ◌<◌, ◌≡◌, false, List, [], ◌∷◌, ◌++◌, Float, length, get_or, take, replicate}
use Rattle.std.proofs.Math.Option.{none, some}
use Rattle.definition.specs.Floats.{zeroᶠ}
use Rattle.definition.specs.Settings.{Settings}
use Rattle.definition.specs.FactorGraph.{Kind, grade, factor, input, tree, is_input}
use Rattle.definition.specs.Components.{Subgraph}
use Rattle.definition.specs.Lists.{range}
use Rattle.definition.specs.Vectors.{Message}
use Rattle.definition.specs.Directions.{MessageNode, MessageGraph, node_at, direction_at, messages_in}
use Rattle.definition.specs.Messages.{LastBuild}
use Rattle.definition.specs.Sweeps.{Store}
use Rattle.definition.specs.Run.{neighbour_numbers}
use Rattle.graph_laws.specs.Consistency.{Consistent}
use Rattle.graph_laws.specs.Sending.{MessageGraphKept}
use Rattle.messages.specs.Layout.{cut, width, kind_code, GraphRows}
use Rattle.messages.specs.LayoutOrder.{InOrder}

-- ---- the component that the words stand for

-- an input's evidence stands at its label in the lent evidence
abbrev pub HasEvidence : Kind → ℕ → List Float → Type 0
HasEvidence grade m es = Unit {0}
HasEvidence (factor d) m es = Unit {0}
HasEvidence (input e) m es = (2 * m + 1 < length es) × (e.absent ≡ get_or es (2 * m) zeroᶠ) × (e.present ≡ get_or es (2 * m + 1) zeroᶠ)
HasEvidence (tree d) m es = Unit {0}

-- A factor has two neighbours, and the first is no input.
pub record FactorShape (t : MessageGraph) (n : ℕ) : Type 0 where
  pub code : kind_code (node_at t n).kind ≡ 1
  pub two : length (node_at t n).outgoing ≡ 2
  pub receiver : is_input (node_at t (direction_at t (get_or (node_at t n).outgoing 0 0)).end).kind ≡ false

-- The rows of words are those of a message graph t that keeps what the run needs, whatever the floats are.
pub record PartRows (s : Settings) (t : MessageGraph) (kinds firsts starts outs offsets labels : List ℕ) (evidence : List Float) : Type 0 where
  pub rows : GraphRows t kinds firsts starts outs offsets
  pub subgraph : Subgraph
  pub consistent : Consistent subgraph t
  pub in_order : InOrder t
  pub kept : MessageGraphKept (λ m. Unit {0}) s t
  pub factors : (n : ℕ) → n < length t.nodes → kind_code (node_at t n).kind ≡ 1 → FactorShape t n
  pub labels-long : length labels ≡ length t.nodes
  pub inputs : (n : ℕ) → n < length t.nodes → HasEvidence (node_at t n).kind (get_or labels n 0) evidence

-- ---- its floats: msg_in, msg_in_new, msg_in_log, the trees' last builds, the pending residuals, and behind them scratch

-- what a tree of 128 grades takes, its messages and their scratch
abbrev pub scratch_floats : ℕ
scratch_floats = 1664

abbrev pub part_floats : List Float → List Float → List Float → List Float → List Float → List Float → List Float
part_floats r_in r_new r_log r_build pending rest = r_in ++ (r_new ++ (r_log ++ (r_build ++ (pending ++ rest))))

pub record FloatRows (t : MessageGraph) (r_in r_new r_log r_build pending rest : List Float) : Type 0 where
  pub in_long : length r_in ≡ width t.directions
  pub new-long : length r_new ≡ width t.directions
  pub log_long : length r_log ≡ width t.directions
  pub build-long : length r_build ≡ width t.directions
  pub pending_long : length pending ≡ length t.directions
  pub room : scratch_floats ≤ length rest
  pub zeros : take scratch_floats rest ≡ replicate scratch_floats zeroᶠ

-- ---- the trees' last builds: a row of floats like a message set, and a flag for each node

abbrev pub build_of : ℕ → MessageNode → List Message → LastBuild
build_of zero x ms = none
build_of (suc k) x ms = some (messages_in x ms)

abbrev pub builds_of : List MessageNode → List ℕ → List Message → List LastBuild
builds_of [] fs ms = []
builds_of (x ∷ xs) [] ms = []
builds_of (x ∷ xs) (f ∷ fs) ms = build_of f x ms ∷ builds_of xs fs ms

-- ---- the three message sets and the builds

unfoldable pub store_of : MessageGraph → List Float → List Float → List Float → List Float → List ℕ → Store
store_of t r_in r_new r_log r_build flags =
    record {
      msg_in = cut t.directions r_in;
      msg_in_new = cut t.directions r_new;
      msg_in_log = cut t.directions r_log;
      last_builds = builds_of t.nodes flags (cut t.directions r_build);
    }

-- ---- the nodes that changed: all, one, or the neighbours of a tree

pub data Changed : Type 0 where
  all : Changed
  one around : ℕ → Changed

unfoldable pub changed_of : MessageGraph → Changed → List ℕ
changed_of t all = range 0 (length t.nodes)
changed_of t (one n) = n ∷ []
changed_of t (around n) = neighbour_numbers t (node_at t n)
