-- A part in its two ranges: what its words are, and which state of the definition its words and floats stand for. Words: the component's record, and behind it,
-- from index `out` on, the starts, the directions back, the offsets, a flag for each node that says whether its tree was built, and the queue.
use Rattle.std.specs.Prelude.{ℕ, ◌+◌, ◌*◌, ◌^◌, ◌≤◌, ◌<◌, ◌≡◌, List, T, Float, length, get_or, take}
use Rattle.std.proofs.Math.Option.{none}
use Rattle.definition.specs.Floats.{zeroᶠ}
use Rattle.definition.specs.Settings as definition
use Rattle.definition.specs.Directions.{MessageGraph}
use Rattle.definition.specs.Sweeps.{Store}
use Rattle.definition.specs.Run.{State}
use Rattle.definition.specs.Settings.{settings_of}
use Rattle.float_laws.specs.Rounded.{clear}
use Rattle.list_laws.specs.Part.{region}
use Rattle.priorities.specs.Leaves.{leaves_for}
use Rattle.priorities.specs.Keys.{encoded, IsAmount}
use Rattle.priorities.specs.Tournament.{Holds}
use Rattle.messages.specs.Layout.{width}
use Rattle.messages.specs.DirectionsRecord.{record_end}
use Rattle.messages.specs.DirectionsRead.{kinds_row, labels_row, firsts_row, starts_row, outs_row, offsets_row}
use Rattle.messages.specs.State.{PartRows, scratch_floats, part_floats, FloatRows, store_of}
use Rattle.zero_lookahead.specs.declared.settings.Settings.{Settings}

-- the definition's settings are those that are given, whatever the limit
abbrev pub Given : definition.Settings → Settings → Type 0
Given s g = s ≡ settings_of g.alpha g.beta g.prior g.regularised g.tolerance s.loop_limit

-- ---- the words: behind the rows the flags, behind these the queue

abbrev pub rows_end : List ℕ → ℕ → ℕ
rows_end words out = out + (6 * get_or words 1 0 + 1)

abbrev pub flags_row : List ℕ → ℕ → List ℕ
flags_row words out = region words (rows_end words out) (get_or words 0 0)

abbrev pub leaves_in : List ℕ → ℕ
leaves_in words = leaves_for (2 * get_or words 1 0)

abbrev pub queue_at : List ℕ → ℕ → ℕ
queue_at words out = rows_end words out + get_or words 0 0

abbrev pub queue_row : List ℕ → ℕ → List ℕ
queue_row words out = region words (queue_at words out) (2 * leaves_in words)

pub record PartWords (s : definition.Settings) (t : MessageGraph) (out : ℕ) (evidence : List Float) (words : List ℕ) : Type 0 where
  pub rows : PartRows s t (kinds_row words 0) (firsts_row words 0) (starts_row words 0 out) (outs_row words 0 out) (offsets_row words 0 out) (labels_row words 0) evidence
  pub nodes : get_or words 0 0 ≡ length t.nodes
  pub edges : 2 * get_or words 1 0 ≡ length t.directions
  pub few : 2 * get_or words 1 0 ≤ 2 ^ 31
  pub behind : record_end 0 (get_or words 0 0) (get_or words 1 0) ≤ out
  pub room : queue_at words out + 2 * leaves_in words ≤ length words

-- ---- the floats that a part takes

abbrev pub floats_needed : MessageGraph → ℕ
floats_needed t = 4 * width t.directions + length t.directions + scratch_floats

-- a part and its floats, whatever stands in them
pub record PartRoom (s : definition.Settings) (t : MessageGraph) (out : ℕ) (evidence : List Float) (words : List ℕ) (w : List Float) : Type 0 where
  pub part : PartWords s t out evidence words
  pub floats : floats_needed t ≤ length w

pub record SomePartRoom (g : Settings) (out : ℕ) (evidence : List Float) (words : List ℕ) (w : List Float) : Type 0 where
  pub settings : definition.Settings
  pub given : Given settings g
  pub graph : MessageGraph
  pub room : PartRoom settings graph out evidence words w

-- ---- the words and floats stand for a store: the message sets and the trees' last builds

pub record StandsFor (s : definition.Settings) (t : MessageGraph) (out : ℕ) (evidence : List Float) (x : Store) (words : List ℕ) (w : List Float) : Type 0 where
  pub part : PartWords s t out evidence words
  pub r_in : List Float
  pub r_new : List Float
  pub r_log : List Float
  pub r_build : List Float
  pub pending : List Float
  pub rest : List Float
  pub floats : FloatRows t r_in r_new r_log r_build pending rest
  pub is : w ≡ part_floats r_in r_new r_log r_build pending rest
  pub store : x ≡ store_of t r_in r_new r_log r_build (flags_row words out)

pub record SomeStanding (g : Settings) (out : ℕ) (evidence : List Float) (words : List ℕ) (w : List Float) : Type 0 where
  pub settings : definition.Settings
  pub given : Given settings g
  pub graph : MessageGraph
  pub store : Store
  pub stands : StandsFor settings graph out evidence store words w

-- ---- and for a state of the loop: also the pending residuals and the queue

pub record Runs (s : definition.Settings) (t : MessageGraph) (out : ℕ) (evidence : List Float) (x : State) (words : List ℕ) (w : List Float) : Type 0 where
  pub stands : StandsFor s t out evidence x.store words w
  pub pending_is : stands.pending ≡ x.pending
  pub clear_signs : (d : ℕ) → d < length x.pending → T (clear (get_or x.pending d zeroᶠ))
  pub queued : length x.priorities ≡ length t.directions
  pub amounts : (d : ℕ) → IsAmount (get_or x.priorities d none)
  pub holds : Holds (leaves_in words) (encoded x.priorities) (queue_row words out)

pub record SomeRunning (g : Settings) (out : ℕ) (evidence : List Float) (words : List ℕ) (w : List Float) : Type 0 where
  pub settings : definition.Settings
  pub given : Given settings g
  pub graph : MessageGraph
  pub state : State
  pub runs : Runs settings graph out evidence state words w

-- ---- what a function on a part leaves in front of the rows: all of it

abbrev pub KeptFront : ℕ → List ℕ → List ℕ → Type 0
KeptFront out before after = take out after ≡ take out before
