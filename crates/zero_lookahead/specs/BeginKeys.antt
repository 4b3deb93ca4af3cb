-- The key of one leaf where the loop begins, read from the part's words and floats.
use Rattle.std.specs.Prelude.{ℕ, ◌+◌, ◌-◌, ◌*◌, ◌≤◌, ◌<◌, ◌≡◌, List, Float, length, get_or}
use Rattle.std.proofs.Common.{arith, sym, ◌∙◌}
use Rattle.std.proofs.Math.Path.{ap}
use Rattle.std.proofs.Math.ListN.{get_or-eq_default}
use Rattle.definition.specs.Vectors.{Message}
use Rattle.definition.specs.Settings as definition
use Rattle.definition.specs.Directions.{MessageGraph, message_at}
use Rattle.definition.specs.Sweeps.{Store}
use Rattle.definition.specs.Run.{begin_loop}
use Rattle.list_laws.specs.Part.{region}
use Rattle.priorities.specs.Keys.{encoded}
use Rattle.messages.specs.Layout.{cut, width}
use Rattle.messages.specs.LayoutCut.{cut-long}
use Rattle.messages.specs.DirectionsRead.{offsets_row}
use Rattle.messages.specs.State.{store_of}
use Rattle.opening.specs.OpenRows.{MessageRow}
use Rattle.opening.specs.Begin.{initial_key, begin_long, begin_at, message_is, message_room}
use Rattle.steps.specs.StepFloats.{in_read, log_read, floats_long}
use Rattle.zero_lookahead.specs.declared.settings.Settings.{Settings}
use Rattle.zero_lookahead.specs.Part.{Given, StandsFor}
use Rattle.zero_lookahead.specs.PartOffsets.{width_is, offset_word, message_row}

-- a part that stands for a store, whatever the evidence
pub record SomeStandingAny (g : Settings) (out : ℕ) (words : List ℕ) (w : List Float) : Type 0 where
  pub settings : definition.Settings
  pub given : Given settings g
  pub graph : MessageGraph
  pub evidence : List Float
  pub store : Store
  pub stands : StandsFor settings graph out evidence store words w

-- the key of direction d, and 0 behind the last one
abbrev pub leaf_key : definition.Settings → MessageGraph → Store → ℕ → ℕ
leaf_key s t x d = get_or (encoded (begin_loop s t x).priorities) d 0

module _ {s : definition.Settings} {t : MessageGraph} {out : ℕ} {evidence : List Float} {x : Store} {words : List ℕ} {w : List Float} (S : StandsFor s t out evidence x words w) where
  pub key_behind : (d : ℕ) → 2 * get_or words 1 0 ≤ d → 0 ≡ leaf_key s t x d
  key_behind d h = sym (get_or-eq_default (encoded (begin_loop s t x).priorities) 0 (let z : length (encoded (begin_loop s t x).priorities) ≤ d = omega (arith, begin_long s t x, S.part.edges) in z))

  pub in_is : x.msg_in ≡ cut t.directions S.r_in
  unfolding store_of
  in_is = ap (λ (y : Store). y.msg_in) S.store

  pub log_is : x.msg_in_log ≡ cut t.directions S.r_log
  unfolding store_of
  log_is = ap (λ (y : Store). y.msg_in_log) S.store

  pub floats_count : length w ≡ 4 * width t.directions + length t.directions + length S.rest
  floats_count = ap length S.is ∙ floats_long t S.r_in S.r_new S.r_log S.r_build S.pending S.rest S.floats

  -- as the code reads it: e the number of edges, l the width of a row, the message of direction d from one offset to the next
  module _ (d e l from to : ℕ) (ee : e ≡ get_or words 1 0) (el : l ≡ get_or words (out + 6 * e) 0) (ef : from ≡ get_or words (out + 4 * e + d) 0) (et : to ≡ get_or words (out + 4 * e + d + 1) 0) (h : d < 2 * e) where
    here : d < length t.directions
    here = omega (arith, S.part.edges)

    row : MessageRow t.directions (offsets_row words 0 out) S.r_in
    row = message_row S.part S.r_in S.floats.in_long

    wide : l ≡ width t.directions
    wide = el ∙ ap (λ (n : ℕ). get_or words (out + 6 * n) 0) ee ∙ width_is S.part

    from_is : from ≡ get_or (offsets_row words 0 out) d 0
    from_is = ef ∙ ap (λ (n : ℕ). get_or words (out + 4 * n + d) 0) ee ∙ offset_word S.part d (omega arith)

    to_is : to ≡ get_or (offsets_row words 0 out) (d + 1) 0
    to_is =
        et
        ∙ ap (λ (n : ℕ). get_or words (out + 4 * n + d + 1) 0) ee
        ∙ ap (λ (i : ℕ). get_or words i 0) (let z : out + 4 * get_or words 1 0 + d + 1 ≡ out + 4 * get_or words 1 0 + (d + 1) = omega arith in z)
        ∙ offset_word S.part (d + 1) (omega arith)

    inside : (from ≤ to) × (to ≤ length S.r_in) × (1 < to - from)
    inside = message_room t.directions (offsets_row words 0 out) S.r_in row d from to here from_is to_is

    -- the two messages are in the floats, and as long as each other
    pub key_room : (from ≤ to) × (to ≤ l) × (3 * l ≤ length w) × (1 < to - from)
    key_room = (inside.0, omega (arith, inside.1, S.floats.in_long, wide), omega (arith, floats_count, wide), inside.2)

    pub key_is : (k n : ℕ) → n ≡ to - from → k ≡ initial_key s.tolerance (region w from (to - from)) (region w (2 * l + from) n) → k ≡ leaf_key s t x d
    key_is k n u g =
        let F = S.floats in
        let q : from + (to - from) ≤ width t.directions = omega (arith, inside.0, inside.1, F.in_long) in
        let m : region w from (to - from) ≡ message_at d x.msg_in =
        ap (λ (v : List Float). region v from (to - from)) S.is
        ∙ in_read t S.r_in S.r_new S.r_log S.r_build S.pending S.rest F from (to - from) q
        ∙ message_is t.directions (offsets_row words 0 out) S.r_in row d from to here from_is to_is S.r_in
        ∙ ap (message_at d) (sym in_is) in
        let o : region w (2 * l + from) n ≡ message_at d x.msg_in_log =
        ap (region w (2 * l + from)) u
        ∙ ap (λ (i : ℕ). region w (2 * i + from) (to - from)) wide
        ∙ ap (λ (v : List Float). region v (2 * width t.directions + from) (to - from)) S.is
        ∙ log_read t S.r_in S.r_new S.r_log S.r_build S.pending S.rest F from (to - from) q
        ∙ message_is t.directions (offsets_row words 0 out) S.r_in row d from to here from_is to_is S.r_log
        ∙ ap (message_at d) (sym log_is) in
        g
        ∙ ap (λ (z : Message). initial_key s.tolerance z (region w (2 * l + from) n)) m
        ∙ ap (initial_key s.tolerance (message_at d x.msg_in)) o
        ∙ begin_at s t x d here (ap (λ (ms : List Message). length (message_at d ms)) in_is ∙ cut-long t.directions S.r_in d F.in_long here)
