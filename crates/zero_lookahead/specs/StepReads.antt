-- What a step reads of a part's words: the rows' places and the words in them are there.
use Rattle.std.specs.Prelude.{ℕ, ◌*◌, ◌≤◌, ◌<◌, ◌≡◌, List, Float, length, get_or}
use Rattle.std.proofs.Common.{arith, ◌∙◌}
use Rattle.definition.specs.Settings.{Settings}
use Rattle.definition.specs.Directions.{MessageGraph, direction_at}
use Rattle.messages.specs.LayoutRows.{RowsRead, rows-read}
use Rattle.messages.specs.DirectionsRead.{kinds_row, firsts_row, starts_row, outs_row, offsets_row, RecordFits}
use Rattle.zero_lookahead.specs.Part.{PartWords}

-- some part's words
pub record SomePart (out : ℕ) (words : List ℕ) : Type 0 where
  pub settings : Settings
  pub graph : MessageGraph
  pub evidence : List Float
  pub part : PartWords settings graph out evidence words

module _ (s : Settings) (t : MessageGraph) (out : ℕ) (evidence : List Float) (words : List ℕ) (P : PartWords s t out evidence words) where
  abbrev pub reads : RowsRead t (kinds_row words 0) (firsts_row words 0) (starts_row words 0 out) (outs_row words 0 out) (offsets_row words 0 out)
  reads = let R = P.rows in rows-read R.subgraph t R.consistent R.in_order (kinds_row words 0) (firsts_row words 0) (starts_row words 0 out) (outs_row words 0 out) (offsets_row words 0 out) R.rows

  -- direction d starts at node n
  module _ (d n : ℕ) (h : d < 2 * get_or words 1 0) (start : n ≡ get_or (starts_row words 0 out) d 0) where
    pub start-way : d < length t.directions
    start-way = omega (arith, P.edges)

    pub start_is : n ≡ (direction_at t d).start
    start_is = start ∙ reads.start d start-way

    pub start-node : n < length t.nodes
    start-node = omega (arith, start, reads.start-lt d start-way)

module _ (out : ℕ) (words : List ℕ) (S : SomePart out words) where
  abbrev P : PartWords S.settings S.graph out S.evidence words
  P = S.part

  abbrev Q : RowsRead S.graph (kinds_row words 0) (firsts_row words 0) (starts_row words 0 out) (outs_row words 0 out) (offsets_row words 0 out)
  Q = reads S.settings S.graph out S.evidence words P

  pub nodes_few : get_or words 0 0 < length words
  nodes_few = omega (arith, P.behind, P.room)

  pub offsets_there : 0 < length (offsets_row words 0 out)
  offsets_there = omega (arith, Q.offsets_long)

  pub way-there : (d : ℕ) → d < 2 * get_or words 1 0 → d < length (starts_row words 0 out)
  way-there d h = omega (arith, P.edges, Q.starts_long)

  -- the direction back, and where it starts
  pub back-there : (d : ℕ) → d < 2 * get_or words 1 0 → (d < length (outs_row words 0 out)) × (get_or (outs_row words 0 out) d 0 < length (starts_row words 0 out))
  back-there d h = let l : d < length S.graph.directions = omega (arith, P.edges) in (omega (arith, Q.outs_long), omega (arith, Q.out-lt d l, Q.starts_long))

  pub end-there : (d : ℕ) → d < 2 * get_or words 1 0 → get_or (starts_row words 0 out) (get_or (outs_row words 0 out) d 0) 0 < get_or words 0 0
  end-there d h = let l : d < length S.graph.directions = omega (arith, P.edges) in omega (arith, Q.end d l, Q.end_lt d l, P.nodes)

  pub first-there : (n : ℕ) → n ≤ get_or words 0 0 → RecordFits words 0 × (n < length (firsts_row words 0))
  first-there n h = (record { counts = omega (arith, P.behind, P.room); record_in = omega (arith, P.behind, P.room) }, omega (arith, Q.firsts-long, P.nodes))
