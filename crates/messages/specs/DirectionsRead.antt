-- The five rows of a component's message graph, read where they stand: two in its record, three behind it.
use Rattle.std.specs.Prelude.{ℕ, ◌+◌, ◌*◌, ◌-◌, ◌≤◌, ◌<◌, ◌≡◌, List, ◌++◌, map, length, get_or, take, drop}
use Rattle.std.proofs.Common.{arith, sym, ap, ◌∙◌, subst, inl}
use Rattle.std.proofs.lemmas.List.{length-map}
use Rattle.definition.specs.Settings.{Settings}
use Rattle.definition.specs.FactorGraph.{Bale, Node}
use Rattle.definition.specs.Components.{Subgraph, subgraph_of}
use Rattle.definition.specs.Directions.{MessageGraph, message_graph, message_graph_of}
use Rattle.definition.specs.Refusals.{Buffers}
use Rattle.claims.specs.Parts.{AcceptedPart}
use Rattle.graph_laws.specs.Consistency.{consistent, nodes_of}
use Rattle.factor_graph.specs.Words.{label, component_words}
use Rattle.list_laws.specs.Part.{region}
use Rattle.list_laws.specs.Put.{put, length-put, region-all, region-out}
use Rattle.messages.specs.Layout.{outs_of, offsets_from, GraphRows}
use Rattle.messages.specs.LayoutOffsets.{length_offsets}
use Rattle.messages.specs.LayoutOrder.{in_order, length_outs}
use Rattle.messages.specs.DirectionsRecord.{firsts_place, record_end, Recorded, Stands, stands_front, stands_back, node_count, edge_count, kinds_stand, firsts_stand, record_room, recorded-kept}
use Rattle.messages.specs.DirectionsRows.{starts_of, direction_rows, length_starts, length-rows}

-- ---- by the counts at the record's start

abbrev pub kinds_row : List ℕ → ℕ → List ℕ
kinds_row w at = region w (at + 2) (get_or w at 0)

abbrev pub labels_row : List ℕ → ℕ → List ℕ
labels_row w at = region w (at + 2 + get_or w at 0) (get_or w at 0)

abbrev pub firsts_row : List ℕ → ℕ → List ℕ
firsts_row w at = region w (firsts_place at (get_or w at 0)) (get_or w at 0 + 1)

abbrev pub starts_row : List ℕ → ℕ → ℕ → List ℕ
starts_row w at out = region w out (2 * get_or w (at + 1) 0)

abbrev pub outs_row : List ℕ → ℕ → ℕ → List ℕ
outs_row w at out = region w (out + 2 * get_or w (at + 1) 0) (2 * get_or w (at + 1) 0)

abbrev pub offsets_row : List ℕ → ℕ → ℕ → List ℕ
offsets_row w at out = region w (out + 4 * get_or w (at + 1) 0) (2 * get_or w (at + 1) 0 + 1)

-- a part of a slice by its start and its end
pub part-is : (w : List ℕ) (a n : ℕ) → take (a + n - a) (drop a w) ≡ region w a n
part-is w a n = ap (λ (k : ℕ). take k (drop a w)) (let z : a + n - a ≡ n = omega arith in z)

-- the places are there
pub record RecordFits (w : List ℕ) (at : ℕ) : Type 0 where
  pub counts : at + 1 < length w
  pub record_in : record_end at (get_or w at 0) (get_or w (at + 1) 0) ≤ length w

pub record RowsFit (w : List ℕ) (at out : ℕ) : Type 0 where
  pub counts : at + 1 < length w
  pub rows_in : out + (6 * get_or w (at + 1) 0 + 1) ≤ length w

-- ---- words with a record and its rows

pub record Laid (w : List ℕ) (at out : ℕ) (labels : List ℕ) (g : Subgraph) : Type 0 where
  pub recorded : Recorded w at labels g
  pub behind : record_end at (length g.nodes) (length g.edges) ≤ out
  pub room : out + (6 * length g.edges + 1) ≤ length w
  pub rows : Stands w out (direction_rows (message_graph g))

-- so it is where the rows were put
pub laid-put : (w v : List ℕ) (at out : ℕ) (labels : List ℕ) (g : Subgraph) → Recorded w at labels g → record_end at (length g.nodes) (length g.edges) ≤ out
    → out + (6 * length g.edges + 1) ≤ length w → v ≡ put w out (direction_rows (message_graph g)) → Laid v at out labels g
laid-put w v at out labels g R h k e =
    let s = direction_rows (message_graph g) in
    let n : length s ≡ 6 * length g.edges + 1 = omega (arith, length-rows (message_graph g) (in_order g), R.consistent.directions) in
    let p : length (put w out s) ≡ length w = length-put w out s (omega arith) in
    subst (λ (u : List ℕ). Laid u at out labels g) (sym e)
    (record {
      recorded =
          recorded-kept w (put w out s) at labels g R p
          (region-out 0 w out s at (3 + 3 * length g.nodes + 7 * length g.edges) (omega arith) (omega (arith, record_room w at labels g R)) (inl (omega arith)));
      behind = h;
      room = omega arith;
      rows = region-all 0 w out s (omega arith);
    })

module _ (w : List ℕ) (at out : ℕ) (labels : List ℕ) (g : Subgraph) (L : Laid w at out labels g) where
  abbrev t : MessageGraph
  t = message_graph g

  abbrev n-is : get_or w at 0 ≡ length g.nodes
  n-is = node_count w at labels g L.recorded

  abbrev e-is : get_or w (at + 1) 0 ≡ length g.edges
  e-is = edge_count w at labels g L.recorded

  d-is : 2 * get_or w (at + 1) 0 ≡ length (message_graph g).directions
  d-is = omega (arith, e-is, L.recorded.consistent.directions)

  whole : Stands w out (starts_of t ++ (outs_of t ++ offsets_from 0 t.directions))
  unfolding direction_rows
  whole = L.rows

  behind_starts : Stands w (out + length (starts_of t)) (outs_of t ++ offsets_from 0 t.directions)
  behind_starts = stands_back w out (starts_of t) (outs_of t ++ offsets_from 0 t.directions) whole

  -- the rows that are read are the message graph's
  pub rows-laid : GraphRows (message_graph g) (kinds_row w at) (firsts_row w at) (starts_row w at out) (outs_row w at out) (offsets_row w at out)
  rows-laid =
      record {
        kinds_are = ap (λ (k : ℕ). region w (at + 2) k) n-is ∙ kinds_stand w at labels g L.recorded;
        firsts_are = ap (λ (k : ℕ). region w (firsts_place at k) (k + 1)) n-is ∙ firsts_stand w at labels g L.recorded;
        starts_are = ap (λ (k : ℕ). region w out k) (d-is ∙ sym (length_starts t)) ∙ stands_front w out (starts_of t) (outs_of t ++ offsets_from 0 t.directions) whole;
        outs_are =
            ap (λ (k : ℕ). region w k (2 * get_or w (at + 1) 0)) (let z : out + 2 * get_or w (at + 1) 0 ≡ out + length (starts_of t) = omega (arith, d-is, length_starts t) in z)
            ∙ ap (λ (k : ℕ). region w (out + length (starts_of t)) k) (d-is ∙ sym (length_outs t (in_order g)))
            ∙ stands_front w (out + length (starts_of t)) (outs_of t) (offsets_from 0 t.directions) behind_starts;
        offsets_are =
            ap (λ (k : ℕ). region w k (2 * get_or w (at + 1) 0 + 1))
            (let z : out + 4 * get_or w (at + 1) 0 ≡ out + length (starts_of t) + length (outs_of t) = omega (arith, d-is, length_starts t, length_outs t (in_order g)) in z)
            ∙ ap (λ (k : ℕ). region w (out + length (starts_of t) + length (outs_of t)) k) (let z : 2 * get_or w (at + 1) 0 + 1 ≡ length (offsets_from 0 t.directions) = omega (arith, d-is, length_offsets 0 t.directions) in z)
            ∙ stands_back w (out + length (starts_of t)) (outs_of t) (offsets_from 0 t.directions) behind_starts;
      }

-- ---- a component of an accepted call, whose record stands in the words

pub recorded_component : (s : Settings) (f : Buffers) (b : Bale) (n : ℕ) (p : List Node) (w : List ℕ) (at : ℕ) → AcceptedPart s f b n p → at + length (component_words b p) ≤ length w
    → Stands w at (component_words b p) → Recorded w at (map label p) (subgraph_of b p)
unfolding component_words message_graph_of
recorded_component s f b n p w at h room e =
    record { consistent = consistent s f b n p h; labelled = length-map p label ∙ sym (nodes_of b p); room = room; stands = e }
