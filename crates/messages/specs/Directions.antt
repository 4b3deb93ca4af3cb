-- The rows of a component's message graph, made of its record: what is stored for one direction, and that after the last one the rows stand behind the record.
use Rattle.std.specs.Prelude.{ℕ, ◌+◌, ◌*◌, ◌-◌, ◌≤◌, ◌<◌, ◌≡◌, refl, Bool, true, false, cond, eqb}
use Rattle.std.proofs.Common.{arith, ◌∙◌}
use Rattle.std.proofs.Math.Path.{sym, ap}
use mathlib.Core.List.{List, map}
use Rattle.std.proofs.Math.ListN.{length, get_or, set}
use Rattle.definition.specs.Components.{Subgraph, SubgraphEdge}
use Rattle.definition.specs.Directions.{Direction, MessageNode, MessageGraph, edge_at, direction_to, message_graph, node_at, direction_at}
use Rattle.claims.specs.Parts.{degree_of, edge_number_at}
use Rattle.graph_laws.specs.DirectionNumbers.{message_nodes_count, outs_count, in_inward}
use Rattle.graph_laws.specs.Consistency.{incoming_at, Consistent}
use Rattle.list_laws.specs.Part.{region}
use Rattle.list_laws.specs.Put.{put}
use Rattle.factor_graph.specs.Words.{edge_words}
use Rattle.messages.specs.Layout.{width, kind_code, firsts_of, outs_of, offsets_from}
use Rattle.messages.specs.LayoutOffsets.{long_at, offset_at, offset-zero, offset-next, offset_room}
use Rattle.messages.specs.LayoutOrder.{in_order}
use Rattle.messages.specs.LayoutRows.{RowsRead, rows-read}
use Rattle.messages.specs.DirectionsRecord.{firsts_place, slots_place, edges_place, record_end, Recorded, first_word, slot_word, edge_word, recorded-kept}
use Rattle.messages.specs.DirectionsRows.{starts_of, direction_rows, rows_to, three-none, three-next, length_three, three-last, three-before, rows_all}

-- ---- what is stored for one direction, in words

-- of the edge whose five words begin at `edge`, seen from its end n: the other end, and n's place in the list of that one
abbrev pub far_node : List ℕ → ℕ → ℕ → ℕ
far_node w edge n = cond (eqb (get_or w edge 0) n) (get_or w (edge + 1) 0) (get_or w edge 0)

abbrev pub place_in_far : List ℕ → ℕ → ℕ → ℕ
place_in_far w edge n = cond (eqb (get_or w edge 0) n) (get_or w (edge + 3) 0) (get_or w (edge + 2) 0)

-- where the edge of slot d begins
abbrev pub edge_place : List ℕ → ℕ → ℕ → ℕ → ℕ → ℕ
edge_place w at nodes edges d = edges_place at nodes edges + 5 * get_or w (slots_place at nodes + d) 0

-- by which direction node n sends along that edge
abbrev pub back_word : List ℕ → ℕ → ℕ → ℕ → ℕ → ℕ
back_word w at nodes edge n = get_or w (firsts_place at nodes + far_node w edge n) 0 + place_in_far w edge n

-- direction d, which ends at node n: its start, the direction back, and where the next one's message begins
unfoldable pub direction_step : ℕ → ℕ → ℕ → ℕ → ℕ → ℕ → List ℕ → List ℕ
direction_step at nodes edges out n d w =
    let edge = edge_place w at nodes edges d in
    set (set (set w (out + d) (far_node w edge n)) (out + 2 * edges + d) (back_word w at nodes edge n)) (out + 4 * edges + d + 1) (get_or w (out + 4 * edges + d) 0 + get_or w (edge + 4) 0)

-- what this asks of the words: every place is there, and the two sums fit
pub record StepFits (w : List ℕ) (at nodes edges out n d : ℕ) : Type 0 where
  pub behind : record_end at nodes edges ≤ out
  pub room : out + (6 * edges + 1) ≤ length w
  pub direction : d < 2 * edges
  pub edge : get_or w (slots_place at nodes + d) 0 < edges
  pub start : far_node w (edge_place w at nodes edges d) n < nodes
  pub back : back_word w at nodes (edge_place w at nodes edges d) n < 4294967296
  pub next : get_or w (out + 4 * edges + d) 0 + get_or w (edge_place w at nodes edges d + 4) 0 < 4294967296

-- ---- words in which the rows of the first d directions are filled

pub record Filled (base : List ℕ) (at out : ℕ) (labels : List ℕ) (g : Subgraph) (d : ℕ) (w : List ℕ) : Type 0 where
  pub recorded : Recorded base at labels g
  pub behind : record_end at (length g.nodes) (length g.edges) ≤ out
  pub room : out + (6 * length g.edges + 1) ≤ length base
  pub filled : w ≡ rows_to base out (message_graph g) d

either : (f : Direction → ℕ) (b : Bool) (p q : Direction) → f (cond b p q) ≡ cond b (f p) (f q)
either f true p q = refl
either f false p q = refl

start_of : (n : ℕ) (x : SubgraphEdge) → (direction_to n x).start ≡ cond (eqb x.node1 n) x.node2 x.node1
unfolding direction_to
start_of n x = either (λ v. v.start) (eqb x.node1 n) _ _

place_of : (n : ℕ) (x : SubgraphEdge) → (direction_to n x).end_in_start ≡ cond (eqb x.node1 n) x.node1_in_node2 x.node2_in_node1
unfolding direction_to
place_of n x = either (λ v. v.end_in_start) (eqb x.node1 n) _ _

-- the rows by themselves
module _ (g : Subgraph) (C : Consistent g (message_graph g)) where
  own-rows : RowsRead (message_graph g) (map (λ (x : MessageNode). kind_code x.kind) (message_graph g).nodes) (firsts_of (message_graph g)) (starts_of (message_graph g)) (outs_of (message_graph g)) (offsets_from 0 (message_graph g).directions)
  own-rows = rows-read g (message_graph g) C (in_order g) _ _ _ _ _ (record { kinds_are = refl; firsts_are = refl; starts_are = refl; outs_are = refl; offsets_are = refl })

module _ (base : List ℕ) (at out : ℕ) (labels : List ℕ) (g : Subgraph) (d : ℕ) (w : List ℕ) (Fl : Filled base at out labels g d w) where
  abbrev t : MessageGraph
  t = message_graph g

  abbrev ds : List Direction
  ds = (message_graph g).directions

  abbrev D : ℕ
  D = length (message_graph g).directions

  abbrev C : Consistent g (message_graph g)
  C = Fl.recorded.consistent

  abbrev rows : RowsRead (message_graph g) (map (λ (x : MessageNode). kind_code x.kind) (message_graph g).nodes) (firsts_of (message_graph g)) (starts_of (message_graph g)) (outs_of (message_graph g)) (offsets_from 0 (message_graph g).directions)
  rows = own-rows g Fl.recorded.consistent

  abbrev fs : ℕ → ℕ
  fs i = get_or (starts_of (message_graph g)) i 0

  abbrev fo : ℕ → ℕ
  fo i = get_or (outs_of (message_graph g)) i 0

  abbrev ff : ℕ → ℕ
  ff i = offset_at (message_graph g).directions i

  pub filled-long : length w ≡ length base
  unfolding rows_to
  filled-long = ap length Fl.filled ∙ length_three base out (out + D) (out + 2 * D) fs fo ff d

  pub filled-recorded : Recorded w at labels g
  unfolding rows_to
  filled-recorded =
      let m = 3 + 3 * length g.nodes + 7 * length g.edges in
      recorded-kept base w at labels g Fl.recorded filled-long
      (ap (λ (v : List ℕ). region v at m) Fl.filled
      ∙ three-before base out (out + D) (out + 2 * D) fs fo ff d 0 at m (omega arith) (omega arith) (omega (arith, Fl.behind)) (omega (arith, Fl.behind, Fl.room)))

  filled-offset : d < D → get_or w (out + 2 * D + d) 0 ≡ offset_at ds d
  unfolding rows_to
  filled-offset h =
      ap (λ (v : List ℕ). get_or v (out + 2 * D + d) 0) Fl.filled ∙ three-last base out (out + D) (out + 2 * D) fs fo ff d 0 (omega (arith, Fl.room, C.directions))

  -- direction d ends at node n
  module _ (nodes edges n : ℕ) (en : nodes ≡ length g.nodes) (ee : edges ≡ length g.edges) (l : n < nodes) (from : get_or w (firsts_place at nodes + n) 0 ≤ d) (to : d < get_or w (firsts_place at nodes + n + 1) 0) where
    R : Recorded w at labels g
    R = filled-recorded

    first-w : (m : ℕ) → m ≤ nodes → get_or w (firsts_place at nodes + m) 0 ≡ get_or (firsts_of t) m 0
    first-w m h = ap (λ (k : ℕ). get_or w (firsts_place at k + m) 0) en ∙ first_word w at labels g R m (omega arith)

    from_is : get_or (firsts_of t) n 0 ≤ d
    from_is = omega (arith, first-w n (omega arith))

    to_is : d < get_or (firsts_of t) (n + 1) 0
    to_is = omega (arith, ap (λ (k : ℕ). get_or w k 0) (let z : firsts_place at nodes + n + 1 ≡ firsts_place at nodes + (n + 1) = omega arith in z), first-w (n + 1) (omega arith))

    abbrev there : n < length g.nodes
    there = let z : n < length g.nodes = omega arith in z

    abbrev within : n < length (message_graph g).nodes
    within = let z : n < length (message_graph g).nodes = omega (arith, message_nodes_count g) in z

    below : d < D
    below = omega (arith, to_is, rows.first-le (n + 1) (omega (arith, within)))

    abbrev i : ℕ
    i = d - (node_at (message_graph g) n).first_incoming

    i_lt : i < degree_of g n
    i_lt = omega (arith, from_is, to_is, rows.first n within, rows.next n within, outs_count g n there)

    i-at : incoming_at t n i ≡ d
    i-at = omega (arith, from_is, rows.first n within)

    abbrev x : SubgraphEdge
    x = edge_at g (edge_number_at g n (d - (node_at (message_graph g) n).first_incoming))

    slot_w : get_or w (slots_place at nodes + d) 0 ≡ edge_number_at g n i
    slot_w =
        ap (λ (k : ℕ). get_or w (slots_place at k + d) 0) en ∙ ap (λ (k : ℕ). get_or w (slots_place at (length g.nodes) + k) 0) (sym i-at) ∙ slot_word w at labels g R n i there i_lt

    edge-lt : edge_number_at g n i < length g.edges
    edge-lt = (C.position n i there i_lt).edge-there

    abbrev edge : ℕ
    edge = edge_place w at nodes edges d

    edge-w : (j : ℕ) → j < 5 → get_or w (edge + j) 0 ≡ get_or (edge_words x) j 0
    edge-w j h =
        ap (λ (k : ℕ). get_or w k 0)
        (let z : edge + j ≡ edges_place at (length g.nodes) (length g.edges) + (5 * edge_number_at g n i + j) = omega (arith, slot_w) in z)
        ∙ edge_word w at labels g R (edge_number_at g n i) j edge-lt h

    edge-one : get_or w edge 0 ≡ x.node1
    edge-one = ap (λ (k : ℕ). get_or w k 0) (let z : edge ≡ edge + 0 = omega arith in z) ∙ edge-w 0 (omega arith)

    is-d : direction_at t d ≡ direction_to n x
    is-d = ap (λ (k : ℕ). direction_at t k) (sym i-at) ∙ in_inward g n there i i_lt

    far_is : far_node w edge n ≡ (direction_at t d).start
    far_is =
        ap (λ (k : ℕ). cond (eqb k n) (get_or w (edge + 1) 0) k) edge-one ∙ ap (λ (k : ℕ). cond (eqb x.node1 n) k x.node1) (edge-w 1 (omega arith))
        ∙ sym (start_of n x) ∙ ap (λ (v : Direction). v.start) (sym is-d)

    place_is : place_in_far w edge n ≡ (direction_at t d).end_in_start
    place_is =
        ap (λ (k : ℕ). cond (eqb k n) (get_or w (edge + 3) 0) (get_or w (edge + 2) 0)) edge-one
        ∙ ap (λ (k : ℕ). cond (eqb x.node1 n) k (get_or w (edge + 2) 0)) (edge-w 3 (omega arith))
        ∙ ap (λ (k : ℕ). cond (eqb x.node1 n) x.node1_in_node2 k) (edge-w 2 (omega arith))
        ∙ sym (place_of n x) ∙ ap (λ (v : Direction). v.end_in_start) (sym is-d)

    long-is : get_or w (edge + 4) 0 ≡ long_at ds d
    long-is = edge-w 4 (omega arith) ∙ sym (C.position n i there i_lt).in_long ∙ ap (λ (k : ℕ). (direction_at t k).message_length) i-at

    start-lt : (direction_at t d).start < nodes
    start-lt = omega (arith, rows.start d below, rows.start-lt d below, message_nodes_count g)

    back_is : back_word w at nodes edge n ≡ fo d
    back_is =
        ap (λ (k : ℕ). get_or w (firsts_place at nodes + k) 0 + place_in_far w edge n) far_is
        ∙ ap (λ (k : ℕ). get_or w (firsts_place at nodes + (direction_at t d).start) 0 + k) place_is
        ∙ ap (λ (k : ℕ). k + (direction_at t d).end_in_start) (first-w (direction_at t d).start (omega (arith, start-lt)))
        ∙ rows.back_is d below

    offset-w : get_or w (out + 4 * edges + d) 0 ≡ offset_at ds d
    offset-w = ap (λ (k : ℕ). get_or w k 0) (let z : out + 4 * edges + d ≡ out + 2 * D + d = omega (arith, C.directions) in z) ∙ filled-offset below

    -- the step may be done
    pub filled-fits : width ds < 4294967296 → 2 * edges < 4294967296 → StepFits w at nodes edges out n d
    filled-fits narrow few =
        record {
          behind = omega (arith, Fl.behind);
          room = omega (arith, Fl.room, filled-long);
          direction = omega (arith, below, C.directions);
          edge = omega (arith, slot_w, edge-lt);
          start = omega (arith, far_is, start-lt);
          back = omega (arith, back_is, rows.out-lt d below, C.directions);
          next = omega (arith, offset-w, long-is, offset_room ds d below);
        }

    -- and leaves one direction more
    pub filled_next : Filled base at out labels g (d + 1) (direction_step at nodes edges out n d w)
    unfolding direction_step rows_to
    filled_next =
        record {
          recorded = Fl.recorded;
          behind = Fl.behind;
          room = Fl.room;
          filled =
              ap (λ (k : ℕ). set (set (set w (out + d) k) (out + 2 * edges + d) (back_word w at nodes edge n)) (out + 4 * edges + d + 1) (get_or w (out + 4 * edges + d) 0 + get_or w (edge + 4) 0)) (far_is ∙ sym (rows.start d below))
              ∙ ap (λ (k : ℕ). set (set (set w (out + d) (fs d)) (out + 2 * edges + d) k) (out + 4 * edges + d + 1) (get_or w (out + 4 * edges + d) 0 + get_or w (edge + 4) 0)) back_is
              ∙ ap (λ (k : ℕ). set (set (set w (out + d) (fs d)) (out + 2 * edges + d) (fo d)) (out + 4 * edges + d + 1) k)
              (let z : get_or w (out + 4 * edges + d) 0 + get_or w (edge + 4) 0 ≡ ff (d + 1) = omega (arith, offset-w, long-is, offset-next ds d below) in z)
              ∙ ap (λ (k : ℕ). set (set (set w (out + d) (fs d)) k (fo d)) (out + 4 * edges + d + 1) (ff (d + 1))) (let z : out + 2 * edges + d ≡ out + D + d = omega (arith, C.directions) in z)
              ∙ ap (λ (k : ℕ). set (set (set w (out + d) (fs d)) (out + D + d) (fo d)) k (ff (d + 1))) (let z : out + 4 * edges + d + 1 ≡ out + 2 * D + (d + 1) = omega (arith, C.directions) in z)
              ∙ three-next base out (out + D) (out + 2 * D) fs fo ff D d (omega arith) (omega arith) below w Fl.filled;
        }

-- before the first direction: the first message begins at 0
pub filled_none : (base : List ℕ) (at out : ℕ) (labels : List ℕ) (g : Subgraph) (edges : ℕ) → Recorded base at labels g → edges ≡ length g.edges
    → record_end at (length g.nodes) (length g.edges) ≤ out → out + (6 * length g.edges + 1) ≤ length base → Filled base at out labels g 0 (set base (out + 4 * edges) 0)
unfolding rows_to
filled_none base at out labels g edges R ee behind room =
    let t = message_graph g in
    let D = length t.directions in
    record {
      recorded = R;
      behind = behind;
      room = room;
      filled =
          ap (λ (k : ℕ). set base k 0) (let z : out + 4 * edges ≡ out + 2 * D = omega (arith, R.consistent.directions) in z)
          ∙ ap (λ (k : ℕ). set base (out + 2 * D) k) (sym (offset-zero t.directions))
          ∙ three-none base out (out + D) (out + 2 * D) (λ i. get_or (starts_of t) i 0) (λ i. get_or (outs_of t) i 0) (λ i. offset_at t.directions i);
    }

-- after the last one the rows stand there whole
pub filled-all : (base : List ℕ) (at out : ℕ) (labels : List ℕ) (g : Subgraph) (d : ℕ) (w : List ℕ) → Filled base at out labels g d w → d ≡ length (message_graph g).directions → w ≡ put base out (direction_rows (message_graph g))
filled-all base at out labels g d w F e =
    F.filled ∙ ap (rows_to base out (message_graph g)) e ∙ rows_all base out (message_graph g) (in_order g) (omega (arith, F.room, F.recorded.consistent.directions))

-- ---- what the functions ask of the words

-- some graph's record is there, with the rows of its first d directions
pub record SomeFilled (w : List ℕ) (at nodes edges out d : ℕ) : Type 0 where
  pub base : List ℕ
  pub labels : List ℕ
  pub graph : Subgraph
  pub filled : Filled base at out labels graph d w
  pub nodes_are : nodes ≡ get_or w at 0
  pub edges_are : edges ≡ get_or w (at + 1) 0
  pub narrow : width (message_graph graph).directions < 4294967296
  pub few : 2 * edges < 4294967296

-- Some graph's record is there, its rows have room behind it, and a message set's floats and the directions can be counted in a word.
pub record Ready (w : List ℕ) (at out : ℕ) : Type 0 where
  pub labels : List ℕ
  pub graph : Subgraph
  pub recorded : Recorded w at labels graph
  pub behind : record_end at (length graph.nodes) (length graph.edges) ≤ out
  pub room : out + (6 * length graph.edges + 1) ≤ length w
  pub narrow : width (message_graph graph).directions < 4294967296
  pub few : 2 * length graph.edges < 4294967296
