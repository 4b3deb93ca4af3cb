-- The rows of a component's message graph, slot by slot and node by node: what the functions that fill them need to go on, and what they leave.
use Rattle.std.specs.Prelude.{ℕ, ◌+◌, ◌*◌, ◌≤◌, ◌<◌, ◌≡◌, List, length, get_or, set}
use Rattle.std.proofs.Common.{arith, sym, ap, ◌∙◌, subst, get_or-set_other}
use Rattle.definition.specs.Components.{Subgraph}
use Rattle.definition.specs.Directions.{message_graph}
use Rattle.graph_laws.specs.DirectionNumbers.{message_nodes_count}
use Rattle.list_laws.specs.Put.{put}
use Rattle.messages.specs.Layout.{width, firsts_of}
use Rattle.messages.specs.LayoutOrder.{firsts-end, firsts_mono, in_order}
use Rattle.messages.specs.DirectionsRecord.{firsts_place, slots_place, edges_place, record_end, Recorded, node_count, edge_count, first_word}
use Rattle.messages.specs.DirectionsRows.{direction_rows}
use Rattle.messages.specs.Directions.{far_node, place_in_far, edge_place, back_word, direction_step, StepFits, Filled, filled-long, filled-recorded, filled-fits, filled_next, filled_none, filled-all, SomeFilled, Ready}

-- ---- the step, from what is read one after the other

module _ (w : List ℕ) (at nodes edges out n d slot far place : ℕ) (es : slot ≡ get_or w (slots_place at nodes + d) 0) (ef : far ≡ far_node w (edges_place at nodes edges + 5 * slot) n)
    (ep : place ≡ place_in_far w (edges_place at nodes edges + 5 * slot) n) where
  read_far : far ≡ far_node w (edge_place w at nodes edges d) n
  read_far = ef ∙ ap (λ (k : ℕ). far_node w (edges_place at nodes edges + 5 * k) n) es

  read_back_lem : get_or w (firsts_place at nodes + far) 0 + place ≡ back_word w at nodes (edge_place w at nodes edges d) n
  read_back_lem =
      ap (λ (k : ℕ). get_or w (firsts_place at nodes + k) 0 + place) read_far
      ∙ ap (λ (k : ℕ). get_or w (firsts_place at nodes + far_node w (edge_place w at nodes edges d) n) 0 + k) (ep ∙ ap (λ (k : ℕ). place_in_far w (edges_place at nodes edges + 5 * k) n) es)

  read_next : get_or w (out + 4 * edges + d) 0 + get_or w (edges_place at nodes edges + 5 * slot + 4) 0 ≡ get_or w (out + 4 * edges + d) 0 + get_or w (edge_place w at nodes edges d + 4) 0
  read_next = ap (λ (k : ℕ). get_or w (out + 4 * edges + d) 0 + get_or w (edges_place at nodes edges + 5 * k + 4) 0) es

  pub step_is :
      set (set (set w (out + d) far) (out + 2 * edges + d) (get_or w (firsts_place at nodes + far) 0 + place)) (out + 4 * edges + d + 1) (get_or w (out + 4 * edges + d) 0 + get_or w (edges_place at nodes edges + 5 * slot + 4) 0)
      ≡ direction_step at nodes edges out n d w
  unfolding direction_step
  step_is = cc (read_far, read_back_lem, read_next)

-- ---- the slots of one node: w₀ are the words before the first of them

module _ (base : List ℕ) (at out : ℕ) (labels : List ℕ) (g : Subgraph) (d₀ : ℕ) (w₀ : List ℕ) (F₀ : Filled base at out labels g d₀ w₀) (nodes edges : ℕ) (nodes_are : nodes ≡ get_or w₀ at 0) (edges_are : edges ≡ get_or w₀ (at + 1) 0) where
  pub turn-nodes : nodes ≡ length g.nodes
  turn-nodes = nodes_are ∙ node_count w₀ at labels g (filled-recorded base at out labels g d₀ w₀ F₀)

  pub turn-edges : edges ≡ length g.edges
  turn-edges = edges_are ∙ edge_count w₀ at labels g (filled-recorded base at out labels g d₀ w₀ F₀)

  pub turn-behind : record_end at nodes edges ≤ out
  turn-behind = omega (arith, turn-nodes, turn-edges, F₀.behind)

  pub turn_room : out + (6 * edges + 1) ≤ length w₀
  turn_room = omega (arith, turn-edges, F₀.room, filled-long base at out labels g d₀ w₀ F₀)

  pub turn-first : (n : ℕ) → n ≤ nodes → get_or w₀ (firsts_place at nodes + n) 0 ≡ get_or (firsts_of (message_graph g)) n 0
  turn-first n h =
      ap (λ (k : ℕ). get_or w₀ (firsts_place at k + n) 0) turn-nodes ∙ first_word w₀ at labels g (filled-recorded base at out labels g d₀ w₀ F₀) n (omega (arith, turn-nodes))

  -- a node's slots end where the next one's begin, and no earlier than they begin
  pub turn_end : (n : ℕ) → n < nodes → get_or w₀ (firsts_place at nodes + n + 1) 0 ≡ get_or (firsts_of (message_graph g)) (n + 1) 0
  turn_end n h = ap (λ (k : ℕ). get_or w₀ k 0) (let z : firsts_place at nodes + n + 1 ≡ firsts_place at nodes + (n + 1) = omega arith in z) ∙ turn-first (n + 1) (omega arith)

  pub turn_mono : (n : ℕ) → n < nodes → get_or w₀ (firsts_place at nodes + n) 0 ≤ get_or w₀ (firsts_place at nodes + n + 1) 0
  turn_mono n h =
      omega (arith, turn-first n (omega arith), turn_end n h, firsts_mono (message_graph g) (in_order g) n (n + 1) (omega arith) (omega (arith, turn-nodes, message_nodes_count g)))

  module _ (d : ℕ) (w : List ℕ) (Fl : Filled base at out labels g d w) (n : ℕ) (l : n < nodes) (from : get_or w₀ (firsts_place at nodes + n) 0 ≤ d) (to : d < get_or w₀ (firsts_place at nodes + n + 1) 0) where
    now-first : (m : ℕ) → m ≤ nodes → get_or w (firsts_place at nodes + m) 0 ≡ get_or w₀ (firsts_place at nodes + m) 0
    now-first m h =
        ap (λ (k : ℕ). get_or w (firsts_place at k + m) 0) turn-nodes ∙ first_word w at labels g (filled-recorded base at out labels g d w Fl) m (omega (arith, turn-nodes)) ∙ sym (turn-first m h)

    from-now : get_or w (firsts_place at nodes + n) 0 ≤ d
    from-now = omega (arith, now-first n (omega arith))

    to-now : d < get_or w (firsts_place at nodes + n + 1) 0
    to-now =
        let p : firsts_place at nodes + n + 1 ≡ firsts_place at nodes + (n + 1) = omega arith in
        omega (arith, ap (λ (k : ℕ). get_or w k 0) p, ap (λ (k : ℕ). get_or w₀ k 0) p, now-first (n + 1) (omega arith))

    pub turn-fits : width (message_graph g).directions < 4294967296 → 2 * edges < 4294967296 → StepFits w at nodes edges out n d
    turn-fits = filled-fits base at out labels g d w Fl nodes edges n turn-nodes turn-edges l from-now to-now

    pub turn-next : (v : List ℕ) → v ≡ direction_step at nodes edges out n d w → Filled base at out labels g (d + 1) v
    turn-next v e = subst (Filled base at out labels g (d + 1)) (sym e) (filled_next base at out labels g d w Fl nodes edges n turn-nodes turn-edges l from-now to-now)

-- ---- node by node: w₀ are the words before the first node, w those before node n

module _ (base : List ℕ) (at out : ℕ) (labels : List ℕ) (g : Subgraph) (w₀ : List ℕ) (F₀ : Filled base at out labels g 0 w₀) (nodes edges : ℕ) (nodes_are : nodes ≡ get_or w₀ at 0) (edges_are : edges ≡ get_or w₀ (at + 1) 0)
    (n : ℕ) (l : n < nodes) (w : List ℕ) (Fl : Filled base at out labels g (get_or (firsts_of (message_graph g)) n 0) w) where
  abbrev d₀ : ℕ
  d₀ = get_or (firsts_of (message_graph g)) n 0

  still_nodes : nodes ≡ get_or w at 0
  still_nodes = turn-nodes base at out labels g 0 w₀ F₀ nodes edges nodes_are edges_are ∙ sym (node_count w at labels g (filled-recorded base at out labels g d₀ w Fl))

  still_edges : edges ≡ get_or w (at + 1) 0
  still_edges = turn-edges base at out labels g 0 w₀ F₀ nodes edges nodes_are edges_are ∙ sym (edge_count w at labels g (filled-recorded base at out labels g d₀ w Fl))

  pub node-from : Filled base at out labels g (get_or w (firsts_place at nodes + n) 0) w
  node-from = subst (λ (k : ℕ). Filled base at out labels g k w) (sym (turn-first base at out labels g d₀ w Fl nodes edges still_nodes still_edges n (omega arith))) Fl

  pub node-held : width (message_graph g).directions < 4294967296 → 2 * edges < 4294967296 → SomeFilled w at nodes edges out (get_or w (firsts_place at nodes + n) 0)
  node-held narrow few = record { base = base; labels = labels; graph = g; filled = node-from; nodes_are = still_nodes; edges_are = still_edges; narrow = narrow; few = few }

  pub node-to : (v : List ℕ) → Filled base at out labels g (get_or w (firsts_place at nodes + n + 1) 0) v → Filled base at out labels g (get_or (firsts_of (message_graph g)) (n + 1) 0) v
  node-to v G = subst (λ (k : ℕ). Filled base at out labels g k v) (turn_end base at out labels g d₀ w Fl nodes edges still_nodes still_edges n l) G

-- ---- from the record alone to the rows whole

module _ (w : List ℕ) (at out : ℕ) (Y : Ready w at out) where
  abbrev nodes : ℕ
  nodes = get_or w at 0

  abbrev edges : ℕ
  edges = get_or w (at + 1) 0

  same_nodes : nodes ≡ length Y.graph.nodes
  same_nodes = node_count w at Y.labels Y.graph Y.recorded

  same_edges : edges ≡ length Y.graph.edges
  same_edges = edge_count w at Y.labels Y.graph Y.recorded

  pub ready_behind : record_end at nodes edges ≤ out
  ready_behind = omega (arith, same_nodes, same_edges, Y.behind)

  pub ready_room : out + (6 * edges + 1) ≤ length w
  ready_room = omega (arith, same_edges, Y.room)

  pub ready_few : 2 * edges < 4294967296
  ready_few = omega (arith, same_edges, Y.few)

  -- the first store leaves the counts
  pub ready_nodes : get_or (set w (out + 4 * edges) 0) at 0 ≡ nodes
  ready_nodes = get_or-set_other w (out + 4 * edges) at 0 0 (λ e. omega (arith, ready_behind))

  pub ready_edges : get_or (set w (out + 4 * edges) 0) (at + 1) 0 ≡ edges
  ready_edges = get_or-set_other w (out + 4 * edges) (at + 1) 0 0 (λ e. omega (arith, ready_behind))

  -- whichever graph it is that the record is of
  module _ (labels : List ℕ) (g : Subgraph) (R : Recorded w at labels g) where
    pub ready_filled : Filled w at out labels g 0 (set w (out + 4 * edges) 0)
    ready_filled =
        filled_none w at out labels g edges R (edge_count w at labels g R) (omega (arith, ready_behind, node_count w at labels g R, edge_count w at labels g R)) (omega (arith, ready_room, edge_count w at labels g R))

    pub ready_all : (v : List ℕ) (n : ℕ) → n ≡ nodes → Filled w at out labels g (get_or (firsts_of (message_graph g)) n 0) v → v ≡ put w out (direction_rows (message_graph g))
    ready_all v n e F =
        filled-all w at out labels g (get_or (firsts_of (message_graph g)) n 0) v F
        (ap (λ (k : ℕ). get_or (firsts_of (message_graph g)) k 0) (e ∙ node_count w at labels g R ∙ sym (message_nodes_count g)) ∙ firsts-end (message_graph g))
