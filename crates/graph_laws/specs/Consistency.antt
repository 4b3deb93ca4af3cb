-- In the message graph of each part of an accepted bale 'ends at' and 'sends by' are each other's inverse, and no look-up by number reaches a default: node by node,
-- position by position, direction by direction and edge by edge.
use Rattle.std.specs.Prelude.{◌≡◌, refl, Bool, true, false, cond, not, List, [], ◌∷◌, map, ℕ, ◌+◌, ◌-◌, ◌*◌, ◌≤◌, ◌<◌, length, get_or, T, eqb, ltb}
use Rattle.std.proofs.Common.{sym, ap, ◌∙◌, subst, true≢false, arith, length-append, ltb→lt, nltb→le}
use Rattle.std.proofs.Math.ListN.{length-map}
use Rattle.graph_laws.specs.Bools.{not-true, or_left, or_right, and_left, and_right}
use Rattle.definition.specs.Lists.{filter, concat, mem, index_of}
use Rattle.definition.specs.Settings.{Settings}
use Rattle.definition.specs.FactorGraph.{Bale, Node, eq_node, Edge, eq_edge, built_graph, marker_numbers, grades_of, marker_edges, built_edges, Kind, kind_of, eq_pair}
use Rattle.definition.specs.Components.{Subgraph, SubgraphNode, SubgraphEdge, is_incident, other_end, incident_edges, component_edges, subgraph_node, subgraph_edge, subgraph, subgraph_of}
use Rattle.definition.specs.Directions.{Direction, MessageNode, MessageGraph, no_edge, edge_at, message_graph, message_graph_of, node_at, direction_at}
use Rattle.definition.specs.Refusals.{Buffers}
use Rattle.graph_laws.specs.Lists.{All, All-in, All-at, All-every}
use Rattle.graph_laws.specs.Ranks.{NoDup, index_lt, index_inj, get_d_map_index, mem-filter, filter_nodup, All-concat-into}
use Rattle.graph_laws.specs.Components.{Both, Holds}
use Rattle.graph_laws.specs.Partition.{part_nodup}
use Rattle.graph_laws.specs.Positions.{eq_edge_sound, eq_edge-same, add_all_new_nodup, visited_good}
use Rattle.graph_laws.specs.Names.{eq_node_sound, eq_node-same, Valid, built-inside}
use Rattle.graph_laws.specs.Locality.{Part}
use Rattle.graph_laws.specs.Distinct.{edges_nodup}
use Rattle.graph_laws.specs.Incident.{to_grade, of_grade, marker_edges-all}
use Rattle.graph_laws.specs.Accepted.{Passes, passes_all, valid, pairs_apart}
use Rattle.graph_laws.specs.LocalAnswer.{is-part}
use Rattle.claims.specs.Parts.{AcceptedPart, no_node, subgraph_node_at, degree_of, edge_number_at}
use Rattle.graph_laws.specs.Places.{At, not_first, at_place, no_longer, twice}
use Rattle.graph_laws.specs.ByNames.{add_all_new_has, mem-concat, off, out, dir, row, message_node_of, by_names, message_graph-by_names, touch, in_edges, at_other, other_end_holds, other_in, message_node_at, direction_at_lem, direction_out, inside}

-- ---- a part's graph and its message graph, read by number

-- the direction by which node n gets from its neighbour at position i, and the one by which it sends there
abbrev pub incoming_at : MessageGraph → ℕ → ℕ → ℕ
incoming_at t n i = (node_at t n).first_incoming + i

abbrev pub outgoing_at : MessageGraph → ℕ → ℕ → ℕ
outgoing_at t n i = get_or (node_at t n).outgoing i 0

-- x is w the other way round
pub record Reversed (w x : Direction) : Type 0 where
  pub start : x.start ≡ w.end
  pub end_in_start : x.end_in_start ≡ w.start_in_end
  pub end : x.end ≡ w.start
  pub start_in_end : x.start_in_end ≡ w.end_in_start
  pub message_length : x.message_length ≡ w.message_length

pub record NodeFits (g : Subgraph) (t : MessageGraph) (n : ℕ) : Type 0 where
  pub kind : (node_at t n).kind ≡ (subgraph_node_at g n).kind
  pub outgoing : length (node_at t n).outgoing ≡ degree_of g n
  pub room : (node_at t n).first_incoming + degree_of g n ≤ length t.directions

-- position i of node n
pub record PositionFits (g : Subgraph) (t : MessageGraph) (n i : ℕ) : Type 0 where
  pub in_there : incoming_at t n i < length t.directions
  pub in_end : (direction_at t (incoming_at t n i)).end ≡ n
  pub in_start_in_end : (direction_at t (incoming_at t n i)).start_in_end ≡ i
  pub in_long : (direction_at t (incoming_at t n i)).message_length ≡ (edge_at g (edge_number_at g n i)).message_length
  pub out-there : outgoing_at t n i < length t.directions
  pub out-start : (direction_at t (outgoing_at t n i)).start ≡ n
  pub out_end_in_start : (direction_at t (outgoing_at t n i)).end_in_start ≡ i
  pub reversed : Reversed (direction_at t (incoming_at t n i)) (direction_at t (outgoing_at t n i))
  pub edge-there : edge_number_at g n i < length g.edges

-- direction number d, which is w
pub record DirectionFits (g : Subgraph) (t : MessageGraph) (d : ℕ) (w : Direction) : Type 0 where
  pub start-there : w.start < length g.nodes
  pub end-there : w.end < length g.nodes
  pub end_in_start_there : w.end_in_start < degree_of g w.start
  pub start_in_end_there : w.start_in_end < degree_of g w.end
  pub is_in : incoming_at t w.end w.start_in_end ≡ d
  pub is-out : outgoing_at t w.start w.end_in_start ≡ d
  pub back-there : outgoing_at t w.end w.start_in_end < length t.directions
  pub back : Reversed w (direction_at t (outgoing_at t w.end w.start_in_end))

-- edge number k, which is x
pub record EdgeFits (g : Subgraph) (t : MessageGraph) (k : ℕ) (x : SubgraphEdge) : Type 0 where
  pub node1_there : x.node1 < length g.nodes
  pub node2_there : x.node2 < length g.nodes
  pub node2_in_node1_there : x.node2_in_node1 < degree_of g x.node1
  pub node1_in_node2_there : x.node1_in_node2 < degree_of g x.node2
  pub names_node1 : edge_number_at g x.node1 x.node2_in_node1 ≡ k
  pub names_node2 : edge_number_at g x.node2 x.node1_in_node2 ≡ k
  pub apart : eqb x.node1 x.node2 ≡ false
  pub to_node1 : direction_at t (incoming_at t x.node1 x.node2_in_node1) ≡ record { start = x.node2; end_in_start = x.node1_in_node2; end = x.node1; start_in_end = x.node2_in_node1; message_length = x.message_length }
  pub to_node2 : direction_at t (incoming_at t x.node2 x.node1_in_node2) ≡ record { start = x.node1; end_in_start = x.node2_in_node1; end = x.node2; start_in_end = x.node1_in_node2; message_length = x.message_length }

pub record Consistent (g : Subgraph) (t : MessageGraph) : Type 0 where
  pub nodes : length t.nodes ≡ length g.nodes
  pub directions : length t.directions ≡ 2 * length g.edges
  pub node : (n : ℕ) → n < length g.nodes → NodeFits g t n
  pub position : (n i : ℕ) → n < length g.nodes → i < degree_of g n → PositionFits g t n i
  pub direction : (d : ℕ) → d < length t.directions → DirectionFits g t d (direction_at t d)
  pub edge : (k : ℕ) → k < length g.edges → EdgeFits g t k (edge_at g k)

-- so no two positions send by the same direction
module _ (g : Subgraph) (t : MessageGraph) (C : Consistent g t) (n i m j : ℕ) (nl : n < length g.nodes) (il : i < degree_of g n) (ml : m < length g.nodes) (jl : j < degree_of g m) where
  pub out_once : outgoing_at t n i ≡ outgoing_at t m j → (n ≡ m) × (i ≡ j)
  out_once e = (
    sym (C.position n i nl il).out-start ∙ ap (λ (d : ℕ). (direction_at t d).start) e ∙ (C.position m j ml jl).out-start,
    sym (C.position n i nl il).out_end_in_start ∙ ap (λ (d : ℕ). (direction_at t d).end_in_start) e ∙ (C.position m j ml jl).out_end_in_start,
  )

-- ---- by names: a part that has both ends or neither of each edge, no node twice, no edge twice and no edge from a node to itself

module _ {A : Type 0} (eq : A → A → Bool) (sound : (a b : A) → eq a b ≡ true → a ≡ b) (same : (a : A) → eq a a ≡ true)
    (es : List (Edge A)) (p : List A) (both : All (Both eq p) es) (once : NoDup eq p) (kind : A → Kind)
    (single : NoDup (eq_edge eq) es) (straight : All (λ e. eq e.node1 e.node2 ≡ false) es) where
  abbrev E : Edge A → Edge A → Bool
  E = eq_edge eq

  E-sound : (e f : Edge A) → E e f ≡ true → e ≡ f
  E-sound = eq_edge_sound eq sound same

  E-same : (e : Edge A) → E e e ≡ true
  E-same = eq_edge-same eq sound same

  abbrev inc : A → List (Edge A)
  inc v = incident_edges eq es v

  abbrev In : A → Edge A → Type 0
  In v e = mem E e (inc v) ≡ true

  abbrev ls : List (Edge A)
  ls = component_edges eq es p

  abbrev L : Subgraph
  L = subgraph eq kind es p

  abbrev N : MessageGraph
  N = by_names eq sound same es p both once kind

  -- an edge of the part's list is in the lists of its ends, and an edge of a node's list is in the part's
  seen : (v : A) (e : Edge A) → Holds eq p v → In v e → mem E e ls ≡ true
  seen v e h m = add_all_new_has E E-sound E-same [] (concat (map (incident_edges eq es) p)) e (mem-concat E E-sound E-same eq sound (incident_edges eq es) v p e h m)

  in_list : (v : A) (e : Edge A) → mem E e es ≡ true → is_incident eq v e ≡ true → In v e
  in_list v e m t = mem-filter E E-sound E-same (is_incident eq v) e es ∙ rw (m, t)

  touch_one : (e : Edge A) → is_incident eq e.node1 e ≡ true
  touch_one e = or_left (eq e.node1 e.node1) (eq e.node1 e.node2) (same e.node1)

  touch_two : (e : Edge A) → is_incident eq e.node2 e ≡ true
  touch_two e = or_right (eq e.node2 e.node1) (eq e.node2 e.node2) (same e.node2)

  -- the other end
  other_one : (e : Edge A) → other_end eq e.node1 e ≡ e.node2
  other_one e = ap (λ (c : Bool). cond c e.node2 e.node1) (same e.node1)

  other_two : (e : Edge A) → mem E e es ≡ true → other_end eq e.node2 e ≡ e.node1
  other_two e m =
      ap (λ (c : Bool). cond c e.node2 e.node1)
      (not-true (eq e.node2 e.node1)
      (λ t. true≢false (sym (subst (λ (x : A). eq x e.node2 ≡ true) (sound e.node2 e.node1 t) (same e.node2)) ∙ All-at E E-sound (λ f. eq f.node1 f.node2 ≡ false) es straight e m)))

  there_and_back : (v : A) (e : Edge A) → In v e → other_end eq (other_end eq v e) e ≡ v
  there_and_back v e m =
      let i = in_edges eq sound same es p both once kind v e m in
      at_other eq sound same es p both once kind (λ w u. other_end eq w e ≡ u) v e (touch eq sound same es p both once kind v e m) (other_one e) (other_two e i)

  -- ---- the graph
  node-is : (v : A) → Holds eq p v → subgraph_node_at L (index_of eq v p) ≡ subgraph_node eq kind es ls v
  unfolding subgraph
  node-is v h = get_d_map_index eq sound same (subgraph_node eq kind es ls) no_node v p h

  degree-is : (v : A) → Holds eq p v → degree_of L (index_of eq v p) ≡ length (inc v)
  degree-is v h = ap (λ (x : SubgraphNode). length x.edges) (node-is v h) ∙ length-map (inc v) (λ e. index_of E e ls)

  node-lt : (v : A) → Holds eq p v → index_of eq v p < length L.nodes
  unfolding subgraph
  node-lt v h = rw (length-map p (subgraph_node eq kind es ls)) (index_lt eq sound same v p h)

  at_lt : (v : A) (e : Edge A) → Holds eq p v → In v e → index_of E e (inc v) < degree_of L (index_of eq v p)
  at_lt v e h m = subst (λ (k : ℕ). index_of E e (inc v) < k) (sym (degree-is v h)) (index_lt E E-sound E-same e (inc v) m)

  number_is : (v : A) (e : Edge A) → Holds eq p v → In v e → edge_number_at L (index_of eq v p) (index_of E e (inc v)) ≡ index_of E e ls
  number_is v e h m =
      ap (λ (x : SubgraphNode). get_or x.edges (index_of E e (inc v)) 0) (node-is v h) ∙ get_d_map_index E E-sound E-same (λ f. index_of E f ls) 0 e (inc v) m

  number_lt : (e : Edge A) → mem E e ls ≡ true → index_of E e ls < length L.edges
  unfolding subgraph
  number_lt e m = rw (length-map ls (subgraph_edge eq es p)) (index_lt E E-sound E-same e ls m)

  edge-is : (e : Edge A) → mem E e ls ≡ true → edge_at L (index_of E e ls) ≡ subgraph_edge eq es p e
  unfolding edge_at subgraph
  edge-is e m = get_d_map_index E E-sound E-same (subgraph_edge eq es p) no_edge e ls m

  -- ---- the message graph
  abbrev Dir : A → Edge A → Direction
  Dir v e = dir eq sound same es p both once kind v e

  abbrev Off : List A → A → ℕ
  Off q v = off eq sound same es p both once kind q v

  -- the direction that starts at v along e
  abbrev Back : A → Edge A → Direction
  Back v e = record { start = index_of eq v p; end_in_start = index_of E e (inc v); end = index_of eq (other_end eq v e) p; start_in_end = index_of E e (inc (other_end eq v e)); message_length = e.message_length }

  in_is : (v : A) (e : Edge A) → Holds eq p v → In v e → direction_at N (incoming_at N (index_of eq v p) (index_of E e (inc v))) ≡ Dir v e
  in_is v e h m =
      ap (λ (x : MessageNode). direction_at N (x.first_incoming + index_of E e (inc v))) (message_node_at eq sound same es p both once kind v h) ∙ direction_at_lem eq sound same es p both once kind v e h m

  out-is : (v : A) (e : Edge A) → Holds eq p v → In v e → outgoing_at N (index_of eq v p) (index_of E e (inc v)) ≡ out eq sound same es p both once kind v e
  out-is v e h m =
      ap (λ (x : MessageNode). get_or x.outgoing (index_of E e (inc v)) 0) (message_node_at eq sound same es p both once kind v h)
      ∙ get_d_map_index E E-sound E-same (out eq sound same es p both once kind v) 0 e (inc v) m

  outgoing_is : (v : A) (e : Edge A) → Holds eq p v → In v e → direction_at N (outgoing_at N (index_of eq v p) (index_of E e (inc v))) ≡ Back v e
  outgoing_is v e h m =
      ap (direction_at N) (out-is v e h m) ∙ direction_out eq sound same es p both once kind v e h m
      ∙ ap (λ (u : A). record { start = index_of eq u p; end_in_start = index_of E e (inc u); end = index_of eq (other_end eq v e) p; start_in_end = index_of E e (inc (other_end eq v e)); message_length = e.message_length }) (there_and_back v e m)

  in_lt : (v : A) (e : Edge A) → Holds eq p v → In v e → Off p v + index_of E e (inc v) < length N.directions
  in_lt v e h m = omega (arith, inside eq sound same es p both once kind v h, index_lt E E-sound E-same e (inc v) m)

  out-lt : (v : A) (e : Edge A) → Holds eq p v → In v e → outgoing_at N (index_of eq v p) (index_of E e (inc v)) < length N.directions
  out-lt v e h m =
      subst (λ (k : ℕ). k < length N.directions) (sym (out-is v e h m))
      (in_lt (other_end eq v e) e (other_end_holds eq sound same es p both once kind v e h m) (other_in eq sound same es p both once kind v e m))

  turned_dirs : (v : A) (e : Edge A) → Reversed (Dir v e) (Back v e)
  turned_dirs v e = record { start = refl; end_in_start = refl; end = refl; start_in_end = refl; message_length = refl }

  node-fits : (v : A) → Holds eq p v → NodeFits L N (index_of eq v p)
  node-fits v h =
      let s = message_node_at eq sound same es p both once kind v h in
      record {
        kind = ap (λ (x : MessageNode). x.kind) s ∙ sym (ap (λ (x : SubgraphNode). x.kind) (node-is v h));
        outgoing = ap (λ (x : MessageNode). length x.outgoing) s ∙ length-map (inc v) (out eq sound same es p both once kind v) ∙ sym (degree-is v h);
        room = omega (arith, inside eq sound same es p both once kind v h, degree-is v h, ap (λ (x : MessageNode). x.first_incoming) s);
      }

  place-fits : (v : A) (e : Edge A) → Holds eq p v → In v e → PositionFits L N (index_of eq v p) (index_of E e (inc v))
  place-fits v e h m =
      let a = in_is v e h m in
      let b = outgoing_is v e h m in
      record {
        in_there = subst (λ (x : MessageNode). x.first_incoming + index_of E e (inc v) < length N.directions) (sym (message_node_at eq sound same es p both once kind v h)) (in_lt v e h m);
        in_end = ap (λ (w : Direction). w.end) a;
        in_start_in_end = ap (λ (w : Direction). w.start_in_end) a;
        in_long = ap (λ (w : Direction). w.message_length) a ∙ sym (ap (λ (k : ℕ). (edge_at L k).message_length) (number_is v e h m) ∙ ap (λ (x : SubgraphEdge). x.message_length) (edge-is e (seen v e h m)));
        out-there = out-lt v e h m;
        out-start = ap (λ (w : Direction). w.start) b;
        out_end_in_start = ap (λ (w : Direction). w.end_in_start) b;
        reversed = subst (λ (w : Direction). Reversed w (direction_at N (outgoing_at N (index_of eq v p) (index_of E e (inc v))))) (sym a) (subst (Reversed (Dir v e)) (sym b) (turned_dirs v e));
        edge-there = subst (λ (k : ℕ). k < length L.edges) (sym (number_is v e h m)) (number_lt e (seen v e h m));
      }

  way-fits : (v : A) (e : Edge A) → Holds eq p v → In v e → DirectionFits L N (Off p v + index_of E e (inc v)) (Dir v e)
  way-fits v e h m =
      let k = other_end_holds eq sound same es p both once kind v e h m in
      let l = other_in eq sound same es p both once kind v e m in
      record {
        start-there = node-lt (other_end eq v e) k;
        end-there = node-lt v h;
        end_in_start_there = at_lt (other_end eq v e) e k l;
        start_in_end_there = at_lt v e h m;
        is_in = ap (λ (x : MessageNode). x.first_incoming + index_of E e (inc v)) (message_node_at eq sound same es p both once kind v h);
        is-out = out-is (other_end eq v e) e k l ∙ ap (λ (u : A). Off p u + index_of E e (inc u)) (there_and_back v e m);
        back-there = out-lt v e h m;
        back = subst (Reversed (Dir v e)) (sym (outgoing_is v e h m)) (turned_dirs v e);
      }

  edge-fits : (e : Edge A) → mem E e es ≡ true → mem E e ls ≡ true → Holds eq p e.node1 → Holds eq p e.node2 → EdgeFits L N (index_of E e ls) (subgraph_edge eq es p e)
  edge-fits e m s h k =
      let i = in_list e.node1 e m (touch_one e) in
      let j = in_list e.node2 e m (touch_two e) in
      record {
        node1_there = node-lt e.node1 h;
        node2_there = node-lt e.node2 k;
        node2_in_node1_there = at_lt e.node1 e h i;
        node1_in_node2_there = at_lt e.node2 e k j;
        names_node1 = number_is e.node1 e h i;
        names_node2 = number_is e.node2 e k j;
        apart = index_inj eq sound same e.node1 e.node2 p h k ∙ All-at E E-sound (λ f. eq f.node1 f.node2 ≡ false) es straight e m;
        to_node1 = in_is e.node1 e h i ∙ ap (λ (u : A). turn u e.node1) (other_one e);
        to_node2 = in_is e.node2 e k j ∙ ap (λ (u : A). turn u e.node2) (other_two e m);
      }
    where
      turn : A → A → Direction
      turn u v = record { start = index_of eq u p; end_in_start = index_of E e (inc u); end = index_of eq v p; start_in_end = index_of E e (inc v); message_length = e.message_length }

  -- ---- each direction is some node's, along an edge of its list
  record Reached (q : List A) (d : ℕ) : Type 0 where
    node : A
    edge : Edge A
    held : mem eq node q ≡ true
    listed : In node edge
    position : Off q node + index_of E edge (inc node) ≡ d

  abbrev rows : List A → List Direction
  rows q = concat (map (row eq sound same es p both once kind) q)

  rows-length : (x : A) (q : List A) → length (rows (x ∷ q)) ≡ length (inc x) + length (rows q)
  rows-length x q = length-append (row eq sound same es p both once kind x) (rows q) ∙ ap (λ (n : ℕ). n + length (rows q)) (length-map (inc x) (Dir x))

  inc_once : (v : A) → NoDup E (inc v)
  inc_once v = filter_nodup E E-sound E-same (is_incident eq v) es single

  reach : (q : List A) → NoDup eq q → (d : ℕ) → d < length (rows q) → Reached q d
  reach [] n d l = absurd (let z : ⊥ = omega arith in z)
  reach (x ∷ q) n d l = go (ltb d (length (inc x))) (λ t. ltb→lt d (length (inc x)) t) (λ t. nltb→le d (length (inc x)) t) (λ k. reach q n.1 (d - length (inc x)) k)
    where
      later : length (inc x) ≤ d → Reached q (d - length (inc x)) → Reached (x ∷ q) d
      later k b =
          record {
            node = b.node;
            edge = b.edge;
            held = or_right (eq b.node x) (mem eq b.node q) b.held;
            listed = b.listed;
            position =
                ap (λ (c : Bool). cond c 0 (length (inc x) + Off q b.node) + index_of E b.edge (inc b.node)) (not_first eq sound same b.node x q n.0 b.held)
                ∙ omega (arith, b.position);
          }

      go : (c : Bool) → (T c → d < length (inc x)) → (T (not c) → length (inc x) ≤ d) → (d - length (inc x) < length (rows q) → Reached q (d - length (inc x))) → Reached (x ∷ q) d
      go true f g r =
          let a = at_place E E-sound E-same (inc x) d (inc_once x) (f tt) in
          record {
            node = x;
            edge = a.thing;
            held = or_left (eq x x) (mem eq x q) (same x);
            listed = a.held;
            position = ap (λ (c : Bool). cond c 0 (length (inc x) + Off q x) + index_of E a.thing (inc x)) (same x) ∙ omega (arith, a.position);
          }
      go false f g r = later (g tt) (r (omega (arith, g tt, rows-length x q)))

  -- ---- two directions for each edge
  rows-lists : (q : List A) → length (rows q) ≡ length (concat (map (incident_edges eq es) q))
  rows-lists [] = refl
  rows-lists (x ∷ q) = rows-length x q ∙ omega (arith, rows-lists q, length-append (inc x) (concat (map (incident_edges eq es) q)))

  abbrev mine : Edge A → Bool
  mine e = mem eq e.node1 p

  good : (e : Edge A) → mem E e ls ≡ true → (mem E e es ≡ true) × (Holds eq p e.node1 × Holds eq p e.node2)
  good e m =
      All-at E E-sound (λ f. (mem E f es ≡ true) × (Holds eq p f.node1 × Holds eq p f.node2)) ls (visited_good eq sound same es p both) e m

  ls_once : NoDup E ls
  ls_once = add_all_new_nodup eq sound same [] (concat (map (incident_edges eq es) p)) tt

  visited_mine : All (λ e. mem E e (filter mine es) ≡ true) ls
  visited_mine =
      All-in E E-same (λ e. mem E e (filter mine es) ≡ true) ls (λ e m. mem-filter E E-sound E-same mine e es ∙ rw ((good e m).0, (good e m).1.0))

  mine_visited : All (λ e. mem E e ls ≡ true) (filter mine es)
  mine_visited =
      All-in E E-same (λ e. mem E e ls ≡ true) (filter mine es)
      (λ e m.
      let k = sym (mem-filter E E-sound E-same mine e es) ∙ m in
      seen e.node1 e (and_right (mem E e es) (mine e) k) (in_list e.node1 e (and_left (mem E e es) (mine e) k) (touch_one e)))

  edges_count : length L.edges ≡ length (filter mine es)
  unfolding subgraph
  edges_count =
      omega
      (arith, length-map ls (subgraph_edge eq es p), no_longer E E-sound E-same ls (filter mine es) ls_once visited_mine, no_longer E E-sound E-same (filter mine es) ls (filter_nodup E E-sound E-same mine es single) mine_visited)

  two_each : length N.directions ≡ 2 * length L.edges
  two_each = rows-lists p ∙ twice eq sound same p once es both straight ∙ ap (λ (n : ℕ). 2 * n) (sym edges_count)

  -- ---- by number
  nodes_count : length L.nodes ≡ length p
  unfolding subgraph
  nodes_count = length-map p (subgraph_node eq kind es ls)

  node_at_lem : (n : ℕ) → n < length L.nodes → At eq p n
  node_at_lem n l = at_place eq sound same p n once (omega (arith, nodes_count))

  edge-at : (k : ℕ) → k < length L.edges → At E ls k
  unfolding subgraph
  edge-at k l = at_place E E-sound E-same ls k ls_once (omega (arith, length-map ls (subgraph_edge eq es p)))

  by_place : (n i : ℕ) → n < length L.nodes → i < degree_of L n → PositionFits L N n i
  by_place n i l j =
      let a = node_at_lem n l in
      let d = subst (λ (k : ℕ). degree_of L k ≡ length (inc a.thing)) a.position (degree-is a.thing a.held) in
      let b = at_place E E-sound E-same (inc a.thing) i (inc_once a.thing) (omega (arith, d)) in
      subst (λ (k : ℕ). PositionFits L N k i) a.position (subst (PositionFits L N (index_of eq a.thing p)) b.position (place-fits a.thing b.thing a.held b.held))

  by_way : (d : ℕ) → d < length N.directions → DirectionFits L N d (direction_at N d)
  by_way d l =
      let r = reach p once d l in
      subst (λ (k : ℕ). DirectionFits L N k (direction_at N k)) r.position
      (subst (DirectionFits L N (Off p r.node + index_of E r.edge (inc r.node))) (sym (direction_at_lem eq sound same es p both once kind r.node r.edge r.held r.listed))
      (way-fits r.node r.edge r.held r.listed))

  by-edge : (k : ℕ) → k < length L.edges → EdgeFits L N k (edge_at L k)
  by-edge k l =
      let a = edge-at k l in
      let g = good a.thing a.held in
      subst (λ (j : ℕ). EdgeFits L N j (edge_at L j)) a.position
      (subst (EdgeFits L N (index_of E a.thing ls)) (sym (edge-is a.thing a.held)) (edge-fits a.thing g.0 a.held g.1.0 g.1.1))

  pub by_names_consistent : Consistent L (message_graph L)
  by_names_consistent =
      subst (Consistent L) (sym (message_graph-by_names eq sound same es p both once kind))
      (record {
        nodes = length-map p (message_node_of eq sound same es p both once kind) ∙ sym nodes_count;
        directions = two_each;
        node = (λ n l. let a = node_at_lem n l in subst (NodeFits L N) a.position (node-fits a.thing a.held));
        position = by_place;
        direction = by_way;
        edge = by-edge;
      })

-- ---- the message graph of every part of an accepted bale

-- no edge is built from a node to itself
built_straight : (b : Bale) → All (λ e. eq_node e.node1 e.node2 ≡ false) (built_edges b)
built_straight b =
    All-concat-into P (λ m. marker_edges m (grades_of b.pairs m)) (marker_numbers b)
    (All-every (λ m. All P (marker_edges m (grades_of b.pairs m)))
    (λ m.
    marker_edges-all P m (grades_of b.pairs m) (λ t. (refl, All-every (λ g. P (to_grade m g)) (λ g. refl) (grades_of b.pairs m)))
    (λ t. All-every (λ g. P (of_grade m g)) (λ g. refl) (grades_of b.pairs m)) refl)
    (marker_numbers b))
  where
    P : Edge Node → Type 0
    P e = eq_node e.node1 e.node2 ≡ false

-- of a part of a bale whose pairs are known and none of them given twice
pub part_consistent : (b : Bale) (ok : Valid b) → NoDup eq_pair b.pairs → (p : List Node) → Part b ok p → Consistent (subgraph_of b p) (message_graph_of b p)
unfolding message_graph_of subgraph_of built_graph
part_consistent b ok once p is =
    by_names_consistent eq_node eq_node_sound eq_node-same (built_edges b) p is.both
    (subst (NoDup eq_node) is.is (part_nodup eq_node eq_node_sound eq_node-same (built_graph b) (built-inside b ok) is.done is.root))
    (kind_of b) (edges_nodup b once) (built_straight b)

pub consistent : (s : Settings) (f : Buffers) (b : Bale) (n : ℕ) (p : List Node) → AcceptedPart s f b n p → Consistent (subgraph_of b p) (message_graph_of b p)
consistent s f b n p h =
    let P : Passes s f b = passes_all s f b h.accepts in
    part_consistent b (valid b P.known) (pairs_apart b P.once) p (is-part b (valid b P.known) n p h.stands)

-- the nodes of a part's graph are the part's
pub nodes_of : (b : Bale) (p : List Node) → length (subgraph_of b p).nodes ≡ length p
unfolding subgraph_of subgraph
nodes_of b p = length-map p (subgraph_node eq_node (kind_of b) (built_graph b).edges (component_edges eq_node (built_graph b).edges p))
