-- A part of an accepted call has all that its run asks: its words, once its rows are laid, room in words and floats, and names for its nodes.
use Rattle.std.specs.Prelude.{◌≡◌, refl, ℕ, ◌+◌, ◌*◌, ◌≤◌, ◌<◌, Float, get_or}
use Rattle.std.proofs.Math.Path.{sym, ap, subst}
use Rattle.std.proofs.Common.{◌∙◌, arith}
use Rattle.std.proofs.Math.Logic.{⊎_elim}
use mathlib.Core.List.{List, map}
use Rattle.std.proofs.Math.ListN.{length, length-map}
use Rattle.definition.specs.Settings.{Settings}
use Rattle.definition.specs.FactorGraph.{Bale, Node, grade_node, factor_node, input_node, tree_node, eq_node, built_graph, is_grade, kind_of}
use Rattle.definition.specs.Components.{SubgraphNode, component_edges, subgraph_node, subgraph, subgraph_of}
use Rattle.definition.specs.Directions.{message_graph_of, node_at}
use Rattle.definition.specs.Refusals.{Buffers, bale_of, work_needed}
use Rattle.claims.specs.Parts.{AcceptedPart, no_node, subgraph_node_at}
use Rattle.graph_laws.specs.Lists.{All-every}
use Rattle.graph_laws.specs.Names.{Valid}
use Rattle.graph_laws.specs.Locality.{Part}
use Rattle.graph_laws.specs.Accepted.{Passes, passes_all, Sized, sized, valid}
use Rattle.graph_laws.specs.LocalAnswer.{is-part}
use Rattle.graph_laws.specs.Consistency.{Consistent, consistent, nodes_of}
use Rattle.graph_laws.specs.DirectionNumbers.{get_d_mapped, message_node_kind}
use Rattle.graph_laws.specs.Structure.{part_graph_kept}
use Rattle.graph_laws.specs.AnswerSizes.{message_graph-length}
use Rattle.factor_graph.specs.Words.{label}
use Rattle.priorities.specs.Leaves.{leaves_for, leaves_tight}
use Rattle.messages.specs.Layout.{width}
use Rattle.messages.specs.LayoutOrder.{in_order_of}
use Rattle.messages.specs.State.{HasEvidence}
use Rattle.messages.specs.DirectionsRecord.{node_count, edge_count}
use Rattle.messages.specs.DirectionsRead.{Laid, rows-laid}
use Rattle.zero_lookahead.specs.Part.{PartWords, queue_at, leaves_in, floats_needed}
use Rattle.part.specs.Named.{Named, is_grade_node}
use Rattle.part.specs.AcceptedFactor.{part_factors}
use Rattle.part.specs.AcceptedSizes.{PartSizes, part-sizes}
use Rattle.part.specs.AcceptedWords.{labels-recorded, part_inputs}

-- ---- a node's kind and its name

grades_named : (b : Bale) (v : Node) → is_grade (kind_of b v) ≡ is_grade_node v
grades_named b (grade_node g) = refl
grades_named b (factor_node m) = refl
grades_named b (input_node m) = refl
grades_named b (tree_node m) = refl

kind_at : (b : Bale) (p : List Node) (i : ℕ) → i < length p → (subgraph_node_at (subgraph_of b p) i).kind ≡ kind_of b (get_or p i (grade_node 0))
unfolding subgraph_of subgraph
kind_at b p i h =
    let es = (built_graph b).edges in
    ap (λ (x : SubgraphNode). x.kind) (get_d_mapped (subgraph_node eq_node (kind_of b) es (component_edges eq_node es p)) p i (grade_node 0) no_node h)

module _ (s : Settings) (f : Buffers) (b : Bale) (n : ℕ) (p : List Node) (h : AcceptedPart s f b n p) where
  pub part_named : Named (message_graph_of b p) p (map label p)
  unfolding message_graph_of
  part_named =
      record {
        long = sym (message_graph-length b p);
        labels_are = refl;
        kinds = λ i l. ap is_grade (message_node_kind (subgraph_of b p) i (omega (arith, nodes_of b p)) ∙ kind_at b p i l) ∙ grades_named b (get_or p i (grade_node 0));
      }

  abbrev checked : Passes s f b
  checked = passes_all s f b h.accepts

  abbrev ok : Valid b
  ok = valid b checked.known

  abbrev is : Part b ok p
  is = is-part b ok n p h.stands

  abbrev fits : Consistent (subgraph_of b p) (message_graph_of b p)
  fits = consistent s f b n p h

  abbrev E : ℕ
  E = length (subgraph_of b p).edges

  size : PartSizes b p
  size = part-sizes b ok p is

  bale-size : Sized b
  bale-size = sized b checked.sizes.0

  -- ---- of a part that is run: one of over 2 nodes
  module _ (large : 2 < length p) where
    pub part_floats_lem : floats_needed (message_graph_of b p) ≤ work_needed b
    unfolding work_needed
    part_floats_lem = omega (arith, size.directions, size.entries)

    pub part_narrow : width (message_graph_of b p).directions < 4294967296
    part_narrow = omega (arith, size.entries, bale-size.markers, bale-size.pairs)

    pub part_few : 2 * length (subgraph_of b p).edges < 4294967296
    part_few = omega (arith, fits.directions, size.directions, bale-size.markers, bale-size.pairs)

    -- behind the records of all components there is room for the part's rows, its flags and its queue
    pub part_room : (out : ℕ) → out ≤ 37 * (b.grades + length b.markers + length b.pairs) + 3
        → out + (6 * length (subgraph_of b p).edges + 1) + length (subgraph_of b p).nodes + 2 * leaves_for (2 * length (subgraph_of b p).edges) ≤ work_needed b
    unfolding work_needed
    part_room out l =
        let leaves : leaves_for (2 * E) ≤ 4 * E + 1 = ⊎_elim (λ e. omega arith) (λ e. omega arith) (leaves_tight (2 * E)) in
        omega (arith, fits.directions, size.directions, size.nodes, nodes_of b p)

    pub part-words : (evidence : List Float) (ps words : List ℕ) (out : ℕ) → b ≡ bale_of b.grades evidence ps → Laid words 0 out (map label p) (subgraph_of b p)
        → queue_at words out + 2 * leaves_in words ≤ length words → PartWords s (message_graph_of b p) out evidence words
    unfolding message_graph_of bale_of
    part-words evidence ps words out given L room =
        let t = message_graph_of b p in
        let labels = labels-recorded words (map label p) (subgraph_of b p) L.recorded in
        let nodes = node_count words 0 (map label p) (subgraph_of b p) L.recorded in
        let edges = edge_count words 0 (map label p) (subgraph_of b p) L.recorded in
        record {
          rows = record {
            rows = rows-laid words 0 out (map label p) (subgraph_of b p) L;
            subgraph = subgraph_of b p;
            consistent = fits;
            in_order = in_order_of b p;
            kept = part_graph_kept (λ m. Unit {0}) s f b n p h (All-every (λ e. Unit {0}) (λ e. tt) b.markers);
            factors = part_factors b ok p is large;
            labels-long = ap length labels ∙ length-map p label ∙ sym (message_graph-length b p);
            inputs =
                subst (λ (l : List ℕ). (i : ℕ) → i < length t.nodes → HasEvidence (node_at t i).kind (get_or l i 0) evidence) (sym labels)
                (part_inputs b ok p is evidence (ap (λ (x : Bale). x.markers) given));
          };
          nodes = nodes ∙ sym fits.nodes;
          edges = omega (arith, edges, fits.directions);
          few = omega (arith, edges, fits.directions, size.directions, bale-size.markers, bale-size.pairs);
          behind = rw (nodes, edges) L.behind;
          room = room;
        }
