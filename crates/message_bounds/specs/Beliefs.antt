-- Each entry of each belief that an accepted call answers is a value between 0 and 1.
use Rattle.std.specs.Prelude.{◌≡◌, refl, ℕ, suc, ◌≤◌, T, pos, length, Float}
use Rattle.std.proofs.Common.{sym, subst, arith}
use Rattle.std.proofs.Math.Bool.{true, false}
use mathlib.Core.List.{List, [], ◌∷◌, map}
use Rattle.std.specs.Float.{fin, binary32}
use Rattle.std.specs.Float.Ieee.{fits, le, neg, of_int}
use Rattle.std.specs.Float.Ieee.Scale.{finite}
use Rattle.float_laws.specs.Laws.{zeroᶠ, oneᶠ}
use Rattle.float_laws.specs.Interval.{In, in_finite, add-test, add_in}
use Rattle.float_laws.specs.Sums.{minus32, of_nat}
use Rattle.definition.specs.Vectors.{Message, entry, sum_of}
use Rattle.definition.specs.Settings.{Settings}
use Rattle.definition.specs.FactorGraph.{Bale, Node, grade_node, factor_node, input_node, tree_node, eq_node, Edge, built_graph, Kind, grade, kind_of}
use Rattle.definition.specs.Components.{Subgraph, subgraph_node, subgraph, subgraph_of, component_edges}
use Rattle.definition.specs.Directions.{MessageNode, MessageGraph, message_nodes_from, firsts_incoming, message_graph, message_graph_of, messages_in}
use Rattle.definition.specs.Messages.{initial_belief}
use Rattle.definition.specs.Run.{State, Event, opened, state_after, begin_loop, opening_and_sweeps, events}
use Rattle.definition.specs.Sweeps.{opening}
use Rattle.definition.specs.Answer.{Belief, log_marginal, marginal, beliefs_among, part_answer, answer}
use Rattle.definition.specs.Refusals.{Buffers, accepted, verdict}
use Rattle.graph_laws.specs.Lists.{All}
use Rattle.graph_laws.specs.Events.{run-events}
use Rattle.graph_laws.specs.Sending.{Goods, MessageNodeKept, MessageGraphKept, messages_in_in_force}
use Rattle.claims.specs.Parts.{AcceptedPart}
use Rattle.graph_laws.specs.Structure.{part_graph_kept}
use Rattle.message_bounds.specs.Bounded.{BoundedEntries, InRange, prior_bounded}
use Rattle.message_bounds.specs.Variable.{shares, ln_wide, entry-fits, all_in}
use Rattle.claims.specs.Parts.{SettingsFit, EvidenceFits, AllEvidence}
use Rattle.message_bounds.specs.Accepted.{settings_in_range, evidence_bounded}
use Rattle.message_bounds.specs.Sending.{keeps}
use Rattle.message_bounds.specs.Bounds.{all_of}
use Rattle.message_bounds.specs.Answers.{in_answer}

-- ---- a value between 0 and 1 that binary32 holds
pub record UnitValue (x : Float) : Type 0 where
  pub holds : T (fits binary32 x)
  pub inside : In zeroᶠ oneᶠ x

pub unit_finite : (x : Float) → UnitValue x → T (finite x)
unit_finite x h = in_finite h.inside tt

-- ---- a belief of what is held: the two sums of logarithms are finite
log_finite : (k : ℕ) (b : Message) (ms : List Message) → length ms ≤ 1024 → BoundedEntries b → Goods BoundedEntries ms → T (finite (log_marginal k b ms))
unfolding log_marginal sum_of
log_finite k b ms h g w =
    let z : In (minus32 0) (of_nat 0) zeroᶠ = record { low = unfold le neg of_int in tt; high = unfold le of_int in tt } in
    in_finite (add_in (fin true 200000 (pos 0)) (fin false 200000 (pos 0)) (ln_wide (entry k b) (entry-fits k b g)) (all_in k 0 zeroᶠ ms (omega arith) z w) (unfold add-test neg of_int in tt)) tt

pub belief_in_unit : (b : Message) (ms : List Message) → length ms ≤ 1024 → BoundedEntries b → Goods BoundedEntries ms → All UnitValue (marginal b ms)
unfolding marginal
belief_in_unit b ms h g w =
    shares (log_marginal 0 b ms) (log_marginal 1 b ms) (log_finite 0 b ms h g w) (log_finite 1 b ms h g w) (All UnitValue)
    (λ x y t i u j. (record { holds = t; inside = i }, (record { holds = u; inside = j }, tt)))

-- ---- the nodes of a message graph are of its nodes' kinds
abbrev Matched : Bale → List Node → List MessageNode → Type 0
Matched b [] xs = Unit {0}
Matched b (n ∷ ns) [] = Unit {0}
Matched b (n ∷ ns) (x ∷ xs) = (x.kind ≡ kind_of b n) × Matched b ns xs

matched_from : (b : Bale) (g : Subgraph) (fs : List ℕ) (n : ℕ) (es ls : List (Edge Node)) (ns : List Node) → Matched b ns (message_nodes_from g fs n (map (subgraph_node eq_node (kind_of b) es ls) ns))
unfolding message_nodes_from
matched_from b g fs n es ls [] = tt
matched_from b g fs n es ls (v ∷ ns) = (refl, matched_from b g fs (suc n) es ls ns)

matched : (b : Bale) (p : List Node) → Matched b p (message_graph_of b p).nodes
unfolding message_graph_of message_graph subgraph_of subgraph
matched b p = matched_from b (subgraph_of b p) (firsts_incoming 0 (subgraph_of b p).nodes) 0 (built_graph b).edges (component_edges eq_node (built_graph b).edges p) p

-- ---- the beliefs of a part
abbrev pub UnitValues : Belief → Type 0
UnitValues x = All UnitValue x.value

module _ (s : Settings) (b : Bale) (r : InRange s) (t : MessageGraph) (N : MessageGraphKept BoundedEntries s t) (es : List Event) (y : State) where
  abbrev now : List Message
  now = (state_after s t (opened ∷ es) y).store.msg_in

  beliefs_in_lem : (ns : List Node) (xs : List MessageNode) → Matched b ns xs → All (λ x. MessageNodeKept BoundedEntries t s x.kind x) xs → All UnitValues (beliefs_among s now ns xs)
  unfolding beliefs_among
  beliefs_in_lem [] xs m k = tt
  beliefs_in_lem (grade_node g ∷ ns) [] m k = tt
  beliefs_in_lem (factor_node g ∷ ns) [] m k = tt
  beliefs_in_lem (input_node g ∷ ns) [] m k = tt
  beliefs_in_lem (tree_node g ∷ ns) [] m k = tt
  beliefs_in_lem (grade_node g ∷ ns) (x ∷ xs) m k =
      let h = messages_in_in_force BoundedEntries s t (keeps s r) N es y x (subst (λ (z : Kind). MessageNodeKept BoundedEntries t s z x) m.0 k.0) in
      (belief_in_unit (initial_belief s grade) (messages_in x now) h.0 (prior_bounded s r) h.1, beliefs_in_lem ns xs m.1 k.1)
  beliefs_in_lem (factor_node g ∷ ns) (x ∷ xs) m k = beliefs_in_lem ns xs m.1 k.1
  beliefs_in_lem (input_node g ∷ ns) (x ∷ xs) m k = beliefs_in_lem ns xs m.1 k.1
  beliefs_in_lem (tree_node g ∷ ns) (x ∷ xs) m k = beliefs_in_lem ns xs m.1 k.1

-- ---- the whole
part-beliefs : (s : Settings) (f : Buffers) (b : Bale) → SettingsFit s → AllEvidence EvidenceFits b.markers → (n : ℕ) (p : List Node) → AcceptedPart s f b n p → All UnitValues (part_answer s n p (message_graph_of b p)).beliefs
unfolding part_answer events opening_and_sweeps
part-beliefs s f b t e n p h =
    let w = message_graph_of b p in
    let r = settings_in_range s f b h.accepts t in
    let N : MessageGraphKept BoundedEntries s w = part_graph_kept BoundedEntries s f b n p h (all_of _ b.markers (evidence_bounded s f b h.accepts e)) in
    let x₀ = begin_loop s w (opening s w) in
    subst (λ (x : State). All UnitValues (beliefs_among s x.store.msg_in p w.nodes)) (sym (run-events s w x₀))
    (beliefs_in_lem s b r w N _ x₀ p w.nodes (matched b p) N.nodes)

-- Each entry of each belief of the answer to an accepted call whose floats are binary32 values lies between 0 and 1, and it is a binary32 value.
pub beliefs_in_unit : (s : Settings) (f : Buffers) (b : Bale) → verdict s f b ≡ accepted → SettingsFit s → AllEvidence EvidenceFits b.markers → All (λ q. All UnitValues q.beliefs) (answer s b)
beliefs_in_unit s f b A t e = in_answer (λ q. All UnitValues q.beliefs) s f b (part-beliefs s f b t e) A
