-- The structural half of the bounds: the message graph of each part of an accepted bale is sound and kept, so that the bounds follow from what each way to make a message keeps.
use Rattle.std.specs.Prelude.{◌≡◌, refl, Bool, true, false, cond, not, ◌||◌, ◌&&◌, List, [], ◌∷◌, ◌++◌, map, ℕ, suc, ◌*◌, ◌≤◌, ◌<◌, ℤ, pos, negsuc, Float, length, T, eqb, leb, ltb}
use Rattle.std.proofs.Common.{sym, ap, ◌∙◌, true≢false, arith, leb→le, ltb→lt, lt→ltb, eqb→eq, pow_pos}
use Rattle.std.proofs.Math.Path.{subst}
use Rattle.std.proofs.lemmas.Bool.{false≢true}
use Rattle.std.specs.Float.{nan, inf, fin}
use Rattle.std.specs.Float.Ieee.{lt, eq, le, up, down}
use Rattle.std.proofs.lemmas.List.{length-map}
use Rattle.std.proofs.Math.Dec.{nleb→lt}
use Rattle.graph_laws.specs.Bools.{or_no, and_left, and_right, T-no, eqb_sound, eqb_same}
use Rattle.definition.specs.Lists.{mem}
use Rattle.definition.specs.Floats.{c, oneᶠ}
use Rattle.definition.specs.Vectors.{Message}
use Rattle.definition.specs.Settings.{Settings}
use Rattle.definition.specs.FactorGraph.{Bale, Evidence, Node, grade_node, factor_node, input_node, tree_node, eq_node, Edge, eq_edge, built_graph, marker_numbers, grades_of, has_tree, marker_edges, built_nodes, built_edges, Kind, input, no_evidence, kind_of, eq_pair}
use Rattle.definition.specs.Components.{is_incident, other_end, incident_edges, subgraph_of}
use Rattle.definition.specs.Directions.{message_graph_of, direction_at, message_at}
use Rattle.definition.specs.Messages.{initial_belief}
use Rattle.definition.specs.Run.{State, Event, opened, state_after}
use Rattle.definition.specs.Refusals.{Buffers, least_evidence, outside, bad_evidence}
use Rattle.graph_laws.specs.Lists.{All, All-in, All-at, All-mono, All-every, All-map-into, All-map-from}
use Rattle.graph_laws.specs.Ranks.{NoDup, upto-below, All-concat-into}
use Rattle.graph_laws.specs.Components.{Holds, Both}
use Rattle.graph_laws.specs.Partition.{part_nodup}
use Rattle.graph_laws.specs.Names.{eq_node_sound, eq_node-same, Valid, built-inside, node_input, node-tree}
use Rattle.graph_laws.specs.Locality.{Part, of_nodes}
use Rattle.graph_laws.specs.Positions.{eq_edge_sound}
use Rattle.graph_laws.specs.AloneChecks.{All-getD}
use Rattle.graph_laws.specs.MessageLengths.{Along, as_long}
use Rattle.graph_laws.specs.Sending.{Keeps, MessageGraphKept, good_in_force}
use Rattle.graph_laws.specs.Incident.{to_factor, to_grade, of_grade, of_input, marker_edges-all, factor_list, tree_list, input_list, grade_list}
use Rattle.graph_laws.specs.ByNames.{BinaryEdges, FactorFirstEdges, touch, in_edges, at_other, each_edge, NodeKept, EdgeKept, ListsKept, message_graph-by_names, by_names_kept}
use Rattle.graph_laws.specs.Accepted.{Passes, passes_all, valid, sized, pairs_apart, uncrowded}
use Rattle.graph_laws.specs.LocalAnswer.{is-part}
use Rattle.claims.specs.Parts.{AcceptedPart, Within}

-- ---- a list of grades with a tree, and without

has_tree-le : (gs : List ℕ) → has_tree gs ≡ true → 2 ≤ length gs
has_tree-le gs h = leb→le 2 (length gs) (subst T (sym h) tt)

single : (Q : ℕ → Type 0) (gs : List ℕ) → has_tree gs ≡ false → ((g : ℕ) → gs ≡ g ∷ [] → Q g) → All Q gs
single Q [] h f = tt
single Q (g ∷ []) h f = (f g refl, tt)
single Q (g ∷ k ∷ gs) h f = absurd (let z : ⊥ = omega (arith, nleb→lt 2 (length (g ∷ k ∷ gs)) (T-no (leb 2 (length (g ∷ k ∷ gs))) h)) in z)

module _ (Good : Message → Type 0) (s : Settings) (b : Bale) (ok : Valid b) (once : NoDup eq_pair b.pairs) (size : length b.markers ≤ 1024)
    (few : All (λ m. length (grades_of b.pairs m) ≤ 128) (marker_numbers b)) (evidence : All (λ e. Good (initial_belief s (input e))) b.markers) (p : List Node) (is : Part b ok p) where
  both : All (Both eq_node p) (built_edges b)
  unfolding built_graph
  both = is.both

  inside : All (λ e. Holds eq_node (built_graph b).nodes e.node1 × Holds eq_node (built_graph b).nodes e.node2) (built_graph b).edges
  unfolding built_graph
  inside = built-inside b ok

  apart : NoDup eq_node p
  apart = subst (NoDup eq_node) is.is (part_nodup eq_node eq_node_sound eq_node-same (built_graph b) inside is.done is.root)

  abbrev gs : ℕ → List ℕ
  gs m = grades_of b.pairs m

  abbrev inc : Node → List (Edge Node)
  inc v = incident_edges eq_node (built_edges b) v

  abbrev In : Node → Edge Node → Type 0
  In v e = mem (eq_edge eq_node) e (inc v) ≡ true

  is-node : (v : Node) → Holds eq_node p v → Holds eq_node (built_nodes b) v
  is-node v h = All-at eq_node eq_node_sound (Holds eq_node (built_nodes b)) p (of_nodes b ok p is) v h

  few_at : (m : ℕ) → mem eqb m (marker_numbers b) ≡ true → length (gs m) ≤ 128
  few_at m i = All-at eqb eqb_sound (λ k. length (gs k) ≤ 128) (marker_numbers b) few m i

  -- what holds of each edge, marker by marker, holds of an edge in a node's list
  each : (P : Edge Node → Type 0) → ((m : ℕ) → mem eqb m (marker_numbers b) ≡ true → All P (marker_edges m (gs m))) → (v : Node) (e : Edge Node) → In v e → P e
  each P f v e i =
      All-at (eq_edge eq_node) (eq_edge_sound eq_node eq_node_sound eq_node-same) P (built_edges b)
      (All-concat-into P (λ m. marker_edges m (gs m)) (marker_numbers b) (All-in eqb eqb_same (λ m. All P (marker_edges m (gs m))) (marker_numbers b) f)) e
      (in_edges eq_node eq_node_sound eq_node-same (built_edges b) p both apart (kind_of b) v e i)

  -- and where it holds both ways, of the other end and the node
  either : (R : Node → Node → Edge Node → Type 0) → ((m : ℕ) → mem eqb m (marker_numbers b) ≡ true → All (λ e. R e.node1 e.node2 e × R e.node2 e.node1 e) (marker_edges m (gs m)))
      → (v : Node) (e : Edge Node) → In v e → R (other_end eq_node v e) v e
  either R f v e i =
      let r = each (λ x. R x.node1 x.node2 x × R x.node2 x.node1 x) f v e i in
      at_other eq_node eq_node_sound eq_node-same (built_edges b) p both apart (kind_of b) (λ w u. R w u e) v e
      (touch eq_node eq_node_sound eq_node-same (built_edges b) p both apart (kind_of b) v e i) r.0 r.1

  wide : (v : Node) (e : Edge Node) → In v e → 2 ≤ e.message_length
  wide =
      each (λ e. 2 ≤ e.message_length)
      (λ m i.
      marker_edges-all (λ e. 2 ≤ e.message_length) m (gs m) (λ t. (omega (arith, has_tree-le (gs m) t), All-every (λ g. 2 ≤ 2) (λ g. omega arith) (gs m))) (λ t. All-every (λ g. 2 ≤ 2) (λ g. omega arith) (gs m))
      (omega arith))

  abbrev Ways : Node → Node → Edge Node → Type 0
  Ways w v e = Along (kind_of b w) (kind_of b v) e.message_length

  along : (v : Node) (e : Edge Node) → In v e → Ways (other_end eq_node v e) v e
  along =
      either Ways
      (λ m i.
      marker_edges-all (λ e. Ways e.node1 e.node2 e × Ways e.node2 e.node1 e) m (gs m)
      (λ t. ((tt, refl), All-every (λ g. Ways (tree_node m) (grade_node g) (to_grade m g) × Ways (grade_node g) (tree_node m) (to_grade m g)) (λ g. (tt, refl)) (gs m)))
      (λ t. single (λ g. Ways (grade_node g) (factor_node m) (of_grade m g) × Ways (factor_node m) (grade_node g) (of_grade m g)) (gs m) t (λ g o. (refl, sym (ap (λ (l : List ℕ). suc (length l)) o))))
      (refl, refl))

  abbrev Edges : Kind → Kind → Node → Edge Node → Type 0
  Edges k j w e = EdgeKept eq_node eq_node_sound eq_node-same (built_edges b) p both apart (kind_of b) Good s k j w e

  abbrev Kept : Node → Node → Edge Node → Type 0
  Kept w v e = Edges (kind_of b w) (kind_of b v) w e

  way : (v : Node) (e : Edge Node) → In v e → Kept (other_end eq_node v e) v e
  way =
      either Kept
      (λ m i.
      marker_edges-all (λ e. Kept e.node1 e.node2 e × Kept e.node2 e.node1 e) m (gs m)
      (λ t. (
        (tt, (omega (arith, few_at m i), (of_input m, (factor_list b m i ∙ ap (λ (x : Bool). cond x (to_factor m (length (gs m)) ∷ of_input m ∷ []) (map (λ g. of_grade m g) (gs m) ++ of_input m ∷ [])) t, refl)))),
        All-every (λ g. Kept (tree_node m) (grade_node g) (to_grade m g) × Kept (grade_node g) (tree_node m) (to_grade m g)) (λ g. (tt, tt)) (gs m),
      ))
      (λ t.
      single (λ g. Kept (grade_node g) (factor_node m) (of_grade m g) × Kept (factor_node m) (grade_node g) (of_grade m g)) (gs m) t
      (λ g o. (
        tt,
        (
          omega (arith, few_at m i),
          (
            of_input m,
            (
              factor_list b m i ∙ ap (λ (x : Bool). cond x (to_factor m (length (gs m)) ∷ of_input m ∷ []) (map (λ g. of_grade m g) (gs m) ++ of_input m ∷ [])) t
                  ∙ ap (λ (l : List ℕ). map (λ g. of_grade m g) l ++ of_input m ∷ []) o,
              refl,
            ),
          ),
        ),
      )))
      (tt, tt))

  -- ---- node by node
  grade-two : (g : ℕ) → All BinaryEdges (inc (grade_node g))
  grade-two g =
      each_edge eq_node eq_node_sound eq_node-same (built_edges b) p both apart (kind_of b) BinaryEdges (grade_node g)
      (λ e i.
      each (λ x. is_incident eq_node (grade_node g) x ≡ true → BinaryEdges x)
      (λ m j.
      marker_edges-all (λ x. is_incident eq_node (grade_node g) x ≡ true → BinaryEdges x) m (gs m)
      (λ t. ((λ h. absurd (false≢true h)), All-every (λ k. is_incident eq_node (grade_node g) (to_grade m k) ≡ true → BinaryEdges (to_grade m k)) (λ k h. refl) (gs m)))
      (λ t. All-every (λ k. is_incident eq_node (grade_node g) (of_grade m k) ≡ true → BinaryEdges (of_grade m k)) (λ k h. refl) (gs m)) (λ h. refl))
      (grade_node g) e i (touch eq_node eq_node_sound eq_node-same (built_edges b) p both apart (kind_of b) (grade_node g) e i))

  abbrev Nodes : Kind → Node → Type 0
  Nodes k v = NodeKept eq_node eq_node_sound eq_node-same (built_edges b) p both apart (kind_of b) Good s k v

  node : (v : Node) → Holds eq_node p v → Nodes (kind_of b v) v
  node (grade_node g) h = (omega (arith, grade_list b once g, size), grade-two g)
  node (factor_node m) h = tt
  node (input_node m) h =
      let i : mem eqb m (marker_numbers b) ≡ true = sym (node_input b m) ∙ is-node (input_node m) h in (
        subst (λ (l : List (Edge Node)). (length l ≤ 1024) × All BinaryEdges l) (sym (input_list b m i)) (omega arith, (refl, tt)),
        All-getD (λ e. Good (initial_belief s (input e))) b.markers evidence no_evidence m (All-at eqb eqb_sound (λ k. k < length b.markers) (marker_numbers b) (upto-below (length b.markers)) m i),
      )
  node (tree_node m) h =
      let n : (mem eqb m (marker_numbers b) && has_tree (gs m)) ≡ true = sym (node-tree b m) ∙ is-node (tree_node m) h in
      let i = and_left (mem eqb m (marker_numbers b)) (has_tree (gs m)) n in
      let k = and_right (mem eqb m (marker_numbers b)) (has_tree (gs m)) n in
      subst (λ (l : List (Edge Node)). (3 ≤ length l) × (length l ≤ 129) × FactorFirstEdges (length l) l) (sym (tree_list b m i k)) (
        omega (arith, has_tree-le (gs m) k, length-map (gs m) (λ g. to_grade m g)),
        omega (arith, few_at m i, length-map (gs m) (λ g. to_grade m g)),
        (ap suc (sym (length-map (gs m) (λ g. to_grade m g))), All-map-into BinaryEdges (λ g. to_grade m g) (gs m) (All-every (λ g. BinaryEdges (to_grade m g)) (λ g. refl) (gs m))),
      )

  lists : ListsKept eq_node eq_node_sound eq_node-same (built_edges b) p both apart (kind_of b) Good s
  lists = record { wide = (λ v e h i. wide v e i); along = (λ v e h i. along v e i); node = node; direction = (λ v e h i. way v e i) }

  -- the message graph of a part is sound and kept
  pub message_graph-kept : MessageGraphKept Good s (message_graph_of b p)
  unfolding message_graph_of subgraph_of built_graph
  message_graph-kept =
      subst (MessageGraphKept Good s) (sym (message_graph-by_names eq_node eq_node_sound eq_node-same (built_edges b) p both apart (kind_of b)))
      (by_names_kept eq_node eq_node_sound eq_node-same (built_edges b) p both apart (kind_of b) Good s lists)

-- ---- evidence is between 2 ^ -14 and 1, so between c and 1

down_pos : (d : ℤ) → 0 < down d
down_pos (pos k) = omega arith
down_pos (negsuc k) = pow_pos (suc k)

less_or_same : (a b : ℕ) → T (ltb a b || (eqb a b && true)) → a ≤ b
less_or_same a b h = go (ltb a b) (eqb a b) (λ t. ltb→lt a b t) (λ t. eqb→eq a b t) h
  where
    go : (x y : Bool) → (T x → a < b) → (T y → a ≡ b) → T (x || (y && true)) → a ≤ b
    go true y f g t = omega (arith, f tt)
    go false true f g t = omega (arith, g tt)
    go false false f g t = absurd t

T-left : (x y : Bool) → T x → T (x || y)
T-left true y h = tt
T-left false y h = absurd h

T-last : (x y : Bool) → T (x && y) → T y
T-last true y h = h
T-last false y h = absurd h

above-c : (D X : ℕ) → 0 < D → D ≤ X * 16384 → 332307 * D < X * 332306998946228968225951765070086144
above-c D X h k = omega arith

faint : (x : Float) → T (le least_evidence x) → T (le c x)
unfolding le lt eq
faint nan h = absurd h
faint (inf false) h = tt
faint (inf true) h = absurd h
faint (fin false n d) h =
    T-left (lt c (fin false n d)) (eq c (fin false n d)) (lt→ltb (332307 * down d) (n * up d * 332306998946228968225951765070086144) (above-c (down d) (n * up d) (down_pos d) (omega (arith, less_or_same (1 * down d) (n * up d * 16384) h))))
faint (fin true n d) h = absurd (let z : ⊥ = omega (arith, down_pos d, eqb→eq (1 * down d) 0 (T-last (eqb (1 * down d) (n * up d * 16384)) (eqb (1 * down d) 0) h)) in z)

not-outside : (x : Float) → outside least_evidence oneᶠ x ≡ false → T (le c x && le x oneᶠ)
unfolding outside
not-outside x h = go (le least_evidence x) (le x oneᶠ) (le c x) (faint x) h
  where
    go : (u v w : Bool) → (T u → T w) → not (u && v) ≡ false → T (w && v)
    go true true true f e = tt
    go true true false f e = f tt
    go true false w f e = absurd (true≢false e)
    go false v w f e = absurd (true≢false e)

good_evidence : (s : Settings) (e : Evidence) → bad_evidence e ≡ false → Within (initial_belief s (input e))
unfolding initial_belief bad_evidence
good_evidence s e h = let x = or_no (outside least_evidence oneᶠ e.absent) (outside least_evidence oneᶠ e.present) h in (not-outside e.absent x.0, (not-outside e.present x.1, tt))

-- ---- the message graph of every part of an accepted bale

-- for any way to be good that the evidence has
pub part_graph_kept : (Good : Message → Type 0) (s : Settings) (f : Buffers) (b : Bale) (n : ℕ) (p : List Node) → AcceptedPart s f b n p → All (λ e. Good (initial_belief s (input e))) b.markers
    → MessageGraphKept Good s (message_graph_of b p)
part_graph_kept Good s f b n p h g =
    let P : Passes s f b = passes_all s f b h.accepts in
    message_graph-kept Good s b (valid b P.known) (pairs_apart b P.once) (sized b P.sizes.0).markers (uncrowded b P.few) g p (is-part b (valid b P.known) n p h.stands)

pub within-kept : (s : Settings) (f : Buffers) (b : Bale) (n : ℕ) (p : List Node) → AcceptedPart s f b n p → MessageGraphKept Within s (message_graph_of b p)
within-kept s f b n p h =
    part_graph_kept Within s f b n p h
    (All-mono (λ e. bad_evidence e ≡ false) (λ e. Within (initial_belief s (input e))) (good_evidence s) b.markers
    (All-map-from (λ x. x ≡ false) bad_evidence b.markers (passes_all s f b h.accepts).evidence))

-- each message in force is as long as its direction says
pub long_in_force : (s : Settings) (f : Buffers) (b : Bale) (n : ℕ) (p : List Node) → AcceptedPart s f b n p → (es : List Event) (x : State) (d : ℕ) → d < length (message_graph_of b p).directions
    → length (message_at d (state_after s (message_graph_of b p) (opened ∷ es) x).store.msg_in) ≡ (direction_at (message_graph_of b p) d).message_length
long_in_force s f b n p h es x d i = as_long s (message_graph_of b p) (within-kept s f b n p h).sound es x d i

-- Of a part's run: after any list of events that begins with the opening, and from any state, the message in force of each direction lies within.
abbrev pub WithinByDirection : Settings → Bale → List Node → Type 0
WithinByDirection s b p = (es : List Event) (x : State) (d : ℕ) → d < length (message_graph_of b p).directions → Within (message_at d (state_after s (message_graph_of b p) (opened ∷ es) x).store.msg_in)

-- The bounds, from any way to be good that keeps a message within, that the evidence has, and that each way to make a message keeps under the settings.
pub bounds_from_good : (Good : Message → Type 0) → ((m : Message) → Good m → Within m) → (s : Settings) → Keeps Good s
    → (f : Buffers) (b : Bale) (n : ℕ) (p : List Node) → AcceptedPart s f b n p → All (λ e. Good (initial_belief s (input e))) b.markers → WithinByDirection s b p
bounds_from_good Good W s K f b n p h g es x d i =
    W (message_at d (state_after s (message_graph_of b p) (opened ∷ es) x).store.msg_in) (good_in_force Good s (message_graph_of b p) K (part_graph_kept Good s f b n p h g) es x d i)
