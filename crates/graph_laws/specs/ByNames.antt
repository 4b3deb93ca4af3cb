-- The message graph of a part by the names of its nodes: its nodes node by node, its directions node by node and edge by edge. And what is to be shown of the nodes' lists
-- for the message graph to be sound and kept.
use Rattle.std.specs.Prelude.{◌≡◌, Bool, ◌||◌}
use Rattle.std.proofs.Math.Path.{refl, sym, ap}
use Rattle.std.proofs.Common.{◌∙◌, subst, length-append}
use Rattle.std.proofs.Math.Bool.{true, false, cond, or-true}
use Rattle.std.proofs.lemmas.Bool.{false≢true}
use mathlib.Core.List.{List, [], ◌∷◌, ◌++◌, map, map-map, append_assoc}
use Prim.Native.Nat.{ℕ, zero, suc, ◌+◌, ◌≤◌, ◌<◌}
use native.Mathlib.Omega.{arith}
use Rattle.std.proofs.Math.ListN.{length, get_or, length-map}
use Rattle.graph_laws.specs.Bools.{or_left, or_right, and_left}
use Rattle.definition.specs.Lists.{range, concat, mem, index_of}
use Rattle.definition.specs.FactorGraph.{Edge, eq_edge, Kind, grade, factor, input, tree}
use Rattle.definition.specs.Components.{Subgraph, is_incident, other_end, incident_edges, add_if_new, add_all_new, component_edges, subgraph_node, subgraph_edge, subgraph}
use Rattle.definition.specs.Vectors.{Message}
use Rattle.definition.specs.Settings.{Settings}
use Rattle.definition.specs.Messages.{initial_belief}
use Rattle.definition.specs.Directions.{incoming, Direction, MessageNode, MessageGraph, no_edge, edge_at, direction_to, directions_to, firsts_incoming, direction_from, message_nodes_from, message_graph, node_at, no_message_node, direction_at, no_direction}
use Rattle.graph_laws.specs.Lists.{All, All-in, All-at, All-mono, All-map-into, filter_holds, map_cong}
use Rattle.graph_laws.specs.Reach.{mem_append}
use Rattle.graph_laws.specs.Ranks.{All-concat-into, NoDup, index_lt, index_inj, get_d_map_index, mem-filter}
use Rattle.graph_laws.specs.Components.{Both, Holds, ends_of_both}
use Rattle.graph_laws.specs.AloneChecks.{All-getD}
use Rattle.graph_laws.specs.MessageLengths.{Along, AllBinary, FactorFirst, MessageNodeSound, Sound}
use Rattle.graph_laws.specs.Sending.{Paired, MessageNodeKept, FactorKept, DirectionKept, MessageGraphKept}
use Rattle.graph_laws.specs.Positions.{eq_edge_sound, eq_edge-same, index_middle, nodup_middle}

-- ---- what is seen

module _ {X : Type 0} (eq_x : X → X → Bool) (sound : (a b : X) → eq_x a b ≡ true → a ≡ b) (same : (a : X) → eq_x a a ≡ true) where
  add_if_new_keeps : (acc : List X) (e x : X) → mem eq_x x acc ≡ true → mem eq_x x (add_if_new eq_x acc e) ≡ true
  add_if_new_keeps acc e x h = go (mem eq_x e acc)
    where
      go : (b : Bool) → mem eq_x x (cond b acc (acc ++ e ∷ [])) ≡ true
      go true = h
      go false = mem_append eq_x x acc (e ∷ []) ∙ or_left (mem eq_x x acc) (mem eq_x x (e ∷ [])) h

  add_if_new_has : (acc : List X) (e : X) → mem eq_x e (add_if_new eq_x acc e) ≡ true
  add_if_new_has acc e = go (mem eq_x e acc) refl
    where
      go : (b : Bool) → mem eq_x e acc ≡ b → mem eq_x e (cond b acc (acc ++ e ∷ [])) ≡ true
      go true h = h
      go false h = mem_append eq_x e acc (e ∷ []) ∙ rw (same e) (or-true (mem eq_x e acc))

  add_all_new_keeps : (acc es : List X) (x : X) → mem eq_x x acc ≡ true → mem eq_x x (add_all_new eq_x acc es) ≡ true
  add_all_new_keeps acc [] x h = h
  add_all_new_keeps acc (e ∷ es) x h = add_all_new_keeps (add_if_new eq_x acc e) es x (add_if_new_keeps acc e x h)

  pub add_all_new_has : (acc es : List X) (x : X) → mem eq_x x es ≡ true → mem eq_x x (add_all_new eq_x acc es) ≡ true
  add_all_new_has acc [] x h = absurd (false≢true h)
  add_all_new_has acc (e ∷ es) x h = go (eq_x x e) refl h (add_all_new_has (add_if_new eq_x acc e) es x)
    where
      go : (b : Bool) → eq_x x e ≡ b → (b || mem eq_x x es) ≡ true → (mem eq_x x es ≡ true → mem eq_x x (add_all_new eq_x (add_if_new eq_x acc e) es) ≡ true)
          → mem eq_x x (add_all_new eq_x (add_if_new eq_x acc e) es) ≡ true
      go true q k r = add_all_new_keeps (add_if_new eq_x acc e) es x (subst (λ (y : X). mem eq_x y (add_if_new eq_x acc e) ≡ true) (sym (sound x e q)) (add_if_new_has acc e))
      go false q k r = r k

  pub mem-concat : {A : Type 0} (eq : A → A → Bool) (sound_a : (a b : A) → eq a b ≡ true → a ≡ b) (f : A → List X) (v : A) (p : List A) (x : X)
      → mem eq v p ≡ true → mem eq_x x (f v) ≡ true → mem eq_x x (concat (map f p)) ≡ true
  mem-concat eq sound_a f v [] x h k = absurd (false≢true h)
  mem-concat {A} eq sound_a f v (w ∷ p) x h k = mem_append eq_x x (f w) (concat (map f p)) ∙ go (eq v w) refl h (λ m. mem-concat eq sound_a f v p x m k)
    where
      go : (b : Bool) → eq v w ≡ b → (b || mem eq v p) ≡ true → (mem eq v p ≡ true → mem eq_x x (concat (map f p)) ≡ true)
          → (mem eq_x x (f w) || mem eq_x x (concat (map f p))) ≡ true
      go true q m r = or_left (mem eq_x x (f w)) (mem eq_x x (concat (map f p))) (subst (λ (u : A). mem eq_x x (f u) ≡ true) (sound_a v w q) k)
      go false q m r = or_right (mem eq_x x (f w)) (mem eq_x x (concat (map f p))) (r m)

-- ---- reading after another list

pub get_d_front : {X : Type 0} (xs ys : List X) (i : ℕ) (d : X) → i < length xs → get_or (xs ++ ys) i d ≡ get_or xs i d
get_d_front [] ys i d h = absurd (omega arith)
get_d_front (x ∷ xs) ys zero d h = refl
get_d_front (x ∷ xs) ys (suc i) d h = get_d_front xs ys i d (omega arith)

pub get_d_back : {X : Type 0} (xs ys : List X) (i : ℕ) (d : X) → get_or (xs ++ ys) (length xs + i) d ≡ get_or ys i d
get_d_back [] ys i d = ap (λ (n : ℕ). get_or ys n d) (let e : 0 + i ≡ i = omega arith in e)
get_d_back (x ∷ xs) ys i d = ap (λ (n : ℕ). get_or (x ∷ (xs ++ ys)) n d) (let e : suc (length xs) + i ≡ suc (length xs + i) = omega arith in e) ∙ get_d_back xs ys i d

-- ---- lengths along a list of directions

abbrev pub Two : Direction → Type 0
Two x = x.message_length ≡ 2

abbrev pub BinaryEdges : {A : Type 0} → Edge A → Type 0
BinaryEdges e = e.message_length ≡ 2

-- the first is n long, the others two
abbrev pub FactorFirstEdges : {A : Type 0} → ℕ → List (Edge A) → Type 0
FactorFirstEdges n [] = Unit {0}
FactorFirstEdges n (e ∷ es) = (e.message_length ≡ n) × All BinaryEdges es

abbrev FactorFirstRow : ℕ → List Direction → Type 0
FactorFirstRow n [] = Unit {0}
FactorFirstRow n (x ∷ xs) = (x.message_length ≡ n) × All Two xs

twos-map : {A : Type 0} (t : MessageGraph) (f : Edge A → ℕ) (es : List (Edge A)) → All (λ e. (direction_at t (f e)).message_length ≡ e.message_length) es → All BinaryEdges es → AllBinary t (map f es)
twos-map t f [] h k = tt
twos-map t f (e ∷ es) h k = (h.0 ∙ k.0, twos-map t f es h.1 k.1)

factor_first_map : {A : Type 0} (t : MessageGraph) (f : Edge A → ℕ) (n : ℕ) (es : List (Edge A)) → All (λ e. (direction_at t (f e)).message_length ≡ e.message_length) es → FactorFirstEdges n es → FactorFirst t n (map f es)
factor_first_map t f n [] h k = tt
factor_first_map t f n (e ∷ es) h k = (h.0 ∙ k.0, twos-map t f es h.1 k.1)

abbrev Reads : MessageGraph → ℕ → List Direction → Type 0
Reads t k l = (i : ℕ) → i < length l → direction_at t (k + i) ≡ get_or l i no_direction

reads_first : (t : MessageGraph) (k : ℕ) (x : Direction) (l : List Direction) → Reads t k (x ∷ l) → direction_at t k ≡ x
reads_first t k x l r = ap (direction_at t) (let z : k ≡ k + 0 = omega arith in z) ∙ r 0 (omega arith)

reads-rest : (t : MessageGraph) (k : ℕ) (x : Direction) (l : List Direction) → Reads t k (x ∷ l) → Reads t (suc k) l
reads-rest t k x l r i h = ap (direction_at t) (let z : suc k + i ≡ k + suc i = omega arith in z) ∙ r (suc i) (omega arith)

twos_count : (t : MessageGraph) (k : ℕ) (l : List Direction) → Reads t k l → All Two l → AllBinary t (range k (length l))
twos_count t k [] r a = tt
twos_count t k (x ∷ l) r a = (ap (λ (d : Direction). d.message_length) (reads_first t k x l r) ∙ a.0, twos_count t (suc k) l (reads-rest t k x l r) a.1)

factor_first_count : (t : MessageGraph) (k n : ℕ) (l : List Direction) → Reads t k l → FactorFirstRow n l → FactorFirst t n (range k (length l))
factor_first_count t k n [] r a = tt
factor_first_count t k n (x ∷ l) r a = (ap (λ (d : Direction). d.message_length) (reads_first t k x l r) ∙ a.0, twos_count t (suc k) l (reads-rest t k x l r) a.1)

factor_first_row : {A : Type 0} (n : ℕ) (f : Edge A → Direction) → ((e : Edge A) → (f e).message_length ≡ e.message_length) → (es : List (Edge A)) → FactorFirstEdges n es → FactorFirstRow n (map f es)
factor_first_row n f h [] k = tt
factor_first_row n f h (e ∷ es) k = (h e ∙ k.0, All-map-into Two f es (All-mono BinaryEdges (λ x. Two (f x)) (λ x q. h x ∙ q) es k.1))

-- ---- a part of a graph, that has both ends or neither of each edge, and no node twice

module _ {A : Type 0} (eq : A → A → Bool) (sound : (a b : A) → eq a b ≡ true → a ≡ b) (same : (a : A) → eq a a ≡ true)
    (es : List (Edge A)) (p : List A) (both : All (Both eq p) es) (once : NoDup eq p) (kind : A → Kind) where
  abbrev E : Edge A → Edge A → Bool
  E = eq_edge eq

  abbrev pub inc : A → List (Edge A)
  inc v = incident_edges eq es v

  abbrev pub In : A → Edge A → Type 0
  In v e = mem E e (inc v) ≡ true

  swap : (a b : A) → eq a b ≡ eq b a
  swap a b = go (eq a b) (eq b a) refl refl
    where
      go : (c d : Bool) → eq a b ≡ c → eq b a ≡ d → c ≡ d
      go true d h k = sym (subst (λ (x : A). eq x a ≡ true) (sound a b h) (same a)) ∙ k
      go false true h k = sym h ∙ subst (λ (x : A). eq x b ≡ true) (sound b a k) (same b)
      go false false h k = refl

  pub touch : (v : A) (e : Edge A) → In v e → is_incident eq v e ≡ true
  touch v e m = All-at E (eq_edge_sound eq sound same) (λ f. is_incident eq v f ≡ true) (inc v) (filter_holds (is_incident eq v) es) e m

  pub in_edges : (v : A) (e : Edge A) → In v e → mem E e es ≡ true
  in_edges v e m = and_left (mem E e es) (is_incident eq v e) (sym (mem-filter E (eq_edge_sound eq sound same) (eq_edge-same eq sound same) (is_incident eq v) e es) ∙ m)

  pub ends : (v : A) (e : Edge A) → Holds eq p v → In v e → Holds eq p e.node1 × Holds eq p e.node2
  ends v e h m = All-at E (eq_edge_sound eq sound same) (λ f. Holds eq p f.node1 × Holds eq p f.node2) (inc v) (ends_of_both eq sound same p es both v h) e m

  -- the other end of an edge, by cases
  pub at_other : (R : A → A → Type 0) (v : A) (e : Edge A) → is_incident eq v e ≡ true → R e.node1 e.node2 → R e.node2 e.node1 → R (other_end eq v e) v
  at_other R v e t x y = go (eq v e.node1) refl t
    where
      go : (c : Bool) → eq v e.node1 ≡ c → (c || eq v e.node2) ≡ true → R (cond c e.node2 e.node1) v
      go true q k = subst (λ (u : A). R e.node2 u) (sym (sound v e.node1 q)) y
      go false q k = subst (λ (u : A). R e.node1 u) (sym (sound v e.node2 k)) x

  pub other_end_holds : (v : A) (e : Edge A) → Holds eq p v → In v e → Holds eq p (other_end eq v e)
  other_end_holds v e h m = at_other (λ w u. Holds eq p w) v e (touch v e m) (ends v e h m).0 (ends v e h m).1

  -- the edge is in the other end's list too
  pub other_in : (v : A) (e : Edge A) → In v e → In (other_end eq v e) e
  other_in v e m =
      mem-filter E (eq_edge_sound eq sound same) (eq_edge-same eq sound same) (is_incident eq (other_end eq v e)) e es
      ∙ rw (in_edges v e m)
      (at_other (λ w u. is_incident eq w e ≡ true) v e (touch v e m)
      (or_left (eq e.node1 e.node1) (eq e.node1 e.node2) (same e.node1)) (or_right (eq e.node2 e.node1) (eq e.node2 e.node2) (same e.node2)))

  abbrev ls : List (Edge A)
  ls = component_edges eq es p

  seen : (v : A) (e : Edge A) → Holds eq p v → In v e → mem E e ls ≡ true
  seen v e h m =
      add_all_new_has E (eq_edge_sound eq sound same) (eq_edge-same eq sound same) [] (concat (map (incident_edges eq es) p)) e
      (mem-concat E (eq_edge_sound eq sound same) (eq_edge-same eq sound same) eq sound (incident_edges eq es) v p e h m)

  -- ---- directions
  -- the direction that ends at v along e
  abbrev pub dir : A → Edge A → Direction
  dir v e = record { start = index_of eq (other_end eq v e) p; end_in_start = index_of E e (inc (other_end eq v e)); end = index_of eq v p; start_in_end = index_of E e (inc v); message_length = e.message_length }

  abbrev from : A → A → A → A → Edge A → Direction
  from w a v u e = record { start = index_of eq w p; end_in_start = index_of E e (inc a); end = index_of eq v p; start_in_end = index_of E e (inc u); message_length = e.message_length }

  inward_dir : (v : A) (e : Edge A) → Holds eq p v → In v e → direction_to (index_of eq v p) (subgraph_edge eq es p e) ≡ dir v e
  unfolding direction_to
  inward_dir v e h m =
      ap (λ (c : Bool). cond c (from e.node2 e.node2 v e.node1 e) (from e.node1 e.node1 v e.node2 e)) (index_inj eq sound same e.node1 v p (ends v e h m).0 h ∙ swap e.node1 v)
      ∙ go (eq v e.node1) refl (touch v e m)
    where
      go : (c : Bool) → eq v e.node1 ≡ c → (c || eq v e.node2) ≡ true
          → cond c (from e.node2 e.node2 v e.node1 e) (from e.node1 e.node1 v e.node2 e) ≡ from (cond c e.node2 e.node1) (cond c e.node2 e.node1) v v e
      go true q t = ap (λ (u : A). from e.node2 e.node2 v u e) (sym (sound v e.node1 q))
      go false q t = ap (λ (u : A). from e.node1 e.node1 v u e) (sym (sound v e.node2 t))

  abbrev pub L : Subgraph
  L = subgraph eq kind es p

  edge-at : (e : Edge A) → mem E e ls ≡ true → edge_at L (index_of E e ls) ≡ subgraph_edge eq es p e
  unfolding edge_at subgraph
  edge-at e m = get_d_map_index E (eq_edge_sound eq sound same) (eq_edge-same eq sound same) (subgraph_edge eq es p) no_edge e ls m

  -- the row of directions that end at v
  abbrev pub row : A → List Direction
  row v = map (dir v) (inc v)

  inward_at : (v : A) (e : Edge A) → Holds eq p v → In v e → direction_to (index_of eq v p) (edge_at L (index_of E e ls)) ≡ dir v e
  inward_at v e h m = ap (direction_to (index_of eq v p)) (edge-at e (seen v e h m)) ∙ inward_dir v e h m

  each_in : (P : Edge A → Type 0) (v : A) → ((e : Edge A) → In v e → P e) → All P (inc v)
  each_in P v f = All-in E (eq_edge-same eq sound same) P (inc v) f

  row_at : (n : ℕ) (v : A) → n ≡ index_of eq v p → Holds eq p v → map (λ (k : ℕ). direction_to n (edge_at L k)) (map (λ e. index_of E e ls) (inc v)) ≡ row v
  row_at n v q h =
      map-map (λ (k : ℕ). direction_to n (edge_at L k)) (λ e. index_of E e ls) (inc v)
      ∙ map_cong (λ e. direction_to n (edge_at L (index_of E e ls))) (dir v) (inc v)
      (each_in (λ e. direction_to n (edge_at L (index_of E e ls)) ≡ dir v e) v (λ e m. ap (λ (k : ℕ). direction_to k (edge_at L (index_of E e ls))) q ∙ inward_at v e h m))

  -- a node of the part, by where it stands
  place : (pre : List A) (v : A) (q : List A) → p ≡ pre ++ v ∷ q → length pre ≡ index_of eq v p
  place pre v q o = sym (ap (index_of eq v) o ∙ index_middle eq sound same pre v q (nodup_middle eq sound same pre v q (subst (NoDup eq) o once)))

  stands : (pre : List A) (v : A) (q : List A) → p ≡ pre ++ v ∷ q → Holds eq p v
  stands pre v q o = ap (mem eq v) o ∙ mem_append eq v pre (v ∷ q) ∙ rw (same v) (or-true (mem eq v pre))

  more : (pre : List A) (v : A) → length (pre ++ v ∷ []) ≡ suc (length pre)
  more pre v = length-append pre (v ∷ []) ∙ (let e : length pre + 1 ≡ suc (length pre) = omega arith in e)

  directions_from : (pre q : List A) → p ≡ pre ++ q → directions_to L (length pre) (map (subgraph_node eq kind es ls) q) ≡ concat (map row q)
  unfolding directions_to
  directions_from pre [] o = refl
  directions_from pre (v ∷ q) o =
      ap (λ (l : List Direction). l ++ directions_to L (suc (length pre)) (map (subgraph_node eq kind es ls) q)) (row_at (length pre) v (place pre v q o) (stands pre v q o))
      ∙ ap (λ (n : ℕ). row v ++ directions_to L n (map (subgraph_node eq kind es ls) q)) (sym (more pre v))
      ∙ ap (λ (l : List Direction). row v ++ l) (directions_from (pre ++ v ∷ []) q (o ∙ sym (append_assoc pre (v ∷ []) q)))

  -- ---- the first direction of each node
  abbrev pub off : List A → A → ℕ
  off [] v = 0
  off (x ∷ xs) v = cond (eq v x) 0 (length (inc x) + off xs v)

  first-at : (f : ℕ) (q : List A) (v : A) → mem eq v q ≡ true → get_or (firsts_incoming f (map (subgraph_node eq kind es ls) q)) (index_of eq v q) 0 ≡ f + off q v
  unfolding firsts_incoming
  first-at f [] v h = absurd (false≢true h)
  first-at f (x ∷ q) v h = go (eq v x) h (first-at (f + length (map (λ e. index_of E e ls) (inc x))) q v)
    where
      go : (c : Bool) → (c || mem eq v q) ≡ true
          → (mem eq v q ≡ true → get_or (firsts_incoming (f + length (map (λ e. index_of E e ls) (inc x))) (map (subgraph_node eq kind es ls) q)) (index_of eq v q) 0 ≡ f + length (map (λ e. index_of E e ls) (inc x)) + off q v)
          → get_or (f ∷ firsts_incoming (f + length (map (λ e. index_of E e ls) (inc x))) (map (subgraph_node eq kind es ls) q)) (cond c zero (suc (index_of eq v q))) 0 ≡ f + cond c 0 (length (inc x) + off q v)
      go true k r = omega arith
      go false k r = r k ∙ omega (arith, length-map (inc x) (λ e. index_of E e ls))

  -- ---- nodes
  abbrev pub out : A → Edge A → ℕ
  out v e = off p (other_end eq v e) + index_of E e (inc (other_end eq v e))

  abbrev pub message_node_of : A → MessageNode
  message_node_of v = record { kind = kind v; first_incoming = off p v; outgoing = map (out v) (inc v) }

  abbrev fs : List ℕ
  fs = firsts_incoming 0 (map (subgraph_node eq kind es ls) p)

  fs-at : (v : A) → Holds eq p v → get_or fs (index_of eq v p) 0 ≡ off p v
  fs-at v h = first-at 0 p v h ∙ omega arith

  out-at : (n : ℕ) (v : A) → n ≡ index_of eq v p → Holds eq p v → map (λ (k : ℕ). direction_from fs n (edge_at L k)) (map (λ e. index_of E e ls) (inc v)) ≡ map (out v) (inc v)
  unfolding direction_from
  out-at n v q h =
      map-map (λ (k : ℕ). direction_from fs n (edge_at L k)) (λ e. index_of E e ls) (inc v)
      ∙ map_cong (λ e. direction_from fs n (edge_at L (index_of E e ls))) (out v) (inc v)
      (each_in (λ e. direction_from fs n (edge_at L (index_of E e ls)) ≡ out v e) v
      (λ e m.
      ap (λ (k : ℕ). direction_from fs k (edge_at L (index_of E e ls))) q ∙ ap (λ (d : Direction). get_or fs d.start 0 + d.end_in_start) (inward_at v e h m)
      ∙ ap (λ (k : ℕ). k + index_of E e (inc (other_end eq v e))) (fs-at (other_end eq v e) (other_end_holds v e h m))))

  message_nodes_from_lem : (pre q : List A) → p ≡ pre ++ q → message_nodes_from L fs (length pre) (map (subgraph_node eq kind es ls) q) ≡ map message_node_of q
  unfolding message_nodes_from
  message_nodes_from_lem pre [] o = refl
  message_nodes_from_lem pre (v ∷ q) o =
      let r = message_nodes_from_lem (pre ++ v ∷ []) q (o ∙ sym (append_assoc pre (v ∷ []) q)) in
      let w : message_nodes_from L fs (suc (length pre)) (map (subgraph_node eq kind es ls) q) ≡ map message_node_of q = ap (λ (n : ℕ). message_nodes_from L fs n (map (subgraph_node eq kind es ls) q)) (sym (more pre v)) ∙ r in
      λ i. record {
        kind = kind v;
        first_incoming = (ap (λ (n : ℕ). get_or fs n 0) (place pre v q o) ∙ fs-at v (stands pre v q o)) i;
        outgoing = out-at (length pre) v (place pre v q o) (stands pre v q o) i;
      }
      ∷ w i

  -- the message graph
  abbrev pub by_names : MessageGraph
  by_names = record { nodes = map message_node_of p; directions = concat (map row p) }

  pub message_graph-by_names : message_graph L ≡ by_names
  unfolding message_graph subgraph
  message_graph-by_names = λ i. record { nodes = message_nodes_from_lem [] p refl i; directions = directions_from [] p refl i }

  -- ---- reading the message graph
  pub message_node_at : (v : A) → Holds eq p v → node_at by_names (index_of eq v p) ≡ message_node_of v
  message_node_at v h = get_d_map_index eq sound same message_node_of no_message_node v p h

  row-length : (v : A) → length (row v) ≡ length (inc v)
  row-length v = length-map (inc v) (dir v)

  in_row : (q : List A) (v : A) (i : ℕ) → mem eq v q ≡ true → i < length (inc v) → get_or (concat (map row q)) (off q v + i) no_direction ≡ get_or (row v) i no_direction
  in_row [] v i h l = absurd (false≢true h)
  in_row (x ∷ q) v i h l = go (eq v x) refl h (λ k. in_row q v i k l)
    where
      go : (c : Bool) → eq v x ≡ c → (c || mem eq v q) ≡ true → (mem eq v q ≡ true → get_or (concat (map row q)) (off q v + i) no_direction ≡ get_or (row v) i no_direction)
          → get_or (row x ++ concat (map row q)) (cond c 0 (length (inc x) + off q v) + i) no_direction ≡ get_or (row v) i no_direction
      go true e k r =
          ap (λ (n : ℕ). get_or (row x ++ concat (map row q)) n no_direction) (let z : 0 + i ≡ i = omega arith in z)
          ∙ ap (λ (u : A). get_or (row u ++ concat (map row q)) i no_direction) (sym (sound v x e))
          ∙ get_d_front (row v) (concat (map row q)) i no_direction (subst (λ (n : ℕ). i < n) (sym (row-length v)) l)
      go false e k r =
          ap (λ (n : ℕ). get_or (row x ++ concat (map row q)) n no_direction) (let z : length (inc x) + off q v + i ≡ length (row x) + (off q v + i) = omega (arith, row-length x) in z)
          ∙ get_d_back (row x) (concat (map row q)) (off q v + i) no_direction
          ∙ r k

  pub direction_row : (v : A) (i : ℕ) → Holds eq p v → i < length (inc v) → direction_at by_names (off p v + i) ≡ get_or (row v) i no_direction
  direction_row v i h l = in_row p v i h l

  pub direction_at_lem : (v : A) (e : Edge A) → Holds eq p v → In v e → direction_at by_names (off p v + index_of E e (inc v)) ≡ dir v e
  direction_at_lem v e h m =
      direction_row v (index_of E e (inc v)) h (index_lt E (eq_edge_sound eq sound same) (eq_edge-same eq sound same) e (inc v) m)
      ∙ get_d_map_index E (eq_edge_sound eq sound same) (eq_edge-same eq sound same) (dir v) no_direction e (inc v) m

  pub direction_out : (v : A) (e : Edge A) → Holds eq p v → In v e → direction_at by_names (out v e) ≡ dir (other_end eq v e) e
  direction_out v e h m = direction_at_lem (other_end eq v e) e (other_end_holds v e h m) (other_in v e m)

  inside-from : (q : List A) (v : A) → mem eq v q ≡ true → off q v + length (inc v) ≤ length (concat (map row q))
  inside-from [] v h = absurd (false≢true h)
  inside-from (x ∷ q) v h = go (eq v x) refl h (inside-from q v)
    where
      go : (c : Bool) → eq v x ≡ c → (c || mem eq v q) ≡ true → (mem eq v q ≡ true → off q v + length (inc v) ≤ length (concat (map row q)))
          → cond c 0 (length (inc x) + off q v) + length (inc v) ≤ length (row x ++ concat (map row q))
      go true e k r =
          omega (arith, length-append (row x) (concat (map row q)), row-length x, ap (λ (u : A). length (inc u)) (sound v x e))
      go false e k r = omega (arith, length-append (row x) (concat (map row q)), row-length x, r k)

  pub inside : (v : A) → Holds eq p v → off p v + length (inc v) ≤ length by_names.directions
  inside v h = inside-from p v h

  pub each_direction : (Q : Direction → Type 0) → ((v : A) (e : Edge A) → Holds eq p v → In v e → Q (dir v e)) → All Q by_names.directions
  each_direction Q f =
      All-concat-into Q row p (All-in eq same (λ v. All Q (row v)) p (λ v h. All-map-into Q (dir v) (inc v) (each_in (λ e. Q (dir v e)) v (λ e m. f v e h m))))

  pub each_message_node : (Q : MessageNode → Type 0) → ((v : A) → Holds eq p v → Q (message_node_of v)) → All Q by_names.nodes
  each_message_node Q f = All-map-into Q message_node_of p (All-in eq same (λ v. Q (message_node_of v)) p f)

  pub each_edge : (P : Edge A → Type 0) (v : A) → ((e : Edge A) → In v e → P e) → All P (inc v)
  each_edge P v f = each_in P v f

  -- ---- what is to be shown of the nodes' lists
  module _ (Good : Message → Type 0) (s : Settings) where
    -- a grade and an input hold messages of two entries; a tree's first is as long as its list
    abbrev pub NodeKept : Kind → A → Type 0
    NodeKept grade v = (length (inc v) ≤ 1024) × All BinaryEdges (inc v)
    NodeKept (factor d) v = Unit {0}
    NodeKept (input x) v = ((length (inc v) ≤ 1024) × All BinaryEdges (inc v)) × Good (initial_belief s (input x))
    NodeKept (tree d) v = (3 ≤ length (inc v)) × (length (inc v) ≤ 129) × FactorFirstEdges (length (inc v)) (inc v)

    -- a factor that sends along e to a grade or a tree has e first in its list, and one edge more
    abbrev pub Front : ℕ → A → Edge A → Type 0
    Front d w e = (d ≤ 129) × ((f : Edge A) × ((inc w ≡ e ∷ f ∷ []) × BinaryEdges f))

    abbrev pub EdgeKept : Kind → Kind → A → Edge A → Type 0
    EdgeKept grade j w e = Unit {0}
    EdgeKept (input x) j w e = Unit {0}
    EdgeKept (factor d) grade w e = Front d w e
    EdgeKept (factor d) (factor k) w e = Front d w e
    EdgeKept (factor d) (input x) w e = Unit {0}
    EdgeKept (factor d) (tree k) w e = Front d w e
    EdgeKept (tree d) j w e = Unit {0}

    pub record ListsKept : Type 0 where
      pub wide : (v : A) (e : Edge A) → Holds eq p v → In v e → 2 ≤ e.message_length
      pub along : (v : A) (e : Edge A) → Holds eq p v → In v e → Along (kind (other_end eq v e)) (kind v) e.message_length
      pub node : (v : A) → Holds eq p v → NodeKept (kind v) v
      pub direction : (v : A) (e : Edge A) → Holds eq p v → In v e → EdgeKept (kind (other_end eq v e)) (kind v) (other_end eq v e) e

    module _ (H : ListsKept) where
      abbrev t : MessageGraph
      t = by_names

      reads : (v : A) → Holds eq p v → Reads t (off p v) (row v)
      reads v h i l = direction_row v i h (subst (λ (n : ℕ). i < n) (row-length v) l)

      lengths : (v : A) → length (row v) ≡ length (map (out v) (inc v))
      lengths v = row-length v ∙ sym (length-map (inc v) (out v))

      outs_long : (v : A) → Holds eq p v → All (λ e. (direction_at t (out v e)).message_length ≡ e.message_length) (inc v)
      outs_long v h = each_in (λ e. (direction_at t (out v e)).message_length ≡ e.message_length) v (λ e m. ap (λ (d : Direction). d.message_length) (direction_out v e h m))

      twos_out : (v : A) → Holds eq p v → All BinaryEdges (inc v) → AllBinary t (message_node_of v).outgoing
      twos_out v h a = twos-map t (out v) (inc v) (outs_long v h) a

      twos-own : (v : A) → Holds eq p v → All BinaryEdges (inc v) → AllBinary t (incoming (message_node_of v))
      twos-own v h a = subst (λ (n : ℕ). AllBinary t (range (off p v) n)) (lengths v) (twos_count t (off p v) (row v) (reads v h) (All-map-into Two (dir v) (inc v) a))

      factor_first_own : (v : A) → Holds eq p v → FactorFirstEdges (length (inc v)) (inc v) → FactorFirst t (length (message_node_of v).outgoing) (incoming (message_node_of v))
      factor_first_own v h a =
          subst (λ (n : ℕ). FactorFirst t n (incoming (message_node_of v))) (sym (length-map (inc v) (out v)))
          (subst (λ (n : ℕ). FactorFirst t (length (inc v)) (range (off p v) n)) (lengths v)
          (factor_first_count t (off p v) (length (inc v)) (row v) (reads v h) (factor_first_row (length (inc v)) (dir v) (λ e. refl) (inc v) a)))

      factor_first_out : (v : A) → Holds eq p v → FactorFirstEdges (length (inc v)) (inc v) → FactorFirst t (length (message_node_of v).outgoing) (message_node_of v).outgoing
      factor_first_out v h a =
          subst (λ (n : ℕ). FactorFirst t n (message_node_of v).outgoing) (sym (length-map (inc v) (out v))) (factor_first_map t (out v) (length (inc v)) (inc v) (outs_long v h) a)

      within : (v : A) → Holds eq p v → (message_node_of v).first_incoming + length (message_node_of v).outgoing ≤ length t.directions
      within v h = omega (arith, inside v h, length-map (inc v) (out v))

      message_node_sound : (k : Kind) (v : A) → Holds eq p v → NodeKept k v → MessageNodeSound t k (message_node_of v)
      message_node_sound grade v h a = twos_out v h a.1
      message_node_sound (factor d) v h a = tt
      message_node_sound (input x) v h a = twos_out v h a.0.1
      message_node_sound (tree d) v h a =
          record {
            some-grades = omega (arith, a.0, length-map (inc v) (out v));
            inside = within v h;
            incoming_factor_first = factor_first_own v h a.2;
            outgoing_factor_first = factor_first_out v h a.2;
          }

      paired : (v : A) → Holds eq p v → (length (inc v) ≤ 1024) × All BinaryEdges (inc v) → Paired Good t (message_node_of v)
      paired v h a = record { few = omega (arith, a.0, length-map (inc v) (out v)); inside = within v h; twos = twos-own v h a.1 }

      message_node_kept : (k : Kind) (v : A) → Holds eq p v → NodeKept k v → MessageNodeKept Good t s k (message_node_of v)
      message_node_kept grade v h a = paired v h a
      message_node_kept (factor d) v h a = tt
      message_node_kept (input x) v h a = (paired v h a.0, a.1)
      message_node_kept (tree d) v h a = omega (arith, a.1, length-map (inc v) (out v))

      front : (d : ℕ) (w : A) (e : Edge A) → Holds eq p w → Front d w e → FactorKept Good t d (index_of E e (inc w)) (message_node_of w)
      front d w e h a =
          let o : inc w ≡ e ∷ a.1.0 ∷ [] = a.1.1.0 in
          let two : length (inc w) ≡ 2 = ap length o in
          record {
            few = a.0;
            first_slot = ap (index_of E e) o ∙ rw (eq_edge-same eq sound same e);
            two-neighbours = omega (arith, two, length-map (inc w) (out w));
            inside = omega (arith, two, inside w h);
            input_long =
                ap (λ (x : Direction). x.message_length) (direction_row w 1 h (omega (arith, two))) ∙ ap (λ (l : List (Edge A)). (get_or (map (dir w) l) 1 no_direction).message_length) o ∙ a.1.1.1;
          }

      way-kept : (k j : Kind) (w : A) (e : Edge A) → Holds eq p w → EdgeKept k j w e → DirectionKept Good t k j (index_of E e (inc w)) (message_node_of w)
      way-kept grade j w e h a = tt
      way-kept (input x) j w e h a = tt
      way-kept (factor d) grade w e h a = front d w e h a
      way-kept (factor d) (factor k) w e h a = front d w e h a
      way-kept (factor d) (input x) w e h a = tt
      way-kept (factor d) (tree k) w e h a = front d w e h a
      way-kept (tree d) j w e h a = tt

      by_names_sound : Sound t
      by_names_sound =
          record {
            wide = (λ d l. All-getD (λ x. 2 ≤ x.message_length) t.directions (each_direction (λ x. 2 ≤ x.message_length) H.wide) no_direction d l);
            along = (λ d l. All-getD Q t.directions (each_direction Q q) no_direction d l);
            nodes = each_message_node (λ x. MessageNodeSound t x.kind x) (λ v h. message_node_sound (kind v) v h (H.node v h));
          }
        where
          Q : Direction → Type 0
          Q x = Along (node_at t x.start).kind (node_at t x.end).kind x.message_length

          q : (v : A) (e : Edge A) → Holds eq p v → In v e → Along (node_at t (index_of eq (other_end eq v e) p)).kind (node_at t (index_of eq v p)).kind e.message_length
          q v e h m =
              subst (λ (x : MessageNode). Along x.kind (node_at t (index_of eq v p)).kind e.message_length) (sym (message_node_at (other_end eq v e) (other_end_holds v e h m)))
              (subst (λ (x : MessageNode). Along (kind (other_end eq v e)) x.kind e.message_length) (sym (message_node_at v h)) (H.along v e h m))

      pub by_names_kept : MessageGraphKept Good s t
      by_names_kept =
          record {
            sound = by_names_sound;
            nodes = each_message_node (λ x. MessageNodeKept Good t s x.kind x) (λ v h. message_node_kept (kind v) v h (H.node v h));
            directions = (λ d l. All-getD Q t.directions (each_direction Q q) no_direction d l);
          }
        where
          Q : Direction → Type 0
          Q x = DirectionKept Good t (node_at t x.start).kind (node_at t x.end).kind x.end_in_start (node_at t x.start)

          q : (v : A) (e : Edge A) → Holds eq p v → In v e
              → DirectionKept Good t (node_at t (index_of eq (other_end eq v e) p)).kind (node_at t (index_of eq v p)).kind (index_of E e (inc (other_end eq v e))) (node_at t (index_of eq (other_end eq v e) p))
          q v e h m =
              subst (λ (x : MessageNode). DirectionKept Good t x.kind (node_at t (index_of eq v p)).kind (index_of E e (inc (other_end eq v e))) x) (sym (message_node_at (other_end eq v e) (other_end_holds v e h m)))
              (subst (λ (x : MessageNode). DirectionKept Good t (kind (other_end eq v e)) x.kind (index_of E e (inc (other_end eq v e))) (message_node_of (other_end eq v e))) (sym (message_node_at v h))
              (way-kept (kind (other_end eq v e)) (kind v) (other_end eq v e) e (other_end_holds v e h m) (H.direction v e h m)))
