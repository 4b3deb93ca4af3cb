-- A part is connected: its first node heads its list, and reaches every node of it. So a part has a node exactly if the part's nodes reach it.
use Rattle.std.specs.Prelude.{◌≡◌, refl, ◌↔◌, ◌⊎◌, Bool, true, false, cond, ◌||◌, List, [], ◌∷◌, ◌++◌, map, length}
use Rattle.std.proofs.Common.{sym, ap, ◌∙◌, subst, inl, inr}
use Rattle.std.proofs.lemmas.Bool.{false≢true}
use Rattle.std.proofs.Math.Option.{some}
use Prim.Native.Nat.{ℕ, zero, suc}
use Rattle.std.proofs.Math.ListN.{get_elem?}
use Rattle.graph_laws.specs.Bools.{or_cases, or_left, or_right}
use Rattle.definition.specs.Lists.{mem, cons_if, concat}
use Rattle.definition.specs.FactorGraph.{Edge, Graph, Bale, Node, eq_node, built_graph}
use Rattle.definition.specs.Components.{is_incident, other_end, incident_edges, neighbours, Search, is_visited, visit, visit_all, pop_node, walk_step, walk, walk_start, component_from, components_of}
use Rattle.graph_laws.specs.Lists.{All, All-mono, All-at, All-in}
use Rattle.graph_laws.specs.Walk.{walk-within}
use Rattle.graph_laws.specs.Reach.{mem_append}
use Rattle.graph_laws.specs.Components.{Holds, Both, closed_of_both, IsComponent}
use Rattle.graph_laws.specs.Partition.{components-all}
use Rattle.graph_laws.specs.Names.{eq_node_sound, eq_node-same, Valid, built-inside}
use Rattle.graph_laws.specs.Locality.{Part, all-components}
use Rattle.graph_laws.specs.LocalAnswer.{is-part}

-- ---- what connected means

-- From v one comes to v, and from where one comes to, along an edge, to each neighbour.
pub data Reaches {A : Type 0} (eq : A → A → Bool) (es : List (Edge A)) (v : A) : A → Type 0 where
  here : Reaches eq es v v
  along : {u w : A} → Reaches eq es v u → mem eq w (neighbours eq es u) ≡ true → Reaches eq es v w

pub record Connected {A : Type 0} (eq : A → A → Bool) (es : List (Edge A)) (p : List A) : Type 0 where
  pub root : A
  pub rest : List A
  pub heads : p ≡ root ∷ rest
  pub reached : All (Reaches eq es root) p

-- ---- the node that a walk starts from stays the first of those met

module _ {A : Type 0} (eq : A → A → Bool) (done : List A) (v : A) where
  abbrev Starts : List A → Type 0
  Starts l = (rest : List A) × (l ≡ v ∷ rest)

  visit_starts : (n : A) (s : Search A) → Starts s.visited → Starts (visit eq done n s).visited
  visit_starts n s h = go (is_visited eq done s n)
    where
      go : (b : Bool) → Starts (cond b s (record { visited = s.visited ++ n ∷ []; stack = n ∷ s.stack })).visited
      go true = h
      go false = (h.0 ++ n ∷ [], ap (λ (l : List A). l ++ n ∷ []) h.1)

  visit_all_starts : (ns : List A) (s : Search A) → Starts s.visited → Starts (visit_all eq done ns s).visited
  visit_all_starts [] s h = h
  visit_all_starts (n ∷ ns) s h = visit_all_starts ns (visit eq done n s) (visit_starts n s h)

  module _ (nb : A → List A) where
    pop_node_starts : (met rest : List A) → Starts met → Starts (pop_node eq done nb met rest).visited
    pop_node_starts met [] h = h
    pop_node_starts met (u ∷ rest) h = visit_all_starts (nb u) (record { visited = met; stack = rest }) h

    pub walk_starts : (k : ℕ) (s : Search A) → Starts s.visited → Starts (walk eq done nb k s).visited
    unfolding walk
    walk_starts zero s h = h
    walk_starts (suc k) s h = walk_starts k (walk_step eq done nb s) (pop_node_starts s.visited s.stack h)

-- ---- a part is connected

module _ {A : Type 0} (eq : A → A → Bool) (same : (a : A) → eq a a ≡ true) (G : Graph A) where
  -- all that the walk has met, and all that waits on its stack, its start reaches
  pub walk_reached : (done : List A) (v : A) → All (Reaches eq G.edges v) (component_from eq G done v).visited
  walk_reached done v =
      (walk-within eq done R (neighbours eq G.edges) (λ u r. All-in eq same R (neighbours eq G.edges u) (λ w m. along r m))
      (length G.nodes) (walk_start v) ((here, tt), (here, tt))).0
    where
      R : A → Type 0
      R = Reaches eq G.edges v

  pub part_connected : (p : List A) → IsComponent eq G p → Connected eq G.edges p
  part_connected p i =
      let h = walk_starts eq i.done i.root (neighbours eq G.edges) (length G.nodes) (walk_start i.root) ([], refl) in
      record {
        root = i.root;
        rest = h.0;
        heads = sym i.is ∙ h.1;
        reached = subst (All (Reaches eq G.edges i.root)) i.is (walk_reached i.done i.root);
      }

-- ---- to reach: there and back, and on

module _ {A : Type 0} (eq : A → A → Bool) (es : List (Edge A)) where
  pub reaches_on : {v u w : A} → Reaches eq es v u → Reaches eq es u w → Reaches eq es v w
  reaches_on r here = r
  reaches_on r (along q m) = along (reaches_on r q) m

module _ {A : Type 0} (eq : A → A → Bool) (sound : (a b : A) → eq a b ≡ true → a ≡ b) (same : (a : A) → eq a a ≡ true) where
  -- the edge e, if it joins u to w, joins w to u
  joins_back : (e : Edge A) (u w : A) → is_incident eq u e ≡ true → eq w (other_end eq u e) ≡ true → (is_incident eq w e ≡ true) × (other_end eq w e ≡ u)
  joins_back e u w t m = go (eq u e.node1) refl t m
    where
      far : (c : Bool) → eq w e.node1 ≡ c → u ≡ e.node1 → w ≡ e.node2 → cond c e.node2 e.node1 ≡ u
      far true q a d = sym d ∙ sound w e.node1 q ∙ sym a
      far false q a d = sym a

      go : (c : Bool) → eq u e.node1 ≡ c → (c || eq u e.node2) ≡ true → eq w (cond c e.node2 e.node1) ≡ true
          → (is_incident eq w e ≡ true) × (other_end eq w e ≡ u)
      go true q s n = (or_right (eq w e.node1) (eq w e.node2) n, far (eq w e.node1) refl (sound u e.node1 q) (sound w e.node2 n))
      go false q s n = (or_left (eq w e.node1) (eq w e.node2) n, rw n (sym (sound u e.node2 s)))

  neighbours-back : (es : List (Edge A)) (u w : A) → mem eq w (neighbours eq es u) ≡ true → mem eq u (neighbours eq es w) ≡ true
  neighbours-back [] u w m = m
  neighbours-back (e ∷ es) u w m = go (is_incident eq u e) refl m (neighbours-back es u w)
    where
      E : List (Edge A)
      E = incident_edges eq es w

      later : (c : Bool) → mem eq u (map (other_end eq w) E) ≡ true → mem eq u (map (other_end eq w) (cons_if c e E)) ≡ true
      later true n = or_right (eq u (other_end eq w e)) (mem eq u (map (other_end eq w) E)) n
      later false n = n

      now : is_incident eq w e ≡ true → other_end eq w e ≡ u → mem eq u (map (other_end eq w) (cons_if (is_incident eq w e) e E)) ≡ true
      now t o = rw (t, o, same u)

      go : (c : Bool) → is_incident eq u e ≡ c → mem eq w (map (other_end eq u) (cons_if c e (incident_edges eq es u))) ≡ true
          → (mem eq w (neighbours eq es u) ≡ true → mem eq u (neighbours eq es w) ≡ true)
          → mem eq u (map (other_end eq w) (cons_if (is_incident eq w e) e E)) ≡ true
      go false t n r = later (is_incident eq w e) (r n)
      go true t n r = elim (or_cases (eq w (other_end eq u e)) (mem eq w (neighbours eq es u)) n) [
        | inl q ↦ let j = joins_back e u w t q in now j.0 j.1
        | inr q ↦ later (is_incident eq w e) (r q)
      ]

  pub reaches_back : (es : List (Edge A)) {v w : A} → Reaches eq es v w → Reaches eq es w v
  reaches_back es here = here
  reaches_back es (along {u = u} {w = w} r m) = reaches_on eq es (along here (neighbours-back es u w m)) (reaches_back es r)

  -- a node that a node of the part reaches is in the part
  pub reached_in : (p : List A) (es : List (Edge A)) → All (Both eq p) es → {u w : A} → Reaches eq es u w → Holds eq p u → Holds eq p w
  reached_in p es h here m = m
  reached_in p es h (along {u = x} {w = w} r n) m =
      All-at eq sound (Holds eq p) (neighbours eq es x) (closed_of_both eq sound same p es h x (reached_in p es h r m)) w n

  -- of a node of the part: a node is in the part exactly if the one reaches the other
  pub part_of : (G : Graph A) (p : List A) → IsComponent eq G p → (u w : A) → Holds eq p u → Holds eq p w ↔ Reaches eq G.edges u w
  part_of G p i u w m = (λ n. reaches_on eq G.edges (reaches_back G.edges (at u m)) (at w n), λ r. reached_in p G.edges i.both r m)
    where
      c : Connected eq G.edges p
      c = part_connected eq same G p i

      at : (x : A) → Holds eq p x → Reaches eq G.edges c.root x
      at x k = All-at eq sound (Reaches eq G.edges c.root) p c.reached x k

-- ---- of a bale

-- every part of every valid bale is connected
pub bale_connected : (b : Bale) → Valid b → All (Connected eq_node (built_graph b).edges) (components_of b)
bale_connected b valid = All-mono (Part b valid) (Connected eq_node (built_graph b).edges) (part_connected eq_node eq_node-same (built_graph b)) (components_of b) (all-components b valid)

-- a thing of the joined lists is in one of them
in_one : {A : Type 0} (eq : A → A → Bool) (a : A) (ps : List (List A)) → mem eq a (concat ps) ≡ true → (n : ℕ) × (p : List A) × (get_elem? ps n ≡ some p) × (mem eq a p ≡ true)
in_one eq a [] m = absurd (false≢true m)
in_one {A} eq a (p ∷ ps) m = go (or_cases (mem eq a p) (mem eq a (concat ps)) (sym (mem_append eq a p (concat ps)) ∙ m)) (in_one eq a ps)
  where
    go : (mem eq a p ≡ true) ⊎ (mem eq a (concat ps) ≡ true) → (mem eq a (concat ps) ≡ true → (n : ℕ) × (q : List A) × (get_elem? ps n ≡ some q) × (mem eq a q ≡ true))
        → (n : ℕ) × (q : List A) × (get_elem? (p ∷ ps) n ≡ some q) × (mem eq a q ≡ true)
    go (inl h) r = (0, p, refl, h)
    go (inr h) r = let x = r h in (suc x.0, x.1, x.2, x.3)

-- some part has both nodes
abbrev pub Together : Bale → Node → Node → Type 0
Together b u w = (n : ℕ) × (p : List Node) × (get_elem? (components_of b) n ≡ some p) × Holds eq_node p u × Holds eq_node p w

-- for any two nodes of the graph: they are in one part exactly if one reaches the other
pub bale_together : (b : Bale) → Valid b → (u w : Node) → Holds eq_node (built_graph b).nodes u → Together b u w ↔ Reaches eq_node (built_graph b).edges u w
unfolding built_graph components_of
bale_together b valid u w h = (
  λ t. (part_of eq_node eq_node_sound eq_node-same (built_graph b) t.1 (is-part b valid t.0 t.1 t.2) u w t.3).0 t.4,
  λ r. let x = home in (x.0, x.1, x.2, x.3, reached_in eq_node eq_node_sound eq_node-same x.1 (built_graph b).edges (is-part b valid x.0 x.1 x.2).both r x.3),
)
  where
    home : (n : ℕ) × (p : List Node) × (get_elem? (components_of b) n ≡ some p) × Holds eq_node p u
    home =
        in_one eq_node u (components_of b)
        (All-at eq_node eq_node_sound (λ v. mem eq_node v (concat (components_of b)) ≡ true) (built_graph b).nodes
        (components-all eq_node eq_node_sound eq_node-same (built_graph b) (built-inside b valid)) u h)
