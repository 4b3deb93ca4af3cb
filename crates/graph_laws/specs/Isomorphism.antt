-- A map of nodes that carries incident lists to incident lists carries neighbours to neighbours, and the local graph of a part to the same local graph.
use Rattle.std.specs.Prelude.{◌≡◌, refl, Bool, true, false, cond, ℕ}
use Rattle.std.proofs.Common.{sym, ap, ◌∙◌}
use mathlib.Core.List.{List, [], ◌∷◌, ◌++◌, map, map-append}
use Rattle.definition.specs.Lists.{concat, mem, index_of}
use Rattle.graph_laws.specs.Lists.{All, All-append, All-map-into, All-mono}
use Rattle.graph_laws.specs.Walk.{mem-map, index_map}
use Rattle.definition.specs.FactorGraph.{Edge, eq_edge, Kind}
use Rattle.definition.specs.Components.{Subgraph, SubgraphNode, SubgraphEdge, is_incident, other_end, incident_edges, neighbours, add_if_new, add_all_new, subgraph}

abbrev pub on_edge : {A B : Type 0} → (A → B) → Edge A → Edge B
on_edge ρ e = record { node1 = ρ e.node1; node2 = ρ e.node2; message_length = e.message_length }

abbrev pub Ends : {A : Type 0} → (A → Type 0) → Edge A → Type 0
Ends C e = C e.node1 × C e.node2

-- the local graph of a part, over any kind of edge: `one`, `two` and `long` of an edge, and the edges at a node
module _ {A X : Type 0} (eq : A → A → Bool) (eq_x : X → X → Bool) (one two : X → A) (long : X → ℕ) (inc : A → List X) where
  abbrev pub visited_by : List A → List X
  visited_by p = add_all_new eq_x [] (concat (map inc p))

  abbrev pub node_by : (A → Kind) → List X → A → SubgraphNode
  node_by kind ls v = record { kind = kind v; edges = map (λ e. index_of eq_x e ls) (inc v) }

  abbrev pub edge_by : List A → X → SubgraphEdge
  edge_by p e =
      record {
        node1 = index_of eq (one e) p;
        node2 = index_of eq (two e) p;
        node2_in_node1 = index_of eq_x e (inc (one e));
        node1_in_node2 = index_of eq_x e (inc (two e));
        message_length = long e;
      }

  unfoldable pub subgraph_by : (A → Kind) → List A → Subgraph
  subgraph_by kind p = record { nodes = map (node_by kind (visited_by p)) p; edges = map (edge_by p) (visited_by p) }

module _ {X Y : Type 0} (eq_x : X → X → Bool) (eq_y : Y → Y → Bool) (σ : X → Y) (D : X → Type 0) (inj_x : (e f : X) → D e → D f → eq_y (σ e) (σ f) ≡ eq_x e f) where
  add_if_new-map : (acc : List X) (e : X) → All D acc → D e → add_if_new eq_y (map σ acc) (σ e) ≡ map σ (add_if_new eq_x acc e)
  add_if_new-map acc e c d = rw (mem-map eq_x eq_y σ D inj_x e acc d c) (go (mem eq_x e acc))
    where
      go : (b : Bool) → cond b (map σ acc) (map σ acc ++ σ e ∷ []) ≡ map σ (cond b acc (acc ++ e ∷ []))
      go true = refl
      go false = sym (map-append σ acc (e ∷ []))

  add_if_new-within : (acc : List X) (e : X) → All D acc → D e → All D (add_if_new eq_x acc e)
  add_if_new-within acc e c d = go (mem eq_x e acc)
    where
      go : (b : Bool) → All D (cond b acc (acc ++ e ∷ []))
      go true = c
      go false = All-append D acc (e ∷ []) c (d, tt)

  add_all_new-map : (acc es : List X) → All D acc → All D es → add_all_new eq_y (map σ acc) (map σ es) ≡ map σ (add_all_new eq_x acc es)
  add_all_new-map acc [] c d = refl
  add_all_new-map acc (e ∷ es) c d =
      ap (λ (l : List Y). add_all_new eq_y l (map σ es)) (add_if_new-map acc e c d.0) ∙ add_all_new-map (add_if_new eq_x acc e) es (add_if_new-within acc e c d.0) d.1

  add_all_new-within : (acc es : List X) → All D acc → All D es → All D (add_all_new eq_x acc es)
  add_all_new-within acc [] c d = c
  add_all_new-within acc (e ∷ es) c d = add_all_new-within (add_if_new eq_x acc e) es (add_if_new-within acc e c d.0) d.1

  numbers-map : (es ls : List X) → All D es → All D ls → map (λ e. index_of eq_y e (map σ ls)) (map σ es) ≡ map (λ e. index_of eq_x e ls) es
  numbers-map [] ls c d = refl
  numbers-map (e ∷ es) ls c d = cc (index_map eq_x eq_y σ D inj_x e ls c.0 d, numbers-map es ls c.1 d)

module _ {A B : Type 0} (eq_a : A → A → Bool) (eq_b : B → B → Bool) (ρ : A → B) (C : A → Type 0)
    (inj : (a b : A) → C a → C b → eq_b (ρ a) (ρ b) ≡ eq_a a b)
    {X Y : Type 0} (eq_x : X → X → Bool) (eq_y : Y → Y → Bool) (σ : X → Y) (D : X → Type 0) (inj_x : (e f : X) → D e → D f → eq_y (σ e) (σ f) ≡ eq_x e f)
    (one_a two_a : X → A) (len_a : X → ℕ) (one_b two_b : Y → B) (len_b : Y → ℕ) (ends : (e : X) → D e → C (one_a e) × C (two_a e))
    (ones : (e : X) → D e → one_b (σ e) ≡ ρ (one_a e)) (twos : (e : X) → D e → two_b (σ e) ≡ ρ (two_a e)) (lens : (e : X) → D e → len_b (σ e) ≡ len_a e)
    (inc_a : A → List X) (inc_b : B → List Y) (closed : (v : A) → C v → All D (inc_a v)) (carried : (v : A) → C v → inc_b (ρ v) ≡ map σ (inc_a v)) where
  all-within : (p : List A) → All C p → All D (concat (map inc_a p))
  all-within [] c = tt
  all-within (v ∷ p) c = All-append D (inc_a v) (concat (map inc_a p)) (closed v c.0) (all-within p c.1)

  all_map : (p : List A) → All C p → concat (map inc_b (map ρ p)) ≡ map σ (concat (map inc_a p))
  all_map [] c = refl
  all_map (v ∷ p) c =
      ap (λ (l : List Y). l ++ concat (map inc_b (map ρ p))) (carried v c.0)
      ∙ ap (λ (l : List Y). map σ (inc_a v) ++ l) (all_map p c.1)
      ∙ sym (map-append σ (inc_a v) (concat (map inc_a p)))

  abbrev seen_a : List A → List X
  seen_a p = visited_by eq_a eq_x one_a two_a len_a inc_a p

  visited_within : (p : List A) → All C p → All D (seen_a p)
  visited_within p c = add_all_new-within eq_x eq_y σ D inj_x [] (concat (map inc_a p)) tt (all-within p c)

  visited_map : (p : List A) → All C p → visited_by eq_b eq_y one_b two_b len_b inc_b (map ρ p) ≡ map σ (seen_a p)
  visited_map p c = ap (add_all_new eq_y []) (all_map p c) ∙ add_all_new-map eq_x eq_y σ D inj_x [] (concat (map inc_a p)) tt (all-within p c)

  -- a local edge is the same
  at_map : (e : X) (v : A) (w : B) → D e → C v → w ≡ ρ v → index_of eq_y (σ e) (inc_b w) ≡ index_of eq_x e (inc_a v)
  at_map e v w d c q = ap (λ (u : B). index_of eq_y (σ e) (inc_b u)) q ∙ ap (index_of eq_y (σ e)) (carried v c) ∙ index_map eq_x eq_y σ D inj_x e (inc_a v) d (closed v c)

  edge-map : (p : List A) → All C p → (e : X) → D e → edge_by eq_b eq_y one_b two_b len_b inc_b (map ρ p) (σ e) ≡ edge_by eq_a eq_x one_a two_a len_a inc_a p e
  edge-map p c e d =
      λ i. record {
        node1 = (ap (λ (u : B). index_of eq_b u (map ρ p)) (ones e d) ∙ index_map eq_a eq_b ρ C inj (one_a e) p (ends e d).0 c) i;
        node2 = (ap (λ (u : B). index_of eq_b u (map ρ p)) (twos e d) ∙ index_map eq_a eq_b ρ C inj (two_a e) p (ends e d).1 c) i;
        node2_in_node1 = at_map e (one_a e) (one_b (σ e)) d (ends e d).0 (ones e d) i;
        node1_in_node2 = at_map e (two_a e) (two_b (σ e)) d (ends e d).1 (twos e d) i;
        message_length = lens e d i;
      }

  edges-map : (p : List A) → All C p → (es : List X) → All D es
      → map (edge_by eq_b eq_y one_b two_b len_b inc_b (map ρ p)) (map σ es) ≡ map (edge_by eq_a eq_x one_a two_a len_a inc_a p) es
  edges-map p c [] d = refl
  edges-map p c (e ∷ es) d = cc (edge-map p c e d.0, edges-map p c es d.1)

  module _ (kind_a : A → Kind) (kind_b : B → Kind) (kinds : (v : A) → C v → kind_b (ρ v) ≡ kind_a v) where
    node-map : (ls : List X) → All D ls → (v : A) → C v → node_by eq_b eq_y one_b two_b len_b inc_b kind_b (map σ ls) (ρ v) ≡ node_by eq_a eq_x one_a two_a len_a inc_a kind_a ls v
    node-map ls d v c =
        λ i. record {
          kind = kinds v c i;
          edges = (ap (map (λ e. index_of eq_y e (map σ ls))) (carried v c) ∙ numbers-map eq_x eq_y σ D inj_x (inc_a v) ls (closed v c) d) i;
        }

    nodes-map : (ls : List X) → All D ls → (p : List A) → All C p
        → map (node_by eq_b eq_y one_b two_b len_b inc_b kind_b (map σ ls)) (map ρ p) ≡ map (node_by eq_a eq_x one_a two_a len_a inc_a kind_a ls) p
    nodes-map ls d [] c = refl
    nodes-map ls d (v ∷ p) c = cc (node-map ls d v c.0, nodes-map ls d p c.1)

    -- the local graph is the same, over any kind of edge
    pub subgraph_by-map : (p : List A) → All C p → subgraph_by eq_b eq_y one_b two_b len_b inc_b kind_b (map ρ p) ≡ subgraph_by eq_a eq_x one_a two_a len_a inc_a kind_a p
    unfolding subgraph_by
    subgraph_by-map p c =
        λ i. record {
          nodes = (ap (λ (l : List Y). map (node_by eq_b eq_y one_b two_b len_b inc_b kind_b l) (map ρ p)) (visited_map p c) ∙ nodes-map (seen_a p) (visited_within p c) p c) i;
          edges = (ap (map (edge_by eq_b eq_y one_b two_b len_b inc_b (map ρ p))) (visited_map p c) ∙ edges-map p c (seen_a p) (visited_within p c)) i;
        }

module _ {A B : Type 0} (eq_a : A → A → Bool) (eq_b : B → B → Bool) (ρ : A → B) (C : A → Type 0)
    (inj : (a b : A) → C a → C b → eq_b (ρ a) (ρ b) ≡ eq_a a b) where
  pub eq_edge-map : (e f : Edge A) → Ends C e → Ends C f → eq_edge eq_b (on_edge ρ e) (on_edge ρ f) ≡ eq_edge eq_a e f
  eq_edge-map e f c d = cc (inj e.node1 f.node1 c.0 d.0, inj e.node2 f.node2 c.1 d.1)

  pub is_incident-map : (v : A) (e : Edge A) → C v → Ends C e → is_incident eq_b (ρ v) (on_edge ρ e) ≡ is_incident eq_a v e
  is_incident-map v e c d = cc (inj v e.node1 c d.0, inj v e.node2 c d.1)

  pub other_map : (v : A) (e : Edge A) → C v → Ends C e → other_end eq_b (ρ v) (on_edge ρ e) ≡ ρ (other_end eq_a v e)
  other_map v e c d = rw (inj v e.node1 c d.0) (go (eq_a v e.node1))
    where
      go : (b : Bool) → cond b (ρ e.node2) (ρ e.node1) ≡ ρ (cond b e.node2 e.node1)
      go true = refl
      go false = refl

  pub other_within : (v : A) (e : Edge A) → Ends C e → C (other_end eq_a v e)
  other_within v e d = go (eq_a v e.node1)
    where
      go : (b : Bool) → C (cond b e.node2 e.node1)
      go true = d.1
      go false = d.0

  others-map : (v : A) (es : List (Edge A)) → C v → All (Ends C) es → map (other_end eq_b (ρ v)) (map (on_edge ρ) es) ≡ map ρ (map (other_end eq_a v) es)
  others-map v [] c d = refl
  others-map v (e ∷ es) c d = cc (other_map v e c d.0, others-map v es c d.1)

  -- the hypotheses: incident lists go to incident lists, and have both their ends in C
  module _ (es_a : List (Edge A)) (es_b : List (Edge B)) (closed : (v : A) → C v → All (Ends C) (incident_edges eq_a es_a v))
      (carried : (v : A) → C v → incident_edges eq_b es_b (ρ v) ≡ map (on_edge ρ) (incident_edges eq_a es_a v)) where
    pub stays : (v : A) → C v → All C (neighbours eq_a es_a v)
    stays v c = All-map-into C (other_end eq_a v) (incident_edges eq_a es_a v) (All-mono (Ends C) (λ e. C (other_end eq_a v e)) (other_within v) (incident_edges eq_a es_a v) (closed v c))

    pub carries : (v : A) → C v → neighbours eq_b es_b (ρ v) ≡ map ρ (neighbours eq_a es_a v)
    carries v c = ap (map (other_end eq_b (ρ v))) (carried v c) ∙ others-map v (incident_edges eq_a es_a v) c (closed v c)

    -- the local graph is the same
    pub subgraph-map : (kind_a : A → Kind) (kind_b : B → Kind) → ((v : A) → C v → kind_b (ρ v) ≡ kind_a v)
        → (p : List A) → All C p → subgraph eq_b kind_b es_b (map ρ p) ≡ subgraph eq_a kind_a es_a p
    unfolding subgraph subgraph_by
    subgraph-map kind_a kind_b kinds p c =
        subgraph_by-map eq_a eq_b ρ C inj (eq_edge eq_a) (eq_edge eq_b) (on_edge ρ) (Ends C) eq_edge-map
        (λ e. e.node1) (λ e. e.node2) (λ e. e.message_length) (λ e. e.node1) (λ e. e.node2) (λ e. e.message_length) (λ e d. d) (λ e d. refl) (λ e d. refl) (λ e d. refl)
        (incident_edges eq_a es_a) (incident_edges eq_b es_b) closed carried kind_a kind_b kinds p c
