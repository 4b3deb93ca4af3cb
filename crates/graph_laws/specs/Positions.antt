-- Each edge of a part names itself at its two stored positions.
use Rattle.std.specs.Prelude.{◌≡◌, Bool, true, false, cond, ◌||◌, ◌&&◌, ℕ, zero, suc, ◌+◌, ◌<◌, length, get_or, eqb}
use Rattle.std.proofs.Math.Path.{refl, subst}
use Rattle.std.proofs.Common.{sym, ap, ◌∙◌, true≢false, arith, length-append}
use Rattle.std.proofs.Math.Bool.{or-true, or-false}
use mathlib.Core.List.{List, [], ◌∷◌, ◌++◌, map, map-map, append_assoc}
use Rattle.std.proofs.lemmas.List.{length-map}
use Rattle.graph_laws.specs.Bools.{or_left, or_right, and_left, and_right, eqb_sound, eqb_same}
use Rattle.definition.specs.Lists.{concat, mem, index_of}
use Rattle.graph_laws.specs.Lists.{All, All-append, All-mono, All-both, All-filter, All-in, mem_self}
use Rattle.graph_laws.specs.Reach.{mem_append}
use Rattle.graph_laws.specs.Ranks.{NoDup, others, index_lt, get_d_map_index, mem-filter, All-concat-into}
use Rattle.graph_laws.specs.Partition.{nodup_append}
use Rattle.definition.specs.FactorGraph.{Edge, eq_edge, Kind}
use Rattle.definition.specs.Components.{SubgraphEdge, is_incident, incident_edges, add_if_new, add_all_new, component_edges, subgraph_node, subgraph_edge, subgraph}
use Rattle.graph_laws.specs.Components.{Holds, Both, ends_of_both}

-- the edges, the first of which has number k, name themselves in the incident lists `lists`
abbrev pub Named : List (List ℕ) → ℕ → List SubgraphEdge → Type 0
Named lists k [] = Unit {0}
Named lists k (e ∷ es) =
    (e.node1 < length lists) × (e.node2 < length lists) × (e.node2_in_node1 < length (get_or lists e.node1 [])) × (e.node1_in_node2 < length (get_or lists e.node2 []))
    × (get_or (get_or lists e.node1 []) e.node2_in_node1 0 ≡ k)
    × (get_or (get_or lists e.node2 []) e.node1_in_node2 0 ≡ k)
    × Named lists (suc k) es

module _ {A : Type 0} (eq : A → A → Bool) (sound : (a b : A) → eq a b ≡ true → a ≡ b) (same : (a : A) → eq a a ≡ true) where
  pub index_middle : (pre : List A) (e : A) (r : List A) → mem eq e pre ≡ false → index_of eq e (pre ++ e ∷ r) ≡ length pre
  index_middle [] e r h = rw (same e)
  index_middle (x ∷ pre) e r h = go (eq e x) h (index_middle pre e r)
    where
      go : (b : Bool) → (b || mem eq e pre) ≡ false → (mem eq e pre ≡ false → index_of eq e (pre ++ e ∷ r) ≡ length pre)
          → cond b zero (suc (index_of eq e (pre ++ e ∷ r))) ≡ suc (length pre)
      go true k f = absurd (true≢false k)
      go false k f = ap suc (f k)

  pub nodup_middle : (pre : List A) (e : A) (r : List A) → NoDup eq (pre ++ e ∷ r) → mem eq e pre ≡ false
  nodup_middle [] e r n = refl
  nodup_middle (x ∷ pre) e r n = go (eq e x) refl (nodup_middle pre e r n.1)
    where
      go : (b : Bool) → eq e x ≡ b → mem eq e pre ≡ false → (b || mem eq e pre) ≡ false
      go true q m =
          absurd (true≢false (sym (subst (λ (y : A). mem eq y (pre ++ e ∷ r) ≡ true) (sound e x q) (rw (mem_append eq e pre (e ∷ r), same e) (or-true (mem eq e pre)))) ∙ n.0))
      go false q m = m

module _ {A : Type 0} (eq : A → A → Bool) (sound : (a b : A) → eq a b ≡ true → a ≡ b) (same : (a : A) → eq a a ≡ true) where
  pub eq_edge_sound : (e f : Edge A) → eq_edge eq e f ≡ true → e ≡ f
  eq_edge_sound e f h =
      let h₁ : (eq e.node1 f.node1 && eq e.node2 f.node2) ≡ true = and_left (eq e.node1 f.node1 && eq e.node2 f.node2) (eqb e.message_length f.message_length) h in
      λ i. record {
        node1 = sound e.node1 f.node1 (and_left (eq e.node1 f.node1) (eq e.node2 f.node2) h₁) i;
        node2 = sound e.node2 f.node2 (and_right (eq e.node1 f.node1) (eq e.node2 f.node2) h₁) i;
        message_length = eqb_sound e.message_length f.message_length (and_right (eq e.node1 f.node1 && eq e.node2 f.node2) (eqb e.message_length f.message_length) h) i;
      }

  pub eq_edge-same : (e : Edge A) → eq_edge eq e e ≡ true
  eq_edge-same e = rw (same e.node1, same e.node2) (eqb_same e.message_length)

  -- what is seen first: no edge twice
  add_if_new_nodup : (acc : List (Edge A)) (e : Edge A) → NoDup (eq_edge eq) acc → NoDup (eq_edge eq) (add_if_new (eq_edge eq) acc e)
  add_if_new_nodup acc e n = go (mem (eq_edge eq) e acc) refl
    where
      go : (b : Bool) → mem (eq_edge eq) e acc ≡ b → NoDup (eq_edge eq) (cond b acc (acc ++ e ∷ []))
      go true q = n
      go false q =
          nodup_append (eq_edge eq) eq_edge_sound eq_edge-same acc (e ∷ []) n (refl, tt)
          (All-mono (λ a. eq_edge eq a e ≡ false) (λ a. mem (eq_edge eq) a (e ∷ []) ≡ false) (λ a k. k' (eq_edge eq a e) k) acc (others (eq_edge eq) eq_edge_sound eq_edge-same e acc q))
        where
          k' : (b : Bool) → b ≡ false → (b || false) ≡ false
          k' b h = or-false b ∙ h

  pub add_all_new_nodup : (acc es : List (Edge A)) → NoDup (eq_edge eq) acc → NoDup (eq_edge eq) (add_all_new (eq_edge eq) acc es)
  add_all_new_nodup acc [] n = n
  add_all_new_nodup acc (e ∷ es) n = add_all_new_nodup (add_if_new (eq_edge eq) acc e) es (add_if_new_nodup acc e n)

  add_all_new-all : (P : Edge A → Type 0) (acc es : List (Edge A)) → All P acc → All P es → All P (add_all_new (eq_edge eq) acc es)
  add_all_new-all P acc [] h k = h
  add_all_new-all P acc (e ∷ es) h k = add_all_new-all P (add_if_new (eq_edge eq) acc e) es (go (mem (eq_edge eq) e acc)) k.1
    where
      go : (b : Bool) → All P (cond b acc (acc ++ e ∷ []))
      go true = h
      go false = All-append P acc (e ∷ []) h (k.0, tt)

  module _ (es : List (Edge A)) (p : List A) (both : All (Both eq p) es) where
    abbrev pub Good : Edge A → Type 0
    Good e = (mem (eq_edge eq) e es ≡ true) × (Holds eq p e.node1 × Holds eq p e.node2)

    pub visited_good : All Good (component_edges eq es p)
    visited_good =
        add_all_new-all Good [] (concat (map (incident_edges eq es) p)) tt
        (All-concat-into Good (incident_edges eq es) p
        (All-in eq same (λ v. All Good (incident_edges eq es v)) p
        (λ v h.
        All-both (λ e. mem (eq_edge eq) e es ≡ true) (λ e. Holds eq p e.node1 × Holds eq p e.node2) (incident_edges eq es v)
        (All-filter (λ e. mem (eq_edge eq) e es ≡ true) (is_incident eq v) es (mem_self (eq_edge eq) eq_edge-same es))
        (ends_of_both eq sound same p es both v h))))

    abbrev ls : List (Edge A)
    ls = component_edges eq es p

    row : A → List ℕ
    row v = map (λ e. index_of (eq_edge eq) e ls) (incident_edges eq es v)

    in_list : (e : Edge A) → Good e → (v : A) → is_incident eq v e ≡ true → mem (eq_edge eq) e (incident_edges eq es v) ≡ true
    in_list e g v t = mem-filter (eq_edge eq) eq_edge_sound eq_edge-same (is_incident eq v) e es ∙ rw (g.0, t)

    row_at : (v : A) → Holds eq p v → get_or (map row p) (index_of eq v p) [] ≡ row v
    row_at v h = get_d_map_index eq sound same row [] v p h

    spot : (e : Edge A) → Good e → (v : A) → is_incident eq v e ≡ true
        → (index_of (eq_edge eq) e (incident_edges eq es v) < length (row v)) × (get_or (row v) (index_of (eq_edge eq) e (incident_edges eq es v)) 0 ≡ index_of (eq_edge eq) e ls)
    unfolding row
    spot e g v t = (
      rw (length-map (incident_edges eq es v) (λ f. index_of (eq_edge eq) f ls)) (index_lt (eq_edge eq) eq_edge_sound eq_edge-same e (incident_edges eq es v) (in_list e g v t)),
      get_d_map_index (eq_edge eq) eq_edge_sound eq_edge-same (λ f. index_of (eq_edge eq) f ls) 0 e (incident_edges eq es v) (in_list e g v t),
    )

    names_from : (pre rest : List (Edge A)) → ls ≡ pre ++ rest → All Good rest → Named (map row p) (length pre) (map (subgraph_edge eq es p) rest)
    names_from pre [] o g = tt
    names_from pre (e ∷ rest) o g =
        let k : index_of (eq_edge eq) e ls ≡ length pre =
        ap (index_of (eq_edge eq) e) o
        ∙ index_middle (eq_edge eq) eq_edge_sound eq_edge-same pre e rest
        (nodup_middle (eq_edge eq) eq_edge_sound eq_edge-same pre e rest
        (subst (NoDup (eq_edge eq)) o (add_all_new_nodup [] (concat (map (incident_edges eq es) p)) tt)))
        in
        let t₁ : is_incident eq e.node1 e ≡ true = or_left (eq e.node1 e.node1) (eq e.node1 e.node2) (same e.node1) in
        let t₂ : is_incident eq e.node2 e ≡ true = or_right (eq e.node2 e.node1) (eq e.node2 e.node2) (same e.node2) in
        let s₁ = spot e g.0 e.node1 t₁ in
        let s₂ = spot e g.0 e.node2 t₂ in (
          rw (length-map p row) (index_lt eq sound same e.node1 p g.0.1.0),
          rw (length-map p row) (index_lt eq sound same e.node2 p g.0.1.1),
          rw (row_at e.node1 g.0.1.0) s₁.0,
          rw (row_at e.node2 g.0.1.1) s₂.0,
          rw (row_at e.node1 g.0.1.0) (s₁.1 ∙ k),
          rw (row_at e.node2 g.0.1.1) (s₂.1 ∙ k),
          subst (λ (n : ℕ). Named (map row p) n (map (subgraph_edge eq es p) rest)) (length-append pre (e ∷ []) ∙ plus (length pre))
              (names_from (pre ++ e ∷ []) rest (o ∙ sym (append_assoc pre (e ∷ []) rest)) g.1),
        )
      where
        plus : (n : ℕ) → n + 1 ≡ suc n
        plus n = omega arith

    -- each edge names itself
    pub names_itself : (kind : A → Kind) → Named (map (λ n. n.edges) (subgraph eq kind es p).nodes) 0 (subgraph eq kind es p).edges
    unfolding subgraph row
    names_itself kind =
        subst (λ (l : List (List ℕ)). Named l 0 (map (subgraph_edge eq es p) ls)) (sym (map-map (λ n. n.edges) (subgraph_node eq kind es ls) p))
        (names_from [] ls refl visited_good)
