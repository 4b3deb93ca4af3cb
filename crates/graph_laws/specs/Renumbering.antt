-- The renumbering: the nodes and edges of a part, by their new numbers, are the nodes and edges of the part entered by itself.
use Rattle.std.specs.Prelude.{◌≡◌, Bool, true, cond, ◌||◌, ◌&&◌, leb}
use Rattle.std.proofs.Math.Path.{refl, sym, ap}
use Rattle.std.proofs.Common.{◌∙◌, true≢false}
use Rattle.std.proofs.Math.Bool.{false}
use mathlib.Core.List.{List, [], ◌∷◌, ◌++◌, map, map-map, map-append}
use Prim.Native.Nat.{ℕ, suc, ◌<◌}
use Rattle.std.proofs.Math.ListN.{length, get_or}
use Rattle.std.proofs.lemmas.List.{length-map}
use Rattle.std.proofs.Math.Dec.{eqb}
use Rattle.graph_laws.specs.Bools.{not-true, and_left, and_right, eqb_sound, eqb_same}
use Rattle.definition.specs.Lists.{cons_if, filter, concat, mem, index_of}
use Rattle.graph_laws.specs.Lists.{All, upto, All-append, All-left, All-right, All-map-into, All-map-from, All-mono, All-both, All-every, All-filter, All-at, All-in, filter_append, filter_map, filter_cong, filter_none, filter_holds, map_cong}
use Rattle.graph_laws.specs.Ranks.{mem-upto, mem-filter, index_lt, index_inj, get_d_map_index, map_index, filter_nodup, upto_nodup, All-concat-from, filter-concat, concat-filter, map-concat}
use Rattle.definition.specs.FactorGraph.{Edge, Bale, Pair, Node, grade_node, factor_node, input_node, tree_node, eq_node, grades_of, has_tree, edge, marker_edges, marker_numbers, built_nodes, built_edges, factor, input, tree, kind_of, no_evidence}
use Rattle.definition.specs.Components.{is_incident, incident_edges}
use Rattle.definition.specs.PartAlone.{grades_in, markers_in, pairs_in, renumbered, part_alone}
use Rattle.graph_laws.specs.Components.{Holds, Both, keep_head, keep_tail}
use Rattle.graph_laws.specs.Isomorphism.{on_edge, is_incident-map}
use Rattle.graph_laws.specs.Names.{eq_node_sound, Valid, node-grade, node-factor, node_input, node-tree}

-- a node's name in the part entered by itself
abbrev pub name : List ℕ → List ℕ → Node → Node
name gs ms (grade_node g) = grade_node (index_of eqb g gs)
name gs ms (factor_node m) = factor_node (index_of eqb m ms)
name gs ms (input_node m) = input_node (index_of eqb m ms)
name gs ms (tree_node m) = tree_node (index_of eqb m ms)

-- the edges of a marker, renamed
pub marker_edges_named : (gs ms : List ℕ) (m : ℕ) (hs : List ℕ) → marker_edges (index_of eqb m ms) (map (λ g. index_of eqb g gs) hs) ≡ map (on_edge (name gs ms)) (marker_edges m hs)
marker_edges_named gs ms m hs = rw (length-map hs (λ g. index_of eqb g gs)) (go (has_tree hs))
  where
    r : ℕ → ℕ
    r g = index_of eqb g gs

    k : ℕ
    k = index_of eqb m ms

    σ : Edge Node → Edge Node
    σ = on_edge (name gs ms)

    tail : (f f' : ℕ → Edge Node) → ((g : ℕ) → f' (r g) ≡ σ (f g)) → map f' (map r hs) ++ edge (input_node k) (factor_node k) 2 ∷ [] ≡ map σ (map f hs ++ edge (input_node m) (factor_node m) 2 ∷ [])
    tail f f' h =
        ap (λ (l : List (Edge Node)). l ++ edge (input_node k) (factor_node k) 2 ∷ [])
        (map-map f' r hs ∙ map_cong (λ g. f' (r g)) (λ g. σ (f g)) hs (All-every (λ g. f' (r g) ≡ σ (f g)) h hs) ∙ sym (map-map σ f hs))
        ∙ sym (map-append σ (map f hs) (edge (input_node m) (factor_node m) 2 ∷ []))

    go : (c : Bool)
        → cond c
        (edge (tree_node k) (factor_node k) (suc (length hs)) ∷ map (λ g. edge (tree_node k) (grade_node g) 2) (map r hs) ++ edge (input_node k) (factor_node k) 2 ∷ [])
        (map (λ g. edge (grade_node g) (factor_node k) 2) (map r hs) ++ edge (input_node k) (factor_node k) 2 ∷ [])
        ≡ map σ
        (cond c
        (edge (tree_node m) (factor_node m) (suc (length hs)) ∷ map (λ g. edge (tree_node m) (grade_node g) 2) hs ++ edge (input_node m) (factor_node m) 2 ∷ [])
        (map (λ g. edge (grade_node g) (factor_node m) 2) hs ++ edge (input_node m) (factor_node m) 2 ∷ []))
    go true =
        ap (λ (l : List (Edge Node)). edge (tree_node k) (factor_node k) (suc (length hs)) ∷ l)
        (tail (λ g. edge (tree_node m) (grade_node g) 2) (λ g. edge (tree_node k) (grade_node g) 2) (λ g. refl))
    go false = tail (λ g. edge (grade_node g) (factor_node m) 2) (λ g. edge (grade_node g) (factor_node k) 2) (λ g. refl)

-- the nodes of marker m are in p with its factor or not at all
pub record Tied (p : List Node) (m : ℕ) (hs : List ℕ) : Type 0 where
  pub of_grades : All (λ g. mem eq_node (grade_node g) p ≡ mem eq_node (factor_node m) p) hs
  pub of_input : mem eq_node (input_node m) p ≡ mem eq_node (factor_node m) p
  pub of_tree : has_tree hs ≡ true → mem eq_node (tree_node m) p ≡ mem eq_node (factor_node m) p

abbrev pub Near : List Node → ℕ → Edge Node → Type 0
Near p m e = (mem eq_node e.node1 p ≡ mem eq_node (factor_node m) p) × (mem eq_node e.node2 p ≡ mem eq_node (factor_node m) p)

module _ (p : List Node) (m : ℕ) (hs : List ℕ) where
  abbrev last : List (Edge Node)
  last = edge (input_node m) (factor_node m) 2 ∷ []

  pub tied : All (Both eq_node p) (marker_edges m hs) → Tied p m hs
  tied h = go (has_tree hs) refl h
    where
      go : (c : Bool) → has_tree hs ≡ c
          → All (Both eq_node p)
          (cond c (edge (tree_node m) (factor_node m) (suc (length hs)) ∷ map (λ g. edge (tree_node m) (grade_node g) 2) hs ++ last) (map (λ g. edge (grade_node g) (factor_node m) 2) hs ++ last))
          → Tied p m hs
      go true e k =
          record {
            of_grades =
                All-mono (λ g. mem eq_node (tree_node m) p ≡ mem eq_node (grade_node g) p) (λ g. mem eq_node (grade_node g) p ≡ mem eq_node (factor_node m) p) (λ g q. sym q ∙ k.0) hs
                (All-map-from (Both eq_node p) (λ g. edge (tree_node m) (grade_node g) 2) hs (All-left (Both eq_node p) (map (λ g. edge (tree_node m) (grade_node g) 2) hs) last k.1));
            of_input = (All-right (Both eq_node p) (map (λ g. edge (tree_node m) (grade_node g) 2) hs) last k.1).0;
            of_tree = λ t. k.0;
          }
      go false e k =
          record {
            of_grades = All-map-from (Both eq_node p) (λ g. edge (grade_node g) (factor_node m) 2) hs (All-left (Both eq_node p) (map (λ g. edge (grade_node g) (factor_node m) 2) hs) last k);
            of_input = (All-right (Both eq_node p) (map (λ g. edge (grade_node g) (factor_node m) 2) hs) last k).0;
            of_tree = λ t. absurd (true≢false (sym t ∙ e));
          }

  pub near : Tied p m hs → All (Near p m) (marker_edges m hs)
  near t = go (has_tree hs) t.of_tree
    where
      go : (c : Bool) → (c ≡ true → mem eq_node (tree_node m) p ≡ mem eq_node (factor_node m) p)
          → All (Near p m)
          (cond c (edge (tree_node m) (factor_node m) (suc (length hs)) ∷ map (λ g. edge (tree_node m) (grade_node g) 2) hs ++ last) (map (λ g. edge (grade_node g) (factor_node m) 2) hs ++ last))
      go true f = (
        (f refl, refl),
        All-append (Near p m) (map (λ g. edge (tree_node m) (grade_node g) 2) hs) last
            (All-map-into (Near p m) (λ g. edge (tree_node m) (grade_node g) 2) hs
            (All-mono (λ g. mem eq_node (grade_node g) p ≡ mem eq_node (factor_node m) p) (λ g. Near p m (edge (tree_node m) (grade_node g) 2)) (λ g q. (f refl, q)) hs t.of_grades))
            ((t.of_input, refl), tt),
      )
      go false f =
          All-append (Near p m) (map (λ g. edge (grade_node g) (factor_node m) 2) hs) last
          (All-map-into (Near p m) (λ g. edge (grade_node g) (factor_node m) 2) hs
          (All-mono (λ g. mem eq_node (grade_node g) p ≡ mem eq_node (factor_node m) p) (λ g. Near p m (edge (grade_node g) (factor_node m) 2)) (λ g q. (q, refl)) hs t.of_grades))
          ((t.of_input, refl), tt)

filter_swap : (f g h : ℕ → Bool) (xs : List ℕ) → All (λ x. f x ≡ true → h x ≡ g x) xs → filter f (filter g xs) ≡ filter h (filter f xs)
filter_swap f g h [] k = refl
filter_swap f g h (x ∷ xs) k = go (f x) (g x) (h x) refl refl refl k.0 (filter_swap f g h xs k.1)
  where
    go : (a b c : Bool) → f x ≡ a → g x ≡ b → h x ≡ c → (f x ≡ true → h x ≡ g x) → filter f (filter g xs) ≡ filter h (filter f xs)
        → filter f (cons_if b x (filter g xs)) ≡ filter h (cons_if a x (filter f xs))
    go true true true p q r t s = rw (p, r) (ap (λ (l : List ℕ). x ∷ l) s)
    go true true false p q r t s = absurd (true≢false (sym q ∙ sym (t p) ∙ r))
    go true false true p q r t s = absurd (true≢false (sym r ∙ t p ∙ q))
    go true false false p q r t s = rw r s
    go false true true p q r t s = rw p s
    go false true false p q r t s = rw p s
    go false false true p q r t s = s
    go false false false p q r t s = s

-- from the grades of each marker to each pair
pairs_of_lem : (R : ℕ → ℕ → Type 0) (M : ℕ) (ps : List Pair) → ((m : ℕ) → m < M → All (λ g. R g m) (grades_of ps m)) → All (λ q. q.marker < M) ps → All (λ q. R q.grade q.marker) ps
pairs_of_lem R M [] h k = tt
pairs_of_lem R M (q ∷ ps) h k = (
  keep_head (λ g. R g q.marker) (λ r. r.grade) q (filter (λ r. eqb r.marker q.marker) ps) (eqb q.marker q.marker) (eqb_same q.marker) (h q.marker k.0),
  pairs_of_lem R M ps (λ m l. keep_tail (λ g. R g m) (λ r. r.grade) q (filter (λ r. eqb r.marker m) ps) (eqb q.marker m) (h m l)) k.1,
)

module _ (b : Bale) (valid : Valid b) (p : List Node) (both : All (Both eq_node p) (built_edges b))
    (in_nodes : All (Holds eq_node (built_nodes b)) p) where
  abbrev gs : List ℕ
  gs = grades_in b p

  abbrev ms : List ℕ
  ms = markers_in b p

  abbrev ρ : Node → Node
  ρ = name (grades_in b p) (markers_in b p)

  pub tied_at : (m : ℕ) → mem eqb m (marker_numbers b) ≡ true → Tied p m (grades_of b.pairs m)
  tied_at m h =
      tied p m (grades_of b.pairs m)
      (All-at eqb eqb_sound (λ k. All (Both eq_node p) (marker_edges k (grades_of b.pairs k))) (marker_numbers b)
      (All-concat-from (Both eq_node p) (λ k. marker_edges k (grades_of b.pairs k)) (marker_numbers b) both) m h)

  pub pairs_tied : All (λ q. mem eq_node (grade_node q.grade) p ≡ mem eq_node (factor_node q.marker) p) b.pairs
  pairs_tied =
      pairs_of_lem (λ g m. mem eq_node (grade_node g) p ≡ mem eq_node (factor_node m) p) (length b.markers) b.pairs
      (λ m l. (tied_at m (mem-upto (length b.markers) m l)).of_grades)
      (All-mono (λ q. (q.grade < b.grades) × (q.marker < length b.markers)) (λ q. q.marker < length b.markers) (λ q h. h.1) b.pairs valid)

  -- which numbers are in the part
  mem-ms : (m : ℕ) → mem eqb m ms ≡ (mem eqb m (marker_numbers b) && mem eq_node (factor_node m) p)
  mem-ms m = mem-filter eqb eqb_sound eqb_same (λ k. mem eq_node (factor_node k) p) m (marker_numbers b)

  ms_marker : (m : ℕ) → mem eqb m ms ≡ true → mem eqb m (marker_numbers b) ≡ true
  ms_marker m h = and_left (mem eqb m (marker_numbers b)) (mem eq_node (factor_node m) p) (sym (mem-ms m) ∙ h)

  ms-factor : (m : ℕ) → mem eqb m ms ≡ true → Holds eq_node p (factor_node m)
  ms-factor m h = and_right (mem eqb m (marker_numbers b)) (mem eq_node (factor_node m) p) (sym (mem-ms m) ∙ h)

  pub to-ms : (m : ℕ) → mem eqb m (marker_numbers b) ≡ true → Holds eq_node p (factor_node m) → mem eqb m ms ≡ true
  to-ms m h k = mem-ms m ∙ rw (h, k)

  is-node : (v : Node) → Holds eq_node p v → Holds eq_node (built_nodes b) v
  is-node v h = All-at eq_node eq_node_sound (Holds eq_node (built_nodes b)) p in_nodes v h

  pub of_grade_lem : (g : ℕ) → Holds eq_node p (grade_node g) → mem eqb g gs ≡ true
  of_grade_lem g h =
      mem-filter eqb eqb_sound eqb_same (λ k. mem eq_node (grade_node k) p) g (upto b.grades)
      ∙ rw (sym (node-grade b g) ∙ is-node (grade_node g) h, h)

  pub of_factor : (m : ℕ) → Holds eq_node p (factor_node m) → mem eqb m ms ≡ true
  of_factor m h = to-ms m (sym (node-factor b m) ∙ is-node (factor_node m) h) h

  pub of_input_lem : (m : ℕ) → Holds eq_node p (input_node m) → mem eqb m ms ≡ true
  of_input_lem m h =
      let k : mem eqb m (marker_numbers b) ≡ true = sym (node_input b m) ∙ is-node (input_node m) h in
      to-ms m k (sym (tied_at m k).of_input ∙ h)

  pub of_tree_lem : (m : ℕ) → Holds eq_node p (tree_node m) → mem eqb m ms ≡ true
  of_tree_lem m h =
      let t : (mem eqb m (marker_numbers b) && has_tree (grades_of b.pairs m)) ≡ true = sym (node-tree b m) ∙ is-node (tree_node m) h in
      let k : mem eqb m (marker_numbers b) ≡ true = and_left (mem eqb m (marker_numbers b)) (has_tree (grades_of b.pairs m)) t in
      to-ms m k (sym ((tied_at m k).of_tree (and_right (mem eqb m (marker_numbers b)) (has_tree (grades_of b.pairs m)) t)) ∙ h)

  -- the new names differ where the old do
  pub name_inj : (v w : Node) → Holds eq_node p v → Holds eq_node p w → eq_node (ρ v) (ρ w) ≡ eq_node v w
  name_inj (grade_node a) (grade_node c) h k = index_inj eqb eqb_sound eqb_same a c gs (of_grade_lem a h) (of_grade_lem c k)
  name_inj (grade_node a) (factor_node c) h k = refl
  name_inj (grade_node a) (input_node c) h k = refl
  name_inj (grade_node a) (tree_node c) h k = refl
  name_inj (factor_node a) (grade_node c) h k = refl
  name_inj (factor_node a) (factor_node c) h k = index_inj eqb eqb_sound eqb_same a c ms (of_factor a h) (of_factor c k)
  name_inj (factor_node a) (input_node c) h k = refl
  name_inj (factor_node a) (tree_node c) h k = refl
  name_inj (input_node a) (grade_node c) h k = refl
  name_inj (input_node a) (factor_node c) h k = refl
  name_inj (input_node a) (input_node c) h k = index_inj eqb eqb_sound eqb_same a c ms (of_input_lem a h) (of_input_lem c k)
  name_inj (input_node a) (tree_node c) h k = refl
  name_inj (tree_node a) (grade_node c) h k = refl
  name_inj (tree_node a) (factor_node c) h k = refl
  name_inj (tree_node a) (input_node c) h k = refl
  name_inj (tree_node a) (tree_node c) h k = index_inj eqb eqb_sound eqb_same a c ms (of_tree_lem a h) (of_tree_lem c k)

  -- the grades of a marker, renamed, are those of the renamed marker
  grades_go : (m : ℕ) → mem eqb m ms ≡ true → (ps : List Pair)
      → All (λ q. mem eq_node (grade_node q.grade) p ≡ mem eq_node (factor_node q.marker) p) ps → All (λ q. q.marker < length b.markers) ps
      → grades_of (map (renumbered gs ms) (filter (λ q. mem eq_node (grade_node q.grade) p) ps)) (index_of eqb m ms) ≡ map (λ g. index_of eqb g gs) (grades_of ps m)
  grades_go m h [] t l = refl
  grades_go m h (q ∷ ps) t l = go (mem eq_node (grade_node q.grade) p) refl (grades_go m h ps t.1 l.1)
    where
      k : ℕ
      k = index_of eqb m ms

      sel : List Pair
      sel = filter (λ r. mem eq_node (grade_node r.grade) p) ps

      step : (c : Bool) → grades_of (map (renumbered gs ms) sel) k ≡ map (λ g. index_of eqb g gs) (grades_of ps m)
          → map (λ r. r.grade) (cons_if c (renumbered gs ms q) (filter (λ r. eqb r.marker k) (map (renumbered gs ms) sel)))
          ≡ map (λ g. index_of eqb g gs) (map (λ r. r.grade) (cons_if c q (filter (λ r. eqb r.marker m) ps)))
      step true r = ap (λ (x : List ℕ). index_of eqb q.grade gs ∷ x) r
      step false r = r

      go : (c : Bool) → mem eq_node (grade_node q.grade) p ≡ c → grades_of (map (renumbered gs ms) sel) k ≡ map (λ g. index_of eqb g gs) (grades_of ps m)
          → grades_of (map (renumbered gs ms) (cons_if c q sel)) k ≡ map (λ g. index_of eqb g gs) (grades_of (q ∷ ps) m)
      go true e r =
          let i : mem eqb q.marker ms ≡ true = to-ms q.marker (mem-upto (length b.markers) q.marker l.0) (sym t.0 ∙ e) in
          rw (index_inj eqb eqb_sound eqb_same q.marker m ms i h) (step (eqb q.marker m) r)
      go false e r =
          let n : eqb q.marker m ≡ false =
          not-true (eqb q.marker m)
          (λ x. true≢false (sym (ms-factor m h) ∙ sym (ap (λ (y : ℕ). mem eq_node (factor_node y) p) (eqb_sound q.marker m x)) ∙ sym t.0 ∙ e))
          in
          rw n r

  pub grades_renamed : (m : ℕ) → mem eqb m ms ≡ true → grades_of (map (renumbered gs ms) (pairs_in b p)) (index_of eqb m ms) ≡ map (λ g. index_of eqb g gs) (grades_of b.pairs m)
  grades_renamed m h =
      grades_go m h b.pairs pairs_tied
      (All-mono (λ q. (q.grade < b.grades) × (q.marker < length b.markers)) (λ q. q.marker < length b.markers) (λ q k. k.1) b.pairs valid)

  -- the numbers of the part entered by itself
  pub new-grades : upto (length gs) ≡ map (λ g. index_of eqb g gs) gs
  new-grades = sym (map_index eqb eqb_sound eqb_same gs (filter_nodup eqb eqb_sound eqb_same (λ g. mem eq_node (grade_node g) p) (upto b.grades) (upto_nodup b.grades)))

  pub new_markers : upto (length ms) ≡ map (λ m. index_of eqb m ms) ms
  new_markers =
      sym (map_index eqb eqb_sound eqb_same ms (filter_nodup eqb eqb_sound eqb_same (λ m. mem eq_node (factor_node m) p) (marker_numbers b) (upto_nodup (length b.markers))))

  near_at : (m : ℕ) → mem eqb m (marker_numbers b) ≡ true → All (Near p m) (marker_edges m (grades_of b.pairs m))
  near_at m h = near p m (grades_of b.pairs m) (tied_at m h)

  -- what is incident to v, marker by marker
  abbrev S : Node → ℕ → List (Edge Node)
  S v m = filter (is_incident eq_node v) (marker_edges m (grades_of b.pairs m))

  S-out : (v : Node) → Holds eq_node p v → (m : ℕ) → mem eqb m (marker_numbers b) ≡ true → mem eq_node (factor_node m) p ≡ false → S v m ≡ []
  S-out v h m k f =
      filter_none (is_incident eq_node v) (marker_edges m (grades_of b.pairs m))
      (All-mono (Near p m) (λ e. is_incident eq_node v e ≡ false) (λ e n. not-true (is_incident eq_node v e) (λ t. go e n (eq_node v e.node1) refl t))
      (marker_edges m (grades_of b.pairs m)) (near_at m k))
    where
      at : (w : Node) → eq_node v w ≡ true → mem eq_node w p ≡ mem eq_node (factor_node m) p → ⊥
      at w q n = true≢false (sym h ∙ ap (λ (x : Node). mem eq_node x p) (eq_node_sound v w q) ∙ n ∙ f)

      go : (e : Edge Node) → Near p m e → (c : Bool) → eq_node v e.node1 ≡ c → (c || eq_node v e.node2) ≡ true → ⊥
      go e n true q t = at e.node1 q n.0
      go e n false q t = at e.node2 t n.1

  S-in : (v : Node) → Holds eq_node p v → (m : ℕ) → mem eqb m ms ≡ true
      → filter (is_incident eq_node (ρ v)) (marker_edges (index_of eqb m ms) (grades_of (map (renumbered gs ms) (pairs_in b p)) (index_of eqb m ms))) ≡ map (on_edge ρ) (S v m)
  S-in v h m k =
      ap (λ (l : List ℕ). filter (is_incident eq_node (ρ v)) (marker_edges (index_of eqb m ms) l)) (grades_renamed m k)
      ∙ ap (filter (is_incident eq_node (ρ v))) (marker_edges_named gs ms m (grades_of b.pairs m))
      ∙ filter_map (on_edge ρ) (is_incident eq_node (ρ v)) (marker_edges m (grades_of b.pairs m))
      ∙ ap (map (on_edge ρ))
      (filter_cong (λ e. is_incident eq_node (ρ v) (on_edge ρ e)) (is_incident eq_node v) (marker_edges m (grades_of b.pairs m))
      (All-mono (Near p m) (λ e. is_incident eq_node (ρ v) (on_edge ρ e) ≡ is_incident eq_node v e)
      (λ e n. is_incident-map eq_node eq_node ρ (Holds eq_node p) name_inj v e h (n.0 ∙ ms-factor m k, n.1 ∙ ms-factor m k))
      (marker_edges m (grades_of b.pairs m)) (near_at m (ms_marker m k))))

  -- incident lists go to incident lists
  pub carried : (v : Node) → Holds eq_node p v → incident_edges eq_node (built_edges (part_alone b p)) (ρ v) ≡ map (on_edge ρ) (incident_edges eq_node (built_edges b) v)
  unfolding part_alone
  carried v h =
      ap (λ (n : ℕ). incident_edges eq_node (concat (map (λ j. marker_edges j (grades_of (map (renumbered gs ms) (pairs_in b p)) j)) (upto n))) (ρ v)) (length-map ms (λ m. get_or b.markers m no_evidence))
      ∙ filter-concat (is_incident eq_node (ρ v)) (λ j. marker_edges j (grades_of (map (renumbered gs ms) (pairs_in b p)) j)) (upto (length ms))
      ∙ ap (λ (l : List ℕ). concat (map new l)) new_markers
      ∙ ap concat (map-map new (λ m. index_of eqb m ms) ms)
      ∙ ap concat
      (map_cong (λ m. new (index_of eqb m ms)) (λ m. map (on_edge ρ) (S v m)) ms
      (All-in eqb eqb_same (λ m. new (index_of eqb m ms) ≡ map (on_edge ρ) (S v m)) ms (S-in v h)))
      ∙ map-concat (on_edge ρ) (S v) ms
      ∙ ap (map (on_edge ρ))
      (concat-filter (λ m. mem eq_node (factor_node m) p) (S v) (marker_numbers b)
      (All-in eqb eqb_same (λ m. mem eq_node (factor_node m) p ≡ false → S v m ≡ []) (marker_numbers b) (S-out v h)))
      ∙ ap (map (on_edge ρ)) (sym (filter-concat (is_incident eq_node v) (λ m. marker_edges m (grades_of b.pairs m)) (marker_numbers b)))
    where
      new : ℕ → List (Edge Node)
      new j = filter (is_incident eq_node (ρ v)) (marker_edges j (grades_of (map (renumbered gs ms) (pairs_in b p)) j))

  new-lengths : upto (length (map (λ m. get_or b.markers m no_evidence) ms)) ≡ map (λ m. index_of eqb m ms) ms
  new-lengths = ap upto (length-map ms (λ m. get_or b.markers m no_evidence)) ∙ new_markers

  abbrev In : Node → Bool
  In v = mem eq_node v p

  nodes-grade : map grade_node (upto (length gs)) ≡ map ρ (filter In (map grade_node (upto b.grades)))
  nodes-grade =
      ap (map grade_node) new-grades ∙ map-map grade_node (λ g. index_of eqb g gs) gs ∙ sym (map-map ρ grade_node gs)
      ∙ ap (map ρ) (sym (filter_map grade_node In (upto b.grades)))

  nodes-factor : map factor_node (map (λ m. index_of eqb m ms) ms) ≡ map ρ (filter In (map factor_node (marker_numbers b)))
  nodes-factor =
      map-map factor_node (λ m. index_of eqb m ms) ms ∙ sym (map-map ρ factor_node ms) ∙ ap (map ρ) (sym (filter_map factor_node In (marker_numbers b)))

  nodes_input : map input_node (map (λ m. index_of eqb m ms) ms) ≡ map ρ (filter In (map input_node (marker_numbers b)))
  nodes_input =
      map-map input_node (λ m. index_of eqb m ms) ms ∙ sym (map-map ρ input_node ms)
      ∙ ap (λ (l : List ℕ). map ρ (map input_node l))
      (filter_cong (λ m. mem eq_node (factor_node m) p) (λ m. mem eq_node (input_node m) p) (marker_numbers b)
      (All-in eqb eqb_same (λ m. mem eq_node (factor_node m) p ≡ mem eq_node (input_node m) p) (marker_numbers b) (λ m h. sym (tied_at m h).of_input)))
      ∙ ap (map ρ) (sym (filter_map input_node In (marker_numbers b)))

  -- has a marker of the part entered by itself a tree
  abbrev tree' : ℕ → Bool
  tree' j = has_tree (grades_of (map (renumbered gs ms) (pairs_in b p)) j)

  nodes-tree : map tree_node (filter tree' (map (λ m. index_of eqb m ms) ms))
      ≡ map ρ (filter In (map tree_node (filter (λ m. has_tree (grades_of b.pairs m)) (marker_numbers b))))
  nodes-tree =
      ap (map tree_node) (filter_map (λ m. index_of eqb m ms) tree' ms)
      ∙ map-map tree_node (λ m. index_of eqb m ms) (filter (λ m. tree' (index_of eqb m ms)) ms)
      ∙ sym (map-map ρ tree_node (filter (λ m. tree' (index_of eqb m ms)) ms))
      ∙ ap (λ (l : List ℕ). map ρ (map tree_node l))
      (filter_cong (λ m. tree' (index_of eqb m ms)) (λ m. has_tree (grades_of b.pairs m)) ms
      (All-in eqb eqb_same (λ m. tree' (index_of eqb m ms) ≡ has_tree (grades_of b.pairs m)) ms
      (λ m h. ap has_tree (grades_renamed m h) ∙ ap (leb 2) (length-map (grades_of b.pairs m) (λ g. index_of eqb g gs))))
      ∙ filter_swap (λ m. has_tree (grades_of b.pairs m)) (λ m. mem eq_node (factor_node m) p) (λ m. mem eq_node (tree_node m) p) (marker_numbers b)
      (All-in eqb eqb_same (λ m. has_tree (grades_of b.pairs m) ≡ true → mem eq_node (tree_node m) p ≡ mem eq_node (factor_node m) p) (marker_numbers b)
      (λ m h. (tied_at m h).of_tree)))
      ∙ ap (map ρ) (sym (filter_map tree_node In (filter (λ m. has_tree (grades_of b.pairs m)) (marker_numbers b))))

  -- nodes go to nodes, in order
  pub new-nodes : built_nodes (part_alone b p) ≡ map ρ (filter In (built_nodes b))
  unfolding part_alone
  new-nodes =
      ap (λ (l : List ℕ). map grade_node (upto (length gs)) ++ (map factor_node l ++ (map input_node l ++ map tree_node (filter tree' l)))) new-lengths
      ∙ ap (λ (l : List Node). l ++ (map factor_node is ++ (map input_node is ++ map tree_node (filter tree' is)))) nodes-grade
      ∙ ap (λ (l : List Node). W ++ (l ++ (map input_node is ++ map tree_node (filter tree' is)))) nodes-factor
      ∙ ap (λ (l : List Node). W ++ (X ++ (l ++ map tree_node (filter tree' is)))) nodes_input
      ∙ ap (λ (l : List Node). W ++ (X ++ (Y ++ l))) nodes-tree
      ∙ sym (two A (B ++ (C ++ D)) ∙ ap (λ (l : List Node). W ++ l) (two B (C ++ D) ∙ ap (λ (l : List Node). X ++ l) (two C D)))
    where
      is : List ℕ
      is = map (λ m. index_of eqb m ms) ms

      A : List Node
      A = map grade_node (upto b.grades)

      B : List Node
      B = map factor_node (marker_numbers b)

      C : List Node
      C = map input_node (marker_numbers b)

      D : List Node
      D = map tree_node (filter (λ m. has_tree (grades_of b.pairs m)) (marker_numbers b))

      W : List Node
      W = map ρ (filter In A)

      X : List Node
      X = map ρ (filter In B)

      Y : List Node
      Y = map ρ (filter In C)

      two : (l k : List Node) → map ρ (filter In (l ++ k)) ≡ map ρ (filter In l) ++ map ρ (filter In k)
      two l k = ap (map ρ) (filter_append In l k) ∙ map-append ρ (filter In l) (filter In k)

  -- it passes the check of the pairs
  pub valid_alone : Valid (part_alone b p)
  unfolding part_alone
  valid_alone =
      All-map-into (λ q. (q.grade < length gs) × (q.marker < length (map (λ m. get_or b.markers m no_evidence) ms))) (renumbered gs ms) (pairs_in b p)
      (All-mono Known (λ q. (index_of eqb q.grade gs < length gs) × (index_of eqb q.marker ms < length (map (λ m. get_or b.markers m no_evidence) ms))) fits (pairs_in b p)
      (All-both (λ q. In (grade_node q.grade) ≡ true) Old (pairs_in b p)
      (filter_holds (λ q. In (grade_node q.grade)) b.pairs)
      (All-filter Old (λ q. In (grade_node q.grade)) b.pairs (All-both Fine (λ q. In (grade_node q.grade) ≡ In (factor_node q.marker)) b.pairs valid pairs_tied))))
    where
      Fine : Pair → Type 0
      Fine q = (q.grade < b.grades) × (q.marker < length b.markers)

      Old : Pair → Type 0
      Old q = Fine q × (In (grade_node q.grade) ≡ In (factor_node q.marker))

      Known : Pair → Type 0
      Known q = (In (grade_node q.grade) ≡ true) × Old q

      fits : (q : Pair) → Known q → (index_of eqb q.grade gs < length gs) × (index_of eqb q.marker ms < length (map (λ m. get_or b.markers m no_evidence) ms))
      fits q k = (
        index_lt eqb eqb_sound eqb_same q.grade gs (of_grade_lem q.grade k.0),
        rw (length-map ms (λ m. get_or b.markers m no_evidence))
            (index_lt eqb eqb_sound eqb_same q.marker ms
            (to-ms q.marker (mem-upto (length b.markers) q.marker k.1.0.1) (sym k.1.1 ∙ k.0))),
      )

  -- kinds go to kinds
  pub kinds : (v : Node) → Holds eq_node p v → kind_of (part_alone b p) (ρ v) ≡ kind_of b v
  unfolding part_alone
  kinds (grade_node g) h = refl
  kinds (factor_node m) h =
      ap (λ (l : List ℕ). factor (suc (length l))) (grades_renamed m (of_factor m h))
      ∙ ap (λ (n : ℕ). factor (suc n)) (length-map (grades_of b.pairs m) (λ g. index_of eqb g gs))
  kinds (input_node m) h = ap input (get_d_map_index eqb eqb_sound eqb_same (λ k. get_or b.markers k no_evidence) no_evidence m ms (of_input_lem m h))
  kinds (tree_node m) h =
      ap (λ (l : List ℕ). tree (suc (length l))) (grades_renamed m (of_tree_lem m h))
      ∙ ap (λ (n : ℕ). tree (suc n)) (length-map (grades_of b.pairs m) (λ g. index_of eqb g gs))
