-- The list of each node of a built graph: a factor has its tree or its grade first and then its input, a tree its factor first and then its grades, an input its
-- factor only, and a grade one edge for each of its markers.
use Rattle.std.specs.Prelude.{◌≡◌, refl, Bool, true, false, cond, ◌||◌, List, [], ◌∷◌, ◌++◌, map, ℕ, suc, ◌≤◌, length, eqb}
use Rattle.std.proofs.Common.{sym, ap, ◌∙◌, subst, true≢false, arith, length-append}
use Rattle.std.proofs.lemmas.Bool.{false≢true}
use Rattle.std.proofs.Math.Bool.{or-false}
use Rattle.std.proofs.lemmas.List.{length-map}
use Rattle.graph_laws.specs.Bools.{not-true, eqb_sound, eqb_same}
use Rattle.definition.specs.Lists.{concat, mem, filter}
use Rattle.definition.specs.FactorGraph.{Bale, Node, grade_node, factor_node, input_node, tree_node, eq_node, Edge, edge, marker_numbers, grades_of, has_tree, marker_edges, built_edges, eq_pair}
use Rattle.definition.specs.Components.{is_incident, incident_edges}
use Rattle.graph_laws.specs.Lists.{All, All-append, All-map-into, All-every, All-in, filter_append, filter_none, filter-every, filter_map, append_none}
use Rattle.graph_laws.specs.Ranks.{NoDup, filter-concat, upto_nodup, one_of}
use Rattle.graph_laws.specs.AloneChecks.{length-upto}
use Rattle.graph_laws.specs.Distinct.{grades_nodup}

-- the four sorts of edges
abbrev pub to_factor : ℕ → ℕ → Edge Node
to_factor m n = edge (tree_node m) (factor_node m) (suc n)

abbrev pub to_grade : ℕ → ℕ → Edge Node
to_grade m g = edge (tree_node m) (grade_node g) 2

abbrev pub of_grade : ℕ → ℕ → Edge Node
of_grade m g = edge (grade_node g) (factor_node m) 2

abbrev pub of_input : ℕ → Edge Node
of_input m = edge (input_node m) (factor_node m) 2

-- what holds of each edge of a marker
pub marker_edges-all : (P : Edge Node → Type 0) (m : ℕ) (gs : List ℕ) → (has_tree gs ≡ true → P (to_factor m (length gs)) × All (λ g. P (to_grade m g)) gs)
    → (has_tree gs ≡ false → All (λ g. P (of_grade m g)) gs) → P (of_input m) → All P (marker_edges m gs)
marker_edges-all P m gs h k i = go (has_tree gs) h k
  where
    go : (c : Bool) → (c ≡ true → P (to_factor m (length gs)) × All (λ g. P (to_grade m g)) gs) → (c ≡ false → All (λ g. P (of_grade m g)) gs)
        → All P (cond c (to_factor m (length gs) ∷ map (λ g. to_grade m g) gs ++ of_input m ∷ []) (map (λ g. of_grade m g) gs ++ of_input m ∷ []))
    go true f l = ((f refl).0, All-append P (map (λ g. to_grade m g) gs) (of_input m ∷ []) (All-map-into P (λ g. to_grade m g) gs (f refl).1) (i, tt))
    go false f l = All-append P (map (λ g. of_grade m g) gs) (of_input m ∷ []) (All-map-into P (λ g. of_grade m g) gs (l refl)) (i, tt)

-- of all markers only m has edges
none-concat : {X : Type 0} (f : ℕ → List X) (xs : List ℕ) → All (λ j. f j ≡ []) xs → concat (map f xs) ≡ []
none-concat f [] h = refl
none-concat f (x ∷ xs) h = rw h.0 (none-concat f xs h.1)

concat-only : {X : Type 0} (f : ℕ → List X) (m : ℕ) → ((j : ℕ) → eqb m j ≡ false → f j ≡ []) → (xs : List ℕ) → NoDup eqb xs → mem eqb m xs ≡ true → concat (map f xs) ≡ f m
concat-only f m h [] n i = absurd (false≢true i)
concat-only f m h (x ∷ xs) n i = go (eqb m x) refl i (concat-only f m h xs n.1)
  where
    rest : eqb m x ≡ true → All (λ j. f j ≡ []) xs
    rest e =
        All-in eqb eqb_same (λ j. f j ≡ []) xs
        (λ j k. h j (not-true (eqb m j) (λ t. true≢false (sym (subst (λ (y : ℕ). mem eqb y xs ≡ true) (sym (eqb_sound m j t) ∙ eqb_sound m x e) k) ∙ n.0))))

    go : (c : Bool) → eqb m x ≡ c → (c || mem eqb m xs) ≡ true → (mem eqb m xs ≡ true → concat (map f xs) ≡ f m) → f x ++ concat (map f xs) ≡ f m
    go true e k r = rw (none-concat f xs (rest e)) (append_none (f x) ∙ ap f (sym (eqb_sound m x e)))
    go false e k r = rw (h x e) (r k)

module _ (b : Bale) where
  abbrev gs : ℕ → List ℕ
  gs m = grades_of b.pairs m

  abbrev pub at : Node → ℕ → List (Edge Node)
  at v j = filter (is_incident eq_node v) (marker_edges j (gs j))

  -- marker by marker
  pub by_marker : (v : Node) → incident_edges eq_node (built_edges b) v ≡ concat (map (at v) (marker_numbers b))
  by_marker v = filter-concat (is_incident eq_node v) (λ m. marker_edges m (gs m)) (marker_numbers b)

  only_at : (v : Node) (m : ℕ) → mem eqb m (marker_numbers b) ≡ true → ((j : ℕ) → eqb m j ≡ false → All (λ e. is_incident eq_node v e ≡ false) (marker_edges j (gs j)))
      → incident_edges eq_node (built_edges b) v ≡ at v m
  only_at v m i h = by_marker v ∙ concat-only (at v) m (λ j e. filter_none (is_incident eq_node v) (marker_edges j (gs j)) (h j e)) (marker_numbers b) (upto_nodup (length b.markers)) i

  -- ---- a factor
  pub factor_list : (m : ℕ) → mem eqb m (marker_numbers b) ≡ true
      → incident_edges eq_node (built_edges b) (factor_node m) ≡ cond (has_tree (gs m)) (to_factor m (length (gs m)) ∷ of_input m ∷ []) (map (λ g. of_grade m g) (gs m) ++ of_input m ∷ [])
  factor_list m i = only_at (factor_node m) m i others ∙ go (has_tree (gs m))
    where
      others : (j : ℕ) → eqb m j ≡ false → All (λ e. is_incident eq_node (factor_node m) e ≡ false) (marker_edges j (gs j))
      others j e =
          marker_edges-all (λ x. is_incident eq_node (factor_node m) x ≡ false) j (gs j)
          (λ t. (e, All-every (λ g. is_incident eq_node (factor_node m) (to_grade j g) ≡ false) (λ g. refl) (gs j)))
          (λ t. All-every (λ g. is_incident eq_node (factor_node m) (of_grade j g) ≡ false) (λ g. e) (gs j)) e

      go : (c : Bool)
          → filter (is_incident eq_node (factor_node m)) (cond c (to_factor m (length (gs m)) ∷ map (λ g. to_grade m g) (gs m) ++ of_input m ∷ []) (map (λ g. of_grade m g) (gs m) ++ of_input m ∷ []))
          ≡ cond c (to_factor m (length (gs m)) ∷ of_input m ∷ []) (map (λ g. of_grade m g) (gs m) ++ of_input m ∷ [])
      go true =
          rw (eqb_same m)
          (ap (λ (l : List (Edge Node)). to_factor m (length (gs m)) ∷ l)
          (filter_append (is_incident eq_node (factor_node m)) (map (λ g. to_grade m g) (gs m)) (of_input m ∷ [])
          ∙ rw (
            filter_none (is_incident eq_node (factor_node m)) (map (λ g. to_grade m g) (gs m))
                (All-map-into (λ e. is_incident eq_node (factor_node m) e ≡ false) (λ g. to_grade m g) (gs m) (All-every (λ g. is_incident eq_node (factor_node m) (to_grade m g) ≡ false) (λ g. refl) (gs m))),
            eqb_same m,
          )))
      go false =
          filter-every (is_incident eq_node (factor_node m)) (map (λ g. of_grade m g) (gs m) ++ of_input m ∷ [])
          (All-append (λ e. is_incident eq_node (factor_node m) e ≡ true) (map (λ g. of_grade m g) (gs m)) (of_input m ∷ [])
          (All-map-into (λ e. is_incident eq_node (factor_node m) e ≡ true) (λ g. of_grade m g) (gs m) (All-every (λ g. is_incident eq_node (factor_node m) (of_grade m g) ≡ true) (λ g. eqb_same m) (gs m)))
          (eqb_same m, tt))

  -- ---- a tree
  pub tree_list : (m : ℕ) → mem eqb m (marker_numbers b) ≡ true → has_tree (gs m) ≡ true
      → incident_edges eq_node (built_edges b) (tree_node m) ≡ to_factor m (length (gs m)) ∷ map (λ g. to_grade m g) (gs m)
  tree_list m i t = only_at (tree_node m) m i others ∙ go (has_tree (gs m)) t
    where
      others : (j : ℕ) → eqb m j ≡ false → All (λ e. is_incident eq_node (tree_node m) e ≡ false) (marker_edges j (gs j))
      others j e =
          marker_edges-all (λ x. is_incident eq_node (tree_node m) x ≡ false) j (gs j)
          (λ t. (rw e, All-every (λ g. is_incident eq_node (tree_node m) (to_grade j g) ≡ false) (λ g. rw e) (gs j)))
          (λ t. All-every (λ g. is_incident eq_node (tree_node m) (of_grade j g) ≡ false) (λ g. refl) (gs j)) refl

      go : (c : Bool) → c ≡ true
          → filter (is_incident eq_node (tree_node m)) (cond c (to_factor m (length (gs m)) ∷ map (λ g. to_grade m g) (gs m) ++ of_input m ∷ []) (map (λ g. of_grade m g) (gs m) ++ of_input m ∷ []))
          ≡ to_factor m (length (gs m)) ∷ map (λ g. to_grade m g) (gs m)
      go false e = absurd (false≢true e)
      go true e =
          rw (eqb_same m)
          (ap (λ (l : List (Edge Node)). to_factor m (length (gs m)) ∷ l)
          (filter_append (is_incident eq_node (tree_node m)) (map (λ g. to_grade m g) (gs m)) (of_input m ∷ [])
          ∙ append_none (filter (is_incident eq_node (tree_node m)) (map (λ g. to_grade m g) (gs m)))
          ∙ filter-every (is_incident eq_node (tree_node m)) (map (λ g. to_grade m g) (gs m))
          (All-map-into (λ e. is_incident eq_node (tree_node m) e ≡ true) (λ g. to_grade m g) (gs m) (All-every (λ g. is_incident eq_node (tree_node m) (to_grade m g) ≡ true) (λ g. rw (eqb_same m)) (gs m)))))

  -- ---- an input
  pub input_list : (m : ℕ) → mem eqb m (marker_numbers b) ≡ true → incident_edges eq_node (built_edges b) (input_node m) ≡ of_input m ∷ []
  input_list m i = only_at (input_node m) m i others ∙ go (has_tree (gs m))
    where
      others : (j : ℕ) → eqb m j ≡ false → All (λ e. is_incident eq_node (input_node m) e ≡ false) (marker_edges j (gs j))
      others j e =
          marker_edges-all (λ x. is_incident eq_node (input_node m) x ≡ false) j (gs j)
          (λ t. (refl, All-every (λ g. is_incident eq_node (input_node m) (to_grade j g) ≡ false) (λ g. refl) (gs j)))
          (λ t. All-every (λ g. is_incident eq_node (input_node m) (of_grade j g) ≡ false) (λ g. refl) (gs j)) (rw e)

      last : (f : ℕ → Edge Node) → ((g : ℕ) → is_incident eq_node (input_node m) (f g) ≡ false) → filter (is_incident eq_node (input_node m)) (map f (gs m) ++ of_input m ∷ []) ≡ of_input m ∷ []
      last f h =
          filter_append (is_incident eq_node (input_node m)) (map f (gs m)) (of_input m ∷ [])
          ∙ rw (
            filter_none (is_incident eq_node (input_node m)) (map f (gs m)) (All-map-into (λ e. is_incident eq_node (input_node m) e ≡ false) f (gs m) (All-every (λ g. is_incident eq_node (input_node m) (f g) ≡ false) h (gs m))),
            eqb_same m,
          )

      go : (c : Bool)
          → filter (is_incident eq_node (input_node m)) (cond c (to_factor m (length (gs m)) ∷ map (λ g. to_grade m g) (gs m) ++ of_input m ∷ []) (map (λ g. of_grade m g) (gs m) ++ of_input m ∷ [])) ≡ of_input m ∷ []
      go true = last (λ g. to_grade m g) (λ g. refl)
      go false = last (λ g. of_grade m g) (λ g. refl)

  -- ---- a grade
  at_most_one : (g : ℕ) (f : ℕ → Edge Node) (last : List (Edge Node)) (xs : List ℕ) → NoDup eqb xs → ((x : ℕ) → is_incident eq_node (grade_node g) (f x) ≡ true → eqb g x ≡ true)
      → filter (is_incident eq_node (grade_node g)) last ≡ [] → length (filter (is_incident eq_node (grade_node g)) (map f xs ++ last)) ≤ 1
  at_most_one g f last xs n h k =
      rw (filter_append (is_incident eq_node (grade_node g)) (map f xs) last, k, append_none (filter (is_incident eq_node (grade_node g)) (map f xs)), filter_map f (is_incident eq_node (grade_node g)) xs)
      (omega (arith, length-map (filter (λ x. is_incident eq_node (grade_node g) (f x)) xs) f, one_of g (λ x. is_incident eq_node (grade_node g) (f x)) h xs n))

  concat-short : {X : Type 0} (f : ℕ → List X) (xs : List ℕ) → All (λ x. length (f x) ≤ 1) xs → length (concat (map f xs)) ≤ length xs
  concat-short f [] h = omega arith
  concat-short f (x ∷ xs) h = omega (arith, length-append (f x) (concat (map f xs)), h.0, concat-short f xs h.1)

  pub grade_list : NoDup eq_pair b.pairs → (g : ℕ) → length (incident_edges eq_node (built_edges b) (grade_node g)) ≤ length b.markers
  grade_list n g =
      omega
      (arith, ap length (by_marker (grade_node g)), concat-short (at (grade_node g)) (marker_numbers b) (All-every (λ j. length (at (grade_node g) j) ≤ 1) (λ j. go j (has_tree (gs j))) (marker_numbers b)), length-upto (length b.markers))
    where
      go : (j : ℕ) (c : Bool)
          → length (filter (is_incident eq_node (grade_node g)) (cond c (to_factor j (length (gs j)) ∷ map (λ x. to_grade j x) (gs j) ++ of_input j ∷ []) (map (λ x. of_grade j x) (gs j) ++ of_input j ∷ []))) ≤ 1
      go j true = at_most_one g (λ x. to_grade j x) (of_input j ∷ []) (gs j) (grades_nodup b.pairs n j) (λ x t. t) refl
      go j false = at_most_one g (λ x. of_grade j x) (of_input j ∷ []) (gs j) (grades_nodup b.pairs n j) (λ x t. sym (or-false (eqb g x)) ∙ t) refl
