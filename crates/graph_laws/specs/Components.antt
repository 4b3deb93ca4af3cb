-- Each part is a walk that has ended, has both ends or neither of each edge, shares no node with the parts before it, and starts at its lowest node.
use Rattle.std.specs.Prelude.{◌≡◌, ◌⊎◌, Bool, true, false, cond, not, ◌||◌, ◌≤◌, length}
use Rattle.std.proofs.Math.Path.{refl}
use Rattle.std.proofs.Common.{sym, ap, ◌∙◌, subst, inl, inr, arith}
use Rattle.std.proofs.lemmas.Bool.{false≢true}
use Rattle.std.proofs.Math.Bool.{or-true}
use mathlib.Core.List.{List, [], ◌∷◌, ◌++◌, map, append_assoc}
use Rattle.graph_laws.specs.Bools.{bool_iff, or_cases, or_left, or_right}
use Rattle.definition.specs.Lists.{cons_if, mem}
use Rattle.graph_laws.specs.Lists.{All, All-append, All-mono, All-at}
use Rattle.definition.specs.Components.{is_visited, walk_start, is_incident, other_end, incident_edges, neighbours, component_from, components_from, components}
use Rattle.graph_laws.specs.Walk.{walk-within}
use Rattle.graph_laws.specs.Reach.{mem_append, misses, misses-lt, measure, walk_ends, walk_closed, walk_once, walk_mono}
use Rattle.definition.specs.FactorGraph.{Edge, Graph}

module _ {A B : Type 0} (P : B → Type 0) (f : A → B) (x : A) (r : List A) where
  pub keep_head : (b : Bool) → b ≡ true → All P (map f (cons_if b x r)) → P (f x)
  keep_head true e p = p.0
  keep_head false e p = absurd (false≢true e)

  pub keep_tail : (b : Bool) → All P (map f (cons_if b x r)) → All P (map f r)
  keep_tail true p = p.1
  keep_tail false p = p

  pub keep_both : (b : Bool) → (b ≡ true → P (f x)) → All P (map f r) → All P (map f (cons_if b x r))
  keep_both true h p = (h refl, p)
  keep_both false h p = p

module _ {A : Type 0} (eq : A → A → Bool) where
  -- D has both ends of the edge or neither
  abbrev pub Both : List A → Edge A → Type 0
  Both D e = mem eq e.node1 D ≡ mem eq e.node2 D

  abbrev pub Holds : List A → A → Type 0
  Holds D v = mem eq v D ≡ true

module _ {A : Type 0} (eq : A → A → Bool) (sound : (a b : A) → eq a b ≡ true → a ≡ b) (same : (a : A) → eq a a ≡ true) where
  mem_equal : (D : List A) (a b : A) → eq a b ≡ true → mem eq a D ≡ mem eq b D
  mem_equal D a b e = ap (λ (x : A). mem eq x D) (sound a b e)

  both_of_closed : (D : List A) (es : List (Edge A)) → ((v : A) → Holds eq D v → All (Holds eq D) (neighbours eq es v)) → All (Both eq D) es
  both_of_closed D [] h = tt
  both_of_closed D (e ∷ es) h = (bool_iff (mem eq e.node1 D) (mem eq e.node2 D) forth back, both_of_closed D es rest)
    where
      rest : (v : A) → Holds eq D v → All (Holds eq D) (neighbours eq es v)
      rest v m = keep_tail (Holds eq D) (other_end eq v) e (incident_edges eq es v) (is_incident eq v e) (h v m)

      forth : Holds eq D e.node1 → Holds eq D e.node2
      forth m =
          rw (same e.node1) at
          (keep_head (Holds eq D) (other_end eq e.node1) e (incident_edges eq es e.node1) (is_incident eq e.node1 e)
          (or_left (eq e.node1 e.node1) (eq e.node1 e.node2) (same e.node1))
          (h e.node1 m))

      back : Holds eq D e.node2 → Holds eq D e.node1
      back m = go (eq e.node2 e.node1) refl
          (keep_head (Holds eq D) (other_end eq e.node2) e (incident_edges eq es e.node2) (is_incident eq e.node2 e)
          (or_right (eq e.node2 e.node1) (eq e.node2 e.node2) (same e.node2))
          (h e.node2 m))
        where
          go : (b : Bool) → eq e.node2 e.node1 ≡ b → Holds eq D (cond b e.node2 e.node1) → Holds eq D e.node1
          go true q n = sym (mem_equal D e.node2 e.node1 q) ∙ m
          go false q n = n

  pub closed_of_both : (D : List A) (es : List (Edge A)) → All (Both eq D) es → (v : A) → Holds eq D v → All (Holds eq D) (neighbours eq es v)
  closed_of_both D [] h v m = tt
  closed_of_both D (e ∷ es) h v m =
      keep_both (Holds eq D) (other_end eq v) e (incident_edges eq es v) (is_incident eq v e) ends (closed_of_both D es h.1 v m)
    where
      ends : is_incident eq v e ≡ true → Holds eq D (other_end eq v e)
      ends t = go (eq v e.node1) refl t
        where
          go : (b : Bool) → eq v e.node1 ≡ b → (b || eq v e.node2) ≡ true → Holds eq D (cond b e.node2 e.node1)
          go true q s = sym h.0 ∙ sym (mem_equal D v e.node1 q) ∙ m
          go false q s = h.0 ∙ sym (mem_equal D v e.node2 s) ∙ m

  module _ (G : Graph A) (inside : All (λ e. Holds eq G.nodes e.node1 × Holds eq G.nodes e.node2) G.edges) where
    pub neighbours-inside : (v : A) → All (Holds eq G.nodes) (neighbours eq G.edges v)
    neighbours-inside v = go G.edges inside
      where
        pick : (e : Edge A) (b : Bool) → Holds eq G.nodes e.node1 → Holds eq G.nodes e.node2 → Holds eq G.nodes (cond b e.node2 e.node1)
        pick e true p q = q
        pick e false p q = p

        go : (es : List (Edge A)) → All (λ e. Holds eq G.nodes e.node1 × Holds eq G.nodes e.node2) es → All (Holds eq G.nodes) (neighbours eq es v)
        go [] h = tt
        go (e ∷ es) h =
            keep_both (Holds eq G.nodes) (other_end eq v) e (incident_edges eq es v) (is_incident eq v e)
            (λ t. pick e (eq v e.node1) h.0.0 h.0.1) (go es h.1)

    start-measure : (done : List A) (v : A) → Holds eq G.nodes v → measure eq sound same done G.nodes (walk_start v) ≤ length G.nodes
    start-measure done v m = omega (arith, misses-lt (λ u. false) (is_visited eq done (walk_start v)) (λ u h. absurd (false≢true h)) eq sound v refl here G.nodes m, full G.nodes)
      where
        here : is_visited eq done (walk_start v) v ≡ true
        here = rw (same v)

        full : (us : List A) → misses (λ u. false) us ≤ length us
        full [] = omega arith
        full (u ∷ us) = omega (arith, full us)

    pub part-ends : (done : List A) (v : A) → Holds eq G.nodes v → (component_from eq G done v).stack ≡ []
    part-ends done v m =
        walk_ends eq sound same done G.nodes (neighbours eq G.edges) neighbours-inside (length G.nodes) (walk_start v) (start-measure done v m)

-- what is known of a part p of G
pub record IsComponent {A : Type 0} (eq : A → A → Bool) (G : Graph A) (p : List A) : Type 0 where
  pub done : List A
  pub root : A
  pub before : List A
  pub after : List A
  pub is : (component_from eq G done root).visited ≡ p
  pub unvisited : mem eq root done ≡ false
  pub order : G.nodes ≡ before ++ root ∷ after
  pub passed : All (λ v. mem eq v done ≡ true) before
  pub ended : (component_from eq G done root).stack ≡ []
  pub apart : All (λ v. mem eq v done ≡ false) p
  pub both : All (Both eq p) G.edges

module _ {A : Type 0} (eq : A → A → Bool) (sound : (a b : A) → eq a b ≡ true → a ≡ b) (same : (a : A) → eq a a ≡ true) where
  mem_middle : (xs : List A) (v : A) (ys : List A) → mem eq v (xs ++ v ∷ ys) ≡ true
  mem_middle xs v ys = rw (mem_append eq v xs (v ∷ ys), same v) (or-true (mem eq v xs))

  -- from both ends in p and done, and in done, to both ends in p
  both_apart : (p done : List A) (es : List (Edge A)) → All (λ v. mem eq v done ≡ false) p → All (Both eq (p ++ done)) es → All (Both eq done) es → All (Both eq p) es
  both_apart p done [] a h k = tt
  both_apart p done (e ∷ es) a h k = (
    bools (mem eq e.node1 p) (mem eq e.node2 p) (mem eq e.node1 done) (mem eq e.node2 done)
        (sym (mem_append eq e.node1 p done) ∙ h.0 ∙ mem_append eq e.node2 p done) k.0
        (All-at eq sound (λ v. mem eq v done ≡ false) p a e.node1) (All-at eq sound (λ v. mem eq v done ≡ false) p a e.node2),
    both_apart p done es a h.1 k.1,
  )
    where
      bools : (a₁ a₂ d₁ d₂ : Bool) → (a₁ || d₁) ≡ (a₂ || d₂) → d₁ ≡ d₂ → (a₁ ≡ true → d₁ ≡ false) → (a₂ ≡ true → d₂ ≡ false) → a₁ ≡ a₂
      bools true true d₁ d₂ f g h k = refl
      bools false false d₁ d₂ f g h k = refl
      bools true false d₁ d₂ f g h k = f ∙ sym g ∙ h refl
      bools false true d₁ d₂ f g h k = sym (sym f ∙ g ∙ k refl)

  module _ (G : Graph A) (inside : All (λ e. Holds eq G.nodes e.node1 × Holds eq G.nodes e.node2) G.edges) where
    both-after : (done : List A) (v : A) → Holds eq G.nodes v → All (Both eq done) G.edges
        → All (Both eq ((component_from eq G done v).visited ++ done)) G.edges
    both-after done v m k = both_of_closed eq sound same ((component_from eq G done v).visited ++ done) G.edges closed
      where
        p : List A
        p = (component_from eq G done v).visited

        closed : (u : A) → Holds eq (p ++ done) u → All (Holds eq (p ++ done)) (neighbours eq G.edges u)
        closed u h = go (or_cases (mem eq u p) (mem eq u done) (rw (mem_append eq u p done) at h))
          where
            go : (mem eq u p ≡ true) ⊎ (mem eq u done ≡ true) → All (Holds eq (p ++ done)) (neighbours eq G.edges u)
            go (inl i) =
                All-mono (λ w. (mem eq w p || mem eq w done) ≡ true) (Holds eq (p ++ done)) (λ w x. mem_append eq w p done ∙ x) (neighbours eq G.edges u)
                (walk_closed eq sound same done (neighbours eq G.edges) (length G.nodes) v (part-ends eq sound same G inside done v m) u i)
            go (inr i) =
                All-mono (Holds eq done) (Holds eq (p ++ done)) (λ w x. mem_append eq w p done ∙ or_right (mem eq w p) (mem eq w done) x) (neighbours eq G.edges u)
                (closed_of_both eq sound same done G.edges k u i)

    part_apart : (done : List A) (v : A) → mem eq v done ≡ false → All (λ u. mem eq u done ≡ false) (component_from eq G done v).visited
    part_apart done v n = walk_once eq sound same done (neighbours eq G.edges) (length G.nodes) (walk_start v) (n, tt)

    -- the node that a part is walked from is in it
    pub first_in : (done : List A) (v : A) → (mem eq v (component_from eq G done v).visited || mem eq v done) ≡ true
    first_in done v = walk_mono eq sound same done (neighbours eq G.edges) (length G.nodes) (walk_start v) v (rw (same v))

    components_from_are : (before starts done : List A) → G.nodes ≡ before ++ starts → All (Holds eq done) before → All (Both eq done) G.edges
        → All (IsComponent eq G) (components_from eq G starts done)
    components_from_are before [] done o h k = tt
    components_from_are before (v ∷ vs) done o h k = go (mem eq v done) refl (components_from_are (before ++ v ∷ []) vs)
      where
        p : List A
        p = (component_from eq G done v).visited

        o' : G.nodes ≡ (before ++ v ∷ []) ++ vs
        o' = o ∙ sym (append_assoc before (v ∷ []) vs)

        m : Holds eq G.nodes v
        m = subst (λ (l : List A). mem eq v l ≡ true) (sym o) (mem_middle before v vs)

        go : (b : Bool) → mem eq v done ≡ b
            → ((D : List A) → G.nodes ≡ (before ++ v ∷ []) ++ vs → All (Holds eq D) (before ++ v ∷ []) → All (Both eq D) G.edges → All (IsComponent eq G) (components_from eq G vs D))
            → All (IsComponent eq G) (cons_if (not b) p (components_from eq G vs (cond b done (p ++ done))))
        go true e r = r done o' (All-append (Holds eq done) before (v ∷ []) h (e, tt)) k
        go false e r = (
          record {
            done = done;
            root = v;
            before = before;
            after = vs;
            is = refl;
            unvisited = e;
            order = o;
            passed = h;
            ended = part-ends eq sound same G inside done v m;
            apart = part_apart done v e;
            both = both_apart p done G.edges (part_apart done v e) (both-after done v m k) k;
          },
          r (p ++ done) o'
              (All-append (Holds eq (p ++ done)) before (v ∷ [])
              (All-mono (Holds eq done) (Holds eq (p ++ done)) (λ w x. mem_append eq w p done ∙ or_right (mem eq w p) (mem eq w done) x) before h)
              (mem_append eq v p done ∙ first_in done v, tt))
              (both-after done v m k),
        )

    -- each part is what IsPart says
    pub components_are : All (IsComponent eq G) (components eq G)
    unfolding components
    components_are = components_from_are [] G.nodes [] refl tt (none G.edges)
      where
        none : (es : List (Edge A)) → All (Both eq []) es
        none [] = tt
        none (e ∷ es) = (refl, none es)

    -- a part has nodes of the graph only
    pub part-inside : (p : List A) → IsComponent eq G p → All (Holds eq G.nodes) p
    part-inside p i = subst (λ (l : List A). All (Holds eq G.nodes) l) i.is within.0
      where
        here : Holds eq G.nodes i.root
        here = subst (λ (l : List A). mem eq i.root l ≡ true) (sym i.order) (mem_middle i.before i.root i.after)

        within : All (Holds eq G.nodes) (component_from eq G i.done i.root).visited × All (Holds eq G.nodes) (component_from eq G i.done i.root).stack
        within =
            walk-within eq i.done (Holds eq G.nodes) (neighbours eq G.edges) (λ v h. neighbours-inside eq sound same G inside v)
            (length G.nodes) (walk_start i.root) ((here, tt), (here, tt))

  -- both ends of an edge at a node of p are in p
  pub ends_of_both : (p : List A) (es : List (Edge A)) → All (Both eq p) es → (v : A) → Holds eq p v → All (λ e. Holds eq p e.node1 × Holds eq p e.node2) (incident_edges eq es v)
  ends_of_both p [] h v m = tt
  ends_of_both p (e ∷ es) h v m = go (eq v e.node1) (eq v e.node2) refl refl (ends_of_both p es h.1 v m)
    where
      go : (a b : Bool) → eq v e.node1 ≡ a → eq v e.node2 ≡ b → All (λ f. Holds eq p f.node1 × Holds eq p f.node2) (incident_edges eq es v)
          → All (λ f. Holds eq p f.node1 × Holds eq p f.node2) (cons_if (a || b) e (incident_edges eq es v))
      go true b q r k =
          let one : Holds eq p e.node1 = sym (mem_equal eq sound same p v e.node1 q) ∙ m in
          ((one, sym h.0 ∙ one), k)
      go false true q r k =
          let two : Holds eq p e.node2 = sym (mem_equal eq sound same p v e.node2 r) ∙ m in
          ((h.0 ∙ two, two), k)
      go false false q r k = k
