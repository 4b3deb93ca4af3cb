-- A graph H that is the image of one part of a graph G has one part, the image of that part in the order met.
use Rattle.std.specs.Prelude.{◌≡◌, refl, Bool, true, false, cond, not, suc, ◌≤◌, length}
use Rattle.std.proofs.Common.{sym, ◌∙◌, subst, true≢false, arith}
use Rattle.std.proofs.Math.Path.{ap}
use Rattle.std.proofs.lemmas.Bool.{false≢true}
use Rattle.std.proofs.Math.Bool.{or-false}
use mathlib.Core.List.{List, [], ◌∷◌, ◌++◌, map}
use Rattle.std.proofs.lemmas.List.{length-map}
use Rattle.definition.specs.Lists.{cons_if, filter, mem}
use Rattle.graph_laws.specs.Lists.{All, All-map-into, All-mono, All-at, mem_self, filter_append, filter_none, filter_holds}
use Rattle.definition.specs.Components.{Search, walk, walk_start, incident_edges, neighbours, component_from, components_from, components}
use Rattle.graph_laws.specs.Walk.{map_search, mem-map, walk-map}
use Rattle.graph_laws.specs.Reach.{mem_append, walk_more}
use Rattle.definition.specs.FactorGraph.{Graph}
use Rattle.graph_laws.specs.Components.{Holds, IsComponent, neighbours-inside, part-ends, first_in}
use Rattle.graph_laws.specs.Isomorphism.{on_edge, Ends, stays, carries}

components_from-none : {A : Type 0} (eq : A → A → Bool) (G : Graph A) (starts done : List A) → All (Holds eq done) starts → components_from eq G starts done ≡ []
components_from-none eq G [] done h = refl
components_from-none eq G (v ∷ vs) done h = go (mem eq v done) h.0 (components_from-none eq G vs done h.1)
  where
    go : (b : Bool) → b ≡ true → components_from eq G vs done ≡ []
        → cons_if (not b) (component_from eq G done v).visited (components_from eq G vs (cond b done ((component_from eq G done v).visited ++ done))) ≡ []
    go true e r = r
    go false e r = absurd (false≢true e)

pub filter-length : {A : Type 0} (f : A → Bool) (xs : List A) → length (filter f xs) ≤ length xs
filter-length f [] = omega arith
filter-length f (x ∷ xs) = go (f x) (filter-length f xs)
  where
    go : (b : Bool) → length (filter f xs) ≤ length xs → length (cons_if b x (filter f xs)) ≤ suc (length xs)
    go true h = omega arith
    go false h = omega arith

module _ {A B : Type 0} (eq_a : A → A → Bool) (sound_a : (a b : A) → eq_a a b ≡ true → a ≡ b) (same_a : (a : A) → eq_a a a ≡ true)
    (eq_b : B → B → Bool) (sound_b : (a b : B) → eq_b a b ≡ true → a ≡ b) (same_b : (a : B) → eq_b a a ≡ true)
    (G : Graph A) (inside_g : All (λ e. Holds eq_a G.nodes e.node1 × Holds eq_a G.nodes e.node2) G.edges)
    (H : Graph B) (inside_h : All (λ e. Holds eq_b H.nodes e.node1 × Holds eq_b H.nodes e.node2) H.edges)
    (p : List A) (is_part : IsComponent eq_a G p)
    (ρ : A → B) (inj : (a b : A) → Holds eq_a p a → Holds eq_a p b → eq_b (ρ a) (ρ b) ≡ eq_a a b)
    (closed : (v : A) → Holds eq_a p v → All (Ends (Holds eq_a p)) (incident_edges eq_a G.edges v))
    (carried : (v : A) → Holds eq_a p v → incident_edges eq_b H.edges (ρ v) ≡ map (on_edge ρ) (incident_edges eq_a G.edges v))
    (nodes_h : H.nodes ≡ map ρ (filter (λ v. mem eq_a v p) G.nodes)) where
  abbrev pub v₀ : A
  v₀ = is_part.root

  abbrev pub D : List A
  D = is_part.done

  apart_at : (a : A) → Holds eq_a p a → mem eq_a a D ≡ false
  apart_at a h = All-at eq_a sound_a (λ v. mem eq_a v is_part.done ≡ false) p is_part.apart a h

  first_holds : Holds eq_a p v₀
  first_holds =
      rw (is_part.unvisited, or-false, is_part.is) at
      (first_in eq_a sound_a same_a G inside_g is_part.done is_part.root)

  abbrev pub rest : List A
  rest = filter (λ v. mem eq_a v p) is_part.after

  -- the lowest node of H is the image of the node that the part was walked from
  pub lowest : H.nodes ≡ ρ v₀ ∷ map ρ rest
  lowest = nodes_h ∙ ap (map ρ) (ap (filter (λ v. mem eq_a v p)) is_part.order ∙ filter_append (λ v. mem eq_a v p) is_part.before (is_part.root ∷ is_part.after) ∙ ends)
    where
      not_in : (v : A) → mem eq_a v is_part.done ≡ true → mem eq_a v p ≡ false
      not_in v d = go (mem eq_a v p) refl
        where
          go : (b : Bool) → mem eq_a v p ≡ b → b ≡ false
          go true e = absurd (true≢false (sym d ∙ All-at eq_a sound_a (λ u. mem eq_a u is_part.done ≡ false) p is_part.apart v e))
          go false e = refl

      ends : filter (λ v. mem eq_a v p) is_part.before ++ filter (λ v. mem eq_a v p) (is_part.root ∷ is_part.after)
          ≡ is_part.root ∷ filter (λ v. mem eq_a v p) is_part.after
      ends =
          rw (
            filter_none (λ v. mem eq_a v p) is_part.before
                (All-mono (λ v. mem eq_a v is_part.done ≡ true) (λ v. mem eq_a v p ≡ false) not_in is_part.before is_part.passed),
            first_holds,
          )

  small : length H.nodes ≤ length G.nodes
  small = rw (nodes_h, length-map) (filter-length (λ v. mem eq_a v p) G.nodes)

  -- the walk in H is the image of the walk in G
  pub walked : (component_from eq_b H [] (ρ v₀)).visited ≡ map ρ p
  walked = ap (λ (s : Search B). s.visited) (sym more ∙ image) ∙ ap (map ρ) is_part.is
    where
      here : Holds eq_b H.nodes (ρ is_part.root)
      here = subst (λ (l : List B). mem eq_b (ρ is_part.root) l ≡ true) (sym lowest) (rw (same_b (ρ is_part.root)))

      more : walk eq_b [] (neighbours eq_b H.edges) (length G.nodes) (walk_start (ρ is_part.root)) ≡ component_from eq_b H [] (ρ is_part.root)
      more =
          walk_more eq_b sound_b same_b [] H.nodes (neighbours eq_b H.edges) (neighbours-inside eq_b sound_b same_b H inside_h)
          (length H.nodes) (length G.nodes) (walk_start (ρ is_part.root)) small (part-ends eq_b sound_b same_b H inside_h [] (ρ is_part.root) here)

      image : walk eq_b [] (neighbours eq_b H.edges) (length G.nodes) (walk_start (ρ is_part.root)) ≡ map_search ρ (component_from eq_a G is_part.done is_part.root)
      image =
          walk-map eq_a eq_b ρ (Holds eq_a p) inj is_part.done [] (λ a h. sym (apart_at a h)) (neighbours eq_a G.edges) (neighbours eq_b H.edges)
          (stays eq_a eq_b ρ (Holds eq_a p) inj G.edges H.edges closed carried)
          (carries eq_a eq_b ρ (Holds eq_a p) inj G.edges H.edges closed carried)
          (length G.nodes) (walk_start is_part.root) ((first_holds, tt), (first_holds, tt))

  -- H has one part
  pub only : components eq_b H ≡ map ρ p ∷ []
  unfolding components
  only = ap (λ (l : List B). components_from eq_b H l []) lowest ∙ ap (λ (l : List (List B)). (component_from eq_b H [] (ρ v₀)).visited ∷ l) none ∙ ap (λ (l : List B). l ∷ []) walked
    where
      all : All (Holds eq_b ((component_from eq_b H [] (ρ v₀)).visited ++ [])) (map ρ rest)
      all =
          All-map-into (Holds eq_b ((component_from eq_b H [] (ρ v₀)).visited ++ [])) ρ rest
          (All-mono (Holds eq_a p) (λ v. Holds eq_b ((component_from eq_b H [] (ρ v₀)).visited ++ []) (ρ v)) holds rest
          (filter_holds (λ v. mem eq_a v p) is_part.after))
        where
          holds : (v : A) → Holds eq_a p v → Holds eq_b ((component_from eq_b H [] (ρ v₀)).visited ++ []) (ρ v)
          holds v h =
              mem_append eq_b (ρ v) (component_from eq_b H [] (ρ v₀)).visited []
              ∙ or-false (mem eq_b (ρ v) (component_from eq_b H [] (ρ v₀)).visited)
              ∙ ap (mem eq_b (ρ v)) walked
              ∙ mem-map eq_a eq_b ρ (Holds eq_a p) inj v p h (mem_self eq_a same_a p)
              ∙ h

      none : components_from eq_b H (map ρ rest) ((component_from eq_b H [] (ρ v₀)).visited ++ []) ≡ []
      none = components_from-none eq_b H (map ρ rest) ((component_from eq_b H [] (ρ v₀)).visited ++ []) all
