-- The parts partition the nodes: each node is in a part, and no node is in two parts or twice in one.
use Rattle.std.specs.Prelude.{◌≡◌, refl, Bool, true, false, cond, not, ◌||◌, length}
use Rattle.std.proofs.Math.Path.{sym}
use Rattle.std.proofs.Common.{◌∙◌, true≢false}
use Rattle.std.proofs.Math.Bool.{or-false}
use mathlib.Core.List.{List, [], ◌∷◌, ◌++◌}
use Prim.Native.Nat.{ℕ, zero, suc}
use Rattle.graph_laws.specs.Bools.{or_no, or_right}
use Rattle.definition.specs.Lists.{cons_if, concat, mem}
use Rattle.graph_laws.specs.Lists.{All, All-append, All-mono, All-at, All-in}
use Rattle.definition.specs.Components.{Search, is_visited, visit, visit_all, pop_node, walk_step, walk, walk_start, neighbours, component_from, components_from, components}
use Rattle.graph_laws.specs.Reach.{mem_append, walk_once}
use Rattle.graph_laws.specs.Ranks.{NoDup, others}
use Rattle.definition.specs.FactorGraph.{Graph}
use Rattle.graph_laws.specs.Components.{Holds, first_in}

module _ {A : Type 0} (eq : A → A → Bool) (sound : (a b : A) → eq a b ≡ true → a ≡ b) (same : (a : A) → eq a a ≡ true) where
  pub nodup_append : (xs ys : List A) → NoDup eq xs → NoDup eq ys → All (λ x. mem eq x ys ≡ false) xs → NoDup eq (xs ++ ys)
  nodup_append [] ys n m a = m
  nodup_append (x ∷ xs) ys n m a = (mem_append eq x xs ys ∙ rw n.0 a.0, nodup_append xs ys n.1 m a.1)

  module _ (done : List A) where
    visit_nodup : (n : A) (s : Search A) → NoDup eq s.visited → NoDup eq (visit eq done n s).visited
    visit_nodup n s d = go (is_visited eq done s n) refl
      where
        go : (b : Bool) → is_visited eq done s n ≡ b → NoDup eq (cond b s (record { visited = s.visited ++ n ∷ []; stack = n ∷ s.stack })).visited
        go true e = d
        go false e =
            nodup_append s.visited (n ∷ []) d (refl, tt)
            (All-mono (λ a. eq a n ≡ false) (λ a. mem eq a (n ∷ []) ≡ false) (λ a k. rw k) s.visited
            (others eq sound same n s.visited (or_no (mem eq n s.visited) (mem eq n done) e).0))

    visit_all_nodup : (ns : List A) (s : Search A) → NoDup eq s.visited → NoDup eq (visit_all eq done ns s).visited
    visit_all_nodup [] s d = d
    visit_all_nodup (n ∷ ns) s d = visit_all_nodup ns (visit eq done n s) (visit_nodup n s d)

    pop_node_nodup : (nb : A → List A) (met rest : List A) → NoDup eq met → NoDup eq (pop_node eq done nb met rest).visited
    pop_node_nodup nb met [] d = d
    pop_node_nodup nb met (v ∷ rest) d = visit_all_nodup (nb v) (record { visited = met; stack = rest }) d

    -- a walk meets no node twice
    pub walk_nodup : (nb : A → List A) (k : ℕ) (s : Search A) → NoDup eq s.visited → NoDup eq (walk eq done nb k s).visited
    unfolding walk
    walk_nodup nb zero s d = d
    walk_nodup nb (suc k) s d = walk_nodup nb k (walk_step eq done nb s) (pop_node_nodup nb s.visited s.stack d)

  module _ (G : Graph A) (inside : All (λ e. Holds eq G.nodes e.node1 × Holds eq G.nodes e.node2) G.edges) where
    part_out : (done : List A) (v : A) → mem eq v done ≡ false → All (λ u. mem eq u done ≡ false) (component_from eq G done v).visited
    part_out done v n = walk_once eq sound same done (neighbours eq G.edges) (length G.nodes) (walk_start v) (n, tt)

    pub part_nodup : (done : List A) (v : A) → NoDup eq (component_from eq G done v).visited
    part_nodup done v = walk_nodup done (neighbours eq G.edges) (length G.nodes) (walk_start v) (refl, tt)

    apart_from : (starts done : List A) → All (λ v. mem eq v done ≡ false) (concat (components_from eq G starts done))
    apart_from [] done = tt
    apart_from (v ∷ vs) done = go (mem eq v done) refl (apart_from vs)
      where
        p : List A
        p = (component_from eq G done v).visited

        go : (b : Bool) → mem eq v done ≡ b → ((D : List A) → All (λ u. mem eq u D ≡ false) (concat (components_from eq G vs D)))
            → All (λ u. mem eq u done ≡ false) (concat (cons_if (not b) p (components_from eq G vs (cond b done (p ++ done)))))
        go true e r = r done
        go false e r =
            All-append (λ u. mem eq u done ≡ false) p (concat (components_from eq G vs (p ++ done))) (part_out done v e)
            (All-mono (λ u. mem eq u (p ++ done) ≡ false) (λ u. mem eq u done ≡ false)
            (λ u h. (or_no (mem eq u p) (mem eq u done) (sym (mem_append eq u p done) ∙ h)).1) (concat (components_from eq G vs (p ++ done))) (r (p ++ done)))

    nodup_from : (starts done : List A) → NoDup eq (concat (components_from eq G starts done))
    nodup_from [] done = tt
    nodup_from (v ∷ vs) done = go (mem eq v done) refl (nodup_from vs)
      where
        p : List A
        p = (component_from eq G done v).visited

        swapped : (xs ys : List A) → All (λ u. mem eq u xs ≡ false) ys → All (λ u. mem eq u ys ≡ false) xs
        swapped xs ys h = All-in eq same (λ u. mem eq u ys ≡ false) xs (λ u m. deny u m (mem eq u ys) refl)
          where
            deny : (u : A) → mem eq u xs ≡ true → (c : Bool) → mem eq u ys ≡ c → c ≡ false
            deny u m true e = absurd (true≢false (sym m ∙ All-at eq sound (λ w. mem eq w xs ≡ false) ys h u e))
            deny u m false e = refl

        go : (b : Bool) → mem eq v done ≡ b → ((D : List A) → NoDup eq (concat (components_from eq G vs D)))
            → NoDup eq (concat (cons_if (not b) p (components_from eq G vs (cond b done (p ++ done)))))
        go true e r = r done
        go false e r =
            nodup_append p (concat (components_from eq G vs (p ++ done))) (part_nodup done v) (r (p ++ done))
            (swapped p (concat (components_from eq G vs (p ++ done)))
            (All-mono (λ u. mem eq u (p ++ done) ≡ false) (λ u. mem eq u p ≡ false)
            (λ u h. (or_no (mem eq u p) (mem eq u done) (sym (mem_append eq u p done) ∙ h)).0) (concat (components_from eq G vs (p ++ done))) (apart_from vs (p ++ done))))

    met-from : (starts done : List A) → All (λ v. (mem eq v (concat (components_from eq G starts done)) || mem eq v done) ≡ true) starts
    met-from [] done = tt
    met-from (v ∷ vs) done = go (mem eq v done) refl (met-from vs)
      where
        p : List A
        p = (component_from eq G done v).visited

        turn : (a b c : Bool) → (a || (b || c)) ≡ true → ((b || a) || c) ≡ true
        turn true true c h = refl
        turn true false c h = refl
        turn false true c h = refl
        turn false false c h = h

        wide : (a b c : Bool) → (b || c) ≡ true → ((b || a) || c) ≡ true
        wide a true c h = refl
        wide true false c h = refl
        wide false false c h = h

        go : (b : Bool) → mem eq v done ≡ b → ((D : List A) → All (λ u. (mem eq u (concat (components_from eq G vs D)) || mem eq u D) ≡ true) vs)
            → All (λ u. (mem eq u (concat (cons_if (not b) p (components_from eq G vs (cond b done (p ++ done))))) || mem eq u done) ≡ true) (v ∷ vs)
        go true e r = (or_right (mem eq v (concat (components_from eq G vs done))) (mem eq v done) e, r done)
        go false e r = (
          rw (mem_append eq v p rest) (wide (mem eq v rest) (mem eq v p) (mem eq v done) (first_in eq sound same G inside done v)),
          All-mono (λ u. (mem eq u rest || mem eq u (p ++ done)) ≡ true) (λ u. (mem eq u (p ++ rest) || mem eq u done) ≡ true)
              (λ u h. rw (mem_append eq u p rest) (turn (mem eq u rest) (mem eq u p) (mem eq u done) (rw (mem_append eq u p done) at h))) vs (r (p ++ done)),
        )
          where
            rest : List A
            rest = concat (components_from eq G vs (p ++ done))

    -- the parts partition the nodes
    pub components_nodup : NoDup eq (concat (components eq G))
    unfolding components
    components_nodup = nodup_from G.nodes []

    pub components-all : All (λ v. mem eq v (concat (components eq G)) ≡ true) G.nodes
    unfolding components
    components-all =
        All-mono (λ v. (mem eq v (concat (components_from eq G G.nodes [])) || false) ≡ true) (λ v. mem eq v (concat (components_from eq G G.nodes [])) ≡ true)
        (λ v h. sym (or-false (mem eq v (concat (components_from eq G G.nodes [])))) ∙ h) G.nodes (met-from G.nodes [])
