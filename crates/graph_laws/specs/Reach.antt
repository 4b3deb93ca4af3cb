-- The walk ends within as many steps as there are nodes, and what it has met at its end has all its neighbours met.
use Rattle.std.specs.Prelude.{◌≡◌, ◌⊎◌, Bool, true, false, cond, ◌||◌}
use Rattle.std.proofs.Math.Path.{refl, sym, ap}
use Rattle.std.proofs.Common.{◌∙◌, subst, inl, inr, true≢false, arith}
use Rattle.std.proofs.lemmas.Bool.{false≢true}
use Rattle.std.proofs.Math.Bool.{or-true, or-false, or_assoc}
use mathlib.Core.List.{List, [], ◌∷◌, ◌++◌}
use Prim.Native.Nat.{ℕ, zero, suc, ◌+◌, ◌≤◌}
use Rattle.std.proofs.Math.ListN.{length}
use Rattle.graph_laws.specs.Bools.{or_cases, or_left, or_right}
use Rattle.definition.specs.Lists.{mem}
use Rattle.graph_laws.specs.Lists.{All, All-append, All-mono}
use Rattle.definition.specs.Components.{Search, is_visited, visit, visit_all, pop_node, walk_step, walk, walk_start}

pub or_mid : (a x b : Bool) → (a || b) ≡ true → ((a || x) || b) ≡ true
or_mid true x b h = refl
or_mid false true b h = refl
or_mid false false b h = h

module _ {A : Type 0} (eq : A → A → Bool) where
  pub mem_append : (a : A) (xs ys : List A) → mem eq a (xs ++ ys) ≡ (mem eq a xs || mem eq a ys)
  mem_append a [] ys = refl
  mem_append a (x ∷ xs) ys = ap (λ (b : Bool). eq a x || b) (mem_append a xs ys) ∙ sym (or_assoc (eq a x) (mem eq a xs) (mem eq a ys))

-- how many of a list fail a test
abbrev pub misses : {A : Type 0} → (A → Bool) → List A → ℕ
misses f [] = 0
misses f (u ∷ us) = cond (f u) 0 1 + misses f us

module _ {A : Type 0} (f g : A → Bool) (more : (u : A) → f u ≡ true → g u ≡ true) where
  one-le : (u : A) → cond (g u) 0 1 ≤ cond (f u) 0 1
  one-le u = go (f u) (g u) (more u)
    where
      go : (a b : Bool) → (a ≡ true → b ≡ true) → cond b 0 1 ≤ cond a 0 1
      go true true h = omega arith
      go true false h = absurd (false≢true (h refl))
      go false true h = omega arith
      go false false h = omega arith

  pub misses-le : (us : List A) → misses g us ≤ misses f us
  misses-le [] = omega arith
  misses-le (u ∷ us) = omega (arith, misses-le us, one-le u)

  pub misses-lt : (eq : A → A → Bool) (sound : (a b : A) → eq a b ≡ true → a ≡ b) (n : A) → f n ≡ false → g n ≡ true
      → (us : List A) → mem eq n us ≡ true → suc (misses g us) ≤ misses f us
  misses-lt eq sound n p q [] h = absurd (false≢true h)
  misses-lt eq sound n p q (u ∷ us) h = go (or_cases (eq n u) (mem eq n us) h) (misses-lt eq sound n p q us)
    where
      go : (eq n u ≡ true) ⊎ (mem eq n us ≡ true) → (mem eq n us ≡ true → suc (misses g us) ≤ misses f us) → suc (misses g (u ∷ us)) ≤ misses f (u ∷ us)
      go (inl e) r =
          let fu : f u ≡ false = subst (λ (x : A). f x ≡ false) (sound n u e) p in
          let gu : g u ≡ true = subst (λ (x : A). g x ≡ true) (sound n u e) q in
          rw (fu, gu) (omega (arith, misses-le us))
      go (inr e) r = omega (arith, r e, one-le u)

-- the walk: what is known stays known, and what is scanned is known
module _ {A : Type 0} (eq : A → A → Bool) (sound : (a b : A) → eq a b ≡ true → a ≡ b) (same : (a : A) → eq a a ≡ true) (done : List A) where
  abbrev pub K : Search A → A → Type 0
  K s n = is_visited eq done s n ≡ true

  abbrev pushed : A → Search A → Search A
  pushed n s = record { visited = s.visited ++ n ∷ []; stack = n ∷ s.stack }

  pushed_mono : (m : A) (s : Search A) (n : A) → K s n → K (pushed m s) n
  pushed_mono m s n k = rw (mem_append eq n s.visited (m ∷ [])) (or_mid (mem eq n s.visited) (mem eq n (m ∷ [])) (mem eq n done) k)

  pushed_knows : (n : A) (s : Search A) → K (pushed n s) n
  pushed_knows n s = rw (mem_append eq n s.visited (n ∷ []), same n)
      (or_left (mem eq n s.visited || true) (mem eq n done) (or-true (mem eq n s.visited)))

  pub visit_mono : (m : A) (s : Search A) (n : A) → K s n → K (visit eq done m s) n
  visit_mono m s n k = go (is_visited eq done s m)
    where
      go : (b : Bool) → K (cond b s (pushed m s)) n
      go true = k
      go false = pushed_mono m s n k

  visit_knows : (n : A) (s : Search A) → K (visit eq done n s) n
  visit_knows n s = go (is_visited eq done s n) refl
    where
      go : (b : Bool) → is_visited eq done s n ≡ b → K (cond b s (pushed n s)) n
      go true e = e
      go false e = pushed_knows n s

  pub visit_all_mono : (ns : List A) (s : Search A) (n : A) → K s n → K (visit_all eq done ns s) n
  visit_all_mono [] s n k = k
  visit_all_mono (m ∷ ns) s n k = visit_all_mono ns (visit eq done m s) n (visit_mono m s n k)

  pub visit_all_knows : (ns : List A) (s : Search A) → All (K (visit_all eq done ns s)) ns
  visit_all_knows [] s = tt
  visit_all_knows (n ∷ ns) s = (visit_all_mono ns (visit eq done n s) n (visit_knows n s), visit_all_knows ns (visit eq done n s))

  -- the measure: what of U is not known, and the stack
  module _ (U : List A) where
    abbrev pub measure : Search A → ℕ
    measure s = misses (is_visited eq done s) U + length s.stack

    visit-measure : (n : A) (s : Search A) → mem eq n U ≡ true → measure (visit eq done n s) ≤ measure s
    visit-measure n s u = go (is_visited eq done s n) refl
      where
        go : (b : Bool) → is_visited eq done s n ≡ b → measure (cond b s (pushed n s)) ≤ measure s
        go true e = omega arith
        go false e =
            omega
            (arith, misses-lt (is_visited eq done s) (is_visited eq done (pushed n s)) (pushed_mono n s) eq sound n e (pushed_knows n s) U u)

    visit_all-measure : (ns : List A) (s : Search A) → All (λ n. mem eq n U ≡ true) ns → measure (visit_all eq done ns s) ≤ measure s
    visit_all-measure [] s u = omega arith
    visit_all-measure (n ∷ ns) s u = omega (arith, visit_all-measure ns (visit eq done n s) u.1, visit-measure n s u.0)

    module _ (nb : A → List A) (nb_u : (v : A) → All (λ n. mem eq n U ≡ true) (nb v)) where
      pop_node-measure : (met : List A) (rest : List A) (k : ℕ) → measure (record { visited = met; stack = rest }) ≤ suc k
          → measure (pop_node eq done nb met rest) ≤ k ⊎ (rest ≡ [])
      pop_node-measure met [] k h = inr refl
      pop_node-measure met (v ∷ rest) k h = inl (omega (arith, visit_all-measure (nb v) (record { visited = met; stack = rest }) (nb_u v)))

      -- a walk whose stack is empty stands still
      pub walk_still : (k : ℕ) (s : Search A) → s.stack ≡ [] → walk eq done nb k s ≡ s
      unfolding walk
      walk_still zero s e = refl
      walk_still (suc k) s e =
          let h : walk_step eq done nb s ≡ s = ap (λ (l : List A). pop_node eq done nb s.visited l) e ∙ (λ i. record { visited = s.visited; stack = sym e i }) in
          ap (walk eq done nb k) h ∙ walk_still k s e

      -- with as many steps as the measure the stack is empty
      pub walk_ends : (k : ℕ) (s : Search A) → measure s ≤ k → (walk eq done nb k s).stack ≡ []
      unfolding walk
      walk_ends zero s h = go s.stack (omega arith)
        where
          go : (l : List A) → length l ≤ 0 → l ≡ []
          go [] p = refl
          go (x ∷ xs) p = absurd (omega arith)
      walk_ends (suc k) s h = go (pop_node-measure s.visited s.stack k h) (walk_ends k (walk_step eq done nb s))
        where
          go : measure (walk_step eq done nb s) ≤ k ⊎ (s.stack ≡ [])
              → (measure (walk_step eq done nb s) ≤ k → (walk eq done nb k (walk_step eq done nb s)).stack ≡ [])
              → (walk eq done nb k (walk_step eq done nb s)).stack ≡ []
          go (inl m) r = r m
          go (inr e) r = ap (λ (t : Search A). t.stack) (walk_still (suc k) s e) ∙ e

      -- more fuel than enough changes nothing
      pub walk_more : (k j : ℕ) (s : Search A) → k ≤ j → (walk eq done nb k s).stack ≡ [] → walk eq done nb j s ≡ walk eq done nb k s
      unfolding walk
      walk_more zero j s h e = walk_still j s e
      walk_more (suc k) zero s h e = absurd (omega arith)
      walk_more (suc k) (suc j) s h e = walk_more k j (walk_step eq done nb s) (omega arith) e

  -- a node that is met waits on the stack, or has all its neighbours known
  module _ (nb : A → List A) where
    abbrev Owed : A → Search A → Type 0
    Owed v₀ s = (v : A) → mem eq v s.visited ≡ true → ((eq v v₀ || mem eq v s.stack) ≡ true) ⊎ All (K s) (nb v)

    abbrev pub Settled : Search A → Type 0
    Settled s = (v : A) → mem eq v s.visited ≡ true → (mem eq v s.stack ≡ true) ⊎ All (K s) (nb v)

    pushed_owed : (v₀ n : A) (s : Search A) → Owed v₀ s → Owed v₀ (pushed n s)
    pushed_owed v₀ n s o v h = first (or_cases (mem eq v s.visited) (mem eq v (n ∷ [])) (rw (mem_append eq v s.visited (n ∷ [])) at h))
      where
        old : ((eq v v₀ || mem eq v s.stack) ≡ true) ⊎ All (K s) (nb v)
            → ((eq v v₀ || (eq v n || mem eq v s.stack)) ≡ true) ⊎ All (K (pushed n s)) (nb v)
        old (inl e) = inl (rw (or_assoc (eq v v₀) (eq v n) (mem eq v s.stack)) at (or_mid (eq v v₀) (eq v n) (mem eq v s.stack) e))
        old (inr a) = inr (All-mono (K s) (K (pushed n s)) (pushed_mono n s) (nb v) a)

        first : (mem eq v s.visited ≡ true) ⊎ ((eq v n || false) ≡ true)
            → ((eq v v₀ || (eq v n || mem eq v s.stack)) ≡ true) ⊎ All (K (pushed n s)) (nb v)
        first (inl e) = old (o v e)
        first (inr e) = inl (or_right (eq v v₀) (eq v n || mem eq v s.stack) (or_left (eq v n) (mem eq v s.stack) (rw or-false at e)))

    visit_owed : (v₀ n : A) (s : Search A) → Owed v₀ s → Owed v₀ (visit eq done n s)
    visit_owed v₀ n s o = go (is_visited eq done s n)
      where
        go : (b : Bool) → Owed v₀ (cond b s (pushed n s))
        go true = o
        go false = pushed_owed v₀ n s o

    visit_all_owed : (v₀ : A) (ns : List A) (s : Search A) → Owed v₀ s → Owed v₀ (visit_all eq done ns s)
    visit_all_owed v₀ [] s o = o
    visit_all_owed v₀ (n ∷ ns) s o = visit_all_owed v₀ ns (visit eq done n s) (visit_owed v₀ n s o)

    pop_node_settled : (met rest : List A) → Settled (record { visited = met; stack = rest }) → Settled (pop_node eq done nb met rest)
    pop_node_settled met [] o v h = o v h
    pop_node_settled met (v₀ ∷ rest) o v h = last (visit_all_owed v₀ (nb v₀) s₀ o v h)
      where
        s₀ : Search A
        s₀ = record { visited = met; stack = rest }

        s₁ : Search A
        s₁ = visit_all eq done (nb v₀) s₀

        split : (eq v v₀ ≡ true) ⊎ (mem eq v s₁.stack ≡ true) → (mem eq v s₁.stack ≡ true) ⊎ All (K s₁) (nb v)
        split (inl e) = inr (subst (λ (x : A). All (K s₁) (nb x)) (sym (sound v v₀ e)) (visit_all_knows (nb v₀) s₀))
        split (inr e) = inl e

        last : ((eq v v₀ || mem eq v s₁.stack) ≡ true) ⊎ All (K s₁) (nb v) → (mem eq v s₁.stack ≡ true) ⊎ All (K s₁) (nb v)
        last (inl e) = split (or_cases (eq v v₀) (mem eq v s₁.stack) e)
        last (inr a) = inr a

    pub walk_settled : (k : ℕ) (s : Search A) → Settled s → Settled (walk eq done nb k s)
    unfolding walk
    walk_settled zero s o = o
    walk_settled (suc k) s o = walk_settled k (walk_step eq done nb s) (pop_node_settled s.visited s.stack o)

    -- at the end of a walk each node met has all its neighbours known
    pub walk_closed : (k : ℕ) (v₀ : A) → (walk eq done nb k (walk_start v₀)).stack ≡ []
        → (v : A) → mem eq v (walk eq done nb k (walk_start v₀)).visited ≡ true → All (K (walk eq done nb k (walk_start v₀))) (nb v)
    walk_closed k v₀ e v h = go (walk_settled k (walk_start v₀) (λ u m. inl m) v h)
      where
        w : Search A
        w = walk eq done nb k (walk_start v₀)

        go : (mem eq v w.stack ≡ true) ⊎ All (K w) (nb v) → All (K w) (nb v)
        go (inl m) = absurd (false≢true (subst (λ (l : List A). mem eq v l ≡ true) e m))
        go (inr a) = a

    -- each node is met once, and none that was met before the walk
    abbrev pub Once : Search A → Type 0
    Once s = All (λ v. mem eq v done ≡ false) s.visited

    visit_once : (n : A) (s : Search A) → Once s → Once (visit eq done n s)
    visit_once n s o = go (is_visited eq done s n) refl
      where
        out : (a b : Bool) → (a || b) ≡ false → b ≡ false
        out true b h = absurd (true≢false h)
        out false b h = h

        go : (b : Bool) → is_visited eq done s n ≡ b → Once (cond b s (pushed n s))
        go true e = o
        go false e = All-append (λ v. mem eq v done ≡ false) s.visited (n ∷ []) o (out (mem eq n s.visited) (mem eq n done) e, tt)

    visit_all_once : (ns : List A) (s : Search A) → Once s → Once (visit_all eq done ns s)
    visit_all_once [] s o = o
    visit_all_once (n ∷ ns) s o = visit_all_once ns (visit eq done n s) (visit_once n s o)

    pop_node_once : (met rest : List A) → All (λ v. mem eq v done ≡ false) met → Once (pop_node eq done nb met rest)
    pop_node_once met [] o = o
    pop_node_once met (v ∷ rest) o = visit_all_once (nb v) (record { visited = met; stack = rest }) o

    pub walk_once : (k : ℕ) (s : Search A) → Once s → Once (walk eq done nb k s)
    unfolding walk
    walk_once zero s o = o
    walk_once (suc k) s o = walk_once k (walk_step eq done nb s) (pop_node_once s.visited s.stack o)

    pop_node_mono : (met rest : List A) (n : A) → (mem eq n met || mem eq n done) ≡ true → K (pop_node eq done nb met rest) n
    pop_node_mono met [] n k = k
    pop_node_mono met (v ∷ rest) n k = visit_all_mono (nb v) (record { visited = met; stack = rest }) n k

    pub walk_mono : (k : ℕ) (s : Search A) (n : A) → K s n → K (walk eq done nb k s) n
    unfolding walk
    walk_mono zero s n h = h
    walk_mono (suc k) s n h = walk_mono k (walk_step eq done nb s) n (pop_node_mono s.visited s.stack n h)
