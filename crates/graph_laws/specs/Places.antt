-- Lists with no element twice: the element at each place, how many elements, and the ends of edges counted in two ways.
use Rattle.std.specs.Prelude.{◌≡◌, refl, Bool, true, false, cond, not, ◌||◌, List, [], ◌∷◌, ◌++◌, map, ℕ, zero, suc, ◌+◌, ◌*◌, ◌≤◌, ◌<◌, length, get_or}
use Rattle.std.proofs.Common.{sym, ap, ◌∙◌, subst, true≢false, arith, length-append}
use Rattle.std.proofs.lemmas.Bool.{false≢true}
use Rattle.graph_laws.specs.Bools.{not-true, or_right}
use Rattle.definition.specs.Lists.{cons_if, filter, concat, mem, index_of}
use Rattle.graph_laws.specs.Lists.{All}
use Rattle.graph_laws.specs.Reach.{misses, misses-lt}
use Rattle.graph_laws.specs.Ranks.{NoDup}
use Rattle.definition.specs.FactorGraph.{Edge}
use Rattle.definition.specs.Components.{is_incident, incident_edges}
use Rattle.graph_laws.specs.Components.{Both}

-- what holds at each place holds of each element
pub All-numbered : {X : Type 0} (P : X → Type 0) (d : X) (xs : List X) → ((n : ℕ) → n < length xs → P (get_or xs n d)) → All P xs
All-numbered P d [] h = tt
All-numbered P d (x ∷ xs) h = (h 0 (omega arith), All-numbered P d xs (λ n l. h (suc n) (omega arith)))

-- what stands first at place i
pub record At {A : Type 0} (eq : A → A → Bool) (xs : List A) (i : ℕ) : Type 0 where
  pub thing : A
  pub held : mem eq thing xs ≡ true
  pub position : index_of eq thing xs ≡ i

module _ {A : Type 0} (eq : A → A → Bool) (sound : (a b : A) → eq a b ≡ true → a ≡ b) (same : (a : A) → eq a a ≡ true) where
  -- an element of the rest is not the first
  pub not_first : (a x : A) (xs : List A) → mem eq x xs ≡ false → mem eq a xs ≡ true → eq a x ≡ false
  not_first a x xs n m = not-true (eq a x) (λ t. true≢false (sym (subst (λ (y : A). mem eq y xs ≡ true) (sound a x t) m) ∙ n))

  pub at_place : (xs : List A) (i : ℕ) → NoDup eq xs → i < length xs → At eq xs i
  at_place [] i n h = absurd (let z : ⊥ = omega arith in z)
  at_place (x ∷ xs) zero n h = record { thing = x; held = rw (same x); position = rw (same x) }
  at_place (x ∷ xs) (suc i) n h =
      let r = at_place xs i n.1 (omega arith) in
      record {
        thing = r.thing;
        held = or_right (eq r.thing x) (mem eq r.thing xs) r.held;
        position = ap (λ (c : Bool). cond c zero (suc (index_of eq r.thing xs))) (not_first r.thing x xs n.0 r.held) ∙ ap suc r.position;
      }

  misses-all : (f : A → Bool) (ys : List A) → misses f ys ≤ length ys
  misses-all f [] = omega arith
  misses-all f (y ∷ ys) = go (f y) (misses-all f ys)
    where
      go : (b : Bool) → misses f ys ≤ length ys → cond b 0 1 + misses f ys ≤ suc (length ys)
      go true r = omega arith
      go false r = omega arith

  within : (xs ys : List A) → NoDup eq xs → All (λ a. mem eq a ys ≡ true) xs → length xs ≤ misses (λ y. not (mem eq y xs)) ys
  within [] ys n h = omega arith
  within (x ∷ xs) ys n h =
      omega
      (arith, within xs ys n.1 h.1, misses-lt (λ y. not (mem eq y (x ∷ xs))) (λ y. not (mem eq y xs)) (λ y. less (eq y x) (mem eq y xs)) eq sound x (ap (λ (c : Bool). not (c || mem eq x xs)) (same x)) (ap not n.0) ys h.0)
    where
      less : (c d : Bool) → not (c || d) ≡ true → not d ≡ true
      less true d k = absurd (false≢true k)
      less false d k = k

  -- of two such lists with the same elements none is the longer
  pub no_longer : (xs ys : List A) → NoDup eq xs → All (λ a. mem eq a ys ≡ true) xs → length xs ≤ length ys
  no_longer xs ys n h = omega (arith, within xs ys n h, misses-all (λ y. not (mem eq y xs)) ys)

  swap : (a b : A) → eq a b ≡ true → eq b a ≡ true
  swap a b e = subst (λ (x : A). eq x a ≡ true) (sound a b e) (same a)

  -- how many of a list are one of two things
  pub either_count : (a b : A) → eq a b ≡ false → (p : List A) → NoDup eq p → length (filter (λ v. eq v a || eq v b) p) ≡ cond (mem eq a p) 1 0 + cond (mem eq b p) 1 0
  either_count a b k [] n = omega arith
  either_count a b k (x ∷ p) n = go (eq x a) (eq x b) (eq a x) (eq b x) refl refl refl refl (either_count a b k p n.1)
    where
      gone : (c : A) → eq c x ≡ true → mem eq c p ≡ false
      gone c e = subst (λ (y : A). mem eq y p ≡ false) (sym (sound c x e)) n.0

      go : (c d e f : Bool) → eq x a ≡ c → eq x b ≡ d → eq a x ≡ e → eq b x ≡ f → length (filter (λ v. eq v a || eq v b) p) ≡ cond (mem eq a p) 1 0 + cond (mem eq b p) 1 0
          → length (cons_if (c || d) x (filter (λ v. eq v a || eq v b) p)) ≡ cond (e || mem eq a p) 1 0 + cond (f || mem eq b p) 1 0
      go true true e f h i j l r = absurd (true≢false (sym (subst (λ (y : A). eq y b ≡ true) (sound x a h) i) ∙ k))
      go true false false f h i j l r = absurd (true≢false (sym (swap x a h) ∙ j))
      go true false true true h i j l r = absurd (true≢false (sym (swap b x l) ∙ i))
      go true false true false h i j l r = let z = r ∙ ap (λ (y : Bool). cond y 1 0 + cond (mem eq b p) 1 0) (gone a j) in omega (arith, z)
      go false true e false h i j l r = absurd (true≢false (sym (swap x b i) ∙ l))
      go false true true true h i j l r = absurd (true≢false (sym (swap a x j) ∙ h))
      go false true false true h i j l r = let z = r ∙ ap (λ (y : Bool). cond (mem eq a p) 1 0 + cond y 1 0) (gone b l) in omega (arith, z)
      go false false true f h i j l r = absurd (true≢false (sym (swap a x j) ∙ h))
      go false false false true h i j l r = absurd (true≢false (sym (swap b x l) ∙ i))
      go false false false false h i j l r = r

  more-incident_edges : (e : Edge A) (es : List (Edge A)) (p : List A)
      → length (concat (map (incident_edges eq (e ∷ es)) p)) ≡ length (filter (λ v. is_incident eq v e) p) + length (concat (map (incident_edges eq es) p))
  more-incident_edges e es [] = omega arith
  more-incident_edges e es (v ∷ p) =
      go (is_incident eq v e) (length-append (cons_if (is_incident eq v e) e (incident_edges eq es v)) (concat (map (incident_edges eq (e ∷ es)) p))) (more-incident_edges e es p)
    where
      go : (c : Bool)
          → length (cons_if c e (incident_edges eq es v) ++ concat (map (incident_edges eq (e ∷ es)) p)) ≡ length (cons_if c e (incident_edges eq es v)) + length (concat (map (incident_edges eq (e ∷ es)) p))
          → length (concat (map (incident_edges eq (e ∷ es)) p)) ≡ length (filter (λ u. is_incident eq u e) p) + length (concat (map (incident_edges eq es) p))
          → length (cons_if c e (incident_edges eq es v) ++ concat (map (incident_edges eq (e ∷ es)) p))
          ≡ length (cons_if c v (filter (λ u. is_incident eq u e) p)) + length (incident_edges eq es v ++ concat (map (incident_edges eq es) p))
      go true k r = omega (arith, k, r, length-append (incident_edges eq es v) (concat (map (incident_edges eq es) p)))
      go false k r = omega (arith, k, r, length-append (incident_edges eq es v) (concat (map (incident_edges eq es) p)))

  none-incident_edges : (p : List A) → length (concat (map (incident_edges eq []) p)) ≡ 0
  none-incident_edges [] = refl
  none-incident_edges (v ∷ p) = none-incident_edges p

  -- the lists of the nodes of p have each edge twice, p having both ends or neither of each edge and no edge one end only
  pub twice : (p : List A) → NoDup eq p → (es : List (Edge A)) → All (Both eq p) es → All (λ e. eq e.node1 e.node2 ≡ false) es
      → length (concat (map (incident_edges eq es) p)) ≡ 2 * length (filter (λ e. mem eq e.node1 p) es)
  twice p n [] b l = none-incident_edges p
  twice p n (e ∷ es) b l = more-incident_edges e es p ∙ go (mem eq e.node1 p) (either_count e.node1 e.node2 l.0 p n ∙ ap (λ (c : Bool). cond (mem eq e.node1 p) 1 0 + cond c 1 0) (sym b.0)) (twice p n es b.1 l.1)
    where
      go : (c : Bool) → length (filter (λ v. is_incident eq v e) p) ≡ cond c 1 0 + cond c 1 0
          → length (concat (map (incident_edges eq es) p)) ≡ 2 * length (filter (λ f. mem eq f.node1 p) es)
          → length (filter (λ v. is_incident eq v e) p) + length (concat (map (incident_edges eq es) p)) ≡ 2 * length (cons_if c e (filter (λ f. mem eq f.node1 p) es))
      go true k r = omega (arith, k, r)
      go false k r = omega (arith, k, r)
