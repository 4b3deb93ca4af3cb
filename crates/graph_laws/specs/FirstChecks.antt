-- The first check of a call that fails, for checks that are lists of tests: the verdict refuses with it, and accepts if there is none.
use Rattle.std.specs.Prelude.{ℕ, zero, suc, ◌+◌, ◌<◌, ◌≡◌, refl, ◌↔◌, Bool, true, false, List, [], ◌∷◌, map, eqb, length, get_or, drop}
use Rattle.std.proofs.Common.{arith, sym, ap, ◌∙◌, subst, true≢false}
use Rattle.std.proofs.lemmas.Bool.{false≢true}
use Rattle.std.proofs.Math.Option.{Option, none, some}
use Rattle.std.proofs.Math.ListN.{get_elem?}
use Rattle.definition.specs.Lists.{range, index_of}
use Rattle.definition.specs.Refusals.{lowest_place_from, lowest_place, Verdict, accepted, refused, or_refused}
use Rattle.claims.specs.First.{First}
use Rattle.graph_laws.specs.Lists.{count_at}

-- a check's number and its tests
abbrev pub Check : Type 0
Check = ℕ × List Bool

-- what test p of the check made k-th says, and its number; and the first that is true
abbrev pub test : List Check → ℕ → ℕ → Bool
test cs k p = get_or (get_or cs k (0, [])).1 p false

abbrev pub number_at : List Check → ℕ → ℕ
number_at cs k = (get_or cs k (0, [])).0

abbrev pub first_of : List Check → Verdict
first_of [] = accepted
first_of (c ∷ cs) = or_refused c.0 (lowest_place c.1) (first_of cs)

-- ---- the first of a list of tests, and of a list of checks

pub record FirstTest (i : ℕ) (bs : List Bool) (p : ℕ) : Type 0 where
  pub at : ℕ
  pub is : p ≡ i + at
  pub holds : get_or bs at false ≡ true
  pub before : (q : ℕ) → q < at → get_or bs q false ≡ false

abbrev pub Found : ℕ → List Bool → Option ℕ → Type 0
Found i bs none = (q : ℕ) → get_or bs q false ≡ false
Found i bs (some p) = FirstTest i bs p

pub found : (i : ℕ) (bs : List Bool) → Found i bs (lowest_place_from i bs)
unfolding lowest_place_from
found i [] = λ q. refl
found i (true ∷ bs) = record { at = 0; is = omega arith; holds = refl; before = λ q l. absurd (let z : ⊥ = omega arith in z) }
found i (false ∷ bs) = go (lowest_place_from (suc i) bs) (found (suc i) bs)
  where
    later : (k : ℕ) → ((q : ℕ) → q < k → get_or bs q false ≡ false) → (q : ℕ) → q < suc k → get_or (false ∷ bs) q false ≡ false
    later k h zero l = refl
    later k h (suc q) l = h q (omega arith)

    never : ((q : ℕ) → get_or bs q false ≡ false) → (q : ℕ) → get_or (false ∷ bs) q false ≡ false
    never h zero = refl
    never h (suc q) = h q

    go : (o : Option ℕ) → Found (suc i) bs o → Found i (false ∷ bs) o
    go none h = never h
    go (some p) h = record { at = suc h.at; is = let e = h.is in omega arith; holds = h.holds; before = later h.at h.before }

pub record FirstCheck (cs : List Check) (n p : ℕ) : Type 0 where
  pub at : ℕ
  pub is : n ≡ number_at cs at
  pub holds : test cs at p ≡ true
  pub place : (q : ℕ) → q < p → test cs at q ≡ false
  pub earlier : (k q : ℕ) → k < at → test cs k q ≡ false

abbrev pub Judged : List Check → Verdict → Type 0
Judged cs accepted = (k q : ℕ) → test cs k q ≡ false
Judged cs (refused n p) = FirstCheck cs n p

pub judged : (cs : List Check) → Judged cs (first_of cs)
unfolding lowest_place or_refused
judged [] = λ k q. refl
judged (c ∷ cs) = go (lowest_place_from 0 c.1) (found 0 c.1) (first_of cs) (judged cs)
  where
    here : (p : ℕ) → FirstTest 0 c.1 p → FirstCheck (c ∷ cs) c.0 p
    here p t =
        let e : t.at ≡ p = let x = t.is in omega arith in
        record {
          at = 0;
          is = refl;
          holds = subst (λ (k : ℕ). get_or c.1 k false ≡ true) e t.holds;
          place = λ q l. t.before q (omega arith);
          earlier = λ k q l. absurd (let z : ⊥ = omega arith in z);
        }

    further : ((q : ℕ) → get_or c.1 q false ≡ false) → (a : ℕ) → ((k q : ℕ) → k < a → test cs k q ≡ false) → (k q : ℕ) → k < suc a → test (c ∷ cs) k q ≡ false
    further h a r zero q l = h q
    further h a r (suc k) q l = r k q (omega arith)

    never : ((q : ℕ) → get_or c.1 q false ≡ false) → ((k q : ℕ) → test cs k q ≡ false) → (k q : ℕ) → test (c ∷ cs) k q ≡ false
    never h r zero q = h q
    never h r (suc k) q = r k q

    go : (o : Option ℕ) → Found 0 c.1 o → (v : Verdict) → Judged cs v → Judged (c ∷ cs) (or_refused c.0 o v)
    go (some p) t v r = here p t
    go none t accepted r = never t r
    go none t (refused n p) r = record { at = suc r.at; is = r.is; holds = r.holds; place = r.place; earlier = further t r.at r.earlier }

-- ---- the turns of the checks

-- a test that is true is one of a check that is there
test-there : (cs : List Check) (k p : ℕ) → test cs k p ≡ true → k < length cs
test-there [] k p h = absurd (false≢true h)
test-there (c ∷ cs) zero p h = omega arith
test-there (c ∷ cs) (suc k) p h = omega (arith, test-there cs k p h)

abbrev turns : List ℕ → List Check → List ℕ
turns order cs = map (λ (c : Check). index_of eqb c.0 order) cs

turn_at : (order : List ℕ) (i : ℕ) (cs : List Check) → turns order cs ≡ range i (length cs) → (k : ℕ) → k < length cs → index_of eqb (number_at cs k) order ≡ i + k
turn_at order i [] e k l = absurd (let z : ⊥ = omega arith in z)
turn_at order i (c ∷ cs) e zero l = ap (λ (ns : List ℕ). get_or ns 0 0) e ∙ omega arith
turn_at order i (c ∷ cs) e (suc k) l = turn_at order (suc i) cs (ap (λ (ns : List ℕ). drop 1 ns) e) k (omega arith) ∙ omega arith

-- ---- tests as facts

pub nothing : {A : Type 0} {x : A} → none ≡ some x → ⊥
nothing h = let z : ◌≡◌ {A = ℕ} 0 1 = cc in omega arith

pub nth_lt : {A : Type 0} (xs : List A) (i : ℕ) (x : A) → get_elem? xs i ≡ some x → i < length xs
nth_lt [] i x e = absurd (nothing e)
nth_lt (y ∷ xs) zero x e = omega arith
nth_lt (y ∷ xs) (suc i) x e = omega (arith, nth_lt xs i x e)

-- a test of each thing of a list
pub map-test : {A : Type 0} (g : A → Bool) (xs : List A) (p : ℕ) → get_or (map g xs) p false ≡ true → (x : A) × (get_elem? xs p ≡ some x) × (g x ≡ true)
map-test g [] p h = absurd (false≢true h)
map-test g (x ∷ xs) zero h = (x, refl, h)
map-test g (x ∷ xs) (suc p) h = map-test g xs p h

pub test-map : {A : Type 0} (g : A → Bool) (xs : List A) (p : ℕ) (x : A) → get_elem? xs p ≡ some x → g x ≡ true → get_or (map g xs) p false ≡ true
test-map g [] p x e t = absurd (nothing e)
test-map g (y ∷ xs) zero x e t = let z : y ≡ x = cc in ap g z ∙ t
test-map g (y ∷ xs) (suc p) x e t = test-map g xs p x e t

-- a test of each number of a run
true_below : (g : ℕ → Bool) (i n p : ℕ) → get_or (map g (range i n)) p false ≡ true → p < n
true_below g i zero p h = absurd (false≢true h)
true_below g i (suc n) zero h = omega arith
true_below g i (suc n) (suc p) h = omega (arith, true_below g (suc i) n p h)

pub count_test : (g : ℕ → Bool) (n p : ℕ) → get_or (map g (range 0 n)) p false ≡ true → (p < n) × (g p ≡ true)
count_test g n p h = let l = true_below g 0 n p h in (l, sym (count_at g false n p l) ∙ h)

-- ---- the verdict on a list of checks in their order, whose rows are the table F

module _ (order : List ℕ) (F : ℕ → ℕ → Type 0) (cs : List Check) (v : Verdict) (e₁ : v ≡ first_of cs)
    (e₂ : map (λ (c : Check). index_of eqb c.0 order) cs ≡ range 0 (length cs))
    (row : (k p : ℕ) → test cs k p ≡ true → F (number_at cs k) p) (listed : (n p : ℕ) → F n p → (k : ℕ) × (n ≡ number_at cs k) × (test cs k p ≡ true)) where
  -- a call is accepted only if no check fails
  pub accepted_none : v ≡ accepted → (n p : ℕ) → F n p → ⊥
  accepted_none h n p w =
      let r : Judged cs accepted = subst (Judged cs) (sym e₁ ∙ h) (judged cs) in
      let t = listed n p w in
      true≢false (sym t.2 ∙ r t.0 p)

  -- when a check is made of which a test is true
  in_turn : (k p : ℕ) → test cs k p ≡ true → index_of eqb (number_at cs k) order ≡ k
  in_turn k p h = turn_at order 0 cs e₂ k (test-there cs k p h) ∙ omega arith

  -- a refusal has the first number and place that fail
  pub refused_first : (n p : ℕ) → v ≡ refused n p → First order F n p
  refused_first n p h = record { fails = here; place = place; earlier = earlier }
    where
      r : FirstCheck cs n p
      r = subst (Judged cs) (sym e₁ ∙ h) (judged cs)

      here : F n p
      here = subst (λ (k : ℕ). F k p) (sym r.is) (row r.at p r.holds)

      turn : index_of eqb n order ≡ r.at
      turn = ap (λ (m : ℕ). index_of eqb m order) r.is ∙ in_turn r.at p r.holds

      -- the turn of a row
      turn_of : (m q : ℕ) (t : (k : ℕ) × (m ≡ number_at cs k) × (test cs k q ≡ true)) → index_of eqb m order ≡ t.0
      turn_of m q t = ap (λ (i : ℕ). index_of eqb i order) t.1 ∙ in_turn t.0 q t.2

      place : (q : ℕ) → q < p → F n q → ⊥
      place q l w =
          let t = listed n q w in
          let k : t.0 ≡ r.at = sym (turn_of n q t) ∙ turn in
          true≢false (sym t.2 ∙ ap (λ (i : ℕ). test cs i q) k ∙ r.place q l)

      earlier : (m q : ℕ) → index_of eqb m order < index_of eqb n order → F m q → ⊥
      earlier m q l w =
          let t = listed m q w in
          let k : t.0 < r.at = omega (arith, turn_of m q t, turn) in
          true≢false (sym t.2 ∙ r.earlier t.0 q k)

  -- numbers of the table have turns of their own
  same_turn : (n p m q : ℕ) → F n p → F m q → index_of eqb m order ≡ index_of eqb n order → m ≡ n
  same_turn n p m q x y e =
      let t = listed n p x in
      let u = listed m q y in
      let k : u.0 ≡ t.0 =
      sym (ap (λ (i : ℕ). index_of eqb i order) u.1 ∙ in_turn u.0 q u.2) ∙ e ∙ ap (λ (i : ℕ). index_of eqb i order) t.1 ∙ in_turn t.0 p t.2 in
      u.1 ∙ ap (number_at cs) k ∙ sym t.1

  -- only one number and place are first
  same_first : (n p m q : ℕ) → First order F n p → First order F m q → refused m q ≡ refused n p
  same_first n p m q x y =
      let a : index_of eqb n order < index_of eqb m order → ⊥ = λ l. y.earlier n p l x.fails in
      let c : index_of eqb m order < index_of eqb n order → ⊥ = λ l. x.earlier m q l y.fails in
      let e : m ≡ n = same_turn n p m q x.fails y.fails (omega arith) in
      let d : p < q → ⊥ = λ l. y.place p l (subst (λ (k : ℕ). F k p) (sym e) x.fails) in
      let g : q < p → ⊥ = λ l. x.place q l (subst (λ (k : ℕ). F k q) e y.fails) in
      let i : q ≡ p = omega arith in
      ap (λ (k : ℕ). refused k q) e ∙ ap (refused n) i

  -- accepted exactly if no check fails
  pub accepted_exactly : v ≡ accepted ↔ ((n p : ℕ) → F n p → ⊥)
  accepted_exactly = (accepted_none, λ h. go h v refl)
    where
      go : ((n p : ℕ) → F n p → ⊥) → (u : Verdict) → v ≡ u → u ≡ accepted
      go h accepted e = refl
      go h (refused n p) e = absurd (h n p (refused_first n p e).fails)

  -- refused with number n and place p exactly if check n fails at p, at no lower place, and no check that is made before fails
  pub refused_exactly : (n p : ℕ) → v ≡ refused n p ↔ First order F n p
  refused_exactly n p = (refused_first n p, λ x. go x v refl)
    where
      go : First order F n p → (u : Verdict) → v ≡ u → u ≡ refused n p
      go x accepted e = absurd (accepted_none e n p x.fails)
      go x (refused m q) e = same_first n p m q x (refused_first m q e)
