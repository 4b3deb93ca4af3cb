-- The queue's top: the largest amount that waits, and of equal ones the first. A NaN is larger than any number.
use Rattle.std.specs.Prelude.{ℕ, zero, suc, ◌+◌, ◌*◌, ◌≤◌, ◌<◌, ◌≡◌, refl, ◌⊎◌, Bool, true, false, cond, not, List, [], ◌∷◌, ◌++◌, T, leb, Float, length, get_or}
use Rattle.std.proofs.Common.{arith, suc-mul, sym, ap, ◌∙◌, subst, inl, inr, true≢false, append_assoc, ltb→lt, leb→le, length-append}
use Rattle.std.proofs.lemmas.Bool.{false≢true}
use Rattle.std.proofs.Math.Option.{Option, none, some}
use Rattle.std.proofs.Math.Dec.{nleb→lt}
use Rattle.std.specs.Float.{nan, inf, fin}
use Rattle.std.specs.Float.Ieee.{up, down, below, lt, is_nan}
use Rattle.std.specs.Float.Ieee.Positive.{den_pos, through}
use Rattle.graph_laws.specs.Bools.{not-true, no_ltb, ltb_no}
use Rattle.definition.specs.Priorities.{exceeds, Highest, higher, highest_from, highest_priority}

-- ---- the order of the floats: what is not less is passed on

no_factor : (a q : ℕ) → 0 < q → a * q ≤ 0 → a ≡ 0
no_factor zero q h k = refl
no_factor (suc a) q h k = absurd (let z : ⊥ = omega (arith, suc-mul a q) in z)

no_product : (a q : ℕ) → a ≡ 0 → a * q ≡ 0
no_product a q h = omega (arith, h, ap (λ (n : ℕ). n * q) h)

-- of three numbers ±a/p, ±b/q and ±c/r
not-below : (s t u : Bool) (a p b q c r : ℕ) → 0 < p → 0 < q → 0 < r → below s (a * q) t (b * p) ≡ false → below t (b * r) u (c * q) ≡ false → below s (a * r) u (c * p) ≡ false
not-below false false false a p b q c r P Q R h k = ltb_no (a * r) (c * p) (through c b a r q p Q (no_ltb (b * r) (c * q) k) (no_ltb (a * q) (b * p) h))
not-below false false true a p b q c r P Q R h k = refl
not-below false true false a p b q c r P Q R h k =
    let z = no_ltb 0 (b * r + c * q) k in
    ltb_no (a * r) (c * p) (omega (arith, no_product c p (no_factor c q Q (omega arith))))
not-below false true true a p b q c r P Q R h k = refl
not-below true false false a p b q c r P Q R h k =
    let z = no_ltb 0 (a * q + b * p) h in
    let b0 : b ≡ 0 = no_factor b p P (omega arith) in
    let c0 : c ≡ 0 = no_factor c q Q (omega (arith, no_ltb (b * r) (c * q) k, no_product b r b0)) in
    ltb_no 0 (a * r + c * p) (omega (arith, no_product c p c0, no_product a r (no_factor a q Q (omega arith))))
not-below true false true a p b q c r P Q R h k =
    let z = no_ltb 0 (a * q + b * p) h in
    ltb_no (c * p) (a * r) (omega (arith, no_product a r (no_factor a q Q (omega arith))))
not-below true true false a p b q c r P Q R h k =
    let z = no_ltb 0 (b * r + c * q) k in
    let b0 : b ≡ 0 = no_factor b r R (omega arith) in
    let c0 : c ≡ 0 = no_factor c q Q (omega arith) in
    let a0 : a ≡ 0 = no_factor a q Q (omega (arith, no_ltb (b * p) (a * q) h, no_product b p b0)) in
    ltb_no 0 (a * r + c * p) (omega (arith, no_product c p c0, no_product a r a0))
not-below true true true a p b q c r P Q R h k = ltb_no (c * p) (a * r) (through a b c p q r Q (no_ltb (b * p) (a * q) h) (no_ltb (c * q) (b * r) k))

lt_not : (x y z : Float) → is_nan y ≡ false → lt x y ≡ false → lt y z ≡ false → lt x z ≡ false
unfolding lt is_nan
lt_not nan y z n h k = refl
lt_not (inf false) y nan n h k = refl
lt_not (inf false) y (inf u) n h k = refl
lt_not (inf false) y (fin u l f) n h k = refl
lt_not (inf true) nan z n h k = absurd (true≢false n)
lt_not (inf true) (inf true) z n h k = k
lt_not (inf true) (inf false) z n h k = absurd (true≢false h)
lt_not (inf true) (fin t j d) z n h k = absurd (true≢false h)
lt_not (fin s m e) nan z n h k = absurd (true≢false n)
lt_not (fin s m e) (inf true) nan n h k = refl
lt_not (fin s m e) (inf true) (inf u) n h k = k
lt_not (fin s m e) (inf true) (fin u l f) n h k = absurd (true≢false k)
lt_not (fin s m e) (inf false) z n h k = absurd (true≢false h)
lt_not (fin s m e) (fin t j d) nan n h k = refl
lt_not (fin s m e) (fin t j d) (inf u) n h k = k
lt_not (fin s m e) (fin t j d) (fin u l f) n h k =
    not-below s t u (m * up e) (down e) (j * up d) (down d) (l * up f) (down f) (den_pos (fin s m e)) (den_pos (fin t j d)) (den_pos (fin u l f)) h k

below-back : (s t : Bool) (a b : ℕ) → below s a t b ≡ true → below t b s a ≡ false
below-back false false a b h = ltb_no b a (let z : a < b = ltb→lt a b (subst T (sym h) tt) in omega arith)
below-back false true a b h = absurd (false≢true h)
below-back true false a b h = refl
below-back true true a b h = ltb_no a b (let z : b < a = ltb→lt b a (subst T (sym h) tt) in omega arith)

lt_back : (x y : Float) → lt x y ≡ true → lt y x ≡ false
unfolding lt
lt_back nan y h = absurd (false≢true h)
lt_back (inf s) nan h = absurd (false≢true h)
lt_back (inf true) (inf true) h = refl
lt_back (inf true) (inf false) h = refl
lt_back (inf false) (inf t) h = absurd (false≢true h)
lt_back (inf true) (fin t n d) h = refl
lt_back (inf false) (fin t n d) h = absurd (false≢true h)
lt_back (fin s m e) nan h = absurd (false≢true h)
lt_back (fin s m e) (inf true) h = absurd (false≢true h)
lt_back (fin s m e) (inf false) h = refl
lt_back (fin s m e) (fin t n d) h = below-back s t (m * up e * down d) (n * up d * down e) h

-- ---- `above`, with NaN on top

pub above-not : (x y z : Float) → exceeds x y ≡ false → exceeds y z ≡ false → exceeds x z ≡ false
unfolding exceeds
above-not x y z h k = go (is_nan x) (is_nan y) (is_nan z) refl h k
  where
    go : (i j l : Bool) → is_nan y ≡ j → cond j false (cond i true (lt y x)) ≡ false → cond l false (cond j true (lt z y)) ≡ false → cond l false (cond i true (lt z x)) ≡ false
    go i j true e a b = refl
    go true true false e a b = absurd (true≢false b)
    go true false false e a b = absurd (true≢false a)
    go false true false e a b = absurd (true≢false b)
    go false false false e a b = lt_not z y x e b a

pub above-back : (x y : Float) → exceeds x y ≡ true → exceeds y x ≡ false
unfolding exceeds
above-back x y h = go (is_nan x) (is_nan y) h
  where
    go : (i j : Bool) → cond j false (cond i true (lt y x)) ≡ true → cond i false (cond j true (lt x y)) ≡ false
    go i true a = absurd (false≢true a)
    go true false a = refl
    go false false a = lt_back y x a

pub above_itself : (x : Float) → exceeds x x ≡ false
above_itself x = not-true (exceeds x x) (λ h. true≢false (sym h ∙ above-back x x h))

-- what is above z is above all that is not above z
pub above-rest : (x y z : Float) → exceeds x z ≡ true → exceeds y z ≡ false → exceeds x y ≡ true
above-rest x y z h k = go (exceeds x y) refl
  where
    go : (c : Bool) → exceeds x y ≡ c → c ≡ true
    go true e = refl
    go false e = absurd (true≢false (sym h ∙ above-not x y z e k))

-- and what is not above z is not above what is
pub above_kept : (x y z : Float) → exceeds x z ≡ true → exceeds y z ≡ false → exceeds y x ≡ false
above_kept x y z h k = above-back x y (above-rest x y z h k)

-- ---- the top

abbrev Waits : List (Option Float) → ℕ → Float → Type 0
Waits q j x = get_or q j none ≡ some x

-- b stands in the queue; no amount is above its own; and each amount that stands before it is below it
pub record IsHighest (q : List (Option Float)) (b : Highest) : Type 0 where
  pub there : b.direction < length q
  pub stands : get_or q b.direction none ≡ some b.priority
  pub largest : (j : ℕ) (x : Float) → get_or q j none ≡ some x → exceeds x b.priority ≡ false
  pub first : (j : ℕ) (x : Float) → j < b.direction → get_or q j none ≡ some x → exceeds b.priority x ≡ true

abbrev pub Best : List (Option Float) → Option Highest → Type 0
Best q none = (j : ℕ) → get_or q j none ≡ none
Best q (some b) = IsHighest q b

none-some : {A : Type 0} (x : A) → none ≡ some x → ⊥
none-some x h = let z : ◌≡◌ {A = ℕ} 0 1 = cc in omega arith

some_same : {A : Type 0} (x y : A) → some x ≡ some y → x ≡ y
some_same x y h = cc

-- one entry more
snoc_back : (q : List (Option Float)) (o : Option Float) (j : ℕ) (x : Float) → Waits (q ++ o ∷ []) j x → Waits q j x ⊎ ((o ≡ some x) × (j ≡ length q))
snoc_back [] o zero x h = inr (h, refl)
snoc_back [] o (suc j) x h = absurd (none-some x h)
snoc_back (y ∷ q) o zero x h = inl h
snoc_back (y ∷ q) o (suc j) x h = elim (snoc_back q o j x h) [ inl a ↦ inl a | inr b ↦ inr (b.0, ap suc b.1) ]

snoc_at : (q : List (Option Float)) (o : Option Float) (j : ℕ) (x : Float) → Waits q j x → Waits (q ++ o ∷ []) j x
snoc_at [] o j x h = absurd (none-some x h)
snoc_at (y ∷ q) o zero x h = h
snoc_at (y ∷ q) o (suc j) x h = snoc_at q o j x h

snoc_end : (q : List (Option Float)) (o : Option Float) → get_or (q ++ o ∷ []) (length q) none ≡ o
snoc_end [] o = refl
snoc_end (y ∷ q) o = snoc_end q o

snoc_none : (q : List (Option Float)) → ((j : ℕ) → get_or q j none ≡ none) → (j : ℕ) → get_or (q ++ none ∷ []) j none ≡ none
snoc_none [] h zero = refl
snoc_none [] h (suc j) = refl
snoc_none (y ∷ q) h zero = h 0
snoc_none (y ∷ q) h (suc j) = snoc_none q (λ i. h (suc i)) j

-- what waits stands in the queue
pub in_range : (q : List (Option Float)) (j : ℕ) (x : Float) → Waits q j x → j < length q
in_range [] j x h = absurd (none-some x h)
in_range (y ∷ q) zero x h = omega arith
in_range (y ∷ q) (suc j) x h = omega (arith, in_range q j x h)

snoc_length : (q : List (Option Float)) (o : Option Float) → length (q ++ o ∷ []) ≡ suc (length q)
snoc_length q o = omega (arith, length-append q (o ∷ []))

-- b stays
stays : (q : List (Option Float)) (o : Option Float) (b : Highest) → IsHighest q b → ((x : Float) → o ≡ some x → exceeds x b.priority ≡ false) → IsHighest (q ++ o ∷ []) b
stays q o b h k =
    record {
      there = omega (arith, h.there, snoc_length q o);
      stands = snoc_at q o b.direction b.priority h.stands;
      largest = (λ j x e. elim (snoc_back q o j x e) [ inl a ↦ h.largest j x a | inr c ↦ k x c.0 ]);
      first = (λ j x l e. elim (snoc_back q o j x e) [ inl a ↦ h.first j x l a | inr c ↦ absurd (let z : ⊥ = omega (arith, h.there, c.1) in z) ]);
    }

-- the new entry takes its place
takes : (q : List (Option Float)) (y : Float) → ((j : ℕ) (x : Float) → Waits q j x → (exceeds x y ≡ false) × (exceeds y x ≡ true))
    → IsHighest (q ++ some y ∷ []) (record { direction = length q; priority = y })
takes q y k =
    record {
      there = omega (arith, snoc_length q (some y));
      stands = snoc_end q (some y);
      largest = (λ j x e. elim (snoc_back q (some y) j x e) [ inl a ↦ (k j x a).0 | inr c ↦ subst (λ (z : Float). exceeds z y ≡ false) (some_same y x c.0) (above_itself y) ]);
      first = (λ j x l e. elim (snoc_back q (some y) j x e) [ inl a ↦ (k j x a).1 | inr c ↦ absurd (let z : ⊥ = omega (arith, c.1) in z) ]);
    }

best_better : (q : List (Option Float)) (b : Option Highest) (y : Float) → Best q b → Best (q ++ some y ∷ []) (higher b (length q) y)
unfolding higher
best_better q none y h = takes q y (λ j x e. absurd (none-some x (sym (h j) ∙ e)))
best_better q (some b) y h = go (exceeds y b.priority) refl
  where
    go : (c : Bool) → exceeds y b.priority ≡ c → Best (q ++ some y ∷ []) (cond c (some (record { direction = length q; priority = y })) (some b))
    go true e = takes q y (λ j x w. (above_kept y x b.priority e (h.largest j x w), above-rest y x b.priority e (h.largest j x w)))
    go false e = stays q (some y) b h (λ x w. subst (λ (z : Float). exceeds z b.priority ≡ false) (some_same y x w) e)

best_none : (q : List (Option Float)) (b : Option Highest) → Best q b → Best (q ++ none ∷ []) b
best_none q none h = snoc_none q h
best_none q (some b) h = stays q none b h (λ x w. absurd (none-some x w))

best_from : (pre : List (Option Float)) (b : Option Highest) (q : List (Option Float)) → Best pre b → Best (pre ++ q) (highest_from b (length pre) q)
unfolding highest_from
best_from pre b [] h = subst (λ (l : List (Option Float)). Best l b) (sym (plain pre)) h
  where
    plain : (l : List (Option Float)) → l ++ [] ≡ l
    plain [] = refl
    plain (x ∷ l) = ap (λ (r : List (Option Float)). x ∷ r) (plain l)
best_from pre b (none ∷ q) h =
    subst (λ (l : List (Option Float)). Best l (highest_from b (suc (length pre)) q)) (append_assoc pre (none ∷ []) q)
    (subst (λ (n : ℕ). Best ((pre ++ none ∷ []) ++ q) (highest_from b n q)) (snoc_length pre none) (best_from (pre ++ none ∷ []) b q (best_none pre b h)))
best_from pre b (some y ∷ q) h =
    subst (λ (l : List (Option Float)). Best l (highest_from (higher b (length pre) y) (suc (length pre)) q)) (append_assoc pre (some y ∷ []) q)
    (subst (λ (n : ℕ). Best ((pre ++ some y ∷ []) ++ q) (highest_from (higher b (length pre) y) n q)) (snoc_length pre (some y))
    (best_from (pre ++ some y ∷ []) (higher b (length pre) y) q (best_better pre b y h)))

-- the top of a queue is the highest, if anything waits
pub top_best : (q : List (Option Float)) → Best q (highest_priority q)
unfolding highest_priority
top_best q = best_from [] none q (λ j. refl)

pub top_highest : (q : List (Option Float)) (b : Highest) → highest_priority q ≡ some b → IsHighest q b
top_highest q b h = subst (Best q) h (top_best q)

-- nothing waits just where there is no top
pub top-empty : (q : List (Option Float)) → highest_priority q ≡ none → (j : ℕ) → get_or q j none ≡ none
top-empty q h = subst (Best q) h (top_best q)

pub empty-top : (q : List (Option Float)) → ((j : ℕ) → get_or q j none ≡ none) → highest_priority q ≡ none
empty-top q h = go (highest_priority q) (top_best q)
  where
    go : (o : Option Highest) → Best q o → o ≡ none
    go none k = refl
    go (some b) k = absurd (none-some b.priority (sym (h b.direction) ∙ k.stands))

-- there is one highest only: whoever finds it has the top
same-top : (q : List (Option Float)) (b c : Highest) → IsHighest q b → IsHighest q c → b.direction ≡ c.direction
same-top q b c h k = go (leb b.direction c.direction) (leb c.direction b.direction) (λ t. leb→le _ _ t) (λ t. nleb→lt _ _ t) (λ t. leb→le _ _ t) (λ t. nleb→lt _ _ t)
  where
    less : (d e : Highest) → IsHighest q d → IsHighest q e → d.direction < e.direction → ⊥
    less d e u v l = true≢false (sym (v.first d.direction d.priority l u.stands) ∙ u.largest e.direction e.priority v.stands)

    go : (i j : Bool) → (T i → b.direction ≤ c.direction) → (T (not i) → c.direction < b.direction) → (T j → c.direction ≤ b.direction) → (T (not j) → b.direction < c.direction) → b.direction ≡ c.direction
    go true true p q r s = omega (arith, p tt, r tt)
    go true false p q r s = absurd (less b c h k (s tt))
    go false j p q r s = absurd (less c b k h (q tt))

pub highest_top : (q : List (Option Float)) (b : Highest) → IsHighest q b → highest_priority q ≡ some b
highest_top q b h = go (highest_priority q) (top_best q)
  where
    go : (o : Option Highest) → Best q o → o ≡ some b
    go none k = absurd (none-some b.priority (sym (k b.direction) ∙ h.stands))
    go (some c) k =
        let e = same-top q c b k h in
        let f = some_same c.priority b.priority (sym k.stands ∙ ap (λ (j : ℕ). get_or q j none) e ∙ h.stands) in
        ap some (λ i. record { direction = e i; priority = f i })
