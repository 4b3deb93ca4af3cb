-- A file in which nothing is bad is one in document 01's order: one each of 1, 2, 3, then all 4s, all 5s, one 6 and nothing after; with document 02's 7
-- between 2 and 3, or without it.
use Rattle.std.specs.Prelude.{ℕ, zero, suc, ◌%◌, ◌≤◌, ◌≡◌, refl, ◌⊎◌, Bool, true, false, List, [], ◌∷◌, ◌++◌, map, eqb, leb, length, get_or, replicate}
use Rattle.std.proofs.Common.{eq-or-lt_of_le, arith, sym, ap, ◌∙◌, subst, inl, inr, true≢false, leb-true}
use Rattle.std.proofs.lemmas.Bool.{false≢true}
use Rattle.std.proofs.Math.Option.{some}
use Rattle.std.proofs.Math.ListN.{get_elem?}
use Rattle.definition.specs.Lists.{cons_if}
use Rattle.definition.specs.BaleFile.{words, word_kind, clean_word, may_follow}
use Rattle.claims.specs.FileRefused.{kind_before, BadAt, disorder, stray_bit, missing_end, bytes_left, GoodFile, NoneBad}
use Rattle.graph_laws.specs.Bools.{or_cases, and_left, and_right, eqb_sound, eqb_same}
use Rattle.graph_laws.specs.FirstChecks.{nothing}
use Rattle.graph_laws.specs.FileRefused.{file-judged}

-- each kind may follow the one before, the first of them j, and the last is 6
abbrev Ordered : ℕ → List ℕ → Type 0
Ordered j [] = j ≡ 6
Ordered j (k ∷ ks) = (may_follow j k ≡ true) × Ordered k ks

-- ---- by places

from_places : (j : ℕ) (ws : List ℕ) → ((p w : ℕ) → get_elem? ws p ≡ some w → may_follow (get_or (j ∷ map word_kind ws) p 0) (word_kind w) ≡ true)
    → get_or (j ∷ map word_kind ws) (length ws) 0 ≡ 6 → Ordered j (map word_kind ws)
from_places j [] h e = e
from_places j (w ∷ ws) h e = (h 0 w refl, from_places (word_kind w) ws (λ p. h (suc p)) e)

at_place : (j : ℕ) (ws : List ℕ) → Ordered j (map word_kind ws) → (p w : ℕ) → get_elem? ws p ≡ some w
    → may_follow (get_or (j ∷ map word_kind ws) p 0) (word_kind w) ≡ true
at_place j [] o p w e = absurd (nothing e)
at_place j (x ∷ ws) o zero w e = let z : x ≡ w = cc in subst (λ (v : ℕ). may_follow j (word_kind v) ≡ true) z o.0
at_place j (x ∷ ws) o (suc p) w e = at_place (word_kind x) ws o.1 p w e

at-end : (j : ℕ) (ws : List ℕ) → Ordered j (map word_kind ws) → get_or (j ∷ map word_kind ws) (length ws) 0 ≡ 6
at-end j [] o = o
at-end j (x ∷ ws) o = at-end (word_kind x) ws o.1

-- ---- the order is document 01's

abbrev pairs_on : ℕ → List ℕ
pairs_on n = replicate n 5 ++ 6 ∷ []

abbrev markers_on : ℕ → ℕ → List ℕ
markers_on m n = replicate m 4 ++ pairs_on n

four_to_six : (k : ℕ) → 4 ≤ k → k ≤ 6 → (k ≡ 4) ⊎ ((k ≡ 5) ⊎ (k ≡ 6))
four_to_six k a b =
    elim (eq-or-lt_of_le a) [ inl e ↦ inl (sym e) | inr l ↦ inr (elim (eq-or-lt_of_le l) [ inl e ↦ inl (sym e) | inr m ↦ inr (omega arith) ]) ]

-- nothing follows 6
none_after : (k : ℕ) → may_follow 6 k ≡ true → ⊥
unfolding may_follow
none_after k h = false≢true h

-- what follows 5, and what follows 3 or 4
after-five : (k : ℕ) (ks : List ℕ) → may_follow 5 k ≡ true → Ordered k ks → (n : ℕ) × (k ∷ ks ≡ pairs_on n)
unfolding may_follow
after-five k [] h o = (0, ap (λ (i : ℕ). i ∷ []) o)
after-five k (j ∷ ks) h o =
    let a = leb-true 5 k (and_left (leb 5 k) (leb k 6) h) in
    go (four_to_six k (omega arith) (leb-true k 6 (and_right (leb 5 k) (leb k 6) h))) (λ f. after-five j ks f o.1)
  where
    go : (k ≡ 4) ⊎ ((k ≡ 5) ⊎ (k ≡ 6)) → (may_follow 5 j ≡ true → (n : ℕ) × (j ∷ ks ≡ pairs_on n)) → (n : ℕ) × (k ∷ j ∷ ks ≡ pairs_on n)
    go (inl e) r = absurd (let z = leb-true 5 k (and_left (leb 5 k) (leb k 6) h) in let y : ⊥ = omega arith in y)
    go (inr (inl e)) r = let x = r (subst (λ (i : ℕ). may_follow i j ≡ true) e o.0) in (suc x.0, λ i. e i ∷ x.1 i)
    go (inr (inr e)) r = absurd (none_after j (subst (λ (i : ℕ). may_follow i j ≡ true) e o.0))

after-three : (k : ℕ) (ks : List ℕ) → may_follow 4 k ≡ true → Ordered k ks → (m : ℕ) × (n : ℕ) × (k ∷ ks ≡ markers_on m n)
unfolding may_follow
after-three k [] h o = (0, 0, ap (λ (i : ℕ). i ∷ []) o)
after-three k (j ∷ ks) h o =
    go (four_to_six k (leb-true 4 k (and_left (leb 4 k) (leb k 6) h)) (leb-true k 6 (and_right (leb 4 k) (leb k 6) h))) (λ f. after-three j ks f o.1)
  where
    go : (k ≡ 4) ⊎ ((k ≡ 5) ⊎ (k ≡ 6)) → (may_follow 4 j ≡ true → (m : ℕ) × (n : ℕ) × (j ∷ ks ≡ markers_on m n))
        → (m : ℕ) × (n : ℕ) × (k ∷ j ∷ ks ≡ markers_on m n)
    go (inl e) r = let x = r (subst (λ (i : ℕ). may_follow i j ≡ true) e o.0) in (suc x.0, x.1, λ i. e i ∷ x.2 i)
    go (inr (inl e)) r =
        let x = after-five j ks (subst (λ (i : ℕ). may_follow i j ≡ true) e o.0) o.1 in
        (0, suc x.0, λ i. e i ∷ x.1 i)
    go (inr (inr e)) r = absurd (none_after j (subst (λ (i : ℕ). may_follow i j ≡ true) e o.0))

abbrev InOrder : List ℕ → Type 0
InOrder ks = (d : Bool) × (m : ℕ) × (n : ℕ) × (ks ≡ 1 ∷ 2 ∷ cons_if d 7 (3 ∷ markers_on m n))

-- what is shown of the kinds n ∷ r holds where the first is n; and so after a kind j, not the last, that only n may follow
at-kind : (P : List ℕ → Type 0) (n : ℕ) → ((r : List ℕ) → Ordered n r → P (n ∷ r)) → (k : ℕ) (ks : List ℕ) → k ≡ n → Ordered k ks → P (k ∷ ks)
at-kind P n f k ks e = subst (λ (i : ℕ). Ordered i ks → P (i ∷ ks)) (sym e) (f ks)

only : (P : List ℕ → Type 0) (j n : ℕ) → eqb j 6 ≡ false → ((k : ℕ) → may_follow j k ≡ true → k ≡ n)
    → ((r : List ℕ) → Ordered n r → P (n ∷ r)) → (ks : List ℕ) → Ordered j ks → P ks
only P j n s h f [] o = absurd (true≢false (sym (ap (λ (i : ℕ). eqb i 6) o) ∙ s))
only P j n s h f (k ∷ ks) o = at-kind P n f k ks (h k o.0) o.1

from-three : (d : Bool) (ks : List ℕ) → Ordered 3 ks → InOrder (1 ∷ 2 ∷ cons_if d 7 (3 ∷ ks))
unfolding may_follow
from-three d [] o = absurd (let z : ⊥ = omega arith in z)
from-three d (k ∷ ks) o =
    let x = after-three k ks o.0 o.1 in
    (d, x.0, x.1, ap (λ (r : List ℕ). 1 ∷ 2 ∷ cons_if d 7 (3 ∷ r)) x.2)

from-two : (ks : List ℕ) → Ordered 2 ks → InOrder (1 ∷ 2 ∷ ks)
unfolding may_follow
from-two [] o = absurd (let z : ⊥ = omega arith in z)
from-two (k ∷ ks) o = go (or_cases (eqb k 3) (eqb k 7) o.0)
  where
    go : (eqb k 3 ≡ true) ⊎ (eqb k 7 ≡ true) → InOrder (1 ∷ 2 ∷ k ∷ ks)
    go (inl a) = at-kind (λ r. InOrder (1 ∷ 2 ∷ r)) 3 (from-three false) k ks (eqb_sound k 3 a) o.1
    go (inr a) =
        at-kind (λ r. InOrder (1 ∷ 2 ∷ r)) 7 (only (λ r. InOrder (1 ∷ 2 ∷ 7 ∷ r)) 7 3 refl (λ i. eqb_sound i 3) (from-three true)) k ks (eqb_sound k 7 a) o.1

in_order : (ks : List ℕ) → Ordered 0 ks → InOrder ks
unfolding may_follow
in_order = only InOrder 0 1 refl (λ k. eqb_sound k 1) (only (λ r. InOrder (1 ∷ r)) 1 2 refl (λ k. eqb_sound k 2) from-two)

-- and the other way
pairs_ordered : (j : ℕ) → may_follow j 5 ≡ true → may_follow j 6 ≡ true → (n : ℕ) → Ordered j (pairs_on n)
unfolding may_follow
pairs_ordered j a b zero = (b, refl)
pairs_ordered j a b (suc n) = (a, pairs_ordered 5 refl refl n)

markers_ordered : (j : ℕ) → may_follow j 4 ≡ true → may_follow j 5 ≡ true → may_follow j 6 ≡ true → (m n : ℕ) → Ordered j (markers_on m n)
unfolding may_follow
markers_ordered j a b d zero n = pairs_ordered j b d n
markers_ordered j a b d (suc m) n = (a, markers_ordered 4 refl refl refl m n)

ordered_in : (ks : List ℕ) → InOrder ks → Ordered 0 ks
unfolding may_follow
ordered_in ks x = subst (Ordered 0) (sym x.3) (refl, (refl, go x.0))
  where
    go : (d : Bool) → Ordered 2 (cons_if d 7 (3 ∷ markers_on x.1 x.2))
    go true = (refl, (refl, markers_ordered 3 refl refl refl x.1 x.2))
    go false = (refl, markers_ordered 3 refl refl refl x.1 x.2)

-- ---- the file

is_true : (b : Bool) → (b ≡ false → ⊥) → b ≡ true
is_true true h = refl
is_true false h = absurd (h refl)

-- what is not unequal
same : (k n : ℕ) → ((k ≡ n → ⊥) → ⊥) → k ≡ n
same k n h = eqb_sound k n (is_true (eqb k n) (λ a. h (λ e. true≢false (sym (eqb_same n) ∙ ap (λ (i : ℕ). eqb i n) (sym e) ∙ a))))

module _ (bs : List ℕ) where
  good_shape : ((p : ℕ) → BadAt bs p → ⊥) → GoodFile bs
  good_shape h =
      let end : kind_before (words bs) (length (words bs)) ≡ 6 = same _ 6 (λ a. h (length (words bs)) (missing_end a)) in
      let o = in_order (map word_kind (words bs)) (from_places 0 (words bs) (λ p w e. is_true _ (λ a. h p (disorder e a))) end) in
      record {
        whole = same (length bs % 4) 0 (λ a. h (length (words bs)) (bytes_left a));
        based = o.0;
        markers = o.1;
        pairs = o.2;
        kinds = o.3;
        clean = λ p w e. is_true (clean_word w) (λ a. h p (stray_bit e a));
      }

  shape_good : GoodFile bs → {p : ℕ} → BadAt bs p → ⊥
  shape_good g (disorder {p = p} {w = w} e a) = true≢false (sym (at_place 0 (words bs) (ordered_in _ (g.based, g.markers, g.pairs, g.kinds)) p w e) ∙ a)
  shape_good g (stray_bit {p = p} {w = w} e a) = true≢false (sym (g.clean p w e) ∙ a)
  shape_good g (missing_end n) = n (at-end 0 (words bs) (ordered_in _ (g.based, g.markers, g.pairs, g.kinds)))
  shape_good g (bytes_left n) = n g.whole

pub none_bad : NoneBad
none_bad bs = (λ e. good_shape bs ((file-judged bs).good.0 e), λ g. (file-judged bs).good.1 (λ p x. shape_good bs g x))
