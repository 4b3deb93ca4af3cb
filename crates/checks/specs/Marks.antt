-- The pairs passed so far, as marks in a list of words: one binary digit to a grade and a marker.
use Rattle.std.specs.Prelude.{ℕ, zero, suc, ◌+◌, ◌*◌, ◌/◌, ◌%◌, ◌^◌, ◌<◌, ◌≡◌, refl, Bool, true, false, ◌||◌, List, [], ◌∷◌, eqb, length, get_or, set}
use Rattle.std.proofs.Common.{pow-suc, mul_comm, add-one, arith, sym, ap, subst, ◌∙◌, eqb-true, eq-eqb, true≢false, get_or-set_same, get_or-set_other}
use Rattle.std.proofs.Math.Nat.{pow-zero, div-div-eq-div-mul}
use Rattle.std.proofs.lemmas.Bool.{eqb-false}
use Rattle.definition.specs.Lists.{mem}
use Rattle.definition.specs.FactorGraph.{Pair, eq_pair}
use Rattle.definition.specs.Refusals.{pairs_of, repeated_pairs}
use Rattle.graph_laws.specs.Lists.{All}
use Rattle.graph_laws.specs.AloneChecks.{eq_pair_sound, All-getD}
use Rattle.checks.specs.Slices.{pair_at, no_pair, length_pairs, get_d_pairs}

-- each pair has a grade and a marker below 1,024
abbrev pub InGrid : List Pair → Type 0
InGrid ps = All (λ q. (q.grade < 1024) × (q.marker < 1024)) ps

-- where a pair has its mark
abbrev pub cell_of : Pair → ℕ
cell_of q = 1024 * q.marker + q.grade

-- ---- binary digits

-- binary digit b of x
unfoldable pub digit : ℕ → ℕ → ℕ
digit x zero = x % 2
digit x (suc b) = digit (x / 2) b

pub digit_shift : (x b : ℕ) → x / 2 ^ b % 2 ≡ digit x b
unfolding digit
digit_shift x zero = omega arith
digit_shift x (suc b) = ap (λ (n : ℕ). n % 2) (ap (λ (n : ℕ). x / n) (pow-suc 2 b ∙ mul_comm (2 ^ b) 2) ∙ sym (div-div-eq-div-mul x 2 (2 ^ b))) ∙ digit_shift (x / 2) b

-- digit b of x is 0, so that a power is added without a carry
halved : (x p : ℕ) → (x + p * 2) / 2 ≡ x / 2 + p
halved x p = omega arith

pub digit-added : (x b : ℕ) → digit x b ≡ 0 → digit (x + 2 ^ b) b ≡ 1
unfolding digit
digit-added x zero h = omega (arith, pow-zero 2)
digit-added x (suc b) h = ap (λ (n : ℕ). digit ((x + n) / 2) b) (pow-suc 2 b) ∙ ap (λ (n : ℕ). digit n b) (halved x (2 ^ b)) ∙ digit-added (x / 2) b h

pub digit-kept : (x b j : ℕ) → digit x b ≡ 0 → (j ≡ b → ⊥) → digit (x + 2 ^ b) j ≡ digit x j
unfolding digit
digit-kept x zero zero h n = absurd (n refl)
digit-kept x zero (suc j) h n = ap (λ (y : ℕ). digit y j) (let z : (x + 2 ^ 0) / 2 ≡ x / 2 = omega (arith, pow-zero 2) in z)
digit-kept x (suc b) zero h n = omega (arith, pow-suc 2 b)
digit-kept x (suc b) (suc j) h n =
    ap (λ (y : ℕ). digit ((x + y) / 2) j) (pow-suc 2 b) ∙ ap (λ (y : ℕ). digit y j) (halved x (2 ^ b)) ∙ digit-kept (x / 2) b j h (λ e. n (ap suc e))

pub digit-fits : (w x b : ℕ) → x < 2 ^ w → b < w → digit x b ≡ 0 → x + 2 ^ b < 2 ^ w
unfolding digit
digit-fits zero x b l k h = absurd (let z : ⊥ = omega arith in z)
digit-fits (suc w) x zero l k h = omega (arith, pow-zero 2, pow-suc 2 w)
digit-fits (suc w) x (suc b) l k h =
    let r : x / 2 + 2 ^ b < 2 ^ w = digit-fits w (x / 2) b (omega (arith, pow-suc 2 w)) (omega arith) h in
    omega (arith, pow-suc 2 w, pow-suc 2 b)

pub digit_small : (x b : ℕ) → digit x b < 2
unfolding digit
digit_small x zero = omega arith
digit_small x (suc b) = digit_small (x / 2) b

pub digit_clear : (x b : ℕ) → eqb (digit x b) 1 ≡ false → digit x b ≡ 0
digit_clear x b h = omega (arith, digit_small x b, eqb-false (digit x b) 1 h)

digit-zero : (b : ℕ) → digit 0 b ≡ 0
unfolding digit
digit-zero zero = refl
digit-zero (suc b) = digit-zero b

-- ---- the marks in the words

-- the digit of cell k
abbrev pub mark_at : List ℕ → ℕ → ℕ
mark_at w k = digit (get_or w (k / 32) 0) (k % 32)

-- the cell's mark is set
abbrev pub with_mark : List ℕ → ℕ → List ℕ
with_mark w k = set w (k / 32) (get_or w (k / 32) 0 + 2 ^ (k % 32))

mark-same : (w : List ℕ) (k : ℕ) → k / 32 < length w → mark_at w k ≡ 0 → mark_at (with_mark w k) k ≡ 1
mark-same w k l h =
    ap (λ (n : ℕ). digit n (k % 32)) (get_or-set_same w (k / 32) (get_or w (k / 32) 0 + 2 ^ (k % 32)) 0 l) ∙ digit-added (get_or w (k / 32) 0) (k % 32) h

mark_other : (w : List ℕ) (k j : ℕ) → k / 32 < length w → mark_at w k ≡ 0 → (j ≡ k → ⊥) → mark_at (with_mark w k) j ≡ mark_at w j
mark_other w k j l h n = go (eqb (j / 32) (k / 32)) refl
  where
    go : (b : Bool) → eqb (j / 32) (k / 32) ≡ b → mark_at (with_mark w k) j ≡ mark_at w j
    go true e =
        let q : j / 32 ≡ k / 32 = eqb-true (j / 32) (k / 32) e in
        let d : j % 32 ≡ k % 32 → ⊥ = λ r. n (omega arith) in
        ap (λ (i : ℕ). digit (get_or (with_mark w k) i 0) (j % 32)) q
        ∙ ap (λ (x : ℕ). digit x (j % 32)) (get_or-set_same w (k / 32) (get_or w (k / 32) 0 + 2 ^ (k % 32)) 0 l)
        ∙ digit-kept (get_or w (k / 32) 0) (k % 32) (j % 32) h d
        ∙ ap (λ (i : ℕ). digit (get_or w i 0) (j % 32)) (sym q)
    go false e =
        ap (λ (x : ℕ). digit x (j % 32)) (get_or-set_other w (k / 32) (j / 32) (get_or w (k / 32) 0 + 2 ^ (k % 32)) 0 (eqb-false (j / 32) (k / 32) e))

-- the marks are those of the given pairs
abbrev pub Marked : List ℕ → List Pair → Type 0
Marked w before = (q : Pair) → q.grade < 1024 → q.marker < 1024 → eqb (mark_at w (cell_of q)) 1 ≡ mem eq_pair q before

pub marked-none : (w : List ℕ) → ((i : ℕ) → get_or w i 0 ≡ 0) → Marked w []
marked-none w h q a b = ap (λ (n : ℕ). eqb n 1) (ap (λ (x : ℕ). digit x (cell_of q % 32)) (h (cell_of q / 32)) ∙ digit-zero (cell_of q % 32))

module _ (w : List ℕ) (before : List Pair) (p : Pair) (g : p.grade < 1024) (m : p.marker < 1024) (s : length w ≡ 32768) (c : mark_at w (cell_of p) ≡ 0) where
  pub marked_more : Marked w before → Marked (with_mark w (cell_of p)) (p ∷ before)
  marked_more h q a b = go (eq_pair q p) refl
    where
      l : cell_of p / 32 < length w
      l = omega arith

      go : (t : Bool) → eq_pair q p ≡ t → eqb (mark_at (with_mark w (cell_of p)) (cell_of q)) 1 ≡ (t || mem eq_pair q before)
      go true e =
          ap (λ (n : ℕ). eqb n 1) (ap (λ (k : Pair). mark_at (with_mark w (cell_of p)) (cell_of k)) (eq_pair_sound q p e) ∙ mark-same w (cell_of p) l c)
      go false e =
          ap (λ (n : ℕ). eqb n 1) (mark_other w (cell_of p) (cell_of q) l c (λ r. apart r e)) ∙ h q a b
        where
          apart : cell_of q ≡ cell_of p → eq_pair q p ≡ false → ⊥
          apart r f =
              let x : q.grade ≡ p.grade = omega arith in
              let y : q.marker ≡ p.marker = omega arith in
              true≢false (sym (rw (eq-eqb q.grade p.grade x, eq-eqb q.marker p.marker y) refl) ∙ f)

-- ---- the pairs before a place

-- those before place i, the last first, and before them the given ones
unfoldable pub seen : List Pair → List Pair → ℕ → List Pair
seen before ps zero = before
seen before [] (suc i) = before
seen before (p ∷ ps) (suc i) = seen (p ∷ before) ps i

pub seen_next : (before ps : List Pair) (i : ℕ) (d : Pair) → i < length ps → seen before ps (suc i) ≡ get_or ps i d ∷ seen before ps i
unfolding seen
seen_next before [] i d l = absurd (let z : ⊥ = omega arith in z)
seen_next before (p ∷ ps) zero d l = refl
seen_next before (p ∷ ps) (suc i) d l = seen_next (p ∷ before) ps i d (omega arith)

pub length_repeated : (before ps : List Pair) → length (repeated_pairs before ps) ≡ length ps
unfolding repeated_pairs
length_repeated before [] = refl
length_repeated before (p ∷ ps) = ap suc (length_repeated (p ∷ before) ps)

pub get_d_repeated : (before ps : List Pair) (i : ℕ) (d : Pair) → i < length ps
    → get_or (repeated_pairs before ps) i false ≡ mem eq_pair (get_or ps i d) (seen before ps i)
unfolding repeated_pairs seen
get_d_repeated before [] i d l = absurd (let z : ⊥ = omega arith in z)
get_d_repeated before (p ∷ ps) zero d l = refl
get_d_repeated before (p ∷ ps) (suc i) d l = get_d_repeated (p ∷ before) ps i d (omega arith)

-- ---- as the slice of pairs has them

pub in_grid : (ps : List ℕ) (i : ℕ) → i < length ps / 2 → InGrid (pairs_of ps) → ((pair_at ps i).grade < 1024) × ((pair_at ps i).marker < 1024)
in_grid ps i l h =
    subst (λ (q : Pair). (q.grade < 1024) × (q.marker < 1024)) (get_d_pairs ps i no_pair l)
    (All-getD (λ q. (q.grade < 1024) × (q.marker < 1024)) (pairs_of ps) h no_pair i (omega (arith, length_pairs ps)))

abbrev pub passed : List ℕ → ℕ → List Pair
passed ps i = seen [] (pairs_of ps) i

pub marked-first : (w ps : List ℕ) → ((i : ℕ) → get_or w i 0 ≡ 0) → Marked w (passed ps 0)
unfolding seen
marked-first w ps h = marked-none w h

pub repeated_count : (ps : List ℕ) → length (repeated_pairs [] (pairs_of ps)) ≡ length ps / 2
repeated_count ps = length_repeated [] (pairs_of ps) ∙ length_pairs ps

module _ (w ps : List ℕ) (i k : ℕ) (l : i < length ps / 2) (h : InGrid (pairs_of ps)) (e : k ≡ cell_of (pair_at ps i)) (M : Marked w (passed ps i)) where
  -- the mark says whether the pair was given before
  pub repeated_test : eqb (mark_at w k) 1 ≡ get_or (repeated_pairs [] (pairs_of ps)) i false
  repeated_test =
      ap (λ (n : ℕ). eqb (mark_at w n) 1) e
      ∙ M (pair_at ps i) (in_grid ps i l h).0 (in_grid ps i l h).1
      ∙ ap (λ (q : Pair). mem eq_pair q (passed ps i)) (sym (get_d_pairs ps i no_pair l))
      ∙ sym (get_d_repeated [] (pairs_of ps) i no_pair (omega (arith, length_pairs ps)))

  pub marked_next : length w ≡ 32768 → mark_at w k ≡ 0 → Marked (with_mark w k) (passed ps (i + 1))
  marked_next s c =
      subst (λ (q : List Pair). Marked (with_mark w k) q)
      (ap (λ (q : Pair). q ∷ passed ps i) (sym (get_d_pairs ps i no_pair l)) ∙ sym (seen_next [] (pairs_of ps) i no_pair (omega (arith, length_pairs ps))) ∙ ap (passed ps) (sym (add-one i)))
      (subst (λ (n : ℕ). Marked (with_mark w n) (pair_at ps i ∷ passed ps i)) (sym e)
      (marked_more w (passed ps i) (pair_at ps i) (in_grid ps i l h).0 (in_grid ps i l h).1 s (subst (λ (n : ℕ). mark_at w n ≡ 0) e c) M))
