-- The report while it is counted: how it starts, and how a pattern's beliefs move it.
use Rattle.std.specs.Prelude.{ℕ, zero, suc, ◌+◌, ◌-◌, ◌*◌, ◌≤◌, ◌<◌, ◌≡◌, refl, Bool, true, false, not, List, [], ◌∷◌, ◌++◌, Float, length, get_or, set, drop}
use Rattle.std.proofs.Common.{arith, sym, ap, ◌∙◌, subst, append_assoc, length-set, length-drop, length-append, drop-cons}
use Rattle.std.specs.Float.{nan}
use Rattle.definition.specs.Call.{overwrite}
use Rattle.definition.specs.Reads.{above_half}
use Rattle.graph_laws.specs.Overwriting.{over-length, over-one, over-two}
use Rattle.report_laws.specs.Counts.{one_if}
use Rattle.pattern_laws.specs.Report.{rows_from, rows_long, rows_snoc}

-- ---- the start

-- g rows of 0, 0, n
abbrev pub started : ℕ → ℕ → List ℕ
started g n = rows_from (λ h. 0) (λ h. 0) (λ h. n) 0 g

pub started-long : (g n : ℕ) → length (started g n) ≡ 3 * g
started-long g n = rows_long (λ h. 0) (λ h. 0) (λ h. n) 0 g

-- one row more
pub start-next :
    (l : List ℕ) (g n : ℕ) → 3 * g + 2 < length l →
    set (set (set (overwrite (started g n) l) (3 * g) 0) (3 * g + 1) 0) (3 * g + 2) n ≡ overwrite (started (g + 1) n) l
start-next l g n h =
    let s = started g n in
    let two = s ++ (0 ∷ 0 ∷ []) in
    let e : suc g ≡ g + 1 = omega arith in
    ap (λ (k : List ℕ). set k (3 * g + 2) n) (over-two 0 s l (3 * g) 0 0 (started-long g n) (omega arith))
    ∙ over-one 0 two l (3 * g + 2) n (omega (arith, length-append s (0 ∷ 0 ∷ []), started-long g n)) h
    ∙ ap (λ (k : List ℕ). overwrite k l) (append_assoc s (0 ∷ 0 ∷ []) (n ∷ []) ∙ sym (rows_snoc (λ h. 0) (λ h. 0) (λ h. n) 0 g) ∙ ap (λ (k : ℕ). started k n) e)

-- it stays as long as it was
pub start-long : (g n : ℕ) (r l : List ℕ) → 3 * g ≤ length r → l ≡ overwrite (started g n) r → length l ≡ length r
start-long g n r l h e = ap length e ∙ over-length (started g n) r (omega (arith, started-long g n))

-- ---- one belief

abbrev pub side_at : Bool → ℕ
side_at true = 0
side_at false = 1

pub side_is : (c : Bool) → one_if (not c) ≡ side_at c
side_is true = refl
side_is false = refl

-- one more on the side, and one less without belief
unfoldable pub moved : List ℕ → ℕ → Bool → List ℕ
moved r g c =
    let x = set r (3 * g + side_at c) (get_or r (3 * g + side_at c) 0 + 1) in
    set x (3 * g + 2) (get_or x (3 * g + 2) 0 - 1)

pub moved-long : (r : List ℕ) (g : ℕ) (c : Bool) → length (moved r g c) ≡ length r
unfolding moved
moved-long r g c = simp length-set

-- the row is there, and neither number leaves its range
pub record HasRoom (g : ℕ) (c : Bool) (r : List ℕ) : Type 0 where
  pub inside : 3 * g + 2 < length r
  pub side : get_or r (3 * g + side_at c) 0 < 4294967295
  pub left : 1 ≤ get_or r (3 * g + 2) 0

pub side_small : (c : Bool) → side_at c ≤ 1
side_small true = omega arith
side_small false = omega arith

-- ---- the beliefs of a pattern, as they lie in the slices

unfoldable pub tallied : ℕ → List ℕ → List Float → List ℕ → List ℕ
tallied zero ns fs r = r
tallied (suc k) [] fs r = r
tallied (suc k) (n ∷ ns) [] r = r
tallied (suc k) (n ∷ ns) (a ∷ []) r = r
tallied (suc k) (n ∷ ns) (a ∷ p ∷ fs) r = tallied k ns fs (moved r n (above_half p))

unfoldable pub Movable : ℕ → List ℕ → List Float → List ℕ → Type 0
Movable zero ns fs r = Unit {0}
Movable (suc k) [] fs r = ⊥
Movable (suc k) (n ∷ ns) [] r = ⊥
Movable (suc k) (n ∷ ns) (a ∷ []) r = ⊥
Movable (suc k) (n ∷ ns) (a ∷ p ∷ fs) r = HasRoom n (above_half p) r × Movable k ns fs (moved r n (above_half p))

-- of w beliefs left the first is belief i; belief n is next, and k are left then
pub record NextBelief (w k i n : ℕ) (ns : List ℕ) (fs : List Float) (r : List ℕ) : Type 0 where
  pub in_numbers : i < length ns
  pub in_floats : 2 * i + 1 < length fs
  pub room : HasRoom (get_or ns i 0) (above_half (get_or fs (2 * i + 1) nan)) r
  pub rest : Movable k (drop n ns) (drop (2 * n) fs) (moved r (get_or ns i 0) (above_half (get_or fs (2 * i + 1) nan)))
  pub same : tallied w (drop i ns) (drop (2 * i) fs) r ≡ tallied k (drop n ns) (drop (2 * n) fs) (moved r (get_or ns i 0) (above_half (get_or fs (2 * i + 1) nan)))

long-enough : (k : ℕ) (ns : List ℕ) (fs : List Float) (r : List ℕ) → Movable (suc k) ns fs r → (1 ≤ length ns) × (2 ≤ length fs)
unfolding Movable
long-enough k [] fs r m = absurd m
long-enough k (n ∷ ns) [] r m = absurd m
long-enough k (n ∷ ns) (a ∷ []) r m = absurd m
long-enough k (n ∷ ns) (a ∷ p ∷ fs) r m = (omega arith, omega arith)

next_belief : (k i : ℕ) (ns : List ℕ) (fs : List Float) (r : List ℕ) → Movable (suc k) (drop i ns) (drop (2 * i) fs) r → NextBelief (suc k) k i (suc i) ns fs r
unfolding Movable tallied
next_belief k i ns fs r m =
    let l = long-enough k (drop i ns) (drop (2 * i) fs) r m in
    let in-ns : i < length ns = omega (arith, l.0, length-drop i ns) in
    let in-fs : 2 * i + 1 < length fs = omega (arith, l.1, length-drop (2 * i) fs) in
    let e : suc (2 * i) ≡ 2 * i + 1 = omega arith in
    let d : suc (suc (2 * i)) ≡ 2 * suc i = omega arith in
    let numbers : drop i ns ≡ get_or ns i 0 ∷ drop (suc i) ns = drop-cons ns i 0 in-ns in
    let floats : drop (2 * i) fs ≡ get_or fs (2 * i) nan ∷ get_or fs (2 * i + 1) nan ∷ drop (2 * suc i) fs =
    drop-cons fs (2 * i) nan (omega arith)
    ∙ ap (λ (t : List Float). get_or fs (2 * i) nan ∷ t) (drop-cons fs (suc (2 * i)) nan (omega arith) ∙ (λ j. get_or fs (e j) nan ∷ drop (d j) fs)) in
    let m' = subst (λ (t : List Float). Movable (suc k) (get_or ns i 0 ∷ drop (suc i) ns) t r) floats (subst (λ (t : List ℕ). Movable (suc k) t (drop (2 * i) fs) r) numbers m) in
    record {
      in_numbers = in-ns;
      in_floats = in-fs;
      room = m'.0;
      rest = m'.1;
      same = λ j. tallied (suc k) (numbers j) (floats j) r;
    }

-- as the loop has it
pub belief_at : (count i : ℕ) (ns : List ℕ) (fs : List Float) (r : List ℕ) → i < count → Movable (count - i) (drop i ns) (drop (2 * i) fs) r → NextBelief (count - i) (count - (i + 1)) i (i + 1) ns fs r
belief_at count i ns fs r h m =
    let k = count - (i + 1) in
    let e : suc i ≡ i + 1 = omega arith in
    let d : suc k ≡ count - i = omega arith in
    let b = next_belief k i ns fs r (subst (λ (w : ℕ). Movable w (drop i ns) (drop (2 * i) fs) r) (sym d) m) in
    subst (λ (w : ℕ). NextBelief w k i (i + 1) ns fs r) d (subst (λ (n : ℕ). NextBelief (suc k) k i n ns fs r) e b)

pub movable_start : (count : ℕ) (ns : List ℕ) (fs : List Float) (r : List ℕ) → Movable count ns fs r → Movable (count - 0) ns fs r
movable_start count ns fs r m = subst (λ (k : ℕ). Movable k ns fs r) (let e : count ≡ count - 0 = omega arith in e) m

pub tallied-start : (count : ℕ) (ns : List ℕ) (fs : List Float) (r : List ℕ) → tallied (count - 0) ns fs r ≡ tallied count ns fs r
tallied-start count ns fs r = ap (λ (k : ℕ). tallied k ns fs r) (let e : count - 0 ≡ count = omega arith in e)

pub tallied_done : (count i : ℕ) (ns : List ℕ) (fs : List Float) (r : List ℕ) → count ≤ i → tallied (count - i) ns fs r ≡ r
unfolding tallied
tallied_done count i ns fs r h = ap (λ (k : ℕ). tallied k ns fs r) (let e : count - i ≡ 0 = omega arith in e)
