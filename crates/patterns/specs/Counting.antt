-- The report over the patterns counted so far.
use Rattle.std.specs.Prelude.{ℕ, zero, suc, ◌+◌, ◌*◌, ◌/◌, ◌%◌, ◌^◌, ◌≤◌, ◌<◌, ◌≡◌, refl, Bool, true, false, not, List, ◌++◌, Float, length, get_or, take, drop}
use Rattle.std.proofs.Common.{arith, ap, ◌∙◌, subst, take-append-drop, length-take-le, get_or-take, ext_get_or}
use Rattle.std.proofs.Math.Path.{sym}
use Rattle.std.proofs.Math.Option.{Option, none, some}
use Rattle.std.proofs.Math.ListN.{get_or-append}
use Rattle.definition.specs.Settings.{Settings}
use Rattle.definition.specs.FactorGraph.{Bale}
use Rattle.definition.specs.Call.{overwrite}
use Rattle.definition.specs.Lists.{how_many, patterns}
use Rattle.definition.specs.Reads.{above_half, present_under, is_above, is_not_above, is_missing}
use Rattle.definition.specs.Patterns.{pattern_count, pattern_counts}
use Rattle.report_laws.specs.Counts.{one_if}
use Rattle.pattern_laws.specs.Numbers.{pattern_at, count_to, count_to-le, patterns-by-number}
use Rattle.pattern_laws.specs.Report.{rows_at, report_long, report_at}
use Rattle.patterns.specs.Tally.{started, started-long}
use Rattle.patterns.specs.Beliefs.{cell, moved_by, stepped, RowRoom}

-- in how many patterns below k grade h's present belief is so, st saying what it is in pattern p
abbrev pub times_to : (ℕ → ℕ → Option Float) → (Option Float → Bool) → ℕ → ℕ → ℕ
times_to st is h k = count_to k (λ p. is (st p h))

-- k of n patterns are counted, in the rows of g grades of a report that was r₀
pub record CountedTo (st : ℕ → ℕ → Option Float) (g n k : ℕ) (r₀ r : List ℕ) : Type 0 where
  pub long : length r ≡ length r₀
  pub rest : drop (3 * g) r ≡ drop (3 * g) r₀
  pub aboves : (h : ℕ) → h < g → cell r h 0 ≡ times_to st is_above h k
  pub nots : (h : ℕ) → h < g → cell r h 1 ≡ times_to st is_not_above h k
  pub lefts : (h : ℕ) → h < g → cell r h 2 + k ≡ times_to st is_missing h k + n

-- ---- the start

pub counted_start : (st : ℕ → ℕ → Option Float) (g n : ℕ) (r l : List ℕ) → l ≡ overwrite (started g n) r → CountedTo st g n 0 l l
counted_start st g n r l e =
    let s = started g n in
    let long = started-long g n in
    let at : (i : ℕ) → i < 3 * g → get_or l i 0 ≡ get_or s i 0 =
    λ i h. ap (λ (x : List ℕ). get_or x i 0) e ∙ get_or-append s (drop (length s) r) 0 i (omega arith) in
    let rows = rows_at (λ h. 0) (λ h. 0) (λ h. n) g in
    record {
      long = refl;
      rest = refl;
      aboves = λ h m. at (3 * h + 0) (omega arith) ∙ ap (λ (i : ℕ). get_or s i 0) (let z : 3 * h + 0 ≡ 3 * h = omega arith in z) ∙ (rows h m).first;
      nots = λ h m. at (3 * h + 1) (omega arith) ∙ (rows h m).second;
      lefts = λ h m. omega (arith, at (3 * h + 2) (omega arith), (rows h m).third);
    }

-- ---- one pattern more

step_above : (o : Option Float) (v : ℕ) → stepped o 0 v ≡ v + one_if (is_above o)
step_above none v = omega arith
step_above (some x) v = go (above_half x)
  where
    go : (c : Bool) → moved_by c 0 v ≡ v + one_if c
    go true = refl
    go false = omega arith

step_not : (o : Option Float) (v : ℕ) → stepped o 1 v ≡ v + one_if (is_not_above o)
step_not none v = omega arith
step_not (some x) v = go (above_half x)
  where
    go : (c : Bool) → moved_by c 1 v ≡ v + one_if (not c)
    go true = omega arith
    go false = refl

step_left : (o : Option Float) (v k c n : ℕ) → v + k ≡ c + n → 1 ≤ v → stepped o 2 v + suc k ≡ c + one_if (is_missing o) + n
step_left none v k c n e l = omega arith
step_left (some x) v k c n e l = go (above_half x)
  where
    go : (d : Bool) → moved_by d 2 v + suc k ≡ c + 0 + n
    go true = omega arith
    go false = omega arith

pub counted_next :
    (st : ℕ → ℕ → Option Float) (g n k : ℕ) (r₀ r r' : List ℕ) → CountedTo st g n k r₀ r → k < n → length r' ≡ length r → drop (3 * g) r' ≡ drop (3 * g) r →
    ((h j : ℕ) → h < g → j ≤ 2 → cell r' h j ≡ stepped (st k h) j (cell r h j)) → CountedTo st g n (k + 1) r₀ r'
counted_next st g n k r₀ r r' C l long' rest' cells =
    subst (λ (m : ℕ). CountedTo st g n m r₀ r') (let e : suc k ≡ k + 1 = omega arith in e)
    record {
      long = long' ∙ C.long;
      rest = rest' ∙ C.rest;
      aboves = λ h m. cells h 0 m (omega arith) ∙ step_above (st k h) (cell r h 0) ∙ ap (λ (v : ℕ). v + one_if (is_above (st k h))) (C.aboves h m);
      nots = λ h m. cells h 1 m (omega arith) ∙ step_not (st k h) (cell r h 1) ∙ ap (λ (v : ℕ). v + one_if (is_not_above (st k h))) (C.nots h m);
      lefts = λ h m. ap (λ (v : ℕ). v + suc k) (cells h 2 m (omega arith)) ∙ step_left (st k h) (cell r h 2) k (times_to st is_missing h k) n (C.lefts h m) (omega (arith, C.lefts h m));
    }

pub counted_rooms : (st : ℕ → ℕ → Option Float) (g n k : ℕ) (r₀ r : List ℕ) → CountedTo st g n k r₀ r → k < n → n ≤ 1024 → 3 * g ≤ length r₀ → (h : ℕ) → h < g → RowRoom r h
counted_rooms st g n k r₀ r C l most long h m =
    record {
      inside = omega (arith, C.long);
      above = omega (arith, C.aboves h m, count_to-le k (λ p. is_above (st p h)));
      not_above = omega (arith, C.nots h m, count_to-le k (λ p. is_not_above (st p h)));
      left = omega (arith, C.lefts h m);
    }

-- ---- all patterns

-- grade h's present belief in pattern p of m markers
abbrev pub present_in : Settings → Bale → ℕ → ℕ → ℕ → Option Float
present_in s b m p h = present_under s b (pattern_at m p) h

module _ (s : Settings) (b : Bale) (m : ℕ) (e : length b.markers ≡ m) where
  times_all : (is : Option Float → Bool) (h : ℕ) → times_to (present_in s b m) is h (2 ^ m) ≡ pattern_count is s b h
  unfolding pattern_count
  times_all is h =
      patterns-by-number m (λ rs. is (present_under s b rs h))
      ∙ sym (ap (λ (k : ℕ). how_many (λ rs. is (present_under s b rs h)) (patterns k)) e)

  module _ (r₀ r : List ℕ) (C : CountedTo (present_in s b m) b.grades (2 ^ m) (2 ^ m) r₀ r) (fits : 3 * b.grades ≤ length r₀) where
    in_row : (h j : ℕ) → h < b.grades → j ≤ 2 → cell r h j ≡ get_or (pattern_counts s b) (3 * h + j) 0
    in_row h zero l k = C.aboves h l ∙ times_all is_above h ∙ sym (report_at s b h l).first ∙ ap (λ (i : ℕ). get_or (pattern_counts s b) i 0) (let z : 3 * h ≡ 3 * h + 0 = omega arith in z)
    in_row h (suc zero) l k = C.nots h l ∙ times_all is_not_above h ∙ sym (report_at s b h l).second
    in_row h (suc (suc zero)) l k =
        let z : cell r h 2 ≡ times_to (present_in s b m) is_missing h (2 ^ m) = omega (arith, C.lefts h l) in
        z ∙ times_all is_missing h ∙ sym (report_at s b h l).third
    in_row h (suc (suc (suc j))) l k = absurd (let z : ⊥ = omega arith in z)

    at_each : (i : ℕ) → i < 3 * b.grades → get_or (take (3 * b.grades) r) i 0 ≡ get_or (pattern_counts s b) i 0
    at_each i l =
        let e : 3 * (i / 3) + i % 3 ≡ i = omega arith in
        get_or-take (3 * b.grades) r i 0 l
        ∙ subst (λ (k : ℕ). get_or r k 0 ≡ get_or (pattern_counts s b) k 0) e (in_row (i / 3) (i % 3) (omega arith) (omega arith))

    pub counted_done : r ≡ overwrite (pattern_counts s b) r₀
    counted_done =
        let n = 3 * b.grades in
        let front = length-take-le n r (omega (arith, C.long)) in
        let same : take n r ≡ pattern_counts s b = ext_get_or 0 (take n r) (pattern_counts s b) (front ∙ sym (report_long s b)) (λ i l. at_each i (omega (arith, front))) in
        sym (take-append-drop n r) ∙ (λ i. same i ++ C.rest i) ∙ ap (λ (k : ℕ). pattern_counts s b ++ drop k r₀) (sym (report_long s b))
