-- The beliefs that stand in two slices, a number and two floats each, and their lines one after the other.
use Rattle.std.specs.Prelude.{◌≡◌, refl, not, List, [], ◌∷◌, ◌++◌, ℕ, ◌+◌, ◌-◌, ◌*◌, ◌≤◌, ◌<◌, T, Float, length, get_or, drop}
use Rattle.std.proofs.Common.{sym, ap, ◌∙◌, subst, add-zero, arith, length-drop, length-append, get_or-drop, drop-drop}
use Rattle.std.specs.Float.{nan}
use Rattle.std.specs.Float.Ieee.{is_nan}
use Rattle.graph_laws.specs.Lists.{All}
use Rattle.graph_laws.specs.AnswerSizes.{TwoFloats, numbers-length, floats_length}
use Rattle.definition.specs.Answer.{Belief, belief_numbers, belief_floats}
use Rattle.definition.specs.Listing.{belief_line, belief_lines}
use Rattle.listing.specs.Writing.{Written, Left, left-all, left-next, left-none}
use Rattle.listing.specs.Lines.{grade_line}

-- a float whose bits can be printed: no NaN
abbrev pub IsNumber : Float → Type 0
IsNumber x = T (not (is_nan x))

-- the slices hold the beliefs bs
pub record Beliefs (bs : List Belief) (numbers : List ℕ) (floats : List Float) : Type 0 where
  pub grades : numbers ≡ belief_numbers bs
  pub values : floats ≡ belief_floats bs
  pub two : All TwoFloats bs
  pub printed : All IsNumber (belief_floats bs)

-- and a buffer of this size has room for their lines from place at on
pub record BeliefsFit (bs : List Belief) (numbers : List ℕ) (floats : List Float) (at size : ℕ) : Type 0 where
  pub stand : Beliefs bs numbers floats
  pub fits : at + length (belief_lines bs) ≤ size

pub record SomeBeliefs (numbers : List ℕ) (floats : List Float) (at size : ℕ) : Type 0 where
  pub beliefs : List Belief
  pub good : BeliefsFit beliefs numbers floats at size

pub floats_fit : {bs : List Belief} {numbers : List ℕ} {floats : List Float} {at size : ℕ} → BeliefsFit bs numbers floats at size → 2 * length numbers ≤ length floats
floats_fit {bs} r = omega (arith, ap length r.stand.grades, ap length r.stand.values, numbers-length bs, floats_length bs r.stand.two)

-- ---- the first of them

record FirstBelief (b : Belief) (bs : List Belief) (numbers : List ℕ) (floats : List Float) : Type 0 where
  pub printed_line : belief_line b ≡ grade_line (get_or numbers 0 0) (get_or floats 0 nan) (get_or floats 1 nan)
  pub absent : IsNumber (get_or floats 0 nan)
  pub present : IsNumber (get_or floats 1 nan)
  pub long : 2 ≤ length floats
  pub rest : Beliefs bs (drop 1 numbers) (drop 2 floats)

first_of :
    (b : Belief) (bs : List Belief) (v : List Float) (numbers : List ℕ) (floats : List Float) →
    b.value ≡ v → length v ≡ 2 → numbers ≡ b.grade ∷ belief_numbers bs → floats ≡ v ++ belief_floats bs →
    All TwoFloats bs → All IsNumber (v ++ belief_floats bs) → FirstBelief b bs numbers floats
unfolding belief_line
first_of b bs [] numbers floats v l n f two h = absurd (let z : ⊥ = omega arith in z)
first_of b bs (x ∷ []) numbers floats v l n f two h = absurd (let z : ⊥ = omega arith in z)
first_of b bs (x ∷ y ∷ z ∷ r) numbers floats v l n f two h = absurd (let z : ⊥ = omega arith in z)
first_of b bs (x ∷ y ∷ []) numbers floats v l n f two h =
    rw (n, f) (record {
      printed_line = rw v;
      absent = h.0;
      present = h.1.0;
      long = omega arith;
      rest = record { grades = refl; values = refl; two = two; printed = h.1.1 };
    })

first_belief : (b : Belief) (bs : List Belief) (numbers : List ℕ) (floats : List Float) → Beliefs (b ∷ bs) numbers floats → FirstBelief b bs numbers floats
unfolding belief_numbers belief_floats
first_belief b bs numbers floats r = first_of b bs b.value numbers floats refl r.two.0 r.grades r.values r.two.1 r.printed

-- ---- one after the other

pub get_d_first : {A : Type 0} (n : ℕ) (l : List A) (d : A) → get_or (drop n l) 0 d ≡ get_or l n d
get_d_first n l d = get_or-drop n l 0 d ∙ ap (λ (k : ℕ). get_or l k d) (add-zero n)

-- where i of them are done: m is the buffer, and k the next place
pub record BeliefsLeft (l : List ℕ) (at : ℕ) (s : List ℕ) (numbers : List ℕ) (floats : List Float) (m : List ℕ) (k i : ℕ) : Type 0 where
  pub beliefs : List Belief
  pub stand : Beliefs beliefs (drop i numbers) (drop (2 * i) floats)
  pub left : Left l at s m k (belief_lines beliefs)

-- the next of them: what a turn reads, and what it leaves
pub record NextBelief (l : List ℕ) (at : ℕ) (s : List ℕ) (numbers : List ℕ) (floats : List Float) (m : List ℕ) (k i : ℕ) : Type 0 where
  pub long : 2 * i + 1 < length floats
  pub absent : IsNumber (get_or floats (2 * i) nan)
  pub present : IsNumber (get_or floats (2 * i + 1) nan)
  pub fits : k + length (grade_line (get_or numbers i 0) (get_or floats (2 * i) nan) (get_or floats (2 * i + 1) nan)) ≤ length m
  pub next :
      (n : List ℕ) (j : ℕ) → Written m k (grade_line (get_or numbers i 0) (get_or floats (2 * i) nan) (get_or floats (2 * i + 1) nan)) n j →
      BeliefsLeft l at s numbers floats n j (i + 1)

next_of :
    {l : List ℕ} {at : ℕ} {s : List ℕ} {numbers : List ℕ} {floats : List Float} {m : List ℕ} {k i : ℕ} (bs : List Belief) →
    Beliefs bs (drop i numbers) (drop (2 * i) floats) → Left l at s m k (belief_lines bs) → i < length numbers →
    NextBelief l at s numbers floats m k i
unfolding belief_numbers belief_lines
next_of {numbers = numbers} {i = i} [] r left h = absurd (let z : ⊥ = omega (arith, ap length r.grades, length-drop i numbers) in z)
next_of {l} {at} {s} {numbers} {floats} {m} {k} {i} (b ∷ bs) r left h =
    let f = first_belief b bs (drop i numbers) (drop (2 * i) floats) r in
    let e : get_or (drop i numbers) 0 0 ≡ get_or numbers i 0 = get_d_first i numbers 0 in
    let x : get_or (drop (2 * i) floats) 0 nan ≡ get_or floats (2 * i) nan = get_d_first (2 * i) floats nan in
    let y : get_or (drop (2 * i) floats) 1 nan ≡ get_or floats (2 * i + 1) nan = get_or-drop (2 * i) floats 1 nan in
    let g : belief_line b ≡ grade_line (get_or numbers i 0) (get_or floats (2 * i) nan) (get_or floats (2 * i + 1) nan) =
    f.printed_line ∙ rw (e, x, y) in
    let z : 2 * i + 2 ≡ 2 * (i + 1) = omega arith in
    record {
      long = omega (arith, f.long, length-drop (2 * i) floats);
      absent = subst IsNumber x f.absent;
      present = subst IsNumber y f.present;
      fits = omega (arith, left.fits, length-append (belief_line b) (belief_lines bs), ap length g);
      next = λ n j w. record {
        beliefs = bs;
        stand = rw (drop-drop 1 i numbers, drop-drop 2 (2 * i) floats, z) at f.rest;
        left = left-next left (rw (sym g) at w);
      };
    }

pub next_belief :
    {l : List ℕ} {at : ℕ} {s : List ℕ} {numbers : List ℕ} {floats : List Float} {m : List ℕ} {k i : ℕ} →
    BeliefsLeft l at s numbers floats m k i → i < length numbers → NextBelief l at s numbers floats m k i
next_belief r h = next_of r.beliefs r.stand r.left h

pub all-beliefs :
    (l : List ℕ) (at : ℕ) (numbers : List ℕ) (floats : List Float) (bs : List Belief) →
    BeliefsFit bs numbers floats at (length l) → BeliefsLeft l at (belief_lines bs) numbers floats l at 0
all-beliefs l at numbers floats bs r = record { beliefs = bs; stand = r.stand; left = left-all l at (belief_lines bs) r.fits }

none_of :
    {l : List ℕ} {at : ℕ} {s m : List ℕ} {k : ℕ} (bs : List Belief) → length (belief_numbers bs) ≡ 0 → Left l at s m k (belief_lines bs) → Written l at s m k
unfolding belief_numbers belief_lines
none_of [] e left = left-none left
none_of (b ∷ bs) e left = absurd (let z : ⊥ = omega arith in z)

pub no_beliefs :
    {l : List ℕ} {at : ℕ} {s : List ℕ} {numbers : List ℕ} {floats : List Float} {m : List ℕ} {k i : ℕ} →
    BeliefsLeft l at s numbers floats m k i → i ≡ length numbers → Written l at s m k
no_beliefs {numbers = numbers} {i = i} r e = none_of r.beliefs (ap length (sym r.stand.grades) ∙ length-drop i numbers ∙ (let z : length numbers - i ≡ 0 = omega arith in z)) r.left
