-- What a pattern's beliefs do to the report: each grade's row moves by how the grade stands.
use Rattle.std.specs.Prelude.{ℕ, zero, suc, ◌+◌, ◌-◌, ◌*◌, ◌≤◌, ◌<◌, ◌≡◌, refl, Bool, List, [], ◌∷◌, ◌++◌, eqb, Float, length, get_or, set, drop}
use Rattle.std.proofs.Common.{arith, sym, ◌∙◌, eqb-true}
use Rattle.std.proofs.Math.Path.{ap}
use Rattle.std.proofs.Math.Bool.{true, false}
use Rattle.std.proofs.Math.Option.{Option, none, some}
use Rattle.std.proofs.lemmas.Bool.{eqb-false}
use Rattle.std.proofs.Math.ListN.{length-set}
use Rattle.std.proofs.Math.Seq.{get_or-set_same, get_or-set_other, drop-set-lt}
use Rattle.definition.specs.Lists.{mem}
use Rattle.definition.specs.Vectors.{Message, entry}
use Rattle.definition.specs.Answer.{Belief, belief_numbers, belief_floats}
use Rattle.graph_laws.specs.Bools.{or_no}
use Rattle.graph_laws.specs.Lists.{All}
use Rattle.graph_laws.specs.Ranks.{NoDup}
use Rattle.graph_laws.specs.AnswerSizes.{TwoFloats}
use Rattle.definition.specs.Reads.{above_half, present_of}
use Rattle.report_laws.specs.Missing.{not_among}
use Rattle.patterns.specs.Tally.{side_at, side_small, HasRoom, moved, moved-long, tallied, Movable}

-- number j of grade h's row
abbrev pub cell : List ℕ → ℕ → ℕ → ℕ
cell r h j = get_or r (3 * h + j) 0

-- that number, after a belief that is above 1/2 or not
abbrev pub moved_by : Bool → ℕ → ℕ → ℕ
moved_by true zero v = v + 1
moved_by true (suc zero) v = v
moved_by true (suc (suc j)) v = v - 1
moved_by false zero v = v
moved_by false (suc zero) v = v + 1
moved_by false (suc (suc j)) v = v - 1

-- and after a pattern that has this present belief of the grade, or none
abbrev pub stepped : Option Float → ℕ → ℕ → ℕ
stepped none j v = v
stepped (some x) j v = moved_by (above_half x) j v

-- ---- one belief

module _ (r : List ℕ) (g : ℕ) (c : Bool) where
  abbrev risen : List ℕ
  risen = set r (3 * g + side_at c) (cell r g (side_at c) + 1)

  elsewhere : (i : ℕ) → (i ≡ 3 * g + side_at c → ⊥) → (i ≡ 3 * g + 2 → ⊥) → get_or (moved r g c) i 0 ≡ get_or r i 0
  unfolding moved
  elsewhere i n m = get_or-set_other risen (3 * g + 2) i (cell risen g 2 - 1) 0 m ∙ get_or-set_other r (3 * g + side_at c) i (cell r g (side_at c) + 1) 0 n

  at_side : 3 * g + 2 < length r → cell (moved r g c) g (side_at c) ≡ cell r g (side_at c) + 1
  unfolding moved
  at_side h =
      let s = side_small c in
      get_or-set_other risen (3 * g + 2) (3 * g + side_at c) (cell risen g 2 - 1) 0 (omega arith)
      ∙ get_or-set_same r (3 * g + side_at c) (cell r g (side_at c) + 1) 0 (omega arith)

  at_left : 3 * g + 2 < length r → cell (moved r g c) g 2 ≡ cell r g 2 - 1
  unfolding moved
  at_left h =
      let s = side_small c in
      get_or-set_same risen (3 * g + 2) (cell risen g 2 - 1) 0 (omega (arith, length-set r (3 * g + side_at c) (cell r g (side_at c) + 1)))
      ∙ ap (λ (v : ℕ). v - 1) (get_or-set_other r (3 * g + side_at c) (3 * g + 2) (cell r g (side_at c) + 1) 0 (omega arith))

  -- another row stays
  moved_other : (h j : ℕ) → (g ≡ h → ⊥) → j ≤ 2 → cell (moved r g c) h j ≡ cell r h j
  moved_other h j n l = let s = side_small c in elsewhere (3 * h + j) (omega arith) (omega arith)

  moved-behind : (n : ℕ) → g < n → drop (3 * n) (moved r g c) ≡ drop (3 * n) r
  unfolding moved
  moved-behind n h =
      let s = side_small c in
      drop-set-lt (3 * n) risen (3 * g + 2) (cell risen g 2 - 1) (omega arith)
      ∙ drop-set-lt (3 * n) r (3 * g + side_at c) (cell r g (side_at c) + 1) (omega arith)

moved_same : (r : List ℕ) (g : ℕ) (c : Bool) (j : ℕ) → j ≤ 2 → 3 * g + 2 < length r → cell (moved r g c) g j ≡ moved_by c j (cell r g j)
moved_same r g true zero l h = at_side r g true h
moved_same r g true (suc zero) l h = elsewhere r g true (3 * g + 1) (omega arith) (omega arith)
moved_same r g true (suc (suc zero)) l h = at_left r g true h
moved_same r g false zero l h = elsewhere r g false (3 * g + 0) (omega arith) (omega arith)
moved_same r g false (suc zero) l h = at_side r g false h
moved_same r g false (suc (suc zero)) l h = at_left r g false h
moved_same r g c (suc (suc (suc j))) l h = absurd (let z : ⊥ = omega arith in z)

-- ---- the beliefs of a pattern

abbrev pub tally : List Belief → List ℕ → List ℕ
tally [] r = r
tally (x ∷ xs) r = tally xs (moved r x.grade (above_half (entry 1 x.value)))

pub tally-long : (xs : List Belief) (r : List ℕ) → length (tally xs r) ≡ length r
tally-long [] r = refl
tally-long (x ∷ xs) r = tally-long xs (moved r x.grade (above_half (entry 1 x.value))) ∙ moved-long r x.grade (above_half (entry 1 x.value))

pub tally-behind : (xs : List Belief) (r : List ℕ) (n : ℕ) → All (λ g. g < n) (belief_numbers xs) → drop (3 * n) (tally xs r) ≡ drop (3 * n) r
unfolding belief_numbers
tally-behind [] r n h = refl
tally-behind (x ∷ xs) r n h =
    tally-behind xs (moved r x.grade (above_half (entry 1 x.value))) n h.1 ∙ moved-behind r x.grade (above_half (entry 1 x.value)) n h.0

-- what the first belief says of a grade
module _ (x : Belief) (xs : List Belief) (h : ℕ) where
  present-met : eqb x.grade h ≡ true → present_of (x ∷ xs) h ≡ some (entry 1 x.value)
  unfolding present_of
  present-met e = ap (λ (c : Bool). elim c [ true ↦ some (entry 1 x.value) | false ↦ present_of xs h ]) e

  present_other : eqb x.grade h ≡ false → present_of (x ∷ xs) h ≡ present_of xs h
  unfolding present_of
  present_other e = ap (λ (c : Bool). elim c [ true ↦ some (entry 1 x.value) | false ↦ present_of xs h ]) e

-- each grade has at most one belief, so its row moves once
pub tally-row :
    (xs : List Belief) (r : List ℕ) (h j : ℕ) → j ≤ 2 → 3 * h + 2 < length r → NoDup eqb (belief_numbers xs) →
    cell (tally xs r) h j ≡ stepped (present_of xs h) j (cell r h j)
unfolding present_of belief_numbers
tally-row [] r h j l i n = refl
tally-row (x ∷ xs) r h j l i n =
    go (eqb x.grade h) refl (tally-row xs next h j l (omega (arith, moved-long r x.grade side)) n.1)
  where
    side : Bool
    side = above_half (entry 1 x.value)

    next : List ℕ
    next = moved r x.grade side

    so : Option Float → ℕ → ℕ
    so o v = stepped o j v

    go : (c : Bool) → eqb x.grade h ≡ c → cell (tally xs next) h j ≡ so (present_of xs h) (cell next h j) → cell (tally xs next) h j ≡ so (present_of (x ∷ xs) h) (cell r h j)
    go false e p =
        p ∙ ap (so (present_of xs h)) (moved_other r x.grade side h j (eqb-false x.grade h e) l) ∙ sym (ap (λ o. so o (cell r h j)) (present_other x xs h e))
    go true e p =
        let g = eqb-true x.grade h e in
        let out : present_of xs h ≡ none = ap (present_of xs) (sym g) ∙ not_among x.grade xs n.0 in
        p ∙ ap (λ o. so o (cell next h j)) out ∙ ap (λ (k : ℕ). cell (moved r k side) h j) g ∙ moved_same r h side j l i ∙ sym (ap (λ o. so o (cell r h j)) (present-met x xs h e))

-- ---- as they lie in the slices

-- both sides of the row have room for one more, and a pattern is left
pub record RowRoom (r : List ℕ) (g : ℕ) : Type 0 where
  pub inside : 3 * g + 2 < length r
  pub above : cell r g 0 < 4294967295
  pub not_above : cell r g 1 < 4294967295
  pub left : 1 ≤ cell r g 2

side_room : (r : List ℕ) (g : ℕ) (c : Bool) → RowRoom r g → HasRoom g c r
side_room r g true m = record { inside = m.inside; side = m.above; left = m.left }
side_room r g false m = record { inside = m.inside; side = m.not_above; left = m.left }

abbrev RoomsFor : List ℕ → List Belief → Type 0
RoomsFor r xs = All (λ g. RowRoom r g) (belief_numbers xs)

rooms_kept : (xs : List Belief) (r : List ℕ) (g : ℕ) (c : Bool) → mem eqb g (belief_numbers xs) ≡ false → RoomsFor r xs → RoomsFor (moved r g c) xs
unfolding belief_numbers
rooms_kept [] r g c e m = tt
rooms_kept (x ∷ xs) r g c e m =
    let o = or_no (eqb g x.grade) (mem eqb g (belief_numbers xs)) e in
    let other : (j : ℕ) → j ≤ 2 → cell (moved r g c) x.grade j ≡ cell r x.grade j = λ j l. moved_other r g c x.grade j (eqb-false g x.grade o.0) l in
    let h = m.0 in (
      record {
        inside = omega (arith, moved-long r g c);
        above = omega (arith, other 0 (omega arith));
        not_above = omega (arith, other 1 (omega arith));
        left = omega (arith, other 2 (omega arith));
      },
      rooms_kept xs r g c o.1 m.1,
    )

pub tallied-beliefs :
    (xs : List Belief) (ns : List ℕ) (fs : List Float) (r : List ℕ) → All TwoFloats xs →
    tallied (length xs) (belief_numbers xs ++ ns) (belief_floats xs ++ fs) r ≡ tally xs r
unfolding tallied belief_numbers belief_floats
tallied-beliefs [] ns fs r t = refl
tallied-beliefs (x ∷ xs) ns fs r t = go x.value t.0 (λ q. tallied-beliefs xs ns fs q t.1)
  where
    go : (v : Message) → length v ≡ 2 → ((q : List ℕ) → tallied (length xs) (belief_numbers xs ++ ns) (belief_floats xs ++ fs) q ≡ tally xs q) →
        tallied (suc (length xs)) (x.grade ∷ (belief_numbers xs ++ ns)) ((v ++ belief_floats xs) ++ fs) r ≡ tally xs (moved r x.grade (above_half (entry 1 v)))
    go [] e h = absurd (let z : ⊥ = omega arith in z)
    go (a ∷ []) e h = absurd (let z : ⊥ = omega arith in z)
    go (a ∷ p ∷ []) e h = h (moved r x.grade (above_half p))
    go (a ∷ p ∷ q ∷ v) e h = absurd (let z : ⊥ = omega arith in z)

pub movable_beliefs :
    (xs : List Belief) (ns : List ℕ) (fs : List Float) (r : List ℕ) → All TwoFloats xs → NoDup eqb (belief_numbers xs) → All (λ g. RowRoom r g) (belief_numbers xs) →
    Movable (length xs) (belief_numbers xs ++ ns) (belief_floats xs ++ fs) r
unfolding Movable belief_numbers belief_floats
movable_beliefs [] ns fs r t n m = tt
movable_beliefs (x ∷ xs) ns fs r t n m =
    go x.value t.0 (λ c. movable_beliefs xs ns fs (moved r x.grade c) t.1 n.1 (rooms_kept xs r x.grade c n.0 m.1))
  where
    go : (v : Message) → length v ≡ 2 → ((c : Bool) → Movable (length xs) (belief_numbers xs ++ ns) (belief_floats xs ++ fs) (moved r x.grade c)) →
        Movable (suc (length xs)) (x.grade ∷ (belief_numbers xs ++ ns)) ((v ++ belief_floats xs) ++ fs) r
    go [] e h = absurd (let z : ⊥ = omega arith in z)
    go (a ∷ []) e h = absurd (let z : ⊥ = omega arith in z)
    go (a ∷ p ∷ []) e h = (side_room r x.grade (above_half p) m.0, h (above_half p))
    go (a ∷ p ∷ q ∷ v) e h = absurd (let z : ⊥ = omega arith in z)
