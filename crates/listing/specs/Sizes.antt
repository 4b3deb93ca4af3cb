-- How long the listing can be: a u32 has at most 10 digits, a u64 20.
use Rattle.std.specs.Prelude.{◌≡◌, List, [], ◌∷◌, ◌++◌, map, ℕ, ◌+◌, ◌*◌, ◌^◌, ◌≤◌, ◌<◌, Float, length}
use Rattle.std.proofs.Common.{arith, length-append}
use Rattle.graph_laws.specs.Lists.{All, All-left, All-right}
use Rattle.graph_laws.specs.AnswerSizes.{TwoFloats, answer-sizes}
use Rattle.definition.specs.Settings.{Settings}
use Rattle.definition.specs.Refusals.{Buffers, accepted, verdict}
use Rattle.definition.specs.FactorGraph.{Bale}
use Rattle.definition.specs.Run.{Ending, limit, settled, empty}
use Rattle.definition.specs.Answer.{Belief, PartAnswer, answer, answered_beliefs, belief_numbers, ending_numbers}
use Rattle.definition.specs.Text.{ascii}
use Rattle.definition.specs.Listing.{decimal, hex, line, part_fields, belief_line, belief_lines, part_lines, bale_line, refusal}
use Rattle.listing.specs.Writing.{line-length}
use Rattle.text_laws.specs.Decimal.{decimal-short}
use Rattle.listing.specs.Digits.{hex-length}
use Rattle.listing.specs.Lines.{head_line}
use Rattle.graph_laws.specs.ReadBack.{numbers_append}

-- a number that a u32 holds
abbrev Small : ℕ → Type 0
Small n = n < 2 ^ 32

ten_digits : (n : ℕ) → Small n → length (decimal n) ≤ 10
ten_digits n h = decimal-short 9 n (omega arith)

pub refusal-short : (n p : ℕ) → n < 2 ^ 32 → p < 2 ^ 64 → length (refusal n p) ≤ 43
unfolding refusal ascii
refusal-short n p h k = omega (arith, line-length (ascii "refused") (decimal n ∷ ascii "at" ∷ decimal p ∷ []), ten_digits n h, decimal-short 19 p (omega arith))

bale-short : (b : Bale) → Small b.grades → Small (length b.markers) → Small (length b.pairs) → length (bale_line b) ≤ 38
unfolding bale_line ascii
bale-short b g m p = omega (arith, line-length (ascii "bale") (decimal b.grades ∷ decimal (length b.markers) ∷ decimal (length b.pairs) ∷ []), ten_digits _ g, ten_digits _ m, ten_digits _ p)

-- ---- the parts

head_short : (number : ℕ) (e : Ending) (steps : ℕ) → Small number → Small steps → length (head_line number e steps) ≤ 44
unfolding part_fields ascii
head_short number (limit r) steps h k = omega (arith, line-length (ascii "part") (decimal number ∷ ascii "limit" ∷ decimal steps ∷ hex r ∷ []), ten_digits number h, ten_digits steps k, hex-length r)
head_short number (settled r) steps h k = omega (arith, line-length (ascii "part") (decimal number ∷ ascii "settled" ∷ decimal steps ∷ hex r ∷ []), ten_digits number h, ten_digits steps k, hex-length r)
head_short number empty steps h k = omega (arith, line-length (ascii "part") (decimal number ∷ ascii "empty" ∷ decimal steps ∷ []), ten_digits number h, ten_digits steps k)

belief_short : (b : Belief) → TwoFloats b → Small b.grade → length (belief_line b) ≤ 29
unfolding belief_line
belief_short b t h = go b.value t
  where
    go : (v : List Float) → length v ≡ 2 → length (line (decimal b.grade ∷ map hex v)) ≤ 29
    go [] e = absurd (let z : ⊥ = omega arith in z)
    go (x ∷ []) e = absurd (let z : ⊥ = omega arith in z)
    go (x ∷ y ∷ []) e = omega (arith, line-length (decimal b.grade) (hex x ∷ hex y ∷ []), ten_digits b.grade h, hex-length x, hex-length y)
    go (x ∷ y ∷ z ∷ v) e = absurd (let z : ⊥ = omega arith in z)

beliefs-short : (bs : List Belief) → All TwoFloats bs → All Small (belief_numbers bs) → length (belief_lines bs) ≤ 29 * length bs
unfolding belief_lines belief_numbers
beliefs-short [] t h = omega arith
beliefs-short (b ∷ bs) t h = omega (arith, length-append (belief_line b) (belief_lines bs), belief_short b t.0 h.0, beliefs-short bs t.1 h.1)

parts-short :
    (ps : List PartAnswer) → All TwoFloats (answered_beliefs ps) → All Small (belief_numbers (answered_beliefs ps)) → All Small (ending_numbers ps) →
    length (part_lines ps) ≤ 44 * length ps + 29 * length (answered_beliefs ps)
unfolding part_lines answered_beliefs ending_numbers
parts-short [] t k h = omega arith
parts-short (p ∷ ps) t k h =
    let bs = p.beliefs in
    let cs = answered_beliefs ps in
    let head = head_line p.number p.ending p.steps in
    let n : All Small (belief_numbers bs ++ belief_numbers cs) = rw (numbers_append bs cs) at k in
    omega (
      arith,
      length-append (head ++ belief_lines bs) (part_lines ps),
      length-append head (belief_lines bs),
      length-append bs cs,
      head_short p.number p.ending p.steps h.0 h.1.1.0,
      beliefs-short bs (All-left TwoFloats bs cs t) (All-left Small (belief_numbers bs) (belief_numbers cs) n),
      parts-short ps (All-right TwoFloats bs cs t) (All-right Small (belief_numbers bs) (belief_numbers cs) n) h.1.1.1.1,
    )

-- ---- the listing

-- of at most 24 grades, and so at most 24 parts: 38 + 24 × 44 + 24 × 29
pub listing-short :
    (s : Settings) (f : Buffers) (b : Bale) → verdict s f b ≡ accepted → b.grades ≤ 24 → length b.markers ≤ 24 → length b.pairs ≤ 140 →
    length (bale_line b ++ part_lines (answer s b)) ≤ 1790
listing-short s f b v g m p =
    let z = answer-sizes s f b v in
    omega (
      arith,
      length-append (bale_line b) (part_lines (answer s b)),
      bale-short b (omega arith) (omega arith) (omega arith),
      parts-short (answer s b) z.floats z.belief_numbers_fit z.ending_numbers_fit,
      z.beliefs,
      z.parts,
    )
