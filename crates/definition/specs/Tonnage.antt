-- Tonnage by grade (document 02, S-33): the morning's lines `bale,kilograms`, and what the beliefs of a shift's bales make of them. The Rust has nothing of it.
use Rattle.std.specs.Prelude.{ℕ, zero, suc, ◌+◌, ◌-◌, ◌*◌, ◌/◌, Bool, true, false, cond, ◌&&◌, List, [], ◌∷◌, ◌++◌, eqb, leb, ltb, Float, length, replicate}
use Rattle.std.proofs.Math.Option.{Option, none, some}
use Rattle.std.specs.Float.{nan, inf, fin}
use Rattle.std.specs.Float.Ieee.{up, down}
use Rattle.std.proofs.Math.ListN.{get_elem?}
use Rattle.definition.specs.Vectors.{entry}
use Rattle.definition.specs.Answer.{Belief, PartAnswer, answered_beliefs}
use Rattle.definition.specs.Call.{overwrite}
use Rattle.definition.specs.FileAnswer.{file_answer}
use Rattle.definition.specs.Listing.{decimal, line, refusal}
use Rattle.definition.specs.Shift.{bales}

-- ---- lines

-- the byte c before the lines ls: a line of its own if it is a line feed, else the first byte of the first line
unfoldable pub before_lines : Bool → ℕ → List (List ℕ) → List (List ℕ)
before_lines true c ls = (c ∷ []) ∷ ls
before_lines false c [] = (c ∷ []) ∷ []
before_lines false c (l ∷ ls) = (c ∷ l) ∷ ls

-- Each line with the line feed that ends it. What follows the last line feed, if any byte does, is a line too: it has none.
unfoldable pub lines_of : List ℕ → List (List ℕ)
lines_of [] = []
lines_of (c ∷ cs) = before_lines (eqb c 10) c (lines_of cs)

-- ---- a line's two numbers

-- a number, and what stands behind the byte that ends it
pub record Number : Type 0 where
  pub value : ℕ
  pub rest : List ℕ

-- n, if it is at most `most`
unfoldable pub at_most : ℕ → ℕ → Option ℕ
at_most most n = cond (leb n most) (some n) none

-- The number read so far (`none`: no digit yet), and one more byte of it. It must be a digit, and none follows a leading 0.
unfoldable pub next_digit : ℕ → Option ℕ → ℕ → Option ℕ
next_digit most none c = cond (leb 48 c && leb c 57) (at_most most (c - 48)) none
next_digit most (some zero) c = none
next_digit most (some (suc n)) c = cond (leb 48 c && leb c 57) (at_most most (10 * suc n + (c - 48))) none

-- the number that ends here, if there was a digit
unfoldable pub ended : Option ℕ → List ℕ → Option Number
ended none cs = none
ended (some n) cs = some (record { value = n; rest = cs })

-- the number of which r is read, up to the byte `end`; at most `most`
unfoldable pub number_from : ℕ → ℕ → Option ℕ → List ℕ → Option Number
number_from most end r [] = none
number_from most end r (c ∷ cs) =
    elim (eqb c end) [
      | true ↦ ended r cs
      | false ↦ elim (next_digit most r c) [ none ↦ none | some n ↦ number_from most end (some n) cs ]
    ]

pub record Row : Type 0 where
  pub bale : ℕ
  pub kilograms : ℕ

-- a row, and what follows its line feed
pub record Front : Type 0 where
  pub row : Row
  pub rest : List ℕ

unfoldable pub front_with : ℕ → Number → Number → Option Front
front_with next b k = cond (leb next b.value && leb 1 k.value) (some (record { row = record { bale = b.value; kilograms = k.value }; rest = k.rest })) none

-- `bale,kilograms` and a line feed at the front: bale from `next` to 9,999, kilograms from 1 to 2,000
unfoldable pub front_row : ℕ → List ℕ → Option Front
front_row next l =
    elim (number_from 9999 44 none l) [
      | none ↦ none
      | some b ↦ elim (number_from 2000 10 none b.rest) [ none ↦ none | some k ↦ front_with next b k ]
    ]

-- a line is good if that is all of it
unfoldable pub alone : Row → List ℕ → Option Row
alone r [] = some r
alone r (c ∷ cs) = none

unfoldable pub row_of : ℕ → List ℕ → Option Row
row_of next l = elim (front_row next l) [ none ↦ none | some f ↦ alone f.row f.rest ]

-- ---- grams

-- the whole part of w times x, which is taken exactly; 0 of what is no number or below 0
unfoldable pub share : ℕ → Float → ℕ
share w nan = 0
share w (inf s) = 0
share w (fin s m e) = cond s 0 (w * (m * up e) / down e)

-- a grade's share by its present belief; a grade without a belief gets 0
unfoldable pub share_among : ℕ → ℕ → List Belief → ℕ
share_among w g [] = 0
share_among w g (b ∷ bs) = cond (eqb g b.grade) (share w (entry 1 b.value)) (share_among w g bs)

abbrev pub grams_of : Row → ℕ
grams_of r = 1000 * r.kilograms

-- grade g's grams in a bale with the parts ps, by the row that weighs it
unfoldable pub grams_in : Row → List PartAnswer → ℕ → ℕ
grams_in r ps g = share_among (grams_of r) g (answered_beliefs ps)

-- ---- totals

-- totals of the grades from g on, and to each what the grade gets
unfoldable pub add_each : (ℕ → ℕ) → ℕ → List ℕ → List ℕ
add_each f g [] = []
add_each f g (t ∷ ts) = (t + f g) ∷ add_each f (suc g) ts

-- so many lines, and the totals; or the refusal's number and line
pub data Weighing : Type 0 where
  weighed : ℕ → List ℕ → Weighing
  refused_at : ℕ → ℕ → Weighing

-- What answers a bale, by its number; nothing for one that is not there, or is refused.
abbrev pub Answers : Type 0
Answers = ℕ → Option (List PartAnswer)

-- The lines from number k on, whose bales start at `next`, with the totals so far. A malformed line is 14, a bale without an answer 15; the first of them
-- ends it.
unfoldable pub weighing_from : Answers → ℕ → ℕ → List ℕ → List (List ℕ) → Weighing
weighing_from answer_of k next ts [] = weighed k ts
weighing_from answer_of k next ts (l ∷ ls) =
    elim (row_of next l) [
      | none ↦ refused_at 14 k
      | some r ↦
          elim (answer_of r.bale) [
            | none ↦ refused_at 15 k
            | some ps ↦ weighing_from answer_of (suc k) (suc r.bale) (add_each (grams_in r ps) 0 ts) ls
          ]
    ]

unfoldable pub weighing : Answers → List ℕ → Weighing
weighing answer_of csv = weighing_from answer_of 0 0 (replicate 1024 0) (lines_of csv)

-- ---- of a shift

unfoldable pub answer_at : Option (List ℕ) → Option (List PartAnswer)
answer_at none = none
answer_at (some bs) = file_answer bs

-- bales numbered from 0, each answered as the program answers it
unfoldable pub answer_among : List (List ℕ) → Answers
answer_among bs n = answer_at (get_elem? bs n)

unfoldable pub tonnage : List ℕ → List ℕ → Weighing
tonnage csv shift = weighing (answer_among (bales shift)) csv

-- ---- the call, and what the program `depot` prints

pub record TonnageResult : Type 0 where
  pub outcome : Weighing
  pub totals : List ℕ

-- the totals are set, at the front of the lent ones; a refusal leaves these as they were
unfoldable pub set_by : Weighing → List ℕ → TonnageResult
set_by (weighed k us) ts = record { outcome = weighed k us; totals = overwrite us ts }
set_by (refused_at n k) ts = record { outcome = refused_at n k; totals = ts }

-- number 2 comes before all lines
unfoldable pub tonnage_by_grade : List ℕ → List ℕ → List ℕ → TonnageResult
tonnage_by_grade csv shift ts = set_by (elim (ltb (length ts) 1024) [ true ↦ refused_at 2 0 | false ↦ tonnage csv shift ]) ts

-- a line for each total above 0, the first being grade g's
unfoldable pub total_lines : ℕ → List ℕ → List ℕ
total_lines g [] = []
total_lines g (t ∷ ts) = cond (eqb t 0) [] (line (decimal g ∷ decimal t ∷ [])) ++ total_lines (suc g) ts

unfoldable pub weighing_lines : Weighing → List ℕ
weighing_lines (weighed k ts) = total_lines 0 ts
weighing_lines (refused_at n k) = refusal n k
