-- What is claimed of tonnage by grade (document 02, S-33), stated in full of the definition. The crates `weighing_laws` and `tonnage_laws` prove each of these
-- types.
use Rattle.std.specs.Prelude.{ℕ, suc, ◌+◌, ◌*◌, ◌≤◌, ◌<◌, ◌≡◌, ◌⊎◌, ◌↔◌, false, List, [], ◌∷◌, ◌++◌, eqb, Float, length, get_or}
use Rattle.std.proofs.Math.Option.{none, some}
use Rattle.std.specs.Float.Ieee.Exact.{HasValue}
use Rattle.definition.specs.Lists.{mem}
use Rattle.definition.specs.Vectors.{entry}
use Rattle.definition.specs.Answer.{Belief, PartAnswer, answered_beliefs, belief_numbers}
use Rattle.definition.specs.Text.{ascii}
use Rattle.definition.specs.BaleFile.{words, bale_of_words}
use Rattle.definition.specs.FileAnswer.{file_answer}
use Rattle.definition.specs.Listing.{decimal, bale_line, part_lines, refusal, listing}
use Rattle.definition.specs.Shift.{bales}
use Rattle.definition.specs.Tonnage.{lines_of, Row, row_of, share, grams_in, Answers, weighed, refused_at, weighing, answer_among, tonnage, tonnage_by_grade}

-- ---- lines

-- A line is what a line feed ends; what follows the last line feed, if anything, is one more. The three equations say what the lines of any bytes are.
pub record LinesCut : Type 0 where
  pub none : lines_of [] ≡ []
  pub first : (l cs : List ℕ) → mem eqb 10 l ≡ false → lines_of (l ++ 10 ∷ cs) ≡ (l ++ 10 ∷ []) ∷ lines_of cs
  pub last : (c : ℕ) (l : List ℕ) → mem eqb 10 (c ∷ l) ≡ false → lines_of (c ∷ l) ≡ (c ∷ l) ∷ []

-- the line is the row's two numbers in decimal, in range, the bale at least `next`
pub record GoodLine (next : ℕ) (l : List ℕ) (r : Row) : Type 0 where
  pub text : l ≡ decimal r.bale ++ ascii "," ++ decimal r.kilograms ++ ascii "\n"
  pub rising : next ≤ r.bale
  pub bale-most : r.bale ≤ 9999
  pub kilograms_least : 1 ≤ r.kilograms
  pub kilograms_most : r.kilograms ≤ 2000

-- so no space, sign or leading zero is in a good line, and its row is the only one
abbrev pub RowsRead : Type 0
RowsRead = (next : ℕ) (l : List ℕ) (r : Row) → (row_of next l ≡ some r) ↔ GoodLine next l r

-- ---- grams

-- of the value num / den, the whole part of w times it
abbrev pub SharesWhole : Type 0
SharesWhole = (w : ℕ) (x : Float) (num den : ℕ) → 0 < den → HasValue x false num den → (share w x * den ≤ w * num) × (w * num < suc (share w x) * den)

-- A grade's grams in a bale: of each belief that the bale answers, its grade's share of the weight by the present belief; 0 for a grade without a belief; never
-- more than the weight.
pub record GramsOfBale (r : Row) (ps : List PartAnswer) : Type 0 where
  pub by_belief : (xs : List Belief) (b : Belief) (ys : List Belief) → answered_beliefs ps ≡ xs ++ b ∷ ys → grams_in r ps b.grade ≡ share (1000 * r.kilograms) (entry 1 b.value)
  pub without : (g : ℕ) → mem eqb g (belief_numbers (answered_beliefs ps)) ≡ false → grams_in r ps g ≡ 0
  pub within : (g : ℕ) → grams_in r ps g ≤ 1000 * r.kilograms

abbrev pub GramsOfBales : Type 0
GramsOfBales = (bs : List ℕ) (ps : List PartAnswer) → file_answer bs ≡ some ps → (r : Row) → GramsOfBale r ps

-- what is weighed is what the program lists, and a bale without an answer is one that it refuses
pub record AnswerListed (bs : List ℕ) : Type 0 where
  pub answered : (ps : List PartAnswer) → file_answer bs ≡ some ps → listing bs ≡ bale_line (bale_of_words (words bs)) ++ part_lines ps
  pub unanswered : file_answer bs ≡ none → (n : ℕ) × (p : ℕ) × (listing bs ≡ refusal n p)

abbrev pub AnswersListed : Type 0
AnswersListed = (bs : List ℕ) → AnswerListed bs

-- ---- the lines, one after the other

-- a good line's row, and its bale's answer
pub record Entry : Type 0 where
  pub row : Row
  pub parts : List PartAnswer

-- grade g's grams over all of them
abbrev pub total : ℕ → List Entry → ℕ
total g [] = 0
total g (e ∷ es) = grams_in e.row e.parts g + total g es

module _ (answer_of : Answers) where
  -- Each line is good and its bale answered; es has row and answer. The first line's bale is at least `next`, each later one's above the one before, and a line
  -- after them would start at `after`.
  abbrev pub Good : ℕ → List (List ℕ) → List Entry → ℕ → Type 0
  Good next [] [] after = next ≡ after
  Good next [] (e ∷ es) after = ⊥
  Good next (l ∷ ls) [] after = ⊥
  Good next (l ∷ ls) (e ∷ es) after = (row_of next l ≡ some e.row) × (answer_of e.row.bale ≡ some e.parts) × Good (suc e.row.bale) ls es after

  -- line k of ls, with all before it good
  pub record At (ls : List (List ℕ)) (k : ℕ) : Type 0 where
    pub before : List (List ℕ)
    pub here : List ℕ
    pub behind : List (List ℕ)
    pub entries : List Entry
    pub next : ℕ
    pub cut : ls ≡ before ++ here ∷ behind
    pub place : length before ≡ k
    pub good : Good 0 before entries next

  pub record MalformedAt (ls : List (List ℕ)) (k : ℕ) : Type 0 where
    pub at : At ls k
    pub bad : row_of at.next at.here ≡ none

  pub record UnansweredAt (ls : List (List ℕ)) (k : ℕ) : Type 0 where
    pub at : At ls k
    pub row : Row
    pub read : row_of at.next at.here ≡ some row
    pub missing : answer_of row.bale ≡ none

  -- all lines are good, k of them, and the totals are the sums over the lines
  pub record Summed (ls : List (List ℕ)) (k : ℕ) (ts : List ℕ) : Type 0 where
    pub entries : List Entry
    pub after : ℕ
    pub good : Good 0 ls entries after
    pub lines : k ≡ length ls
    pub long : length ts ≡ 1024
    pub sums : (g : ℕ) → g < 1024 → get_or ts g 0 ≡ total g entries

  pub record Outcome (csv : List ℕ) : Type 0 where
    pub accepted : (k : ℕ) (ts : List ℕ) → (weighing answer_of csv ≡ weighed k ts) ↔ Summed (lines_of csv) k ts
    pub malformed : (k : ℕ) → (weighing answer_of csv ≡ refused_at 14 k) ↔ MalformedAt (lines_of csv) k
    pub unanswered : (k : ℕ) → (weighing answer_of csv ≡ refused_at 15 k) ↔ UnansweredAt (lines_of csv) k
    pub no_other : (n k : ℕ) → weighing answer_of csv ≡ refused_at n k → (n ≡ 14) ⊎ (n ≡ 15)

-- Accepted with the sums over the lines, or refused at the lowest line for which there is cause, 14 first on one line: whatever answers the bales, so of a
-- shift's, whose tonnage is `weighing (answer_among (bales shift))`.
abbrev pub Outcomes : Type 0
Outcomes = (answer_of : Answers) (csv : List ℕ) → Outcome answer_of csv

-- at most 10,000 lines, and no total is over 2 * 10 ^ 10
abbrev pub TotalsFit : Type 0
TotalsFit = (csv shift : List ℕ) (k : ℕ) (ts : List ℕ) → tonnage csv shift ≡ weighed k ts → (k ≤ 10000) × ((g : ℕ) → g < 1024 → get_or ts g 0 ≤ 20000000000)

-- ---- what does not count

-- bales that no line names
abbrev pub SameNamed : Type 0
SameNamed = (csv s t : List ℕ) →
    ((xs : List (List ℕ)) (l : List ℕ) (ys : List (List ℕ)) (next : ℕ) (r : Row) → lines_of csv ≡ xs ++ l ∷ ys → row_of next l ≡ some r → answer_among (bales s) r.bale ≡ answer_among (bales t) r.bale) →
    tonnage csv s ≡ tonnage csv t

-- lines behind their first 100,011 bytes: 10,000 good ones have at most 100,000, and of a line no more than 11 are wanted to see that it is too long
abbrev pub LongLines : Type 0
LongLines = (csv more shift : List ℕ) → 100011 ≤ length csv → tonnage (csv ++ more) shift ≡ tonnage csv shift

-- ---- the call

-- Number 2 exactly if fewer than 1,024 totals are lent, before all lines. Else the outcome is the tonnage's: the first 1,024 totals are the sums over the lines
-- and the rest is as it was, or a refusal leaves all as they were.
pub record CallSettles (csv shift ts : List ℕ) : Type 0 where
  pub short : length ts < 1024 → tonnage_by_grade csv shift ts ≡ record { outcome = refused_at 2 0; totals = ts }
  pub refused : 1024 ≤ length ts → (n k : ℕ) → tonnage csv shift ≡ refused_at n k → tonnage_by_grade csv shift ts ≡ record { outcome = refused_at n k; totals = ts }
  pub outcome : 1024 ≤ length ts → (tonnage_by_grade csv shift ts).outcome ≡ tonnage csv shift
  pub sums : 1024 ≤ length ts → (k : ℕ) (us : List ℕ) → tonnage csv shift ≡ weighed k us → (s : Summed (answer_among (bales shift)) (lines_of csv) k us) →
      (g : ℕ) → g < 1024 → get_or (tonnage_by_grade csv shift ts).totals g 0 ≡ total g s.entries
  pub rest : 1024 ≤ length ts → (g : ℕ) → 1024 ≤ g → get_or (tonnage_by_grade csv shift ts).totals g 0 ≡ get_or ts g 0
  pub long : length (tonnage_by_grade csv shift ts).totals ≡ length ts

abbrev pub CallsSettle : Type 0
CallsSettle = (csv shift ts : List ℕ) → CallSettles csv shift ts
