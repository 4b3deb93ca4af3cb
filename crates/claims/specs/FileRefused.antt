-- Number 9 of document 01's table, a bad bale file; and the program's table, in which it and document 02's number 11 come ahead of the numbers 1 to 8.
use Rattle.std.specs.Prelude.{ℕ, ◌%◌, ◌<◌, ◌≡◌, ◌↔◌, Bool, true, false, List, [], ◌∷◌, ◌++◌, map, length, get_or, replicate}
use Rattle.std.proofs.Math.Option.{none, some}
use Rattle.std.proofs.Math.ListN.{get_elem?}
use Rattle.definition.specs.Lists.{range, cons_if}
use Rattle.definition.specs.FactorGraph.{Bale}
use Rattle.definition.specs.Answer.{answer}
use Rattle.definition.specs.Refusals.{accepted, refused}
use Rattle.definition.specs.BaleFile.{words, word_kind, bits, clean_word, may_follow, bad_word, settings_of_words, bale_of_words}
use Rattle.definition.specs.FileAnswer.{buffers, file_verdict}
use Rattle.definition.specs.Listing.{part_lines, bale_line, refusal, listing}
use Rattle.claims.specs.First.{First}
use Rattle.claims.specs.Refused.{Fails}

-- ---- a bad file

-- the kind of the word before place p; before the first it is 0
abbrev pub kind_before : List ℕ → ℕ → ℕ
kind_before ws p = get_or (0 ∷ map word_kind ws) p 0

-- What is bad at place p: at a word another order or kind, or a set bit outside the fields; at the count of whole words a missing end, or bytes left over.
pub data BadAt (bs : List ℕ) : ℕ → Type 0 where
  disorder : {p w : ℕ} → get_elem? (words bs) p ≡ some w → may_follow (kind_before (words bs) p) (word_kind w) ≡ false → BadAt bs p
  stray_bit : {p w : ℕ} → get_elem? (words bs) p ≡ some w → clean_word w ≡ false → BadAt bs p
  missing_end : (kind_before (words bs) (length (words bs)) ≡ 6 → ⊥) → BadAt bs (length (words bs))
  bytes_left : (length bs % 4 ≡ 0 → ⊥) → BadAt bs (length (words bs))

pub record FirstBad (bs : List ℕ) (p : ℕ) : Type 0 where
  pub bad : BadAt bs p
  pub first : (q : ℕ) → q < p → BadAt bs q → ⊥

-- the word that is found is the first bad place, and none is found exactly if there is none
pub record FileJudged (bs : List ℕ) : Type 0 where
  pub good : bad_word bs ≡ none ↔ ((p : ℕ) → BadAt bs p → ⊥)
  pub bad : (p : ℕ) → bad_word bs ≡ some p ↔ FirstBad bs p

-- A good file: whole words, one each of 1, 2, 3, perhaps a 7 between 2 and 3, then all 4s, all 5s, one 6 and nothing after, and no set bit outside the fields.
pub record GoodFile (bs : List ℕ) : Type 0 where
  pub whole : length bs % 4 ≡ 0
  pub based : Bool
  pub markers : ℕ
  pub pairs : ℕ
  pub kinds : map word_kind (words bs) ≡ 1 ∷ 2 ∷ cons_if based 7 (3 ∷ (replicate markers 4 ++ (replicate pairs 5 ++ 6 ∷ [])))
  pub clean : (p w : ℕ) → get_elem? (words bs) p ≡ some w → clean_word w ≡ true

abbrev pub NoneBad : Type 0
NoneBad = (bs : List ℕ) → bad_word bs ≡ none ↔ GoodFile bs

-- ---- the program's table

-- what a file says, where it is good
abbrev pub bale_in : List ℕ → Bale
bale_in bs = bale_of_words (words bs)

-- Check n of the program fails at place p: 9 for a bad file, 11 for a base rate of 0, 1 for more than the program takes, and else as a call with the
-- program's buffers.
pub data FileFails (bs : List ℕ) : ℕ → ℕ → Type 0 where
  bad_file : {p : ℕ} → BadAt bs p → FileFails bs 9 p
  zero_rate : {p w : ℕ} → get_elem? (words bs) p ≡ some w → word_kind w ≡ 7 → bits 10 0 w ≡ 0 → FileFails bs 11 p
  many_grades : 24 < (bale_in bs).grades → FileFails bs 1 0
  many_markers : 24 < length (bale_in bs).markers → FileFails bs 1 0
  many_pairs : 140 < length (bale_in bs).pairs → FileFails bs 1 0
  as_called : {n p : ℕ} → Fails (settings_of_words (words bs)) buffers (bale_in bs) n p → FileFails bs n p

-- The verdict is the first refusal in that order, 9 and then 11 ahead of all others, and a file is accepted exactly if there is none; and so it is printed.
pub record FileListed (bs : List ℕ) : Type 0 where
  pub refused_at_lem : (n p : ℕ) → file_verdict bs ≡ refused n p ↔ First (9 ∷ 11 ∷ range 1 8) (FileFails bs) n p
  pub accepted_as : file_verdict bs ≡ accepted ↔ ((n p : ℕ) → FileFails bs n p → ⊥)
  pub refuses : (n p : ℕ) → First (9 ∷ 11 ∷ range 1 8) (FileFails bs) n p → listing bs ≡ refusal n p
  pub answers : ((n p : ℕ) → FileFails bs n p → ⊥) → listing bs ≡ bale_line (bale_in bs) ++ part_lines (answer (settings_of_words (words bs)) (bale_in bs))
