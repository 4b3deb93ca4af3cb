-- Weighed bales, as one table, proved together by computing the definitions.
use Rattle.std.specs.Prelude.{ℕ, zero, suc, ◌≡◌, refl, List, [], ◌∷◌, map, replicate}
use Rattle.std.proofs.Math.Option.{Option, none, some}
use Rattle.std.specs.Float.{binary32}
use Rattle.std.specs.Float.Ieee.{of_bits}
use Rattle.definition.specs.Floats.{halfᶠ, oneᶠ}
use Rattle.definition.specs.Run.{empty}
use Rattle.definition.specs.Answer.{PartAnswer, answered_beliefs}
use Rattle.definition.specs.Text.{ascii}
use Rattle.definition.specs.Listing.{decimal_before, decimal, line, refusal}
use Rattle.definition.specs.Tonnage.{before_lines, lines_of, at_most, next_digit, ended, number_from, front_with, front_row, alone, row_of, Row, share, share_among, grams_in, add_each, weighed, refused_at, weighing_from, weighing, total_lines, weighing_lines}

-- ---- what the table speaks of

-- a bale with one part that has one belief, 1/2, of grade g
abbrev half : ℕ → List PartAnswer
half g = record { number = 0; ending = empty; steps = 0; beliefs = record { grade = g; value = halfᶠ ∷ halfᶠ ∷ [] } ∷ [] } ∷ []

-- bales 0 and 2 are answered, bale 1 is refused, and there is no other
abbrev shift : ℕ → Option (List PartAnswer)
shift zero = some (half 0)
shift (suc zero) = none
shift (suc (suc zero)) = some (half 1)
shift (suc (suc (suc n))) = none

abbrev row : ℕ → ℕ → Option Row
row b k = some (record { bale = b; kilograms = k })

-- ---- the table

pub record Weighings : Type 0 where
  -- the bits 3F1626F6, 0.58653…: the exact product has 146,632 whole grams, its nearest f32 would have 146,633
  pub film : share 250000 (of_bits binary32 0x3F1626F6) ≡ 146632
  pub film_heaviest : share 2000000 (of_bits binary32 0x3F1626F6) ≡ 1173063
  pub whole-weight : share 2000000 oneᶠ ≡ 2000000
  pub smallest : share 2000000 (of_bits binary32 1) ≡ 0
  -- good lines
  pub good : row_of 0 (ascii "0,3\n") ≡ row 0 3
  pub largest : row_of 9999 (ascii "9999,2000\n") ≡ row 9999 2000
  -- malformed ones
  pub malformed :
      map (row_of 0)
      (ascii "00,5\n" ∷ ascii "0,05\n" ∷ ascii "0,0\n" ∷ ascii "0,2001\n" ∷ ascii "10000,5\n" ∷ ascii "0,5,\n" ∷ ascii " 0,5\n" ∷ ascii "0,5" ∷ ascii "\n" ∷ ascii ",5\n" ∷ ascii "0,\n" ∷ ascii "18446744073709551616,5\n"
      ∷ ascii "0,4294967297\n" ∷ (48 ∷ 44 ∷ 53 ∷ 13 ∷ 10 ∷ []) ∷ []) ≡ replicate 14 none
  pub not_rising : row_of 2 (ascii "1,5\n") ≡ none
  -- no line; one; two, of which the second's bale is answered behind a refused one
  pub no_line : weighing shift [] ≡ weighed 0 (replicate 1024 0)
  pub one_line : weighing shift (ascii "0,3\n") ≡ weighed 1 (1500 ∷ replicate 1023 0)
  pub two_lines : weighing shift (ascii "0,7\n2,9\n") ≡ weighed 2 (3500 ∷ 4500 ∷ replicate 1022 0)
  -- a bale refused, or not there; the lower line wins, and 14 on one line
  pub refused : weighing shift (ascii "0,7\n1,9\n") ≡ refused_at 15 1
  pub absent : weighing shift (ascii "5,5\n") ≡ refused_at 15 0
  pub lower-first : weighing shift (ascii "0,7\n1,9\nx\n") ≡ refused_at 15 1
  pub malformed_first : weighing shift (ascii "0,7\nx\n1,9\n") ≡ refused_at 14 1
  pub both : weighing shift (ascii "9000,2001\n") ≡ refused_at 14 0
  pub twice : weighing shift (ascii "0,1\n2,1\n2,1\n") ≡ refused_at 14 2
  pub unended : weighing shift (ascii "0,5") ≡ refused_at 14 0
  -- as it is printed
  pub printed : weighing_lines (weighed 2 (3500 ∷ 0 ∷ 20000000000 ∷ replicate 1021 0)) ≡ ascii "0 3500\n2 20000000000\n"
  pub told : weighing_lines (refused_at 15 1) ≡ ascii "refused 15 at 1\n"

pub weighings : Weighings
unfolding of_bits ascii before_lines lines_of at_most next_digit ended number_from front_with front_row alone row_of share share_among grams_in add_each weighing_from weighing total_lines weighing_lines decimal_before decimal line refusal answered_beliefs
weighings =
    record {
      film = refl;
      film_heaviest = refl;
      whole-weight = refl;
      smallest = refl;
      good = refl;
      largest = refl;
      malformed = refl;
      not_rising = refl;
      no_line = refl;
      one_line = refl;
      two_lines = refl;
      refused = refl;
      absent = refl;
      lower-first = refl;
      malformed_first = refl;
      both = refl;
      twice = refl;
      unended = refl;
      printed = refl;
      told = refl;
    }
