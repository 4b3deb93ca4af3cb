-- What the program prints for the bytes of a bale file (document 01, 'The bale file').
use Rattle.std.specs.Prelude.{ℕ, zero, suc, ◌+◌, ◌/◌, ◌%◌, true, false, cond, List, [], ◌∷◌, ◌++◌, map, ltb, Float, length}
use Rattle.std.specs.Float.{binary32}
use Rattle.std.specs.Float.Ieee.{to_bits}
use Rattle.definition.specs.Lists.{concat}
use Rattle.definition.specs.Settings.{Settings}
use Rattle.definition.specs.FactorGraph.{Bale}
use Rattle.definition.specs.Run.{Ending, limit, settled, empty}
use Rattle.definition.specs.Answer.{Belief, PartAnswer, answer}
use Rattle.definition.specs.Refusals.{Verdict, accepted, refused}
use Rattle.definition.specs.BaleFile.{words, settings_of_words, bale_of_words}
use Rattle.definition.specs.FileAnswer.{file_verdict}
use Rattle.definition.specs.Text.{ascii}

-- ---- numbers

-- the digits of n before those given; the first argument is no less than how many n has
unfoldable pub decimal_before : ℕ → ℕ → List ℕ → List ℕ
decimal_before zero n l = l
decimal_before (suc d) n l = elim (ltb n 10) [ true ↦ (48 + n) ∷ l | false ↦ decimal_before d (n / 10) ((48 + n % 10) ∷ l) ]

unfoldable pub decimal : ℕ → List ℕ
decimal n = decimal_before (suc n) n []

unfoldable pub hex_digit : ℕ → ℕ
hex_digit n = cond (ltb n 10) (48 + n) (55 + n)

-- the lowest d hexadecimal digits of n
unfoldable pub hex_before : ℕ → ℕ → List ℕ → List ℕ
hex_before zero n l = l
hex_before (suc d) n l = hex_before d (n / 16) (hex_digit (n % 16) ∷ l)

unfoldable pub hex : Float → List ℕ
hex x = hex_before 8 (to_bits binary32 x) []

-- ---- lines: fields with one space between two, and a line feed at the end

unfoldable pub line : List (List ℕ) → List ℕ
line [] = ascii "\n"
line (f ∷ []) = f ++ ascii "\n"
line (f ∷ g ∷ fs) = f ++ ascii " " ++ line (g ∷ fs)

unfoldable pub part_fields : Ending → List ℕ → List (List ℕ)
part_fields (limit r) n = ascii "limit" ∷ n ∷ hex r ∷ []
part_fields (settled r) n = ascii "settled" ∷ n ∷ hex r ∷ []
part_fields empty n = ascii "empty" ∷ n ∷ []

unfoldable pub belief_line : Belief → List ℕ
belief_line b = line (decimal b.grade ∷ map hex b.value)

unfoldable pub belief_lines : List Belief → List ℕ
belief_lines bs = concat (map belief_line bs)

-- a part's own line, and below it its beliefs'
unfoldable pub part_lines : List PartAnswer → List ℕ
part_lines ps =
    concat (map (λ (p : PartAnswer). line (ascii "part" ∷ decimal p.number ∷ part_fields p.ending (decimal p.steps)) ++ belief_lines p.beliefs) ps)

unfoldable pub bale_line : Bale → List ℕ
bale_line b = line (ascii "bale" ∷ decimal b.grades ∷ decimal (length b.markers) ∷ decimal (length b.pairs) ∷ [])

unfoldable pub refusal : ℕ → ℕ → List ℕ
refusal n p = line (ascii "refused" ∷ decimal n ∷ ascii "at" ∷ decimal p ∷ [])

-- ---- a bale file

unfoldable pub verdict_lines : Verdict → Settings → Bale → List ℕ
verdict_lines accepted s b = bale_line b ++ part_lines (answer s b)
verdict_lines (refused n p) s b = refusal n p

unfoldable pub listing : List ℕ → List ℕ
listing bs = verdict_lines (file_verdict bs) (settings_of_words (words bs)) (bale_of_words (words bs))
