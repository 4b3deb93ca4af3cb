-- What a bale file is answered, its lines apart: the program's own checks come before the library's (document 01, 'The bale file'; document 02, S-16, for
-- number 11).
use Rattle.std.specs.Prelude.{ℕ, Bool, ◌&&◌, List, [], ◌∷◌, map, eqb}
use Rattle.std.proofs.Math.Option.{Option, none, some}
use Rattle.definition.specs.Settings.{Settings}
use Rattle.definition.specs.FactorGraph.{Bale}
use Rattle.definition.specs.Answer.{PartAnswer, answer}
use Rattle.definition.specs.Refusals.{Buffers, Verdict, accepted, refused, too_many, least_buffers, or_refused, lowest_place, verdict}
use Rattle.definition.specs.Call.{Lent, Result, result_of}
use Rattle.definition.specs.BaleFile.{words, word_kind, bits, bad_word, settings_of_words, bale_of_words}

-- The program lends what 24 grades, 24 markers and 140 pairs need, which is the most it takes.
abbrev pub buffers : Buffers
buffers = least_buffers 24 24 140

-- a word with a base rate of 0
unfoldable pub zero_base : ℕ → Bool
zero_base w = eqb (word_kind w) 7 && eqb (bits 10 0 w) 0

-- number 9, then 11, then the program's own number 1, then the call's
unfoldable pub file_verdict : List ℕ → Verdict
file_verdict bs =
    let b = bale_of_words (words bs) in
    let v1 = or_refused 1 (lowest_place (too_many 24 24 140 b ∷ [])) (verdict (settings_of_words (words bs)) buffers b) in
    or_refused 9 (bad_word bs) (or_refused 11 (lowest_place (map zero_base (words bs))) v1)

-- the outcome, and what the lent buffers hold afterwards
unfoldable pub file_result : List ℕ → Lent → Result
file_result bs l = result_of (file_verdict bs) (settings_of_words (words bs)) (bale_of_words (words bs)) l

unfoldable pub accepted_answer : Verdict → Settings → Bale → Option (List PartAnswer)
accepted_answer accepted s b = some (answer s b)
accepted_answer (refused n p) s b = none

-- the parts alone; nothing where the file is refused
unfoldable pub file_answer : List ℕ → Option (List PartAnswer)
file_answer bs = accepted_answer (file_verdict bs) (settings_of_words (words bs)) (bale_of_words (words bs))
