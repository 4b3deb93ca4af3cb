-- The program's own checks, numbers 9, 11 and 1, as verdicts.
use Rattle.std.specs.Prelude.{Bool, ◌||◌, Result, Ok, Err, [], ◌∷◌, ltb}
use Rattle.definition.specs.BaleFile.{bits}
use Rattle.definition.specs.Refusals.{Verdict, accepted, refused, lowest_place, or_refused}
use Rattle.base_rate_laws.specs.Kinds.{zero_place}
use Rattle.bale_file.specs.declared.decoder.Decoder.{Decoder}
use Rattle.bale_file.specs.Decoder.{finished}
use Rattle.checks.specs.declared.refusal.FileRefusal.{FileRefusal}
use Rattle.checks.specs.Verdicts.{number_of}

abbrev pub verdict_of : Result Unit FileRefusal → Verdict
verdict_of (Ok u) = accepted
verdict_of (Err r) = refused (number_of r.check) r.place

-- over 24 grades, 24 markers or 140 pairs, as they were counted
abbrev pub over_counts : Decoder → Bool
over_counts d = ltb 24 (bits 11 0 d.reading.grades) || ltb 24 d.reading.markers || ltb 140 d.reading.pairs

abbrev pub file_check : Decoder → Verdict
file_check d = or_refused 9 (finished d) accepted

-- in a good file the word is word 2
abbrev pub base_check : Decoder → Verdict
base_check d = or_refused 11 (zero_place d.reading.base) accepted

abbrev pub size_check : Decoder → Verdict
size_check d = or_refused 1 (lowest_place (over_counts d ∷ [])) accepted
