-- The table of refusals of document 01, row by row.
use Rattle.std.specs.Prelude.{ℕ, ◌+◌, ◌*◌, ◌≤◌, ◌<◌, ◌≡◌, true, length}
use Rattle.std.proofs.Math.Option.{some}
use Rattle.std.proofs.Math.ListN.{get_elem?}
use Rattle.definition.specs.Floats.{oneᶠ}
use Rattle.definition.specs.Settings.{Settings}
use Rattle.definition.specs.FactorGraph.{Evidence, Pair, Bale, grades_of}
use Rattle.definition.specs.Refusals.{Buffers, outside, least_probability, greatest_probability, least_evidence, bad_tolerance}

-- Check n fails at place p. (Check 9, of a bale file, is no check of a call.)
pub data Fails (s : Settings) (f : Buffers) (b : Bale) : ℕ → ℕ → Type 0 where
  -- 1: too many
  many_grades : 1024 < b.grades → Fails s f b 1 0
  many_markers : 1024 < length b.markers → Fails s f b 1 0
  many_pairs : 8192 < length b.pairs → Fails s f b 1 0
  -- 2: too small a buffer
  small_work_floats : f.work_floats < 64 * (b.grades + length b.markers + length b.pairs) + 4096 → Fails s f b 2 0
  small_work_numbers : f.work_numbers < 64 * (b.grades + length b.markers + length b.pairs) + 4096 → Fails s f b 2 0
  small_belief_numbers : f.belief_numbers < b.grades → Fails s f b 2 0
  small_belief_floats : f.belief_floats < 2 * b.grades → Fails s f b 2 0
  small_ending_numbers : f.ending_numbers < 4 * b.grades → Fails s f b 2 0
  small_ending_floats : f.ending_floats < b.grades → Fails s f b 2 0
  -- 3: a probability out of its range, or NaN
  bad_alpha : outside least_probability greatest_probability s.alpha ≡ true → Fails s f b 3 0
  bad_beta : outside least_probability greatest_probability s.beta ≡ true → Fails s f b 3 1
  bad_prior : outside least_probability greatest_probability s.prior ≡ true → Fails s f b 3 2
  -- 4: the tolerance, the loop's limit
  tolerance : bad_tolerance s.tolerance ≡ true → Fails s f b 4 0
  limit : 1000000 < s.loop_limit → Fails s f b 4 1
  -- 5: marker m's evidence out of its range, or NaN
  absent : {m : ℕ} {e : Evidence} → get_elem? b.markers m ≡ some e → outside least_evidence oneᶠ e.absent ≡ true → Fails s f b 5 m
  present : {m : ℕ} {e : Evidence} → get_elem? b.markers m ≡ some e → outside least_evidence oneᶠ e.present ≡ true → Fails s f b 5 m
  -- 6: pair i names what is not there
  unknown_grade : {i : ℕ} {q : Pair} → get_elem? b.pairs i ≡ some q → b.grades ≤ q.grade → Fails s f b 6 i
  unknown_marker : {i : ℕ} {q : Pair} → get_elem? b.pairs i ≡ some q → length b.markers ≤ q.marker → Fails s f b 6 i
  -- 7: pair i was given before, as pair j
  again : {i : ℕ} {q : Pair} (j : ℕ) → j < i → get_elem? b.pairs j ≡ some q → get_elem? b.pairs i ≡ some q → Fails s f b 7 i
  -- 8: marker m has over 128 grades
  crowds : {m : ℕ} → m < length b.markers → 128 < length (grades_of b.pairs m) → Fails s f b 8 m
