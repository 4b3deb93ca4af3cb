-- When a call is refused: the checks in the order of their numbers, and within a number the lowest place.
use Rattle.std.specs.Prelude.{ℕ, suc, ◌+◌, ◌*◌, Bool, true, false, not, ◌&&◌, ◌||◌, List, [], ◌∷◌, map, leb, ltb, Float, negsuc, length}
use Rattle.std.proofs.Math.Option.{Option, none, some}
use Rattle.std.specs.Float.{nan, inf, fin}
use Rattle.std.specs.Float.Ieee.{lt, le}
use Rattle.definition.specs.Floats.{zeroᶠ, oneᶠ}
use Rattle.definition.specs.Lists.{twos, mem}
use Rattle.definition.specs.Settings.{Settings}
use Rattle.definition.specs.FactorGraph.{Evidence, Pair, eq_pair, Bale, marker_numbers, grades_of}

-- ---- what a call is given

-- How many entries each buffer has that the caller lends.
pub record Buffers : Type 0 where
  pub work_floats : ℕ
  pub work_numbers : ℕ
  pub belief_numbers : ℕ
  pub belief_floats : ℕ
  pub ending_numbers : ℕ
  pub ending_floats : ℕ

-- two floats to a marker and two numbers to a pair; an odd last entry is not read
unfoldable pub markers_of : List Float → List Evidence
markers_of = twos (λ a p. record { absent = a; present = p })

unfoldable pub pairs_of : List ℕ → List Pair
pairs_of = twos (λ g m. record { grade = g; marker = m })

unfoldable pub bale_of : ℕ → List Float → List ℕ → Bale
bale_of g es ps = record { grades = g; markers = markers_of es; pairs = pairs_of ps }

-- ---- the tests, each for what is wrong

-- x lies outside a to b, or is NaN
unfoldable pub outside : Float → Float → Float → Bool
outside a b x = not (le a x && le x b)

-- 1/1024, 1023/1024 and 2 ^ -14
abbrev pub least_probability : Float
least_probability = fin false 1 (negsuc 9)

abbrev pub greatest_probability : Float
greatest_probability = fin false 1023 (negsuc 9)

abbrev pub least_evidence : Float
least_evidence = fin false 1 (negsuc 13)

unfoldable pub too_many : ℕ → ℕ → ℕ → Bale → Bool
too_many g m p b = ltb g b.grades || ltb m (length b.markers) || ltb p (length b.pairs)

-- the least that must be lent for g grades, m markers and p pairs
abbrev pub least_buffers : ℕ → ℕ → ℕ → Buffers
least_buffers g m p =
    let w = 64 * (g + m + p) + 4096 in
    record { work_floats = w; work_numbers = w; belief_numbers = g; belief_floats = 2 * g; ending_numbers = 4 * g; ending_floats = g }

abbrev pub needed : Bale → Buffers
needed b = least_buffers b.grades (length b.markers) (length b.pairs)

unfoldable pub work_needed : Bale → ℕ
work_needed b = (needed b).work_floats

unfoldable pub too_small : Buffers → Bale → Bool
too_small f b =
    let n = needed b in
    ltb f.work_floats n.work_floats || ltb f.work_numbers n.work_numbers || ltb f.belief_numbers n.belief_numbers
    || ltb f.belief_floats n.belief_floats || ltb f.ending_numbers n.ending_numbers || ltb f.ending_floats n.ending_floats

unfoldable pub bad_tolerance : Float → Bool
bad_tolerance nan = true
bad_tolerance (inf s) = true
bad_tolerance (fin s m e) = lt (fin s m e) zeroᶠ

unfoldable pub bad_evidence : Evidence → Bool
bad_evidence e = outside least_evidence oneᶠ e.absent || outside least_evidence oneᶠ e.present

unfoldable pub unknown_pair : Bale → Pair → Bool
unknown_pair b p = leb b.grades p.grade || leb (length b.markers) p.marker

-- ---- the lowest place at which a list of tests has a true one, i being the first

unfoldable pub lowest_place_from : ℕ → List Bool → Option ℕ
lowest_place_from i [] = none
lowest_place_from i (true ∷ bs) = some i
lowest_place_from i (false ∷ bs) = lowest_place_from (suc i) bs

unfoldable pub lowest_place : List Bool → Option ℕ
lowest_place = lowest_place_from 0

-- each pair: was it given before? The first argument has those before it.
unfoldable pub repeated_pairs : List Pair → List Pair → List Bool
repeated_pairs before [] = []
repeated_pairs before (p ∷ ps) = mem eq_pair p before ∷ repeated_pairs (p ∷ before) ps

unfoldable pub too_many_grades : Bale → ℕ → Bool
too_many_grades b m = ltb 128 (length (grades_of b.pairs m))

-- ---- the verdict

pub data Verdict : Type 0 where
  accepted : Verdict
  refused : ℕ → ℕ → Verdict

-- number n where the test found a place, and otherwise what the later tests say
unfoldable pub or_refused : ℕ → Option ℕ → Verdict → Verdict
or_refused n none v = v
or_refused n (some p) v = refused n p

unfoldable pub verdict : Settings → Buffers → Bale → Verdict
verdict s f b =
    let v8 = or_refused 8 (lowest_place (map (too_many_grades b) (marker_numbers b))) accepted in
    let v7 = or_refused 7 (lowest_place (repeated_pairs [] b.pairs)) v8 in
    let v6 = or_refused 6 (lowest_place (map (unknown_pair b) b.pairs)) v7 in
    let v5 = or_refused 5 (lowest_place (map bad_evidence b.markers)) v6 in
    let v4 = or_refused 4 (lowest_place (bad_tolerance s.tolerance ∷ ltb 1000000 s.loop_limit ∷ [])) v5 in
    let v3 = or_refused 3 (lowest_place (map (outside least_probability greatest_probability) (s.alpha ∷ s.beta ∷ s.prior ∷ []))) v4 in
    let v2 = or_refused 2 (lowest_place (too_small f b ∷ [])) v3 in
    or_refused 1 (lowest_place (too_many 1024 1024 8192 b ∷ [])) v2
