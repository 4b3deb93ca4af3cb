-- Belts under two readers, as one table, proved together by computing the definitions: what tells a window to both sides, the order of taking and the places of
-- number 10 from anything else.
use Rattle.std.specs.Prelude.{ℕ, ◌≡◌, refl, List, [], ◌∷◌, replicate}
use Rattle.definition.specs.Refusals.{lowest_place, lowest_place_from, or_refused}
use Rattle.definition.specs.Readers.{reads_of, may_match, is_free, first_free, match_with, matches_up_to, matches, falls_at, falls, match_verdict, match_numbers, MatchResult, matched, match_refused, match_result, match_call}

-- so many matches, written over a buffer of six numbers; or a refusal
abbrev answers : ℕ → List ℕ → MatchResult
answers n b = record { outcome = matched n; buffer = b }

abbrev refuses : ℕ → ℕ → List ℕ → MatchResult
refuses n p b = record { outcome = match_refused n p; buffer = b }

abbrev lent : List ℕ
lent = replicate 6 9

pub record Belts : Type 0 where
  -- five ticks later and earlier are within a window of 5, six are not
  pub later : match_call (10 ∷ 3 ∷ []) (15 ∷ 3 ∷ []) 5 lent ≡ answers 1 (0 ∷ 0 ∷ 9 ∷ 9 ∷ 9 ∷ 9 ∷ [])
  pub too_late : match_call (10 ∷ 3 ∷ []) (16 ∷ 3 ∷ []) 5 lent ≡ answers 0 lent
  pub earlier : match_call (10 ∷ 3 ∷ []) (5 ∷ 3 ∷ []) 5 lent ≡ answers 1 (0 ∷ 0 ∷ 9 ∷ 9 ∷ 9 ∷ 9 ∷ [])
  pub too_early : match_call (10 ∷ 3 ∷ []) (4 ∷ 3 ∷ []) 5 lent ≡ answers 0 lent
  -- ticks do not wrap
  pub ends : match_call (0 ∷ 1 ∷ []) (4294967295 ∷ 1 ∷ []) 1 lent ≡ answers 0 lent
  -- the lowest index is taken, not the nearest tick; and the lower reads need not be taken in order
  pub lowest : match_call (5 ∷ 1 ∷ 6 ∷ 1 ∷ []) (3 ∷ 1 ∷ 6 ∷ 1 ∷ []) 2 lent ≡ answers 2 (0 ∷ 0 ∷ 1 ∷ 1 ∷ 9 ∷ 9 ∷ [])
  pub crossing : match_call (4 ∷ 1 ∷ 4 ∷ 2 ∷ 4 ∷ 1 ∷ []) (4 ∷ 2 ∷ 4 ∷ 1 ∷ 4 ∷ 1 ∷ []) 0 lent ≡ answers 3 (0 ∷ 1 ∷ 1 ∷ 0 ∷ 2 ∷ 2 ∷ [])
  -- an odd last number is not read
  pub odd : match_call (1 ∷ 1 ∷ 2 ∷ 2 ∷ 0 ∷ []) (1 ∷ 1 ∷ 2 ∷ 2 ∷ []) 3 lent ≡ answers 2 (0 ∷ 0 ∷ 1 ∷ 1 ∷ 9 ∷ 9 ∷ [])
  -- number 10 at the later read, an upper one before any lower one, which are numbered on; number 2 before number 10
  pub upper_falls_lem : match_call (5 ∷ 1 ∷ 6 ∷ 1 ∷ 2 ∷ 1 ∷ []) (5 ∷ 1 ∷ 4 ∷ 1 ∷ []) 1 lent ≡ refuses 10 2 lent
  pub lower-falls : match_call (5 ∷ 1 ∷ 6 ∷ 1 ∷ []) (5 ∷ 1 ∷ 7 ∷ 1 ∷ 6 ∷ 1 ∷ []) 1 lent ≡ refuses 10 4 lent
  pub small : match_call (5 ∷ 1 ∷ 4 ∷ 1 ∷ []) (5 ∷ 1 ∷ []) 1 (9 ∷ []) ≡ refuses 2 0 (9 ∷ [])

pub belts : Belts
unfolding reads_of may_match is_free first_free match_with matches_up_to matches falls_at falls match_verdict match_numbers match_result match_call lowest_place lowest_place_from or_refused
belts =
    record {
      later = refl;
      too_late = refl;
      earlier = refl;
      too_early = refl;
      ends = refl;
      lowest = refl;
      crossing = refl;
      odd = refl;
      upper_falls_lem = refl;
      lower-falls = refl;
      small = refl;
    }
