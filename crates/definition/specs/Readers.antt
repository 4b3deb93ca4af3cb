-- Two readers over one belt (document 02, S-7; the Rust has nothing of it): which upper read is matched with which lower one, when a call for that is refused, and
-- what it leaves.
use Rattle.std.specs.Prelude.{ℕ, zero, suc, ◌+◌, ◌*◌, Bool, false, not, cond, ◌&&◌, ◌||◌, List, [], ◌∷◌, ◌++◌, map, eqb, leb, ltb, length, get_or}
use Rattle.std.proofs.Math.Option.{Option, none, some}
use Rattle.definition.specs.Lists.{range, concat, twos, mem}
use Rattle.definition.specs.Refusals.{lowest_place, Verdict, accepted, refused, or_refused}
use Rattle.definition.specs.Call.{overwrite}

-- ---- reads

-- When it was made, and which marker it read.
pub record Read : Type 0 where
  pub tick : ℕ
  pub marker : ℕ

-- two numbers to a read; an odd last one is not read
unfoldable pub reads_of : List ℕ → List Read
reads_of = twos (λ t m. record { tick = t; marker = m })

-- stands for a read that is not there
abbrev pub no_read : Read
no_read = record { tick = 0; marker = 0 }

abbrev pub read_at : List Read → ℕ → Read
read_at rs i = get_or rs i no_read

-- ---- the matches

-- An upper and a lower read, by their indices.
pub record Match : Type 0 where
  pub upper : ℕ
  pub lower : ℕ

abbrev pub lowers_of : List Match → List ℕ
lowers_of = map (λ (m : Match). m.lower)

-- the same marker, and at most w ticks from one to the other, whichever is the later
unfoldable pub may_match : ℕ → Read → Read → Bool
may_match w u l = eqb u.marker l.marker && (leb u.tick (l.tick + w) && leb l.tick (u.tick + w))

-- lower read j is in none of the matches ms, and u may have it
unfoldable pub is_free : ℕ → List Read → List Match → Read → ℕ → Bool
is_free w ls ms u j = not (mem eqb j (lowers_of ms)) && may_match w u (read_at ls j)

-- the lowest such j
unfoldable pub first_free : ℕ → List Read → List Match → Read → Option ℕ
first_free w ls ms u = lowest_place (map (is_free w ls ms u) (range 0 (length ls)))

-- upper read i with what was found for it
unfoldable pub match_with : ℕ → Option ℕ → List Match
match_with i none = []
match_with i (some j) = record { upper = i; lower = j } ∷ []

-- The matches of the first n upper reads, which are taken in order.
unfoldable pub matches_up_to : ℕ → List Read → List Read → ℕ → List Match
matches_up_to w us ls zero = []
matches_up_to w us ls (suc n) = let ms = matches_up_to w us ls n in ms ++ match_with n (first_free w ls ms (read_at us n))

unfoldable pub matches : ℕ → List Read → List Read → List Match
matches w us ls = matches_up_to w us ls (length us)

-- ---- the refusals

abbrev pub lesser : ℕ → ℕ → ℕ
lesser a b = cond (leb a b) a b

-- read i was made before the one before it
unfoldable pub falls_at : List Read → ℕ → Bool
falls_at rs zero = false
falls_at rs (suc i) = ltb (read_at rs (suc i)).tick (read_at rs i).tick

unfoldable pub falls : List Read → List Bool
falls rs = map (falls_at rs) (range 0 (length rs))

-- Over 1,024 reads a side; an answer buffer under two numbers for each read of the shorter list; ticks that fall, the lower reads being numbered on after the
-- upper ones.
unfoldable pub match_verdict : List Read → List Read → ℕ → Verdict
match_verdict us ls size =
    let v10 = or_refused 10 (lowest_place (falls us ++ falls ls)) accepted in
    let v2 = or_refused 2 (lowest_place (ltb size (2 * lesser (length us) (length ls)) ∷ [])) v10 in
    or_refused 1 (lowest_place ((ltb 1024 (length us) || ltb 1024 (length ls)) ∷ [])) v2

-- ---- the call

-- each match as two numbers, upper then lower
unfoldable pub match_numbers : List Match → List ℕ
match_numbers ms = concat (map (λ (m : Match). m.upper ∷ m.lower ∷ []) ms)

-- so many matches were written; or the refusal's number and place
pub data MatchOutcome : Type 0 where
  matched : ℕ → MatchOutcome
  match_refused : ℕ → ℕ → MatchOutcome

pub record MatchResult : Type 0 where
  pub outcome : MatchOutcome
  pub buffer : List ℕ

-- the matches stand at the front of the buffer; a refusal leaves it as it was
unfoldable pub match_result : Verdict → List Match → List ℕ → MatchResult
match_result accepted ms b = record { outcome = matched (length ms); buffer = overwrite (match_numbers ms) b }
match_result (refused n p) ms b = record { outcome = match_refused n p; buffer = b }

-- the upper and the lower reads as numbers, the window in ticks, the answer buffer
unfoldable pub match_call : List ℕ → List ℕ → ℕ → List ℕ → MatchResult
match_call upper lower w b =
    let us = reads_of upper in
    let ls = reads_of lower in
    match_result (match_verdict us ls (length b)) (matches w us ls) b
