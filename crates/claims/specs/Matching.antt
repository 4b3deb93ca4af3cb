-- What is claimed of the matches of two readers' reads (document 02, S-7). The crate `theorems` proves each of these types.
use Rattle.std.specs.Prelude.{ℕ, suc, ◌+◌, ◌*◌, ◌≤◌, ◌<◌, ◌≡◌, ◌↔◌, true, List, [], ◌∷◌, ltb, length, get_or}
use Rattle.definition.specs.Lists.{filter}
use Rattle.definition.specs.Refusals.{accepted, refused}
use Rattle.definition.specs.Call.{overwrite}
use Rattle.definition.specs.Readers.{Read, reads_of, read_at, Match, may_match, is_free, matches, match_verdict, match_numbers, matched, match_refused, match_call}
use Rattle.claims.specs.First.{First}

abbrev pub no_match : Match
no_match = record { upper = 0; lower = 0 }

abbrev pub match_at : List Match → ℕ → Match
match_at ms k = get_or ms k no_match

-- ---- a list of matches, made in whatever way and in any order

-- the two reads are there, and may be matched
pub record Joins (w : ℕ) (us ls : List Read) (m : Match) : Type 0 where
  pub upper_there : m.upper < length us
  pub lower-there : m.lower < length ls
  pub may : may_match w (read_at us m.upper) (read_at ls m.lower) ≡ true

-- it joins such reads, and uses none twice
pub record Matching (w : ℕ) (us ls : List Read) (ms : List Match) : Type 0 where
  pub joins : (k : ℕ) → k < length ms → Joins w us ls (match_at ms k)
  pub upper_once : (k l : ℕ) → k < l → l < length ms → (match_at ms k).upper ≡ (match_at ms l).upper → ⊥
  pub lower_once : (k l : ℕ) → k < l → l < length ms → (match_at ms k).lower ≡ (match_at ms l).lower → ⊥

-- ---- (1) the answer is one, for any ticks

abbrev pub AnswerMatches : Type 0
AnswerMatches = (w : ℕ) (us ls : List Read) → Matching w us ls (matches w us ls)

-- ---- (2) none is longer, where ticks never fall

abbrev pub InOrder : List Read → Type 0
InOrder rs = (i : ℕ) → suc i < length rs → (read_at rs i).tick ≤ (read_at rs (suc i)).tick

abbrev pub Longest : Type 0
Longest = (w : ℕ) (us ls : List Read) → InOrder us → InOrder ls → (ms : List Match) → Matching w us ls ms → length ms ≤ length (matches w us ls)

-- ---- (3) the rule, read off the answer, for any ticks

-- the matches of the upper reads before read i
abbrev pub before : ℕ → List Match → List Match
before i ms = filter (λ m. ltb m.upper i) ms

-- Lower read j is unused when upper read i is taken, which may have it.
abbrev pub Free : ℕ → List Read → List Read → List Match → ℕ → ℕ → Type 0
Free w us ls ms i j = is_free w ls (before i ms) (read_at us i) j ≡ true

-- an upper read has the lowest one that is free, and it has none only if none is free
pub record TakenInTurn (w : ℕ) (us ls : List Read) (ms : List Match) : Type 0 where
  pub free : (k : ℕ) → k < length ms → Free w us ls ms (match_at ms k).upper (match_at ms k).lower
  pub lowest : (k j : ℕ) → k < length ms → j < (match_at ms k).lower → Free w us ls ms (match_at ms k).upper j → ⊥
  pub none_free : (i : ℕ) → i < length us → ((k : ℕ) → k < length ms → (match_at ms k).upper ≡ i → ⊥) → (j : ℕ) → j < length ls → Free w us ls ms i j → ⊥

abbrev pub Rule : Type 0
Rule = (w : ℕ) (us ls : List Read) → TakenInTurn w us ls (matches w us ls)

-- ---- (4) upper indices rise, and there are at most as many as reads in either list

pub record Listed (us ls : List Read) (ms : List Match) : Type 0 where
  pub rise : (k l : ℕ) → k < l → l < length ms → (match_at ms k).upper < (match_at ms l).upper
  pub upper_few : length ms ≤ length us
  pub lower_few : length ms ≤ length ls

abbrev pub AnswerListed : Type 0
AnswerListed = (w : ℕ) (us ls : List Read) → Listed us ls (matches w us ls)

-- ---- (5) the table of refusals

-- Check n fails at place p.
pub data MatchFails (us ls : List Read) (size : ℕ) : ℕ → ℕ → Type 0 where
  -- 1: too many
  many_upper : 1024 < length us → MatchFails us ls size 1 0
  many_lower : 1024 < length ls → MatchFails us ls size 1 0
  -- 2: under two numbers for each read of the shorter list
  small_buffer : size < 2 * length us → size < 2 * length ls → MatchFails us ls size 2 0
  -- 10: a tick below the one before it; lower reads are numbered on after the upper ones
  upper_falls : {i : ℕ} → suc i < length us → (read_at us (suc i)).tick < (read_at us i).tick → MatchFails us ls size 10 (suc i)
  lower_falls : {j : ℕ} → suc j < length ls → (read_at ls (suc j)).tick < (read_at ls j).tick → MatchFails us ls size 10 (length us + suc j)

-- a call is refused with the first cause, and accepted exactly if there is none
pub record Judged (us ls : List Read) (size : ℕ) : Type 0 where
  pub accepts : match_verdict us ls size ≡ accepted ↔ ((n p : ℕ) → MatchFails us ls size n p → ⊥)
  pub refuses : (n p : ℕ) → match_verdict us ls size ≡ refused n p ↔ First (1 ∷ 2 ∷ 10 ∷ []) (MatchFails us ls size) n p

abbrev pub Table : Type 0
Table = (us ls : List Read) (size : ℕ) → Judged us ls size

-- ---- (6) the call: its outcome and the whole buffer, whose length stays

pub record Answers (upper lower : List ℕ) (w : ℕ) (b : List ℕ) : Type 0 where
  pub accepted_call : match_verdict (reads_of upper) (reads_of lower) (length b) ≡ accepted →
      let ms = matches w (reads_of upper) (reads_of lower) in
      match_call upper lower w b ≡ record { outcome = matched (length ms); buffer = overwrite (match_numbers ms) b }
  pub refused_call : (n p : ℕ) → match_verdict (reads_of upper) (reads_of lower) (length b) ≡ refused n p →
      match_call upper lower w b ≡ record { outcome = match_refused n p; buffer = b }
  pub same_length : length (match_call upper lower w b).buffer ≡ length b
  -- an accepted call's matches are the most there are
  pub most : match_verdict (reads_of upper) (reads_of lower) (length b) ≡ accepted → (ms : List Match) → Matching w (reads_of upper) (reads_of lower) ms →
      length ms ≤ length (matches w (reads_of upper) (reads_of lower))

abbrev pub CallAnswers : Type 0
CallAnswers = (upper lower : List ℕ) (w : ℕ) (b : List ℕ) → Answers upper lower w b
