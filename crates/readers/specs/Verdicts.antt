-- The verdict on two lent slices, check by check.
use Rattle.std.specs.Prelude.{ℕ, suc, ◌+◌, ◌*◌, ◌/◌, ◌≤◌, ◌<◌, ◌≡◌, refl, min, Bool, true, false, cond, leb, List, [], ◌∷◌, ◌++◌, length}
use Rattle.std.proofs.Common.{arith, ◌∙◌}
use Rattle.std.proofs.Math.Path.{sym, ap}
use Rattle.std.proofs.Math.Option.{Option, none, some}
use borrow.Author.Tests.{lt-ltb, le-ltb, leb-true, leb-false}
use Rattle.definition.specs.Refusals.{lowest_place_from, lowest_place, accepted, refused, or_refused}
use Rattle.definition.specs.Readers.{reads_of, lesser, falls, match_verdict}
use Rattle.graph_laws.specs.FirstChecks.{nothing}
use Rattle.readers_laws.specs.Table.{length-falls}
use Rattle.readers.specs.Slices.{length-reads}
use Rattle.checks.specs.Verdicts.{skip, stop}

-- ---- the lowest place of two lists of tests in a row

there-from : (bs : List Bool) (i p : ℕ) → lowest_place_from i bs ≡ some p → p < i + length bs
unfolding lowest_place_from
there-from [] i p e = absurd (nothing e)
there-from (true ∷ bs) i p e = let z : i ≡ p = cc in omega arith
there-from (false ∷ bs) i p e = omega (arith, there-from bs (suc i) p e)

pub place-there : (bs : List Bool) (p : ℕ) → lowest_place bs ≡ some p → p < length bs
unfolding lowest_place
place-there bs p e = omega (arith, there-from bs 0 p e)

plus : ℕ → Option ℕ → Option ℕ
plus k none = none
plus k (some p) = some (k + p)

numbered-on : (bs : List Bool) (k i : ℕ) → lowest_place_from (k + i) bs ≡ plus k (lowest_place_from i bs)
unfolding lowest_place_from plus
numbered-on [] k i = refl
numbered-on (true ∷ bs) k i = refl
numbered-on (false ∷ bs) k i = ap (λ n. lowest_place_from n bs) (let z : suc (k + i) ≡ k + suc i = omega arith in z) ∙ numbered-on bs k (suc i)

first_of : (xs bs : List Bool) (i p : ℕ) → lowest_place_from i xs ≡ some p → lowest_place_from i (xs ++ bs) ≡ some p
unfolding lowest_place_from
first_of [] bs i p e = absurd (nothing e)
first_of (true ∷ xs) bs i p e = e
first_of (false ∷ xs) bs i p e = first_of xs bs (suc i) p e

second_of : (xs bs : List Bool) (i : ℕ) → lowest_place_from i xs ≡ none → lowest_place_from i (xs ++ bs) ≡ lowest_place_from (length xs + i) bs
unfolding lowest_place_from
second_of [] bs i e = ap (λ n. lowest_place_from n bs) (let z : i ≡ 0 + i = omega arith in z)
second_of (true ∷ xs) bs i e = absurd (nothing (sym e))
second_of (false ∷ xs) bs i e = second_of xs bs (suc i) e ∙ ap (λ n. lowest_place_from n bs) (let z : length xs + suc i ≡ suc (length xs) + i = omega arith in z)

-- ---- the verdict

pub lesser_is : (a b : ℕ) → min a b ≡ lesser a b
lesser_is a b = go (leb a b) refl
  where
    go : (t : Bool) → leb a b ≡ t → min a b ≡ cond t a b
    go true e = omega (arith, leb-true a b e)
    go false e = omega (arith, leb-false a b e)

module _ (upper lower : List ℕ) (size : ℕ) where
  pub many_upper_lem : 1024 < length upper / 2 → refused 1 0 ≡ match_verdict (reads_of upper) (reads_of lower) size
  unfolding match_verdict or_refused lowest_place lowest_place_from
  many_upper_lem l = simp (length-reads, lt-ltb _ _ l)

  pub many-lower : length upper / 2 ≤ 1024 → 1024 < length lower / 2 → refused 1 0 ≡ match_verdict (reads_of upper) (reads_of lower) size
  unfolding match_verdict or_refused lowest_place lowest_place_from
  many-lower a l = simp (length-reads, le-ltb _ _ a, lt-ltb _ _ l)

  module _ (a : length upper / 2 ≤ 1024) (b : length lower / 2 ≤ 1024) where
    pub small_buffer_lem : size < 2 * lesser (length upper / 2) (length lower / 2) → refused 2 0 ≡ match_verdict (reads_of upper) (reads_of lower) size
    unfolding match_verdict or_refused lowest_place lowest_place_from
    small_buffer_lem l = simp (length-reads, le-ltb _ _ a, le-ltb _ _ b, lt-ltb _ _ l)

    module _ (r : 2 * lesser (length upper / 2) (length lower / 2) ≤ size) where
      left-to_order : or_refused 10 (lowest_place_from 0 (falls (reads_of upper) ++ falls (reads_of lower))) accepted ≡ match_verdict (reads_of upper) (reads_of lower) size
      unfolding match_verdict or_refused lowest_place lowest_place_from
      left-to_order = simp (length-reads, le-ltb _ _ a, le-ltb _ _ b, le-ltb _ _ r)

      pub upper_falls_lem : (i : ℕ) → lowest_place (falls (reads_of upper)) ≡ some i → refused 10 i ≡ match_verdict (reads_of upper) (reads_of lower) size
      unfolding lowest_place
      upper_falls_lem i e = sym (stop 10 _ accepted i (first_of (falls (reads_of upper)) (falls (reads_of lower)) 0 i e)) ∙ left-to_order

      -- `refuse` has answered for the upper reads
      pub upper_refused :
          (k i : ℕ) (o : Option ℕ) → o ≡ lowest_place (falls (reads_of upper)) → refused k i ≡ or_refused 10 o accepted →
          refused k i ≡ match_verdict (reads_of upper) (reads_of lower) size
      unfolding or_refused
      upper_refused k i none e h = cc
      upper_refused k i (some p) e h = h ∙ upper_falls_lem p (sym e)

      module _ (n : lowest_place (falls (reads_of upper)) ≡ none) where
        on : lowest_place_from 0 (falls (reads_of upper) ++ falls (reads_of lower)) ≡ plus (length upper / 2) (lowest_place (falls (reads_of lower)))
        unfolding lowest_place
        on =
            second_of (falls (reads_of upper)) (falls (reads_of lower)) 0 n
            ∙ ap (λ k. lowest_place_from (k + 0) (falls (reads_of lower))) (length-falls (reads_of upper) ∙ length-reads upper)
            ∙ numbered-on (falls (reads_of lower)) (length upper / 2) 0

        pub lower-falls : (j : ℕ) → lowest_place (falls (reads_of lower)) ≡ some j → refused 10 (length upper / 2 + j) ≡ match_verdict (reads_of upper) (reads_of lower) size
        unfolding plus
        lower-falls j e = sym (stop 10 _ accepted (length upper / 2 + j) (on ∙ ap (plus (length upper / 2)) e)) ∙ left-to_order

        pub none-falls : lowest_place (falls (reads_of lower)) ≡ none → accepted ≡ match_verdict (reads_of upper) (reads_of lower) size
        unfolding plus
        none-falls e = sym (skip 10 _ accepted (on ∙ ap (plus (length upper / 2)) e)) ∙ left-to_order
