-- A scan of the lower reads by their marks: what is passed for good, what is open to an upper read, and where a search may end.
use Rattle.std.specs.Prelude.{ℕ, zero, suc, ◌+◌, ◌*◌, ◌/◌, ◌≤◌, ◌<◌, ◌≡◌, refl, Bool, true, not, ◌&&◌, ◌||◌, List, map, eqb, leb, ltb, length, get_or}
use Rattle.std.proofs.Common.{add-one, arith, sym, ap, subst, ◌∙◌, ltb-true, ltb-false, lt-ltb, le-leb}
use Rattle.std.proofs.Math.Bool.{false, and-false}
use Rattle.std.proofs.lemmas.Bool.{lt-leb}
use Rattle.std.proofs.Math.ListN.{length-map}
use Rattle.definition.specs.Lists.{range}
use Rattle.definition.specs.Readers.{Read, reads_of, read_at, may_match}
use Rattle.claims.specs.Matching.{InOrder}
use Rattle.readers_laws.specs.Turns.{in_order}
use Rattle.graph_laws.specs.Lists.{length_count, count_at}
use Rattle.checks.specs.Searching.{Reached, reached_first, reached_next}
use Rattle.readers.specs.Slices.{read_at_lem}

abbrev pub read_of : ℕ → ℕ → Read
read_of t m = record { tick = t; marker = m }

-- used, or over w ticks before t
abbrev pub is_passed : ℕ → List Read → List ℕ → ℕ → ℕ → Bool
is_passed w ls marks t j = not (eqb (get_or marks j 0) 0) || ltb ((read_at ls j).tick + w) t

abbrev pub Passed : ℕ → List Read → List ℕ → ℕ → ℕ → Type 0
Passed w ls marks t n = (j : ℕ) → j < n → is_passed w ls marks t j ≡ true

-- the first that is not passed, or their end
pub record Skipped (w : ℕ) (ls : List Read) (marks : List ℕ) (t n : ℕ) : Type 0 where
  pub there : n ≤ length ls
  pub passed : Passed w ls marks t n
  pub stops : n < length ls → is_passed w ls marks t n ≡ false

-- unused, and u may have it
abbrev pub is_open : ℕ → List Read → List ℕ → Read → ℕ → Bool
is_open w ls marks u j = eqb (get_or marks j 0) 0 && may_match w u (read_at ls j)

unfoldable pub open_tests : ℕ → List Read → List ℕ → Read → List Bool
open_tests w ls marks u = map (is_open w ls marks u) (range 0 (length ls))

-- ---- in terms of the lent slice

pub passed_slice : (w : ℕ) (lower marks : List ℕ) (t j : ℕ) → j < length lower / 2 →
    is_passed w (reads_of lower) marks t j ≡ (not (eqb (get_or marks j 0) 0) || ltb (get_or lower (2 * j) 0 + w) t)
passed_slice w lower marks t j l = ap (λ (r : Read). not (eqb (get_or marks j 0) 0) || ltb (r.tick + w) t) (read_at_lem lower j l)

pub open_slice : (w : ℕ) (lower marks : List ℕ) (t m j : ℕ) → j < length lower / 2 →
    is_open w (reads_of lower) marks (read_of t m) j
    ≡ (eqb (get_or marks j 0) 0 && (eqb m (get_or lower (2 * j + 1) 0) && (leb t (get_or lower (2 * j) 0 + w) && leb (get_or lower (2 * j) 0) (t + w))))
unfolding may_match
open_slice w lower marks t m j l = ap (λ (r : Read). eqb (get_or marks j 0) 0 && may_match w (read_of t m) r) (read_at_lem lower j l)

-- ---- the tests of a search

module _ (w : ℕ) (ls : List Read) (marks : List ℕ) (u : Read) where
  pub open_count : length (open_tests w ls marks u) ≡ length ls
  unfolding open_tests
  open_count = length-map (range 0 (length ls)) (is_open w ls marks u) ∙ length_count 0 (length ls)

  pub open_test : (j : ℕ) → j < length ls → get_or (open_tests w ls marks u) j false ≡ is_open w ls marks u j
  unfolding open_tests
  open_test = count_at (is_open w ls marks u) false (length ls)

  early : (j : ℕ) → (read_at ls j).tick + w < u.tick → may_match w u (read_at ls j) ≡ false
  unfolding may_match
  early j l = rw (lt-leb u.tick ((read_at ls j).tick + w) l) (and-false (eqb u.marker (read_at ls j).marker))

  late : (j : ℕ) → u.tick + w < (read_at ls j).tick → may_match w u (read_at ls j) ≡ false
  unfolding may_match
  late j l =
      rw (lt-leb (read_at ls j).tick (u.tick + w) l, and-false (leb u.tick ((read_at ls j).tick + w))) (and-false (eqb u.marker (read_at ls j).marker))

  -- what is passed is not open
  pub passed_shut : (j : ℕ) → is_passed w ls marks u.tick j ≡ true → is_open w ls marks u j ≡ false
  passed_shut j h = go (eqb (get_or marks j 0) 0) h
    where
      go : (b : Bool) → (not b || ltb ((read_at ls j).tick + w) u.tick) ≡ true → (b && may_match w u (read_at ls j)) ≡ false
      go true e = early j (ltb-true _ _ e)
      go false e = refl

  pub passed_reached : (n : ℕ) → n ≤ length ls → Passed w ls marks u.tick n → Reached (open_tests w ls marks u) n
  passed_reached zero l p = reached_first (open_tests w ls marks u)
  passed_reached (suc n) l p =
      rw add-one at
      (reached_next (open_tests w ls marks u) n (omega (arith, open_count)) (open_test n l ∙ passed_shut n (p n (omega arith)))
      (passed_reached n (omega arith) (λ j q. p j (omega arith))))

  -- what is too late is not open, nor is anything behind it
  pub late_shut : InOrder ls → (j k : ℕ) → u.tick + w < (read_at ls j).tick → j ≤ k → k < length ls → is_open w ls marks u k ≡ false
  late_shut o j k l a b = rw (late k (omega (arith, in_order ls o j k a b))) (and-false (eqb (get_or marks k 0) 0))

-- ---- what is passed stays passed

pub passed_later : (w : ℕ) (ls : List Read) (marks : List ℕ) (s t n : ℕ) → s ≤ t → Passed w ls marks s n → Passed w ls marks t n
passed_later w ls marks s t n l p j q = go (eqb (get_or marks j 0) 0) (p j q)
  where
    go : (b : Bool) → (not b || ltb ((read_at ls j).tick + w) s) ≡ true → (not b || ltb ((read_at ls j).tick + w) t) ≡ true
    go true e = let q : (read_at ls j).tick + w < t = omega (arith, ltb-true ((read_at ls j).tick + w) s e) in lt-ltb ((read_at ls j).tick + w) t q
    go false e = refl

-- what is not too late is within the window
pub not_beyond : (r : Bool) (s t : ℕ) → r ≡ ltb s t → not r ≡ leb t s
not_beyond r s t e = ap not e ∙ go (ltb s t) refl
  where
    go : (b : Bool) → ltb s t ≡ b → not b ≡ leb t s
    go true h = sym (lt-leb t s (ltb-true s t h))
    go false h = sym (le-leb t s (ltb-false s t h))

-- behind a read that is too late no test is true
pub late_tests : (w : ℕ) (lower marks : List ℕ) (u : Read) → InOrder (reads_of lower) → (j : ℕ) → j < length lower / 2 → u.tick + w < get_or lower (2 * j) 0 →
    (k : ℕ) → j ≤ k → k < length (open_tests w (reads_of lower) marks u) → get_or (open_tests w (reads_of lower) marks u) k false ≡ false
late_tests w lower marks u o j l h k a b =
    let q : k < length (reads_of lower) = omega (arith, open_count w (reads_of lower) marks u) in
    open_test w (reads_of lower) marks u k q ∙ late_shut w (reads_of lower) marks u o j k (subst (λ (r : Read). u.tick + w < r.tick) (sym (read_at_lem lower j l)) h) a q
