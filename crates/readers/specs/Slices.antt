-- The reads as they lie in a lent slice, two numbers to each, and where their ticks fall.
use Rattle.std.specs.Prelude.{ℕ, zero, suc, ◌+◌, ◌*◌, ◌/◌, ◌-◌, ◌≤◌, ◌<◌, ◌≡◌, refl, false, List, [], ◌∷◌, ltb, length, get_or}
use Rattle.std.proofs.Common.{arith, sym, ap, subst, ◌∙◌}
use Rattle.definition.specs.Readers.{Read, no_read, reads_of, read_at, falls_at, falls}
use Rattle.definition.specs.Refusals.{lowest_place_from, lowest_place}
use Rattle.graph_laws.specs.Twos.{length-twos, twos-at}
use Rattle.readers_laws.specs.Table.{length-falls, fall_at}
use Rattle.checks.specs.Searching.{Reached, reached_first, reached_next}

abbrev pub read_in : List ℕ → ℕ → Read
read_in rs i = record { tick = get_or rs (2 * i) 0; marker = get_or rs (2 * i + 1) 0 }

pub length-reads : (rs : List ℕ) → length (reads_of rs) ≡ length rs / 2
unfolding reads_of
length-reads = length-twos _

pub read_at_lem : (rs : List ℕ) (i : ℕ) → i < length rs / 2 → read_at (reads_of rs) i ≡ read_in rs i
unfolding reads_of
read_at_lem rs i = twos-at _ rs i 0 no_read

-- ---- falls

pub falls_count : (rs : List ℕ) → length (falls (reads_of rs)) ≡ length rs / 2
falls_count rs = length-falls (reads_of rs) ∙ length-reads rs

none_reached : Reached (falls []) 1
unfolding falls lowest_place lowest_place_from
none_reached = refl

-- the first read follows none, so that a search begins at the second
pub second_reached : (rs : List ℕ) → Reached (falls (reads_of rs)) 1
unfolding falls_at
second_reached rs = go (reads_of rs)
  where
    go : (l : List Read) → Reached (falls l) 1
    go [] = none_reached
    go (x ∷ l) = reached_next (falls (x ∷ l)) 0 (omega (arith, length-falls (x ∷ l))) (fall_at (x ∷ l) 0 (omega arith)) (reached_first (falls (x ∷ l)))

-- any other is held against the one before it
pub fall_test : (rs : List ℕ) (i : ℕ) → 1 ≤ i → i < length rs / 2 → get_or (falls (reads_of rs)) i false ≡ ltb (get_or rs (2 * i) 0) (get_or rs (2 * i - 2) 0)
unfolding falls_at
fall_test rs zero a l = absurd (let z : ⊥ = omega arith in z)
fall_test rs (suc i) a l =
    fall_at (reads_of rs) (suc i) (subst (λ n. suc i < n) (sym (length-reads rs)) l)
    ∙ ap (λ (r : Read). ltb r.tick (read_at (reads_of rs) i).tick) (read_at_lem rs (suc i) l)
    ∙ ap (λ (r : Read). ltb (get_or rs (2 * suc i) 0) r.tick) (read_at_lem rs i (omega arith))
    ∙ ap (λ (k : ℕ). ltb (get_or rs (2 * suc i) 0) (get_or rs k 0)) (let z : 2 * i ≡ 2 * suc i - 2 = omega arith in z)
