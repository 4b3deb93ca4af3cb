-- LOG_TABLE: document 01's rule as one test over the whole table, what the test says of each entry, and the table that is lent.
use Rattle.std.specs.Prelude.{◌≡◌, refl, Bool, ◌&&◌, List, map, ℕ, ◌^◌, ◌<◌, T, eqb, leb, pos, length, get_or, Float}
use Rattle.std.proofs.Common.{sym, subst, ◌∙◌, eqb→eq, leb→le, lit≤}
use Rattle.std.proofs.Math.Path.{ap}
use Rattle.std.proofs.Math.Bool.{false}
use Rattle.std.specs.Float.{nan, fin}
use Rattle.std.specs.Float.Ieee.{of_int, round, binary32}
use Rattle.std.specs.Float.Ieee.Fits.{and_l, and_r}
use Rattle.float_laws.specs.Table.{every, at}
use Rattle.float_laws.specs.Whole.{whole-over}
use Rattle.definition.specs.Floats.{◌⊘◌, of_nat, log_table_number, log_table_entry}
use Rattle.definition.specs.Lists.{range}
use Rattle.array_utils.specs.Counts.{count_at}

-- ---- the rule: entry i is the whole part of the series; it is at most 2 ^ 24, so that f32 holds it
unfoldable pub ruled : ℕ → ℕ → Bool
ruled i x = eqb x (log_table_number i) && leb x (2 ^ 24)

pub record Ruled (l : List ℕ) : Type 0 where
  pub count : length l ≡ 1025
  pub test : T (every ruled 0 l)

denominator : of_nat (2 ^ 24) ≡ fin false 1 (pos 24)
unfolding of_int
denominator = refl

module _ (l : List ℕ) (r : Ruled l) (i : ℕ) (h : i < 1025) where
  passed : T (eqb (get_or l i 0) (log_table_number i) && leb (get_or l i 0) (2 ^ 24))
  unfolding ruled
  passed = at ruled l r.test i (subst (λ (n : ℕ). i < n) (sym r.count) h)

  pub number_at : get_or l i 0 ≡ log_table_number i
  number_at = eqb→eq (get_or l i 0) (log_table_number i) (and_l (eqb (get_or l i 0) (log_table_number i)) (leb (get_or l i 0) (2 ^ 24)) passed)

  pub number_small : T (leb (get_or l i 0) (2 ^ 24))
  number_small = and_r (eqb (get_or l i 0) (log_table_number i)) (leb (get_or l i 0) (2 ^ 24)) passed

  -- the number over 2 ^ 24 is the entry
  pub entry-is : of_nat (get_or l i 0) ⊘ fin false 1 (pos 24) ≡ log_table_entry i
  unfolding log_table_entry
  entry-is =
      ap (λ (s : Float). of_nat (get_or l i 0) ⊘ s) (sym denominator)
      ∙ whole-over (get_or l i 0) 16777215 (leb→le (get_or l i 0) (2 ^ 24) number_small) (lit≤ tt)
      ∙ ap (λ (n : ℕ). round binary32 false n (2 ^ 24)) number_at

-- ---- the table that is lent
unfoldable pub log_table : List Float
log_table = map log_table_entry (range 0 1025)

pub entry_at : (k : ℕ) → k < 1025 → get_or log_table k nan ≡ log_table_entry k
unfolding log_table
entry_at k h = count_at log_table_entry nan 1025 k h
