-- The queue (`priorities` and `get_highest_priority` of src/messages.rs, with document 01's order): the largest amount, a NaN above all others, and of equal
-- ones the least direction. A queue has an entry for each direction: the amount with which it waits, or none.
use Rattle.std.specs.Prelude.{ℕ, suc, Bool, true, false, cond, List, [], ◌∷◌, Float}
use Rattle.std.proofs.Math.Option.{Option, none, some}
use Rattle.std.specs.Float.Ieee.{lt, is_nan}

-- x is larger than y; a NaN is larger than any number
unfoldable pub exceeds : Float → Float → Bool
exceeds x y = cond (is_nan y) false (cond (is_nan x) true (lt y x))

pub record Highest : Type 0 where
  pub direction : ℕ
  pub priority : Float

-- b, or direction d with the priority x, if that is larger
unfoldable pub higher : Option Highest → ℕ → Float → Option Highest
higher none d x = some (record { direction = d; priority = x })
higher (some b) d x = cond (exceeds x b.priority) (some (record { direction = d; priority = x })) (some b)

unfoldable pub highest_from : Option Highest → ℕ → List (Option Float) → Option Highest
highest_from b d [] = b
highest_from b d (none ∷ q) = highest_from b (suc d) q
highest_from b d (some x ∷ q) = highest_from (higher b d x) (suc d) q

unfoldable pub highest_priority : List (Option Float) → Option Highest
highest_priority = highest_from none 0
