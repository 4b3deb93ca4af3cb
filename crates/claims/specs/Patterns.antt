-- The patterns of n Booleans, of which grades are present or which markers are strongly read: every one of them, once.
use Rattle.std.specs.Prelude.{ℕ, ◌^◌, ◌≡◌, Bool, true, false, not, ◌&&◌, List, [], ◌∷◌, length}
use Rattle.definition.specs.Lists.{how_many, patterns}

abbrev pub same_bool : Bool → Bool → Bool
same_bool true b = b
same_bool false b = not b

abbrev pub same_pattern : List Bool → List Bool → Bool
same_pattern [] [] = true
same_pattern [] (b ∷ q) = false
same_pattern (a ∷ p) [] = false
same_pattern (a ∷ p) (b ∷ q) = same_bool a b && same_pattern p q

-- There are 2 ^ n patterns, and each list of n Booleans is exactly one of them.
pub record EachOnce (n : ℕ) : Type 0 where
  pub many : length (patterns n) ≡ 2 ^ n
  pub once : (p : List Bool) → length p ≡ n → how_many (same_pattern p) (patterns n) ≡ 1

abbrev pub PatternsEachOnce : Type 0
PatternsEachOnce = (n : ℕ) → EachOnce n
