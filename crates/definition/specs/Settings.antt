-- What a call is given beside the graph (the arguments of `zero_lookahead_bp` of src/lib.rs).
use Rattle.std.specs.Prelude.{ℕ, Bool, Float}

-- alpha, beta and regularised make the noisy-OR tables, prior the grades' initial beliefs; tolerance and loop_limit end the schedule
pub record Settings : Type 0 where
  pub alpha : Float
  pub beta : Float
  pub prior : Float
  pub regularised : Bool
  pub tolerance : Float
  pub loop_limit : ℕ

-- the six as a call is given them
abbrev pub settings_of : Float → Float → Float → Bool → Float → ℕ → Settings
settings_of a b p r t l = record { alpha = a; beta = b; prior = p; regularised = r; tolerance = t; loop_limit = l }
