-- `array_utils::exponential::exp_series` meets its contract: what is left of the series at h, from j - 1 down, is the whole of it.
use Rattle.std.proofs.Common.{◌≡◌, ◌-◌}
use Rattle.definition.specs.Floats.{oneᶠ, exp_series}
use Rattle.array_utils.proofs.exponential.exp_series.Given as goal

abbrev pub invariant-loop-j : goal.invariant-loop-j
invariant-loop-j l = exp_series (l.j - 1) l.r l.h ≡ exp_series 7 l.r oneᶠ
