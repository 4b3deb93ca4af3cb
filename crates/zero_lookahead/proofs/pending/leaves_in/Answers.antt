-- `zero_lookahead::pending::leaves_in` meets its contract.
use Prim.Native.Nat.{ℕ, ◌*◌}
use mathlib.Core.Path.{ap, ◌∙◌}
use Rattle.priorities.specs.Leaves.{leaves_for}
use Rattle.zero_lookahead.proofs.pending.leaves_in.Goals as goal

pub returns : goal.returns
returns c = c.leaves_for.ensures ∙ ap (λ (n : ℕ). leaves_for (2 * n)) c.word.ensures.0
