-- `node::fill_rows` meets its contract: after i turns the first i rows are written, over no power that still waits, and the sum is theirs.
use Rattle.std.proofs.Common.{◌≡◌, List, ℕ, ◌+◌, ◌*◌, ◌<◌, length, get_or, take}
use Rattle.std.specs.Prelude.{Float}
use Rattle.std.specs.Float.{nan}
use Rattle.list_laws.specs.Write.{write}
use Rattle.definition.specs.Floats.{◌⊖◌, oneᶠ, powi}
use Rattle.definition.specs.Vectors.{sum_of}
use Rattle.definition.specs.Settings.{Settings}
use Rattle.definition.specs.NoisyOr.{cpd_rows}
use Rattle.node.specs.Rows.{flat_rows, given, sums}
use Rattle.node.proofs.fill_rows.Given as goal

-- the powers, in the second half
abbrev pub Waiting : ℕ → Float → List Float → Type 0
Waiting d base w = (length w ≡ 2 * d) × ((k : ℕ) → k < d → get_or w (d + k) nan ≡ powi base k)

-- entry k of the rows
abbrev pub entry_at : Settings → ℕ → ℕ → Float
entry_at s d k = get_or (flat_rows (cpd_rows s d)) k nan

abbrev pub invariant-loop-i : goal.invariant-loop-i
invariant-loop-i l = record {
  written : l.cpd ≡ write l.initial.cpd 0 (2 * l.i) (entry_at (given l.alpha l.beta l.regularised) l.degree);
  sum : l.sum ≡ sum_of (take l.i (sums (cpd_rows (given l.alpha l.beta l.regularised) l.degree)));
  waiting : Waiting l.degree (oneᶠ ⊖ l.alpha) l.initial.cpd;
}
