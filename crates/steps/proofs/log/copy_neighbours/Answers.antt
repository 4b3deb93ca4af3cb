-- `steps::log::copy_neighbours` meets its contract.
use mathlib.Core.Path.{ap, ◌∙◌}
use Prim.Native.Nat.{ℕ}
use Rattle.steps.specs.StepLog.{around_copied, new_apart, taken_around}
use Rattle.steps.proofs.log.copy_neighbours.Goals as goal

pub copy_around-requires : goal.copy_around-requires
copy_around-requires c =
    let a = c.args in
    record { words = (c.requires.0.words, c.requires.1); apart = rw c.row_len.ensures (new_apart a.firsts.now a.starts.now a.offsets.now a.w.now c.requires.0) }

pub returns : goal.returns
returns c =
    let a = c.args in
    λ p. c.copy_around.ensures p.words ∙ ap (λ (n : ℕ). around_copied p.words.graph a.w.now n 0 a.n) c.row_len.ensures ∙ taken_around a.firsts.now a.starts.now a.offsets.now a.w.now p a.n
