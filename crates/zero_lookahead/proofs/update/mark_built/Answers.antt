-- `zero_lookahead::update::mark_built` meets its contract.
use Prim.Native.Nat.{ℕ, ◌+◌, ◌*◌}
use mathlib.Core.Path.{sym, ap, ◌∙◌}
use mathlib.Core.Bool.{Bool}
use lib.ListN.{get_or, set}
use Rattle.sweeps.specs.SweepNode.{flag_after}
use Rattle.zero_lookahead.specs.Part.{rows_end}
use Rattle.zero_lookahead.specs.StepTree.{flagged, flag-kept}
use Rattle.zero_lookahead.proofs.update.mark_built.Goals as goal

pub returns-then-anew : goal.returns-then-anew
returns-then-anew c =
    let a = c.args in
    let e = rows_end a.words.now a.out + a.n in
    ap (λ (i : ℕ). set a.words.now (a.out + (6 * i + 1) + a.n) 1) c.word.ensures.0 ∙ ap (λ (z : Bool). set a.words.now e (flag_after z (get_or a.words.now e 0))) (sym c.if-anew.true)

pub returns-else-anew : goal.returns-else-anew
returns-else-anew c =
    let a = c.args in
    flag-kept a.out a.n a.words.now ∙ ap (λ (z : Bool). flagged z a.out a.n a.words.now) (sym c.if-anew.false)
