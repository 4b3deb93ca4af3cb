-- `messages::rows::logs` meets its contract: what owning an `f32` tells, that binary32 has it, bounds its logarithm.
use mathlib.Core.Path.{◌≡◌, sym, subst}
use mathlib.Core.Bool.{true}
use lib.Dec.{T}
use lib.Ieee.{Float, binary32, fits}
use Rattle.definition.specs.Floats.{ln}
use Rattle.message_bounds.specs.Variable.{ln_wide}
use Rattle.messages.specs.Logarithms.{Wide}
use Rattle.messages.proofs.rows.logs.Goals as goal

bounded : (x r : Float) → fits binary32 x ≡ true → r ≡ ln x → Wide 91 r
bounded x r f e = subst (Wide 91) (sym e) (ln_wide x (subst T (sym f) tt))

pub returns : goal.returns
returns c =
    let m = c.args.m in
    let g = c.well_formed.1.0.1.1 in
    record {
      is-absent = c.ln.ensures;
      is-present = c.ln-2.ensures;
      wide_absent = bounded m.absent c.ln.result g.0.1 c.ln.ensures;
      wide_present = bounded m.present c.ln-2.result g.1.0.1 c.ln-2.ensures;
    }
