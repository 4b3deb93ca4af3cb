-- `array_utils::vectors::divide` meets its contract: after i turns the first i entries are divided.
use Rattle.std.proofs.Common.{refl, ◌∙◌, arith, get_or}
use Rattle.std.specs.Prelude.{Float}
use Rattle.std.specs.Float.{nan}
use Rattle.definition.specs.Floats.{◌⊘◌}
use Rattle.list_laws.specs.InPlace.{mapped-turn, mapped-all}
use Rattle.array_utils.proofs.vectors.divide.Goals as goal

pub loop-x-preserved : goal.loop-x-preserved
loop-x-preserved c =
    let l = c.loop-x in
    mapped-turn (λ (x : Float). x ⊘ c.args.by) c.args.a.now l.a l.x-index nan (get_or l.a l.x-index nan ⊘ c.args.by) (omega arith) (omega arith) l.invariant refl

pub returns : goal.returns
returns c = let l = c.loop-x in l.invariant ∙ mapped-all (λ (x : Float). x ⊘ c.args.by) l.x-index c.args.a.now (omega arith)
