-- `array_utils::vectors::avoid_underflow` meets its contract: after i turns the first i entries are raised.
use Rattle.std.proofs.Common.{◌∙◌, arith}
use Rattle.std.specs.Float.{nan}
use Rattle.definition.specs.Floats.{avoid_underflow}
use Rattle.definition.specs.Vectors.{avoid_underflow_all}
use Rattle.list_laws.specs.InPlace.{mapped-turn, mapped-all}
use Rattle.array_utils.proofs.vectors.avoid_underflow.Goals as goal

pub loop-x-preserved : goal.loop-x-preserved
loop-x-preserved c =
    let l = c.loop-x in
    mapped-turn avoid_underflow c.args.a.now l.a l.x-index nan c.avoid_underflow_entry.result (omega arith) (omega arith) l.invariant c.avoid_underflow_entry.ensures

pub returns : goal.returns
unfolding avoid_underflow_all
returns c = let l = c.loop-x in l.invariant ∙ mapped-all avoid_underflow l.x-index c.args.a.now (omega arith)
