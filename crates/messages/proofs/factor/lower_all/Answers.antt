-- `messages::factor::lower_all` meets its contract: after i turns the first i entries are lowered.
use Rattle.std.proofs.Common.{◌∙◌, arith}
use Rattle.std.specs.Float.{nan}
use Rattle.list_laws.specs.InPlace.{mapped-turn, mapped-all}
use Rattle.messages.specs.Factor.{lowered}
use Rattle.messages.proofs.factor.lower_all.Goals as goal

pub loop-x-preserved : goal.loop-x-preserved
loop-x-preserved c =
    let l = c.loop-x in
    mapped-turn lowered c.args.out.now l.out l.x-index nan _ (omega arith) l.auto.out l.invariant c.lower_entry.ensures

pub returns : goal.returns
returns c = c.loop-x.invariant ∙ mapped-all lowered c.loop-x.x-index c.args.out.now (omega arith)
