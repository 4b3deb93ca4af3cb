-- `messages::rows::message_at` meets its contract.
use Rattle.messages.specs.Pairs.{pair_at_lem}
use Rattle.messages.proofs.rows.message_at.Goals as goal

pub returns : goal.returns
returns c =
    let e = c.read.ensures.entries in
    rw (e.0, e.1) (pair_at_lem c.args.rows.now c.args.i c.requires)
