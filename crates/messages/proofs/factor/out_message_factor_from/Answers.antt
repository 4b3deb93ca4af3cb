-- `messages::factor::out_message_factor_from` meets its contract.
use Rattle.messages.specs.Factor.{from_steps}
use Rattle.messages.proofs.factor.out_message_factor_from.Goals as goal

pub weigh_rows-requires : goal.weigh_rows-requires
weigh_rows-requires c = c.requires

pub normalize-requires : goal.normalize-requires
normalize-requires c = tt

pub lower_all-requires : goal.lower_all-requires
lower_all-requires c = tt

pub avoid_underflow-requires : goal.avoid_underflow-requires
avoid_underflow-requires c = tt

pub returns : goal.returns
returns c =
    let a = c.args in
    from_steps a.cpd.now _ _ _ _ a.message.absent a.message.present c.weigh_rows.ensures c.normalize.ensures c.lower_all.ensures c.avoid_underflow.ensures
