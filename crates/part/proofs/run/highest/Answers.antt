-- `part::run::highest` meets its contract.
use Rattle.part.specs.RunQueue.{queue_lent, highest_is}
use Rattle.part.proofs.run.highest.Goals as goal

pub highest_priority-requires-clause-w_bound : goal.highest_priority-requires-clause-w_bound
highest_priority-requires-clause-w_bound c =
    let k = c.word-edges in
    let m = c.word-nodes in
    (queue_lent c.args.out c.args.words.now m.result k.result c.leaves_for-leaves.result m.ensures.0 k.ensures.0 c.leaves_for-leaves.ensures c.requires).1

pub returns : goal.returns
returns c =
    let k = c.word-edges in
    let m = c.word-nodes in
    λ s t evidence x w R.
    highest_is c.args.out c.args.words.now m.result k.result c.leaves_for-leaves.result m.ensures.0 k.ensures.0 c.leaves_for-leaves.ensures s t evidence x w R
    c.highest_priority.result c.highest_priority.ensures
