-- `steps::log::copy_node` meets its contract.
use lib.ListN.{length}
use Rattle.steps.specs.StepLog.{node_apart}
use Rattle.steps.proofs.log.copy_node.Goals as goal

pub copy_range-requires : goal.copy_range-requires
copy_range-requires c =
    let a = c.args in
    node_apart a.firsts.now a.offsets.now a.n a.from a.to (length a.w.now) c.requires.node_in c.requires.apart
