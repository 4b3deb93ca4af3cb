-- `convolution_tree::build_first_layer` meets its contract.
use Rattle.convolution_tree.specs.Leaves.{first_layer_put}
use Rattle.convolution_tree.proofs.first_layer.build_first_layer.Goals as goal

pub returns : goal.returns
returns c =
    let a = c.args in
    let p = c.requires in
    first_layer_put a.w.now a.n a.leaves p.0 p.1 p.2 c.normalize_messages.new.w c.pad.new.w c.normalize_messages.ensures c.pad.ensures
