-- `convolution_tree::finish` meets its contract.
use lib.Ieee.{of_bits}
use Rattle.convolution_tree.specs.Exchange.{finished}
use Rattle.convolution_tree.proofs.tree.finish.Goals as goal

pub returns : goal.returns
unfolding of_bits
returns c =
    let a = c.args in
    finished a.w.now c.avoid_underflow.new.a c.fill.new.self a.e a.end c.requires.0 c.requires.1 c.avoid_underflow.ensures (c.fill.ensures.after (λ y e. e))
