-- `convolution_tree::exchange` meets its contract.
use Rattle.convolution_tree.specs.Exchange.{exchanged}
use Rattle.convolution_tree.proofs.tree.exchange.Goals as goal

pub returns : goal.returns
returns c =
    let a = c.args in
    let p = c.requires in
    let s = c.split_at_mut-front in
    let v = c.swap_with_slice in
    exchanged a.w.now s.result.0.now s.result.1.now v.new.self v.new.other a.at a.n p.0 p.1 s.ensures.front s.ensures.back v.ensures.after v.ensures.other_after
