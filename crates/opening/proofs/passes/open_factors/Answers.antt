-- `opening::passes::open_factors` meets its contract: the first n nodes have had their turn.
use Rattle.std.proofs.Common.{arith}
use Rattle.definition.specs.FactorGraph.{is_factor}
use Rattle.definition.specs.Sweeps.{opening_factor}
use Rattle.messages.specs.Layout.{cut}
use Rattle.opening.specs.OpenKinds.{factors_again, some_factors_again, factors_node, factors_last, kinds-start, kinds-next, kinds-end}
use Rattle.opening.proofs.passes.open_factors.Goals as goal

pub loop-n-init : goal.loop-n-init
loop-n-init c = λ s t R e. kinds-start is_factor (opening_factor s t) t (cut t.directions c.args.row.now)

pub open_if_factor-requires : goal.open_if_factor-requires
open_if_factor-requires c = (some_factors_again c.requires c.loop-n.auto.row, c.loop-n-test.true)

pub loop-n-preserved : goal.loop-n-preserved
loop-n-preserved c =
    let s = c.loop-n in
    let a = c.args in
    let m = c.open_if_factor in
    let q = c.loop-n-test.true in
    λ g t R e.
    kinds-next is_factor (opening_factor g t) t (cut t.directions a.row.now) (cut t.directions s.row) (cut t.directions m.new.row) s.n
    (factors_node g t a.kinds.now a.firsts.now a.starts.now a.outs.now a.offsets.now a.row.now R s.n q) (s.invariant g t R e)
    (m.ensures g t (factors_again R s.auto.row) e)

pub returns : goal.returns
returns c =
    let s = c.loop-n in
    let a = c.args in
    λ g t R e. kinds-end is_factor (opening_factor g t) t (cut t.directions a.row.now) (cut t.directions s.row) s.n
    (factors_last g t a.kinds.now a.firsts.now a.starts.now a.outs.now a.offsets.now a.row.now R s.n (omega (arith, c.loop-n-test.false))) (s.invariant g t R e)
