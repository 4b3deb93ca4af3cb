-- `opening::passes::open_inputs` meets its contract: the first n nodes have had their turn.
use Rattle.std.proofs.Common.{arith}
use Rattle.definition.specs.FactorGraph.{is_input}
use Rattle.definition.specs.Sweeps.{opening_input}
use Rattle.messages.specs.Layout.{cut}
use Rattle.opening.specs.OpenKinds.{inputs_again, some_inputs_again, inputs_node, inputs_last, kinds-start, kinds-next, kinds-end}
use Rattle.opening.proofs.passes.open_inputs.Goals as goal

pub loop-n-init : goal.loop-n-init
loop-n-init c = λ s t R. kinds-start is_input (opening_input s) t (cut t.directions c.args.row.now)

pub open_input-requires : goal.open_input-requires
open_input-requires c = (some_inputs_again c.requires c.loop-n.auto.row, c.loop-n-test.true)

pub loop-n-preserved : goal.loop-n-preserved
loop-n-preserved c =
    let s = c.loop-n in
    let a = c.args in
    let m = c.open_input in
    let q = c.loop-n-test.true in
    λ g t R.
    kinds-next is_input (opening_input g) t (cut t.directions a.row.now) (cut t.directions s.row) (cut t.directions m.new.row) s.n
    (inputs_node g t a.kinds.now a.firsts.now a.outs.now a.offsets.now a.labels.now a.evidence.now a.row.now R s.n q) (s.invariant g t R)
    (m.ensures g t (inputs_again R s.auto.row))

pub returns : goal.returns
returns c =
    let s = c.loop-n in
    let a = c.args in
    λ g t R. kinds-end is_input (opening_input g) t (cut t.directions a.row.now) (cut t.directions s.row) s.n
    (inputs_last g t a.kinds.now a.firsts.now a.outs.now a.offsets.now a.labels.now a.evidence.now a.row.now R s.n (omega (arith, c.loop-n-test.false)))
    (s.invariant g t R)
