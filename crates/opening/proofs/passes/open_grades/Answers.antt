-- `opening::passes::open_grades` meets its contract: the first n nodes have had their turn.
use Rattle.std.proofs.Common.{arith}
use Rattle.definition.specs.FactorGraph.{is_grade}
use Rattle.definition.specs.Sweeps.{opening_grade}
use Rattle.messages.specs.Layout.{cut}
use Rattle.opening.specs.OpenKinds.{grades_again, some-grades_again, grades-node, grades-last, kinds-start, kinds-next, kinds-end}
use Rattle.opening.proofs.passes.open_grades.Goals as goal

pub loop-n-init : goal.loop-n-init
loop-n-init c = λ s t R e. kinds-start is_grade (opening_grade s) t (cut t.directions c.args.row.now)

pub open_if_grade-requires : goal.open_if_grade-requires
open_if_grade-requires c = record {
  some_grades_rows = (some-grades_again c.requires.some_grades_rows c.loop-n.auto.row, c.loop-n-test.true);
}

pub loop-n-preserved : goal.loop-n-preserved
loop-n-preserved c =
    let s = c.loop-n in
    let a = c.args in
    let m = c.open_if_grade in
    let q = c.loop-n-test.true in
    λ g t R e.
    kinds-next is_grade (opening_grade g) t (cut t.directions a.row.now) (cut t.directions s.row) (cut t.directions m.new.row) s.n
    (grades-node g t a.kinds.now a.firsts.now a.outs.now a.offsets.now a.row.now R s.n q) (s.invariant g t R e) (m.ensures g t (grades_again R s.auto.row) e)

pub returns : goal.returns
returns c =
    let s = c.loop-n in
    let a = c.args in
    λ g t R e. kinds-end is_grade (opening_grade g) t (cut t.directions a.row.now) (cut t.directions s.row) s.n
    (grades-last g t a.kinds.now a.firsts.now a.outs.now a.offsets.now a.row.now R s.n (omega (arith, c.loop-n-test.false))) (s.invariant g t R e)
