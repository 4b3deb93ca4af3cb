-- `tally::count_beliefs` meets its contract. The loop's invariant: the first i beliefs are counted.
use Rattle.std.proofs.Common.{◌+◌, ◌*◌, not, get_or, arith, ap, ◌∙◌}
use Rattle.std.proofs.Math.Bool.{false}
use Rattle.std.specs.Float.{nan}
use Rattle.definition.specs.Trials.{agrees, differs}
use Rattle.report_laws.specs.Counts.{one_if}
use Rattle.trials.specs.Tally.{count_next, count_few, or_differs}
use Rattle.trials.proofs.tally.count_beliefs.Goals as goal

pub add-tally-requires : goal.add-tally-requires
add-tally-requires c =
    let a = c.args in
    let i = c.loop-i.i in
    (omega (arith, count_few agrees a.numbers.now a.floats.now a.drawn.now i), omega (arith, count_few differs a.numbers.now a.floats.now a.drawn.now i))

pub loop-i-preserved : goal.loop-i-preserved
loop-i-preserved c =
    let ns = c.args.numbers.now in
    let fs = c.args.floats.now in
    let ds = c.args.drawn.now in
    let i = c.loop-i.i in
    let e = c.is_agreed.ensures in
    let f = ap not e ∙ or_differs (get_or ds (get_or ns i 0) false) (get_or fs (2 * i + 1) nan) in
    (omega (arith, ap one_if e, count_next agrees ns fs ds i), omega (arith, ap one_if f, count_next differs ns fs ds i))
