-- `checks::check` meets its contract. Each check finds a place and decides, or finds none and leaves it to the next.
use Rattle.std.proofs.Common.{sym, ◌∙◌}
use Rattle.definition.specs.Refusals.{verdict}
use Rattle.checks.specs.Passed.{sizes-passed}
use Rattle.checks.specs.Verdicts.{graph_verdict, skip, passed, failed, returned}
use Rattle.checks.proofs.check.Goals as goal

pub returns-in_err-refuse : goal.returns-in_err-refuse
unfolding verdict
returns-in_err-refuse c = returned _ _ c.from_residual.ensures.1 ∙ failed 1 _ _ _ _ _ c.in_err-refuse.ensures c.check_sizes.ensures

pub check_buffers-requires : goal.check_buffers-requires
check_buffers-requires c = sizes-passed _ (passed 1 _ _ c.in_ok-refuse.ensures c.check_sizes.ensures)

pub returns-in_err-refuse-2 : goal.returns-in_err-refuse-2
unfolding verdict
returns-in_err-refuse-2 c =
    returned _ _ c.from_residual-in_err-refuse-2.ensures.1
    ∙ failed 2 _ _ _ _ _ c.in_err-refuse-2.ensures c.check_buffers.ensures
    ∙ sym (skip 1 _ _ (passed 1 _ _ c.in_ok-refuse.ensures c.check_sizes.ensures))

pub returns-in_err-refuse-3 : goal.returns-in_err-refuse-3
unfolding verdict
returns-in_err-refuse-3 c =
    returned _ _ c.from_residual-in_err-refuse-3.ensures.1
    ∙ failed 3 _ _ _ _ _ c.in_err-refuse-3.ensures c.check_probabilities.ensures
    ∙ sym
    (skip 1 _ _ (passed 1 _ _ c.in_ok-refuse.ensures c.check_sizes.ensures)
    ∙ skip 2 _ _ (passed 2 _ _ c.in_ok-refuse-2.ensures c.check_buffers.ensures))

pub returns-in_err-refuse-4 : goal.returns-in_err-refuse-4
unfolding verdict
returns-in_err-refuse-4 c =
    returned _ _ c.from_residual-in_err-refuse-4.ensures.1
    ∙ failed 4 _ _ _ _ _ c.in_err-refuse-4.ensures c.check_stopping.ensures
    ∙ sym
    (skip 1 _ _ (passed 1 _ _ c.in_ok-refuse.ensures c.check_sizes.ensures)
    ∙ skip 2 _ _ (passed 2 _ _ c.in_ok-refuse-2.ensures c.check_buffers.ensures)
    ∙ skip 3 _ _ (passed 3 _ _ c.in_ok-refuse-3.ensures c.check_probabilities.ensures))

pub check_graph-requires : goal.check_graph-requires
check_graph-requires c = sizes-passed _ (passed 1 _ _ c.in_ok-refuse.ensures c.check_sizes.ensures)

pub returns : goal.returns
unfolding verdict graph_verdict
returns c =
    c.check_graph.ensures
    ∙ sym
    (skip 1 _ _ (passed 1 _ _ c.in_ok-refuse.ensures c.check_sizes.ensures)
    ∙ skip 2 _ _ (passed 2 _ _ c.in_ok-refuse-2.ensures c.check_buffers.ensures)
    ∙ skip 3 _ _ (passed 3 _ _ c.in_ok-refuse-3.ensures c.check_probabilities.ensures)
    ∙ skip 4 _ _ (passed 4 _ _ c.in_ok-refuse-4.ensures c.check_stopping.ensures))
