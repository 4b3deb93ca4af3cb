-- `checks::check_graph` meets its contract. Each check finds a place and decides, or finds none and leaves it to the next.
use Rattle.std.proofs.Common.{ℕ, sym, ap, ◌∙◌}
use Rattle.std.proofs.Math.Option.{Option}
use Rattle.definition.specs.Refusals.{bale_of, accepted, or_refused}
use Rattle.checks.specs.Passed.{pairs-passed}
use Rattle.checks.specs.Slices.{counts}
use Rattle.checks.specs.Verdicts.{graph_verdict, skip, passed, failed, returned}
use Rattle.checks.proofs.check_graph.Goals as goal

pub check_evidence-requires : goal.check_evidence-requires
check_evidence-requires c = (counts _ _ _ c.requires).1

pub returns-in_err-refuse : goal.returns-in_err-refuse
unfolding graph_verdict bale_of
returns-in_err-refuse c = returned _ _ c.from_residual.ensures.1 ∙ failed 5 _ _ _ _ _ c.in_err-refuse.ensures c.check_evidence.ensures

pub check_pairs_known-requires : goal.check_pairs_known-requires
check_pairs_known-requires c = (counts _ _ _ c.requires).2

pub returns-in_err-refuse-2 : goal.returns-in_err-refuse-2
unfolding graph_verdict bale_of
returns-in_err-refuse-2 c =
    returned _ _ c.from_residual-in_err-refuse-2.ensures.1
    ∙ failed 6 _ _ _ _ _ c.in_err-refuse-2.ensures c.check_pairs_known.ensures
    ∙ sym (skip 5 _ _ (passed 5 _ _ c.in_ok-refuse.ensures c.check_evidence.ensures))

pub check_repeated-requires : goal.check_repeated-requires
check_repeated-requires c =
    let none6 = passed 6 _ _ c.in_ok-refuse-2.ensures c.check_pairs_known.ensures in
    record { pairs_len_bound = (counts _ _ _ c.requires).2; in_grid = pairs-passed _ _ _ c.requires none6 }

pub returns-in_err-refuse-3 : goal.returns-in_err-refuse-3
unfolding graph_verdict bale_of
returns-in_err-refuse-3 c =
    returned _ _ c.from_residual-in_err-refuse-3.ensures.1
    ∙ failed 7 _ _ _ _ _ c.in_err-refuse-3.ensures c.check_repeated.ensures
    ∙ sym
    (skip 5 _ _ (passed 5 _ _ c.in_ok-refuse.ensures c.check_evidence.ensures)
    ∙ skip 6 _ _ (passed 6 _ _ c.in_ok-refuse-2.ensures c.check_pairs_known.ensures))

pub check_shared-requires : goal.check_shared-requires
check_shared-requires c =
    let none6 = passed 6 _ _ c.in_ok-refuse-2.ensures c.check_pairs_known.ensures in
    let n = counts _ _ _ c.requires in
    record { evidence_len_bound = (n.1, n.2); in_grid = pairs-passed _ _ _ c.requires none6 }

pub returns : goal.returns
unfolding graph_verdict bale_of
returns c =
    c.refuse-4.ensures
    ∙ sym
    (skip 5 _ _ (passed 5 _ _ c.in_ok-refuse.ensures c.check_evidence.ensures)
    ∙ skip 6 _ _ (passed 6 _ _ c.in_ok-refuse-2.ensures c.check_pairs_known.ensures)
    ∙ skip 7 _ _ (passed 7 _ _ c.in_ok-refuse-3.ensures c.check_repeated.ensures)
    ∙ ap (λ (o : Option ℕ). or_refused 8 o accepted) (sym c.check_shared.ensures))
