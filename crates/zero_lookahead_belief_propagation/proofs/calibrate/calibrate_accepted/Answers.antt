-- `calibrate::calibrate_accepted` meets its contract.
use Rattle.zero_lookahead_belief_propagation.specs.Calibrated.{call-cut}
use Rattle.zero_lookahead_belief_propagation.proofs.calibrate.calibrate_accepted.Goals as goal

pub answer_parts-counts-requires : goal.answer_parts-counts-requires
answer_parts-counts-requires c =
    let a = c.args in
    let g = c.cut_graph-records in
    record {
      some_cut = record { bale = _; cut = call-cut _ a.grades a.evidence.now a.pairs.now _ a.words.now _ _ _ _ _ c.requires g.auto.words g.ensures };
    }

pub returns-clause-written : goal.returns-clause-written
returns-clause-written c =
    let a = c.args in
    let g = c.cut_graph-records in
    c.answer_parts-counts.ensures _ (call-cut _ a.grades a.evidence.now a.pairs.now _ a.words.now _ _ _ _ _ c.requires g.auto.words g.ensures)
