-- `calibrate::cut_graph` meets its contract.
use native.Mathlib.Omega.{arith}
use Rattle.definition.specs.Refusals.{bale_of}
use Rattle.zero_lookahead_belief_propagation.specs.Calibrated.{grades_are, markers_are, pairs_are, markers_small, cut_asks, cut-long, cut_records}
use Rattle.zero_lookahead_belief_propagation.proofs.calibrate.cut_graph.Goals as goal

pub overflow_cast-markers : goal.overflow_cast-markers
overflow_cast-markers c =
    let a = c.args in
    omega (arith, markers_small a.grades a.evidence.now a.pairs.now a.words.now c.requires)

pub build_components-found-requires : goal.build_components-found-requires
build_components-found-requires c =
    let h = let a = c.args in
    cut_asks a.grades a.evidence.now a.pairs.now a.words.now c.requires in record { buildable = h.0; pairs_in_bounds = h.1 }

pub word-nodes-requires : goal.word-nodes-requires
word-nodes-requires c =
    let a = c.args in
    let D = c.build_components-found.ensures (bale_of a.grades a.evidence.now a.pairs.now) (grades_are a.grades a.evidence.now a.pairs.now a.words.now c.requires) (markers_are a.grades a.evidence.now a.pairs.now a.words.now c.requires) (pairs_are a.grades a.evidence.now a.pairs.now a.words.now c.requires) in
    omega (arith, cut-long a.grades a.evidence.now a.pairs.now a.words.now c.requires _ _ _ D)

pub word-edges-requires : goal.word-edges-requires
word-edges-requires c =
    let a = c.args in
    let D = c.build_components-found.ensures (bale_of a.grades a.evidence.now a.pairs.now) (grades_are a.grades a.evidence.now a.pairs.now a.words.now c.requires) (markers_are a.grades a.evidence.now a.pairs.now a.words.now c.requires) (pairs_are a.grades a.evidence.now a.pairs.now a.words.now c.requires) in
    omega (arith, cut-long a.grades a.evidence.now a.pairs.now a.words.now c.requires _ _ _ D)

pub returns : goal.returns
returns c =
    let a = c.args in
    let D = c.build_components-found.ensures (bale_of a.grades a.evidence.now a.pairs.now) (grades_are a.grades a.evidence.now a.pairs.now a.words.now c.requires) (markers_are a.grades a.evidence.now a.pairs.now a.words.now c.requires) (pairs_are a.grades a.evidence.now a.pairs.now a.words.now c.requires) in
    cut_records a.grades a.evidence.now a.pairs.now a.words.now c.requires _ _ _ D _ (omega (arith, c.word-nodes.ensures.0, c.word-edges.ensures.0))
