-- `graph::cut_judged` meets its contract. Assumes nothing.
use Rattle.std.proofs.Common.{refl, sym, ap, ◌∙◌, arith}
use Rattle.definition.specs.Refusals.{bale_of}
use Rattle.checks.specs.Verdicts.{verdict_of}
use Rattle.components.specs.ComponentBuiltWords.{node_total, edge_total, slot_total}
use Rattle.components.specs.ComponentReady.{Done}
use Rattle.factor_graph.specs.Words.{built_words}
use Rattle.list_laws.specs.Put.{put}
use Rattle.bench.specs.Graphs.{cut_markers, cut_room, cut_buildable, cut_small, grades_are, markers_are, pairs_are}
use Rattle.bench.proofs.graph.cut_judged.Goals as goal
use Rattle.bench.proofs.graph.cut_judged.Goals.{After-build_components-found}

pub returns-in-Err : goal.returns-in-Err
returns-in-Err c = rw (ap verdict_of c.in-Err.is) (c.number.ensures, refl, refl, refl, refl)

left :
    (c : After-build_components-found) → let a = c.args in let b = bale_of a.grades a.evidence.now a.pairs.now in let found = c.build_components-found in
    Done b (node_total b) (edge_total b) (slot_total b) (put a.words.now 0 (built_words b)) found.new.words found.result.count found.result.end
left c =
    let a = c.args in
    let r = c.requires in
    let h = sym c.requires.is ∙ ap verdict_of c.in_default.is in
    c.build_components-found.ensures (bale_of a.grades a.evidence.now a.pairs.now)
    (grades_are r.settings r.lent a.grades a.evidence.now a.pairs.now a.words.now r.words h)
    (markers_are r.settings r.lent a.grades a.evidence.now a.pairs.now a.words.now r.words h)
    (pairs_are r.settings r.lent a.grades a.evidence.now a.pairs.now a.words.now r.words h)

pub overflow_cast-markers : goal.overflow_cast-markers
overflow_cast-markers c =
    let a = c.args in
    let r = c.requires in
    let h = sym c.requires.is ∙ ap verdict_of c.in_default.is in
    omega (arith, cut_markers r.settings r.lent a.grades a.evidence.now a.pairs.now a.words.now r.words h)

pub build_components-found-requires : goal.build_components-found-requires
build_components-found-requires c =
    let a = c.args in
    let r = c.requires in
    let h = sym c.requires.is ∙ ap verdict_of c.in_default.is in
    record {
      buildable = cut_buildable r.settings r.lent a.grades a.evidence.now a.pairs.now a.words.now r.words h;
      pairs_in_bounds = cut_room r.settings r.lent a.grades a.evidence.now a.pairs.now a.words.now r.words h;
    }

pub overflow_cast-result : goal.overflow_cast-result
overflow_cast-result c =
    let a = c.args in
    let r = c.requires in
    let h = sym c.requires.is ∙ ap verdict_of c.in_default.is in
    let d = left (goal.at.overflow_cast-result c).After-build_components-found in
    omega (arith, (cut_small r.settings r.lent a.grades a.evidence.now a.pairs.now a.words.now r.words h _ _ _ d).0)

pub overflow_cast-result-2 : goal.overflow_cast-result-2
overflow_cast-result-2 c =
    let a = c.args in
    let r = c.requires in
    let h = sym c.requires.is ∙ ap verdict_of c.in_default.is in
    let d = left (goal.at.overflow_cast-result-2 c).After-build_components-found in
    omega (arith, (cut_small r.settings r.lent a.grades a.evidence.now a.pairs.now a.words.now r.words h _ _ _ d).1)

pub returns : goal.returns
returns c = rw (ap verdict_of c.in_default.is) (refl, refl, left (goal.at.returns c).After-build_components-found)
