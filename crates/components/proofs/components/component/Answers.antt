-- `factor_graph::components::component` meets its contract.
use mathlib.Core.Path.{◌∙◌}
use Rattle.components.specs.ComponentStep.{first_meeting, walk_asks, walk-left, record_asks, record_is}
use Rattle.components.proofs.components.component.Goals as goal

pub visit_node-first-requires : goal.visit_node-first-requires
visit_node-first-requires c =
    let a = c.args in
    first_meeting a.n a.e a.s a.at a.v a.words.now c.requires

pub walk-count-requires : goal.walk-count-requires
walk-count-requires c =
    let h = let a = c.args in
    walk_asks a.n a.e a.s a.at a.v a.words.now c.requires _ c.visit_node-first.auto.words _ _ c.visit_node-first.ensures in record { s_in_bounds = h.0; walking = h.1.0; n_bound = h.1.1.0; top_in_bounds = h.1.1.1 }

pub write_record-requires : goal.write_record-requires
write_record-requires c =
    let a = c.args in
    let q = walk-left a.n a.e a.s a.at a.v a.words.now c.requires _ c.visit_node-first.auto.words _ _ c.visit_node-first.ensures _ _ c.walk-count.ensures in
    record_asks a.n a.e a.s a.at a.v a.words.now c.requires _ (c.walk-count.auto.words ∙ c.visit_node-first.auto.words) _ q

pub returns : goal.returns
returns c =
    let a = c.args in
    let q = walk-left a.n a.e a.s a.at a.v a.words.now c.requires _ c.visit_node-first.auto.words _ _ c.visit_node-first.ensures _ _ c.walk-count.ensures in
    c.write_record.ensures ∙ record_is a.n a.e a.s a.at a.v a.words.now c.requires _ (c.walk-count.auto.words ∙ c.visit_node-first.auto.words) _ q
