-- `graph::build_components` meets its contract.
use Rattle.std.proofs.Common.{refl}
use Rattle.components.specs.ComponentCut.{cut_asks, cut_ready, cut_done}
use Rattle.components.proofs.graph.build_components.Goals as goal

pub connected_components-requires : goal.connected_components-requires
connected_components-requires c =
    let a = c.args in
    cut_asks a.words.now a.grades a.markers a.pairs.now c.requires.buildable c.requires.pairs_in_bounds _ (λ b x y z. (c.build.ensures b x y z).0) _ _ refl refl

pub returns : goal.returns
returns c =
    let a = c.args in
    λ b x y z.
    let is = (c.build.ensures b x y z).0 in
    cut_done a.words.now a.grades a.markers a.pairs.now c.requires.buildable c.requires.pairs_in_bounds b x y z _ is _ _ refl refl _ _ _
    (c.connected_components.ensures b (cut_ready a.words.now a.grades a.markers a.pairs.now c.requires.buildable c.requires.pairs_in_bounds b x y z _ is _ _ refl refl))
