-- `bale::draw_bale` meets its contract: the grades' draws and then the markers' are a made-up bale.
use native.Mathlib.Omega.{arith}
use Rattle.draws.specs.Model.{setting_in}
use Rattle.draws.specs.Present.{known_more, none-counted}
use Rattle.draws.specs.Made.{bale-made, drawn_length}
use Rattle.draws.proofs.bale.draw_bale.Goals as goal

pub count_present-requires : goal.count_present-requires
count_present-requires c =
    let e = drawn_length _ _ _ c.args.present.now _ c.requires.3 c.draw_grades-at.ensures.1 in
    (known_more _ _ _ _ _ (omega (arith, e, c.requires.3)) c.requires.1 c.requires.0, none-counted 1024, c.requires.2)

pub returns : goal.returns
returns c b f =
    let a = c.args in
    let g = c.draw_grades-at.ensures in
    let r = c.draw_reads.ensures in
    bale-made (setting_in a.setting) a.state a.grades a.markers a.pairs.now a.present.now a.reads.now c.requires.0 b f _ _ _ _ c.count_present.new.counts g.0 g.1
    c.count_present.ensures r.0 r.1
