-- `bale::draw_also` meets its contract.
use Rattle.draws.specs.Model.{drawn_of, also_hit, also_missed}
use Rattle.draws.proofs.bale.draw_also.Goals as goal

pub returns-then-d : goal.returns-then-d
returns-then-d c = also_hit _ _ (drawn_of c.draw-d.result) c.draw-d.ensures c.if-d.true

pub returns : goal.returns
returns c = also_missed _ _ (drawn_of c.draw-d.result) c.draw-d.ensures c.if-d.false
