-- `number::draw` meets its contract.
use Rattle.draws.specs.Model.{drawn_is}
use Rattle.draws.proofs.number.draw.Goals as goal

pub returns : goal.returns
returns c = drawn_is _ _ _ _ c.next_number-number.ensures c.is_below.ensures
