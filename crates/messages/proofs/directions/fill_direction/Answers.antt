-- `messages::directions::fill_direction` meets its contract: three words are stored, made of what was read before.
use Rattle.messages.specs.DirectionsSteps.{step_is}
use Rattle.messages.proofs.directions.fill_direction.Goals as goal

pub returns : goal.returns
returns c =
    let a = c.args in
    step_is a.words.now a.at a.nodes a.edges a.out a.n a.d _ _ _ c.word.ensures.0 c.far_node-start.ensures c.place_in_far.ensures
