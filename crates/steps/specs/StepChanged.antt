-- The nodes that changed, as the code names them.
use Rattle.messages.specs.State as state
use Rattle.steps.specs.declared.log.Changed.{Changed}
use Rattle.steps.specs.declared.log.Changed.TheVariants.{All, One, Around}

abbrev pub changed_from : Changed → state.Changed
changed_from All = state.all
changed_from (One n) = state.one n
changed_from (Around n) = state.around n
