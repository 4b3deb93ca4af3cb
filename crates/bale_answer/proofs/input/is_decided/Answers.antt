-- `input::is_decided` meets its contract.
use Rattle.bale_answer.specs.Taken.{decided}
use Rattle.bale_answer.proofs.input.is_decided.Goals as goal

pub returns-clause-rest_value : goal.returns-clause-rest_value
returns-clause-rest_value c = decided _
