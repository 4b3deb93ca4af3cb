-- Demand 3, whole: the claims of `claims`, proved.
use Rattle.claims.specs.Claims.{BoundedMessages, RunOfEvents, Locality}
use Rattle.claims.specs.CallByParts as claims
use Rattle.graph_laws.specs.Events.{run_follows}
use Rattle.graph_laws.specs.LocalAnswer as LocalAnswer
use Rattle.message_bounds.specs.CallByParts as CallByParts

-- (a) the messages in force are bounded, after every beginning of the event list
pub bounded : BoundedMessages
bounded = CallByParts.bounded

-- the run is such a beginning, wherever it stops, and stops where its tests say
pub run_of_events : RunOfEvents
run_of_events s t x = run_follows s t x

-- (b) each part is answered as if entered by itself
pub locality : Locality
locality = LocalAnswer.locality

-- both of a call, by what it leaves in its buffers
pub call-by-parts : claims.CallByParts
call-by-parts = CallByParts.call-by-parts
