-- `opening::initialize::send_same` meets its contract: the messages to the positions before direction k are sent.
use Rattle.std.proofs.Common.{◌≡◌, ◌-◌, ◌<◌, length, get_or}
use Rattle.definition.specs.Settings.{Settings}
use Rattle.definition.specs.Vectors.{binary}
use Rattle.definition.specs.Directions.{MessageGraph, node_at}
use Rattle.messages.specs.LayoutWrite.{sent}
use Rattle.opening.specs.OpenRows.{SendRows}
use Rattle.opening.specs.OpenSends.{sames}
use Rattle.opening.proofs.initialize.send_same.Given as goal

abbrev pub invariant-loop-k : goal.invariant-loop-k
invariant-loop-k l =
    (s : Settings) (t : MessageGraph) → SendRows s t l.firsts l.outs l.offsets l.initial.row → l.n < length t.nodes
    → l.row ≡ sent t.directions (node_at t l.n).outgoing (sames (binary l.message.absent l.message.present) (node_at t l.n).outgoing) l.initial.row
    (l.k - get_or l.firsts l.n 0)
