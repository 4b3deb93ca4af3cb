-- `opening::initialize::send_left_out` meets its contract: the messages to the positions before direction k are sent.
use Rattle.std.proofs.Common.{◌≡◌, map, ◌-◌, ◌<◌, length, get_or}
use Rattle.definition.specs.Settings.{Settings}
use Rattle.definition.specs.Directions.{MessageGraph, node_at, messages_in}
use Rattle.definition.specs.Sweeps.{leave_one_out}
use Rattle.messages.specs.Layout.{cut, kind_code}
use Rattle.messages.specs.LayoutWrite.{sent}
use Rattle.opening.specs.OpenRows.{SendRows}
use Rattle.opening.proofs.initialize.send_left_out.Given as goal

abbrev pub invariant-loop-k : goal.invariant-loop-k
invariant-loop-k l =
    (s : Settings) (t : MessageGraph) → SendRows s t l.firsts l.outs l.offsets l.initial.row → l.n < length t.nodes → kind_code (node_at t l.n).kind ≡ 0
    → l.row ≡ sent t.directions (node_at t l.n).outgoing (map (leave_one_out l.total.absent l.total.present)
    (messages_in (node_at t l.n) (cut t.directions l.initial.row))) l.initial.row (l.k - get_or l.firsts l.n 0)
