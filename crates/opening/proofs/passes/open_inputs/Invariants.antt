-- `opening::passes::open_inputs` meets its contract: the first n nodes have had their turn.
use Rattle.std.proofs.Common.{◌≡◌, take}
use Rattle.definition.specs.Settings.{Settings}
use Rattle.definition.specs.FactorGraph.{is_input}
use Rattle.definition.specs.Directions.{MessageGraph}
use Rattle.definition.specs.Sweeps.{update_kind, opening_input}
use Rattle.messages.specs.Layout.{cut}
use Rattle.opening.specs.OpenKinds.{InputsRows}
use Rattle.opening.proofs.passes.open_inputs.Given as goal

abbrev pub invariant-loop-n : goal.invariant-loop-n
invariant-loop-n l =
    (s : Settings) (t : MessageGraph) → InputsRows s t l.kinds l.firsts l.outs l.offsets l.labels l.evidence l.initial.row
    → cut t.directions l.row ≡ update_kind is_input (opening_input s) (take l.n t.nodes) (cut t.directions l.initial.row)
