-- `opening::passes::open_factors` meets its contract: the first n nodes have had their turn.
use Rattle.std.proofs.Common.{◌≡◌, take}
use Rattle.definition.specs.Settings.{Settings}
use Rattle.definition.specs.FactorGraph.{is_factor}
use Rattle.definition.specs.Directions.{MessageGraph}
use Rattle.definition.specs.Sweeps.{update_kind, opening_factor}
use Rattle.messages.specs.Layout.{cut}
use Rattle.opening.specs.OpenRows.{FactorRows, FactorSettings}
use Rattle.opening.proofs.passes.open_factors.Given as goal

abbrev pub invariant-loop-n : goal.invariant-loop-n
invariant-loop-n l =
    (s : Settings) (t : MessageGraph) → FactorRows s t l.kinds l.firsts l.starts l.outs l.offsets l.initial.row
    → FactorSettings s l.alpha l.beta l.regularised
    → cut t.directions l.row ≡ update_kind is_factor (opening_factor s t) (take l.n t.nodes) (cut t.directions l.initial.row)
