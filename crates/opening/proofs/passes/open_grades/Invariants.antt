-- `opening::passes::open_grades` meets its contract: the first n nodes have had their turn.
use Rattle.std.proofs.Common.{◌≡◌, take}
use Rattle.definition.specs.Settings.{Settings}
use Rattle.definition.specs.FactorGraph.{is_grade}
use Rattle.definition.specs.Directions.{MessageGraph}
use Rattle.definition.specs.Sweeps.{update_kind, opening_grade}
use Rattle.messages.specs.Layout.{cut}
use Rattle.opening.specs.OpenKinds.{GradesRows}
use Rattle.opening.proofs.passes.open_grades.Given as goal

abbrev pub invariant-loop-n : goal.invariant-loop-n
invariant-loop-n l =
    (s : Settings) (t : MessageGraph) → GradesRows s t l.kinds l.firsts l.outs l.offsets l.initial.row → s.prior ≡ l.prior
    → cut t.directions l.row ≡ update_kind is_grade (opening_grade s) (take l.n t.nodes) (cut t.directions l.initial.row)
