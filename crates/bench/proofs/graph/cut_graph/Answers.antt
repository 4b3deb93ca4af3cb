-- `graph::cut_graph` meets its contract. Assumes nothing.
use mathlib.Core.Path.{sym}
use Rattle.bench.proofs.graph.cut_graph.Goals as goal

pub returns : goal.returns
returns c =
    rw (sym c.check-judged.ensures) c.cut_judged.ensures
