-- `depot::main` meets its contract: it lends no more of the text than came.
use Rattle.std.proofs.Common.{sym, length-take-le}
use Rattle.depot.specs.LinesHeld.{lines_fit}
use Rattle.depot.proofs.main.Goals as goal

pub slice_bounds-text-end : goal.slice_bounds-text-end
slice_bounds-text-end c = lines_fit _ _ _ _ c.read_lines-lines.ensures

pub slice_bounds-weigh-end : goal.slice_bounds-weigh-end
slice_bounds-weigh-end c = sym (length-take-le _ _ (lines_fit _ _ _ _ c.read_lines-lines.ensures))
