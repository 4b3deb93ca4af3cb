-- `array_utils::vectors::max` meets its contract.
use mathlib.Core.Path.{◌∙◌}
use lib.Ieee.{lt}
use Rattle.float_laws.specs.Table.{chose, left}
use Rattle.message_bounds.specs.LogNormalize.{max-tested, max_other}
use Rattle.array_utils.proofs.vectors.max.Goals as goal

pub returns-then-a-b : goal.returns-then-a-b
returns-then-a-b c =
    let x = c.args in
    chose (lt x.a x.b) x.b x.a c.if-a-b.true ∙ max-tested x.a x.b c.if-a.true

pub returns-else-a-b : goal.returns-else-a-b
returns-else-a-b c =
    let x = c.args in
    left (lt x.a x.b) x.b x.a c.if-a-b.false ∙ max-tested x.a x.b c.if-a.true

pub returns-else-a : goal.returns-else-a
returns-else-a c = max_other c.args.a c.args.b c.if-a.false
