-- `messages::rebuild::needs_rebuild` meets its contract.
use mathlib.Core.Path.{◌∙◌}
use Prim.Native.Nat.{◌+◌}
use lib.ListN.{take, drop}
use Rattle.messages.specs.Pairs.{pairs}
use Rattle.messages.specs.Rebuild.{rebuild_other, rebuild_change, rest_change}
use Rattle.messages.proofs.rebuild.needs_rebuild.Goals as goal

pub returns-then-ne : goal.returns-then-ne
returns-then-ne c =
    let a = c.args in
    rebuild_other a.tolerance (take (a.n + 1) a.now_in.now) (take (a.n + 1) a.old_in.now) (pairs (drop (a.n + 1) a.now_in.now))
    (pairs (drop (a.n + 1) a.old_in.now)) _ c.ne.ensures c.if-ne.true

pub returns : goal.returns
returns c =
    let a = c.args in
    c.change_exceeds.ensures
    ∙ rest_change a.tolerance (a.n + 1) a.now_in.now a.old_in.now
    ∙ rebuild_change a.tolerance (take (a.n + 1) a.now_in.now) (take (a.n + 1) a.old_in.now) (pairs (drop (a.n + 1) a.now_in.now))
    (pairs (drop (a.n + 1) a.old_in.now)) _ c.ne.ensures c.if-ne.false
