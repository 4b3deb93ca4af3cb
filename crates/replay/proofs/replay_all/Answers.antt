-- `replay::replay_all` meets its contract.
use Rattle.replay.specs.Entries.{differ_few, one_replayed}
use Rattle.replay.proofs.replay_all.Goals as goal

pub replay_next-requires : goal.replay_next-requires
replay_next-requires g c = (differ_few _ _ c.loop-counts.counts c.loop-counts.invariant, c.loop-counts-test.true)

pub loop-counts-preserved : goal.loop-counts-preserved
loop-counts-preserved g c = one_replayed _ _ _ c.loop-counts.counts _ c.loop-counts.invariant c.loop-counts-test.true c.in-Some.ensures
