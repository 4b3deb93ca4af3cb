-- `replay::replay_all` meets its contract: the counts are those of the entries so far.
use Rattle.std.specs.Prelude.{◌-◌}
use Rattle.replay.specs.Entries.{Replayed}
use Rattle.replay.proofs.replay_all.Given as goal

abbrev pub invariant-loop-counts : goal.invariant-loop-counts
invariant-loop-counts g l = Replayed (g.R.Read.remaining l.initial.from) (g.R.Read.remaining l.from) l.counts

abbrev pub decreases-loop-counts : goal.decreases-loop-counts
decreases-loop-counts g l = 1000000 - l.counts.files
