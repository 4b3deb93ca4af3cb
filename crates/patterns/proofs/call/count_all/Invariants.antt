-- `call::count_all` meets its contract.
use Rattle.std.proofs.Common.{length}
use Rattle.reads.specs.Ran.{settings_in}
use Rattle.patterns.specs.All.{CountedSo}
use Rattle.patterns.proofs.call.count_all.Given as goal

abbrev pub invariant-loop-p : goal.invariant-loop-p
invariant-loop-p l =
    CountedSo (settings_in l.settings) l.grades l.markers l.pairs l.p (length l.evidence) l.initial.work_floats l.initial.work_numbers l.initial.report
    l.work_floats l.work_numbers l.report
