-- `pattern::count_pattern` meets its contract.
use Rattle.patterns.specs.Pattern.{reads-run, beliefs_movable, pattern-added}
use lib.Ieee.{of_bits}
use Rattle.patterns.proofs.pattern.count_pattern.Goals as goal

-- what the call was given

pub run_reads-count-requires : goal.run_reads-count-requires
unfolding of_bits
run_reads-count-requires c =
    let a = c.args in
    reads-run _ a.grades a.markers a.p a.pairs.now a.work_floats.now a.work_numbers.now a.report.now c.requires.ready _ c.put_pattern.ensures

pub count_beliefs-requires : goal.count_beliefs-requires
unfolding of_bits
count_beliefs-requires c =
    let a = c.args in
    beliefs_movable _ a.grades a.markers a.p a.pairs.now a.work_floats.now a.work_numbers.now a.report.now c.requires.ready _ c.put_pattern.ensures
    _ _ _ _ _ _ _ c.run_reads-count.ensures

pub returns : goal.returns
unfolding of_bits
returns c =
    let a = c.args in
    pattern-added _ a.grades a.markers a.p a.pairs.now a.work_floats.now a.work_numbers.now a.report.now c.requires.ready _ c.put_pattern.ensures
    _ _ _ _ _ _ _ c.run_reads-count.ensures _ c.count_beliefs.ensures
