-- `reads::run_reads` meets its contract.
use Rattle.std.specs.Float.Ieee.{of_bits}
use Rattle.reads.specs.Ran.{has_counts, ran}
use Rattle.reads.proofs.run_reads.Goals as goal

pub unwrap-requires : goal.unwrap-requires
unfolding of_bits
unwrap-requires c =
    let a = c.args in
    has_counts _ a.grades a.evidence.now a.pairs.now _ _ _ _ c.requires c.calibrate_all_subgraphs-answered.result _ c.calibrate_all_subgraphs-answered.ensures.ending_floats_after

pub returns : goal.returns
unfolding of_bits
returns c =
    let a = c.args in
    ran _ a.grades a.evidence.now a.pairs.now _ _ _ _ c.requires c.calibrate_all_subgraphs-answered.result _ c.calibrate_all_subgraphs-answered.ensures.ending_floats_after _
    c.unwrap.ensures
