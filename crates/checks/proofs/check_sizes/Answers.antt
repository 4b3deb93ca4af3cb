-- `checks::check_sizes` meets its contract. The three tests decide `too_many`.
use borrow.Author.Tests.{lt-ltb, le-ltb}
use Rattle.definition.specs.Refusals.{bale_of, too_many, lowest_place, lowest_place_from}
use Rattle.checks.specs.Slices.{length_markers, length_pairs}
use Rattle.checks.proofs.check_sizes.Goals as goal
use Rattle.checks.proofs.check_sizes.Goals.{then-grades-gt1024-via-then-grades-gt1024, then-grades-gt1024-via-else-grades-gt1024+then-evidence-gt1024, then-grades-gt1024-via-else-grades-gt1024+else-evidence-gt1024+then-pairs-gt8192}

pub returns-then-grades-gt1024 : goal.returns-then-grades-gt1024
unfolding too_many bale_of lowest_place lowest_place_from
returns-then-grades-gt1024 c =
    elim c.then-grades-gt1024.branch [
      | then-grades-gt1024-via-then-grades-gt1024 w ↦ simp (lt-ltb _ _ w.if-grades-gt1024.true)
      | then-grades-gt1024-via-else-grades-gt1024+then-evidence-gt1024 w ↦
          simp (length_markers, le-ltb _ _ w.if-grades-gt1024.false, lt-ltb _ _ w.if-evidence-gt1024.true)
      | then-grades-gt1024-via-else-grades-gt1024+else-evidence-gt1024+then-pairs-gt8192 w ↦
          simp (length_markers, length_pairs, le-ltb _ _ w.if-grades-gt1024.false, le-ltb _ _ w.if-evidence-gt1024.false, lt-ltb _ _ w.if-pairs-gt8192.true)
    ]

pub returns : goal.returns
unfolding too_many bale_of lowest_place lowest_place_from
returns c = simp (length_markers, length_pairs, le-ltb _ _ c.if-grades-gt1024.false, le-ltb _ _ c.if-evidence-gt1024.false, le-ltb _ _ c.if-pairs-gt8192.false)
