-- `checks::check_evidence` meets its contract. The loop's invariant: no marker before this one fails.
use Rattle.std.proofs.Common.{◌<◌, map, length, arith, sym, ◌∙◌}
use Rattle.definition.specs.Refusals.{markers_of, bad_evidence}
use Rattle.checks.specs.Tests.{evidence_count}
use Rattle.checks.specs.Searching.{reached_first, reached_next, reached_here, reached_end}
use Rattle.checks.proofs.check_evidence.Goals as goal

pub loop-m-init : goal.loop-m-init
loop-m-init c = reached_first _

pub returns-then-is_bad_evidence : goal.returns-then-is_bad_evidence
returns-then-is_bad_evidence c =
    reached_here _ c.loop-m.m (omega (arith, evidence_count c.args.evidence.now)) (sym c.is_bad_evidence.ensures ∙ c.if-is_bad_evidence.true) c.loop-m.invariant

pub loop-m-preserved : goal.loop-m-preserved
loop-m-preserved c =
    let l : c.loop-m.m < length (map bad_evidence (markers_of c.args.evidence.now)) = omega (arith, evidence_count c.args.evidence.now) in
    reached_next _ c.loop-m.m l (sym c.is_bad_evidence.ensures ∙ c.if-is_bad_evidence.false) c.loop-m.invariant

pub returns : goal.returns
returns c = reached_end _ c.loop-m.m (omega (arith, evidence_count c.args.evidence.now)) c.loop-m.invariant
