-- `streams::output::hand_over` meets its contract.
use Rattle.std.proofs.Common.{sym, ◌∙◌}
use Rattle.streams.specs.Writes.{handed_more, handed_stopped, taken-more}
use Rattle.streams.proofs.output.hand_over.Goals as goal

pub returns-then-took-eq0-clause-calls : goal.returns-then-took-eq0-clause-calls
returns-then-took-eq0-clause-calls g c =
    handed_stopped _ _ c.loop-done.invariant.0 c.write_some-answer.result c.write_some-answer.ensures.within
    (sym c.if-took-eq0.true ∙ c.count-took.ensures.value) c.loop-done-test.true

pub loop-done-preserved : goal.loop-done-preserved
loop-done-preserved g c =
    let n = c.count-took in
    let a = c.write_some-answer in (
      handed_more _ _ c.loop-done.invariant.0 a.result a.ensures.within n.result n.ensures.within n.ensures.value,
      taken-more _ _ _ c.args.text.now c.loop-done.done n.result a.result c.loop-done.invariant.1 a.ensures.bytes n.ensures.value,
    )
