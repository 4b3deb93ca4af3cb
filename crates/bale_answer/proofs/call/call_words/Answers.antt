-- `call::call_words` meets its contract.
use Rattle.std.proofs.Common.{ap, ◌∙◌}
use Rattle.definition.specs.Refusals.{markers_of, pairs_of}
use Rattle.bale_file.specs.Laid.{laid_markers, laid-pairs}
use Rattle.bale_answer.proofs.call.call_words.Goals as goal

pub returns-clause-evidence_after : goal.returns-clause-evidence_after
returns-clause-evidence_after c = (
  ap markers_of c.fill_evidence.ensures ∙ laid_markers _ c.args.markers.now c.args.evidence.now c.requires.0,
  ap pairs_of c.fill_pairs.ensures ∙ laid-pairs c.args.pairs.now c.args.numbers.now c.requires.1,
)
