-- `part::beliefs::write_belief` meets its contract.
use Rattle.std.proofs.Common.{◌*◌, ◌∙◌, sym}
use Rattle.std.specs.Float.{nan}
use Rattle.list_laws.specs.Slices.{set-set-put}
use Rattle.part.proofs.beliefs.write_belief.Goals as goal

pub returns-clause-floats_after : goal.returns-clause-floats_after
returns-clause-floats_after c =
    let a = c.args in
    c.write.ensures ∙ sym (set-set-put nan a.floats.now (2 * a.k) a.belief.absent a.belief.present c.requires.1)
