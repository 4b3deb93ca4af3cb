-- `listing::lines::put_grade` meets its contract.
use mathlib.Core.List.{[], ◌∷◌}
use Rattle.definition.specs.Listing.{decimal, hex}
use Rattle.listing.specs.Writing.{Fields, all_fields, next_field, last-field, field_fits}
use Rattle.listing.specs.Digits.{float_fits}
use Rattle.listing.specs.Lines.{grade_line}
use Rattle.listing.proofs.lines.put_grade.Goals as goal
use Rattle.listing.proofs.lines.put_grade.Goals.{Start}

start :
    (c : Start) →
    let a = c.args in
    Fields a.out.now a.at (grade_line a.grade a.absent a.present) a.out.now a.at (decimal a.grade ∷ hex a.absent ∷ hex a.present ∷ [])
start c = all_fields c.args.out.now c.args.at _ c.requires.present_in_bounds

pub put_number-k-requires : goal.put_number-k-requires
put_number-k-requires c = field_fits (start c.before.before)

pub put_float-k-requires : goal.put_float-k-requires
put_float-k-requires c = record { t = c.requires.t.0; at_in_bounds = float_fits c.args.absent (next_field (start c.before.before.before.before.before.before) c.put_number-k.ensures) }

pub put_float-requires : goal.put_float-requires
put_float-requires c =
    record { t = c.requires.t.1; at_in_bounds = float_fits c.args.present (next_field (next_field (start c.before.before.before.before.before.before.before.before.before.before) c.put_number-k.ensures) c.put_float-k.ensures) }

pub returns : goal.returns
returns c =
    last-field (next_field (next_field (start c.before.before.before.before.before.before.before.before.before.before.before.before.before.before) c.put_number-k.ensures) c.put_float-k.ensures) c.put_float.ensures
