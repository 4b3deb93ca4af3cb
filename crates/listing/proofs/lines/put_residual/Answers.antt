-- `listing::lines::put_residual` meets its contract.
use mathlib.Core.List.{[], ◌∷◌}
use Rattle.definition.specs.Listing.{decimal, hex, line}
use Rattle.listing.specs.Writing.{Fields, all_fields, next_field, last-field, field_fits}
use Rattle.listing.specs.Digits.{float_fits}
use Rattle.listing.proofs.lines.put_residual.Goals as goal
use Rattle.listing.proofs.lines.put_residual.Goals.{Start}

start :
    (c : Start) →
    let a = c.args in
    let fs = a.name.now ∷ decimal a.steps ∷ hex a.residual ∷ [] in
    Fields a.out.now a.at (line fs) a.out.now a.at fs
start c = all_fields c.args.out.now c.args.at _ c.requires.residual_in_bounds

pub put_word-k-requires : goal.put_word-k-requires
put_word-k-requires c = field_fits (start c.before.before.before.before)

pub put_number-k-requires : goal.put_number-k-requires
put_number-k-requires c = field_fits (next_field (start c.before.before.before.before.before.before.before.before) c.put_word-k.ensures)

pub put_float-requires : goal.put_float-requires
put_float-requires c =
    record { t = c.requires.t; at_in_bounds = float_fits c.args.residual (next_field (next_field (start c.before.before.before.before.before.before.before.before.before.before.before.before) c.put_word-k.ensures) c.put_number-k.ensures) }

pub returns : goal.returns
returns c =
    last-field (next_field (next_field (start c.before.before.before.before.before.before.before.before.before.before.before.before.before.before.before) c.put_word-k.ensures) c.put_number-k.ensures) c.put_float.ensures
