-- `listing::totals::put_total` meets its contract.
use mathlib.Core.List.{[], ◌∷◌}
use Rattle.definition.specs.Listing.{decimal}
use Rattle.listing.specs.Writing.{Fields, all_fields, next_field, last-field, field_fits}
use Rattle.listing.specs.Totals.{total_line}
use Rattle.listing.proofs.totals.put_total.Goals as goal
use Rattle.listing.proofs.totals.put_total.Goals.{Start}

start :
    (c : Start) →
    let a = c.args in
    Fields a.out.now a.at (total_line a.grade a.grams) a.out.now a.at (decimal a.grade ∷ decimal a.grams ∷ [])
start c = all_fields c.args.out.now c.args.at _ c.requires

pub put_number-k-requires : goal.put_number-k-requires
put_number-k-requires c = field_fits (start c.before.before)

pub put_number-requires : goal.put_number-requires
put_number-requires c = field_fits (next_field (start c.before.before.before.before.before.before) c.put_number-k.ensures)

pub returns : goal.returns
returns c =
    last-field (next_field (start c.before.before.before.before.before.before.before.before.before.before) c.put_number-k.ensures) c.put_number.ensures
