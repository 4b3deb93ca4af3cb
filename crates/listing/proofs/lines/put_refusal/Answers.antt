-- `listing::lines::put_refusal` meets its contract.
use mathlib.Core.List.{[], ◌∷◌}
use Rattle.definition.specs.Text.{ascii}
use Rattle.definition.specs.Listing.{decimal, refusal}
use Rattle.listing.specs.Writing.{Fields, all_fields, next_field, last-field, field_fits}
use Rattle.listing.proofs.lines.put_refusal.Goals as goal
use Rattle.listing.proofs.lines.put_refusal.Goals.{Start}

start :
    (c : Start) →
    let a = c.args in
    Fields a.out.now a.at (refusal a.number a.place) a.out.now a.at (ascii "refused" ∷ decimal a.number ∷ ascii "at" ∷ decimal a.place ∷ [])
unfolding refusal
start c = all_fields c.args.out.now c.args.at _ c.requires

pub put_word-k-requires : goal.put_word-k-requires
unfolding ascii
put_word-k-requires c = field_fits (start c.before.before.before.before)

pub put_number-k-requires : goal.put_number-k-requires
unfolding ascii
put_number-k-requires c = field_fits (next_field (start c.before.before.before.before.before.before.before.before) c.put_word-k.ensures)

pub put_word-k-requires-2 : goal.put_word-k-requires-2
unfolding ascii
put_word-k-requires-2 c = field_fits (next_field (next_field (start c.before.before.before.before.before.before.before.before.before.before.before.before.before.before) c.put_word-k.ensures) c.put_number-k.ensures)

pub put_number-requires : goal.put_number-requires
unfolding ascii
put_number-requires c = field_fits (next_field (next_field (next_field (start c.before.before.before.before.before.before.before.before.before.before.before.before.before.before.before.before.before.before) c.put_word-k.ensures) c.put_number-k.ensures) c.put_word-k-2.ensures)

pub returns : goal.returns
unfolding ascii
returns c =
    last-field (next_field (next_field (next_field (start c.before.before.before.before.before.before.before.before.before.before.before.before.before.before.before.before.before.before.before.before.before.before) c.put_word-k.ensures) c.put_number-k.ensures) c.put_word-k-2.ensures) c.put_number.ensures
