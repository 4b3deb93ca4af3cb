-- `listing::fields::put_word` meets its contract.
use Rattle.std.proofs.Common.{◌+◌, ◌-◌, arith, length, refl, ap, ◌∙◌}
use Rattle.list_laws.specs.Put.{put, put-part}
use Rattle.listing.specs.Writing.{field-length, written_next}
use Rattle.listing.proofs.fields.put_word.Goals as goal

pub returns : goal.returns
returns c =
    let a = c.args in
    let t = c.copy_from_slice in
    let b = put-part a.out.now t.new.self a.at (a.at + length a.text.now - a.at) (omega (arith, ap length t.ensures.after)) ∙ ap (put a.out.now a.at) t.ensures.after in
    written_next (record { bytes = b; place = refl }) c.put_byte.ensures (omega (arith, field-length a.text.now a.after))
