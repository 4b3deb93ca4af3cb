-- `put_listing` meets its contract.
use mathlib.Core.Path.{refl}
use Rattle.bale.specs.Taking.{listing-is}
use Rattle.bale.proofs.input.put_listing.Goals as goal

pub returns-in-Whole : goal.returns-in-Whole
returns-in-Whole c = λ x h.
    let l = c.list_bale.ensures x.bytes h.taken.taken in
    rw (listing-is x _ _ _ h _ c.in-Whole.is) (l.text, l.long)

pub returns-in-Reading : goal.returns-in-Reading
returns-in-Reading c = λ x h. rw (listing-is x _ _ _ h _ c.in-Reading.is) (refl, refl)

pub returns-in-TooLong : goal.returns-in-TooLong
returns-in-TooLong c = λ x h. rw (listing-is x _ _ _ h _ c.in-TooLong.is) (refl, refl)

pub returns-in-Unreadable : goal.returns-in-Unreadable
returns-in-Unreadable c = λ x h. rw (listing-is x _ _ _ h _ c.in-Unreadable.is) (refl, refl)
