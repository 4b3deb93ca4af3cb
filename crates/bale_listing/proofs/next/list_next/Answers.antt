-- `next::list_next` meets its contract.
use Rattle.bale_listing.specs.Next.{some-taken, bale-listed, still_open}
use Rattle.bale_listing.proofs.next.list_next.Goals as goal

pub list_bale-n-requires : goal.list_bale-n-requires
list_bale-n-requires c =
    let x = c.requires.some_open_in in
    record { some_taken = some-taken x.bytes _ _ _ _ _ _ (c.take_bale-took.ensures x.bytes x.held) c.if-took.true; work_floats_len = c.requires.work_floats_len }

pub returns-then-took : goal.returns-then-took
returns-then-took c = λ bs h. bale-listed bs _ _ _ _ _ _ (c.take_bale-took.ensures bs h) c.if-took.true _ c.begin-next.ensures _ _ _ _ c.list_bale-n.ensures

pub returns : goal.returns
returns c = λ bs h. still_open bs _ _ _ _ _ _ (c.take_bale-took.ensures bs h) c.if-took.false
