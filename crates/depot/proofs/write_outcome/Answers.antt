-- `depot::write_outcome` meets its contract.
use Rattle.std.proofs.Common.{sym, length-take-le}
use Rattle.listing.specs.Front.{front-is}
use Rattle.streams.specs.Writes.{Gone}
use Rattle.depot.specs.Depots.{text_of}
use Rattle.depot.specs.Held.{put-fits}
use Rattle.depot.proofs.write_outcome.Goals as goal

pub slice_bounds-out-end : goal.slice_bounds-out-end
slice_bounds-out-end g c = put-fits c.args.depot c.args.sums.now _ _ _ c.requires c.put_outcome-n.ensures

pub slice_bounds-hand_over-end : goal.slice_bounds-hand_over-end
slice_bounds-hand_over-end g c = sym (length-take-le _ _ (put-fits c.args.depot c.args.sums.now _ _ _ c.requires c.put_outcome-n.ensures))

pub returns : goal.returns
returns g c csv x ms ps xs h ended =
    let o = c.hand_over.ensures in
    let gone : Gone _ _ _ c.hand_over.result = record { calls = o.calls; bytes = o.bytes } in
    rw (front-is (text_of csv x c.args.depot xs) _ _ _ (c.put_outcome-n.ensures csv x ms ps xs h ended)) at gone
