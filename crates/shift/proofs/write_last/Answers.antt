-- `shift::write_last` meets its contract.
use Rattle.std.specs.Prelude.{◌≡◌, Bool, true, false, not, refl}
use Rattle.std.proofs.Common.{sym, length-take-le}
use Rattle.shift_laws.specs.Ended.{open_bale}
use Rattle.bale_listing.specs.Lent.{rest-fits}
use Rattle.shift.specs.Overs.{whole_handed, texts-not}
use Rattle.shift.specs.Held.{texts_are}
use Rattle.shift.proofs.write_last.Goals as goal

did-not : (b : Bool) → not b ≡ true → b ≡ false
did-not true e = cc
did-not false e = refl

did : (b : Bool) → not b ≡ false → b ≡ true
did true e = refl
did false e = cc

pub returns-then-not-shift : goal.returns-then-not-shift
returns-then-not-shift g c before x h = texts-not _ _ x.phase x.bytes (rw (did-not c.args.shift.written c.if-not-shift.true) at h.over.handed)

pub list_last-n-requires-clause-some_taken_in : goal.list_last-n-requires-clause-some_taken_in
list_last-n-requires-clause-some_taken_in g c =
    let h = c.requires.some_shift in
    record { bytes = open_bale h.came.bytes; taken = (h.holds.over.held (did c.args.shift.written c.if-not-shift.false)).taken }

pub slice_bounds-out-end : goal.slice_bounds-out-end
slice_bounds-out-end g c =
    let h = c.requires.some_shift in
    rest-fits _ _ _ _ _ _ _ (open_bale h.came.bytes) (c.list_last-n.ensures _ (h.holds.over.held (did c.args.shift.written c.if-not-shift.false)).taken)

pub slice_bounds-hand_over-end : goal.slice_bounds-hand_over-end
slice_bounds-hand_over-end g c =
    let h = c.requires.some_shift in
    sym (length-take-le _ _ (rest-fits _ _ _ _ _ _ _ (open_bale h.came.bytes) (c.list_last-n.ensures _ (h.holds.over.held (did c.args.shift.written c.if-not-shift.false)).taken)))

pub returns-in-Whole : goal.returns-in-Whole
returns-in-Whole g c before x h =
    let o = c.hand_over in
    let all = did c.args.shift.written c.if-not-shift.false in
    rw (texts_are _ _ x c.args.shift _ _ h _ c.in-Whole.is)
    (whole_handed _ _ _ _ _ _ _ _ _ o.result (record { calls = o.ensures.calls; bytes = o.ensures.bytes }) before x.bytes (rw all at h.over.handed)
    (c.list_last-n.ensures _ (h.over.held all).taken))
