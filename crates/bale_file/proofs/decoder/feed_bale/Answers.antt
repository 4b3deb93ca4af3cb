-- `bale_file::decoder::feed_bale` meets its contract. The loop's invariant: what is fed of the bytes that are left, counted from the first, is what is fed of all.
use Rattle.std.proofs.Common.{◌≡◌, arith, length, sym, ◌∙◌}
use Rattle.bale_file.specs.Feeding.{all-fed, bale-fed, bale-next}
use Rattle.bale_file.specs.FirstBale.{first_of}
use Rattle.bale_file.proofs.decoder.feed_bale.Goals as goal

pub returns-then-ends : goal.returns-then-ends
returns-then-ends c =
    let s = c.loop-i in
    let e = bale-fed _ s.i _ _ c.loop-i-test.true c.feed_byte-d.ensures (sym c.ends_bale-ends.ensures ∙ c.if-ends.true) ∙ s.invariant in
    record { pairs_after = e; by_index = λ bs ms ps. first_of bs _ ms ps _ _ _ _ _ _ e }

pub loop-i-preserved : goal.loop-i-preserved
loop-i-preserved c =
    let s = c.loop-i in
    bale-next _ s.i _ _ c.loop-i-test.true c.feed_byte-d.ensures (sym c.ends_bale-ends.ensures ∙ c.if-ends.false) ∙ s.invariant

pub returns : goal.returns
returns c =
    let i : c.loop-i.i ≡ length c.args.bytes.now = omega arith in
    let e = rw i at (all-fed c.args.bytes.now c.loop-i.i _ (omega arith) ∙ c.loop-i.invariant) in
    record { pairs_after = e; by_index = λ bs ms ps. first_of bs _ ms ps _ _ _ _ _ _ e }
