-- `records::write_lists` meets its contract: after i turns the lists of the first i nodes are written, with `total` slots.
use Rattle.std.proofs.Common.{◌≡◌, sym, ◌∙◌, arith}
use Rattle.components.specs.ComponentMemory.{memory}
use Rattle.components.specs.ComponentRecord.{slots_of}
use Rattle.components.specs.ComponentLists.{lists-none, slots-none, list_asks, list_total, list_next, listed_stored}
use Rattle.components.proofs.records.write_lists.Goals as goal

pub loop-i-init : goal.loop-i-init
loop-i-init c = record { written = lists-none _ _ _ _ _ _; slots = slots-none _ _ _ _ _ _ }

pub write_list-total-requires : goal.write_list-total-requires
write_list-total-requires c =
    let a = c.args in
    let s = c.loop-i in
    let i = s.invariant in
    rw (← i.slots) (list_asks a.n a.e a.s a.at a.count a.words.now c.requires s.words s.i (omega arith) (omega arith) i.written)

pub loop-i-preserved : goal.loop-i-preserved
loop-i-preserved c =
    let a = c.args in
    let s = c.loop-i in
    let i = s.invariant in
    let r = c.write_list-total.ensures in
    record {
      written = r.words_after ∙ rw (← i.slots) (list_next a.n a.e a.s a.at a.count a.words.now c.requires s.words s.i (omega arith) (omega arith) i.written);
      slots = sym (r.value ∙ rw (← i.slots) (list_total a.n a.e a.s a.at a.count a.words.now c.requires s.words s.i (omega arith) (omega arith) i.written));
    }

pub returns : goal.returns
returns c =
    let a = c.args in
    let s = c.loop-i in
    let z : s.i ≡ a.count = omega arith in
    let t : s.total ≡ slots_of a.n a.s a.at a.count (memory a.n a.e a.s a.words.now).graph (memory a.n a.e a.s a.words.now).out a.count = sym (rw z at s.invariant.slots) in
    record { words_after = listed_stored a.n a.e a.s a.at a.count a.words.now s.words _ s.total (omega arith) t (rw z at s.invariant.written); value = t }
