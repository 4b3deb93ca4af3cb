-- `records::number_edges` meets its contract: after i turns the edges in the first i slots have their numbers.
use Rattle.std.proofs.Common.{refl, ◌+◌, ◌*◌, arith, get_or}
use Rattle.components.specs.ComponentEdges.{slot_edge, slot_asks, slot_next, see_none}
use Rattle.components.proofs.records.number_edges.Goals as goal

pub loop-i-init : goal.loop-i-init
loop-i-init c = see_none _ _ _ _ _ _

pub number_edge-count-requires : goal.number_edge-count-requires
number_edge-count-requires c =
    let a = c.args in
    let s = c.loop-i in
    slot_asks a.n a.e a.s a.from a.to a.total a.words.now c.requires s.words s.i s.count (omega arith) (omega arith) s.invariant _ _ (omega arith) refl

pub bounds-words-numbers : goal.bounds-words-numbers
bounds-words-numbers c =
    let a = c.args in
    let s = c.loop-i in
    let j = 3 + 3 * a.n + a.s + 5 * a.e + a.n + a.e + a.n + a.from + s.i in
    omega (arith, c.requires.fits, slot_edge a.n a.e a.s a.from a.to a.total a.words.now c.requires s.words s.i s.count (omega arith) (omega arith) s.invariant j (get_or s.words j 0) (omega arith) refl)

pub loop-i-preserved : goal.loop-i-preserved
loop-i-preserved c =
    let a = c.args in
    let s = c.loop-i in
    slot_next a.n a.e a.s a.from a.to a.total a.words.now c.requires s.words s.i s.count (omega arith) (omega arith) s.invariant _ _ (omega arith) refl _ _ _ _ c.number_edge-count.ensures refl c.saturating_sub.ensures
