-- `components::visit_neighbours` meets its contract: before turn i the slots from the first of v up to i are visited.
use Rattle.std.proofs.Common.{◌≡◌, ◌∙◌, ◌+◌, ◌≤◌, ◌<◌, arith}
use Rattle.components.specs.ComponentWalk.{first_of}
use Rattle.components.specs.ComponentVisit.{last-bound, after_none, after-all, slot_there, other_is, after_next, meeting}
use Rattle.components.proofs.components.visit_neighbours.Goals as goal
use Rattle.components.proofs.components.visit_neighbours.Goals.{In-loop-i}

pub loop-i-init : goal.loop-i-init
loop-i-init c =
    let a = c.args in
    rw c.first_slot-first.ensures (after_none a.n a.e a.s a.at a.v a.words.now a.met.count a.met.top c.requires.s_in_bounds c.requires.visiting)

-- the slot of a turn is one of v's
low : (c : In-loop-i) → let a = c.args in first_of a.n a.s a.words.now a.v ≤ c.loop-i.i
low c = omega (arith, c.first_slot-first.ensures)

high : (c : In-loop-i) → let a = c.args in c.loop-i.i < first_of a.n a.s a.words.now (a.v + 1)
high c = omega (arith, c.first_slot-last.ensures)

pub neighbour-w-requires : goal.neighbour-w-requires
neighbour-w-requires c =
    let a = c.args in
    let p = c.requires in
    let s = c.loop-i in
    let h = slot_there a.n a.e a.s a.at a.v a.words.now a.met.count a.met.top p.s_in_bounds p.visiting s.words s.m.count s.m.top s.i (low c) (high c) s.auto.words s.invariant in
    record { i_in_bounds = h.0; i_in_bounds_2 = h.1 }

pub visit_node-m-requires : goal.visit_node-m-requires
visit_node-m-requires c =
    let a = c.args in
    let p = c.requires in
    let s = c.loop-i in
    let t = (goal.at.visit_node-m-requires c).In-loop-i in
    let o = other_is a.n a.e a.s a.at a.v a.words.now a.met.count a.met.top p.s_in_bounds p.visiting s.words s.m.count s.m.top s.i (low t) (high t) s.auto.words s.invariant in
    rw (c.neighbour-w.ensures, o) (meeting a.n a.e a.s a.at a.v a.words.now a.met.count a.met.top p.s_in_bounds p.visiting s.words s.m.count s.m.top s.i (low t) (high t) s.auto.words s.invariant)

pub loop-i-preserved : goal.loop-i-preserved
loop-i-preserved c =
    let a = c.args in
    let p = c.requires in
    let s = c.loop-i in
    let t = (goal.at.loop-i-preserved c).In-loop-i in
    let o = other_is a.n a.e a.s a.at a.v a.words.now a.met.count a.met.top p.s_in_bounds p.visiting s.words s.m.count s.m.top s.i (low t) (high t) s.auto.words s.invariant in
    c.visit_node-m.ensures
    ∙ rw (c.neighbour-w.ensures, o) (after_next a.n a.e a.s a.at a.v a.words.now a.met.count a.met.top p.s_in_bounds p.visiting s.words s.m.count s.m.top s.i (low t) (high t) s.auto.words s.invariant)

pub returns : goal.returns
returns c =
    let a = c.args in
    let p = c.requires in
    let s = c.loop-i in
    let l = last-bound a.n a.e a.s a.at a.v a.words.now a.met.count a.met.top p.s_in_bounds p.visiting in
    let z : first_of a.n a.s a.words.now (a.v + 1) ≡ s.i = omega (arith, c.first_slot-first.ensures, c.first_slot-last.ensures) in
    after-all a.n a.e a.s a.at a.v a.words.now a.met.count a.met.top p.s_in_bounds p.visiting _ (rw z s.invariant)
