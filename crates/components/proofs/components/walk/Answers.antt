-- `components::walk` meets its contract: what is walked from the stack as it stands is the whole walk.
use Rattle.std.proofs.Common.{◌≡◌, sym, refl, ap, ◌∙◌, ◌+◌, arith}
use Rattle.components.specs.ComponentMemory.{memory}
use Rattle.components.specs.ComponentWalk.{Walk, walk_of, walked, zeros, turn_walking, turn_tops, walked-turn, walked_still}
use Rattle.components.specs.ComponentVisit.{turned_is, turn_asks}
use Rattle.components.proofs.components.walk.Goals as goal

pub visit_neighbours-m-requires-clause-visiting : goal.visit_neighbours-m-requires-clause-visiting
visit_neighbours-m-requires-clause-visiting c =
    let a = c.args in
    let s = c.loop-m in
    let i = s.invariant in
    turn_asks a.n a.e a.s a.at s.words s.m.count s.m.top (omega (arith, c.requires.s_in_bounds)) i.walking c.loop-m-test.true c.requires.n_bound (rw i.rest (omega (arith, c.requires.top_in_bounds))) _ refl

pub loop-m-smaller : goal.loop-m-smaller
loop-m-smaller c =
    let a = c.args in
    let s = c.loop-m in
    let i = s.invariant in
    let t = c.visit_neighbours-m.ensures ∙ turned_is a.n a.e a.s a.at s.words s.m.count s.m.top (omega (arith, c.requires.s_in_bounds)) i.walking c.loop-m-test.true _ refl in
    omega (arith, turn_tops a.n a.e a.s a.at (walk_of (memory a.n a.e a.s s.words) s.m.count s.m.top) i.walking c.loop-m-test.true, ap (λ (y : Walk). y.top + zeros y.memory.node_numbers) t)

pub loop-m-preserved : goal.loop-m-preserved
loop-m-preserved c =
    let a = c.args in
    let s = c.loop-m in
    let i = s.invariant in
    let t = c.visit_neighbours-m.ensures ∙ turned_is a.n a.e a.s a.at s.words s.m.count s.m.top (omega (arith, c.requires.s_in_bounds)) i.walking c.loop-m-test.true _ refl in
    record {
      walking = rw t (turn_walking a.n a.e a.s a.at (walk_of (memory a.n a.e a.s s.words) s.m.count s.m.top) i.walking c.loop-m-test.true);
      rest = ap (walked a.n a.s a.at a.n) t ∙ (walked-turn a.n a.e a.s a.at a.n _ i.walking c.loop-m-test.true i.walking.tops ∙ i.rest);
    }

pub returns : goal.returns
returns c =
    let s = c.loop-m in
    let a = c.args in
    let z : s.m.top ≡ 0 = omega arith in
    ap (walk_of (memory a.n a.e a.s s.words) s.m.count) (sym z) ∙ (sym (walked_still a.n a.e a.s a.at a.n _ z) ∙ s.invariant.rest)
