-- `factor_graph::components::find_components` meets its contract.
use mathlib.Core.Path.{refl, sym, ◌∙◌}
use Prim.Native.Nat.{◌-◌, ◌+◌}
use native.Mathlib.Omega.{arith}
use Rattle.components.specs.ComponentMemory.{memory}
use Rattle.components.specs.ComponentAll.{next_free_lem, next_bounds, find_first, find_asks, find_graph, find_next, find_end}
use Rattle.components.proofs.components.find_components.Goals as goal

pub loop-v-init : goal.loop-v-init
loop-v-init c =
    let a = c.args in
    let q = c.next_start-v.ensures in
    let b = next_bounds (memory a.n a.e a.s a.words.now).node_numbers 0 (a.n - 0) in (
      refl,
      refl,
      omega (arith, q, b),
      omega arith,
      λ h. rw q (next_free_lem (memory a.n a.e a.s a.words.now).node_numbers 0 (a.n - 0) (omega (arith, q))),
      rw q (find_first a.n a.e a.s a.words.now c.requires),
    )

pub component-at-requires : goal.component-at-requires
component-at-requires c =
    let a = c.args in
    let s = c.loop-v in
    find_asks a.n a.e a.s a.words.now c.requires s.words s.invariant.0 s.count s.at s.v c.loop-v-test.true (s.invariant.4 c.loop-v-test.true) s.invariant.1 s.invariant.5

pub loop-v-smaller : goal.loop-v-smaller
loop-v-smaller c =
    let a = c.args in
    let s = c.loop-v in
    let b = next_bounds (memory a.n a.e a.s c.component-at.new.words).node_numbers (s.v + 1) (a.n - (s.v + 1)) in
    omega (arith, b, c.next_start-v-in-loop-v.ensures, c.loop-v-test.true)

pub loop-v-preserved : goal.loop-v-preserved
loop-v-preserved c =
    let a = c.args in
    let s = c.loop-v in
    let q = c.next_start-v-in-loop-v.ensures in
    let b = next_bounds (memory a.n a.e a.s c.component-at.new.words).node_numbers (s.v + 1) (a.n - (s.v + 1)) in (
      c.component-at.auto.words ∙ s.invariant.0,
      find_graph a.n a.e a.s a.words.now c.requires s.words s.invariant.0 s.count s.at s.v c.loop-v-test.true (s.invariant.4 c.loop-v-test.true) s.invariant.1 s.invariant.5 _ _ c.component-at.ensures,
      omega (arith, q, b, c.loop-v-test.true),
      omega (arith, q, b, s.invariant.3),
      λ h. rw q (next_free_lem (memory a.n a.e a.s c.component-at.new.words).node_numbers (s.v + 1) (a.n - (s.v + 1)) (omega (arith, q, h, c.loop-v-test.true))),
      find_next a.n a.e a.s a.words.now c.requires s.words s.invariant.0 s.count s.at s.v c.loop-v-test.true (s.invariant.4 c.loop-v-test.true) s.invariant.1 s.invariant.5 _ _ _ c.component-at.ensures q,
    )

pub returns : goal.returns
returns c =
    let a = c.args in
    let s = c.loop-v in
    sym (find_end a.n a.s s.v s.count s.at _ c.loop-v-test.false) ∙ s.invariant.5
