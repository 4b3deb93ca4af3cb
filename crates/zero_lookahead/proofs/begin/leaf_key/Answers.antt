-- `zero_lookahead::begin::leaf_key` meets its contract.
use mathlib.Core.Path.{◌≡◌, sym, ap, ◌∙◌}
use Prim.Native.Nat.{◌+◌, ◌-◌, ◌*◌}
use native.Mathlib.Omega.{arith}
use lib.Ieee.{Float}
use lib.ListN.{length}
use Rattle.definition.specs.Settings.{Settings}
use Rattle.list_laws.specs.Part.{region, length-region}
use Rattle.opening.specs.Begin.{initial_key}
use Rattle.zero_lookahead.specs.BeginKeys.{key_behind, key_room, key_is}
use Rattle.zero_lookahead.proofs.begin.leaf_key.Goals as goal

pub returns-then-edges-d : goal.returns-then-edges-d
returns-then-edges-d c =
    let a = c.args in
    λ s t evidence x S G. key_behind S a.d (omega (arith, c.if-edges-d.true, c.word-edges.ensures.0))

pub slice_bounds-initial_key-count : goal.slice_bounds-initial_key-count
slice_bounds-initial_key-count c =
    let S = c.requires.some_standing_any in
    let a = c.args in
    let r = key_room S.stands a.d c.word-edges.result c.word-l.result c.word-from.result c.word-to.result c.word-edges.ensures.0 c.word-l.ensures.0 c.word-from.ensures.0 c.word-to.ensures.0 (omega (arith, c.if-edges-d.false)) in
    r.0

pub slice_bounds-initial_key-start : goal.slice_bounds-initial_key-start
slice_bounds-initial_key-start c =
    let S = c.requires.some_standing_any in
    let a = c.args in
    let r = key_room S.stands a.d c.word-edges.result c.word-l.result c.word-from.result c.word-to.result c.word-edges.ensures.0 c.word-l.ensures.0 c.word-from.ensures.0 c.word-to.ensures.0 (omega (arith, c.if-edges-d.false)) in
    r.0

pub slice_bounds-initial_key-end : goal.slice_bounds-initial_key-end
slice_bounds-initial_key-end c =
    let S = c.requires.some_standing_any in
    let a = c.args in
    let r = key_room S.stands a.d c.word-edges.result c.word-l.result c.word-from.result c.word-to.result c.word-edges.ensures.0 c.word-l.ensures.0 c.word-from.ensures.0 c.word-to.ensures.0 (omega (arith, c.if-edges-d.false)) in
    omega (arith, r.1, r.2)

pub slice_bounds-initial_key-count-2 : goal.slice_bounds-initial_key-count-2
slice_bounds-initial_key-count-2 c =
    let S = c.requires.some_standing_any in
    let a = c.args in
    let r = key_room S.stands a.d c.word-edges.result c.word-l.result c.word-from.result c.word-to.result c.word-edges.ensures.0 c.word-l.ensures.0 c.word-from.ensures.0 c.word-to.ensures.0 (omega (arith, c.if-edges-d.false)) in
    omega (arith, r.0)

pub slice_bounds-initial_key-start-2 : goal.slice_bounds-initial_key-start-2
slice_bounds-initial_key-start-2 c =
    let S = c.requires.some_standing_any in
    let a = c.args in
    let r = key_room S.stands a.d c.word-edges.result c.word-l.result c.word-from.result c.word-to.result c.word-edges.ensures.0 c.word-l.ensures.0 c.word-from.ensures.0 c.word-to.ensures.0 (omega (arith, c.if-edges-d.false)) in
    omega (arith, r.0)

pub slice_bounds-initial_key-end-2 : goal.slice_bounds-initial_key-end-2
slice_bounds-initial_key-end-2 c =
    let S = c.requires.some_standing_any in
    let a = c.args in
    let r = key_room S.stands a.d c.word-edges.result c.word-l.result c.word-from.result c.word-to.result c.word-edges.ensures.0 c.word-l.ensures.0 c.word-from.ensures.0 c.word-to.ensures.0 (omega (arith, c.if-edges-d.false)) in
    omega (arith, r.1, r.2)

pub initial_key-requires : goal.initial_key-requires
initial_key-requires c =
    let S = c.requires.some_standing_any in
    let a = c.args in
    let r = key_room S.stands a.d c.word-edges.result c.word-l.result c.word-from.result c.word-to.result c.word-edges.ensures.0 c.word-l.ensures.0 c.word-from.ensures.0 c.word-to.ensures.0 (omega (arith, c.if-edges-d.false)) in
    let w = a.w.now in
    let l = c.word-l.result in
    let from = c.word-from.result in
    let to = c.word-to.result in
    let p : length (region w from (to - from)) ≡ to - from = length-region w from (to - from) (omega (arith, r.0, r.1, r.2)) in
    let q : length (region w (2 * l + from) (2 * l + to - (2 * l + from))) ≡ 2 * l + to - (2 * l + from) = length-region w (2 * l + from) (2 * l + to - (2 * l + from)) (omega (arith, r.0, r.1, r.2)) in
    record { in_bounds = (omega (arith, p, r.3), omega (arith, p, q)) }

pub returns : goal.returns
returns c =
    let a = c.args in
    let w = a.w.now in
    let e = c.word-edges in
    let l = c.word-l in
    let from = c.word-from in
    let to = c.word-to in
    let n = 2 * l.result + to.result - (2 * l.result + from.result) in
    let k = c.initial_key in
    λ s t evidence x S G.
    key_is S a.d e.result l.result from.result to.result e.ensures.0 l.ensures.0 from.ensures.0 to.ensures.0 (omega (arith, c.if-edges-d.false)) k.result n (omega arith)
    (k.ensures ∙ ap (λ (z : Float). initial_key z (region w from.result (to.result - from.result)) (region w (2 * l.result + from.result) n)) (sym (ap (λ (z : Settings). z.tolerance) G)))
