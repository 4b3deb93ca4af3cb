-- `depot::read_shift` meets its contract.
use Rattle.std.proofs.Common.{rules, [], sym, subst, ◌∙◌}
use Rattle.streams.specs.Input.{never, came-nothing, came_by}
use Rattle.depot.specs.Depots.{HoldsDepot}
use Rattle.depot.specs.Held.{going-some, going_more, going_less, read_all}
use Rattle.depot.proofs.read_shift.Goals as goal

pub loop-buffer-init : goal.loop-buffer-init
loop-buffer-init g c =
    let (m, p, s) = c.requires.markers_len in
    let held = subst (HoldsDepot _ _ _ _ _) (sym s) (c.begin-depot.ensures _ _ m p) in
    (record { came = came_by never []; by = came-nothing never _; holds = held }, c.requires.work_floats_len.0, c.requires.work_floats_len.1)

pub take_read-depot-requires-clause-some_going : goal.take_read-depot-requires-clause-some_going
take_read-depot-requires-clause-some_going g c =
    let l = c.loop-buffer in
    going-some _ _ _ l.depot l.markers l.pairs l.sums l.invariant.0 (sym c.is_going.ensures ∙ c.loop-buffer-test.true)

pub loop-buffer-smaller : goal.loop-buffer-smaller
loop-buffer-smaller g c =
    let l = c.loop-buffer in
    let r = c.read_some-got in
    let more = sym c.is_going.ensures ∙ c.loop-buffer-test.true in
    going_less _ _ _ l.depot l.markers l.pairs l.sums l.invariant.0 more r.result r.new.buffer _ _ _ _ (c.take_read-depot.ensures _ l.invariant.0.holds)

pub loop-buffer-preserved : goal.loop-buffer-preserved
loop-buffer-preserved g c =
    let l = c.loop-buffer in
    let r = c.read_some-got in
    let more = sym c.is_going.ensures ∙ c.loop-buffer-test.true in
    let held = c.take_read-depot.ensures _ l.invariant.0.holds in (
      going_more _ _ _ l.depot l.markers l.pairs l.sums l.invariant.0 more r.result r.new.buffer _ _ _ _ held _ (search rules) (search rules) r.ensures.bytes,
      search rules,
      search rules,
    )

pub returns : goal.returns
returns g c =
    let l = c.loop-buffer in
    read_all _ _ _ l.depot l.markers l.pairs l.sums l.invariant.0 (sym c.is_going.ensures ∙ c.loop-buffer-test.false)
