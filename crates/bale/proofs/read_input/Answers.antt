-- `bale::read_input` meets its contract.
use Rattle.std.proofs.Common.{rules, [], sym, ◌∙◌}
use Rattle.streams.specs.Input.{came-nothing, came_by}
use Rattle.bale.specs.Program.{decided}
use Rattle.bale.specs.Taking.{going_few, going-less, going_more, read_all}
use Rattle.bale.proofs.read_input.Goals as goal

pub loop-buffer-init : goal.loop-buffer-init
loop-buffer-init g c =
    record { came = came_by decided []; by = came-nothing decided _; holds = c.begin-taking.ensures _ _ c.requires.0 c.requires.1 }

pub take_read-taking-requires-clause-bytes_bound : goal.take_read-taking-requires-clause-bytes_bound
take_read-taking-requires-clause-bytes_bound g c =
    let l = c.loop-buffer in
    (going_few _ _ l.taking l.markers l.pairs l.invariant (sym c.is_going.ensures ∙ c.loop-buffer-test.true), search rules)

pub loop-buffer-smaller : goal.loop-buffer-smaller
loop-buffer-smaller g c =
    let l = c.loop-buffer in
    let r = c.read_some-got in
    let more = sym c.is_going.ensures ∙ c.loop-buffer-test.true in
    let held = c.take_read-taking.ensures l.invariant.came.bytes l.invariant.holds.taken in
    going-less _ _ l.taking l.markers l.pairs l.invariant more r.result r.new.buffer _ _ _ held

pub loop-buffer-preserved : goal.loop-buffer-preserved
loop-buffer-preserved g c =
    let l = c.loop-buffer in
    let r = c.read_some-got in
    let more = sym c.is_going.ensures ∙ c.loop-buffer-test.true in
    let held = c.take_read-taking.ensures l.invariant.came.bytes l.invariant.holds.taken in
    going_more _ _ l.taking l.markers l.pairs l.invariant more r.result r.new.buffer _ _ _ held _ (search rules) (search rules) r.ensures.bytes

pub returns : goal.returns
returns g c = let l = c.loop-buffer in read_all _ _ l.taking l.markers l.pairs l.invariant (sym c.is_going.ensures ∙ c.loop-buffer-test.false)
