-- `zero_lookahead::sweep::send_from_tree` meets its contract.
use mathlib.Core.Path.{refl, ap}
use Prim.Native.Nat.{ℕ, ◌-◌}
use native.Mathlib.Omega.{arith}
use lib.ListN.{get_or}
use Rattle.zero_lookahead.specs.SweepSend.{record_fits, rows_fit, offsets_some, firsts-there, firsts_order, degree-is, flag-place, flag-there, node-there, tree_ready, tree-left}
use Rattle.zero_lookahead.proofs.sweep.send_from_tree.Goals as goal

pub firsts_row-firsts-requires : goal.firsts_row-firsts-requires
firsts_row-firsts-requires c = record_fits c.requires.some_node_of.some.rows.part

pub outs_row-outs-requires : goal.outs_row-outs-requires
outs_row-outs-requires c = rows_fit c.requires.some_node_of.some.rows.part

pub offsets_row-offsets-requires : goal.offsets_row-offsets-requires
offsets_row-offsets-requires c = rows_fit c.requires.some_node_of.some.rows.part

pub overflow_sub-directions : goal.overflow_sub-directions
overflow_sub-directions c =
    let p = c.requires.some_node_of.some.rows in
    offsets_some p.part _ _ _ c.firsts_row-firsts.ensures c.outs_row-outs.ensures c.offsets_row-offsets.ensures

pub word-l-requires : goal.word-l-requires
word-l-requires c =
    let p = c.requires.some_node_of.some.rows in
    omega (arith, offsets_some p.part _ _ _ c.firsts_row-firsts.ensures c.outs_row-outs.ensures c.offsets_row-offsets.ensures)

pub word-first-requires : goal.word-first-requires
word-first-requires c =
    let p = c.requires.some_node_of.some.rows in
    omega (arith, firsts-there p.part _ _ _ c.firsts_row-firsts.ensures c.outs_row-outs.ensures c.offsets_row-offsets.ensures c.args.n p.node)

pub word-requires : goal.word-requires
word-requires c =
    let p = c.requires.some_node_of.some.rows in
    firsts-there p.part _ _ _ c.firsts_row-firsts.ensures c.outs_row-outs.ensures c.offsets_row-offsets.ensures c.args.n p.node

pub overflow_sub-k : goal.overflow_sub-k
overflow_sub-k c =
    let p = c.requires.some_node_of.some.rows in
    omega (arith, firsts_order p.part _ _ _ c.firsts_row-firsts.ensures c.outs_row-outs.ensures c.offsets_row-offsets.ensures c.args.n p.node, c.word-first.ensures.0, c.word.ensures.0)

pub offset_bounds-words-out : goal.offset_bounds-words-out
offset_bounds-words-out c =
    let p = c.requires.some_node_of.some.rows in
    omega (arith, flag-place p.part _ _ _ c.firsts_row-firsts.ensures c.outs_row-outs.ensures c.offsets_row-offsets.ensures c.args.n, flag-there p.part c.args.n (node-there p), c.well_formed.1.1.0.1)

pub bounds-words-out : goal.bounds-words-out
bounds-words-out c =
    let p = c.requires.some_node_of.some.rows in
    omega (arith, flag-place p.part _ _ _ c.firsts_row-firsts.ensures c.outs_row-outs.ensures c.offsets_row-offsets.ensures c.args.n, flag-there p.part c.args.n (node-there p))

pub send_tree-requires : goal.send_tree-requires
send_tree-requires c =
    let p = c.requires.some_node_of.some.rows in
    let k = degree-is p.part _ _ _ c.firsts_row-firsts.ensures c.outs_row-outs.ensures c.offsets_row-offsets.ensures c.args.n c.word-first.result c.word.result p.node c.word-first.ensures.0 c.word.ensures.0 in
    record { directed = tree_ready p _ _ _ c.firsts_row-firsts.ensures c.outs_row-outs.ensures c.offsets_row-offsets.ensures c.word-l.result c.word-first.result c.word-l.ensures.0 c.word-first.ensures.0 (c.word.result - c.word-first.result) k _ c.requires.some_node_of.kind refl }

pub returns : goal.returns
returns c =
    λ s t evidence r_in r_new r_log r_build pending rest p et.
    let k = degree-is p.part _ _ _ c.firsts_row-firsts.ensures c.outs_row-outs.ensures c.offsets_row-offsets.ensures c.args.n c.word-first.result c.word.result p.node c.word-first.ensures.0 c.word.ensures.0 in
    tree-left p _ _ _ c.firsts_row-firsts.ensures c.outs_row-outs.ensures c.offsets_row-offsets.ensures c.word-l.result c.word-first.result c.word-l.ensures.0 c.word-first.ensures.0 (c.word.result - c.word-first.result) k c.args.tolerance _ _ _ _ c.requires.some_node_of.kind et
    (ap (λ (i : ℕ). get_or c.args.words.now i 0) (flag-place p.part _ _ _ c.firsts_row-firsts.ensures c.outs_row-outs.ensures c.offsets_row-offsets.ensures c.args.n)) c.send_tree.ensures.value c.send_tree.ensures.w_after
