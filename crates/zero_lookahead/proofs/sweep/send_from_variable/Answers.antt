-- `zero_lookahead::sweep::send_from_variable` meets its contract.
use Prim.Native.Nat.{◌-◌}
use native.Mathlib.Omega.{arith}
use Rattle.zero_lookahead.specs.SweepSend.{record_fits, rows_fit, offsets_some, firsts-there, firsts_order, degree-is, variable_kind, some_variable, variable_ready, variable_left}
use Rattle.zero_lookahead.proofs.sweep.send_from_variable.Goals as goal

pub initial_belief-belief-requires : goal.initial_belief-belief-requires
initial_belief-belief-requires c = let p = c.requires.some_node in some_variable p.0.rows (variable_kind p.0.rows p.1 p.2)

pub firsts_row-firsts-requires : goal.firsts_row-firsts-requires
firsts_row-firsts-requires c = record_fits c.requires.some_node.0.rows.part

pub outs_row-outs-requires : goal.outs_row-outs-requires
outs_row-outs-requires c = rows_fit c.requires.some_node.0.rows.part

pub offsets_row-offsets-requires : goal.offsets_row-offsets-requires
offsets_row-offsets-requires c = rows_fit c.requires.some_node.0.rows.part

pub overflow_sub-offsets : goal.overflow_sub-offsets
overflow_sub-offsets c =
    let p = c.requires.some_node.0.rows in
    offsets_some p.part _ _ _ c.firsts_row-firsts.ensures c.outs_row-outs.ensures c.offsets_row-offsets.ensures

pub word-l-requires : goal.word-l-requires
word-l-requires c =
    let p = c.requires.some_node.0.rows in
    omega (arith, offsets_some p.part _ _ _ c.firsts_row-firsts.ensures c.outs_row-outs.ensures c.offsets_row-offsets.ensures)

pub word-first-requires : goal.word-first-requires
word-first-requires c =
    let p = c.requires.some_node.0.rows in
    omega (arith, firsts-there p.part _ _ _ c.firsts_row-firsts.ensures c.outs_row-outs.ensures c.offsets_row-offsets.ensures c.args.n p.node)

pub word-requires : goal.word-requires
word-requires c =
    let p = c.requires.some_node.0.rows in
    firsts-there p.part _ _ _ c.firsts_row-firsts.ensures c.outs_row-outs.ensures c.offsets_row-offsets.ensures c.args.n p.node

pub overflow_sub-k : goal.overflow_sub-k
overflow_sub-k c =
    let p = c.requires.some_node.0.rows in
    omega (arith, firsts_order p.part _ _ _ c.firsts_row-firsts.ensures c.outs_row-outs.ensures c.offsets_row-offsets.ensures c.args.n p.node, c.word-first.ensures.0, c.word.ensures.0)

pub send_variable-requires : goal.send_variable-requires
send_variable-requires c =
    let q = c.requires.some_node in
    let p = q.0.rows in
    let k = degree-is p.part _ _ _ c.firsts_row-firsts.ensures c.outs_row-outs.ensures c.offsets_row-offsets.ensures c.args.n c.word-first.result c.word.result p.node c.word-first.ensures.0 c.word.ensures.0 in
    record { first_in_bounds = variable_ready p _ _ _ c.firsts_row-firsts.ensures c.outs_row-outs.ensures c.offsets_row-offsets.ensures c.word-l.result c.word-first.result c.word-l.ensures.0 c.word-first.ensures.0 (c.word.result - c.word-first.result) k (variable_kind p q.1 q.2) }

pub returns : goal.returns
returns c =
    let q = c.requires.some_node in
    λ s t r_in r_new r_log r_build pending rest p e.
    let k = degree-is p.part _ _ _ c.firsts_row-firsts.ensures c.outs_row-outs.ensures c.offsets_row-offsets.ensures c.args.n c.word-first.result c.word.result p.node c.word-first.ensures.0 c.word.ensures.0 in
    let d = variable_kind p q.1 q.2 in
    variable_left p _ _ _ c.firsts_row-firsts.ensures c.outs_row-outs.ensures c.offsets_row-offsets.ensures c.word-l.result c.word-first.result c.word-l.ensures.0 c.word-first.ensures.0 (c.word.result - c.word-first.result) k _ _ _ d
    (c.initial_belief-belief.ensures s t c.args.out p.part e p.node d) c.send_variable.ensures
