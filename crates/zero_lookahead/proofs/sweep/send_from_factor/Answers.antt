-- `zero_lookahead::sweep::send_from_factor` meets its contract.
use native.Mathlib.Omega.{arith}
use Rattle.zero_lookahead.specs.SweepSend.{record_fits, rows_fit, offsets_some, firsts-there, factor_ready, factor-left}
use Rattle.zero_lookahead.proofs.sweep.send_from_factor.Goals as goal

pub firsts_row-firsts-requires : goal.firsts_row-firsts-requires
firsts_row-firsts-requires c = record_fits c.requires.some.rows.part

pub outs_row-outs-requires : goal.outs_row-outs-requires
outs_row-outs-requires c = rows_fit c.requires.some.rows.part

pub offsets_row-offsets-requires : goal.offsets_row-offsets-requires
offsets_row-offsets-requires c = rows_fit c.requires.some.rows.part

pub overflow_sub-offsets : goal.overflow_sub-offsets
overflow_sub-offsets c =
    let p = c.requires.some.rows in
    offsets_some p.part _ _ _ c.firsts_row-firsts.ensures c.outs_row-outs.ensures c.offsets_row-offsets.ensures

pub word-l-requires : goal.word-l-requires
word-l-requires c =
    let p = c.requires.some.rows in
    omega (arith, offsets_some p.part _ _ _ c.firsts_row-firsts.ensures c.outs_row-outs.ensures c.offsets_row-offsets.ensures)

pub word-first-requires : goal.word-first-requires
word-first-requires c =
    let p = c.requires.some.rows in
    omega (arith, firsts-there p.part _ _ _ c.firsts_row-firsts.ensures c.outs_row-outs.ensures c.offsets_row-offsets.ensures c.args.n p.node)

pub send_factor-requires : goal.send_factor-requires
send_factor-requires c =
    let p = c.requires.some.rows in
    factor_ready p _ _ _ c.firsts_row-firsts.ensures c.outs_row-outs.ensures c.offsets_row-offsets.ensures c.word-l.result c.word-first.result c.word-l.ensures.0 c.word-first.ensures.0 c.requires.kind

pub returns : goal.returns
returns c =
    λ s t evidence r_in r_new r_log r_build pending rest p ea eb er.
    factor-left p _ _ _ c.firsts_row-firsts.ensures c.outs_row-outs.ensures c.offsets_row-offsets.ensures c.word-l.result c.word-first.result c.word-l.ensures.0 c.word-first.ensures.0 _ _
    c.args.alpha c.args.beta c.args.regularised c.requires.kind ea eb er c.send_factor.ensures
