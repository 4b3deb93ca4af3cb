-- `answer::answer_bale` meets its contract.
use Rattle.std.proofs.lemmas.Result.{err_from_is_err_and}
use Rattle.bale_answer.specs.Cases.{refused_result}
use Rattle.bale_answer.specs.Good.{refused_file, refused_base, refused_size, small_file}
use Rattle.bale_answer.proofs.answer.answer_bale.Goals as goal

pub returns-in_err-check_file : goal.returns-in_err-check_file
returns-in_err-check_file c bs t =
    let p = err_from_is_err_and c.from_residual.result c.from_residual.ensures.1 in
    rw (p.1, p.2) (refused_result bs _ _ (refused_file bs _ _ _ t _ _ c.in_err-check_file.ensures) _)

pub returns-in_err-check_base : goal.returns-in_err-check_base
returns-in_err-check_base c bs t =
    let p = err_from_is_err_and c.from_residual-in_err-check_base.result c.from_residual-in_err-check_base.ensures.1 in
    rw (p.1, p.2) (refused_result bs _ _ (refused_base bs _ _ _ t c.in_ok-check_file.ensures _ _ c.in_err-check_base.ensures) _)

pub returns-in_err-check_size : goal.returns-in_err-check_size
returns-in_err-check_size c bs t =
    let p = err_from_is_err_and c.from_residual-in_err-check_size.result c.from_residual-in_err-check_size.ensures.1 in
    rw (p.1, p.2) (refused_result bs _ _ (refused_size bs _ _ _ t c.in_ok-check_file.ensures c.in_ok-check_base.ensures _ _ c.in_err-check_size.ensures) _)

pub answer_good-requires-clause-some_small : goal.answer_good-requires-clause-some_small
answer_good-requires-clause-some_small c =
    let x = c.requires.some_taken in
    record { bytes = x.bytes; small = small_file x.bytes _ _ _ x.taken c.in_ok-check_file.ensures c.in_ok-check_base.ensures c.in_ok-check_size.ensures }

pub returns-in_err-counts : goal.returns-in_err-counts
returns-in_err-counts c bs t =
    let small = small_file bs _ _ _ t c.in_ok-check_file.ensures c.in_ok-check_base.ensures c.in_ok-check_size.ensures in
    let p = err_from_is_err_and c.from_residual-in_err-counts.result c.from_residual-in_err-counts.ensures.1 in
    rw (p.1, p.2) (c.in_err-counts.ensures bs small)

pub returns : goal.returns
returns c bs t = c.in_ok-counts.ensures bs (small_file bs _ _ _ t c.in_ok-check_file.ensures c.in_ok-check_base.ensures c.in_ok-check_size.ensures)
