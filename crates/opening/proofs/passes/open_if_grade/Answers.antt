-- `opening::passes::open_if_grade` meets its contract.
use Rattle.std.proofs.Common.{◌≡◌, sym, ◌∙◌, get_or}
use Rattle.definition.specs.Sweeps.{opening_grade}
use Rattle.opening.specs.OpenKinds.{grades-node, grades_send, grade-code, grade-taken}
use Rattle.opening.proofs.passes.open_if_grade.Goals as goal

pub returns : goal.returns
returns c =
    let a = c.args in
    let l = c.requires.some_grades_rows.1 in
    let m = c.open_grade in
    let k : get_or a.kinds.now a.n 0 ≡ 0 = sym c.word.ensures.0 ∙ c.if-word.false in
    λ s t R e. grade-taken s t a.kinds.now a.firsts.now a.outs.now a.offsets.now a.row.now R a.n l (opening_grade s) k _
    (m.ensures s t (grades_send s t a.kinds.now a.firsts.now a.outs.now a.offsets.now a.row.now R a.n l)
    (grades-node s t a.kinds.now a.firsts.now a.outs.now a.offsets.now a.row.now R a.n l)
    (grade-code s t a.kinds.now a.firsts.now a.outs.now a.offsets.now a.row.now R a.n l k) e)
