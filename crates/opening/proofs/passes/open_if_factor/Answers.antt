-- `opening::passes::open_if_factor` meets its contract.
use Rattle.std.proofs.Common.{◌≡◌, sym, ◌∙◌, get_or}
use Rattle.definition.specs.Sweeps.{opening_factor}
use Rattle.opening.specs.OpenKinds.{factors_node, factor-code, factor-taken}
use Rattle.opening.proofs.passes.open_if_factor.Goals as goal

pub returns : goal.returns
returns c =
    let a = c.args in
    let l = c.requires.1 in
    let m = c.open_factor in
    let k : get_or a.kinds.now a.n 0 ≡ 1 = sym c.word.ensures.0 ∙ c.if-word.false in
    λ s t R F. factor-taken s t a.kinds.now a.firsts.now a.starts.now a.outs.now a.offsets.now a.row.now R a.n l (opening_factor s t) k _
    (m.ensures s t R (factors_node s t a.kinds.now a.firsts.now a.starts.now a.outs.now a.offsets.now a.row.now R a.n l)
    (factor-code s t a.kinds.now a.firsts.now a.starts.now a.outs.now a.offsets.now a.row.now R a.n l k) F)
