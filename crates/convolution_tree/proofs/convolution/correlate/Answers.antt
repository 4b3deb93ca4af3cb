-- `convolution_tree::correlate` meets its contract: after j turns the first j rows are added.
use Rattle.std.proofs.Common.{◌≡◌, ap, ◌∙◌, ℕ, ◌+◌, ◌-◌, arith, length, get_or, take, drop}
use Rattle.std.specs.Float.{nan}
use Rattle.graph_laws.specs.Convolution.{add_products}
use Rattle.convolution_tree.specs.Correlation.{correlation-none, correlation-turn}
use Rattle.convolution_tree.proofs.convolution.correlate.Goals as goal

pub loop-j-init : goal.loop-j-init
loop-j-init c =
    let a = c.args in
    correlation-none (length a.out.now) a.b.now a.l.now a.out.now c.requires.0

pub loop-j-preserved : goal.loop-j-preserved
loop-j-preserved c =
    let s = c.loop-j in
    let a = c.args in
    let r = c.min.result in
    let e : s.j + r - s.j ≡ r = omega arith in
    correlation-turn (length a.out.now) s.j r a.b.now a.l.now s.out c.add_products.new.out (omega arith) c.requires.1 (omega arith) s.invariant
    (c.add_products.ensures ∙ ap (λ (n : ℕ). add_products 0 (get_or a.b.now s.j nan) (take n (drop s.j a.l.now)) s.out) e)
