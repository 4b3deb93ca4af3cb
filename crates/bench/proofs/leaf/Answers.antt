-- `bench::leaf` meets its contract.
use mathlib.Core.Path.{◌≡◌, sym, ap, ◌∙◌}
use Prim.Native.Nat.{ℕ, suc, ◌-◌}
use native.Mathlib.Omega.{arith}
use lib.Ieee.{Float}
use Rattle.bench.specs.Leaves.{leaf_of}
use Rattle.bench.proofs.leaf.Goals as goal

-- by the number
at : (n m : ℕ) (x r : Float) → n ≡ m → r ≡ leaf_of m x → r ≡ leaf_of n x
at n m x r e h = h ∙ ap (λ (k : ℕ). leaf_of k x) (sym e)

pub returns-then-which-eq0 : goal.returns-then-which-eq0
unfolding leaf_of
returns-then-which-eq0 c = let a = c.args in at a.which 0 a.x c.ln.result c.if-which-eq0.true c.ln.ensures

pub returns-then-which-eq1 : goal.returns-then-which-eq1
unfolding leaf_of
returns-then-which-eq1 c = let a = c.args in at a.which 1 a.x c.exp_leaf.result c.if-which-eq1.true c.exp_leaf.ensures

pub returns-then-which-eq2 : goal.returns-then-which-eq2
unfolding leaf_of
returns-then-which-eq2 c = let a = c.args in at a.which 2 a.x c.log_normalize_leaf.result c.if-which-eq2.true c.log_normalize_leaf.ensures

pub returns : goal.returns
unfolding leaf_of
returns c =
    let a = c.args in
    let m = suc (suc (suc (a.which - 3))) in
    let e : a.which ≡ m = omega arith in
    at a.which m a.x c.powi.result e c.powi.ensures
