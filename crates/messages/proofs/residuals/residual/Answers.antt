-- `messages::residuals::residual` meets its contract.
use Rattle.std.proofs.Common.{◌≡◌, ◌∙◌, length, arith}
use Rattle.messages.specs.Residual.{residual-long, residual-two}
use Rattle.messages.proofs.residuals.residual.Goals as goal

pub returns-then-m-gt2 : goal.returns-then-m-gt2
returns-then-m-gt2 c = let a = c.args in c.residual_vector.ensures ∙ residual-long a.m.now a.o.now c.if-m-gt2.true

pub returns : goal.returns
returns c =
    let n : length c.args.m.now ≡ 2 = omega (arith, c.requires.in_bounds.0, c.if-m-gt2.false) in
    let m = c.read-now.ensures.entries in
    let o = c.read-old.ensures.entries in
    c.residual_binary.ensures ∙ rw (m.0, m.1, o.0, o.1) (residual-two c.args.m.now c.args.o.now n c.requires.in_bounds.1)
