-- `priorities::first_largest` meets its contract: a descent from the root.
use native.Mathlib.Omega.{arith}
use Rattle.priorities.specs.Descent.{descent_left, descent_right, descent_end}
use Rattle.priorities.proofs.first_largest.Goals as goal

pub loop-k-preserved-then-words-k : goal.loop-k-preserved-then-words-k
loop-k-preserved-then-words-k c = (
  omega arith,
  omega arith,
  descent_right c.args.words.now c.args.w c.loop-k.k c.requires.tree c.loop-k.invariant.0 (omega arith) c.if-words-k.true c.loop-k.invariant.2,
)

pub loop-k-preserved : goal.loop-k-preserved
loop-k-preserved c = (
  omega arith,
  omega arith,
  descent_left c.args.words.now c.args.w c.loop-k.k c.requires.tree c.loop-k.invariant.0 (omega arith) c.if-words-k.false c.loop-k.invariant.2,
)

pub returns : goal.returns
returns c =
    descent_end c.args.words.now c.args.w c.loop-k.k c.loop-k.invariant.1 c.loop-k-test.false c.loop-k.invariant.2
