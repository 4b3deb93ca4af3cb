-- `priorities::fill` meets its contract: what is left to fill makes the whole.
use Rattle.std.proofs.Common.{◌∙◌, ◌-◌, arith}
use Rattle.priorities.specs.Tournament.{fill_next, filled}
use Rattle.priorities.proofs.fill.Goals as goal

pub loop-j-preserved : goal.loop-j-preserved
loop-j-preserved c =
    let s = c.loop-j in
    (omega arith, fill_next (s.j - 1) s.words c.larger_child.result (omega arith) c.larger_child.ensures ∙ s.invariant.1)

pub returns : goal.returns
returns c =
    let s = c.loop-j in
    filled c.args.w c.args.words.now s.words s.j c.requires.0 c.requires.1 c.loop-j-test.false s.invariant.1
