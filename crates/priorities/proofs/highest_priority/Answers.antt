-- `priorities::highest_priority` meets its contract: the root says whether anything waits and with which amount, the descent where.
use Rattle.std.proofs.Common.{◌≤◌, get_or, arith}
use Rattle.priorities.specs.Keys.{Amounts}
use Rattle.priorities.specs.Tournament.{Tree, holds_tree, holds_amounts}
use Rattle.priorities.specs.Answer.{answer-empty, answer_at_lem}
use Rattle.priorities.proofs.highest_priority.Goals as goal
use Rattle.priorities.proofs.highest_priority.Goals.{Start}

tree : (c : Start) → Tree c.args.words.now c.args.w
tree c = holds_tree c.args.w c.requires.queue.keys c.args.words.now c.requires.queue.holds

bound : (c : Start) → Amounts c.args.words.now
bound c = holds_amounts c.args.w c.requires.queue.keys c.args.words.now c.requires.queue.holds c.requires.queue.amounts

pub bounds-words-1 : goal.bounds-words-1
bounds-words-1 c = let t = tree (goal.at.bounds-words-1 c).Start in omega (arith, t.size, t.wide)

pub returns-then-key-eq0 : goal.returns-then-key-eq0
returns-then-key-eq0 c = λ keys H. answer-empty c.args.w keys c.args.words.now H c.requires.queue.full c.if-key-eq0.true

pub first_largest-leaf-requires-clause-tree : goal.first_largest-leaf-requires-clause-tree
first_largest-leaf-requires-clause-tree c = tree (goal.at.first_largest-leaf-requires-clause-tree c).Start

pub amount_of-requires : goal.amount_of-requires
amount_of-requires c = (omega (arith, c.if-key-eq0.false), bound (goal.at.amount_of-requires c).Start 1)

pub returns : goal.returns
returns c =
    let l : 1 ≤ get_or c.args.words.now 1 0 = omega (arith, c.if-key-eq0.false) in
    λ keys H.
    answer_at_lem c.args.w keys c.args.words.now H c.requires.queue.full c.first_largest-leaf.result c.amount_of.result (bound (goal.at.returns c).Start) l
    c.first_largest-leaf.ensures c.amount_of.ensures
