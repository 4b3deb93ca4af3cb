-- `factor_graph::components::visit_node` meets its contract.
use mathlib.Core.Path.{refl}
use native.Mathlib.Omega.{arith}
use lib.ListN.{length-set}
use Rattle.components.specs.ComponentWalk.{visit-none, meeting_room, visit_stored}
use Rattle.components.proofs.components.visit_node.Goals as goal

pub returns-then-words-i-ne0 : goal.returns-then-words-i-ne0
returns-then-words-i-ne0 c =
    let a = c.args in
    visit-none a.n a.e a.s a.at a.v a.words.now a.met.count a.met.top c.requires _ refl c.if-words-i-ne0.true

pub overflow_cast-words : goal.overflow_cast-words
overflow_cast-words c =
    let a = c.args in
    record { fits = omega (arith, c.requires.small, (meeting_room a.n a.e a.s a.at a.v a.words.now a.met.count a.met.top c.requires _ refl c.if-words-i-ne0.false).0) }

pub bounds-words-stack-2 : goal.bounds-words-stack-2
bounds-words-stack-2 c =
    let a = c.args in
    simp length-set (omega (arith, (meeting_room a.n a.e a.s a.at a.v a.words.now a.met.count a.met.top c.requires _ refl c.if-words-i-ne0.false).2))

pub returns : goal.returns
returns c =
    let a = c.args in
    visit_stored a.n a.e a.s a.at a.v a.words.now a.met.count a.met.top c.requires _ refl c.if-words-i-ne0.false _ _ refl (omega arith)
