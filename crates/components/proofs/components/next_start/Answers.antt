-- `components::next_start` meets its contract: what is searched from `from` on is what is searched from i on.
use Rattle.std.proofs.Common.{◌≡◌, refl, sym, ◌∙◌, arith}
use Rattle.components.specs.ComponentMemory.{read_node_number}
use Rattle.components.specs.ComponentStep.{next_found, next-passed, next-end}
use Rattle.components.proofs.components.next_start.Goals as goal

pub returns-then-words-numbers-eq0 : goal.returns-then-words-numbers-eq0
returns-then-words-numbers-eq0 c =
    let a = c.args in
    let s = c.loop-i in
    sym (s.invariant ∙ next_found _ s.i a.n (omega arith) (sym (read_node_number a.n a.e a.s a.words.now _ s.i 0 refl (omega arith)) ∙ c.if-words-numbers-eq0.true))

pub loop-i-preserved : goal.loop-i-preserved
loop-i-preserved c =
    let a = c.args in
    let s = c.loop-i in
    s.invariant ∙ next-passed _ s.i a.n (omega arith) (λ q. c.if-words-numbers-eq0.false (read_node_number a.n a.e a.s a.words.now _ s.i 0 refl (omega arith) ∙ q))

pub returns : goal.returns
returns c =
    let a = c.args in
    let s = c.loop-i in
    let e : a.n ≡ s.i = omega arith in
    e ∙ sym (s.invariant ∙ next-end _ s.i a.n (omega arith))
