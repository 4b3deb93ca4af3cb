-- `zero_lookahead::update::update_message` meets its contract.
use native.Mathlib.Omega.{arith}
use mathlib.Core.Path.{refl, ap}
use Rattle.definition.specs.Settings as definition
use Rattle.zero_lookahead.specs.StepMessage.{start_word, start-there, updated_tree, updated_single, standing_part, standing_tree, standing_single}
use Rattle.zero_lookahead.specs.StepReads.{end-there}
use Rattle.zero_lookahead.proofs.update.update_message.Goals as goal

pub word-requires : goal.word-requires
word-requires c =
    let a = c.args in
    let S = c.requires.some_standing.0 in
    start_word S.settings S.graph a.out a.evidence.now S.store a.words.now a.w.now S.stands a.d c.start_at-n.result c.requires.some_standing.1 c.start_at-n.ensures.0

pub update_tree-requires : goal.update_tree-requires
update_tree-requires c =
    let a = c.args in
    record { some_tree = standing_tree a.settings a.out a.evidence.now a.words.now a.w.now c.requires.some_standing.0 a.d c.start_at-n.result c.word.result c.requires.some_standing.1 c.start_at-n.ensures.0 c.word.ensures.0 c.if-word.true }

pub returns-then-word : goal.returns-then-word
returns-then-word c =
    let a = c.args in
    let S = c.requires.some_standing.0 in
    let n = c.start_at-n in
    let k = c.word in
    let z = c.update_tree in
    let i = start-there S.settings S.graph a.out a.evidence.now S.store a.words.now a.w.now S.stands a.d n.result c.requires.some_standing.1 n.ensures.0 in record {
      kept_front = (z.ensures.kept_front, omega (arith, i));
      updated = λ s t x p q W G.
          updated_tree s t a.out a.evidence.now x a.words.now a.w.now W.stands a.d n.result c.requires.some_standing.1 n.ensures.0 p q z.new.words z.new.w k.result k.ensures.0 c.if-word.true
          (z.ensures.stands_with s t a.evidence.now x p q W (ap (λ (y : definition.Settings). y.tolerance) G));
    }

pub send_single-requires : goal.send_single-requires
send_single-requires c =
    let a = c.args in
    record { some_standing = (c.requires.some_standing.0, standing_single a.settings a.out a.evidence.now a.words.now a.w.now c.requires.some_standing.0 a.d c.start_at-n.result c.word.result c.requires.some_standing.1 c.start_at-n.ensures.0 c.word.ensures.0 c.if-word.false) }

pub returns : goal.returns
returns c =
    let a = c.args in
    let n = c.start_at-n in
    let e = c.end_at-end in
    let k = c.word in
    let z = c.send_single in
    let i = end-there a.out a.words.now (standing_part a.settings a.out a.evidence.now a.words.now a.w.now c.requires.some_standing.0) a.d c.requires.some_standing.1 in record {
      kept_front = (refl, omega (arith, i, e.ensures.0));
      updated = λ s t x p q W G.
          updated_single s t a.out a.evidence.now x a.words.now a.w.now W.stands a.d n.result c.requires.some_standing.1 n.ensures.0 p q a.words.now z.new.w k.result e.result k.ensures.0 c.if-word.false e.ensures.0
          (z.ensures s t x p q W G);
    }
