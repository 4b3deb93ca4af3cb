-- `zero_lookahead::update::update_tree` meets its contract.
use mathlib.Core.Path.{sym, subst}
use Rattle.definition.specs.Sweeps.{Store}
use Rattle.zero_lookahead.specs.StepStands.{StandsWith}
use Rattle.zero_lookahead.specs.StepTree.{sent_store, tree-halves, tree-node, sent_stands, sent-some, sent_front}
use Rattle.zero_lookahead.proofs.update.update_tree.Goals as goal

pub send_from_tree-anew-requires : goal.send_from_tree-anew-requires
send_from_tree-anew-requires c =
    let a = c.args in
    let T = c.requires.some_tree in
    let S = T.some in
    record { some_node_of = tree-node S.settings S.graph a.out S.evidence S.store a.words.now a.w.now S.stands a.n T.there T.kind }

pub take_around-requires : goal.take_around-requires
take_around-requires c =
    let a = c.args in
    sent-some a.tolerance a.out a.n a.words.now a.w.now c.requires.some_tree c.send_from_tree-anew.result c.send_from_tree-anew.new.w c.mark_built.new.words c.mark_built.ensures c.send_from_tree-anew.ensures

pub returns : goal.returns
returns c =
    let a = c.args in
    let f = sent_front a.tolerance a.out a.n a.words.now a.w.now c.requires.some_tree c.send_from_tree-anew.result c.send_from_tree-anew.new.w c.mark_built.new.words c.mark_built.ensures c.send_from_tree-anew.ensures in record {
      kept_front = f;
      stands_with = λ s t evidence x p q W e.
          subst (λ (y : Store). StandsWith s t a.out evidence y p q c.mark_built.new.words c.take_around.new.w) (sym (tree-halves s t a.n x))
          (c.take_around.ensures s t evidence (sent_store s t a.n x) p q (sent_stands a.tolerance a.out a.n a.words.now a.w.now c.requires.some_tree c.send_from_tree-anew.result c.send_from_tree-anew.new.w c.mark_built.new.words c.mark_built.ensures c.send_from_tree-anew.ensures s t evidence x p q W e));
    }
