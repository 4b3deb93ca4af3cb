-- `zero_lookahead::sweep::sweep` meets its contract.
use native.Mathlib.Omega.{arith}
use lib.ListN.{length}
use Rattle.zero_lookahead.specs.SweepSend.{width-there, width_word}
use Rattle.zero_lookahead.specs.SweepLoop.{swept_room, swept_all}
use Rattle.zero_lookahead.proofs.sweep.sweep.Goals as goal

pub word-l-requires : goal.word-l-requires
word-l-requires c =
    let p = c.requires.some_standing in
    let Z = c.send_nodes.ensures.swept p.settings p.graph p.store p.stands p.given in
    width-there Z.part c.word-edges.result c.word-edges.ensures.0

pub rotate-requires : goal.rotate-requires
rotate-requires c =
    let p = c.requires.some_standing in
    let Z = c.send_nodes.ensures.swept p.settings p.graph p.store p.stands p.given in
    swept_room c.word-l.result Z (width_word Z.part c.word-edges.result c.word-l.result c.word-edges.ensures.0 c.word-l.ensures.0)

pub returns : goal.returns
returns c =
    record {
      kept_front = c.send_nodes.ensures.kept_front;
      stands_for = (λ s t x S g.
          let Z = c.send_nodes.ensures.swept s t x S g in
          swept_all (length t.nodes) c.word-l.result _ Z (omega arith) (width_word Z.part c.word-edges.result c.word-l.result c.word-edges.ensures.0 c.word-l.ensures.0) c.rotate.ensures);
    }
