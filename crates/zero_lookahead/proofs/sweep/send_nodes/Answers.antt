-- `zero_lookahead::sweep::send_nodes` meets its contract: the first n nodes have sent.
use Rattle.std.proofs.Common.{◌≡◌, ℕ, ◌+◌, ◌*◌, ◌<◌, ◌∙◌, length, get_or, refl, arith}
use Rattle.zero_lookahead.specs.Part.{rows_end}
use Rattle.zero_lookahead.specs.SweepLoop.{swept_none, some-node, node-rows, swept_anew, front_anew, swept_kept}
use Rattle.zero_lookahead.proofs.sweep.send_nodes.Goals as goal
use Rattle.zero_lookahead.proofs.sweep.send_nodes.Goals.{then-send_node, else-send_node}

pub loop-n-init : goal.loop-n-init
loop-n-init c = (refl, λ s t x S g. swept_none S)

pub send_node-requires : goal.send_node-requires
send_node-requires c =
    let p = c.requires.some_standing in
    let Z = c.loop-n.invariant.1 p.settings p.graph p.store p.stands p.given in
    record { some_node = some-node Z (omega (arith, c.loop-n-test.true, c.word-nodes.ensures.0, p.stands.part.nodes)) }

pub loop-n-preserved : goal.loop-n-preserved
loop-n-preserved c =
    let q = c.loop-n in
    let p = c.requires.some_standing in
    let Z = q.invariant.1 p.settings p.graph p.store p.stands p.given in
    let there : (k : ℕ) → get_or c.args.words.now 0 0 ≡ k → q.n < k = λ k z. omega (arith, c.loop-n-test.true, c.word-nodes.ensures.0) in
    let i = c.args.out + (6 * c.word-edges.result + 1) + q.n in
    let at : (d : ℕ) → 2 * get_or c.args.words.now 1 0 ≡ d → 2 * get_or q.words 1 0 ≡ d
    → c.args.out + (6 * c.word-edges.result + 1) + q.n ≡ rows_end q.words c.args.out + q.n = λ d y z. omega (arith, c.word-edges.ensures.0) in
    elim c.if-send_node.branch [
      | then-send_node w ↦
          rw w.words-is (
            front_anew Z (there _ p.stands.part.nodes) i (at _ p.stands.part.edges Z.part.edges) ∙ q.invariant.0,
            (λ s t x S g.
                let Y = q.invariant.1 s t x S g in
                let h = there _ S.part.nodes in
                swept_anew Y h _ i _ w.if-send_node.true (at _ S.part.edges Y.part.edges)
                (c.send_node.ensures s t Y.r_in Y.r_new Y.r_log Y.r_build Y.pending Y.rest (node-rows Y h) g)),
          )
      | else-send_node w ↦
          rw w.words-is (
            q.invariant.0,
            (λ s t x S g.
                let Y = q.invariant.1 s t x S g in
                let h = there _ S.part.nodes in
                swept_kept Y h _ _ w.if-send_node.false (c.send_node.ensures s t Y.r_in Y.r_new Y.r_log Y.r_build Y.pending Y.rest (node-rows Y h) g)),
          )
    ]

pub returns-clause-swept : goal.returns-clause-swept
returns-clause-swept c =
    let q = c.loop-n in
    λ s t x S g.
    let e : q.n ≡ length t.nodes = omega (arith, q.auto.n-end, c.loop-n-test.false, c.word-nodes.ensures.0, S.part.nodes) in
    rw e at (q.invariant.1 s t x S g)
