-- `messages::directions::fill_directions` meets its contract.
-- Whatever graph the record is of: after n turns its rows are filled up to the first direction of node n.
use Rattle.std.proofs.Common.{List, ℕ, ◌+◌, ◌*◌, ◌∙◌, get_or, set, sym, ap, subst, arith}
use Rattle.messages.specs.LayoutOrder.{in_order}
use Rattle.messages.specs.Directions.{Filled}
use Rattle.messages.specs.DirectionsSteps.{node-from, node-held, node-to, ready_behind, ready_room, ready_few, ready_nodes, ready_edges, ready_filled, ready_all}
use Rattle.messages.proofs.directions.fill_directions.Goals as goal

pub bounds-words-out : goal.bounds-words-out
bounds-words-out c =
    let a = c.args in
    omega (arith, c.word-edges.ensures.0, ready_behind a.words.now a.at a.out c.requires, ready_room a.words.now a.at a.out c.requires)

pub loop-n-init : goal.loop-n-init
loop-n-init c =
    let a = c.args in
    let w₀ : ℕ → List ℕ = λ k. set a.words.now (a.out + 4 * k) 0 in
    let q = c.word-edges.ensures.0 in (
      c.word-nodes.ensures.0 ∙ sym (ap (λ (k : ℕ). get_or (w₀ k) a.at 0) q ∙ ready_nodes a.words.now a.at a.out c.requires),
      q ∙ sym (ap (λ (k : ℕ). get_or (w₀ k) (a.at + 1) 0) q ∙ ready_edges a.words.now a.at a.out c.requires),
      (λ base labels g F. subst (λ (k : ℕ). Filled base a.at a.out labels g k (w₀ c.word-edges.result)) (sym (in_order g).from_zero) F),
    )

pub fill_node-requires : goal.fill_node-requires
fill_node-requires c =
    let a = c.args in
    let y = c.requires in
    let b = c.loop-n in
    let q = c.word-edges.ensures.0 in
    let e = c.word-edges.result in
    let F : Filled a.words.now a.at a.out y.labels y.graph 0 (set a.words.now (a.out + 4 * e) 0) =
    subst (λ (k : ℕ). Filled a.words.now a.at a.out y.labels y.graph 0 (set a.words.now (a.out + 4 * k) 0)) (sym q)
    (ready_filled a.words.now a.at a.out c.requires y.labels y.graph y.recorded) in (
      c.loop-n-test.true,
      node-held a.words.now a.at a.out y.labels y.graph (set a.words.now (a.out + 4 * e) 0) F c.word-nodes.result e b.invariant.0 b.invariant.1 b.n
          c.loop-n-test.true b.words
          (b.invariant.2 a.words.now y.labels y.graph F) y.narrow (omega (arith, q, ready_few a.words.now a.at a.out c.requires)),
    )

pub loop-n-preserved : goal.loop-n-preserved
loop-n-preserved c =
    let a = c.args in
    let b = c.loop-n in
    let w₀ = set a.words.now (a.out + 4 * c.word-edges.result) 0 in
    let nodes = c.word-nodes.result in
    let edges = c.word-edges.result in (
      b.invariant.0,
      b.invariant.1,
      (λ base labels g F.
          let G = b.invariant.2 base labels g F in
          node-to base a.at a.out labels g w₀ F nodes edges b.invariant.0 b.invariant.1 b.n c.loop-n-test.true b.words G _
          (c.fill_node.ensures base labels g
          (node-from base a.at a.out labels g w₀ F nodes edges b.invariant.0 b.invariant.1 b.n c.loop-n-test.true b.words G))),
    )

pub returns : goal.returns
returns c =
    let a = c.args in
    let b = c.loop-n in
    λ labels g R.
    let F : Filled a.words.now a.at a.out labels g 0 (set a.words.now (a.out + 4 * c.word-edges.result) 0) =
    subst (λ (k : ℕ). Filled a.words.now a.at a.out labels g 0 (set a.words.now (a.out + 4 * k) 0)) (sym c.word-edges.ensures.0)
    (ready_filled a.words.now a.at a.out c.requires labels g R) in
    ready_all a.words.now a.at a.out c.requires labels g R b.words b.n (omega (arith, b.auto.n-end, c.loop-n-test.false, c.word-nodes.ensures.0))
    (b.invariant.2 a.words.now labels g F)
