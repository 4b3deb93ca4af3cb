-- `records::write_edge` meets its contract.
use Rattle.std.proofs.Common.{refl, ◌+◌, ◌*◌, arith, get_or}
use Rattle.components.specs.ComponentEdges.{end-node, end_is, end-number, edge_stored}
use Rattle.components.proofs.records.write_edge.Goals as goal

pub bounds-words-numbers : goal.bounds-words-numbers
bounds-words-numbers c =
    let a = c.args in
    let i = 3 + 3 * a.n + a.s + 5 * a.k in
    omega (arith, end-node a.n a.e a.s a.to a.k a.words.now c.requires i (get_or a.words.now i 0) 0 (omega arith) (omega arith) refl, c.requires.room)

pub bounds-words-numbers-2 : goal.bounds-words-numbers-2
bounds-words-numbers-2 c =
    let a = c.args in
    omega (arith, end-node a.n a.e a.s a.to a.k a.words.now c.requires _ _ 1 refl (omega arith) refl, c.requires.room)

pub returns : goal.returns
returns c =
    let a = c.args in
    edge_stored a.n a.e a.s a.to a.k a.words.now c.requires _ _ _ _ _ _ refl
    (end-number a.n a.e a.s a.to a.k a.words.now c.requires _ _ 0 _ _ (omega arith) (omega arith) refl refl c.saturating_sub-node1.ensures)
    (end-number a.n a.e a.s a.to a.k a.words.now c.requires _ _ 1 _ _ refl (omega arith) refl refl c.saturating_sub-node2.ensures)
    (end_is a.n a.e a.s a.to a.k a.words.now c.requires _ 2 refl (omega arith))
    (end_is a.n a.e a.s a.to a.k a.words.now c.requires _ 3 refl (omega arith))
    (end_is a.n a.e a.s a.to a.k a.words.now c.requires _ 4 refl (omega arith))
