-- `factor_graph::records::number_edge` meets its contract.
use mathlib.Core.Path.{refl}
use native.Mathlib.Omega.{arith}
use Rattle.components.specs.ComponentEdges.{number-none, number_room, edge_asks, number-left}
use Rattle.components.proofs.records.number_edge.Goals as goal

pub returns-then-words-i-ne0 : goal.returns-then-words-i-ne0
returns-then-words-i-ne0 c =
    let a = c.args in
    number-none a.n a.e a.s a.to a.k a.count a.words.now c.requires _ refl c.if-words-i-ne0.true

pub overflow_add-words : goal.overflow_add-words
overflow_add-words c =
    let a = c.args in
    let r = number_room a.n a.e a.s a.to a.k a.count a.words.now c.requires _ refl c.if-words-i-ne0.false in
    omega (arith, r)

pub overflow_cast-words : goal.overflow_cast-words
overflow_cast-words c =
    let a = c.args in
    let r = number_room a.n a.e a.s a.to a.k a.count a.words.now c.requires _ refl c.if-words-i-ne0.false in
    record { fits = omega (arith, r) }

pub overflow_mul-count : goal.overflow_mul-count
overflow_mul-count c =
    let a = c.args in
    let r = number_room a.n a.e a.s a.to a.k a.count a.words.now c.requires _ refl c.if-words-i-ne0.false in
    omega (arith, r)

pub overflow_add-to : goal.overflow_add-to
overflow_add-to c =
    let a = c.args in
    let r = number_room a.n a.e a.s a.to a.k a.count a.words.now c.requires _ refl c.if-words-i-ne0.false in
    omega (arith, r)

pub write_edge-requires : goal.write_edge-requires
write_edge-requires c =
    let a = c.args in
    edge_asks a.n a.e a.s a.to a.k a.count a.words.now c.requires _ refl c.if-words-i-ne0.false

pub overflow_add-result : goal.overflow_add-result
overflow_add-result c =
    let a = c.args in
    let r = number_room a.n a.e a.s a.to a.k a.count a.words.now c.requires _ refl c.if-words-i-ne0.false in
    omega (arith, r)

pub returns : goal.returns
returns c =
    let a = c.args in
    number-left a.n a.e a.s a.to a.k a.count a.words.now c.requires _ refl c.if-words-i-ne0.false _ c.write_edge.ensures
