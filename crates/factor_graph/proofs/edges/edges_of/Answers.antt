-- `edges::edges_of` meets its contract. Assumes nothing.
use Rattle.factor_graph.specs.BuildReader.{readable, read_is}
use native.Mathlib.Omega.{arith}
use Rattle.factor_graph.proofs.edges.edges_of.Goals as goal

pub bounds-words-0 : goal.bounds-words-0
bounds-words-0 c =
    let q = readable c.args.words.now c.args.node c.requires in
    omega (arith, q.inside, q.order, q.room, q.slots, c.well_formed.0)

pub bounds-words-at : goal.bounds-words-at
bounds-words-at c =
    let q = readable c.args.words.now c.args.node c.requires in
    omega (arith, q.inside, q.order, q.room, q.slots, c.well_formed.0)

pub bounds-words-at-2 : goal.bounds-words-at-2
bounds-words-at-2 c =
    let q = readable c.args.words.now c.args.node c.requires in
    omega (arith, q.inside, q.order, q.room, q.slots, c.well_formed.0)

pub slice_bounds-result-count : goal.slice_bounds-result-count
slice_bounds-result-count c =
    let q = readable c.args.words.now c.args.node c.requires in
    omega (arith, q.inside, q.order, q.room, q.slots, c.well_formed.0)

pub slice_bounds-result-start : goal.slice_bounds-result-start
slice_bounds-result-start c =
    let q = readable c.args.words.now c.args.node c.requires in
    omega (arith, q.inside, q.order, q.room, q.slots, c.well_formed.0)

pub slice_bounds-result-end : goal.slice_bounds-result-end
slice_bounds-result-end c =
    let q = readable c.args.words.now c.args.node c.requires in
    q.room

pub returns : goal.returns
returns c = λ labels g r. read_is c.args.words.now c.args.node c.requires labels g r
