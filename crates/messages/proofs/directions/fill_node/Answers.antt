-- `messages::directions::fill_node` meets its contract. Whatever graph the record is of: after each turn its rows are filled up to direction d.
use Rattle.std.proofs.Common.{◌≡◌, ℕ, ◌+◌, ◌<◌, ◌∙◌, length, sym, subst, arith}
use Rattle.messages.specs.Directions.{Filled}
use Rattle.messages.specs.DirectionsRecord.{firsts_place}
use Rattle.messages.specs.DirectionsSteps.{turn-behind, turn_room, turn_mono, turn-fits, turn-next}
use Rattle.messages.proofs.directions.fill_node.Goals as goal
use Rattle.messages.proofs.directions.fill_node.Goals.{Start}

-- the words of node n's first direction and of the next node's
in_record : (c : Start) → firsts_place c.args.at c.args.nodes + c.args.n + 1 < length c.args.words.now
in_record c =
    let a = c.args in
    let h = c.requires.1 in
    let behind = turn-behind h.base a.at a.out h.labels h.graph _ a.words.now h.filled a.nodes a.edges h.nodes_are h.edges_are in
    let room = turn_room h.base a.at a.out h.labels h.graph _ a.words.now h.filled a.nodes a.edges h.nodes_are h.edges_are in
    omega (arith, c.requires.0, behind, room)

pub word-d-requires : goal.word-d-requires
word-d-requires c = omega (arith, in_record (goal.at.word-d-requires c).Start)

pub word-d-end-requires : goal.word-d-end-requires
word-d-end-requires c = omega (arith, in_record (goal.at.word-d-end-requires c).Start)

pub fill_direction-requires : goal.fill_direction-requires
fill_direction-requires c =
    let a = c.args in
    let h = c.requires.1 in
    let b = c.loop-d in
    let F : Filled h.base a.at a.out h.labels h.graph c.word-d.result a.words.now =
    subst (λ (k : ℕ). Filled h.base a.at a.out h.labels h.graph k a.words.now) (sym c.word-d.ensures.0) h.filled in
    turn-fits h.base a.at a.out h.labels h.graph c.word-d.result a.words.now F a.nodes a.edges h.nodes_are h.edges_are b.d b.words
    (b.invariant h.base h.labels h.graph F) a.n c.requires.0
    (omega (arith, c.word-d.ensures.0, b.auto.d)) (omega (arith, c.word-d-end.ensures.0, c.loop-d-test.true)) h.narrow h.few

pub loop-d-preserved : goal.loop-d-preserved
loop-d-preserved c =
    let a = c.args in
    let h = c.requires.1 in
    let b = c.loop-d in
    λ base labels g F.
    turn-next base a.at a.out labels g c.word-d.result a.words.now F a.nodes a.edges h.nodes_are h.edges_are b.d b.words (b.invariant base labels g F) a.n
    c.requires.0
    (omega (arith, c.word-d.ensures.0, b.auto.d)) (omega (arith, c.word-d-end.ensures.0, c.loop-d-test.true)) _ c.fill_direction.ensures

pub returns : goal.returns
returns c =
    let a = c.args in
    let h = c.requires.1 in
    let b = c.loop-d in
    let mono = turn_mono h.base a.at a.out h.labels h.graph _ a.words.now h.filled a.nodes a.edges h.nodes_are h.edges_are a.n c.requires.0 in
    let q : b.d ≡ c.word-d-end.result = omega (arith, mono, c.word-d.ensures.0, c.word-d-end.ensures.0, b.auto.d-end, c.loop-d-test.false) in
    λ base labels g F.
    subst (λ (k : ℕ). Filled base a.at a.out labels g k b.words) (q ∙ c.word-d-end.ensures.0)
    (b.invariant base labels g (subst (λ (k : ℕ). Filled base a.at a.out labels g k a.words.now) (sym c.word-d.ensures.0) F))
