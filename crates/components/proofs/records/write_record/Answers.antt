-- `records::write_record` meets its contract.
use Rattle.std.proofs.Common.{◌≡◌, refl, ap, ◌∙◌, List, ℕ, ◌+◌, ◌*◌, arith, length, length-set}
use Rattle.components.specs.ComponentMemory.{memory}
use Rattle.components.specs.ComponentRecord.{looked_up, seen_of}
use Rattle.components.specs.ComponentRecorded.{Recording, labelled, total_of, edged, end_is, label_asks, label-left, list_asks, list_left, list_total, edge_asks, edge-left, edge_count, kind_asks, record_left}
use Rattle.components.proofs.records.write_record.Goals as goal
use Rattle.components.proofs.records.write_record.Goals.{After-write_lists-total, After-number_edges-edges}

-- where the nodes' numbers stand
abbrev place_of : ℕ → ℕ → ℕ → ℕ → ℕ
place_of n e s at = 3 + 3 * n + s + 5 * e + n + e + n + at + 2

-- what stands after the labels, and how many slots the lists then have
labels : (n e s at c : ℕ) (w w₁ : List ℕ) → Recording n e s at c w → w₁ ≡ looked_up w (2 + n) (place_of n e s at) (place_of n e s at + c) c → memory n e s w₁ ≡ labelled n s at c (memory n e s w)
labels n e s at c w w₁ p h = ap (memory n e s) h ∙ label-left n e s at c w p _ _ (omega arith) (omega arith)

total : (c : After-write_lists-total) → let a = c.args in c.write_lists-total.result ≡ total_of a.n a.s a.at a.count (memory a.n a.e a.s a.words.now)
total c =
    let a = c.args in
    list_total a.n a.e a.s a.at a.count a.words.now c.requires _ _ (labels a.n a.e a.s a.at a.count a.words.now c.look_up.new.words c.requires c.look_up.ensures) c.write_lists-total.ensures.value

-- after the edges
total_still : (c : After-number_edges-edges) → let a = c.args in c.write_lists-total.result ≡ total_of a.n a.s a.at a.count (memory a.n a.e a.s a.words.now)
total_still c =
    let a = c.args in
    list_total a.n a.e a.s a.at a.count a.words.now c.requires _ _ (labels a.n a.e a.s a.at a.count a.words.now c.look_up.new.words c.requires c.look_up.ensures) c.write_lists-total.ensures.value

edges :
    (c : After-number_edges-edges) →
    let a = c.args in
    seen_of (memory a.n a.e a.s c.number_edges-edges.new.words) c.number_edges-edges.result ≡ edged a.n a.s a.at a.count (memory a.n a.e a.s a.words.now)
edges c =
    let a = c.args in
    let q₁ = labels a.n a.e a.s a.at a.count a.words.now c.look_up.new.words c.requires c.look_up.ensures in
    let q₂ = list_left a.n a.e a.s a.at a.count a.words.now c.requires _ _ q₁ c.write_lists-total.ensures.words_after in
    edge-left a.n a.e a.s a.at a.count a.words.now c.requires _ _ _ _ q₂ (total_still c) c.number_edges-edges.ensures

length_still : (c : After-number_edges-edges) → length c.number_edges-edges.new.words ≡ length c.args.words.now
length_still c = c.number_edges-edges.auto.words ∙ (c.write_lists-total.auto.words ∙ c.look_up.auto.words)

few : (c : After-number_edges-edges) → let a = c.args in c.number_edges-edges.result ≡ (edged a.n a.s a.at a.count (memory a.n a.e a.s a.words.now)).count
few c = let a = c.args in edge_count a.n a.e a.s a.at a.count a.words.now c.requires _ (length_still c) _ (edges c)

pub overflow_add-first-7 : goal.overflow_add-first-7
overflow_add-first-7 c = let a = c.args in omega (arith, end_is a.n a.e a.s a.at a.count a.words.now c.requires)

pub overflow_add-nodes : goal.overflow_add-nodes
overflow_add-nodes c = let a = c.args in omega (arith, end_is a.n a.e a.s a.at a.count a.words.now c.requires)

pub overflow_add-nodes-2 : goal.overflow_add-nodes-2
overflow_add-nodes-2 c = let a = c.args in omega (arith, end_is a.n a.e a.s a.at a.count a.words.now c.requires)

pub look_up-requires : goal.look_up-requires
look_up-requires c =
    let a = c.args in
    let h = label_asks a.n a.e a.s a.at a.count a.words.now c.requires _ _ (omega arith) (omega arith) in
    record { from_le_to = h.0; n_in_bounds = h.1.0; by_index = h.1.1 }

pub write_lists-total-requires : goal.write_lists-total-requires
write_lists-total-requires c =
    let a = c.args in
    list_asks a.n a.e a.s a.at a.count a.words.now c.requires _ c.look_up.auto.words (labels a.n a.e a.s a.at a.count a.words.now c.look_up.new.words c.requires c.look_up.ensures)

pub overflow_add-slots : goal.overflow_add-slots
overflow_add-slots c = let a = c.args in omega (arith, end_is a.n a.e a.s a.at a.count a.words.now c.requires)

pub overflow_mul-slots : goal.overflow_mul-slots
overflow_mul-slots c = let a = c.args in omega (arith, end_is a.n a.e a.s a.at a.count a.words.now c.requires)

pub overflow_add-slots-2 : goal.overflow_add-slots-2
overflow_add-slots-2 c = let a = c.args in omega (arith, end_is a.n a.e a.s a.at a.count a.words.now c.requires)

pub overflow_add-slots-3 : goal.overflow_add-slots-3
overflow_add-slots-3 c = let a = c.args in omega (arith, end_is a.n a.e a.s a.at a.count a.words.now c.requires, total (goal.at.overflow_add-slots-3 c).After-write_lists-total)

pub number_edges-edges-requires : goal.number_edges-edges-requires
number_edges-edges-requires c =
    let a = c.args in
    let q₁ = labels a.n a.e a.s a.at a.count a.words.now c.look_up.new.words c.requires c.look_up.ensures in
    let q₂ = list_left a.n a.e a.s a.at a.count a.words.now c.requires _ _ q₁ c.write_lists-total.ensures.words_after in
    rw (total (goal.at.number_edges-edges-requires c).After-write_lists-total)
    (edge_asks a.n a.e a.s a.at a.count a.words.now c.requires _ (c.write_lists-total.auto.words ∙ c.look_up.auto.words) q₂)

pub look_up-requires-2 : goal.look_up-requires-2
look_up-requires-2 c =
    let a = c.args in
    let b = (goal.at.look_up-requires-2 c).After-number_edges-edges in
    let h = kind_asks a.n a.e a.s a.at a.count a.words.now c.requires _ (length_still b) _ (edges b) _ (omega arith) in
    record { from_le_to = h.0; n_in_bounds = h.1.0; by_index = h.1.1 }

pub overflow_cast-words : goal.overflow_cast-words
overflow_cast-words c =
    let a = c.args in
    let b = (goal.at.overflow_cast-words c).After-number_edges-edges in
    record { fits = omega (arith, end_is a.n a.e a.s a.at a.count a.words.now c.requires, total_still b, few b) }

pub offset_bounds-words-first : goal.offset_bounds-words-first
offset_bounds-words-first c = let a = c.args in omega (arith, end_is a.n a.e a.s a.at a.count a.words.now c.requires)

pub bounds-words-first : goal.bounds-words-first
bounds-words-first c =
    let a = c.args in
    omega (arith, end_is a.n a.e a.s a.at a.count a.words.now c.requires, c.look_up-2.auto.words, length_still (goal.at.bounds-words-first c).After-number_edges-edges)

pub overflow_cast-words-2 : goal.overflow_cast-words-2
overflow_cast-words-2 c =
    let a = c.args in
    let b = (goal.at.overflow_cast-words-2 c).After-number_edges-edges in
    record { fits = omega (arith, end_is a.n a.e a.s a.at a.count a.words.now c.requires, total_still b, few b) }

pub overflow_add-words : goal.overflow_add-words
overflow_add-words c = let a = c.args in omega (arith, end_is a.n a.e a.s a.at a.count a.words.now c.requires)

pub offset_bounds-words-first-2 : goal.offset_bounds-words-first-2
offset_bounds-words-first-2 c = let a = c.args in omega (arith, end_is a.n a.e a.s a.at a.count a.words.now c.requires)

pub bounds-words-first-2 : goal.bounds-words-first-2
bounds-words-first-2 c =
    let a = c.args in
    rw length-set (omega (arith, end_is a.n a.e a.s a.at a.count a.words.now c.requires, c.look_up-2.auto.words, length_still (goal.at.bounds-words-first-2 c).After-number_edges-edges))

pub overflow_add-result : goal.overflow_add-result
overflow_add-result c =
    let a = c.args in
    omega (arith, end_is a.n a.e a.s a.at a.count a.words.now c.requires, total_still (goal.at.overflow_add-result c).After-number_edges-edges)

pub overflow_mul-result : goal.overflow_mul-result
overflow_mul-result c =
    let a = c.args in
    let b = (goal.at.overflow_mul-result c).After-number_edges-edges in
    omega (arith, end_is a.n a.e a.s a.at a.count a.words.now c.requires, total_still b, few b)

pub overflow_add-result-2 : goal.overflow_add-result-2
overflow_add-result-2 c =
    let a = c.args in
    let b = (goal.at.overflow_add-result-2 c).After-number_edges-edges in
    omega (arith, end_is a.n a.e a.s a.at a.count a.words.now c.requires, total_still b, few b)

pub returns : goal.returns
returns c =
    let a = c.args in
    let b = (goal.at.returns c).After-number_edges-edges in
    rw (total_still b)
    (record_left a.n a.e a.s a.at a.count a.words.now c.requires _ (length_still b) _ (edges b) _ _ _ (omega arith) refl (omega arith) _ c.look_up-2.ensures)
