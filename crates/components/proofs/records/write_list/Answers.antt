-- `records::write_list` meets its contract.
use Rattle.std.proofs.Common.{◌≡◌, refl, ap, ◌∙◌, ℕ, ◌+◌, ◌-◌, ◌*◌, arith, length, get_or, length-set}
use Rattle.list_laws.specs.Write.{write-none, write-next, kept-below}
use Rattle.components.specs.ComponentMemory.{memory}
use Rattle.components.specs.ComponentLists.{one-node, one_order, one-degree, one_room, one_left}
use Rattle.components.proofs.records.write_list.Goals as goal

-- where the node stands among those met
abbrev place_of : (n e s at i : ℕ) → ℕ
place_of n e s at i = 3 + 3 * n + s + 5 * e + n + e + n + at + 2 + i

pub first_slot-first-requires : goal.first_slot-first-requires
first_slot-first-requires c =
    let a = c.args in
    let k = place_of a.n a.e a.s a.at a.i in
    omega (arith, one-node a.n a.e a.s a.at a.count a.i a.total a.words.now c.requires k (get_or a.words.now k 0) _ _ (omega arith) refl refl refl, c.requires.fits)

pub first_slot-requires : goal.first_slot-requires
first_slot-requires c =
    let a = c.args in
    let k = place_of a.n a.e a.s a.at a.i in
    omega (arith, one-node a.n a.e a.s a.at a.count a.i a.total a.words.now c.requires k (get_or a.words.now k 0) _ _ (omega arith) refl refl refl, c.requires.fits)

pub overflow_sub-degree : goal.overflow_sub-degree
overflow_sub-degree c =
    let a = c.args in
    let k = place_of a.n a.e a.s a.at a.i in
    omega (arith, one_order a.n a.e a.s a.at a.count a.i a.total a.words.now c.requires k (get_or a.words.now k 0) _ _ (omega arith) refl c.first_slot-first.ensures c.first_slot.ensures)

pub loop-j-init : goal.loop-j-init
loop-j-init c = write-none _ _ _

pub bounds-words-from : goal.bounds-words-from
bounds-words-from c =
    let a = c.args in
    let k = place_of a.n a.e a.s a.at a.i in
    let r = one_order a.n a.e a.s a.at a.count a.i a.total a.words.now c.requires k (get_or a.words.now k 0) _ _ (omega arith) refl c.first_slot-first.ensures c.first_slot.ensures in
    let l : length c.loop-j.words ≡ length a.words.now = c.loop-j.auto.words ∙ length-set a.words.now _ a.total in
    omega (arith, r, c.requires.fits)

pub bounds-words-to : goal.bounds-words-to
bounds-words-to c =
    let a = c.args in
    let k = place_of a.n a.e a.s a.at a.i in
    let q = one_room a.n a.e a.s a.at a.count a.i a.total a.words.now c.requires k (get_or a.words.now k 0) _ _ (omega arith) refl c.first_slot-first.ensures c.first_slot.ensures in
    let l : length c.loop-j.words ≡ length a.words.now = c.loop-j.auto.words ∙ length-set a.words.now _ a.total in
    omega (arith, q)

pub loop-j-preserved : goal.loop-j-preserved
loop-j-preserved c =
    let a = c.args in
    let s = c.loop-j in
    let k = place_of a.n a.e a.s a.at a.i in
    let r = one_order a.n a.e a.s a.at a.count a.i a.total a.words.now c.requires k (get_or a.words.now k 0) _ _ (omega arith) refl c.first_slot-first.ensures c.first_slot.ensures in
    write-next _ _ _ _ _ _ s.invariant (kept-below _ _ _ _ _ _ 0 s.invariant (omega (arith, r, c.requires.fits)))

pub returns-clause-words_after : goal.returns-clause-words_after
returns-clause-words_after c =
    let a = c.args in
    let s = c.loop-j in
    let k = place_of a.n a.e a.s a.at a.i in
    let n = c.first_slot.result - c.first_slot-first.result in
    let e : s.j ≡ n = omega arith in
    ap (memory a.n a.e a.s) (rw e at s.invariant)
    ∙ one_left a.n a.e a.s a.at a.count a.i a.total a.words.now c.requires k (get_or a.words.now k 0) _ _ (omega arith) refl c.first_slot-first.ensures c.first_slot.ensures _ _ _ (omega arith) (omega arith) refl

pub returns-clause-value : goal.returns-clause-value
returns-clause-value c =
    let a = c.args in
    let k = place_of a.n a.e a.s a.at a.i in
    ap (λ (z : ℕ). a.total + z) (one-degree a.n a.e a.s a.at a.count a.i a.total a.words.now c.requires k (get_or a.words.now k 0) _ _ (omega arith) refl c.first_slot-first.ensures c.first_slot.ensures)
