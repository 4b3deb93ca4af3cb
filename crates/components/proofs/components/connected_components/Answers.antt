-- `components::connected_components` meets its contract.
use borrow.Rule.Slice.PartMut.{put_mid}
use Rattle.std.proofs.Common.{◌≡◌, refl, ap, ◌∙◌, List, ℕ, ◌+◌, ◌-◌, ◌*◌, ◌≤◌, arith, length, take, drop, replicate}
use Rattle.list_laws.specs.Write.{length-write}
use Rattle.components.specs.ComponentFilled.{filled}
use Rattle.components.specs.ComponentMemory.{memory, out_at}
use Rattle.components.specs.ComponentAll.{all_from}
use Rattle.components.specs.ComponentReady.{cleared, find_asks, all_done}
use Rattle.components.proofs.components.connected_components.Goals as goal

-- the scratch, filled with 0
scratch :
    (n e s : ℕ) (w y : List ℕ) →
    let at = 3 + 3 * n + s + 5 * e in
    let k = at + n + e + n - at in
    out_at n e s ≤ length w → y ≡ replicate (length (take k (drop at w))) 0 → put_mid at k w y ≡ cleared n e s w
scratch n e s w y fits q =
    let at = 3 + 3 * n + s + 5 * e in
    filled w y at (at + n + e + n - at) (n + e + n) (omega arith) (omega arith) q

pub find_components-found-requires : goal.find_components-found-requires
find_components-found-requires c =
    let a = c.args in
    let r = c.requires.ready in
    rw (scratch a.n a.e a.s a.words.now c.fill.new.self (omega arith) (c.fill.ensures.after (λ y q. q))) (find_asks c.requires.bale a.n a.e a.s a.words.now r)

pub overflow_add-result : goal.overflow_add-result
overflow_add-result c =
    let a = c.args in
    let f = c.find_components-found in
    let p = c.requires.ready in
    let first = scratch a.n a.e a.s a.words.now c.fill.new.self (omega arith) (c.fill.ensures.after (λ y q. q)) in
    let r = all_done c.requires.bale a.n a.e a.s a.words.now p f.new.words (f.auto.words ∙ ap length first) _ _ (f.ensures ∙ ap (λ (x : List ℕ). all_from a.n a.s a.n 0 0 0 (memory a.n a.e a.s x)) first) _ _ refl refl in
    omega (arith, r.end, p.room)

pub returns : goal.returns
returns c =
    let a = c.args in
    let f = c.find_components-found in
    let p = c.requires.ready in
    let first = scratch a.n a.e a.s a.words.now c.fill.new.self (omega arith) (c.fill.ensures.after (λ y q. q)) in
    let long : length f.new.words ≡ length a.words.now = f.auto.words ∙ ap length first ∙ length-write a.words.now _ _ (λ k. 0) in
    let second = scratch a.n a.e a.s f.new.words c.fill-2.new.self (omega arith) (c.fill-2.ensures.after (λ y q. q)) in
    λ b r. all_done b a.n a.e a.s a.words.now r f.new.words (f.auto.words ∙ ap length first) _ _ (f.ensures ∙ ap (λ (x : List ℕ). all_from a.n a.s a.n 0 0 0 (memory a.n a.e a.s x)) first) _ _ second refl
