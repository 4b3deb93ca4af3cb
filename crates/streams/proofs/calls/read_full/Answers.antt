-- `streams::calls::read_full` meets its contract: behind the first bytes stand those that a read more gave.
use Rattle.std.proofs.Common.{◌≡◌, ℕ, ◌+◌, ◌-◌, ◌≤◌, List, [], ◌++◌, arith, length, take, drop, sym, ap, ◌∙◌, subst, append-nil, length-drop, drop_at, drop_of_length-le, length-take, length-take-le, take-add}
use borrow.Author.Rules.{part_to_end}
use borrow.Rule.Slice.PartMut.{put_mid, post_of, same_len_mid, take_put}
use Rattle.std.specs.Io.KnownBytes.{Consumes}
use Rattle.streams.specs.Calls.{counted}
use Rattle.streams.specs.Input.{consumes-then}
use Rattle.streams.proofs.calls.read_full.Goals as goal

-- the buffer from its place a on was lent, and is `new` then
module _ (a : ℕ) (old new : List ℕ) (within : a ≤ length old) where
  abbrev lent : List ℕ
  lent = put_mid a (length old - a) old new

  behind : drop a lent ≡ new
  behind =
      let none : post_of a (length old - a) old ≡ [] = drop_of_length-le (drop a old) (omega (arith, length-drop a old)) in
      drop_at (take a old) (new ++ post_of a (length old - a) old) a (length-take-le a old within) ∙ ap (λ l. new ++ l) none ∙ append-nil new

  all_behind : take (length lent - a) (drop a lent) ≡ new
  all_behind = part_to_end lent a ∙ behind

  more : (n : ℕ) → take (a + n) lent ≡ take a old ++ take n new
  more n = take-add a n lent ∙ ap (λ l. l ++ take n (drop a lent)) (take_put a (length old - a) old new within) ∙ ap (λ l. take a old ++ take n l) behind

pub loop-done-preserved : goal.loop-done-preserved
loop-done-preserved g c =
    let a = c.loop-done.done in
    let old = c.loop-done.buffer in
    let new = c.read_some-got.new.buffer in
    let (within, long, came) = c.loop-done.invariant in
    let l = all_behind a old new within in
    let n = subst (λ (b : List ℕ). c.count-n.result ≡ counted c.read_some-got.result (length b)) l c.count-n.ensures.value in
    let few : c.count-n.result ≤ length new = subst (λ (b : List ℕ). c.count-n.result ≤ length b) l c.count-n.ensures.within in
    let same = same_len_mid a (length old - a) old new c.read_some-got.auto.buffer in
    let given = ap (λ (k : ℕ). take a old ++ take k new) (sym n) ∙ sym (more a old new within c.count-n.result) in (
      omega (arith, same, few, c.read_some-got.auto.buffer, length-drop a old, length-take (length old - a) (drop a old)),
      same ∙ long,
      subst (Consumes _ _) given (consumes-then _ _ _ (take a old) _ came c.read_some-got.ensures.bytes.0),
    )
