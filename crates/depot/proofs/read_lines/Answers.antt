-- `depot::read_lines` meets its contract: behind the bytes that came stand those that a read more gave.
use Rattle.std.specs.Prelude.{◌≡◌, ℕ, ◌+◌, ◌-◌, ◌≤◌, List, [], ◌++◌, length, take, drop}
use Rattle.std.proofs.Common.{arith, sym, ap, subst, ◌∙◌, drop_at, take_at, length-take-le}
use borrow.Rule.Slice.PartMut.{put_mid, post_of, take_put, mid_len, same_len_mid}
use Rattle.streams.specs.Calls.{AnsweredWithin}
use Rattle.streams.specs.Reads.{read_call}
use Rattle.streams.specs.Input.{after_read, came-nothing, came_by}
use Rattle.depot.specs.Program.{enough}
use Rattle.depot.specs.Lines.{CountsLines}
use Rattle.depot.specs.LinesHeld.{going_few, going_less, going_more, read_all}
use Rattle.depot.proofs.read_lines.Goals as goal

-- k bytes of the text from its place l on were lent, and are `new` then
module _ (l k : ℕ) (old new : List ℕ) (within : l ≤ length old) (long : length new ≡ k) where
  abbrev lent : List ℕ
  lent = put_mid l k old new

  -- what is lent again
  again : take k (drop l lent) ≡ new
  again =
      ap (take k) (drop_at (take l old) (new ++ post_of l k old) l (length-take-le l old within))
      ∙ take_at new (post_of l k old) k long

pub loop-at-init : goal.loop-at-init
loop-at-init g c =
    (record { came = came_by enough []; by = came-nothing enough _; holds = c.begin-lines.ensures c.args.text.now }, c.requires)

pub loop-at-smaller : goal.loop-at-smaller
loop-at-smaller g c =
    let l = c.loop-at in
    let more = sym c.is_going.ensures ∙ c.loop-at-test.true in
    let counts = c.take_read-lines.ensures l.invariant.0.came.bytes (sym l.invariant.0.holds.counts.counted) in
    going_less _ _ l.lines l.text l.invariant.0 more c.read_some-got.result _ _ counts

pub loop-at-preserved : goal.loop-at-preserved
loop-at-preserved g c =
    let l = c.loop-at in
    let at = l.lines.len in
    let r = c.read_some-got in
    let more = sym c.is_going.ensures ∙ c.loop-at-test.true in
    let few = going_few _ _ l.lines l.text l.invariant.0 more in
    let k : at + 65536 - at ≡ 65536 = omega arith in
    let long : length r.new.buffer ≡ at + 65536 - at = r.auto.buffer ∙ mid_len at (at + 65536) l.text (omega (arith, few, l.invariant.1)) in
    let same = again at (at + 65536 - at) l.text r.new.buffer (omega (arith, few, l.invariant.1)) long in
    let counts = c.take_read-lines.ensures l.invariant.0.came.bytes (sym l.invariant.0.holds.counts.counted) in
    let held = subst (λ (b : List ℕ). CountsLines (after_read enough (read_call r.result b) l.invariant.0.came.bytes) c.take_read-lines.result) same counts in
    let kept = take_put at (at + 65536 - at) l.text r.new.buffer (omega (arith, few, l.invariant.1)) in (
      going_more _ _ l.lines l.text l.invariant.0 more r.result r.new.buffer _ held (lent at (at + 65536 - at) l.text r.new.buffer (omega (arith, few, l.invariant.1)) long)
          (at + 65536 - at) same kept long _ k (subst (λ (n : ℕ). AnsweredWithin n r.result) (long ∙ k) r.ensures.within) r.ensures.bytes,
      same_len_mid at (at + 65536 - at) l.text r.new.buffer r.auto.buffer ∙ l.invariant.1,
    )

pub returns : goal.returns
returns g c = let l = c.loop-at in read_all _ _ l.lines l.text l.invariant.0 (sym c.is_going.ensures ∙ c.loop-at-test.false)
