-- `shift::list_piece` meets its contract.
use Rattle.std.specs.Prelude.{ℕ, ◌≡◌, ◌+◌, ◌-◌, ◌<◌, ◌++◌, List, true, false, refl, length, take}
use Rattle.std.proofs.Common.{rules, arith, sym, ap, ◌∙◌, append-nil, length-drop, length-take-le}
use borrow.Author.Rules.{part_to_end}
use Rattle.shift_laws.specs.Ended.{open_bale}
use Rattle.streams.specs.Writes.{rest, Gone, gone_none}
use Rattle.bale_listing.specs.Next.{next_fits, next-some, next-within}
use Rattle.shift.specs.Overs.{went_open, went_step, went-all, went-stopped, countable}
use Rattle.shift.proofs.list_piece.Goals as goal

pub loop-at-init : goal.loop-at-init
loop-at-init g c =
    ((λ bs h. rw (append-nil bs) (went_open _ _ bs _ _ _ (gone_none _) h)), omega arith, c.requires.work_floats_len.0, c.requires.work_floats_len.1)

pub list_next-next-requires-clause-some_open_in : goal.list_next-next-requires-clause-some_open_in
list_next-next-requires-clause-some_open_in g c =
    let h = c.requires.some_open_in in
    record { bytes = open_bale (h.bytes ++ take c.loop-at.at c.args.piece.now); held = (c.loop-at.invariant.0 h.bytes h.held).held refl }

pub list_next-next-requires-clause-piece_bound : goal.list_next-next-requires-clause-piece_bound
list_next-next-requires-clause-piece_bound g c =
    let h = c.requires.some_open_in in
    let x = c.loop-at in
    let o = (x.invariant.0 h.bytes h.held).held refl in
    countable h.bytes c.args.piece.now x.at _ _ _ o x.invariant.1 (omega (arith, h.held.taken.counted, c.requires.piece_bound))

-- what was listed next fits, and is some of what was left
module _ (piece : List ℕ) (at : ℕ) (inside : at < length piece) where
  behind : length (rest piece at) ≡ length piece - at
  behind = ap length (part_to_end piece at) ∙ length-drop at piece

pub slice_bounds-out-end : goal.slice_bounds-out-end
slice_bounds-out-end g c =
    let h = c.requires.some_open_in in
    next_fits _ _ _ _ _ _ _ _ _ _ _ (c.list_next-next.ensures _ ((c.loop-at.invariant.0 h.bytes h.held).held refl))

pub slice_bounds-hand_over-end : goal.slice_bounds-hand_over-end
slice_bounds-hand_over-end g c =
    let h = c.requires.some_open_in in
    sym (length-take-le _ _ (next_fits _ _ _ _ _ _ _ _ _ _ _ (c.list_next-next.ensures _ ((c.loop-at.invariant.0 h.bytes h.held).held refl))))

pub returns-then-not-hand_over : goal.returns-then-not-hand_over
returns-then-not-hand_over g c bs h =
    let x = c.loop-at in
    let n = c.list_next-next in
    let w = x.invariant.0 bs h in
    let gone : Gone _ _ _ false = record { calls = c.if-not-hand_over.ensures.calls; bytes = c.if-not-hand_over.ensures.bytes } in
    went-stopped bs c.args.piece.now (x.at + n.result.used) _ _ n.result.input _ _
    (went_step bs c.args.piece.now x.at _ _ _ x.held _ _ n.result _ _ _ _ _ _ _ _ false w (n.ensures _ (w.held refl)) gone)

pub loop-at-preserved : goal.loop-at-preserved
loop-at-preserved g c =
    let x = c.loop-at in
    let n = c.list_next-next in
    let piece = c.args.piece.now in
    let h = c.requires.some_open_in in
    let gone : Gone _ _ _ true = record { calls = c.if-not-hand_over.ensures.calls; bytes = c.if-not-hand_over.ensures.bytes } in
    let next = n.ensures _ ((x.invariant.0 h.bytes h.held).held refl) in (
      (λ bs t. let w = x.invariant.0 bs t in went_step bs piece x.at _ _ _ x.held _ _ n.result _ _ _ _ _ _ _ _ true w (n.ensures _ (w.held refl)) gone),
      omega (arith, next-within _ _ _ _ _ _ _ _ _ _ _ next, behind piece x.at c.loop-at-test.true),
      search rules,
      search rules,
    )

pub loop-at-smaller : goal.loop-at-smaller
loop-at-smaller g c =
    let x = c.loop-at in
    let h = c.requires.some_open_in in
    let next = c.list_next-next.ensures _ ((x.invariant.0 h.bytes h.held).held refl) in
    let long = behind c.args.piece.now x.at c.loop-at-test.true in
    omega (arith, next-some _ _ _ _ _ _ _ _ _ _ _ next (omega (arith, long)), next-within _ _ _ _ _ _ _ _ _ _ _ next, long)

pub overflow_add-at : goal.overflow_add-at
overflow_add-at g c =
    let x = c.loop-at in
    let h = c.requires.some_open_in in
    let next = c.list_next-next.ensures _ ((x.invariant.0 h.bytes h.held).held refl) in
    omega (arith, next-within _ _ _ _ _ _ _ _ _ _ _ next, behind c.args.piece.now x.at c.loop-at-test.true)

pub returns : goal.returns
returns g c bs h = went-all bs c.args.piece.now c.loop-at.at _ _ _ _ _ (c.loop-at.invariant.0 bs h) c.loop-at-test.false
