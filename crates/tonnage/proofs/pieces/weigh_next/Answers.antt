-- `pieces::weigh_next` meets its contract.
use native.Mathlib.Omega.{arith}
use borrow.Author.Tests.{not-true, not-false}
use mathlib.Core.Path.{sym, ◌∙◌}
use Rattle.theorems.specs.Facts.{open_bale, open_short}
use Rattle.bale_answer.specs.Open.{none_open}
use Rattle.tonnage.specs.Pieces.{took_as, settled_to, open_to, ended_to}
use Rattle.tonnage.proofs.pieces.weigh_next.Goals as goal

pub returns-then-not-is_waiting : goal.returns-then-not-is_waiting
returns-then-not-is_waiting c bs h = settled_to _ bs _ _ _ _ h _ (sym c.is_waiting.ensures ∙ c.if-not-is_waiting.true)

pub take_bale-took-requires-clause-piece_bound : goal.take_bale-took-requires-clause-piece_bound
take_bale-took-requires-clause-piece_bound c =
    let x = c.requires.some_weighs in
    let o = x.weighs.held (sym c.is_waiting.ensures ∙ c.if-not-is_waiting.false) in
    omega (arith, o.taken.counted, open_short x.bytes, x.few)

pub returns-then-not-took : goal.returns-then-not-took
returns-then-not-took c bs h =
    let o = h.held (sym c.is_waiting.ensures ∙ c.if-not-is_waiting.false) in
    let r = c.take_bale-took in
    let k = took_as (open_bale bs) _ _ r.result.input _ _ r.result.ended _ (not-true _ c.if-not-took.true) (r.ensures (open_bale bs) o) in
    open_to _ bs _ _ _ _ h _ _ _ _ _ k

pub returns : goal.returns
returns c bs h =
    let o = h.held (sym c.is_waiting.ensures ∙ c.if-not-is_waiting.false) in
    let r = c.take_bale-took in
    let k = took_as (open_bale bs) _ _ r.result.input _ _ r.result.ended _ (not-false _ c.if-not-took.false) (r.ensures (open_bale bs) o) in
    let t = k.3.taken in
    ended_to _ bs _ _ _ _ h _ _ _ _ _ k _ _ _ (c.weigh_bale-weighed.ensures _ _ h.tally t) (none_open _ _ _ (c.begin-fresh.ensures _ _ t.markers_now t.pairs_now))
