-- `opening::initialize::open_factor` meets its contract.
use Rattle.std.proofs.Common.{◌≡◌, ◌+◌, ◌<◌, ◌∙◌, get_or, sym, arith}
use Rattle.opening.specs.OpenFactors.{factor_room, kind-read, opened_input, opened_sends}
use Rattle.opening.proofs.initialize.open_factor.Goals as goal
use Rattle.opening.proofs.initialize.open_factor.Goals.{Else-word-first, After-word-3}

-- it has a neighbour
sends : (c : Else-word-first) → get_or c.args.firsts.now c.args.n 0 < get_or c.args.firsts.now (c.args.n + 1) 0
sends c = omega (arith, c.word.ensures.0, c.word-first.ensures.0, c.if-word-first.false)

-- the first one's kind
kind_is : (c : After-word-3) → c.word-3.result ≡ get_or c.args.kinds.now (get_or c.args.starts.now (get_or c.args.firsts.now c.args.n 0) 0) 0
kind_is c =
    let a = c.args in
    kind-read a.kinds.now a.starts.now c.word-first.result c.word-2.result c.word-3.result (get_or a.firsts.now a.n 0) c.word-first.ensures.0 c.word-2.ensures.0
    c.word-3.ensures.0

pub word-requires-2 : goal.word-requires-2
word-requires-2 c =
    let F = factor_room _ _ _ _ _ _ _ c.requires in
    omega (arith, F.start (sends (goal.at.word-requires-2 c).Else-word-first), c.word-first.ensures.0)

pub word-requires-3 : goal.word-requires-3
word-requires-3 c =
    let F = factor_room _ _ _ _ _ _ _ c.requires in
    rw (c.word-2.ensures.0, c.word-first.ensures.0) (F.kind (sends (goal.at.word-requires-3 c).Else-word-first))

pub returns-then-word : goal.returns-then-word
returns-then-word c =
    let a = c.args in
    let at = goal.at.returns-then-word c in
    λ s t R h k F.
    opened_input s t a.kinds.now a.firsts.now a.starts.now a.outs.now a.offsets.now a.row.now R a.n h k (sends at.Else-word-first)
    (sym (kind_is at.After-word-3) ∙ c.if-word.true)

pub word-out-requires : goal.word-out-requires
word-out-requires c =
    let F = factor_room _ _ _ _ _ _ _ c.requires in
    omega (arith, F.out (sends (goal.at.word-out-requires c).Else-word-first), c.word-first.ensures.0)

pub send_factor-requires : goal.send_factor-requires
send_factor-requires c =
    let F = factor_room _ _ _ _ _ _ _ c.requires in
    let at = goal.at.send_factor-requires c in
    rw (c.word-out.ensures.0, c.word-first.ensures.0) (F.send (sends at.Else-word-first) (λ z. c.if-word.false (kind_is at.After-word-3 ∙ z)))

pub returns : goal.returns
returns c =
    let a = c.args in
    let at = goal.at.returns c in
    λ s t R h k F.
    opened_sends s t a.kinds.now a.firsts.now a.starts.now a.outs.now a.offsets.now a.row.now R a.n h k (sends at.Else-word-first)
    (λ z. c.if-word.false (kind_is at.After-word-3 ∙ z)) a.alpha a.beta a.regularised F c.send_factor.new.row
    (rw (c.word-out.ensures.0, c.word-first.ensures.0) at c.send_factor.ensures)
