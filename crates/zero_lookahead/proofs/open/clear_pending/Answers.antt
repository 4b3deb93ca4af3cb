-- `zero_lookahead::open::clear_pending` meets its contract.
use Rattle.std.proofs.Common.{◌≡◌, ℕ, ◌+◌, ◌-◌, ◌*◌, ◌≤◌, ◌∙◌, length, get_or, ap, arith}
use Rattle.std.specs.Float.Ieee.{of_bits}
use Rattle.definition.specs.Floats.{zeroᶠ}
use Rattle.list_laws.specs.Slices.{fill-put}
use Rattle.zero_lookahead.specs.PartOffsets.{width_in}
use Rattle.zero_lookahead.specs.Open.{pending_cleared_lem}
use Rattle.zero_lookahead.proofs.open.clear_pending.Goals as goal

pub returns : goal.returns
unfolding of_bits
returns c =
    let a = c.args in
    let e = c.word-edges in
    let l = c.word-l in
    let at = 4 * l.result in
    let n = 2 * e.result + a.more in
    let width : l.result ≡ width_in a.words.now a.out = l.ensures.0 ∙ ap (λ (k : ℕ). get_or a.words.now (a.out + 6 * k) 0) e.ensures.0 in
    let room : at + n ≤ length a.w.now = omega (arith, width, e.ensures.0, c.requires.room) in
    pending_cleared_lem a.words.now a.out a.more a.w.now _ e.result l.result e.ensures.0 l.ensures.0
    (fill-put a.w.now c.fill.new.self at (at + 2 * e.result + a.more - at) n zeroᶠ room (omega arith) (c.fill.ensures.after (λ y q. q)))
