-- `zero_lookahead::open::clear_flags` meets its contract.
use Rattle.std.proofs.Common.{◌≡◌, ◌+◌, ◌-◌, ◌*◌, get_or, arith}
use Rattle.zero_lookahead.specs.Open.{words-cleared}
use Rattle.zero_lookahead.proofs.open.clear_flags.Goals as goal

pub returns : goal.returns
returns c =
    let p = c.requires in
    let w = c.args.words.now in
    let at = c.args.out + (6 * get_or w 1 0 + 1) in
    let z : at + get_or w 0 0 - at ≡ get_or w 0 0 = omega arith in
    words-cleared w c.fill.new.self at (get_or w 0 0) (at + get_or w 0 0 - at) z p.room (c.fill.ensures.after (λ y e. e))
