-- `zero_lookahead::open::open` meets its contract.
use lib.ListN.{get_or, replicate, length-replicate}
use Rattle.zero_lookahead.specs.PartKept.{flags_front}
use Rattle.zero_lookahead.specs.Open.{opening_stands}
use Rattle.zero_lookahead.proofs.open.open.Goals as goal

pub returns : goal.returns
returns c =
    let S = c.requires.some_part_room in
    let a = c.args in
    let w = a.words.now in
    let f = c.clear_flags in record { kept_front = rw f.ensures (flags_front S.settings S.graph a.out a.evidence.now w S.room.part (replicate (get_or w 0 0) 0) (length-replicate (get_or w 0 0) 0)); stands_for = (λ s t R G. opening_stands R c.open_floats.new.w f.new.words (c.open_floats.ensures s t R G) f.ensures) }
