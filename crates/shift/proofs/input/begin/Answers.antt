-- `shift::input::begin` meets its contract: nothing came yet, and no listing was to go.
use Rattle.std.specs.Prelude.{refl, []}
use Rattle.bale_answer.specs.Open.{none_open}
use Rattle.streams.specs.Writes.{gone_none}
use Rattle.shift.specs.Overs.{went_open}
use Rattle.shift.proofs.input.begin.Goals as goal

pub returns : goal.returns
returns c known ms ps m p =
    let i = c.begin-input in
    record { phase = refl; counted = refl; over = went_open known known [] i.result ms ps (gone_none known) (none_open i.result ms ps (i.ensures ms ps m p)) }
