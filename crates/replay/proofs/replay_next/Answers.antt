-- `replay::replay_next` meets its contract.
use Rattle.replay.specs.Entries.{whole}
use Rattle.replay.proofs.replay_next.Goals as goal

pub returns-in-Ok-Some : goal.returns-in-Ok-Some
returns-in-Ok-Some g c =
    let (bytes, consumed, coded) = rw c.in-Ok-Some.field-0-is at c.in-Ok-Some.ensures.bytes in
    record { entry = whole _ _ _; is = c.count_entry.ensures; bytes = bytes; coded = coded; consumed = consumed }
