-- `listing::fields::put_digits` meets its contract: with the digits that are left put before those that are written, the buffer is as it is to be.
use Rattle.std.specs.Prelude.{◌≡◌}
use Rattle.list_laws.specs.Put.{put}
use Rattle.listing.specs.Digits.{digits}
use Rattle.listing.proofs.fields.put_digits.Given as goal

abbrev pub invariant-loop-left : goal.invariant-loop-left
invariant-loop-left l = put l.out l.at (digits l.base l.left l.rest) ≡ put l.initial.out l.at (digits l.base l.count l.n)
