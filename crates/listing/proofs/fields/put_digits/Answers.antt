-- `listing::fields::put_digits` meets its contract: with the digits that are left put before those that are written, the buffer is as it is to be.
use Rattle.std.proofs.Common.{◌≡◌, ℕ, ◌+◌, arith, sym, ap, ◌∙◌}
use Rattle.list_laws.specs.Put.{put-none}
use Rattle.listing.specs.Digits.{digits, digits-length, digits-next}
use Rattle.listing.proofs.fields.put_digits.Goals as goal

pub loop-left-preserved : goal.loop-left-preserved
loop-left-preserved c =
    let l = c.loop-left in
    rw c.hex_digit.ensures (digits-next c.args.base l.left l.rest l.out c.args.at (omega arith) (omega arith) ∙ l.invariant)

pub returns : goal.returns
unfolding digits
returns c =
    let a = c.args in
    let l = c.loop-left in
    let e : l.left ≡ 0 = omega arith in
    record {
      bytes = put-none l.out a.at (omega arith) ∙ (rw e at l.invariant);
      place = ap (λ (z : ℕ). a.at + z) (sym (digits-length a.base a.count a.n));
    }
