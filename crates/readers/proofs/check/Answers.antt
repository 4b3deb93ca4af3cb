-- `readers::check` meets its contract. Each check decides, or leaves it to the next.
use Rattle.std.proofs.Common.{ℕ, ◌/◌, ◌*◌, ◌≤◌, ◌<◌, ◌≡◌, min, List, length, arith, sym, ap, ◌∙◌}
use Rattle.definition.specs.Readers.{reads_of, lesser, falls}
use Rattle.readers.specs.Slices.{falls_count}
use Rattle.checks.specs.Verdicts.{place_of, passed, returned}
use Rattle.readers.specs.Verdicts.{place-there, lesser_is, many_upper_lem, many-lower, small_buffer_lem, upper_refused, lower-falls, none-falls}
use Rattle.readers.proofs.check.Goals as goal
use Rattle.readers.proofs.check.Goals.{then-uppers-gt1024-via-then-uppers-gt1024, then-uppers-gt1024-via-else-uppers-gt1024+then-lowers-gt1024}

pub returns-then-uppers-gt1024 : goal.returns-then-uppers-gt1024
returns-then-uppers-gt1024 c =
    elim c.then-uppers-gt1024.branch [
      | then-uppers-gt1024-via-then-uppers-gt1024 w ↦ many_upper_lem _ _ _ w.if-uppers-gt1024.true
      | then-uppers-gt1024-via-else-uppers-gt1024+then-lowers-gt1024 w ↦ many-lower _ _ _ w.if-uppers-gt1024.false w.if-lowers-gt1024.true
    ]

pub returns-then-size-min : goal.returns-then-size-min
returns-then-size-min c =
    let a = c.args in
    let l : a.size < 2 * lesser (length a.upper.now / 2) (length a.lower.now / 2) = rw (← lesser_is) (omega arith) in
    small_buffer_lem _ _ _ c.if-uppers-gt1024.false c.if-lowers-gt1024.false l

-- past numbers 1 and 2
room : (upper lower : List ℕ) (size m : ℕ) → m ≡ min (length upper / 2) (length lower / 2) → 2 * m ≤ size → 2 * lesser (length upper / 2) (length lower / 2) ≤ size
room upper lower size m e l = rw (← lesser_is) (omega arith)

pub returns-in_err-refuse : goal.returns-in_err-refuse
returns-in_err-refuse c =
    returned _ _ c.from_residual.ensures.1
    ∙ upper_refused _ _ _ c.if-uppers-gt1024.false c.if-lowers-gt1024.false (room _ _ _ _ c.min.ensures c.if-size-min.false) _ _ _ c.first_fall.ensures
    c.in_err-refuse.ensures

pub overflow_add-result : goal.overflow_add-result
overflow_add-result c =
    let l = c.args.lower.now in
    omega (arith, place-there (falls (reads_of l)) _ (sym c.first_fall-2.ensures ∙ ap place_of c.in-Some.is), falls_count l)

pub returns-in-Some : goal.returns-in-Some
returns-in-Some c =
    lower-falls _ _ _ c.if-uppers-gt1024.false c.if-lowers-gt1024.false (room _ _ _ _ c.min.ensures c.if-size-min.false)
    (passed 10 _ _ c.in_ok-refuse.ensures c.first_fall.ensures) _ (sym c.first_fall-2.ensures ∙ ap place_of c.in-Some.is)

pub returns : goal.returns
returns c =
    none-falls _ _ _ c.if-uppers-gt1024.false c.if-lowers-gt1024.false (room _ _ _ _ c.min.ensures c.if-size-min.false)
    (passed 10 _ _ c.in_ok-refuse.ensures c.first_fall.ensures) (sym c.first_fall-2.ensures ∙ ap place_of c.in_default.is)
