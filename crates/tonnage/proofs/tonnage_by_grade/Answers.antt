-- `tonnage_by_grade` meets its contract.
use Rattle.std.proofs.Common.{◌++◌, drop, sym, ap, ◌∙◌, length-take-le}
use Rattle.tonnage.specs.Reply.{reply_short, reply_weighed, reply_refused}
use Rattle.tonnage.proofs.tonnage_by_grade.Goals as goal
use Rattle.tonnage.proofs.tonnage_by_grade.Goals.{then-is_ok, else-is_ok}

pub returns-then-totals-lt-GRADES : goal.returns-then-totals-lt-GRADES
returns-then-totals-lt-GRADES c = rw c.from.ensures (reply_short _ _ _ c.if-totals-lt-GRADES.true)

pub copy_from_slice-requires : goal.copy_from_slice-requires
copy_from_slice-requires c = length-take-le 1024 _ c.if-totals-lt-GRADES.false ∙ sym c.weigh_shift-weighed.auto.sums

pub returns : goal.returns
returns c =
    let long = c.if-totals-lt-GRADES.false in
    let w = c.weigh_shift-weighed in
    rw c.from-2.ensures
    (elim c.if-is_ok.branch [
      | then-is_ok k ↦
          let sums = w.new.sums in
          let totals = c.args.totals.now in
          reply_weighed _ _ _ _ sums _ long w.ensures (sym c.is_ok.ensures.value ∙ k.if-is_ok.true)
          (k.totals-is ∙ ap (λ vs. vs ++ drop 1024 totals) k.copy_from_slice.ensures.after ∙ ap (λ n. sums ++ drop n totals) (sym w.auto.sums))
      | else-is_ok k ↦ rw k.totals-is (reply_refused _ _ _ _ w.new.sums long w.ensures (sym c.is_ok.ensures.value ∙ k.if-is_ok.false))
    ])
