-- `next::list_last` meets its contract.
use mathlib.Core.Path.{sym, ◌∙◌}
use Rattle.bale_listing.specs.Lent.{none-listed, rest-listed}
use Rattle.bale_listing.proofs.next.list_last.Goals as goal

pub returns-then-input-eq0 : goal.returns-then-input-eq0
returns-then-input-eq0 c = λ bs h. none-listed bs _ _ _ (sym h.counted ∙ c.if-input-eq0.true)

pub returns : goal.returns
returns c = λ bs h. rest-listed bs (λ e. c.if-input-eq0.false (h.counted ∙ e)) (c.list_bale.ensures bs h.taken)
