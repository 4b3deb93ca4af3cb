-- A bale more has ended: what `weigh_bale` makes of the tally.
use Rattle.std.specs.Prelude.{ℕ, ◌+◌, ◌≤◌, ◌<◌, ◌≡◌, true, false, List, [], ◌∷◌, ◌++◌, length}
use Rattle.std.proofs.Common.{sym, ap, ◌∙◌, subst}
use Rattle.definition.specs.Tonnage.{grams_in}
use Rattle.weighing_laws.specs.Totals.{add-length}
use Rattle.checks.specs.declared.refusal.Check.TheVariants.{MissingBale}
use Rattle.weights.specs.declared.Line.{Line}
use Rattle.tonnage.specs.Answering.{AnswerAdded}
use Rattle.tonnage.specs.Standings.{StandsAt, Waits, Stands, HoldsTally}
use Rattle.tonnage.specs.Tallies.{waits-on, has_none, weighs_on}
use Rattle.tonnage.specs.declared.tally.Standing.{Standing}
use Rattle.tonnage.specs.declared.tally.Standing.TheVariants.{Waiting, Refused}
use Rattle.tonnage.specs.declared.tally.Tally.{Tally}

-- where the standing is known
pub stands_as : (csv : List ℕ) (es : List (List ℕ)) (t : Tally) (sums : List ℕ) → HoldsTally csv es t sums → (s : Standing) → t.standing ≡ s → Stands csv es s t.lines t.bales sums
stands_as csv es t sums h s e = subst (λ (x : Standing). Stands csv es x t.lines t.bales sums) e h.stands

module _ (csv : List ℕ) (es : List (List ℕ)) (p : List ℕ) (t : Tally) (sums : List ℕ) (h : HoldsTally csv es t sums) where
  module _ (l : Line) (e : t.standing ≡ Waiting l) where
    waits : Waits csv es t.lines t.bales l.bale l.kilograms l.after sums
    waits = stands_as csv es t sums h (Waiting l) e

    -- one waits for a later bale
    pub holds_on : t.bales < l.bale → HoldsTally csv (es ++ p ∷ []) (record { standing = Waiting l; lines = t.lines; bales = t.bales + 1 }) sums
    holds_on k = record { stands = waits-on csv es p t.lines t.bales l.bale l.kilograms l.after sums waits k; long = h.long }

    -- one waits for this, which has no answer, or has one
    module _ (here : l.bale ≤ t.bales) (us : List ℕ) where
      pub holds_none : AnswerAdded p l.kilograms sums false us → HoldsTally csv (es ++ p ∷ []) (record { standing = Refused MissingBale; lines = t.lines; bales = t.bales + 1 }) us
      holds_none a = record { stands = has_none csv es p t.lines t.bales l.bale l.kilograms l.after sums waits here a.0; long = ap length a.1 ∙ h.long }

      pub holds_next :
          AnswerAdded p l.kilograms sums true us → (s : Standing) → StandsAt (l.bale + 1) csv l.after s →
          HoldsTally csv (es ++ p ∷ []) (record { standing = s; lines = t.lines + 1; bales = t.bales + 1 }) us
      holds_next a s g =
          record {
            stands = subst
                (λ (vs : List ℕ). Stands csv (es ++ p ∷ []) s (t.lines + 1) (t.bales + 1) vs)
                (sym (a.2 l.bale))
                (weighs_on csv es p t.lines t.bales l.bale l.kilograms l.after sums waits here a.0 a.1 s g);
            long = ap length (a.2 l.bale) ∙ add-length (grams_in (record { bale = l.bale; kilograms = l.kilograms }) a.0) 0 sums ∙ h.long;
          }
