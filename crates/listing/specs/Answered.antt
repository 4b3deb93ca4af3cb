-- After an accepted call its answer stands at the front of the buffers, as `put_parts` asks for it.
use Rattle.std.specs.Prelude.{◌≡◌, List, ℕ, Float}
use Rattle.float_laws.specs.Order.{finite_number}
use Rattle.graph_laws.specs.Lists.{All, All-mono}
use Rattle.graph_laws.specs.AnswerSizes.{answer-sizes}
use Rattle.claims.specs.Parts.{SettingsFit, EvidenceFits, AllEvidence}
use Rattle.message_bounds.specs.Printed.{Printable, beliefs_printable, endings_printable}
use Rattle.definition.specs.Settings.{Settings}
use Rattle.definition.specs.FactorGraph.{Bale}
use Rattle.definition.specs.Refusals.{Buffers, accepted, verdict}
use Rattle.definition.specs.Answer.{answer, answered_beliefs, belief_numbers, belief_floats, ending_numbers, ending_floats}
use Rattle.definition.specs.Call.{Lent, answered_by}
use Rattle.listing.specs.Beliefs.{IsNumber}
use Rattle.listing.specs.Front.{begins_overwritten}
use Rattle.listing.specs.Parts.{Parts}

numbers : (xs : List Float) → All Printable xs → All IsNumber xs
numbers xs h = All-mono Printable IsNumber (λ x p. finite_number x p.number) xs h

pub answer_stands :
    (s : Settings) (f : Buffers) (b : Bale) → verdict s f b ≡ accepted → SettingsFit s → AllEvidence EvidenceFits b.markers →
    (work : ℕ) (l : Lent) →
    let r = (answered_by work (answer s b) l).lent in
    Parts (answer s b) r.belief_numbers r.belief_floats r.ending_numbers r.ending_floats
unfolding answered_by
answer_stands s f b v t e work l =
    let bs = answered_beliefs (answer s b) in
    record {
      grades_begin = begins_overwritten (belief_numbers bs) l.belief_numbers;
      values_begin = begins_overwritten (belief_floats bs) l.belief_floats;
      endings_begin = begins_overwritten (ending_numbers (answer s b)) l.ending_numbers;
      residuals_begin = begins_overwritten (ending_floats (answer s b)) l.ending_floats;
      two = (answer-sizes s f b v).floats;
      values_printed = numbers (belief_floats bs) (beliefs_printable s f b v t e);
      residuals_printed = numbers (ending_floats (answer s b)) (endings_printable s f b v);
    }
