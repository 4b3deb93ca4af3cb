-- `listing::parts::put_parts` meets its contract.
use Rattle.std.specs.Prelude.{List, length, ◌*◌, ◌≤◌}
use Rattle.definition.specs.Answer.{PartAnswer}
use Rattle.definition.specs.Listing.{part_lines}
use Rattle.listing.specs.Parts.{PartsFit}
use Rattle.listing.specs.PartsLeft.{PartsLeft}
use Rattle.listing.proofs.parts.put_parts.Given as goal

abbrev pub invariant-loop-e : goal.invariant-loop-e
invariant-loop-e l =
    (4 * l.count ≤ length l.endings)
    × (l.count ≤ length l.residuals)
    × ((ps : List PartAnswer) → PartsFit ps l.grades l.values l.endings l.residuals l.count l.at (length l.initial.out)
    → PartsLeft l.initial.out l.at (part_lines ps) l.grades l.values l.endings l.residuals l.count l.out l.k l.e l.first)
