-- The lines of the listing, as the functions that write them have them.
use Rattle.std.specs.Prelude.{◌≡◌, refl, List, [], ◌∷◌, ℕ, zero, suc, Float, length}
use Rattle.definition.specs.FactorGraph.{Bale}
use Rattle.definition.specs.Run.{Ending, limit, settled, empty}
use Rattle.definition.specs.Text.{ascii}
use Rattle.definition.specs.Listing.{decimal, hex, line, part_fields, bale_line}
use Rattle.claims.specs.CallByParts.{ending_of}
use Rattle.listing.specs.Writing.{Written, field, Fields, next_field}

-- the first line, of its three counts
abbrev pub counts_line : ℕ → ℕ → ℕ → List ℕ
counts_line grades markers pairs = line (ascii "bale" ∷ decimal grades ∷ decimal markers ∷ decimal pairs ∷ [])

pub record Counts (b : Bale) (grades markers pairs : ℕ) : Type 0 where
  pub grades_are : b.grades ≡ grades
  pub markers_are : length b.markers ≡ markers
  pub pairs_are : length b.pairs ≡ pairs

pub counts-line : (b : Bale) (grades markers pairs : ℕ) → Counts b grades markers pairs → bale_line b ≡ counts_line grades markers pairs
unfolding bale_line
counts-line b grades markers pairs c = rw (c.grades_are, c.markers_are, c.pairs_are)

-- an ending's third number
pub ending-empty : (n : ℕ) (r : Float) → (n ≡ 0 → ⊥) → (n ≡ 1 → ⊥) → ending_of n r ≡ empty
ending-empty zero r h k = absurd (h refl)
ending-empty (suc zero) r h k = absurd (k refl)
ending-empty (suc (suc n)) r h k = refl

-- a part's own line
abbrev pub head_line : ℕ → Ending → ℕ → List ℕ
head_line number e steps = line (ascii "part" ∷ decimal number ∷ part_fields e (decimal steps))

-- a grade's line
abbrev pub grade_line : ℕ → Float → Float → List ℕ
grade_line grade absent present = line (decimal grade ∷ hex absent ∷ hex present ∷ [])

-- the field before an ending's
pub before-ending :
    {l : List ℕ} {at : ℕ} {s m : List ℕ} {k : ℕ} {f t : List ℕ} {j : ℕ} (e : Ending) (steps : List ℕ) →
    Fields l at s m k (f ∷ part_fields e steps) → Written m k (field f 32) t j → Fields l at s t j (part_fields e steps)
unfolding part_fields
before-ending (limit r) steps a w = next_field a w
before-ending (settled r) steps a w = next_field a w
before-ending empty steps a w = next_field a w
