-- A row of floats as messages of two: what a node that is no factor holds. A float that has no partner is not read.
use Rattle.std.specs.Prelude.{◌≡◌, refl, List, [], ◌∷◌, map, ℕ, zero, suc, ◌+◌, ◌*◌, ◌/◌, ◌<◌, length, get_or, Float}
use Rattle.std.proofs.Common.{ap, ◌∙◌, arith}
use Rattle.std.specs.Float.{nan}
use Rattle.definition.specs.Vectors.{Message, entry, binary}
use Rattle.definition.specs.Directions.{message_at}
use Rattle.array_utils.specs.Columns.{column, absents, presents}
use Rattle.array_utils.specs.Columns as columns

abbrev pub pairs : List Float → List Message
pairs [] = []
pairs (a ∷ []) = []
pairs (a ∷ b ∷ l) = binary a b ∷ pairs l

double : (k : ℕ) → 2 * suc k ≡ suc (suc (2 * k))
double k = omega arith

pub length_pairs : (l : List Float) → length (pairs l) ≡ length l / 2
length_pairs [] = refl
length_pairs (a ∷ []) = refl
length_pairs (a ∷ b ∷ l) = ap suc (length_pairs l) ∙ half_step (length l)
  where
    half_step : (n : ℕ) → suc (n / 2) ≡ suc (suc n) / 2
    half_step n = omega arith

-- message k
pub pair_at_lem : (l : List Float) (k : ℕ) → k < length l / 2 → binary (get_or l (2 * k) nan) (get_or l (2 * k + 1) nan) ≡ message_at k (pairs l)
pair_at_lem [] k h = absurd (let z : ⊥ = omega arith in z)
pair_at_lem (a ∷ []) k h = absurd (let z : ⊥ = omega arith in z)
pair_at_lem (a ∷ b ∷ l) zero h = refl
pair_at_lem (a ∷ b ∷ l) (suc k) h =
    ap (λ (n : ℕ). binary (get_or (a ∷ b ∷ l) n nan) (get_or (a ∷ b ∷ l) (2 * suc k + 1) nan)) (double k)
    ∙ ap (λ (n : ℕ). binary (get_or l (2 * k) nan) (get_or (a ∷ b ∷ l) n nan)) (next k)
    ∙ pair_at_lem l k (less k (length l) h)
  where
    less : (k n : ℕ) → suc k < suc (suc n) / 2 → k < n / 2
    less k n h = omega arith

    next : (k : ℕ) → 2 * suc k + 1 ≡ suc (suc (2 * k + 1))
    next k = omega arith

-- the columns, and the row of messages of two
pub column-pairs : (pick : Float → Float → Float) (l : List Float) → column pick l ≡ map (λ (m : Message). pick (entry 0 m) (entry 1 m)) (pairs l)
column-pairs pick [] = refl
column-pairs pick (a ∷ []) = refl
column-pairs pick (a ∷ b ∷ l) = ap {B = List Float} (λ r. pick a b ∷ r) (column-pairs pick l)

pub absents-pairs : (l : List Float) → absents l ≡ map (entry 0) (pairs l)
absents-pairs = column-pairs columns.absent

pub presents-pairs : (l : List Float) → presents l ≡ map (entry 1) (pairs l)
presents-pairs = column-pairs columns.present
