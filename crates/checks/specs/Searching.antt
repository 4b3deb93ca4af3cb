-- The lowest place, as a search finds it that goes through the tests one by one.
use Rattle.std.specs.Prelude.{ℕ, zero, suc, ◌+◌, ◌≤◌, ◌<◌, ◌≡◌, refl, Bool, true, false, List, [], ◌∷◌, map, length, get_or, drop}
use Rattle.std.proofs.Common.{add-one, arith, sym, ap, ◌∙◌, length-drop, drop-cons, get_or-drop}
use Rattle.std.proofs.Math.Option.{none, some}
use Rattle.definition.specs.Lists.{range}
use Rattle.definition.specs.Refusals.{lowest_place_from, lowest_place}
use Rattle.graph_laws.specs.Places.{All-numbered}
use Rattle.graph_laws.specs.Accepted.{nowhere}

-- none of the tests before i is true, so the lowest place is that of the rest
abbrev pub Reached : List Bool → ℕ → Type 0
Reached bs i = lowest_place_from i (drop i bs) ≡ lowest_place bs

pub reached_first : (bs : List Bool) → Reached bs 0
unfolding lowest_place
reached_first bs = refl

from_false : (i : ℕ) (b : Bool) (bs : List Bool) → b ≡ false → lowest_place_from i (b ∷ bs) ≡ lowest_place_from (suc i) bs
unfolding lowest_place_from
from_false i b bs e = rw e

from-true : (i : ℕ) (b : Bool) (bs : List Bool) → b ≡ true → lowest_place_from i (b ∷ bs) ≡ some i
unfolding lowest_place_from
from-true i b bs e = rw e

pub reached_next : (bs : List Bool) (i : ℕ) → i < length bs → get_or bs i false ≡ false → Reached bs i → Reached bs (i + 1)
reached_next bs i l e r =
    rw add-one (sym (from_false i (get_or bs i false) (drop (suc i) bs) e) ∙ ap (lowest_place_from i) (sym (drop-cons bs i false l)) ∙ r)

pub reached_here : (bs : List Bool) (i : ℕ) → i < length bs → get_or bs i false ≡ true → Reached bs i → some i ≡ lowest_place bs
reached_here bs i l e r = sym (from-true i (get_or bs i false) (drop (suc i) bs) e) ∙ ap (lowest_place_from i) (sym (drop-cons bs i false l)) ∙ r

past : (i : ℕ) (bs : List Bool) (k : ℕ) → length bs ≤ i → lowest_place_from k (drop i bs) ≡ none
unfolding lowest_place_from
past zero [] k l = refl
past (suc i) [] k l = refl
past zero (b ∷ bs) k l = absurd (let z : ⊥ = omega arith in z)
past (suc i) (b ∷ bs) k l = past i bs k (omega arith)

pub reached_end : (bs : List Bool) (i : ℕ) → length bs ≤ i → Reached bs i → none ≡ lowest_place bs
reached_end bs i l r = sym (past i bs i l) ∙ r

-- no test from i on is true
pub reached_stop : (bs : List Bool) (i : ℕ) → Reached bs i → ((k : ℕ) → i ≤ k → k < length bs → get_or bs k false ≡ false) → none ≡ lowest_place bs
reached_stop bs i r h =
    sym
    (nowhere i (drop i bs)
    (All-numbered (λ c. c ≡ false) false (drop i bs) (λ k l. get_or-drop i bs k false ∙ h (i + k) (omega arith) (omega (arith, length-drop i bs)))))
    ∙ r

-- ---- the tests of the things of a list

pub get_d_map : {A : Type 0} (g : A → Bool) (xs : List A) (i : ℕ) (d : A) → i < length xs → get_or (map g xs) i false ≡ g (get_or xs i d)
get_d_map g [] i d l = absurd (let z : ⊥ = omega arith in z)
get_d_map g (x ∷ xs) zero d l = refl
get_d_map g (x ∷ xs) (suc i) d l = get_d_map g xs i d (omega arith)

pub get_d_range : (k n i d : ℕ) → i < n → get_or (range k n) i d ≡ k + i
get_d_range k zero i d l = absurd (let z : ⊥ = omega arith in z)
get_d_range k (suc n) zero d l = omega arith
get_d_range k (suc n) (suc i) d l = get_d_range (suc k) n i d (omega arith) ∙ omega arith
