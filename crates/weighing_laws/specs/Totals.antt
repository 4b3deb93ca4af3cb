-- Totals after lines: to each grade's total what the lines yield it.
use Rattle.std.specs.Prelude.{ℕ, zero, suc, ◌+◌, ◌<◌, ◌≡◌, refl, List, [], ◌∷◌, length, get_or}
use Rattle.std.proofs.Common.{arith, ap, ◌∙◌}
use Rattle.definition.specs.Tonnage.{grams_in, add_each}
use Rattle.claims.specs.Tonnage.{Entry, total}

pub add-length : (f : ℕ → ℕ) (g : ℕ) (ts : List ℕ) → length (add_each f g ts) ≡ length ts
unfolding add_each
add-length f g [] = refl
add-length f g (t ∷ ts) = ap suc (add-length f (suc g) ts)

pub add_at : (f : ℕ → ℕ) (g : ℕ) (ts : List ℕ) (i : ℕ) → i < length ts → get_or (add_each f g ts) i 0 ≡ get_or ts i 0 + f (g + i)
unfolding add_each
add_at f g [] i h = absurd (let z : ⊥ = omega arith in z)
add_at f g (t ∷ ts) zero h = let e : g ≡ g + 0 = omega arith in ap (λ (x : ℕ). t + f x) e
add_at f g (t ∷ ts) (suc i) h = let e : suc g + i ≡ g + suc i = omega arith in add_at f (suc g) ts i (omega arith) ∙ ap (λ (x : ℕ). get_or ts i 0 + f x) e

-- entry by entry
abbrev pub add_all : List Entry → List ℕ → List ℕ
add_all [] ts = ts
add_all (e ∷ es) ts = add_all es (add_each (grams_in e.row e.parts) 0 ts)

pub all-length : (es : List Entry) (ts : List ℕ) → length (add_all es ts) ≡ length ts
all-length [] ts = refl
all-length (e ∷ es) ts = all-length es (add_each (grams_in e.row e.parts) 0 ts) ∙ add-length (grams_in e.row e.parts) 0 ts

pub all-at : (es : List Entry) (ts : List ℕ) (g : ℕ) → g < length ts → get_or (add_all es ts) g 0 ≡ get_or ts g 0 + total g es
all-at [] ts g h = let e : get_or ts g 0 ≡ get_or ts g 0 + 0 = omega arith in e
all-at (e ∷ es) ts g h =
    let f = grams_in e.row e.parts in
    let p = all-at es (add_each f 0 ts) g (omega (arith, add-length f 0 ts)) in
    let q : get_or (add_each f 0 ts) g 0 ≡ get_or ts g 0 + f g = add_at f 0 ts g h ∙ (let z : 0 + g ≡ g = omega arith in ap (λ (x : ℕ). get_or ts g 0 + f x) z) in
    omega (arith, p, q)
