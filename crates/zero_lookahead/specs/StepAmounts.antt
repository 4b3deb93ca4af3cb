-- What waits after a step: each amount is one that a key can hold.
use Rattle.std.specs.Prelude.{ℕ, ◌≤◌, ◌<◌, ◌≡◌, List, [], ◌∷◌, T, Float, length, get_or, set}
use Rattle.std.proofs.Math.Decide.{dec_lt, ℕ_discrete}
use Rattle.std.proofs.Common.{arith, sym, subst, length-set, get_or-set_same, get_or-set_other}
use Rattle.std.proofs.Math.Logic.{by_cases}
use Rattle.std.proofs.Math.Option.{Option, none, some}
use Rattle.std.specs.Float.{binary32}
use Rattle.std.specs.Float.Ieee.{fits}
use Rattle.std.specs.Float.Ieee.Fits.{add-fits}
use Rattle.std.proofs.Math.ListN.{get_or-eq_default}
use Rattle.definition.specs.Floats.{◌⊕◌, zeroᶠ}
use Rattle.definition.specs.Run.{add_pending, push_priorities}
use Rattle.float_laws.specs.Rounded.{clear}
use Rattle.priorities.specs.Keys.{IsAmount}

-- what holds of an entry and of what it is set to, holds after the entry at o was set
set_keeps : {A : Type 0} (P : A → Type 0) (d : A) (l : List A) (o : ℕ) (v : A) (i : ℕ) → P (get_or l i d) → P v → P (get_or (set l o v) i d)
set_keeps P d l o v i h k =
    by_cases (ℕ_discrete i o)
    (λ (e : i ≡ o).
    by_cases (dec_lt i (length l)) (λ (q : i < length l). rw e (subst P (sym (get_or-set_same l o v d (let z : o < length l = rw e at q in z))) k))
    (λ q.
    let a : length l ≤ i = omega arith in
    let b : length (set l o v) ≤ i = omega (arith, length-set l o v) in
    subst P (sym (get_or-eq_default (set l o v) d b)) (subst P (get_or-eq_default l d a) h)))
    (λ e. subst P (sym (get_or-set_other l o i v d e)) h)

-- a sum fits, and stays so
fits_kept : (r : Float) (os : List ℕ) (p : List Float) (i : ℕ) → T (fits binary32 (get_or p i zeroᶠ)) → T (fits binary32 (get_or (add_pending r os p) i zeroᶠ))
unfolding add_pending
fits_kept r [] p i h = h
fits_kept r (o ∷ os) p i h =
    fits_kept r os (set p o (get_or p o zeroᶠ ⊕ r)) i (set_keeps (λ x. T (fits binary32 x)) zeroᶠ p o (get_or p o zeroᶠ ⊕ r) i h (add-fits binary32 (get_or p o zeroᶠ) r))

fits-added : (r : Float) (p : List Float) (o : ℕ) → T (fits binary32 (get_or (set p o (get_or p o zeroᶠ ⊕ r)) o zeroᶠ))
unfolding fits
fits-added r p o =
    let v = get_or p o zeroᶠ ⊕ r in
    by_cases (dec_lt o (length p)) (λ (q : o < length p). subst (λ x. T (fits binary32 x)) (sym (get_or-set_same p o v zeroᶠ q)) (add-fits binary32 (get_or p o zeroᶠ) r))
    (λ q.
    let b : length (set p o v) ≤ o = omega (arith, length-set p o v) in
    subst (λ x. T (fits binary32 x)) (sym (get_or-eq_default (set p o v) zeroᶠ b)) tt)

pub pushed_amounts : (r : Float) (os : List ℕ) (p₀ p : List Float) (q : List (Option Float)) → p ≡ add_pending r os p₀ → ((i : ℕ) → T (clear (get_or p i zeroᶠ))) → ((i : ℕ) → IsAmount (get_or q i none))
    → (i : ℕ) → IsAmount (get_or (push_priorities p os q) i none)
unfolding add_pending push_priorities
pushed_amounts r [] p₀ p q e c h i = h i
pushed_amounts r (o ∷ os) p₀ p q e c h i =
    let p₁ = set p₀ o (get_or p₀ o zeroᶠ ⊕ r) in
    let f : T (fits binary32 (get_or p o zeroᶠ)) = subst (λ (l : List Float). T (fits binary32 (get_or l o zeroᶠ))) (sym e) (fits_kept r os p₁ o (fits-added r p₀ o)) in
    pushed_amounts r os p₁ p (set q o (some (get_or p o zeroᶠ))) e c (λ j. set_keeps IsAmount none q o (some (get_or p o zeroᶠ)) j (h j) (f, c o)) i

-- ---- one direction that waits no more
pub none_amounts : (q : List (Option Float)) (d : ℕ) → ((i : ℕ) → IsAmount (get_or q i none)) → (i : ℕ) → IsAmount (get_or (set q d none) i none)
none_amounts q d h i = set_keeps IsAmount none q d none i (h i) tt

-- ---- clear signs, also past the end
pub signs_all : (p : List Float) → ((i : ℕ) → i < length p → T (clear (get_or p i zeroᶠ))) → (i : ℕ) → T (clear (get_or p i zeroᶠ))
signs_all p h i =
    by_cases (dec_lt i (length p)) (λ (q : i < length p). h i q)
    (λ q. let a : length p ≤ i = omega arith in subst (λ x. T (clear x)) (sym (get_or-eq_default p zeroᶠ a)) tt)
