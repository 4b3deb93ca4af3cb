-- The word of kind 7 as a reading has it, 0 where there is none: no such word is 0.
use Rattle.std.specs.Prelude.{ℕ, ◌≡◌, refl, Bool, true, false, cond, List, [], ◌∷◌, eqb, get_or}
use Rattle.std.proofs.Common.{arith, eqb-true, ne_eqb}
use Rattle.std.proofs.Math.Option.{Option, none, some}
use Rattle.definition.specs.Lists.{cons_if}
use Rattle.definition.specs.BaleFile.{word_kind, bits, words_of_kind, first_of_kind, first_rate, base_rate}

unfoldable pub rate_of : ℕ → Option ℕ
rate_of w = cond (eqb w 0) none (some (bits 10 0 w))

-- no word, and a word that is there
pub rate_none : (w : ℕ) → w ≡ 0 → none ≡ rate_of w
unfolding rate_of
rate_none w z = rw z

pub rate_of_lem : (w : ℕ) → (w ≡ 0 → ⊥) → rate_of w ≡ some (bits 10 0 w)
unfolding rate_of
rate_of_lem w n = rw (ne_eqb w 0 n)

kind-there : (w : ℕ) → word_kind w ≡ 7 → w ≡ 0 → ⊥
unfolding word_kind
kind-there w k z = omega (arith, k, z)

-- the word of kind 7 says the base rate of the words
pub first_rate_lem : (ws : List ℕ) → rate_of (first_of_kind 7 ws) ≡ base_rate ws
unfolding first_of_kind base_rate words_of_kind rate_of
first_rate_lem [] = refl
first_rate_lem (w ∷ ws) = go (eqb (word_kind w) 7) refl (first_rate_lem ws)
  where
    go : (b : Bool) → eqb (word_kind w) 7 ≡ b → rate_of (first_of_kind 7 ws) ≡ base_rate ws
        → rate_of (get_or (cons_if b w (words_of_kind 7 ws)) 0 0) ≡ first_rate (cons_if b w (words_of_kind 7 ws))
    go true e r = rate_of_lem w (kind-there w (eqb-true (word_kind w) 7 e))
    go false e r = r
