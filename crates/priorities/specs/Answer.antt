-- What the queue answers: the definition's `highest_priority` of the keys that the words hold.
use Rattle.std.specs.Prelude.{◌≡◌, List, ℕ, ◌+◌, ◌-◌, ◌≤◌, ◌<◌, get_or, Float, None, Some}
use Rattle.std.specs.Prelude as prelude
use Rattle.std.proofs.Common.{sym, ap, ◌∙◌, subst, arith}
use Rattle.std.proofs.Math.Logic.{by_cases}
use Rattle.std.proofs.Math.Option.{Option, none, some}
use Rattle.std.proofs.Math.Decide.{dec_lt}
use Rattle.std.proofs.Math.ListN.{get_or-eq_default}
use Rattle.std.specs.Float.{binary32}
use Rattle.std.specs.Float.Ieee.{of_bits}
use Rattle.definition.specs.Priorities.{Highest, highest_priority}
use Rattle.priorities.specs.Leaves.{Full}
use Rattle.priorities.specs.Keys.{last_key, decode_key, decoded, Amounts, decode_key_lem, keys_highest, keys-empty}
use Rattle.priorities.specs.Tournament.{Holds, holds_tree, holds_leaf}
use Rattle.priorities.specs.Descent.{FirstLargest, root_largest}
use Rattle.priorities.specs.declared.Highest as found

abbrev pub highest_of : prelude.Option found.Highest → Option Highest
highest_of None = none
highest_of (Some h) = some (record { direction = h.direction; priority = h.amount })

module _ (w : ℕ) (keys words : List ℕ) (H : Holds w keys words) (f : Full w) where
  below_root : (i : ℕ) → get_or keys i 0 ≤ get_or words 1 0
  below_root i =
      by_cases (dec_lt i w)
      (λ (h : i < w). subst (λ (n : ℕ). n ≤ get_or words 1 0) (holds_leaf w keys words H i) (root_largest words w (holds_tree w keys words H) f (w + i) (omega arith) (omega arith)))
      (λ h. let e : get_or keys i 0 ≡ 0 = get_or-eq_default keys 0 (omega (arith, H.fits)) in omega arith)

  pub answer-empty : get_or words 1 0 ≡ 0 → none ≡ highest_priority (decoded keys)
  answer-empty h = sym (keys-empty keys (λ i. omega (arith, below_root i)))

  pub answer_at_lem :
      (r : ℕ) (x : Float) → Amounts words → 1 ≤ get_or words 1 0 → FirstLargest words w r → decode_key (get_or words 1 0) ≡ some x →
      some (record { direction = r - w; priority = x }) ≡ highest_priority (decoded keys)
  answer_at_lem r x b h p e =
      sym
      (keys_highest keys (λ i. subst (λ (n : ℕ). n ≤ last_key) (holds_leaf w keys words H i) (b (w + i))) (r - w)
      (omega (arith, top)) (λ j. omega (arith, top, below_root j)) (λ j l. omega (arith, top, holds_leaf w keys words H j, p.before (w + j) (omega arith) (omega arith)))
      ∙ ap (λ (y : Float). some (record { direction = r - w; priority = y })) (some_same (ap (λ (n : ℕ). some (of_bits binary32 (n - 1))) top ∙ sym (decode_key_lem (get_or words 1 0) h) ∙ e)))
    where
      some_same : {a b : Float} → some a ≡ some b → a ≡ b
      some_same q = cc

      top : get_or keys (r - w) 0 ≡ get_or words 1 0
      top = let q : w + (r - w) ≡ r = omega (arith, p.low) in sym (holds_leaf w keys words H (r - w)) ∙ ap (λ (n : ℕ). get_or words n 0) q ∙ p.root
