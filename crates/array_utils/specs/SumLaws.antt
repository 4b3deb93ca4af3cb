-- The sum of a column's logarithms, block by block: what the loop that goes by rows of pairs cites.
use Rattle.std.specs.Prelude.{◌≡◌, take, Float}
use Rattle.std.proofs.Math.Path.{sym, ap}
use Rattle.std.proofs.Common.{◌∙◌, length-drop, drop-drop, take_all}
use mathlib.Core.List.{List}
use Prim.Native.Nat.{ℕ, suc, ◌+◌, ◌-◌, ◌*◌, ◌/◌, ◌≤◌, ◌<◌}
use Rattle.std.proofs.Math.Nat.{le_of_eq}
use native.Mathlib.Omega.{arith}
use Rattle.std.proofs.Math.ListN.{length, drop}
use Rattle.definition.specs.Floats.{◌⊕◌, zeroᶠ, ln}
use Rattle.definition.specs.Vectors.{product_of, sum_log_blocks, sum_logs_batched}
use Rattle.array_utils.specs.Columns.{column, length-column, column-take, column-drop}

-- either column
module _ (pick : Float → Float → Float) where
  abbrev col : List Float → List Float
  col = column pick

  -- i blocks are in the sum acc
  abbrev pub Upto : List Float → Float → ℕ → Type 0
  Upto l acc i = sum_log_blocks (length l / 20 - i) acc (drop (i * 10) (col l)) ≡ sum_logs_batched (col l)

  pub start : (l : List Float) → Upto l zeroᶠ 0
  unfolding sum_logs_batched
  start l =
      let e : length l / 20 - 0 ≡ length (col l) / 10 = omega (arith, length-column pick l) in
      ap (λ (k : ℕ). sum_log_blocks k zeroᶠ (col l)) e

  block : (l : List Float) (i : ℕ) → col (take (i * 20 + 20 - i * 20) (drop (i * 20) l)) ≡ take 10 (drop (i * 10) (col l))
  block l i =
      let e : i * 20 + 20 - i * 20 ≡ 2 * 10 = omega arith in
      let f : i * 20 ≡ 2 * (i * 10) = omega arith in
      ap (λ (n : ℕ). col (take n (drop (i * 20) l))) e
      ∙ column-take pick 10 (drop (i * 20) l)
      ∙ ap (take 10) (ap (λ (n : ℕ). col (drop n l)) f ∙ column-drop pick (i * 10) l)

  -- a turn takes ten entries off what is left
  pub turn :
      (l : List Float) (i : ℕ) (acc p x : Float) →
      i < length l / 20 → p ≡ product_of (col (take (i * 20 + 20 - i * 20) (drop (i * 20) l))) → x ≡ ln p → Upto l acc i → Upto l (acc ⊕ x) (i + 1)
  unfolding sum_log_blocks
  turn l i acc p x h e f u =
      let n = length l / 20 in
      let k : n - i ≡ suc (n - (i + 1)) = omega arith in
      let m : (i + 1) * 10 ≡ i * 10 + 10 = omega arith in
      ap (λ (z : Float). sum_log_blocks (n - (i + 1)) (acc ⊕ z) (drop ((i + 1) * 10) (col l))) (f ∙ ap (λ (z : Float). ln z) (e ∙ ap product_of (block l i)))
      ∙ ap (λ (xs : List Float). sum_log_blocks (n - (i + 1)) (acc ⊕ ln (product_of (take 10 (drop (i * 10) (col l))))) xs) (ap (λ (z : ℕ). drop z (col l)) m ∙ sym (drop-drop 10 (i * 10) (col l)))
      ∙ ap (λ (z : ℕ). sum_log_blocks z acc (drop (i * 10) (col l))) (sym k)
      ∙ u

  -- no block is left
  pub finish :
      (l : List Float) (i : ℕ) (acc p x : Float) →
      i ≤ length l / 20 → length l / 20 ≤ i → p ≡ product_of (col (take (length l - length l / 20 * 20) (drop (length l / 20 * 20) l))) → x ≡ ln p → Upto l acc i → acc ⊕ x ≡ sum_logs_batched (col l)
  unfolding sum_log_blocks
  finish l i acc p x h g e f u =
      let n = length l / 20 in
      let k : n - i ≡ 0 = omega arith in
      let m : n * 20 ≡ 2 * (i * 10) = omega arith in
      let r : length (drop (n * 20) l) ≤ length l - n * 20 = le_of_eq (length-drop (n * 20) l) in
      ap (λ (z : Float). acc ⊕ z) (f ∙ ap (λ (z : Float). ln z) (e ∙ ap (λ (w : List Float). product_of (col w)) (take_all (length l - n * 20) (drop (n * 20) l) r) ∙ ap (λ (z : ℕ). product_of (col (drop z l))) m ∙ ap product_of (column-drop pick (i * 10) l)))
      ∙ ap (λ (z : ℕ). sum_log_blocks z acc (drop (i * 10) (col l))) (sym k)
      ∙ u
