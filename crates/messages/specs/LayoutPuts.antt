-- Several ranges of a list written one after the other: what a loop that writes a range in each round leaves.
use Prim.Native.Nat.{ℕ, zero, suc, ◌+◌, ◌≤◌, ◌<◌}
use Rattle.std.proofs.Common.{add-one, arith, ◌∙◌}
use Rattle.std.specs.Prelude.{◌≡◌, ◌⊎◌}
use Rattle.std.proofs.Math.Path.{refl, ap}
use mathlib.Core.List.{List}
use Rattle.std.proofs.Math.ListN.{length}
use Rattle.list_laws.specs.Part.{region}
use Rattle.list_laws.specs.Put.{put, length-put, region-out}

module _ {A : Type 0} where
  -- s k put from index at k on, for k = 0 up to n - 1, in that order
  unfoldable pub puts : List A → (ℕ → ℕ) → (ℕ → List A) → ℕ → List A
  puts l at s zero = l
  puts l at s (suc n) = put (puts l at s n) (at n) (s n)

  pub puts_none : (l : List A) (at : ℕ → ℕ) (s : ℕ → List A) → l ≡ puts l at s 0
  unfolding puts
  puts_none l at s = refl

  -- what a loop's proof cites: w is what n rounds left, and m is put at a
  pub puts-next : (l w : List A) (at : ℕ → ℕ) (s : ℕ → List A) (n a : ℕ) (m : List A) → w ≡ puts l at s n → a ≡ at n → m ≡ s n → put w a m ≡ puts l at s (n + 1)
  unfolding puts
  puts-next l w at s n a m e f g = rw (add-one, e, f, g)

  pub length-puts : (l : List A) (at : ℕ → ℕ) (s : ℕ → List A) (n : ℕ) → ((k : ℕ) → k < n → at k + length (s k) ≤ length l) → length (puts l at s n) ≡ length l
  unfolding puts
  length-puts l at s zero h = refl
  length-puts l at s (suc n) h =
      let e : length (puts l at s n) ≡ length l = length-puts l at s n (λ k q. h k (omega arith)) in
      length-put (puts l at s n) (at n) (s n) (omega (arith, h n (omega arith))) ∙ e

  pub puts_ext : (l : List A) (at at' : ℕ → ℕ) (s s' : ℕ → List A) (n : ℕ) → ((k : ℕ) → k < n → at k ≡ at' k) → ((k : ℕ) → k < n → s k ≡ s' k) → puts l at s n ≡ puts l at' s' n
  unfolding puts
  puts_ext l at at' s s' zero e f = refl
  puts_ext l at at' s s' (suc n) e f = cc (puts_ext l at at' s s' n (λ k q. e k (omega arith)) (λ k q. f k (omega arith)), e n (omega arith), f n (omega arith))

  -- the first range put, then the others
  pub puts_first : (l : List A) (at : ℕ → ℕ) (s : ℕ → List A) (n : ℕ) → puts l at s (suc n) ≡ puts (put l (at 0) (s 0)) (λ k. at (suc k)) (λ k. s (suc k)) n
  unfolding puts
  puts_first l at s zero = refl
  puts_first l at s (suc n) = ap (λ (w : List A). put w (at (suc n)) (s (suc n))) (puts_first l at s n)

  -- what lies apart from each of them is left
  pub region-puts : (d : A) (l : List A) (at : ℕ → ℕ) (s : ℕ → List A) (n b m : ℕ) → ((k : ℕ) → k < n → at k + length (s k) ≤ length l) → b + m ≤ length l
      → ((k : ℕ) → k < n → (b + m ≤ at k) ⊎ (at k + length (s k) ≤ b)) → region (puts l at s n) b m ≡ region l b m
  unfolding puts
  region-puts d l at s zero b m h g apart = refl
  region-puts d l at s (suc n) b m h g apart =
      let e : length (puts l at s n) ≡ length l = length-puts l at s n (λ k q. h k (omega arith)) in
      region-out d (puts l at s n) (at n) (s n) b m (omega (arith, h n (omega arith))) (omega arith) (apart n (omega arith))
      ∙ region-puts d l at s n b m (λ k q. h k (omega arith)) g (λ k q. apart k (omega arith))
