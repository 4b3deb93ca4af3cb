-- A held message: its entries in units, and its shares of its sum.
use Rattle.std.specs.Prelude.{◌≡◌, [], ◌∷◌, map, T, length, Float}
use Prim.Native.Nat.{ℕ, suc, ◌*◌, ◌^◌, ◌≤◌, ◌<◌}
use Rattle.std.proofs.Common.{le_trans, lit≤}
use Rattle.std.proofs.Math.Nat.{le_of_mul-le-mul_left}
use native.Mathlib.Omega.{arith}
use Rattle.std.specs.Float.{binary32}
use Rattle.std.specs.Float.Ieee.{div, fits}
use Rattle.std.specs.Float.Ieee.Positive.{positive}
use Rattle.float_laws.specs.Laws.{zeroᶠ}
use Rattle.float_laws.specs.Sums.{sum_from, sum-positive}
use Rattle.float_laws.specs.Error.{val32}
use Rattle.float_laws.specs.Totals.{AtMost, AllAtMost, at_most-finite, at_most_each, sum_fits, shares_at_most}
use Rattle.float_laws.specs.Products.{le→units}
use Rattle.float_laws.specs.Tight.{AllUnder, sum_under, share_tight}
use Rattle.definition.specs.Floats.{c, oneᶠ}
use Rattle.definition.specs.Vectors.{Message}
use Rattle.message_bounds.specs.Bounded.{BoundedEntry, BoundedEntries}
use Rattle.message_bounds.specs.Normalized.{entry-at_most}

-- ---- its entries
pub entry-over : (x : Float) → BoundedEntry x → val32 c ≤ val32 x
entry-over x e = let n = entry-at_most x e in le→units c x (unfold fits in tt) n.held tt n.clear_sign tt (at_most-finite 1 x (lit≤ tt) n) e.inside.low

entry_under : (x : Float) → BoundedEntry x → 8 * val32 x ≤ 9 * 2 ^ 149
entry_under x e =
    let n = entry-at_most x e in
    ninth (val32 x) (2 ^ 149) (le→units x oneᶠ n.held (unfold fits in tt) n.clear_sign tt (at_most-finite 1 x (lit≤ tt) n) tt e.inside.high)
  where
    ninth : (a u : ℕ) → a ≤ u → 8 * a ≤ 9 * u
    ninth a u h = omega arith

bounded_under : (f : Message) → BoundedEntries f → AllUnder (2 ^ 149) f
bounded_under [] h = tt
bounded_under (x ∷ f) h = (entry_under x h.0, bounded_under f h.1)

pub bounded_at_most : (f : Message) → BoundedEntries f → AllAtMost 1 f
bounded_at_most [] h = tt
bounded_at_most (x ∷ f) h = (entry-at_most x h.0, bounded_at_most f h.1)

pub bounded_positive : (f : Message) → 0 < length f → length f ≤ 1024 → BoundedEntries f → T (positive (sum_from zeroᶠ f))
bounded_positive [] s k h = absurd (let z : ⊥ = omega arith in z)
bounded_positive (x ∷ f) s k h =
    sum-positive 1 (x ∷ f) 0 c (omega arith) (at_most_each 1 (x ∷ f) (bounded_at_most (x ∷ f) h)) (omega arith) (unfold fits in tt) tt h.0.inside.low

-- ---- a held message of n + 1 entries
pub record HeldMessage (n : ℕ) (f : Message) : Type 0 where
  pub few : n ≤ 128
  pub long : length f ≡ suc n
  pub bounded : BoundedEntries f

abbrev pub share_of : Message → Float → Float
share_of f x = div binary32 x (sum_from zeroᶠ f)

module _ {n : ℕ} {f : Message} (M : HeldMessage n f) where
  pub held-positive : T (positive (sum_from zeroᶠ f))
  held-positive = bounded_positive f (omega arith) (omega arith) M.bounded

  pub held_shares : AllAtMost 1 (map (share_of f) f)
  held_shares = shares_at_most 1 f (omega arith) (lit≤ tt) (bounded_at_most f M.bounded) held-positive

  pub held-over : (B : ℕ) → 10 * suc n * B ≤ 7 * val32 c → (x : Float) → BoundedEntry x → AtMost 1 (share_of f x) → B ≤ val32 (share_of f x)
  held-over B h x i m =
      enough (suc n) B (val32 c) (val32 (share_of f x)) (omega arith) h
      (share_tight 1 (val32 c) (5 * suc n) x (sum_from zeroᶠ f) (lit≤ tt) (entry-at_most x i) (sum_fits zeroᶠ f (unfold fits in tt)) held-positive
      (at_most-finite 1 _ (lit≤ tt) m) (entry-over x i) small (le_trans (let w : 16 * (5 * suc n) ≤ 10320 = omega arith in w) (lit≤ tt)))
    where
      small : 4 * val32 (sum_from zeroᶠ f) ≤ 5 * suc n * 2 ^ 149
      small =
          rw M.long at
          (sum_under 1 f (omega arith) (omega arith) (lit≤ tt) (bounded_at_most f M.bounded) (bounded_under f M.bounded))

      enough : (m b a d : ℕ) → 0 < m → 10 * m * b ≤ 7 * a → 7 * a ≤ 2 * (5 * m) * d → b ≤ d
      enough m b a d p h g = le_of_mul-le-mul_left {k = 10 * m} (let z : 10 * m * b ≤ 10 * m * d = omega arith in z) (omega arith)
