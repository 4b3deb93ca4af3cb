-- The layers of a tree: its vectors are near the exact sums of their leaves.
use Rattle.std.specs.Prelude.{◌≡◌, refl, List, [], ◌∷◌, ◌++◌, map, ℕ, zero, suc, ◌+◌, ◌*◌, ◌^◌, ◌<◌, T, length, Float}
use Rattle.std.proofs.Common.{sym, subst, mul-one, one-mul, arith, lit≤, pow_pos, length-append}
use Rattle.std.proofs.Math.Path.{fun_ext}
use Rattle.std.specs.Float.{binary32}
use Rattle.std.specs.Float.Ieee.{add, div, round, fits}
use Rattle.std.specs.Float.Ieee.Positive.{positive}
use Rattle.float_laws.specs.Laws.{zeroᶠ, oneᶠ}
use Rattle.float_laws.specs.Sums.{sum_from}
use Rattle.float_laws.specs.Error.{val32, exact_sum}
use Rattle.float_laws.specs.Totals.{AllAtMost, at_most-finite, sum_fits, val_pos}
use Rattle.definition.specs.Vectors.{Message, binary, normalize, entry, sum_of}
use Rattle.definition.specs.ConvolutionTree.{convolve}
use Rattle.message_bounds.specs.Bounded.{BoundedEntries}
use Rattle.message_bounds.specs.Normalized.{normalize-is}
use Rattle.message_bounds.specs.Held.{HeldMessage, bounded_at_most, held-positive, held_shares}
use Rattle.message_bounds.specs.Joint.{Joint, joined, real_leaf, padding}
use Rattle.message_bounds.specs.Trees.{width, wider, short}
use Rattle.tree_error.specs.Off.{Off}
use Rattle.tree_error.specs.Weights.{Leaf, weight}
use Rattle.tree_error.specs.Terms.{Offs}
use Rattle.tree_error.specs.Shares.{share_plain, normal_tight}
use Rattle.tree_error.specs.Numbers.{parts, extra, fits-at}
use Rattle.tree_error.specs.Up.{NearWeights, joined_near}

-- a vector of layer q and its leaves
pub record JointNear (q : ℕ) (ls : List Leaf) (j : List Float) : Type 0 where
  pub joint : Joint (width q) (length ls) j
  pub near : NearWeights (parts q) (extra q) ls j

-- ---- one layer up, in a tree of at most 64 leaves
pub near_joined : (q : ℕ) (ls ms : List Leaf) (a b : List Float) → q < 6 → JointNear q ls a → JointNear q ms b
    → JointNear (suc q) (ls ++ ms) (normalize (convolve a b))
near_joined q ls ms a b h A B =
    let few = short q (omega arith) in
    let f = fits-at q (omega arith) in
    record {
      joint = rw length-append (wider q (joined A.joint B.joint few));
      near = joined_near (width q) (parts q) (extra q) ls ms a b A.joint B.joint A.near B.near few f.join_small f.join_units;
    }

-- ---- a held message, normalised: off its own entries, in units, by one part and one unit
abbrev pub counts : Message → ℕ → ℕ
counts m i = val32 (entry i m)

shares_off : (s : Float) → T (fits binary32 s) → T (positive s) → (m : Message) → AllAtMost 1 m → AllAtMost 1 (map (λ (x : Float). div binary32 x s) m)
    → Offs 1 1 (2 ^ 149) (val32 s) (counts m) (map (λ (x : Float). div binary32 x s) m)
shares_off s u q [] n f = tt
shares_off s u q (x ∷ m) n f =
    (rw one-mul (share_plain 1 x s (lit≤ tt) n.0 u q (at_most-finite 1 (div binary32 x s) (lit≤ tt) f.0)), shares_off s u q m n.1 f.1)

module _ {n : ℕ} {m : Message} (M : HeldMessage n m) where
  sum_fit : T (fits binary32 (sum_from zeroᶠ m))
  sum_fit = sum_fits zeroᶠ m (unfold fits in tt)

  pub message_off : Offs 1 1 (2 ^ 149) (val32 (sum_from zeroᶠ m)) (counts m) (normalize m)
  message_off = rw normalize-is (shares_off (sum_from zeroᶠ m) sum_fit (held-positive M) m (bounded_at_most m M.bounded) (held_shares M))

  pub message_some : 0 < val32 (sum_from zeroᶠ m)
  message_some = val_pos (sum_from zeroᶠ m) sum_fit (held-positive M)

  pub message_tight : Off (4 * length (normalize m) + 3) 0 (exact_sum 0 (normalize m)) (2 ^ 149)
  message_tight = normal_tight 1 m (omega arith) (lit≤ tt) (bounded_at_most m M.bounded) (held-positive M)

-- ---- the leaves
abbrev pub leaf_of : Message → Leaf
leaf_of m = record { absent = counts m 0; present = counts m 1 }

leaf_weight : (m : Message) → length m ≡ 2 → (i : ℕ) → counts m i ≡ weight i (leaf_of m ∷ [])
leaf_weight [] l i = absurd (let z : ⊥ = omega arith in z)
leaf_weight (x ∷ []) l i = absurd (let z : ⊥ = omega arith in z)
leaf_weight (x ∷ y ∷ w ∷ m) l i = absurd (let z : ⊥ = omega arith in z)
leaf_weight (x ∷ y ∷ []) l zero = sym (mul-one (val32 x))
leaf_weight (x ∷ y ∷ []) l (suc zero) = plain (val32 x) (val32 y)
  where
    plain : (a b : ℕ) → b ≡ a * 0 + b * 1
    plain a b = omega arith
leaf_weight (x ∷ y ∷ []) l (suc (suc i)) = plain (val32 x) (val32 y)
  where
    plain : (a b : ℕ) → 0 ≡ a * 0 + b * 0
    plain a b = omega arith

pub near_leaf : (m : Message) → length m ≡ 2 → BoundedEntries m → JointNear 0 (leaf_of m ∷ []) (normalize m)
near_leaf m l h =
    let M : HeldMessage 1 m = record { few = lit≤ tt; long = l; bounded = h } in
    record {
      joint = real_leaf m l h;
      near = record {
        tight = message_tight M;
        P = 2 ^ 149;
        Q = val32 (sum_from zeroᶠ m);
        P-some = pow_pos 149;
        Q-some = message_some M;
        close = subst (λ (c : ℕ → ℕ). Offs 1 1 (2 ^ 149) (val32 (sum_from zeroᶠ m)) c (normalize m)) (fun_ext (leaf_weight m l)) (message_off M);
      };
    }

padding-is : normalize (binary oneᶠ zeroᶠ) ≡ oneᶠ ∷ zeroᶠ ∷ []
unfolding normalize sum_of add div round
padding-is = refl

pub near_padding : JointNear 0 [] (normalize (binary oneᶠ zeroᶠ))
near_padding = record { joint = padding; near = subst (NearWeights 1 1 []) (sym padding-is) plain }
  where
    plain : NearWeights 1 1 [] (oneᶠ ∷ zeroᶠ ∷ [])
    plain =
        record {
          tight = record { over = lit≤ tt; under = lit≤ tt };
          P = 2 ^ 149;
          Q = 1;
          P-some = pow_pos 149;
          Q-some = lit≤ tt;
          close = (record { over = lit≤ tt; under = lit≤ tt }, (record { over = lit≤ tt; under = lit≤ tt }, tt));
        }
