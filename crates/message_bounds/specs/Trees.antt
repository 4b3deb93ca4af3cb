-- What a tree sends is held.
use Rattle.std.specs.Prelude.{◌≡◌, refl, List, [], ◌∷◌, map, ℕ, zero, suc, ◌+◌, ◌-◌, ◌*◌, ◌^◌, ◌≤◌, ◌<◌, length, take, Float}
use Rattle.std.proofs.Common.{subst, le_trans, le_of_eq, add-zero, add_assoc, add_comm, mul-le-mul_right, arith, pow_mono}
use Rattle.float_laws.specs.Error.{val32}
use Rattle.float_laws.specs.Totals.{AllAtMost}
use Rattle.float_laws.specs.Products.{AllOver, at_most-take}
use Rattle.float_laws.specs.Table.{upto_le}
use Rattle.definition.specs.Floats.{c}
use Rattle.definition.specs.Vectors.{Message, normalize, avoid_underflow_all}
use Rattle.definition.specs.ConvolutionTree.{message_up, tree_layers, log_length, first_layer, tree_messages}
use Rattle.graph_laws.specs.Convolution.{log_length-least}
use Rattle.graph_laws.specs.Lengths.{Long, length-normalize}
use Rattle.graph_laws.specs.Sending.{Goods}
use Rattle.message_bounds.specs.Bounded.{BoundedEntries, avoid_underflow_bounded}
use Rattle.message_bounds.specs.Normalized.{normalize-is}
use Rattle.message_bounds.specs.Joint.{Joint, joined, real_leaf, padding}
use Rattle.message_bounds.specs.Likelihoods.{LikelihoodBound, stepped}
use Rattle.message_bounds.specs.Held.{HeldMessage, share_of, held_shares, held-over}
use Rattle.message_bounds.specs.TreeLayers.{Layered, Downs, all, first, spare, root_up, leaves-down}

-- ---- layer q: how many entries its vectors have, and the bound of their likelihoods in units of 2 ^ -149
abbrev pub width : ℕ → ℕ
width q = 2 ^ q + 1

abbrev pub bound : ℕ → ℕ → ℕ
bound base zero = base
bound base (suc q) = 2 * width q * bound base q

pub bound_some : (base q : ℕ) → base ≤ bound base q
bound_some base zero = le_of_eq refl
bound_some base (suc q) = grow (2 ^ q) (bound base q) (bound_some base q)
  where
    grow : (a b : ℕ) → base ≤ b → base ≤ 2 * (a + 1) * b
    grow a b h = omega arith

-- below the root of a tree of at most 128 leaves
pub short : (q : ℕ) → q < 7 → width q ≤ 65
short q h = omega (arith, pow_mono {i = q} {j = 6} (omega arith))

pub wider : (q : ℕ) {r : ℕ} {j : List Float} → Joint (width q + width q - 1) r j → Joint (width (suc q)) r j
wider q {r} {j} J = subst (λ (n : ℕ). Joint n r j) (let e : width q + width q - 1 ≡ width (suc q) = omega arith in e) J

-- ---- real leaves are counted
abbrev counted : Layered 7
counted =
    record {
      Leaves = ℕ;
      none = 0;
      leaf = λ (m : Message). 1;
      and = λ (r s : ℕ). r + s;
      and_none = add-zero;
      and_assoc = add_assoc;
      Up = λ (q r : ℕ) (j : List Float). Joint (width q) r j;
      Down = λ (q before r after : ℕ) (l : List Float). LikelihoodBound (bound 256 q) r l;
      padded = padding;
      real = real_leaf;
      joined = λ q r s a b h A B. wider q (joined A B (short q h));
      left = λ q before r s after a b l h A B L. step q r s a b l h A B L;
      right = λ q before r s after a b l h A B L. step q s r b a l h B A (rw (add_comm r) at L);
    }
  where
    step : (q r s : ℕ) (a b l : List Float) → q < 7 → Joint (width q) r a → Joint (width q) s b → LikelihoodBound (bound 256 (suc q)) (r + s) l
        → LikelihoodBound (bound 256 q) r (message_up (length a) b l)
    step q r s a b l h A B L =
        rw A.long (stepped (record { few = short q h; own = A.short; joint = B; bound = L; some = bound_some 256 q; step = le_of_eq refl }))

counted-all : (ms : List Message) → all counted (map counted.leaf ms) ≡ length ms
counted-all [] = refl
counted-all (m ∷ ms) = let e = counted-all ms in omega arith

-- ---- the root: the factor's message, normalised
pub root_bound : {n : ℕ} {f : Message} (M : HeldMessage n f) (B : ℕ) → 10 * suc n * B ≤ 7 * val32 c → LikelihoodBound B n (normalize f)
root_bound {n} {f} M B h =
    record {
      long = omega (arith, length-normalize f, M.long);
      nice = rw normalize-is (held_shares M);
      over = rw normalize-is (overs (suc n) f M.bounded (held_shares M));
    }
  where
    overs : (j : ℕ) (l : Message) → BoundedEntries l → AllAtMost 1 (map (share_of f) l) → AllOver B (take j (map (share_of f) l))
    overs zero l i m = tt
    overs (suc j) [] i m = tt
    overs (suc j) (x ∷ l) i m = (held-over M B h x i.0 m.0, overs j l i.1 m.1)

-- the bounds of all layers of such trees leave room
root_room : (p n : ℕ) → p ≤ 7 → n ≤ 128 → 10 * suc n * bound 256 p ≤ 7 * val32 c
root_room p n h k =
    le_trans (mul-le-mul_right (bound 256 p) (let z : 10 * suc n ≤ 1290 = omega arith in z))
    (upto_le (λ (q : ℕ). 1290 * bound 256 q) (λ (q : ℕ). 7 * val32 c) 8 tt p (omega arith))

-- ---- all that a tree sends
likelihoods_bounded : (n before : ℕ) (rs : List ℕ) (ls : List (List Float)) → Downs counted 0 before rs ls
    → Goods BoundedEntries (map (λ (l : List Float). avoid_underflow_all (take 2 l)) (take n ls))
likelihoods_bounded zero before rs ls L = tt
likelihoods_bounded (suc n) before rs [] L = tt
likelihoods_bounded (suc n) before [] (l ∷ ls) L = absurd L
likelihoods_bounded (suc n) before (r ∷ rs) (l ∷ ls) L =
    (avoid_underflow_bounded (take 2 l) (at_most-take 1 2 l L.0.nice), likelihoods_bounded n (before + r) rs ls L.1)

pub trees_bounded : (f : Message) (ms : List Message) → length ms ≤ 128 → length f ≡ suc (length ms) → BoundedEntries f → Long 2 ms → Goods BoundedEntries ms
    → Goods BoundedEntries (tree_messages f ms)
unfolding tree_messages
trees_bounded f ms h e g l w =
    let p = log_length (length ms) in
    let t = tree_layers p (normalize f) (first_layer ms) in
    let L = root_bound (record { few = h; long = e; bounded = g }) (bound 256 p) (root_room p (length ms) ((log_length-least (length ms)).1 7 h) h) in (
      avoid_underflow_bounded (take (suc (length ms)) t.root) (at_most-take 1 (suc (length ms)) t.root (root_up counted ms h l w (normalize f)).nice),
      likelihoods_bounded (length ms) 0 (first counted ms (spare ms)) t.likelihoods
          (leaves-down counted ms h l w (normalize f) (rw (counted-all ms) L)),
    )
