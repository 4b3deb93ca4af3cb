-- What a tree sends, entry by entry: within 2 ^ -10 of the exact fraction.
use Rattle.std.specs.Prelude.{◌≡◌, refl, List, [], ◌∷◌, map, ℕ, zero, suc, ◌+◌, ◌*◌, ◌^◌, ◌≤◌, ◌<◌, length, take, get_or, Float}
use Rattle.std.proofs.Common.{sym, ap, ◌∙◌, zero-le, le_trans, mul-le-mul_right, not-suc-le-zero, le_of_suc-le-suc, arith, lit≤, pow_pos, take_all, get_or-take}
use Rattle.std.proofs.Math.Path.{subst}
use Rattle.std.proofs.lemmas.List.{length-map}
use Rattle.std.proofs.Math.ListN.{get_or-map}
use Rattle.std.specs.Float.{nan}
use Rattle.float_laws.specs.Laws.{zeroᶠ}
use Rattle.float_laws.specs.Sums.{sum_from}
use Rattle.float_laws.specs.Error.{val32}
use Rattle.float_laws.specs.Totals.{AllAtMost, at_most-at}
use Rattle.definition.specs.Floats.{avoid_underflow}
use Rattle.definition.specs.Vectors.{Message, normalize, avoid_underflow_all, entry}
use Rattle.definition.specs.ConvolutionTree.{log_length, tree_messages}
use Rattle.definition.specs.Directions.{message_at}
use Rattle.claims.specs.ExactSums.{without}
use Rattle.graph_laws.specs.Convolution.{log_length-least}
use Rattle.graph_laws.specs.Lengths.{Long, length-normalize}
use Rattle.graph_laws.specs.Sending.{Goods}
use Rattle.message_bounds.specs.Bounded.{BoundedEntries}
use Rattle.message_bounds.specs.Held.{HeldMessage}
use Rattle.message_bounds.specs.Trees.{bound_some, short, root_bound}
use Rattle.tree_error.specs.Weights.{Leaf, weight, like, total, sum_weights, sum_below}
use Rattle.tree_error.specs.Numbers.{parts, extra, least, down_parts, fits-at}
use Rattle.tree_error.specs.Layers.{JointNear, counts, leaf_of, message_off, message_some, message_tight}
use Rattle.tree_error.specs.Down.{LikelihoodNear, offs_fine}
use Rattle.tree_error.specs.Fraction.{Close, close_entry, close_raised}
use Rattle.tree_error.specs.Tree.{root_near, leaf_near}

-- ---- the root's likelihoods: the factor's message, normalised
factor_near : {n : ℕ} {f : Message} (p : ℕ) → HeldMessage n f → p ≤ 6 → n ≤ 64 → n ≤ 2 ^ p → LikelihoodNear p n (counts f) (normalize f)
factor_near {n} {f} p M h k w =
    let L = root_bound M (least p) (le_trans (mul-le-mul_right (least p) (let z : 10 * suc n ≤ 650 = omega arith in z)) (fits-at p h).root_room) in
    let S = val32 (sum_from zeroᶠ f) in
    let e : length (normalize f) ≡ suc n = length-normalize f ∙ M.long in
    record {
      long = omega arith;
      tight = message_tight M;
      bound = L;
      P = 2 ^ 149;
      Q = S;
      P-some = pow_pos 149;
      Q-some = message_some M;
      close = offs_fine 1 (down_parts p) (least p) (2 ^ 149) S (counts f) (take (suc n) (normalize f)) (lit≤ tt) (fits-at p h).root_small (bound_some 524288 p)
          L.over (rw (take_all (suc n) (normalize f) (omega arith)) (message_off M));
    }

-- ---- an entry as it is sent: cut from its vector, and raised
entry_raised : (l : List Float) (k n : ℕ) → k < n → k < length l → entry k (avoid_underflow_all (take n l)) ≡ avoid_underflow (get_or l k nan)
unfolding avoid_underflow_all
entry_raised l k zero h g = absurd (not-suc-le-zero h)
entry_raised [] k (suc n) h g = absurd (not-suc-le-zero g)
entry_raised (x ∷ l) zero (suc n) h g = refl
entry_raised (x ∷ l) (suc k) (suc n) h g = entry_raised l k n (le_of_suc-le-suc h) (le_of_suc-le-suc g)

sent_close : (l : List Float) (k n N D : ℕ) → k < n → k < length l → AllAtMost 1 l → Close 2048 (val32 (get_or l k nan)) N D
    → Close 1024 (val32 (entry k (avoid_underflow_all (take n l)))) N D
sent_close l k n N D h g m o = rw entry_raised (close_raised (get_or l k nan) N D (at_most-at 1 l k m g) o)

leaf_close : (x : ℕ → ℕ) (l : List Float) (t : ℕ) → LikelihoodNear 0 1 x l → t < 2
    → Close 1024 (val32 (entry t (avoid_underflow_all (take 2 l)))) (x t) (x 0 + x 1)
leaf_close x l t L h =
    let e : length l ≡ 2 = omega (arith, L.long, L.bound.long) in
    let d : sum_below (length l) x ≡ x 0 + x 1 = ap (λ (n : ℕ). sum_below n x) e ∙ (let z : x 0 + (x 1 + 0) ≡ x 0 + x 1 = omega arith in z) in
    sent_close l t 2 (x t) (x 0 + x 1) h (omega arith) L.bound.nice
    (rw d at
    (close_entry (down_parts 0) 0 L.P L.Q x l L.P-some L.Q-some (lit≤ tt) (rw e zero-le) (omega arith)
    (rw (take_all 2 l (omega arith)) at L.close) L.tight t (omega arith)))

root_close : (p n : ℕ) (ls : List Leaf) (j : List Float) (k : ℕ) → p ≤ 6 → length ls ≡ n → JointNear p ls j → k ≤ n
    → Close 1024 (val32 (entry k (avoid_underflow_all (take (suc n) j)))) (weight k ls) (total ls)
root_close p n ls j k h e J g =
    let r = fits-at p h in
    let x = J.near in
    let i : length ls < length j = omega (arith, J.joint.long, J.joint.short) in
    let u : suc (length j) ≤ 66 = omega (arith, J.joint.long, short p (omega arith)) in
    sent_close j k (suc n) (weight k ls) (total ls) (omega arith) (omega arith) J.joint.nice
    (rw (sum_weights (length j) ls i) at
    (close_entry (parts p) (extra p) x.P x.Q (λ (q : ℕ). weight q ls) j x.P-some x.Q-some r.small
    (le_trans (mul-le-mul_right 1048576 (mul-le-mul_right (extra p) u)) r.units) (omega arith) x.close x.tight k (omega arith)))

-- ---- all that a tree sends
abbrev grade_message : List Float → Message
grade_message l = avoid_underflow_all (take 2 l)

message_at_lem : (ls : List (List Float)) (i n : ℕ) → i < n → message_at i (map grade_message (take n ls)) ≡ grade_message (get_or ls i [])
unfolding avoid_underflow_all
message_at_lem ls i n h = get_or-map grade_message (take n ls) i [] ∙ ap grade_message (get_or-take n ls i [] h)

module _ (f : Message) (ms : List Message) (few : length ms ≤ 64) (e : length f ≡ suc (length ms)) (b : BoundedEntries f) (l : Long 2 ms) (g : Goods BoundedEntries ms) where
  abbrev leaves : List Leaf
  leaves = map leaf_of ms

  abbrev p : ℕ
  p = log_length (length ms)

  shallow : p ≤ 6
  shallow = (log_length-least (length ms)).1 6 few

  -- to the factor, entry k
  pub to-factor : (k : ℕ) → k ≤ length ms → Close 1024 (val32 (entry k (message_at 0 (tree_messages f ms)))) (weight k leaves) (total leaves)
  unfolding tree_messages
  to-factor k h = root_close p (length ms) leaves _ k shallow (length-map ms leaf_of) (root_near (counts f) ms few l g (normalize f)) h

  -- to grade i, entry t
  abbrev others : ℕ → ℕ → ℕ
  others i = like (counts f) (without i leaves)

  pub to-grade : (i t : ℕ) → i < length ms → t < 2 → Close 1024 (val32 (entry t (message_at (suc i) (tree_messages f ms)))) (others i t) (others i 0 + others i 1)
  unfolding tree_messages
  to-grade i t h q =
      let F = factor_near p (record { few = omega arith; long = e; bounded = b }) shallow few (log_length-least (length ms)).0 in
      subst (λ (m : Message). Close 1024 (val32 (entry t m)) (others i t) (others i 0 + others i 1)) (sym (message_at_lem _ i (length ms) h))
      (leaf_close (others i) _ t (leaf_near (counts f) ms few l g (normalize f) F i h) q)
