-- Going down from the root to the first leaf that holds the root's key.
use Rattle.std.specs.Prelude.{◌≡◌, List, ℕ, zero, suc, ◌+◌, ◌*◌, ◌^◌, ◌≤◌, ◌<◌, get_or}
use Rattle.std.proofs.Common.{sym, ◌∙◌, pow-suc, add-mul, mul_assoc, mul_comm, mul-one, one-mul, le-mul_of_pos_right, le_trans, arith, pow_pos}
use Rattle.std.proofs.Math.Logic.{by_cases}
use Rattle.std.proofs.Math.Nat.{le-max_left, le-max_right, max-eq_left, max-eq_right}
use Rattle.std.proofs.Math.Decide.{dec_lt}
use Rattle.priorities.specs.Leaves.{Full}
use Rattle.priorities.specs.Tournament.{Node, Tree}

-- r is the first of the words from w on that holds the root's key
pub record FirstLargest (t : List ℕ) (w r : ℕ) : Type 0 where
  pub low : w ≤ r
  pub high : r < 2 * w
  pub root : get_or t r 0 ≡ get_or t 1 0
  pub before : (m : ℕ) → w ≤ m → m < r → get_or t m 0 < get_or t 1 0

-- node k stands over the 2 ^ e leaves from word k * 2 ^ e on, it holds the root's key, and every leaf before those is smaller
pub record Descent (t : List ℕ) (w k : ℕ) : Type 0 where
  pub e : ℕ
  pub low : w ≤ k * 2 ^ e
  pub high : k * 2 ^ e + 2 ^ e ≤ 2 * w
  pub root : get_or t k 0 ≡ get_or t 1 0
  pub before : (m : ℕ) → w ≤ m → m < k * 2 ^ e → get_or t m 0 < get_or t 1 0

-- the leaves of the children of node k
twice : (k e : ℕ) → 2 * k * 2 ^ e ≡ k * 2 ^ suc e
twice k e = rw pow-suc (omega (arith, mul_assoc 2 k (2 ^ e), mul_assoc k (2 ^ e) 2, mul_comm (k * 2 ^ e) 2))

right : (k e : ℕ) → (2 * k + 1) * 2 ^ e ≡ k * 2 ^ suc e + 2 ^ e
right k e = add-mul (2 * k) 1 (2 ^ e) ∙ (rw (twice k e, one-mul))

-- in a row for `omega`
levels :
    (k e : ℕ) →
    (2 * k * 2 ^ e ≡ k * 2 ^ suc e) × ((2 * k + 1) * 2 ^ e ≡ k * 2 ^ suc e + 2 ^ e) × (2 ^ suc e ≡ 2 * 2 ^ e) × (1 ≤ 2 ^ e) × (2 * k ≤ k * 2 ^ suc e)
levels k e = (
  twice k e,
  right k e,
  pow-suc 2 e ∙ mul_comm (2 ^ e) 2,
  pow_pos e,
  omega (arith, le-mul_of_pos_right (2 * k) (pow_pos e), twice k e),
)

node-left : (t : List ℕ) (k : ℕ) → Node t k → get_or t (2 * k) 0 ≤ get_or t k 0
node-left t k n = rw n (le-max_left (get_or t (2 * k) 0) (get_or t (2 * k + 1) 0))

node_right : (t : List ℕ) (k : ℕ) → Node t k → get_or t (2 * k + 1) 0 ≤ get_or t k 0
node_right t k n = rw n (le-max_right (get_or t (2 * k) 0) (get_or t (2 * k + 1) 0))

-- no leaf below k is larger than k
under :
    (t : List ℕ) (w : ℕ) → Tree t w → (e k : ℕ) →
    1 ≤ k → k * 2 ^ e + 2 ^ e ≤ 2 * w → (m : ℕ) → k * 2 ^ e ≤ m → m < k * 2 ^ e + 2 ^ e → get_or t m 0 ≤ get_or t k 0
under t w T zero k h b m lo hi =
    let x : m ≡ k = omega (arith, mul-one k) in
    rw x (omega arith)
under t w T (suc e) k h b m lo hi =
    let n = T.nodes k h (omega (arith, levels k e)) in
    by_cases (dec_lt m (k * 2 ^ suc e + 2 ^ e))
    (λ y. le_trans (under t w T e (2 * k) (omega arith) (omega (arith, levels k e)) m (omega (arith, levels k e)) (omega (arith, levels k e))) (node-left t k n))
    (λ y. le_trans (under t w T e (2 * k + 1) (omega arith) (omega (arith, levels k e)) m (omega (arith, levels k e)) (omega (arith, levels k e))) (node_right t k n))

-- no leaf is larger than the root
pub root_largest : (t : List ℕ) (w : ℕ) → Tree t w → Full w → (m : ℕ) → w ≤ m → m < 2 * w → get_or t m 0 ≤ get_or t 1 0
root_largest t w T f m lo hi =
    under t w T f.height 1 (omega arith) (omega (arith, f.is, one-mul (2 ^ f.height))) m (omega (arith, f.is, one-mul (2 ^ f.height))) (omega (arith, f.is, one-mul (2 ^ f.height)))

-- to the left child, where the right one is no larger
pub descent_left :
    (t : List ℕ) (w k : ℕ) → Tree t w → 1 ≤ k → k < w → get_or t (2 * k + 1) 0 ≤ get_or t (2 * k) 0 → Descent t w k → Descent t w (2 * k)
descent_left t w k T h l q d = go d.e d.low d.high d.before
  where
    go :
        (e : ℕ) → w ≤ k * 2 ^ e → k * 2 ^ e + 2 ^ e ≤ 2 * w →
        ((m : ℕ) → w ≤ m → m < k * 2 ^ e → get_or t m 0 < get_or t 1 0) → Descent t w (2 * k)
    go zero lo hi b = absurd (omega (arith, mul-one k))
    go (suc e) lo hi b =
        record {
          e = e;
          low = omega (arith, levels k e);
          high = omega (arith, levels k e);
          root = sym (T.nodes k h l ∙ max-eq_left q) ∙ d.root;
          before = λ m a c. b m a (omega (arith, levels k e));
        }

-- to the right child, where the left one is smaller
pub descent_right :
    (t : List ℕ) (w k : ℕ) → Tree t w → 1 ≤ k → k < w → get_or t (2 * k) 0 < get_or t (2 * k + 1) 0 → Descent t w k → Descent t w (2 * k + 1)
descent_right t w k T h l q d = go d.e d.low d.high d.before
  where
    top : get_or t (2 * k + 1) 0 ≡ get_or t 1 0
    top = sym (T.nodes k h l ∙ max-eq_right (let z : get_or t (2 * k) 0 ≤ get_or t (2 * k + 1) 0 = omega arith in z)) ∙ d.root

    go :
        (e : ℕ) → w ≤ k * 2 ^ e → k * 2 ^ e + 2 ^ e ≤ 2 * w →
        ((m : ℕ) → w ≤ m → m < k * 2 ^ e → get_or t m 0 < get_or t 1 0) → Descent t w (2 * k + 1)
    go zero lo hi b = absurd (omega (arith, mul-one k))
    go (suc e) lo hi b =
        record {
          e = e;
          low = omega (arith, levels k e);
          high = omega (arith, levels k e);
          root = top;
          before = λ m a c.
              by_cases (dec_lt m (k * 2 ^ suc e))
              (λ y. b m a y)
              (λ y.
              let u : get_or t m 0 ≤ get_or t (2 * k) 0 =
              under t w T e (2 * k) (omega arith) (omega (arith, levels k e)) m (omega (arith, levels k e)) (omega (arith, levels k e)) in
              let v = top in
              omega arith);
        }

pub descent_end : (t : List ℕ) (w k : ℕ) → k < 2 * w → w ≤ k → Descent t w k → FirstLargest t w k
descent_end t w k h l d = record { low = l; high = h; root = d.root; before = go d.e d.high d.before }
  where
    go :
        (e : ℕ) → k * 2 ^ e + 2 ^ e ≤ 2 * w → ((m : ℕ) → w ≤ m → m < k * 2 ^ e → get_or t m 0 < get_or t 1 0) →
        (m : ℕ) → w ≤ m → m < k → get_or t m 0 < get_or t 1 0
    go zero hi b m p q = b m p (omega (arith, mul-one k))
    go (suc e) hi b m p q = absurd (omega (arith, levels k e))
