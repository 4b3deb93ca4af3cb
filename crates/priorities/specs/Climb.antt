-- A leaf gets a new key: going up from it, every inner node is right but the parent of the node last written.
use Rattle.std.specs.Prelude.{◌≡◌, refl, List, ℕ, ◌+◌, ◌*◌, ◌/◌, ◌≤◌, ◌<◌, length, get_or, set, drop}
use Rattle.std.proofs.Common.{sym, ◌∙◌, subst, arith, length-set, get_or-set_same, get_or-set_other, get_or-drop}
use Rattle.std.proofs.Math.Logic.{by_cases}
use Rattle.std.proofs.Math.Decide.{ℕ_discrete}
use Rattle.priorities.specs.Keys.{last_key}
use Rattle.priorities.specs.Tournament.{larger_child, Node, Tree, Holds, Queue, tournament, tree_is, tree_holds, holds_tree, holds_leaf, holds_amounts, amounts_set}

-- every inner node is right but one
abbrev pub ButOne : List ℕ → ℕ → ℕ → Type 0
ButOne t w p = (m : ℕ) → 1 ≤ m → m < w → (m ≡ p → ⊥) → Node t m

-- a climb that began with the words s, whose leaves are right, stands at node k
pub record Climb (w : ℕ) (s t : List ℕ) (k : ℕ) : Type 0 where
  pub size : length t ≡ 2 * w
  pub unused : get_or t 0 0 ≡ 0
  pub leaves : (i : ℕ) → get_or t (w + i) 0 ≡ get_or s (w + i) 0
  pub nodes : ButOne t w (k / 2)

node_other : (t : List ℕ) (q x m : ℕ) → (m ≡ q → ⊥) → (2 * m ≡ q → ⊥) → (2 * m + 1 ≡ q → ⊥) → Node t m → Node (set t q x) m
node_other t q x m a b c h = rw (get_or-set_other t q m x 0 a, get_or-set_other t q (2 * m) x 0 b, get_or-set_other t q (2 * m + 1) x 0 c) h

node-same : (t : List ℕ) (p : ℕ) → 1 ≤ p → p < length t → Node (set t p (larger_child t p)) p
node-same t p h l =
    rw (
      get_or-set_same t p (larger_child t p) 0 l,
      get_or-set_other t p (2 * p) (larger_child t p) 0 (λ e. omega arith),
      get_or-set_other t p (2 * p + 1) (larger_child t p) 0 (λ e. omega arith),
    )
    refl

pub climb_start : (w : ℕ) (t : List ℕ) (d key : ℕ) → Tree t w → Climb w (set t (w + d) key) (set t (w + d) key) (w + d)
climb_start w t d key T =
    record {
      size = length-set t (w + d) key ∙ T.size;
      unused = get_or-set_other t (w + d) 0 key 0 (λ e. omega (arith, T.wide)) ∙ T.unused;
      leaves = λ i. refl;
      nodes = λ m a b n. node_other t (w + d) key m (λ e. omega arith) (λ e. n (omega arith)) (λ e. n (omega arith)) (T.nodes m a b);
    }

pub climb_next : (w : ℕ) (s t : List ℕ) (k x : ℕ) → 1 < k → k < 2 * w → x ≡ larger_child t (k / 2) → Climb w s t k → Climb w s (set t (k / 2) x) (k / 2)
climb_next w s t k x h l e c =
    subst (λ (v : ℕ). Climb w s (set t (k / 2) v) (k / 2)) (sym e)
    (record {
      size = length-set t (k / 2) v ∙ c.size;
      unused = get_or-set_other t (k / 2) 0 v 0 (λ q. omega arith) ∙ c.unused;
      leaves = λ i. get_or-set_other t (k / 2) (w + i) v 0 (λ q. omega arith) ∙ c.leaves i;
      nodes = λ m a b n.
          by_cases (ℕ_discrete m (k / 2))
          (λ (q : m ≡ k / 2). subst (Node (set t (k / 2) v)) (sym q) (node-same t (k / 2) (omega arith) (omega (arith, c.size))))
          (λ q. node_other t (k / 2) v m q (λ r. n (omega arith)) (λ r. n (omega arith)) (c.nodes m a b q));
    })
  where
    v : ℕ
    v = larger_child t (k / 2)

-- at the root every node is right
pub climb_top : (w : ℕ) (s t : List ℕ) (k : ℕ) → 1 ≤ w → k ≤ 1 → Climb w s t k → Tree t w
climb_top w s t k o h c = record { wide = o; size = c.size; unused = c.unused; nodes = λ m a b. c.nodes m a b (λ e. omega arith) }

-- and so it is where the parent holds the larger key already
pub climb_stop : (w : ℕ) (s t : List ℕ) (k : ℕ) → 1 ≤ w → get_or t (k / 2) 0 ≡ larger_child t (k / 2) → Climb w s t k → Tree t w
climb_stop w s t k o h c =
    record {
      wide = o;
      size = c.size;
      unused = c.unused;
      nodes = λ m a b. by_cases (ℕ_discrete m (k / 2)) (λ (q : m ≡ k / 2). subst (Node t) (sym q) h) (λ q. c.nodes m a b q);
    }

-- the tree that is reached is the queue of the new keys
pub climbed :
    (w : ℕ) (keys words t : List ℕ) (d key k : ℕ) →
    Holds w keys words → d < length keys → Climb w (set words (w + d) key) t k → Tree t w → t ≡ tournament w (set keys d key)
climbed w keys words t d key k H h c T = tree_is w (set keys d key) H.wide (rw length-set H.fits) t T (λ i. c.leaves i ∙ leaf i)
  where
    leaf : (i : ℕ) → get_or (set words (w + d) key) (w + i) 0 ≡ get_or (set keys d key) i 0
    leaf i =
        by_cases (ℕ_discrete i d)
        (λ (e : i ≡ d). rw e (get_or-set_same words (w + d) key 0 (omega (arith, (holds_tree w keys words H).size, H.fits)) ∙ sym (get_or-set_same keys d key 0 h)))
        (λ e. get_or-set_other words (w + d) (w + i) key 0 (λ q. e (omega arith)) ∙ holds_leaf w keys words H i ∙ sym (get_or-set_other keys d i key 0 e))

pub climbed_queue :
    (w : ℕ) (words t : List ℕ) (d key k : ℕ) → Queue w words → key ≤ last_key → Climb w (set words (w + d) key) t k → Tree t w → Queue w t
climbed_queue w words t d key k Q h c T =
    record {
      full = Q.full;
      keys = drop w t;
      holds = tree_holds w t T;
      amounts = λ i.
          subst (λ (n : ℕ). n ≤ last_key) (sym (get_or-drop w t i 0 ∙ c.leaves i))
          (amounts_set words (w + d) key (holds_amounts w Q.keys words Q.holds Q.amounts) h (w + i));
    }
