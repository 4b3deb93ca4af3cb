-- The walk of a component on the lent words, as the code does it.
use Rattle.std.specs.Prelude.{◌≡◌, Bool, List, [], ◌∷◌, set}
use Rattle.std.proofs.Math.Path.{refl, ap, subst}
use Rattle.std.proofs.Common.{sym, ◌∙◌, add-one, get_or-set_other}
use Rattle.std.proofs.Math.Bool.{true, false, cond, true≢false}
use Prim.Native.Nat.{ℕ, zero, suc, ◌+◌, ◌*◌, ◌-◌, ◌≤◌, ◌<◌}
use Rattle.std.proofs.Math.Nat.{add-zero, add-suc}
use native.Mathlib.Omega.{arith}
use Rattle.std.proofs.Math.Dec.{eqb, eqb-suc-zero}
use borrow.Author.Tests.{eqb-false}
use Rattle.std.proofs.Math.ListN.{length, get_or, length-set}
use Rattle.std.proofs.Math.Seq.{get_or-set_same}
use Rattle.graph_laws.specs.Bools.{eqb_sound, eqb_same, not-true}
use Rattle.components.specs.ComponentMemory.{Memory, memory, out_at, with_node_numbers, with_stack, with_out, store_node_number, store_stack, store_out, read_node_number, length_node_numbers}

-- ---- the record of a graph, by number: where a node's slots begin, the edge in a slot, an edge's ends

module _ (n s : ℕ) (g : List ℕ) where
  abbrev pub first_of : ℕ → ℕ
  first_of v = get_or g (2 + 2 * n + v) 0

  abbrev pub slot_of : ℕ → ℕ
  slot_of i = get_or g (3 + 3 * n + i) 0

  abbrev pub end_of : ℕ → ℕ → ℕ
  end_of k j = get_or g (3 + 3 * n + s + 5 * k + j) 0

  -- the end of edge k that is not v
  abbrev pub other_end_of : ℕ → ℕ → ℕ
  other_end_of v k = cond (eqb v (end_of k 0)) (end_of k 1) (end_of k 0)

-- slots, edges and ends are those of the record
pub record Sound (n e s : ℕ) (g : List ℕ) : Type 0 where
  pub firsts : (v : ℕ) → v < n → first_of n s g v ≤ first_of n s g (v + 1)
  pub lasts : (v : ℕ) → v < n → first_of n s g (v + 1) ≤ s
  pub slots : (i : ℕ) → i < s → slot_of n s g i < e
  pub ones : (k : ℕ) → k < e → end_of n s g k 0 < n
  pub twos : (k : ℕ) → k < e → end_of n s g k 1 < n

-- ---- the walk

-- the lent words, how many nodes were met in this component, and how many of them are on the stack
pub record Walk : Type 0 where
  pub memory : Memory
  pub count : ℕ
  pub top : ℕ

abbrev pub walk_of : Memory → ℕ → ℕ → Walk
walk_of m c t = record { memory = m; count = c; top = t }

-- A node is met: it gets the next number, and goes onto the stack and into the list of those met, which is kept where the record's kinds will be.
abbrev pub meet : ℕ → ℕ → Walk → Walk
meet at v x =
    walk_of
    (with_out
    (with_stack (with_node_numbers x.memory (set x.memory.node_numbers v (x.count + 1))) (set x.memory.stack x.top v))
    (set x.memory.out (at + 2 + x.count) v))
    (x.count + 1) (x.top + 1)

-- a node without a number is met
unfoldable pub visit_node : ℕ → ℕ → Walk → Walk
visit_node at v x = cond (eqb (get_or x.memory.node_numbers v 0) 0) (meet at v x) x

module _ (n s at : ℕ) (g : List ℕ) (v first : ℕ) where
  -- the neighbours of v in the slots from `first` on, so many
  unfoldable pub visit_slots : ℕ → Walk → Walk
  visit_slots zero x = x
  visit_slots (suc k) x = visit_node at (other_end_of n s g v (slot_of n s g (first + k))) (visit_slots k x)

module _ (n s at : ℕ) where
  -- the neighbours of v
  unfoldable pub visit_neighbours : ℕ → Walk → Walk
  visit_neighbours v x =
      visit_slots n s at x.memory.graph v (first_of n s x.memory.graph v) (first_of n s x.memory.graph (v + 1) - first_of n s x.memory.graph v) x

-- ---- what a visit keeps

-- how many entries are 0
abbrev pub zeros : List ℕ → ℕ
zeros [] = 0
zeros (x ∷ xs) = cond (eqb x 0) 1 0 + zeros xs

pub zeros-set : (l : List ℕ) (i x : ℕ) → i < length l → eqb (get_or l i 0) 0 ≡ true → zeros (set l i (x + 1)) + 1 ≡ zeros l
zeros-set [] i x h q = absurd (let z : ⊥ = omega arith in z)
zeros-set (y ∷ l) zero x h q = rw (q, add-one x, eqb-suc-zero x) (omega arith)
zeros-set (y ∷ l) (suc i) x h q = omega (arith, zeros-set l i x (omega arith) q)

-- every node on the stack is one of n
abbrev pub StackBelow : ℕ → Walk → Type 0
StackBelow n x = (j : ℕ) → j < x.top → get_or x.memory.stack j 0 < n

pub record Kept (n : ℕ) (x y : Walk) : Type 0 where
  pub graph : y.memory.graph ≡ x.memory.graph
  pub numbers : length y.memory.node_numbers ≡ length x.memory.node_numbers
  pub stack : length y.memory.stack ≡ length x.memory.stack
  pub out : length y.memory.out ≡ length x.memory.out
  pub counts : y.count + zeros y.memory.node_numbers ≡ x.count + zeros x.memory.node_numbers
  pub tops : y.top + zeros y.memory.node_numbers ≡ x.top + zeros x.memory.node_numbers
  pub more : x.count ≤ y.count

pub kept_same : (n : ℕ) (x : Walk) → Kept n x x
kept_same n x = record { graph = refl; numbers = refl; stack = refl; out = refl; counts = refl; tops = refl; more = omega arith }

pub kept_then : (n : ℕ) (x y z : Walk) → Kept n x y → Kept n y z → Kept n x z
kept_then n x y z a b =
    record {
      graph = b.graph ∙ a.graph;
      numbers = b.numbers ∙ a.numbers;
      stack = b.stack ∙ a.stack;
      out = b.out ∙ a.out;
      counts = b.counts ∙ a.counts;
      tops = b.tops ∙ a.tops;
      more = omega (arith, a.more, b.more);
    }

module _ (n at : ℕ) where
  pub visit-kept : (v : ℕ) (x : Walk) → v < length x.memory.node_numbers → Kept n x (visit_node at v x)
  unfolding visit_node
  visit-kept v x h = go (eqb (get_or x.memory.node_numbers v 0) 0) refl
    where
      go : (b : Bool) → eqb (get_or x.memory.node_numbers v 0) 0 ≡ b → Kept n x (cond b (meet at v x) x)
      go false q = kept_same n x
      go true q =
          let z = zeros-set x.memory.node_numbers v x.count h q in
          record {
            graph = refl;
            numbers = length-set x.memory.node_numbers v (x.count + 1);
            stack = length-set x.memory.stack x.top v;
            out = length-set x.memory.out (at + 2 + x.count) v;
            counts = omega (arith, z);
            tops = omega (arith, z);
            more = omega arith;
          }

  pub visit-below : (v : ℕ) (x : Walk) → v < n → v < length x.memory.node_numbers → x.top + zeros x.memory.node_numbers ≤ length x.memory.stack → StackBelow n x → StackBelow n (visit_node at v x)
  unfolding visit_node
  visit-below v x h r l b = go (eqb (get_or x.memory.node_numbers v 0) 0) refl
    where
      one : (j : ℕ) → j < x.top + 1 → x.top < length x.memory.stack → (c : Bool) → eqb j x.top ≡ c → get_or (set x.memory.stack x.top v) j 0 < n
      one j k f true q = rw (eqb_sound j x.top q, get_or-set_same x.memory.stack x.top v 0 f) h
      one j k f false q =
          let d : (j ≡ x.top → ⊥) = λ r. true≢false (sym (eqb_same x.top) ∙ subst (λ (t : ℕ). eqb t x.top ≡ false) r q) in
          rw (get_or-set_other x.memory.stack x.top j v 0 d) (b j (omega (arith, d)))

      go : (c : Bool) → eqb (get_or x.memory.node_numbers v 0) 0 ≡ c → StackBelow n (cond c (meet at v x) x)
      go false q = b
      go true q = λ j k. one j k (omega (arith, zeros-set x.memory.node_numbers v x.count r q)) (eqb j x.top) refl

module _ (n e s at : ℕ) (g : List ℕ) (sound : Sound n e s g) (v : ℕ) where
  -- the other end of an edge in a slot is a node
  pub other_below : (i : ℕ) → i < s → other_end_of n s g v (slot_of n s g i) < n
  other_below i h = go (eqb v (end_of n s g (slot_of n s g i) 0))
    where
      go : (c : Bool) → cond c (end_of n s g (slot_of n s g i) 1) (end_of n s g (slot_of n s g i) 0) < n
      go true = sound.twos (slot_of n s g i) (sound.slots i h)
      go false = sound.ones (slot_of n s g i) (sound.slots i h)

  module _ (first : ℕ) (x : Walk) (sized : length x.memory.node_numbers ≡ n) where
    pub slots_kept : (k : ℕ) → first + k ≤ s → Kept n x (visit_slots n s at g v first k x)
    unfolding visit_slots
    slots_kept zero h = kept_same n x
    slots_kept (suc k) h =
        let r = slots_kept k (omega arith) in
        kept_then n x (visit_slots n s at g v first k x) _ r
        (visit-kept n at (other_end_of n s g v (slot_of n s g (first + k))) (visit_slots n s at g v first k x) (rw (r.numbers, sized) (other_below (first + k) (omega arith))))

    -- no visit makes the count less
    pub slots-more : (j k : ℕ) → first + (j + k) ≤ s → (visit_slots n s at g v first j x).count ≤ (visit_slots n s at g v first (j + k) x).count
    unfolding visit_slots
    slots-more j zero h = rw add-zero (omega arith)
    slots-more j (suc k) h =
        let r = slots_kept (j + k) (omega arith) in
        let q = visit-kept n at (other_end_of n s g v (slot_of n s g (first + (j + k)))) (visit_slots n s at g v first (j + k) x) (rw (r.numbers, sized) (other_below (first + (j + k)) (omega arith))) in
        rw add-suc (omega (arith, q.more, slots-more j k (omega arith)))

    pub slots-below : (full : length x.memory.stack ≡ n) → x.top + zeros x.memory.node_numbers ≤ n → StackBelow n x → (k : ℕ) → first + k ≤ s → StackBelow n (visit_slots n s at g v first k x)
    unfolding visit_slots
    slots-below full t b zero h = b
    slots-below full t b (suc k) h =
        let r = slots_kept k (omega arith) in
        let o = other_below (first + k) (omega arith) in
        visit-below n at (other_end_of n s g v (slot_of n s g (first + k))) (visit_slots n s at g v first k x) o (rw (r.numbers, sized) o)
        (omega (arith, r.tops, r.stack)) (slots-below full t b k (omega arith))

-- ---- the words that are stored when a node is met

pub meet_stored : (n e s at : ℕ) (w : List ℕ) (v count top i j k : ℕ) → i ≡ 3 + 3 * n + s + 5 * e + v → j ≡ 3 + 3 * n + s + 5 * e + n + e + top → k ≡ out_at n e s + (at + 2 + count)
    → v < n → top < n → memory n e s (set (set (set w i (count + 1)) j v) k v) ≡ (meet at v (walk_of (memory n e s w) count top)).memory
meet_stored n e s at w v count top i j k p q r h t =
    let w₁ = set w i (count + 1) in
    let a : memory n e s w₁ ≡ with_node_numbers (memory n e s w) (set (memory n e s w).node_numbers v (count + 1)) = store_node_number n e s w i v (count + 1) p h in
    let b : memory n e s (set w₁ j v) ≡ with_stack (memory n e s w₁) (set (memory n e s w₁).stack top v) = store_stack n e s w₁ j top v q t in
    store_out n e s (set w₁ j v) k (at + 2 + count) v r
    ∙ ap (λ (m : Memory). with_out m (set m.out (at + 2 + count) v)) (b ∙ ap (λ (m : Memory). with_stack m (set m.stack top v)) a)

-- what a visit of the neighbours asks: the graph is sound, v a node, the numbers suffice, and the list of those met fits
pub record Visiting (n e s at v : ℕ) (x : Walk) : Type 0 where
  pub sound : Sound n e s x.memory.graph
  pub node : v < n
  pub counts : x.count + zeros x.memory.node_numbers ≤ n
  pub tops : x.top + zeros x.memory.node_numbers ≤ n
  pub small : n < 4294967296
  pub room : at + 2 + (visit_neighbours n s at v x).count ≤ length x.memory.out

-- what the visit of one node asks
pub record Meeting (n e s at v : ℕ) (w : List ℕ) (count top : ℕ) : Type 0 where
  pub scratch : 3 + 3 * n + s + 5 * e + n + e + n ≤ length w
  pub node : v < n
  pub counts : count + zeros (memory n e s w).node_numbers ≤ n
  pub tops : top + zeros (memory n e s w).node_numbers ≤ n
  pub small : n < 4294967296
  pub room : out_at n e s + (at + 2 + (visit_node at v (walk_of (memory n e s w) count top)).count) ≤ length w

module _ (n e s at v : ℕ) (w : List ℕ) (count top : ℕ) (m : Meeting n e s at v w count top) (i : ℕ) (at_i : i ≡ 3 + 3 * n + s + 5 * e + v) where
  number_is : get_or w i 0 ≡ get_or (memory n e s w).node_numbers v 0
  number_is = read_node_number n e s w i v 0 at_i m.node

  -- a node that has a number
  pub visit-none : (get_or w i 0 ≡ 0 → ⊥) → walk_of (memory n e s w) count top ≡ visit_node at v (walk_of (memory n e s w) count top)
  unfolding visit_node
  visit-none h =
      ap (λ (b : Bool). cond b (meet at v (walk_of (memory n e s w) count top)) (walk_of (memory n e s w) count top))
      (sym (not-true (eqb (get_or (memory n e s w).node_numbers v 0) 0) (λ q. h (number_is ∙ eqb_sound _ _ q))))

  module _ (h : get_or w i 0 ≡ 0) where
    free : eqb (get_or (memory n e s w).node_numbers v 0) 0 ≡ true
    free = ap (λ (x : ℕ). eqb x 0) (sym number_is ∙ h)

    -- and one that has none
    pub visit-one : visit_node at v (walk_of (memory n e s w) count top) ≡ meet at v (walk_of (memory n e s w) count top)
    unfolding visit_node
    visit-one = ap (λ (b : Bool). cond b (meet at v (walk_of (memory n e s w) count top)) (walk_of (memory n e s w) count top)) free

    pub meeting_room : (count < n) × (top < n) × (out_at n e s + (at + 2 + (count + 1)) ≤ length w)
    meeting_room =
        let z = zeros-set (memory n e s w).node_numbers v count (omega (arith, length_node_numbers n e s w m.scratch, m.node)) free in
        let r : (visit_node at v (walk_of (memory n e s w) count top)).count ≡ count + 1 = ap (λ (x : Walk). x.count) visit-one in
        (omega (arith, z, m.counts), omega (arith, z, m.tops), omega (arith, r, m.room))

    pub visit_stored : (j k : ℕ) → j ≡ 3 + 3 * n + s + 5 * e + n + e + top → k ≡ out_at n e s + (at + 2 + count)
        → walk_of (memory n e s (set (set (set w i (count + 1)) j v) k v)) (count + 1) (top + 1) ≡ visit_node at v (walk_of (memory n e s w) count top)
    visit_stored j k p q =
        ap (λ (x : Memory). walk_of x (count + 1) (top + 1)) (meet_stored n e s at w v count top i j k at_i p q m.node meeting_room.1) ∙ sym visit-one

-- ---- the walk, until the stack is empty

-- the top of the stack is taken, its place set to 0, and its neighbours are visited
abbrev pub top_of : Walk → ℕ
top_of x = get_or x.memory.stack (x.top - 1) 0

abbrev pub pop : Walk → Walk
pop x = walk_of (with_stack x.memory (set x.memory.stack (x.top - 1) 0)) x.count (x.top - 1)

module _ (n s at : ℕ) where
  abbrev pub turn : Walk → Walk
  turn x = visit_neighbours n s at (top_of x) (pop x)

  -- so many turns at most
  unfoldable pub walked : ℕ → Walk → Walk
  walked zero x = x
  walked (suc k) x = cond (eqb x.top 0) x (walked k (turn x))

-- ---- what the walk keeps

module _ (n e s at : ℕ) where
  -- what the walk asks of its state
  pub record Walking (x : Walk) : Type 0 where
    pub sound : Sound n e s x.memory.graph
    pub numbers : length x.memory.node_numbers ≡ n
    pub stack : length x.memory.stack ≡ n
    pub counts : x.count + zeros x.memory.node_numbers ≤ n
    pub tops : x.top + zeros x.memory.node_numbers ≤ n
    pub below : StackBelow n x

  pop-below : (x : Walk) → StackBelow n x → StackBelow n (pop x)
  pop-below x b j h = let d : (j ≡ x.top - 1 → ⊥) = λ q. omega arith in rw (get_or-set_other x.memory.stack (x.top - 1) j 0 0 d) (b j (omega arith))

  module _ (x : Walk) (w : Walking x) (some : 0 < x.top) where
    pub top-node : top_of x < n
    top-node = w.below (x.top - 1) (omega arith)

    pop_kept : Kept n (pop x) (turn n s at x)
    unfolding visit_neighbours
    pop_kept =
        let g = x.memory.graph in
        let l = w.sound.firsts (top_of x) top-node in
        slots_kept n e s at g w.sound (top_of x) (first_of n s g (top_of x)) (pop x) w.numbers (first_of n s g (top_of x + 1) - first_of n s g (top_of x))
        (omega (arith, l, w.sound.lasts (top_of x) top-node))

    turn_below : StackBelow n (turn n s at x)
    unfolding visit_neighbours
    turn_below =
        let g = x.memory.graph in
        let l = w.sound.firsts (top_of x) top-node in
        slots-below n e s at g w.sound (top_of x) (first_of n s g (top_of x)) (pop x) w.numbers (length-set x.memory.stack (x.top - 1) 0 ∙ w.stack)
        (omega (arith, w.tops)) (pop-below x w.below) (first_of n s g (top_of x + 1) - first_of n s g (top_of x)) (omega (arith, l, w.sound.lasts (top_of x) top-node))

    pub turn_more : x.count ≤ (turn n s at x).count
    turn_more = pop_kept.more

    -- one turn less is left
    pub turn_tops : suc ((turn n s at x).top + zeros (turn n s at x).memory.node_numbers) ≡ x.top + zeros x.memory.node_numbers
    turn_tops = omega (arith, pop_kept.tops)

    pub turn_walking : Walking (turn n s at x)
    turn_walking =
        let k = pop_kept in
        record {
          sound = rw k.graph w.sound;
          numbers = k.numbers ∙ w.numbers;
          stack = k.stack ∙ (length-set x.memory.stack (x.top - 1) 0 ∙ w.stack);
          counts = omega (arith, k.counts, w.counts);
          tops = omega (arith, turn_tops, w.tops);
          below = turn_below;
        }

    pub turn_graph : (turn n s at x).memory.graph ≡ x.memory.graph
    turn_graph = pop_kept.graph

  -- no turn makes the count less
  pub walked_more : (k : ℕ) (x : Walk) → Walking x → x.count ≤ (walked n s at k x).count
  unfolding walked
  walked_more zero x w = omega arith
  walked_more (suc k) x w = go (eqb x.top 0) refl (walked_more k (turn n s at x))
    where
      go : (b : Bool) → eqb x.top 0 ≡ b → (Walking (turn n s at x) → (turn n s at x).count ≤ (walked n s at k (turn n s at x)).count)
          → x.count ≤ (cond b x (walked n s at k (turn n s at x))).count
      go true q r = omega arith
      go false q r =
          let p : 0 < x.top = omega (arith, eqb-false x.top 0 q) in
          omega (arith, turn_more x w p, r (turn_walking x w p))

  pub walked_still : (k : ℕ) (x : Walk) → x.top ≡ 0 → walked n s at k x ≡ x
  unfolding walked
  walked_still zero x h = refl
  walked_still (suc k) x h = rw h

  walked-suc : (k : ℕ) (x : Walk) → Walking x → x.top + zeros x.memory.node_numbers ≤ k → walked n s at (suc k) x ≡ walked n s at k x
  unfolding walked
  walked-suc zero x w h = rw (let z : x.top ≡ 0 = omega arith in z)
  walked-suc (suc k) x w h = go (eqb x.top 0) refl (walked-suc k (turn n s at x))
    where
      go : (b : Bool) → eqb x.top 0 ≡ b
          → (Walking (turn n s at x) → (turn n s at x).top + zeros (turn n s at x).memory.node_numbers ≤ k → walked n s at (suc k) (turn n s at x) ≡ walked n s at k (turn n s at x))
          → cond b x (walked n s at (suc k) (turn n s at x)) ≡ cond b x (walked n s at k (turn n s at x))
      go true q r = refl
      go false q r =
          let p : 0 < x.top = omega (arith, eqb-false x.top 0 q) in
          r (turn_walking x w p) (omega (arith, turn_tops x w p))

  -- with as many turns as are left, or more: a turn is one of them
  pub walked-turn : (k : ℕ) (x : Walk) → Walking x → 0 < x.top → x.top + zeros x.memory.node_numbers ≤ k → walked n s at k (turn n s at x) ≡ walked n s at k x
  unfolding walked
  walked-turn zero x w p h = absurd (let z : ⊥ = omega arith in z)
  walked-turn (suc k) x w p h =
      walked-suc k (turn n s at x) (turn_walking x w p) (omega (arith, turn_tops x w p))
      ∙ ap (λ (b : Bool). cond b x (walked n s at k (turn n s at x))) (sym (not-true (eqb x.top 0) (λ q. let z = eqb_sound x.top 0 q in omega (arith, z))))
