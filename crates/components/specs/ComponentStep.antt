-- One component on the lent words: the walk from a node, and the record. And the search for the node where the next one begins.
use Rattle.std.specs.Prelude.{◌≡◌, Bool, cond, List, [], ◌∷◌, length, set}
use Rattle.std.proofs.Math.Path.{refl, subst}
use Rattle.std.proofs.Common.{sym, ap, ◌∙◌, get_or-set_same, get_or-set_other}
use Rattle.std.proofs.Math.Bool.{true, false, true≢false}
use Rattle.std.proofs.Math.Logic.{by_cases}
use Prim.Native.Nat.{ℕ, zero, suc, ◌+◌, ◌*◌, ◌-◌, ◌≤◌, ◌<◌}
use Rattle.std.proofs.Math.Decide.{dec_lt}
use native.Mathlib.Omega.{arith}
use borrow.Author.Tests.{eqb-false}
use Rattle.std.proofs.Math.Dec.{eqb}
use Rattle.std.proofs.Math.ListN.{get_or, get_or-eq_default}
use Rattle.std.proofs.Math.Seq.{set_out}
use Rattle.graph_laws.specs.Bools.{eqb_sound, eqb_same, not-true}
use Rattle.components.specs.ComponentMemory.{Memory, memory, out_at, length_node_numbers, length_stack}
use Rattle.components.specs.ComponentWalk.{Walk, walk_of, meet, visit_node, visit_slots, visit_neighbours, first_of, slot_of, other_end_of, Sound, zeros, Kept, visit-kept, visit-below, Meeting, Walking, top_of, pop, turn, walked, walked_more, turn_walking, other_below, top-node}
use Rattle.components.specs.ComponentRecorded.{AfterRecord, recorded, Recording}

-- the walk from v, and the record of what it met
unfoldable pub walked_from : ℕ → ℕ → ℕ → ℕ → Memory → Walk
walked_from n s at v m = walked n s at n (visit_node at v (walk_of m 0 0))

unfoldable pub component_at : ℕ → ℕ → ℕ → ℕ → Memory → AfterRecord
component_at n s at v m = recorded n s at (walked_from n s at v m).count (walked_from n s at v m).memory

pub zeros-le : (l : List ℕ) → zeros l ≤ length l
zeros-le [] = omega arith
zeros-le (x ∷ l) = go (eqb x 0) (zeros-le l)
  where
    go : (b : Bool) → zeros l ≤ length l → cond b 1 0 + zeros l ≤ suc (length l)
    go true h = omega arith
    go false h = omega arith

-- every node met is one of n
abbrev pub OrderBelow : ℕ → ℕ → Walk → Type 0
OrderBelow n at x = (i : ℕ) → i < x.count → get_or x.memory.out (at + 2 + i) 0 < n

module _ (n e s at : ℕ) where
  stored_below : (l : List ℕ) (i v : ℕ) → v < n → get_or (set l i v) i 0 < n
  stored_below l i v h =
      by_cases (dec_lt i (length l))
      (λ (a : i < length l). rw (get_or-set_same l i v 0 a) h)
      (λ a. rw (set_out l i v (omega arith), get_or-eq_default l 0 {n = i} (omega arith)) (omega arith))

  visit_order : (v : ℕ) (x : Walk) → v < n → OrderBelow n at x → OrderBelow n at (visit_node at v x)
  unfolding visit_node
  visit_order v x h b = go (eqb (get_or x.memory.node_numbers v 0) 0)
    where
      one : (j : ℕ) → j < x.count + 1 → (c : Bool) → eqb j x.count ≡ c → get_or (set x.memory.out (at + 2 + x.count) v) (at + 2 + j) 0 < n
      one j k true q = rw (eqb_sound j x.count q) (stored_below x.memory.out (at + 2 + x.count) v h)
      one j k false q =
          let d : (j ≡ x.count → ⊥) = λ r. true≢false (sym (eqb_same x.count) ∙ subst (λ (t : ℕ). eqb t x.count ≡ false) r q) in
          rw (get_or-set_other x.memory.out (at + 2 + x.count) (at + 2 + j) v 0 (λ z. d (omega arith))) (b j (omega (arith, d)))

      go : (c : Bool) → OrderBelow n at (cond c (meet at v x) x)
      go false = b
      go true = λ j k. one j k (eqb j x.count) refl

  slots_order : (g : List ℕ) → Sound n e s g → (v first : ℕ) (x : Walk) → OrderBelow n at x → (k : ℕ) → first + k ≤ s → OrderBelow n at (visit_slots n s at g v first k x)
  unfolding visit_slots
  slots_order g sound v first x b zero h = b
  slots_order g sound v first x b (suc k) h =
      visit_order (other_end_of n s g v (slot_of n s g (first + k))) (visit_slots n s at g v first k x) (other_below n e s at g sound v (first + k) (omega arith)) (slots_order g sound v first x b k (omega arith))

  turn_order : (x : Walk) → Walking n e s at x → 0 < x.top → OrderBelow n at x → OrderBelow n at (turn n s at x)
  unfolding visit_neighbours
  turn_order x w p b =
      let g = x.memory.graph in
      let h = top-node n e s at x w p in
      slots_order g w.sound (top_of x) (first_of n s g (top_of x)) (pop x) b (first_of n s g (top_of x + 1) - first_of n s g (top_of x))
      (omega (arith, w.sound.firsts (top_of x) h, w.sound.lasts (top_of x) h))

  pub walked_order : (k : ℕ) (x : Walk) → Walking n e s at x → OrderBelow n at x → (OrderBelow n at (walked n s at k x)) × Walking n e s at (walked n s at k x)
  unfolding walked
  walked_order zero x w b = (b, w)
  walked_order (suc k) x w b = go (eqb x.top 0) refl (walked_order k (turn n s at x))
    where
      go : (c : Bool) → eqb x.top 0 ≡ c
          → (Walking n e s at (turn n s at x) → OrderBelow n at (turn n s at x) → (OrderBelow n at (walked n s at k (turn n s at x))) × Walking n e s at (walked n s at k (turn n s at x)))
          → (OrderBelow n at (cond c x (walked n s at k (turn n s at x)))) × Walking n e s at (cond c x (walked n s at k (turn n s at x)))
      go true q r = (b, w)
      go false q r = let p : 0 < x.top = omega (arith, eqb-false x.top 0 q) in r (turn_walking n e s at x w p) (turn_order x w p b)

-- what a component asks
pub record Stepping (n e s at v : ℕ) (w : List ℕ) : Type 0 where
  pub fits : out_at n e s ≤ length w
  pub sound : Sound n e s (memory n e s w).graph
  pub node : v < n
  pub nodes : n < 4294967296
  pub small : (component_at n s at v (memory n e s w)).end < 4294967296
  pub room : out_at n e s + (component_at n s at v (memory n e s w)).end ≤ length w

module _ (n e s at v : ℕ) (w : List ℕ) (pre : Stepping n e s at v w) where
  abbrev m : Memory
  m = memory n e s w

  abbrev x₀ : Walk
  x₀ = walk_of m 0 0

  numbers-le : zeros m.node_numbers ≤ n
  numbers-le = omega (arith, zeros-le m.node_numbers, length_node_numbers n e s w pre.fits)

  pub first-kept : Kept n x₀ (visit_node at v x₀)
  first-kept = visit-kept n at v x₀ (omega (arith, length_node_numbers n e s w pre.fits, pre.node))

  pub first_walking : Walking n e s at (visit_node at v x₀)
  first_walking =
      let k = first-kept in
      record {
        sound = rw k.graph pre.sound;
        numbers = k.numbers ∙ length_node_numbers n e s w pre.fits;
        stack = k.stack ∙ length_stack n e s w pre.fits;
        counts = omega (arith, k.counts, numbers-le);
        tops = omega (arith, k.tops, numbers-le);
        below = visit-below n at v x₀ pre.node (omega (arith, length_node_numbers n e s w pre.fits, pre.node)) (omega (arith, numbers-le, length_stack n e s w pre.fits)) (λ j h. absurd (let z : ⊥ = omega arith in z));
      }

  abbrev x₁ : Walk
  x₁ = walked_from n s at v m

  pub walked-is : x₁ ≡ walked n s at n (visit_node at v x₀)
  unfolding walked_from
  walked-is = refl

  pub component_is : component_at n s at v m ≡ recorded n s at x₁.count x₁.memory
  unfolding component_at
  component_is = refl

  ends : at + 3 + 3 * x₁.count ≤ (component_at n s at v m).end
  unfolding component_at recorded
  ends = omega arith

  first_count : (visit_node at v x₀).count ≤ x₁.count
  first_count = rw walked-is (walked_more n e s at n (visit_node at v x₀) first_walking)

  pub first_meeting : Meeting n e s at v w 0 0
  first_meeting =
      record {
        scratch = pre.fits;
        node = pre.node;
        counts = omega (arith, numbers-le);
        tops = omega (arith, numbers-le);
        small = pre.nodes;
        room = omega (arith, first_count, ends, pre.room);
      }

  module _ (w₁ : List ℕ) (size : length w₁ ≡ length w) (count top : ℕ) (q : walk_of (memory n e s w₁) count top ≡ visit_node at v x₀) where
    pub walk_asks : (out_at n e s ≤ length w₁)
        × (Walking n e s at (walk_of (memory n e s w₁) count top)
        × ((n < 4294967296) × (out_at n e s + (at + 2 + (walked n s at n (walk_of (memory n e s w₁) count top)).count) ≤ length w₁)))
    walk_asks = (omega (arith, pre.fits), (rw q first_walking, (pre.nodes, rw (q, ← walked-is) (omega (arith, ends, pre.room)))))

    pub walk-left : (w₂ : List ℕ) (r : ℕ) → walk_of (memory n e s w₂) r 0 ≡ walked n s at n (walk_of (memory n e s w₁) count top) → walk_of (memory n e s w₂) r 0 ≡ x₁
    walk-left w₂ r h = h ∙ ap (walked n s at n) q ∙ sym walked-is

  module _ (w₂ : List ℕ) (size : length w₂ ≡ length w) (r : ℕ) (q : walk_of (memory n e s w₂) r 0 ≡ x₁) where
    pub record_is : recorded n s at r (memory n e s w₂) ≡ component_at n s at v m
    record_is = ap (λ (x : Walk). recorded n s at x.count x.memory) q ∙ sym component_is

    pub record_asks : Recording n e s at r w₂
    record_asks =
        let o = walked_order n e s at n (visit_node at v x₀) first_walking (visit_order n e s at v x₀ pre.node (λ i h. absurd (let z : ⊥ = omega arith in z))) in
        let e₁ = ap (λ (x : AfterRecord). x.end) record_is in
        let y : walk_of (memory n e s w₂) r 0 ≡ walked n s at n (visit_node at v x₀) = q ∙ walked-is in
        record {
          fits = omega (arith, pre.fits);
          sound = (rw (← y) at o.1).sound;
          nodes = rw (← y) at o.0;
          small = omega (arith, e₁, pre.small);
          room = omega (arith, e₁, pre.room);
        }

-- ---- where the next component begins

-- the first of k places, from i on, that holds 0, or the one behind them
unfoldable pub next_free : List ℕ → ℕ → ℕ → ℕ
next_free l i zero = i
next_free l i (suc k) = cond (eqb (get_or l i 0) 0) i (next_free l (i + 1) k)

pub next_found : (l : List ℕ) (i n : ℕ) → i < n → get_or l i 0 ≡ 0 → next_free l i (n - i) ≡ i
unfolding next_free
next_found l i n h q = let z : n - i ≡ suc (n - (i + 1)) = omega arith in rw (z, q)

pub next-passed : (l : List ℕ) (i n : ℕ) → i < n → (get_or l i 0 ≡ 0 → ⊥) → next_free l i (n - i) ≡ next_free l (i + 1) (n - (i + 1))
unfolding next_free
next-passed l i n h q = let z : n - i ≡ suc (n - (i + 1)) = omega arith in rw (z, not-true (eqb (get_or l i 0) 0) (λ r. q (eqb_sound (get_or l i 0) 0 r)))

pub next-end : (l : List ℕ) (i n : ℕ) → n ≤ i → next_free l i (n - i) ≡ i
unfolding next_free
next-end l i n h = let z : n - i ≡ 0 = omega arith in rw z
