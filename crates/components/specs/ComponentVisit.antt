-- For the proof of the code: the loop over the slots of a node.
use Rattle.std.specs.Prelude.{◌≡◌, List, ℕ, suc, ◌+◌, ◌*◌, ◌-◌, ◌≤◌, ◌<◌, length, get_or, set}
use Rattle.std.proofs.Math.Path.{refl, ap}
use Rattle.std.proofs.Common.{sym, ◌∙◌}
use native.Mathlib.Omega.{arith}
use Rattle.components.specs.ComponentMemory.{Memory, memory, out_at, read_graph, read_stack, store_stack, length_node_numbers, length-out}
use Rattle.components.specs.ComponentWalk.{Walking, top_of, pop, turn, walked, walked_more, walked-turn, turn_walking, top-node, Walk, walk_of, Sound, first_of, slot_of, end_of, other_end_of, Meeting, Visiting, visit_node, visit_slots, visit_neighbours, slots_kept, slots-more, other_below}

-- what the words say of the graph, while the graph in them is g
module _ (n e s : ℕ) (g w : List ℕ) (same : (memory n e s w).graph ≡ g) where
  pub read_same : (i : ℕ) → i < 3 + 3 * n + s + 5 * e → get_or w i 0 ≡ get_or g i 0
  read_same i h = read_graph n e s w i 0 h ∙ ap (λ (l : List ℕ). get_or l i 0) same

  module _ (sound : Sound n e s g) where
    pub first-same : (v : ℕ) → v < n + 1 → first_of n s w v ≡ first_of n s g v
    first-same v h = read_same (2 + 2 * n + v) (omega arith)

    pub slot_same : (i : ℕ) → i < s → slot_of n s w i ≡ slot_of n s g i
    slot_same i h = read_same (3 + 3 * n + i) (omega arith)

    pub end_same : (k j : ℕ) → k < e → j < 5 → end_of n s w k j ≡ end_of n s g k j
    end_same k j h l = read_same (3 + 3 * n + s + 5 * k + j) (omega arith)

    pub other_same : (v i : ℕ) → i < s → other_end_of n s w v (slot_of n s w i) ≡ other_end_of n s g v (slot_of n s g i)
    other_same v i h =
        let l = sound.slots i h in
        rw (slot_same i h, end_same (slot_of n s g i) 0 l (omega arith), end_same (slot_of n s g i) 1 l (omega arith))

    -- the words of the edge in a slot lie in the record
    pub slot_room : (i : ℕ) → i < s → out_at n e s ≤ length w → 3 + 3 * n + s + 5 * slot_of n s w i + 1 < length w
    slot_room i h q = omega (arith, sound.slots i h, slot_same i h)

module _ (n e s at v : ℕ) (w₀ : List ℕ) (count₀ top₀ : ℕ) (fits : out_at n e s ≤ length w₀)
    (pre : Visiting n e s at v (walk_of (memory n e s w₀) count₀ top₀)) where
  abbrev x₀ : Walk
  x₀ = walk_of (memory n e s w₀) count₀ top₀

  abbrev g : List ℕ
  g = (memory n e s w₀).graph

  pub last-bound : first_of n s w₀ v ≤ first_of n s w₀ (v + 1)
  last-bound = rw (first-same n e s g w₀ refl pre.sound v (omega (arith, pre.node)), first-same n e s g w₀ refl pre.sound (v + 1) (omega (arith, pre.node))) (pre.sound.firsts v pre.node)

  pub last-slots : first_of n s w₀ (v + 1) ≤ s
  last-slots = rw (first-same n e s g w₀ refl pre.sound (v + 1) (omega (arith, pre.node))) (pre.sound.lasts v pre.node)

  abbrev pub After : ℕ → Walk → Type 0
  After i x = x ≡ visit_slots n s at g v (first_of n s w₀ v) (i - first_of n s w₀ v) x₀

  pub after_none : After (first_of n s w₀ v) x₀
  unfolding visit_slots
  after_none = let z : first_of n s w₀ v - first_of n s w₀ v ≡ 0 = omega arith in rw z

  pub after-all : (x : Walk) → After (first_of n s w₀ (v + 1)) x → x ≡ visit_neighbours n s at v x₀
  unfolding visit_neighbours
  after-all x h =
      h ∙ rw (first-same n e s g w₀ refl pre.sound v (omega (arith, pre.node)), first-same n e s g w₀ refl pre.sound (v + 1) (omega (arith, pre.node)))

  module _ (w : List ℕ) (count top i : ℕ) (low : first_of n s w₀ v ≤ i) (high : i < first_of n s w₀ (v + 1)) (size : length w ≡ length w₀)
      (inv : After i (walk_of (memory n e s w) count top)) where
    abbrev f : ℕ
    f = first_of n s w₀ v

    sized : length x₀.memory.node_numbers ≡ n
    sized = length_node_numbers n e s w₀ fits

    kept : Rattle.components.specs.ComponentWalk.Kept n x₀ (walk_of (memory n e s w) count top)
    kept = rw inv (slots_kept n e s at g pre.sound v f x₀ sized (i - f) (omega (arith, last-slots)))

    abbrev u : ℕ
    u = other_end_of n s g v (slot_of n s g i)

    pub graph_same : (memory n e s w).graph ≡ g
    graph_same = kept.graph

    pub slot_there : (3 + 3 * n + i < length w) × (3 + 3 * n + s + 5 * slot_of n s w i + 1 < length w)
    slot_there = (omega (arith, last-slots), slot_room n e s g w graph_same pre.sound i (omega (arith, last-slots)) (omega arith))

    pub other_is : other_end_of n s w v (slot_of n s w i) ≡ u
    other_is = other_same n e s g w graph_same pre.sound v i (omega (arith, last-slots))

    next-is : visit_node at u (walk_of (memory n e s w) count top) ≡ visit_slots n s at g v f (suc (i - f)) x₀
    unfolding visit_slots
    next-is =
        let z : f + (i - f) ≡ i = omega arith in
        ap (visit_node at u) inv ∙ ap (λ (j : ℕ). visit_node at (other_end_of n s g v (slot_of n s g j)) (visit_slots n s at g v f (i - f) x₀)) (sym z)

    pub after_next : After (i + 1) (visit_node at u (walk_of (memory n e s w) count top))
    after_next = let z : i + 1 - f ≡ suc (i - f) = omega arith in rw z next-is

    pub meeting : Meeting n e s at u w count top
    meeting =
        let k = kept in
        let all : visit_neighbours n s at v x₀ ≡ visit_slots n s at g v f (first_of n s w₀ (v + 1) - f) x₀ = sym (after-all _ refl) in
        let m = slots-more n e s at g pre.sound v f x₀ sized (suc (i - f)) (first_of n s w₀ (v + 1) - (i + 1)) (omega (arith, last-slots)) in
        let z : suc (i - f) + (first_of n s w₀ (v + 1) - (i + 1)) ≡ first_of n s w₀ (v + 1) - f = omega arith in
        let c : (visit_node at u (walk_of (memory n e s w) count top)).count ≤ (visit_neighbours n s at v x₀).count = rw (next-is, all, ← z) m in
        record {
          scratch = omega arith;
          node = other_below n e s at g pre.sound v i (omega (arith, last-slots));
          counts = omega (arith, k.counts, pre.counts);
          tops = omega (arith, k.tops, pre.tops);
          small = pre.small;
          room = omega (arith, c, pre.room, length-out n e s w₀ fits);
        }

-- the loop of the walk: one turn, from words that hold the state x
module _ (n e s at : ℕ) (w : List ℕ) (count top : ℕ) (fits : out_at n e s ≤ length w) (walking : Walking n e s at (walk_of (memory n e s w) count top)) (some : 0 < top) where
  abbrev x : Walk
  x = walk_of (memory n e s w) count top

  pub top_in : top - 1 < n
  top_in = omega (arith, walking.tops)

  pub top-is : get_or w (3 + 3 * n + s + 5 * e + n + e + (top - 1)) 0 ≡ top_of x
  top-is = read_stack n e s w (3 + 3 * n + s + 5 * e + n + e + (top - 1)) (top - 1) 0 refl top_in

  pub popped_is : walk_of (memory n e s (set w (3 + 3 * n + s + 5 * e + n + e + (top - 1)) 0)) count (top - 1) ≡ pop x
  popped_is = ap (λ (m : Memory). walk_of m count (top - 1)) (store_stack n e s w (3 + 3 * n + s + 5 * e + n + e + (top - 1)) (top - 1) 0 refl top_in)

  pub turned_is : (v : ℕ) → v ≡ get_or w (3 + 3 * n + s + 5 * e + n + e + (top - 1)) 0
      → visit_neighbours n s at v (walk_of (memory n e s (set w (3 + 3 * n + s + 5 * e + n + e + (top - 1)) 0)) count (top - 1)) ≡ turn n s at x
  turned_is v h = ap (λ (y : Walk). visit_neighbours n s at v y) popped_is ∙ ap (λ (u : ℕ). visit_neighbours n s at u (pop x)) (h ∙ top-is)

  module _ (small : n < 4294967296) (room : out_at n e s + (at + 2 + (walked n s at n x).count) ≤ length w) where
    turned_room : (turn n s at x).count ≤ (walked n s at n x).count
    turned_room =
        let t = walked-turn n e s at n x walking some walking.tops in
        rw (← t) (walked_more n e s at n (turn n s at x) (turn_walking n e s at x walking some))

    turn_visiting : Visiting n e s at (top_of x) (pop x)
    turn_visiting =
        record {
          sound = walking.sound;
          node = top-node n e s at x walking some;
          counts = walking.counts;
          tops = omega (arith, walking.tops);
          small = small;
          room = omega (arith, turned_room, length-out n e s w fits);
        }

    pub turn_asks : (v : ℕ) → v ≡ get_or w (3 + 3 * n + s + 5 * e + n + e + (top - 1)) 0
        → Visiting n e s at v (walk_of (memory n e s (set w (3 + 3 * n + s + 5 * e + n + e + (top - 1)) 0)) count (top - 1))
    turn_asks v h = rw (popped_is, h, top-is) turn_visiting
