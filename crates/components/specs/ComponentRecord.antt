-- The record of a component on the lent words, as the code writes it once its nodes are known.
use Rattle.std.specs.Prelude.{◌≡◌, cond, ◌⊎◌, List, eqb, length, get_or, set}
use Rattle.std.proofs.Math.Path.{refl, ap}
use Rattle.std.proofs.Common.{sym, ◌∙◌, ⊎_elim, add-one, arith}
use Prim.Native.Nat.{ℕ, zero, suc, ◌+◌, ◌*◌, ◌-◌, ◌≤◌, ◌<◌}
use Rattle.std.proofs.Math.Nat.{add-zero, add-suc}
use Rattle.std.proofs.Math.ListN.{length-set}
use Rattle.std.proofs.Math.Seq.{get_or-set_other}
use Rattle.list_laws.specs.Write.{write, write-next, kept-below, kept_above, length-write, write-below}
use Rattle.components.specs.ComponentMemory.{Memory, memory, out_at, with_out, with_edge_numbers, store_out}
use Rattle.components.specs.ComponentWalk.{first_of, slot_of, end_of, Sound}

-- a range of the components' records is written
pub memory-write : (n e s : ℕ) (w : List ℕ) (i j m : ℕ) (f : ℕ → ℕ) → i ≡ out_at n e s + j → memory n e s (write w i m f) ≡ with_out (memory n e s w) (write (memory n e s w).out j m f)
unfolding write
memory-write n e s w i j zero f q = refl
memory-write n e s w i j (suc m) f q =
    store_out n e s (write w i m f) (i + m) (j + m) (f m) (omega arith)
    ∙ ap (λ (x : Memory). with_out x (set x.out (j + m) (f m))) (memory-write n e s w i j m f q)

-- ---- labels and kinds: looked up in a table of the graph, by the number that stands in the list of nodes met

abbrev pub looked_up : List ℕ → ℕ → ℕ → ℕ → ℕ → List ℕ
looked_up w table from to m = write w to m (λ k. get_or w (table + get_or w (from + k) 0) 0)

module _ (w₀ w : List ℕ) (table from to m i k : ℕ) (apart : (from + m ≤ to) ⊎ (from ≡ to)) (below : (j : ℕ) → j < m → table + get_or w₀ (from + j) 0 < to) (turn : i < m)
    (inv : w ≡ looked_up w₀ table from to i) (read : k ≡ get_or w (from + i) 0) where
  looked_number : k ≡ get_or w₀ (from + i) 0
  looked_number =
      read
      ∙ ⊎_elim (λ (h : from + m ≤ to). kept-below w₀ w (λ j. get_or w₀ (table + get_or w₀ (from + j) 0) 0) to i (from + i) 0 inv (omega arith))
      (λ (h : from ≡ to). kept_above w₀ w (λ j. get_or w₀ (table + get_or w₀ (from + j) 0) 0) to i (from + i) 0 inv (omega arith)) apart

  pub looked_below : table + k < to
  looked_below = rw looked_number (below i turn)

  pub looked_next : set w (to + i) (get_or w (table + k) 0) ≡ looked_up w₀ table from to (i + 1)
  looked_next =
      write-next w₀ w (λ j. get_or w₀ (table + get_or w₀ (from + j) 0) 0) to i (get_or w (table + k) 0) inv
      (kept-below w₀ w (λ j. get_or w₀ (table + get_or w₀ (from + j) 0) 0) to i (table + k) 0 inv looked_below ∙ ap (λ (z : ℕ). get_or w₀ (table + z) 0) looked_number)

-- ---- first slots and slots, node by node, with the edges' numbers of the whole graph

module _ (n s at c : ℕ) (g o : List ℕ) where
  -- the i-th node met
  abbrev pub node_at : ℕ → ℕ
  node_at i = get_or o (at + 2 + i) 0

  abbrev pub degree_at : ℕ → ℕ
  degree_at i = first_of n s g (node_at i + 1) - first_of n s g (node_at i)

  -- how many slots the first i of them have
  unfoldable pub slots_of : ℕ → ℕ
  slots_of zero = 0
  slots_of (suc i) = slots_of i + degree_at i

  unfoldable pub lists : ℕ → List ℕ
  lists zero = o
  lists (suc i) = write (set (lists i) (at + 2 + 2 * c + i) (slots_of i)) (at + 3 + 3 * c + slots_of i) (degree_at i) (λ j. slot_of n s g (first_of n s g (node_at i) + j))

  unfoldable pub listed : List ℕ
  listed = set (lists c) (at + 2 + 3 * c) (slots_of c)

-- ---- edges numbered at first sight

pub record Seen : Type 0 where
  pub memory : Memory
  pub count : ℕ

abbrev pub seen_of : Memory → ℕ → Seen
seen_of m c = record { memory = m; count = c }

-- the five words of edge k, at place j: the numbers of its ends in the component, and the rest as it stands in the graph
abbrev pub edge_out : ℕ → ℕ → Memory → ℕ → List ℕ → ℕ → List ℕ
edge_out n s m k o j =
    set
    (set
    (set
    (set (set o j (get_or m.node_numbers (end_of n s m.graph k 0) 0 - 1)) (j + 1) (get_or m.node_numbers (end_of n s m.graph k 1) 0 - 1))
    (j + 2) (end_of n s m.graph k 2))
    (j + 3) (end_of n s m.graph k 3))
    (j + 4) (end_of n s m.graph k 4)

abbrev pub new_edge : ℕ → ℕ → ℕ → ℕ → Seen → Seen
new_edge n s to k x =
    seen_of
    (with_out (with_edge_numbers x.memory (set x.memory.edge_numbers k (x.count + 1))) (edge_out n s x.memory k x.memory.out (to + 5 * x.count)))
    (x.count + 1)

-- an edge without a number gets the next one, and its words are written
unfoldable pub number_edge : ℕ → ℕ → ℕ → ℕ → Seen → Seen
number_edge n s to k x = cond (eqb (get_or x.memory.edge_numbers k 0) 0) (new_edge n s to k x) x

-- slot `i` of the records gets the edge's number in the component
abbrev pub set_slot : ℕ → ℕ → Seen → Seen
set_slot i k x = seen_of (with_out x.memory (set x.memory.out i (get_or x.memory.edge_numbers k 0 - 1))) x.count

abbrev pub see_slot : ℕ → ℕ → ℕ → ℕ → Seen → Seen
see_slot n s to i x = set_slot i (get_or x.memory.out i 0) (number_edge n s to (get_or x.memory.out i 0) x)

module _ (n s from to : ℕ) where
  -- the slots from place `from` on
  unfoldable pub see_slots : ℕ → Seen → Seen
  see_slots zero x = x
  see_slots (suc t) x = see_slot n s to (from + t) (see_slots t x)

-- ---- what writing the lists asks and keeps

-- one node's list, with v = node_at i
pub record ListingOne (n e s at c i total : ℕ) (w : List ℕ) : Type 0 where
  pub fits : out_at n e s ≤ length w
  pub sound : Sound n e s (memory n e s w).graph
  pub turn : i < c
  pub node : node_at n s at c (memory n e s w).graph (memory n e s w).out i < n
  pub small : total < 4294967296
  pub room : out_at n e s + (at + 3 + 3 * c + total + degree_at n s at c (memory n e s w).graph (memory n e s w).out i) ≤ length w

pub record Listing (n e s at c : ℕ) (w : List ℕ) : Type 0 where
  pub fits : out_at n e s ≤ length w
  pub sound : Sound n e s (memory n e s w).graph
  pub nodes : (i : ℕ) → i < c → node_at n s at c (memory n e s w).graph (memory n e s w).out i < n
  pub small : slots_of n s at c (memory n e s w).graph (memory n e s w).out c < 4294967296
  pub room : out_at n e s + (at + 3 + 3 * c + slots_of n s at c (memory n e s w).graph (memory n e s w).out c) ≤ length w

module _ (n s at c : ℕ) (g o : List ℕ) where
  pub slots_grow : (i j : ℕ) → slots_of n s at c g o i ≤ slots_of n s at c g o (i + j)
  unfolding slots_of
  slots_grow i zero = rw add-zero (omega arith)
  slots_grow i (suc j) = rw add-suc (omega (arith, slots_grow i j))

  pub slots_next : (i : ℕ) → slots_of n s at c g o (i + 1) ≡ slots_of n s at c g o i + degree_at n s at c g o i
  unfolding slots_of
  slots_next i = ap (slots_of n s at c g o) (add-one i)

  pub slots-within : (i : ℕ) → i < c → slots_of n s at c g o i + degree_at n s at c g o i ≤ slots_of n s at c g o c
  slots-within i h =
      let r = slots_grow (i + 1) (c - (i + 1)) in
      let z : i + 1 + (c - (i + 1)) ≡ c = omega arith in
      omega (arith, slots_next i, (rw z at r))

  pub lists_length : (i : ℕ) → length (lists n s at c g o i) ≡ length o
  unfolding lists
  lists_length zero = refl
  lists_length (suc i) =
      length-write (set (lists n s at c g o i) (at + 2 + 2 * c + i) (slots_of n s at c g o i)) (at + 3 + 3 * c + slots_of n s at c g o i) (degree_at n s at c g o i) (λ j. slot_of n s g (first_of n s g (node_at n s at c g o i) + j))
      ∙ length-set (lists n s at c g o i) (at + 2 + 2 * c + i) (slots_of n s at c g o i) ∙ lists_length i

  -- the list of nodes met stays
  pub lists-nodes : (i k : ℕ) → k < at + 2 + 2 * c → get_or (lists n s at c g o i) k 0 ≡ get_or o k 0
  unfolding lists
  lists-nodes zero k h = refl
  lists-nodes (suc i) k h =
      write-below (set (lists n s at c g o i) (at + 2 + 2 * c + i) (slots_of n s at c g o i)) (at + 3 + 3 * c + slots_of n s at c g o i) (degree_at n s at c g o i) k (λ j. slot_of n s g (first_of n s g (node_at n s at c g o i) + j)) 0 (omega arith)
      ∙ get_or-set_other (lists n s at c g o i) (at + 2 + 2 * c + i) k (slots_of n s at c g o i) 0 (λ q. omega arith) ∙ lists-nodes i k h

  pub lists-next : (i : ℕ) → write (set (lists n s at c g o i) (at + 2 + 2 * c + i) (slots_of n s at c g o i)) (at + 3 + 3 * c + slots_of n s at c g o i) (degree_at n s at c g o i) (λ j. slot_of n s g (first_of n s g (node_at n s at c g o i) + j)) ≡ lists n s at c g o (i + 1)
  unfolding lists
  lists-next i = ap (lists n s at c g o) (sym (add-one i))

-- what one node's list leaves
abbrev pub list_one : ℕ → ℕ → ℕ → ℕ → ℕ → ℕ → Memory → Memory
list_one n s at c i total m =
    with_out m
    (write (set m.out (at + 2 + 2 * c + i) total) (at + 3 + 3 * c + total) (degree_at n s at c m.graph m.out i)
    (λ j. slot_of n s m.graph (first_of n s m.graph (node_at n s at c m.graph m.out i) + j)))
