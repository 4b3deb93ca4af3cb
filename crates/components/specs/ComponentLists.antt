-- For the proof of the code: one node's first slot and slots, and the loop over the nodes.
use Rattle.std.specs.Prelude.{◌≡◌, refl, List, ℕ, ◌+◌, ◌*◌, ◌-◌, ◌≤◌, ◌<◌, length, get_or, set}
use Rattle.std.proofs.Common.{ap, ◌∙◌, arith, get_or-set_other}
use Rattle.list_laws.specs.Write.{write, write_ext}
use Rattle.components.specs.ComponentMemory.{Memory, memory, out_at, with_out, store_out, read_out, read_graph}
use Rattle.components.specs.ComponentWalk.{first_of, slot_of}
use Rattle.components.specs.ComponentVisit.{first-same}
use Rattle.components.specs.ComponentRecord.{memory-write, node_at, degree_at, slots_of, lists, listed, list_one, ListingOne, Listing, slots_next, slots-within, lists-nodes, lists-next}

module _ (n e s at c i total : ℕ) (w : List ℕ) (pre : ListingOne n e s at c i total w) (k v first last : ℕ)
    (place : k ≡ out_at n e s + (at + 2 + i)) (read : v ≡ get_or w k 0) (firsts : first ≡ first_of n s w v) (lasts : last ≡ first_of n s w (v + 1)) where
  abbrev m : Memory
  m = memory n e s w

  abbrev u : ℕ
  u = node_at n s at c m.graph m.out i

  one-is : v ≡ u
  one-is = read ∙ read_out n e s w k (at + 2 + i) 0 place

  pub one-node : v < n
  one-node = rw one-is pre.node

  first-is : first ≡ first_of n s m.graph u
  first-is = firsts ∙ first-same n e s m.graph w refl pre.sound v (omega (arith, one-node)) ∙ ap (first_of n s m.graph) one-is

  last-is : last ≡ first_of n s m.graph (u + 1)
  last-is = lasts ∙ first-same n e s m.graph w refl pre.sound (v + 1) (omega (arith, one-node)) ∙ ap (λ (z : ℕ). first_of n s m.graph (z + 1)) one-is

  pub one_order : (first ≤ last) × (last ≤ s)
  one_order = (rw (first-is, last-is) (pre.sound.firsts u pre.node), rw last-is (pre.sound.lasts u pre.node))

  pub one-degree : last - first ≡ degree_at n s at c m.graph m.out i
  one-degree = rw (first-is, last-is)

  pub one_room : out_at n e s + (at + 3 + 3 * c + total + (last - first)) ≤ length w
  one_room = omega (arith, one-degree, pre.room)

  module _ (j l from : ℕ) (at_j : j ≡ out_at n e s + (at + 2 + 2 * c + i)) (at-l : l ≡ out_at n e s + (at + 3 + 3 * c + total)) (at_from : from ≡ 3 + 3 * n + first) where
    stored : memory n e s (set w j total) ≡ with_out m (set m.out (at + 2 + 2 * c + i) total)
    stored = store_out n e s w j (at + 2 + 2 * c + i) total at_j

    slot_is : (h : ℕ) → h < last - first → get_or (set w j total) (from + h) 0 ≡ slot_of n s m.graph (first_of n s m.graph u + h)
    slot_is h q =
        let z : from + h ≡ 3 + 3 * n + (first_of n s m.graph u + h) = omega (arith, first-is) in
        get_or-set_other w j (from + h) total 0 (λ r. omega (arith, one_order.1))
        ∙ read_graph n e s w (from + h) 0 (omega (arith, one_order.1)) ∙ ap (λ (y : ℕ). get_or m.graph y 0) z

    pub one_left : memory n e s (write (set w j total) l (last - first) (λ h. get_or (set w j total) (from + h) 0)) ≡ list_one n s at c i total m
    one_left =
        memory-write n e s (set w j total) l (at + 3 + 3 * c + total) (last - first) (λ h. get_or (set w j total) (from + h) 0) at-l
        ∙ ap (λ (x : Memory). with_out x (write x.out (at + 3 + 3 * c + total) (last - first) (λ h. get_or (set w j total) (from + h) 0))) stored
        ∙ ap (with_out m)
        (write_ext (set m.out (at + 2 + 2 * c + i) total) (at + 3 + 3 * c + total) (last - first) (λ h. get_or (set w j total) (from + h) 0) (λ h. slot_of n s m.graph (first_of n s m.graph u + h)) slot_is
        ∙ ap (λ (d : ℕ). write (set m.out (at + 2 + 2 * c + i) total) (at + 3 + 3 * c + total) d (λ h. slot_of n s m.graph (first_of n s m.graph u + h))) one-degree)

-- the loop over the nodes
module _ (n e s at c : ℕ) (w₀ : List ℕ) (pre : Listing n e s at c w₀) (w : List ℕ) (i : ℕ) (turn : i < c) (size : length w ≡ length w₀)
    (inv : memory n e s w ≡ with_out (memory n e s w₀) (lists n s at c (memory n e s w₀).graph (memory n e s w₀).out i)) where
  abbrev g : List ℕ
  g = (memory n e s w₀).graph

  abbrev o : List ℕ
  o = (memory n e s w₀).out

  graph_is : (memory n e s w).graph ≡ g
  graph_is = ap (λ (x : Memory). x.graph) inv

  out-is : (memory n e s w).out ≡ lists n s at c g o i
  out-is = ap (λ (x : Memory). x.out) inv

  node-is : node_at n s at c (memory n e s w).graph (memory n e s w).out i ≡ node_at n s at c g o i
  node-is = ap (λ (l : List ℕ). get_or l (at + 2 + i) 0) out-is ∙ lists-nodes n s at c g o i (at + 2 + i) (omega arith)

  degree-is : degree_at n s at c (memory n e s w).graph (memory n e s w).out i ≡ degree_at n s at c g o i
  degree-is = rw (node-is, graph_is)

  pub list_asks : ListingOne n e s at c i (slots_of n s at c g o i) w
  list_asks =
      record {
        fits = omega (arith, pre.fits);
        sound = rw graph_is pre.sound;
        turn = turn;
        node = rw node-is (pre.nodes i turn);
        small = omega (arith, slots-within n s at c g o i turn, pre.small);
        room = omega (arith, degree-is, slots-within n s at c g o i turn, pre.room);
      }

  pub list_total : slots_of n s at c g o i + degree_at n s at c (memory n e s w).graph (memory n e s w).out i ≡ slots_of n s at c g o (i + 1)
  list_total = omega (arith, degree-is, slots_next n s at c g o i)

  pub list_next : list_one n s at c i (slots_of n s at c g o i) (memory n e s w) ≡ with_out (memory n e s w₀) (lists n s at c g o (i + 1))
  list_next =
      ap (λ (d : ℕ). with_out (memory n e s w) (write (set (memory n e s w).out (at + 2 + 2 * c + i) (slots_of n s at c g o i)) (at + 3 + 3 * c + slots_of n s at c g o i) d (λ j. slot_of n s (memory n e s w).graph (first_of n s (memory n e s w).graph (node_at n s at c (memory n e s w).graph (memory n e s w).out i) + j)))) degree-is
      ∙ ap (λ (z : ℕ). with_out (memory n e s w) (write (set (memory n e s w).out (at + 2 + 2 * c + i) (slots_of n s at c g o i)) (at + 3 + 3 * c + slots_of n s at c g o i) (degree_at n s at c g o i) (λ j. slot_of n s (memory n e s w).graph (first_of n s (memory n e s w).graph z + j)))) node-is
      ∙ ap (λ (x : Memory). with_out x (write (set x.out (at + 2 + 2 * c + i) (slots_of n s at c g o i)) (at + 3 + 3 * c + slots_of n s at c g o i) (degree_at n s at c g o i) (λ j. slot_of n s x.graph (first_of n s x.graph (node_at n s at c g o i) + j)))) inv
      ∙ ap (with_out (memory n e s w₀)) (lists-next n s at c g o i)

-- the last first slot
pub listed_stored : (n e s at c : ℕ) (w₀ w : List ℕ) (j total : ℕ) → j ≡ out_at n e s + (at + 2 + 3 * c)
    → total ≡ slots_of n s at c (memory n e s w₀).graph (memory n e s w₀).out c
    → memory n e s w ≡ with_out (memory n e s w₀) (lists n s at c (memory n e s w₀).graph (memory n e s w₀).out c)
    → memory n e s (set w j total) ≡ with_out (memory n e s w₀) (listed n s at c (memory n e s w₀).graph (memory n e s w₀).out)
unfolding listed
listed_stored n e s at c w₀ w j total p q inv =
    store_out n e s w j (at + 2 + 3 * c) total p
    ∙ ap (λ (x : Memory). with_out x (set x.out (at + 2 + 3 * c) total)) inv
    ∙ ap (λ (t : ℕ). with_out (memory n e s w₀) (set (lists n s at c (memory n e s w₀).graph (memory n e s w₀).out c) (at + 2 + 3 * c) t)) q

-- nothing is written yet
pub lists-none : (n e s at c : ℕ) (w : List ℕ) → memory n e s w ≡ with_out (memory n e s w) (lists n s at c (memory n e s w).graph (memory n e s w).out 0)
unfolding lists
lists-none n e s at c w = refl

pub slots-none : (n s at c : ℕ) (g o : List ℕ) → slots_of n s at c g o 0 ≡ 0
unfolding slots_of
slots-none n s at c g o = refl
