-- For the proof of the code: edges numbered at first sight.
use Rattle.std.specs.Prelude.{◌≡◌, refl, Bool, true, false, List, length, get_or, set}
use Rattle.std.proofs.Common.{sym, ◌∙◌, add-one}
use Rattle.std.proofs.Math.Path.{ap}
use Rattle.std.proofs.Math.Bool.{cond}
use Prim.Native.Nat.{ℕ, zero, suc, ◌+◌, ◌*◌, ◌-◌, ◌≤◌, ◌<◌}
use Rattle.std.proofs.Math.Nat.{add-zero, add-suc}
use native.Mathlib.Omega.{arith}
use Rattle.std.proofs.Math.Dec.{eqb}
use Rattle.std.proofs.Math.ListN.{length-set}
use Rattle.std.proofs.Math.Seq.{get_or-set_other}
use Rattle.graph_laws.specs.Bools.{eqb_sound, not-true}
use Rattle.components.specs.ComponentMemory.{Memory, memory, out_at, with_out, with_edge_numbers, store_out, store_edge_number, read_out, read_node_number, read-edge_number}
use Rattle.components.specs.ComponentWalk.{end_of, Sound}
use Rattle.components.specs.ComponentVisit.{end_same}
use Rattle.components.specs.ComponentRecord.{Seen, seen_of, edge_out, new_edge, number_edge, set_slot, see_slot, see_slots}

-- ---- the words of an edge

pub record EdgeRoom (n e s to k : ℕ) (w : List ℕ) : Type 0 where
  pub sound : Sound n e s (memory n e s w).graph
  pub edge : k < e
  pub room : out_at n e s + (to + 5) ≤ length w

module _ (n e s to k : ℕ) (w : List ℕ) (pre : EdgeRoom n e s to k w) where
  abbrev m : Memory
  m = memory n e s w

  pub end_is : (i j : ℕ) → i ≡ 3 + 3 * n + s + 5 * k + j → j < 5 → get_or w i 0 ≡ end_of n s m.graph k j
  end_is i j q h = ap (λ (z : ℕ). get_or w z 0) q ∙ end_same n e s m.graph w refl pre.sound k j pre.edge h

  pub end-node : (i v j : ℕ) → i ≡ 3 + 3 * n + s + 5 * k + j → j < 2 → v ≡ get_or w i 0 → v < n
  end-node i v zero q h r = rw (r, end_is i 0 q (omega arith)) (pre.sound.ones k pre.edge)
  end-node i v (suc zero) q h r = rw (r, end_is i 1 q (omega arith)) (pre.sound.twos k pre.edge)
  end-node i v (suc (suc j)) q h r = absurd (let z : ⊥ = omega arith in z)

  -- the number of an end
  pub end-number : (i v j l x : ℕ) → i ≡ 3 + 3 * n + s + 5 * k + j → j < 2 → v ≡ get_or w i 0 → l ≡ 3 + 3 * n + s + 5 * e + v → x ≡ get_or w l 0 - 1
      → x ≡ get_or m.node_numbers (end_of n s m.graph k j) 0 - 1
  end-number i v j l x q h r p y =
      y ∙ ap (λ (z : ℕ). z - 1)
      (read_node_number n e s w l v 0 p (end-node i v j q h r) ∙ ap (λ (z : ℕ). get_or m.node_numbers z 0) (r ∙ end_is i j q (omega arith)))

  pub edge_stored : (i a b p q r : ℕ) → i ≡ out_at n e s + to
      → a ≡ get_or m.node_numbers (end_of n s m.graph k 0) 0 - 1 → b ≡ get_or m.node_numbers (end_of n s m.graph k 1) 0 - 1
      → p ≡ end_of n s m.graph k 2 → q ≡ end_of n s m.graph k 3 → r ≡ end_of n s m.graph k 4
      → memory n e s (set (set (set (set (set w i a) (i + 1) b) (i + 2) p) (i + 3) q) (i + 4) r) ≡ with_out m (edge_out n s m k m.out to)
  edge_stored i a b p q r h ea eb ep eq er =
      let w₁ = set w i a in
      let w₂ = set w₁ (i + 1) b in
      let w₃ = set w₂ (i + 2) p in
      let w₄ = set w₃ (i + 3) q in
      let s₁ : memory n e s w₁ ≡ with_out m (set m.out to a) = store_out n e s w i to a h in
      let s₂ : memory n e s w₂ ≡ with_out m (set (set m.out to a) (to + 1) b) = store_out n e s w₁ (i + 1) (to + 1) b (omega arith) ∙ ap (λ (x : Memory). with_out x (set x.out (to + 1) b)) s₁ in
      let s₃ : memory n e s w₃ ≡ with_out m (set (set (set m.out to a) (to + 1) b) (to + 2) p) = store_out n e s w₂ (i + 2) (to + 2) p (omega arith) ∙ ap (λ (x : Memory). with_out x (set x.out (to + 2) p)) s₂ in
      let s₄ : memory n e s w₄ ≡ with_out m (set (set (set (set m.out to a) (to + 1) b) (to + 2) p) (to + 3) q) = store_out n e s w₃ (i + 3) (to + 3) q (omega arith) ∙ ap (λ (x : Memory). with_out x (set x.out (to + 3) q)) s₃ in
      store_out n e s w₄ (i + 4) (to + 4) r (omega arith) ∙ ap (λ (x : Memory). with_out x (set x.out (to + 4) r)) s₄
      ∙ rw (ea, eb, ep, eq, er)

-- ---- an edge is numbered

pub record Numbering (n e s to k count : ℕ) (w : List ℕ) : Type 0 where
  pub fits : out_at n e s ≤ length w
  pub sound : Sound n e s (memory n e s w).graph
  pub edge : k < e
  pub small : (number_edge n s to k (seen_of (memory n e s w) count)).count < 4294967296
  pub room : out_at n e s + (to + 5 * (number_edge n s to k (seen_of (memory n e s w) count)).count) ≤ length w

module _ (n e s to k count : ℕ) (w : List ℕ) (pre : Numbering n e s to k count w) (i : ℕ) (at_i : i ≡ 3 + 3 * n + s + 5 * e + n + k) where
  abbrev x : Seen
  x = seen_of (memory n e s w) count

  number_is : get_or w i 0 ≡ get_or (memory n e s w).edge_numbers k 0
  number_is = read-edge_number n e s w i k 0 at_i pre.edge

  pub number-none : (get_or w i 0 ≡ 0 → ⊥) → x ≡ number_edge n s to k x
  unfolding number_edge
  number-none h =
      ap (λ (b : Bool). cond b (new_edge n s to k x) x) (sym (not-true (eqb (get_or (memory n e s w).edge_numbers k 0) 0) (λ q. h (number_is ∙ eqb_sound _ _ q))))

  module _ (h : get_or w i 0 ≡ 0) where
    pub number-one : number_edge n s to k x ≡ new_edge n s to k x
    unfolding number_edge
    number-one = ap (λ (b : Bool). cond b (new_edge n s to k x) x) (ap (λ (z : ℕ). eqb z 0) (sym number_is ∙ h))

    pub number_room : (count + 1 < 4294967296) × (out_at n e s + (to + 5 * count + 5) ≤ length w)
    number_room = let c : (number_edge n s to k x).count ≡ count + 1 = ap (λ (y : Seen). y.count) number-one in (omega (arith, c, pre.small), omega (arith, c, pre.room))

    number_stored : memory n e s (set w i (count + 1)) ≡ with_edge_numbers (memory n e s w) (set (memory n e s w).edge_numbers k (count + 1))
    number_stored = store_edge_number n e s w i k (count + 1) at_i pre.edge

    pub edge_asks : EdgeRoom n e s (to + 5 * count) k (set w i (count + 1))
    edge_asks = record { sound = rw number_stored pre.sound; edge = pre.edge; room = rw length-set number_room.1 }

    pub number-left : (w' : List ℕ) → memory n e s w' ≡ with_out (memory n e s (set w i (count + 1))) (edge_out n s (memory n e s (set w i (count + 1))) k (memory n e s (set w i (count + 1))).out (to + 5 * count))
        → seen_of (memory n e s w') (count + 1) ≡ number_edge n s to k x
    number-left w' q =
        ap (λ (y : Memory). seen_of y (count + 1)) (q ∙ ap (λ (y : Memory). with_out y (edge_out n s y k y.out (to + 5 * count))) number_stored) ∙ sym number-one

-- ---- the slots, one by one

pub record Unchanged (from to : ℕ) (x y : Seen) : Type 0 where
  pub graph : y.memory.graph ≡ x.memory.graph
  pub numbers : y.memory.node_numbers ≡ x.memory.node_numbers
  pub out : length y.memory.out ≡ length x.memory.out
  pub slots : (i : ℕ) → from ≤ i → i < to → get_or y.memory.out i 0 ≡ get_or x.memory.out i 0
  pub more : x.count ≤ y.count

abbrev five : List ℕ → ℕ → ℕ → ℕ → ℕ → ℕ → ℕ → List ℕ
five o j a b p q r = set (set (set (set (set o j a) (j + 1) b) (j + 2) p) (j + 3) q) (j + 4) r

five-before : (o : List ℕ) (j a b p q r i : ℕ) → i < j → get_or (five o j a b p q r) i 0 ≡ get_or o i 0
five-before o j a b p q r i h =
    get_or-set_other (set (set (set (set o j a) (j + 1) b) (j + 2) p) (j + 3) q) (j + 4) i r 0 (λ z. omega arith)
    ∙ get_or-set_other (set (set (set o j a) (j + 1) b) (j + 2) p) (j + 3) i q 0 (λ z. omega arith)
    ∙ get_or-set_other (set (set o j a) (j + 1) b) (j + 2) i p 0 (λ z. omega arith)
    ∙ get_or-set_other (set o j a) (j + 1) i b 0 (λ z. omega arith)
    ∙ get_or-set_other o j i a 0 (λ z. omega arith)

five-length : (o : List ℕ) (j a b p q r : ℕ) → length (five o j a b p q r) ≡ length o
five-length o j a b p q r = simp length-set

new_keeps : (n s from to k : ℕ) (y : Seen) → Unchanged from to y (new_edge n s to k y)
new_keeps n s from to k y =
    record {
      graph = refl;
      numbers = refl;
      out = five-length y.memory.out (to + 5 * y.count) (get_or y.memory.node_numbers (end_of n s y.memory.graph k 0) 0 - 1) (get_or y.memory.node_numbers (end_of n s y.memory.graph k 1) 0 - 1) (end_of n s y.memory.graph k 2) (end_of n s y.memory.graph k 3) (end_of n s y.memory.graph k 4);
      slots = λ i p q. five-before y.memory.out (to + 5 * y.count) (get_or y.memory.node_numbers (end_of n s y.memory.graph k 0) 0 - 1) (get_or y.memory.node_numbers (end_of n s y.memory.graph k 1) 0 - 1) (end_of n s y.memory.graph k 2) (end_of n s y.memory.graph k 3) (end_of n s y.memory.graph k 4) i (omega arith);
      more = omega arith;
    }

pub number_keeps : (n s from to k : ℕ) (y : Seen) → Unchanged from to y (number_edge n s to k y)
unfolding number_edge
number_keeps n s from to k y = go (eqb (get_or y.memory.edge_numbers k 0) 0)
  where
    go : (b : Bool) → Unchanged from to y (cond b (new_edge n s to k y) y)
    go false = record { graph = refl; numbers = refl; out = refl; slots = λ i p q. refl; more = omega arith }
    go true = new_keeps n s from to k y

module _ (n s from to : ℕ) (x : Seen) where
  pub see_keeps : (t : ℕ) → Unchanged (from + t) to x (see_slots n s from to t x)
  unfolding see_slots
  see_keeps zero = record { graph = refl; numbers = refl; out = refl; slots = λ i p q. refl; more = omega arith }
  see_keeps (suc t) =
      let y = see_slots n s from to t x in
      let r = see_keeps t in
      let k = number_keeps n s (from + suc t) to (get_or y.memory.out (from + t) 0) y in
      let z = number_edge n s to (get_or y.memory.out (from + t) 0) y in
      record {
        graph = k.graph ∙ r.graph;
        numbers = k.numbers ∙ r.numbers;
        out = length-set z.memory.out (from + t) (get_or z.memory.edge_numbers (get_or y.memory.out (from + t) 0) 0 - 1) ∙ k.out ∙ r.out;
        slots = λ i p q. get_or-set_other z.memory.out (from + t) i (get_or z.memory.edge_numbers (get_or y.memory.out (from + t) 0) 0 - 1) 0 (λ u. omega arith) ∙ k.slots i p q ∙ r.slots i (omega arith) q;
        more = omega (arith, k.more, r.more);
      }

  pub see_more : (t j : ℕ) → (see_slots n s from to t x).count ≤ (see_slots n s from to (t + j) x).count
  unfolding see_slots
  see_more t zero = rw add-zero (omega arith)
  see_more t (suc j) = rw add-suc (omega (arith, (number_keeps n s from to (get_or (see_slots n s from to (t + j) x).memory.out (from + (t + j)) 0) (see_slots n s from to (t + j) x)).more, see_more t j))

  pub see_next : (t : ℕ) → see_slot n s to (from + t) (see_slots n s from to t x) ≡ see_slots n s from to (t + 1) x
  unfolding see_slots
  see_next t = ap (λ (j : ℕ). see_slots n s from to j x) (sym (add-one t))

pub record Seeing (n e s from to total : ℕ) (w : List ℕ) : Type 0 where
  pub fits : out_at n e s ≤ length w
  pub sound : Sound n e s (memory n e s w).graph
  pub apart : from + total ≤ to
  pub slots : (i : ℕ) → i < total → get_or (memory n e s w).out (from + i) 0 < e
  pub small : (see_slots n s from to total (seen_of (memory n e s w) 0)).count < 4294967296
  pub room : out_at n e s + (to + 5 * (see_slots n s from to total (seen_of (memory n e s w) 0)).count) ≤ length w

-- the loop over the slots
module _ (n e s from to total : ℕ) (w₀ : List ℕ) (pre : Seeing n e s from to total w₀) (w : List ℕ) (i count : ℕ) (turn : i < total) (size : length w ≡ length w₀)
    (inv : seen_of (memory n e s w) count ≡ see_slots n s from to i (seen_of (memory n e s w₀) 0)) (j k : ℕ) (at_j : j ≡ out_at n e s + (from + i)) (read : k ≡ get_or w j 0) where
  abbrev y : Seen
  y = seen_of (memory n e s w) count

  same : Unchanged (from + i) to (seen_of (memory n e s w₀) 0) y
  same = rw inv (see_keeps n s from to (seen_of (memory n e s w₀) 0) i)

  slot_is : k ≡ get_or (memory n e s w).out (from + i) 0
  slot_is = read ∙ read_out n e s w j (from + i) 0 at_j

  pub slot_edge : k < e
  slot_edge = rw (slot_is, same.slots (from + i) (omega arith) (omega (arith, pre.apart))) (pre.slots i turn)

  step : set_slot (from + i) k (number_edge n s to k y) ≡ see_slots n s from to (i + 1) (seen_of (memory n e s w₀) 0)
  step =
      ap (λ (z : ℕ). set_slot (from + i) z (number_edge n s to z y)) slot_is
      ∙ ap (see_slot n s to (from + i)) inv ∙ see_next n s from to (seen_of (memory n e s w₀) 0) i

  step_count : (number_edge n s to k y).count ≤ (see_slots n s from to total (seen_of (memory n e s w₀) 0)).count
  step_count =
      let z : i + 1 + (total - (i + 1)) ≡ total = omega arith in
      let r = see_more n s from to (seen_of (memory n e s w₀) 0) (i + 1) (total - (i + 1)) in
      omega (arith, (rw z at r), ap (λ (x : Seen). x.count) step)

  pub slot_asks : Numbering n e s to k count w
  slot_asks =
      record {
        fits = omega (arith, pre.fits);
        sound = rw same.graph pre.sound;
        edge = slot_edge;
        small = omega (arith, step_count, pre.small);
        room = omega (arith, step_count, pre.room);
      }

  -- after the edge is numbered, in the words w'
  pub slot_next : (w' : List ℕ) (r l a : ℕ) → seen_of (memory n e s w') r ≡ number_edge n s to k y → l ≡ 3 + 3 * n + s + 5 * e + n + k → a ≡ get_or w' l 0 - 1
      → seen_of (memory n e s (set w' j a)) r ≡ see_slots n s from to (i + 1) (seen_of (memory n e s w₀) 0)
  slot_next w' r l a q at-l p =
      let v : a ≡ get_or (memory n e s w').edge_numbers k 0 - 1 = p ∙ ap (λ (z : ℕ). z - 1) (read-edge_number n e s w' l k 0 at-l slot_edge) in
      ap (λ (x : Memory). seen_of x r) (store_out n e s w' j (from + i) a at_j)
      ∙ ap (λ (z : ℕ). seen_of (with_out (memory n e s w') (set (memory n e s w').out (from + i) z)) r) v
      ∙ ap (set_slot (from + i) k) q ∙ step

pub see_none : (n e s from to : ℕ) (w : List ℕ) → seen_of (memory n e s w) 0 ≡ see_slots n s from to 0 (seen_of (memory n e s w) 0)
unfolding see_slots
see_none n e s from to w = refl
