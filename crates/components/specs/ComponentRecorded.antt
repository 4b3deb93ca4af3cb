-- The whole record of a component on the lent words, and for the proof of the code what each of its parts asks.
use Rattle.std.specs.Prelude.{◌≡◌, ◌⊎◌, length}
use Rattle.std.proofs.Math.Path.{refl, ap}
use Rattle.std.proofs.Common.{◌∙◌, inl, inr, length-set}
use Rattle.std.proofs.Math.Logic.{by_cases}
use mathlib.Core.List.{List}
use Prim.Native.Nat.{ℕ, zero, suc, ◌+◌, ◌*◌, ◌-◌, ◌≤◌, ◌<◌}
use Rattle.std.proofs.Math.Decide.{dec_lt}
use native.Mathlib.Omega.{arith}
use Rattle.std.proofs.Math.ListN.{get_or, set}
use Rattle.std.proofs.Math.Seq.{get_or-set_other}
use Rattle.list_laws.specs.Write.{write, write_ext, write-below, write_in, length-write}
use Rattle.components.specs.ComponentMemory.{Memory, memory, out_at, with_out, store_out, read_out, read_graph, length-out}
use Rattle.components.specs.ComponentWalk.{first_of, slot_of, Sound}
use Rattle.components.specs.ComponentRecord.{memory-write, looked_up, node_at, degree_at, slots_of, lists, listed, Listing, slots-within, lists_length, lists-nodes, Seen, seen_of, number_edge, see_slots}
use Rattle.components.specs.ComponentEdges.{number_keeps, Seeing}

-- what stands in a table of the graph, at the numbers of c nodes
abbrev pub table_out : ℕ → ℕ → ℕ → ℕ → Memory → Memory
table_out table from to c m = with_out m (write m.out to c (λ k. get_or m.graph (table + get_or m.out (from + k) 0) 0))

pub record AfterRecord : Type 0 where
  pub memory : Memory
  pub end : ℕ

abbrev pub recorded_of : Memory → ℕ → AfterRecord
recorded_of m k = record { memory = m; end = k }

-- labels; first slots and slots; edges; kinds, in the place of the list of nodes met; the two counts
module _ (n s at c : ℕ) (m : Memory) where
  abbrev pub labelled : Memory
  labelled = table_out (2 + n) (at + 2) (at + 2 + c) c m

  abbrev pub total_of : ℕ
  total_of = slots_of n s at c labelled.graph labelled.out c

  abbrev pub filled : Memory
  filled = with_out labelled (listed n s at c labelled.graph labelled.out)

  abbrev pub edged : Seen
  edged = see_slots n s (at + 3 + 3 * c) (at + 3 + 3 * c + total_of) total_of (seen_of filled 0)

  abbrev pub kinded : Memory
  kinded = table_out 2 (at + 2) (at + 2) c edged.memory

  unfoldable pub recorded : AfterRecord
  recorded = recorded_of (with_out kinded (set (set kinded.out at c) (at + 1) edged.count)) (at + 3 + 3 * c + total_of + 5 * edged.count)

-- a look-up on the words
pub table_stored : (n e s : ℕ) (w : List ℕ) (table i j from to c : ℕ) → i ≡ out_at n e s + from → j ≡ out_at n e s + to
    → ((k : ℕ) → k < c → table + get_or (memory n e s w).out (from + k) 0 < 3 + 3 * n + s + 5 * e)
    → memory n e s (looked_up w table i j c) ≡ table_out table from to c (memory n e s w)
table_stored n e s w table i j from to c p q b =
    memory-write n e s w j to c (λ k. get_or w (table + get_or w (i + k) 0) 0) q
    ∙ ap (with_out (memory n e s w))
    (write_ext (memory n e s w).out to c (λ k. get_or w (table + get_or w (i + k) 0) 0) (λ k. get_or (memory n e s w).graph (table + get_or (memory n e s w).out (from + k) 0) 0)
    (λ k h.
    ap (λ (z : ℕ). get_or w (table + z) 0) (read_out n e s w (i + k) (from + k) 0 (omega arith))
    ∙ read_graph n e s w (table + get_or (memory n e s w).out (from + k) 0) 0 (b k h)))

-- the slots hold edges
module _ (n e s at c : ℕ) (g o : List ℕ) (sound : Sound n e s g) (nodes : (i : ℕ) → i < c → node_at n s at c g o i < n)
    (room : at + 3 + 3 * c + slots_of n s at c g o c ≤ length o) where
  lists-slots : (i : ℕ) → i ≤ c → (j : ℕ) → j < slots_of n s at c g o i → get_or (lists n s at c g o i) (at + 3 + 3 * c + j) 0 < e
  unfolding lists slots_of
  lists-slots zero h j q = absurd (let z : ⊥ = omega arith in z)
  lists-slots (suc i) h j q =
      go (lists-slots i (omega arith) j)
    where
      l : List ℕ
      l = set (lists n s at c g o i) (at + 2 + 2 * c + i) (slots_of n s at c g o i)

      f : ℕ → ℕ
      f k = slot_of n s g (first_of n s g (node_at n s at c g o i) + k)

      size : length l ≡ length o
      size = length-set (lists n s at c g o i) (at + 2 + 2 * c + i) (slots_of n s at c g o i) ∙ lists_length n s at c g o i

      go : (j < slots_of n s at c g o i → get_or (lists n s at c g o i) (at + 3 + 3 * c + j) 0 < e)
          → get_or (write l (at + 3 + 3 * c + slots_of n s at c g o i) (degree_at n s at c g o i) f) (at + 3 + 3 * c + j) 0 < e
      go r =
          by_cases (dec_lt j (slots_of n s at c g o i))
          (λ (a : j < slots_of n s at c g o i).
          rw (write-below l (at + 3 + 3 * c + slots_of n s at c g o i) (degree_at n s at c g o i) (at + 3 + 3 * c + j) f 0 (omega arith), get_or-set_other (lists n s at c g o i) (at + 2 + 2 * c + i) (at + 3 + 3 * c + j) (slots_of n s at c g o i) 0 (λ z. omega arith)) (r a))
          (λ a.
          let k = j - slots_of n s at c g o i in
          let z : at + 3 + 3 * c + j ≡ at + 3 + 3 * c + slots_of n s at c g o i + k = omega arith in
          let v = node_at n s at c g o i in
          let b = nodes i (omega arith) in
          rw (z, write_in l (at + 3 + 3 * c + slots_of n s at c g o i) (degree_at n s at c g o i) k f 0 (omega arith) (omega (arith, size, slots-within n s at c g o i (omega arith), room)))
          (sound.slots (first_of n s g v + k) (omega (arith, sound.lasts v b, sound.firsts v b))))

  pub listed-slots : (j : ℕ) → j < slots_of n s at c g o c → get_or (listed n s at c g o) (at + 3 + 3 * c + j) 0 < e
  unfolding listed
  listed-slots j h = rw (get_or-set_other (lists n s at c g o c) (at + 2 + 3 * c) (at + 3 + 3 * c + j) (slots_of n s at c g o c) 0 (λ z. omega arith)) (lists-slots c (omega arith) j h)

pub listed-nodes : (n s at c : ℕ) (g o : List ℕ) (k : ℕ) → k < at + 2 + 2 * c → get_or (listed n s at c g o) k 0 ≡ get_or o k 0
unfolding listed
listed-nodes n s at c g o k h = get_or-set_other (lists n s at c g o c) (at + 2 + 3 * c) k (slots_of n s at c g o c) 0 (λ z. omega arith) ∙ lists-nodes n s at c g o c k h

-- what stands before the slots stays
module _ (n s from to : ℕ) (order : from ≤ to) (x : Seen) where
  pub see_before : (t i : ℕ) → i < from → get_or (see_slots n s from to t x).memory.out i 0 ≡ get_or x.memory.out i 0
  unfolding see_slots
  see_before zero i h = refl
  see_before (suc t) i h =
      let y = see_slots n s from to t x in
      let k = get_or y.memory.out (from + t) 0 in
      get_or-set_other (number_edge n s to k y).memory.out (from + t) i (get_or (number_edge n s to k y).memory.edge_numbers k 0 - 1) 0 (λ z. omega arith)
      ∙ (number_keeps n s 0 to k y).slots i (omega arith) (omega arith) ∙ see_before t i h

-- ---- what the record asks

pub record Recording (n e s at c : ℕ) (w : List ℕ) : Type 0 where
  pub fits : out_at n e s ≤ length w
  pub sound : Sound n e s (memory n e s w).graph
  pub nodes : (i : ℕ) → i < c → get_or (memory n e s w).out (at + 2 + i) 0 < n
  pub small : (recorded n s at c (memory n e s w)).end < 4294967296
  pub room : out_at n e s + (recorded n s at c (memory n e s w)).end ≤ length w

module _ (n e s at c : ℕ) (w : List ℕ) (pre : Recording n e s at c w) where
  abbrev m : Memory
  m = memory n e s w

  pub end_is : (recorded n s at c m).end ≡ at + 3 + 3 * c + total_of n s at c m + 5 * (edged n s at c m).count
  unfolding recorded
  end_is = refl

  out_room : at + 3 + 3 * c + total_of n s at c m + 5 * (edged n s at c m).count ≤ length m.out
  out_room = omega (arith, end_is, pre.room, length-out n e s w pre.fits)

  -- the labels
  pub label_asks : (i j : ℕ) → i ≡ out_at n e s + (at + 2) → j ≡ out_at n e s + (at + 2 + c)
      → ((i ≤ j) × ((i + c ≤ j) ⊎ (i ≡ j))) × ((j + c ≤ length w) × ((k : ℕ) → k < c → 2 + n + get_or w (i + k) 0 < j))
  label_asks i j p q = (
    (omega arith, inl (omega arith)),
    (omega (arith, end_is, pre.room), λ k h. let z = read_out n e s w (i + k) (at + 2 + k) 0 (omega arith) in omega (arith, z, pre.nodes k h)),
  )

  pub label-left : (i j : ℕ) → i ≡ out_at n e s + (at + 2) → j ≡ out_at n e s + (at + 2 + c) → memory n e s (looked_up w (2 + n) i j c) ≡ labelled n s at c m
  label-left i j p q = table_stored n e s w (2 + n) i j (at + 2) (at + 2 + c) c p q (λ k h. omega (arith, pre.nodes k h))

  labelled-node : (i : ℕ) → i < c → get_or (labelled n s at c m).out (at + 2 + i) 0 ≡ get_or m.out (at + 2 + i) 0
  labelled-node i h = write-below m.out (at + 2 + c) c (at + 2 + i) (λ k. get_or m.graph (2 + n + get_or m.out (at + 2 + k) 0) 0) 0 (omega arith)

  labelled-length : length (labelled n s at c m).out ≡ length m.out
  labelled-length = length-write m.out (at + 2 + c) c (λ k. get_or m.graph (2 + n + get_or m.out (at + 2 + k) 0) 0)

  -- the lists
  pub list_asks : (w₁ : List ℕ) → length w₁ ≡ length w → memory n e s w₁ ≡ labelled n s at c m → Listing n e s at c w₁
  list_asks w₁ size q =
      record {
        fits = omega (arith, pre.fits);
        sound = rw q pre.sound;
        nodes = λ i h. rw (q, labelled-node i h) (pre.nodes i h);
        small = rw q (omega (arith, end_is, pre.small));
        room = rw q (omega (arith, end_is, pre.room));
      }

  pub list_left : (w₁ w₂ : List ℕ) → memory n e s w₁ ≡ labelled n s at c m
      → memory n e s w₂ ≡ with_out (memory n e s w₁) (listed n s at c (memory n e s w₁).graph (memory n e s w₁).out) → memory n e s w₂ ≡ filled n s at c m
  list_left w₁ w₂ q r = r ∙ ap (λ (x : Memory). with_out x (listed n s at c x.graph x.out)) q

  pub list_total : (w₁ : List ℕ) (t : ℕ) → memory n e s w₁ ≡ labelled n s at c m → t ≡ slots_of n s at c (memory n e s w₁).graph (memory n e s w₁).out c → t ≡ total_of n s at c m
  list_total w₁ t q r = r ∙ ap (λ (x : Memory). slots_of n s at c x.graph x.out c) q

  -- the edges
  pub edge_asks : (w₂ : List ℕ) → length w₂ ≡ length w → memory n e s w₂ ≡ filled n s at c m
      → Seeing n e s (at + 3 + 3 * c) (at + 3 + 3 * c + total_of n s at c m) (total_of n s at c m) w₂
  edge_asks w₂ size q =
      record {
        fits = omega (arith, pre.fits);
        sound = rw q pre.sound;
        apart = omega arith;
        slots = λ i h.
            rw q
            (listed-slots n e s at c m.graph (labelled n s at c m).out pre.sound (λ j l. rw (labelled-node j l) (pre.nodes j l)) (omega (arith, labelled-length, out_room)) i h);
        small = rw q (omega (arith, end_is, pre.small));
        room = rw q (omega (arith, end_is, pre.room));
      }

  pub edge-left : (w₂ w₃ : List ℕ) (t r : ℕ) → memory n e s w₂ ≡ filled n s at c m → t ≡ total_of n s at c m
      → seen_of (memory n e s w₃) r ≡ see_slots n s (at + 3 + 3 * c) (at + 3 + 3 * c + t) t (seen_of (memory n e s w₂) 0) → seen_of (memory n e s w₃) r ≡ edged n s at c m
  edge-left w₂ w₃ t r q h y =
      y ∙ ap (λ (x : Memory). see_slots n s (at + 3 + 3 * c) (at + 3 + 3 * c + t) t (seen_of x 0)) q
      ∙ ap (λ (z : ℕ). see_slots n s (at + 3 + 3 * c) (at + 3 + 3 * c + z) z (seen_of (filled n s at c m) 0)) h

  -- the kinds
  edged-node : (i : ℕ) → i < c → get_or (edged n s at c m).memory.out (at + 2 + i) 0 ≡ get_or m.out (at + 2 + i) 0
  edged-node i h =
      see_before n s (at + 3 + 3 * c) (at + 3 + 3 * c + total_of n s at c m) (omega arith) (seen_of (filled n s at c m) 0) (total_of n s at c m) (at + 2 + i) (omega arith)
      ∙ listed-nodes n s at c m.graph (labelled n s at c m).out (at + 2 + i) (omega arith) ∙ labelled-node i h

  module _ (w₃ : List ℕ) (size : length w₃ ≡ length w) (r : ℕ) (q : seen_of (memory n e s w₃) r ≡ edged n s at c m) where
    edged-is : memory n e s w₃ ≡ (edged n s at c m).memory
    edged-is = ap (λ (x : Seen). x.memory) q

    pub edge_count : r ≡ (edged n s at c m).count
    edge_count = ap (λ (x : Seen). x.count) q

    node-is : (k : ℕ) → k < c → get_or (memory n e s w₃).out (at + 2 + k) 0 ≡ get_or m.out (at + 2 + k) 0
    node-is k h = ap (λ (x : Memory). get_or x.out (at + 2 + k) 0) edged-is ∙ edged-node k h

    pub kind_asks : (i : ℕ) → i ≡ out_at n e s + (at + 2) → ((i ≤ i) × ((i + c ≤ i) ⊎ (i ≡ i))) × ((i + c ≤ length w₃) × ((k : ℕ) → k < c → 2 + get_or w₃ (i + k) 0 < i))
    kind_asks i p = (
      (omega arith, inr refl),
      (omega (arith, end_is, pre.room), λ k h. let z = read_out n e s w₃ (i + k) (at + 2 + k) 0 (omega arith) in omega (arith, z, node-is k h, pre.nodes k h)),
    )

    pub record_left : (i j k : ℕ) → i ≡ out_at n e s + (at + 2) → j ≡ out_at n e s + at → k ≡ out_at n e s + (at + 1) → (w₄ : List ℕ) → w₄ ≡ looked_up w₃ 2 i i c
        → recorded_of (memory n e s (set (set w₄ j c) k r)) (at + 3 + 3 * c + total_of n s at c m + 5 * r) ≡ recorded n s at c m
    unfolding recorded
    record_left i j k p a b w₄ y =
        let z : memory n e s w₄ ≡ kinded n s at c m =
        ap (memory n e s) y
        ∙ table_stored n e s w₃ 2 i i (at + 2) (at + 2) c p p (λ h l. omega (arith, node-is h l, pre.nodes h l))
        ∙ ap (λ (x : Memory). table_out 2 (at + 2) (at + 2) c x) edged-is
        in
        let u : memory n e s (set (set w₄ j c) k r) ≡ with_out (kinded n s at c m) (set (set (kinded n s at c m).out at c) (at + 1) (edged n s at c m).count) =
        store_out n e s (set w₄ j c) k (at + 1) r b
        ∙ ap (λ (x : Memory). with_out x (set x.out (at + 1) r)) (store_out n e s w₄ j at c a ∙ ap (λ (x : Memory). with_out x (set x.out at c)) z)
        ∙ ap (λ (t : ℕ). with_out (kinded n s at c m) (set (set (kinded n s at c m).out at c) (at + 1) t)) edge_count
        in
        λ h. recorded_of (u h) (at + 3 + 3 * c + total_of n s at c m + 5 * edge_count h)
