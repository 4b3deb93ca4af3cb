-- The lent words while components are found: the graph's record, the scratch, and the components' records, as lists of their own.
use Rattle.std.specs.Prelude.{◌≡◌, List, ℕ, ◌+◌, ◌*◌, ◌≤◌, ◌<◌, length, get_or, take, set}
use Rattle.std.proofs.Math.Path.{sym}
use Rattle.std.proofs.Common.{ap, ◌∙◌, arith, get_or-take, get_or-drop}
use Rattle.std.proofs.Math.ListN.{drop, length-drop}
use Rattle.std.proofs.Math.Seq.{length-take-le, take-set-le, take-set-lt, drop-set-lt, drop-set-add}

-- how many words come before the components' records: the graph's record, a number for each node and each edge, and the stack
abbrev pub out_at : ℕ → ℕ → ℕ → ℕ
out_at n e s = 3 + 3 * n + s + 5 * e + n + e + n

pub record Memory : Type 0 where
  pub graph : List ℕ
  pub node_numbers : List ℕ
  pub edge_numbers : List ℕ
  pub stack : List ℕ
  pub out : List ℕ

module _ (n e s : ℕ) where
  unfoldable pub memory : List ℕ → Memory
  memory w =
      record {
        graph = take (3 + 3 * n + s + 5 * e) w;
        node_numbers = take n (drop (3 + 3 * n + s + 5 * e) w);
        edge_numbers = take e (drop (3 + 3 * n + s + 5 * e + n) w);
        stack = take n (drop (3 + 3 * n + s + 5 * e + n + e) w);
        out = drop (out_at n e s) w;
      }

abbrev pub with_node_numbers : Memory → List ℕ → Memory
with_node_numbers m l = record { graph = m.graph; node_numbers = l; edge_numbers = m.edge_numbers; stack = m.stack; out = m.out }

abbrev pub with_edge_numbers : Memory → List ℕ → Memory
with_edge_numbers m l = record { graph = m.graph; node_numbers = m.node_numbers; edge_numbers = l; stack = m.stack; out = m.out }

abbrev pub with_stack : Memory → List ℕ → Memory
with_stack m l = record { graph = m.graph; node_numbers = m.node_numbers; edge_numbers = m.edge_numbers; stack = l; out = m.out }

abbrev pub with_out : Memory → List ℕ → Memory
with_out m l = record { graph = m.graph; node_numbers = m.node_numbers; edge_numbers = m.edge_numbers; stack = m.stack; out = l }

module _ (a m : ℕ) (w : List ℕ) (i x : ℕ) where
  part-before : i < a → take m (drop a (set w i x)) ≡ take m (drop a w)
  part-before h = ap (take m) (drop-set-lt a w i x h)

  part-after : (j : ℕ) → i ≡ a + j → m ≤ j → take m (drop a (set w i x)) ≡ take m (drop a w)
  part-after j q h = rw q (ap (take m) (drop-set-add a w j x) ∙ take-set-le m (drop a w) j x h)

  part_in : (j : ℕ) → i ≡ a + j → j < m → take m (drop a (set w i x)) ≡ set (take m (drop a w)) j x
  part_in j q h = rw q (ap (take m) (drop-set-add a w j x) ∙ take-set-lt m (drop a w) j x h)

module _ (n e s : ℕ) (w : List ℕ) where
  -- ---- a word is stored

  pub store_node_number : (i j x : ℕ) → i ≡ 3 + 3 * n + s + 5 * e + j → j < n → memory n e s (set w i x) ≡ with_node_numbers (memory n e s w) (set (memory n e s w).node_numbers j x)
  unfolding memory
  store_node_number i j x q h = λ k. record {
    graph = take-set-le (3 + 3 * n + s + 5 * e) w i x (omega arith) k;
    node_numbers = part_in (3 + 3 * n + s + 5 * e) n w i x j q h k;
    edge_numbers = part-before (3 + 3 * n + s + 5 * e + n) e w i x (omega arith) k;
    stack = part-before (3 + 3 * n + s + 5 * e + n + e) n w i x (omega arith) k;
    out = drop-set-lt (out_at n e s) w i x (omega arith) k;
  }

  pub store_edge_number : (i j x : ℕ) → i ≡ 3 + 3 * n + s + 5 * e + n + j → j < e → memory n e s (set w i x) ≡ with_edge_numbers (memory n e s w) (set (memory n e s w).edge_numbers j x)
  unfolding memory
  store_edge_number i j x q h = λ k. record {
    graph = take-set-le (3 + 3 * n + s + 5 * e) w i x (omega arith) k;
    node_numbers = part-after (3 + 3 * n + s + 5 * e) n w i x (n + j) (omega arith) (omega arith) k;
    edge_numbers = part_in (3 + 3 * n + s + 5 * e + n) e w i x j q h k;
    stack = part-before (3 + 3 * n + s + 5 * e + n + e) n w i x (omega arith) k;
    out = drop-set-lt (out_at n e s) w i x (omega arith) k;
  }

  pub store_stack : (i j x : ℕ) → i ≡ 3 + 3 * n + s + 5 * e + n + e + j → j < n → memory n e s (set w i x) ≡ with_stack (memory n e s w) (set (memory n e s w).stack j x)
  unfolding memory
  store_stack i j x q h = λ k. record {
    graph = take-set-le (3 + 3 * n + s + 5 * e) w i x (omega arith) k;
    node_numbers = part-after (3 + 3 * n + s + 5 * e) n w i x (n + e + j) (omega arith) (omega arith) k;
    edge_numbers = part-after (3 + 3 * n + s + 5 * e + n) e w i x (e + j) (omega arith) (omega arith) k;
    stack = part_in (3 + 3 * n + s + 5 * e + n + e) n w i x j q h k;
    out = drop-set-lt (out_at n e s) w i x (omega arith) k;
  }

  pub store_out : (i j x : ℕ) → i ≡ out_at n e s + j → memory n e s (set w i x) ≡ with_out (memory n e s w) (set (memory n e s w).out j x)
  unfolding memory
  store_out i j x q = λ k. record {
    graph = take-set-le (3 + 3 * n + s + 5 * e) w i x (omega arith) k;
    node_numbers = part-after (3 + 3 * n + s + 5 * e) n w i x (n + e + n + j) (omega arith) (omega arith) k;
    edge_numbers = part-after (3 + 3 * n + s + 5 * e + n) e w i x (e + n + j) (omega arith) (omega arith) k;
    stack = part-after (3 + 3 * n + s + 5 * e + n + e) n w i x (n + j) (omega arith) (omega arith) k;
    out = (ap (λ (z : ℕ). drop (out_at n e s) (set w z x)) q ∙ drop-set-add (out_at n e s) w j x) k;
  }

  -- ---- a word is read

  pub read_graph : (i d : ℕ) → i < 3 + 3 * n + s + 5 * e → get_or w i d ≡ get_or (memory n e s w).graph i d
  unfolding memory
  read_graph i d h = sym (get_or-take (3 + 3 * n + s + 5 * e) w i d h)

  part_at : (a m i j d : ℕ) → i ≡ a + j → j < m → get_or w i d ≡ get_or (take m (drop a w)) j d
  part_at a m i j d q h = rw q (sym (get_or-take m (drop a w) j d h ∙ get_or-drop a w j d))

  pub read_node_number : (i j d : ℕ) → i ≡ 3 + 3 * n + s + 5 * e + j → j < n → get_or w i d ≡ get_or (memory n e s w).node_numbers j d
  unfolding memory
  read_node_number i j d q h = part_at (3 + 3 * n + s + 5 * e) n i j d q h

  pub read-edge_number : (i j d : ℕ) → i ≡ 3 + 3 * n + s + 5 * e + n + j → j < e → get_or w i d ≡ get_or (memory n e s w).edge_numbers j d
  unfolding memory
  read-edge_number i j d q h = part_at (3 + 3 * n + s + 5 * e + n) e i j d q h

  pub read_stack : (i j d : ℕ) → i ≡ 3 + 3 * n + s + 5 * e + n + e + j → j < n → get_or w i d ≡ get_or (memory n e s w).stack j d
  unfolding memory
  read_stack i j d q h = part_at (3 + 3 * n + s + 5 * e + n + e) n i j d q h

  pub read_out : (i j d : ℕ) → i ≡ out_at n e s + j → get_or w i d ≡ get_or (memory n e s w).out j d
  unfolding memory
  read_out i j d q = rw q (sym (get_or-drop (out_at n e s) w j d))

  -- ---- how long each list is

  module _ (h : 3 + 3 * n + s + 5 * e + n + e + n ≤ length w) where
    pub length_graph : length (memory n e s w).graph ≡ 3 + 3 * n + s + 5 * e
    unfolding memory
    length_graph = length-take-le (3 + 3 * n + s + 5 * e) w (omega arith)

    part_length : (a m : ℕ) → a + m ≤ length w → length (take m (drop a w)) ≡ m
    part_length a m q = length-take-le m (drop a w) (rw length-drop (omega arith))

    pub length_node_numbers : length (memory n e s w).node_numbers ≡ n
    unfolding memory
    length_node_numbers = part_length (3 + 3 * n + s + 5 * e) n (omega arith)

    pub length_edge_numbers : length (memory n e s w).edge_numbers ≡ e
    unfolding memory
    length_edge_numbers = part_length (3 + 3 * n + s + 5 * e + n) e (omega arith)

    pub length_stack : length (memory n e s w).stack ≡ n
    unfolding memory
    length_stack = part_length (3 + 3 * n + s + 5 * e + n + e) n (omega arith)

    pub length-out : out_at n e s + length (memory n e s w).out ≡ length w
    unfolding memory
    length-out = omega (arith, length-drop (out_at n e s) w)
