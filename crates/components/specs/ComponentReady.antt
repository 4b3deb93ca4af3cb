-- The lent words before and after all components are found.
use Rattle.std.specs.Prelude.{◌≡◌, refl, List, [], ℕ, ◌+◌, ◌*◌, ◌-◌, ◌≤◌, ◌<◌, eqb, length, get_or, take}
use Rattle.std.proofs.Common.{sym, ap, ◌∙◌, subst, zero-add, arith, get_or-take, ext_get_or}
use Rattle.std.proofs.Math.Logic.{by_cases}
use Rattle.std.proofs.Math.Decide.{dec_lt}
use Rattle.std.proofs.Math.ListN.{get_or-eq_default}
use Rattle.definition.specs.FactorGraph.{Bale, eq_pair}
use Rattle.definition.specs.Components.{components_of}
use Rattle.graph_laws.specs.Ranks.{NoDup}
use Rattle.graph_laws.specs.Names.{Valid}
use Rattle.list_laws.specs.Write.{write, length-write, write-below, write-above, write_in}
use Rattle.list_laws.specs.Put.{put, put_is, put_in, put-above}
use Rattle.factor_graph.specs.Words.{built_words, components_words}
use Rattle.components.specs.ComponentMemory.{memory, out_at, read_graph, read_node_number, read-edge_number, read_stack, read_out, length_graph, length_node_numbers, length_edge_numbers, length_stack, length-out}
use Rattle.components.specs.ComponentWalk.{Sound}
use Rattle.components.specs.ComponentAll.{AllSoFar, all_of, all_from, Finding}
use Rattle.components.specs.ComponentBuiltWords.{node_total, edge_total, slot_total, built-length, built_sound}
use Rattle.components.specs.ComponentByNumber.{Between}
use Rattle.components.specs.ComponentTheorems.{Found, all_found}

-- the scratch set to 0
abbrev pub cleared : ℕ → ℕ → ℕ → List ℕ → List ℕ
cleared n e s w = write w (3 + 3 * n + s + 5 * e) (n + e + n) (λ k. 0)

-- The record of the built graph of b is at the front of the words, which have room for the scratch and the components' records.
pub record Ready (b : Bale) (n e s : ℕ) (w : List ℕ) : Type 0 where
  pub valid : Valid b
  pub once : NoDup eq_pair b.pairs
  pub nodes : n ≡ node_total b
  pub edges : e ≡ edge_total b
  pub slots : s ≡ slot_total b
  pub front : take (length (built_words b)) w ≡ built_words b
  pub small : (n < 4294967296) × (length (components_words b) < 4294967296)
  pub room : 3 + 3 * n + s + 5 * e + n + e + n + length (components_words b) ≤ length w

pub record ReadyOf (n e s : ℕ) (w : List ℕ) : Type 0 where
  pub bale : Bale
  pub ready : Ready bale n e s w

-- What is left: the graph's record, the scratch set to 0, the components' records one after the other, and the rest as it was.
pub record Done (b : Bale) (n e s : ℕ) (w w' : List ℕ) (c k : ℕ) : Type 0 where
  pub words : w' ≡ put (cleared n e s w) (out_at n e s) (components_words b)
  pub count : c ≡ length (components_of b)
  pub end : k ≡ out_at n e s + length (components_words b)

module _ (b : Bale) (n e s : ℕ) (w : List ℕ) (pre : Ready b n e s w) where
  abbrev g : ℕ
  g = 3 + 3 * n + s + 5 * e

  abbrev w₁ : List ℕ
  w₁ = cleared n e s w

  fits : out_at n e s ≤ length w
  fits = omega (arith, pre.room)

  size₁ : length w₁ ≡ length w
  size₁ = length-write w g (n + e + n) (λ k. 0)

  fits₁ : out_at n e s ≤ length w₁
  fits₁ = omega (arith, size₁, fits)

  front_length : length (built_words b) ≡ g
  front_length = built-length b pre.valid pre.once ∙ omega (arith, pre.nodes, pre.edges, pre.slots)

  graph_is : (memory n e s w₁).graph ≡ built_words b
  graph_is =
      ext_get_or 0 (memory n e s w₁).graph (built_words b) (length_graph n e s w₁ fits₁ ∙ sym front_length)
      (λ i h.
      let l : i < g = subst (λ (k : ℕ). i < k) (length_graph n e s w₁ fits₁) h in
      sym (read_graph n e s w₁ i 0 l) ∙ write-below w g (n + e + n) i (λ k. 0) 0 l
      ∙ sym (get_or-take (length (built_words b)) w i 0 (omega (arith, front_length))) ∙ ap (λ (x : List ℕ). get_or x i 0) pre.front)

  zero-at : (j : ℕ) → j < n + e + n → get_or w₁ (g + j) 0 ≡ 0
  zero-at j h = write_in w g (n + e + n) j (λ k. 0) 0 h (omega (arith, fits))

  pub held : Between b pre.valid pre.once [] (memory n e s w₁)
  held =
      record {
        graph = graph_is;
        numbers = length_node_numbers n e s w₁ fits₁ ∙ pre.nodes;
        edges = length_edge_numbers n e s w₁ fits₁ ∙ pre.edges;
        stack = length_stack n e s w₁ fits₁ ∙ pre.nodes;
        empty = λ j. by_cases (dec_lt j n)
            (λ (h : j < n). sym (read_stack n e s w₁ (g + (n + e + j)) j 0 (omega arith) h) ∙ zero-at (n + e + j) (omega arith))
            (λ h. get_or-eq_default (memory n e s w₁).stack 0 {n = j} (omega (arith, length_stack n e s w₁ fits₁)));
        marks = λ v h. ap (λ (x : ℕ). eqb x 0) (sym (read_node_number n e s w₁ (g + v) v 0 refl (omega (arith, pre.nodes))) ∙ zero-at v (omega (arith, pre.nodes)));
        free = λ k h q. ap (λ (x : ℕ). eqb x 0) (sym (read-edge_number n e s w₁ (g + (n + k)) k 0 (omega arith) (omega (arith, pre.edges))) ∙ zero-at (n + k) (omega (arith, pre.edges)));
      }

  found : Found b pre.valid pre.once (memory n e s w₁) (all_from n s n 0 0 0 (memory n e s w₁))
  found =
      subst (λ (x : ℕ). Found b pre.valid pre.once (memory n e s w₁) (all_from x s x 0 0 0 (memory n e s w₁))) (sym pre.nodes)
      (subst (λ (y : ℕ). Found b pre.valid pre.once (memory n e s w₁) (all_from (node_total b) y (node_total b) 0 0 0 (memory n e s w₁))) (sym pre.slots) found_by)
    where
      found_by : Found b pre.valid pre.once (memory n e s w₁) (all_from (node_total b) (slot_total b) (node_total b) 0 0 0 (memory n e s w₁))
      found_by = all_found b pre.valid pre.once (memory n e s w₁) held (omega (arith, length-out n e s w₁ fits₁, size₁, pre.room))

  pub find_asks : Finding n e s w₁
  find_asks =
      record {
        fits = fits₁;
        sound = rw graph_is sound_by;
        nodes = pre.small.0;
        small = omega (arith, found.end, pre.small.1);
        room = omega (arith, found.end, pre.room, size₁);
      }
    where
      sound_by : Sound n e s (built_words b)
      sound_by = rw (pre.nodes, pre.edges, pre.slots) (built_sound b pre.valid pre.once)

  -- after all components are found, in the words w₂, and the scratch is cleared again
  module _ (w₂ : List ℕ) (size₂ : length w₂ ≡ length w₁) (c k : ℕ) (q : all_of (memory n e s w₂) c k ≡ all_from n s n 0 0 0 (memory n e s w₁)) where
    abbrev CW : List ℕ
    CW = components_words b

    graph₂ : (memory n e s w₂).graph ≡ (memory n e s w₁).graph
    graph₂ = ap (λ (x : AllSoFar). x.memory.graph) q ∙ found.graph

    out₂ : (memory n e s w₂).out ≡ put (memory n e s w₁).out 0 CW
    out₂ = ap (λ (x : AllSoFar). x.memory.out) q ∙ found.out

    out-at : (j : ℕ) → get_or w₂ (out_at n e s + j) 0 ≡ get_or (put (memory n e s w₁).out 0 CW) j 0
    out-at j = read_out n e s w₂ (out_at n e s + j) j 0 refl ∙ ap (λ (l : List ℕ). get_or l j 0) out₂

    done_words : cleared n e s w₂ ≡ put (cleared n e s w) (out_at n e s) CW
    done_words =
        put_is 0 (cleared n e s w₂) w₁ (out_at n e s) CW (omega (arith, size₁, pre.room)) (length-write w₂ g (n + e + n) (λ i. 0) ∙ size₂)
        (λ i h.
        write-above w₂ g (n + e + n) (out_at n e s + i) (λ j. 0) 0 (omega arith) ∙ out-at i
        ∙ ap (λ (z : ℕ). get_or (put (memory n e s w₁).out 0 CW) z 0) (sym (zero-add i)) ∙ put_in (memory n e s w₁).out 0 CW 0 i (omega arith) h)
        (λ j h. by_cases (dec_lt j g)
        (λ (a : j < g). write-below w₂ g (n + e + n) j (λ i. 0) 0 a ∙ read_graph n e s w₂ j 0 a ∙ ap (λ (l : List ℕ). get_or l j 0) graph₂ ∙ sym (read_graph n e s w₁ j 0 a))
        (λ a.
        let z : g + (j - g) ≡ j = omega arith in
        ap (λ (i : ℕ). get_or (cleared n e s w₂) i 0) (sym z) ∙ write_in w₂ g (n + e + n) (j - g) (λ i. 0) 0 (omega arith) (omega (arith, size₂, size₁, fits))
        ∙ sym (zero-at (j - g) (omega arith)) ∙ ap (λ (i : ℕ). get_or w₁ i 0) z))
        (λ j h.
        let i = j - out_at n e s in
        let z : out_at n e s + (j - out_at n e s) ≡ j = omega arith in
        write-above w₂ g (n + e + n) j (λ x. 0) 0 (omega arith) ∙ ap (λ (x : ℕ). get_or w₂ x 0) (sym z) ∙ out-at (j - out_at n e s)
        ∙ put-above (memory n e s w₁).out 0 CW 0 (j - out_at n e s) (omega arith) (omega arith)
        ∙ sym (read_out n e s w₁ (out_at n e s + (j - out_at n e s)) (j - out_at n e s) 0 refl) ∙ ap (λ (x : ℕ). get_or w₁ x 0) z)

    pub all_done : (w₄ : List ℕ) (end : ℕ) → w₄ ≡ cleared n e s w₂ → end ≡ out_at n e s + k → Done b n e s w w₄ c end
    all_done w₄ end r y =
        record {
          words = r ∙ done_words;
          count = ap (λ (x : AllSoFar). x.count) q ∙ found.count;
          end = y ∙ ap (λ (z : ℕ). out_at n e s + z) (ap (λ (x : AllSoFar). x.end) q ∙ found.end);
        }
