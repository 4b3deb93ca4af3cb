-- All components on the lent words, one after the other.
use Rattle.std.specs.Prelude.{◌≡◌, Bool, List, length, get_or}
use Rattle.std.proofs.Math.Path.{refl}
use Rattle.std.proofs.Common.{sym, ap, ◌∙◌}
use Rattle.std.proofs.Math.Bool.{true, false, cond}
use Prim.Native.Nat.{ℕ, zero, suc, ◌+◌, ◌*◌, ◌-◌, ◌≤◌, ◌<◌}
use native.Mathlib.Omega.{arith}
use Rattle.std.proofs.lemmas.Bool.{eqb-false}
use Rattle.std.proofs.Math.Dec.{eqb}
use Rattle.components.specs.ComponentMemory.{Memory, memory, out_at}
use Rattle.components.specs.ComponentWalk.{Walk, walk_of, visit_node, Sound, walked, Walking, turn, turn_walking, turn_graph}
use Rattle.components.specs.ComponentRecorded.{AfterRecord, recorded_of, recorded, filled, total_of}
use Rattle.components.specs.ComponentEdges.{see_keeps}
use Rattle.components.specs.ComponentRecord.{seen_of}
use Rattle.components.specs.ComponentStep.{walked_from, component_at, next_free, Stepping, walked-is, first_walking, first-kept, component_is}

-- the words, how many components there are so far, and where the last record ends
pub record AllSoFar : Type 0 where
  pub memory : Memory
  pub count : ℕ
  pub end : ℕ

abbrev pub all_of : Memory → ℕ → ℕ → AllSoFar
all_of m c k = record { memory = m; count = c; end = k }

module _ (n s : ℕ) where
  -- from node i on, for k nodes: each one without a number begins a component
  unfoldable pub all_from : ℕ → ℕ → ℕ → ℕ → Memory → AllSoFar
  all_from zero i c at m = all_of m c at
  all_from (suc k) i c at m =
      cond (eqb (get_or m.node_numbers i 0) 0) (all_from k (i + 1) (c + 1) (component_at n s at i m).end (component_at n s at i m).memory) (all_from k (i + 1) c at m)

  -- a component ends no earlier than it begins
  component_end : (at i : ℕ) (m : Memory) → at ≤ (component_at n s at i m).end
  unfolding component_at recorded
  component_end at i m = omega arith

  pub all_end : (k i c at : ℕ) (m : Memory) → at ≤ (all_from k i c at m).end
  unfolding all_from
  all_end zero i c at m = omega arith
  all_end (suc k) i c at m = go (eqb (get_or m.node_numbers i 0) 0) (all_end k (i + 1) (c + 1) (component_at n s at i m).end (component_at n s at i m).memory) (all_end k (i + 1) c at m)
    where
      go : (b : Bool) → (component_at n s at i m).end ≤ (all_from k (i + 1) (c + 1) (component_at n s at i m).end (component_at n s at i m).memory).end → at ≤ (all_from k (i + 1) c at m).end
          → at ≤ (cond b (all_from k (i + 1) (c + 1) (component_at n s at i m).end (component_at n s at i m).memory) (all_from k (i + 1) c at m)).end
      go true p q = omega (arith, component_end at i m)
      go false p q = q

  all_skip : (k i c at : ℕ) (m : Memory) → eqb (get_or m.node_numbers i 0) 0 ≡ false → all_from (suc k) i c at m ≡ all_from k (i + 1) c at m
  unfolding all_from
  all_skip k i c at m e = rw e

  pub all_step : (i c at : ℕ) (m : Memory) → i < n → eqb (get_or m.node_numbers i 0) 0 ≡ true
      → all_from (n - i) i c at m ≡ all_from (n - (i + 1)) (i + 1) (c + 1) (component_at n s at i m).end (component_at n s at i m).memory
  unfolding all_from
  all_step i c at m h e = let z : n - i ≡ suc (n - (i + 1)) = omega arith in rw (z, e)

  -- the nodes that have a number are passed
  pub all-passed : (k i c at : ℕ) (m : Memory) → i + k ≡ n → all_from k i c at m ≡ all_from (n - next_free m.node_numbers i k) (next_free m.node_numbers i k) c at m
  unfolding next_free
  all-passed zero i c at m h = let z : n - i ≡ 0 = omega arith in rw z
  all-passed (suc k) i c at m h = go (eqb (get_or m.node_numbers i 0) 0) refl (all-passed k (i + 1) c at m (omega arith))
    where
      go : (b : Bool) → eqb (get_or m.node_numbers i 0) 0 ≡ b → all_from k (i + 1) c at m ≡ all_from (n - next_free m.node_numbers (i + 1) k) (next_free m.node_numbers (i + 1) k) c at m
          → all_from (suc k) i c at m ≡ all_from (n - cond b i (next_free m.node_numbers (i + 1) k)) (cond b i (next_free m.node_numbers (i + 1) k)) c at m
      go true e r = let z : n - i ≡ suc k = omega arith in rw z
      go false e r = all_skip k i c at m e ∙ r

-- the next free place is one that holds 0, and lies behind
pub next_free_lem : (l : List ℕ) (i k : ℕ) → next_free l i k < i + k → eqb (get_or l (next_free l i k) 0) 0 ≡ true
unfolding next_free
next_free_lem l i zero h = absurd (let z : ⊥ = omega arith in z)
next_free_lem l i (suc k) h = go (eqb (get_or l i 0) 0) refl h (next_free_lem l (i + 1) k)
  where
    go : (b : Bool) → eqb (get_or l i 0) 0 ≡ b → cond b i (next_free l (i + 1) k) < i + suc k → (next_free l (i + 1) k < i + 1 + k → eqb (get_or l (next_free l (i + 1) k) 0) 0 ≡ true)
        → eqb (get_or l (cond b i (next_free l (i + 1) k)) 0) 0 ≡ true
    go true e q r = e
    go false e q r = r (omega arith)

pub next_bounds : (l : List ℕ) (i k : ℕ) → (i ≤ next_free l i k) × (next_free l i k ≤ i + k)
unfolding next_free
next_bounds l i zero = (omega arith, omega arith)
next_bounds l i (suc k) = go (eqb (get_or l i 0) 0) (next_bounds l (i + 1) k)
  where
    go : (b : Bool) → (i + 1 ≤ next_free l (i + 1) k) × (next_free l (i + 1) k ≤ i + 1 + k) → (i ≤ cond b i (next_free l (i + 1) k)) × (cond b i (next_free l (i + 1) k) ≤ i + suc k)
    go true r = (omega arith, omega arith)
    go false r = (omega arith, omega arith)

-- ---- the graph stays

walked_graph : (n e s at k : ℕ) (x : Walk) → Walking n e s at x → (walked n s at k x).memory.graph ≡ x.memory.graph
unfolding walked
walked_graph n e s at zero x w = refl
walked_graph n e s at (suc k) x w = go (eqb x.top 0) refl (walked_graph n e s at k (turn n s at x))
  where
    go : (b : Bool) → eqb x.top 0 ≡ b → (Walking n e s at (turn n s at x) → (walked n s at k (turn n s at x)).memory.graph ≡ (turn n s at x).memory.graph)
        → (cond b x (walked n s at k (turn n s at x))).memory.graph ≡ x.memory.graph
    go true q r = refl
    go false q r = let p : 0 < x.top = omega (arith, eqb-false x.top 0 q) in r (turn_walking n e s at x w p) ∙ turn_graph n e s at x w p

recorded_graph : (n s at c : ℕ) (m : Memory) → (recorded n s at c m).memory.graph ≡ m.graph
unfolding recorded
recorded_graph n s at c m = (see_keeps n s (at + 3 + 3 * c) (at + 3 + 3 * c + total_of n s at c m) (seen_of (filled n s at c m) 0) (total_of n s at c m)).graph

pub component_graph : (n e s at v : ℕ) (w : List ℕ) → Stepping n e s at v w → (component_at n s at v (memory n e s w)).memory.graph ≡ (memory n e s w).graph
component_graph n e s at v w pre =
    ap (λ (r : AfterRecord). r.memory.graph) (component_is n e s at v w pre)
    ∙ recorded_graph n s at (walked_from n s at v (memory n e s w)).count (walked_from n s at v (memory n e s w)).memory
    ∙ ap (λ (x : Walk). x.memory.graph) (walked-is n e s at v w pre)
    ∙ walked_graph n e s at n (visit_node at v (walk_of (memory n e s w) 0 0)) (first_walking n e s at v w pre)
    ∙ (first-kept n e s at v w pre).graph

-- ---- what the loop asks

pub record Finding (n e s : ℕ) (w : List ℕ) : Type 0 where
  pub fits : out_at n e s ≤ length w
  pub sound : Sound n e s (memory n e s w).graph
  pub nodes : n < 4294967296
  pub small : (all_from n s n 0 0 0 (memory n e s w)).end < 4294967296
  pub room : out_at n e s + (all_from n s n 0 0 0 (memory n e s w)).end ≤ length w

module _ (n e s : ℕ) (w₀ : List ℕ) (pre : Finding n e s w₀) where
  abbrev whole : AllSoFar
  whole = all_from n s n 0 0 0 (memory n e s w₀)

  pub find_first : all_from n s (n - next_free (memory n e s w₀).node_numbers 0 (n - 0)) (next_free (memory n e s w₀).node_numbers 0 (n - 0)) 0 0 (memory n e s w₀) ≡ whole
  find_first = let z : n - 0 ≡ n = omega arith in rw z (sym (all-passed n s n 0 0 0 (memory n e s w₀) (omega arith)))

  module _ (w : List ℕ) (size : length w ≡ length w₀) (c at v : ℕ) (below : v < n) (free : eqb (get_or (memory n e s w).node_numbers v 0) 0 ≡ true)
      (graph : (memory n e s w).graph ≡ (memory n e s w₀).graph) (inv : all_from n s (n - v) v c at (memory n e s w) ≡ whole) where
    step : all_from n s (n - (v + 1)) (v + 1) (c + 1) (component_at n s at v (memory n e s w)).end (component_at n s at v (memory n e s w)).memory ≡ whole
    step = sym (all_step n s v c at (memory n e s w) below free) ∙ inv

    ends : (component_at n s at v (memory n e s w)).end ≤ whole.end
    ends = rw (← step) (all_end n s (n - (v + 1)) (v + 1) (c + 1) (component_at n s at v (memory n e s w)).end (component_at n s at v (memory n e s w)).memory)

    pub find_asks : Stepping n e s at v w
    find_asks =
        record {
          fits = omega (arith, pre.fits);
          sound = rw graph pre.sound;
          node = below;
          nodes = pre.nodes;
          small = omega (arith, ends, pre.small);
          room = omega (arith, ends, pre.room);
        }

    pub find_graph : (w' : List ℕ) (r : ℕ) → recorded_of (memory n e s w') r ≡ component_at n s at v (memory n e s w) → (memory n e s w').graph ≡ (memory n e s w₀).graph
    find_graph w' r q = ap (λ (x : AfterRecord). x.memory.graph) q ∙ component_graph n e s at v w find_asks ∙ graph

    pub find_next : (w' : List ℕ) (r u : ℕ) → recorded_of (memory n e s w') r ≡ component_at n s at v (memory n e s w) → u ≡ next_free (memory n e s w').node_numbers (v + 1) (n - (v + 1))
        → all_from n s (n - u) u (c + 1) r (memory n e s w') ≡ whole
    find_next w' r u q p =
        ap (λ (j : ℕ). all_from n s (n - j) j (c + 1) r (memory n e s w')) p
        ∙ sym (all-passed n s (n - (v + 1)) (v + 1) (c + 1) r (memory n e s w') (omega arith))
        ∙ ap (λ (x : AfterRecord). all_from n s (n - (v + 1)) (v + 1) (c + 1) x.end x.memory) q ∙ step

pub find_end : (n s v c at : ℕ) (m : Memory) → n ≤ v → all_from n s (n - v) v c at m ≡ all_of m c at
unfolding all_from
find_end n s v c at m h = let z : n - v ≡ 0 = omega arith in rw z
