-- The way up, layer by layer: the loop's state, and its steps.
use Rattle.std.specs.Prelude.{◌≡◌, drop, Float}
use Rattle.std.proofs.Math.Path.{sym, ap}
use Rattle.std.proofs.Common.{◌∙◌, mul-suc, mul_assoc, add-mul, mul-le-mul_right, not-suc-le-zero, pow_pos, length-drop}
use mathlib.Core.List.{List}
use Prim.Native.Nat.{ℕ, zero, suc, ◌+◌, ◌-◌, ◌*◌, ◌/◌, ◌^◌, ◌≤◌, ◌<◌}
use Rattle.std.proofs.Math.Nat.{suc-mul}
use native.Mathlib.Omega.{arith}
use Rattle.std.proofs.Math.ListN.{length, length-append}
use Rattle.std.specs.Float.Ieee.{nan}
use Rattle.list_laws.specs.Put.{put, put_next, put-none}
use Rattle.definition.specs.ConvolutionTree.{count_layer}
use Rattle.graph_laws.specs.Flat.{flat}
use Rattle.convolution_tree.specs.Nodes.{nodes, length-nodes, nodes-long, nodes-put}
use Rattle.convolution_tree.specs.Layers.{layers_from, Shape, shape_up, flat_shape, length_layers, pow_more}

-- i layers are put; the last of them, c nodes of m floats, stands at `at`, and what is left to put gives the whole
pub record Growing (w₀ : List Float) (p n : ℕ) (w : List Float) (at c m i : ℕ) : Type 0 where
  pub nodes_left : c ≡ 2 ^ (p - i)
  pub place : at + (c + c) ≡ (i + 2) * n
  pub wide : 0 < m
  pub sized : c * m ≡ n + c
  pub remaining : put w (at + (n + c)) (layers_from (p - i) (count_layer (nodes m c (drop at w)))) ≡ put w₀ (2 * n) (layers_from p (count_layer (nodes 2 n w₀)))

module _ (w₀ : List Float) (p n : ℕ) (fits : (p + 3) * n ≤ length w₀ + 1) where
  -- the places of the last layers, by its sum
  sum_fits : (i q : ℕ) → p ≡ i + suc q → (i + 2) * n + n + suc q * n ≤ length w₀ + 1
  sum_fits i q e =
      let a : p + 3 ≡ (i + 2) + (1 + suc q) = omega arith in
      let b : (p + 3) * n ≡ (i + 2) * n + (1 + suc q) * n = ap (λ (x : ℕ). x * n) a ∙ add-mul (i + 2) (1 + suc q) n in
      let d : (1 + suc q) * n ≡ 1 * n + suc q * n = add-mul 1 (suc q) n in
      omega (arith, fits)

  module _ (w : List Float) (at c m i : ℕ) (s : Growing w₀ p n w at c m i) (same : length w ≡ length w₀) (more : i < p) where
    q : ℕ
    q = p - suc i

    up : p - i ≡ suc q
    unfolding q
    up = omega (arith, more)

    whole : p ≡ i + suc q
    unfolding q
    whole = omega (arith, more)

    even : c ≡ 2 * 2 ^ q
    even = s.nodes_left ∙ ap (λ (x : ℕ). 2 ^ x) up ∙ pow_more q

    half : c / 2 ≡ 2 ^ q
    half = omega (arith, even)

    twice : c ≡ 2 * (c / 2)
    twice = omega (arith, even)

    abbrev above : List (List Float)
    above = count_layer (nodes m c (drop at w))

    room_short : at + c * m ≤ length w
    room_short = omega (arith, sum_fits i q whole, suc-mul q n, s.place, s.sized, same, even, pow_pos q)

    own_shape : Shape (suc q) m n (nodes m c (drop at w))
    own_shape =
        let k : c ≡ 2 ^ suc q = s.nodes_left ∙ ap (λ (x : ℕ). 2 ^ x) up in
        (length-nodes m c (drop at w) ∙ k, nodes-long m c (drop at w) (omega (arith, length-drop at w, room_short)), ap (λ (x : ℕ). x * m) (sym k) ∙ s.sized ∙ ap (λ (x : ℕ). n + x) k, s.wide)

    above_shape : Shape q (m + m - 1) n (count_layer (nodes m c (drop at w)))
    above_shape = shape_up q m n (nodes m c (drop at w)) own_shape

    room_own : at + c * m + length (layers_from (suc q) (count_layer (nodes m c (drop at w)))) ≤ length w
    room_own = omega (arith, sum_fits i q whole, length_layers q (m + m - 1) n (count_layer (nodes m c (drop at w))) above_shape, s.place, s.sized, same, even)

    above_room : c / 2 * (m + m - 1) ≡ n + c / 2
    above_room = ap (λ (x : ℕ). x * (m + m - 1)) half ∙ above_shape.2 ∙ ap (λ (x : ℕ). n + x) (sym half)

    length_above : length (flat above) ≡ n + c / 2
    length_above = flat_shape q (m + m - 1) n above above_shape ∙ ap (λ (x : ℕ). n + x) (sym half)

    rest : length (layers_from (suc q) above) ≡ n + c / 2 + length (layers_from q (count_layer above))
    unfolding layers_from
    rest = length-append (flat above) (layers_from q (count_layer above)) ∙ ap (λ (x : ℕ). x + length (layers_from q (count_layer above))) length_above

    -- two nodes of this layer are no wider than the root
    narrow : (m : ℕ) → 0 < m → c * m ≡ n + c → m + m ≤ n + 2
    narrow zero h e = absurd (not-suc-le-zero h)
    narrow (suc k) h e =
        let a : 2 * k ≤ c * k = mul-le-mul_right k (omega (arith, even, pow_pos q)) in
        omega (arith, a, mul-suc c k)

    pub growing_fits :
        (at + 2 * (c / 2 * m) ≤ at + n + c) × (at + n + c + c / 2 * (m + m - 1) ≤ length w) × (m + m ≤ n + 2)
    growing_fits =
        let a : c * m ≡ 2 * (c / 2 * m) = ap (λ (x : ℕ). x * m) twice ∙ mul_assoc 2 (c / 2) m in
        (omega (arith, a, s.sized), omega (arith, above_room, room_own, rest, s.sized), narrow m s.wide s.sized)

    pub growing_turn : (v : List Float) → v ≡ put w (at + n + c) (flat (count_layer (nodes m (2 * (c / 2)) (drop at w)))) → Growing w₀ p n v (at + n + c) (c / 2) (m + m - 1) (i + 1)
    unfolding layers_from q
    growing_turn v e =
        let to : at + n + c ≡ at + (n + c) = omega arith in
        let e' : v ≡ put w (at + (n + c)) (flat above) =
        e ∙ ap (λ (x : ℕ). put w x (flat (count_layer (nodes m (2 * (c / 2)) (drop at w))))) to ∙ ap (λ (x : ℕ). put w (at + (n + c)) (flat (count_layer (nodes m x (drop at w))))) (sym twice) in
        let b : c / 2 + c / 2 ≡ c = omega (arith, twice) in
        let k : p - (i + 1) ≡ q = omega arith in
        let r : nodes (m + m - 1) (c / 2) (drop (at + n + c) v) ≡ above =
        ap (λ (x : ℕ). nodes (m + m - 1) (c / 2) (drop x v)) to
        ∙ ap (λ (x : List Float). nodes (m + m - 1) (c / 2) (drop (at + (n + c)) x)) e'
        ∙ ap (λ (x : ℕ). nodes (m + m - 1) x (drop (at + (n + c)) (put w (at + (n + c)) (flat above)))) (half ∙ sym above_shape.0)
        ∙ nodes-put (m + m - 1) w (at + (n + c)) above (omega (arith, room_own, s.sized)) above_shape.1 in
        record {
          nodes_left = half ∙ ap (λ (x : ℕ). 2 ^ x) (sym k);
          place = sums at c (i + 2) n (c / 2) (i + 1 + 2) s.place b (omega arith);
          wide = above_shape.3;
          sized = above_room;
          remaining =
              ap (λ (x : List (List Float)). put v (at + n + c + (n + c / 2)) (layers_from (p - (i + 1)) (count_layer x))) r
              ∙ ap (λ (x : ℕ). put v (x + (n + c / 2)) (layers_from (p - (i + 1)) (count_layer above))) to
              ∙ ap (λ (x : ℕ). put v (at + (n + c) + x) (layers_from (p - (i + 1)) (count_layer above))) (sym length_above)
              ∙ ap (λ (x : ℕ). put v (at + (n + c) + length (flat above)) (layers_from x (count_layer above))) k
              ∙ ap (λ (x : List Float). put x (at + (n + c) + length (flat above)) (layers_from q (count_layer above))) e'
              ∙ put_next nan w (at + (n + c)) (flat above) (layers_from q (count_layer above)) (omega (arith, length_above, room_own, rest, s.sized))
              ∙ ap (λ (x : ℕ). put w (at + (n + c)) (layers_from x above)) (sym up)
              ∙ s.remaining;
        }
      where
        sums : (at c k n d j : ℕ) → at + (c + c) ≡ k * n → d + d ≡ c → j ≡ suc k → at + n + c + (d + d) ≡ j * n
        sums at c k n d j e f g = let h : j * n ≡ k * n + n = ap (λ (x : ℕ). x * n) g ∙ suc-mul k n in omega arith

  pub growing_end :
      (w : List Float) (at c m i : ℕ) → Growing w₀ p n w at c m i → length w ≡ length w₀ → i ≡ p → (w ≡ put w₀ (2 * n) (layers_from p (count_layer (nodes 2 n w₀)))) × (at + 2 ≡ (p + 2) * n)
  unfolding layers_from
  growing_end w at c m i s same j =
      let z : p - i ≡ 0 = omega arith in
      let one : c ≡ 1 = s.nodes_left ∙ ap (λ (x : ℕ). 2 ^ x) z in
      let k : at + 2 ≡ (p + 2) * n = omega (arith, s.place ∙ ap (λ (x : ℕ). (x + 2) * n) j) in
      let g : (p + 3) * n ≡ (p + 2) * n + n = ap (λ (x : ℕ). x * n) (three p) ∙ suc-mul (p + 2) n in
      (put-none w (at + (n + c)) (omega (arith, fits, same)) ∙ ap (λ (x : ℕ). put w (at + (n + c)) (layers_from x (count_layer (nodes m c (drop at w))))) (sym z) ∙ s.remaining, k)
    where
      three : (p : ℕ) → p + 3 ≡ suc (p + 2)
      three p = omega arith
