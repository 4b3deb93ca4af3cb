-- The whole tree: what stands in the range after each part of the work, and that it is what the definition's tree sends.
use Rattle.std.specs.Prelude.{◌≡◌, Float}
use Rattle.std.proofs.Math.Path.{sym, ap}
use Rattle.std.proofs.Common.{subst, ◌∙◌, zero-add, add-zero, not-suc-le-zero, suc-mul, add-mul, take-append-drop, pow_pos, take_all, drop-drop, length-take-le, drop_at}
use mathlib.Core.List.{List, ◌++◌, append_assoc, append-nil}
use Prim.Native.Nat.{ℕ, zero, suc, ◌+◌, ◌-◌, ◌*◌, ◌^◌, ◌≤◌, ◌<◌}
use native.Mathlib.Omega.{arith}
use Rattle.std.proofs.Math.ListN.{length, take, drop, length-append, length-drop}
use Rattle.std.proofs.Math.Seq.{drop-append_seam, drop-append-add, take_at}
use Rattle.list_laws.specs.Part.{region}
use Rattle.list_laws.specs.Put.{put}
use Rattle.definition.specs.Vectors.{normalize}
use Rattle.definition.specs.ConvolutionTree.{count_layer, log_length, first_layer}
use Rattle.graph_laws.specs.Flat.{flat}
use Rattle.convolution_tree.specs.Nodes.{nodes, length-nodes, nodes-long, nodes-flat, length-normalize, flat-nodes}
use Rattle.convolution_tree.specs.Lent.{drop_all}
use Rattle.convolution_tree.specs.Layers.{layers_from, layer_at, likelihood_rows, layers_last, Shape, flat_shape, length_layers, width_at, layer_shape, length-rows}
use Rattle.convolution_tree.specs.WayDown.{replaced, put-start}

-- the floats behind the messages that a tree over n grades needs
unfoldable pub scratch_len : ℕ → ℕ
scratch_len n = (log_length n + 3) * 2 ^ log_length n - (2 * n + 1)

-- the factor's message, normalised, and the leaves
unfoldable pub seeded : ℕ → List Float → List Float
seeded n w = normalize (take (n + 1) w) ++ flat (first_layer (nodes 2 n (drop (n + 1) w)))

-- The message to the factor, the likelihoods of the layers, and what is left of the root's distribution.
unfoldable pub propagated : ℕ → ℕ → ℕ → List Float → List Float
propagated n p leaves w =
    let js = nodes 2 leaves (drop (n + 1) w) in
    let root = flat (layer_at p js) in
    take (n + 1) root ++ (likelihood_rows p (take (n + 1) w) js ++ drop (n + 1) root)

-- ---- a part that goes to the end, lent

pub rest-lent : (w : List Float) (b : ℕ) → take (length w - b) (drop b w) ≡ drop b w
rest-lent w b = take_all (length w - b) (drop b w) (omega (arith, length-drop b w))

pub rest_back : (w u : List Float) (b : ℕ) → take b w ++ (u ++ drop (length w - b) (drop b w)) ≡ take b w ++ u
rest_back w u b = ap (λ (x : List Float). take b w ++ (u ++ x)) (drop_all (length w - b) (drop b w) (omega (arith, length-drop b w))) ∙ ap (λ (x : List Float). take b w ++ x) (append-nil u)

-- a front and what is put behind it
behind-put : (w x y : List Float) (b : ℕ) → length x ≡ b → x ++ put (drop b w) 0 y ≡ put w 0 (x ++ y)
unfolding put
behind-put w x y b e =
    sym (append_assoc x y (drop (0 + length y) (drop b w)))
    ∙ ap (λ (r : List Float). (x ++ y) ++ r) (drop-drop (0 + length y) b w)
    ∙ ap (λ (k : ℕ). (x ++ y) ++ drop k w) (let z : b + (0 + length y) ≡ 0 + length (x ++ y) = omega (arith, length-append x y) in z)

-- ---- the seed

pub seed_put :
    (w v u : List Float) (n : ℕ) → n + 1 ≤ length w → v ≡ normalize (take (n + 1) w) →
    u ≡ put (take (length (v ++ drop (n + 1) w) - (n + 1)) (drop (n + 1) (v ++ drop (n + 1) w))) 0 (flat (first_layer (nodes 2 n (take (length (v ++ drop (n + 1) w) - (n + 1)) (drop (n + 1) (v ++ drop (n + 1) w)))))) →
    take (n + 1) (v ++ drop (n + 1) w) ++ (u ++ drop (length (v ++ drop (n + 1) w) - (n + 1)) (drop (n + 1) (v ++ drop (n + 1) w))) ≡ put w 0 (seeded n w)
unfolding seeded
seed_put w v u n h e f =
    let b = n + 1 in
    let w1 = v ++ drop b w in
    let lv : length v ≡ b = ap length e ∙ length-normalize (take b w) ∙ length-take-le b w h in
    let d : take (length w1 - b) (drop b w1) ≡ drop b w = rest-lent w1 b ∙ drop_at v (drop b w) b lv in
    rest_back w1 u b
    ∙ ap (λ (x : List Float). x ++ u) (take_at v (drop b w) b lv)
    ∙ ap (λ (x : List Float). v ++ x) (f ∙ ap (λ (x : List Float). put x 0 (flat (first_layer (nodes 2 n x)))) d)
    ∙ behind-put w v (flat (first_layer (nodes 2 n (drop b w)))) b lv
    ∙ ap (λ (x : List Float). put w 0 (x ++ flat (first_layer (nodes 2 n (drop b w))))) e

-- ---- up, exchanged, and down

module _ (w : List Float) (n p leaves : ℕ) (hl : leaves ≡ 2 ^ p) (some : 0 < p) (grades : n ≤ leaves) (fits : n + (p + 3) * leaves ≤ length w) where
  abbrev js : List (List Float)
  js = nodes 2 leaves (drop (n + 1) w)

  abbrev lower : List Float
  lower = layers_from p (nodes 2 leaves (drop (n + 1) w))

  abbrev top : List Float
  top = flat (layer_at p (nodes 2 leaves (drop (n + 1) w)))

  abbrev factor : List Float
  factor = take (n + 1) w

  abbrev past : List Float
  past = drop (length (layers_from (suc p) (nodes 2 leaves (drop (n + 1) w)))) (drop (n + 1) w)

  product : (p + 3) * leaves ≡ p * leaves + 3 * leaves
  product = add-mul p 3 leaves

  pub long-enough : n + 1 + 2 * leaves ≤ length w
  long-enough = omega (arith, fits, product, hl, pow_pos p)

  leaf_shape : Shape p 2 leaves (nodes 2 leaves (drop (n + 1) w))
  leaf_shape = (length-nodes 2 leaves (drop (n + 1) w) ∙ hl, nodes-long 2 leaves (drop (n + 1) w) (omega (arith, long-enough, length-drop (n + 1) w)), omega (arith, hl), omega arith)

  length-factor : length factor ≡ n + 1
  length-factor = length-take-le (n + 1) w (omega (arith, long-enough))

  length-top : length top ≡ leaves + 1
  length-top = flat_shape 0 (width_at p 2) leaves (layer_at p js) (layer_shape p 0 p 2 leaves js (sym (add-zero p)) leaf_shape)

  length-all : length lower + length top ≡ length (layers_from (suc p) (nodes 2 leaves (drop (n + 1) w)))
  length-all = sym (ap length (layers_last p js) ∙ length-append lower top)

  pub length-lower : length lower + 2 ≡ (p + 2) * leaves
  length-lower = omega (arith, length-all, length-top, length_layers p 2 leaves js leaf_shape, add-mul p 2 leaves, suc-mul p leaves, hl)

  pub root_place : (root : ℕ) → root + 2 ≡ (p + 2) * leaves → root ≡ length lower
  root_place root e = omega (arith, e, length-lower)

  -- lengths of all
  long-all : n + 1 + (length lower + length top) ≤ length w
  long-all = omega (arith, length-lower, length-top, add-mul p 2 leaves, product, fits)

  length-past : length past ≡ length w - (n + 1) - (length lower + length top)
  length-past =
      length-drop (length (layers_from (suc p) (nodes 2 leaves (drop (n + 1) w)))) (drop (n + 1) w)
      ∙ ap (λ (k : ℕ). k - length (layers_from (suc p) (nodes 2 leaves (drop (n + 1) w)))) (length-drop (n + 1) w)
      ∙ ap (λ (k : ℕ). length w - (n + 1) - k) (sym length-all)

  sizes : length factor + (length lower + (length top + length past)) ≡ length w
  sizes = omega (arith, length-factor, length-past, long-all)

  -- what the way up leaves behind the factor's message
  pub grown_is : (u : List Float) → u ≡ put (drop (n + 1) w) (2 * leaves) (layers_from p (count_layer (nodes 2 leaves (drop (n + 1) w)))) → u ≡ lower ++ (top ++ past)
  unfolding put layers_from
  grown_is u e =
      let d = drop (n + 1) w in
      let s = layers_from p (count_layer js) in
      let t : take (2 * leaves) d ≡ flat js = sym (flat-nodes 2 leaves d ∙ ap (λ (k : ℕ). take k d) (swap leaves)) in
      let k : 2 * leaves + length s ≡ length (flat js ++ s) = omega (arith, length-append (flat js) s, flat_shape p 2 leaves js leaf_shape, hl) in
      e
      ∙ ap (λ (x : List Float). x ++ (s ++ drop (2 * leaves + length s) d)) t
      ∙ ap (λ (x : ℕ). flat js ++ (s ++ drop x d)) k
      ∙ sym (append_assoc (flat js) s (drop (length (flat js ++ s)) d))
      ∙ ap (λ (x : List Float). x ++ past) (layers_last p js)
      ∙ append_assoc lower top past
    where
      swap : (a : ℕ) → a * 2 ≡ 2 * a
      swap a = omega arith

  -- and in the whole
  module _ (u : List Float) (e : u ≡ put (take (length w - (n + 1)) (drop (n + 1) w)) (2 * leaves) (layers_from p (count_layer (nodes 2 leaves (take (length w - (n + 1)) (drop (n + 1) w)))))) where
    pub up-back : take (n + 1) w ++ (u ++ drop (length w - (n + 1)) (drop (n + 1) w)) ≡ factor ++ (lower ++ (top ++ past))
    up-back =
        rest_back w u (n + 1)
        ∙ ap (λ (x : List Float). factor ++ x)
        (grown_is u (e ∙ ap (λ (x : List Float). put x (2 * leaves) (layers_from p (count_layer (nodes 2 leaves x)))) (rest-lent w (n + 1))))

  -- the two ranges that are exchanged lie in it
  pub exchange-fits : (root : ℕ) → root ≡ length lower → n + 1 + root + (n + 1) ≤ length w
  exchange-fits root r = omega (arith, r, length-top, grades, long-all)

  abbrev sent : List Float
  sent = take (n + 1) (flat (layer_at p (nodes 2 leaves (drop (n + 1) w))))

  abbrev left : List Float
  left = drop (n + 1) (flat (layer_at p (nodes 2 leaves (drop (n + 1) w))))

  length-sent : length sent ≡ n + 1
  length-sent = length-take-le (n + 1) top (omega (arith, length-top, grades))

  -- exchanged
  pub exchanged_is :
      (x v : List Float) (root : ℕ) → root ≡ length lower → x ≡ factor ++ (lower ++ (top ++ past)) →
      v ≡ put (put x 0 (region x (n + 1 + root) (n + 1))) (n + 1 + root) (region x 0 (n + 1)) → v ≡ sent ++ (lower ++ (factor ++ (left ++ past)))
  exchanged_is x v root r e f =
      let b = n + 1 in
      let tail = lower ++ (top ++ past) in
      let y = factor ++ tail in
      let parts : top ++ past ≡ sent ++ (left ++ past) = ap (λ (z : List Float). z ++ past) (sym (take-append-drop b top)) ∙ append_assoc sent left past in
      let at : b + root ≡ length factor + length lower = omega (arith, r, length-factor) in
      let d : drop (b + root) y ≡ sent ++ (left ++ past) =
      ap (λ (k : ℕ). drop k y) at ∙ drop-append-add factor tail (length lower) ∙ drop-append_seam lower (top ++ past) ∙ parts in
      let g : region y (b + root) b ≡ sent = ap (take b) d ∙ take_at sent (left ++ past) b length-sent in
      let h : region y 0 b ≡ factor = take_at factor tail b length-factor in
      let one : put y 0 sent ≡ sent ++ (lower ++ (sent ++ (left ++ past))) =
      put-start y sent
      ∙ ap (λ (k : ℕ). sent ++ drop k y) (zero-add (length sent) ∙ length-sent)
      ∙ ap (λ (z : List Float). sent ++ z) (drop_at factor tail b length-factor ∙ ap (λ (z : List Float). lower ++ z) parts) in
      let here : b + root ≡ length (sent ++ lower) = omega (arith, r, length-sent, length-append sent lower) in
      f
      ∙ ap (λ (z : List Float). put (put z 0 (region z (b + root) b)) (b + root) (region z 0 b)) e
      ∙ ap (λ (z : List Float). put (put y 0 z) (b + root) (region y 0 b)) g
      ∙ ap (λ (z : List Float). put (put y 0 sent) (b + root) z) h
      ∙ ap (λ (z : List Float). put z (b + root) factor) (one ∙ sym (append_assoc sent lower (sent ++ (left ++ past))))
      ∙ ap (λ (k : ℕ). put ((sent ++ lower) ++ (sent ++ (left ++ past))) k factor) here
      ∙ replaced (sent ++ lower) sent factor (left ++ past) (length-factor ∙ sym length-sent)
      ∙ append_assoc sent lower (factor ++ (left ++ past))

  -- what the way down is given
  module _ (x : List Float) (root : ℕ) (r : root ≡ length lower) (e : x ≡ sent ++ (lower ++ (factor ++ (left ++ past)))) where
    pub given : drop (n + 1) x ≡ lower ++ (factor ++ (left ++ past))
    given = ap (drop (n + 1)) e ∙ drop_at sent (lower ++ (factor ++ (left ++ past))) (n + 1) length-sent

    same-leaves : nodes 2 leaves (drop (n + 1) x) ≡ nodes 2 leaves (drop (n + 1) w)
    unfolding layers_from
    same-leaves = ap (nodes 2 leaves) given ∙ first p some leaf_shape
      where
        first : (p : ℕ) → 0 < p → Shape p 2 leaves (nodes 2 leaves (drop (n + 1) w)) → nodes 2 leaves (layers_from p (nodes 2 leaves (drop (n + 1) w)) ++ (factor ++ (left ++ past))) ≡ nodes 2 leaves (drop (n + 1) w)
        first zero h s = absurd (not-suc-le-zero h)
        first (suc q) h s =
            ap (nodes 2 leaves) (append_assoc (flat js) (layers_from q (count_layer js)) (factor ++ (left ++ past)))
            ∙ ap (λ (k : ℕ). nodes 2 k (flat js ++ (layers_from q (count_layer js) ++ (factor ++ (left ++ past))))) (sym (length-nodes 2 leaves (drop (n + 1) w)))
            ∙ nodes-flat 2 js (layers_from q (count_layer js) ++ (factor ++ (left ++ past))) s.1

    pub layers_given : take root (drop (n + 1) x) ≡ layers_from p (nodes 2 leaves (drop (n + 1) x))
    layers_given = ap (take root) given ∙ take_at lower (factor ++ (left ++ past)) root (sym r) ∙ ap (layers_from p) (sym same-leaves)

    factor-given : region (drop (n + 1) x) root (n + 1) ≡ factor
    factor-given =
        ap (λ (z : List Float). take (n + 1) (drop root z)) given
        ∙ ap (take (n + 1)) (drop_at lower (factor ++ (left ++ past)) root (sym r))
        ∙ take_at factor (left ++ past) (n + 1) length-factor

    pub length-given : length x ≡ length w
    length-given =
        ap length e
        ∙ length-append sent (lower ++ (factor ++ (left ++ past)))
        ∙ ap (λ (k : ℕ). length sent + k) (length-append lower (factor ++ (left ++ past)) ∙ ap (λ (k : ℕ). length lower + k) (length-append factor (left ++ past) ∙ ap (λ (k : ℕ). length factor + k) (length-append left past)))
        ∙ omega (arith, sizes, length-past, length-sent, length-factor, length-drop (n + 1) top, length-top, grades, long-all)

    pub propagated-is :
        (v : List Float) → v ≡ put (drop (n + 1) x) 0 (likelihood_rows p (region (drop (n + 1) x) root (n + 1)) (nodes 2 leaves (drop (n + 1) x))) →
        take (n + 1) x ++ v ≡ put w 0 (propagated n p leaves w)
    unfolding propagated
    propagated-is v f =
        let b = n + 1 in
        let rows = likelihood_rows p factor js in
        let t = layers_from (suc p) (nodes 2 leaves (drop (n + 1) w)) in
        let lr : length rows ≡ length lower + length factor = length-rows p 2 leaves factor js leaf_shape in
        let whole = sent ++ (rows ++ left) in
        let k : 0 + length whole ≡ b + length t =
        omega (arith, length-append sent (rows ++ left), length-append rows left, length-sent, length-factor, length-drop b top, length-top, length-all, lr, grades) in
        let d : drop (0 + length rows) (lower ++ (factor ++ (left ++ past))) ≡ left ++ past =
        ap (λ (i : ℕ). drop i (lower ++ (factor ++ (left ++ past)))) (zero-add (length rows) ∙ lr) ∙ drop-append-add lower (factor ++ (left ++ past)) (length factor) ∙ drop-append_seam factor (left ++ past) in
        ap (λ (z : List Float). z ++ v) (ap (take b) e ∙ take_at sent (lower ++ (factor ++ (left ++ past))) b length-sent)
        ∙ ap (λ (z : List Float). sent ++ z)
        (f
        ∙ ap (λ (z : List Float). put (drop b x) 0 (likelihood_rows p z (nodes 2 leaves (drop b x)))) factor-given
        ∙ ap (λ (z : List (List Float)). put (drop b x) 0 (likelihood_rows p factor z)) same-leaves
        ∙ ap (λ (z : List Float). put z 0 rows) given
        ∙ put-start (lower ++ (factor ++ (left ++ past))) rows
        ∙ ap (λ (z : List Float). rows ++ z) d
        ∙ sym (append_assoc rows left past))
        ∙ sym (append_assoc sent (rows ++ left) past)
        ∙ ap (λ (z : List Float). whole ++ z) (drop-drop (length t) b w ∙ ap (λ (i : ℕ). drop i w) (sym k))
        ∙ sym (put-start w whole)

    -- the same of the part that is lent
    pub down-given :
        (2 * leaves ≤ length (take (length x - (n + 1)) (drop (n + 1) x)))
        × (root + (n + 1) ≤ length (take (length x - (n + 1)) (drop (n + 1) x)))
        × (take root (take (length x - (n + 1)) (drop (n + 1) x)) ≡ layers_from p (nodes 2 leaves (take (length x - (n + 1)) (drop (n + 1) x))))
    down-given =
        let d : length (drop (n + 1) x) ≡ length w - (n + 1) = length-drop (n + 1) x ∙ ap (λ (k : ℕ). k - (n + 1)) length-given in
        subst (λ (y : List Float). (2 * leaves ≤ length y) × (root + (n + 1) ≤ length y) × (take root y ≡ layers_from p (nodes 2 leaves y))) (sym (rest-lent x (n + 1)))
        (omega (arith, d, long-enough), omega (arith, d, exchange-fits root r), layers_given)

    pub down-back :
        (v : List Float) →
        v ≡ put (take (length x - (n + 1)) (drop (n + 1) x)) 0 (likelihood_rows p (region (take (length x - (n + 1)) (drop (n + 1) x)) root (n + 1)) (nodes 2 leaves (take (length x - (n + 1)) (drop (n + 1) x)))) →
        take (n + 1) x ++ (v ++ drop (length x - (n + 1)) (drop (n + 1) x)) ≡ put w 0 (propagated n p leaves w)
    down-back v f =
        rest_back x v (n + 1)
        ∙ propagated-is v (f ∙ ap (λ (y : List Float). put y 0 (likelihood_rows p (region y root (n + 1)) (nodes 2 leaves y))) (rest-lent x (n + 1)))
