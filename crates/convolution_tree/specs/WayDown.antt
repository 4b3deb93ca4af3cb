-- The way down, layer by layer: the loop's state, and its steps.
use Rattle.std.specs.Prelude.{◌≡◌, drop, Float}
use Rattle.std.proofs.Math.Path.{refl, sym, ap, subst}
use Rattle.std.proofs.Common.{◌∙◌, zero-add, mul_assoc, pow_mono, take-add}
use mathlib.Core.List.{List, [], ◌∷◌, ◌++◌, append_assoc}
use Prim.Native.Nat.{ℕ, suc, ◌+◌, ◌-◌, ◌*◌, ◌/◌, ◌^◌, ◌≤◌}
use native.Mathlib.Omega.{arith}
use Rattle.std.proofs.Math.ListN.{length, take, length-append}
use Rattle.std.proofs.Math.Seq.{take-append_seam, drop-append_seam, drop-append-add, length-take-le}
use Rattle.std.specs.Float.Ieee.{nan}
use Rattle.list_laws.specs.Part.{region, length-region}
use Rattle.list_laws.specs.Put.{put, put_inner, put-region}
use Rattle.definition.specs.ConvolutionTree.{count_layer, likelihoods_below, tree_layers}
use Rattle.graph_laws.specs.Flat.{flat}
use Rattle.convolution_tree.specs.Nodes.{nodes, AllLong, length-nodes, nodes-long, nodes-flat, flat-length}
use Rattle.convolution_tree.specs.Layers.{layers_from, layer_at, likelihood_rows, layer_above, layers_last, Shape, shape_up, flat_shape, pow_more, width_two, layer_shape, likelihoods_length, likelihoods_long, rows-rest, rows-front}

-- one range of a list replaced by another of its length
pub replaced : (a x y r : List Float) → length y ≡ length x → put (a ++ (x ++ r)) (length a) y ≡ a ++ (y ++ r)
unfolding put
replaced a x y r e =
    ap (λ (s : List Float). s ++ (y ++ drop (length a + length y) (a ++ (x ++ r)))) (take-append_seam a (x ++ r))
    ∙ ap (λ (k : ℕ). a ++ (y ++ drop (length a + k) (a ++ (x ++ r)))) e
    ∙ ap (λ (s : List Float). a ++ (y ++ s)) (drop-append-add a (x ++ r) (length x) ∙ drop-append_seam x r)

-- a list put at the start, from an index on
pub put-start : (w s : List Float) → put w 0 s ≡ s ++ drop (0 + length s) w
unfolding put
put-start w s = refl

root_long : (f : ℕ) (l : List Float) (js : List (List Float)) → length l ≡ f → AllLong f (tree_layers 0 l js).likelihoods
unfolding tree_layers
root_long f l [] e = tt
root_long f l (j ∷ js) e = (e, tt)

abbrev pub content : List Float → ℕ → ℕ → ℕ → ℕ → ℕ → List Float
content w₀ p n nl root i = layers_from i (nodes 2 n w₀) ++ likelihood_rows (p - i) (region w₀ root nl) (layer_at i (nodes 2 n w₀))

-- The likelihoods of layer i stand at `at`, c times f floats; below it the distributions are still there.
pub record Descending (w₀ : List Float) (p n nl root : ℕ) (w : List Float) (at c m f i : ℕ) : Type 0 where
  pub nodes_left : c ≡ 2 ^ (p - i)
  pub from : at ≡ length (layers_from i (nodes 2 n w₀))
  pub width : m ≡ 2 ^ i + 1
  pub narrow : m ≤ f + f
  pub long : AllLong f (tree_layers (p - i) (region w₀ root nl) (layer_at i (nodes 2 n w₀))).likelihoods
  pub written : w ≡ put w₀ 0 (content w₀ p n nl root i)
  pub sized : length (content w₀ p n nl root i) ≡ root + nl

-- n leaves; the root's likelihood, nl floats, stands at root, behind the layers below it
module _ (w₀ : List Float) (p n nl root : ℕ) (hn : n ≡ 2 ^ p) (leaves : 2 * n ≤ length w₀) (fits : root + nl ≤ length w₀) (grown : take root w₀ ≡ layers_from p (nodes 2 n w₀)) where
  abbrev js : List (List Float)
  js = nodes 2 n w₀

  abbrev l : List Float
  l = region w₀ root nl

  leaf_shape : Shape p 2 n (nodes 2 n w₀)
  leaf_shape = (length-nodes 2 n w₀ ∙ hn, nodes-long 2 n w₀ (omega (arith, leaves)), omega (arith, hn), omega arith)

  pub descending_start : n + 1 ≤ nl + nl → Descending w₀ p n nl root w₀ root 1 (n + 1) nl p
  unfolding likelihood_rows
  descending_start h =
      let z : p - p ≡ 0 = omega arith in
      let r : length (layers_from p js) ≡ root = ap length (sym grown) ∙ length-take-le root w₀ (omega (arith, fits)) in
      let k : length l ≡ nl = length-region w₀ root nl fits in
      let t : content w₀ p n nl root p ≡ take (root + nl) w₀ =
      ap (λ (x : ℕ). layers_from p js ++ likelihood_rows x l (layer_at p js)) z ∙ ap (λ (x : List Float). x ++ l) (sym grown) ∙ sym (take-add root nl w₀) in
      record {
        nodes_left = ap (λ (x : ℕ). 2 ^ x) (sym z);
        from = sym r;
        width = ap (λ (x : ℕ). x + 1) hn;
        narrow = h;
        long = subst (λ (x : ℕ). AllLong nl (tree_layers x l (layer_at p js)).likelihoods) (sym z) (root_long nl l (layer_at p js) k);
        written = put-region nan w₀ 0 (root + nl) (omega (arith, fits)) ∙ ap (put w₀ 0) (sym t);
        sized = ap length t ∙ length-take-le (root + nl) w₀ fits;
      }

  module _ (w : List Float) (at c m f k : ℕ) (s : Descending w₀ p n nl root w at c m f (suc k)) (same : length w ≡ length w₀) (more : suc k ≤ p) where
    q : ℕ
    q = p - suc k

    less : p - k ≡ suc q
    unfolding q
    less = omega (arith, more)

    whole : p ≡ k + suc q
    unfolding q
    whole = omega (arith, more)

    abbrev own : List (List Float)
    own = layer_at k (nodes 2 n w₀)

    abbrev likes : List (List Float)
    likes = (tree_layers q (region w₀ root nl) (count_layer (layer_at k (nodes 2 n w₀)))).likelihoods

    abbrev kept : List Float
    kept = layers_from k (nodes 2 n w₀)

    abbrev rows : List Float
    rows = likelihood_rows q (region w₀ root nl) (count_layer (layer_at k (nodes 2 n w₀)))

    own_shape : Shape (suc q) (2 ^ k + 1) n own
    own_shape = subst (λ (x : ℕ). Shape (suc q) x n own) (width_two k) (layer_shape k (suc q) p 2 n js whole leaf_shape)

    above_shape : Shape q (2 ^ k + 1 + (2 ^ k + 1) - 1) n (count_layer own)
    above_shape = shape_up q (2 ^ k + 1) n own own_shape

    nodes-above : c ≡ 2 ^ q
    unfolding q
    nodes-above = s.nodes_left

    likes-long : AllLong f likes
    unfolding q
    likes-long = subst (λ (x : List (List Float)). AllLong f (tree_layers (p - suc k) l x).likelihoods) (layer_above k js) s.long

    likes-length : length likes ≡ c
    likes-length = likelihoods_length q (2 ^ k + 1 + (2 ^ k + 1) - 1) n l (count_layer own) above_shape ∙ sym nodes-above

    split : content w₀ p n nl root (suc k) ≡ kept ++ (flat own ++ rows)
    unfolding q
    split =
        ap (λ (x : List Float). x ++ likelihood_rows (p - suc k) l (layer_at (suc k) js)) (layers_last k js)
        ∙ ap (λ (x : List (List Float)). (kept ++ flat own) ++ likelihood_rows (p - suc k) l x) (layer_above k js)
        ∙ append_assoc kept (flat own) rows

    own-long : length (flat own) ≡ n + (c + c)
    own-long = flat_shape (suc q) (2 ^ k + 1) n own own_shape ∙ ap (λ (x : ℕ). n + x) (two (2 ^ suc q) (2 ^ q) c (pow_more q) nodes-above)
      where
        two : (a b c : ℕ) → a ≡ 2 * b → c ≡ b → a ≡ c + c
        two a b c e f = omega arith

    place : at ≡ length kept + (n + (c + c))
    place = s.from ∙ ap length (layers_last k js) ∙ length-append kept (flat own) ∙ ap (λ (x : ℕ). length kept + x) own-long

    low : at - (n + c + c) ≡ length kept
    low = omega (arith, place)

    -- what stands from the two places on
    behind : List Float
    behind = drop (0 + length (content w₀ p n nl root (suc k))) w₀

    stands : w ≡ kept ++ (flat own ++ (rows ++ behind))
    unfolding behind
    stands =
        s.written
        ∙ put-start w₀ (content w₀ p n nl root (suc k))
        ∙ ap (λ (x : List Float). x ++ behind) split
        ∙ append_assoc kept (flat own ++ rows) behind
        ∙ ap (λ (x : List Float). kept ++ x) (append_assoc (flat own) rows behind)

    own_read : nodes (2 ^ k + 1) (2 * c) (drop (length kept) w) ≡ own
    own_read =
        let z : 2 * c ≡ length own = sym (own_shape.0 ∙ pow_more q ∙ ap (λ (x : ℕ). 2 * x) (sym nodes-above)) in
        ap (λ (x : List Float). nodes (2 ^ k + 1) (2 * c) (drop (length kept) x)) stands
        ∙ ap (nodes (2 ^ k + 1) (2 * c)) (drop-append_seam kept (flat own ++ (rows ++ behind)))
        ∙ ap (λ (x : ℕ). nodes (2 ^ k + 1) x (flat own ++ (rows ++ behind))) z
        ∙ nodes-flat (2 ^ k + 1) own (rows ++ behind) own_shape.1

    rows_are : rows ≡ flat likes ++ rows-rest q l (count_layer own)
    rows_are = rows-front q (2 ^ k + 1 + (2 ^ k + 1) - 1) n l (count_layer own) above_shape

    likes-read : nodes f c (drop at w) ≡ likes
    likes-read =
        ap (λ (x : List Float). nodes f c (drop at x)) stands
        ∙ ap (λ (x : ℕ). nodes f c (drop x (kept ++ (flat own ++ (rows ++ behind))))) (place ∙ ap (λ (x : ℕ). length kept + x) (sym own-long))
        ∙ ap (nodes f c) (drop-append-add kept (flat own ++ (rows ++ behind)) (length (flat own)) ∙ drop-append_seam (flat own) (rows ++ behind))
        ∙ ap (λ (x : List Float). nodes f c (x ++ behind)) rows_are
        ∙ ap (nodes f c) (append_assoc (flat likes) (rows-rest q l (count_layer own)) behind)
        ∙ ap (λ (x : ℕ). nodes f x (flat likes ++ (rows-rest q l (count_layer own) ++ behind))) (sym likes-length)
        ∙ nodes-flat f likes (rows-rest q l (count_layer own) ++ behind) likes-long

    likes-flat : length (flat likes) ≡ c * f
    likes-flat = flat-length f likes likes-long ∙ ap (λ (x : ℕ). x * f) likes-length

    total : length kept + (length (flat own) + (length (flat likes) + length (rows-rest q l (count_layer own)))) ≡ root + nl
    total =
        ap (λ (x : ℕ). length kept + (length (flat own) + x)) (sym (ap length rows_are ∙ length-append (flat likes) (rows-rest q l (count_layer own))))
        ∙ ap (λ (x : ℕ). length kept + x) (sym (length-append (flat own) rows))
        ∙ sym (length-append kept (flat own ++ rows))
        ∙ ap length (sym split)
        ∙ s.sized

    half : (m + 1) / 2 ≡ 2 ^ k + 1
    half = omega (arith, s.width, pow_more k)

    pub descending_fits :
        (n + c + c ≤ at)
        × (at - (n + c + c) + 2 * (c * ((m + 1) / 2)) ≤ at)
        × ((m + 1) / 2 ≤ f)
        × (at + c * f ≤ length w)
        × ((m + 1) / 2 + (m + 1) / 2 ≤ n + 2)
    descending_fits =
        let a : 2 * (c * ((m + 1) / 2)) ≡ n + (c + c) =
        ap (λ (x : ℕ). 2 * (c * x)) half
        ∙ sym (mul_assoc 2 c (2 ^ k + 1))
        ∙ ap (λ (x : ℕ). 2 * x * (2 ^ k + 1)) nodes-above
        ∙ ap (λ (x : ℕ). x * (2 ^ k + 1)) (sym (pow_more q))
        ∙ own_shape.2
        ∙ sym (flat_shape (suc q) (2 ^ k + 1) n own own_shape)
        ∙ own-long in
        let b : 2 ^ suc k ≤ 2 ^ p = pow_mono more in
        (omega (arith, place), omega (arith, place), omega (arith, half, s.width, s.narrow, pow_more k), omega (arith, place, total, likes-flat, own-long, fits, same), omega (arith, half, b, hn, pow_more k))

    pub descending_turn :
        (v : List Float) → v ≡ put w (at - (n + c + c)) (flat (likelihoods_below (nodes f c (drop at w)) (nodes ((m + 1) / 2) (2 * c) (drop (at - (n + c + c)) w)))) →
        Descending w₀ p n nl root v (at - (n + c + c)) (c + c) ((m + 1) / 2) ((m + 1) / 2) k
    unfolding likelihood_rows tree_layers q
    descending_turn v e =
        let x = flat (likelihoods_below likes own) in
        let lx : length x ≡ length (flat own) =
        flat-length (2 ^ k + 1) (likelihoods_below likes own) (likelihoods_long q (2 ^ k + 1) n l own own_shape)
        ∙ ap (λ (z : ℕ). z * (2 ^ k + 1)) (likelihoods_length (suc q) (2 ^ k + 1) n l own own_shape)
        ∙ own_shape.2
        ∙ sym (flat_shape (suc q) (2 ^ k + 1) n own own_shape) in
        let new : content w₀ p n nl root k ≡ kept ++ (x ++ rows) = ap (λ (z : ℕ). kept ++ likelihood_rows z l own) less in
        let ln : length (content w₀ p n nl root k) ≡ root + nl =
        ap length new
        ∙ length-append kept (x ++ rows)
        ∙ ap (λ (z : ℕ). length kept + z) (length-append x rows ∙ ap (λ (z : ℕ). z + length rows) lx ∙ sym (length-append (flat own) rows))
        ∙ sym (length-append kept (flat own ++ rows))
        ∙ ap length (sym split)
        ∙ s.sized in
        let ve : v ≡ put w₀ 0 (content w₀ p n nl root k) =
        e
        ∙ ap (λ (z : ℕ). put w z (flat (likelihoods_below (nodes f c (drop at w)) (nodes ((m + 1) / 2) (2 * c) (drop z w))))) low
        ∙ ap (λ (z : ℕ). put w (length kept) (flat (likelihoods_below (nodes f c (drop at w)) (nodes z (2 * c) (drop (length kept) w))))) half
        ∙ ap (λ (z : List (List Float)). put w (length kept) (flat (likelihoods_below (nodes f c (drop at w)) z))) own_read
        ∙ ap (λ (z : List (List Float)). put w (length kept) (flat (likelihoods_below z own))) likes-read
        ∙ ap (λ (z : List Float). put z (length kept) x) (s.written ∙ ap (put w₀ 0) split)
        ∙ ap (λ (z : ℕ). put (put w₀ 0 (kept ++ (flat own ++ rows))) z x) (sym (zero-add (length kept)))
        ∙ put_inner nan w₀ 0 (kept ++ (flat own ++ rows)) (length kept) x (omega (arith, ap length split, s.sized, fits)) (omega (arith, length-append kept (flat own ++ rows), length-append (flat own) rows, lx))
        ∙ ap (put w₀ 0) (replaced kept (flat own) x rows lx)
        ∙ ap (put w₀ 0) (sym new) in
        record {
          nodes_left = double (2 ^ q) c (2 ^ suc q) nodes-above (pow_more q) ∙ ap (λ (z : ℕ). 2 ^ z) (sym less);
          from = low;
          width = half;
          narrow = omega arith;
          long = subst (λ (z : ℕ). AllLong ((m + 1) / 2) (tree_layers z l own).likelihoods) (sym less) (subst (λ (z : ℕ). AllLong z (likelihoods_below likes own)) (sym half) (likelihoods_long q (2 ^ k + 1) n l own own_shape));
          written = ve;
          sized = ln;
        }
      where
        double : (a c b : ℕ) → c ≡ a → b ≡ 2 * a → c + c ≡ b
        double a c b e f = omega arith

  pub descending_end : (w : List Float) (at c m f : ℕ) → Descending w₀ p n nl root w at c m f 0 → w ≡ put w₀ 0 (likelihood_rows p (region w₀ root nl) (nodes 2 n w₀))
  unfolding layers_from layer_at
  descending_end w at c m f s = let z : p - 0 ≡ p = omega arith in s.written ∙ ap (λ (x : ℕ). put w₀ 0 (likelihood_rows x l js)) z
