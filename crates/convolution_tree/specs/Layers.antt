-- The layers of a tree in a row of floats, one after the other: what stands there after the way up and after the way down, and its length.
use Rattle.std.specs.Prelude.{◌≡◌, refl, List, [], ◌∷◌, ◌++◌, ℕ, zero, suc, ◌+◌, ◌-◌, ◌*◌, ◌^◌, ◌<◌, length, Float}
use Rattle.std.proofs.Common.{sym, ap, subst, ◌∙◌, append_assoc, append-nil, one-mul, mul-one, pow-suc, suc-mul, zero-mul, mul-suc, mul-add, mul_assoc, zero-add, not-suc-le-zero, arith, length-append}
use Rattle.std.proofs.Math.Nat.{pow-succ'}
use Rattle.definition.specs.ConvolutionTree.{count_layer, tree_layers}
use Rattle.graph_laws.specs.Flat.{flat}
use Rattle.convolution_tree.specs.Nodes.{AllLong, flat-length}
use Rattle.convolution_tree.specs.CountLayer.{count_long, count_length}
use Rattle.convolution_tree.specs.LikelihoodLayer.{below-long, below_length}

-- k layers, js the first of them
unfoldable pub layers_from : ℕ → List (List Float) → List Float
layers_from zero js = []
layers_from (suc k) js = flat js ++ layers_from k (count_layer js)

-- the layer i above js
unfoldable pub layer_at : ℕ → List (List Float) → List (List Float)
layer_at zero js = js
layer_at (suc i) js = layer_at i (count_layer js)

-- what the way down leaves: the likelihoods of each layer in its place, js the first of them, and the root's, which is l
unfoldable pub likelihood_rows : ℕ → List Float → List (List Float) → List Float
likelihood_rows zero l js = l
likelihood_rows (suc q) l js = flat (tree_layers (suc q) l js).likelihoods ++ likelihood_rows q l (count_layer js)

pub layer_above : (k : ℕ) (js : List (List Float)) → layer_at (suc k) js ≡ count_layer (layer_at k js)
unfolding layer_at
layer_above zero js = refl
layer_above (suc k) js = layer_above k (count_layer js)

pub layers_last : (k : ℕ) (js : List (List Float)) → layers_from (suc k) js ≡ layers_from k js ++ flat (layer_at k js)
unfolding layers_from layer_at
layers_last zero js = append-nil (flat js)
layers_last (suc k) js =
    ap (λ (r : List Float). flat js ++ r) (layers_last k (count_layer js))
    ∙ sym (append_assoc (flat js) (layers_from k (count_layer js)) (flat (layer_at k (count_layer js))))

-- ---- their shape: 2 ^ q nodes of m floats, so that each layer of a tree over n leaves takes n floats and one a node

pub pow_more : (p : ℕ) → 2 ^ suc p ≡ 2 * 2 ^ p
pow_more p = pow-succ' 2 p

abbrev pub Shape : ℕ → ℕ → ℕ → List (List Float) → Type 0
Shape q m n js = (length js ≡ 2 ^ q) × AllLong m js × (2 ^ q * m ≡ n + 2 ^ q) × (0 < m)

half-size : (a m n : ℕ) → 0 < m → 2 * a * m ≡ n + 2 * a → a * (m + m - 1) ≡ n + a
half-size a zero n h e = absurd (not-suc-le-zero h)
half-size a (suc k) n h e =
    let f : suc k + suc k - 1 ≡ suc (k + k) = omega arith in
    let g : a * suc (k + k) ≡ a * (k + k) + a = mul-suc a (k + k) in
    let i : a * (k + k) ≡ a * k + a * k = mul-add a k k in
    let j : 2 * a * suc k ≡ 2 * (a * suc k) = mul_assoc 2 a (suc k) in
    let l : a * suc k ≡ a * k + a = mul-suc a k in
    ap (λ (x : ℕ). a * x) f ∙ omega arith

pub shape_up : (q m n : ℕ) (js : List (List Float)) → Shape (suc q) m n js → Shape q (m + m - 1) n (count_layer js)
shape_up q m n js s =
    let e : 2 * 2 ^ q * m ≡ n + 2 * 2 ^ q = ap (λ (x : ℕ). x * m) (sym (pow_more q)) ∙ s.2 ∙ ap (λ (x : ℕ). n + x) (pow_more q) in
    (count_length (2 ^ q) js (s.0 ∙ pow_more q), count_long m js s.1, half-size (2 ^ q) m n s.3 e, omega (arith, s.3))

pub flat_shape : (q m n : ℕ) (js : List (List Float)) → Shape q m n js → length (flat js) ≡ n + 2 ^ q
flat_shape q m n js s = flat-length m js s.1 ∙ ap (λ (x : ℕ). x * m) s.0 ∙ s.2

-- all layers up to the root
pub length_layers : (q m n : ℕ) (js : List (List Float)) → Shape q m n js → length (layers_from (suc q) js) + 1 ≡ suc q * n + 2 * 2 ^ q
unfolding layers_from
length_layers zero m n js s =
    let e : length (flat js ++ []) ≡ length (flat js) = ap length (append-nil (flat js)) in
    omega (arith, flat_shape zero m n js s, suc-mul 0 n, zero-mul n)
length_layers (suc q) m n js s =
    let r = flat (count_layer js) ++ layers_from q (count_layer (count_layer js)) in
    let i : length r + 1 ≡ suc q * n + 2 * 2 ^ q = length_layers q (m + m - 1) n (count_layer js) (shape_up q m n js s) in
    omega (arith, length-append (flat js) r, flat_shape (suc q) m n js s, suc-mul (suc q) n, pow_more q)

-- the width of a node, i layers up
unfoldable pub width_at : ℕ → ℕ → ℕ
width_at zero m = m
width_at (suc i) m = width_at i (m + m - 1)

width-more : (i k : ℕ) → width_at i (k + 1) ≡ 2 ^ i * k + 1
unfolding width_at
width-more zero k = ap (λ (x : ℕ). x + 1) (sym (one-mul k))
width-more (suc i) k =
    let e : k + 1 + (k + 1) - 1 ≡ 2 * k + 1 = omega arith in
    ap (width_at i) e ∙ width-more i (2 * k) ∙ ap (λ (x : ℕ). x + 1) (sym (mul_assoc (2 ^ i) 2 k) ∙ ap (λ (x : ℕ). x * k) (sym (pow-suc 2 i)))

pub width_two : (i : ℕ) → width_at i 2 ≡ 2 ^ i + 1
width_two i = width-more i 1 ∙ ap (λ (x : ℕ). x + 1) (mul-one (2 ^ i))

pub layer_shape : (i q p m n : ℕ) (js : List (List Float)) → p ≡ i + q → Shape p m n js → Shape q (width_at i m) n (layer_at i js)
unfolding width_at layer_at
layer_shape zero q p m n js e s = subst (λ (x : ℕ). Shape x m n js) (e ∙ zero-add q) s
layer_shape (suc i) q zero m n js e s = absurd (never i q e)
  where
    never : (i q : ℕ) → 0 ≡ suc i + q → ⊥
    never i q e = omega arith
layer_shape (suc i) q (suc p) m n js e s = layer_shape i q p (m + m - 1) n (count_layer js) (less p i q e) (shape_up p m n js s)
  where
    less : (p i q : ℕ) → suc p ≡ suc i + q → p ≡ i + q
    less p i q e = omega arith

-- ---- the likelihoods

-- as many as nodes
pub likelihoods_length : (q m n : ℕ) (l : List Float) (js : List (List Float)) → Shape q m n js → length (tree_layers q l js).likelihoods ≡ 2 ^ q
unfolding tree_layers
likelihoods_length zero m n l [] s = s.0
likelihoods_length zero m n l (j ∷ js) s = refl
likelihoods_length (suc q) m n l js s =
    below_length (2 ^ q) (tree_layers q l (count_layer js)).likelihoods js (likelihoods_length q (m + m - 1) n l (count_layer js) (shape_up q m n js s)) (s.0 ∙ pow_more q) ∙ sym (pow_more q)

-- and, below the root, as long
pub likelihoods_long : (q m n : ℕ) (l : List Float) (js : List (List Float)) → Shape (suc q) m n js → AllLong m (tree_layers (suc q) l js).likelihoods
unfolding tree_layers
likelihoods_long q m n l js s = below-long m (tree_layers q l (count_layer js)).likelihoods js s.1

-- the row begins with the layer's likelihoods
pub rows-rest : ℕ → List Float → List (List Float) → List Float
rows-rest zero l js = []
rows-rest (suc q) l js = likelihood_rows q l (count_layer js)

pub rows-front : (q m n : ℕ) (l : List Float) (js : List (List Float)) → Shape q m n js → likelihood_rows q l js ≡ flat (tree_layers q l js).likelihoods ++ rows-rest q l js
unfolding likelihood_rows tree_layers flat rows-rest
rows-front zero m n l [] s = absurd (never s.0)
  where
    never : ◌≡◌ {A = ℕ} 0 1 → ⊥
    never h = omega arith
rows-front zero m n l (j ∷ js) s = sym (append-nil (l ++ []) ∙ append-nil l)
rows-front (suc q) m n l js s = refl

pub length-rows : (q m n : ℕ) (l : List Float) (js : List (List Float)) → Shape q m n js → length (likelihood_rows q l js) ≡ length (layers_from q js) + length l
unfolding likelihood_rows layers_from
length-rows zero m n l js s = sym (zero-add (length l))
length-rows (suc q) m n l js s =
    let x = (tree_layers (suc q) l js).likelihoods in
    let e : length (flat x) ≡ length (flat js) =
    flat-length m x (likelihoods_long q m n l js s) ∙ ap (λ (k : ℕ). k * m) (likelihoods_length (suc q) m n l js s) ∙ s.2 ∙ sym (flat_shape (suc q) m n js s) in
    let i = length-rows q (m + m - 1) n l (count_layer js) (shape_up q m n js s) in
    omega (arith, length-append (flat x) (likelihood_rows q l (count_layer js)), length-append (flat js) (layers_from q (count_layer js)), i, e)

-- the root's distribution
pub root_is : (p m n : ℕ) (l : List Float) (js : List (List Float)) → Shape p m n js → flat (layer_at p js) ≡ (tree_layers p l js).root
unfolding layer_at tree_layers flat
root_is zero m n l [] s = refl
root_is zero m n l (j ∷ []) s = append-nil j
root_is zero m n l (j ∷ k ∷ js) s = absurd (never (length js) s.0)
  where
    never : (k : ℕ) → suc (suc k) ≡ 1 → ⊥
    never k h = omega arith
root_is (suc p) m n l js s = root_is p (m + m - 1) n l (count_layer js) (shape_up p m n js s)
