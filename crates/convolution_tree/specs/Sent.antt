-- What the range holds in the end is what the definition's tree sends.
use Rattle.std.specs.Prelude.{◌≡◌, refl, ℕ, zero, suc, ◌+◌, ◌-◌, ◌*◌, ◌^◌, ◌≤◌, ◌<◌, replicate, Float}
use Rattle.std.proofs.Common.{sym, subst, ◌∙◌, add-zero, not-suc-le-zero, le_of_suc-le-suc, suc-mul, add-one, arith, pow_mono, length-drop, take_all, drop-drop, length-take-le, drop_at}
use Rattle.std.proofs.Math.Path.{ap}
use Rattle.std.proofs.Math.Logic.{by_cases}
use mathlib.Core.List.{List, [], ◌∷◌, ◌++◌, map, append_assoc}
use Rattle.std.proofs.Math.Decide.{dec_lt}
use Rattle.std.proofs.Math.Nat.{add-mul}
use Rattle.std.proofs.Math.Pow.{pow_pos}
use Rattle.std.proofs.Math.ListN.{length, take, drop, length-append}
use Rattle.std.proofs.lemmas.List.{length-replicate, length-map, take-append-le}
use Rattle.std.proofs.Math.Seq.{take-append-add, drop-append-add, take_at}
use Rattle.std.specs.Float.{nan}
use Rattle.list_laws.specs.Put.{put, put_again}
use Rattle.definition.specs.Floats.{zeroᶠ, oneᶠ, avoid_underflow}
use Rattle.definition.specs.Vectors.{Message, binary, normalize, avoid_underflow_all}
use Rattle.definition.specs.ConvolutionTree.{log_length, tree_layers, first_layer, tree_messages}
use Rattle.graph_laws.specs.Flat.{flat}
use Rattle.graph_laws.specs.Convolution.{log_length-least}
use Rattle.convolution_tree.specs.Nodes.{nodes, AllLong, length-nodes, nodes-long, nodes-flat, flat-length, length-normalize}
use Rattle.convolution_tree.specs.Layers.{layers_from, layer_at, likelihood_rows, layers_last, Shape, flat_shape, length_layers, pow_more, width_at, layer_shape, likelihoods_length, likelihoods_long, length-rows, root_is, rows-rest, rows-front}
use Rattle.convolution_tree.specs.WayDown.{put-start}
use Rattle.convolution_tree.specs.Leaves.{size_small}
use Rattle.convolution_tree.specs.Exchange.{length_raised}
use Rattle.convolution_tree.specs.Tree.{scratch_len, seeded, propagated}

-- ---- how many leaves a tree over two grades or more has

pub leaves_bounds : (n : ℕ) → 2 ≤ n → n ≤ 128 → (0 < log_length n) × (n ≤ 2 ^ log_length n) × (2 ^ log_length n ≤ n + n) × (2 ^ log_length n ≤ 128)
leaves_bounds n h k = (some (log_length n) (log_length-least n).0, (log_length-least n).0, most (log_length n) (log_length-least n).1, pow_mono (size_small n k))
  where
    some : (p : ℕ) → n ≤ 2 ^ p → 0 < p
    some zero u = absurd (let z : ⊥ = omega arith in z)
    some (suc p) u = omega arith

    most : (p : ℕ) → ((q : ℕ) → n ≤ 2 ^ q → p ≤ q) → 2 ^ p ≤ n + n
    most zero u = omega arith
    most (suc p) u = by_cases (dec_lt (2 ^ p) n) (λ (v : 2 ^ p < n). omega (arith, pow_more p)) (λ v. absurd (let a : suc p ≤ p = u p (omega arith) in let z : ⊥ = omega arith in z))

-- ---- the definition's leaves

long-map : (m : ℕ) (xs : List (List Float)) → AllLong m xs → AllLong m (map normalize xs)
long-map m [] h = tt
long-map m (x ∷ xs) h = (length-normalize x ∙ h.0, long-map m xs h.1)

long-padded : (k : ℕ) (xs : List (List Float)) → AllLong 2 xs → AllLong 2 (xs ++ replicate k (binary oneᶠ zeroᶠ))
long-padded zero [] h = tt
long-padded (suc k) [] h = (refl, long-padded k [] tt)
long-padded k (x ∷ xs) h = (h.0, long-padded k xs h.1)

pub first_layer_shape : (ms : List Message) → AllLong 2 ms → Shape (log_length (length ms)) 2 (2 ^ log_length (length ms)) (first_layer ms)
unfolding first_layer
first_layer_shape ms h =
    let c = 2 ^ log_length (length ms) in
    let ps = replicate (c - length ms) (binary oneᶠ zeroᶠ) in
    let b : length ms ≤ c = (log_length-least (length ms)).0 in (
      length-map (ms ++ ps) normalize ∙ length-append ms ps ∙ ap (λ (k : ℕ). length ms + k) (length-replicate (c - length ms) (binary oneᶠ zeroᶠ)) ∙ total (length ms) c b,
      long-map 2 (ms ++ ps) (long-padded (c - length ms) ms h),
      omega arith,
      omega arith,
    )
  where
    total : (a b : ℕ) → a ≤ b → a + (b - a) ≡ b
    total a b h = omega arith

-- ---- raised

raised_append : (a b : List Float) → avoid_underflow_all (a ++ b) ≡ avoid_underflow_all a ++ avoid_underflow_all b
unfolding avoid_underflow_all
raised_append [] b = refl
raised_append (x ∷ a) b = ap {B = List Float} (λ r. avoid_underflow x ∷ r) (raised_append a b)

-- the first n messages of two entries, raised one by one or in a row
raised_pairs : (n : ℕ) (xs : List (List Float)) → AllLong 2 xs → n ≤ length xs → flat (map (λ (l : List Float). avoid_underflow_all (take 2 l)) (take n xs)) ≡ avoid_underflow_all (take (n * 2) (flat xs))
unfolding flat avoid_underflow_all
raised_pairs zero xs a h = refl
raised_pairs (suc n) [] a h = absurd (not-suc-le-zero h)
raised_pairs (suc n) (x ∷ xs) a h =
    let k : suc n * 2 ≡ length x + n * 2 = omega (arith, a.0, suc-mul n 2) in
    ap (λ (y : List Float). avoid_underflow_all y ++ flat (map (λ (l : List Float). avoid_underflow_all (take 2 l)) (take n xs))) (take_all 2 x (omega (arith, a.0)))
    ∙ ap (λ (y : List Float). avoid_underflow_all x ++ y) (raised_pairs n xs a.1 (le_of_suc-le-suc h))
    ∙ sym (raised_append x (take (n * 2) (flat xs)))
    ∙ ap avoid_underflow_all (sym (take-append-add x (flat xs) (n * 2)) ∙ ap (λ (i : ℕ). take i (x ++ flat xs)) (sym k))

-- ---- a start that covers another

covers : (w s t : List Float) → length s ≤ length t → put (put w 0 s) 0 t ≡ put w 0 t
covers w s t h =
    let j = length t - length s in
    let e : 0 + length t ≡ length s + j = omega arith in
    put-start (put w 0 s) t
    ∙ ap (λ (x : List Float). t ++ drop (0 + length t) x) (put-start w s)
    ∙ ap (λ (k : ℕ). t ++ drop k (s ++ drop (0 + length s) w)) e
    ∙ ap (λ (x : List Float). t ++ x) (drop-append-add s (drop (0 + length s) w) j ∙ drop-drop j (0 + length s) w ∙ ap (λ (k : ℕ). drop k w) (let z : 0 + length s + j ≡ 0 + length t = omega arith in z))
    ∙ sym (put-start w t)

-- ---- the whole

module _ (w : List Float) (n : ℕ) (two : 2 ≤ n) (small : n ≤ 128) (fits : 3 * n + 1 + scratch_len n ≤ length w) where
  abbrev ms : List Message
  ms = nodes 2 n (drop (n + 1) w)

  total : n + (log_length n + 3) * 2 ^ log_length n ≡ 3 * n + 1 + scratch_len n
  unfolding scratch_len
  total =
      let b = leaves_bounds n two small in
      omega (arith, b.1, add-mul (log_length n) 3 (2 ^ log_length n), pow_pos (log_length n))

  pub enough : n + (log_length n + 3) * 2 ^ log_length n ≤ length w
  enough = omega (arith, total, fits)

  messages_long : AllLong 2 ms
  messages_long = nodes-long 2 n (drop (n + 1) w) (omega (arith, length-drop (n + 1) w, fits))

  count : length ms ≡ n
  count = length-nodes 2 n (drop (n + 1) w)

  shape : Shape (log_length n) 2 (2 ^ log_length n) (first_layer ms)
  shape = subst (λ (k : ℕ). Shape (log_length k) 2 (2 ^ log_length k) (first_layer ms)) count (first_layer_shape ms messages_long)

  abbrev f : List Float
  f = normalize (take (n + 1) w)

  length-f : length f ≡ n + 1
  length-f = length-normalize (take (n + 1) w) ∙ length-take-le (n + 1) w (omega (arith, fits))

  abbrev js : List (List Float)
  js = first_layer (nodes 2 n (drop (n + 1) w))

  abbrev top : List Float
  top = flat (layer_at (log_length n) (first_layer (nodes 2 n (drop (n + 1) w))))

  length-top : length top ≡ 2 ^ log_length n + 1
  length-top = flat_shape 0 (width_at (log_length n) 2) (2 ^ log_length n) (layer_at (log_length n) js) (layer_shape (log_length n) 0 (log_length n) 2 (2 ^ log_length n) js (sym (add-zero (log_length n))) shape)

  abbrev rows : List Float
  rows = likelihood_rows (log_length n) f js

  length-row : length rows + 1 ≡ (log_length n + 2) * 2 ^ log_length n + n
  length-row =
      let c = 2 ^ log_length n in
      let a = length-rows (log_length n) 2 c f js shape in
      let b = length_layers (log_length n) 2 c js shape in
      let d = ap length (layers_last (log_length n) js) ∙ length-append (layers_from (log_length n) js) top in
      omega (arith, a, b, d, length-top, length-f, add-mul (log_length n) 2 c, suc-mul (log_length n) c)

  abbrev made : List Float
  made = take (n + 1) top ++ (rows ++ drop (n + 1) top)

  length-made : length made ≡ n + (log_length n + 3) * 2 ^ log_length n
  length-made =
      let c = 2 ^ log_length n in
      let b = leaves_bounds n two small in
      omega (arith, length-append (take (n + 1) top) (rows ++ drop (n + 1) top), length-append rows (drop (n + 1) top), length-take-le (n + 1) top (omega (arith, length-top, b.1)), length-drop (n + 1) top, length-top, length-row, add-mul (log_length n) 2 c, add-mul (log_length n) 3 c, b.1)

  -- what the tree is built from
  seed_read : (x : List Float) → x ≡ put w 0 (seeded n w) → propagated n (log_length n) (2 ^ log_length n) x ≡ made
  unfolding propagated seeded
  seed_read x e =
      let s = f ++ flat js in
      let d = drop (0 + length s) w in
      let x' : x ≡ f ++ (flat js ++ d) = e ∙ put-start w s ∙ append_assoc f (flat js) d in
      let a : take (n + 1) x ≡ f = ap (take (n + 1)) x' ∙ take_at f (flat js ++ d) (n + 1) length-f in
      let b : nodes 2 (2 ^ log_length n) (drop (n + 1) x) ≡ js =
      ap (λ (z : List Float). nodes 2 (2 ^ log_length n) (drop (n + 1) z)) x'
      ∙ ap (nodes 2 (2 ^ log_length n)) (drop_at f (flat js ++ d) (n + 1) length-f)
      ∙ ap (λ (k : ℕ). nodes 2 k (flat js ++ d)) (sym shape.0)
      ∙ nodes-flat 2 js d shape.1 in
      ap (λ (z : List (List Float)). take (n + 1) (flat (layer_at (log_length n) z)) ++ (likelihood_rows (log_length n) (take (n + 1) x) z ++ drop (n + 1) (flat (layer_at (log_length n) z)))) b
      ∙ ap (λ (z : List Float). take (n + 1) top ++ (likelihood_rows (log_length n) z js ++ drop (n + 1) top)) a

  made_covers : (x y : List Float) → x ≡ put w 0 (seeded n w) → y ≡ put x 0 (propagated n (log_length n) (2 ^ log_length n) x) → y ≡ put w 0 made
  unfolding seeded
  made_covers x y e g =
      let s = f ++ flat js in
      let b = leaves_bounds n two small in
      let l : length s ≤ length made =
      omega (arith, length-append f (flat js), length-f, flat_shape (log_length n) 2 (2 ^ log_length n) js shape, length-made, add-mul (log_length n) 3 (2 ^ log_length n), b.1) in
      g ∙ ap (put x 0) (seed_read x e) ∙ ap (λ (z : List Float). put z 0 made) e ∙ covers w s made l

  -- the messages' place
  abbrev likes : List (List Float)
  likes = (tree_layers (log_length n) f js).likelihoods

  likes-long : AllLong 2 likes
  likes-long = all (log_length n) (leaves_bounds n two small).0 shape
    where
      all : (q : ℕ) → 0 < q → Shape q 2 (2 ^ log_length n) js → AllLong 2 (tree_layers q f js).likelihoods
      all zero h s = absurd (not-suc-le-zero h)
      all (suc q) h s = likelihoods_long q 2 (2 ^ log_length n) f js s

  likes-length : length likes ≡ 2 ^ log_length n
  likes-length = likelihoods_length (log_length n) 2 (2 ^ log_length n) f js shape

  front : take (3 * n + 1) made ≡ take (n + 1) top ++ take (n * 2) (flat likes)
  front =
      let b = leaves_bounds n two small in
      let lt : length (take (n + 1) top) ≡ n + 1 = length-take-le (n + 1) top (omega (arith, length-top, b.1)) in
      let k : 3 * n + 1 ≡ length (take (n + 1) top) + n * 2 = omega (arith, lt) in
      let ll : length (flat likes) ≡ 2 ^ log_length n * 2 = flat-length 2 likes likes-long ∙ ap (λ (i : ℕ). i * 2) likes-length in
      let r : rows ++ drop (n + 1) top ≡ flat likes ++ (rows-rest (log_length n) f js ++ drop (n + 1) top) =
      ap (λ (z : List Float). z ++ drop (n + 1) top) (rows-front (log_length n) 2 (2 ^ log_length n) f js shape) ∙ append_assoc (flat likes) (rows-rest (log_length n) f js) (drop (n + 1) top) in
      ap (λ (i : ℕ). take i made) k
      ∙ take-append-add (take (n + 1) top) (rows ++ drop (n + 1) top) (n * 2)
      ∙ ap (λ (z : List Float). take (n + 1) top ++ take (n * 2) z) r
      ∙ ap (λ (z : List Float). take (n + 1) top ++ z) (take-append-le (n * 2) (flat likes) (rows-rest (log_length n) f js ++ drop (n + 1) top) (omega (arith, ll, b.1)))

  sent : avoid_underflow_all (take (3 * n + 1) made) ≡ flat (tree_messages (take (n + 1) w) ms)
  unfolding tree_messages flat
  sent =
      let b = leaves_bounds n two small in
      let t = tree_layers (log_length n) f js in
      ap avoid_underflow_all front
      ∙ raised_append (take (n + 1) top) (take (n * 2) (flat likes))
      ∙ ap (λ (z : List Float). avoid_underflow_all (take (n + 1) z) ++ avoid_underflow_all (take (n * 2) (flat likes))) (root_is (log_length n) 2 (2 ^ log_length n) f js shape)
      ∙ ap (λ (z : List Float). avoid_underflow_all (take (n + 1) t.root) ++ z) (sym (raised_pairs n likes likes-long (omega (arith, likes-length, b.1))))
      ∙ ap (λ (k : ℕ). avoid_underflow_all (take k t.root) ++ flat (map (λ (l : List Float). avoid_underflow_all (take 2 l)) (take n likes))) (add-one n)
      ∙ ap (λ (k : ℕ). let u = tree_layers (log_length k) f js in avoid_underflow_all (take (suc k) u.root) ++ flat (map (λ (l : List Float). avoid_underflow_all (take 2 l)) (take k u.likelihoods))) (sym count)

  -- as long as what the tree was given
  pub sent-length : length (flat (tree_messages (take (n + 1) w) (nodes 2 n (drop (n + 1) w)))) ≡ 3 * n + 1
  sent-length = ap length (sym sent) ∙ length_raised (take (3 * n + 1) made) ∙ length-take-le (3 * n + 1) made (omega (arith, length-made, total))

  pub tree_is :
      (x y z : List Float) → x ≡ put w 0 (seeded n w) → y ≡ put x 0 (propagated n (log_length n) (2 ^ log_length n) x) →
      z ≡ put y 0 (avoid_underflow_all (take (3 * n + 1) y) ++ replicate (n + (log_length n + 3) * 2 ^ log_length n - (3 * n + 1)) zeroᶠ) →
      z ≡ put w 0 (flat (tree_messages (take (n + 1) w) (nodes 2 n (drop (n + 1) w))) ++ replicate (scratch_len n) zeroᶠ)
  tree_is x y z e g h =
      let yw : y ≡ put w 0 made = made_covers x y e g in
      let k : n + (log_length n + 3) * 2 ^ log_length n - (3 * n + 1) ≡ scratch_len n = omega (arith, total) in
      let lm : 3 * n + 1 ≤ length made = omega (arith, length-made, total) in
      let ty : take (3 * n + 1) y ≡ take (3 * n + 1) made = ap (take (3 * n + 1)) (yw ∙ put-start w made) ∙ take-append-le (3 * n + 1) made (drop (0 + length made) w) lm in
      let out = flat (tree_messages (take (n + 1) w) ms) ++ replicate (scratch_len n) zeroᶠ in
      let lo : length out ≡ length made =
      omega (arith, length-append (flat (tree_messages (take (n + 1) w) ms)) (replicate (scratch_len n) zeroᶠ), sent-length, length-replicate (scratch_len n) zeroᶠ, length-made, total) in
      h
      ∙ ap (λ (u : List Float). put y 0 (avoid_underflow_all u ++ replicate (n + (log_length n + 3) * 2 ^ log_length n - (3 * n + 1)) zeroᶠ)) ty
      ∙ ap (λ (i : ℕ). put y 0 (avoid_underflow_all (take (3 * n + 1) made) ++ replicate i zeroᶠ)) k
      ∙ ap (λ (u : List Float). put y 0 (u ++ replicate (scratch_len n) zeroᶠ)) sent
      ∙ ap (λ (u : List Float). put u 0 out) yw
      ∙ put_again nan w 0 made out (omega (arith, length-made, enough)) lo
