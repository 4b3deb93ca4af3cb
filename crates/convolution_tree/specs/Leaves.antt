-- The leaves in a row of floats: the messages normalised in their place, and then the padding.
use Rattle.std.specs.Prelude.{◌≡◌, refl, List, [], ◌∷◌, ◌++◌, map, ℕ, zero, suc, ◌+◌, ◌-◌, ◌*◌, ◌^◌, ◌≤◌, ◌<◌, length, take, drop, get_or, set, replicate, Float}
use Rattle.std.proofs.Common.{sym, ap, subst, ◌∙◌, append_assoc, append-nil, suc-add, zero-add, not-suc-le-zero, le_of_suc-le-suc, mul-le-mul, mul-le-mul_right, add-one, arith, pow_pos, pow_mono, length-append, length-drop, drop-drop, length-take-le}
use Rattle.std.proofs.Math.Logic.{by_cases}
use Rattle.std.proofs.Math.Decide.{dec_lt}
use Rattle.std.proofs.Math.Nat.{pow-succ'}
use Rattle.std.specs.Float.{nan}
use Rattle.std.specs.Float.Ieee.{div, add}
use Rattle.list_laws.specs.Put.{put, length-put, put_next, put-none, put-above}
use Rattle.definition.specs.Floats.{zeroᶠ, oneᶠ}
use Rattle.definition.specs.Vectors.{binary, sum_of, normalize}
use Rattle.definition.specs.ConvolutionTree.{log_length, first_layer}
use Rattle.graph_laws.specs.Flat.{flat}
use Rattle.graph_laws.specs.Convolution.{log_length-least}
use Rattle.convolution_tree.specs.Nodes.{nodes, length-nodes, length-normalize}

-- one float is put
one : (v : List Float) (i : ℕ) (y : Float) → i < length v → set v i y ≡ put v i (y ∷ [])
unfolding put
one [] i y q = absurd (not-suc-le-zero q)
one (x ∷ v) zero y q = refl
one (x ∷ v) (suc i) y q =
    ap {B = List Float} (λ t. x ∷ t) (one v i y (le_of_suc-le-suc q))
    ∙ ap (λ (k : ℕ). x ∷ (take i v ++ ((y ∷ []) ++ drop k (x ∷ v)))) (sym (suc-add i 1))

-- a range grows by one float
pub put-more : (l : List Float) (at : ℕ) (s : List Float) (y : Float) → at + length s < length l → set (put l at s) (at + length s) y ≡ put l at (s ++ (y ∷ []))
put-more l at s y h =
    let m : length (put l at s) ≡ length l = length-put l at s (omega arith) in
    one (put l at s) (at + length s) y (omega arith) ∙ put_next nan l at s (y ∷ []) (fits (length s) (length l) h)
  where
    fits : (n k : ℕ) → at + n < k → at + n + 1 ≤ k
    fits n k h = omega arith

-- two floats more
pub pair_stored :
    (l w : List Float) (at n : ℕ) (s : List Float) (x y : Float) → length s ≡ n → at + n + 2 ≤ length l → w ≡ put l at s →
    set (set w (at + n) x) (at + n + 1) y ≡ put l at (s ++ binary x y)
pair_stored l w at n s x y k h e =
    let a : length (s ++ (x ∷ [])) ≡ length s + 1 = length-append s (x ∷ []) in
    let b : at + n + 1 ≡ at + length (s ++ (x ∷ [])) = omega arith in
    ap (λ (v : List Float). set (set v (at + n) x) (at + n + 1) y) e
    ∙ ap (λ (i : ℕ). set (set (put l at s) (at + i) x) (at + n + 1) y) (sym k)
    ∙ ap (λ (v : List Float). set v (at + n + 1) y) (put-more l at s x (omega arith))
    ∙ ap (λ (i : ℕ). set (put l at (s ++ (x ∷ []))) i y) b
    ∙ put-more l at (s ++ (x ∷ [])) y (omega arith)
    ∙ ap (put l at) (append_assoc s (x ∷ []) (y ∷ []))

-- ---- the messages

abbrev pub leaves_of : ℕ → List Float → List Float
leaves_of i l = flat (map normalize (nodes 2 i l))

leaves-more : (i : ℕ) (l : List Float) → leaves_of (suc i) l ≡ leaves_of i l ++ normalize (take 2 (drop (2 * i) l))
unfolding flat
leaves-more zero l = append-nil (normalize (take 2 l))
leaves-more (suc i) l =
    ap (λ (r : List Float). normalize (take 2 l) ++ r) (leaves-more i (drop 2 l))
    ∙ sym (append_assoc (normalize (take 2 l)) (leaves_of i (drop 2 l)) (normalize (take 2 (drop (2 * i) (drop 2 l)))))
    ∙ ap (λ (r : List Float). (normalize (take 2 l) ++ leaves_of i (drop 2 l)) ++ normalize (take 2 r)) (drop-drop (2 * i) 2 l ∙ ap (λ (k : ℕ). drop k l) (two-more i))
  where
    two-more : (i : ℕ) → 2 + 2 * i ≡ 2 * suc i
    two-more i = omega arith

pub length-leaves : (i : ℕ) (l : List Float) → 2 * i ≤ length l → length (leaves_of i l) ≡ 2 * i
unfolding flat
length-leaves zero l h = refl
length-leaves (suc i) l h =
    let e : length (drop 2 l) ≡ length l - 2 = length-drop 2 l in
    length-append (normalize (take 2 l)) (leaves_of i (drop 2 l))
    ∙ ap (λ (k : ℕ). k + length (leaves_of i (drop 2 l))) (length-normalize (take 2 l) ∙ length-take-le 2 l (omega arith))
    ∙ ap (λ (k : ℕ). 2 + k) (length-leaves i (drop 2 l) (omega arith))
    ∙ two-more i
  where
    two-more : (i : ℕ) → 2 + 2 * i ≡ 2 * suc i
    two-more i = omega arith

-- the two floats from x on
two_at : (l : List Float) (x : ℕ) → x + 1 < length l → take 2 (drop x l) ≡ binary (get_or l x nan) (get_or l (x + 1) nan)
two_at [] x h = absurd (not-suc-le-zero h)
two_at (a ∷ []) zero h = absurd (never h)
  where
    never : 0 + 1 < 1 → ⊥
    never h = omega arith
two_at (a ∷ b ∷ l) zero h = refl
two_at (a ∷ l) (suc x) h = two_at l x (less x (length l) h) ∙ ap (λ (k : ℕ). binary (get_or l x nan) (get_or (a ∷ l) k nan)) (sym (suc-add x 1))
  where
    less : (x n : ℕ) → suc x + 1 < suc n → x + 1 < n
    less x n h = omega arith

module _ (l : List Float) (n : ℕ) (fits : 2 * n ≤ length l) where
  pub leaves-start : l ≡ put l 0 (leaves_of 0 l)
  unfolding flat
  leaves-start = put-none l 0 (omega arith)

  pub leaves-turn :
      (w : List Float) (i : ℕ) (x y : Float) → i < n → w ≡ put l 0 (leaves_of i l) →
      binary x y ≡ normalize (binary (get_or w (2 * i) nan) (get_or w (2 * i + 1) nan)) →
      set (set w (2 * i) x) (2 * i + 1) y ≡ put l 0 (leaves_of (i + 1) l)
  leaves-turn w i x y h e q =
      let s = leaves_of i l in
      let k : length s ≡ 2 * i = length-leaves i l (omega arith) in
      let z : 0 + 2 * i ≡ 2 * i = zero-add (2 * i) in
      let a : get_or w (2 * i) nan ≡ get_or l (2 * i) nan = ap (λ (v : List Float). get_or v (2 * i) nan) e ∙ put-above l 0 s nan (2 * i) (omega arith) (omega arith) in
      let b : get_or w (2 * i + 1) nan ≡ get_or l (2 * i + 1) nan = ap (λ (v : List Float). get_or v (2 * i + 1) nan) e ∙ put-above l 0 s nan (2 * i + 1) (omega arith) (omega arith) in
      let t : binary x y ≡ normalize (take 2 (drop (2 * i) l)) =
      q
      ∙ ap (λ (z : Float). normalize (binary z (get_or w (2 * i + 1) nan))) a
      ∙ ap (λ (z : Float). normalize (binary (get_or l (2 * i) nan) z)) b
      ∙ ap normalize (sym (two_at l (2 * i) (omega arith))) in
      ap (λ (j : ℕ). set (set w j x) (j + 1) y) (sym z)
      ∙ pair_stored l w 0 (2 * i) s x y k (omega arith) e
      ∙ ap (λ (r : List Float). put l 0 (s ++ r)) t
      ∙ ap (put l 0) (sym (leaves-more i l))
      ∙ ap (λ (z : ℕ). put l 0 (leaves_of z l)) (sym (add-one i))

-- ---- the padding

abbrev pub padding : ℕ → List Float
padding k = flat (map normalize (replicate k (binary oneᶠ zeroᶠ)))

pub pad_is : normalize (binary oneᶠ zeroᶠ) ≡ binary oneᶠ zeroᶠ
unfolding normalize sum_of div add
pad_is = refl

padding-more : (k : ℕ) → padding (suc k) ≡ padding k ++ normalize (binary oneᶠ zeroᶠ)
unfolding flat
padding-more zero = append-nil (normalize (binary oneᶠ zeroᶠ))
padding-more (suc k) =
    ap (λ (r : List Float). normalize (binary oneᶠ zeroᶠ) ++ r) (padding-more k)
    ∙ sym (append_assoc (normalize (binary oneᶠ zeroᶠ)) (padding k) (normalize (binary oneᶠ zeroᶠ)))

pub length-padding : (k : ℕ) → length (padding k) ≡ 2 * k
unfolding flat
length-padding zero = refl
length-padding (suc k) =
    length-append (normalize (binary oneᶠ zeroᶠ)) (padding k)
    ∙ ap (λ (i : ℕ). i + length (padding k)) (length-normalize (binary oneᶠ zeroᶠ))
    ∙ ap (λ (i : ℕ). 2 + i) (length-padding k)
    ∙ two-more k
  where
    two-more : (i : ℕ) → 2 + 2 * i ≡ 2 * suc i
    two-more i = omega arith

module _ (l : List Float) (n out : ℕ) (fits : out + 2 * n ≤ length l) where
  pub pad_start : l ≡ put l out (padding 0)
  unfolding flat
  pad_start = put-none l out (omega arith)

  pub pad_turn : (w : List Float) (i : ℕ) → i < n → w ≡ put l out (padding i) → set (set w (out + 2 * i) oneᶠ) (out + 2 * i + 1) zeroᶠ ≡ put l out (padding (i + 1))
  pad_turn w i h e =
      pair_stored l w out (2 * i) (padding i) oneᶠ zeroᶠ (length-padding i) (omega arith) e
      ∙ ap (λ (r : List Float). put l out (padding i ++ r)) (sym pad_is)
      ∙ ap (put l out) (sym (padding-more i))
      ∙ ap (λ (z : ℕ). put l out (padding z)) (sym (add-one i))

-- ---- the leaves of the definition

map-append : (xs ys : List (List Float)) → map normalize (xs ++ ys) ≡ map normalize xs ++ map normalize ys
map-append [] ys = refl
map-append (x ∷ xs) ys = ap {B = List (List Float)} (λ l. normalize x ∷ l) (map-append xs ys)

flat_append : (xs ys : List (List Float)) → flat (xs ++ ys) ≡ flat xs ++ flat ys
unfolding flat
flat_append [] ys = refl
flat_append (x ∷ xs) ys = ap (λ (l : List Float). x ++ l) (flat_append xs ys) ∙ sym (append_assoc x (flat xs) (flat ys))

-- the two loops one after the other
pub first_layer_put :
    (l : List Float) (n leaves : ℕ) → leaves ≡ 2 ^ log_length n → n ≤ leaves → 2 * leaves ≤ length l → (w v : List Float) →
    w ≡ put l 0 (leaves_of n l) → v ≡ put w (2 * n) (padding (leaves - n)) → v ≡ put l 0 (flat (first_layer (nodes 2 n l)))
unfolding first_layer
first_layer_put l n leaves c h fits w v e r =
    let s = leaves_of n l in
    let k : length s ≡ 2 * n = length-leaves n l (omega arith) in
    let j : length (padding (leaves - n)) ≡ 2 * (leaves - n) = length-padding (leaves - n) in
    let ps = replicate (leaves - n) (binary oneᶠ zeroᶠ) in
    let ln : length (nodes 2 n l) ≡ n = length-nodes 2 n l in
    let z : 2 * n ≡ 0 + length s = omega arith in
    r
    ∙ ap (λ (x : List Float). put x (2 * n) (padding (leaves - n))) e
    ∙ ap (λ (i : ℕ). put (put l 0 s) i (padding (leaves - n))) z
    ∙ put_next nan l 0 s (padding (leaves - n)) (omega arith)
    ∙ ap (put l 0) (sym (flat_append (map normalize (nodes 2 n l)) (map normalize ps)) ∙ ap flat (sym (map-append (nodes 2 n l) ps)))
    ∙ ap (λ (i : ℕ). put l 0 (flat (map normalize (nodes 2 n l ++ replicate (i - n) (binary oneᶠ zeroᶠ))))) c
    ∙ ap (λ (i : ℕ). put l 0 (flat (map normalize (nodes 2 n l ++ replicate (2 ^ log_length i - i) (binary oneᶠ zeroᶠ))))) (sym ln)

-- ---- how many leaves

pub size-turn : (n layers leaves : ℕ) → leaves < n → layers ≤ log_length n → leaves ≡ 2 ^ layers → (layers + 1 ≤ log_length n) × (leaves + leaves ≡ 2 ^ (layers + 1)) × (0 < leaves)
size-turn n layers leaves h b e =
    let p : 0 < 2 ^ layers = pow_pos layers in
    let d : leaves + leaves ≡ 2 ^ (layers + 1) = double (2 ^ layers) leaves (2 ^ suc layers) e (pow-succ' 2 layers) ∙ ap (λ (x : ℕ). 2 ^ x) (sym (add-one layers)) in
    (by_cases (dec_lt layers (log_length n)) (λ (u : layers < log_length n). omega arith) (λ u. absurd (never u)), d, omega arith)
  where
    double : (a c b : ℕ) → c ≡ a → b ≡ 2 * a → c + c ≡ b
    double a c b e f = omega arith

    never : (layers < log_length n → ⊥) → ⊥
    never u =
        let s : log_length n ≡ layers = omega arith in
        let g : n ≤ 2 ^ log_length n = (log_length-least n).0 in
        let f : 2 ^ log_length n ≡ 2 ^ layers = ap (λ (x : ℕ). 2 ^ x) s in
        omega arith

pub size-end : (n layers leaves : ℕ) → n ≤ leaves → layers ≤ log_length n → leaves ≡ 2 ^ layers → (layers ≡ log_length n) × (leaves ≡ 2 ^ log_length n)
size-end n layers leaves h b e =
    let g : log_length n ≤ layers = (log_length-least n).1 layers (subst (λ (x : ℕ). n ≤ x) e h) in
    let s : layers ≡ log_length n = omega arith in
    (s, e ∙ ap (λ (x : ℕ). 2 ^ x) s)

-- at most 7 layers above at most 128 leaves
pub size_small : (n : ℕ) → n ≤ 128 → log_length n ≤ 7
size_small n h = (log_length-least n).1 7 h

-- ---- how many floats

pub sized : (p l n : ℕ) → p ≡ log_length n → l ≡ 2 ^ log_length n → (p + 3) * l ≡ (log_length n + 3) * 2 ^ log_length n
sized p l n e f = ap (λ (x : ℕ). (x + 3) * l) e ∙ ap (λ (x : ℕ). (log_length n + 3) * x) f

pub size-bound : (n k : ℕ) → n ≤ 2 ^ k → (log_length n + 3) * 2 ^ log_length n ≤ (k + 3) * 2 ^ k
size-bound n k h =
    let b : log_length n ≤ k = (log_length-least n).1 k h in
    let a : log_length n + 3 ≤ k + 3 = omega arith in
    mul-le-mul a (pow_mono b)

pub size_above : (n : ℕ) → 2 * n + 1 ≤ (log_length n + 3) * 2 ^ log_length n
size_above n =
    let a : 3 * 2 ^ log_length n ≤ (log_length n + 3) * 2 ^ log_length n = mul-le-mul_right (2 ^ log_length n) (omega arith) in
    omega (arith, (log_length-least n).0, pow_pos (log_length n))
