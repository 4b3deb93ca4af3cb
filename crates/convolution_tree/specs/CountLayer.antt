-- The layer above, node by node: the steps of the loop that makes it.
use Rattle.std.specs.Prelude.{◌≡◌, refl, List, [], ◌∷◌, ◌++◌, ℕ, zero, suc, ◌+◌, ◌-◌, ◌*◌, ◌≤◌, ◌<◌, length, take, drop, Float}
use Rattle.std.proofs.Common.{sym, ap, ◌∙◌, inl, append_assoc, append-nil, suc-mul, zero-mul, mul-le-mul_right, add-one, arith, length-append, length-drop, drop-drop, length-take-le}
use Rattle.std.specs.Float.{nan}
use Rattle.list_laws.specs.Part.{region}
use Rattle.list_laws.specs.Put.{put, put_next, put-none, region-out}
use Rattle.definition.specs.Vectors.{normalize}
use Rattle.definition.specs.ConvolutionTree.{convolve, count_layer}
use Rattle.graph_laws.specs.Flat.{flat}
use Rattle.graph_laws.specs.Convolution.{length-convolve}
use Rattle.convolution_tree.specs.Nodes.{nodes, double, two, AllLong, length-normalize}

-- the node above two
abbrev above : ℕ → List Float → List Float
above m l = normalize (convolve (take m l) (take m (drop m l)))

abbrev ups : ℕ → ℕ → List Float → List (List Float)
ups m zero l = []
ups m (suc i) l = above m l ∷ ups m i (drop m (drop m l))

count_ups : (m i : ℕ) (l : List Float) → count_layer (nodes m (2 * i) l) ≡ ups m i l
unfolding count_layer
count_ups m zero l = refl
count_ups m (suc i) l =
    ap (λ (k : ℕ). count_layer (nodes m k l)) (double i)
    ∙ ap {B = List (List Float)} (λ r. above m l ∷ r) (count_ups m i (drop m (drop m l)))

flat-more : (m i : ℕ) (l : List Float) → flat (ups m (suc i) l) ≡ flat (ups m i l) ++ above m (drop (2 * (i * m)) l)
unfolding flat
flat-more m zero l = append-nil (above m l) ∙ ap (λ (k : ℕ). above m (drop (2 * k) l)) (sym (zero-mul m))
flat-more m (suc i) l =
    ap (λ (r : List Float). above m l ++ r) (flat-more m i (drop m (drop m l)))
    ∙ sym (append_assoc (above m l) (flat (ups m i (drop m (drop m l)))) (above m (drop (2 * (i * m)) (drop m (drop m l)))))
    ∙ ap (λ (r : List Float). (above m l ++ flat (ups m i (drop m (drop m l)))) ++ above m r)
    (ap (drop (2 * (i * m))) (drop-drop m m l) ∙ drop-drop (2 * (i * m)) (m + m) l ∙ ap (λ (k : ℕ). drop k l) (turned (2 * (i * m)) (m + m) (2 * (suc i * m)) (two i m)))
  where
    turned : (a b c : ℕ) → c ≡ a + b → b + a ≡ c
    turned a b c e = omega arith

length_above : (m : ℕ) (l : List Float) → m + m ≤ length l → length (above m l) ≡ m + m - 1
length_above m l h =
    let e : length (drop m l) ≡ length l - m = length-drop m l in
    length-normalize (convolve (take m l) (take m (drop m l)))
    ∙ length-convolve (take m l) (take m (drop m l))
    ∙ ap (λ (k : ℕ). k + length (take m (drop m l)) - 1) (length-take-le m l (omega arith))
    ∙ ap (λ (k : ℕ). m + k - 1) (length-take-le m (drop m l) (omega arith))

length-ups : (m i : ℕ) (l : List Float) → 2 * (i * m) ≤ length l → length (flat (ups m i l)) ≡ i * (m + m - 1)
unfolding flat
length-ups m zero l h = sym (zero-mul (m + m - 1))
length-ups m (suc i) l h =
    let r = drop m (drop m l) in
    let e : length (drop m l) ≡ length l - m = length-drop m l in
    let f : length r ≡ length (drop m l) - m = length-drop m (drop m l) in
    let g : 2 * (suc i * m) ≡ 2 * (i * m) + (m + m) = two i m in
    length-append (above m l) (flat (ups m i r))
    ∙ ap (λ (k : ℕ). k + length (flat (ups m i r))) (length_above m l (omega arith))
    ∙ ap (λ (k : ℕ). m + m - 1 + k) (length-ups m i r (omega arith))
    ∙ swap (m + m - 1) (i * (m + m - 1)) (suc i * (m + m - 1)) (suc-mul i (m + m - 1))
  where
    swap : (a b c : ℕ) → c ≡ b + a → a + b ≡ c
    swap a b c e = omega arith

module _ (l : List Float) (at count m out : ℕ) (below : at + 2 * (count * m) ≤ out) (hm : 0 < m) (fits : out + count * (m + m - 1) ≤ length l) where
  abbrev pub made_up : ℕ → List Float
  made_up i = flat (count_layer (nodes m (2 * i) (drop at l)))

  bound : (i : ℕ) → i ≤ count → i * m ≤ count * m
  bound i h = mul-le-mul_right m h

  bound-up : (i : ℕ) → i ≤ count → i * (m + m - 1) ≤ count * (m + m - 1)
  bound-up i h = mul-le-mul_right (m + m - 1) h

  length-made_up : (i : ℕ) → i ≤ count → length (made_up i) ≡ i * (m + m - 1)
  length-made_up i h =
      let b = bound i h in
      let e : length (drop at l) ≡ length l - at = length-drop at l in
      ap (λ (r : List (List Float)). length (flat r)) (count_ups m i (drop at l)) ∙ length-ups m i (drop at l) (omega arith)

  pub up_start : l ≡ put l out (made_up 0)
  unfolding count_layer flat
  up_start = put-none l out (omega arith)

  -- the next two nodes and their place, in range
  pub next_fits : (i : ℕ) → i < count → (at + 2 * (i * m) + m + m ≤ out) × (out + i * (m + m - 1) + (m + m - 1) ≤ length l)
  next_fits i h =
      let b : suc i * m ≤ count * m = bound (suc i) h in
      let d : suc i * (m + m - 1) ≤ count * (m + m - 1) = bound-up (suc i) h in
      let e : suc i * m ≡ i * m + m = suc-mul i m in
      let f : suc i * (m + m - 1) ≡ i * (m + m - 1) + (m + m - 1) = suc-mul i (m + m - 1) in
      (omega arith, omega arith)

  pub up_turn :
      (w v : List Float) (i : ℕ) → i < count → w ≡ put l out (made_up i) →
      v ≡ put w (out + i * (m + m - 1)) (normalize (convolve (region w (at + 2 * (i * m)) m) (region w (at + 2 * (i * m) + m) m))) →
      v ≡ put l out (made_up (i + 1))
  up_turn w v i h e r =
      let s = made_up i in
      let k : length s ≡ i * (m + m - 1) = length-made_up i (omega arith) in
      let q = next_fits i h in
      let x = at + 2 * (i * m) in
      let t = above m (drop (2 * (i * m)) (drop at l)) in
      let d : length (drop (2 * (i * m)) (drop at l)) ≡ length (drop at l) - 2 * (i * m) = length-drop (2 * (i * m)) (drop at l) in
      let f : length (drop at l) ≡ length l - at = length-drop at l in
      let j : length t ≡ m + m - 1 = length_above m (drop (2 * (i * m)) (drop at l)) (omega arith) in
      r
      ∙ ap (λ (u : List Float). put u (out + i * (m + m - 1)) (normalize (convolve (region u x m) (region u (x + m) m)))) e
      ∙ ap (λ (u : List Float). put (put l out s) (out + i * (m + m - 1)) (normalize (convolve u (region (put l out s) (x + m) m)))) (region-out nan l out s x m (omega arith) (omega arith) (inl (omega arith)))
      ∙ ap (λ (u : List Float). put (put l out s) (out + i * (m + m - 1)) (normalize (convolve (region l x m) u))) (region-out nan l out s (x + m) m (omega arith) (omega arith) (inl (omega arith)))
      ∙ ap (λ (u : List Float). put (put l out s) (out + i * (m + m - 1)) (normalize (convolve u (region l (x + m) m)))) (ap (take m) (sym (drop-drop (2 * (i * m)) at l)))
      ∙ ap (λ (u : List Float). put (put l out s) (out + i * (m + m - 1)) (normalize (convolve (take m (drop (2 * (i * m)) (drop at l))) u))) (ap (take m) (sym (drop-drop m x l) ∙ ap (drop m) (sym (drop-drop (2 * (i * m)) at l))))
      ∙ ap (λ (z : ℕ). put (put l out s) (out + z) t) (sym k)
      ∙ put_next nan l out s t (omega arith)
      ∙ ap (λ (u : List (List Float)). put l out (flat u ++ t)) (count_ups m i (drop at l))
      ∙ ap (put l out) (sym (flat-more m i (drop at l)))
      ∙ ap (λ (u : List (List Float)). put l out (flat u)) (sym (count_ups m (suc i) (drop at l)))
      ∙ ap (λ (z : ℕ). put l out (made_up z)) (sym (add-one i))

-- ---- its shape

pub count_long : (m : ℕ) (js : List (List Float)) → AllLong m js → AllLong (m + m - 1) (count_layer js)
unfolding count_layer
count_long m [] h = tt
count_long m (a ∷ []) h = tt
count_long m (a ∷ b ∷ js) h =
    (length-normalize (convolve a b) ∙ length-convolve a b ∙ ap (λ (k : ℕ). k + length b - 1) h.0 ∙ ap (λ (k : ℕ). m + k - 1) h.1.0, count_long m js h.1.1)

pub count_length : (n : ℕ) (js : List (List Float)) → length js ≡ 2 * n → length (count_layer js) ≡ n
unfolding count_layer
count_length zero [] h = refl
count_length (suc n) [] h = absurd (never n h)
  where
    never : (n : ℕ) → 0 ≡ 2 * suc n → ⊥
    never n h = omega arith
count_length n (a ∷ []) h = absurd (never n h)
  where
    never : (n : ℕ) → 1 ≡ 2 * n → ⊥
    never n h = omega arith
count_length zero (a ∷ b ∷ js) h = absurd (never (length js) h)
  where
    never : (k : ℕ) → suc (suc k) ≡ 2 * 0 → ⊥
    never k h = omega arith
count_length (suc n) (a ∷ b ∷ js) h = ap suc (count_length n js (less (length js) n h))
  where
    less : (k n : ℕ) → suc (suc k) ≡ 2 * suc n → k ≡ 2 * n
    less k n h = omega arith
