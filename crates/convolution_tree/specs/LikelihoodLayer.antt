-- The likelihoods of a layer, put pair by pair in the place of its distributions: the steps of the loop that makes them.
use Rattle.std.specs.Prelude.{◌≡◌, refl, List, [], ◌∷◌, ◌++◌, ℕ, zero, suc, ◌+◌, ◌-◌, ◌*◌, ◌≤◌, ◌<◌, length, take, drop, replicate, Float}
use Rattle.std.proofs.Common.{sym, ap, ◌∙◌, inr, append_assoc, append-nil, add_assoc, suc-mul, zero-mul, mul-le-mul_right, add-one, arith, length-append, length-drop, drop-drop, length-take-le}
use Rattle.std.proofs.lemmas.List.{length-replicate}
use Rattle.std.specs.Float.{nan}
use Rattle.list_laws.specs.Part.{region}
use Rattle.list_laws.specs.Put.{put, put_next, put-none, region-out}
use Rattle.definition.specs.Floats.{zeroᶠ}
use Rattle.definition.specs.ConvolutionTree.{message_up, likelihoods_below}
use Rattle.graph_laws.specs.Flat.{flat}
use Rattle.convolution_tree.specs.Lent.{lent-part, length_second, both_done}
use Rattle.convolution_tree.specs.Nodes.{nodes, double, two, AllLong, length-normalize}
use Rattle.convolution_tree.specs.Correlation.{correlation, length-correlation, message_up-is}

pub length_message : (n : ℕ) (b l : List Float) → length (message_up n b l) ≡ n
length_message n b l = ap length (sym (message_up-is n b l)) ∙ length-normalize (correlation n b l) ∙ length-correlation n b l

-- ---- two nodes, whose likelihoods are made in the halves of t

module _ (w t u v : List Float) (l n at m : ℕ) (z : t ≡ replicate (m + m) zeroᶠ) (e : u ≡ message_up (length (take m t)) (region w (at + m) m) (region w l n)) where
  abbrev half : List Float
  half = u ++ drop m t

  first-is : u ≡ message_up m (region w (at + m) m) (region w l n)
  first-is = e ∙ ap (λ (k : ℕ). message_up k (region w (at + m) m) (region w l n)) (length-take-le m t (omega (arith, ap length z, length-replicate (m + m) zeroᶠ)))

  pub first-long : length u ≡ m
  first-long = ap length first-is ∙ length_message m (region w (at + m) m) (region w l n)

  module _ (f : v ≡ message_up (length (take (length half - m) (drop m half))) (region w at m) (region w l n)) where
    second_is : v ≡ message_up m (region w at m) (region w l n)
    second_is = f ∙ ap (λ (k : ℕ). message_up k (region w at m) (region w l n)) (length_second t u v m z first-long)

    pub both_are : take m half ++ (v ++ drop (length half - m) (drop m half)) ≡ message_up m (region w (at + m) m) (region w l n) ++ message_up m (region w at m) (region w l n)
    both_are =
        both_done t u v m z first-long
        ∙ ap (λ (x : List Float). x ++ v) first-is
        ∙ ap (λ (x : List Float). message_up m (region w (at + m) m) (region w l n) ++ x) second_is

    pub both_long : length (take m half ++ (v ++ drop (length half - m) (drop m half))) ≡ m + m
    both_long =
        ap length both_are
        ∙ length-append (message_up m (region w (at + m) m) (region w l n)) (message_up m (region w at m) (region w l n))
        ∙ ap (λ (k : ℕ). k + length (message_up m (region w at m) (region w l n))) (length_message m (region w (at + m) m) (region w l n))
        ∙ ap (λ (k : ℕ). m + k) (length_message m (region w at m) (region w l n))

    pub both-put :
        (x : List Float) → x ≡ take m half ++ (v ++ drop (length half - m) (drop m half)) →
        take at w ++ (x ++ drop (at + m + m - at) (drop at w)) ≡ put w at (message_up m (region w (at + m) m) (region w l n) ++ message_up m (region w at m) (region w l n))
    both-put x g =
        ap (λ (k : ℕ). take at w ++ (x ++ drop (k - at) (drop at w))) (add_assoc at m m)
        ∙ lent-part w x (take m half ++ (v ++ drop (length half - m) (drop m half))) at (m + m) both_long g
        ∙ ap (put w at) both_are

-- ---- a layer

abbrev pair_from : ℕ → ℕ → List Float → List Float → List Float
pair_from m nl l j = message_up m (take m (drop m j)) (take nl l) ++ message_up m (take m j) (take nl l)

abbrev downs : ℕ → ℕ → ℕ → List Float → List Float → List Float
downs m nl zero l j = []
downs m nl (suc i) l j = pair_from m nl l j ++ downs m nl i (drop nl l) (drop m (drop m j))

below-downs : (m nl i : ℕ) (l j : List Float) → 2 * (i * m) ≤ length j → flat (likelihoods_below (nodes nl i l) (nodes m (2 * i) j)) ≡ downs m nl i l j
unfolding likelihoods_below flat
below-downs m nl zero l j h = refl
below-downs m nl (suc i) l j h =
    let e : length (drop m j) ≡ length j - m = length-drop m j in
    let f : length (drop m (drop m j)) ≡ length (drop m j) - m = length-drop m (drop m j) in
    let g : 2 * (suc i * m) ≡ 2 * (i * m) + (m + m) = two i m in
    let r = likelihoods_below (nodes nl i (drop nl l)) (nodes m (2 * i) (drop m (drop m j))) in
    ap (λ (k : ℕ). flat (likelihoods_below (nodes nl (suc i) l) (nodes m k j))) (double i)
    ∙ ap (λ (k : ℕ). message_up k (take m (drop m j)) (take nl l) ++ (message_up (length (take m (drop m j))) (take m j) (take nl l) ++ flat r)) (length-take-le m j (omega arith))
    ∙ ap (λ (k : ℕ). message_up m (take m (drop m j)) (take nl l) ++ (message_up k (take m j) (take nl l) ++ flat r)) (length-take-le m (drop m j) (omega arith))
    ∙ sym (append_assoc (message_up m (take m (drop m j)) (take nl l)) (message_up m (take m j) (take nl l)) (flat r))
    ∙ ap (λ (x : List Float). pair_from m nl l j ++ x) (below-downs m nl i (drop nl l) (drop m (drop m j)) (omega arith))

turned : (a b c : ℕ) → c ≡ a + b → b + a ≡ c
turned a b c e = omega arith

downs-more : (m nl i : ℕ) (l j : List Float) → downs m nl (suc i) l j ≡ downs m nl i l j ++ pair_from m nl (drop (i * nl) l) (drop (2 * (i * m)) j)
downs-more m nl zero l j =
    append-nil (pair_from m nl l j)
    ∙ ap (λ (k : ℕ). pair_from m nl (drop k l) j) (sym (zero-mul nl))
    ∙ ap (λ (k : ℕ). pair_from m nl (drop (0 * nl) l) (drop (2 * k) j)) (sym (zero-mul m))
downs-more m nl (suc i) l j =
    let l' = drop nl l in
    let j' = drop m (drop m j) in
    ap (λ (r : List Float). pair_from m nl l j ++ r) (downs-more m nl i l' j')
    ∙ sym (append_assoc (pair_from m nl l j) (downs m nl i l' j') (pair_from m nl (drop (i * nl) l') (drop (2 * (i * m)) j')))
    ∙ ap (λ (r : List Float). (pair_from m nl l j ++ downs m nl i l' j') ++ pair_from m nl r (drop (2 * (i * m)) j')) (drop-drop (i * nl) nl l ∙ ap (λ (k : ℕ). drop k l) (turned (i * nl) nl (suc i * nl) (suc-mul i nl)))
    ∙ ap (λ (r : List Float). (pair_from m nl l j ++ downs m nl i l' j') ++ pair_from m nl (drop (suc i * nl) l) r) (ap (drop (2 * (i * m))) (drop-drop m m j) ∙ drop-drop (2 * (i * m)) (m + m) j ∙ ap (λ (k : ℕ). drop k j) (turned (2 * (i * m)) (m + m) (2 * (suc i * m)) (two i m)))

length_pair : (m nl : ℕ) (l j : List Float) → length (pair_from m nl l j) ≡ m + m
length_pair m nl l j =
    length-append (message_up m (take m (drop m j)) (take nl l)) (message_up m (take m j) (take nl l))
    ∙ ap (λ (k : ℕ). k + length (message_up m (take m j) (take nl l))) (length_message m (take m (drop m j)) (take nl l))
    ∙ ap (λ (k : ℕ). m + k) (length_message m (take m j) (take nl l))

length-downs : (m nl i : ℕ) (l j : List Float) → length (downs m nl i l j) ≡ 2 * (i * m)
length-downs m nl zero l j = ap (λ (k : ℕ). 2 * k) (sym (zero-mul m))
length-downs m nl (suc i) l j =
    length-append (pair_from m nl l j) (downs m nl i (drop nl l) (drop m (drop m j)))
    ∙ ap (λ (k : ℕ). k + length (downs m nl i (drop nl l) (drop m (drop m j)))) (length_pair m nl l j)
    ∙ ap (λ (k : ℕ). m + m + k) (length-downs m nl i (drop nl l) (drop m (drop m j)))
    ∙ turned (2 * (i * m)) (m + m) (2 * (suc i * m)) (two i m)

module _ (w : List Float) (likes nl at count m : ℕ) (ha : at + 2 * (count * m) ≤ likes) (fits : likes + count * nl ≤ length w) where
  abbrev pub made_down : ℕ → List Float
  made_down i = flat (likelihoods_below (nodes nl i (drop likes w)) (nodes m (2 * i) (drop at w)))

  as-downs : (i : ℕ) → i ≤ count → made_down i ≡ downs m nl i (drop likes w) (drop at w)
  as-downs i h =
      let b : i * m ≤ count * m = mul-le-mul_right m h in
      let e : length (drop at w) ≡ length w - at = length-drop at w in
      below-downs m nl i (drop likes w) (drop at w) (omega arith)

  length-made_down : (i : ℕ) → i ≤ count → length (made_down i) ≡ 2 * (i * m)
  length-made_down i h = ap length (as-downs i h) ∙ length-downs m nl i (drop likes w) (drop at w)

  pub down-start : w ≡ put w at (made_down 0)
  unfolding likelihoods_below flat
  down-start = put-none w at (omega arith)

  -- the next places, in range
  pub down_fits : (i : ℕ) → i < count → (at + 2 * (i * m) + m + m ≤ likes) × (likes + i * nl + nl ≤ length w)
  down_fits i h =
      let b : suc i * m ≤ count * m = mul-le-mul_right m h in
      let d : suc i * nl ≤ count * nl = mul-le-mul_right nl h in
      let e : suc i * m ≡ i * m + m = suc-mul i m in
      let f : suc i * nl ≡ i * nl + nl = suc-mul i nl in
      (omega arith, omega arith)

  pub down_turn :
      (v u : List Float) (i : ℕ) → i < count → v ≡ put w at (made_down i) →
      u ≡ put v (at + 2 * (i * m)) (message_up m (region v (at + 2 * (i * m) + m) m) (region v (likes + i * nl) nl) ++ message_up m (region v (at + 2 * (i * m)) m) (region v (likes + i * nl) nl)) →
      u ≡ put w at (made_down (i + 1))
  down_turn v u i h e r =
      let s = made_down i in
      let k : length s ≡ 2 * (i * m) = length-made_down i (omega arith) in
      let q = down_fits i h in
      let x = at + 2 * (i * m) in
      let y = likes + i * nl in
      let t = pair_from m nl (drop (i * nl) (drop likes w)) (drop (2 * (i * m)) (drop at w)) in
      let c : length t ≡ m + m = length_pair m nl (drop (i * nl) (drop likes w)) (drop (2 * (i * m)) (drop at w)) in
      let rb : region (put w at s) (x + m) m ≡ take m (drop m (drop (2 * (i * m)) (drop at w))) =
      region-out nan w at s (x + m) m (omega arith) (omega arith) (inr (omega arith)) ∙ ap (take m) (sym (drop-drop m x w) ∙ ap (drop m) (sym (drop-drop (2 * (i * m)) at w))) in
      let ra : region (put w at s) x m ≡ take m (drop (2 * (i * m)) (drop at w)) =
      region-out nan w at s x m (omega arith) (omega arith) (inr (omega arith)) ∙ ap (take m) (sym (drop-drop (2 * (i * m)) at w)) in
      let rl : region (put w at s) y nl ≡ take nl (drop (i * nl) (drop likes w)) =
      region-out nan w at s y nl (omega arith) (omega arith) (inr (omega arith)) ∙ ap (take nl) (sym (drop-drop (i * nl) likes w)) in
      r
      ∙ ap (λ (z : List Float). put z x (message_up m (region z (x + m) m) (region z y nl) ++ message_up m (region z x m) (region z y nl))) e
      ∙ ap (λ (z : List Float). put (put w at s) x (message_up m z (region (put w at s) y nl) ++ message_up m (region (put w at s) x m) (region (put w at s) y nl))) rb
      ∙ ap (λ (z : List Float). put (put w at s) x (message_up m (take m (drop m (drop (2 * (i * m)) (drop at w)))) (region (put w at s) y nl) ++ message_up m z (region (put w at s) y nl))) ra
      ∙ ap (λ (z : List Float). put (put w at s) x (message_up m (take m (drop m (drop (2 * (i * m)) (drop at w)))) z ++ message_up m (take m (drop (2 * (i * m)) (drop at w))) z)) rl
      ∙ ap (λ (z : ℕ). put (put w at s) (at + z) t) (sym k)
      ∙ put_next nan w at s t (omega arith)
      ∙ ap (λ (z : List Float). put w at (z ++ t)) (as-downs i (omega arith))
      ∙ ap (put w at) (sym (downs-more m nl i (drop likes w) (drop at w)))
      ∙ ap (put w at) (sym (as-downs (suc i) h))
      ∙ ap (λ (z : ℕ). put w at (made_down z)) (sym (add-one i))

-- ---- its shape

pub below-long : (m : ℕ) (ls js : List (List Float)) → AllLong m js → AllLong m (likelihoods_below ls js)
unfolding likelihoods_below
below-long m [] js h = tt
below-long m (l ∷ ls) [] h = tt
below-long m (l ∷ ls) (a ∷ []) h = tt
below-long m (l ∷ ls) (a ∷ b ∷ js) h = (length_message (length a) b l ∙ h.0, (length_message (length b) a l ∙ h.1.0, below-long m ls js h.1.1))

pub below_length : (n : ℕ) (ls js : List (List Float)) → length ls ≡ n → length js ≡ 2 * n → length (likelihoods_below ls js) ≡ 2 * n
unfolding likelihoods_below
below_length zero [] js e h = refl
below_length (suc n) [] js e h = absurd (never n e)
  where
    never : (n : ℕ) → 0 ≡ suc n → ⊥
    never n h = omega arith
below_length zero (l ∷ ls) js e h = absurd (never (length ls) e)
  where
    never : (n : ℕ) → suc n ≡ 0 → ⊥
    never n h = omega arith
below_length (suc n) (l ∷ ls) [] e h = absurd (never n h)
  where
    never : (n : ℕ) → 0 ≡ 2 * suc n → ⊥
    never n h = omega arith
below_length (suc n) (l ∷ ls) (a ∷ []) e h = absurd (never n h)
  where
    never : (n : ℕ) → 1 ≡ 2 * suc n → ⊥
    never n h = omega arith
below_length (suc n) (l ∷ ls) (a ∷ b ∷ js) e h =
    ap (λ (k : ℕ). suc (suc k)) (below_length n ls js (less1 (length ls) n e) (less (length js) n h)) ∙ more n
  where
    less1 : (k n : ℕ) → suc k ≡ suc n → k ≡ n
    less1 k n h = omega arith

    less : (k n : ℕ) → suc (suc k) ≡ 2 * suc n → k ≡ 2 * n
    less k n h = omega arith

    more : (n : ℕ) → suc (suc (2 * n)) ≡ 2 * suc n
    more n = omega arith
