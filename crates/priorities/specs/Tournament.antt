-- The queue in words: a tournament over w leaves. Leaf i is word w + i, an inner node j holds the larger of words 2 j and 2 j + 1, and word 0 is 0.
use Rattle.std.specs.Prelude.{◌≡◌, refl, List, [], ◌∷◌, ◌++◌, ℕ, zero, suc, ◌+◌, ◌-◌, ◌*◌, ◌≤◌, ◌<◌, max, length, get_or, set, drop, replicate}
use Rattle.std.proofs.Common.{sym, ap, ◌∙◌, subst, arith, length-set, length-drop, length-append, ext_get_or, get_or-set_same, get_or-set_other, get_or-drop, get_or-append-add}
use Rattle.std.proofs.Math.Logic.{by_cases}
use Rattle.std.proofs.Math.Nat.{max-le}
use Rattle.std.proofs.Math.Decide.{dec_lt, ℕ_discrete}
use Rattle.std.proofs.lemmas.List.{length-replicate, get_or-replicate, set-get_or}
use Rattle.std.proofs.Math.ListN.{get_or-append, get_or-eq_default}
use Rattle.priorities.specs.Leaves.{Full}
use Rattle.priorities.specs.Keys.{last_key, Amounts}

-- ---- the model

-- the larger of the children of node j
abbrev pub larger_child : List ℕ → ℕ → ℕ
larger_child t j = max (get_or t (2 * j) 0) (get_or t (2 * j + 1) 0)

-- the nodes from j down to 1, each set to the larger of its children
unfoldable pub fill_from : ℕ → List ℕ → List ℕ
fill_from zero t = t
fill_from (suc j) t = fill_from j (set t (suc j) (larger_child t (suc j)))

-- keys with 0 after them, up to w leaves
unfoldable pub padded : ℕ → List ℕ → List ℕ
padded w keys = keys ++ replicate (w - length keys) 0

unfoldable pub tournament : ℕ → List ℕ → List ℕ
tournament w keys = fill_from (w - 1) (replicate w 0 ++ padded w keys)

-- the words hold the queue of these keys
pub record Holds (w : ℕ) (keys words : List ℕ) : Type 0 where
  pub wide : 1 ≤ w
  pub fits : length keys ≤ w
  pub is : words ≡ tournament w keys

-- they hold a queue: w is a power of two, and each key is an amount's or 0
pub record Queue (w : ℕ) (words : List ℕ) : Type 0 where
  pub full : Full w
  pub keys : List ℕ
  pub holds : Holds w keys words
  pub amounts : Amounts keys

-- ---- the leaves
pub length-padded : (w : ℕ) (keys : List ℕ) → length keys ≤ w → length (padded w keys) ≡ w
unfolding padded
length-padded w keys h = simp (length-append, length-replicate) (omega arith)

abbrev zeros : ℕ → List ℕ
zeros n = replicate n 0

get_d_zeros : (n i : ℕ) → get_or (zeros n) i 0 ≡ 0
get_d_zeros n i =
    by_cases (dec_lt i n) (λ (h : i < n). get_or-replicate n i 0 0 h)
    (λ h. get_or-eq_default (replicate n 0) 0 (rw length-replicate (let g : n ≤ i = omega arith in g)))

pub padded-at : (w : ℕ) (keys : List ℕ) (i : ℕ) → get_or (padded w keys) i 0 ≡ get_or keys i 0
unfolding padded
padded-at w keys i =
    by_cases (dec_lt i (length keys)) (λ (h : i < length keys). get_or-append keys (replicate (w - length keys) 0) 0 i h)
    (λ h.
    let l : length keys ≤ i = omega arith in
    let e : length keys + (i - length keys) ≡ i = omega arith in
    ap (λ (n : ℕ). get_or (keys ++ replicate (w - length keys) 0) n 0) (sym e)
    ∙ get_or-append-add keys (replicate (w - length keys) 0) (i - length keys) 0
    ∙ get_d_zeros (w - length keys) (i - length keys)
    ∙ sym (get_or-eq_default keys 0 l))

-- what is filled: its length, its leaves, its first word
pub length_fill : (j : ℕ) (t : List ℕ) → length (fill_from j t) ≡ length t
unfolding fill_from
length_fill zero t = refl
length_fill (suc j) t = length_fill j (set t (suc j) (larger_child t (suc j))) ∙ length-set t (suc j) (larger_child t (suc j))

pub fill_above : (j : ℕ) (t : List ℕ) (i : ℕ) → j < i → get_or (fill_from j t) i 0 ≡ get_or t i 0
unfolding fill_from
fill_above zero t i h = refl
fill_above (suc j) t i h =
    fill_above j (set t (suc j) (larger_child t (suc j))) i (omega arith)
    ∙ get_or-set_other t (suc j) i (larger_child t (suc j)) 0 (λ e. omega arith)

pub fill_zero : (j : ℕ) (t : List ℕ) → get_or (fill_from j t) 0 0 ≡ get_or t 0 0
unfolding fill_from
fill_zero zero t = refl
fill_zero (suc j) t =
    fill_zero j (set t (suc j) (larger_child t (suc j))) ∙ get_or-set_other t (suc j) 0 (larger_child t (suc j)) 0 (λ e. omega arith)

-- node k holds the larger of its children
abbrev pub Node : List ℕ → ℕ → Type 0
Node t k = get_or t k 0 ≡ larger_child t k

larger_same : (s t : List ℕ) (k : ℕ) → get_or s (2 * k) 0 ≡ get_or t (2 * k) 0 → get_or s (2 * k + 1) 0 ≡ get_or t (2 * k + 1) 0 → larger_child s k ≡ larger_child t k
larger_same s t k e f = cc

fill_node : (j : ℕ) (t : List ℕ) → j < length t → (k : ℕ) → 1 ≤ k → k ≤ j → Node (fill_from j t) k
unfolding fill_from
fill_node zero t h k a b = absurd (let z : ⊥ = omega arith in z)
fill_node (suc j) t h k a b =
    let v = larger_child t (suc j) in
    let s = set t (suc j) v in
    by_cases (ℕ_discrete k (suc j))
    (λ (e : k ≡ suc j).
    subst (Node (fill_from j s)) (sym e)
    (fill_above j s (suc j) (omega arith)
    ∙ get_or-set_same t (suc j) v 0 h
    ∙ larger_same t (fill_from j s) (suc j)
    (sym (fill_above j s (2 * suc j) (omega arith) ∙ get_or-set_other t (suc j) (2 * suc j) v 0 (λ e. omega arith)))
    (sym (fill_above j s (2 * suc j + 1) (omega arith) ∙ get_or-set_other t (suc j) (2 * suc j + 1) v 0 (λ e. omega arith)))))
    (λ e. fill_node j s (rw length-set (omega arith)) k a (let g : k ≤ j = omega arith in g))

-- filling reads word 0 and the words past j
fill_same :
    (j : ℕ) (s t : List ℕ) → length s ≡ length t → get_or s 0 0 ≡ get_or t 0 0 → ((i : ℕ) → j < i → get_or s i 0 ≡ get_or t i 0) →
    fill_from j s ≡ fill_from j t
unfolding fill_from
fill_same zero s t l z h = ext_get_or 0 s t l (λ i q. by_cases (dec_lt 0 i) (λ (p : 0 < i). h i p) (λ p. let e : i ≡ 0 = omega arith in rw e z))
fill_same (suc j) s t l z h =
    let v = larger_child s (suc j) in
    let w = larger_child t (suc j) in
    let e : v ≡ w = larger_same s t (suc j) (h (2 * suc j) (omega arith)) (h (2 * suc j + 1) (omega arith)) in
    fill_same j (set s (suc j) v) (set t (suc j) w) (length-set s (suc j) v ∙ l ∙ sym (length-set t (suc j) w))
    (get_or-set_other s (suc j) 0 v 0 (λ q. omega arith) ∙ z ∙ sym (get_or-set_other t (suc j) 0 w 0 (λ q. omega arith)))
    (λ i p.
    by_cases (ℕ_discrete i (suc j))
    (λ (q : i ≡ suc j).
    by_cases (dec_lt (suc j) (length s))
    (λ (b : suc j < length s). rw q (get_or-set_same s (suc j) v 0 b ∙ e ∙ sym (get_or-set_same t (suc j) w 0 (omega arith))))
    (λ b.
    let bs : length s ≤ suc j = omega arith in
    rw q
    (get_or-eq_default (set s (suc j) v) 0 (rw length-set bs)
    ∙ sym (get_or-eq_default (set t (suc j) w) 0 (rw length-set (omega arith))))))
    (λ q. get_or-set_other s (suc j) i v 0 q ∙ h i (omega (arith, q)) ∙ sym (get_or-set_other t (suc j) i w 0 q)))

-- a list whose nodes are right already is left as it is
fill_kept : (j : ℕ) (t : List ℕ) → ((k : ℕ) → 1 ≤ k → k ≤ j → Node t k) → fill_from j t ≡ t
unfolding fill_from
fill_kept zero t h = refl
fill_kept (suc j) t h =
    let e : set t (suc j) (larger_child t (suc j)) ≡ t = ap (λ (v : ℕ). set t (suc j) v) (sym (h (suc j) (omega arith) (omega arith))) ∙ set-get_or t (suc j) 0 in
    ap (fill_from j) e ∙ fill_kept j t (λ k a b. h k a (omega arith))

-- ---- the words of a queue, one by one
pub record Tree (t : List ℕ) (w : ℕ) : Type 0 where
  pub wide : 1 ≤ w
  pub size : length t ≡ 2 * w
  pub unused : get_or t 0 0 ≡ 0
  pub nodes : (k : ℕ) → 1 ≤ k → k < w → Node t k

-- before it is filled
start : ℕ → List ℕ → List ℕ
start w keys = replicate w 0 ++ padded w keys

start-length : (w : ℕ) (keys : List ℕ) → length keys ≤ w → length (start w keys) ≡ 2 * w
unfolding start
start-length w keys h = simp (length-append, length-replicate, length-padded w keys h) (omega arith)

start_leaf : (w : ℕ) (keys : List ℕ) (i : ℕ) → get_or (start w keys) (w + i) 0 ≡ get_or keys i 0
unfolding start
start_leaf w keys i =
    ap (λ (n : ℕ). get_or (replicate w 0 ++ padded w keys) (n + i) 0) (sym (length-replicate w 0))
    ∙ get_or-append-add (replicate w 0) (padded w keys) i 0
    ∙ padded-at w keys i

start-zero : (w : ℕ) (keys : List ℕ) → 1 ≤ w → get_or (start w keys) 0 0 ≡ 0
unfolding start
start-zero w keys h = get_or-append (replicate w 0) (padded w keys) 0 0 (rw length-replicate h) ∙ get_d_zeros w 0

is-start : (w : ℕ) (keys : List ℕ) → tournament w keys ≡ fill_from (w - 1) (start w keys)
unfolding tournament start
is-start w keys = refl

module _ (w : ℕ) (keys : List ℕ) (wide : 1 ≤ w) (fits : length keys ≤ w) where
  pub tournament_leaf : (i : ℕ) → get_or (tournament w keys) (w + i) 0 ≡ get_or keys i 0
  tournament_leaf i =
      ap (λ (t : List ℕ). get_or t (w + i) 0) (is-start w keys) ∙ fill_above (w - 1) (start w keys) (w + i) (omega arith) ∙ start_leaf w keys i

  pub tournament-tree : Tree (tournament w keys) w
  tournament-tree =
      subst (λ (t : List ℕ). Tree t w) (sym (is-start w keys))
      (record {
        wide = wide;
        size = length_fill (w - 1) (start w keys) ∙ start-length w keys fits;
        unused = fill_zero (w - 1) (start w keys) ∙ start-zero w keys wide;
        nodes = λ k a b. fill_node (w - 1) (start w keys) (omega (arith, start-length w keys fits)) k a (omega arith);
      })

  -- what is filled from these leaves, whatever stood at the inner nodes
  pub filled_is : (t : List ℕ) → length t ≡ 2 * w → get_or t 0 0 ≡ 0 → ((i : ℕ) → get_or t (w + i) 0 ≡ get_or keys i 0) → fill_from (w - 1) t ≡ tournament w keys
  filled_is t l z h =
      fill_same (w - 1) t (start w keys) (l ∙ sym (start-length w keys fits)) (z ∙ sym (start-zero w keys wide))
      (λ i p.
      let e : w + (i - w) ≡ i = omega arith in
      subst (λ (n : ℕ). get_or t n 0 ≡ get_or (start w keys) n 0) e (h (i - w) ∙ sym (start_leaf w keys (i - w))))
      ∙ sym (is-start w keys)

  -- there is one such list of words
  pub tree_is : (t : List ℕ) → Tree t w → ((i : ℕ) → get_or t (w + i) 0 ≡ get_or keys i 0) → t ≡ tournament w keys
  tree_is t T h = sym (fill_kept (w - 1) t (λ k a b. T.nodes k a (omega arith))) ∙ filled_is t T.size T.unused h

-- keys that differ only past their ends are one queue
pub tournament-same :
    (w : ℕ) (k l : List ℕ) → 1 ≤ w → length k ≤ w → length l ≤ w → ((i : ℕ) → get_or k i 0 ≡ get_or l i 0) → tournament w k ≡ tournament w l
tournament-same w k l o a b h = tree_is w l o b (tournament w k) (tournament-tree w k o a) (λ i. tournament_leaf w k o a i ∙ h i)

-- such words hold the queue of their own leaves
pub tree_holds : (w : ℕ) (t : List ℕ) → Tree t w → Holds w (drop w t) t
tree_holds w t T =
    let f : length (drop w t) ≤ w = omega (arith, length-drop w t, T.size) in
    record { wide = T.wide; fits = f; is = tree_is w (drop w t) T.wide f t T (λ i. sym (get_or-drop w t i 0)) }

module _ (w : ℕ) (keys words : List ℕ) (H : Holds w keys words) where
  pub holds_tree : Tree words w
  holds_tree = subst (λ (t : List ℕ). Tree t w) (sym H.is) (tournament-tree w keys H.wide H.fits)

  pub holds_leaf : (i : ℕ) → get_or words (w + i) 0 ≡ get_or keys i 0
  holds_leaf i = ap (λ (t : List ℕ). get_or t (w + i) 0) H.is ∙ tournament_leaf w keys H.wide H.fits i

-- ---- filling as a loop: one node more, and the end

pub fill_next : (j : ℕ) (t : List ℕ) (v : ℕ) → 1 ≤ j → v ≡ larger_child t j → fill_from (j - 1) (set t j v) ≡ fill_from j t
unfolding fill_from
fill_next zero t v h e = absurd (let z : ⊥ = omega arith in z)
fill_next (suc j) t v h e =
    let q : suc j - 1 ≡ j = omega arith in
    ap (λ (n : ℕ). fill_from n (set t (suc j) v)) q ∙ ap (λ (x : ℕ). fill_from j (set t (suc j) x)) e

pub filled :
    (w : ℕ) (t s : List ℕ) (j : ℕ) → 1 ≤ w → length t ≡ 2 * w → j ≤ 1 → fill_from (j - 1) s ≡ fill_from (w - 1) (set t 0 0) → s ≡ tournament w (drop w t)
unfolding fill_from
filled w t s j o l h e =
    let q : 0 ≡ j - 1 = omega arith in
    ap (λ (n : ℕ). fill_from n s) q
    ∙ e
    ∙ filled_is w (drop w t) o (omega (arith, length-drop w t)) (set t 0 0) (length-set t 0 0 ∙ l) (get_or-set_same t 0 0 0 (omega arith))
    (λ i. get_or-set_other t 0 (w + i) 0 0 (λ r. omega arith) ∙ sym (get_or-drop w t i 0))

-- ---- the words are keys, so what bounds the keys bounds them
pub amounts_set : (t : List ℕ) (i v : ℕ) → Amounts t → v ≤ last_key → Amounts (set t i v)
amounts_set t i v h b j =
    by_cases (ℕ_discrete j i)
    (λ (e : j ≡ i).
    by_cases (dec_lt i (length t))
    (λ (l : i < length t). rw (e, get_or-set_same t i v 0 l) b)
    (λ l.
    let z : get_or (set t i v) j 0 ≡ 0 = get_or-eq_default (set t i v) 0 (rw length-set (omega arith)) in
    omega arith))
    (λ e. rw (get_or-set_other t i j v 0 e) (h j))

amounts_fill : (j : ℕ) (t : List ℕ) → Amounts t → Amounts (fill_from j t)
unfolding fill_from
amounts_fill zero t h = h
amounts_fill (suc j) t h = amounts_fill j (set t (suc j) (larger_child t (suc j))) (amounts_set t (suc j) (larger_child t (suc j)) h (max-le (h (2 * suc j)) (h (2 * suc j + 1))))

amounts_start : (w : ℕ) (keys : List ℕ) → Amounts keys → Amounts (start w keys)
unfolding start
amounts_start w keys h i =
    by_cases (dec_lt i w)
    (λ (l : i < w).
    let e : get_or (replicate w 0 ++ padded w keys) i 0 ≡ 0 = get_or-append (replicate w 0) (padded w keys) 0 i (rw length-replicate l) ∙ get_d_zeros w i in
    omega arith)
    (λ l.
    let e : w + (i - w) ≡ i = omega arith in
    subst (λ (n : ℕ). get_or (replicate w 0 ++ padded w keys) n 0 ≤ last_key) e
    (subst (λ (n : ℕ). n ≤ last_key) (sym (start_leaf w keys (i - w))) (h (i - w))))

pub holds_amounts : (w : ℕ) (keys words : List ℕ) → Holds w keys words → Amounts keys → Amounts words
holds_amounts w keys words H h = subst Amounts (sym (H.is ∙ is-start w keys)) (amounts_fill (w - 1) (start w keys) (amounts_start w keys h))

-- ---- for callers

-- a queue that was filled from leaves that are these keys
pub holds_filled :
    (w : ℕ) (keys words filled : List ℕ) → 1 ≤ w → length keys ≤ w → length words ≡ 2 * w → ((i : ℕ) → get_or words (w + i) 0 ≡ get_or keys i 0) →
    filled ≡ tournament w (drop w words) → Holds w keys filled
holds_filled w keys words filled o f l h e =
    record {
      wide = o;
      fits = f;
      is = e ∙ tournament-same w (drop w words) keys o (omega (arith, length-drop w words)) f (λ i. get_or-drop w words i 0 ∙ h i);
    }

-- one whose direction d was given a key
pub holds_set : (w : ℕ) (keys words changed : List ℕ) (d key : ℕ) → Holds w keys words → changed ≡ tournament w (set keys d key) → Holds w (set keys d key) changed
holds_set w keys words changed d key H e = record { wide = H.wide; fits = rw length-set H.fits; is = e }

-- three keys over four leaves
example : tournament 4 (5 ∷ 9 ∷ 7 ∷ []) ≡ 0 ∷ 9 ∷ 9 ∷ 7 ∷ 5 ∷ 9 ∷ 7 ∷ 0 ∷ []
unfolding tournament fill_from padded
example = refl
