-- The nodes' words: the kinds and the labels of the grades, the factors, the inputs and the trees, written run by run.
use Rattle.std.specs.Prelude.{◌≡◌, Bool, true, false, cond, List, [], ◌++◌, length, get_or, set, replicate, leb}
use Rattle.std.proofs.Common.{sym, ap, ◌∙◌, append_assoc, length-append}
use Prim.Native.Nat.{ℕ, zero, suc, ◌+◌, ◌-◌, ◌≤◌, ◌<◌}
use native.Mathlib.Omega.{arith}
use Rattle.definition.specs.Lists.{range, cons_if}
use Rattle.list_laws.specs.Put.{put, put-none, put_next}
use Rattle.list_laws.specs.PutParts.{put_cons}

-- ---- the numbers below n, stored from index `at` on: those that are left, before turn i
abbrev pub counting : List ℕ → ℕ → ℕ → ℕ → List ℕ
counting w at n i = put w (at + i) (range i (n - i))

pub counting-start : (w : List ℕ) (at n : ℕ) → counting w at n 0 ≡ put w at (range 0 n)
counting-start w at n =
    let a : at + 0 ≡ at = omega arith in
    let b : n - 0 ≡ n = omega arith in
    rw (a, b)

pub counting-turn : (w : List ℕ) (at n i : ℕ) → i < n → at + n ≤ length w → counting (set w (at + i) i) at n (i + 1) ≡ counting w at n i
counting-turn w at n i h fits =
    let a : at + (i + 1) ≡ at + i + 1 = omega arith in
    let b : n - i ≡ suc (n - (i + 1)) = omega arith in
    let e : i + 1 ≡ suc i = omega arith in
    rw (a, b) (ap (λ (j : ℕ). put (set w (at + i) i) (at + i + 1) (range j (n - (i + 1)))) e ∙ put_cons w (at + i) i (range (suc i) (n - (i + 1))) (omega arith))

pub counting-done : (w : List ℕ) (at n i : ℕ) → i ≡ n → at + n ≤ length w → w ≡ counting w at n i
counting-done w at n i e fits = let a : n - i ≡ 0 = omega arith in rw a (put-none w (at + i) (omega arith))

-- ---- the markers that have a tree: of n from m on, those with 2 grades or more

unfoldable pub trees_from : List ℕ → ℕ → ℕ → List ℕ
trees_from counts zero m = []
trees_from counts (suc n) m = cons_if (leb 2 (get_or counts m 0)) m (trees_from counts n (m + 1))

pub trees_few : (counts : List ℕ) (n m : ℕ) → length (trees_from counts n m) ≤ n
unfolding trees_from
trees_few counts zero m = omega arith
trees_few counts (suc n) m = go (leb 2 (get_or counts m 0)) (trees_few counts n (m + 1))
  where
    go : (b : Bool) → length (trees_from counts n (m + 1)) ≤ n → length (cons_if b m (trees_from counts n (m + 1))) ≤ suc n
    go true r = omega arith
    go false r = omega arith

-- counted
pub trees-turn : (counts : List ℕ) (M m : ℕ) → m < M → length (trees_from counts (M - m) m) ≡ cond (leb 2 (get_or counts m 0)) 1 0 + length (trees_from counts (M - (m + 1)) (m + 1))
unfolding trees_from
trees-turn counts M m h =
    let a : M - m ≡ suc (M - (m + 1)) = omega arith in
    rw a (go (leb 2 (get_or counts m 0)))
  where
    go : (b : Bool) → length (cons_if b m (trees_from counts (M - (m + 1)) (m + 1))) ≡ cond b 1 0 + length (trees_from counts (M - (m + 1)) (m + 1))
    go true = omega arith
    go false = omega arith

pub trees-end : (counts : List ℕ) (M m : ℕ) → M ≤ m → length (trees_from counts (M - m) m) ≡ 0
unfolding trees_from
trees-end counts M m h = let a : M - m ≡ 0 = omega arith in rw a

-- and written
pub record Labelled (counts w₀ : List ℕ) (at M : ℕ) (w : List ℕ) (m t : ℕ) : Type 0 where
  pub count : t + length (trees_from counts (M - m) m) ≡ length (trees_from counts M 0)
  pub rest : put w (at + t) (trees_from counts (M - m) m) ≡ put w₀ at (trees_from counts M 0)

module _ (counts w₀ : List ℕ) (at M : ℕ) (w : List ℕ) (m t : ℕ) (fits : at + length (trees_from counts M 0) ≤ length w) (h : m < M) (p : Labelled counts w₀ at M w m t) where
  tail_is : (b : Bool) → leb 2 (get_or counts m 0) ≡ b → trees_from counts (M - m) m ≡ cons_if b m (trees_from counts (M - (m + 1)) (m + 1))
  unfolding trees_from
  tail_is b e = let a : M - m ≡ suc (M - (m + 1)) = omega arith in rw (a, e)

  pub label_room : leb 2 (get_or counts m 0) ≡ true → at + t < length w
  label_room e = omega (arith, p.count, ap length (tail_is true e))

  pub label-turn : leb 2 (get_or counts m 0) ≡ true → Labelled counts w₀ at M (set w (at + t) m) (m + 1) (t + 1)
  label-turn e =
      let a : at + t + 1 ≡ at + (t + 1) = omega arith in
      record {
        count = omega (arith, p.count, ap length (tail_is true e));
        rest =
            ap (λ (j : ℕ). put (set w (at + t) m) j (trees_from counts (M - (m + 1)) (m + 1))) (sym a)
            ∙ put_cons w (at + t) m (trees_from counts (M - (m + 1)) (m + 1)) (label_room e)
            ∙ ap (put w (at + t)) (sym (tail_is true e))
            ∙ p.rest;
      }

  pub label_pass : leb 2 (get_or counts m 0) ≡ false → Labelled counts w₀ at M w (m + 1) t
  label_pass e =
      record {
        count = omega (arith, p.count, ap length (tail_is false e));
        rest = ap (put w (at + t)) (sym (tail_is false e)) ∙ p.rest;
      }

pub label_done : (counts w₀ : List ℕ) (at M : ℕ) (w : List ℕ) (m t : ℕ) → at + length (trees_from counts M 0) ≤ length w → M ≤ m → Labelled counts w₀ at M w m t → w ≡ put w₀ at (trees_from counts M 0)
unfolding trees_from
label_done counts w₀ at M w m t fits h p =
    let a : M - m ≡ 0 = omega arith in
    put-none w (at + t) (omega (arith, p.count))
    ∙ ap (λ (n : ℕ). put w (at + t) (trees_from counts n m)) (sym a)
    ∙ p.rest

-- ---- four runs in a row

pub four_runs : (w : List ℕ) (at g m : ℕ) (a b c d : List ℕ) → length a ≡ g → length b ≡ m → length c ≡ m → at + (g + (m + (m + length d))) ≤ length w →
    put (put (put (put w at a) (at + g) b) (at + g + m) c) (at + g + m + m) d ≡ put w at (a ++ (b ++ (c ++ d)))
four_runs w at g m a b c d p q r fits =
    let la : length (a ++ b) ≡ g + m = omega (arith, length-append a b) in
    let lc : length ((a ++ b) ++ c) ≡ g + m + m = omega (arith, length-append (a ++ b) c) in
    let i2 : at + g + m ≡ at + length (a ++ b) = omega arith in
    let i3 : at + g + m + m ≡ at + length ((a ++ b) ++ c) = omega arith in
    ap (λ (i : ℕ). put (put (put (put w at a) (at + i) b) (at + g + m) c) (at + g + m + m) d) (sym p)
    ∙ ap (λ (l : List ℕ). put (put l (at + g + m) c) (at + g + m + m) d) (put_next 0 w at a b (omega arith))
    ∙ ap (λ (i : ℕ). put (put (put w at (a ++ b)) i c) (at + g + m + m) d) i2
    ∙ ap (λ (l : List ℕ). put l (at + g + m + m) d) (put_next 0 w at (a ++ b) c (omega arith))
    ∙ ap (λ (i : ℕ). put (put w at ((a ++ b) ++ c)) i d) i3
    ∙ put_next 0 w at ((a ++ b) ++ c) d (omega arith)
    ∙ ap (put w at) (append_assoc (a ++ b) c d ∙ append_assoc a b (c ++ d))

-- the kinds' codes, and the labels
abbrev pub kind_words : ℕ → ℕ → ℕ → List ℕ
kind_words g m t = replicate g 0 ++ (replicate m 1 ++ (replicate m 2 ++ replicate t 3))

abbrev pub label_words : ℕ → ℕ → List ℕ → List ℕ
label_words g m counts = range 0 g ++ (range 0 m ++ (range 0 m ++ trees_from counts m 0))

pub four_calls : (w w1 w2 w3 w4 : List ℕ) (at g m : ℕ) (a b c d : List ℕ) → length a ≡ g → length b ≡ m → length c ≡ m → at + (g + (m + (m + length d))) ≤ length w →
    w1 ≡ put w at a → w2 ≡ put w1 (at + g) b → w3 ≡ put w2 (at + g + m) c → w4 ≡ put w3 (at + g + m + m) d → w4 ≡ put w at (a ++ (b ++ (c ++ d)))
four_calls w w1 w2 w3 w4 at g m a b c d p q r fits e1 e2 e3 e4 =
    e4
    ∙ ap (λ (l : List ℕ). put l (at + g + m + m) d) (e3 ∙ ap (λ (l : List ℕ). put l (at + g + m) c) (e2 ∙ ap (λ (l : List ℕ). put l (at + g) b) e1))
    ∙ four_runs w at g m a b c d p q r fits
