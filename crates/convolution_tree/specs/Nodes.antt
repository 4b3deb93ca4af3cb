-- A layer in a row of floats, node after node, and what is read of it.
use Rattle.std.specs.Prelude.{◌≡◌, refl, List, [], ◌∷◌, ◌++◌, ℕ, zero, suc, ◌+◌, ◌-◌, ◌*◌, ◌≤◌, length, take, drop, Float}
use Rattle.std.proofs.Common.{sym, ap, ◌∙◌, append_assoc, suc-mul, zero-mul, not-suc-le-zero, le_of_suc-le-suc, arith, length-append, length-drop, length-take-le, take-add}
use Rattle.std.proofs.lemmas.List.{length-map}
use Rattle.list_laws.specs.Put.{put}
use Rattle.definition.specs.Floats.{◌⊘◌}
use Rattle.definition.specs.Vectors.{sum_of, normalize}
use Rattle.graph_laws.specs.Flat.{flat}

-- the first n nodes, or messages, of m floats
abbrev pub nodes : ℕ → ℕ → List Float → List (List Float)
nodes m zero l = []
nodes m (suc n) l = take m l ∷ nodes m n (drop m l)

pub double : (k : ℕ) → 2 * suc k ≡ suc (suc (2 * k))
double k = omega arith

pub two : (i m : ℕ) → 2 * (suc i * m) ≡ 2 * (i * m) + (m + m)
two i m = omega (arith, suc-mul i m)

-- ---- lengths

pub length-normalize : (l : List Float) → length (normalize l) ≡ length l
unfolding normalize
length-normalize l = length-map l (λ (x : Float). x ⊘ sum_of l)

abbrev pub AllLong : ℕ → List (List Float) → Type 0
AllLong m [] = Unit {0}
AllLong m (x ∷ xs) = (length x ≡ m) × AllLong m xs

pub length-nodes : (m n : ℕ) (l : List Float) → length (nodes m n l) ≡ n
length-nodes m zero l = refl
length-nodes m (suc n) l = ap suc (length-nodes m n (drop m l))

pub nodes-long : (m n : ℕ) (l : List Float) → n * m ≤ length l → AllLong m (nodes m n l)
nodes-long m zero l h = tt
nodes-long m (suc n) l h =
    let e : suc n * m ≡ n * m + m = suc-mul n m in
    let f : length (drop m l) ≡ length l - m = length-drop m l in
    (length-take-le m l (omega arith), nodes-long m n (drop m l) (omega arith))

pub flat-length : (m : ℕ) (xs : List (List Float)) → AllLong m xs → length (flat xs) ≡ length xs * m
unfolding flat
flat-length m [] h = sym (zero-mul m)
flat-length m (x ∷ xs) h =
    let e : suc (length xs) * m ≡ length xs * m + m = suc-mul (length xs) m in
    length-append x (flat xs) ∙ ap (λ (k : ℕ). k + length (flat xs)) h.0 ∙ ap (λ (k : ℕ). m + k) (flat-length m xs h.1) ∙ swap m (length xs * m) (suc (length xs) * m) e
  where
    swap : (a b c : ℕ) → c ≡ b + a → a + b ≡ c
    swap a b c e = omega arith

-- ---- a layer that was put is read back

pub take-front : (x r : List Float) → take (length x) (x ++ r) ≡ x
take-front [] r = refl
take-front (a ∷ x) r = ap {B = List Float} (λ s. a ∷ s) (take-front x r)

pub drop-front : (x r : List Float) → drop (length x) (x ++ r) ≡ r
drop-front [] r = refl
drop-front (a ∷ x) r = drop-front x r

pub nodes-flat : (m : ℕ) (xs : List (List Float)) (r : List Float) → AllLong m xs → nodes m (length xs) (flat xs ++ r) ≡ xs
unfolding flat
nodes-flat m [] r h = refl
nodes-flat m (x ∷ xs) r h =
    ap (λ (l : List Float). take m l ∷ nodes m (length xs) (drop m l)) (append_assoc x (flat xs) r)
    ∙ ap (λ (k : ℕ). take k (x ++ (flat xs ++ r)) ∷ nodes m (length xs) (drop k (x ++ (flat xs ++ r)))) (sym h.0)
    ∙ ap (λ (y : List Float). y ∷ nodes m (length xs) (drop (length x) (x ++ (flat xs ++ r)))) (take-front x (flat xs ++ r))
    ∙ ap (λ (l : List Float). x ∷ nodes m (length xs) l) (drop-front x (flat xs ++ r))
    ∙ ap {B = List (List Float)} (λ l. x ∷ l) (nodes-flat m xs r h.1)

-- that was put
pub drop-put : (w : List Float) (at : ℕ) (s : List Float) → at ≤ length w → drop at (put w at s) ≡ s ++ drop (at + length s) w
unfolding put
drop-put w at s h = past at w (s ++ drop (at + length s) w) h
  where
    past : (at : ℕ) (w r : List Float) → at ≤ length w → drop at (take at w ++ r) ≡ r
    past zero w r h = refl
    past (suc at) [] r h = absurd (not-suc-le-zero h)
    past (suc at) (x ∷ w) r h = past at w r (le_of_suc-le-suc h)

pub nodes-put : (m : ℕ) (w : List Float) (at : ℕ) (xs : List (List Float)) → at ≤ length w → AllLong m xs → nodes m (length xs) (drop at (put w at (flat xs))) ≡ xs
nodes-put m w at xs h long = ap (nodes m (length xs)) (drop-put w at (flat xs) h) ∙ nodes-flat m xs (drop (at + length (flat xs)) w) long

-- a layer, flat again, is what was read
pub flat-nodes : (m n : ℕ) (l : List Float) → flat (nodes m n l) ≡ take (n * m) l
unfolding flat
flat-nodes m zero l = ap (λ (k : ℕ). take k l) (sym (zero-mul m))
flat-nodes m (suc n) l =
    ap (λ (r : List Float). take m l ++ r) (flat-nodes m n (drop m l)) ∙ sym (take-add m (n * m) l) ∙ ap (λ (k : ℕ). take k l) (swap m (n * m) (suc n * m) (suc-mul n m))
  where
    swap : (a b c : ℕ) → c ≡ b + a → a + b ≡ c
    swap a b c e = omega arith
