-- How long things are: every message has as many entries as its direction says.
use Rattle.std.specs.Prelude.{ℕ, zero, suc, ◌+◌, ◌-◌, ◌*◌, ◌^◌, ◌≤◌, ◌≡◌, refl, Bool, true, false, List, [], ◌∷◌, ◌++◌, map, Float, leb, length, take, replicate}
use Rattle.std.proofs.Common.{arith, pow-suc, mul_assoc, sym, ap, ◌∙◌, subst, length-append, length-take}
use Rattle.std.proofs.lemmas.List.{length-map, length-replicate}
use Rattle.graph_laws.specs.Lists.{length_count}
use Rattle.graph_laws.specs.Convolution.{length-convolve, log_length-least}
use Rattle.definition.specs.Floats.{zeroᶠ, oneᶠ}
use Rattle.definition.specs.Vectors.{Message, binary, normalize, avoid_underflow_all, log_normalize}
use Rattle.definition.specs.Settings.{Settings}
use Rattle.definition.specs.NoisyOr.{cpd_table, cpd_rows}
use Rattle.definition.specs.ConvolutionTree.{count_layer, message_up, likelihoods_below, tree_layers, log_length, first_layer}
use Rattle.definition.specs.Messages.{out_message_log, out_message_variable, out_message_factor}

pub length-normalize : (l : List Float) → length (normalize l) ≡ length l
unfolding normalize
length-normalize l = length-map l _

pub length-avoid_underflow_all : (l : List Float) → length (avoid_underflow_all l) ≡ length l
unfolding avoid_underflow_all
length-avoid_underflow_all l = length-map l _

length-cpd_table : (s : Settings) (d : ℕ) → length (cpd_table s d) ≡ d
unfolding cpd_table cpd_rows
length-cpd_table s d = simp (length-map, length_count)

pub length-out_message_factor : (s : Settings) (d : ℕ) (m : Message) → length (out_message_factor s d m) ≡ d
unfolding out_message_factor
length-out_message_factor s d m = simp (length-map, length-normalize, length-cpd_table)

pub length-out_message_variable : (b : Message) (ms : List Message) (i : ℕ) → length b ≡ 2 → length (out_message_variable b ms i) ≡ 2
unfolding out_message_variable log_normalize avoid_underflow_all
length-out_message_variable b ms i h = go (leb (length ms) 1)
  where
    go : (x : Bool) → length {A = Float} (elim x as (λ y. Message) [ true ↦ b | false ↦ avoid_underflow_all (log_normalize (out_message_log 0 b ms i) (out_message_log 1 b ms i)) ]) ≡ 2
    go true = h
    go false = refl

-- ---- the tree

pub length-message_up : (n : ℕ) (b l : List Float) → length (message_up n b l) ≡ n
unfolding message_up
length-message_up n b l = simp (length-normalize, length-map, length_count)

-- all vectors of a layer have k entries
abbrev pub Long : ℕ → List (List Float) → Type 0
Long k [] = Unit {0}
Long k (l ∷ ls) = (length l ≡ k) × Long k ls

pub long-count_layer : (k : ℕ) (js : List (List Float)) → Long k js → Long (k + k - 1) (count_layer js)
unfolding count_layer
long-count_layer k [] h = tt
long-count_layer k (a ∷ []) h = tt
long-count_layer k (a ∷ b ∷ js) h =
    (length-normalize _ ∙ length-convolve a b ∙ ap (λ (n : ℕ). n + length b - 1) h.0 ∙ ap (λ (n : ℕ). k + n - 1) h.1.0, long-count_layer k js h.1.1)

pub long-likelihoods_below : (k : ℕ) (ls js : List (List Float)) → Long k js → Long k (likelihoods_below ls js)
unfolding likelihoods_below
long-likelihoods_below k [] js h = tt
long-likelihoods_below k (l ∷ ls) [] h = tt
long-likelihoods_below k (l ∷ ls) (a ∷ []) h = tt
long-likelihoods_below k (l ∷ ls) (a ∷ b ∷ js) h = (length-message_up _ b l ∙ h.0, (length-message_up _ a l ∙ h.1.0, long-likelihoods_below k ls js h.1.1))

pub length-count_layer : (n : ℕ) (js : List (List Float)) → length js ≡ n + n → length (count_layer js) ≡ n
unfolding count_layer
length-count_layer zero [] h = refl
length-count_layer (suc n) [] h = absurd (let z : ⊥ = omega arith in z)
length-count_layer zero (a ∷ []) h = absurd (let z : ⊥ = omega arith in z)
length-count_layer (suc n) (a ∷ []) h = absurd (let z : ⊥ = omega arith in z)
length-count_layer zero (a ∷ b ∷ js) h = absurd (let z : ⊥ = omega arith in z)
length-count_layer (suc n) (a ∷ b ∷ js) h = ap suc (length-count_layer n js (omega arith))

pub double : (p : ℕ) → 2 ^ suc p ≡ 2 ^ p + 2 ^ p
double p = pow-suc 2 p ∙ (let e : 2 ^ p * 2 ≡ 2 ^ p + 2 ^ p = omega arith in e)

-- 2 ^ p vectors of k + 1 entries have a root of 2 ^ p * k + 1
length_root : (p k : ℕ) (l : List Float) (js : List (List Float)) → length js ≡ 2 ^ p → Long (suc k) js → length (tree_layers p l js).root ≡ suc (2 ^ p * k)
unfolding tree_layers
length_root zero k l [] h g = absurd (let z : ⊥ = omega arith in z)
length_root zero k l (j ∷ js) h g = omega (arith, g.0)
length_root (suc p) k l js h g =
    length_root p (k + k) l (count_layer js) (length-count_layer (2 ^ p) js (h ∙ double p)) (subst (λ (n : ℕ). Long n (count_layer js)) (let e : suc k + suc k - 1 ≡ suc (k + k) = omega arith in e) (long-count_layer (suc k) js g))
    ∙ ap suc (ap (λ (n : ℕ). 2 ^ p * n) (let e : k + k ≡ 2 * k = omega arith in e) ∙ sym (mul_assoc (2 ^ p) 2 k) ∙ ap (λ (n : ℕ). n * k) (sym (pow-suc 2 p)))

-- the leaf layer's likelihoods, where there is a layer above it
long_likelihoods : (p k : ℕ) (l : List Float) (js : List (List Float)) → Long k js → Long k (tree_layers (suc p) l js).likelihoods
unfolding tree_layers
long_likelihoods p k l js h = long-likelihoods_below k _ js h

long_layer : (ms : List Message) (n : ℕ) → Long 2 ms → Long 2 (map normalize (ms ++ replicate n (binary oneᶠ zeroᶠ)))
long_layer [] zero h = tt
long_layer [] (suc n) h = (length-normalize _, long_layer [] n tt)
long_layer (m ∷ ms) n h = (length-normalize m ∙ h.0, long_layer ms n h.1)

long_of_first_layer : (ms : List Message) → Long 2 ms → Long 2 (first_layer ms)
unfolding first_layer
long_of_first_layer ms g = long_layer ms (2 ^ log_length (length ms) - length ms) g

pub length-first_layer : (ms : List Message) → length (first_layer ms) ≡ 2 ^ log_length (length ms)
unfolding first_layer
length-first_layer ms = simp (length-map, length-append, length-replicate) (omega (arith, (log_length-least (length ms)).0))

long-take : (n : ℕ) (ls : List (List Float)) → Long 2 ls → Long 2 (map (λ (l : List Float). avoid_underflow_all (take 2 l)) (take n ls))
long-take zero ls h = tt
long-take (suc n) [] h = tt
long-take (suc n) (l ∷ ls) h = (length-avoid_underflow_all _ ∙ length-take 2 l ∙ omega (arith, h.0), long-take n ls h.1)

-- A tree of two grades or more sends its factor one entry more than it has grades, and each grade two.
pub tree_shape : (f : Message) (ms : List Message) → 2 ≤ length ms → Long 2 ms →
    (length (avoid_underflow_all (take (suc (length ms)) (tree_layers (log_length (length ms)) (normalize f) (first_layer ms)).root)) ≡ suc (length ms))
    × Long 2 (map (λ (l : List Float). avoid_underflow_all (take 2 l)) (take (length ms) (tree_layers (log_length (length ms)) (normalize f) (first_layer ms)).likelihoods))
tree_shape f ms h g = (simp (length-avoid_underflow_all, length-take) (omega (arith, root, (log_length-least (length ms)).0)), rest (log_length (length ms)) (log_length-least (length ms)).0)
  where
    root : length (tree_layers (log_length (length ms)) (normalize f) (first_layer ms)).root ≡ suc (2 ^ log_length (length ms) * 1)
    root = length_root (log_length (length ms)) 1 (normalize f) (first_layer ms) (length-first_layer ms) (long_of_first_layer ms g)

    rest : (p : ℕ) → length ms ≤ 2 ^ p → Long 2 (map (λ (l : List Float). avoid_underflow_all (take 2 l)) (take (length ms) (tree_layers p (normalize f) (first_layer ms)).likelihoods))
    rest zero e = absurd (let z : ⊥ = omega arith in z)
    rest (suc p) e = long-take (length ms) _ (long_likelihoods p 2 (normalize f) (first_layer ms) (long_of_first_layer ms g))
