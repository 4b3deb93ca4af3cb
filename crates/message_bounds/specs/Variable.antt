-- What a grade or an input sends is held: sums of logarithms are finite, and the shares of two finite logarithms lie between 0 and 1.
use Rattle.std.specs.Prelude.{◌≡◌, Bool, false, List, [], ◌∷◌, map, ℕ, zero, suc, ◌+◌, ◌*◌, ◌/◌, ◌^◌, ◌≤◌, leb, pos, length, take, drop, Float}
use Rattle.std.proofs.Common.{sym, subst, arith}
use Rattle.std.proofs.Math.Bool.{true}
use Rattle.std.proofs.Math.Dec.{T}
use Rattle.std.proofs.lemmas.List.{length-map}
use Rattle.std.specs.Float.{fin}
use Rattle.std.specs.Float.Ieee.{binary32, lt, le, fits, of_int, neg}
use Rattle.std.specs.Float.Ieee.Fits.{mul-fits, cond-fits}
use Rattle.std.specs.Float.Ieee.Scale.{finite}
use Rattle.float_laws.specs.Order.{le_trans_at}
use Rattle.float_laws.specs.Laws.{zeroᶠ, oneᶠ}
use Rattle.float_laws.specs.Interval.{In, in_finite, in_wider, add-test, add_in, sub-test, sub_in}
use Rattle.float_laws.specs.Sums.{of_nat, minus32, whole_mono, minus_mono, signed_step}
use Rattle.definition.specs.Floats.{◌⊕◌, ◌⊖◌, ◌⊗◌, maxᶠ, ln, exp, exp_reduced}
use Rattle.definition.specs.Vectors.{Message, entry, binary, sum_from, product_of, product_from, avoid_underflow_all, log_normalize, sum_log_blocks, sum_logs_batched}
use Rattle.definition.specs.Directions.{message_at}
use Rattle.graph_laws.specs.Sending.{Goods}
use Rattle.definition.specs.Messages.{out_message_log, out_message_variable}
use Rattle.definition.specs.Sweeps.{log_total, leave_one_out, opening_variable}
use Rattle.message_bounds.specs.Bounded.{BoundedEntries, avoid_underflow-entry}
use Rattle.message_bounds.specs.Ln.{ln_in}
use Rattle.message_bounds.specs.Exp.{exp_in}
use Rattle.message_bounds.specs.LogNormalize.{log_sum, left-rest, right_rest}

-- ---- the two shares of two finite logarithms
module _ (a b : Float) (p : T (finite a)) (q : T (finite b)) where
  -- Whatever holds of two values between 0 and 1 that binary32 holds, holds of the two shares.
  pub shares : (P : Message → Type 0) → ((x y : Float) → T (fits binary32 x) → In zeroᶠ oneᶠ x → T (fits binary32 y) → In zeroᶠ oneᶠ y → P (binary x y)) → P (log_normalize a b)
  unfolding log_normalize
  shares P f = f _ _ (exp-fits _) (exp_in (a ⊖ maxᶠ a b ⊖ log_sum a b) (left-rest a b p q)) (exp-fits _) (exp_in (b ⊖ maxᶠ a b ⊖ log_sum a b) (right_rest a b p q))
    where
      exp-fits : (y : Float) → T (fits binary32 (exp y))
      exp-fits y = unfold exp exp_reduced in cond-fits binary32 (lt y (fin true 87 (pos 0))) zeroᶠ _ (unfold fits in tt) (mul-fits binary32 _ _)

  pub normal_bounded : BoundedEntries (avoid_underflow_all (log_normalize a b))
  unfolding avoid_underflow_all
  normal_bounded = shares (λ m. BoundedEntries (avoid_underflow_all m)) (λ x y t i u j. (avoid_underflow-entry x t i, (avoid_underflow-entry y u j, tt)))

-- ---- sums of logarithms: each block's logarithm lies between -91 and 91, whatever its entries
product_from-fits : (a : Float) (xs : List Float) → T (fits binary32 a) → T (fits binary32 (product_from a xs))
unfolding product_from
product_from-fits a [] t = t
product_from-fits a (x ∷ xs) t = product_from-fits (a ⊗ x) xs (mul-fits binary32 a x)

pub ln_wide : (x : Float) → T (fits binary32 x) → In (minus32 91) (of_nat 91) (ln x)
ln_wide x t = in_wider (minus32 91) (of_nat 91) (ln_in x t) (unfold le neg of_int in tt)

block_in : (xs : List Float) → In (minus32 91) (of_nat 91) (ln (product_of xs))
unfolding product_of
block_in xs = ln_wide (product_from oneᶠ xs) (product_from-fits oneᶠ xs (unfold fits in tt))

sum_log_blocks_in : (k n : ℕ) (a : Float) (xs : List Float) → n + suc k * 91 ≤ 2 ^ 24 → In (minus32 n) (of_nat n) a → In (minus32 (n + suc k * 91)) (of_nat (n + suc k * 91)) (sum_log_blocks k a xs)
unfolding sum_log_blocks
sum_log_blocks_in zero n a xs h i = signed_step n 91 a (ln (product_of xs)) h i (block_in xs)
sum_log_blocks_in (suc k) n a xs h i =
    let g : n + suc (suc k) * 91 ≡ n + 91 + suc k * 91 = omega arith in
    subst (λ (z : ℕ). In (minus32 z) (of_nat z) (sum_log_blocks k (a ⊕ ln (product_of (take 10 xs))) (drop 10 xs))) (sym g)
    (sum_log_blocks_in k (n + 91) (a ⊕ ln (product_of (take 10 xs))) (drop 10 xs) (omega arith) (signed_step n 91 a (ln (product_of (take 10 xs))) (omega arith) i (block_in (take 10 xs))))

widen : (n m : ℕ) (x : Float) → n ≤ m → m ≤ 2 ^ 24 → In (minus32 n) (of_nat n) x → In (minus32 m) (of_nat m) x
widen n m x h g i = record { low = le_trans_at (minus32 m) (minus32 n) x (minus_mono n m h g) i.low; high = le_trans_at x (of_nat n) (of_nat m) i.high (whole_mono n m h g) }

pub sum_logs_in : (xs : List Float) → length xs ≤ 1024 → In (minus32 10000) (of_nat 10000) (sum_logs_batched xs)
unfolding sum_logs_batched
sum_logs_in xs h =
    widen (0 + suc (length xs / 10) * 91) 10000 (sum_log_blocks (length xs / 10) zeroᶠ xs) (omega arith) (omega arith)
    (sum_log_blocks_in (length xs / 10) 0 zeroᶠ xs (omega arith) (record { low = unfold le neg of_int in tt; high = unfold le of_int in tt }))

-- ---- the entries of what is held
pub entry-fits : (k : ℕ) (m : Message) → BoundedEntries m → T (fits binary32 (entry k m))
entry-fits k [] h = unfold fits in tt
entry-fits zero (x ∷ m) h = h.0.holds
entry-fits (suc k) (x ∷ m) h = entry-fits k m h.1

message_bounded : (i : ℕ) (ms : List Message) → Goods BoundedEntries ms → BoundedEntries (message_at i ms)
message_bounded i [] g = tt
message_bounded zero (m ∷ ms) g = g.0
message_bounded (suc i) (m ∷ ms) g = message_bounded i ms g.1

-- ---- the two logarithms

pub out-finite : (k : ℕ) (b : Message) (ms : List Message) (i : ℕ) → length ms ≤ 1024 → BoundedEntries b → Goods BoundedEntries ms → T (finite (out_message_log k b ms i))
unfolding out_message_log
out-finite k b ms i h g w =
    let s = sum_logs_in (map (entry k) ms) (rw (length-map ms (entry k)) h) in
    let y = ln_in (entry k (message_at i ms)) (entry-fits k (message_at i ms) (message_bounded i ms w)) in
    let z = ln_in (entry k b) (entry-fits k b g) in
    in_finite (add_in (fin true 20000 (pos 0)) (fin false 20000 (pos 0)) (sub_in (fin true 15000 (pos 0)) (fin false 15000 (pos 0)) s y (unfold sub-test of_int neg in tt)) z (unfold add-test in tt)) tt

pub variable_bounded : (b : Message) (ms : List Message) (i : ℕ) → length ms ≤ 1024 → BoundedEntries b → Goods BoundedEntries ms → BoundedEntries (out_message_variable b ms i)
unfolding out_message_variable
variable_bounded b ms i h g w = go (leb (length ms) 1)
  where
    go : (x : Bool) → BoundedEntries (elim x as (λ y. Message) [ true ↦ b | false ↦ avoid_underflow_all (log_normalize (out_message_log 0 b ms i) (out_message_log 1 b ms i)) ])
    go true = g
    go false = normal_bounded (out_message_log 0 b ms i) (out_message_log 1 b ms i) (out-finite 0 b ms i h g w) (out-finite 1 b ms i h g w)

-- ---- the opening: a running sum of at most 1,025 logarithms
pub all_in : (k n : ℕ) (a : Float) (ms : List Message) → n + length ms * 91 ≤ 100000 → In (minus32 n) (of_nat n) a → Goods BoundedEntries ms → In (minus32 100000) (of_nat 100000) (sum_from a (map (λ (m : Message). ln (entry k m)) ms))
all_in k n a [] h i g = widen n 100000 a (omega arith) (omega arith) i
all_in k n a (m ∷ ms) h i g =
    all_in k (n + 91) (a ⊕ ln (entry k m)) ms (omega arith) (signed_step n 91 a (ln (entry k m)) (omega arith) i (ln_wide (entry k m) (entry-fits k m g.0))) g.1

log_all_in : (k : ℕ) (b : Message) (ms : List Message) → length ms ≤ 1024 → BoundedEntries b → Goods BoundedEntries ms → In (minus32 100000) (of_nat 100000) (log_total k b ms)
unfolding log_total
log_all_in k b ms h g w = all_in k 91 (ln (entry k b)) ms (omega arith) (ln_wide (entry k b) (entry-fits k b g)) w

less_finite : (k : ℕ) (p : Float) (m : Message) → In (minus32 100000) (of_nat 100000) p → BoundedEntries m → T (finite (p ⊖ ln (entry k m)))
less_finite k p m i g = in_finite (sub_in (fin true 200000 (pos 0)) (fin false 200000 (pos 0)) i (ln_in (entry k m) (entry-fits k m g)) (unfold sub-test of_int neg in tt)) tt

pub opening_bounded : (b : Message) (ms : List Message) → length ms ≤ 1024 → BoundedEntries b → Goods BoundedEntries ms → Goods BoundedEntries (opening_variable b ms)
unfolding opening_variable leave_one_out
opening_bounded b ms h g w = go (leb (length ms) 1)
  where
    same : (ms : List Message) → Goods BoundedEntries (map (λ (m : Message). b) ms)
    same [] = tt
    same (m ∷ ms) = (g, same ms)

    each : (p q : Float) (ms : List Message) → In (minus32 100000) (of_nat 100000) p → In (minus32 100000) (of_nat 100000) q → Goods BoundedEntries ms → Goods BoundedEntries (map (leave_one_out p q) ms)
    each p q [] i j w = tt
    each p q (m ∷ ms) i j w = (normal_bounded (p ⊖ ln (entry 0 m)) (q ⊖ ln (entry 1 m)) (less_finite 0 p m i w.0) (less_finite 1 q m j w.0), each p q ms i j w.1)

    go : (x : Bool) → Goods BoundedEntries (elim x as (λ y. List Message) [ true ↦ map (λ (m : Message). b) ms | false ↦ map (leave_one_out (log_total 0 b ms) (log_total 1 b ms)) ms ])
    go true = same ms
    go false = each (log_total 0 b ms) (log_total 1 b ms) ms (log_all_in 0 b ms h g w) (log_all_in 1 b ms h g w) w
