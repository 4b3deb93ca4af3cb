-- What a factor sends is held: the table's rows lie between 0 and 1, its first row well above 0, so that the sum that divides is above zero.
use Rattle.std.specs.Prelude.{◌≡◌, Bool, true, not, cond, ℕ, zero, suc, ◌+◌, ◌*◌, ◌^◌, ◌≤◌, ◌<◌, max, pos, negsuc, get_or, Float}
use Rattle.std.proofs.Common.{sym, arith, lit≤}
use Rattle.std.proofs.Math.Path.{subst}
use Rattle.std.proofs.Math.Bool.{false}
use mathlib.Core.List.{List, [], ◌∷◌, map}
use Rattle.std.proofs.Math.Dec.{T}
use Rattle.std.proofs.Math.ListN.{length, length-map}
use Rattle.std.specs.Float.{nan, fin}
use Rattle.std.specs.Float.Ieee.{binary32, le, fits, is_nan, of_int}
use Rattle.std.specs.Float.Ieee.Fits.{sub-fits, mul-fits, div-fits, of_int-fits}
use Rattle.std.specs.Float.Ieee.Positive.{positive}
use Rattle.float_laws.specs.Order.{le_trans_at, le-refl-at, finite_number}
use Rattle.float_laws.specs.Rounded.{clear, round-clear}
use Rattle.float_laws.specs.Laws.{zeroᶠ, oneᶠ, add_grows, add_grows_r}
use Rattle.float_laws.specs.Interval.{In, in_self, in_number, in_finite, in_positive, sub-test, sub_in, mul-test, mul_in, div-test, div_in}
use Rattle.float_laws.specs.Sums.{sum_from, of_nat, whole_mono, one-is, sum-above, sum-positive, sum_in}
use Rattle.float_laws.specs.Error.{val32}
use Rattle.float_laws.specs.Totals.{AtMost, AllAtMost, at_most-finite, at_most_each, at_most-at, clear-low, div-units, sum_fits}
use Rattle.definition.specs.Floats.{◌⊕◌, ◌⊖◌, ◌⊗◌, ◌⊘◌, avoid_underflow, clamp, powi}
use Rattle.definition.specs.Lists.{range}
use Rattle.definition.specs.Vectors.{Message, entry, sum_of, normalize}
use Rattle.definition.specs.Settings.{Settings}
use Rattle.definition.specs.NoisyOr.{CpdRow, cpd_absent, cpd_absent_regularised, cpd_row, cpd_rows, cpd_table}
use Rattle.definition.specs.Messages.{out_message_factor}
use Rattle.definition.specs.Refusals.{least_probability, greatest_probability}
use Rattle.graph_laws.specs.MessageLengths.{length_count}
use Rattle.message_bounds.specs.Bounded.{BoundedEntry, BoundedEntries, Ranged, InRange, rest_ranged, at_most-range, clamped_bounded}
use Rattle.message_bounds.specs.Normalized.{at_most_of, entry-at_most, ranged_at_most, at_most-add, at_most_times, at_most-quotient, powi-at_most, avoid_underflow-at_most, avoid_underflow_grows, normal-at_most}

-- ---- a row's first entry: at most 1023/1024
pub record Source (x : Float) : Type 0 where
  pub nice : AtMost 1 x
  pub under : T (le x greatest_probability)

times_source : (x y : Float) → AtMost 1 x → Ranged y → Source (x ⊗ y)
times_source x y n r = record { nice = at_most_times x y n (ranged_at_most y r); under = (mul_in zeroᶠ greatest_probability (at_most-range x n) r.inside (unfold mul-test in tt)).high }

count_in_lem : (n : ℕ) → 1 ≤ n → n ≤ 129 → In oneᶠ (fin false 129 (pos 0)) (of_nat n)
count_in_lem n h k =
    record { low = le_trans_at oneᶠ (of_nat 1) (of_nat n) (unfold le of_int in tt) (whole_mono 1 n h (omega arith)); high = le_trans_at (of_nat n) (of_nat 129) (fin false 129 (pos 0)) (whole_mono n 129 k (lit≤ tt)) (unfold le of_int in tt) }

part_source : (x : Float) (n : ℕ) → 1 ≤ n → n ≤ 129 → Source x → Source (x ⊘ of_nat n)
part_source x n h k s =
    let w = count_in_lem n h k in
    let i : In zeroᶠ greatest_probability x = record { low = clear-low x s.nice.clear_sign; high = s.under } in
    let q = in_positive w tt in
    let d = div_in zeroᶠ greatest_probability i w (unfold div-test in tt) in
    record {
      nice = record {
        held = div-fits binary32 x (of_nat n);
        clear_sign = subst (λ (z : Float). T (clear z)) (sym (div-units x (of_nat n) s.nice.held (of_int-fits binary32 (pos n)) s.nice.clear_sign (in_finite i tt) q)) (round-clear binary32 (val32 x) (val32 (of_nat n)));
        small = subst (λ (z : Float). T (le (x ⊘ of_nat n) z)) (sym one-is) (le_trans_at (x ⊘ of_nat n) greatest_probability oneᶠ d.high (unfold le in tt));
      };
      under = d.high;
    }

module _ (s : Settings) (r : InRange s) where
  cpd_absent_source : (i : ℕ) → Source (cpd_absent s i)
  unfolding cpd_absent
  cpd_absent_source i = times_source (powi (oneᶠ ⊖ s.alpha) i) (oneᶠ ⊖ s.beta) (powi-at_most (oneᶠ ⊖ s.alpha) i (ranged_at_most (oneᶠ ⊖ s.alpha) (rest_ranged s.alpha r.alpha))) (rest_ranged s.beta r.beta)

  regularised_source : (i : ℕ) → i ≤ 129 → Source (cpd_absent_regularised s i)
  unfolding cpd_absent_regularised
  regularised_source i h =
      part_source (powi (cpd_absent s i) i ⊗ (oneᶠ ⊖ s.beta)) (max i 1) (omega arith) (omega arith)
      (times_source (powi (cpd_absent s i) i) (oneᶠ ⊖ s.beta) (powi-at_most (cpd_absent s i) i (cpd_absent_source i).nice) (rest_ranged s.beta r.beta))

-- ---- a row
pub record Fine (w : CpdRow) : Type 0 where
  pub first : AtMost 1 w.absent
  pub second : AtMost 1 w.present
  pub some : T (le least_probability w.present)

abbrev AllFine : List CpdRow → Type 0
AllFine [] = Unit {0}
AllFine (w ∷ ws) = Fine w × AllFine ws

row_fine : (x : Float) → Source x → Fine (cpd_row x)
row_fine x s =
    let i : In zeroᶠ greatest_probability x = record { low = clear-low x s.nice.clear_sign; high = s.under } in
    let j = sub_in least_probability oneᶠ (in_self oneᶠ (unfold is_nan in tt)) i (unfold sub-test in tt) in
    record { first = s.nice; second = at_most_of least_probability (oneᶠ ⊖ x) tt (sub-fits binary32 oneᶠ x) j.low j.high; some = j.low }

cpd_rows_fine : (m : ℕ → Float) → ((i : ℕ) → i ≤ 129 → Source (m i)) → (i n : ℕ) → i + n ≤ 129 → AllFine (map (λ (k : ℕ). cpd_row (m k)) (range i n))
cpd_rows_fine m f i zero h = tt
cpd_rows_fine m f i (suc n) h = (row_fine (m i) (f i (omega arith)), cpd_rows_fine m f (suc i) n (omega arith))

-- ---- the sum over the rows
abbrev both : CpdRow → Float
both w = w.absent ⊕ w.present

both-at_most : (w : CpdRow) → Fine w → AtMost 2 (both w)
both-at_most w f = at_most-add 1 1 w.absent w.present (lit≤ tt) f.first f.second

both-low : (w : CpdRow) → Fine w → T (le least_probability (both w))
both-low w f =
    let x = w.absent in
    let y = w.present in
    le_trans_at least_probability y (both w) f.some (add_grows_r x y f.second.held (at_most-finite 1 x (lit≤ tt) f.first) (at_most-finite 1 y (lit≤ tt) f.second) (clear-low x f.first.clear_sign))

sums-at_most : (ws : List CpdRow) → AllFine ws → AllAtMost 2 (map both ws)
sums-at_most [] f = tt
sums-at_most (w ∷ ws) f = (both-at_most w f.0, sums-at_most ws f.1)

-- each entry is at most the sum of its row
abbrev AllBelow : Float → List CpdRow → Type 0
AllBelow t [] = Unit {0}
AllBelow t (w ∷ ws) = (T (le w.absent t) × T (le w.present t)) × AllBelow t ws

all-below : (t : Float) (ws : List CpdRow) → AllFine ws → ((i : ℕ) → i < length (map both ws) → T (le (get_or (map both ws) i nan) t)) → AllBelow t ws
all-below t [] f g = tt
all-below t (w ∷ ws) f g =
    let x = w.absent in
    let y = w.present in
    let p = at_most-finite 1 x (lit≤ tt) f.0.first in
    let q = at_most-finite 1 y (lit≤ tt) f.0.second in
    let l : T (le (both w) t) = g 0 (omega arith) in (
      (le_trans_at x (both w) t (add_grows x y f.0.first.held p q (clear-low y f.0.second.clear_sign)) l, le_trans_at y (both w) t (add_grows_r x y f.0.second.held p q (clear-low x f.0.first.clear_sign)) l),
      all-below t ws f.1 (λ (i : ℕ) (h : i < length (map both ws)). g (suc i) (omega arith)),
    )

-- ---- the table's rows
abbrev AllPair : List CpdRow → Type 0
AllPair [] = Unit {0}
AllPair (w ∷ ws) = (AtMost 1 w.absent × AtMost 1 w.present) × AllPair ws

abbrev share : (Float → Float) → Float → CpdRow → CpdRow
share floor t w = record { absent = floor (w.absent ⊘ t); present = floor (w.present ⊘ t) }

module _ (floor : Float → Float) (keep : (x : Float) → AtMost 1 x → AtMost 1 (floor x)) (t : Float) (u : T (fits binary32 t)) (q : T (positive t)) where
  shares_pair : (ws : List CpdRow) → AllFine ws → AllBelow t ws → AllPair (map (share floor t) ws)
  shares_pair [] f b = tt
  shares_pair (w ∷ ws) f b =
      ((keep (w.absent ⊘ t) (at_most-quotient w.absent t f.0.first u q b.0.0), keep (w.present ⊘ t) (at_most-quotient w.present t f.0.second u q b.0.1)), shares_pair ws f.1 b.1)

  module _ (low : T (le least_probability t)) (high : T (le t (fin false 258 (pos 0)))) (grows : (x : Float) → T (not (is_nan x)) → T (le x (floor x))) where
    -- 2 ^ -19
    abbrev little : Float
    little = fin false 1 (negsuc 18)

    share-low : (w : CpdRow) → Fine w → T (le little (share floor t w).present)
    share-low w f =
        let y = w.present in
        let i : In least_probability oneᶠ y = record { low = f.some; high = (at_most-range y f.second).high } in
        let j : In least_probability (fin false 258 (pos 0)) t = record { low = low; high = high } in
        let d = div_in little (fin false 1 (pos 10)) i j (unfold div-test in tt) in
        le_trans_at little (y ⊘ t) (floor (y ⊘ t)) d.low (grows (y ⊘ t) (in_number d))

-- ---- a row's sum with a message's two entries
abbrev mix : Float → Float → CpdRow → Float
mix a b w = w.absent ⊗ a ⊕ w.present ⊗ b

mix-at_most : (a b : Float) → AtMost 1 a → AtMost 1 b → (ws : List CpdRow) → AllPair ws → AllAtMost 2 (map (mix a b) ws)
mix-at_most a b n m [] f = tt
mix-at_most a b n m (w ∷ ws) f = (at_most-add 1 1 (w.absent ⊗ a) (w.present ⊗ b) (lit≤ tt) (at_most_times w.absent a f.0.0 n) (at_most_times w.present b f.0.1 m), mix-at_most a b n m ws f.1)

-- 2 ^ -121
abbrev least-mix : Float
least-mix = fin false 1 (negsuc 120)

mix-low : (a b : Float) → AtMost 1 a → BoundedEntry b → (w : CpdRow) → AtMost 1 w.absent → AtMost 1 w.present → T (le (fin false 1 (negsuc 18)) w.present) → T (le least-mix (mix a b w))
mix-low a b n e w f g l =
    let i : In (fin false 1 (negsuc 18)) oneᶠ w.present = record { low = l; high = (at_most-range w.present g).high } in
    let p = mul_in least-mix oneᶠ i e.inside (unfold mul-test in tt) in
    let x = w.absent ⊗ a in
    let y = w.present ⊗ b in
    let u = at_most_times w.absent a f n in
    le_trans_at least-mix y (x ⊕ y) p.low (add_grows_r x y (mul-fits binary32 w.present b) (at_most-finite 1 x (lit≤ tt) u) (in_finite p tt) (clear-low x u.clear_sign))

-- ---- the whole, for one way to make rows and one floor
module _ (floor : Float → Float) (keep : (x : Float) → AtMost 1 x → AtMost 1 (floor x)) (grows : (x : Float) → T (not (is_nan x)) → T (le x (floor x))) (a b : Float) (n : AtMost 1 a) (e : BoundedEntry b) where
  abbrev out : List CpdRow → Float → List Float
  out ws t = map (mix a b) (map (share floor t) ws)

  some_bounded : (w : CpdRow) (ws : List CpdRow) → length (w ∷ ws) ≤ 129 → AllFine (w ∷ ws) → BoundedEntries (map clamp (normalize (out (w ∷ ws) (sum_from zeroᶠ (map both (w ∷ ws))))))
  some_bounded w ws h f =
      let vs = w ∷ ws in
      let xs = map both vs in
      let t = sum_from zeroᶠ xs in
      let g : length xs * 2 ≤ 2 ^ 24 = omega (arith, length-map vs both) in
      let k = sums-at_most vs f in
      let u = sum_fits zeroᶠ xs (unfold fits in tt) in
      let l = sum-above 2 xs 0 least_probability g (at_most_each 2 xs k) (omega arith) (unfold fits in tt) tt (both-low w f.0) in
      let q = sum-positive 2 xs 0 least_probability g (at_most_each 2 xs k) (omega arith) (unfold fits in tt) tt (both-low w f.0) in
      let m : T (le t (fin false 258 (pos 0))) = le_trans_at t (of_nat (length xs * 2)) (fin false 258 (pos 0)) (sum_in 2 xs g (at_most_each 2 xs k)).high (le_trans_at (of_nat (length xs * 2)) (of_nat 258) (fin false 258 (pos 0)) (whole_mono (length xs * 2) 258 (omega (arith, length-map vs both)) (lit≤ tt)) (unfold le of_int in tt)) in
      let d = all-below t vs f (λ (i : ℕ) (o : i < length xs). let y = at_most-at 2 xs i k o in sum-above 2 xs i (get_or xs i nan) g (at_most_each 2 xs k) o y.held (at_most-finite 2 (get_or xs i nan) (lit≤ tt) y) (le-refl-at (get_or xs i nan) (finite_number (get_or xs i nan) (at_most-finite 2 (get_or xs i nan) (lit≤ tt) y)))) in
      let p = shares_pair floor keep t u q vs f d in
      let z = mix-at_most a b n (entry-at_most b e) (map (share floor t) vs) p in
      let o = mix-low a b n e (share floor t w) p.0.0 p.0.1 (share-low floor keep t u q l m grows w f.0) in
      let r : length (out vs t) * 2 ≤ 2 ^ 24 = omega (arith, length-map vs (share floor t), length-map (map (share floor t) vs) (mix a b)) in
      clamped_bounded (normalize (out vs t)) (normal-at_most 2 (out vs t) r (lit≤ tt) z (sum-positive 2 (out vs t) 0 least-mix r (at_most_each 2 (out vs t) z) (omega arith) (unfold fits in tt) tt o))

  cpd_rows_bounded : (ws : List CpdRow) → length ws ≤ 129 → AllFine ws → BoundedEntries (map clamp (normalize (out ws (sum_from zeroᶠ (map both ws)))))
  unfolding normalize
  cpd_rows_bounded [] h f = tt
  cpd_rows_bounded (w ∷ ws) h f = some_bounded w ws h f

-- ---- a message of two entries
first-at_most : (m : Message) → length m ≡ 2 → BoundedEntries m → AtMost 1 (entry 0 m)
first-at_most [] l h = absurd (let z : ⊥ = omega arith in z)
first-at_most (x ∷ m) l h = entry-at_most x h.0

second_entry : (m : Message) → length m ≡ 2 → BoundedEntries m → BoundedEntry (entry 1 m)
second_entry [] l h = absurd (let z : ⊥ = omega arith in z)
second_entry (x ∷ []) l h = absurd (let z : ⊥ = omega arith in z)
second_entry (x ∷ y ∷ m) l h = h.1.0

pub factors_bounded : (s : Settings) → InRange s → (d : ℕ) (m : Message) → d ≤ 129 → length m ≡ 2 → BoundedEntries m → BoundedEntries (out_message_factor s d m)
unfolding out_message_factor cpd_table cpd_rows sum_of
factors_bounded s r d m k l h = go s.regularised
  where
    made : (source : ℕ → Float) → List CpdRow
    made source = map (λ (i : ℕ). cpd_row (source i)) (range 0 d)

    few : (source : ℕ → Float) → length (made source) ≤ 129
    few source = omega (arith, length-map (range 0 d) (λ (i : ℕ). cpd_row (source i)), length_count 0 d)

    go : (x : Bool) → BoundedEntries (map clamp (normalize (map (mix (entry 0 m) (entry 1 m)) (map (share (cond x avoid_underflow (λ y. y)) (sum_from zeroᶠ (map both (made (cond x (cpd_absent_regularised s) (cpd_absent s)))))) (made (cond x (cpd_absent_regularised s) (cpd_absent s)))))))
    go true =
        cpd_rows_bounded avoid_underflow avoid_underflow-at_most avoid_underflow_grows (entry 0 m) (entry 1 m) (first-at_most m l h) (second_entry m l h) (made (cpd_absent_regularised s)) (few (cpd_absent_regularised s))
        (cpd_rows_fine (cpd_absent_regularised s) (regularised_source s r) 0 d (omega arith))
    go false =
        cpd_rows_bounded (λ y. y) (λ (y : Float) (i : AtMost 1 y). i) (λ (y : Float) (i : T (not (is_nan y))). le-refl-at y i) (entry 0 m) (entry 1 m) (first-at_most m l h) (second_entry m l h) (made (cpd_absent s)) (few (cpd_absent s))
        (cpd_rows_fine (cpd_absent s) (λ (i : ℕ) (o : i ≤ 129). cpd_absent_source s r i) 0 d (omega arith))
