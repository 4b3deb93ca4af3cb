-- `node::fill_rows` meets its contract: after i turns the first i rows are written, over no power that still waits, and the sum is theirs.
use mathlib.Core.Path.{◌≡◌, sym, ap, ◌∙◌}
use mathlib.Core.List.{List, ◌++◌, map}
use Prim.Native.Nat.{ℕ, ◌+◌, ◌*◌, ◌-◌, ◌<◌}
use native.Mathlib.Numerals.{add-one}
use native.Mathlib.Omega.{arith}
use lib.ListN.{length, get_or, take, drop}
use lib.Seq.{take_all}
use lib.Ieee.{Float, nan, of_bits}
use Rattle.list_laws.specs.Part.{length-region}
use Rattle.list_laws.specs.Put.{put-part, length-put, put_in}
use Rattle.list_laws.specs.Write.{write-none, kept_above}
use Rattle.list_laws.specs.Whole.{start_pair, whole-written}
use Rattle.definition.specs.Floats.{◌⊕◌, ◌⊖◌, oneᶠ, powi}
use Rattle.definition.specs.Vectors.{sum_of}
use Rattle.definition.specs.Lists.{range}
use Rattle.definition.specs.Settings.{Settings}
use Rattle.definition.specs.NoisyOr.{cpd_rows}
use Rattle.array_utils.specs.Counts.{count_at, length_count}
use Rattle.array_utils.specs.VectorLaws.{total-none, total_step}
use Rattle.node.specs.Rows.{flat_rows, given, absent_at, absent_of_lem, sums, even_at, odd-at, sum-at, length-rows, length-sums}
use Rattle.node.proofs.fill_rows.Invariants.{Waiting, entry_at}
use Rattle.node.proofs.fill_rows.Goals as goal

waiting : (l s : List Float) (d : ℕ) (base : Float) → length l ≡ 2 * d → s ≡ map (powi base) (range 0 (length (take (length l - d) (drop d l)))) → Waiting d base (take d l ++ (s ++ drop (length l - d) (drop d l)))
waiting l s d base e p =
    let n : length (take (length l - d) (drop d l)) ≡ d = length-region l d (length l - d) (omega arith) ∙ omega arith in
    let q : s ≡ map (powi base) (range 0 d) = p ∙ ap (λ (m : ℕ). map (powi base) (range 0 m)) n in
    let m : length s ≡ d = ap length q ∙ length_count (powi base) 0 d in
    let w = put-part l s d (length l - d) (omega arith) in (
      ap length w ∙ length-put l d s (omega arith) ∙ e,
      (λ k h. ap (λ (u : List Float). get_or u (d + k) nan) w ∙ put_in l d s nan k (omega arith) (omega arith) ∙ ap (λ (u : List Float). get_or u k nan) q ∙ count_at (powi base) nan d k h),
    )

pub loop-i-init : goal.loop-i-init
unfolding of_bits
loop-i-init c =
    let a = c.args in
    let w = waiting a.cpd.now c.powers.new.out a.degree (oneᶠ ⊖ a.alpha) c.requires.1 c.powers.ensures in
    record { written = write-none _ _ _; sum = total-none (sums (cpd_rows (given a.alpha a.beta a.regularised) a.degree)); waiting = w }

added : (s : Settings) (d i : ℕ) (sum x : Float) → i < d → sum ≡ sum_of (take i (sums (cpd_rows s d))) → x ≡ absent_at s i → sum ⊕ (x ⊕ (oneᶠ ⊖ x)) ≡ sum_of (take (i + 1) (sums (cpd_rows s d)))
added s d i sum x h e q =
    ap (λ (y : Float). y ⊕ (x ⊕ (oneᶠ ⊖ x))) e
    ∙ ap (λ (y : Float). sum_of (take i (sums (cpd_rows s d))) ⊕ y) (ap (λ (y : Float). y ⊕ (oneᶠ ⊖ y)) q ∙ sym (sum-at s d i h))
    ∙ sym (total_step (sums (cpd_rows s d)) i (omega (arith, length-sums s d)))
    ∙ ap (λ (k : ℕ). sum_of (take k (sums (cpd_rows s d)))) (sym (add-one i))

pub loop-i-preserved : goal.loop-i-preserved
unfolding of_bits
loop-i-preserved c =
    let b = c.loop-i in
    let a = c.args in
    let s = given a.alpha a.beta a.regularised in
    let h = c.loop-i-test.true in
    let x = c.row_absent-absent.result in
    let v = b.invariant in
    let p = kept_above _ b.cpd _ 0 (2 * b.i) (a.degree + b.i) nan v.written (omega arith) ∙ v.waiting.1 b.i h in
    let e : x ≡ absent_at s b.i = c.row_absent-absent.ensures ∙ absent_of_lem a.alpha a.beta _ a.regularised b.i p in
    record {
      written = start_pair _ b.cpd (entry_at s a.degree) b.i x (oneᶠ ⊖ x) v.written (e ∙ sym (even_at s a.degree b.i h)) (ap (λ (y : Float). oneᶠ ⊖ y) e ∙ sym (odd-at s a.degree b.i h));
      sum = added s a.degree b.i b.sum x h v.sum e;
      waiting = v.waiting;
    }

pub returns : goal.returns
unfolding sum_of
returns c =
    let b = c.loop-i in
    let a = c.args in
    let s = given a.alpha a.beta a.regularised in
    let e : b.i ≡ a.degree = omega arith in (
      whole-written nan _ b.cpd (flat_rows (cpd_rows s a.degree)) (2 * b.i) (2 * a.degree) b.invariant.written (ap (λ (k : ℕ). 2 * k) e) b.invariant.waiting.0 (length-rows s a.degree),
      b.invariant.sum ∙ ap sum_of (take_all b.i (sums (cpd_rows s a.degree)) (omega (arith, length-sums s a.degree))),
    )
