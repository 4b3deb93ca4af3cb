-- Evidence with the base rate taken out: each entry is the exact fraction over 2 ^ 24, and number 5 takes it exactly if both are at least 2 ^ -14.
use Rattle.std.specs.Prelude.{ℕ, ◌-◌, ◌*◌, ◌^◌, ◌≤◌, ◌≡◌, refl, ◌↔◌, false, Float}
use Rattle.std.proofs.Common.{mul-le-mul, sub-le, arith, lit≤, pow_pos}
use Rattle.std.specs.Float.Ieee.{le}
use Rattle.std.specs.Float.Ieee.Exact.{HasValue}
use Rattle.std.specs.Float.Ieee.Order.{le_of_values}
use Rattle.std.specs.Float.Ieee.Positive.{first_pos, values_of_le}
use Rattle.definition.specs.Floats.{oneᶠ, ratio}
use Rattle.definition.specs.Refusals.{outside, least_evidence, bad_evidence}
use Rattle.definition.specs.BaleFile.{evidence_of}
use Rattle.claims.specs.BaseRate.{read_of, ExactEvidence, EvidenceTaken}
use Rattle.float_laws.specs.Interval.{In, in_positive}
use Rattle.float_laws.specs.Whole.{power_exact}
use Rattle.graph_laws.specs.Bools.{or_no, no_or, T-no, T_true}
use Rattle.message_bounds.specs.Accepted.{inside}

-- neither entry is over 1
absent_small : (b e : ℕ) → b ≤ 1024 → (16384 - e) * b ≤ 2 ^ 24
absent_small b e h = mul-le-mul (sub-le 16384 e) h

present_small : (b e : ℕ) → e ≤ 16384 → e * (1024 - b) ≤ 2 ^ 24
present_small b e h = mul-le-mul h (sub-le 1024 b)

pub exact-evidence : ExactEvidence
unfolding evidence_of
exact-evidence b w h k =
    let e = read_of w in
    (power_exact ((16384 - e) * b) 24 (absent_small b e h) (lit≤ tt), power_exact (e * (1024 - b)) 24 (present_small b e k) (lit≤ tt))

-- number 5, of an entry
taken : (n : ℕ) → n ≤ 2 ^ 24 → outside least_evidence oneᶠ (ratio n (2 ^ 24)) ≡ false ↔ (1024 ≤ n)
unfolding outside
taken n h = (λ o. over (inside least_evidence oneᶠ x (T-no (outside least_evidence oneᶠ x) o)), under)
  where
    x : Float
    x = ratio n (2 ^ 24)

    v : HasValue x false n (2 ^ 24)
    v = power_exact n 24 h (lit≤ tt)

    over : In least_evidence oneᶠ x → 1024 ≤ n
    over i = let l : 1 * 2 ^ 24 ≤ n * 2 ^ 14 = values_of_le least_evidence x 1 (2 ^ 14) n (2 ^ 24) tt (in_positive i tt) (refl, refl) v i.low in omega arith

    under : 1024 ≤ n → outside least_evidence oneᶠ x ≡ false
    under l =
        let low = le_of_values least_evidence x 1 (2 ^ 14) n (2 ^ 24) (pow_pos 14) (pow_pos 24) (refl, refl) v (omega arith) in
        let high = le_of_values x oneᶠ n (2 ^ 24) 1 1 (pow_pos 24) (pow_pos 0) v (refl, refl) (omega arith) in
        rw (T_true (le least_evidence x) low, T_true (le x oneᶠ) high)

-- where something is left for absent, e is not over 16,384
some_left : (b e : ℕ) → 1024 ≤ (16384 - e) * b → e ≤ 16384
some_left b e h = omega (arith, first_pos (16384 - e) b (omega arith))

pub evidence-taken : EvidenceTaken
unfolding evidence_of bad_evidence
evidence-taken b w h =
    let e = read_of w in
    let absent = taken ((16384 - e) * b) (absent_small b e h) in
    let present : 1024 ≤ (16384 - e) * b → outside least_evidence oneᶠ (ratio (e * (1024 - b)) 16777216) ≡ false ↔ (1024 ≤ e * (1024 - b)) =
    λ a. taken (e * (1024 - b)) (present_small b e (some_left b e a)) in (
      λ o. let x = or_no _ _ o in let a = absent.0 x.0 in (a, (present a).0 x.1),
      λ l. no_or _ _ (absent.1 l.0) ((present l.0).1 l.1),
    )
