-- The table of refusals of a call over all read patterns: refused with the first cause, 18 ahead of all others, and accepted exactly if there is none.
use Rattle.std.specs.Prelude.{ℕ, zero, suc, ◌*◌, ◌≡◌, refl, ◌⊎◌, true, false, ◌||◌, List, [], ◌∷◌, map, ltb, length, get_or}
use Rattle.std.proofs.Common.{arith, inl, inr, ltb-true, lt-ltb}
use Rattle.std.proofs.Math.Path.{ap}
use Rattle.std.proofs.lemmas.Bool.{false≢true}
use Rattle.definition.specs.Settings.{Settings}
use Rattle.definition.specs.FactorGraph.{Bale, marker_numbers}
use Rattle.definition.specs.Refusals.{accepted, outside, least_probability, greatest_probability, too_many, too_small, bad_tolerance, unknown_pair, lowest_place, repeated_pairs, too_many_grades, or_refused}
use Rattle.definition.specs.Report.{ReportBuffers, ample_for, sizes_verdict}
use Rattle.definition.specs.Patterns.{pattern_verdict}
use Rattle.claims.specs.Refused.{Fails}
use Rattle.claims.specs.AllPatterns.{PatternFails, many_markers, short_report, as_called, pattern_order, PatternTable}
use Rattle.graph_laws.specs.Bools.{or_cases, or_left, or_right}
use Rattle.graph_laws.specs.FirstChecks.{Check, test, number_at, first_of, accepted_none, accepted_exactly, refused_exactly}
use Rattle.graph_laws.specs.Refused.{checks, row, listed}
use Rattle.report_laws.specs.Sizes.{sizes_once}

-- ---- the checks as lists of tests, in their order

abbrev pattern_checks : Settings → ReportBuffers → Bale → List Check
pattern_checks s f b =
    (18, ltb 10 (length b.markers) ∷ [])
    ∷ (1, too_many 1024 1024 8192 b ∷ [])
    ∷ (2, (ltb f.report (3 * b.grades) || too_small (ample_for f b) b) ∷ [])
    ∷ (3, map (outside least_probability greatest_probability) (s.alpha ∷ s.beta ∷ s.prior ∷ []))
    ∷ (4, bad_tolerance s.tolerance ∷ ltb 1000000 s.loop_limit ∷ [])
    ∷ (6, map (unknown_pair b) b.pairs)
    ∷ (7, repeated_pairs [] b.pairs)
    ∷ (8, map (too_many_grades b) (marker_numbers b))
    ∷ []

-- ---- the verdict is the first of them

module _ (s : Settings) (f : ReportBuffers) (b : Bale) where
  verdict-first : pattern_verdict s f b ≡ first_of (pattern_checks s f b)
  unfolding pattern_verdict sizes_verdict unknown_pair too_many_grades or_refused
  verdict-first = ap (or_refused 18 (lowest_place (ltb 10 (length b.markers) ∷ []))) (sizes_once s f (3 * b.grades) b (λ v. v))

  -- ---- the rows

  too_many_lem : (p : ℕ) → get_or (ltb 10 (length b.markers) ∷ []) p false ≡ true → PatternFails s f b 18 p
  too_many_lem zero h = many_markers (ltb-true _ _ h)
  too_many_lem (suc p) h = absurd (false≢true h)

  called : (n p : ℕ) → (n ≡ 5 → ⊥) → Fails s (ample_for f b) b n p → PatternFails s f b n p
  called n p e w = as_called e w

  small : (p : ℕ) → get_or ((ltb f.report (3 * b.grades) || too_small (ample_for f b) b) ∷ []) p false ≡ true → PatternFails s f b 2 p
  small (suc p) h = absurd (false≢true h)
  small zero h = go (or_cases (ltb f.report (3 * b.grades)) (too_small (ample_for f b) b) h)
    where
      go : (ltb f.report (3 * b.grades) ≡ true) ⊎ (too_small (ample_for f b) b ≡ true) → PatternFails s f b 2 0
      go (inl e) = short_report (ltb-true _ _ e)
      go (inr e) = called 2 0 (omega arith) (row s (ample_for f b) b 1 0 e)

  pattern-row : (k p : ℕ) → test (pattern_checks s f b) k p ≡ true → PatternFails s f b (number_at (pattern_checks s f b) k) p
  pattern-row zero p h = too_many_lem p h
  pattern-row (suc zero) p h = called 1 p (omega arith) (row s (ample_for f b) b 0 p h)
  pattern-row (suc (suc zero)) p h = small p h
  pattern-row (suc (suc (suc zero))) p h = called 3 p (omega arith) (row s (ample_for f b) b 2 p h)
  pattern-row (suc (suc (suc (suc zero)))) p h = called 4 p (omega arith) (row s (ample_for f b) b 3 p h)
  pattern-row (suc (suc (suc (suc (suc zero))))) p h = called 6 p (omega arith) (row s (ample_for f b) b 5 p h)
  pattern-row (suc (suc (suc (suc (suc (suc zero)))))) p h = called 7 p (omega arith) (row s (ample_for f b) b 6 p h)
  pattern-row (suc (suc (suc (suc (suc (suc (suc zero))))))) p h = called 8 p (omega arith) (row s (ample_for f b) b 7 p h)
  pattern-row (suc (suc (suc (suc (suc (suc (suc (suc k)))))))) p h = absurd (false≢true h)

  abbrev PatternListed : ℕ → ℕ → Type 0
  PatternListed n p = (k : ℕ) × (n ≡ number_at (pattern_checks s f b) k) × (test (pattern_checks s f b) k p ≡ true)

  -- a test of the plain call, but of 5, is one of these
  again : (n p k : ℕ) → (n ≡ 5 → ⊥) → n ≡ number_at (checks s (ample_for f b) b) k → test (checks s (ample_for f b) b) k p ≡ true → PatternListed n p
  again n zero (suc zero) e i t = (2, i, or_right (ltb f.report (3 * b.grades)) _ t)
  again n (suc p) (suc zero) e i t = absurd (false≢true t)
  again n p zero e i t = (1, i, t)
  again n p (suc (suc zero)) e i t = (3, i, t)
  again n p (suc (suc (suc zero))) e i t = (4, i, t)
  again n p (suc (suc (suc (suc zero)))) e i t = absurd (e i)
  again n p (suc (suc (suc (suc (suc zero))))) e i t = (5, i, t)
  again n p (suc (suc (suc (suc (suc (suc zero)))))) e i t = (6, i, t)
  again n p (suc (suc (suc (suc (suc (suc (suc zero))))))) e i t = (7, i, t)
  again n p (suc (suc (suc (suc (suc (suc (suc (suc k)))))))) e i t = absurd (false≢true t)

  pattern-listed : {n p : ℕ} → PatternFails s f b n p → PatternListed n p
  pattern-listed (many_markers l) = (0, refl, lt-ltb _ _ l)
  pattern-listed (short_report l) = (2, refl, or_left _ _ (lt-ltb _ _ l))
  pattern-listed (as_called {n = n} {p = p} e w) = let t = listed s (ample_for f b) b w in again n p t.0 e t.1 t.2

  -- no check fails of an accepted call
  pub none_fails : pattern_verdict s f b ≡ accepted → (n p : ℕ) → PatternFails s f b n p → ⊥
  none_fails = accepted_none pattern_order (PatternFails s f b) (pattern_checks s f b) (pattern_verdict s f b) verdict-first refl pattern-row (λ n p. pattern-listed)

pub pattern_table : PatternTable
pattern_table s f b =
    record {
      accepts = accepted_exactly pattern_order (PatternFails s f b) (pattern_checks s f b) (pattern_verdict s f b) (verdict-first s f b) refl (pattern-row s f b) (λ n p. pattern-listed s f b);
      refuses = refused_exactly pattern_order (PatternFails s f b) (pattern_checks s f b) (pattern_verdict s f b) (verdict-first s f b) refl (pattern-row s f b) (λ n p. pattern-listed s f b);
    }
