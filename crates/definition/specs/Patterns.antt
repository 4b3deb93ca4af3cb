-- All read patterns of a small graph (document 02, S-38; the Rust has nothing of it): in how many of them each grade's present belief is above 1/2, in how
-- many it is not, and in how many it has none; when a call for that is refused, and what it leaves.
use Rattle.std.specs.Prelude.{ℕ, ◌*◌, Bool, List, [], ◌∷◌, map, ltb, Float, length}
use Rattle.std.proofs.Math.Option.{Option}
use Rattle.definition.specs.Lists.{range, concat, how_many, patterns}
use Rattle.definition.specs.Settings.{Settings}
use Rattle.definition.specs.FactorGraph.{Bale}
use Rattle.definition.specs.Refusals.{Verdict, bale_of, lowest_place, or_refused, verdict}
use Rattle.definition.specs.Reads.{all_weak, present_under, is_above, is_not_above, is_missing}
use Rattle.definition.specs.Report.{ReportBuffers, ample_for, sizes_verdict, ReportLent, report_sizes, ReportResult, report_result}

-- ---- the report

-- in how many patterns of reads grade g's present belief is so
unfoldable pub pattern_count : (Option Float → Bool) → Settings → Bale → ℕ → ℕ
pattern_count is s b g = how_many (λ rs. is (present_under s b rs g)) (patterns (length b.markers))

-- three numbers for each grade
unfoldable pub pattern_counts : Settings → Bale → List ℕ
pattern_counts s b =
    concat (map (λ g. pattern_count is_above s b g ∷ pattern_count is_not_above s b g ∷ pattern_count is_missing s b g ∷ []) (range 0 b.grades))

-- ---- what is refused

-- 18, then the plain call's checks in their order, 2 also for a short report. The evidence is not read, so that 5 can't fail.
unfoldable pub pattern_verdict : Settings → ReportBuffers → Bale → Verdict
pattern_verdict s f b =
    let rest = sizes_verdict f (3 * b.grades) b (verdict s (ample_for f b) (all_weak b)) in
    or_refused 18 (lowest_place (ltb 10 (length b.markers) ∷ [])) rest

-- ---- the call

-- the settings, the grade count, two floats for each marker, two numbers for each pair
unfoldable pub pattern_call : Settings → ℕ → List Float → List ℕ → ReportLent → ReportResult
pattern_call s g es ps l = let b = bale_of g es ps in report_result (pattern_verdict s (report_sizes l) b) b g (pattern_counts s b) l
