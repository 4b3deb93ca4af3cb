-- The checks of a call that answers with a report, as the plain call's check makes them.
use Rattle.std.specs.Prelude.{ℕ, ◌+◌, ◌*◌, ◌/◌, ◌≡◌, refl, Bool, true, false, ◌||◌, ltb, Float, length, replicate}
use Rattle.std.proofs.Common.{arith, ◌∙◌, lt-ltb}
use Rattle.std.proofs.Math.Path.{sym, ap}
use mathlib.Core.List.{List, [], ◌∷◌, map}
use Rattle.std.proofs.Math.Option.{none}
use Rattle.definition.specs.Settings.{Settings}
use Rattle.definition.specs.FactorGraph.{Bale}
use Rattle.definition.specs.Refusals.{too_many, work_needed, too_small, pairs_of, bale_of, lowest_place, or_refused, verdict}
use Rattle.definition.specs.Reads.{read_evidence, with_reads, all_weak}
use Rattle.definition.specs.Report as definition
use Rattle.definition.specs.Report.{ample_for, sizes_verdict}
use Rattle.graph_laws.specs.Bools.{or_left}
use Rattle.report_laws.specs.Sizes.{later, weakly, sizes_once}
use Rattle.checks.specs.Slices.{length_markers}
use Rattle.reads.specs.declared.check.ReportBuffers.{ReportBuffers}
use Rattle.reads.specs.Put.{read_floats, markers_of_reads}

abbrev pub report_buffers_in : ReportBuffers → definition.ReportBuffers
report_buffers_in f = record { work_floats = f.work_floats; work_numbers = f.work_numbers; report = f.report }

-- the work, or none where the report is short
abbrev pub floats_if : Bool → ℕ → ℕ
floats_if true w = 0
floats_if false w = w

abbrev pub floats_for : definition.ReportBuffers → ℕ → ℕ
floats_for f n = floats_if (ltb f.report n) f.work_floats

-- f with so many floats of work
abbrev pub with_floats : definition.ReportBuffers → ℕ → definition.ReportBuffers
with_floats f w = record { work_floats = w; work_numbers = f.work_numbers; report = f.report }

-- with no work the buffers are too small
small_so : (f : definition.ReportBuffers) (b : Bale) (c : Bool) →
    too_small (ample_for (with_floats f (floats_if c f.work_floats)) b) b ≡ c || too_small (ample_for f b) b
unfolding too_small work_needed ample_for
small_so f b false = refl
small_so f b true =
    let w = 64 * (b.grades + length b.markers + length b.pairs) + 4096 in
    or_left _ _ (or_left _ _ (or_left _ _ (or_left _ _ (or_left _ _ (lt-ltb 0 w (omega arith))))))

module _ (g : ℕ) (ps : List ℕ) (es : List Float) (m : ℕ) (e : length es / 2 ≡ m) where
  weak-reads : bale_of g (read_floats (replicate m false)) ps ≡ all_weak (bale_of g es ps)
  unfolding all_weak with_reads bale_of
  weak-reads =
      let k = markers_of_reads (replicate m false) ∙ ap (λ (n : ℕ). map read_evidence (replicate n false)) (sym e ∙ sym (length_markers es)) in
      λ i. record { grades = g; markers = k i; pairs = pairs_of ps }

  -- one check of the weak reads makes them all
  pub checked : (s : Settings) (f : definition.ReportBuffers) (n : ℕ) →
      verdict s (ample_for (with_floats f (floats_for f n)) (bale_of g es ps)) (bale_of g (read_floats (replicate m false)) ps)
      ≡ sizes_verdict f n (bale_of g es ps) (verdict s (ample_for f (bale_of g es ps)) (all_weak (bale_of g es ps)))
  unfolding sizes_verdict bale_of
  checked s f n =
      let b = bale_of g es ps in
      let F = ample_for (with_floats f (floats_for f n)) b in
      ap (verdict s F) weak-reads ∙ weakly s b F
      ∙ ap (λ (c : Bool). or_refused 1 (lowest_place (too_many 1024 1024 8192 b ∷ [])) (or_refused 2 (lowest_place (c ∷ [])) (later s b (length b.markers) none)))
      (small_so f b (ltb f.report n))
      ∙ sym (sizes_once s f n b (λ v. v))
