-- What a call that answers with a report leaves: buffers of the lengths that they had.
use Rattle.std.specs.Prelude.{ℕ, ◌≡◌, List, length, replicate}
use Rattle.std.proofs.Common.{arith}
use Rattle.std.proofs.Math.Path.{refl}
use Rattle.std.proofs.Math.ListN.{length-replicate}
use Rattle.definition.specs.Floats.{zeroᶠ}
use Rattle.definition.specs.FactorGraph.{Bale}
use Rattle.definition.specs.Refusals.{Verdict, accepted, refused, work_needed}
use Rattle.definition.specs.Report.{ReportLent, report_sizes, report_result}
use Rattle.graph_laws.specs.Overwriting.{over-length}
use Rattle.report_laws.specs.Sizes.{Sized}

module _ (b : Bale) (n : ℕ) (r : List ℕ) (l : ReportLent) where
  -- v is the verdict; where it accepts, the report and the needed work fit
  pub result_lengths : (v : Verdict) → (v ≡ accepted → Sized (report_sizes l) (length r) b) → report_sizes (report_result v b n r l).lent ≡ report_sizes l
  unfolding report_result report_sizes
  result_lengths (refused k p) h = refl
  result_lengths accepted h =
      let f = h refl in
      λ i. record {
        work_floats = over-length (replicate (work_needed b) zeroᶠ) l.work_floats (omega (arith, length-replicate (work_needed b) zeroᶠ, f.work_floats)) i;
        work_numbers = over-length (replicate (work_needed b) 0) l.work_numbers (omega (arith, length-replicate {A = ℕ} (work_needed b) 0, f.work_numbers)) i;
        report = over-length r l.report f.report i;
      }
