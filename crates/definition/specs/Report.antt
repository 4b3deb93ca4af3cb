-- A call that runs a graph under many reads and answers with a report of numbers (document 02, S-36 and S-38; the Rust has nothing of it): what it is
-- lent, which of its checks are the plain call's, and what it leaves.
use Rattle.std.specs.Prelude.{ℕ, ◌||◌, List, [], ◌∷◌, ltb, Float, length, replicate}
use Rattle.definition.specs.Floats.{zeroᶠ}
use Rattle.definition.specs.FactorGraph.{Bale}
use Rattle.definition.specs.Refusals.{Buffers, Verdict, accepted, refused, too_many, needed, work_needed, too_small, lowest_place, or_refused}
use Rattle.definition.specs.Call.{overwrite}

-- ---- what is refused

-- how many entries each buffer has that the caller lends
pub record ReportBuffers : Type 0 where
  pub work_floats : ℕ
  pub work_numbers : ℕ
  pub report : ℕ

-- the lent work, and as much room for each run's answer as the plain call asks for
unfoldable pub ample_for : ReportBuffers → Bale → Buffers
ample_for f b =
    let n = needed b in
    record {
      work_floats = f.work_floats;
      work_numbers = f.work_numbers;
      belief_numbers = n.belief_numbers;
      belief_floats = n.belief_floats;
      ending_numbers = n.ending_numbers;
      ending_floats = n.ending_floats;
    }

-- 1, and 2 for the work or a report under n numbers; v is what the later checks say
unfoldable pub sizes_verdict : ReportBuffers → ℕ → Bale → Verdict → Verdict
sizes_verdict f n b v =
    let v2 = or_refused 2 (lowest_place ((ltb f.report n || too_small (ample_for f b) b) ∷ [])) v in
    or_refused 1 (lowest_place (too_many 1024 1024 8192 b ∷ [])) v2

-- ---- what it leaves

-- what the caller lends, and gets back
pub record ReportLent : Type 0 where
  pub work_floats : List Float
  pub work_numbers : List ℕ
  pub report : List ℕ

unfoldable pub report_sizes : ReportLent → ReportBuffers
report_sizes l = record { work_floats = length l.work_floats; work_numbers = length l.work_numbers; report = length l.report }

-- so many grades or settings were reported; or the refusal's number and place
pub data ReportOutcome : Type 0 where
  reported : ℕ → ReportOutcome
  report_refused : ℕ → ℕ → ReportOutcome

pub record ReportResult : Type 0 where
  pub outcome : ReportOutcome
  pub lent : ReportLent

-- The report r, of n things, stands at the front of its buffer, and the work that the graph needs is zero. A refusal leaves every buffer as it was.
unfoldable pub report_result : Verdict → Bale → ℕ → List ℕ → ReportLent → ReportResult
report_result accepted b n r l =
    record {
      outcome = reported n;
      lent = record {
        work_floats = overwrite (replicate (work_needed b) zeroᶠ) l.work_floats;
        work_numbers = overwrite (replicate (work_needed b) 0) l.work_numbers;
        report = overwrite r l.report;
      };
    }
report_result (refused n p) b k r l = record { outcome = report_refused n p; lent = l }
