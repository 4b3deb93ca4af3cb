-- Two graphs that differ in their evidence alone, for as many markers: a call that answers with a report takes them for one.
use Rattle.std.specs.Prelude.{ℕ, ◌+◌, ◌*◌, ◌/◌, ◌≡◌, false, ◌||◌, List, [], ◌∷◌, map, Float, replicate}
use Rattle.std.proofs.Math.Path.{refl, ap}
use Rattle.std.proofs.Common.{sym, ◌∙◌}
use Rattle.std.proofs.Math.Dec.{ltb}
use Rattle.std.proofs.Math.ListN.{length}
use Rattle.definition.specs.Floats.{zeroᶠ}
use Rattle.definition.specs.FactorGraph.{Evidence, Pair, Bale}
use Rattle.definition.specs.Refusals.{Verdict, accepted, refused, too_many, work_needed, too_small, markers_of, lowest_place, or_refused}
use Rattle.definition.specs.Call.{overwrite}
use Rattle.definition.specs.Reads.{read_evidence, with_reads, all_weak}
use Rattle.definition.specs.Report.{ReportBuffers, ample_for, sizes_verdict, ReportLent, reported, report_result}
use Rattle.graph_laws.specs.Twos.{length-twos}

-- evidence of one length is of as many markers
pub markers_same : (es fs : List Float) → length es ≡ length fs → length (markers_of es) ≡ length (markers_of fs)
unfolding markers_of
markers_same es fs e =
    let long = length-twos {B = Evidence} (λ a p. record { absent = a; present = p }) in
    long es ∙ ap (λ (n : ℕ). n / 2) e ∙ sym (long fs)

module _ (g : ℕ) (ps : List Pair) (ms ns : List Evidence) (e : length ms ≡ length ns) where
  abbrev pub given : List Evidence → Bale
  given xs = record { grades = g; markers = xs; pairs = ps }

  pub work-same : work_needed (given ms) ≡ work_needed (given ns)
  unfolding work_needed
  work-same = ap (λ (m : ℕ). 64 * (g + m + length ps) + 4096) e

  pub weak-same : all_weak (given ms) ≡ all_weak (given ns)
  unfolding all_weak with_reads
  weak-same = ap (λ (m : ℕ). given (map read_evidence (replicate m false))) e

  pub sizes-same : (f : ReportBuffers) (n : ℕ) (v : Verdict) → sizes_verdict f n (given ms) v ≡ sizes_verdict f n (given ns) v
  unfolding sizes_verdict too_many too_small work_needed ample_for
  sizes-same f n v =
      λ i.
      let w = work-same i in
      let small = ltb f.work_floats w || ltb f.work_numbers w || ltb g g || ltb (2 * g) (2 * g) || ltb (4 * g) (4 * g) || ltb g g in
      or_refused 1 (lowest_place ((ltb 1024 g || ltb 1024 (e i) || ltb 8192 (length ps)) ∷ [])) (or_refused 2 (lowest_place ((ltb f.report n || small) ∷ [])) v)

  pub result_same : (v : Verdict) (n : ℕ) (r : List ℕ) (l : ReportLent) → report_result v (given ms) n r l ≡ report_result v (given ns) n r l
  unfolding report_result
  result_same accepted n r l =
      λ i. record {
        outcome = reported n;
        lent = record {
          work_floats = overwrite (replicate (work-same i) zeroᶠ) l.work_floats;
          work_numbers = overwrite (replicate (work-same i) 0) l.work_numbers;
          report = overwrite r l.report;
        };
      }
  result_same (refused k p) n r l = refl
