-- The call as the code has it, and the definition's.
use Rattle.std.specs.Prelude.{ℕ, ◌*◌, ◌/◌, ◌≤◌, ◌<◌, ◌≡◌, Ok, Err, List, Float}
use native.Mathlib.Omega.{arith}
use Rattle.std.proofs.Math.Path.{sym, ap}
use Rattle.std.proofs.Common.{◌∙◌}
use Rattle.std.proofs.Math.ListN.{length}
use Rattle.definition.specs.Settings.{Settings}
use Rattle.definition.specs.FactorGraph.{Bale}
use Rattle.definition.specs.Refusals.{Verdict, accepted, refused, markers_of, pairs_of, bale_of, lowest_place, verdict}
use Rattle.graph_laws.specs.Accepted.{nowhere}
use Rattle.graph_laws.specs.Bools.{ltb_no}
use Rattle.checks.specs.Slices.{length_markers}
use Rattle.checks.specs.declared.refusal.Check.TheVariants.{TooManyMarkers}
use Rattle.checks.specs.declared.refusal.Refusal.{Refusal}
use Rattle.checks.specs.Verdicts.{number_of, skip}
use Rattle.definition.specs.Reads.{with_reads, all_weak}
use Rattle.definition.specs.Report.{ample_for, sizes_verdict, ReportLent, report_sizes, reported, report_result}
use Rattle.definition.specs.Patterns.{pattern_counts, pattern_verdict, pattern_call}
use Rattle.pattern_laws.specs.Call.{every-pattern_accepted, call_same}
use Rattle.claims.specs.First.{First}
use Rattle.claims.specs.AllPatterns.{PatternFails, many_markers, short_report, pattern_order}
use Rattle.pattern_laws.specs.Numbers.{pattern_at, length-pattern}
use Rattle.pattern_laws.specs.Table.{pattern_table, none_fails}
use Rattle.reads.specs.Put.{read_floats}
use Rattle.reads.specs.Room.{run_accepted}
use Rattle.reads.specs.Reported.{report_lent_with, report_result_with}
use Rattle.patterns.specs.Pattern.{pattern_bale, markers_many}
use Rattle.patterns.specs.All.{Countable, CountedAll}

module _ (s : Settings) (g : ℕ) (es : List Float) (ps : List ℕ) (l : ReportLent) where
  pub too_many_lem : 10 < length es / 2 → report_result_with (Err record { check = TooManyMarkers; place = 0 }) l ≡ pattern_call s g es ps l
  unfolding pattern_call report_result bale_of
  too_many_lem h =
      let first : First pattern_order (PatternFails s (report_sizes l) (bale_of g es ps)) 18 0 =
      record { fails = many_markers (omega (arith, length_markers es)); place = λ q k. absurd (let z : ⊥ = omega arith in z); earlier = λ m q k. absurd (let z : ⊥ = omega arith in z) } in
      sym
      (ap (λ (v : Verdict). report_result v (bale_of g es ps) g (pattern_counts s (bale_of g es ps)) l)
      (((pattern_table s (report_sizes l) (bale_of g es ps)).refuses 18 0).1 first))

  module _ (m : ℕ) (few : m ≡ length es / 2) where
    abbrev b : Bale
    b = pattern_bale g m 0 ps

    call-is : pattern_call s g es ps l
        ≡ report_result (pattern_verdict s (report_sizes l) (pattern_bale g m 0 ps)) (pattern_bale g m 0 ps) g (pattern_counts s (pattern_bale g m 0 ps)) l
    unfolding pattern_call bale_of
    call-is = call_same g (pairs_of ps) (markers_of es) _ (length_markers es ∙ sym few ∙ sym (markers_many g m 0 ps)) s l (report_sizes l)

    -- of at most 10 markers the checks are those of the weak reads
    pub call-judged : m ≤ 10 →
        sizes_verdict (report_sizes l) (3 * g) (pattern_bale g m 0 ps) (verdict s (ample_for (report_sizes l) (pattern_bale g m 0 ps)) (all_weak (pattern_bale g m 0 ps)))
        ≡ pattern_verdict s (report_sizes l) (pattern_bale g m 0 ps)
    unfolding pattern_verdict bale_of lowest_place
    call-judged h = sym (skip 18 _ _ (nowhere 0 _ (ltb_no 10 (length b.markers) (omega (arith, markers_many g m 0 ps)), tt)))

    pub call_refused : (r : Refusal) → refused (number_of r.check) r.place ≡ pattern_verdict s (report_sizes l) (pattern_bale g m 0 ps) → report_result_with (Err r) l ≡ pattern_call s g es ps l
    unfolding report_result
    call_refused r e = ap (λ (v : Verdict). report_result v b g (pattern_counts s b) l) e ∙ sym call-is

    module _ (A : accepted ≡ pattern_verdict s (report_sizes l) (pattern_bale g m 0 ps)) where
      pub call_countable : m ≤ 10 → (n : ℕ) → n ≡ 2 * m → Countable s g m ps n (length l.work_floats) (length l.work_numbers) (length l.report)
      unfolding pattern_verdict report_sizes bale_of with_reads
      call_countable few₁₀ n e =
          let f = report_sizes l in
          let short : length l.report < 3 * g → ⊥ = λ k. none_fails s f b (sym A) 2 0 (short_report k) in
          record {
            markers = few₁₀;
            evidence = e;
            report = omega arith;
            accepts = λ p.
                let rs = pattern_at m p in
                let h = every-pattern_accepted s f b (sym A) rs (length-pattern m p ∙ sym (markers_many g m 0 ps)) in
                run_accepted s f g (read_floats (pattern_at m 0)) ps rs h;
          }

      pub call-counted :
          (wf : List Float) (wn r : List ℕ) → CountedAll s g m ps l.work_floats l.work_numbers l.report wf wn r →
          report_result_with (Ok g) (report_lent_with wf wn r) ≡ pattern_call s g es ps l
      unfolding report_result bale_of
      call-counted wf wn r C =
          (λ i. record { outcome = reported g; lent = record { work_floats = C.work_floats i; work_numbers = C.work_numbers i; report = C.report i } })
          ∙ ap (λ (v : Verdict). report_result v b g (pattern_counts s b) l) A ∙ sym call-is
