-- The call over all read patterns: every pattern of an accepted one is accepted, of the evidence only its length counts, and what it leaves.
use Rattle.std.specs.Prelude.{ℕ, ◌*◌, ◌≡◌, refl, Bool, false, List, [], ◌∷◌, map, ltb, Float, length, replicate}
use Rattle.std.proofs.Common.{sym, ◌∙◌}
use Rattle.std.proofs.Math.Path.{ap}
use Rattle.std.proofs.Math.Option.{Option}
use Rattle.std.proofs.lemmas.List.{length-replicate}
use Rattle.definition.specs.Lists.{range, concat, how_many, patterns}
use Rattle.definition.specs.Settings.{Settings}
use Rattle.definition.specs.FactorGraph.{Evidence, Pair, Bale}
use Rattle.definition.specs.Refusals.{Verdict, accepted, markers_of, pairs_of, bale_of, lowest_place, or_refused, verdict}
use Rattle.definition.specs.Reads.{with_reads, all_weak, present_under, is_above, is_not_above, is_missing}
use Rattle.definition.specs.Report.{ReportBuffers, ample_for, sizes_verdict, ReportLent, report_sizes, ReportResult, report_result}
use Rattle.definition.specs.Patterns.{pattern_count, pattern_counts, pattern_verdict, pattern_call}
use Rattle.claims.specs.AllPatterns.{EveryPatternAccepted, EvidenceUnread, PatternCallAnswered}
use Rattle.graph_laws.specs.Accepted.{passed, passes_all}
use Rattle.report_laws.specs.Under.{reads_accepted, room_under}
use Rattle.report_laws.specs.Sizes.{Sized, sizes-passed}
use Rattle.report_laws.specs.Result.{result_lengths}
use Rattle.report_laws.specs.Unread.{markers_same, weak-same, sizes-same, result_same}
use Rattle.pattern_laws.specs.Report.{report_long}

-- ---- every pattern is accepted

pub every-pattern_accepted : EveryPatternAccepted
unfolding pattern_verdict all_weak
every-pattern_accepted s f b h rs n =
    let m = length b.markers in
    let e : length (replicate m false) ≡ length rs = length-replicate m false ∙ sym n in
    let v = (sizes-passed f (3 * b.grades) b _ (passed 18 _ _ h).1).1 in
    let p = passes_all s (ample_for f b) (all_weak b) v in
    reads_accepted s s (ample_for f b) (ample_for f b) b (replicate m false) rs e p.numbers refl refl
    (sym (room_under (ample_for f b) b (replicate m false) rs e) ∙ p.buffers.0) v

-- ---- the evidence

module _ (g : ℕ) (ps : List Pair) (ms ns : List Evidence) (e : length ms ≡ length ns) where
  abbrev given : List Evidence → Bale
  given xs = record { grades = g; markers = xs; pairs = ps }

  count_same : (s : Settings) (is : Option Float → Bool) (h : ℕ) → pattern_count is s (given ms) h ≡ pattern_count is s (given ns) h
  unfolding pattern_count with_reads
  count_same s is h = ap (λ (k : ℕ). how_many (λ rs. is (present_under s (given ms) rs h)) (patterns k)) e

  counts_same : (s : Settings) → pattern_counts s (given ms) ≡ pattern_counts s (given ns)
  unfolding pattern_counts
  counts_same s = λ i. concat (map (λ h. count_same s is_above h i ∷ count_same s is_not_above h i ∷ count_same s is_missing h i ∷ []) (range 0 g))

  verdict-same : (s : Settings) (f : ReportBuffers) → pattern_verdict s f (given ms) ≡ pattern_verdict s f (given ns)
  unfolding pattern_verdict ample_for
  verdict-same s f =
      let weakly : Bale → Verdict = verdict s (ample_for f (given ms)) in
      let sizes =
      sizes-same g ps ms ns e f (3 * g) (weakly (all_weak (given ms))) ∙ ap (λ (b : Bale). sizes_verdict f (3 * g) (given ns) (weakly b)) (weak-same g ps ms ns e) in
      λ i. or_refused 18 (lowest_place (ltb 10 (e i) ∷ [])) (sizes i)

  pub call_same : (s : Settings) (l : ReportLent) (f : ReportBuffers) →
      report_result (pattern_verdict s f (given ms)) (given ms) g (pattern_counts s (given ms)) l
      ≡ report_result (pattern_verdict s f (given ns)) (given ns) g (pattern_counts s (given ns)) l
  call_same s l f =
      result_same g ps ms ns e (pattern_verdict s f (given ms)) g (pattern_counts s (given ms)) l
      ∙ (λ i. report_result (verdict-same s f i) (given ns) g (counts_same s i) l)

pub evidence_unread : EvidenceUnread
unfolding pattern_call bale_of
evidence_unread s g es fs ps l e = call_same g (pairs_of ps) (markers_of es) (markers_of fs) (markers_same es fs e) s l (report_sizes l)

-- ---- what it leaves

-- the report and the needed work fit
sized : (s : Settings) (f : ReportBuffers) (b : Bale) → pattern_verdict s f b ≡ accepted → Sized f (length (pattern_counts s b)) b
unfolding pattern_verdict
sized s f b h = rw (report_long s b) (sizes-passed f (3 * b.grades) b _ (passed 18 _ _ h).1).0

pub call_answered : PatternCallAnswered
unfolding pattern_call report_result bale_of
call_answered s g es ps l =
    let b = bale_of g es ps in
    let result_for : Verdict → ReportResult = λ v. report_result v b g (pattern_counts s b) l in
    record {
      accepted_call = λ h. ap result_for h;
      refused_call = λ n p h. ap result_for h;
      same-lengths = result_lengths b g (pattern_counts s b) l (pattern_verdict s (report_sizes l) b) (sized s (report_sizes l) b);
    }
