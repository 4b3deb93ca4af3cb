-- What is claimed of all read patterns of a small graph (document 02, S-38). The crate `theorems` proves each of these types. That the patterns are every list of
-- reads, each once, is `PatternsEachOnce` (Patterns).
use Rattle.std.specs.Prelude.{ℕ, ◌+◌, ◌*◌, ◌^◌, ◌<◌, ◌≡◌, ◌↔◌, Bool, true, false, List, [], ◌∷◌, Float, length, get_or, replicate}
use Rattle.definition.specs.Floats.{zeroᶠ}
use Rattle.definition.specs.Lists.{how_many, patterns}
use Rattle.definition.specs.Settings.{Settings}
use Rattle.definition.specs.FactorGraph.{Bale}
use Rattle.definition.specs.Refusals.{accepted, refused, work_needed, bale_of, verdict}
use Rattle.definition.specs.Call.{overwrite}
use Rattle.definition.specs.Reads.{with_reads, present_under, is_above, is_not_above, is_missing}
use Rattle.definition.specs.Report.{ReportBuffers, ample_for, ReportLent, report_sizes, reported, report_refused}
use Rattle.definition.specs.Patterns.{pattern_counts, pattern_verdict, pattern_call}
use Rattle.claims.specs.Parts.{in_pair}
use Rattle.claims.specs.First.{First}
use Rattle.claims.specs.Refused.{Fails}

-- ---- (1) the report counts patterns

abbrev pub reported_at : Settings → Bale → ℕ → ℕ
reported_at s b i = get_or (pattern_counts s b) i 0

-- Each of a grade's three numbers is the number of patterns with that property, and they add up to 2 to the power of the markers.
pub record GradeCounted (s : Settings) (b : Bale) (g : ℕ) : Type 0 where
  pub above : reported_at s b (3 * g) ≡ how_many (λ rs. is_above (present_under s b rs g)) (patterns (length b.markers))
  pub not_above : reported_at s b (3 * g + 1) ≡ how_many (λ rs. is_not_above (present_under s b rs g)) (patterns (length b.markers))
  pub missing : reported_at s b (3 * g + 2) ≡ how_many (λ rs. is_missing (present_under s b rs g)) (patterns (length b.markers))
  pub sum : reported_at s b (3 * g) + reported_at s b (3 * g + 1) + reported_at s b (3 * g + 2) ≡ 2 ^ length b.markers

-- so it is of every grade, and the report has nothing else
pub record ReportCounted (s : Settings) (b : Bale) : Type 0 where
  pub long : length (pattern_counts s b) ≡ 3 * b.grades
  pub each : (g : ℕ) → g < b.grades → GradeCounted s b g

abbrev pub PatternsCounted : Type 0
PatternsCounted = (s : Settings) (b : Bale) → ReportCounted s b

-- Of an accepted call: a grade in no pair has no belief in any pattern, and any other has one in every pattern.
pub record MissingIsUnpaired (s : Settings) (b : Bale) (g : ℕ) : Type 0 where
  pub unpaired : in_pair b g ≡ false → reported_at s b (3 * g + 2) ≡ 2 ^ length b.markers
  pub paired : in_pair b g ≡ true → reported_at s b (3 * g + 2) ≡ 0

abbrev pub UnpairedMissing : Type 0
UnpairedMissing = (s : Settings) (f : ReportBuffers) (b : Bale) → pattern_verdict s f b ≡ accepted → (g : ℕ) → g < b.grades → MissingIsUnpaired s b g

-- ---- (2) where the call is accepted, so is the bale under every pattern, with room for its answer: no refusal is counted as 'no belief'

abbrev pub EveryPatternAccepted : Type 0
EveryPatternAccepted = (s : Settings) (f : ReportBuffers) (b : Bale) → pattern_verdict s f b ≡ accepted →
    (rs : List Bool) → length rs ≡ length b.markers → verdict s (ample_for f b) (with_reads rs b) ≡ accepted

-- ---- (3) of the evidence only its length counts

abbrev pub EvidenceUnread : Type 0
EvidenceUnread = (s : Settings) (g : ℕ) (es fs : List Float) (ps : List ℕ) (l : ReportLent) → length es ≡ length fs → pattern_call s g es ps l ≡ pattern_call s g fs ps l

-- ---- (4) the table of refusals

-- Check n fails at place p: 18 for over 10 markers, 2 for a report under three numbers a grade; all else as in a plain call, with room for its answer, but that
-- number 5 is no check.
pub data PatternFails (s : Settings) (f : ReportBuffers) (b : Bale) : ℕ → ℕ → Type 0 where
  many_markers : 10 < length b.markers → PatternFails s f b 18 0
  short_report : f.report < 3 * b.grades → PatternFails s f b 2 0
  as_called : {n p : ℕ} → (n ≡ 5 → ⊥) → Fails s (ample_for f b) b n p → PatternFails s f b n p

abbrev pub pattern_order : List ℕ
pattern_order = 18 ∷ 1 ∷ 2 ∷ 3 ∷ 4 ∷ 6 ∷ 7 ∷ 8 ∷ []

-- a call is refused with the first cause in that order, and accepted exactly if there is none
pub record PatternsJudged (s : Settings) (f : ReportBuffers) (b : Bale) : Type 0 where
  pub accepts : pattern_verdict s f b ≡ accepted ↔ ((n p : ℕ) → PatternFails s f b n p → ⊥)
  pub refuses : (n p : ℕ) → pattern_verdict s f b ≡ refused n p ↔ First pattern_order (PatternFails s f b) n p

abbrev pub PatternTable : Type 0
PatternTable = (s : Settings) (f : ReportBuffers) (b : Bale) → PatternsJudged s f b

-- ---- (5) the call: its outcome and all that is lent, whose lengths stay

pub record PatternAnswered (s : Settings) (g : ℕ) (es : List Float) (ps : List ℕ) (l : ReportLent) : Type 0 where
  pub accepted_call : pattern_verdict s (report_sizes l) (bale_of g es ps) ≡ accepted →
      let w = work_needed (bale_of g es ps) in
      pattern_call s g es ps l ≡ record {
        outcome = reported g;
        lent = record {
          work_floats = overwrite (replicate w zeroᶠ) l.work_floats;
          work_numbers = overwrite (replicate w 0) l.work_numbers;
          report = overwrite (pattern_counts s (bale_of g es ps)) l.report;
        };
      }
  pub refused_call : (n p : ℕ) → pattern_verdict s (report_sizes l) (bale_of g es ps) ≡ refused n p →
      pattern_call s g es ps l ≡ record { outcome = report_refused n p; lent = l }
  pub same-lengths : report_sizes (pattern_call s g es ps l).lent ≡ report_sizes l

abbrev pub PatternCallAnswered : Type 0
PatternCallAnswered = (s : Settings) (g : ℕ) (es : List Float) (ps : List ℕ) (l : ReportLent) → PatternAnswered s g es ps l
