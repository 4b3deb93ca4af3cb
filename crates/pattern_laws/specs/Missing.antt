-- Which grades have no belief: in the report of all patterns a grade in no pair is missing in every pattern, and any other in none.
use Rattle.std.specs.Prelude.{ℕ, zero, suc, ◌<◌, ◌≡◌, refl, Bool, true, false, not, List, [], ◌∷◌, map, length}
use Rattle.std.proofs.Common.{ap, ◌∙◌}
use Rattle.definition.specs.Lists.{patterns}
use Rattle.definition.specs.Settings.{Settings}
use Rattle.definition.specs.FactorGraph.{Bale}
use Rattle.definition.specs.Refusals.{accepted}
use Rattle.definition.specs.Reads.{present_under, is_missing}
use Rattle.definition.specs.Report.{ReportBuffers, ample_for}
use Rattle.definition.specs.Patterns.{pattern_verdict}
use Rattle.claims.specs.Parts.{in_pair}
use Rattle.claims.specs.AllPatterns.{MissingIsUnpaired, UnpairedMissing}
use Rattle.graph_laws.specs.Lists.{All, All-append, All-mono, filter_none, filter-every}
use Rattle.graph_laws.specs.Patterns.{length-patterns}
use Rattle.report_laws.specs.Missing.{missing_under}
use Rattle.pattern_laws.specs.Report.{patterns-counted}
use Rattle.pattern_laws.specs.Call.{every-pattern_accepted}

-- one read more before each
longer : (c : Bool) (m : ℕ) (ps : List (List Bool)) → All (λ rs. length rs ≡ m) ps → All (λ rs. length rs ≡ suc m) (map (λ (rs : List Bool). c ∷ rs) ps)
longer c m [] h = tt
longer c m (rs ∷ ps) h = (ap suc h.0, longer c m ps h.1)

-- each pattern of m markers has m reads
patterns-long : (m : ℕ) → All (λ rs. length rs ≡ m) (patterns m)
unfolding patterns
patterns-long zero = (refl, tt)
patterns-long (suc m) =
    let r = patterns-long m in
    All-append (λ rs. length rs ≡ suc m) (map (λ (rs : List Bool). false ∷ rs) (patterns m)) (map (λ (rs : List Bool). true ∷ rs) (patterns m))
    (longer false m (patterns m) r) (longer true m (patterns m) r)

module _ (s : Settings) (f : ReportBuffers) (b : Bale) (h : pattern_verdict s f b ≡ accepted) (g : ℕ) (l : g < b.grades) where
  -- in a pattern
  missing_in : (rs : List Bool) → length rs ≡ length b.markers → is_missing (present_under s b rs g) ≡ not (in_pair b g)
  missing_in rs n = missing_under s (ample_for f b) b rs (every-pattern_accepted s f b h rs n) g l

  -- in every pattern alike
  missing_each : (c : Bool) → not (in_pair b g) ≡ c → All (λ rs. is_missing (present_under s b rs g) ≡ c) (patterns (length b.markers))
  missing_each c e =
      All-mono (λ rs. length rs ≡ length b.markers) (λ rs. is_missing (present_under s b rs g) ≡ c) (λ rs n. missing_in rs n ∙ e)
      (patterns (length b.markers)) (patterns-long (length b.markers))

  reported_unpaired : MissingIsUnpaired s b g
  reported_unpaired =
      let m = length b.markers in
      let test : List Bool → Bool = λ rs. is_missing (present_under s b rs g) in
      let count = ((patterns-counted s b).each g l).missing in
      record {
        unpaired = λ e. count ∙ ap length (filter-every test (patterns m) (missing_each true (ap not e))) ∙ length-patterns m;
        paired = λ e. count ∙ ap length (filter_none test (patterns m) (missing_each false (ap not e)));
      }

-- A grade in no pair is missing in every pattern, and any other in none.
pub unpaired_missing : UnpairedMissing
unpaired_missing s f b h g l = reported_unpaired s f b h g l
