-- Settings tried on made-up bales (document 02, S-36; the Rust has nothing of it): what is drawn, the bales that a setting makes up one after the other, how
-- often their beliefs agree with what was drawn; when a call for that is refused, and what it leaves.
use Rattle.std.specs.Prelude.{ℕ, zero, suc, ◌*◌, ◌/◌, ◌%◌, ◌^◌, Bool, true, false, not, ◌&&◌, ◌||◌, List, [], ◌∷◌, map, eqb, leb, ltb, Float, length, get_or, replicate}
use Rattle.std.proofs.Math.Option.{Option}
use Rattle.std.specs.Int.Bits.{bit_xor}
use Rattle.definition.specs.Floats.{halfᶠ, ratio}
use Rattle.definition.specs.Lists.{range, filter, how_many, concat}
use Rattle.definition.specs.Settings.{Settings, settings_of}
use Rattle.definition.specs.FactorGraph.{Bale, marker_numbers, grades_of}
use Rattle.definition.specs.Refusals.{Verdict, bale_of, lowest_place, or_refused, verdict}
use Rattle.definition.specs.Reads.{all_weak, present_under, is_above, is_not_above}
use Rattle.definition.specs.Report.{ReportBuffers, ample_for, sizes_verdict, ReportLent, report_sizes, ReportResult, report_result}

-- ---- draws

-- Marsaglia's xorshift on 32 bits: left 13, right 17, left 5. What is shifted out on the left is lost.
unfoldable pub next_number : ℕ → ℕ
next_number x =
    let a = bit_xor x (x * 2 ^ 13 % 2 ^ 32) in
    let b = bit_xor a (a / 2 ^ 17) in
    bit_xor b (b * 2 ^ 5 % 2 ^ 32)

pub record Drawn : Type 0 where
  pub success : Bool
  pub state : ℕ

-- A draw takes the next number, which stays as the state, and succeeds if that number modulo 1,024 is below the limit.
unfoldable pub draw : ℕ → ℕ → Drawn
draw limit x = let y = next_number x in record { success = ltb (y % 1024) limit; state = y }

pub record Draws : Type 0 where
  pub successes : List Bool
  pub state : ℕ

-- one draw against each limit
unfoldable pub draw_each : List ℕ → ℕ → Draws
draw_each [] x = record { successes = []; state = x }
draw_each (l ∷ ls) x =
    let d = draw l x in
    let r = draw_each ls d.state in
    record { successes = d.success ∷ r.successes; state = r.state }

abbrev pub any_of : List Bool → Bool
any_of [] = false
any_of (b ∷ bs) = b || any_of bs

-- for each list of limits, whether any draw against it succeeds; all of it is drawn
unfoldable pub draw_reads : List (List ℕ) → ℕ → Draws
draw_reads [] x = record { successes = []; state = x }
draw_reads (ls ∷ rest) x =
    let d = draw_each ls x in
    let r = draw_reads rest d.state in
    record { successes = any_of d.successes ∷ r.successes; state = r.state }

-- ---- a made-up bale

-- alpha, beta and prior in 1,024ths
pub record TrialSetting : Type 0 where
  pub alpha : ℕ
  pub beta : ℕ
  pub prior : ℕ

-- which grades are present, which markers are read strongly, and the state that is left
pub record MadeUp : Type 0 where
  pub presences : List Bool
  pub reads : List Bool
  pub state : ℕ

-- the grades among gs that are present, in their order
abbrev pub present_among : List Bool → List ℕ → List ℕ
present_among ps gs = filter (λ g. get_or ps g false) gs

-- what a marker with the grades gs draws against: beta, then alpha once for each present grade
unfoldable pub marker_limits : TrialSetting → List Bool → List ℕ → List ℕ
marker_limits t ps gs = t.beta ∷ map (λ g. t.alpha) (present_among ps gs)

-- of every marker, its grades in the order of the pairs
unfoldable pub read_limits : TrialSetting → Bale → List Bool → List (List ℕ)
read_limits t b ps = map (λ m. marker_limits t ps (grades_of b.pairs m)) (marker_numbers b)

unfoldable pub grade_limits : TrialSetting → Bale → List ℕ
grade_limits t b = replicate b.grades t.prior

-- First every grade draws, by its number, then every marker.
unfoldable pub made_up : TrialSetting → Bale → ℕ → MadeUp
made_up t b x =
    let p = draw_each (grade_limits t b) x in
    let r = draw_reads (read_limits t b p.successes) p.state in
    record { presences = p.successes; reads = r.successes; state = r.state }

-- The history: so many bales, each from the state that the one before it left.
unfoldable pub history : TrialSetting → Bale → ℕ → ℕ → List MadeUp
history t b zero x = []
history t b (suc n) x = let d = made_up t b x in d ∷ history t b n d.state

-- ---- the report

-- What is given: the settings to try, the seed, how many bales each makes up, what comes with the call, and the graph, whose own evidence nothing reads.
pub record Trials : Type 0 where
  pub settings : List TrialSetting
  pub seed : ℕ
  pub bales : ℕ
  pub regularised : Bool
  pub tolerance : Float
  pub loop_limit : ℕ
  pub graph : Bale

unfoldable pub settings_with : Trials → Float → Float → Float → Settings
settings_with c a b p = settings_of a b p c.regularised c.tolerance c.loop_limit

unfoldable pub settings_under : Trials → TrialSetting → Settings
settings_under c t = settings_with c (ratio t.alpha 1024) (ratio t.beta 1024) (ratio t.prior 1024)

-- a grade of a made-up bale: whether it was drawn present, and its present belief, which may not be there
pub record Judgement : Type 0 where
  pub drawn : Bool
  pub present : Option Float

-- one for each grade, under settings s
unfoldable pub judgements : Settings → Bale → MadeUp → List Judgement
judgements s b d = map (λ g. record { drawn = get_or d.presences g false; present = present_under s b d.reads g }) (range 0 b.grades)

-- those of a setting's history, which starts from the seed whatever the setting
unfoldable pub all_judgements : Trials → TrialSetting → List Judgement
all_judgements c t = concat (map (judgements (settings_under c t) c.graph) (history t c.graph c.bales c.seed))

-- a present belief above 1/2 agrees with a grade drawn present, any other with one drawn absent; where there is none, it neither agrees nor differs
abbrev pub agrees_with : Bool → Option Float → Bool
agrees_with true x = is_above x
agrees_with false x = is_not_above x

abbrev pub agrees : Judgement → Bool
agrees j = agrees_with j.drawn j.present

abbrev pub differs : Judgement → Bool
differs j = agrees_with (not j.drawn) j.present

-- two numbers for each setting
unfoldable pub setting_counts : Trials → TrialSetting → List ℕ
setting_counts c t = how_many agrees (all_judgements c t) ∷ how_many differs (all_judgements c t) ∷ []

unfoldable pub trial_counts : Trials → List ℕ
trial_counts c = concat (map (setting_counts c) c.settings)

-- ---- what is refused

-- number 3's range in 1,024ths is 1 to 1,023
unfoldable pub outside_range : ℕ → Bool
outside_range n = not (leb 1 n && leb n 1023)

-- three tests for each setting
unfoldable pub setting_tests : List TrialSetting → List Bool
setting_tests ts = concat (map (λ t. outside_range t.alpha ∷ outside_range t.beta ∷ outside_range t.prior ∷ []) ts)

-- 16, 17, 1, 2 and 3 of the settings; then the plain call's checks in their order, for which alpha, beta and prior are 1/2. The evidence is not read, so that
-- 5 can't fail.
unfoldable pub trial_verdict : ReportBuffers → Trials → Verdict
trial_verdict f c =
    let b = c.graph in
    let n = length c.settings in
    let rest = verdict (settings_with c halfᶠ halfᶠ halfᶠ) (ample_for f b) (all_weak b) in
    let v3 = or_refused 3 (lowest_place (setting_tests c.settings)) rest in
    let v17 = or_refused 17 (lowest_place ((ltb 64 n || ltb 1000 c.bales) ∷ [])) (sizes_verdict f (2 * n) b v3) in
    or_refused 16 (lowest_place (eqb c.seed 0 ∷ [])) v17

-- ---- the call

-- three numbers to a setting; a rest of one or two is not read
unfoldable pub trial_settings_of : List ℕ → List TrialSetting
trial_settings_of [] = []
trial_settings_of (a ∷ []) = []
trial_settings_of (a ∷ b ∷ []) = []
trial_settings_of (a ∷ b ∷ p ∷ l) = record { alpha = a; beta = b; prior = p } ∷ trial_settings_of l

-- the settings' numbers, the seed, the bales, the regularised mark, the tolerance, the loop limit, then the graph as in the plain call
abbrev pub trials_of : List ℕ → ℕ → ℕ → Bool → Float → ℕ → ℕ → List Float → List ℕ → Trials
trials_of ns x n r t l g es ps =
    record { settings = trial_settings_of ns; seed = x; bales = n; regularised = r; tolerance = t; loop_limit = l; graph = bale_of g es ps }

unfoldable pub trial_call : Trials → ReportLent → ReportResult
trial_call c l = report_result (trial_verdict (report_sizes l) c) c.graph (length c.settings) (trial_counts c) l
