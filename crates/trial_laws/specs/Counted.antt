-- Who is counted: in every bale of an accepted call each grade that stands in a pair, once.
use Prim.Native.Nat.{ℕ, zero, suc, ◌+◌, ◌*◌, ◌<◌}
use Rattle.std.proofs.Common.{arith, ◌∙◌}
use Rattle.std.specs.Prelude.{◌≡◌, refl, Bool, true, false, List, [], ◌∷◌, map, Float}
use Rattle.std.proofs.Math.Path.{ap}
use Rattle.std.proofs.Math.Bool.{not, not-not}
use Rattle.std.proofs.Math.Option.{Option, none, some}
use Rattle.std.proofs.Math.ListN.{length, get_or, get_elem?}
use Rattle.definition.specs.Lists.{range, how_many, concat}
use Rattle.definition.specs.Reads.{above_half, present_under, is_missing}
use Rattle.definition.specs.Report.{ReportBuffers, ample_for}
use Rattle.definition.specs.Trials.{TrialSetting, MadeUp, Trials, settings_under, Judgement, judgements, agrees_with, agrees, differs}
use Rattle.claims.specs.Parts.{in_pair}
use Rattle.claims.specs.TriedSettings.{made_up_by, PairedCounted}
use Rattle.graph_laws.specs.Lists.{All, All-mono, filter_cong}
use Rattle.graph_laws.specs.Ranks.{upto-below}
use Rattle.report_laws.specs.Counts.{one_if, count_cons, count_append, count_map}
use Rattle.report_laws.specs.Missing.{missing_under}
use Rattle.trial_laws.specs.History.{history-length}
use Rattle.trial_laws.specs.Report.{histories_counted}
use Rattle.trial_laws.specs.Accepted.{history-reads, InThousands, Accepted, accepted_call, under_accepted}

-- ---- a judgement of a belief agrees or differs

abbrev believed : Judgement → Bool
believed j = not (is_missing j.present)

one_or_other : (js : List Judgement) → how_many agrees js + how_many differs js ≡ how_many believed js
one_or_other [] = refl
one_or_other (j ∷ js) =
    omega
    (arith, count_cons agrees j js, count_cons differs j js, count_cons believed j js, both j.drawn j.present, one_or_other js)
  where
    side : (a : Bool) → one_if a + one_if (not a) ≡ 1
    side true = refl
    side false = refl

    other : (a : Bool) → one_if (not a) + one_if a ≡ 1
    other true = refl
    other false = refl

    both : (d : Bool) (o : Option Float) → one_if (agrees_with d o) + one_if (agrees_with (not d) o) ≡ one_if (not (is_missing o))
    both true none = refl
    both false none = refl
    both true (some x) = side (above_half x)
    both false (some x) = other (above_half x)

-- ---- how many there are

-- lists of which each has k that pass
times : {A B : Type 0} (p : B → Bool) (h : A → List B) (k : ℕ) (xs : List A) → All (λ a. how_many p (h a) ≡ k) xs → how_many p (concat (map h xs)) ≡ length xs * k
times p h k [] a = omega arith
times p h k (x ∷ xs) a =
    count_append p (h x) (concat (map h xs)) ∙ omega (arith, a.0, times p h k xs a.1)

abbrev judged : Trials → TrialSetting → MadeUp → List Judgement
judged c t = judgements (settings_under c t) c.graph

module _ (f : ReportBuffers) (c : Trials) (A : Accepted f c) (t : TrialSetting) (i : InThousands t) where
  bale-counted : (d : MadeUp) → length d.reads ≡ length c.graph.markers →
      how_many believed (judged c t d) ≡ how_many (in_pair c.graph) (range 0 c.graph.grades)
  unfolding judgements
  bale-counted d n =
      let b = c.graph in
      let rest = range 0 b.grades in
      let s = settings_under c t in
      let at : ℕ → Judgement = λ g. record { drawn = get_or d.presences g false; present = present_under s b d.reads g } in
      let accepts = under_accepted c t i f A d.reads n in
      let each : All (λ g. believed (at g) ≡ in_pair b g) rest =
      All-mono (λ g. g < b.grades) (λ g. believed (at g) ≡ in_pair b g)
      (λ g l. ap not (missing_under s (ample_for f b) b d.reads accepts g l) ∙ not-not (in_pair b g)) rest (upto-below b.grades) in
      count_map at believed rest
      ∙ ap length (filter_cong (λ g. believed (at g)) (in_pair b) rest each)

  history-counted : how_many believed (concat (map (judged c t) (made_up_by c t))) ≡ c.bales * how_many (in_pair c.graph) (range 0 c.graph.grades)
  history-counted =
      let k = how_many (in_pair c.graph) (range 0 c.graph.grades) in
      let h = made_up_by c t in
      times believed (judged c t) k h
      (All-mono (λ d. length d.reads ≡ length c.graph.markers) (λ d. how_many believed (judged c t d) ≡ k) bale-counted h
      (history-reads t c.graph c.bales c.seed))
      ∙ ap (λ (n : ℕ). n * k) (history-length t c.graph c.bales c.seed)

-- a setting at each place
setting_at : (ts : List TrialSetting) (i : ℕ) → i < length ts → All InThousands ts → (t : TrialSetting) × (get_elem? ts i ≡ some t) × InThousands t
setting_at [] i l h = absurd (let z : ⊥ = omega arith in z)
setting_at (t ∷ ts) zero l h = (t, refl, h.0)
setting_at (t ∷ ts) (suc i) l h = setting_at ts i (omega arith) h.1

pub paired_counted : PairedCounted
paired_counted f c h i l =
    let A = accepted_call f c h in
    let s = setting_at c.settings i l A.settings in
    let r = (histories_counted c).each i s.0 s.1 in
    (λ k. r.agreed k + r.differed k) ∙ one_or_other (concat (map (judged c s.0) (made_up_by c s.0))) ∙ history-counted f c A s.0 s.2
