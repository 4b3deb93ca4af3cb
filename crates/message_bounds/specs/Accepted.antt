-- What an accepted call's checks 3 and 5 give, where its floats are binary32 values: settings in range, and evidence in bounds.
use Rattle.std.specs.Prelude.{◌≡◌, refl, Bool, true, false, not, ◌&&◌, ◌||◌, List, [], ◌∷◌, map, ℕ, suc, Float}
use Rattle.std.proofs.Math.Option.{Option, none, some}
use Rattle.std.proofs.Common.{arith}
use Rattle.std.proofs.Math.Dec.{T}
use Rattle.std.specs.Float.Ieee.{binary32, le, fits}
use Rattle.std.specs.Float.Ieee.Fits.{and_l, and_r}
use Rattle.float_laws.specs.Interval.{In, in_wider}
use Rattle.claims.specs.Parts.{SettingsFit, EvidenceFits, AllEvidence}
use Rattle.definition.specs.Floats.{c, oneᶠ}
use Rattle.definition.specs.Settings.{Settings}
use Rattle.definition.specs.FactorGraph.{Evidence, Bale, input}
use Rattle.definition.specs.Messages.{initial_belief}
use Rattle.definition.specs.Refusals.{Buffers, outside, least_probability, greatest_probability, least_evidence, bad_evidence, lowest_place_from, lowest_place, Verdict, accepted, refused, or_refused, verdict}
use Rattle.message_bounds.specs.Bounded.{BoundedEntry, BoundedEntries, InRange}

-- ---- a test that found nothing
passed : (n : ℕ) (o : Option ℕ) (v : Verdict) → or_refused n o v ≡ accepted → (o ≡ none) × (v ≡ accepted)
unfolding or_refused
passed n none v e = (refl, e)
passed n (some p) v e = absurd (never n p e)
  where
    never : (n p : ℕ) → refused n p ≡ accepted → ⊥
    never n p e = let z : ◌≡◌ {A = ℕ} 0 1 = cc in omega arith

abbrev AllFalse : List Bool → Type 0
AllFalse [] = Unit {0}
AllFalse (b ∷ bs) = T (not b) × AllFalse bs

nowhere : (i : ℕ) (bs : List Bool) → lowest_place_from i bs ≡ none → AllFalse bs
unfolding lowest_place_from
nowhere i [] e = tt
nowhere i (false ∷ bs) e = (tt, nowhere (suc i) bs e)
nowhere i (true ∷ bs) e = absurd (never i e)
  where
    never : (i : ℕ) → ◌≡◌ {A = Option ℕ} (some i) none → ⊥
    never i e = let z : ◌≡◌ {A = ℕ} 0 1 = cc in omega arith

no_first : (bs : List Bool) → lowest_place bs ≡ none → AllFalse bs
unfolding lowest_place
no_first bs e = nowhere 0 bs e

pub inside : (a b x : Float) → T (not (outside a b x)) → In a b x
unfolding outside
inside a b x h = let t = twice (le a x && le x b) h in record { low = and_l (le a x) (le x b) t; high = and_r (le a x) (le x b) t }
  where
    twice : (b : Bool) → T (not (not b)) → T b
    twice true h = tt
    twice false h = h

neither : (a b : Bool) → T (not (a || b)) → T (not a) × T (not b)
neither true b h = absurd h
neither false b h = (tt, h)

module _ (s : Settings) (f : Buffers) (b : Bale) (A : verdict s f b ≡ accepted) where
  third : AllFalse (map (outside least_probability greatest_probability) (s.alpha ∷ s.beta ∷ s.prior ∷ [])) × AllFalse (map bad_evidence b.markers)
  unfolding verdict
  third =
      let v2 = (passed 1 _ _ A).1 in
      let v3 = (passed 2 _ _ v2).1 in
      let v4 = passed 3 _ _ v3 in
      let v5 = (passed 4 _ _ v4.1).1 in
      (no_first (map (outside least_probability greatest_probability) (s.alpha ∷ s.beta ∷ s.prior ∷ [])) v4.0, no_first (map bad_evidence b.markers) (passed 5 _ _ v5).0)

  pub settings_in_range : SettingsFit s → InRange s
  settings_in_range h =
      let t = third.0 in
      record {
        alpha = record { holds = h.alpha; inside = inside least_probability greatest_probability s.alpha t.0 };
        beta = record { holds = h.beta; inside = inside least_probability greatest_probability s.beta t.1.0 };
        prior = record { holds = h.prior; inside = inside least_probability greatest_probability s.prior t.1.1.0 };
      }

  pub evidence_bounded : AllEvidence EvidenceFits b.markers → AllEvidence (λ e. BoundedEntries (initial_belief s (input e))) b.markers
  unfolding initial_belief bad_evidence
  evidence_bounded h = go b.markers third.1 h
    where
      entry_of : (x : Float) → T (fits binary32 x) → T (not (outside least_evidence oneᶠ x)) → BoundedEntry x
      entry_of x t u = record { holds = t; inside = in_wider c oneᶠ (inside least_evidence oneᶠ x u) (unfold le in tt) }

      go : (es : List Evidence) → AllFalse (map bad_evidence es) → AllEvidence EvidenceFits es → AllEvidence (λ e. BoundedEntries (initial_belief s (input e))) es
      go [] t h = tt
      go (e ∷ es) t h =
          let n = neither (outside least_evidence oneᶠ e.absent) (outside least_evidence oneᶠ e.present) t.0 in
          ((entry_of e.absent h.0.absent n.0, (entry_of e.present h.0.present n.1, tt)), go es t.1 h.1)
