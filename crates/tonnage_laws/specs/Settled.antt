-- The call: which outcome it has, and what the lent totals hold then (CallsSettle).
use Rattle.std.specs.Prelude.{ℕ, ◌+◌, ◌-◌, ◌≤◌, ◌<◌, ◌≡◌, Bool, true, false, List, length, drop, get_or}
use Rattle.std.proofs.Math.Decide.{dec_lt}
use Rattle.std.proofs.Common.{arith, sym, ◌∙◌, get_or-append-add, get_or-drop, lt-ltb, le-ltb}
use Rattle.std.proofs.Math.Path.{refl, ap}
use Rattle.std.proofs.Math.Logic.{by_cases}
use Rattle.std.proofs.Math.ListN.{length-append, length-drop, get_or-append}
use Rattle.definition.specs.Call.{overwrite}
use Rattle.definition.specs.Shift.{bales}
use Rattle.definition.specs.Tonnage.{Weighing, weighed, refused_at, answer_among, tonnage, TonnageResult, set_by, tonnage_by_grade}
use Rattle.claims.specs.Tonnage.{CallsSettle}
use Rattle.weighing_laws.specs.Weighings.{outcomes}

-- ---- totals that are set

set_outcome : (w : Weighing) (ts : List ℕ) → (set_by w ts).outcome ≡ w
unfolding set_by
set_outcome (weighed k us) ts = refl
set_outcome (refused_at n k) ts = refl

over-behind : (us ts : List ℕ) (g : ℕ) → length us ≤ g → get_or (overwrite us ts) g 0 ≡ get_or ts g 0
over-behind us ts g h =
    let e : length us + (g - length us) ≡ g = omega arith in
    ap (λ (i : ℕ). get_or (overwrite us ts) i 0) (sym e)
    ∙ get_or-append-add us (drop (length us) ts) (g - length us) 0
    ∙ get_or-drop (length us) ts (g - length us) 0
    ∙ ap (λ (i : ℕ). get_or ts i 0) e

-- of what was weighed there are 1,024 totals
abbrev Long : Weighing → Type 0
Long w = (k : ℕ) (us : List ℕ) → w ≡ weighed k us → length us ≡ 1024

module _ (ts : List ℕ) where
  set-behind : (w : Weighing) → Long w → (g : ℕ) → 1024 ≤ g → get_or (set_by w ts).totals g 0 ≡ get_or ts g 0
  unfolding set_by
  set-behind (weighed k us) l g h = over-behind us ts g (omega (arith, l k us refl))
  set-behind (refused_at n k) l g h = refl

  set-length : (w : Weighing) → Long w → 1024 ≤ length ts → length (set_by w ts).totals ≡ length ts
  unfolding set_by
  set-length (weighed k us) l h = omega (arith, l k us refl, length-append us (drop (length us) ts), length-drop (length us) ts)
  set-length (refused_at n k) l h = refl

-- ---- by how many are lent

module _ (csv shift ts : List ℕ) where
  tonnage-long : Long (tonnage csv shift)
  unfolding tonnage
  tonnage-long k us e = (((outcomes (answer_among (bales shift)) csv).accepted k us).0 e).long

  abbrev by_lent : Bool → TonnageResult
  by_lent b = set_by (elim b [ true ↦ refused_at 2 0 | false ↦ tonnage csv shift ]) ts

  few_lent : length ts < 1024 → tonnage_by_grade csv shift ts ≡ record { outcome = refused_at 2 0; totals = ts }
  unfolding tonnage_by_grade set_by
  few_lent h = ap by_lent (lt-ltb (length ts) 1024 h)

  enough-lent : 1024 ≤ length ts → tonnage_by_grade csv shift ts ≡ set_by (tonnage csv shift) ts
  unfolding tonnage_by_grade
  enough-lent h = ap by_lent (le-ltb (length ts) 1024 h)

pub calls_settle : CallsSettle
unfolding set_by
calls_settle csv shift ts =
    let w = tonnage csv shift in
    let enough = enough-lent csv shift ts in
    let long = tonnage-long csv shift ts in
    let few = few_lent csv shift ts in
    record {
      short = few;
      refused = λ h n k e. enough h ∙ ap (λ (x : Weighing). set_by x ts) e;
      outcome = λ h. ap (λ (r : TonnageResult). r.outcome) (enough h) ∙ set_outcome w ts;
      sums = λ h k us e s g i.
          ap (λ (r : TonnageResult). get_or r.totals g 0) (enough h ∙ ap (λ (x : Weighing). set_by x ts) e)
          ∙ get_or-append us (drop (length us) ts) 0 g (omega (arith, s.long))
          ∙ s.sums g i;
      rest = λ h g i. ap (λ (r : TonnageResult). get_or r.totals g 0) (enough h) ∙ set-behind ts w long g i;
      long =
          by_cases (dec_lt (length ts) 1024)
          (λ (h : length ts < 1024). ap (λ (r : TonnageResult). length r.totals) (few h))
          (λ h. let k : 1024 ≤ length ts = omega arith in ap (λ (r : TonnageResult). length r.totals) (enough k) ∙ set-length ts w long k);
    }
