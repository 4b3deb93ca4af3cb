-- The exported function's reply.
use Rattle.std.specs.Prelude.{ℕ, ◌≤◌, ◌<◌, ◌≡◌, Bool, true, false, Result, Ok, Err, is_ok, List, length}
use Rattle.std.proofs.Math.Path.{refl, ap}
use Rattle.std.proofs.Common.{sym, ◌∙◌, true≢false, lt-ltb, le-ltb}
use Rattle.definition.specs.Call.{overwrite}
use Rattle.definition.specs.Tonnage.{Weighing, weighed, refused_at, tonnage, TonnageResult, set_by, tonnage_by_grade}
use Rattle.checks.specs.declared.refusal.Refusal.{Refusal}
use Rattle.checks.specs.Verdicts.{number_of}
use Rattle.tonnage.specs.Standings.{weighing_with}
use Rattle.tonnage.specs.declared.Reply.{Reply}

abbrev pub reply_of : Result ℕ Refusal → Reply
reply_of (Ok k) = record { refusal = 0; place = 0; lines = k }
reply_of (Err r) = record { refusal = number_of r.check; place = r.place; lines = 0 }

abbrev pub reply_to : Weighing → Reply
reply_to (weighed k ts) = record { refusal = 0; place = 0; lines = k }
reply_to (refused_at n k) = record { refusal = n; place = k; lines = 0 }

pub record Replies (r : Reply) (ts : List ℕ) (x : TonnageResult) : Type 0 where
  pub reply : r ≡ reply_to x.outcome
  pub totals : ts ≡ x.totals

-- ---- by the length of the totals, and by the outcome

abbrev by_length : List ℕ → List ℕ → List ℕ → Bool → TonnageResult
by_length csv shift ts b = set_by (elim b [ true ↦ refused_at 2 0 | false ↦ tonnage csv shift ]) ts

module _ (csv shift ts : List ℕ) where
  replies_by : (r : Reply) (us : List ℕ) (x : TonnageResult) → tonnage_by_grade csv shift ts ≡ x → Replies r us x → Replies r us (tonnage_by_grade csv shift ts)
  replies_by r us x e h = record { reply = h.reply ∙ ap (λ (y : TonnageResult). reply_to y.outcome) (sym e); totals = h.totals ∙ ap (λ (y : TonnageResult). y.totals) (sym e) }

  pub reply_short : length ts < 1024 → Replies (record { refusal = 2; place = 0; lines = 0 }) ts (tonnage_by_grade csv shift ts)
  unfolding tonnage_by_grade set_by
  reply_short h = replies_by _ ts _ (ap (by_length csv shift ts) (lt-ltb (length ts) 1024 h)) (record { reply = refl; totals = refl })

  module _ (long : 1024 ≤ length ts) (x : Weighing) (e : x ≡ tonnage csv shift) where
    settled : tonnage_by_grade csv shift ts ≡ set_by x ts
    unfolding tonnage_by_grade
    settled = ap (by_length csv shift ts) (le-ltb (length ts) 1024 long) ∙ ap (λ (y : Weighing). set_by y ts) (sym e)

  pub reply_weighed :
      (r : Result ℕ Refusal) (us vs : List ℕ) → 1024 ≤ length ts → weighing_with r us ≡ tonnage csv shift → is_ok r ≡ true → vs ≡ overwrite us ts →
      Replies (reply_of r) vs (tonnage_by_grade csv shift ts)
  unfolding set_by
  reply_weighed (Ok k) us vs long e o f = replies_by _ vs _ (settled long (weighed k us) e) (record { reply = refl; totals = f })
  reply_weighed (Err r) us vs long e o f = absurd (true≢false (sym o))

  pub reply_refused :
      (r : Result ℕ Refusal) (us : List ℕ) → 1024 ≤ length ts → weighing_with r us ≡ tonnage csv shift → is_ok r ≡ false →
      Replies (reply_of r) ts (tonnage_by_grade csv shift ts)
  unfolding set_by
  reply_refused (Ok k) us long e o = absurd (true≢false o)
  reply_refused (Err r) us long e o = replies_by _ ts _ (settled long (refused_at (number_of r.check) r.place) e) (record { reply = refl; totals = refl })
