-- Draws as the functions answer them.
use Rattle.std.specs.Prelude.{ℕ, ◌%◌, ◌≡◌, Bool, true, false, ◌||◌, List, ltb}
use Rattle.std.proofs.Math.Bool.{or-true, or-false}
use Rattle.definition.specs.Call.{overwrite}
use Rattle.definition.specs.Trials as definition
use Rattle.definition.specs.Trials.{next_number, draw, draw_each, any_of, MadeUp}
use Rattle.draws.specs.declared.number.Drawn.{Drawn}
use Rattle.draws.specs.declared.bale.TrialSetting.{TrialSetting}

abbrev pub drawn_of : Drawn → definition.Drawn
drawn_of d = record { success = d.success; state = d.state }

abbrev pub setting_in : TrialSetting → definition.TrialSetting
setting_in t = record { alpha = t.alpha; beta = t.beta; prior = t.prior }

-- one more draw: any success counts
unfoldable pub draw_also : ℕ → definition.Drawn → definition.Drawn
draw_also limit d = record { success = d.success || (draw limit d.state).success; state = (draw limit d.state).state }

-- a marker's draws: whether any succeeds, and the state that they leave
unfoldable pub read_drawn : List ℕ → ℕ → definition.Drawn
read_drawn ls x = record { success = any_of (draw_each ls x).successes; state = (draw_each ls x).state }

-- the state x that is left, and the slices p and r, which were p₀ and r₀, are those of d
pub record DrewBale (d : MadeUp) (p₀ r₀ : List Bool) (x : ℕ) (p r : List Bool) : Type 0 where
  pub state : x ≡ d.state
  pub presences : p ≡ overwrite d.presences p₀
  pub reads : r ≡ overwrite d.reads r₀

-- ---- what the functions make is what is defined

pub drawn_is : (s : Bool) (limit x y : ℕ) → y ≡ next_number x → s ≡ ltb (y % 1024) limit → record { success = s; state = y } ≡ draw limit x
unfolding draw
drawn_is s limit x y e f = rw (f, e)

module _ (limit : ℕ) (d e : definition.Drawn) (q : e ≡ draw limit d.state) where
  pub also_hit : e.success ≡ true → e ≡ draw_also limit d
  unfolding draw_also
  also_hit t = rw (← q) (let a : e.success ≡ (d.success || e.success) = rw (t, or-true) in λ i. record { success = a i; state = e.state })

  pub also_missed : e.success ≡ false → record { success = d.success; state = e.state } ≡ draw_also limit d
  unfolding draw_also
  also_missed f = rw (← q, f, or-false)
