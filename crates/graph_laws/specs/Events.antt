-- The run is its list of events, and stops where the loop's tests say: the state that it ends with is what the opening, five sweeps and as many steps as
-- it counts leave; before each step all three tests passed, and the ending is the first that fails.
use Prim.Native.Nat.{ℕ, zero, suc, ◌+◌, ◌-◌, ◌≤◌, ◌<◌}
use Rattle.std.proofs.Common.{add-zero, add-suc, ◌∙◌}
use Rattle.std.proofs.Math.Nat.{zero-add, suc-add}
use native.Mathlib.Omega.{arith}
use Rattle.std.specs.Prelude.{◌≡◌, Bool, replicate}
use Rattle.std.proofs.Math.Path.{refl, sym, ap, subst}
use Rattle.std.proofs.Math.Bool.{true, false}
use Rattle.std.proofs.Math.Option.{Option, none, some}
use mathlib.Core.List.{List, [], ◌∷◌, ◌++◌}
use Rattle.std.specs.Float.Ieee.{lt}
use Rattle.claims.specs.Parts.{Present}
use Rattle.claims.specs.Claims.{Passed, EndsBy, RunFollows}
use Rattle.definition.specs.Settings.{Settings}
use Rattle.definition.specs.Directions.{MessageGraph}
use Rattle.definition.specs.Run.{State, scheduled_step, begin_loop, Event, stepped, apply_event, state_after, opening_and_sweeps, events, Ending, limit, settled, empty, Ended, loop, run}
use Rattle.definition.specs.Priorities.{Highest, highest_priority}
use Rattle.definition.specs.Sweeps.{opening}

-- ---- the loop

module _ (s : Settings) (t : MessageGraph) where
  pub after_append : (es fs : List Event) (x : State) → state_after s t (es ++ fs) x ≡ state_after s t fs (state_after s t es x)
  unfolding state_after
  after_append [] fs x = refl
  after_append (e ∷ es) fs x = after_append es fs (apply_event s t e x)

  -- from x on, with k steps left, n steps are done, and then the loop ends as e says
  pub record Follows (k : ℕ) (x : State) (e : Ended) (n : ℕ) : Type 0 where
    pub few : n ≤ k
    pub state : e.state ≡ state_after s t (replicate n stepped) x
    pub counted : e.state.steps ≡ x.steps + n
    pub passed : (j : ℕ) → j < n → Passed s (k - j) (state_after s t (replicate j stepped) x)
    pub ended : EndsBy s (k - n) e.ending e.state

  at_once : (k : ℕ) (x : State) (e : Ending) → EndsBy s k e x → Follows k x (record { ending = e; state = x }) 0
  unfolding state_after
  at_once k x e h = record { few = omega arith; state = refl; counted = sym (add-zero x.steps); passed = λ j l. absurd (let z : ⊥ = omega arith in z); ended = subst (λ (m : ℕ). EndsBy s m e x) (let z : k ≡ k - 0 = omega arith in z) h }

  apply_event-some : (x : State) (b : Highest) → highest_priority x.priorities ≡ some b → apply_event s t stepped x ≡ scheduled_step s t b x
  unfolding apply_event
  apply_event-some x b e = rw (e, apply_event)

  after_step : (n : ℕ) (x : State) (b : Highest) → highest_priority x.priorities ≡ some b → state_after s t (replicate n stepped) (scheduled_step s t b x) ≡ state_after s t (replicate (suc n) stepped) x
  unfolding state_after
  after_step n x b e = ap (λ (z : State). state_after s t (replicate n stepped) z) (sym (apply_event-some x b e))

  goes_on : (k n : ℕ) (x : State) (b : Highest) (e : Ended) → lt s.tolerance x.last_residual ≡ true → highest_priority x.priorities ≡ some b → Follows k (scheduled_step s t b x) e n → Follows (suc k) x e (suc n)
  unfolding scheduled_step state_after
  goes_on k n x b e l q h =
      record {
        few = omega (arith, h.few);
        state = h.state ∙ after_step n x b q;
        counted = h.counted ∙ suc-add x.steps n ∙ sym (add-suc x.steps n);
        passed = passed;
        ended = subst (λ (m : ℕ). EndsBy s m e.ending e.state) (same n) h.ended;
      }
    where
      same : (j : ℕ) → k - j ≡ suc k - suc j
      same j = omega arith

      passed : (j : ℕ) → j < suc n → Passed s (suc k - j) (state_after s t (replicate j stepped) x)
      passed zero i = record { room = omega arith; unsettled = l; waiting = subst Present (sym q) tt }
      passed (suc j) i = subst (λ (m : ℕ). Passed s m (state_after s t (replicate (suc j) stepped) x)) (same j) (subst (Passed s (k - j)) (after_step j x b q) (h.passed j (omega arith)))

  loop_follows : (k : ℕ) (x : State) → (n : ℕ) × Follows k x (loop s t k x) n
  unfolding loop
  loop_follows zero x = (0, at_once 0 x (limit x.last_residual) (refl, refl))
  loop_follows (suc k) x = tests (lt s.tolerance x.last_residual) (highest_priority x.priorities) refl refl (λ y. loop_follows k y)
    where
      tests : (a : Bool) (o : Option Highest) → lt s.tolerance x.last_residual ≡ a → highest_priority x.priorities ≡ o → ((y : State) → (n : ℕ) × Follows k y (loop s t k y) n) →
          (n : ℕ) × Follows (suc k) x (elim a as (λ c. Ended) [ false ↦ record { ending = settled x.last_residual; state = x } | true ↦ elim o as (λ c. Ended) [ none ↦ record { ending = empty; state = x } | some b ↦ loop s t k (scheduled_step s t b x) ] ]) n
      tests false o l e f = (0, at_once (suc k) x (settled x.last_residual) (omega arith, l, refl))
      tests true none l e f = (0, at_once (suc k) x empty (omega arith, l, e))
      tests true (some b) l e f = let r = f (scheduled_step s t b x) in (suc r.0, goes_on k r.0 x b _ l e r.1)

  start_steps : (x : State) → (state_after s t opening_and_sweeps x).steps ≡ 0
  unfolding opening_and_sweeps state_after apply_event begin_loop
  start_steps x = refl

  begun : (x : State) → state_after s t opening_and_sweeps (begin_loop s t (opening s t)) ≡ state_after s t opening_and_sweeps x
  unfolding opening_and_sweeps state_after apply_event
  begun x = refl

  after-events : (n : ℕ) (x : State) → state_after s t (events n) x ≡ state_after s t (replicate n stepped) (state_after s t opening_and_sweeps (begin_loop s t (opening s t)))
  unfolding events
  after-events n x = after_append opening_and_sweeps (replicate n stepped) x ∙ ap (state_after s t (replicate n stepped)) (sym (begun x))

  pub run_follows : (x : State) → RunFollows s t x
  unfolding run
  run_follows x =
      let r = loop_follows (s.loop_limit - 5) (state_after s t opening_and_sweeps (begin_loop s t (opening s t))) in
      let n = r.0 in
      let h = r.1 in
      let e : (run s t).state.steps ≡ n = h.counted ∙ ap (λ (m : ℕ). m + n) (start_steps (begin_loop s t (opening s t))) ∙ zero-add n in
      record {
        few = subst (λ (m : ℕ). m ≤ s.loop_limit - 5) (sym e) h.few;
        state = h.state ∙ sym (after-events n x) ∙ ap (λ (m : ℕ). state_after s t (events m) x) (sym e);
        passed = λ j i. subst (Passed s (s.loop_limit - 5 - j)) (sym (after-events j x)) (h.passed j (subst (λ (m : ℕ). j < m) e i));
        ended = subst (λ (m : ℕ). EndsBy s (s.loop_limit - 5 - m) (run s t).ending (run s t).state) (sym e) h.ended;
      }

  pub run-events : (x : State) → (run s t).state ≡ state_after s t (events (run s t).state.steps) x
  run-events x = (run_follows x).state
