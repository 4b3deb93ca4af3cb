-- The loop of scheduled steps: where it begins, what it holds after some steps, and its four ways.
use Rattle.std.specs.Prelude.{ℕ, suc, ◌+◌, ◌-◌, ◌*◌, ◌<◌, ◌≡◌, Bool, true, false, List, Float, get_or}
use Rattle.std.proofs.Math.Nat.{sub-zero}
use Rattle.std.proofs.Common.{arith, sym, ◌∙◌, subst}
use Rattle.std.proofs.Math.Path.{refl, ap}
use Rattle.std.proofs.Math.Option.{Option, none, some}
use Rattle.std.specs.Float.Ieee.{lt}
use Rattle.definition.specs.Floats.{largest_finite}
use Rattle.definition.specs.Settings as definition
use Rattle.definition.specs.Directions.{MessageGraph}
use Rattle.definition.specs.Sweeps.{Store}
use Rattle.definition.specs.Priorities.{Highest, highest_priority}
use Rattle.definition.specs.Run.{State, Ended, limit, settled, empty, begin_loop, scheduled_step, loop}
use Rattle.definition.specs.Run as run
use Rattle.graph_laws.specs.Highest.{top_highest}
use Rattle.messages.specs.State.{changed_of, all}
use Rattle.steps.specs.StepChanged.{changed_from}
use Rattle.steps.specs.declared.log.Changed.{Changed}
use Rattle.steps.specs.declared.log.Changed.TheVariants.{All}
use Rattle.zero_lookahead.specs.Part.{Given, StandsFor, Runs}
use Rattle.part.specs.Ending.{ending_from, Ends}
use Rattle.zero_lookahead.specs.declared.settings.Settings.{Settings}
use Rattle.part.specs.declared.run.Ending.{Ending}
use Rattle.part.specs.declared.run.Ending.TheVariants.{Limit, Settled, Empty}

-- ---- where the loop begins

pub record AtStart (t : MessageGraph) (x : State) : Type 0 where
  pub changed-all : changed_of t all ≡ x.changed
  pub last_largest : x.last_residual ≡ largest_finite
  pub no_steps : x.steps ≡ 0

pub record SomeStart (g : Settings) (out : ℕ) (evidence : List Float) (words : List ℕ) (w : List Float) : Type 0 where
  pub settings : definition.Settings
  pub given : Given settings g
  pub graph : MessageGraph
  pub state : State
  pub runs : Runs settings graph out evidence state words w
  pub start : AtStart graph state

pub begins : (s : definition.Settings) (t : MessageGraph) (x : Store) → AtStart t (begin_loop s t x)
unfolding begin_loop changed_of
begins s t x = record { changed-all = refl; last_largest = refl; no_steps = refl }

-- ---- what it holds: the definition's state after so many steps, from which the rest of the run follows

pub record Stepped (s : definition.Settings) (t : MessageGraph) (out : ℕ) (evidence : List Float) (most : ℕ) (x₀ : State) (steps : ℕ) (last : Float) (changed : Changed) (words : List ℕ) (w : List Float) : Type 0 where
  pub state : State
  pub runs : Runs s t out evidence state words w
  pub steps_are : state.steps ≡ steps
  pub last-is : state.last_residual ≡ last
  pub changed_are : changed_of t (changed_from changed) ≡ state.changed
  pub rest : loop s t most x₀ ≡ loop s t (most - steps) state

module _ (s : definition.Settings) (t : MessageGraph) (out : ℕ) (evidence : List Float) (most : ℕ) (x₀ : State) where
  pub stepped-none : (words : List ℕ) (w : List Float) → Runs s t out evidence x₀ words w → AtStart t x₀ → Stepped s t out evidence most x₀ 0 largest_finite All words w
  stepped-none words w R A =
      record { state = x₀; runs = R; steps_are = A.no_steps; last-is = A.last_largest; changed_are = A.changed-all; rest = ap (λ (n : ℕ). loop s t n x₀) (sym (sub-zero most)) }

  module _ (steps : ℕ) (last : Float) (changed : Changed) (words : List ℕ) (w : List Float) (S : Stepped s t out evidence most x₀ steps last changed words w) where
    abbrev x : State
    x = S.state

    ends : (y : run.Ending) (e : Ending) → loop s t (most - steps) x ≡ record { ending = y; state = x } → ending_from e ≡ y → Ends s t out evidence (loop s t most x₀) e steps words w
    ends y e l z =
        let q : loop s t most x₀ ≡ record { ending = y; state = x } = S.rest ∙ l in
        record {
          ending-is = z ∙ sym (ap (λ (u : Ended). u.ending) q);
          steps_are = sym (ap (λ (u : Ended). u.state.steps) q ∙ S.steps_are);
          stands = subst (λ (u : Ended). StandsFor s t out evidence u.state.store words w) (sym q) S.runs.stands;
        }

    at_limit : (k : ℕ) → k ≡ 0 → loop s t k x ≡ record { ending = limit x.last_residual; state = x }
    unfolding loop
    at_limit k e = rw e refl

    pub ends_limit : steps ≡ most → Ends s t out evidence (loop s t most x₀) (Limit last) steps words w
    ends_limit e = ends (limit x.last_residual) (Limit last) (at_limit (most - steps) (omega arith)) (ap limit (sym S.last-is))

    pub direction_there : (b : Highest) → some b ≡ highest_priority x.priorities → b.direction < 2 * get_or words 1 0
    direction_there b q = omega (arith, (top_highest x.priorities b (sym q)).there, S.runs.queued, S.runs.stands.part.edges)

    -- ---- a step is left
    module _ (less : steps < most) (tolerance : Float) (same : s.tolerance ≡ tolerance) where
      left : most - steps ≡ suc (most - (steps + 1))
      left = omega arith

      test-is : lt s.tolerance x.last_residual ≡ lt tolerance last
      test-is = ap (λ (f : Float). lt f x.last_residual) same ∙ ap (lt tolerance) S.last-is

      -- the two tests, the last residual's and the queue's
      abbrev tested : Bool → Option Highest → Ended
      tested a o =
          elim a as (λ c. Ended) [
            | false ↦ record { ending = settled x.last_residual; state = x }
            | true ↦ elim o as (λ c. Ended) [ none ↦ record { ending = empty; state = x } | some b ↦ loop s t (most - (steps + 1)) (scheduled_step s t b x) ]
          ]

      tests : (a : Bool) (o : Option Highest) → lt tolerance last ≡ a → highest_priority x.priorities ≡ o → loop s t (most - steps) x ≡ tested a o
      unfolding loop
      tests a o e f = ap (λ (n : ℕ). loop s t n x) left ∙ ap (λ (d : Bool). tested d (highest_priority x.priorities)) (test-is ∙ e) ∙ ap (tested a) f

      pub ends_settled : lt tolerance last ≡ false → Ends s t out evidence (loop s t most x₀) (Settled last) steps words w
      ends_settled e = ends (settled x.last_residual) (Settled last) (tests false (highest_priority x.priorities) e refl) (ap settled (sym S.last-is))

      module _ (on : lt tolerance last ≡ true) where
        pub ends-empty : none ≡ highest_priority x.priorities → Ends s t out evidence (loop s t most x₀) Empty steps words w
        ends-empty q = ends empty Empty (tests true none on (sym q)) refl

        module _ (b : Highest) (q : some b ≡ highest_priority x.priorities) where
          counted : (scheduled_step s t b x).steps ≡ steps + 1
          unfolding scheduled_step
          counted = omega (arith, S.steps_are)

          amount : (scheduled_step s t b x).last_residual ≡ b.priority
          unfolding scheduled_step
          amount = refl

          pub stepped-next : (changed' : Changed) (words' : List ℕ) (w' : List Float) → Runs s t out evidence (scheduled_step s t b x) words' w' × (changed_of t (changed_from changed') ≡ (scheduled_step s t b x).changed)
              → Stepped s t out evidence most x₀ (steps + 1) b.priority changed' words' w'
          stepped-next changed' words' w' R =
              record {
                state = scheduled_step s t b x;
                runs = R.0;
                steps_are = counted;
                last-is = amount;
                changed_are = R.1;
                rest = S.rest ∙ tests true (some b) on (sym q);
              }
