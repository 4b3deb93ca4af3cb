-- Amounts: after any events that begin with the opening, each pending and each waiting amount is at most 128 for each step taken and one more, and never above
-- 2 ^ 31, with a clear sign, and a binary32 value: a step adds at most one residual to an amount. So every ending's residual is finite.
use Rattle.std.specs.Prelude.{◌≡◌, Bool, cond, eqb, length, get_or, set, replicate, Float}
use Rattle.std.proofs.Math.Path.{refl}
use Rattle.std.proofs.Common.{sym, ap, subst, ◌∙◌, true≢false}
use Rattle.std.proofs.Math.Bool.{true, false}
use Rattle.std.proofs.Math.Option.{Option, none, some}
use mathlib.Core.List.{List, [], ◌∷◌, map}
use Prim.Native.Nat.{ℕ, zero, suc, ◌+◌, ◌-◌, ◌≤◌}
use native.Mathlib.Omega.{arith}
use Rattle.std.specs.Float.Ieee.{lt, le, fits}
use Rattle.definition.specs.Floats.{◌⊕◌, zeroᶠ, largest_finite}
use Rattle.definition.specs.Lists.{range, mem}
use Rattle.definition.specs.Settings.{Settings}
use Rattle.definition.specs.FactorGraph.{Bale, Node}
use Rattle.definition.specs.Directions.{Direction, MessageGraph, message_graph_of, direction_at}
use Rattle.definition.specs.Messages.{residual}
use Rattle.definition.specs.Sweeps.{Store, opening, sweep}
use Rattle.definition.specs.Run.{State, initial_priority, begin_loop, add_pending, push_priorities, scheduled_step, Event, opened, swept, stepped, apply_event, state_after, opening_and_sweeps, events, settled, empty, Ended, loop, run}
use Rattle.definition.specs.Priorities.{exceeds, Highest, higher, highest_from, highest_priority}
use Rattle.definition.specs.Answer.{ending_residual, part_answer, answer}
use Rattle.definition.specs.Refusals.{Buffers, accepted, verdict}
use Rattle.graph_laws.specs.Bools.{or_left, or_right, eqb_same}
use Rattle.graph_laws.specs.Lists.{All}
use Rattle.graph_laws.specs.Ranks.{NoDup}
use Rattle.graph_laws.specs.Invariant.{Stored, stored_opening, stored_sweep, stored_step}
use Rattle.graph_laws.specs.MessageLengths.{Sound, AsLong, fits as lengths}
use Rattle.claims.specs.Parts.{AcceptedPart}
use Rattle.graph_laws.specs.Structure.{within-kept}
use Rattle.message_bounds.specs.Residuals.{Small, largest_residual, residual_small}
use Rattle.message_bounds.specs.AmountBounds.{most, Amount, most-finite, residual-low, wider, later, zero_amount, amount_add}
use Rattle.message_bounds.specs.OutgoingApart.{Apart, part_outgoing_apart}
use Rattle.message_bounds.specs.Answers.{in_answer}

-- ---- what is pending: after k steps, direction by direction
abbrev Pending : ℕ → List Float → Type 0
Pending k p = (d : ℕ) → Amount k (get_or p d zeroᶠ)

-- an entry of a list with one entry set is that one or as it was
set_at : {A : Type 0} (z : A) (P : ℕ → A → Type 0) (l : List A) (e d : ℕ) (v : A) → P d (get_or l d z) → P e v → P d (get_or (set l e v) d z)
set_at z P [] e d v h k = h
set_at z P (x ∷ l) zero zero v h k = k
set_at z P (x ∷ l) zero (suc d) v h k = h
set_at z P (x ∷ l) (suc e) zero v h k = h
set_at {A} z P (x ∷ l) (suc e) (suc d) v h k = set_at z (λ (n : ℕ) (a : A). P (suc n) a) l e d v h k

-- r is added once to each direction of a list that has none twice: those still to come have the amount of k steps, all have at most that of one more
add_once : (k : ℕ) (r : Float) (ds : List ℕ) (p : List Float) → Small largest_residual r → NoDup eqb ds → Pending (suc k) p → ((d : ℕ) → mem eqb d ds ≡ true → Amount k (get_or p d zeroᶠ)) → Pending (suc k) (add_pending r ds p)
unfolding add_pending
add_once k r [] p g n h w = h
add_once k r (e ∷ ds) p g n h w =
    let v = get_or p e zeroᶠ ⊕ r in
    add_once k r ds (set p e v) g n.1
    (λ d. set_at zeroᶠ (λ (i : ℕ) (x : Float). Amount (suc k) x) p e d v (h d) (amount_add k (get_or p e zeroᶠ) r (w e (or_left (eqb e e) (mem eqb e ds) (eqb_same e))) g))
    (λ d m.
    set_at zeroᶠ (λ (i : ℕ) (x : Float). mem eqb i ds ≡ true → Amount k x) p e d v (λ i. w d (or_right (eqb d e) (mem eqb d ds) i)) (λ i. absurd (true≢false (sym i ∙ n.0))) m)

-- ---- what waits: nothing, or an amount
abbrev pub Waits : ℕ → Option Float → Type 0
Waits k none = Unit {0}
Waits k (some x) = Amount k x

abbrev Queued : ℕ → List (Option Float) → Type 0
Queued k q = (d : ℕ) → Waits k (get_or q d none)

waits-later : (k n : ℕ) (o : Option Float) → k ≤ n → Waits k o → Waits n o
waits-later k n none l h = tt
waits-later k n (some x) l h = later k n x l h

queue_wait : (k : ℕ) (p : List Float) (ds : List ℕ) (q : List (Option Float)) → Pending k p → Queued k q → Queued k (push_priorities p ds q)
unfolding push_priorities
queue_wait k p [] q h g = g
queue_wait k p (e ∷ ds) q h g = queue_wait k p ds _ h (λ d. set_at none (λ (i : ℕ) (o : Option Float). Waits k o) q e d (some (get_or p e zeroᶠ)) (g d) (h e))

-- the amount with which a step is taken waited in the queue
abbrev Chosen : ℕ → Option Highest → Type 0
Chosen k none = Unit {0}
Chosen k (some b) = Amount k b.priority

chosen_better : (k : ℕ) (o : Option Highest) (d : ℕ) (x : Float) → Chosen k o → Amount k x → Chosen k (higher o d x)
unfolding higher
chosen_better k none d x h g = g
chosen_better k (some b) d x h g = go (exceeds x b.priority)
  where
    go : (c : Bool) → Chosen k (cond c (some (record { direction = d; priority = x })) (some b))
    go true = g
    go false = h

chosen-from : (k : ℕ) (o : Option Highest) (d : ℕ) (q : List (Option Float)) → Chosen k o → Queued k q → Chosen k (highest_from o d q)
unfolding highest_from
chosen-from k o d [] h g = h
chosen-from k o d (none ∷ q) h g = chosen-from k o (suc d) q h (λ i. g (suc i))
chosen-from k o d (some x ∷ q) h g = chosen-from k (higher o d x) (suc d) q (chosen_better k o d x h (g 0)) (λ i. g (suc i))

chosen-top : (k : ℕ) (q : List (Option Float)) → Queued k q → Chosen k (highest_priority q)
unfolding highest_priority
chosen-top k q g = chosen-from k none 0 q tt g

-- the last amount: the largest finite value before any step
abbrev pub Last : ℕ → Float → Type 0
Last zero x = x ≡ largest_finite
Last (suc k) x = Amount k x

last_small : (k : ℕ) (x : Float) → Last k x → Small largest_finite x
last_small zero x h = subst (Small largest_finite) (sym h) (record { holds = unfold fits in tt; clear_sign = tt; small = unfold le in tt })
last_small (suc k) x h = wider (most k) largest_finite x (most-finite k) h

-- ---- a state, by the steps that it counts
module _ (s : Settings) (t : MessageGraph) (S : Sound t) (D : Apart t) where
  pub record BoundedState (x : State) : Type 0 where
    pub store : Stored (AsLong t) x.store
    pub pending : (d : ℕ) → Amount x.steps (get_or x.pending d zeroᶠ)
    pub priorities : (d : ℕ) → Waits x.steps (get_or x.priorities d none)
    pub last_residual : Last x.steps x.last_residual

  waits_amount : (r : Float) → Small largest_residual r → Waits 0 (initial_priority s.tolerance r)
  unfolding initial_priority
  waits_amount r h = go (lt s.tolerance r)
    where
      go : (b : Bool) → Waits 0 (cond b (some r) none)
      go true = wider largest_residual (most 0) r (residual-low 0) h
      go false = tt

  zeros : (ds : List Direction) → Pending 0 (map (λ (d : Direction). zeroᶠ) ds)
  zeros [] d = zero_amount 0
  zeros (x ∷ ds) zero = zero_amount 0
  zeros (x ∷ ds) (suc d) = zeros ds d

  bounded_begin : (z : Store) → Stored (AsLong t) z → BoundedState (begin_loop s t z)
  unfolding begin_loop
  bounded_begin z h = record { store = h; pending = zeros t.directions; priorities = each (range 0 (length t.directions)); last_residual = refl }
    where
      each : (ds : List ℕ) → Queued 0 (map (λ (d : ℕ). initial_priority s.tolerance (residual t z.msg_in z.msg_in_log d)) ds)
      each [] d = tt
      each (e ∷ ds) zero = waits_amount _ (residual_small t z.msg_in z.msg_in_log e h.msg_in h.msg_in_log)
      each (e ∷ ds) (suc d) = each ds d

  bounded_step : (b : Highest) (x : State) → Amount x.steps b.priority → BoundedState x → BoundedState (scheduled_step s t b x)
  unfolding scheduled_step
  bounded_step b x a h =
      let k = x.steps in
      let w = direction_at t b.direction in
      let r = residual_small t x.store.msg_in x.store.msg_in_log b.direction h.store.msg_in h.store.msg_in_log in
      let z : Pending k (set x.pending b.direction zeroᶠ) = λ d. set_at zeroᶠ (λ (i : ℕ) (y : Float). Amount k y) x.pending b.direction d zeroᶠ (h.pending d) (zero_amount k) in
      let p = add_once k _ _ (set x.pending b.direction zeroᶠ) r (D w.end w.start_in_end) (λ d. later k (suc k) _ (omega arith) (z d)) (λ d m. z d) in
      record {
        store = stored_step (lengths s t S).preserved b x tt h.store;
        pending = p;
        priorities = queue_wait (suc k) _ _ _ p (λ d. set_at none (λ (i : ℕ) (o : Option Float). Waits (suc k) o) x.priorities b.direction d none (waits-later k (suc k) (get_or x.priorities d none) (omega arith) (h.priorities d)) tt);
        last_residual = a;
      }

  -- ---- the events
  bounded_top : (o : Option Highest) (x : State) → Chosen x.steps o → BoundedState x → BoundedState (elim o as (λ c. State) [ none ↦ x | some b ↦ scheduled_step s t b x ])
  bounded_top none x c h = h
  bounded_top (some b) x c h = bounded_step b x c h

  bounded_opening : BoundedState (begin_loop s t (opening s t))
  bounded_opening = bounded_begin (opening s t) (stored_opening (lengths s t S))

  bounded_apply_event : (e : Event) (x : State) → BoundedState x → BoundedState (apply_event s t e x)
  unfolding apply_event
  bounded_apply_event opened x h = bounded_opening
  bounded_apply_event swept x h = bounded_begin (sweep s t x.store) (stored_sweep (lengths s t S).preserved x.store tt h.store)
  bounded_apply_event stepped x h = bounded_top (highest_priority x.priorities) x (chosen-top x.steps x.priorities h.priorities) h

  bounded_on : (es : List Event) (x : State) → BoundedState x → BoundedState (state_after s t es x)
  unfolding state_after
  bounded_on [] x h = h
  bounded_on (e ∷ es) x h = bounded_on es (apply_event s t e x) (bounded_apply_event e x h)

  -- after any list of events that begins with the opening, and from any state
  pub bounded_after : (es : List Event) (x : State) → BoundedState (state_after s t (opened ∷ es) x)
  unfolding state_after apply_event
  bounded_after es x = bounded_on es (begin_loop s t (opening s t)) bounded_opening

  -- ---- the loop
  bounded_loop : (k : ℕ) (x : State) → BoundedState x → Small largest_finite (ending_residual (loop s t k x).ending)
  unfolding loop ending_residual
  bounded_loop zero x h = last_small x.steps x.last_residual h.last_residual
  bounded_loop (suc k) x h = tests (lt s.tolerance x.last_residual) (highest_priority x.priorities) (chosen-top x.steps x.priorities h.priorities) (bounded_loop k)
    where
      tests : (a : Bool) (o : Option Highest) → Chosen x.steps o → ((y : State) → BoundedState y → Small largest_finite (ending_residual (loop s t k y).ending)) →
          Small largest_finite (ending_residual (elim a as (λ c. Ended) [ false ↦ record { ending = settled x.last_residual; state = x } | true ↦ elim o as (λ c. Ended) [ none ↦ record { ending = empty; state = x } | some b ↦ loop s t k (scheduled_step s t b x) ] ]).ending)
      tests false o c f = last_small x.steps x.last_residual h.last_residual
      tests true none c f = wider (most 0) largest_finite zeroᶠ (most-finite 0) (zero_amount 0)
      tests true (some b) c f = f (scheduled_step s t b x) (bounded_step b x c h)

  pub run_bounded : Small largest_finite (ending_residual (run s t).ending)
  unfolding run
  run_bounded = bounded_loop (s.loop_limit - 5) _ (bounded_on opening_and_sweeps _ bounded_opening)

-- ---- n steps count no more than n
module _ (s : Settings) (t : MessageGraph) where
  steps_on : (n : ℕ) (x : State) → (state_after s t (replicate n stepped) x).steps ≤ x.steps + n
  unfolding state_after apply_event
  steps_on zero x = omega arith
  steps_on (suc n) x = go (highest_priority x.priorities) (steps_on n)
    where
      go : (o : Option Highest) → ((y : State) → (state_after s t (replicate n stepped) y).steps ≤ y.steps + n)
          → (state_after s t (replicate n stepped) (elim o as (λ c. State) [ none ↦ x | some b ↦ scheduled_step s t b x ])).steps ≤ x.steps + suc n
      go none f = omega (arith, f x)
      go (some b) f = omega (arith, counts b, f (scheduled_step s t b x))
        where
          counts : (b : Highest) → (scheduled_step s t b x).steps ≡ suc x.steps
          counts b = unfold scheduled_step in refl

  start_steps : (x : State) → (state_after s t opening_and_sweeps x).steps ≡ 0
  unfolding opening_and_sweeps state_after apply_event begin_loop
  start_steps x = refl

  after-start : (n : ℕ) (x : State) → state_after s t (events n) x ≡ state_after s t (replicate n stepped) (state_after s t opening_and_sweeps x)
  unfolding events opening_and_sweeps state_after apply_event
  after-start n x = refl

  events_steps : (n : ℕ) (x : State) → (state_after s t (events n) x).steps ≤ n
  events_steps n x = omega (arith, ap (λ (y : State). y.steps) (after-start n x), steps_on n (state_after s t opening_and_sweeps x), start_steps x)

-- ---- the parts of an accepted bale

module _ (s : Settings) (f : Buffers) (b : Bale) (n : ℕ) (p : List Node) (h : AcceptedPart s f b n p) where
  abbrev its : MessageGraph
  its = message_graph_of b p

  -- After any list of events that begins with the opening, and from any state: what is pending for each direction, what waits, and the last amount.
  pub amounts : (es : List Event) (x : State) → BoundedState s its (within-kept s f b n p h).sound (part_outgoing_apart s f b n p h) (state_after s its (opened ∷ es) x)
  amounts = bounded_after s its (within-kept s f b n p h).sound (part_outgoing_apart s f b n p h)

  -- after the events of a run of m steps
  pub run_amounts : (m : ℕ) (x : State) (d : ℕ) → Amount m (get_or (state_after s its (events m) x).pending d zeroᶠ) × Waits m (get_or (state_after s its (events m) x).priorities d none)
  unfolding events opening_and_sweeps
  run_amounts m x d =
      let l = events_steps s its m x in
      let g = amounts _ x in
      (later _ m _ l (g.pending d), waits-later _ m (get_or (state_after s its (events m) x).priorities d none) l (g.priorities d))

-- Each ending's residual is a finite value with a clear sign that binary32 holds.
pub endings_bounded : (s : Settings) (f : Buffers) (b : Bale) → verdict s f b ≡ accepted → All (λ q. Small largest_finite (ending_residual q.ending)) (answer s b)
endings_bounded s f b A = in_answer (λ q. Small largest_finite (ending_residual q.ending)) s f b (λ n p h. ending n p h) A
  where
    ending : (n : ℕ) (p : List Node) → AcceptedPart s f b n p → Small largest_finite (ending_residual (part_answer s n p (message_graph_of b p)).ending)
    ending n p h = unfold part_answer in run_bounded s (message_graph_of b p) (within-kept s f b n p h).sound (part_outgoing_apart s f b n p h)
