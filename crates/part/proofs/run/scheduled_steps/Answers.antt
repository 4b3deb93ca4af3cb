-- `part::run::scheduled_steps` meets its contract.
use Rattle.std.proofs.Common.{◌<◌, ◌∙◌, refl, ap, arith}
use Rattle.std.specs.Float.Ieee.{of_bits}
use Rattle.definition.specs.Settings.{Settings}
use Rattle.definition.specs.Priorities.{Highest}
use Rattle.part.specs.RunQueue.{runs_queue}
use Rattle.part.specs.RunSteps.{stepped-none, ends_limit, ends_settled, ends-empty, direction_there, stepped-next}
use Rattle.part.proofs.run.scheduled_steps.Goals as goal

pub loop-steps-init : goal.loop-steps-init
unfolding of_bits
loop-steps-init c =
    record { within = omega arith; front = refl; changed = tt; stepped = λ s t x R g A. stepped-none s t _ _ _ x _ _ R A }

pub highest-requires : goal.highest-requires
highest-requires c =
    let S = c.requires.some_start in
    runs_queue S.settings S.graph _ _ _ _ _ (c.loop-steps.invariant.stepped S.settings S.graph S.state S.runs S.given S.start).runs

pub scheduled_step-changed-requires-clause-some_running : goal.scheduled_step-changed-requires-clause-some_running
scheduled_step-changed-requires-clause-some_running c =
    let S = c.requires.some_start in
    let T = c.loop-steps.invariant.stepped S.settings S.graph S.state S.runs S.given S.start in
    record { settings = S.settings; given = S.given; graph = S.graph; state = T.state; runs = T.runs }

pub scheduled_step-changed-requires-clause-d_bound : goal.scheduled_step-changed-requires-clause-d_bound
scheduled_step-changed-requires-clause-d_bound c =
    let a = c.args in
    let S = c.requires.some_start in
    let l = c.loop-steps in
    let T = l.invariant.stepped S.settings S.graph S.state S.runs S.given S.start in
    let top = c.in-Some.top in
    let q = c.in-Some.ensures S.settings S.graph a.evidence.now T.state l.w T.runs in (
      direction_there S.settings S.graph a.out a.evidence.now a.limit S.state l.steps l.last l.changed l.words l.w T
          (record { direction = top.direction; priority = top.amount }) q,
      l.invariant.changed,
    )

pub loop-steps-preserved : goal.loop-steps-preserved
loop-steps-preserved c =
    let a = c.args in
    let l = c.loop-steps in
    let v = c.scheduled_step-changed in
    let top = c.in-Some.top in
    let less : l.steps < a.limit = omega (arith, c.if-steps-limit.false, l.invariant.within) in
    record {
      within = omega arith;
      front = v.ensures.kept_front.0 ∙ l.invariant.front;
      changed = v.ensures.kept_front.1;
      stepped =
          (λ s t x R g A.
          let T = l.invariant.stepped s t x R g A in
          let d : Highest = record { direction = top.direction; priority = top.amount } in
          let q = c.in-Some.ensures s t a.evidence.now T.state l.w T.runs in
          stepped-next s t a.out a.evidence.now a.limit x l.steps l.last l.changed l.words l.w T less a.settings.tolerance
          (ap (λ (u : Settings). u.tolerance) g) c.if-not-tolerance-last.false d q v.result v.new.words v.new.w
          (v.ensures.runs s t T.state d T.runs g refl T.changed_are));
    }

pub returns-then-steps-limit-clause-ends : goal.returns-then-steps-limit-clause-ends
returns-then-steps-limit-clause-ends c =
    let l = c.loop-steps in
    let a = c.args in
    λ s t x R g A. ends_limit s t a.out a.evidence.now a.limit x l.steps l.last l.changed l.words l.w (l.invariant.stepped s t x R g A) c.if-steps-limit.true

pub returns-then-not-tolerance-last-clause-ends : goal.returns-then-not-tolerance-last-clause-ends
returns-then-not-tolerance-last-clause-ends c =
    let l = c.loop-steps in
    let a = c.args in
    let less : l.steps < a.limit = omega (arith, c.if-steps-limit.false, l.invariant.within) in
    λ s t x R g A. ends_settled s t a.out a.evidence.now a.limit x l.steps l.last l.changed l.words l.w (l.invariant.stepped s t x R g A) less
    a.settings.tolerance (ap (λ (u : Settings). u.tolerance) g) c.if-not-tolerance-last.true

pub returns-in_default-clause-ends : goal.returns-in_default-clause-ends
returns-in_default-clause-ends c =
    let l = c.loop-steps in
    let a = c.args in
    let less : l.steps < a.limit = omega (arith, c.if-steps-limit.false, l.invariant.within) in
    λ s t x R g A.
    let T = l.invariant.stepped s t x R g A in
    ends-empty s t a.out a.evidence.now a.limit x l.steps l.last l.changed l.words l.w T less a.settings.tolerance (ap (λ (u : Settings). u.tolerance) g)
    c.if-not-tolerance-last.false
    (c.in_default.ensures s t a.evidence.now T.state l.w T.runs)
