-- `part::run::five_sweeps` meets its contract.
use Rattle.std.proofs.Common.{◌≡◌, ◌∙◌, refl, arith}
use Rattle.part.specs.RunSweeps.{swept, swept_none, swept-next}
use Rattle.part.proofs.run.five_sweeps.Goals as goal

pub loop-init : goal.loop-init
loop-init c = (refl, λ s t x S g. rw (swept_none s t x) S)

pub sweep-requires : goal.sweep-requires
sweep-requires c =
    let l = c.loop in
    let S = c.requires.some_standing in
    record {
      some_standing = record {
        settings = S.settings;
        given = S.given;
        graph = S.graph;
        store = swept S.settings S.graph l.counter S.store;
        stands = l.invariant.1 S.settings S.graph S.store S.stands S.given;
      };
    }

pub loop-preserved : goal.loop-preserved
loop-preserved c =
    let l = c.loop in
    let v = c.sweep in (
      v.ensures.kept_front ∙ l.invariant.0,
      (λ s t x S g. rw (← swept-next s t l.counter x) (v.ensures.stands_for s t (swept s t l.counter x) (l.invariant.1 s t x S g) g)),
    )

pub returns : goal.returns
returns c =
    let l = c.loop in
    let e : l.counter ≡ 5 = omega arith in
    record { kept_front = l.invariant.0; stands_for = λ s t x S g. rw e at (l.invariant.1 s t x S g) }
