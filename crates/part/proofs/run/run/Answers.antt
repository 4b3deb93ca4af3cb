-- `part::run::run` meets its contract.
use Rattle.definition.specs.Sweeps.{opening}
use Rattle.definition.specs.Run.{begin_loop}
use Rattle.part.specs.RunSweeps.{swept, ran}
use Rattle.part.specs.RunSteps.{begins}
use Rattle.part.proofs.run.run.Goals as goal

pub begin-requires : goal.begin-requires
begin-requires c =
    let S = c.requires.some_part_room in
    let s = S.settings in
    let t = S.graph in
    record {
      some_standing_any = record {
        settings = s;
        given = S.given;
        graph = t;
        evidence = c.args.evidence.now;
        store = swept s t 5 (opening s t);
        stands = c.five_sweeps.ensures.stands_for s t (opening s t) (c.open.ensures.stands_for s t S.room S.given) S.given;
      };
    }

pub scheduled_steps-requires : goal.scheduled_steps-requires
scheduled_steps-requires c =
    let S = c.requires.some_part_room in
    let s = S.settings in
    let t = S.graph in
    let x = swept s t 5 (opening s t) in
    let stands = c.five_sweeps.ensures.stands_for s t (opening s t) (c.open.ensures.stands_for s t S.room S.given) S.given in
    record {
      some_start = record {
        settings = s;
        given = S.given;
        graph = t;
        state = begin_loop s t x;
        runs = c.begin.ensures.runs s t c.args.evidence.now x stands S.given;
        start = begins s t x;
      };
    }

pub returns-clause-ran : goal.returns-clause-ran
returns-clause-ran c =
    let a = c.args in
    λ s t R g e.
    let x = swept s t 5 (opening s t) in
    let stands = c.five_sweeps.ensures.stands_for s t (opening s t) (c.open.ensures.stands_for s t R g) g in
    ran s t a.out a.evidence.now _ _ _ _ a.limit _ e c.saturating_sub-left.ensures
    (c.scheduled_steps.ensures.ends s t (begin_loop s t x) (c.begin.ensures.runs s t a.evidence.now x stands g) g (begins s t x))
