-- `answer::run_part` meets its contract: the rows are filled, the part is run, and its beliefs are written.
use mathlib.Core.Path.{refl, ◌∙◌}
use Rattle.zero_lookahead_belief_propagation.specs.AnsweredPart.{large_ready, large-front, large_room, large-beliefs, large-runs}
use Rattle.zero_lookahead_belief_propagation.proofs.answer.run_part.Goals as goal

pub fill_directions-requires : goal.fill_directions-requires
fill_directions-requires c =
    let x = c.requires.some_large in
    large_ready _ x.bale x.number _ _ _ _ _ _ x.part

pub run-ended-requires : goal.run-ended-requires
run-ended-requires c =
    let x = c.requires.some_large in
    let f = c.fill_directions in
    record { some_part_room = record { settings = _; given = refl; graph = _; room = large_room _ x.bale x.number _ _ _ _ _ _ x.part _ (f.ensures _ _ x.part.placed.recorded) _ refl f.auto.words } }

pub beliefs-count-requires : goal.beliefs-count-requires
beliefs-count-requires c =
    let x = c.requires.some_large in
    let f = c.fill_directions in
    let r = c.run-ended in
    let e = f.ensures _ _ x.part.placed.recorded in
    record { some_beliefs = large-beliefs _ x.bale x.number _ _ _ _ _ _ x.part _ e _ _ _ _ r.auto.words r.ensures.kept_front (r.ensures.ran _ _ (large_room _ x.bale x.number _ _ _ _ _ _ x.part _ e _ refl f.auto.words) refl refl) _ refl }

pub returns : goal.returns
returns c =
    let f = c.fill_directions in
    let r = c.run-ended in
    let k = c.beliefs-count in
    let x = c.requires.some_large in record {
      kept_front = r.ensures.kept_front ∙ large-front _ x.bale x.number _ _ _ _ _ _ x.part _ (f.ensures _ _ x.part.placed.recorded);
      part_runs = λ b n h.
          let e = f.ensures _ _ h.placed.recorded in
          large-runs _ b n _ _ _ _ _ _ h _ e _ _ _ _ r.auto.words r.ensures.kept_front (r.ensures.ran _ _ (large_room _ b n _ _ _ _ _ _ h _ e _ refl f.auto.words) refl refl) _ refl _ _ _ _ _ refl refl k.ensures;
    }
