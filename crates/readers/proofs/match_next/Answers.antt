-- `readers::match_next` meets its contract. What the search finds is what the definition finds for upper read i.
use Rattle.std.proofs.Common.{ℕ, ◌+◌, ◌*◌, ◌<◌, ◌≤◌, ◌≡◌, Option, Some, List, length, arith, sym, ap, ◌∙◌}
use Rattle.std.proofs.Math.ListN.{length-set}
use Rattle.definition.specs.Refusals.{lowest_place}
use Rattle.definition.specs.Readers.{reads_of}
use Rattle.checks.specs.Verdicts.{place_of}
use Rattle.readers.specs.Slices.{read_in}
use Rattle.readers.specs.Scan.{open_tests}
use Rattle.readers.specs.Turns.{Turnable, turned_none, found_there, has_room, turned_some}
use Rattle.readers.proofs.match_next.Goals as goal

-- where a lower read was found
module _ {upper lower : List ℕ} {w i first count : ℕ} {marks answer : List ℕ} (t : Turnable upper lower w i first count marks answer) {j : ℕ} {o : Option ℕ} (is : o ≡ Some j)
    (e : place_of o ≡ lowest_place (open_tests w (reads_of lower) marks (read_in upper i))) where
  there : j < 1024
  there = omega (arith, found_there upper lower w i first count marks answer t j (sym (ap place_of is) ∙ e), t.lower_few)

  room : 2 * count + 2 ≤ length answer
  room = has_room upper lower w i first count marks answer t j (sym (ap place_of is) ∙ e)

pub bounds-marks-j : goal.bounds-marks-j
bounds-marks-j c = there c.requires c.in-Some.is c.find.ensures

pub overflow_mul-answer : goal.overflow_mul-answer
overflow_mul-answer c = omega (arith, room c.requires c.in-Some.is c.find.ensures)

pub offset_bounds-answer-count : goal.offset_bounds-answer-count
offset_bounds-answer-count c = omega (arith, room c.requires c.in-Some.is c.find.ensures)

pub bounds-answer-count : goal.bounds-answer-count
bounds-answer-count c = omega (arith, room c.requires c.in-Some.is c.find.ensures)

pub overflow_mul-answer-in-Some : goal.overflow_mul-answer-in-Some
overflow_mul-answer-in-Some c = omega (arith, room c.requires c.in-Some.is c.find.ensures)

pub overflow_add-answer : goal.overflow_add-answer
overflow_add-answer c = omega (arith, room c.requires c.in-Some.is c.find.ensures)

pub offset_bounds-answer-count-in-Some : goal.offset_bounds-answer-count-in-Some
offset_bounds-answer-count-in-Some c = omega (arith, room c.requires c.in-Some.is c.find.ensures)

pub bounds-answer-count-in-Some : goal.bounds-answer-count-in-Some
bounds-answer-count-in-Some c = simp length-set (omega (arith, room c.requires c.in-Some.is c.find.ensures))

pub overflow_add-result : goal.overflow_add-result
overflow_add-result c = omega (arith, room c.requires c.in-Some.is c.find.ensures)

pub returns-in-Some : goal.returns-in-Some
returns-in-Some c =
    let a = c.args in
    turned_some a.upper.now a.lower.now a.window a.i a.first a.count a.marks.now a.answer.now c.requires _ (sym (ap place_of c.in-Some.is) ∙ c.find.ensures)

pub returns : goal.returns
returns c =
    let a = c.args in
    turned_none a.upper.now a.lower.now a.window a.i a.first a.count a.marks.now a.answer.now c.requires (sym (ap place_of c.in_default.is) ∙ c.find.ensures)
