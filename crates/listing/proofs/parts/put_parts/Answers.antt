-- `listing::parts::put_parts` meets its contract.
use Rattle.std.proofs.Common.{arith, ◌+◌, ◌*◌, refl, get_or}
use Rattle.definition.specs.Listing.{part_lines}
use Rattle.listing.specs.Parts.{endings_fit}
use Rattle.listing.specs.PartsLeft.{NextPart, next-part, all-parts, no_parts}
use Rattle.listing.proofs.parts.put_parts.Goals as goal
use Rattle.listing.proofs.parts.put_parts.Goals.{In-loop-e}

next :
    (c : In-loop-e) →
    let a = c.args in
    let l = c.loop-e in
    NextPart a.out.now a.at (part_lines c.requires.parts) a.grades.now a.values.now a.endings.now a.residuals.now a.count l.out l.k l.e l.first
    (l.first + get_or a.endings.now (4 * l.e + 3) 0)
next c = let a = c.args in next-part a.out.now a.at _ a.grades.now a.values.now a.endings.now a.residuals.now a.count (c.loop-e.invariant.2 c.requires.parts c.requires.good) c.loop-e-test.true refl

pub loop-e-init : goal.loop-e-init
loop-e-init c =
    let a = c.args in
    let fit = endings_fit c.requires.good in
    (fit.0, fit.1, all-parts a.out.now a.at a.grades.now a.values.now a.endings.now a.residuals.now a.count)

pub put_ending-k-requires : goal.put_ending-k-requires
put_ending-k-requires c = let n = next (goal.at.put_ending-k-requires c).In-loop-e in record { t = n.residual; steps_in_bounds = n.fits }

pub slice_bounds-put_beliefs-end : goal.slice_bounds-put_beliefs-end
slice_bounds-put_beliefs-end c = (next (goal.at.slice_bounds-put_beliefs-end c).In-loop-e).grades-long

pub slice_bounds-put_beliefs-end-in-loop-e : goal.slice_bounds-put_beliefs-end-in-loop-e
slice_bounds-put_beliefs-end-in-loop-e c = (next (goal.at.slice_bounds-put_beliefs-end-in-loop-e c).In-loop-e).values_long

pub put_beliefs-k-requires : goal.put_beliefs-k-requires
put_beliefs-k-requires c =
    let n = next (goal.at.put_beliefs-k-requires c).In-loop-e in
    let p = c.put_ending-k in
    record { beliefs = n.beliefs; good = n.beliefs_fit p.new.out p.result p.ensures }

pub loop-e-preserved : goal.loop-e-preserved
loop-e-preserved c =
    let a = c.args in
    let l = c.loop-e in
    let p = c.put_ending-k in
    let q = c.put_beliefs-k in (
      l.invariant.0,
      l.invariant.1,
      λ ps r.
          let n = next-part a.out.now a.at (part_lines ps) a.grades.now a.values.now a.endings.now a.residuals.now a.count (l.invariant.2 ps r) c.loop-e-test.true refl in
          n.next p.new.out p.result p.ensures q.new.out q.result (q.ensures n.beliefs (n.beliefs_fit p.new.out p.result p.ensures)),
    )

pub returns : goal.returns
returns c ps r =
    let a = c.args in
    no_parts a.out.now a.at (part_lines ps) a.grades.now a.values.now a.endings.now a.residuals.now a.count (c.loop-e.invariant.2 ps r) (omega arith)
