-- `listing::parts::put_beliefs` meets its contract.
use Rattle.std.proofs.Common.{arith}
use Rattle.definition.specs.Listing.{belief_lines}
use Rattle.listing.specs.Beliefs.{NextBelief, floats_fit, next_belief, all-beliefs, no_beliefs}
use Rattle.listing.proofs.parts.put_beliefs.Goals as goal
use Rattle.listing.proofs.parts.put_beliefs.Goals.{In-loop-i}

next : (c : In-loop-i) → let a = c.args in let l = c.loop-i in NextBelief a.out.now a.at (belief_lines c.requires.beliefs) a.numbers.now a.floats.now l.out l.k l.i
next c = next_belief (c.loop-i.invariant.1 c.requires.beliefs c.requires.good) c.loop-i-test.true

pub loop-i-init : goal.loop-i-init
loop-i-init c = let a = c.args in (floats_fit c.requires.good, all-beliefs a.out.now a.at a.numbers.now a.floats.now)

pub put_grade-k-requires : goal.put_grade-k-requires
put_grade-k-requires c = let n = next (goal.at.put_grade-k-requires c).In-loop-i in record { t = (n.absent, n.present); present_in_bounds = n.fits }

pub loop-i-preserved : goal.loop-i-preserved
loop-i-preserved c =
    let l = c.loop-i in
    let p = c.put_grade-k in
    (l.invariant.0, λ bs r. (next_belief (l.invariant.1 bs r) c.loop-i-test.true).next p.new.out p.result p.ensures)

pub returns : goal.returns
returns c bs r = no_beliefs (c.loop-i.invariant.1 bs r) (omega arith)
