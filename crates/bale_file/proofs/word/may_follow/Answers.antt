-- `bale_file::word::may_follow` meets its contract. Each arm knows the kind before; the third and the fourth are one range.
use Rattle.std.specs.Prelude.{◌≤◌, ◌≢◌}
use borrow.Author.Rules.{rules}
use native.Mathlib.Omega.{arith}
use borrow.Author.Tests.{lt-leb, le-leb, ne_eqb}
use Rattle.definition.specs.BaleFile.{may_follow}
use Rattle.bale_file.specs.Words.{follows_marks, follows_none}
use Rattle.bale_file.proofs.word.may_follow.Goals as goal

pub returns-in-0 : goal.returns-in-0
unfolding may_follow
returns-in-0 c = rw c.in-0.is

pub returns-in-1 : goal.returns-in-1
unfolding may_follow
returns-in-1 c = rw c.in-1.is

pub returns-then-kind-eq3 : goal.returns-then-kind-eq3
unfolding may_follow
returns-then-kind-eq3 c = rw (c.in-2.is, c.if-kind-eq3.true)

pub returns-else-kind-eq3 : goal.returns-else-kind-eq3
unfolding may_follow
returns-else-kind-eq3 c = rw (c.in-2.is, ne_eqb _ 3 c.if-kind-eq3.false)

pub returns-then-kind-ge5 : goal.returns-then-kind-ge5
unfolding may_follow
returns-then-kind-ge5 c = rw (c.in-5.is, le-leb 5 _ c.if-kind-ge5.true)

pub returns-else-kind-ge5 : goal.returns-else-kind-ge5
unfolding may_follow
returns-else-kind-ge5 c = rw (c.in-5.is, lt-leb 5 _ c.if-kind-ge5.false)

pub returns-in-7 : goal.returns-in-7
unfolding may_follow
returns-in-7 c = rw c.in-7.is

-- after 3 or 4: below 5, and neither 0, 1 nor 2
pub returns-then-kind-ge4 : goal.returns-then-kind-ge4
returns-then-kind-ge4 c =
    let a = c.args in
    let l : 3 ≤ a.before = omega arith in
    let u : a.before ≤ 4 = omega arith in
    rw (follows_marks a.before a.kind l u, le-leb 4 _ c.if-kind-ge4.true)

pub returns-else-kind-ge4 : goal.returns-else-kind-ge4
returns-else-kind-ge4 c =
    let a = c.args in
    let l : 3 ≤ a.before = omega arith in
    let u : a.before ≤ 4 = omega arith in
    rw (follows_marks a.before a.kind l u, lt-leb 4 _ c.if-kind-ge4.false)

pub returns-in_default : goal.returns-in_default
returns-in_default c =
    let l : 6 ≤ c.args.before = omega arith in
    let n : c.args.before ≢ 7 = search rules in
    follows_none _ c.args.kind l n
