-- `checks::check_shared` meets its contract. The loop's invariant: no marker before this one has too many grades.
use Rattle.std.proofs.Common.{ℕ, ◌<◌, ◌≤◌, ◌≡◌, ◌/◌, List, map, take, length, get_or, arith, ◌∙◌, length-take-le}
use Rattle.std.proofs.lemmas.List.{get_or-take}
use borrow.Author.Tests.{lt-ltb, le-ltb}
use Rattle.definition.specs.Refusals.{pairs_of, bale_of, too_many_grades}
use Rattle.definition.specs.FactorGraph.{Pair, marker_numbers}
use Rattle.checks.specs.Counts.{grade_count, shared_count, shared-test}
use Rattle.checks.specs.Searching.{reached_first, reached_next, reached_here, reached_end}
use Rattle.checks.proofs.check_shared.Goals as goal

pub loop-m-init : goal.loop-m-init
loop-m-init c = reached_first _

-- what is looked at is the marker's count of pairs
counted :
    (n m : ℕ) (counts : List ℕ) (ps : List Pair) → n ≤ 1024 → length counts ≡ 1024 → m < length (take n counts) →
    ((m : ℕ) → m < 1024 → get_or counts m 0 ≡ grade_count ps m)
    → (m < n) × (get_or (take n counts) m 0 ≡ grade_count ps m)
counted n m counts ps h e l f =
    let below : m < n = omega (arith, length-take-le n counts) in
    (below, get_or-take n counts m 0 below ∙ f m (omega arith))

pub returns-then-count-gt128 : goal.returns-then-count-gt128
returns-then-count-gt128 c =
    let a = c.args in
    let s = c.loop-m in
    let n = counted (length a.evidence.now / 2) s.m c.count_grades.new.counts (pairs_of a.pairs.now) (omega arith) (omega arith) c.loop-m-test.true c.count_grades.ensures in
    let l : 128 < grade_count (pairs_of a.pairs.now) s.m = omega (arith, n, c.if-count-gt128.true) in
    reached_here _ s.m (omega (arith, n, shared_count a.grades a.evidence.now a.pairs.now)) (shared-test a.grades a.evidence.now a.pairs.now s.m n.0 ∙ lt-ltb 128 _ l) s.invariant

pub loop-m-preserved : goal.loop-m-preserved
loop-m-preserved c =
    let a = c.args in
    let s = c.loop-m in
    let b = bale_of a.grades a.evidence.now a.pairs.now in
    let n = counted (length a.evidence.now / 2) s.m c.count_grades.new.counts (pairs_of a.pairs.now) (omega arith) (omega arith) c.loop-m-test.true c.count_grades.ensures in
    let l : grade_count (pairs_of a.pairs.now) s.m ≤ 128 = omega (arith, n, c.if-count-gt128.false) in
    let k : s.m < length (map (too_many_grades b) (marker_numbers b)) = omega (arith, n, shared_count a.grades a.evidence.now a.pairs.now) in
    reached_next _ s.m k (shared-test a.grades a.evidence.now a.pairs.now s.m n.0 ∙ le-ltb 128 _ l) s.invariant

pub returns : goal.returns
returns c =
    let a = c.args in
    let n = length-take-le (length a.evidence.now / 2) c.count_grades.new.counts (omega arith) in
    reached_end _ c.loop-m.m (omega (arith, n, shared_count a.grades a.evidence.now a.pairs.now)) c.loop-m.invariant
