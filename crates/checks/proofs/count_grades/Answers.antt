-- `checks::count_grades` meets its contract. The loop's invariant: what is counted and what is left make up each marker's grades.
use Rattle.std.proofs.Common.{ℕ, ◌+◌, ◌*◌, ◌/◌, ◌<◌, ◌≡◌, List, length, get_or, arith, refl, sym, subst}
use Rattle.std.proofs.Math.ListN.{length-set}
use Rattle.std.proofs.lemmas.List.{length-replicate}
use Rattle.definition.specs.Refusals.{pairs_of}
use Rattle.checks.specs.Slices.{length_pairs}
use Rattle.checks.specs.Marks.{InGrid, in_grid}
use Rattle.checks.specs.Counts.{Counted, counted_none, counted_next, counted-fits, counted-all}
use Rattle.checks.proofs.count_grades.Goals as goal

pub loop-i-init : goal.loop-i-init
loop-i-init c =
    let e = sym c.requires.counts_value in (
      subst (λ (l : List ℕ). length l ≡ 1024) e (length-replicate {A = ℕ} 1024 0),
      subst (λ (l : List ℕ). Counted (pairs_of c.args.pairs.now) 0 l) e (counted_none (pairs_of c.args.pairs.now)),
    )

below : (ps : List ℕ) (i : ℕ) → i < length ps / 2 → InGrid (pairs_of ps) → get_or ps (2 * i + 1) 0 < 1024
below ps i l h = (in_grid ps i l h).1

pub bounds-counts-pairs : goal.bounds-counts-pairs
bounds-counts-pairs c = below c.args.pairs.now c.loop-i.i (omega arith) c.requires.in_grid

pub overflow_add-counts-in-loop-i : goal.overflow_add-counts-in-loop-i
overflow_add-counts-in-loop-i c =
    let s = c.loop-i in
    let l : s.i < length c.args.pairs.now / 2 = omega arith in
    omega (arith, counted-fits c.args.pairs.now s.counts s.i _ l refl (below c.args.pairs.now s.i l c.requires.in_grid) s.invariant.1)

pub bounds-counts-pairs-in-loop-i : goal.bounds-counts-pairs-in-loop-i
bounds-counts-pairs-in-loop-i c = below c.args.pairs.now c.loop-i.i (omega arith) c.requires.in_grid

pub loop-i-preserved : goal.loop-i-preserved
loop-i-preserved c =
    let s = c.loop-i in
    let l : s.i < length c.args.pairs.now / 2 = omega arith in
    (simp length-set s.invariant.0, counted_next c.args.pairs.now s.counts s.i _ l refl (below c.args.pairs.now s.i l c.requires.in_grid) s.invariant.1 s.invariant.0)

pub returns : goal.returns
returns c = counted-all (pairs_of c.args.pairs.now) c.loop-i.i c.loop-i.counts (omega (arith, length_pairs c.args.pairs.now)) c.loop-i.invariant.1
