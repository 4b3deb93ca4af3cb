-- `build::build` meets its contract. Assumes nothing.
use Prim.Native.Nat.{◌+◌, ◌*◌, ◌/◌, ◌≤◌}
use lib.ListN.{length, length-set}
use Rattle.factor_graph.specs.Build.{build_sortable, build-counts, build-grades, build-sum, build-trees, build-size, build-labels, build-part, build_writable, build_listable, build-words, build-length}
use native.Mathlib.Omega.{arith}
use Rattle.factor_graph.proofs.build.build.Goals as goal

pub sort_by_marker-requires : goal.sort_by_marker-requires
sort_by_marker-requires c =
    let a = c.args in
    build_sortable a.words.now a.grades a.markers a.pairs.now c.requires

pub overflow_add-n-2 : goal.overflow_add-n-2
overflow_add-n-2 c =
    let few_trees : c.count_trees-trees.result ≤ c.args.markers = let s = c.sort_by_marker in let a = c.args in build-trees a.words.now a.grades a.markers a.pairs.now c.requires s.new.counts s.new.grades s.ensures.0 s.ensures.1 c.count_trees-trees.result c.count_trees-trees.ensures in
    omega (arith, few_trees, c.requires)

pub overflow_add-e-2 : goal.overflow_add-e-2
overflow_add-e-2 c =
    let few_trees : c.count_trees-trees.result ≤ c.args.markers = let s = c.sort_by_marker in let a = c.args in build-trees a.words.now a.grades a.markers a.pairs.now c.requires s.new.counts s.new.grades s.ensures.0 s.ensures.1 c.count_trees-trees.result c.count_trees-trees.ensures in
    omega (arith, few_trees, c.requires)

pub overflow_cast-words : goal.overflow_cast-words
overflow_cast-words c =
    let few_trees : c.count_trees-trees.result ≤ c.args.markers = let s = c.sort_by_marker in let a = c.args in build-trees a.words.now a.grades a.markers a.pairs.now c.requires s.new.counts s.new.grades s.ensures.0 s.ensures.1 c.count_trees-trees.result c.count_trees-trees.ensures in
    omega (arith, few_trees, c.requires)

pub overflow_cast-words-2 : goal.overflow_cast-words-2
overflow_cast-words-2 c =
    let few_trees : c.count_trees-trees.result ≤ c.args.markers = let s = c.sort_by_marker in let a = c.args in build-trees a.words.now a.grades a.markers a.pairs.now c.requires s.new.counts s.new.grades s.ensures.0 s.ensures.1 c.count_trees-trees.result c.count_trees-trees.ensures in
    omega (arith, few_trees, c.requires)

pub write_kinds-requires : goal.write_kinds-requires
write_kinds-requires c =
    let size : let a = c.args in let t = c.count_trees-trees.result in 3 + 3 * (a.grades + 2 * a.markers + t) + 7 * (length a.pairs.now / 2 + a.markers + t) ≤ length a.words.now = let s = c.sort_by_marker in let a = c.args in build-size a.words.now a.grades a.markers a.pairs.now c.requires s.new.counts s.new.grades s.ensures.0 s.ensures.1 c.count_trees-trees.result c.count_trees-trees.ensures in
    simp length-set (omega (arith, size))

pub overflow_add-n-3 : goal.overflow_add-n-3
overflow_add-n-3 c =
    let few_trees : c.count_trees-trees.result ≤ c.args.markers = let s = c.sort_by_marker in let a = c.args in build-trees a.words.now a.grades a.markers a.pairs.now c.requires s.new.counts s.new.grades s.ensures.0 s.ensures.1 c.count_trees-trees.result c.count_trees-trees.ensures in
    omega (arith, few_trees, c.requires)

pub write_labels-requires : goal.write_labels-requires
write_labels-requires c =
    let k = c.write_kinds in
    let t = c.count_trees-trees in
    let s = c.sort_by_marker in
    let a = c.args in
    let p = c.requires in
    (build-labels a.words.now a.grades a.markers a.pairs.now p s.new.counts s.new.grades s.ensures.0 s.ensures.1 t.result t.ensures k.new.words k.ensures, omega (arith, build-counts a.words.now a.grades a.markers a.pairs.now p s.new.counts s.new.grades s.ensures.0 s.ensures.1, p.markers), omega (arith, p.grades), omega (arith, p.markers))

pub overflow_mul-edges : goal.overflow_mul-edges
overflow_mul-edges c =
    let few_trees : c.count_trees-trees.result ≤ c.args.markers = let s = c.sort_by_marker in let a = c.args in build-trees a.words.now a.grades a.markers a.pairs.now c.requires s.new.counts s.new.grades s.ensures.0 s.ensures.1 c.count_trees-trees.result c.count_trees-trees.ensures in
    omega (arith, few_trees, c.requires)

pub overflow_add-edges : goal.overflow_add-edges
overflow_add-edges c =
    let few_trees : c.count_trees-trees.result ≤ c.args.markers = let s = c.sort_by_marker in let a = c.args in build-trees a.words.now a.grades a.markers a.pairs.now c.requires s.new.counts s.new.grades s.ensures.0 s.ensures.1 c.count_trees-trees.result c.count_trees-trees.ensures in
    omega (arith, few_trees, c.requires)

pub overflow_mul-edges-2 : goal.overflow_mul-edges-2
overflow_mul-edges-2 c =
    let few_trees : c.count_trees-trees.result ≤ c.args.markers = let s = c.sort_by_marker in let a = c.args in build-trees a.words.now a.grades a.markers a.pairs.now c.requires s.new.counts s.new.grades s.ensures.0 s.ensures.1 c.count_trees-trees.result c.count_trees-trees.ensures in
    omega (arith, few_trees, c.requires)

pub overflow_add-edges-2 : goal.overflow_add-edges-2
overflow_add-edges-2 c =
    let few_trees : c.count_trees-trees.result ≤ c.args.markers = let s = c.sort_by_marker in let a = c.args in build-trees a.words.now a.grades a.markers a.pairs.now c.requires s.new.counts s.new.grades s.ensures.0 s.ensures.1 c.count_trees-trees.result c.count_trees-trees.ensures in
    omega (arith, few_trees, c.requires)

pub overflow_mul-end : goal.overflow_mul-end
overflow_mul-end c =
    let few_trees : c.count_trees-trees.result ≤ c.args.markers = let s = c.sort_by_marker in let a = c.args in build-trees a.words.now a.grades a.markers a.pairs.now c.requires s.new.counts s.new.grades s.ensures.0 s.ensures.1 c.count_trees-trees.result c.count_trees-trees.ensures in
    omega (arith, few_trees, c.requires)

pub overflow_add-end : goal.overflow_add-end
overflow_add-end c =
    let few_trees : c.count_trees-trees.result ≤ c.args.markers = let s = c.sort_by_marker in let a = c.args in build-trees a.words.now a.grades a.markers a.pairs.now c.requires s.new.counts s.new.grades s.ensures.0 s.ensures.1 c.count_trees-trees.result c.count_trees-trees.ensures in
    omega (arith, few_trees, c.requires)

pub offset_bounds-words-edges : goal.offset_bounds-words-edges
offset_bounds-words-edges c =
    let few_trees : c.count_trees-trees.result ≤ c.args.markers = let s = c.sort_by_marker in let a = c.args in build-trees a.words.now a.grades a.markers a.pairs.now c.requires s.new.counts s.new.grades s.ensures.0 s.ensures.1 c.count_trees-trees.result c.count_trees-trees.ensures in
    omega (arith, few_trees, c.requires)

pub slice_bounds-write_edges-end : goal.slice_bounds-write_edges-end
slice_bounds-write_edges-end c =
    let l = c.write_labels in
    let k = c.write_kinds in
    let t = c.count_trees-trees in
    let s = c.sort_by_marker in
    let a = c.args in
    let p = c.requires in
    build-part a.words.now a.grades a.markers a.pairs.now p s.new.counts s.new.grades s.ensures.0 s.ensures.1 t.result t.ensures k.new.words k.ensures l.new.words l.ensures

pub write_edges-requires : goal.write_edges-requires
write_edges-requires c =
    let l = c.write_labels in
    let k = c.write_kinds in
    let t = c.count_trees-trees in
    let s = c.sort_by_marker in
    let a = c.args in
    let p = c.requires in
    (build_writable a.words.now a.grades a.markers a.pairs.now p s.new.counts s.new.grades s.ensures.0 s.ensures.1 t.result t.ensures k.new.words k.ensures l.new.words l.ensures, omega (arith, build-counts a.words.now a.grades a.markers a.pairs.now p s.new.counts s.new.grades s.ensures.0 s.ensures.1, p.markers), build-sum a.words.now a.grades a.markers a.pairs.now p s.new.counts s.new.grades s.ensures.0 s.ensures.1, omega (arith, build-grades a.words.now a.grades a.markers a.pairs.now p s.new.counts s.new.grades s.ensures.0 s.ensures.1), omega (arith, p.grades, p.markers))

pub write_lists-requires : goal.write_lists-requires
write_lists-requires c =
    let d = c.write_edges in
    let l = c.write_labels in
    let k = c.write_kinds in
    let t = c.count_trees-trees in
    let s = c.sort_by_marker in
    let a = c.args in
    let p = c.requires in
    build_listable a.words.now a.grades a.markers a.pairs.now p s.new.counts s.new.grades s.ensures.0 s.ensures.1 t.result t.ensures k.new.words k.ensures l.new.words l.ensures d.new.edges d.new.degrees d.ensures

pub returns : goal.returns
returns c =
    let z = c.write_lists in
    let d = c.write_edges in
    let l = c.write_labels in
    let k = c.write_kinds in
    let t = c.count_trees-trees in
    let s = c.sort_by_marker in
    let a = c.args in
    let p = c.requires in
    λ b eg em ep. (build-words a.words.now a.grades a.markers a.pairs.now p s.new.counts s.new.grades s.ensures.0 s.ensures.1 t.result t.ensures k.new.words k.ensures l.new.words l.ensures d.new.edges d.new.degrees d.ensures z.new.words z.ensures b eg em ep, build-length a.words.now a.grades a.markers a.pairs.now p s.new.counts s.new.grades s.ensures.0 s.ensures.1 t.result t.ensures k.new.words k.ensures l.new.words l.ensures d.new.edges d.new.degrees d.ensures z.new.words z.ensures b eg em ep)
