-- A part entered by itself: the grades, markers and pairs in it, each kind in its old order and numbered anew from 0, a marker with its old evidence.
use Rattle.std.specs.Prelude.{ℕ, List, map, eqb, length, get_or}
use Rattle.definition.specs.Lists.{range, filter, mem, index_of}
use Rattle.definition.specs.FactorGraph.{Pair, Bale, Node, grade_node, factor_node, eq_node, marker_numbers, no_evidence}

-- the part's grades, markers and pairs, by their old numbers
abbrev pub grades_in : Bale → List Node → List ℕ
grades_in b p = filter (λ g. mem eq_node (grade_node g) p) (range 0 b.grades)

abbrev pub markers_in : Bale → List Node → List ℕ
markers_in b p = filter (λ m. mem eq_node (factor_node m) p) (marker_numbers b)

abbrev pub pairs_in : Bale → List Node → List Pair
pairs_in b p = filter (λ q. mem eq_node (grade_node q.grade) p) b.pairs

-- a pair by its new numbers, gs and ms being the part's grades and markers
abbrev pub renumbered : List ℕ → List ℕ → Pair → Pair
renumbered gs ms q = record { grade = index_of eqb q.grade gs; marker = index_of eqb q.marker ms }

unfoldable pub part_alone : Bale → List Node → Bale
part_alone b p =
    record {
      grades = length (grades_in b p);
      markers = map (λ m. get_or b.markers m no_evidence) (markers_in b p);
      pairs = map (renumbered (grades_in b p) (markers_in b p)) (pairs_in b p);
    }
