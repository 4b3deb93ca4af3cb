-- The built graph in words: what `build` asks, and why its steps leave the record of the built graph.
use Rattle.std.specs.Prelude.{◌≡◌, refl, List, ◌∷◌, ◌++◌, ℕ, suc, ◌+◌, ◌-◌, ◌*◌, ◌/◌, ◌≤◌, ◌<◌, length, get_or, take, drop, set, replicate}
use Rattle.std.proofs.Common.{sym, ◌∙◌, subst, arith, length-set, length-append, length-take-le}
use Rattle.std.proofs.Math.Path.{ap}
use Rattle.std.proofs.lemmas.List.{length-replicate}
use Rattle.definition.specs.Lists.{range}
use Rattle.definition.specs.FactorGraph.{Bale, Pair, eq_pair, grades_of, Edge}
use Rattle.definition.specs.Settings.{Settings}
use Rattle.definition.specs.Refusals.{Buffers, pairs_of}
use Rattle.graph_laws.specs.Lists.{All, All-mono}
use Rattle.graph_laws.specs.Ranks.{NoDup}
use Rattle.graph_laws.specs.Accepted.{Passes, sized, valid, pairs_apart}
use Rattle.list_laws.specs.Part.{region, get_d_region, length-region}
use Rattle.list_laws.specs.Put.{put, put_in, length-put}
use Rattle.factor_graph.specs.Words.{built_words}
use Rattle.list_laws.specs.PutParts.{put_front}
use Rattle.factor_graph.specs.BuildGroup.{pairs-length, rows, rows-length, tally, length-tally}
use Rattle.factor_graph.specs.BuildSums.{length-range, sums, sum_of, length-sums}
use Rattle.factor_graph.specs.BuildSlots.{ends_from}
use Rattle.factor_graph.specs.BuildSort.{zeros, zeros_countable, Counted, counted-sum, tally-counted, Sortable, record_ends, Listable, listed}
use Rattle.factor_graph.specs.BuildEdges.{Writing, writing, Inside, Writable, push_all, pushed_degrees}
use Rattle.factor_graph.specs.BuildNodes.{trees_from, trees_few, kind_words, label_words}
use Rattle.factor_graph.specs.BuildGraph.{encoded, degrees_after, length-encoded, pushed-words_are, pushed_degrees_are, ends, length-ends, ends-below, ends_read}
use Rattle.factor_graph.specs.BuildRecord.{assembled}
use Rattle.factor_graph.specs.BuildPlan.{Known, Given, given, Plan, plan, plan_words, few_trees, edges_of, nodes_in, edges_in, record_words}

-- The bale passes the checks of its sizes and its pairs, and the words have room. A marker may have any number of grades.
pub record Buildable (w : List ℕ) (G M : ℕ) (pairs : List ℕ) : Type 0 where
  pub grades : G ≤ 1024
  pub markers : M ≤ 1024
  pub few : length pairs / 2 ≤ 8192
  pub known : Known G M (pairs_of pairs)
  pub once : NoDup eq_pair (pairs_of pairs)
  pub room : 13 * (G + M + length pairs / 2) + 3 ≤ length w

module _ (w : List ℕ) (G M : ℕ) (pairs : List ℕ) (p : Buildable w G M pairs) where
  abbrev ps : List Pair
  ps = pairs_of pairs

  keys : All (λ q. q.marker < M) ps
  keys = All-mono (λ q. (q.grade < G) × (q.marker < M)) (λ q. q.marker < M) (λ q h. h.1) ps p.known

  count : length ps ≡ length pairs / 2
  count = pairs-length pairs

  pub build_sortable : Sortable pairs M (zeros 1024) (zeros 8192)
  build_sortable =
      let l : length (zeros 8192) ≡ 8192 = length-replicate {A = ℕ} 8192 0 in
      record { known = keys; few = p.markers; clear = refl; room = omega (arith, count, p.few); small = omega arith }

  module _ (counts grades : List ℕ) (ec : counts ≡ tally ps (zeros 1024)) (eg : grades ≡ put (zeros 8192) 0 (rows (grades_of ps) M)) where
    all-given : Given counts grades G M ps
    all-given = given G M ps counts grades p.known p.once p.grades p.markers (omega (arith, count, p.few)) ec eg

    pub build-counts : length counts ≡ 1024
    build-counts = ap length ec ∙ length-tally ps (zeros 1024) ∙ length-replicate {A = ℕ} 1024 0

    pub build-grades : length grades ≡ 8192
    build-grades =
        let l : length (zeros 8192) ≡ 8192 = length-replicate {A = ℕ} 8192 0 in
        ap length eg ∙ length-put (zeros 8192) 0 (rows (grades_of ps) M) (omega (arith, rows-length M ps keys, count, p.few)) ∙ l

    pub build-sum : sum_of (take M counts) ≤ length grades
    build-sum =
        omega
        (arith, counted-sum M ps counts keys (ap (take M) ec ∙ tally-counted M 1024 ps p.markers keys), build-grades, count, p.few)

    module _ (T : ℕ) (et : T ≡ length (trees_from counts M 0)) where
      abbrev n : ℕ
      n = G + 2 * M + T

      abbrev e : ℕ
      e = length pairs / 2 + M + T

      n-is : n ≡ nodes_in counts G M
      n-is = ap (λ (x : ℕ). G + 2 * M + x) et

      e-is : e ≡ edges_in counts M ps
      e-is = omega (arith, et, count)

      pub build-trees : T ≤ M
      build-trees = omega (arith, et, trees_few counts M 0)

      pub build-size : 3 + 3 * n + 7 * e ≤ length w
      build-size = omega (arith, et, few_trees counts grades G M ps all-given, count, p.room)

      abbrev es : List (Edge ℕ)
      es = edges_of counts grades G M

      abbrev written : Plan counts grades G M ps
      written = plan counts grades G M ps all-given

      edges-number : length es ≡ e
      edges-number = written.edge_count ∙ sym e-is

      inside-n : All (Inside n) es
      inside-n = subst (λ (x : ℕ). All (Inside x) es) (sym n-is) written.inside

      module _ (w2 : List ℕ) (k2 : w2 ≡ put (set (set w 0 n) 1 e) 2 (kind_words G M T)) where
        abbrev w1 : List ℕ
        w1 = set (set w 0 n) 1 e

        l1 : length w1 ≡ length w
        l1 = length-set (set w 0 n) 1 e ∙ length-set w 0 n

        kinds-length : length (kind_words G M T) ≡ n
        kinds-length =
            let a = length-append {A = ℕ} (replicate G 0) (replicate M 1 ++ (replicate M 2 ++ replicate T 3)) in
            let b = length-append {A = ℕ} (replicate M 1) (replicate M 2 ++ replicate T 3) in
            let c = length-append {A = ℕ} (replicate M 2) (replicate T 3) in
            omega (arith, a, b, c, length-replicate {A = ℕ} G 0, length-replicate {A = ℕ} M 1, length-replicate {A = ℕ} M 2, length-replicate {A = ℕ} T 3)

        labels_length : length (label_words G M counts) ≡ n
        labels_length =
            let a = length-append (range 0 G) (range 0 M ++ (range 0 M ++ trees_from counts M 0)) in
            let b = length-append (range 0 M) (range 0 M ++ trees_from counts M 0) in
            let c = length-append (range 0 M) (trees_from counts M 0) in
            omega (arith, a, b, c, length-range 0 G, length-range 0 M, et)

        pub build-labels : (2 + n) + (G + (M + (M + length (trees_from counts M 0)))) ≤ length w2
        build-labels = omega (arith, et, build-size, l1, ap length k2 ∙ length-put w1 2 (kind_words G M T) (omega (arith, kinds-length, l1, build-size)))

        module _ (w3 : List ℕ) (k3 : w3 ≡ put w2 (2 + n) (label_words G M counts)) where
          l3 : length w3 ≡ length w
          l3 =
              let m2 = ap length k2 ∙ length-put w1 2 (kind_words G M T) (omega (arith, kinds-length, l1, build-size)) in
              ap length k3 ∙ length-put w2 (2 + n) (label_words G M counts) (omega (arith, labels_length, m2, l1, build-size)) ∙ m2 ∙ l1

          abbrev at : ℕ
          at = 3 + 3 * n + 2 * e

          abbrev part : List ℕ
          part = take (at + 5 * e - at) (drop at w3)

          size : at + 5 * e - at ≡ 5 * e
          size = omega arith

          pub build-part : at + 5 * e ≤ length w3
          build-part = omega (arith, l3, build-size)

          part_length : length part ≡ 5 * e
          part_length = ap (λ (j : ℕ). length (region w3 at j)) size ∙ length-region w3 at (5 * e) build-part

          pub build_writable : Writable 0 es (writing part (zeros 4096))
          build_writable =
              let z : length (zeros 4096) ≡ 4096 = length-replicate {A = ℕ} 4096 0 in
              record {
                room = omega (arith, part_length, edges-number);
                inside = All-mono (Inside n) (Inside (length (zeros 4096))) (λ x h. (omega (arith, h.0, build-trees, p.grades, p.markers), omega (arith, h.1, build-trees, p.grades, p.markers))) es inside-n;
                small = zeros_countable (2 * length es) 4096 (omega (arith, edges-number, build-trees, p.markers, p.few));
              }

          module _ (y d : List ℕ) (q : writing y d ≡ push_all 0 es (writing part (zeros 4096))) where
            d-is : d ≡ degrees_after (zeros 4096) es
            d-is = ap (λ (s : Writing). s.degrees) q ∙ pushed_degrees_are 0 es (writing part (zeros 4096))

            y-is : y ≡ put part 0 (encoded (zeros 4096) es)
            y-is = ap (λ (s : Writing). s.words) q ∙ pushed-words_are 0 es (writing part (zeros 4096)) (omega (arith, part_length, edges-number))

            abbrev w4 : List ℕ
            w4 = take at w3 ++ (y ++ drop (at + 5 * e - at) (drop at w3))

            abbrev code : List ℕ
            code = encoded (zeros 4096) es

            code-length : length code ≡ 5 * e
            code-length = length-encoded (zeros 4096) es ∙ ap (λ (x : ℕ). 5 * x) edges-number

            w4-is : w4 ≡ put w3 at code
            w4-is = put_front 0 w3 at (at + 5 * e - at) code y (omega (arith, build-part)) (omega (arith, code-length)) y-is

            l4 : length w4 ≡ length w
            l4 = ap length w4-is ∙ length-put w3 at code (omega (arith, code-length, build-part)) ∙ l3

            ends_are : record_ends w4 n e ≡ ends 0 es
            ends_are =
                ap (λ (x : ℕ). ends_from (region w4 (3 + 3 * n) (7 * e)) (2 * e) x 0) (sym edges-number)
                ∙ ends_read (region w4 (3 + 3 * n) (7 * e)) (2 * e) 0 (zeros 4096) es
                (λ j h.
                let i : j < 5 * e = omega (arith, edges-number) in
                let a : 2 * e + 5 * 0 + j < 7 * e = omega arith in
                let b : 3 + 3 * n + (2 * e + 5 * 0 + j) ≡ at + j = omega arith in
                get_d_region w4 (3 + 3 * n) (7 * e) (2 * e + 5 * 0 + j) 0 a
                ∙ ap (λ (x : ℕ). get_or w4 x 0) b
                ∙ ap (λ (x : List ℕ). get_or x (at + j) 0) w4-is
                ∙ put_in w3 at code 0 j (omega (arith, build-part)) (omega (arith, code-length)))

            pub build_listable : Listable w4 d n e
            build_listable =
                record {
                  few = omega (arith, build-trees, p.grades, p.markers);
                  few_edges = omega (arith, build-trees, p.markers, p.few);
                  room = omega (arith, l4, build-size);
                  wide = rw d-is (omega (arith, degrees_length, build-trees, p.grades, p.markers));
                  known = subst (All (λ r. r.marker < n)) (sym ends_are) (ends-below n 0 es inside-n);
                  counted =
                      ap (take n) d-is
                      ∙ subst (λ (qs : List Pair). Counted n qs (degrees_after (zeros 4096) es)) (sym ends_are)
                      (subst (λ (x : ℕ). Counted x (ends 0 es) (degrees_after (zeros 4096) es)) (sym n-is) written.degrees);
                }
              where
                degrees_length : length (degrees_after (zeros 4096) es) ≡ 4096
                degrees_length =
                    ap length (sym (pushed_degrees_are 0 es (writing part (zeros 4096))))
                    ∙ pushed_degrees 0 es (writing part (zeros 4096))
                    ∙ length-replicate {A = ℕ} 4096 0

            module _ (w5 : List ℕ) (q5 : w5 ≡ listed w4 d n e) where
              abbrev F : List ℕ
              F = sums 0 (take n (degrees_after (zeros 4096) es))

              abbrev S : List ℕ
              S = rows (grades_of (ends 0 es)) n

              F-length : length F ≡ n + 1
              F-length =
                  let c = build_listable.counted in
                  let z : n + 1 ≡ suc n = omega arith in
                  length-sums 0 (take n (degrees_after (zeros 4096) es))
                  ∙ ap suc (ap (λ (x : List ℕ). length (take n x)) (sym d-is) ∙ length-take-le n d build_listable.wide)
                  ∙ sym z

              S-length : length S ≡ 2 * e
              S-length = rows-length n (ends 0 es) (ends-below n 0 es inside-n) ∙ length-ends 0 es ∙ ap (λ (x : ℕ). 2 * x) edges-number

              w5-is : w5 ≡ put w 0 (n ∷ e ∷ kind_words G M T ++ (label_words G M counts ++ (F ++ (S ++ code))))
              w5-is =
                  q5
                  ∙ ap (λ (x : List ℕ). put (put w4 (2 + 2 * n) (sums 0 (take n x))) (3 + 3 * n) (rows (grades_of (record_ends w4 n e)) n)) d-is
                  ∙ ap (λ (x : List Pair). put (put w4 (2 + 2 * n) F) (3 + 3 * n) (rows (grades_of x) n)) ends_are
                  ∙ ap (λ (x : List ℕ). put (put x (2 + 2 * n) F) (3 + 3 * n) S) (w4-is ∙ ap (λ (x : List ℕ). put x at code) (k3 ∙ ap (λ (x : List ℕ). put x (2 + n) (label_words G M counts)) k2))
                  ∙ assembled w n e (kind_words G M T) (label_words G M counts) F S code kinds-length labels_length F-length S-length code-length build-size

              words_are : n ∷ e ∷ kind_words G M T ++ (label_words G M counts ++ (F ++ (S ++ code))) ≡ record_words counts grades G M ps
              unfolding record_words
              words_are =
                  ap (λ (x : ℕ). n ∷ x ∷ kind_words G M T ++ (label_words G M counts ++ (F ++ (S ++ code)))) e-is
                  ∙ ap (λ (x : ℕ). (G + 2 * M + x) ∷ edges_in counts M ps ∷ kind_words G M x ++ (label_words G M counts ++ (sums 0 (take (G + 2 * M + x) (degrees_after (zeros 4096) es)) ++ (rows (grades_of (ends 0 es)) (G + 2 * M + x) ++ code)))) et

              record_length : length (n ∷ e ∷ kind_words G M T ++ (label_words G M counts ++ (F ++ (S ++ code)))) ≡ at + 5 * e
              record_length =
                  let a = length-append (kind_words G M T) (label_words G M counts ++ (F ++ (S ++ code))) in
                  let c = length-append (label_words G M counts) (F ++ (S ++ code)) in
                  let f = length-append F (S ++ code) in
                  let g = length-append S code in
                  omega (arith, a, c, f, g, kinds-length, labels_length, F-length, S-length, code-length)

              -- the record of the built graph, at the front of the words
              pub build-words : (b : Bale) → b.grades ≡ G → length b.markers ≡ M → b.pairs ≡ ps → w5 ≡ put w 0 (built_words b)
              build-words b ea em ep = w5-is ∙ ap (put w 0) (words_are ∙ plan_words counts grades G M ps all-given b ea em ep)

              pub build-length : (b : Bale) → b.grades ≡ G → length b.markers ≡ M → b.pairs ≡ ps → at + 5 * e ≡ length (built_words b)
              build-length b ea em ep = sym record_length ∙ ap length (words_are ∙ plan_words counts grades G M ps all-given b ea em ep)

-- an accepted bale is buildable
pub accepted_buildable : (s : Settings) (f : Buffers) (b : Bale) → Passes s f b → (w pairs : List ℕ) → b.pairs ≡ pairs_of pairs → 13 * (b.grades + length b.markers + length pairs / 2) + 3 ≤ length w
    → Buildable w b.grades (length b.markers) pairs
accepted_buildable s f b p w pairs e h =
    let z = sized b p.sizes.0 in
    record {
      grades = z.grades;
      markers = z.markers;
      few = omega (arith, z.pairs, ap length e, pairs-length pairs);
      known = subst (Known b.grades (length b.markers)) e (valid b p.known);
      once = subst (NoDup eq_pair) e (pairs_apart b p.once);
      room = h;
    }
