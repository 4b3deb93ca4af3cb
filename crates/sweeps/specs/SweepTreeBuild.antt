-- A tree of a part: that it can be built anew, and that the code's test of its rows is the definition's of its messages.
use Rattle.std.specs.Prelude.{ℕ, zero, suc, ◌+◌, ◌-◌, ◌*◌, ◌≤◌, ◌<◌, ◌≡◌, refl, List, ◌∷◌, ◌++◌, Float, length, get_or, take, drop, replicate}
use Rattle.std.proofs.Common.{arith, sym, ap, ◌∙◌, length-append}
use Rattle.std.proofs.Math.Seq.{drop-append-add}
use Rattle.definition.specs.Floats.{zeroᶠ}
use Rattle.definition.specs.Vectors.{Message}
use Rattle.definition.specs.Settings.{Settings}
use Rattle.definition.specs.FactorGraph.{Kind, grade, factor, input, tree}
use Rattle.definition.specs.Directions.{Direction, MessageNode, MessageGraph, no_message_node, node_at, messages_in}
use Rattle.definition.specs.Messages.{LastBuild, needs_rebuild}
use Rattle.graph_laws.specs.AloneChecks.{All-getD}
use Rattle.graph_laws.specs.Sending.{MessageNodeKept}
use Rattle.list_laws.specs.Part.{region}
use Rattle.messages.specs.Layout.{cut, width, kind_code}
use Rattle.messages.specs.LayoutOffsets.{long_at, offset_at, offset_mono, span_at, span-end, span_room, TwoLong}
use Rattle.messages.specs.LayoutCut.{row_in, length-row_in}
use Rattle.messages.specs.LayoutKinds.{tree-degree, tree-first, tree-two, tree-row, messages_in-tree}
use Rattle.messages.specs.LayoutPairs.{pairs}
use Rattle.messages.specs.LayoutRows.{RowsRead}
use Rattle.messages.specs.LayoutWords.{inside-row}
use Rattle.messages.specs.Rebuild.{tree_row}
use Rattle.messages.specs.State.{PartRows, FloatRows, scratch_floats, part_floats, build_of}
use Rattle.sweeps.specs.SweepBuild.{Building}
use Rattle.sweeps.specs.SweepRebuild.{Rebuilding, held_row, built_of, needs_build}
use Rattle.sweeps.specs.SweepRows.{region-front, read-rows}
use Rattle.sweeps.specs.SweepTree.{scattering}

-- what is read behind the first list
pub region-behind : (p q : List Float) (a b m : ℕ) → a ≡ length p + b → region (p ++ q) a m ≡ region q b m
region-behind p q a b m e = ap (λ (i : ℕ). take m (drop i (p ++ q))) e ∙ ap (take m) (drop-append-add p q b)

tree_few : (t : MessageGraph) (s : Settings) (k : Kind) (x : MessageNode) → kind_code k ≡ 3 → MessageNodeKept (λ m. Unit {0}) t s k x → length x.outgoing ≤ 129
tree_few t s grade x e m = absurd (let z : ⊥ = omega arith in z)
tree_few t s (factor d) x e m = absurd (let z : ⊥ = omega arith in z)
tree_few t s (input y) x e m = absurd (let z : ⊥ = omega arith in z)
tree_few t s (tree d) x e m = m

module _ (s : Settings) (t : MessageGraph) (kinds firsts starts outs offsets labels : List ℕ) (evidence : List Float) (P : PartRows s t kinds firsts starts outs offsets labels evidence) (n : ℕ) (h : n < length t.nodes) (e : kind_code (node_at t n).kind ≡ 3) where
  abbrev ds : List Direction
  ds = t.directions

  abbrev x : MessageNode
  x = node_at t n

  abbrev k : ℕ
  k = length (node_at t n).outgoing

  abbrev f : ℕ
  f = get_or firsts n 0

  abbrev L : ℕ
  L = width t.directions

  abbrev m : ℕ
  m = 3 * (length (node_at t n).outgoing - 1) + 1

  R : RowsRead t kinds firsts starts outs offsets
  R = read-rows s t kinds firsts starts outs offsets labels evidence P

  pub tree-inside : (node_at t n).first_incoming + length (node_at t n).outgoing ≤ length t.directions
  tree-inside = inside-row t kinds firsts starts outs offsets R n h

  pub tree-some : 3 ≤ length (node_at t n).outgoing
  tree-some = tree-degree P.subgraph t P.consistent P.kept.sound n h e

  few : k ≤ 129
  few = tree_few t s x.kind x e (All-getD (λ y. MessageNodeKept (λ m. Unit {0}) t s y.kind y) t.nodes P.kept.nodes no_message_node n h)

  first : long_at ds x.first_incoming ≡ k
  first = tree-first P.subgraph t P.consistent P.kept.sound n h e

  two : TwoLong ds (x.first_incoming + 1) (k - 1)
  two = tree-two P.subgraph t P.consistent P.kept.sound n h e

  pub tree-at : get_or offsets (get_or firsts n 0) 0 ≡ offset_at t.directions (node_at t n).first_incoming
  tree-at = R.offset f ∙ ap (offset_at ds) (R.first n h)

  -- its part of a row
  module _ (r : List Float) (z : length r ≡ width t.directions) where
    pub tree-span : span_at t.directions (node_at t n).first_incoming (length (node_at t n).outgoing) ≡ 3 * (length (node_at t n).outgoing - 1) + 1
    tree-span = omega (arith, length-row_in x ds r tree-inside z, tree-row ds x r z tree-inside (omega (arith, tree-some)) first two, tree-some)

    tree-held : region r (get_or offsets f 0) m ≡ row_in x ds r
    tree-held = ap (λ (i : ℕ). region r i m) tree-at ∙ ap (region r (offset_at ds x.first_incoming)) (sym tree-span)

    pub tree_messages_lem : tree_row (length (node_at t n).outgoing - 1) (row_in (node_at t n) t.directions r) ≡ messages_in (node_at t n) (cut t.directions r)
    tree_messages_lem =
        ap (λ (i : ℕ). take i (row_in x ds r) ∷ pairs (drop i (row_in x ds r))) (let y : k - 1 + 1 ≡ k = omega (arith, tree-some) in y)
        ∙ sym (messages_in-tree ds x r z tree-inside (omega (arith, tree-some)) first two)

  module _ (r_in r_new r_log r_build pending rest : List Float) (F : FloatRows t r_in r_new r_log r_build pending rest) where
    abbrev w : List Float
    w = part_floats r_in r_new r_log r_build pending rest

    part-long : length w ≡ L + (L + (L + (L + (length ds + length rest))))
    part-long =
        omega (
          arith,
          length-append r_in (r_new ++ (r_log ++ (r_build ++ (pending ++ rest)))),
          length-append r_new (r_log ++ (r_build ++ (pending ++ rest))),
          length-append r_log (r_build ++ (pending ++ rest)),
          length-append r_build (pending ++ rest),
          length-append pending rest,
          F.in_long,
          F.new-long,
          F.log_long,
          F.build-long,
          F.pending_long,
        )

    room : get_or offsets f 0 + m ≤ L
    room = omega (arith, tree-at, tree-span r_in F.in_long, span_room ds x.first_incoming k tree-inside)

    pub held_in_lem : held_row offsets (get_or firsts n 0) (length (node_at t n).outgoing) (part_floats r_in r_new r_log r_build pending rest) ≡ row_in (node_at t n) t.directions r_in
    held_in_lem = region-front r_in (r_new ++ (r_log ++ (r_build ++ (pending ++ rest)))) (get_or offsets f 0) m (omega (arith, room, F.in_long)) ∙ tree-held r_in F.in_long

    held-build : region w (L + L + L + get_or offsets f 0) m ≡ row_in x ds r_build
    held-build =
        let a = get_or offsets f 0 in
        region-behind r_in (r_new ++ (r_log ++ (r_build ++ (pending ++ rest)))) (L + L + L + a) (L + L + a) m (omega (arith, F.in_long))
        ∙ region-behind r_new (r_log ++ (r_build ++ (pending ++ rest))) (L + L + a) (L + a) m (omega (arith, F.new-long))
        ∙ region-behind r_log (r_build ++ (pending ++ rest)) (L + a) a m (omega (arith, F.log_long))
        ∙ region-front r_build (pending ++ rest) a m (omega (arith, room, F.build-long))
        ∙ tree-held r_build F.build-long

    module _ (scratch : ℕ) (g : scratch ≡ 4 * width t.directions + length t.directions) where
      zeros : region w scratch scratch_floats ≡ replicate scratch_floats zeroᶠ
      zeros =
          let D = length ds in
          region-behind r_in (r_new ++ (r_log ++ (r_build ++ (pending ++ rest)))) scratch (L + L + L + D) scratch_floats (omega (arith, F.in_long))
          ∙ region-behind r_new (r_log ++ (r_build ++ (pending ++ rest))) (L + L + L + D) (L + L + D) scratch_floats (omega (arith, F.new-long))
          ∙ region-behind r_log (r_build ++ (pending ++ rest)) (L + L + D) (L + D) scratch_floats (omega (arith, F.log_long))
          ∙ region-behind r_build (pending ++ rest) (L + D) D scratch_floats (omega (arith, F.build-long))
          ∙ region-behind pending rest D 0 scratch_floats (omega (arith, F.pending_long))
          ∙ F.zeros

      building : Building w (get_or offsets f 0) (k - 1) scratch
      building =
          record {
            two = omega (arith, tree-some);
            few = omega (arith, few);
            below = omega (arith, room);
            room = omega (arith, part-long, F.room);
            zeros = zeros;
          }

      pub tree_rebuilding : Rebuilding outs offsets (width t.directions) (get_or firsts n 0) (length (node_at t n).outgoing) scratch (part_floats r_in r_new r_log r_build pending rest)
      tree_rebuilding =
          let end : get_or offsets (f + k) 0 ≡ get_or offsets f 0 + m =
          R.offset (f + k) ∙ ap (λ (i : ℕ). offset_at ds (i + k)) (R.first n h) ∙ sym (span-end ds x.first_incoming k tree-inside) ∙ omega (arith, tree-at, tree-span r_in F.in_long) in
          let all : f + k ≤ length ds = omega (arith, tree-inside, R.first n h) in
          record {
            building = building;
            scatters = scattering s t kinds firsts starts outs offsets labels evidence P n h scratch (length w) (omega arith) (omega (arith, end, building.room, few));
            ends = (λ i q. omega (arith, end, R.offset (f + i + 1), R.offset (f + k), offset_mono ds (f + i + 1) (f + k) (omega arith) all));
            held = room;
            behind = omega arith;
          }

    -- the test, by the node's flag
    pub tree-test : (tolerance : Float) (flag : ℕ) → needs_build tolerance flag (width t.directions) (get_or offsets (get_or firsts n 0) 0) (length (node_at t n).outgoing - 1) (part_floats r_in r_new r_log r_build pending rest)
        ≡ needs_rebuild tolerance (messages_in (node_at t n) (cut t.directions r_in)) (build_of flag (node_at t n) (cut t.directions r_build))
    tree-test tolerance flag =
        let a : tree_row (k - 1) (held_row offsets f k w) ≡ messages_in x (cut ds r_in) = ap (tree_row (k - 1)) held_in_lem ∙ tree_messages_lem r_in F.in_long in
        let b : tree_row (k - 1) (region w (L + L + L + get_or offsets f 0) m) ≡ messages_in x (cut ds r_build) = ap (tree_row (k - 1)) held-build ∙ tree_messages_lem r_build F.build-long in
        ap (λ (l : List Message). needs_rebuild tolerance l (built_of flag (tree_row (k - 1) (region w (L + L + L + get_or offsets f 0) m)))) a
        ∙ ap (λ (l : List Message). needs_rebuild tolerance (messages_in x (cut ds r_in)) (built_of flag l)) b
        ∙ ap (needs_rebuild tolerance (messages_in x (cut ds r_in))) (same flag)
      where
        same : (c : ℕ) → ◌≡◌ {A = LastBuild} (built_of c (messages_in x (cut ds r_build))) (build_of c x (cut ds r_build))
        same zero = refl
        same (suc c) = refl
