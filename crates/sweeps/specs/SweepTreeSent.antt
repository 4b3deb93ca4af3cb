-- A tree of a part, built anew: the new row gets the definition's messages, and the row of builds what the tree holds.
use Rattle.std.specs.Prelude.{ℕ, zero, suc, ◌+◌, ◌-◌, ◌*◌, ◌≤◌, ◌<◌, ◌≡◌, refl, true, eqb, Float, length, get_or, take, drop}
use Rattle.std.proofs.Common.{arith, sym, ◌∙◌, length-append, take_at}
use Rattle.std.proofs.Math.Path.{ap, subst}
use Rattle.std.proofs.Math.Option.{none}
use mathlib.Core.List.{List, [], ◌∷◌, ◌++◌, append_assoc}
use Rattle.std.proofs.Math.ListN.{length-drop}
use Rattle.definition.specs.Vectors.{Message, binary}
use Rattle.definition.specs.Settings.{Settings}
use Rattle.definition.specs.FactorGraph.{is_tree}
use Rattle.definition.specs.ConvolutionTree.{tree_messages}
use Rattle.definition.specs.Directions.{Direction, MessageNode, MessageGraph, node_at, message_at, messages_in}
use Rattle.definition.specs.Messages.{Outgoing, needs_rebuild, tree_out_messages}
use Rattle.graph_laws.specs.Flat.{flat}
use Rattle.list_laws.specs.Part.{region}
use Rattle.list_laws.specs.Put.{put}
use Rattle.convolution_tree.specs.Nodes.{nodes}
use Rattle.messages.specs.Layout.{cut, width, kind_code}
use Rattle.messages.specs.LayoutOffsets.{long_at, offset_at, offset-suc, offset_mono, offset_room, span_room}
use Rattle.messages.specs.LayoutCut.{row_in, length-row_in}
use Rattle.messages.specs.LayoutKinds.{code-tree}
use Rattle.messages.specs.LayoutPairs.{pairs}
use Rattle.messages.specs.LayoutPuts.{puts_ext}
use Rattle.messages.specs.LayoutRows.{RowsRead}
use Rattle.messages.specs.LayoutWords.{sends-at}
use Rattle.messages.specs.LayoutWrite.{Takes, sent}
use Rattle.messages.specs.LayoutSweeps.{Sends, length-sends}
use Rattle.messages.specs.State.{PartRows, FloatRows, part_floats}
use Rattle.sweeps.specs.Sweep.{place_of}
use Rattle.sweeps.specs.SweepCopies.{held_long}
use Rattle.sweeps.specs.SweepBuild.{built_row}
use Rattle.sweeps.specs.SweepRebuild.{held_row, rebuilt_sent}
use Rattle.sweeps.specs.SweepRows.{put_middle, puts_middle, read-rows, position, sends_fit}
use Rattle.sweeps.specs.SweepTree.{tree_rebuilt}
use Rattle.sweeps.specs.SweepTreeBuild.{region-behind, tree-inside, tree-some, tree-at, tree-span, tree_messages_lem, held_in_lem}

nodes-pairs : (n : ℕ) (l : List Float) → length l ≡ 2 * n → nodes 2 n l ≡ pairs l
nodes-pairs zero [] h = refl
nodes-pairs zero (a ∷ l) h = absurd (let z : ⊥ = omega arith in z)
nodes-pairs (suc n) [] h = absurd (let z : ⊥ = omega arith in z)
nodes-pairs (suc n) (a ∷ []) h = absurd (let z : ⊥ = omega arith in z)
nodes-pairs (suc n) (a ∷ b ∷ l) h = ap (λ (r : List Message). binary a b ∷ r) (nodes-pairs n l (omega arith))

-- messages as long as those of the directions from f on, laid out: each is a part of the row
flat-piece : (ds : List Direction) (f : ℕ) (ms : List Message) (i : ℕ) → f + length ms ≤ length ds → ((j : ℕ) → j < length ms → length (message_at j ms) ≡ long_at ds (f + j)) → i < length ms
    → region (flat ms) (offset_at ds (f + i) - offset_at ds f) (long_at ds (f + i)) ≡ message_at i ms
unfolding flat
flat-piece ds f [] i h l q = absurd (let z : ⊥ = omega arith in z)
flat-piece ds f (m ∷ ms) zero h l q =
    let z = ap (offset_at ds) (let y : f + 0 ≡ f = omega arith in y) in
    ap (λ (a : ℕ). region (m ++ flat ms) a (long_at ds (f + 0))) (let y : offset_at ds (f + 0) - offset_at ds f ≡ 0 = omega arith in y)
    ∙ take_at m (flat ms) (long_at ds (f + 0)) (l 0 (omega arith))
flat-piece ds f (m ∷ ms) (suc i) h l q =
    let e : f + suc i ≡ suc f + i = omega arith in
    let z = ap (long_at ds) (let y : f + 0 ≡ f = omega arith in y) in
    ap (λ (j : ℕ). region (m ++ flat ms) (offset_at ds j - offset_at ds f) (long_at ds j)) e
    ∙ region-behind m (flat ms) (offset_at ds (suc f + i) - offset_at ds f) (offset_at ds (suc f + i) - offset_at ds (suc f)) (long_at ds (suc f + i))
    (omega (arith, z, l 0 (omega arith), offset-suc ds f (omega arith), offset_mono ds (suc f) (suc f + i) (omega arith) (omega arith)))
    ∙ flat-piece ds (suc f) ms i (omega arith) (λ j u. l (suc j) (omega arith) ∙ ap (long_at ds) (let y : f + suc j ≡ suc f + j = omega arith in y)) (omega arith)

-- the fourth of the rows is written
put_fourth : (a b c d r m : List Float) (i j : ℕ) → i ≡ length a + length b + length c + j → j + length m ≤ length d → put (a ++ (b ++ (c ++ (d ++ r)))) i m ≡ a ++ (b ++ (c ++ (put d j m ++ r)))
put_fourth a b c d r m i j e h =
    let p = a ++ (b ++ c) in
    let z : (u : List Float) → p ++ u ≡ a ++ (b ++ (c ++ u)) = λ u. append_assoc a (b ++ c) u ∙ ap (λ (v : List Float). a ++ v) (append_assoc b c u) in
    ap (λ (u : List Float). put u i m) (sym (z (d ++ r)))
    ∙ ap (λ (k : ℕ). put (p ++ (d ++ r)) k m) (let y : i ≡ length p + j = omega (arith, length-append a (b ++ c), length-append b c) in y)
    ∙ put_middle p d r m j h
    ∙ z (put d j m ++ r)

module _ (s : Settings) (t : MessageGraph) (kinds firsts starts outs offsets labels : List ℕ) (evidence : List Float) (P : PartRows s t kinds firsts starts outs offsets labels evidence) (n : ℕ) (h : n < length t.nodes) (e : kind_code (node_at t n).kind ≡ 3)
    (r_in r_new r_log r_build pending rest : List Float) (F : FloatRows t r_in r_new r_log r_build pending rest) where
  abbrev ds : List Direction
  ds = t.directions

  abbrev x : MessageNode
  x = node_at t n

  abbrev k : ℕ
  k = length (node_at t n).outgoing

  abbrev f : ℕ
  f = get_or firsts n 0

  abbrev w : List Float
  w = part_floats r_in r_new r_log r_build pending rest

  abbrev m : List Message
  m = tree_out_messages (messages_in (node_at t n) (cut t.directions r_in))

  R : RowsRead t kinds firsts starts outs offsets
  R = read-rows s t kinds firsts starts outs offsets labels evidence P

  pub is-tree : is_tree (node_at t n).kind ≡ true
  is-tree = code-tree x.kind ∙ ap (λ (c : ℕ). eqb c 3) e

  held-long : length (row_in x ds r_in) ≡ 3 * (k - 1) + 1
  held-long =
      length-row_in x ds r_in (tree-inside s t kinds firsts starts outs offsets labels evidence P n h e) F.in_long
      ∙ tree-span s t kinds firsts starts outs offsets labels evidence P n h e r_in F.in_long

  made-is : built_row (k - 1) (held_row offsets f k w) ≡ flat m
  unfolding tree_out_messages
  made-is =
      let row = row_in x ds r_in in
      let g = tree-some s t kinds firsts starts outs offsets labels evidence P n h e in
      ap (built_row (k - 1)) (held_in_lem s t kinds firsts starts outs offsets labels evidence P n h e r_in r_new r_log r_build pending rest F)
      ∙ ap (λ (l : List Message). flat (tree_messages (take (k - 1 + 1) row) l)) (nodes-pairs (k - 1) (drop (k - 1 + 1) row) (simp length-drop (omega (arith, held-long, g))))
      ∙ ap (λ (l : List Message). flat (tree_out_messages l)) (tree_messages_lem s t kinds firsts starts outs offsets labels evidence P n h e r_in F.in_long)

  sends : Sends ds x.outgoing m
  unfolding needs_rebuild
  sends =
      subst (λ (o : Outgoing). Sends ds x.outgoing o.messages) (tree_rebuilt s t (cut ds r_in) x none is-tree refl)
      (sends_fit s t kinds firsts starts outs offsets labels evidence P n h r_in F.in_long none)

  takes : (i : ℕ) → i < k → Takes ds (get_or x.outgoing i 0) (message_at i m)
  takes i q = sends.takes i q

  piece_is : (i : ℕ) → i < k → region (flat m) (get_or offsets (f + i) 0 - get_or offsets f 0) (held_long offsets f i) ≡ message_at i m
  piece_is i q =
      let g = tree-inside s t kinds firsts starts outs offsets labels evidence P n h e in
      let a = x.first_incoming in
      let z : (j : ℕ) → get_or offsets (f + j) 0 ≡ offset_at ds (a + j) = λ j. R.offset (f + j) ∙ ap (λ (b : ℕ). offset_at ds (b + j)) (R.first n h) in
      let y : held_long offsets f i ≡ long_at ds (a + i) = omega (arith, R.offset-next (f + i) (omega (arith, R.first n h, g)), ap (λ (b : ℕ). long_at ds (b + i)) (R.first n h)) in
      ap (λ (b : ℕ). region (flat m) (b - get_or offsets f 0) (held_long offsets f i)) (z i)
      ∙ ap (λ (b : ℕ). region (flat m) (offset_at ds (a + i) - b) (held_long offsets f i)) (tree-at s t kinds firsts starts outs offsets labels evidence P n h e)
      ∙ ap (region (flat m) (offset_at ds (a + i) - offset_at ds a)) y
      ∙ flat-piece ds a m i (omega (arith, g, sends.count))
      (λ j u. let v : j < k = omega (arith, sends.count) in (takes j v).long ∙ (position s t kinds firsts starts outs offsets labels evidence P n h j v).reversed.message_length) (omega (arith, sends.count))

  pub rebuilt_row_lem : rebuilt_sent outs offsets (width t.directions) (get_or firsts n 0) (length (node_at t n).outgoing) (part_floats r_in r_new r_log r_build pending rest)
      ≡ part_floats r_in (sent t.directions (node_at t n).outgoing (tree_out_messages (messages_in (node_at t n) (cut t.directions r_in))) r_new (length (node_at t n).outgoing)) r_log
      (put r_build (offset_at t.directions (node_at t n).first_incoming) (row_in (node_at t n) t.directions r_in)) pending rest
  rebuilt_row_lem =
      let L = width ds in
      let a = get_or offsets f 0 in
      let made = built_row (k - 1) (held_row offsets f k w) in
      let back = r_log ++ (r_build ++ (pending ++ rest)) in
      let room : (i : ℕ) → i < k → offset_at ds (get_or x.outgoing i 0) + length (message_at i m) ≤ length r_new =
      λ i q. let T : Takes ds (get_or x.outgoing i 0) (message_at i m) = takes i q in omega (arith, T.long, offset_room ds (get_or x.outgoing i 0) T.there, F.new-long) in
      let new = sent ds x.outgoing m r_new k in
      let long : length new ≡ L = length-sends ds x.outgoing m r_new k (omega arith) F.new-long sends in
      let g = tree-at s t kinds firsts starts outs offsets labels evidence P n h e in
      let hold = held_in_lem s t kinds firsts starts outs offsets labels evidence P n h e r_in r_new r_log r_build pending rest F in
      ap (λ (u : List Float). put u (L + L + L + a) (held_row offsets f k w))
      (puts_ext w (place_of outs offsets L f) (λ i. length r_in + offset_at ds (get_or x.outgoing i 0)) (λ i. region made (get_or offsets (f + i) 0 - a) (held_long offsets f i)) (λ i. message_at i m) k
      (λ i q. omega (arith, F.in_long, sends-at t kinds firsts starts outs offsets R n h i q))
      (λ i q. ap (λ (l : List Float). region l (get_or offsets (f + i) 0 - a) (held_long offsets f i)) made-is ∙ piece_is i q)
      ∙ puts_middle r_in r_new back (λ i. offset_at ds (get_or x.outgoing i 0)) (λ i. message_at i m) k room)
      ∙ ap (put (r_in ++ (new ++ back)) (L + L + L + a)) hold
      ∙ put_fourth r_in new r_log r_build (pending ++ rest) (row_in x ds r_in) (L + L + L + a) (offset_at ds x.first_incoming) (omega (arith, F.in_long, F.log_long, long, g))
      (omega (arith, F.build-long, held-long, tree-span s t kinds firsts starts outs offsets labels evidence P n h e r_in F.in_long, span_room ds x.first_incoming k (tree-inside s t kinds firsts starts outs offsets labels evidence P n h e)))
