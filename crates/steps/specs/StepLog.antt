-- What some nodes hold, copied from one row of a component's floats to another: into the log before a step, and into the messages in force after a tree's.
use Rattle.std.specs.Prelude.{ℕ, ◌+◌, ◌-◌, ◌*◌, ◌≤◌, ◌<◌, ◌≡◌, Float}
use native.Mathlib.Omega.{arith}
use Rattle.std.proofs.Math.Path.{refl, ap}
use Rattle.std.proofs.Common.{sym, ◌∙◌, ⊎_elim, inl, inr}
use mathlib.Core.List.{List, [], ◌∷◌}
use Rattle.std.specs.Float.{nan}
use Rattle.std.proofs.Math.ListN.{length, get_or}
use Rattle.definition.specs.Settings.{Settings}
use Rattle.definition.specs.Directions.{MessageGraph, node_at, message_at, copy_nodes}
use Rattle.definition.specs.Messages.{residual}
use Rattle.definition.specs.Lists.{range}
use Rattle.definition.specs.Run.{neighbour_numbers}
use Rattle.graph_laws.specs.Lists.{length_count}
use Rattle.list_laws.specs.Part.{region, length-region}
use Rattle.list_laws.specs.Put.{put, put_inner, put-region, region-out}
use Rattle.messages.specs.Layout.{cut, width}
use Rattle.messages.specs.LayoutOffsets.{offset-end, offset_mono}
use Rattle.messages.specs.LayoutOrder.{InOrder}
use Rattle.messages.specs.LayoutPuts.{puts_none}
use Rattle.messages.specs.LayoutCopy.{copied, length-copied, copy_nodes-cut, copied_all}
use Rattle.messages.specs.LayoutRows.{RowsRead, rows-read}
use Rattle.messages.specs.LayoutWords.{neighbours-row, copied_next, message_cut}
use Rattle.messages.specs.LayoutCut.{cut-long}
use Rattle.messages.specs.Residual.{residual_of, residual-is}
use Rattle.messages.specs.State.{PartRows, FloatRows, part_floats, Changed, all, one, around, changed_of}
use Rattle.steps.specs.StepFloats.{Apart, region-region, region-whole, put-all, in_read, new-read, log_read, in_put, log_put, floats_long}

-- ---- the words that a copy reads

pub record Words (firsts starts offsets : List ℕ) : Type 0 where
  pub graph : MessageGraph
  pub kinds : List ℕ
  pub outs : List ℕ
  pub order : InOrder graph
  pub read : RowsRead graph kinds firsts starts outs offsets

abbrev pub words_of : (s : Settings) (t : MessageGraph) (kinds firsts starts outs offsets labels : List ℕ) (evidence : List Float) → PartRows s t kinds firsts starts outs offsets labels evidence → Words firsts starts offsets
words_of s t kinds firsts starts outs offsets labels evidence P =
    record { graph = t; kinds = kinds; outs = outs; order = P.in_order; read = rows-read P.subgraph t P.consistent P.in_order kinds firsts starts outs offsets P.rows }

-- how many floats a row has: where the last message ends
abbrev pub total : List ℕ → ℕ
total offsets = get_or offsets (length offsets - 1) 0

-- node n's part of a row begins at, and ends before
abbrev pub begins_at : List ℕ → List ℕ → ℕ → ℕ
begins_at firsts offsets n = get_or offsets (get_or firsts n 0) 0

abbrev pub ends_at : List ℕ → List ℕ → ℕ → ℕ
ends_at firsts offsets n = get_or offsets (get_or firsts (n + 1) 0) 0

pub record NodeIn (firsts offsets : List ℕ) (n : ℕ) : Type 0 where
  pub there : n + 1 < length firsts
  pub first_in : get_or firsts n 0 < length offsets
  pub next_in : get_or firsts (n + 1) 0 < length offsets
  pub in_turn : get_or offsets (get_or firsts n 0) 0 ≤ get_or offsets (get_or firsts (n + 1) 0) 0
  pub ends : get_or offsets (get_or firsts (n + 1) 0) 0 ≤ get_or offsets (length offsets - 1) 0

pub node_apart : (firsts offsets : List ℕ) (n from to long : ℕ) → NodeIn firsts offsets n → Apart from to (get_or offsets (length offsets - 1) 0) long
    → Apart (from + get_or offsets (get_or firsts n 0) 0) (to + get_or offsets (get_or firsts n 0) 0) (get_or offsets (get_or firsts (n + 1) 0) 0 - get_or offsets (get_or firsts n 0) 0) long
node_apart firsts offsets n from to long I A =
    let o = get_or offsets (get_or firsts n 0) 0 in
    let s = get_or offsets (get_or firsts (n + 1) 0) 0 - o in
    let L = get_or offsets (length offsets - 1) 0 in
    record {
      from_in = omega (arith, I.in_turn, I.ends, A.from_in);
      to_in = omega (arith, I.in_turn, I.ends, A.to_in);
      apart = ⊎_elim (λ (x : from + L ≤ to). inl (let z : from + o + s ≤ to + o = omega (arith, I.in_turn, I.ends) in z)) (λ x. inr (let z : to + o + s ≤ from + o = omega (arith, I.in_turn, I.ends) in z)) A.apart;
    }

-- the row at `to` after all that the neighbours of node n hold was copied to it from the row at `from`
abbrev pub around_copied : MessageGraph → List Float → ℕ → ℕ → ℕ → List Float
around_copied t w from to n =
    put w to (copied t (region w from (width t.directions)) (neighbour_numbers t (node_at t n)) (region w to (width t.directions)) (length (neighbour_numbers t (node_at t n))))

module _ (firsts starts offsets : List ℕ) (g : Words firsts starts offsets) where
  abbrev t : MessageGraph
  t = g.graph

  abbrev Q : RowsRead g.graph g.kinds firsts starts g.outs offsets
  Q = g.read

  pub total-is : get_or offsets (length offsets - 1) 0 ≡ width g.graph.directions
  total-is =
      let e : length offsets - 1 ≡ length t.directions = omega (arith, Q.offsets_long) in
      ap (λ (n : ℕ). get_or offsets n 0) e ∙ Q.offset (length t.directions) ∙ offset-end t.directions

  pub node_in : (n : ℕ) → n + 1 < length firsts → NodeIn firsts offsets n
  node_in n h =
      let l : n < length t.nodes = omega (arith, Q.firsts-long) in
      let a = Q.first-le n (omega arith) in
      let b = Q.first-le (n + 1) (omega arith) in
      let m = Q.first_mono n (n + 1) (omega arith) (omega arith) in
      record {
        there = h;
        first_in = omega (arith, Q.offsets_long);
        next_in = omega (arith, Q.offsets_long);
        in_turn = omega (arith, Q.offset (get_or firsts n 0), Q.offset (get_or firsts (n + 1) 0), offset_mono t.directions (get_or firsts n 0) (get_or firsts (n + 1) 0) m b);
        ends = omega (arith, Q.offset-le (get_or firsts (n + 1) 0) b, total-is);
      }

  -- the neighbours of node n are there
  pub neighbour_in : (n i : ℕ) → n + 1 < length firsts → i < get_or firsts (n + 1) 0 - get_or firsts n 0 → (get_or firsts n 0 + i < length starts) × (get_or starts (get_or firsts n 0 + i) 0 + 1 < length firsts)
  neighbour_in n i h l =
      let b = Q.first-le (n + 1) (omega (arith, Q.firsts-long)) in
      let d : get_or firsts n 0 + i < length t.directions = omega arith in
      (omega (arith, Q.starts_long), omega (arith, Q.start-lt (get_or firsts n 0 + i) d, Q.firsts-long))

  -- ---- one node after the other
  module _ (w₀ : List Float) (from to : ℕ) (A : Apart from to (get_or offsets (length offsets - 1) 0) (length w₀)) where
    abbrev W : ℕ
    W = width g.graph.directions

    abbrev a : List Float
    a = region w₀ from W

    abbrev b : List Float
    b = region w₀ to W

    a-long : length a ≡ W
    a-long = length-region w₀ from W (omega (arith, A.from_in, total-is))

    b-long : length b ≡ W
    b-long = length-region w₀ to W (omega (arith, A.to_in, total-is))

    long : (ns : List ℕ) (k : ℕ) → length (copied t a ns b k) ≡ W
    long ns k = length-copied t g.order a a-long ns b k b-long

    pub around_none : (ns : List ℕ) → w₀ ≡ put w₀ to (copied g.graph (region w₀ from (width g.graph.directions)) ns (region w₀ to (width g.graph.directions)) 0)
    around_none ns = put-region nan w₀ to W (omega (arith, A.to_in, total-is)) ∙ ap (put w₀ to) (puts_none b _ _)

    pub around_step : (ns : List ℕ) (k m : ℕ) (w : List Float) → m + 1 < length firsts → m ≡ get_or ns k 0
        → w ≡ put w₀ to (copied g.graph (region w₀ from (width g.graph.directions)) ns (region w₀ to (width g.graph.directions)) k)
        → put w (to + get_or offsets (get_or firsts m 0) 0) (region w (from + get_or offsets (get_or firsts m 0) 0) (get_or offsets (get_or firsts (m + 1) 0) 0 - get_or offsets (get_or firsts m 0) 0))
        ≡ put w₀ to (copied g.graph (region w₀ from (width g.graph.directions)) ns (region w₀ to (width g.graph.directions)) (k + 1))
    around_step ns k m w h e u =
        let I = node_in m h in
        let o = get_or offsets (get_or firsts m 0) 0 in
        let s = get_or offsets (get_or firsts (m + 1) 0) 0 - o in
        let R = copied t a ns b k in
        let T = total-is in
        let l : length R ≡ W = long ns k in
        let room : o + s ≤ W = omega (arith, I.in_turn, I.ends) in
        let c : region (put w₀ to R) (from + o) s ≡ region w₀ (from + o) s =
        region-out nan w₀ to R (from + o) s (omega (arith, A.to_in)) (omega (arith, A.from_in))
        (⊎_elim (λ (x : from + get_or offsets (length offsets - 1) 0 ≤ to). inl (let z : from + o + s ≤ to = omega arith in z)) (λ x. inr (let z : to + length R ≤ from + o = omega arith in z)) A.apart) in
        let f : region w (from + o) s ≡ region a o s = ap (λ (v : List Float). region v (from + o) s) u ∙ c ∙ sym (region-region nan w₀ from W o s (omega (arith, A.from_in)) room) in
        let n : length (region a o s) ≡ s = length-region a o s (omega (arith, a-long)) in
        ap (put w (to + o)) f
        ∙ ap (λ (v : List Float). put v (to + o) (region a o s)) u
        ∙ put_inner nan w₀ to R o (region a o s) (omega (arith, A.to_in)) (omega arith)
        ∙ ap (put w₀ to) (copied_next t g.kinds firsts starts g.outs offsets Q a ns b R k m (omega (arith, Q.firsts-long)) e refl)

    -- all neighbours of node n
    pub around_all : (n k : ℕ) (w : List Float) → n + 1 < length firsts → k ≡ get_or firsts (n + 1) 0 - get_or firsts n 0
        → w ≡ put w₀ to (copied g.graph (region w₀ from (width g.graph.directions)) (region starts (get_or firsts n 0) (get_or firsts (n + 1) 0 - get_or firsts n 0)) (region w₀ to (width g.graph.directions)) k)
        → w ≡ put w₀ to (copied g.graph (region w₀ from (width g.graph.directions)) (neighbour_numbers g.graph (node_at g.graph n)) (region w₀ to (width g.graph.directions)) (length (neighbour_numbers g.graph (node_at g.graph n))))
    around_all n k w h e u =
        let f = get_or firsts n 0 in
        let c = get_or firsts (n + 1) 0 - f in
        let x = neighbours-row t g.kinds firsts starts g.outs offsets Q n (omega (arith, Q.firsts-long)) in
        let l : length (region starts f c) ≡ c = length-region starts f c (omega (arith, Q.starts_long, Q.first-le (n + 1) (omega (arith, Q.firsts-long)), Q.first_mono n (n + 1) (omega arith) (omega (arith, Q.firsts-long)))) in
        u ∙ ap (λ (i : ℕ). put w₀ to (copied t a (region starts f c) b i)) (e ∙ sym l) ∙ ap (λ (ns : List ℕ). put w₀ to (copied t a ns b (length ns))) (sym x)

-- ---- a component's floats

-- The words and the floats of a component, whatever the rest of its words.
pub record PartAt (firsts starts offsets : List ℕ) (w : List Float) : Type 0 where
  pub words : Words firsts starts offsets
  pub r_in : List Float
  pub r_new : List Float
  pub r_log : List Float
  pub r_build : List Float
  pub pending : List Float
  pub rest : List Float
  pub floats : FloatRows words.graph r_in r_new r_log r_build pending rest
  pub is : w ≡ part_floats r_in r_new r_log r_build pending rest

-- the log once the nodes that changed were copied into it
abbrev pub logged : MessageGraph → Changed → List Float → List Float → List Float
logged t c a b = copied t a (changed_of t c) b (length (changed_of t c))

-- the messages in force once a tree's neighbours were copied from the new ones
abbrev pub taken : MessageGraph → ℕ → List Float → List Float → List Float
taken t n a b = copied t a (neighbour_numbers t (node_at t n)) b (length (neighbour_numbers t (node_at t n)))

-- both are the definition's
pub logged-cut : (t : MessageGraph) (O : InOrder t) (c : Changed) (a b : List Float) → length a ≡ width t.directions → length b ≡ width t.directions
    → cut t.directions (logged t c a b) ≡ copy_nodes t (cut t.directions a) (changed_of t c) (cut t.directions b)
logged-cut t O c a b ea eb = sym (copy_nodes-cut t O a ea (changed_of t c) b eb)

pub taken-cut : (t : MessageGraph) (O : InOrder t) (n : ℕ) (a b : List Float) → length a ≡ width t.directions → length b ≡ width t.directions
    → cut t.directions (taken t n a b) ≡ copy_nodes t (cut t.directions a) (neighbour_numbers t (node_at t n)) (cut t.directions b)
taken-cut t O n a b ea eb = sym (copy_nodes-cut t O a ea (neighbour_numbers t (node_at t n)) b eb)

-- a node that changed is there
abbrev pub ChangedBelow : Changed → ℕ → Type 0
ChangedBelow all m = Unit {0}
ChangedBelow (one n) m = n + 1 < m
ChangedBelow (around n) m = n + 1 < m

module _ (firsts starts offsets : List ℕ) (w : List Float) (p : PartAt firsts starts offsets w) where
  abbrev G : Words firsts starts offsets
  G = p.words

  abbrev tg : MessageGraph
  tg = p.words.graph

  abbrev Wd : ℕ
  Wd = width p.words.graph.directions

  abbrev F : FloatRows p.words.graph p.r_in p.r_new p.r_log p.r_build p.pending p.rest
  F = p.floats

  abbrev L : ℕ
  L = get_or offsets (length offsets - 1) 0

  pub part-long : 4 * get_or offsets (length offsets - 1) 0 ≤ length w
  part-long = omega (arith, total-is firsts starts offsets G, ap length p.is, floats_long tg p.r_in p.r_new p.r_log p.r_build p.pending p.rest F)

  pub log_apart : Apart 0 (2 * get_or offsets (length offsets - 1) 0) (get_or offsets (length offsets - 1) 0) (length w)
  log_apart = record { from_in = omega (arith, part-long); to_in = omega (arith, part-long); apart = inl (let z : 0 + L ≤ 2 * L = omega arith in z) }

  pub new_apart : Apart (get_or offsets (length offsets - 1) 0) 0 (get_or offsets (length offsets - 1) 0) (length w)
  new_apart = record { from_in = omega (arith, part-long); to_in = omega (arith, part-long); apart = inr (let z : 0 + L ≤ L = omega arith in z) }

  in_row : region w 0 Wd ≡ p.r_in
  in_row =
      ap (λ (v : List Float). region v 0 Wd) p.is ∙ in_read tg p.r_in p.r_new p.r_log p.r_build p.pending p.rest F 0 Wd (omega arith) ∙ region-whole p.r_in Wd F.in_long

  new_row : region w Wd Wd ≡ p.r_new
  new_row =
      ap (λ (n : ℕ). region w n Wd) (let z : Wd ≡ Wd + 0 = omega arith in z)
      ∙ ap (λ (v : List Float). region v (Wd + 0) Wd) p.is
      ∙ new-read tg p.r_in p.r_new p.r_log p.r_build p.pending p.rest F 0 Wd (omega arith)
      ∙ region-whole p.r_new Wd F.new-long

  log_row : region w (2 * Wd) Wd ≡ p.r_log
  log_row =
      ap (λ (n : ℕ). region w n Wd) (let z : 2 * Wd ≡ 2 * Wd + 0 = omega arith in z)
      ∙ ap (λ (v : List Float). region v (2 * Wd + 0) Wd) p.is
      ∙ log_read tg p.r_in p.r_new p.r_log p.r_build p.pending p.rest F 0 Wd (omega arith)
      ∙ region-whole p.r_log Wd F.log_long

  -- a whole row put anew
  log_whole : (s : List Float) → length s ≡ Wd → put w (2 * Wd) s ≡ part_floats p.r_in p.r_new s p.r_build p.pending p.rest
  log_whole s e =
      ap (λ (n : ℕ). put w n s) (let z : 2 * Wd ≡ 2 * Wd + 0 = omega arith in z)
      ∙ ap (λ (v : List Float). put v (2 * Wd + 0) s) p.is
      ∙ log_put tg p.r_in p.r_new p.r_log p.r_build p.pending p.rest F 0 s (omega arith)
      ∙ ap (λ (r : List Float). part_floats p.r_in p.r_new r p.r_build p.pending p.rest) (put-all p.r_log s (omega (arith, F.log_long)))

  in_whole : (s : List Float) → length s ≡ Wd → put w 0 s ≡ part_floats s p.r_new p.r_log p.r_build p.pending p.rest
  in_whole s e =
      ap (λ (v : List Float). put v 0 s) p.is
      ∙ in_put tg p.r_in p.r_new p.r_log p.r_build p.pending p.rest F 0 s (omega arith)
      ∙ ap (λ (r : List Float). part_floats r p.r_new p.r_log p.r_build p.pending p.rest) (put-all p.r_in s (omega (arith, F.in_long)))

  -- ---- the log
  pub log_all : put w (2 * get_or offsets (length offsets - 1) 0) (region w 0 (get_or offsets (length offsets - 1) 0)) ≡ part_floats p.r_in p.r_new (logged p.words.graph all p.r_in p.r_log) p.r_build p.pending p.rest
  unfolding changed_of
  log_all =
      let N = length tg.nodes in
      let e : logged tg all p.r_in p.r_log ≡ p.r_in =
      ap (copied tg p.r_in (range 0 N) p.r_log) (length_count 0 N) ∙ copied_all tg G.order p.r_in F.in_long p.r_log F.log_long in
      ap (λ (n : ℕ). put w (2 * n) (region w 0 n)) (total-is firsts starts offsets G) ∙ ap (put w (2 * Wd)) in_row ∙ log_whole p.r_in F.in_long
      ∙ ap (λ (r : List Float). part_floats p.r_in p.r_new r p.r_build p.pending p.rest) (sym e)

  pub log_one : (n : ℕ) → n + 1 < length firsts
      → put w (2 * get_or offsets (length offsets - 1) 0 + get_or offsets (get_or firsts n 0) 0) (region w (0 + get_or offsets (get_or firsts n 0) 0) (get_or offsets (get_or firsts (n + 1) 0) 0 - get_or offsets (get_or firsts n 0) 0))
      ≡ part_floats p.r_in p.r_new (logged p.words.graph (one n) p.r_in p.r_log) p.r_build p.pending p.rest
  unfolding changed_of
  log_one n h =
      let o = get_or offsets (get_or firsts n 0) 0 in
      let s = get_or offsets (get_or firsts (n + 1) 0) 0 - o in
      let I = node_in firsts starts offsets G n h in
      let T = total-is firsts starts offsets G in
      let room : o + s ≤ Wd = omega (arith, I.in_turn, I.ends) in
      let x : region w (0 + o) s ≡ region p.r_in o s =
      ap (λ (i : ℕ). region w i s) (let z : 0 + o ≡ o = omega arith in z) ∙ ap (λ (v : List Float). region v o s) p.is ∙ in_read tg p.r_in p.r_new p.r_log p.r_build p.pending p.rest F o s room in
      let l : length (region p.r_in o s) ≡ s = length-region p.r_in o s (omega (arith, F.in_long)) in
      ap (put w (2 * L + o)) x
      ∙ ap (λ (i : ℕ). put w (2 * i + o) (region p.r_in o s)) T
      ∙ ap (λ (v : List Float). put v (2 * Wd + o) (region p.r_in o s)) p.is
      ∙ log_put tg p.r_in p.r_new p.r_log p.r_build p.pending p.rest F o (region p.r_in o s) (omega arith)
      ∙ ap (λ (r : List Float). part_floats p.r_in p.r_new r p.r_build p.pending p.rest)
      (copied_next tg G.kinds firsts starts G.outs offsets G.read p.r_in (n ∷ []) p.r_log p.r_log 0 n (omega (arith, G.read.firsts-long)) refl (puts_none p.r_log _ _))

  pub log_around : (n : ℕ) → around_copied p.words.graph w 0 (2 * get_or offsets (length offsets - 1) 0) n ≡ part_floats p.r_in p.r_new (logged p.words.graph (around n) p.r_in p.r_log) p.r_build p.pending p.rest
  unfolding changed_of
  log_around n =
      let ns = neighbour_numbers tg (node_at tg n) in
      ap (λ (i : ℕ). around_copied tg w 0 (2 * i) n) (total-is firsts starts offsets G)
      ∙ ap (λ (a : List Float). put w (2 * Wd) (copied tg a ns (region w (2 * Wd) Wd) (length ns))) in_row
      ∙ ap (λ (b : List Float). put w (2 * Wd) (copied tg p.r_in ns b (length ns))) log_row
      ∙ log_whole (copied tg p.r_in ns p.r_log (length ns)) (length-copied tg G.order p.r_in F.in_long ns p.r_log (length ns) F.log_long)

  -- ---- the messages in force
  pub taken_around : (n : ℕ) → around_copied p.words.graph w (get_or offsets (length offsets - 1) 0) 0 n ≡ part_floats (taken p.words.graph n p.r_new p.r_in) p.r_new p.r_log p.r_build p.pending p.rest
  taken_around n =
      let ns = neighbour_numbers tg (node_at tg n) in
      ap (λ (i : ℕ). around_copied tg w i 0 n) (total-is firsts starts offsets G)
      ∙ ap (λ (a : List Float). put w 0 (copied tg a ns (region w 0 Wd) (length ns))) new_row
      ∙ ap (λ (b : List Float). put w 0 (copied tg p.r_new ns b (length ns))) in_row
      ∙ in_whole (copied tg p.r_new ns p.r_in (length ns)) (length-copied tg G.order p.r_new F.new-long ns p.r_in (length ns) F.in_long)

-- ---- along one direction

-- its message lies within the rows, and has at least two entries
pub record Along (offsets : List ℕ) (w : List Float) (d : ℕ) : Type 0 where
  pub there : d + 1 < length offsets
  pub two : get_or offsets d 0 + 1 < get_or offsets (d + 1) 0
  pub ends : get_or offsets (d + 1) 0 ≤ get_or offsets (length offsets - 1) 0
  pub rows : 4 * get_or offsets (length offsets - 1) 0 ≤ length w

module _ (firsts starts offsets : List ℕ) (w : List Float) (d : ℕ) (D : Along offsets w d) where
  abbrev from : ℕ
  from = get_or offsets d 0

  abbrev to : ℕ
  to = get_or offsets (d + 1) 0

  -- the two messages that are compared
  pub residual_along : (p : PartAt firsts starts offsets w)
      → residual_of (region w (get_or offsets d 0) (get_or offsets (d + 1) 0 - get_or offsets d 0))
      (region w (2 * get_or offsets (length offsets - 1) 0 + get_or offsets d 0) (2 * get_or offsets (length offsets - 1) 0 + get_or offsets (d + 1) 0 - (2 * get_or offsets (length offsets - 1) 0 + get_or offsets d 0)))
      ≡ residual p.words.graph (cut p.words.graph.directions p.r_in) (cut p.words.graph.directions p.r_log) d
  residual_along p =
      let t = p.words.graph in
      let ds = t.directions in
      let Q = p.words.read in
      let F = p.floats in
      let n = to - from in
      let T = total-is firsts starts offsets p.words in
      let h : d < length ds = omega (arith, D.there, Q.offsets_long) in
      let room : from + n ≤ width ds = omega (arith, D.two, D.ends) in
      let x : region w from n ≡ message_at d (cut ds p.r_in) =
      ap (λ (v : List Float). region v from n) p.is ∙ in_read t p.r_in p.r_new p.r_log p.r_build p.pending p.rest F from n room
      ∙ sym (message_cut t p.words.kinds firsts starts p.words.outs offsets Q d h p.r_in) in
      let L = get_or offsets (length offsets - 1) 0 in
      let y : region w (2 * L + from) (2 * L + to - (2 * L + from)) ≡ message_at d (cut ds p.r_log) =
      ap (λ (i : ℕ). region w (2 * L + from) i) (let z : 2 * L + to - (2 * L + from) ≡ n = omega arith in z)
      ∙ ap (λ (i : ℕ). region w (2 * i + from) n) T
      ∙ ap (λ (v : List Float). region v (2 * width ds + from) n) p.is
      ∙ log_read t p.r_in p.r_new p.r_log p.r_build p.pending p.rest F from n room
      ∙ sym (message_cut t p.words.kinds firsts starts p.words.outs offsets Q d h p.r_log) in
      ap (λ (m : List Float). residual_of m (region w (2 * L + from) (2 * L + to - (2 * L + from)))) x
      ∙ ap (residual_of (message_at d (cut ds p.r_in))) y
      ∙ residual-is t (cut ds p.r_in) (cut ds p.r_log) d (cut-long ds p.r_in d F.in_long h)
