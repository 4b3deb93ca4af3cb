-- All that some nodes hold, copied from one message set to another, as regions of the one row that are put into the other.
use Prim.Native.Nat.{ℕ, zero, suc, ◌+◌, ◌≤◌, ◌<◌}
use native.Mathlib.Omega.{arith}
use Rattle.std.specs.Prelude.{◌≡◌, Float, take}
use Rattle.std.proofs.Math.Path.{refl, sym, ap}
use Rattle.std.proofs.Common.{◌∙◌, drop_of_length-le, take-add, take_all}
use mathlib.Core.List.{List, [], ◌∷◌, ◌++◌}
use Rattle.std.specs.Float.Ieee.{nan}
use Rattle.std.proofs.Math.ListN.{length, get_or}
use Rattle.std.proofs.Math.Seq.{length-take-le}
use Rattle.definition.specs.Lists.{range}
use Rattle.definition.specs.Directions.{Direction, MessageGraph, node_at, copy_nodes}
use Rattle.graph_laws.specs.Lists.{append_none}
use Rattle.list_laws.specs.Put.{put, put_next, put-none}
use Rattle.messages.specs.Layout.{cut, width, firsts_of}
use Rattle.messages.specs.LayoutLists.{get_d_range}
use Rattle.messages.specs.LayoutOffsets.{offset_at, offset-zero, offset-end, offset-le, span_at, span-end, span_room}
use Rattle.messages.specs.LayoutCut.{row_in, length-row_in}
use Rattle.messages.specs.LayoutPuts.{puts, puts_first, puts_ext, length-puts}
use Rattle.messages.specs.LayoutWrite.{copy_node-cut, length-put_in}
use Rattle.messages.specs.LayoutOrder.{firsts_at, firsts-end, InOrder, firsts_mono, inside}

-- the row b after the first i nodes of the list were copied from row a
abbrev pub copied : MessageGraph → List Float → List ℕ → List Float → ℕ → List Float
copied t a ns b i = puts b (λ j. offset_at t.directions (node_at t (get_or ns j 0)).first_incoming) (λ j. row_in (node_at t (get_or ns j 0)) t.directions a) i

module _ (t : MessageGraph) (O : InOrder t) (a : List Float) (ea : length a ≡ width t.directions) where
  abbrev ds : List Direction
  ds = t.directions

  abbrev at : ℕ → ℕ
  at n = offset_at ds (node_at t n).first_incoming

  abbrev row : ℕ → List Float
  row n = row_in (node_at t n) ds a

  long : (n : ℕ) → length (row n) ≡ span_at ds (node_at t n).first_incoming (length (node_at t n).outgoing)
  long n = length-row_in (node_at t n) ds a (inside t O n) ea

  pub length-copied : (ns : List ℕ) (b : List Float) (i : ℕ) → length b ≡ width ds → length (copied t a ns b i) ≡ width ds
  length-copied ns b i e =
      length-puts b (λ j. at (get_or ns j 0)) (λ j. row (get_or ns j 0)) i
      (λ j q.
      let n = get_or ns j 0 in
      omega (arith, long n, span_room ds (node_at t n).first_incoming (length (node_at t n).outgoing) (inside t O n)))
      ∙ e

  pub copy_nodes-cut : (ns : List ℕ) (b : List Float) → length b ≡ width ds → copy_nodes t (cut ds a) ns (cut ds b) ≡ cut ds (copied t a ns b (length ns))
  unfolding copy_nodes puts
  copy_nodes-cut [] b e = refl
  copy_nodes-cut (n ∷ ns) b e =
      ap (copy_nodes t (cut ds a) ns) (copy_node-cut ds a b (node_at t n) ea e (inside t O n))
      ∙ copy_nodes-cut ns (put b (at n) (row n)) (length-put_in ds a b (node_at t n) ea e (inside t O n))
      ∙ ap (cut ds) (sym (puts_first b (λ j. at (get_or (n ∷ ns) j 0)) (λ j. row (get_or (n ∷ ns) j 0)) (length ns)))

  -- ---- all nodes: the whole row

  abbrev end : ℕ → ℕ
  end k = offset_at ds (get_or (firsts_of t) k 0)

  end-le : (k : ℕ) → k ≤ length t.nodes → end k ≤ width ds
  end-le k h = offset-le ds (get_or (firsts_of t) k 0) (omega (arith, firsts_mono t O k (length t.nodes) h (omega arith), firsts-end t))

  -- what the first k nodes hold
  copied-to : (b : List Float) → length b ≡ width ds → (k : ℕ) → k ≤ length t.nodes → puts b at row k ≡ put b 0 (take (end k) a)
  unfolding puts
  copied-to b e zero h =
      put-none b 0 (omega arith) ∙ ap (λ (n : ℕ). put b 0 (take n a)) (sym (ap (offset_at ds) O.from_zero ∙ offset-zero ds))
  copied-to b e (suc k) h =
      let f = (node_at t k).first_incoming in
      let m = length (node_at t k).outgoing in
      let l : length (take (end k) a) ≡ end k = length-take-le (end k) a (omega (arith, end-le k (omega arith))) in
      let g : at k ≡ end k = ap (offset_at ds) (sym (firsts_at t k h)) in
      let s : end (suc k) ≡ at k + span_at ds f m = ap (offset_at ds) (O.after k h ∙ ap (λ (n : ℕ). n + m) (firsts_at t k h)) ∙ sym (span-end ds f m (inside t O k)) in
      ap (λ (w : List Float). put w (at k) (row k)) (copied-to b e k (omega arith))
      ∙ ap (λ (n : ℕ). put (put b 0 (take (end k) a)) n (row k)) (let z : at k ≡ 0 + length (take (end k) a) = omega arith in z)
      ∙ put_next nan b 0 (take (end k) a) (row k) (omega (arith, long k, end-le (suc k) h))
      ∙ ap (λ (n : ℕ). put b 0 (take n a ++ row k)) (sym g)
      ∙ ap (put b 0) (sym (take-add (at k) (span_at ds f m) a))
      ∙ ap (λ (n : ℕ). put b 0 (take n a)) (sym s)

  pub copied_all : (b : List Float) → length b ≡ width ds → copied t a (range 0 (length t.nodes)) b (length t.nodes) ≡ a
  unfolding put
  copied_all b e =
      let N = length t.nodes in
      let n : (j : ℕ) → j < N → get_or (range 0 N) j 0 ≡ j = λ j h. get_d_range 0 N j h ∙ omega arith in
      puts_ext b (λ j. at (get_or (range 0 N) j 0)) at (λ j. row (get_or (range 0 N) j 0)) row N (λ j h. ap at (n j h)) (λ j h. ap row (n j h))
      ∙ copied-to b e N (omega arith)
      ∙ ap (put b 0) (take_all (end N) a (omega (arith, ap (offset_at ds) (firsts-end t), offset-end ds)))
      ∙ ap (λ (r : List Float). a ++ r) (drop_of_length-le b (let z : length b ≤ 0 + length a = omega arith in z))
      ∙ append_none a
