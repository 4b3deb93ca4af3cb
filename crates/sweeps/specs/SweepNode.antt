-- What a node leaves of a part's floats when it sends in a sweep: its messages in the new row, and its part of the row of builds where its tree was built anew.
use Rattle.std.specs.Prelude.{ℕ, ◌+◌, ◌-◌, ◌≤◌, ◌<◌, ◌≡◌, Bool, true, false, List, ◌++◌, Float, length, get_or}
use Rattle.std.proofs.Common.{arith, sym, ap, ◌∙◌}
use Rattle.std.proofs.Math.Option.{some}
use Rattle.std.specs.Float.{nan}
use Rattle.definition.specs.Vectors.{Message}
use Rattle.definition.specs.Settings.{Settings}
use Rattle.definition.specs.Directions.{Direction, MessageNode, MessageGraph, node_at, messages_in}
use Rattle.definition.specs.Messages.{initial_belief, LastBuild, Outgoing, out_messages}
use Rattle.list_laws.specs.Part.{region}
use Rattle.list_laws.specs.Put.{put, region-all}
use Rattle.messages.specs.Layout.{cut, width, kind_code}
use Rattle.messages.specs.LayoutOffsets.{offset_at, span_room}
use Rattle.messages.specs.LayoutCut.{row_in, directions_in, length-row_in, messages_in-cut}
use Rattle.messages.specs.LayoutWrite.{sent}
use Rattle.messages.specs.State.{PartRows, FloatRows, part_floats, build_of}
use Rattle.sweeps.specs.Sweep.{variable_sent, factor_sent}
use Rattle.sweeps.specs.SweepRebuild.{needs_build, tree_sent}
use Rattle.sweeps.specs.SweepRows.{IsVariable, variable_no_tree, plain, variable_row}
use Rattle.sweeps.specs.SweepFactor.{no_tree, factor-row}
use Rattle.sweeps.specs.SweepTree.{tree-kept, tree_rebuilt, kept_row}
use Rattle.sweeps.specs.SweepTreeBuild.{tree-inside, tree-test}
use Rattle.sweeps.specs.SweepTreeSent.{is-tree, rebuilt_row_lem}

-- the row of builds afterwards, and the node's flag
abbrev pub built_in : Bool → MessageGraph → ℕ → List Float → List Float → List Float
built_in true t n r_in r_build = put r_build (offset_at t.directions (node_at t n).first_incoming) (row_in (node_at t n) t.directions r_in)
built_in false t n r_in r_build = r_build

abbrev pub flag_after : Bool → ℕ → ℕ
flag_after true flag = 1
flag_after false flag = flag

abbrev pub sent_by : Settings → MessageGraph → List Float → List Float → ℕ → ℕ → Outgoing
sent_by s t r_in r_build flag n = out_messages s t (cut t.directions r_in) (node_at t n) (build_of flag (node_at t n) (cut t.directions r_build))

pub record NodeSent (s : Settings) (t : MessageGraph) (r_in r_new r_log r_build pending rest : List Float) (flag n : ℕ) (anew : Bool) (w : List Float) : Type 0 where
  pub is : w ≡ part_floats r_in (sent t.directions (node_at t n).outgoing (sent_by s t r_in r_build flag n).messages r_new (length (node_at t n).outgoing)) r_log (built_in anew t n r_in r_build) pending rest
  pub last : (sent_by s t r_in r_build flag n).last_build ≡ build_of (flag_after anew flag) (node_at t n) (cut t.directions (built_in anew t n r_in r_build))

module _ (s : Settings) (t : MessageGraph) (kinds firsts starts outs offsets labels : List ℕ) (evidence : List Float) (P : PartRows s t kinds firsts starts outs offsets labels evidence) (n : ℕ) (h : n < length t.nodes)
    (r_in r_new r_log r_build pending rest : List Float) (F : FloatRows t r_in r_new r_log r_build pending rest) (flag : ℕ) where
  abbrev ds : List Direction
  ds = t.directions

  abbrev x : MessageNode
  x = node_at t n

  abbrev k : ℕ
  k = length (node_at t n).outgoing

  abbrev f : ℕ
  f = get_or firsts n 0

  abbrev L : ℕ
  L = width t.directions

  abbrev w : List Float
  w = part_floats r_in r_new r_log r_build pending rest

  abbrev b : LastBuild
  b = build_of flag (node_at t n) (cut t.directions r_build)

  abbrev back : List Float
  back = r_log ++ (r_build ++ (pending ++ rest))

  pub variable_sent_lem : IsVariable (node_at t n).kind → NodeSent s t r_in r_new r_log r_build pending rest flag n false
      (variable_sent (initial_belief s (node_at t n).kind) outs offsets (width t.directions) (get_or firsts n 0) (length (node_at t n).outgoing) (part_floats r_in r_new r_log r_build pending rest))
  variable_sent_lem v =
      record {
        is = variable_row s t kinds firsts starts outs offsets labels evidence P n h v r_in r_new back F.in_long F.new-long b;
        last = ap (λ (y : Outgoing). y.last_build) (plain s t kinds firsts starts outs offsets labels evidence P n h (cut ds r_in) b (variable_no_tree x.kind v));
      }

  pub factor-sent : kind_code (node_at t n).kind ≡ 1 → NodeSent s t r_in r_new r_log r_build pending rest flag n false
      (factor_sent s.alpha s.beta s.regularised outs offsets (width t.directions) (get_or firsts n 0) (part_floats r_in r_new r_log r_build pending rest))
  factor-sent c =
      record {
        is = factor-row s t kinds firsts starts outs offsets labels evidence P n h (P.factors n h c) r_in r_new back F.in_long F.new-long b;
        last = ap (λ (y : Outgoing). y.last_build) (plain s t kinds firsts starts outs offsets labels evidence P n h (cut ds r_in) b (no_tree x.kind c));
      }

  -- a tree that was built holds what it was built of
  module _ (e : kind_code (node_at t n).kind ≡ 3) where
    inside : x.first_incoming + k ≤ length ds
    inside = tree-inside s t kinds firsts starts outs offsets labels evidence P n h e

    held_anew : messages_in x (cut ds r_in) ≡ messages_in x (cut ds (built_in true t n r_in r_build))
    held_anew =
        let a = offset_at ds x.first_incoming in
        let row = row_in x ds r_in in
        let long = length-row_in x ds r_in inside F.in_long in
        messages_in-cut x ds r_in inside
        ∙ ap (cut (directions_in x ds)) (sym (ap (region (put r_build a row) a) (sym long) ∙ region-all nan r_build a row (omega (arith, long, F.build-long, span_room ds x.first_incoming k inside))))
        ∙ sym (messages_in-cut x ds (put r_build a row) inside)

    by-test : (anew : Bool) → needs_build s.tolerance flag L (get_or offsets f 0) (k - 1) w ≡ anew → NodeSent s t r_in r_new r_log r_build pending rest flag n anew (tree_sent anew outs offsets L f k w)
    by-test true q =
        let y : sent_by s t r_in r_build flag n ≡ _ = tree_rebuilt s t (cut ds r_in) x b (is-tree s t kinds firsts starts outs offsets labels evidence P n h e r_in r_new r_log r_build pending rest F)
        (sym (tree-test s t kinds firsts starts outs offsets labels evidence P n h e r_in r_new r_log r_build pending rest F s.tolerance flag) ∙ q) in
        record {
          is = rebuilt_row_lem s t kinds firsts starts outs offsets labels evidence P n h e r_in r_new r_log r_build pending rest F
              ∙ ap (λ (o : Outgoing). part_floats r_in (sent ds x.outgoing o.messages r_new k) r_log (built_in true t n r_in r_build) pending rest) (sym y);
          last = ap (λ (o : Outgoing). o.last_build) y ∙ ap (λ (l : List Message). some l) held_anew;
        }
    by-test false q =
        let y : sent_by s t r_in r_build flag n ≡ _ = tree-kept s t (cut ds r_in) x b (is-tree s t kinds firsts starts outs offsets labels evidence P n h e r_in r_new r_log r_build pending rest F)
        (sym (tree-test s t kinds firsts starts outs offsets labels evidence P n h e r_in r_new r_log r_build pending rest F s.tolerance flag) ∙ q) in
        record {
          is = kept_row s t kinds firsts starts outs offsets labels evidence P n h r_in r_new back F.in_long F.new-long
              ∙ ap (λ (o : Outgoing). part_floats r_in (sent ds x.outgoing o.messages r_new k) r_log r_build pending rest) (sym y);
          last = ap (λ (o : Outgoing). o.last_build) y;
        }

    pub tree-sent : (anew : Bool) → anew ≡ needs_build s.tolerance flag (width t.directions) (get_or offsets (get_or firsts n 0) 0) (length (node_at t n).outgoing - 1) (part_floats r_in r_new r_log r_build pending rest)
        → NodeSent s t r_in r_new r_log r_build pending rest flag n anew (tree_sent anew outs offsets (width t.directions) (get_or firsts n 0) (length (node_at t n).outgoing) (part_floats r_in r_new r_log r_build pending rest))
    tree-sent anew q = by-test anew (sym q)
