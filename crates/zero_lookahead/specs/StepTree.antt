-- A tree's step: it sends all its messages into the new ones, before its neighbours take them over.
use Rattle.std.specs.Prelude.{ℕ, ◌+◌, ◌<◌, ◌≡◌, refl, Bool, true, false, eqb, Float, length, get_or}
use Rattle.std.proofs.Common.{arith, sym, ◌∙◌, subst}
use Rattle.std.proofs.Math.Path.{ap}
use Rattle.std.proofs.Math.Option.{none}
use mathlib.Core.List.{List}
use Rattle.std.proofs.Math.ListN.{set}
use Rattle.std.proofs.lemmas.List.{set-get_or}
use Rattle.definition.specs.Settings.{Settings}
use Rattle.definition.specs.Vectors.{Message}
use Rattle.definition.specs.FactorGraph.{is_tree}
use Rattle.definition.specs.Directions.{Direction, MessageNode, MessageGraph, node_at, set_messages}
use Rattle.definition.specs.Messages.{LastBuild, Outgoing, out_messages_tree}
use Rattle.definition.specs.Sweeps.{Store}
use Rattle.definition.specs.Run.{update_tree}
use Rattle.list_laws.specs.Part.{get_d_region, length-region}
use Rattle.list_laws.specs.Put.{put}
use Rattle.messages.specs.Layout.{cut}
use Rattle.messages.specs.LayoutKinds.{code-tree}
use Rattle.messages.specs.LayoutSweeps.{Sends, set_messages-sends, length-sends}
use Rattle.messages.specs.LayoutWrite.{sent}
use Rattle.messages.specs.DirectionsRead.{kinds_row, labels_row, firsts_row, starts_row, outs_row, offsets_row}
use Rattle.messages.specs.State.{store_of, build_of, builds_of}
use Rattle.sweeps.specs.SweepNode.{built_in, flag_after, sent_by, NodeSent}
use Rattle.sweeps.specs.SweepRows.{sends_fit}
use Rattle.sweeps.specs.SweepTree.{of_tree_lem}
use Rattle.zero_lookahead.specs.Part.{rows_end, flags_row, queue_row, PartWords, StandsFor, KeptFront}
use Rattle.zero_lookahead.specs.PartKept.{flags_part, flags_front, flags_are, flags_queue, flag-set, flag-set-long}
use Rattle.zero_lookahead.specs.StepStands.{SomeStands, StandsWith, taken_store}
use Rattle.zero_lookahead.specs.SweepBuilds.{builds_at, length-built, built-next}
use Rattle.zero_lookahead.specs.SweepSend.{NodeRows, SomeNodeOf}
use Rattle.zero_lookahead.specs.Variable.{kind_word}

-- ---- the two halves of the definition's step

abbrev pub sent_store : Settings → MessageGraph → ℕ → Store → Store
sent_store s t n x =
    let r = out_messages_tree s x.msg_in (node_at t n) (get_or x.last_builds n none) in
    record { msg_in = x.msg_in; msg_in_new = set_messages (node_at t n).outgoing r.messages x.msg_in_new; msg_in_log = x.msg_in_log; last_builds = set x.last_builds n r.last_build }

pub tree-halves : (s : Settings) (t : MessageGraph) (n : ℕ) (x : Store) → (update_tree s t n x.msg_in_log x).store ≡ taken_store t n (sent_store s t n x)
unfolding update_tree
tree-halves s t n x = refl

-- ---- a tree, and its flag

pub record SomeTree (tolerance : Float) (out n : ℕ) (words : List ℕ) (w : List Float) : Type 0 where
  pub some : SomeStands out words w
  pub tolerance_is : some.settings.tolerance ≡ tolerance
  pub there : n < get_or words 0 0
  pub kind : get_or words (2 + n) 0 ≡ 3

abbrev pub flagged : Bool → ℕ → ℕ → List ℕ → List ℕ
flagged anew out n words = set words (rows_end words out + n) (flag_after anew (get_or words (rows_end words out + n) 0))

-- one that stays
pub flag-kept : (out n : ℕ) (words : List ℕ) → words ≡ flagged false out n words
flag-kept out n words = sym (set-get_or words (rows_end words out + n) 0)

-- ---- what it sends
module _ (s : Settings) (t : MessageGraph) (out : ℕ) (evidence : List Float) (x : Store) (words : List ℕ) (w : List Float) (S : StandsFor s t out evidence x words w) (n : ℕ) (h : n < get_or words 0 0) where
  abbrev P : PartWords s t out evidence words
  P = S.part

  node : n < length t.nodes
  node = omega (arith, P.nodes)

  pub tree-rows : NodeRows s t out evidence words w S.r_in S.r_new S.r_log S.r_build S.pending S.rest n
  tree-rows = record { part = P; floats = S.floats; is = S.is; node = node }

  pub tree-node : get_or words (2 + n) 0 ≡ 3 → SomeNodeOf 3 out words w n
  tree-node e =
      record {
        evidence = evidence;
        some = record { settings = s; graph = t; r_in = S.r_in; r_new = S.r_new; r_log = S.r_log; r_build = S.r_build; pending = S.pending; rest = S.rest; rows = tree-rows };
        kind = e;
      }

  module _ (e : get_or words (2 + n) 0 ≡ 3) (anew : Bool) (w' : List Float)
      (N : NodeSent s t S.r_in S.r_new S.r_log S.r_build S.pending S.rest (get_or words (rows_end words out + n) 0) n anew w') where
    abbrev ds : List Direction
    ds = t.directions

    abbrev y : MessageNode
    y = node_at t n

    abbrev flag : ℕ
    flag = get_or words (rows_end words out + n) 0

    abbrev fs : List ℕ
    fs = flags_row words out

    abbrev v : ℕ
    v = flag_after anew (get_or words (rows_end words out + n) 0)

    abbrev r : Outgoing
    r = sent_by s t S.r_in S.r_build (get_or words (rows_end words out + n) 0) n

    abbrev new : List Float
    new = sent ds y.outgoing r.messages S.r_new (length y.outgoing)

    abbrev build : List Float
    build = built_in anew t n S.r_in S.r_build

    flags_long : length fs ≡ length t.nodes
    flags_long = length-region words (rows_end words out) (get_or words 0 0) (omega (arith, P.room)) ∙ P.nodes

    flag_at : get_or fs n 0 ≡ flag
    flag_at = get_d_region words (rows_end words out) (get_or words 0 0) n 0 h

    put_is : flagged anew out n words ≡ put words (rows_end words out) (set fs n v)
    put_is = flag-set s t out evidence words P n v h

    set_long : length (set fs n v) ≡ get_or words 0 0
    set_long = flag-set-long s t out evidence words P n v

    pub tree-front : KeptFront out words (flagged anew out n words)
    tree-front = subst (KeptFront out words) (sym put_is) (flags_front s t out evidence words P (set fs n v) set_long)

    sends : Sends ds y.outgoing r.messages
    sends = sends_fit s t (kinds_row words 0) (firsts_row words 0) (starts_row words 0 out) (outs_row words 0 out) (offsets_row words 0 out) (labels_row words 0) evidence P.rows n node S.r_in S.floats.in_long (build_of flag y (cut ds S.r_build))

    is-tree : is_tree y.kind ≡ true
    is-tree = code-tree y.kind ∙ ap (λ (c : ℕ). eqb c 3) (sym (kind_word s t out evidence words P n node) ∙ e)

    -- what the definition sends
    abbrev bs : List LastBuild
    bs = builds_of t.nodes (flags_row words out) (cut t.directions S.r_build)

    r-is : out_messages_tree s (cut ds S.r_in) y (get_or bs n none) ≡ r
    r-is =
        ap (out_messages_tree s (cut ds S.r_in) y) (builds_at t.nodes fs (cut ds S.r_build) n flags_long node ∙ ap (λ (i : ℕ). build_of i y (cut ds S.r_build)) flag_at)
        ∙ sym (of_tree_lem s t (cut ds S.r_in) y (build_of flag y (cut ds S.r_build)) is-tree)

    built : set bs n r.last_build ≡ builds_of t.nodes (set fs n v) (cut ds build)
    built =
        ap (set bs n) N.last
        ∙ ap (λ (i : ℕ). set bs n (build_of (flag_after anew i) y (cut ds build))) (sym flag_at)
        ∙ sym (built-next t P.rows.in_order n node S.r_in S.r_build S.floats.in_long S.floats.build-long anew fs flags_long)
        ∙ ap (λ (i : ℕ). builds_of t.nodes (set fs n (flag_after anew i)) (cut ds build)) flag_at

    sent_store_lem : sent_store s t n x ≡ store_of t S.r_in new S.r_log build (flags_row (flagged anew out n words) out)
    unfolding store_of
    sent_store_lem =
        ap (sent_store s t n) S.store
        ∙ ap (λ (o : Outgoing). record { msg_in = cut ds S.r_in; msg_in_new = set_messages y.outgoing o.messages (cut ds S.r_new); msg_in_log = cut ds S.r_log; last_builds = set bs n o.last_build }) r-is
        ∙ ap (λ (l : List Message). record { msg_in = cut ds S.r_in; msg_in_new = l; msg_in_log = cut ds S.r_log; last_builds = set bs n r.last_build }) (set_messages-sends ds y.outgoing r.messages S.r_new S.floats.new-long sends)
        ∙ ap (λ (l : List LastBuild). record { msg_in = cut ds S.r_in; msg_in_new = cut ds new; msg_in_log = cut ds S.r_log; last_builds = l })
        (built ∙ ap (λ (l : List ℕ). builds_of t.nodes l (cut ds build)) (sym (ap (λ (l : List ℕ). flags_row l out) put_is ∙ flags_are s t out evidence words P (set fs n v) set_long)))

    pub tree-sends : (p : List Float) (q : List ℕ) → S.pending ≡ p → queue_row words out ≡ q → StandsWith s t out evidence (sent_store s t n x) p q (flagged anew out n words) w'
    tree-sends p q ep eq =
        let F = S.floats in
        record {
          stands =
              record {
                part = subst (PartWords s t out evidence) (sym put_is) (flags_part s t out evidence words P (set fs n v) set_long);
                r_in = S.r_in;
                r_new = new;
                r_log = S.r_log;
                r_build = build;
                pending = S.pending;
                rest = S.rest;
                floats =
                    record {
                      in_long = F.in_long;
                      new-long = length-sends ds y.outgoing r.messages S.r_new (length y.outgoing) (omega arith) F.new-long sends;
                      log_long = F.log_long;
                      build-long = length-built t P.rows.in_order n node S.r_in S.r_build F.in_long F.build-long anew;
                      pending_long = F.pending_long;
                      room = F.room;
                      zeros = F.zeros;
                    };
                is = N.is;
                store = sent_store_lem;
              };
          pending_is = ep;
          queue_is = ap (λ (l : List ℕ). queue_row l out) put_is ∙ flags_queue s t out evidence words P (set fs n v) set_long ∙ eq;
        }

-- the same where the flag is stored
module _ (tolerance : Float) (out n : ℕ) (words : List ℕ) (w : List Float) (T : SomeTree tolerance out n words w) (anew : Bool) (w₁ : List Float) (words₁ : List ℕ) (stored : words₁ ≡ flagged anew out n words)
    (sends : (s : Settings) (t : MessageGraph) (evidence r_in r_new r_log r_build pending rest : List Float) → NodeRows s t out evidence words w r_in r_new r_log r_build pending rest n → s.tolerance ≡ tolerance
    → NodeSent s t r_in r_new r_log r_build pending rest (get_or words (rows_end words out + n) 0) n anew w₁) where
  sent-node : (s : Settings) (t : MessageGraph) (evidence : List Float) (x : Store) (S : StandsFor s t out evidence x words w) → s.tolerance ≡ tolerance
      → NodeSent s t S.r_in S.r_new S.r_log S.r_build S.pending S.rest (get_or words (rows_end words out + n) 0) n anew w₁
  sent-node s t evidence x S e = sends s t evidence S.r_in S.r_new S.r_log S.r_build S.pending S.rest (tree-rows s t out evidence x words w S n T.there) e

  pub sent_stands : (s : Settings) (t : MessageGraph) (evidence : List Float) (x : Store) (p : List Float) (q : List ℕ) → StandsWith s t out evidence x p q words w → s.tolerance ≡ tolerance
      → StandsWith s t out evidence (sent_store s t n x) p q words₁ w₁
  sent_stands s t evidence x p q W e =
      subst (λ (l : List ℕ). StandsWith s t out evidence (sent_store s t n x) p q l w₁) (sym stored)
      (tree-sends s t out evidence x words w W.stands n T.there T.kind anew w₁ (sent-node s t evidence x W.stands e) p q W.pending_is W.queue_is)

  -- the witness that was given
  abbrev Y : SomeStands out words w
  Y = T.some

  middle : StandsWith Y.settings Y.graph out Y.evidence (sent_store Y.settings Y.graph n Y.store) Y.stands.pending (queue_row words out) words₁ w₁
  middle = sent_stands Y.settings Y.graph Y.evidence Y.store Y.stands.pending (queue_row words out) (record { stands = Y.stands; pending_is = refl; queue_is = refl }) T.tolerance_is

  pub sent-some : SomeStands out words₁ w₁ × (n < get_or words₁ 0 0)
  sent-some = (
    record { settings = Y.settings; graph = Y.graph; evidence = Y.evidence; store = sent_store Y.settings Y.graph n Y.store; stands = middle.stands },
    omega (arith, T.there, Y.stands.part.nodes, middle.stands.part.nodes),
  )

  pub sent_front : KeptFront out words words₁
  sent_front =
      subst (KeptFront out words) (sym stored)
      (tree-front Y.settings Y.graph out Y.evidence Y.store words w Y.stands n T.there T.kind anew w₁ (sent-node Y.settings Y.graph Y.evidence Y.store Y.stands T.tolerance_is))
