-- A step along a direction whose start is no tree: its one message, in force and new.
use Rattle.std.specs.Prelude.{ℕ, ◌+◌, ◌*◌, ◌≤◌, ◌<◌, ◌≡◌, refl, false, Float, length, get_or}
use Rattle.std.proofs.Common.{arith, sym, ◌∙◌, inl, inr}
use Rattle.std.proofs.Math.Path.{ap}
use mathlib.Core.List.{List}
use Rattle.std.proofs.Math.ListN.{set}
use Rattle.definition.specs.Settings as definition
use Rattle.definition.specs.Vectors.{Message}
use Rattle.definition.specs.FactorGraph.{Kind, grade, factor, input, tree, is_tree}
use Rattle.definition.specs.Directions.{MessageGraph, node_at, direction_at}
use Rattle.definition.specs.Messages.{initial_belief, LastBuild, out_message}
use Rattle.definition.specs.Sweeps.{Store}
use Rattle.definition.specs.Run.{update_single}
use Rattle.graph_laws.specs.MessageLengths.{fits as lengths}
use Rattle.list_laws.specs.Put.{put, length-put}
use Rattle.node.specs.Rows.{given}
use Rattle.messages.specs.Layout.{cut, width, kind_code}
use Rattle.messages.specs.LayoutCut.{cut-long}
use Rattle.messages.specs.LayoutRows.{RowsRead}
use Rattle.messages.specs.LayoutWords.{message_put}
use Rattle.messages.specs.DirectionsRead.{kinds_row, labels_row, firsts_row, starts_row, outs_row, offsets_row}
use Rattle.messages.specs.State.{part_floats, store_of, builds_of}
use Rattle.sweeps.specs.SweepRows.{IsVariable}
use Rattle.steps.specs.StepUpdate.{SingleAt}
use Rattle.zero_lookahead.specs.declared.settings.Settings.{Settings}
use Rattle.zero_lookahead.specs.Part.{Given, flags_row, queue_row, PartWords, StandsFor}
use Rattle.zero_lookahead.specs.StepReads.{reads, start-way, start_is, start-node}
use Rattle.zero_lookahead.specs.StepStands.{StandsWith}
use Rattle.zero_lookahead.specs.Variable.{SomeVariable, kind_word}

-- ---- who sends: a variable or a factor

pub record SomeSender (words : List ℕ) (evidence : List Float) (n : ℕ) : Type 0 where
  pub settings : definition.Settings
  pub graph : MessageGraph
  pub out : ℕ
  pub part : PartWords settings graph out evidence words
  pub node : n < length graph.nodes
  pub no_tree : get_or words (2 + n) 0 ≡ 3 → ⊥

pub kind_of_lem : (k : Kind) (i : ℕ) → i ≡ kind_code k → (i ≡ 1 → ⊥) → (i ≡ 3 → ⊥) → IsVariable k
kind_of_lem grade i e f g = inl refl
kind_of_lem (factor d) i e f g = absurd (f e)
kind_of_lem (input v) i e f g = inr refl
kind_of_lem (tree d) i e f g = absurd (g e)

pub sender_room : (words : List ℕ) (evidence : List Float) (n : ℕ) → SomeSender words evidence n → 2 + n < length words
sender_room words evidence n S = omega (arith, S.part.nodes, S.node, S.part.behind, S.part.room)

pub sender_variable : (words : List ℕ) (evidence : List Float) (n k : ℕ) → SomeSender words evidence n → k ≡ get_or words (2 + n) 0 → (k ≡ 1 → ⊥) → SomeVariable words evidence n
sender_variable words evidence n k S e f =
    record {
      settings = S.settings;
      graph = S.graph;
      out = S.out;
      part = S.part;
      node = S.node;
      variable = kind_of_lem (node_at S.graph n).kind (get_or words (2 + n) 0) (kind_word S.settings S.graph S.out evidence words S.part n S.node) (λ z. f (e ∙ z)) S.no_tree;
    }

-- a factor is no variable
pub factor_other : (s : definition.Settings) (t : MessageGraph) (out : ℕ) (evidence : List Float) (words : List ℕ) (P : PartWords s t out evidence words) (n k : ℕ) → n < length t.nodes → k ≡ get_or words (2 + n) 0 → k ≡ 1
    → IsVariable (node_at t n).kind → ⊥
factor_other s t out evidence words P n k h e f v = go v
  where
    code : kind_code (node_at t n).kind ≡ 1
    code = sym (kind_word s t out evidence words P n h) ∙ sym e ∙ f

    go : IsVariable (node_at t n).kind → ⊥
    go (inl z) = omega (arith, code)
    go (inr z) = omega (arith, code)

-- ---- the direction d, whose start is n

pub record SingleAlong (out d n : ℕ) (words : List ℕ) : Type 0 where
  pub there : d < 2 * get_or words 1 0
  pub start : n ≡ get_or (starts_row words 0 out) d 0
  pub no_tree : get_or words (2 + n) 0 ≡ 3 → ⊥

pub no_tree_of : (k : Kind) → (kind_code k ≡ 3 → ⊥) → is_tree k ≡ false
no_tree_of grade f = refl
no_tree_of (factor d) f = refl
no_tree_of (input v) f = refl
no_tree_of (tree d) f = absurd (f refl)

module _ (s : definition.Settings) (t : MessageGraph) (out : ℕ) (evidence : List Float) (x : Store) (words : List ℕ) (w : List Float) (S : StandsFor s t out evidence x words w) (d n : ℕ) (L : SingleAlong out d n words) where
  abbrev P : PartWords s t out evidence words
  P = S.part

  abbrev Q : RowsRead t (kinds_row words 0) (firsts_row words 0) (starts_row words 0 out) (outs_row words 0 out) (offsets_row words 0 out)
  Q = reads s t out evidence words P

  abbrev ds : List Rattle.definition.specs.Directions.Direction
  ds = t.directions

  abbrev way : d < length t.directions
  way = start-way s t out evidence words S.part d n L.there L.start

  abbrev node : n < length t.nodes
  node = start-node s t out evidence words S.part d n L.there L.start

  pub single_sender : SomeSender words evidence n
  single_sender = record { settings = s; graph = t; out = out; part = P; node = node; no_tree = L.no_tree }

  abbrev begins : n ≡ (direction_at t d).start
  begins = start_is s t out evidence words S.part d n L.there L.start

  -- what `update_single` asks
  abbrev pub single_at : (g : Settings) (m : Message) → Given s g → (IsVariable (node_at t n).kind → m ≡ initial_belief s (node_at t n).kind)
      → SingleAt (kinds_row words 0) (firsts_row words 0) (starts_row words 0 out) (outs_row words 0 out) (offsets_row words 0 out) w d m g.alpha g.beta g.regularised
  single_at g m G b =
      let code = kind_word s t out evidence words P n node in
      record {
        s = s;
        t = t;
        labels = labels_row words 0;
        evidence = evidence;
        words = P.rows;
        r_in = S.r_in;
        r_new = S.r_new;
        r_log = S.r_log;
        r_build = S.r_build;
        pending = S.pending;
        rest = S.rest;
        floats = S.floats;
        is = S.is;
        there = way;
        no_tree = ap (λ (i : ℕ). is_tree (node_at t i).kind) (sym begins) ∙ no_tree_of (node_at t n).kind (λ z. L.no_tree (code ∙ z));
        believes = (λ f.
            b (kind_of_lem (node_at t n).kind (get_or words (2 + n) 0) code (λ z. f (ap (λ (i : ℕ). get_or (kinds_row words 0) i 0) (sym L.start) ∙ Q.kind n node ∙ sym code ∙ z)) L.no_tree)
            ∙ ap (λ (i : ℕ). initial_belief s (node_at t i).kind) begins);
        settings = ap (λ (y : definition.Settings). given y.alpha y.beta y.regularised) (sym G);
      }

  -- what it leaves
  abbrev m : Message
  m = out_message s t (cut ds S.r_in) d

  abbrev o : ℕ
  o = get_or (offsets_row words 0 out) d 0

  m-long : length m ≡ (direction_at t d).message_length
  m-long = (lengths s t P.rows.kept.sound).preserved.single (cut ds S.r_in) (λ c k. cut-long ds S.r_in c S.floats.in_long k) d way

  room : o + length m ≤ width ds
  room = omega (arith, m-long, Q.offset_room d way)

  put-long : (r : List Float) → length r ≡ width ds → length (put r o m) ≡ width ds
  put-long r e = length-put r o m (omega (arith, room)) ∙ e

  put-cut : (r : List Float) → length r ≡ width ds → cut ds (put r o m) ≡ set (cut ds r) d m
  put-cut r e = message_put t (kinds_row words 0) (firsts_row words 0) (starts_row words 0 out) (outs_row words 0 out) (offsets_row words 0 out) Q d way r m e m-long

  abbrev bs : List LastBuild
  bs = builds_of t.nodes (flags_row words out) (cut ds S.r_build)

  single_store : (update_single s t d x.msg_in_log x).store ≡ store_of t (put S.r_in o m) (put S.r_new o m) S.r_log S.r_build (flags_row words out)
  unfolding update_single store_of
  single_store =
      ap (λ (y : Store). (update_single s t d y.msg_in_log y).store) S.store
      ∙ ap (λ (l : List Message). record { msg_in = l; msg_in_new = set (cut ds S.r_new) d m; msg_in_log = cut ds S.r_log; last_builds = bs }) (sym (put-cut S.r_in S.floats.in_long))
      ∙ ap (λ (l : List Message). record { msg_in = cut ds (put S.r_in o m); msg_in_new = l; msg_in_log = cut ds S.r_log; last_builds = bs }) (sym (put-cut S.r_new S.floats.new-long))

  pub single_stands : (w' : List Float) → w' ≡ part_floats (put S.r_in (get_or (offsets_row words 0 out) d 0) (out_message s t (cut t.directions S.r_in) d)) (put S.r_new (get_or (offsets_row words 0 out) d 0) (out_message s t (cut t.directions S.r_in) d)) S.r_log S.r_build S.pending S.rest
      → (p : List Float) (q : List ℕ) → S.pending ≡ p → queue_row words out ≡ q → StandsWith s t out evidence (update_single s t d x.msg_in_log x).store p q words w'
  single_stands w' e p q z y =
      let F = S.floats in
      record {
        stands =
            record {
              part = P;
              r_in = put S.r_in o m;
              r_new = put S.r_new o m;
              r_log = S.r_log;
              r_build = S.r_build;
              pending = S.pending;
              rest = S.rest;
              floats = record { in_long = put-long S.r_in F.in_long; new-long = put-long S.r_new F.new-long; log_long = F.log_long; build-long = F.build-long; pending_long = F.pending_long; room = F.room; zeros = F.zeros };
              is = e;
              store = single_store;
            };
        pending_is = z;
        queue_is = y;
      }
