-- A sweep of a part, node by node: what its words and floats stand for after n nodes, and after all of them.
use Rattle.std.specs.Prelude.{ℕ, suc, ◌+◌, ◌≤◌, ◌<◌, ◌≡◌, Bool, true, false, List, [], ◌∷◌, ◌++◌, Float, length, get_or, take, drop, set}
use Rattle.std.proofs.Common.{add-one, arith, sym, ap, ◌∙◌, subst, append_assoc, length-append, drop_of_length-le, drop-cons, take_all, length-take-le}
use Rattle.std.proofs.Math.Option.{none}
use Rattle.std.proofs.lemmas.List.{set_at, get_or_at, set-get_or}
use Rattle.definition.specs.Settings.{Settings}
use Rattle.definition.specs.Vectors.{Message}
use Rattle.definition.specs.Directions.{Direction, MessageNode, MessageGraph, node_at}
use Rattle.definition.specs.Messages.{LastBuild, Outgoing, out_messages}
use Rattle.definition.specs.Sweeps.{Store, Update, compute_update, sweep}
use Rattle.graph_laws.specs.Lists.{append_none}
use Rattle.graph_laws.specs.MessageCounts as counts
use Rattle.list_laws.specs.Part.{get_d_region, length-region}
use Rattle.list_laws.specs.Put.{put}
use Rattle.messages.specs.Layout.{cut, width}
use Rattle.messages.specs.LayoutWrite.{sent}
use Rattle.messages.specs.LayoutSweeps.{Sends, length-sends, builds_next, update_row}
use Rattle.messages.specs.DirectionsRead.{kinds_row, labels_row, firsts_row, starts_row, outs_row, offsets_row}
use Rattle.messages.specs.State.{FloatRows, part_floats, build_of, builds_of, store_of}
use Rattle.sweeps.specs.SweepRows.{sends_fit}
use Rattle.sweeps.specs.SweepRotate.{rotated, rotated-rows}
use Rattle.sweeps.specs.SweepNode.{NodeSent, built_in, flag_after}
use Rattle.zero_lookahead.specs.Part.{rows_end, flags_row, PartWords, StandsFor, KeptFront}
use Rattle.zero_lookahead.specs.PartKept.{flag-set, flag-set-long, flags_part, flags_front, flags_are}
use Rattle.zero_lookahead.specs.SweepBuilds.{length_builds, builds_at, length-built, built-next}
use Rattle.zero_lookahead.specs.SweepSend.{NodeRows, SomeNode}

-- what the first n nodes make of a store
abbrev pub updated_to : Settings → MessageGraph → Store → ℕ → Update
updated_to s t x n = compute_update s t x.msg_in (take n t.nodes) (take n x.last_builds) x.msg_in_new

pub record Swept (s : Settings) (t : MessageGraph) (out : ℕ) (evidence : List Float) (x : Store) (n : ℕ) (words : List ℕ) (w : List Float) : Type 0 where
  pub part : PartWords s t out evidence words
  pub r_in : List Float
  pub r_new : List Float
  pub r_log : List Float
  pub r_build : List Float
  pub pending : List Float
  pub rest : List Float
  pub floats : FloatRows t r_in r_new r_log r_build pending rest
  pub is : w ≡ part_floats r_in r_new r_log r_build pending rest
  pub in_is : cut t.directions r_in ≡ x.msg_in
  pub new_is : cut t.directions r_new ≡ (updated_to s t x n).msg_in_new
  pub log_is : cut t.directions r_log ≡ x.msg_in_log
  pub builds_long : length x.last_builds ≡ length t.nodes
  pub builds_are : builds_of t.nodes (flags_row words out) (cut t.directions r_build) ≡ (updated_to s t x n).last_builds ++ drop n x.last_builds

flags_long : {s : Settings} {t : MessageGraph} {out : ℕ} {evidence : List Float} {words : List ℕ} → PartWords s t out evidence words → length (flags_row words out) ≡ length t.nodes
flags_long {out = out} {words = words} P = length-region words (rows_end words out) (get_or words 0 0) (omega (arith, P.room)) ∙ P.nodes

-- ---- at the start
pub swept_none : {s : Settings} {t : MessageGraph} {out : ℕ} {evidence : List Float} {x : Store} {words : List ℕ} {w : List Float} → StandsFor s t out evidence x words w → Swept s t out evidence x 0 words w
unfolding store_of compute_update
swept_none {t = t} {out = out} {words = words} S =
    record {
      part = S.part;
      r_in = S.r_in;
      r_new = S.r_new;
      r_log = S.r_log;
      r_build = S.r_build;
      pending = S.pending;
      rest = S.rest;
      floats = S.floats;
      is = S.is;
      in_is = sym (ap (λ (y : Store). y.msg_in) S.store);
      new_is = sym (ap (λ (y : Store). y.msg_in_new) S.store);
      log_is = sym (ap (λ (y : Store). y.msg_in_log) S.store);
      builds_long = ap (λ (y : Store). length y.last_builds) S.store ∙ length_builds t.nodes (flags_row words out) (cut t.directions S.r_build) (flags_long S.part);
      builds_are = sym (ap (λ (y : Store). y.last_builds) S.store);
    }

-- ---- one node more
module _ {s : Settings} {t : MessageGraph} {out : ℕ} {evidence : List Float} {x : Store} {n : ℕ} {words : List ℕ} {w : List Float} (S : Swept s t out evidence x n words w) (h : n < length t.nodes) where
  abbrev ds : List Direction
  ds = t.directions

  abbrev k : ℕ
  k = length (node_at t n).outgoing

  abbrev fs : List ℕ
  fs = flags_row words out

  abbrev flag : ℕ
  flag = get_or words (rows_end words out + n) 0

  abbrev made : Outgoing
  made = out_messages s t (cut t.directions S.r_in) (node_at t n) (build_of (get_or words (rows_end words out + n) 0) (node_at t n) (cut t.directions S.r_build))

  pub node-rows : NodeRows s t out evidence words w S.r_in S.r_new S.r_log S.r_build S.pending S.rest n
  node-rows = record { part = S.part; floats = S.floats; is = S.is; node = h }

  flag_at : get_or fs n 0 ≡ flag
  flag_at = get_d_region words (rows_end words out) (get_or words 0 0) n 0 (omega (arith, S.part.nodes))

  front_long : length (updated_to s t x n).last_builds ≡ n
  front_long =
      let a : length (take n t.nodes) ≡ n = length-take-le n t.nodes (omega arith) in
      let b : length (take n x.last_builds) ≡ n = length-take-le n x.last_builds (omega (arith, S.builds_long)) in
      counts.length_builds s t x.msg_in (take n t.nodes) (take n x.last_builds) x.msg_in_new (b ∙ sym a) ∙ a

  split : drop n x.last_builds ≡ get_or x.last_builds n none ∷ drop (suc n) x.last_builds
  split = drop-cons x.last_builds n none (omega (arith, S.builds_long))

  -- node n's build is still what it was
  build-is : build_of flag (node_at t n) (cut ds S.r_build) ≡ get_or x.last_builds n none
  build-is =
      ap (λ (i : ℕ). build_of i (node_at t n) (cut ds S.r_build)) (sym flag_at)
      ∙ sym (builds_at t.nodes fs (cut ds S.r_build) n (flags_long S.part) h)
      ∙ ap (λ (l : List LastBuild). get_or l n none) (S.builds_are ∙ ap (λ (l : List LastBuild). (updated_to s t x n).last_builds ++ l) split)
      ∙ get_or_at (updated_to s t x n).last_builds (get_or x.last_builds n none) (drop (suc n) x.last_builds) none n front_long

  made-is : made ≡ out_messages s t x.msg_in (node_at t n) (get_or x.last_builds n none)
  made-is =
      ap (λ (l : List Message). out_messages s t l (node_at t n) (build_of flag (node_at t n) (cut ds S.r_build))) S.in_is
      ∙ ap (out_messages s t x.msg_in (node_at t n)) build-is

  sends : Sends ds (node_at t n).outgoing made.messages
  sends =
      sends_fit s t (kinds_row words 0) (firsts_row words 0) (starts_row words 0 out) (outs_row words 0 out) (offsets_row words 0 out) (labels_row words 0) evidence S.part.rows n h S.r_in S.floats.in_long
      (build_of flag (node_at t n) (cut ds S.r_build))

  new_row : cut ds (sent ds (node_at t n).outgoing made.messages S.r_new k) ≡ (updated_to s t x (n + 1)).msg_in_new
  new_row =
      ap (λ (o : Outgoing). cut ds (sent ds (node_at t n).outgoing o.messages S.r_new k)) made-is
      ∙ update_row s t x.msg_in x.last_builds x.msg_in_new n h (omega (arith, S.builds_long)) S.r_new S.floats.new-long S.new_is
      (subst (λ (o : Outgoing). Sends ds (node_at t n).outgoing o.messages) made-is sends)

  builds_row : set (builds_of t.nodes fs (cut ds S.r_build)) n made.last_build ≡ (updated_to s t x (n + 1)).last_builds ++ drop (n + 1) x.last_builds
  builds_row =
      let f = (updated_to s t x n).last_builds in
      let y = made.last_build in
      ap (λ (l : List LastBuild). set l n y) (S.builds_are ∙ ap (λ (l : List LastBuild). f ++ l) split)
      ∙ set_at f (get_or x.last_builds n none) (drop (suc n) x.last_builds) y n front_long
      ∙ sym (append_assoc f (y ∷ []) (drop (suc n) x.last_builds))
      ∙ ap (λ (o : Outgoing). (f ++ (o.last_build ∷ [])) ++ drop (suc n) x.last_builds) made-is
      ∙ ap (λ (l : List LastBuild). l ++ drop (suc n) x.last_builds) (sym (builds_next s t x.msg_in x.last_builds x.msg_in_new n h (omega (arith, S.builds_long))))
      ∙ ap (λ (i : ℕ). (updated_to s t x (n + 1)).last_builds ++ drop i x.last_builds) (sym (add-one n))

  pub some-node : SomeNode out evidence words w n
  some-node = record { settings = s; graph = t; r_in = S.r_in; r_new = S.r_new; r_log = S.r_log; r_build = S.r_build; pending = S.pending; rest = S.rest; rows = node-rows }

  flag_stored : (i : ℕ) → i ≡ rows_end words out + n → set words i 1 ≡ put words (rows_end words out) (set fs n 1)
  flag_stored i e = ap (λ (j : ℕ). set words j 1) e ∙ flag-set s t out evidence words S.part n 1 (omega (arith, S.part.nodes))

  module _ (anew : Bool) (w' : List Float) (N : NodeSent s t S.r_in S.r_new S.r_log S.r_build S.pending S.rest (get_or words (rows_end words out + n) 0) n anew w') where
    next : (words' : List ℕ) → PartWords s t out evidence words' → flags_row words' out ≡ set fs n (flag_after anew flag) → Swept s t out evidence x (n + 1) words' w'
    next words' P e =
        record {
          part = P;
          r_in = S.r_in;
          r_new = sent ds (node_at t n).outgoing made.messages S.r_new k;
          r_log = S.r_log;
          r_build = built_in anew t n S.r_in S.r_build;
          pending = S.pending;
          rest = S.rest;
          floats = record {
            in_long = S.floats.in_long;
            new-long = length-sends ds (node_at t n).outgoing made.messages S.r_new k (omega arith) S.floats.new-long sends;
            log_long = S.floats.log_long;
            build-long = length-built t S.part.rows.in_order n h S.r_in S.r_build S.floats.in_long S.floats.build-long anew;
            pending_long = S.floats.pending_long;
            room = S.floats.room;
            zeros = S.floats.zeros;
          };
          is = N.is;
          in_is = S.in_is;
          new_is = new_row;
          log_is = S.log_is;
          builds_long = S.builds_long;
          builds_are =
              let r = cut ds (built_in anew t n S.r_in S.r_build) in
              ap (λ (l : List ℕ). builds_of t.nodes l r) (e ∙ ap (λ (i : ℕ). set fs n (flag_after anew i)) (sym flag_at))
              ∙ built-next t S.part.rows.in_order n h S.r_in S.r_build S.floats.in_long S.floats.build-long anew fs (flags_long S.part)
              ∙ ap (λ (i : ℕ). set (builds_of t.nodes fs (cut ds S.r_build)) n (build_of (flag_after anew i) (node_at t n) r)) flag_at
              ∙ ap (set (builds_of t.nodes fs (cut ds S.r_build)) n) (sym N.last)
              ∙ builds_row;
        }

  -- a tree was built anew, and its flag is set, or nothing was
  pub swept_anew : (anew : Bool) (i : ℕ) (w' : List Float) → anew ≡ true → i ≡ rows_end words out + n → NodeSent s t S.r_in S.r_new S.r_log S.r_build S.pending S.rest (get_or words (rows_end words out + n) 0) n anew w'
      → Swept s t out evidence x (n + 1) (set words i 1) w'
  swept_anew anew i w' z e N =
      next true w' (subst (λ (b : Bool). NodeSent s t S.r_in S.r_new S.r_log S.r_build S.pending S.rest flag n b w') z N) (set words i 1)
      (rw (flag_stored i e) (flags_part s t out evidence words S.part (set fs n 1) (flag-set-long s t out evidence words S.part n 1)))
      (ap (λ (u : List ℕ). flags_row u out) (flag_stored i e) ∙ flags_are s t out evidence words S.part (set fs n 1) (flag-set-long s t out evidence words S.part n 1))

  pub front_anew : (i : ℕ) → i ≡ rows_end words out + n → KeptFront out words (set words i 1)
  front_anew i e = rw (flag_stored i e) (flags_front s t out evidence words S.part (set fs n 1) (flag-set-long s t out evidence words S.part n 1))

  pub swept_kept : (anew : Bool) (w' : List Float) → anew ≡ false → NodeSent s t S.r_in S.r_new S.r_log S.r_build S.pending S.rest (get_or words (rows_end words out + n) 0) n anew w' → Swept s t out evidence x (n + 1) words w'
  swept_kept anew w' z N =
      next false w' (subst (λ (b : Bool). NodeSent s t S.r_in S.r_new S.r_log S.r_build S.pending S.rest flag n b w') z N) words S.part (sym (ap (set fs n) (sym flag_at) ∙ set-get_or fs n 0))

-- ---- all nodes have sent, and the rows change places
pub swept_all : {s : Settings} {t : MessageGraph} {out : ℕ} {evidence : List Float} {x : Store} {words : List ℕ} {w : List Float} (n l : ℕ) (w' : List Float) → Swept s t out evidence x n words w → length t.nodes ≤ n → l ≡ width t.directions
    → w' ≡ rotated l w → StandsFor s t out evidence (sweep s t x) words w'
unfolding store_of sweep
swept_all {s = s} {t = t} {x = x} n l w' S h e q =
    let F = S.floats in
    let all : updated_to s t x n ≡ compute_update s t x.msg_in t.nodes x.last_builds x.msg_in_new =
    ap (λ (l : List MessageNode). compute_update s t x.msg_in l (take n x.last_builds) x.msg_in_new) (take_all n t.nodes h)
    ∙ ap (λ (l : List LastBuild). compute_update s t x.msg_in t.nodes l x.msg_in_new) (take_all n x.last_builds (omega (arith, S.builds_long))) in
    let none_left : drop n x.last_builds ≡ [] = drop_of_length-le x.last_builds (let z : length x.last_builds ≤ n = omega (arith, S.builds_long) in z) in
    let new = S.new_is ∙ ap (λ (u : Update). u.msg_in_new) all in
    let builds = S.builds_are ∙ ap (λ (r : List LastBuild). (updated_to s t x n).last_builds ++ r) none_left ∙ append_none (updated_to s t x n).last_builds ∙ ap (λ (u : Update). u.last_builds) all in
    record {
      part = S.part;
      r_in = S.r_new;
      r_new = S.r_log;
      r_log = S.r_in;
      r_build = S.r_build;
      pending = S.pending;
      rest = S.rest;
      floats = record {
        in_long = F.new-long;
        new-long = F.log_long;
        log_long = F.in_long;
        build-long = F.build-long;
        pending_long = F.pending_long;
        room = F.room;
        zeros = F.zeros;
      };
      is = q ∙ ap (rotated l) S.is ∙ rotated-rows S.r_in S.r_new S.r_log (S.r_build ++ (S.pending ++ S.rest)) l (F.in_long ∙ sym e) (F.new-long ∙ sym e) (F.log_long ∙ sym e);
      store = (λ i. record { msg_in = sym new i; msg_in_new = sym S.log_is i; msg_in_log = sym S.in_is i; last_builds = sym builds i });
    }

-- three rows are there
pub swept_room : {s : Settings} {t : MessageGraph} {out : ℕ} {evidence : List Float} {x : Store} {n : ℕ} {words : List ℕ} {w : List Float} (l : ℕ) → Swept s t out evidence x n words w → l ≡ width t.directions → l + l + l ≤ length w
swept_room l S e =
    let F = S.floats in
    let back = S.r_build ++ (S.pending ++ S.rest) in
    omega (arith, ap length S.is, length-append S.r_in (S.r_new ++ (S.r_log ++ back)), length-append S.r_new (S.r_log ++ back), length-append S.r_log back, F.in_long, F.new-long, F.log_long)
