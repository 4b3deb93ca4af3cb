-- What a step's pieces ask of a part's words and floats, and what they keep: what is pending, and the queue. The residual, the log before a step, and what a tree's neighbours take over.
use Rattle.std.specs.Prelude.{ℕ, ◌+◌, ◌*◌, ◌<◌, ◌≡◌, T, Float, get_or}
use Rattle.std.proofs.Common.{arith, sym, ◌∙◌, subst}
use Rattle.std.proofs.Math.Path.{ap}
use mathlib.Core.List.{List}
use Rattle.std.proofs.Math.ListN.{length}
use Rattle.definition.specs.Settings.{Settings}
use Rattle.definition.specs.Vectors.{Message}
use Rattle.definition.specs.Directions.{MessageGraph, node_at, copy_nodes}
use Rattle.definition.specs.Messages.{residual}
use Rattle.definition.specs.Sweeps.{Store}
use Rattle.definition.specs.Run.{neighbour_numbers}
use Rattle.float_laws.specs.Rounded.{clear}
use Rattle.message_bounds.specs.Residuals.{residual_small}
use Rattle.messages.specs.Layout.{cut, width}
use Rattle.messages.specs.LayoutCopy.{length-copied}
use Rattle.messages.specs.LayoutCut.{cut-long}
use Rattle.messages.specs.DirectionsRead.{kinds_row, labels_row, firsts_row, starts_row, outs_row, offsets_row}
use Rattle.messages.specs.State.{part_floats, builds_of, store_of, Changed, changed_of}
use Rattle.steps.specs.StepLog.{PartAt, Along, ChangedBelow, logged, taken, logged-cut, taken-cut}
use Rattle.steps.specs.StepPart.{part_at, along_of}
use Rattle.zero_lookahead.specs.Part.{flags_row, queue_row, StandsFor}
use Rattle.zero_lookahead.specs.StepReads.{reads}

pub record SomeStands (out : ℕ) (words : List ℕ) (w : List Float) : Type 0 where
  pub settings : Settings
  pub graph : MessageGraph
  pub evidence : List Float
  pub store : Store
  pub stands : StandsFor settings graph out evidence store words w

-- the words and floats stand for a store, and beside it for what is pending and for a queue
pub record StandsWith (s : Settings) (t : MessageGraph) (out : ℕ) (evidence : List Float) (x : Store) (pending : List Float) (queue : List ℕ) (words : List ℕ) (w : List Float) : Type 0 where
  pub stands : StandsFor s t out evidence x words w
  pub pending_is : stands.pending ≡ pending
  pub queue_is : queue_row words out ≡ queue

-- a store whose log has what some nodes hold
abbrev pub logged_store : MessageGraph → List ℕ → Store → Store
logged_store t ns x = record { msg_in = x.msg_in; msg_in_new = x.msg_in_new; msg_in_log = copy_nodes t x.msg_in ns x.msg_in_log; last_builds = x.last_builds }

-- one whose messages in force, of the neighbours of node n, are the new ones
abbrev pub taken_store : MessageGraph → ℕ → Store → Store
taken_store t n x = record { msg_in = copy_nodes t x.msg_in_new (neighbour_numbers t (node_at t n)) x.msg_in; msg_in_new = x.msg_in_new; msg_in_log = x.msg_in_log; last_builds = x.last_builds }

module _ (s : Settings) (t : MessageGraph) (out : ℕ) (evidence : List Float) (x : Store) (words : List ℕ) (w : List Float) (S : StandsFor s t out evidence x words w) where
  -- what `update_log` and `copy_neighbours` ask
  abbrev pub stands_part : PartAt (firsts_row words 0) (starts_row words 0 out) (offsets_row words 0 out) w
  stands_part =
      part_at s t (kinds_row words 0) (firsts_row words 0) (starts_row words 0 out) (outs_row words 0 out) (offsets_row words 0 out) (labels_row words 0) evidence S.part.rows w S.r_in S.r_new S.r_log S.r_build S.pending S.rest S.floats S.is

  -- what `residual_at` asks
  pub stands_along : (d : ℕ) → d < 2 * get_or words 1 0 → Along (offsets_row words 0 out) w d
  stands_along d h =
      along_of s t (kinds_row words 0) (firsts_row words 0) (starts_row words 0 out) (outs_row words 0 out) (offsets_row words 0 out) (labels_row words 0) evidence S.part.rows w S.r_in S.r_new S.r_log S.r_build S.pending S.rest S.floats S.is d (omega (arith, S.part.edges))

  -- the message sets that are compared
  pub stands_in : x.msg_in ≡ cut t.directions S.r_in
  unfolding store_of
  stands_in = ap (λ (y : Store). y.msg_in) S.store

  pub stands_log : x.msg_in_log ≡ cut t.directions S.r_log
  unfolding store_of
  stands_log = ap (λ (y : Store). y.msg_in_log) S.store

  -- the residual, and that its sign is clear
  pub stands_residual : (d : ℕ) (r : Float) → r ≡ residual t (cut t.directions S.r_in) (cut t.directions S.r_log) d → r ≡ residual t x.msg_in x.msg_in_log d
  stands_residual d r e =
      e ∙ ap (λ (ms : List Message). residual t ms (cut t.directions S.r_log) d) (sym stands_in) ∙ ap (λ (ms : List Message). residual t x.msg_in ms d) (sym stands_log)

  pub residual_sign : (d : ℕ) (r : Float) → r ≡ residual t x.msg_in x.msg_in_log d → T (clear r)
  residual_sign d r e =
      subst (λ (y : Float). T (clear y)) (sym (e ∙ ap (λ (ms : List Message). residual t ms x.msg_in_log d) stands_in ∙ ap (λ (ms : List Message). residual t (cut t.directions S.r_in) ms d) stands_log))
      (residual_small t (cut t.directions S.r_in) (cut t.directions S.r_log) d (λ c h. cut-long t.directions S.r_in c S.floats.in_long h) (λ c h. cut-long t.directions S.r_log c S.floats.log_long h)).clear_sign

  -- a node that changed is there
  pub stands_within : (c : Changed) → ChangedBelow c (get_or words 0 0 + 1) → ChangedBelow c (length (firsts_row words 0))
  stands_within c h = subst (ChangedBelow c) (let Q = reads s t out evidence words S.part in let z : get_or words 0 0 + 1 ≡ length (firsts_row words 0) = omega (arith, Q.firsts-long, S.part.nodes) in z) h

-- ---- the log
module _ (s : Settings) (t : MessageGraph) (out : ℕ) (evidence : List Float) (x : Store) (pending : List Float) (queue words : List ℕ) (w : List Float) (W : StandsWith s t out evidence x pending queue words w) where
  abbrev S : StandsFor s t out evidence x words w
  S = W.stands

  pub stands_logged : (c : Changed) (w' : List Float) → w' ≡ part_floats S.r_in S.r_new (logged t c S.r_in S.r_log) S.r_build S.pending S.rest
      → StandsWith s t out evidence (logged_store t (changed_of t c) x) pending queue words w'
  unfolding store_of
  stands_logged c w' e =
      let F = S.floats in
      let O = S.part.rows.in_order in
      let l : length (logged t c S.r_in S.r_log) ≡ width t.directions = length-copied t O S.r_in F.in_long (changed_of t c) S.r_log (length (changed_of t c)) F.log_long in
      record {
        stands =
            record {
              part = S.part;
              r_in = S.r_in;
              r_new = S.r_new;
              r_log = logged t c S.r_in S.r_log;
              r_build = S.r_build;
              pending = S.pending;
              rest = S.rest;
              floats = record { in_long = F.in_long; new-long = F.new-long; log_long = l; build-long = F.build-long; pending_long = F.pending_long; room = F.room; zeros = F.zeros };
              is = e;
              store =
                  ap (logged_store t (changed_of t c)) S.store
                  ∙ ap (λ (ms : List Message). record { msg_in = cut t.directions S.r_in; msg_in_new = cut t.directions S.r_new; msg_in_log = ms; last_builds = (store_of t S.r_in S.r_new S.r_log S.r_build (flags_row words out)).last_builds })
                  (sym (logged-cut t O c S.r_in S.r_log F.in_long F.log_long));
            };
        pending_is = W.pending_is;
        queue_is = W.queue_is;
      }

-- ---- what the neighbours of a tree take over
module _ (s : Settings) (t : MessageGraph) (out : ℕ) (evidence : List Float) (x : Store) (words : List ℕ) (w : List Float) (S : StandsFor s t out evidence x words w) (n : ℕ) where
  pub stands_taken : (w' : List Float) → w' ≡ part_floats (taken t n S.r_new S.r_in) S.r_new S.r_log S.r_build S.pending S.rest → (p : List Float) (q : List ℕ) → S.pending ≡ p → queue_row words out ≡ q
      → StandsWith s t out evidence (taken_store t n x) p q words w'
  unfolding store_of
  stands_taken w' e p q ep eq =
      let F = S.floats in
      let O = S.part.rows.in_order in
      let ns = neighbour_numbers t (node_at t n) in
      record {
        stands =
            record {
              part = S.part;
              r_in = taken t n S.r_new S.r_in;
              r_new = S.r_new;
              r_log = S.r_log;
              r_build = S.r_build;
              pending = S.pending;
              rest = S.rest;
              floats =
                  record {
                    in_long = length-copied t O S.r_new F.new-long ns S.r_in (length ns) F.in_long;
                    new-long = F.new-long;
                    log_long = F.log_long;
                    build-long = F.build-long;
                    pending_long = F.pending_long;
                    room = F.room;
                    zeros = F.zeros;
                  };
              is = e;
              store =
                  ap (taken_store t n) S.store
                  ∙ ap (λ (ms : List Message). record { msg_in = ms; msg_in_new = cut t.directions S.r_new; msg_in_log = cut t.directions S.r_log; last_builds = builds_of t.nodes (flags_row words out) (cut t.directions S.r_build) })
                  (sym (taken-cut t O n S.r_new S.r_in F.new-long F.in_long));
            };
        pending_is = ep;
        queue_is = eq;
      }
