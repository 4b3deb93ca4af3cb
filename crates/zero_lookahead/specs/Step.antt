-- A scheduled step in a part's words and floats is the definition's: what its pieces leave, put together.
use Rattle.std.specs.Prelude.{ℕ, ◌+◌, ◌*◌, ◌≤◌, ◌<◌, ◌≡◌, refl, T, Float, length, get_or, set}
use Rattle.std.proofs.Common.{arith, sym, ◌∙◌, subst, length-set}
use Rattle.std.proofs.Math.Path.{ap}
use Rattle.std.proofs.Math.Option.{Option, none}
use mathlib.Core.List.{List}
use Rattle.definition.specs.Settings as definition
use Rattle.definition.specs.Floats.{zeroᶠ}
use Rattle.definition.specs.Directions.{MessageGraph, node_at, direction_at, copy_nodes}
use Rattle.definition.specs.Messages.{residual}
use Rattle.definition.specs.Sweeps.{Store}
use Rattle.definition.specs.Priorities.{Highest}
use Rattle.definition.specs.Run.{State, update_single, update_tree, update_message, add_pending, push_priorities, other_outgoing, scheduled_step}
use Rattle.float_laws.specs.Rounded.{clear}
use Rattle.graph_laws.specs.MessageCounts.{length-add_pending, length_wait}
use Rattle.list_laws.specs.Part.{region, length-region}
use Rattle.list_laws.specs.Put.{put}
use Rattle.messages.specs.Layout.{width}
use Rattle.messages.specs.DirectionsRead.{offsets_row}
use Rattle.messages.specs.State.{store_of, Changed, changed_of}
use Rattle.priorities.specs.Leaves.{leaves_for, leaves_full, leaves-enough}
use Rattle.priorities.specs.Keys.{encoded, IsAmount}
use Rattle.priorities.specs.Tournament.{Holds}
use Rattle.priorities.specs.Waiting.{waiting_queue}
use Rattle.steps.specs.StepFloats.{floats_long, pending_put, pending_read}
use Rattle.steps.specs.StepLog.{total-is}
use Rattle.steps.specs.StepPending.{Waiting, ResidualAdded}
use Rattle.zero_lookahead.specs.Part.{flags_row, leaves_in, queue_at, queue_row, PartWords, StandsFor, Runs, KeptFront}
use Rattle.zero_lookahead.specs.PartKept.{queue_part, queue_front, queue_flags, queue_is}
use Rattle.zero_lookahead.specs.StepAdded.{pending_at, pending_row, AddingAlong, AddedAlong}
use Rattle.zero_lookahead.specs.StepAmounts.{pushed_amounts, none_amounts, signs_all}
use Rattle.zero_lookahead.specs.StepMessage.{Updated}
use Rattle.zero_lookahead.specs.StepStands.{StandsWith, logged_store, stands_part}

-- ---- the definition's step, piece by piece
module _ (s : definition.Settings) (t : MessageGraph) (b : Highest) (x : State) (d : ℕ) (at : b.direction ≡ d) where
  abbrev os : List ℕ
  os = other_outgoing (direction_at t d).start_in_end (node_at t (direction_at t d).end).outgoing

  -- the message does not read the log
  module _ (c : Changed) (changes : changed_of t c ≡ x.changed) where
    step_store : (update_message s t d (logged_store t (changed_of t c) x.store).msg_in_log (logged_store t (changed_of t c) x.store)).store ≡ (scheduled_step s t b x).store
    unfolding scheduled_step update_message update_tree update_single
    step_store =
        ap (λ (ns : List ℕ). (update_message s t d (copy_nodes t x.store.msg_in ns x.store.msg_in_log) x.store).store) changes
        ∙ ap (λ (i : ℕ). (update_message s t i (copy_nodes t x.store.msg_in x.changed x.store.msg_in_log) x.store).store) (sym at)

    step_changed : (update_message s t d (logged_store t (changed_of t c) x.store).msg_in_log (logged_store t (changed_of t c) x.store)).changed ≡ (scheduled_step s t b x).changed
    unfolding scheduled_step update_message update_tree update_single
    step_changed =
        ap (λ (ns : List ℕ). (update_message s t d (copy_nodes t x.store.msg_in ns x.store.msg_in_log) x.store).changed) changes
        ∙ ap (λ (i : ℕ). (update_message s t i (copy_nodes t x.store.msg_in x.changed x.store.msg_in_log) x.store).changed) (sym at)

  module _ (r : Float) (is-residual : r ≡ residual t x.store.msg_in x.store.msg_in_log d) where
    step_pending : add_pending r os (set x.pending d zeroᶠ) ≡ (scheduled_step s t b x).pending
    unfolding scheduled_step
    step_pending =
        ap (λ (y : Float). add_pending y os (set x.pending d zeroᶠ)) is-residual
        ∙ ap (λ (i : ℕ). add_pending (residual t x.store.msg_in x.store.msg_in_log i) (other_outgoing (direction_at t i).start_in_end (node_at t (direction_at t i).end).outgoing) (set x.pending i zeroᶠ)) (sym at)

    step_priorities : push_priorities (scheduled_step s t b x).pending os (set x.priorities d none) ≡ (scheduled_step s t b x).priorities
    unfolding scheduled_step
    step_priorities =
        ap (λ (i : ℕ). push_priorities (scheduled_step s t b x).pending (other_outgoing (direction_at t i).start_in_end (node_at t (direction_at t i).end).outgoing) (set x.priorities i none)) (sym at)

-- ---- what is pending, read where it stands
module _ (s : definition.Settings) (t : MessageGraph) (out : ℕ) (evidence : List Float) (x : Store) (words : List ℕ) (w : List Float) (S : StandsFor s t out evidence x words w) where
  at-is : pending_at words out ≡ 4 * width t.directions
  at-is = ap (λ (n : ℕ). 4 * n) (total-is _ _ (offsets_row words 0 out) (stands_part s t out evidence x words w S).words)

  row_is : pending_row words out w ≡ S.pending
  row_is =
      ap (λ (n : ℕ). region w n (2 * get_or words 1 0)) at-is
      ∙ ap (region w (4 * width t.directions)) S.part.edges
      ∙ ap (λ (v : List Float). region v (4 * width t.directions) (length t.directions)) S.is
      ∙ pending_read t S.r_in S.r_new S.r_log S.r_build S.pending S.rest S.floats

  row_room : pending_at words out + 2 * get_or words 1 0 ≤ length w
  row_room = omega (arith, at-is, S.part.edges, ap length S.is, floats_long t S.r_in S.r_new S.r_log S.r_build S.pending S.rest S.floats)

module _ (s : definition.Settings) (t : MessageGraph) (out : ℕ) (evidence : List Float) (x : State) (words : List ℕ) (w : List Float) (R : Runs s t out evidence x words w) where
  -- beside the store
  pub running_with : StandsWith s t out evidence x.store x.pending (queue_row words out) words w
  running_with = record { stands = R.stands; pending_is = R.pending_is; queue_is = refl }

  pending_long : length x.pending ≡ length t.directions
  pending_long = ap length (sym R.pending_is) ∙ R.stands.floats.pending_long

  waiting : Waiting (leaves_in words) x.pending (queue_row words out)
  waiting =
      record {
        queue = waiting_queue x.priorities R.amounts (leaves_in words) (queue_row words out) (leaves_full (2 * get_or words 1 0)) R.holds;
        room = omega (arith, pending_long, R.stands.part.edges, leaves-enough (2 * get_or words 1 0));
        clear_signs = R.clear_signs;
      }

  -- ---- once the message was sent
  module _ (d : ℕ) (h : d < 2 * get_or words 1 0) (y : Store) (words₂ : List ℕ) (w₂ : List Float) (W : StandsWith s t out evidence y x.pending (queue_row words out) words₂ w₂) (r : Float) where
    edges_are : 2 * get_or words₂ 1 0 ≡ 2 * get_or words 1 0
    edges_are = W.stands.part.edges ∙ sym R.stands.part.edges

    leaves_are : leaves_in words₂ ≡ leaves_in words
    leaves_are = ap leaves_for edges_are

    pending_are : pending_row words₂ out w₂ ≡ x.pending
    pending_are = row_is s t out evidence y words₂ w₂ W.stands ∙ W.pending_is

    pub running_adding : T (clear r) → AddingAlong out d r words₂ w₂
    running_adding k =
        let l : length (pending_row words₂ out w₂) ≡ length t.directions = ap length pending_are ∙ pending_long in
        record {
          adding =
              record {
                part = record { settings = s; graph = t; evidence = evidence; part = W.stands.part };
                long = W.stands.part.edges ∙ sym l;
                waits =
                    subst (λ (n : ℕ). Waiting n (pending_row words₂ out w₂) (queue_row words₂ out)) (sym leaves_are)
                    (subst (λ (p : List Float). Waiting (leaves_in words) p (queue_row words₂ out)) (sym pending_are) (subst (Waiting (leaves_in words) x.pending) (sym W.queue_is) waiting));
                there = omega (arith, l, R.stands.part.edges);
                clear_sign = k;
              };
          room = row_room s t out evidence y words₂ w₂ W.stands;
        }

    -- ---- and what is pending was added
    module _ (words₃ : List ℕ) (w₃ : List Float) (A : AddedAlong out d r words₂ w₂ words₃ w₃) where
      abbrev P : PartWords s t out evidence words₂
      P = W.stands.part

      abbrev q : List ℕ
      q = region words₃ (queue_at words₂ out) (2 * leaves_in words₂)

      abbrev p : List Float
      p = pending_row words₂ out w₃

      abbrev others : List ℕ
      others = other_outgoing (direction_at t d).start_in_end (node_at t (direction_at t d).end).outgoing

      q-long : length q ≡ 2 * leaves_in words₂
      q-long = length-region words₃ (queue_at words₂ out) (2 * leaves_in words₂) (omega (arith, A.added.only.long, P.room))

      words_are : words₃ ≡ put words₂ (queue_at words₂ out) q
      words_are = A.added.only.is

      pub added-front : KeptFront out words₂ words₃
      added-front = subst (KeptFront out words₂) (sym words_are) (queue_front s t out evidence words₂ P q q-long)

      added : ResidualAdded t (leaves_in words₂) d r (pending_row words₂ out w₂) (queue_row words₂ out) p q
      added = A.added.is s t evidence P

      p-is : p ≡ add_pending r others (set x.pending d zeroᶠ)
      p-is = added.pending_is ∙ ap (λ (l : List Float). add_pending r others (set l d zeroᶠ)) pending_are

      p-long : length p ≡ length t.directions
      p-long = ap length p-is ∙ length-add_pending r others (set x.pending d zeroᶠ) ∙ length-set x.pending d zeroᶠ ∙ pending_long

      abbrev stands₃ : (v : Store) → v ≡ y → StandsFor s t out evidence v words₃ w₃
      stands₃ v f =
          let S = W.stands in
          let F = S.floats in
          record {
            part = subst (PartWords s t out evidence) (sym words_are) (queue_part s t out evidence words₂ P q q-long);
            r_in = S.r_in;
            r_new = S.r_new;
            r_log = S.r_log;
            r_build = S.r_build;
            pending = p;
            rest = S.rest;
            floats = record { in_long = F.in_long; new-long = F.new-long; log_long = F.log_long; build-long = F.build-long; pending_long = p-long; room = F.room; zeros = F.zeros };
            is =
                A.floats
                ∙ ap (λ (n : ℕ). put w₂ n p) (at-is s t out evidence y words₂ w₂ S)
                ∙ ap (λ (v : List Float). put v (4 * width t.directions) p) S.is
                ∙ pending_put t S.r_in S.r_new S.r_log S.r_build S.pending S.rest F p p-long;
            store = f ∙ S.store ∙ ap (store_of t S.r_in S.r_new S.r_log S.r_build) (sym (ap (λ (l : List ℕ). flags_row l out) words_are ∙ queue_flags s t out evidence words₂ P q q-long));
          }

      pub added-nodes : get_or words 0 0 ≡ get_or words₃ 0 0
      added-nodes = R.stands.part.nodes ∙ sym (stands₃ y refl).part.nodes

      holds₃ : Holds (leaves_in words₃) (encoded (push_priorities p others (set x.priorities d none))) (queue_row words₃ out)
      holds₃ =
          let l : length x.priorities ≡ length (pending_row words₂ out w₂) = R.queued ∙ sym (ap length pending_are ∙ pending_long) in
          let before : Holds (leaves_in words₂) (encoded x.priorities) (queue_row words₂ out) =
          subst (λ (n : ℕ). Holds n (encoded x.priorities) (queue_row words₂ out)) (sym leaves_are) (subst (Holds (leaves_in words) (encoded x.priorities)) (sym W.queue_is) R.holds) in
          let e : leaves_in words₃ ≡ leaves_in words₂ = ap leaves_for ((stands₃ y refl).part.edges ∙ sym P.edges) in
          subst (λ (n : ℕ). Holds n (encoded (push_priorities p others (set x.priorities d none))) (queue_row words₃ out)) (sym e)
          (subst (Holds (leaves_in words₂) (encoded (push_priorities p others (set x.priorities d none)))) (sym (ap (λ (v : List ℕ). queue_row v out) words_are ∙ queue_is s t out evidence words₂ P q q-long))
          (added.waits x.priorities l before))

      module _ (b : Highest) (at : b.direction ≡ d) (is-residual : r ≡ residual t x.store.msg_in x.store.msg_in_log d) (is-store : y ≡ (scheduled_step s t b x).store) where
        abbrev z : State
        z = scheduled_step s t b x

        z_pending : p ≡ z.pending
        z_pending = p-is ∙ step_pending s t b x d at r is-residual

        z_priorities : push_priorities p others (set x.priorities d none) ≡ z.priorities
        z_priorities = ap (λ (l : List Float). push_priorities l others (set x.priorities d none)) z_pending ∙ step_priorities s t b x d at r is-residual

        z_signs : (i : ℕ) → T (clear (get_or p i zeroᶠ))
        z_signs = signs_all p A.added.waits.clear_signs

        pub running_step : Runs s t out evidence (scheduled_step s t b x) words₃ w₃
        running_step =
            record {
              stands = stands₃ z.store (sym is-store);
              pending_is = z_pending;
              clear_signs = (λ i k. subst (λ (l : List Float). T (clear (get_or l i zeroᶠ))) z_pending (z_signs i));
              queued =
                  ap length (sym z_priorities) ∙ length_wait p others (set x.priorities d none) ∙ length-set x.priorities d none ∙ R.queued;
              amounts = (λ i.
                  subst (λ (l : List (Option Float)). IsAmount (get_or l i none)) z_priorities
                  (pushed_amounts r others (set x.pending d zeroᶠ) p (set x.priorities d none) p-is z_signs (none_amounts x.priorities d R.amounts) i));
              holds = subst (λ (l : List (Option Float)). Holds (leaves_in words₃) (encoded l) (queue_row words₃ out)) z_priorities holds₃;
            }

  -- ---- both: which nodes changed is the definition's too
  module _ (d : ℕ) (h : d < 2 * get_or words 1 0) (c : Changed) (changes : changed_of t c ≡ x.changed) (r : Float) (is-residual : r ≡ residual t x.store.msg_in x.store.msg_in_log d)
      (words₂ : List ℕ) (w₂ : List Float) (c' : Changed) (U : Updated s t out evidence (logged_store t (changed_of t c) x.store) d x.pending (queue_row words out) words₂ w₂ c')
      (words₃ : List ℕ) (w₃ : List Float) (A : AddedAlong out d r words₂ w₂ words₃ w₃) (b : Highest) (at : b.direction ≡ d) where
    pub running_all : Runs s t out evidence (scheduled_step s t b x) words₃ w₃ × (changed_of t c' ≡ (scheduled_step s t b x).changed)
    running_all = (
      running_step d h _ words₂ w₂ U.stands r words₃ w₃ A b at is-residual (step_store s t b x d at c changes),
      U.changed ∙ step_changed s t b x d at c changes,
    )
