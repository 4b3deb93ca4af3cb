-- The beginning of the loop: the leaves of the queue written and the tournament filled, the part is as it was, and its floats and queue stand for the definition's state.
use Rattle.std.specs.Prelude.{ℕ, zero, suc, ◌+◌, ◌*◌, ◌≤◌, ◌<◌, ◌≡◌, refl, T, Float, get_or, take, drop, replicate}
use Rattle.std.proofs.Math.Decide.{dec_lt}
use Rattle.std.proofs.Common.{arith, ◌∙◌, subst}
use Rattle.std.proofs.Math.Path.{sym, ap}
use Rattle.std.proofs.Math.Logic.{by_cases}
use mathlib.Core.List.{List, [], ◌∷◌, ◌++◌, map}
use Rattle.std.proofs.Math.ListN.{length, get_or-eq_default}
use Rattle.std.proofs.lemmas.List.{length-map, length-replicate}
use Rattle.definition.specs.Floats.{zeroᶠ}
use Rattle.definition.specs.Vectors.{Message}
use Rattle.definition.specs.Settings.{Settings}
use Rattle.definition.specs.Directions.{Direction, MessageGraph, message_at}
use Rattle.definition.specs.Sweeps.{Store}
use Rattle.definition.specs.Run.{begin_loop}
use Rattle.float_laws.specs.Rounded.{clear}
use Rattle.list_laws.specs.Part.{region, length-region, get_d_region}
use Rattle.list_laws.specs.Put.{put, put_is, put_in, put-below, put-above, put-part, length-put}
use Rattle.list_laws.specs.Write.{write, length-write, write_in, write-below, write-above}
use Rattle.priorities.specs.Leaves.{leaves-some, leaves-enough}
use Rattle.priorities.specs.Keys.{encode_key, encoded}
use Rattle.priorities.specs.Tournament.{tournament, Holds, holds_filled}
use Rattle.messages.specs.Layout.{width}
use Rattle.messages.specs.LayoutCut.{cut-long}
use Rattle.messages.specs.State.{store_of, part_floats, FloatRows}
use Rattle.opening.specs.Begin.{begin_long, begin_amounts}
use Rattle.steps.specs.StepFloats.{pending_put}
use Rattle.zero_lookahead.specs.Part.{rows_end, flags_row, leaves_in, queue_at, queue_row, PartWords, StandsFor, Runs, KeptFront}
use Rattle.zero_lookahead.specs.PartKept.{region-same, part-kept, nodes-kept, edges-kept, leaves_kept, queue_part, queue_front, queue_flags, queue_is}
use Rattle.zero_lookahead.specs.PartOffsets.{width_is}
use Rattle.zero_lookahead.specs.Open.{pending_cleared}
use Rattle.zero_lookahead.specs.BeginKeys.{leaf_key, in_is, log_is}

all-zero : (ds : List Direction) → replicate (length ds) zeroᶠ ≡ map (λ (d : Direction). zeroᶠ) ds
all-zero [] = refl
all-zero (d ∷ ds) = ap (λ (l : List Float). zeroᶠ ∷ l) (all-zero ds)

zero_clear : (ds : List Direction) (d : ℕ) → T (clear (get_or (map (λ (e : Direction). zeroᶠ) ds) d zeroᶠ))
zero_clear [] d = tt
zero_clear (e ∷ ds) zero = tt
zero_clear (e ∷ ds) (suc d) = zero_clear ds d

module _ {s : Settings} {t : MessageGraph} {out : ℕ} {evidence : List Float} {x : Store} {words : List ℕ} {w : List Float} (S : StandsFor s t out evidence x words w) where
  abbrev P : PartWords s t out evidence words
  P = S.part

  -- words that are the same up to the queue stand for the same store
  module _ (words' : List ℕ) (long : length words' ≡ length words) (same : (i : ℕ) → i < queue_at words out → get_or words' i 0 ≡ get_or words i 0) where
    rows : (i : ℕ) → i < rows_end words out → get_or words' i 0 ≡ get_or words i 0
    rows i h = same i (omega arith)

    flags_kept : flags_row words' out ≡ flags_row words out
    flags_kept =
        ap (λ (n : ℕ). region words' (out + (6 * n + 1)) (get_or words' 0 0)) (edges-kept s t out evidence words P words' long rows)
        ∙ ap (region words' (rows_end words out)) (nodes-kept s t out evidence words P words' long rows)
        ∙ region-same 0 words words' (queue_at words out) long same (rows_end words out) (get_or words 0 0) (omega arith) (omega (arith, P.room))

    stands_kept : StandsFor s t out evidence x words' w
    stands_kept =
        record {
          part = part-kept s t out evidence words P words' long rows;
          r_in = S.r_in;
          r_new = S.r_new;
          r_log = S.r_log;
          r_build = S.r_build;
          pending = S.pending;
          rest = S.rest;
          floats = S.floats;
          is = S.is;
          store = S.store ∙ ap (store_of t S.r_in S.r_new S.r_log S.r_build) (sym flags_kept);
        }

  -- while the leaves are written
  pub written_stands : (words' : List ℕ) (at d : ℕ) (f : ℕ → ℕ) → at ≡ queue_at words out + leaves_in words → words' ≡ write words at d f → StandsFor s t out evidence x words' w
  written_stands words' at d f e g =
      stands_kept words' (ap length g ∙ length-write words at d f) (λ i h. ap (λ (l : List ℕ). get_or l i 0) g ∙ write-below words at d i f 0 (omega arith))

  -- ---- nothing is pending

  abbrev nothing : List Float
  nothing = replicate (length t.directions) zeroᶠ

  cleared-is : pending_cleared words out 0 w ≡ part_floats S.r_in S.r_new S.r_log S.r_build nothing S.rest
  cleared-is =
      let d = length t.directions in
      ap (λ (l : ℕ). put w (4 * l) (replicate (2 * get_or words 1 0 + 0) zeroᶠ)) (width_is P)
      ∙ ap (λ (k : ℕ). put w (4 * width t.directions) (replicate k zeroᶠ)) (let z : 2 * get_or words 1 0 + 0 ≡ d = omega (arith, P.edges) in z)
      ∙ ap (λ (v : List Float). put v (4 * width t.directions) nothing) S.is
      ∙ pending_put t S.r_in S.r_new S.r_log S.r_build S.pending S.rest S.floats nothing (length-replicate d zeroᶠ)

  cleared_floats : FloatRows t S.r_in S.r_new S.r_log S.r_build nothing S.rest
  cleared_floats =
      let F = S.floats in
      record { in_long = F.in_long; new-long = F.new-long; log_long = F.log_long; build-long = F.build-long; pending_long = length-replicate (length t.directions) zeroᶠ; room = F.room; zeros = F.zeros }

  pub none_pending : (w' : List Float) → w' ≡ pending_cleared words out 0 w → StandsFor s t out evidence x words w'
  none_pending w' e =
      record {
        part = P;
        r_in = S.r_in;
        r_new = S.r_new;
        r_log = S.r_log;
        r_build = S.r_build;
        pending = nothing;
        rest = S.rest;
        floats = cleared_floats;
        is = e ∙ cleared-is;
        store = S.store;
      }

  -- the tournament filled over the leaves, as the code has it
  module _ (leaves at n : ℕ) (el : leaves ≡ leaves_in words) (ea : at ≡ queue_at words out) (en : n ≡ 2 * leaves) (words₁ q : List ℕ) (written : words₁ ≡ write words (at + leaves) leaves (leaf_key s t x)) (long-queue : length q ≡ length (region words₁ at n)) (filled : q ≡ tournament leaves (drop leaves (region words₁ at n))) where
    abbrev keys : List ℕ
    keys = encoded (begin_loop s t x).priorities

    room : at + 2 * leaves ≤ length words
    room = omega (arith, P.room)

    same-long : length words₁ ≡ length words
    same-long = ap length written ∙ length-write words (at + leaves) leaves (leaf_key s t x)

    queue_room : length (region words₁ at n) ≡ 2 * leaves
    queue_room = length-region words₁ at n (omega (arith, room, same-long)) ∙ en

    few : length keys ≤ leaves
    few = omega (arith, begin_long s t x, P.edges, leaves-enough (2 * get_or words 1 0))

    leaf : (i : ℕ) → get_or (region words₁ at n) (leaves + i) 0 ≡ get_or keys i 0
    leaf i =
        by_cases (dec_lt i leaves)
        (λ (h : i < leaves).
        get_d_region words₁ at n (leaves + i) 0 (omega arith)
        ∙ ap (λ (l : List ℕ). get_or l (at + (leaves + i)) 0) written
        ∙ ap (λ (k : ℕ). get_or (write words (at + leaves) leaves (leaf_key s t x)) k 0) (let z : at + (leaves + i) ≡ at + leaves + i = omega arith in z)
        ∙ write_in words (at + leaves) leaves i (leaf_key s t x) 0 h (omega (arith, room)))
        (λ h.
        get_or-eq_default (region words₁ at n) 0 (let z : length (region words₁ at n) ≤ leaves + i = omega (arith, queue_room) in z)
        ∙ sym (get_or-eq_default keys 0 (let z : length keys ≤ i = omega (arith, few) in z)))

    holds : Holds leaves keys q
    holds = holds_filled leaves keys (region words₁ at n) q (omega (arith, leaves-some (2 * get_or words 1 0))) few queue_room leaf filled

    whole : take at words₁ ++ (q ++ drop n (drop at words₁)) ≡ put words at q
    whole =
        let k : length q ≡ 2 * leaves = long-queue ∙ queue_room in
        let m : length (put words₁ at q) ≡ length words₁ = length-put words₁ at q (omega (arith, room, same-long)) in
        put-part words₁ q at n (k ∙ sym en)
        ∙ put_is 0 (put words₁ at q) words at q (omega (arith, room)) (m ∙ same-long)
        (λ i h. put_in words₁ at q 0 i (omega (arith, room, same-long)) h)
        (λ j h. put-below words₁ at q 0 j (omega (arith, room, same-long)) h ∙ ap (λ (l : List ℕ). get_or l j 0) written ∙ write-below words (at + leaves) leaves j (leaf_key s t x) 0 (omega arith))
        (λ j h. put-above words₁ at q 0 j (omega (arith, room, same-long)) h ∙ ap (λ (l : List ℕ). get_or l j 0) written ∙ write-above words (at + leaves) leaves j (leaf_key s t x) 0 (omega arith))

    long-q : length q ≡ 2 * leaves_in words
    long-q = long-queue ∙ queue_room ∙ ap (λ (k : ℕ). 2 * k) el

    pub begun-words : take at words₁ ++ (q ++ drop n (drop at words₁)) ≡ put words (queue_at words out) q
    begun-words = whole ∙ ap (λ (k : ℕ). put words k q) ea

    pub begun-front : KeptFront out words (put words (queue_at words out) q)
    begun-front = queue_front s t out evidence words P q long-q

    -- the queue of the words as they are now
    begun_holds : Holds (leaves_in (put words (queue_at words out) q)) keys (queue_row (put words (queue_at words out) q) out)
    begun_holds =
        let b = put words (queue_at words out) q in
        let i : length b ≡ length words = length-put words (queue_at words out) q (omega (arith, P.room, long-q)) in
        let j : leaves_in b ≡ leaves = leaves_kept s t out evidence words P b i (λ k h. put-below words (queue_at words out) q 0 k (omega (arith, P.room)) (omega arith)) ∙ sym el in
        subst (λ (k : ℕ). Holds k keys (queue_row b out)) (sym j) (subst (Holds leaves keys) (sym (queue_is s t out evidence words P q long-q)) holds)

    pub begun : (w' : List Float) → w' ≡ pending_cleared words out 0 w → Runs s t out evidence (begin_loop s t x) (put words (queue_at words out) q) w'
    unfolding begin_loop
    begun w' e =
        record {
          stands =
              record {
                part = queue_part s t out evidence words P q long-q;
                r_in = S.r_in;
                r_new = S.r_new;
                r_log = S.r_log;
                r_build = S.r_build;
                pending = nothing;
                rest = S.rest;
                floats = cleared_floats;
                is = e ∙ cleared-is;
                store = S.store ∙ ap (store_of t S.r_in S.r_new S.r_log S.r_build) (sym (queue_flags s t out evidence words P q long-q));
              };
          pending_is = all-zero t.directions;
          clear_signs = (λ d h. zero_clear t.directions d);
          queued = sym (length-map (begin_loop s t x).priorities encode_key) ∙ begin_long s t x;
          amounts =
              begin_amounts s t x
              (λ d h. ap (λ (ms : List Message). length (message_at d ms)) (in_is S) ∙ cut-long t.directions S.r_in d S.floats.in_long h)
              (λ d h. ap (λ (ms : List Message). length (message_at d ms)) (log_is S) ∙ cut-long t.directions S.r_log d S.floats.log_long h);
          holds = begun_holds;
        }
