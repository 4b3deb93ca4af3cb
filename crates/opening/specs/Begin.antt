-- The beginning of the loop: the key with which each direction waits.
use Prim.Native.Nat.{ℕ, zero, suc, ◌+◌, ◌-◌, ◌≤◌, ◌<◌}
use native.Mathlib.Omega.{arith}
use Rattle.std.specs.Prelude.{◌≡◌, refl, Bool, true, false, cond, List, [], ◌∷◌, map, T, get_or}
use Rattle.std.proofs.Math.Path.{sym, ap}
use Rattle.std.proofs.Common.{◌∙◌, subst}
use Rattle.std.proofs.Math.Option.{Option, none, some}
use Rattle.std.specs.Float.Ieee.{Float, lt}
use Rattle.std.proofs.Math.ListN.{length, length-map}
use Rattle.definition.specs.Vectors.{Message}
use Rattle.definition.specs.Settings.{Settings}
use Rattle.definition.specs.Lists.{range}
use Rattle.definition.specs.Directions.{Direction, MessageGraph, direction_at, message_at}
use Rattle.definition.specs.Messages.{residual}
use Rattle.definition.specs.Sweeps.{Store}
use Rattle.definition.specs.Run.{initial_priority, begin_loop}
use Rattle.float_laws.specs.Rounded.{clear}
use Rattle.graph_laws.specs.DirectionNumbers.{get_d_mapped}
use Rattle.graph_laws.specs.Lists.{length_count}
use Rattle.graph_laws.specs.Invariant.{Holding}
use Rattle.graph_laws.specs.MessageLengths.{AsLong}
use Rattle.message_bounds.specs.Residuals.{residual_small}
use Rattle.priorities.specs.Keys.{encode_key, encoded, IsAmount}
use Rattle.list_laws.specs.Part.{region}
use Rattle.messages.specs.Layout.{cut}
use Rattle.messages.specs.LayoutLists.{get_d_range}
use Rattle.messages.specs.LayoutOffsets.{long_at, offset_at}
use Rattle.messages.specs.LayoutCut.{cut_at}
use Rattle.opening.specs.OpenRows.{MessageRow, offset-is, offset-long, offset-end-le}
use Rattle.messages.specs.Residual.{residual_of, residual-is}

-- ---- a residual has a clear sign

alone : ℕ → MessageGraph
alone n = record { nodes = []; directions = record { start = 0; end_in_start = 0; end = 0; start_in_end = 0; message_length = n } ∷ [] }

alone_holds : (n : ℕ) (m : Message) → length m ≡ n → Holding (AsLong (alone n)) (m ∷ [])
unfolding alone
alone_holds n m e zero h = e
alone_holds n m e (suc d) h = absurd (let z : ⊥ = omega arith in z)

pub residual-clear : (m o : Message) → length m ≡ length o → T (clear (residual_of m o))
unfolding alone
residual-clear m o e =
    subst (λ (x : Float). T (clear x)) (sym (residual-is (alone (length m)) (m ∷ []) (o ∷ []) 0 refl))
    (residual_small (alone (length m)) (m ∷ []) (o ∷ []) 0 (alone_holds (length m) m refl) (alone_holds (length m) o (sym e))).clear_sign

-- ---- its key

abbrev pub initial_key : Float → Message → Message → ℕ
initial_key tolerance m o = encode_key (initial_priority tolerance (residual_of m o))

pub key_waits : (tolerance r : Float) (k : ℕ) → lt tolerance r ≡ true → k ≡ encode_key (some r) → k ≡ encode_key (initial_priority tolerance r)
unfolding initial_priority
key_waits tolerance r k h e = e ∙ sym (ap (λ (b : Bool). encode_key (cond b (some r) none)) h)

pub key_none : (tolerance r : Float) → lt tolerance r ≡ false → 0 ≡ encode_key (initial_priority tolerance r)
unfolding initial_priority
key_none tolerance r h = sym (ap (λ (b : Bool). encode_key (cond b (some r) none)) h)

-- ---- what a key can hold
initial_amount : (tolerance r : Float) → IsAmount (some r) → IsAmount (initial_priority tolerance r)
unfolding initial_priority
initial_amount tolerance r h = go (lt tolerance r)
  where
    go : (b : Bool) → IsAmount (cond b (some r) none)
    go true = h
    go false = tt

all_amounts : (f : ℕ → Option Float) → ((i : ℕ) → IsAmount (f i)) → (ks : List ℕ) (d : ℕ) → IsAmount (get_or (map f ks) d none)
all_amounts f h [] d = tt
all_amounts f h (k ∷ ks) zero = h k
all_amounts f h (k ∷ ks) (suc d) = all_amounts f h ks d

-- ---- the keys of all directions are those of the definition's queue
module _ (s : Settings) (t : MessageGraph) (x : Store) where
  pub begin_long : length (encoded (begin_loop s t x).priorities) ≡ length t.directions
  unfolding begin_loop
  begin_long =
      length-map (begin_loop s t x).priorities encode_key
      ∙ length-map (range 0 (length t.directions)) (λ (d : ℕ). initial_priority s.tolerance (residual t x.msg_in x.msg_in_log d))
      ∙ length_count 0 (length t.directions)

  pub begin_at : (d : ℕ) → d < length t.directions → length (message_at d x.msg_in) ≡ (direction_at t d).message_length
      → initial_key s.tolerance (message_at d x.msg_in) (message_at d x.msg_in_log) ≡ get_or (encoded (begin_loop s t x).priorities) d 0
  unfolding begin_loop
  begin_at d h e =
      let f : ℕ → Option Float = λ i. initial_priority s.tolerance (residual t x.msg_in x.msg_in_log i) in
      let n : d < length (range 0 (length t.directions)) = omega (arith, length_count 0 (length t.directions)) in
      ap (λ (r : Float). encode_key (initial_priority s.tolerance r)) (residual-is t x.msg_in x.msg_in_log d e)
      ∙ ap (λ (i : ℕ). encode_key (f i)) (let z : d ≡ 0 + d = omega arith in z ∙ sym (get_d_range 0 (length t.directions) d h))
      ∙ ap encode_key (sym (get_d_mapped f (range 0 (length t.directions)) d 0 none n))
      ∙ sym (get_d_mapped encode_key (map f (range 0 (length t.directions))) d none 0 (omega (arith, length-map (range 0 (length t.directions)) f)))

  -- each waits with what a key can hold
  pub begin_amounts : Holding (AsLong t) x.msg_in → Holding (AsLong t) x.msg_in_log → (d : ℕ) → IsAmount (get_or (begin_loop s t x).priorities d none)
  unfolding begin_loop
  begin_amounts f g =
      all_amounts (λ i. initial_priority s.tolerance (residual t x.msg_in x.msg_in_log i))
      (λ i. let r = residual_small t x.msg_in x.msg_in_log i f g in initial_amount s.tolerance (residual t x.msg_in x.msg_in_log i) (r.holds, r.clear_sign)) (range 0 (length t.directions))

-- ---- the messages of a direction, by the offsets

module _ (ds : List Direction) (offsets : List ℕ) (messages : List Float) (R : MessageRow ds offsets messages) (d from to : ℕ) (h : d < length ds) (f : from ≡ get_or offsets d 0) (g : to ≡ get_or offsets (d + 1) 0) where
  long : to - from ≡ long_at ds d
  long = omega (arith, offset-long ds offsets messages R d h)

  pub message_is : (r : List Float) → region r from (to - from) ≡ message_at d (cut ds r)
  message_is r = ap (λ (n : ℕ). region r n (to - from)) (f ∙ offset-is ds offsets messages R d) ∙ ap (region r (offset_at ds d)) long ∙ sym (cut_at ds r d h)

  pub message_room : (from ≤ to) × (to ≤ length messages) × (1 < to - from)
  message_room =
      (omega (arith, offset-long ds offsets messages R d h), omega (arith, offset-end-le ds offsets messages R d h), omega (arith, long, R.wide d h))
