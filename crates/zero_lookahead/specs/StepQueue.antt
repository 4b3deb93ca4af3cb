-- The queue in a part's words: what the functions that change it ask, and that they write it alone.
use Rattle.std.specs.Prelude.{ℕ, ◌+◌, ◌-◌, ◌*◌, ◌≤◌, ◌<◌, ◌≡◌, refl, List, ◌++◌, Float, length, get_or, take, drop}
use Rattle.std.proofs.Common.{arith, sym, ap, ◌∙◌, subst, inl}
use Rattle.std.proofs.Math.Option.{Option}
use Rattle.list_laws.specs.Part.{region, length-region, get_d_region}
use Rattle.list_laws.specs.Put.{put, put-part, length-put, put-below, put_again, put-region, region-all, region-out}
use Rattle.messages.specs.DirectionsRead.{part-is}
use Rattle.steps.specs.StepPending.{Waiting, OneKept, Others, waiting_words}

-- a queue with its leaves in the words from `queue` on
pub record WaitingAt (queue leaves : ℕ) (pending : List Float) (words : List ℕ) : Type 0 where
  pub room : queue + 2 * leaves ≤ length words
  pub waits : Waiting leaves pending (region words queue (2 * leaves))

-- of the words only the n from `at` on were written
pub record OnlyAt (at n : ℕ) (before after : List ℕ) : Type 0 where
  pub long : length after ≡ length before
  pub is : after ≡ put before at (region after at n)

-- the directions by which a node sends, n in all, stand from `outs` on, in front of the queue
pub record OthersAt (words : List ℕ) (outs queue from to d n : ℕ) : Type 0 where
  pub others : Others (region words outs n) from to d n
  pub front : outs + n ≤ queue

module _ (at n : ℕ) (a : List ℕ) (room : at + n ≤ length a) where
  pub only_none : OnlyAt at n a a
  only_none = record { long = refl; is = put-region 0 a at n room }

  pub only_below : (b : List ℕ) → OnlyAt at n a b → (j : ℕ) → j < at → get_or b j 0 ≡ get_or a j 0
  only_below b O j h = ap (λ (l : List ℕ). get_or l j 0) O.is ∙ put-below a at (region b at n) 0 j (omega arith) h

  pub only_row : (b : List ℕ) → OnlyAt at n a b → (x m : ℕ) → x + m ≤ at → region b x m ≡ region a x m
  only_row b O x m h =
      let l : length (region b at n) ≡ n = length-region b at n (omega (arith, O.long)) in
      ap (λ (v : List ℕ). region v x m) O.is ∙ region-out 0 a at (region b at n) x m (omega arith) (omega arith) (inl h)

  pub only_next : (b c : List ℕ) → OnlyAt at n a b → OnlyAt at n b c → OnlyAt at n a c
  only_next b c O P =
      let k : length (region b at n) ≡ n = length-region b at n (omega (arith, O.long)) in
      let l : length (region c at n) ≡ n = length-region c at n (omega (arith, O.long, P.long)) in
      record {
        long = P.long ∙ O.long;
        is = P.is ∙ ap (λ (v : List ℕ). put v at (region c at n)) O.is ∙ put_again 0 a at (region b at n) (region c at n) (omega arith) (l ∙ sym k);
      }

-- ---- the queue lent, and one direction of it changed

module _ (queue leaves : ℕ) (p : List Float) (words : List ℕ) (W : WaitingAt queue leaves p words) where
  -- as it is lent
  pub lent-waits : Waiting leaves p (take (queue + 2 * leaves - queue) (drop queue words))
  lent-waits = subst (Waiting leaves p) (sym (part-is words queue (2 * leaves))) W.waits

  module _ (p' : List Float) (q : List ℕ) (W' : Waiting leaves p' q) where
    abbrev after : List ℕ
    after = take queue words ++ (q ++ drop (queue + 2 * leaves - queue) (drop queue words))

    abbrev n : ℕ
    n = 2 * leaves

    q-long : length q ≡ n
    q-long = sym (waiting_words leaves p p' (region words queue n) q W.waits W') ∙ length-region words queue n W.room

    after_is : after ≡ put words queue q
    after_is = ap (λ (i : ℕ). take queue words ++ (q ++ drop i (drop queue words))) (let z : queue + 2 * leaves - queue ≡ n = omega arith in z) ∙ put-part words q queue n q-long

    row_is : region (put words queue q) queue n ≡ q
    row_is = ap (λ (i : ℕ). region (put words queue q) queue i) (sym q-long) ∙ region-all 0 words queue q (omega (arith, q-long, W.room))

    pub lent-long : length (take queue words ++ (q ++ drop (queue + 2 * leaves - queue) (drop queue words))) ≡ length words
    lent-long = ap length after_is ∙ length-put words queue q (omega (arith, q-long, W.room))

    pub lent_row : region (take queue words ++ (q ++ drop (queue + 2 * leaves - queue) (drop queue words))) queue (2 * leaves) ≡ q
    lent_row = ap (λ (l : List ℕ). region l queue n) after_is ∙ row_is

    pub lent-after : WaitingAt queue leaves p' (take queue words ++ (q ++ drop (queue + 2 * leaves - queue) (drop queue words)))
    lent-after = record { room = omega (arith, lent-long, W.room); waits = subst (Waiting leaves p') (sym lent_row) W' }

    pub lent-only : OnlyAt queue (2 * leaves) words (take queue words ++ (q ++ drop (queue + 2 * leaves - queue) (drop queue words)))
    lent-only = record { long = lent-long; is = after_is ∙ ap (put words queue) (sym lent_row) }

    pub lent-kept : (m d : ℕ) (o : Option Float) → OneKept leaves m d o (take (queue + 2 * leaves - queue) (drop queue words)) q
        → OneKept leaves m d o (region words queue (2 * leaves)) (region (take queue words ++ (q ++ drop (queue + 2 * leaves - queue) (drop queue words))) queue (2 * leaves))
    lent-kept m d o K =
        subst (OneKept leaves m d o (region words queue (2 * leaves))) (sym lent_row)
        (subst (λ (l : List ℕ). OneKept leaves m d o l q) (part-is words queue (2 * leaves)) K)

-- a direction's word is read where the queue was written only
module _ (queue leaves : ℕ) (words : List ℕ) (room : queue + 2 * leaves ≤ length words) (outs from to d n : ℕ) (O : OthersAt words outs queue from to d n) (w : List ℕ) (K : OnlyAt queue (2 * leaves) words w) (k : ℕ) (h : k < to) where
  pub other_read : (o : ℕ) → o ≡ get_or w (outs + k) 0 → o ≡ get_or (region words outs n) k 0
  other_read o e =
      let l : k < n = omega (arith, O.others.within) in
      e ∙ only_below queue (2 * leaves) words room w K (outs + k) (omega (arith, O.front)) ∙ sym (get_d_region words outs n k 0 l)
