-- What a variable sends, from the sums and logarithms that the source has at hand.
use Rattle.std.specs.Prelude.{◌≡◌, refl, Bool, List, map, ℕ, ◌/◌, ◌≤◌, ◌<◌, T, leb, pos, length, Float}
use Rattle.std.proofs.Math.Path.{sym, ap}
use Rattle.std.proofs.Common.{◌∙◌, subst, arith, leb→le, le→leb}
use Rattle.std.proofs.Math.Bool.{true, false}
use Rattle.std.proofs.Math.Dec.{not_T}
use Rattle.std.specs.Float.{fin}
use Rattle.std.specs.Float.Ieee.{le, of_int, neg}
use Rattle.std.specs.Float.Ieee.Bits.{is_true, is_false}
use Rattle.std.specs.Float.Ieee.Scale.{finite}
use Rattle.float_laws.specs.Interval.{in_finite, add-test, add_in, sub-test, sub_in}
use Rattle.definition.specs.Floats.{◌⊕◌, ◌⊖◌, zeroᶠ, ln}
use Rattle.definition.specs.Vectors.{Message, entry, sum_of, avoid_underflow_all, log_normalize, sum_logs_batched}
use Rattle.definition.specs.Directions.{message_at}
use Rattle.definition.specs.Messages.{out_message_log, out_message_variable}
use Rattle.definition.specs.Sweeps.{log_total, leave_one_out}
use Rattle.definition.specs.Answer.{log_marginal, marginal}
use Rattle.message_bounds.specs.Variable.{sum_logs_in}
use Rattle.array_utils.specs.Columns.{column, length-column}
use Rattle.messages.specs.Logarithms.{Wide, summed}

-- ---- whether there is more than one neighbour
single : (n : ℕ) → n ≤ 1 → leb n 1 ≡ true
single n h = is_true (leb n 1) (le→leb n 1 h)

several : (n : ℕ) → 1 < n → leb n 1 ≡ false
several n h = is_false (leb n 1) (not_T (leb n 1) (λ z. let l = leb→le n 1 z in omega arith))

-- ---- to one neighbour

pub out-finite : (s o p : Float) → Wide 10000 s → Wide 91 o → Wide 91 p → T (finite (s ⊖ o ⊕ p))
out-finite s o p i j k =
    in_finite (add_in (fin true 20000 (pos 0)) (fin false 20000 (pos 0)) (sub_in (fin true 15000 (pos 0)) (fin false 15000 (pos 0)) i j (unfold sub-test of_int neg in tt)) k (unfold add-test of_int neg in tt)) tt

-- the sum of a column of at most 1,024 entries
pub batched_wide : (pick : Float → Float → Float) (l : List Float) (s : Float) → length l / 2 ≤ 1024 → s ≡ sum_logs_batched (column pick l) → Wide 10000 s
batched_wide pick l s h e = subst (Wide 10000) (sym e) (sum_logs_in (column pick l) (omega (arith, length-column pick l)))

-- from the sums over all messages, the logarithms of the belief, and the receiver's own message
unfoldable pub out_from_sums : Message → Message → Message → Message
out_from_sums s p m = avoid_underflow_all (log_normalize (entry 0 s ⊖ ln (entry 0 m) ⊕ entry 0 p) (entry 1 s ⊖ ln (entry 1 m) ⊕ entry 1 p))

pub out-two : (s p m : Message) → length (out_from_sums s p m) ≡ 2
unfolding out_from_sums avoid_underflow_all log_normalize
out-two s p m = refl

pub out-from :
    (s p m n r : Message) (o q : Float) →
    o ≡ ln (entry 0 m) → q ≡ ln (entry 1 m) → n ≡ log_normalize (entry 0 s ⊖ o ⊕ entry 0 p) (entry 1 s ⊖ q ⊕ entry 1 p) → r ≡ avoid_underflow_all n → r ≡ out_from_sums s p m
unfolding out_from_sums
out-from s p m n r o q e f g h =
    h
    ∙ ap avoid_underflow_all
    (g
    ∙ ap (λ (z : Float). log_normalize (entry 0 s ⊖ z ⊕ entry 0 p) (entry 1 s ⊖ q ⊕ entry 1 p)) e
    ∙ ap (λ (z : Float). log_normalize (entry 0 s ⊖ ln (entry 0 m) ⊕ entry 0 p) (entry 1 s ⊖ z ⊕ entry 1 p)) f)

module _ (b : Message) (ms : List Message) where
  by_count : (i : ℕ) (t : Bool) → leb (length ms) 1 ≡ t → out_message_variable b ms i ≡ elim t as (λ (u : Bool). Message) [ true ↦ b | false ↦ avoid_underflow_all (log_normalize (out_message_log 0 b ms i) (out_message_log 1 b ms i)) ]
  unfolding out_message_variable
  by_count i t e = ap (λ (u : Bool). elim u as (λ (v : Bool). Message) [ true ↦ b | false ↦ avoid_underflow_all (log_normalize (out_message_log 0 b ms i) (out_message_log 1 b ms i)) ]) e

  pub out_single : (i : ℕ) → length ms ≤ 1 → b ≡ out_message_variable b ms i
  out_single i h = sym (by_count i true (single (length ms) h))

  -- with several neighbours: by the sums, and what the belief's logarithms are
  module _ (s p : Message) (h : 1 < length ms) (e : entry 0 s ≡ sum_logs_batched (map (entry 0) ms)) (f : entry 1 s ≡ sum_logs_batched (map (entry 1) ms)) (g : entry 0 p ≡ ln (entry 0 b)) (k : entry 1 p ≡ ln (entry 1 b)) where
    pub out-many : (i : ℕ) → out_from_sums s p (message_at i ms) ≡ out_message_variable b ms i
    unfolding out_from_sums out_message_log
    out-many i =
        two (ln (entry 0 (message_at i ms))) (ln (entry 1 (message_at i ms))) (entry 0 s) (entry 0 p) (entry 1 s) (entry 1 p) _ _ _ _ e g f k ∙ sym (by_count i false (several (length ms) h))
      where
        two :
            (x y s p t q s' p' t' q' : Float) →
            s ≡ s' → p ≡ p' → t ≡ t' → q ≡ q' → avoid_underflow_all (log_normalize (s ⊖ x ⊕ p) (t ⊖ y ⊕ q)) ≡ avoid_underflow_all (log_normalize (s' ⊖ x ⊕ p') (t' ⊖ y ⊕ q'))
        two x y s p t q s' p' t' q' a b c d = rw (a, b, c, d)

-- ---- the opening

pub less_finite : (p o : Float) → Wide 100000 p → Wide 91 o → T (finite (p ⊖ o))
less_finite p o i j = in_finite (sub_in (fin true 200000 (pos 0)) (fin false 200000 (pos 0)) i j (unfold sub-test of_int neg in tt)) tt

pub left_out :
    (p q o n : Float) (m r s : Message) →
    o ≡ ln (entry 0 m) → n ≡ ln (entry 1 m) → r ≡ log_normalize (p ⊖ o) (q ⊖ n) → s ≡ avoid_underflow_all r → s ≡ leave_one_out p q m
unfolding leave_one_out
left_out p q o n m r s e f g h = h ∙ ap avoid_underflow_all (g ∙ ap (λ (z : Float). log_normalize (p ⊖ z) (q ⊖ n)) e ∙ ap (λ (z : Float). log_normalize (p ⊖ ln (entry 0 m)) (q ⊖ z)) f)

pub total-is : (k : ℕ) (b : Message) (ms : List Message) (a s : Float) → a ≡ ln (entry k b) → s ≡ summed k a ms → s ≡ log_total k b ms
unfolding log_total
total-is k b ms a s e f = f ∙ ap (λ (z : Float). summed k z ms) e

pub left-two : (p q : Float) (m : Message) → length (leave_one_out p q m) ≡ 2
unfolding leave_one_out avoid_underflow_all log_normalize
left-two p q m = refl

-- ---- the belief at the end

pub belief_finite : (p s : Float) → Wide 91 p → Wide 100000 s → T (finite (p ⊕ s))
belief_finite p s i j = in_finite (add_in (fin true 200000 (pos 0)) (fin false 200000 (pos 0)) i j (unfold add-test neg of_int in tt)) tt

pub zero_wide : Wide 91 zeroᶠ
zero_wide = record { low = unfold le neg of_int in tt; high = unfold le of_int in tt }

pub marginal_log : (k : ℕ) (b : Message) (ms : List Message) (p s : Float) → p ≡ ln (entry k b) → s ≡ summed k zeroᶠ ms → p ⊕ s ≡ log_marginal k b ms
unfolding log_marginal sum_of
marginal_log k b ms p s e f = ap (λ (z : Float). z ⊕ s) e ∙ ap (λ (z : Float). ln (entry k b) ⊕ z) f

pub marginal-is : (b : Message) (ms : List Message) (x y : Float) (m : Message) → x ≡ log_marginal 0 b ms → y ≡ log_marginal 1 b ms → m ≡ log_normalize x y → m ≡ marginal b ms
unfolding marginal
marginal-is b ms x y m e f g = g ∙ ap (λ (z : Float). log_normalize z y) e ∙ ap (log_normalize (log_marginal 0 b ms)) f
