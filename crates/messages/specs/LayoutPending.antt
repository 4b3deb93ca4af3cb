-- What is pending, and what waits, written for one direction of a list after the other.
use Rattle.std.specs.Prelude.{ℕ, zero, suc, ◌+◌, ◌-◌, ◌≤◌, ◌<◌, ◌≡◌, refl, Float, length, get_or, set}
use Rattle.std.proofs.Math.Decide.{ℕ_discrete}
use Rattle.std.proofs.Common.{arith, sym, ◌∙◌, get_or-set_same, get_or-set_other}
use Rattle.std.proofs.Math.Path.{ap}
use Rattle.std.proofs.Math.Logic.{by_cases}
use Rattle.std.proofs.Math.Option.{Option, some}
use mathlib.Core.List.{List, [], ◌∷◌, ◌++◌}
use Rattle.definition.specs.Floats.{◌⊕◌, zeroᶠ}
use Rattle.definition.specs.Run.{add_pending, push_priorities}
use Rattle.graph_laws.specs.MessageCounts.{length-add_pending}
use Rattle.messages.specs.LayoutLists.{get_d_any}
use Rattle.messages.specs.LayoutWords.{others_to, others-none, others_same, others-next}

-- ---- lists one after the other

pub add_pending_append : (r : Float) (os qs : List ℕ) (p : List Float) → add_pending r (os ++ qs) p ≡ add_pending r qs (add_pending r os p)
unfolding add_pending
add_pending_append r [] qs p = refl
add_pending_append r (o ∷ os) qs p = add_pending_append r os qs (set p o (get_or p o zeroᶠ ⊕ r))

pub push_priorities_append : (p : List Float) (os qs : List ℕ) (q : List (Option Float)) → push_priorities p (os ++ qs) q ≡ push_priorities p qs (push_priorities p os q)
unfolding push_priorities
push_priorities_append p [] qs q = refl
push_priorities_append p (o ∷ os) qs q = push_priorities_append p os qs (set q o (some (get_or p o zeroᶠ)))

-- one direction more
pub add_pending-one : (r : Float) (os : List ℕ) (o : ℕ) (p : List Float) → add_pending r (os ++ (o ∷ [])) p ≡ set (add_pending r os p) o (get_or (add_pending r os p) o zeroᶠ ⊕ r)
unfolding add_pending
add_pending-one r os o p = add_pending_append r os (o ∷ []) p

pub push_priorities-one : (p : List Float) (os : List ℕ) (o : ℕ) (q : List (Option Float)) → push_priorities p (os ++ (o ∷ [])) q ≡ set (push_priorities p os q) o (some (get_or p o zeroᶠ))
unfolding push_priorities
push_priorities-one p os o q = push_priorities_append p os (o ∷ []) q

-- ---- a loop over the words from f on that passes over d: w is what the words before k left
module _ (outs : List ℕ) (f d : ℕ) (before : f ≤ d) where
  pub pending_none : (r : Float) (p : List Float) → p ≡ add_pending r (others_to outs f d f) p
  unfolding add_pending
  pending_none r p = ap (λ (l : List ℕ). add_pending r l p) (sym (others-none outs f d before))

  pub priorities_none : (p : List Float) (q : List (Option Float)) → q ≡ push_priorities p (others_to outs f d f) q
  unfolding push_priorities
  priorities_none p q = ap (λ (l : List ℕ). push_priorities p l q) (sym (others-none outs f d before))

  -- at d nothing is done
  pub pending_pass : (r : Float) (p w : List Float) (k : ℕ) → k ≡ d → w ≡ add_pending r (others_to outs f d k) p → w ≡ add_pending r (others_to outs f d (k + 1)) p
  pending_pass r p w k e h = h ∙ ap (λ (l : List ℕ). add_pending r l p) (sym (others_same outs f d before k e))

  pub priorities_pass : (p : List Float) (q w : List (Option Float)) (k : ℕ) → k ≡ d → w ≡ push_priorities p (others_to outs f d k) q → w ≡ push_priorities p (others_to outs f d (k + 1)) q
  priorities_pass p q w k e h = h ∙ ap (λ (l : List ℕ). push_priorities p l q) (sym (others_same outs f d before k e))

  module _ (k : ℕ) (from : f ≤ k) (l : k < length outs) (other : k ≡ d → ⊥) where
    pub pending_step : (r : Float) (p w : List Float) (z : Float) → get_or outs k 0 < length p → w ≡ add_pending r (others_to outs f d k) p → set w (get_or outs k 0) (get_or w (get_or outs k 0) z ⊕ r) ≡ add_pending r (others_to outs f d (k + 1)) p
    pending_step r p w z h e =
        ap (λ (x : Float). set w (get_or outs k 0) (x ⊕ r)) (get_d_any w (get_or outs k 0) z zeroᶠ (omega (arith, ap length e, length-add_pending r (others_to outs f d k) p)))
        ∙ ap (λ (v : List Float). set v (get_or outs k 0) (get_or v (get_or outs k 0) zeroᶠ ⊕ r)) e
        ∙ sym (add_pending-one r (others_to outs f d k) (get_or outs k 0) p)
        ∙ ap (λ (l : List ℕ). add_pending r l p) (sym (others-next outs f d before k from l other))

    pub priorities_step : (p : List Float) (q w : List (Option Float)) (z : Float) → get_or outs k 0 < length p → w ≡ push_priorities p (others_to outs f d k) q → set w (get_or outs k 0) (some (get_or p (get_or outs k 0) z)) ≡ push_priorities p (others_to outs f d (k + 1)) q
    priorities_step p q w z h e =
        ap (λ (x : Float). set w (get_or outs k 0) (some x)) (get_d_any p (get_or outs k 0) z zeroᶠ h)
        ∙ ap (λ (v : List (Option Float)). set v (get_or outs k 0) (some (get_or p (get_or outs k 0) zeroᶠ))) e
        ∙ sym (push_priorities-one p (others_to outs f d k) (get_or outs k 0) q)
        ∙ ap (λ (l : List ℕ). push_priorities p l q) (sym (others-next outs f d before k from l other))

  -- ---- where no two of the words are the same, each gets the residual once, so that both may be done in one loop
  module _ (apart : (i j : ℕ) → i < length outs → j < length outs → get_or outs i 0 ≡ get_or outs j 0 → i ≡ j) (r : Float) (p : List Float) (k : ℕ) (from : f ≤ k) (l : k < length outs) (h : get_or outs k 0 < length p) where
    abbrev o : ℕ
    o = get_or outs k 0

    abbrev after : ℕ → List Float
    after n = add_pending r (others_to outs f d (f + n)) p

    step : (n : ℕ) → f + n < length outs → (f + n ≡ d → ⊥) → after (suc n) ≡ set (after n) (get_or outs (f + n) 0) (get_or (after n) (get_or outs (f + n) 0) zeroᶠ ⊕ r)
    step n b q =
        ap (λ (m : ℕ). add_pending r (others_to outs f d m) p) (let z : f + suc n ≡ f + n + 1 = omega arith in z)
        ∙ ap (λ (l : List ℕ). add_pending r l p) (others-next outs f d before (f + n) (omega arith) b q)
        ∙ add_pending-one r (others_to outs f d (f + n)) (get_or outs (f + n) 0) p

    stay : (n : ℕ) → f + n ≡ d → after (suc n) ≡ after n
    stay n q =
        ap (λ (m : ℕ). add_pending r (others_to outs f d m) p) (let z : f + suc n ≡ f + n + 1 = omega arith in z)
        ∙ ap (λ (l : List ℕ). add_pending r l p) (others_same outs f d before (f + n) q)

    -- a word that is not k's leaves it
    elsewhere : (n : ℕ) → f + n < length outs → (f + n ≡ k → ⊥) → get_or (after (suc n)) o zeroᶠ ≡ get_or (after n) o zeroᶠ
    elsewhere n b q =
        by_cases (ℕ_discrete (f + n) d) (λ (e : f + n ≡ d). ap (λ (w : List Float). get_or w o zeroᶠ) (stay n e))
        (λ e.
        ap (λ (w : List Float). get_or w o zeroᶠ) (step n b e)
        ∙ get_or-set_other (after n) (get_or outs (f + n) 0) o (get_or (after n) (get_or outs (f + n) 0) zeroᶠ ⊕ r) zeroᶠ (λ y. q (apart (f + n) k b l (sym y))))

    not_yet : (n : ℕ) → f + n ≤ k → get_or (after n) o zeroᶠ ≡ get_or p o zeroᶠ
    not_yet zero b =
        ap (λ (w : List Float). get_or w o zeroᶠ) (ap (λ (m : ℕ). add_pending r (others_to outs f d m) p) (let z : f + 0 ≡ f = omega arith in z) ∙ sym (pending_none r p))
    not_yet (suc n) b = elsewhere n (omega arith) (λ e. omega arith) ∙ not_yet n (omega arith)

    done : (k ≡ d → ⊥) → (n : ℕ) → f + n ≤ length outs → k < f + n → get_or (after n) o zeroᶠ ≡ get_or p o zeroᶠ ⊕ r
    done other zero b c = absurd (let z : ⊥ = omega arith in z)
    done other (suc n) b c =
        by_cases (ℕ_discrete (f + n) k)
        (λ (e : f + n ≡ k).
        ap (λ (w : List Float). get_or w o zeroᶠ) (step n (omega arith) (λ y. other (sym e ∙ y)))
        ∙ ap (λ (m : ℕ). get_or (set (after n) (get_or outs m 0) (get_or (after n) (get_or outs m 0) zeroᶠ ⊕ r)) o zeroᶠ) e
        ∙ get_or-set_same (after n) o (get_or (after n) o zeroᶠ ⊕ r) zeroᶠ (omega (arith, length-add_pending r (others_to outs f d (f + n)) p))
        ∙ ap (λ (x : Float). x ⊕ r) (not_yet n (omega arith)))
        (λ e. elsewhere n (omega arith) e ∙ done other n (omega arith) (omega arith))

    -- what is pending for word k's direction, from its turn on
    pub pending_at_lem : (k ≡ d → ⊥) → (m : ℕ) → k < m → m ≤ length outs → get_or (add_pending r (others_to outs f d m) p) (get_or outs k 0) zeroᶠ ≡ get_or p (get_or outs k 0) zeroᶠ ⊕ r
    pending_at_lem other m c b =
        let e : f + (m - f) ≡ m = omega arith in
        ap (λ (n : ℕ). get_or (add_pending r (others_to outs f d n) p) o zeroᶠ) (sym e) ∙ done other (m - f) (omega arith) (omega arith)

    -- and before it
    pub pending_before : (m : ℕ) → f ≤ m → m ≤ k → get_or (add_pending r (others_to outs f d m) p) (get_or outs k 0) zeroᶠ ≡ get_or p (get_or outs k 0) zeroᶠ
    pending_before m c b =
        let e : f + (m - f) ≡ m = omega arith in
        ap (λ (n : ℕ). get_or (add_pending r (others_to outs f d n) p) o zeroᶠ) (sym e) ∙ not_yet (m - f) (omega arith)
