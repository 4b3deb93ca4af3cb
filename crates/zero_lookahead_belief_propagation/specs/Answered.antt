-- What parts yield, written over the fronts of the four answer slices, one part after the other.
use Rattle.std.specs.Prelude.{ℕ, suc, ◌+◌, ◌-◌, ◌*◌, ◌≤◌, ◌<◌, ◌≡◌, Float, length, get_or, drop}
use Rattle.std.proofs.Common.{arith, zero-add, add-one, sym, ◌∙◌, subst, length-append, length-drop, take-append-drop, drop_of_length-le, take_all, drop-drop}
use Rattle.std.proofs.Math.Path.{refl, ap}
use mathlib.Core.List.{List, [], ◌∷◌, ◌++◌, append_assoc, append-nil, map-append}
use Rattle.std.proofs.Math.ListN.{take}
use Rattle.std.proofs.Math.Seq.{take-suc, length-take-le, take-append_seam, drop-append_seam}
use Rattle.definition.specs.Settings.{Settings}
use Rattle.definition.specs.FactorGraph.{Bale, Node}
use Rattle.definition.specs.Components.{components_of}
use Rattle.definition.specs.Answer.{PartAnswer, answers_of, answers_from, answer, ending_number, ending_residual, answered_beliefs, belief_numbers, belief_floats, ending_numbers, ending_floats}
use Rattle.definition.specs.Call.{overwrite}
use Rattle.graph_laws.specs.Lists.{concat-map_append, All, All-left}
use Rattle.graph_laws.specs.AnswerSizes.{TwoFloats, AnswerSizes, numbers-length, floats_append, floats_length, endings_length, residuals_length}
use Rattle.graph_laws.specs.Overwriting.{over-length}
use Rattle.graph_laws.specs.ReadBack.{numbers_append}

-- ---- a slice from an index on, as it is lent, and what is left in the whole

module _ {A : Type 0} where
  abbrev pub tail_of : List A → ℕ → List A
  tail_of l k = take (length l - k) (drop k l)

  abbrev pub back_of : List A → ℕ → List A → List A
  back_of l k x = take k l ++ (x ++ drop (length l - k) (drop k l))

  pub tail_is : (l : List A) (k : ℕ) → tail_of l k ≡ drop k l
  tail_is l k = take_all (length l - k) (drop k l) (omega (arith, length-drop k l))

  pub back_is : (l : List A) (k : ℕ) (x : List A) → back_of l k x ≡ take k l ++ x
  back_is l k x =
      ap (λ (r : List A). take k l ++ (x ++ r)) (drop_of_length-le (drop k l) {i = length l - k} (omega (arith, length-drop k l)))
      ∙ ap (λ (r : List A). take k l ++ r) (append-nil x)

  pub back_long : (l : List A) (k : ℕ) (x : List A) → k ≤ length l → length x ≡ length (tail_of l k) → length (back_of l k x) ≡ length l
  back_long l k x h e =
      ap length (back_is l k x) ∙ length-append (take k l) x ∙ omega (arith, length-take-le k l h, e, ap length (tail_is l k), length-drop k l)

-- ---- the four slices

pub record Answers : Type 0 where
  pub belief_numbers : List ℕ
  pub belief_floats : List Float
  pub ending_numbers : List ℕ
  pub ending_floats : List Float

abbrev pub answers_with : List ℕ → List Float → List ℕ → List Float → Answers
answers_with bn bf en ef = record { belief_numbers = bn; belief_floats = bf; ending_numbers = en; ending_floats = ef }

-- written over their fronts
abbrev pub written : List PartAnswer → Answers → Answers
written qs l =
    answers_with (overwrite (belief_numbers (answered_beliefs qs)) l.belief_numbers) (overwrite (belief_floats (answered_beliefs qs)) l.belief_floats)
    (overwrite (ending_numbers qs) l.ending_numbers) (overwrite (ending_floats qs) l.ending_floats)

-- the slices from where the next part goes, behind so many beliefs and endings
abbrev pub behind : ℕ → ℕ → Answers → Answers
behind m k l = answers_with (tail_of l.belief_numbers m) (tail_of l.belief_floats (2 * m)) (tail_of l.ending_numbers (4 * k)) (tail_of l.ending_floats k)

-- and what they are in the whole
abbrev pub joined : ℕ → ℕ → Answers → Answers → Answers
joined m k l x =
    answers_with (back_of l.belief_numbers m x.belief_numbers) (back_of l.belief_floats (2 * m) x.belief_floats)
    (back_of l.ending_numbers (4 * k) x.ending_numbers) (back_of l.ending_floats k x.ending_floats)

-- there is room for what qs are
pub record Fits (qs : List PartAnswer) (l : Answers) : Type 0 where
  pub belief_numbers : length (answered_beliefs qs) ≤ length l.belief_numbers
  pub belief_floats : 2 * length (answered_beliefs qs) ≤ length l.belief_floats
  pub ending_numbers : 4 * length qs ≤ length l.ending_numbers
  pub ending_floats : length qs ≤ length l.ending_floats

pub record Written (qs : List PartAnswer) (l : Answers) (beliefs endings : ℕ) (l' : Answers) : Type 0 where
  pub beliefs_are : beliefs ≡ length (answered_beliefs qs)
  pub endings_are : endings ≡ length qs
  pub is : l' ≡ written qs l

pub written_none : (l : Answers) → Written [] l 0 0 l
unfolding answered_beliefs belief_numbers belief_floats ending_numbers ending_floats
written_none l = record { beliefs_are = refl; endings_are = refl; is = refl }

-- ---- lists behind one another

answered_append : (qs rs : List PartAnswer) → answered_beliefs (qs ++ rs) ≡ answered_beliefs qs ++ answered_beliefs rs
unfolding answered_beliefs
answered_append = concat-map_append (λ (q : PartAnswer). q.beliefs)

endings_append : (qs rs : List PartAnswer) → ending_numbers (qs ++ rs) ≡ ending_numbers qs ++ ending_numbers rs
unfolding ending_numbers
endings_append = concat-map_append (λ (q : PartAnswer). q.number ∷ ending_number q.ending ∷ q.steps ∷ length q.beliefs ∷ [])

residuals_append : (qs rs : List PartAnswer) → ending_floats (qs ++ rs) ≡ ending_floats qs ++ ending_floats rs
unfolding ending_floats
residuals_append qs rs = map-append (λ (q : PartAnswer). ending_residual q.ending) qs rs

-- a list written over the front, and another behind it
overwrite_join : {A : Type 0} (xs ys m l : List A) (k : ℕ) → k ≡ length xs → l ≡ overwrite xs m → back_of l k (overwrite ys (tail_of l k)) ≡ overwrite (xs ++ ys) m
overwrite_join xs ys m l k e q =
    back_is l k (overwrite ys (tail_of l k))
    ∙ ap (λ (n : List _). take k l ++ overwrite ys n) (tail_is l k)
    ∙ rw (e, q, take-append_seam, drop-append_seam)
    (ap (λ (n : List _). xs ++ (ys ++ n)) (drop-drop (length ys) (length xs) m ∙ ap (λ (n : ℕ). drop n m) (sym (length-append xs ys)))
    ∙ sym (append_assoc xs ys (drop (length (xs ++ ys)) m)))

-- ---- the next part behind those before

module _ (qs rs : List PartAnswer) (two : All TwoFloats (answered_beliefs qs)) (l l₁ : Answers) (m k : ℕ) (W : Written qs l m k l₁) where
  bf_long : 2 * m ≡ length (belief_floats (answered_beliefs qs))
  bf_long = omega (arith, W.beliefs_are, floats_length (answered_beliefs qs) two)

  bn_long : m ≡ length (belief_numbers (answered_beliefs qs))
  bn_long = omega (arith, W.beliefs_are, numbers-length (answered_beliefs qs))

  en_long : 4 * k ≡ length (ending_numbers qs)
  en_long = omega (arith, W.endings_are, endings_length qs)

  ef_long : k ≡ length (ending_floats qs)
  ef_long = omega (arith, W.endings_are, residuals_length qs)

  pub written-more : (m₁ k₁ : ℕ) (x : Answers) → Written rs (behind m k l₁) m₁ k₁ x → Written (qs ++ rs) l (m + m₁) (k + k₁) (joined m k l₁ x)
  written-more m₁ k₁ x X =
      record {
        beliefs_are = omega (arith, W.beliefs_are, X.beliefs_are, ap length (answered_append qs rs), length-append (answered_beliefs qs) (answered_beliefs rs));
        endings_are = omega (arith, W.endings_are, X.endings_are, length-append qs rs);
        is = ap (joined m k l₁) X.is ∙ λ i. answers_with (bn i) (bf i) (en i) (ef i);
      }
    where
      bn : back_of l₁.belief_numbers m (overwrite (belief_numbers (answered_beliefs rs)) (tail_of l₁.belief_numbers m)) ≡ overwrite (belief_numbers (answered_beliefs (qs ++ rs))) l.belief_numbers
      bn =
          overwrite_join (belief_numbers (answered_beliefs qs)) (belief_numbers (answered_beliefs rs)) l.belief_numbers l₁.belief_numbers m bn_long (ap (λ (y : Answers). y.belief_numbers) W.is)
          ∙ ap (λ (y : List ℕ). overwrite y l.belief_numbers) (sym (ap belief_numbers (answered_append qs rs) ∙ numbers_append (answered_beliefs qs) (answered_beliefs rs)))

      bf : back_of l₁.belief_floats (2 * m) (overwrite (belief_floats (answered_beliefs rs)) (tail_of l₁.belief_floats (2 * m))) ≡ overwrite (belief_floats (answered_beliefs (qs ++ rs))) l.belief_floats
      bf =
          overwrite_join (belief_floats (answered_beliefs qs)) (belief_floats (answered_beliefs rs)) l.belief_floats l₁.belief_floats (2 * m) bf_long (ap (λ (y : Answers). y.belief_floats) W.is)
          ∙ ap (λ (y : List Float). overwrite y l.belief_floats) (sym (ap belief_floats (answered_append qs rs) ∙ floats_append (answered_beliefs qs) (answered_beliefs rs)))

      en : back_of l₁.ending_numbers (4 * k) (overwrite (ending_numbers rs) (tail_of l₁.ending_numbers (4 * k))) ≡ overwrite (ending_numbers (qs ++ rs)) l.ending_numbers
      en =
          overwrite_join (ending_numbers qs) (ending_numbers rs) l.ending_numbers l₁.ending_numbers (4 * k) en_long (ap (λ (y : Answers). y.ending_numbers) W.is)
          ∙ ap (λ (y : List ℕ). overwrite y l.ending_numbers) (sym (endings_append qs rs))

      ef : back_of l₁.ending_floats k (overwrite (ending_floats rs) (tail_of l₁.ending_floats k)) ≡ overwrite (ending_floats (qs ++ rs)) l.ending_floats
      ef =
          overwrite_join (ending_floats qs) (ending_floats rs) l.ending_floats l₁.ending_floats k ef_long (ap (λ (y : Answers). y.ending_floats) W.is)
          ∙ ap (λ (y : List Float). overwrite y l.ending_floats) (sym (residuals_append qs rs))

  -- and there is room for it
  pub fits-behind : Fits (qs ++ rs) l → Fits rs (behind m k l₁)
  fits-behind F =
      let g = length-append qs rs in
      record {
        belief_numbers = omega (arith, bn, ap length (tail_is l₁.belief_numbers m), length-drop m l₁.belief_numbers, F.belief_numbers, a, W.beliefs_are);
        belief_floats = omega (arith, bf, ap length (tail_is l₁.belief_floats (2 * m)), length-drop (2 * m) l₁.belief_floats, F.belief_floats, a, W.beliefs_are);
        ending_numbers = omega (arith, en, ap length (tail_is l₁.ending_numbers (4 * k)), length-drop (4 * k) l₁.ending_numbers, F.ending_numbers, g, W.endings_are);
        ending_floats = omega (arith, ef, ap length (tail_is l₁.ending_floats k), length-drop k l₁.ending_floats, F.ending_floats, g, W.endings_are);
      }
    where
      a : length (answered_beliefs (qs ++ rs)) ≡ length (answered_beliefs qs) + length (answered_beliefs rs)
      a = ap length (answered_append qs rs) ∙ length-append (answered_beliefs qs) (answered_beliefs rs)

      bn : length l₁.belief_numbers ≡ length l.belief_numbers
      bn = ap (λ (y : Answers). length y.belief_numbers) W.is ∙ over-length (belief_numbers (answered_beliefs qs)) l.belief_numbers (omega (arith, bn_long, W.beliefs_are, F.belief_numbers, a))

      bf : length l₁.belief_floats ≡ length l.belief_floats
      bf = ap (λ (y : Answers). length y.belief_floats) W.is ∙ over-length (belief_floats (answered_beliefs qs)) l.belief_floats (omega (arith, bf_long, W.beliefs_are, F.belief_floats, a))

      en : length l₁.ending_numbers ≡ length l.ending_numbers
      en = ap (λ (y : Answers). length y.ending_numbers) W.is ∙ over-length (ending_numbers qs) l.ending_numbers (omega (arith, en_long, W.endings_are, F.ending_numbers, length-append qs rs))

      ef : length l₁.ending_floats ≡ length l.ending_floats
      ef = ap (λ (y : Answers). length y.ending_floats) W.is ∙ over-length (ending_floats qs) l.ending_floats (omega (arith, ef_long, W.endings_are, F.ending_floats, length-append qs rs))

-- ---- the parts one by one

abbrev pub part_at : Bale → ℕ → List Node
part_at b n = get_or (components_of b) n []

abbrev pub upto : Settings → Bale → ℕ → List PartAnswer
upto s b n = answers_from s b 0 (take n (components_of b))

from_append : (s : Settings) (b : Bale) (n : ℕ) (ps qs : List (List Node)) → answers_from s b n (ps ++ qs) ≡ answers_from s b n ps ++ answers_from s b (n + length ps) qs
unfolding answers_from
from_append s b n [] qs = ap (λ (k : ℕ). answers_from s b k qs) (let z : n ≡ n + 0 = omega arith in z)
from_append s b n (p ∷ ps) qs =
    ap (λ (l : List PartAnswer). answers_of s b n p ++ l) (from_append s b (suc n) ps qs ∙ ap (λ (k : ℕ). answers_from s b (suc n) ps ++ answers_from s b k qs) (let z : suc n + length ps ≡ n + suc (length ps) = omega arith in z))
    ∙ sym (append_assoc (answers_of s b n p) (answers_from s b (suc n) ps) (answers_from s b (n + suc (length ps)) qs))

module _ (s : Settings) (b : Bale) where
  pub upto-none : upto s b 0 ≡ []
  unfolding answers_from
  upto-none = refl

  pub upto_next : (n : ℕ) → n < length (components_of b) → upto s b (n + 1) ≡ upto s b n ++ answers_of s b n (part_at b n)
  unfolding answers_from
  upto_next n h =
      ap (answers_from s b 0) (ap (λ (k : ℕ). take k (components_of b)) (add-one n) ∙ take-suc (components_of b) n [] h)
      ∙ from_append s b 0 (take n (components_of b)) (part_at b n ∷ [])
      ∙ ap (λ (l : List PartAnswer). upto s b n ++ l) (append-nil _ ∙ ap (λ (k : ℕ). answers_of s b k (part_at b n)) (zero-add _ ∙ length-take-le n (components_of b) (omega arith)))

  pub upto_all : upto s b (length (components_of b)) ≡ answer s b
  unfolding answer
  upto_all = ap (answers_from s b 0) (take_all (length (components_of b)) (components_of b) (omega arith))

  -- a beginning of the answer
  upto_rest : (n : ℕ) → answer s b ≡ upto s b n ++ answers_from s b (0 + length (take n (components_of b))) (drop n (components_of b))
  unfolding answer
  upto_rest n = ap (answers_from s b 0) (sym (take-append-drop n (components_of b))) ∙ from_append s b 0 (take n (components_of b)) (drop n (components_of b))

  pub upto-two : AnswerSizes s b → (n : ℕ) → All TwoFloats (answered_beliefs (upto s b n))
  upto-two z n =
      All-left TwoFloats (answered_beliefs (upto s b n)) _
      (subst (All TwoFloats) (ap answered_beliefs (upto_rest n) ∙ answered_append (upto s b n) _) z.floats)

  upto-beliefs : (n : ℕ) → length (answered_beliefs (upto s b n)) ≤ length (answered_beliefs (answer s b))
  upto-beliefs n =
      let r = answers_from s b (0 + length (take n (components_of b))) (drop n (components_of b)) in
      omega (arith, ap (λ (x : List PartAnswer). length (answered_beliefs x)) (upto_rest n), ap length (answered_append (upto s b n) r), length-append (answered_beliefs (upto s b n)) (answered_beliefs r))

  pub upto-fits : (l : Answers) (n : ℕ) → Fits (answer s b) l → Fits (upto s b n) l
  upto-fits l n F =
      let r = answers_from s b (0 + length (take n (components_of b))) (drop n (components_of b)) in
      let e : length (answer s b) ≡ length (upto s b n) + length r = ap length (upto_rest n) ∙ length-append (upto s b n) r in
      record {
        belief_numbers = omega (arith, F.belief_numbers, upto-beliefs n);
        belief_floats = omega (arith, F.belief_floats, upto-beliefs n);
        ending_numbers = omega (arith, F.ending_numbers);
        ending_floats = omega (arith, F.ending_floats);
      }

  -- one part has no more beliefs than all
  pub part-beliefs : (n : ℕ) → n < length (components_of b) → length (answered_beliefs (answers_of s b n (part_at b n))) ≤ length (answered_beliefs (answer s b))
  part-beliefs n h =
      omega
      (arith, upto-beliefs (n + 1), ap (λ (x : List PartAnswer). length (answered_beliefs x)) (upto_next n h), ap length (answered_append (upto s b n) (answers_of s b n (part_at b n))), length-append (answered_beliefs (upto s b n)) (answered_beliefs (answers_of s b n (part_at b n))))
