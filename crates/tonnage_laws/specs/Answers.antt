-- What a bale file is answered: an accepted call's answer, listed as the program lists it, of which no grade gets more than the bale's weight (GramsOfBales).
use Rattle.std.specs.Prelude.{ℕ, ◌≤◌, ◌<◌, ◌≡◌, refl, Bool, true, false, cond, List, [], ◌∷◌, ◌++◌, eqb}
use Rattle.std.proofs.Math.Decide.{dec_lt}
use Rattle.std.proofs.Common.{arith, sym, ap, ◌∙◌, subst}
use Rattle.std.proofs.Math.Logic.{by_cases}
use Rattle.std.proofs.Math.Option.{none, some}
use Rattle.std.specs.Float.Ieee.{le}
use Rattle.definition.specs.Floats.{zeroᶠ}
use Rattle.definition.specs.Lists.{mem}
use Rattle.definition.specs.Vectors.{Message, entry}
use Rattle.definition.specs.Settings.{Settings}
use Rattle.definition.specs.FactorGraph.{Bale}
use Rattle.definition.specs.Answer.{Belief, PartAnswer, answer, answered_beliefs, belief_numbers}
use Rattle.definition.specs.Refusals.{Verdict, accepted, refused, verdict}
use Rattle.definition.specs.BaleFile.{words, settings_of_words, bale_of_words}
use Rattle.definition.specs.FileAnswer.{buffers, file_verdict, accepted_answer, file_answer}
use Rattle.definition.specs.Listing.{bale_line, part_lines, refusal, verdict_lines, listing}
use Rattle.definition.specs.Tonnage.{share, share_among, grams_of, grams_in}
use Rattle.claims.specs.FileRefused.{many_grades, as_called}
use Rattle.claims.specs.Tonnage.{GramsOfBales, AnswersListed}
use Rattle.float_laws.specs.Interval.{in_finite}
use Rattle.theorems.specs.Facts.{All, NoDup, beliefs_each, answer-sizes, verdict_accepted, file-listing}
use Rattle.theorems.specs.Facts.{settings_fit, evidence-fits, UnitValue, UnitValues, beliefs_in_unit}
use Rattle.weighing_laws.specs.Lines.{neither, other}
use Rattle.weighing_laws.specs.Numbers.{none-some}
use Rattle.weighing_laws.specs.Shares.{share-le}
use Rattle.weighing_laws.specs.Grams.{none_among, grams_first}

-- ---- an answer is that of an accepted call

-- all that a bale's answer is known by
pub record Answered (bs : List ℕ) (ps : List PartAnswer) : Type 0 where
  pub judged : file_verdict bs ≡ accepted
  pub small : (bale_of_words (words bs)).grades ≤ 24
  pub accepts : verdict (settings_of_words (words bs)) buffers (bale_of_words (words bs)) ≡ accepted
  pub answers : answer (settings_of_words (words bs)) (bale_of_words (words bs)) ≡ ps

module _ (s : Settings) (b : Bale) where
  verdict_answered : (v : Verdict) (ps : List PartAnswer) → accepted_answer v s b ≡ some ps → (v ≡ accepted) × (answer s b ≡ ps)
  unfolding accepted_answer
  verdict_answered accepted ps h = (refl, cc)
  verdict_answered (refused n p) ps h = absurd (none-some ps h)

  verdict_unanswered : (v : Verdict) → accepted_answer v s b ≡ none → (n : ℕ) × (p : ℕ) × (verdict_lines v s b ≡ refusal n p)
  unfolding accepted_answer verdict_lines
  verdict_unanswered accepted h = absurd (none-some (answer s b) (sym h))
  verdict_unanswered (refused n p) h = (n, p, refl)

-- no check of the program fails, and so none of the call
pub bale_answered : (bs : List ℕ) (ps : List PartAnswer) → file_answer bs ≡ some ps → Answered bs ps
unfolding file_answer
bale_answered bs ps h =
    let s = settings_of_words (words bs) in
    let b = bale_of_words (words bs) in
    let d = verdict_answered s b (file_verdict bs) ps h in
    let passed = (file-listing bs).accepted_as.0 d.0 in
    record {
      judged = d.0;
      small = by_cases (dec_lt 24 b.grades) (λ (k : 24 < b.grades). absurd (passed 1 0 (many_grades k))) (λ k. omega arith);
      accepts = (verdict_accepted s buffers b).1 (λ n p x. passed n p (as_called x));
      answers = d.1;
    }

pub answers-listed : AnswersListed
unfolding file_answer listing verdict_lines
answers-listed bs =
    let s = settings_of_words (words bs) in
    let b = bale_of_words (words bs) in
    record {
      answered = λ ps h.
          let d = bale_answered bs ps h in
          ap (λ (v : Verdict). verdict_lines v s b) d.judged ∙ ap (λ (q : List PartAnswer). bale_line b ++ part_lines q) d.answers;
      unanswered = verdict_unanswered s b (file_verdict bs);
    }

-- ---- so every belief lies in [0, 1]

pub answer_in_unit : (bs : List ℕ) (ps : List PartAnswer) → file_answer bs ≡ some ps → All UnitValues (answered_beliefs ps)
answer_in_unit bs ps h =
    let ws = words bs in
    let d = bale_answered bs ps h in
    let u = beliefs_in_unit (settings_of_words ws) buffers (bale_of_words ws) d.accepts (settings_fit ws) (evidence-fits ws) in
    subst (λ (q : List PartAnswer). All UnitValues (answered_beliefs q)) d.answers (beliefs_each UnitValues _ u)

-- ---- and no grade gets more than the weight

entry-share : (w : ℕ) (m : Message) → All UnitValue m → share w (entry 1 m) ≤ w
unfolding le
entry-share w [] h = share-le w zeroᶠ tt tt
entry-share w (x ∷ []) h = share-le w zeroᶠ tt tt
entry-share w (x ∷ y ∷ m) h = share-le w y (in_finite h.1.0.inside tt) h.1.0.inside.high

among_le : (w g : ℕ) (xs : List Belief) → All UnitValues xs → share_among w g xs ≤ w
unfolding share_among
among_le w g [] h = omega arith
among_le w g (x ∷ xs) h = go (eqb g x.grade) (among_le w g xs h.1)
  where
    go : (b : Bool) → share_among w g xs ≤ w → cond b (share w (entry 1 x.value)) (share_among w g xs) ≤ w
    go true r = entry-share w x.value h.0
    go false r = r

-- ---- a belief's grade gets its share, since no grade stands twice

-- a belief behind x is of another grade
others :
    (x : Belief) (xs : List Belief) (b : Belief) (ys : List Belief) → mem eqb x.grade (belief_numbers (xs ++ b ∷ ys)) ≡ false →
    eqb b.grade x.grade ≡ false
unfolding belief_numbers
others x [] b ys h = other x.grade b.grade (neither (eqb x.grade b.grade) (mem eqb x.grade (belief_numbers ys)) h).0
others x (y ∷ xs) b ys h = others x xs b ys (neither (eqb x.grade y.grade) (mem eqb x.grade (belief_numbers (xs ++ b ∷ ys))) h).1

not-before : (xs : List Belief) (b : Belief) (ys : List Belief) → NoDup eqb (belief_numbers (xs ++ b ∷ ys)) → mem eqb b.grade (belief_numbers xs) ≡ false
unfolding belief_numbers
not-before [] b ys d = refl
not-before (x ∷ xs) b ys d = rw (others x xs b ys d.0) (not-before xs b ys d.1)

pub answer_once : (bs : List ℕ) (ps : List PartAnswer) → file_answer bs ≡ some ps → NoDup eqb (belief_numbers (answered_beliefs ps))
answer_once bs ps h =
    let d = bale_answered bs ps h in
    let z = answer-sizes (settings_of_words (words bs)) buffers (bale_of_words (words bs)) d.accepts in
    subst (λ (q : List PartAnswer). NoDup eqb (belief_numbers (answered_beliefs q))) d.answers z.once

pub grams_of_bales : GramsOfBales
unfolding grams_in
grams_of_bales bs ps h r =
    record {
      by_belief = λ xs b ys e.
          grams_first r ps xs b ys e (not-before xs b ys (subst (λ (q : List Belief). NoDup eqb (belief_numbers q)) e (answer_once bs ps h)));
      without = λ g. none_among (grams_of r) g (answered_beliefs ps);
      within = λ g. among_le (grams_of r) g (answered_beliefs ps) (answer_in_unit bs ps h);
    }
