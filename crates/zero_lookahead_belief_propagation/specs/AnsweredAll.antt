-- All parts of an accepted call, one after the other.
use Rattle.std.specs.Prelude.{ℕ, ◌+◌, ◌*◌, ◌≤◌, ◌≡◌, refl, List, map, Float, length, take}
use Rattle.std.proofs.Common.{arith, sym, ap, ◌∙◌, subst}
use Rattle.definition.specs.Lists.{concat}
use Rattle.definition.specs.Settings.{Settings}
use Rattle.definition.specs.FactorGraph.{Bale}
use Rattle.definition.specs.Components.{components_of}
use Rattle.definition.specs.Refusals.{Buffers, bale_of, work_needed, accepted, verdict}
use Rattle.definition.specs.Answer.{PartAnswer, answer}
use Rattle.list_laws.specs.Part.{region}
use Rattle.factor_graph.specs.Words.{component_words, components_words}
use Rattle.zero_lookahead.specs.Part.{KeptFront}
use Rattle.zero_lookahead_belief_propagation.specs.Answered.{Answers, Fits, Written, written_none, upto, upto-none, upto_all}

-- The records of all parts stand in the words from `start` to `end`, one after the other.
pub record RecordsAt (b : Bale) (start count end : ℕ) (words : List ℕ) : Type 0 where
  pub records : region words start (length (components_words b)) ≡ components_words b
  pub count_is : count ≡ length (components_of b)
  pub end_is : end ≡ start + length (components_words b)
  pub near : end ≤ 37 * (b.grades + length b.markers + length b.pairs) + 3

-- They are those of an accepted call, whose work the words are, and there is room for all that is answered.
pub record Cut (s : Settings) (b : Bale) (start count end : ℕ) (evidence : List Float) (words : List ℕ) (floats : ℕ) (l : Answers) : Type 0 where
  pub buffers : Buffers
  pub accepts : verdict s buffers b ≡ accepted
  pub pairs : List ℕ
  pub bale : b ≡ bale_of b.grades evidence pairs
  pub stand : RecordsAt b start count end words
  pub room : work_needed b ≤ length words
  pub floats_room : work_needed b ≤ floats
  pub fits : Fits (answer s b) l

pub record SomeCut (s : Settings) (start count end : ℕ) (evidence : List Float) (words : List ℕ) (floats : ℕ) (l : Answers) : Type 0 where
  pub bale : Bale
  pub cut : Cut s bale start count end evidence words floats l

-- so far: where the next record is, and what is written
pub record Going (s : Settings) (b : Bale) (start : ℕ) (l₀ : Answers) (at number beliefs endings : ℕ) (l : Answers) : Type 0 where
  pub at-is : at ≡ start + length (concat (map (component_words b) (take number (components_of b))))
  pub written : Written (upto s b number) l₀ beliefs endings l

pub record SameSizes (l l₀ : Answers) : Type 0 where
  pub belief_numbers : length l.belief_numbers ≡ length l₀.belief_numbers
  pub belief_floats : length l.belief_floats ≡ length l₀.belief_floats
  pub ending_numbers : length l.ending_numbers ≡ length l₀.ending_numbers
  pub ending_floats : length l.ending_floats ≡ length l₀.ending_floats

-- before part `number`
pub record Loop (s : Settings) (start count end : ℕ) (evidence : List Float) (floats₀ : ℕ) (words₀ : List ℕ) (l₀ : Answers) (floats : ℕ) (words : List ℕ) (l : Answers) (at number beliefs endings : ℕ) : Type 0 where
  pub floats_long : floats ≡ floats₀
  pub words_long : length words ≡ length words₀
  pub words-kept : KeptFront end words₀ words
  pub number-le : number ≤ count
  pub sizes : SameSizes l l₀
  pub going : (b : Bale) → Cut s b start count end evidence words₀ floats₀ l₀ → Going s b start l₀ at number beliefs endings l

pub loop-begins : (s : Settings) (start count end : ℕ) (evidence : List Float) (floats₀ : ℕ) (words₀ : List ℕ) (l₀ : Answers) → Loop s start count end evidence floats₀ words₀ l₀ floats₀ words₀ l₀ start 0 0 0
loop-begins s start count end evidence floats₀ words₀ l₀ =
    record {
      floats_long = refl;
      words_long = refl;
      words-kept = refl;
      number-le = omega arith;
      sizes = record { belief_numbers = refl; belief_floats = refl; ending_numbers = refl; ending_floats = refl };
      going = λ b C. record { at-is = omega arith; written = subst (λ (x : List PartAnswer). Written x l₀ 0 0 l₀) (sym (upto-none s b)) (written_none l₀) };
    }

-- after the last
pub loop-ends : (s : Settings) (start count end : ℕ) (evidence : List Float) (floats₀ : ℕ) (words₀ : List ℕ) (l₀ : Answers) (floats : ℕ) (words : List ℕ) (l : Answers) (at number beliefs endings : ℕ)
    → Loop s start count end evidence floats₀ words₀ l₀ floats words l at number beliefs endings → count ≤ number → (b : Bale) → Cut s b start count end evidence words₀ floats₀ l₀ → Written (answer s b) l₀ beliefs endings l
loop-ends s start count end evidence floats₀ words₀ l₀ floats words l at number beliefs endings L h b C =
    subst (λ (x : List PartAnswer). Written x l₀ beliefs endings l)
    (ap (upto s b) (let z : number ≡ length (components_of b) = omega (arith, L.number-le, C.stand.count_is) in z) ∙ upto_all s b) (L.going b C).written
