-- The parts of an answer as they stand in its four slices, and their lines one after the other.
use Rattle.std.specs.Prelude.{◌≡◌, refl, List, [], ◌∷◌, ◌++◌, ℕ, ◌+◌, ◌*◌, ◌≤◌, Float, length, get_or, take, drop}
use Rattle.std.proofs.Common.{sym, ap, ◌∙◌, subst, arith, length-append}
use Rattle.std.specs.Float.{nan}
use Rattle.graph_laws.specs.Lists.{All, All-left, All-right}
use Rattle.graph_laws.specs.AnswerSizes.{TwoFloats, numbers-length, floats_append, floats_length, endings_length, residuals_length}
use Rattle.graph_laws.specs.ReadBack.{ending-back, numbers_append}
use Rattle.claims.specs.CallByParts.{ending_of}
use Rattle.definition.specs.Answer.{PartAnswer, ending_number, ending_residual, answered_beliefs, belief_numbers, belief_floats, ending_numbers, ending_floats}
use Rattle.definition.specs.Listing.{part_lines}
use Rattle.listing.specs.Lines.{head_line}
use Rattle.listing.specs.Beliefs.{IsNumber, Beliefs}
use Rattle.listing.specs.Front.{Begins, begins_split, begins-long, begins-first, begins-rest}

-- the slices begin with what the parts ps say
pub record Parts (ps : List PartAnswer) (grades : List ℕ) (values : List Float) (endings : List ℕ) (residuals : List Float) : Type 0 where
  pub grades_begin : Begins (belief_numbers (answered_beliefs ps)) grades
  pub values_begin : Begins (belief_floats (answered_beliefs ps)) values
  pub endings_begin : Begins (ending_numbers ps) endings
  pub residuals_begin : Begins (ending_floats ps) residuals
  pub two : All TwoFloats (answered_beliefs ps)
  pub values_printed : All IsNumber (belief_floats (answered_beliefs ps))
  pub residuals_printed : All IsNumber (ending_floats ps)

-- count parts, and a buffer of this size has room for their lines from place at on
pub record PartsFit (ps : List PartAnswer) (grades : List ℕ) (values : List Float) (endings : List ℕ) (residuals : List Float) (count at size : ℕ) : Type 0 where
  pub stand : Parts ps grades values endings residuals
  pub many : length ps ≡ count
  pub fits : at + length (part_lines ps) ≤ size

pub record SomeParts (grades : List ℕ) (values : List Float) (endings : List ℕ) (residuals : List Float) (count at size : ℕ) : Type 0 where
  pub parts : List PartAnswer
  pub good : PartsFit parts grades values endings residuals count at size

pub endings_fit : {ps : List PartAnswer} {grades : List ℕ} {values : List Float} {endings : List ℕ} {residuals : List Float} {count at size : ℕ} →
    PartsFit ps grades values endings residuals count at size → (4 * count ≤ length endings) × (count ≤ length residuals)
endings_fit {ps} r =
    let e = begins-long _ _ r.stand.endings_begin in
    let f = begins-long _ _ r.stand.residuals_begin in
    (omega (arith, e, r.many, endings_length ps), omega (arith, f, r.many, residuals_length ps))

-- ---- the first of the parts

-- a part's own line, as the slices have it
abbrev pub head_of : List ℕ → List Float → ℕ → List ℕ
head_of endings residuals e = head_line (get_or endings (4 * e) 0) (ending_of (get_or endings (4 * e + 1) 0) (get_or residuals e nan)) (get_or endings (4 * e + 2) 0)

pub record FirstPart (p : PartAnswer) (ps : List PartAnswer) (grades : List ℕ) (values : List Float) (endings : List ℕ) (residuals : List Float) : Type 0 where
  pub number : get_or endings 0 0 ≡ p.number
  pub ended : ending_of (get_or endings 1 0) (get_or residuals 0 nan) ≡ p.ending
  pub steps : get_or endings 2 0 ≡ p.steps
  pub many : get_or endings 3 0 ≡ length p.beliefs
  pub endings_long : 4 ≤ length endings
  pub residuals_long : 1 ≤ length residuals
  pub grades-long : length p.beliefs ≤ length grades
  pub values_long : 2 * length p.beliefs ≤ length values
  pub residual : IsNumber (get_or residuals 0 nan)
  pub beliefs : Beliefs p.beliefs (take (length p.beliefs) grades) (take (2 * length p.beliefs) values)
  pub rest : Parts ps (drop (length p.beliefs) grades) (drop (2 * length p.beliefs) values) (drop 4 endings) (drop 1 residuals)

pub first_part :
    (p : PartAnswer) (ps : List PartAnswer) (grades : List ℕ) (values : List Float) (endings : List ℕ) (residuals : List Float) →
    Parts (p ∷ ps) grades values endings residuals → FirstPart p ps grades values endings residuals
unfolding answered_beliefs ending_numbers ending_floats
first_part p ps grades values endings residuals r =
    let bs = p.beliefs in
    let cs = answered_beliefs ps in
    let two = All-left TwoFloats bs cs r.two in
    let g : Begins (belief_numbers bs ++ belief_numbers cs) grades = rw (numbers_append bs cs) at r.grades_begin in
    let v : Begins (belief_floats bs ++ belief_floats cs) values = rw (floats_append bs cs) at r.values_begin in
    let d : All IsNumber (belief_floats bs ++ belief_floats cs) = rw (floats_append bs cs) at r.values_printed in
    let n : length (belief_numbers bs) ≡ length bs = numbers-length bs in
    let m : length (belief_floats bs) ≡ 2 * length bs = floats_length bs two in
    let e = begins_split _ endings r.endings_begin in
    let f = begins_split _ residuals r.residuals_begin in
    let x : get_or residuals 0 nan ≡ ending_residual p.ending = ap (λ (l : List Float). get_or l 0 nan) f in
    record {
      number = ap (λ (l : List ℕ). get_or l 0 0) e;
      ended = ap (λ (k : ℕ). ending_of k (get_or residuals 0 nan)) (ap (λ (l : List ℕ). get_or l 1 0) e) ∙ ap (ending_of (ending_number p.ending)) x ∙ ending-back p.ending;
      steps = ap (λ (l : List ℕ). get_or l 2 0) e;
      many = ap (λ (l : List ℕ). get_or l 3 0) e;
      endings_long = omega (arith, begins-long _ endings r.endings_begin);
      residuals_long = omega (arith, begins-long _ residuals r.residuals_begin);
      grades-long = omega (arith, begins-long _ grades g, length-append (belief_numbers bs) (belief_numbers cs));
      values_long = omega (arith, begins-long _ values v, length-append (belief_floats bs) (belief_floats cs));
      residual = subst IsNumber (sym x) r.residuals_printed.0;
      beliefs = record { grades = begins-first (belief_numbers bs) (belief_numbers cs) grades (length bs) n g; values = begins-first (belief_floats bs) (belief_floats cs) values (2 * length bs) m v; two = two; printed = All-left IsNumber (belief_floats bs) (belief_floats cs) d };
      rest = record {
        grades_begin = begins-rest (belief_numbers bs) (belief_numbers cs) grades (length bs) n g;
        values_begin = begins-rest (belief_floats bs) (belief_floats cs) values (2 * length bs) m v;
        endings_begin = begins-rest (p.number ∷ ending_number p.ending ∷ p.steps ∷ length bs ∷ []) (ending_numbers ps) endings 4 refl r.endings_begin;
        residuals_begin = begins-rest (ending_residual p.ending ∷ []) (ending_floats ps) residuals 1 refl r.residuals_begin;
        two = All-right TwoFloats bs cs r.two;
        values_printed = All-right IsNumber (belief_floats bs) (belief_floats cs) d;
        residuals_printed = r.residuals_printed.1;
      };
    }
