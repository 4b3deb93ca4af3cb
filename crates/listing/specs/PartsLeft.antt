-- The lines of the parts, one part after the other.
use Rattle.std.specs.Prelude.{◌≡◌, ℕ, ◌+◌, ◌-◌, ◌*◌, ◌≤◌, ◌<◌, Float, drop}
use Rattle.std.proofs.Common.{sym, ◌∙◌}
use Rattle.std.proofs.Math.Path.{ap, subst}
use mathlib.Core.List.{List, [], ◌∷◌, ◌++◌}
use native.Mathlib.Omega.{arith}
use Rattle.std.specs.Float.Ieee.{nan}
use Rattle.std.proofs.Math.ListN.{length, get_or, length-drop, length-append}
use Rattle.std.proofs.Math.Seq.{get_or-drop, drop-drop}
use Rattle.list_laws.specs.Part.{region}
use Rattle.definition.specs.Run.{Ending}
use Rattle.definition.specs.Answer.{Belief, PartAnswer}
use Rattle.definition.specs.Listing.{belief_lines, part_lines}
use Rattle.listing.specs.Writing.{Written, Left, left-all, left-next, left-none, written_next, written_is, written-long}
use Rattle.claims.specs.CallByParts.{ending_of}
use Rattle.listing.specs.Lines.{head_line}
use Rattle.listing.specs.Beliefs.{IsNumber, BeliefsFit, get_d_first}
use Rattle.listing.specs.Parts.{Parts, PartsFit, head_of, first_part}

module _ (l : List ℕ) (at : ℕ) (s : List ℕ) (grades : List ℕ) (values : List Float) (endings : List ℕ) (residuals : List Float) (count : ℕ) where
  -- where e parts are done, and `first` beliefs with them: m is the buffer, and k the next place
  pub record PartsLeft (m : List ℕ) (k e first : ℕ) : Type 0 where
    pub parts : List PartAnswer
    pub stand : Parts parts (drop first grades) (drop (2 * first) values) (drop (4 * e) endings) (drop e residuals)
    pub many : e + length parts ≡ count
    pub grades_done : first ≤ length grades
    pub values_done : 2 * first ≤ length values
    pub left : Left l at s m k (part_lines parts)

  -- the next part, whose beliefs end before `last`: what a turn reads, and what it leaves
  pub record NextPart (m : List ℕ) (k e first last : ℕ) : Type 0 where
    pub endings_long : 4 * e + 4 ≤ length endings
    pub residuals_long : e < length residuals
    pub grades-long : last ≤ length grades
    pub values_long : 2 * last ≤ length values
    pub residual : IsNumber (get_or residuals e nan)
    pub fits : k + length (head_of endings residuals e) ≤ length m
    pub beliefs : List Belief
    pub beliefs_fit :
        (n : List ℕ) (j : ℕ) → Written m k (head_of endings residuals e) n j →
        BeliefsFit beliefs (region grades first (last - first)) (region values (2 * first) (2 * last - 2 * first)) j (length n)
    pub next :
        (n : List ℕ) (j : ℕ) → Written m k (head_of endings residuals e) n j →
        (o : List ℕ) (i : ℕ) → Written n j (belief_lines beliefs) o i → PartsLeft o i (e + 1) last

  next_of :
      {m : List ℕ} {k e first last : ℕ} (ps : List PartAnswer) →
      Parts ps (drop first grades) (drop (2 * first) values) (drop (4 * e) endings) (drop e residuals) → e + length ps ≡ count → first ≤ length grades → 2 * first ≤ length values → Left l at s m k (part_lines ps) →
      e < count → last ≡ first + get_or endings (4 * e + 3) 0 → NextPart m k e first last
  unfolding part_lines
  next_of [] r c u v left h q = absurd (let z : ⊥ = omega arith in z)
  next_of {m} {k} {e} {first} {last} (p ∷ ps) r c gd vd left h q =
      let f = first_part p ps (drop first grades) (drop (2 * first) values) (drop (4 * e) endings) (drop e residuals) r in
      let bs = p.beliefs in
      let e₀ = get_d_first (4 * e) endings 0 in
      let e₁ : get_or (drop (4 * e) endings) 1 0 ≡ get_or endings (4 * e + 1) 0 = get_or-drop (4 * e) endings 1 0 in
      let e₂ : get_or (drop (4 * e) endings) 2 0 ≡ get_or endings (4 * e + 2) 0 = get_or-drop (4 * e) endings 2 0 in
      let e₃ : get_or (drop (4 * e) endings) 3 0 ≡ get_or endings (4 * e + 3) 0 = get_or-drop (4 * e) endings 3 0 in
      let x = get_d_first e residuals nan in
      let b : first + length bs ≡ last = omega (arith, f.many) in
      let u : last - first ≡ length bs = omega arith in
      let v : 2 * last - 2 * first ≡ 2 * length bs = omega arith in
      let w : 2 * first + 2 * length bs ≡ 2 * last = omega arith in
      let y : 4 * e + 4 ≡ 4 * (e + 1) = omega arith in
      let g : head_line p.number p.ending p.steps ≡ head_of endings residuals e =
      ap (λ (z : ℕ). head_line z p.ending p.steps) (sym f.number ∙ e₀)
      ∙ ap (λ (z : Ending). head_line (get_or endings (4 * e) 0) z p.steps) (sym f.ended ∙ ap (λ (z : ℕ). ending_of z (get_or (drop e residuals) 0 nan)) e₁ ∙ ap (ending_of (get_or endings (4 * e + 1) 0)) x)
      ∙ ap (head_line (get_or endings (4 * e) 0) (ending_of (get_or endings (4 * e + 1) 0) (get_or residuals e nan))) (sym f.steps ∙ e₂) in
      let a = length-append (head_line p.number p.ending p.steps ++ belief_lines bs) (part_lines ps) in
      let d = length-append (head_line p.number p.ending p.steps) (belief_lines bs) in
      record {
        endings_long = omega (arith, f.endings_long, length-drop (4 * e) endings);
        residuals_long = omega (arith, f.residuals_long, length-drop e residuals);
        grades-long = omega (arith, f.grades-long, length-drop first grades);
        values_long = omega (arith, f.values_long, length-drop (2 * first) values);
        residual = subst IsNumber x f.residual;
        fits = omega (arith, left.fits, ap length g);
        beliefs = bs;
        beliefs_fit = λ n j t. record { stand = rw (u, v) f.beliefs; fits = omega (arith, left.fits, ap length g, t.place, written-long t (omega (arith, left.fits, ap length g))) };
        next = λ n j t o i z. record {
          parts = ps;
          stand = rw (drop-drop (length bs) first grades, drop-drop (2 * length bs) (2 * first) values, drop-drop 4 (4 * e) endings, drop-drop 1 e residuals, b, w, y) at f.rest;
          many = omega arith;
          grades_done = omega (arith, f.grades-long, length-drop first grades);
          values_done = omega (arith, f.values_long, length-drop (2 * first) values);
          left = left-next left (written_next (written_is (sym g) t) z (omega (arith, left.fits)));
        };
      }

  pub next-part : {m : List ℕ} {k e first last : ℕ} → PartsLeft m k e first → e < count → last ≡ first + get_or endings (4 * e + 3) 0 → NextPart m k e first last
  next-part r h q = next_of r.parts r.stand r.many r.grades_done r.values_done r.left h q

  none_of : {m : List ℕ} {k : ℕ} (ps : List PartAnswer) → length ps ≡ 0 → Left l at s m k (part_lines ps) → Written l at s m k
  unfolding part_lines
  none_of [] e left = left-none left
  none_of (p ∷ ps) e left = absurd (let z : ⊥ = omega arith in z)

  pub no_parts : {m : List ℕ} {k e first : ℕ} → PartsLeft m k e first → e ≡ count → Written l at s m k
  no_parts r e = none_of r.parts (omega (arith, r.many)) r.left

pub all-parts :
    (l : List ℕ) (at : ℕ) (grades : List ℕ) (values : List Float) (endings : List ℕ) (residuals : List Float) (count : ℕ) (ps : List PartAnswer) →
    PartsFit ps grades values endings residuals count at (length l) → PartsLeft l at (part_lines ps) grades values endings residuals count l at 0 0
all-parts l at grades values endings residuals count ps r =
    record { parts = ps; stand = r.stand; many = omega (arith, r.many); grades_done = omega arith; values_done = omega arith; left = left-all l at (part_lines ps) r.fits }
