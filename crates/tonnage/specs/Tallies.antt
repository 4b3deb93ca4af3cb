-- How a tally goes on: from the first line, and with each bale that ends.
use Rattle.std.specs.Prelude.{ℕ, zero, suc, ◌+◌, ◌*◌, ◌≤◌, ◌<◌, ◌≡◌, refl, false, length, get_or, replicate}
use Rattle.std.proofs.Math.Decide.{dec_lt}
use Rattle.std.proofs.Common.{arith, ◌∙◌, subst, true≢false, length-append}
use Rattle.std.proofs.Math.Path.{sym, ap}
use Rattle.std.proofs.Math.Logic.{by_cases}
use Rattle.std.proofs.Math.Option.{none, some}
use mathlib.Core.List.{List, [], ◌∷◌, ◌++◌, append_assoc}
use Rattle.std.proofs.lemmas.List.{length-replicate}
use Rattle.std.proofs.Math.ListN.{get_or-eq_default}
use Rattle.definition.specs.Answer.{PartAnswer}
use Rattle.definition.specs.FileAnswer.{file_answer}
use Rattle.definition.specs.Tonnage.{Row, add_each, grams_in, Weighing, weighed, refused_at, weighing, answer_among, tonnage}
use Rattle.claims.specs.Tonnage.{GoodLine}
use Rattle.theorems.specs.Facts.{ended_bales, open_bale, last_bale, bales_split}
use Rattle.weighing_laws.specs.Rows.{rows-read}
use Rattle.weighing_laws.specs.Totals.{add-length, add_at}
use Rattle.tonnage_laws.specs.Answers.{grams_of_bales}
use Rattle.tonnage_laws.specs.Shifts.{among_ended, last_unanswered}
use Rattle.checks.specs.declared.refusal.Check.{Check}
use Rattle.checks.specs.Verdicts.{number_of}
use Rattle.shares.specs.Adding.{Low}
use Rattle.tonnage.specs.Steps.{weighing_at, at-end, at_malformed, at_unanswered, at_good}
use Rattle.tonnage.specs.Standings.{is_waiting, StandsAt, Upto, Waits, Decided, Stands}
use Rattle.tonnage.specs.declared.tally.Standing.{Standing}
use Rattle.tonnage.specs.declared.tally.Standing.TheVariants.{Waiting, Weighed, Refused}

-- ---- by what the next line says

module _ (csv : List ℕ) (es : List (List ℕ)) (at lines next : ℕ) (sums : List ℕ) (u : Upto csv es at lines next sums) where
  pub stands_next : (s : Standing) → StandsAt next csv at s → length es ≤ next → Stands csv es s lines (length es) sums
  stands_next (Waiting l) g h =
      let r = ((rows-read next g.line (record { bale = l.bale; kilograms = l.kilograms })).0 g.row).rising in
      record { at = at; next = next; upto = u; line = g; counted = refl; ahead = omega arith }
  stands_next Weighed g h = λ qs. u.same qs ∙ at-end (answer_among (es ++ qs)) csv at lines next sums g
  stands_next (Refused c) g h =
      λ qs. u.same qs ∙ at_malformed (answer_among (es ++ qs)) csv at lines next sums g.1 ∙ ap (λ (k : Check). refused_at (number_of k) lines) (sym g.0)

-- before the first
zeros : (n g : ℕ) → get_or (replicate n zero) g 0 ≡ 0
zeros zero g = refl
zeros (suc n) zero = refl
zeros (suc n) (suc g) = zeros n g

pub upto-none : (csv : List ℕ) → Upto csv [] 0 0 0 (replicate 1024 0)
unfolding weighing weighing_at
upto-none csv =
    record {
      same = λ qs. refl;
      few = omega arith;
      long = length-replicate 1024 zero;
      low = λ g. omega (arith, zeros 1024 g);
    }

-- ---- more bales have ended

module _ (csv : List ℕ) (es fs : List (List ℕ)) where
  pub decided-more : (x : Weighing) → Decided csv es x → Decided csv (es ++ fs) x
  decided-more x d qs = subst (λ (l : List (List ℕ)). weighing (answer_among l) csv ≡ x) (sym (append_assoc es fs qs)) (d (fs ++ qs))

  upto-more : (at lines next : ℕ) (sums : List ℕ) → Upto csv es at lines next sums → Upto csv (es ++ fs) at lines next sums
  upto-more at lines next sums u =
      record {
        same = λ qs.
            subst
            (λ (l : List (List ℕ)). weighing (answer_among l) csv ≡ weighing_at (answer_among l) csv at lines next sums)
            (sym (append_assoc es fs qs))
            (u.same (fs ++ qs));
        few = u.few;
        long = u.long;
        low = u.low;
      }

  -- where no line waits they count for nothing
  pub settled_more : (s : Standing) (lines ended : ℕ) (sums : List ℕ) → is_waiting s ≡ false → Stands csv es s lines ended sums → Stands csv (es ++ fs) s lines ended sums
  settled_more (Waiting l) lines ended sums h d = absurd (true≢false h)
  settled_more Weighed lines ended sums h d = decided-more (weighed lines sums) d
  settled_more (Refused c) lines ended sums h d = decided-more (refused_at (number_of c) lines) d

-- ---- one more, for which a line waits

module _ (csv : List ℕ) (es : List (List ℕ)) (p : List ℕ) (lines ended b w after : ℕ) (sums : List ℕ) (t : Waits csv es lines ended b w after sums) where
  abbrev more : List (List ℕ)
  more = es ++ p ∷ []

  one_longer : length more ≡ length es + 1
  one_longer = length-append es (p ∷ [])

  upto : Upto csv more t.at lines t.next sums
  upto = upto-more csv es (p ∷ []) t.at lines t.next sums t.upto

  -- another than it waits for
  pub waits-on : ended < b → Waits csv more lines (ended + 1) b w after sums
  waits-on h = record { at = t.at; next = t.next; upto = upto; line = t.line; counted = omega (arith, t.counted, one_longer); ahead = omega arith }

  abbrev row : Row
  row = record { bale = b; kilograms = w }

  good : GoodLine t.next t.line.line row
  good = (rows-read t.next t.line.line row).0 t.line.row

  pub bale-most : b ≤ 9999
  bale-most = good.bale-most

  pub not_heavy : w ≤ 2000
  not_heavy = good.kilograms_most

  pub lines_few : lines ≤ 9999
  lines_few = omega (arith, t.upto.few, good.rising, good.bale-most)

  pub sums-low : Low sums
  sums-low = record { long = t.upto.long; low = λ g. omega (arith, t.upto.low g, lines_few) }

  -- the one that it waits for
  module _ (here : b ≤ ended) where
    is_it : (qs : List (List ℕ)) → answer_among (more ++ qs) b ≡ file_answer p
    is_it qs =
        let e : b ≡ length es = omega (arith, t.counted, t.ahead) in
        ap (λ (l : List (List ℕ)). answer_among l b) (append_assoc es (p ∷ []) qs) ∙ ap (answer_among (es ++ p ∷ qs)) e ∙ among_ended es p qs

    pub has_none : file_answer p ≡ none → Decided csv more (refused_at 15 lines)
    has_none h qs = upto.same qs ∙ at_unanswered (answer_among (more ++ qs)) csv t.at lines t.next sums b w after t.line (is_it qs ∙ h)

    module _ (ps : List PartAnswer) (h : file_answer p ≡ some ps) where
      abbrev added : List ℕ
      added = add_each (grams_in row ps) 0 sums

      added-low : (g : ℕ) → get_or added g 0 ≤ 2000000 * (lines + 1)
      added-low g =
          by_cases (dec_lt g (length sums))
          (λ (k : g < length sums).
          let e : 0 + g ≡ g = omega arith in
          let q : get_or added g 0 ≡ get_or sums g 0 + grams_in row ps g = add_at (grams_in row ps) 0 sums g k ∙ ap (λ (i : ℕ). get_or sums g 0 + grams_in row ps i) e in
          omega (arith, q, t.upto.low g, (grams_of_bales p ps h row).within g, not_heavy))
          (λ k. omega (arith, get_or-eq_default added 0 {n = g} (omega (arith, add-length (grams_in row ps) 0 sums))))

      adds : Upto csv more after (lines + 1) (b + 1) added
      adds =
          let s : suc lines ≡ lines + 1 = omega arith in
          let n : suc b ≡ b + 1 = omega arith in
          record {
            same = λ qs.
                upto.same qs
                ∙ at_good (answer_among (more ++ qs)) csv t.at lines t.next sums b w after t.line ps (is_it qs ∙ h)
                ∙ (λ i. weighing_at (answer_among (more ++ qs)) csv after (s i) (n i) added);
            few = omega (arith, t.upto.few, good.rising);
            long = add-length (grams_in row ps) 0 sums ∙ t.upto.long;
            low = added-low;
          }

      -- and what the line behind says
      pub weighs_on : (s : Standing) → StandsAt (b + 1) csv after s → Stands csv more s (lines + 1) (ended + 1) added
      weighs_on s g =
          let e : length more ≡ ended + 1 = omega (arith, t.counted, one_longer) in
          subst (λ (n : ℕ). Stands csv more s (lines + 1) n added) e
          (stands_next csv more after (lines + 1) (b + 1) added adds s g (omega (arith, e, t.ahead)))

-- ---- at the end of the shift

module _ (csv shift : List ℕ) where
  abbrev es : List (List ℕ)
  es = ended_bales shift

  abbrev last : List (List ℕ)
  last = last_bale (open_bale shift)

  pub ends_decided : (x : Weighing) → Decided csv es x → x ≡ tonnage csv shift
  unfolding tonnage
  ends_decided x d = sym (ap (λ (l : List (List ℕ)). weighing (answer_among l) csv) (bales_split shift) ∙ d last)

  -- no bale is left for the line that waits
  pub ends_waiting : (lines ended b w after : ℕ) (sums : List ℕ) → Waits csv es lines ended b w after sums → refused_at 15 lines ≡ tonnage csv shift
  unfolding tonnage
  ends_waiting lines ended b w after sums t =
      let e = bales_split shift in
      let n = ap (λ (l : List (List ℕ)). answer_among l b) (sym e) ∙ last_unanswered shift b (omega (arith, t.counted, t.ahead)) in
      sym
      (ap (λ (l : List (List ℕ)). weighing (answer_among l) csv) e
      ∙ t.upto.same last
      ∙ at_unanswered (answer_among (es ++ last)) csv t.at lines t.next sums b w after t.line n)
