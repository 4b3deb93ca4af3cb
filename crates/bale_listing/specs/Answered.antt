-- What a bale file's answer leaves to be listed: a refusal's number and place, or the parts at the front of their buffers.
use Rattle.std.specs.Prelude.{ℕ, ◌+◌, ◌≤◌, ◌≡◌, Ok, Err, Float}
use Rattle.std.specs.Prelude as std
use Rattle.std.proofs.Common.{arith, ◌∙◌}
use Rattle.std.proofs.Math.Nat.{zero-add}
use Rattle.std.proofs.Math.Path.{sym, ap}
use mathlib.Core.List.{List, ◌++◌}
use Rattle.std.proofs.Math.ListN.{length, drop, length-append}
use Rattle.definition.specs.BaleFile.{words, bits, settings_of_words, bale_of_words}
use Rattle.definition.specs.Settings.{Settings}
use Rattle.definition.specs.FactorGraph.{Bale}
use Rattle.definition.specs.Refusals.{Verdict, accepted, refused, work_needed}
use Rattle.definition.specs.Answer.{PartAnswer, answer}
use Rattle.definition.specs.Call as definition
use Rattle.definition.specs.Call.{Lent, Result, answered, refused_at, overwrite, answered_by}
use Rattle.definition.specs.FileAnswer.{buffers, file_verdict, file_result}
use Rattle.definition.specs.Listing.{bale_line, part_lines, refusal, verdict_lines, listing}
use Rattle.list_laws.specs.Put.{put}
use Rattle.listing.specs.Lines.{Counts, counts_line, counts-line}
use Rattle.listing.specs.Parts.{Parts, PartsFit, SomeParts}
use Rattle.listing.specs.Answered.{answer_stands}
use Rattle.listing.specs.Sizes.{listing-short}
use Rattle.listing.specs.Writing.{Written, written_next, written-long}
use Rattle.checks.specs.declared.refusal.FileRefusal.{FileRefusal}
use Rattle.checks.specs.Verdicts.{number_of}
use Rattle.zero_lookahead_belief_propagation.specs.declared.call.Counts as call
use Rattle.bale_file.specs.declared.decoder.Decoder.{Decoder}
use Rattle.bale_answer.specs.Taken.{Taken}
use Rattle.bale_answer.specs.Outcomes.{file_outcome_of, file_result_with}
use Rattle.bale_answer.specs.AcceptedFile.{AcceptedFile, accepted_file}
use Rattle.bale_answer.specs.Answering.{lent_of, verdict_in, verdict-is, accepts, left_is}
use Rattle.base_rate_laws.specs.Fits.{settings_fit, evidence-fits}
use Rattle.bale_listing.specs.Lent.{ListedFrom}

abbrev endings_in : definition.Outcome → ℕ
endings_in (answered n k) = k
endings_in (refused_at n p) = 0

-- r and l are the outcome, and what the buffers hold afterwards
module _ (bs : List ℕ) (wf : List Float) (wn : List ℕ) (r : std.Result call.Counts FileRefusal) (l : Lent) (is : file_result_with r l ≡ file_result bs (lent_of wf wn)) where
  abbrev s : Settings
  s = settings_of_words (words bs)

  abbrev b : Bale
  b = bale_of_words (words bs)

  -- bytes that are written from the start on are written over the front
  listed :
      (v : Verdict) → file_verdict bs ≡ v → (out out' : List ℕ) (end : ℕ) → Written out 0 (verdict_lines v s b) out' end →
      ListedFrom bs end wf wn out l.work_floats l.work_numbers out'
  unfolding listing put
  listed v e out out' end w =
      let t : verdict_lines v s b ≡ listing bs = ap (λ (x : Verdict). verdict_lines x s b) (sym e) in
      let z = zero-add (length (verdict_lines v s b)) in
      record {
        text = w.bytes ∙ ap (λ (n : ℕ). verdict_lines v s b ++ drop n out) z ∙ ap (λ (x : List ℕ). overwrite x out) t;
        long = w.place ∙ z ∙ ap length t;
        work_floats = ap (λ (x : Result). x.lent.work_floats) is;
        work_numbers = ap (λ (x : Result). x.lent.work_numbers) is;
      }

  pub refused_listed :
      (f : FileRefusal) → r ≡ Err f → (out out' : List ℕ) (end : ℕ) → Written out 0 (refusal (number_of f.check) f.place) out' end →
      ListedFrom bs end wf wn out l.work_floats l.work_numbers out'
  unfolding verdict_lines
  refused_listed f e out out' end w = listed (refused (number_of f.check) f.place) (verdict-is bs wf wn r l is ∙ ap (λ (x : std.Result call.Counts FileRefusal). verdict_in (file_outcome_of x)) e) out out' end w

  -- an answer, and the counts that the code has
  module _
      (d : Decoder) (ms ps : List ℕ) (t : Taken bs d ms ps) (c : call.Counts) (a : r ≡ Ok c)
      (g : ℕ) (grades_are : g ≡ bits 11 0 d.reading.grades) where
    file : AcceptedFile bs d
    file = accepted_file bs d ms ps t (accepts bs wf wn r l is c a)

    counts_are : Counts b g d.reading.markers d.reading.pairs
    counts_are = record { grades_are = sym (grades_are ∙ file.grades_are); markers_are = sym file.markers_are; pairs_are = sym file.pairs_are }

    left : file_result_with r l ≡ answered_by (work_needed b) (answer s b) (lent_of wf wn)
    left = left_is bs wf wn r l is c a

    stands : Parts (answer s b) l.belief_numbers l.belief_floats l.ending_numbers l.ending_floats
    stands =
        rw (
          ap (λ (x : Result). x.lent.belief_numbers) left,
          ap (λ (x : Result). x.lent.belief_floats) left,
          ap (λ (x : Result). x.lent.ending_numbers) left,
          ap (λ (x : Result). x.lent.ending_floats) left,
        )
        (answer_stands s buffers b file.accepts (settings_fit (words bs)) (evidence-fits (words bs)) (work_needed b) (lent_of wf wn))

    many : length (answer s b) ≡ c.endings
    unfolding answered_by
    many = sym (ap endings_in (ap file_outcome_of (sym a) ∙ ap (λ (x : Result). x.outcome) left))

    short : length (bale_line b) + length (part_lines (answer s b)) ≤ 1790
    short =
        omega (
          arith,
          length-append (bale_line b) (part_lines (answer s b)),
          listing-short s buffers b file.accepts file.grades-within file.markers_within file.pairs-within,
        )

    module _ (out : List ℕ) (room : 4096 ≤ length out) where
      pub bale-fits : 0 + length (counts_line g d.reading.markers d.reading.pairs) ≤ length out
      bale-fits = omega (arith, short, ap length (counts-line b g d.reading.markers d.reading.pairs counts_are))

      module _
          (out₁ : List ℕ) (at : ℕ) (wrote : (x : Bale) → Counts x g d.reading.markers d.reading.pairs → Written out 0 (bale_line x) out₁ at) where
        first : Written out 0 (bale_line b) out₁ at
        first = wrote b counts_are

        parts_fit : PartsFit (answer s b) l.belief_numbers l.belief_floats l.ending_numbers l.ending_floats c.endings at (length out₁)
        parts_fit = record { stand = stands; many = many; fits = omega (arith, short, first.place, written-long first (omega (arith, short))) }

        pub some-parts : SomeParts l.belief_numbers l.belief_floats l.ending_numbers l.ending_floats c.endings at (length out₁)
        some-parts = record { parts = answer s b; good = parts_fit }

        pub both-listed :
            (out₂ : List ℕ) (end : ℕ) →
            ((qs : List PartAnswer) → PartsFit qs l.belief_numbers l.belief_floats l.ending_numbers l.ending_floats c.endings at (length out₁) →
            Written out₁ at (part_lines qs) out₂ end) →
            ListedFrom bs end wf wn out l.work_floats l.work_numbers out₂
        unfolding verdict_lines
        both-listed out₂ end w =
            listed accepted (accepts bs wf wn r l is c a) out out₂ end
            (written_next first (w (answer s b) parts_fit) (omega (arith, short, length-append (bale_line b) (part_lines (answer s b)))))
