-- The weighing of the bytes from a place on, by what `weights::read_line` answers there: what a loop over the lines keeps.
use Rattle.std.specs.Prelude.{ℕ, suc, ◌≤◌, ◌≡◌, length, drop, get_or}
use Rattle.std.proofs.Math.Path.{ap}
use Rattle.std.proofs.Common.{◌∙◌, drop_of_length-le, drop-cons}
use Rattle.std.proofs.Math.Option.{none, some}
use mathlib.Core.List.{List, ◌∷◌}
use Rattle.definition.specs.Answer.{PartAnswer}
use Rattle.definition.specs.Tonnage.{lines_of, grams_in, add_each, Answers, Weighing, weighed, refused_at, weighing_from}
use Rattle.weighing_laws.specs.Lines.{lines_some}
use Rattle.weighing_laws.specs.Weighings.{line_malformed, line_unanswered, line_good, from_nothing}
use Rattle.weights.specs.Reading.{GoodAt, MalformedAt}

module _ (answer_of : Answers) (csv : List ℕ) where
  -- the lines from place `at` on, of which the first has number k and a bale from `next` on, with the totals ts so far
  unfoldable pub weighing_at : ℕ → ℕ → ℕ → List ℕ → Weighing
  weighing_at at k next ts = weighing_from answer_of k next ts (lines_of (drop at csv))

  module _ (at k next : ℕ) (ts : List ℕ) where
    pub at-end : length csv ≤ at → weighing_at at k next ts ≡ weighed k ts
    unfolding weighing_at lines_of
    at-end h = ap (λ (l : List ℕ). weighing_from answer_of k next ts (lines_of l)) (drop_of_length-le csv h) ∙ from_nothing answer_of k next ts

    pub at_malformed : MalformedAt next csv at → weighing_at at k next ts ≡ refused_at 14 k
    unfolding weighing_at
    at_malformed m =
        let s = lines_some (get_or csv at 0) (drop (suc at) csv) in
        let e : lines_of (drop at csv) ≡ s.0 ∷ s.1 = ap lines_of (drop-cons csv at 0 m.there) ∙ s.2 in
        ap (weighing_from answer_of k next ts) e ∙ line_malformed answer_of k next ts s.0 s.1 (m.none_good s.0 s.1 e)

    module _ (b w after : ℕ) (g : GoodAt next csv at b w after) where
      pub at_unanswered : answer_of b ≡ none → weighing_at at k next ts ≡ refused_at 15 k
      unfolding weighing_at
      at_unanswered h = ap (weighing_from answer_of k next ts) g.first ∙ line_unanswered answer_of k next ts g.line (lines_of (drop after csv)) (record { bale = b; kilograms = w }) g.row h

      pub at_good : (ps : List PartAnswer) → answer_of b ≡ some ps → weighing_at at k next ts ≡ weighing_at after (suc k) (suc b) (add_each (grams_in (record { bale = b; kilograms = w }) ps) 0 ts)
      unfolding weighing_at
      at_good ps h = ap (weighing_from answer_of k next ts) g.first ∙ line_good answer_of k next ts g.line (lines_of (drop after csv)) (record { bale = b; kilograms = w }) ps g.row h
