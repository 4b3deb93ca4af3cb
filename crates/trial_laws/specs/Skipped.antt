-- No draw of a made-up bale is skipped.
use Prim.Native.Nat.{ℕ, suc, ◌+◌}
use Rattle.std.proofs.Common.{arith, ◌∙◌}
use Rattle.std.specs.Prelude.{◌≡◌, Bool}
use Rattle.std.proofs.Math.Path.{refl, sym, ap}
use mathlib.Core.List.{List, [], ◌∷◌, map}
use Rattle.std.proofs.Math.ListN.{length, take, drop, length-append, length-replicate}
use Rattle.std.proofs.lemmas.List.{length-map}
use Rattle.definition.specs.Lists.{concat}
use Rattle.definition.specs.FactorGraph.{Bale, marker_numbers, grades_of}
use Rattle.definition.specs.Trials.{draw_each, any_of, TrialSetting, present_among, marker_limits, read_limits, grade_limits, made_up}
use Rattle.claims.specs.TriedSettings.{total, number_after, bale_limits, bale_successes, cut_like, NoDrawSkipped}
use Rattle.graph_laws.specs.Lists.{length_count}
use Rattle.trial_laws.specs.Draws.{draws_state, draw-at, append_state, reads-state, first_successes, later_successes, reads-cut}

module _ (t : TrialSetting) (b : Bale) (present : List Bool) where
  -- the limits of the markers ms are one for each and one for each present grade
  limits_count :
      (ms : List ℕ) →
      length (concat (map (λ m. marker_limits t present (grades_of b.pairs m)) ms))
      ≡ length ms + total (map (λ m. length (present_among present (grades_of b.pairs m))) ms)
  unfolding marker_limits
  limits_count [] = refl
  limits_count (m ∷ ms) =
      let own = marker_limits t present (grades_of b.pairs m) in
      let gs = present_among present (grades_of b.pairs m) in
      let rest = concat (map (λ k. marker_limits t present (grades_of b.pairs k)) ms) in
      let e : length own ≡ suc (length gs) = ap suc (length-map gs (λ g. t.alpha)) in
      omega (arith, length-append own rest, limits_count ms)

module _ (t : TrialSetting) (b : Bale) (x : ℕ) where
  abbrev present : List Bool
  present = (made_up t b x).presences

  abbrev rest : List ℕ
  rest = concat (read_limits t b present)

  grades_count : length (grade_limits t b) ≡ b.grades
  unfolding grade_limits
  grades_count = length-replicate b.grades t.prior

  count :
      length (bale_limits t b x) ≡ b.grades + length b.markers + total (map (λ m. length (present_among present (grades_of b.pairs m))) (marker_numbers b))
  unfolding read_limits
  count =
      omega
      (arith, length-append (grade_limits t b) rest, grades_count, limits_count t b present (marker_numbers b), length_count 0 (length b.markers))

  state : (made_up t b x).state ≡ number_after (length (bale_limits t b x)) x
  unfolding made_up
  state =
      reads-state (read_limits t b present) (draw_each (grade_limits t b) x).state
      ∙ sym (append_state (grade_limits t b) rest x)
      ∙ draws_state (bale_limits t b x) x

  presences : present ≡ take b.grades (bale_successes t b x)
  unfolding made_up
  presences = sym (ap (λ (n : ℕ). take n (bale_successes t b x)) (sym grades_count) ∙ first_successes (grade_limits t b) rest x)

  reads : (made_up t b x).reads ≡ map any_of (cut_like (read_limits t b present) (drop b.grades (bale_successes t b x)))
  unfolding made_up
  reads =
      reads-cut (read_limits t b present) (draw_each (grade_limits t b) x).state
      ∙ ap (λ (bs : List Bool). map any_of (cut_like (read_limits t b present) bs))
      (sym (later_successes (grade_limits t b) rest x) ∙ ap (λ (n : ℕ). drop n (bale_successes t b x)) grades_count)

-- claim (3)
pub no_draw_skipped : NoDrawSkipped
no_draw_skipped t b x =
    record { count = count t b x; each = λ i h. draw-at (bale_limits t b x) x i h; state = state t b x; presences = presences t b x; reads = reads t b x }
