-- The checks of a call that answers with a report: those that the plain call makes of the graph with every marker read weakly.
use Rattle.std.specs.Prelude.{ℕ, ◌+◌, ◌*◌, ◌≤◌, ◌≡◌, refl, Bool, true, false, ◌||◌, [], ◌∷◌, map, leb, length, replicate}
use Rattle.std.proofs.Math.Path.{ap}
use Rattle.std.proofs.Common.{◌∙◌}
use Rattle.std.proofs.Math.Option.{Option, none}
use Rattle.std.proofs.Math.Dec.{ltb}
use Rattle.definition.specs.Lists.{range}
use Rattle.definition.specs.Settings.{Settings}
use Rattle.definition.specs.FactorGraph.{Pair, Bale}
use Rattle.definition.specs.Refusals.{Buffers, Verdict, accepted, outside, least_probability, greatest_probability, too_many, work_needed, too_small, bad_tolerance, bad_evidence, unknown_pair, lowest_place_from, lowest_place, repeated_pairs, too_many_grades, or_refused, verdict}
use Rattle.definition.specs.Reads.{with_reads, all_weak}
use Rattle.definition.specs.Report.{ReportBuffers, ample_for, sizes_verdict}
use Rattle.graph_laws.specs.Bools.{or_no, no_ltb}
use Rattle.graph_laws.specs.Accepted.{nowhere, no_place, passed}
use Rattle.graph_laws.specs.CallLengths.{room}
use Rattle.report_laws.specs.Under.{good_reads, all-weak_markers}

-- ---- the plain verdict on weak reads

module _ (s : Settings) (b : Bale) where
  -- what is left from 4 on, and from 3 on, 5 having found o, of so many markers
  abbrev pub from_four : ℕ → Option ℕ → Verdict
  from_four m o =
      or_refused 4 (lowest_place (bad_tolerance s.tolerance ∷ ltb 1000000 s.loop_limit ∷ []))
      (or_refused 5 o
      (or_refused 6 (lowest_place (map (λ (q : Pair). leb b.grades q.grade || leb m q.marker) b.pairs))
      (or_refused 7 (lowest_place (repeated_pairs [] b.pairs)) (or_refused 8 (lowest_place (map (too_many_grades b) (range 0 m))) accepted))))

  abbrev pub later : ℕ → Option ℕ → Verdict
  later m o = or_refused 3 (lowest_place (map (outside least_probability greatest_probability) (s.alpha ∷ s.beta ∷ s.prior ∷ []))) (from_four m o)

  abbrev judged_of : Buffers → ℕ → Option ℕ → Verdict
  judged_of f m o =
      let g = b.grades in
      let w = 64 * (g + m + length b.pairs) + 4096 in
      let small =
      ltb f.work_floats w || ltb f.work_numbers w || ltb f.belief_numbers g || ltb f.belief_floats (2 * g) || ltb f.ending_numbers (4 * g)
      || ltb f.ending_floats g in
      or_refused 1 (lowest_place ((ltb 1024 g || ltb 1024 m || ltb 8192 (length b.pairs)) ∷ [])) (or_refused 2 (lowest_place (small ∷ [])) (later m o))

  -- the bale with all markers read weakly is judged by its own markers' number, and 5 finds nothing
  pub weakly : (f : Buffers) → verdict s f (all_weak b)
      ≡ or_refused 1 (lowest_place (too_many 1024 1024 8192 b ∷ [])) (or_refused 2 (lowest_place (too_small f b ∷ [])) (later (length b.markers) none))
  unfolding verdict all_weak with_reads too_many work_needed too_small unknown_pair too_many_grades lowest_place
  weakly f =
      ap (judged_of f (length (all_weak b).markers)) (nowhere 0 (map bad_evidence (all_weak b).markers) (good_reads (replicate (length b.markers) false)))
      ∙ ap (λ (m : ℕ). judged_of f m none) (all-weak_markers b)

-- ---- 1 and 2 are made once

merged : (k : Verdict → Verdict) (c d e : Bool) (v : Verdict) →
    or_refused 1 (lowest_place (c ∷ [])) (or_refused 2 (lowest_place ((d || e) ∷ [])) (k (or_refused 1 (lowest_place (c ∷ [])) (or_refused 2 (lowest_place (e ∷ [])) v))))
    ≡ or_refused 1 (lowest_place (c ∷ [])) (or_refused 2 (lowest_place ((d || e) ∷ [])) (k v))
unfolding or_refused lowest_place lowest_place_from
merged k true d e v = refl
merged k false true e v = refl
merged k false false true v = refl
merged k false false false v = refl

module _ (s : Settings) (f : ReportBuffers) (n : ℕ) (b : Bale) where
  -- whatever checks k come between
  pub sizes_once : (k : Verdict → Verdict) →
      sizes_verdict f n b (k (verdict s (ample_for f b) (all_weak b))) ≡ sizes_verdict f n b (k (later s b (length b.markers) none))
  unfolding sizes_verdict
  sizes_once k =
      let c = too_many 1024 1024 8192 b in
      let d = ltb f.report n in
      let e = too_small (ample_for f b) b in
      ap (λ (v : Verdict). or_refused 1 (lowest_place (c ∷ [])) (or_refused 2 (lowest_place ((d || e) ∷ [])) (k v))) (weakly s b (ample_for f b))
      ∙ merged k c d e (later s b (length b.markers) none)

-- ---- what they leave known

pub record Sized (f : ReportBuffers) (n : ℕ) (b : Bale) : Type 0 where
  pub counts : too_many 1024 1024 8192 b ≡ false
  pub buffers : too_small (ample_for f b) b ≡ false
  pub report : n ≤ f.report
  pub work_floats : work_needed b ≤ f.work_floats
  pub work_numbers : work_needed b ≤ f.work_numbers

pub sizes-passed : (f : ReportBuffers) (n : ℕ) (b : Bale) (v : Verdict) → sizes_verdict f n b v ≡ accepted → Sized f n b × (v ≡ accepted)
unfolding sizes_verdict lowest_place ample_for
sizes-passed f n b v h =
    let one = passed 1 _ _ h in
    let two = passed 2 _ _ one.1 in
    let no = or_no _ _ (no_place 0 _ two.0).0 in
    let R = room (ample_for f b) b no.1 in
    (record { counts = (no_place 0 _ one.0).0; buffers = no.1; report = no_ltb _ _ no.0; work_floats = R.work_floats; work_numbers = R.work_numbers }, two.1)
