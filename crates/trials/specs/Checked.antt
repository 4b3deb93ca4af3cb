-- The checks of a call that tries settings: where number 3 stands among those of the plain call.
use Rattle.std.specs.Prelude.{ℕ, suc, ◌*◌, ◌/◌, ◌≤◌, ◌<◌, ◌≡◌, refl, Bool, true, false, ◌||◌, List, [], ◌∷◌, map, eqb, ltb, Float, get_or, take}
use Rattle.std.proofs.Common.{arith, ◌∙◌, lt-ltb, le-ltb, get_or-take, length-take-le}
use Rattle.std.proofs.Math.Path.{sym, ap}
use Rattle.std.proofs.Math.Option.{Option, none, some}
use Rattle.std.proofs.Math.ListN.{length}
use Rattle.std.proofs.lemmas.List.{length-map}
use Rattle.definition.specs.Settings.{Settings}
use Rattle.definition.specs.FactorGraph.{Bale}
use Rattle.definition.specs.Refusals.{Verdict, accepted, refused, too_many, too_small, markers_of, bale_of, lowest_place_from, lowest_place, or_refused, verdict}
use Rattle.definition.specs.Reads.{all_weak}
use Rattle.definition.specs.Report.{ReportBuffers, ample_for, sizes_verdict}
use Rattle.definition.specs.Trials.{Trials, outside_range, setting_tests, trial_verdict, trial_settings_of, trials_of}
use Rattle.graph_laws.specs.Bools.{or_left, or_right}
use Rattle.report_laws.specs.Sizes.{later, sizes_once}
use Rattle.trial_laws.specs.Table.{halves}
use Rattle.checks.specs.Searching.{get_d_map}
use Rattle.checks.specs.Slices.{length_markers}
use Rattle.trials.specs.Each.{length-settings}

-- 3, where its tests found o, behind 1 and 2 of the verdict v and ahead of its other numbers
abbrev pub with_three : Option ℕ → Verdict → Verdict
with_three o accepted = or_refused 3 o accepted
with_three o (refused n p) = elim (ltb n 3) [ true ↦ refused n p | false ↦ or_refused 3 o (refused n p) ]

-- ---- the tests of the settings

-- one for each number that belongs to a setting
abbrev pub tests : List ℕ → List Bool
tests ns = map outside_range (take (3 * (length ns / 3)) ns)

pub tests_are : (ns : List ℕ) → setting_tests (trial_settings_of ns) ≡ tests ns
unfolding setting_tests trial_settings_of
tests_are [] = refl
tests_are (a ∷ []) = refl
tests_are (a ∷ b ∷ []) = refl
tests_are (a ∷ b ∷ p ∷ l) =
    let e : 3 * (length (a ∷ b ∷ p ∷ l) / 3) ≡ suc (suc (suc (3 * (length l / 3)))) = omega arith in
    ap (λ (bs : List Bool). outside_range a ∷ outside_range b ∷ outside_range p ∷ bs) (tests_are l)
    ∙ ap (λ (n : ℕ). map outside_range (take n (a ∷ b ∷ p ∷ l))) (sym e)

pub tests-length : (ns : List ℕ) → length (tests ns) ≡ 3 * (length ns / 3)
tests-length ns = length-map (take (3 * (length ns / 3)) ns) outside_range ∙ length-take-le (3 * (length ns / 3)) ns (omega arith)

pub test_at : (ns : List ℕ) (i : ℕ) → i < 3 * (length ns / 3) → get_or (tests ns) i false ≡ outside_range (get_or ns i 0)
test_at ns i h =
    let k = 3 * (length ns / 3) in
    let l : i < length (take k ns) = let e = length-take-le k ns (omega arith) in omega arith in
    get_d_map outside_range (take k ns) i 0 l ∙ ap outside_range (get_or-take k ns i 0 h)

-- ---- 3 behind 1 and 2, and ahead of what comes later

pub three-behind : (o : Option ℕ) (v : Verdict) (n p : ℕ) → v ≡ refused n p → n < 3 → refused n p ≡ with_three o v
three-behind o v n p e h = rw (e, lt-ltb n 3 h, with_three)

pub three_ahead : (o : Option ℕ) (n p : ℕ) → 3 ≤ n → with_three o (refused n p) ≡ or_refused 3 o (refused n p)
three_ahead o n p h = rw (le-ltb n 3 h, with_three)

ahead : (n : ℕ) (p o : Option ℕ) (v : Verdict) → 3 ≤ n → with_three o v ≡ or_refused 3 o v → with_three o (or_refused n p v) ≡ or_refused 3 o (or_refused n p v)
unfolding or_refused
ahead n none o v l h = h
ahead n (some q) o v l h = three_ahead o n q l

behind : (c d : Bool) (o : Option ℕ) (v : Verdict) → with_three o v ≡ or_refused 3 o v →
    or_refused 1 (lowest_place (c ∷ [])) (or_refused 2 (lowest_place (d ∷ [])) (or_refused 3 o v))
    ≡ with_three o (or_refused 1 (lowest_place (c ∷ [])) (or_refused 2 (lowest_place (d ∷ [])) v))
unfolding or_refused lowest_place lowest_place_from
behind true d o v h = refl
behind false true o v h = refl
behind false false o v h = sym h

module _ (s : Settings) (f : ReportBuffers) (n : ℕ) (b : Bale) (o : Option ℕ) where
  later_ahead : with_three o (later s b (length b.markers) none) ≡ or_refused 3 o (later s b (length b.markers) none)
  later_ahead =
      ahead 3 _ o _ (omega arith)
      (ahead 4 _ o _ (omega arith) (ahead 5 none o _ (omega arith) (ahead 6 _ o _ (omega arith) (ahead 7 _ o _ (omega arith) (ahead 8 _ o accepted (omega arith) refl)))))

  pub three-between :
      sizes_verdict f n b (or_refused 3 o (verdict s (ample_for f b) (all_weak b)))
      ≡ with_three o (sizes_verdict f n b (verdict s (ample_for f b) (all_weak b)))
  unfolding sizes_verdict
  three-between =
      sizes_once s f n b (or_refused 3 o)
      ∙ behind (too_many 1024 1024 8192 b) (ltb f.report n || too_small (ample_for f b) b) o _ later_ahead
      ∙ ap (with_three o) (sym (sizes_once s f n b (λ v. v)))

-- ---- the verdict

-- a check of one test
one-true : (n : ℕ) (b : Bool) (v : Verdict) → b ≡ true → or_refused n (lowest_place (b ∷ [])) v ≡ refused n 0
unfolding or_refused lowest_place lowest_place_from
one-true n b v e = rw e

one-false : (n : ℕ) (b : Bool) (v : Verdict) → b ≡ false → or_refused n (lowest_place (b ∷ [])) v ≡ v
unfolding or_refused lowest_place lowest_place_from
one-false n b v e = rw e

module _ (f : ReportBuffers) (ns : List ℕ) (seed bales : ℕ) (r : Bool) (t : Float) (l g : ℕ) (es : List Float) (ps : List ℕ) where
  abbrev b : Bale
  b = bale_of g es ps

  abbrev c : Trials
  c = trials_of ns seed bales r t l g es ps

  abbrev many : Bool
  many = ltb 64 (length (trial_settings_of ns)) || ltb 1000 bales

  pub refused_seed : eqb seed 0 ≡ true → refused 16 0 ≡ trial_verdict f c
  unfolding trial_verdict
  refused_seed x = sym (one-true 16 _ _ x)

  module _ (x : eqb seed 0 ≡ false) where
    pub refused_many : many ≡ true → refused 17 0 ≡ trial_verdict f c
    unfolding trial_verdict
    refused_many y = sym (one-false 16 _ _ x ∙ one-true 17 _ _ y)

    module _ (y : many ≡ false) where
      pub refused_markers : 1024 < length es / 2 → refused 1 0 ≡ trial_verdict f c
      unfolding trial_verdict sizes_verdict too_many bale_of
      refused_markers h =
          let k : 1024 < length (markers_of es) = omega (arith, length_markers es) in
          sym (one-false 16 _ _ x ∙ one-false 17 _ _ y ∙ one-true 1 _ _ (or_left _ _ (or_right (ltb 1024 g) _ (lt-ltb _ _ k))))

      pub left-to-rest :
          with_three (lowest_place (setting_tests (trial_settings_of ns))) (sizes_verdict f (2 * (length ns / 3)) b (verdict (halves c) (ample_for f b) (all_weak b)))
          ≡ trial_verdict f c
      unfolding trial_verdict
      left-to-rest =
          let three = lowest_place (setting_tests (trial_settings_of ns)) in
          sym
          (one-false 16 _ _ x ∙ one-false 17 _ _ y ∙ three-between (halves c) f _ b three
          ∙ ap (λ (n : ℕ). with_three three (sizes_verdict f (2 * n) b (verdict (halves c) (ample_for f b) (all_weak b)))) (length-settings ns))
