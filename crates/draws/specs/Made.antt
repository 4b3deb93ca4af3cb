-- The grades' draws and then the markers' are a made-up bale.
use Rattle.std.specs.Prelude.{ℕ, ◌≤◌, ◌<◌, ◌≡◌, Bool, false, eqb, get_or, drop, replicate}
use Rattle.std.proofs.Common.{arith, ◌∙◌, subst}
use Rattle.std.proofs.Math.Path.{sym, ap}
use mathlib.Core.List.{List, map}
use Rattle.std.proofs.Math.ListN.{length, get_or-append}
use Rattle.std.proofs.lemmas.List.{length-replicate}
use Rattle.definition.specs.Lists.{range, filter}
use Rattle.definition.specs.FactorGraph.{Pair, Bale, grades_of}
use Rattle.definition.specs.Refusals.{pairs_of}
use Rattle.definition.specs.Call.{overwrite}
use Rattle.definition.specs.Trials.{Draws, draw_each, draw_reads, TrialSetting, present_among, marker_limits, read_limits, grade_limits, made_up}
use Rattle.graph_laws.specs.Lists.{All, All-every, All-filter, All-map-into, All-mono, filter_cong, map_cong}
use Rattle.graph_laws.specs.Overwriting.{over-length}
use Rattle.trial_laws.specs.Draws.{successes_length}
use Rattle.draws.specs.Model.{DrewBale}
use Rattle.draws.specs.Present.{Known, PresentCounted, count_limits, limits_at, GraphOf, limits_counted}

-- as many presences as grades
presences_length : (prior x grades : ℕ) → length (draw_each (replicate grades prior) x).successes ≡ grades
presences_length prior x grades = successes_length (replicate grades prior) x ∙ length-replicate grades prior

-- a slice over which all grades have drawn keeps its length
pub drawn_length :
    (prior x grades : ℕ) (p₀ p : List Bool) → grades ≤ length p₀ → p ≡ overwrite (draw_each (replicate grades prior) x).successes p₀ → length p ≡ length p₀
drawn_length prior x grades p₀ p h e =
    ap length e ∙ over-length (draw_each (replicate grades prior) x).successes p₀ (omega (arith, presences_length prior x grades))

-- what stands behind the presences is not read
unread : (ps l : List Bool) (gs : List ℕ) → All (λ g. g < length ps) gs → present_among (overwrite ps l) gs ≡ present_among ps gs
unread ps l gs h =
    filter_cong (λ g. get_or (overwrite ps l) g false) (λ g. get_or ps g false) gs
    (All-mono (λ g. g < length ps) (λ g. get_or (overwrite ps l) g false ≡ get_or ps g false) (λ g q. get_or-append ps (drop (length ps) l) false g q) gs h)

module _ (t : TrialSetting) (x g m : ℕ) (pairs : List ℕ) (p₀ r₀ : List Bool) (k : Known g m pairs) where
  grades-known : (i : ℕ) → All (λ h. h < g) (grades_of (pairs_of pairs) i)
  grades-known i =
      let own : Pair → Bool = λ q. eqb q.marker i in
      All-map-into (λ h. h < g) (λ (q : Pair). q.grade) (filter own (pairs_of pairs))
      (All-filter (λ q. q.grade < g) own (pairs_of pairs) (All-mono (λ q. (q.grade < g) × (q.marker < m)) (λ q. q.grade < g) (λ q z. z.0) (pairs_of pairs) k))

  module _ (b : Bale) (f : GraphOf b g m pairs) where
    limits_are : (ps : List Bool) (cs : List ℕ) → length ps ≡ g → PresentCounted (overwrite ps p₀) pairs cs → map (limits_at t cs) (range 0 m) ≡ read_limits t b ps
    unfolding read_limits
    limits_are ps cs e C =
        let each : (i : ℕ) → limits_at t cs i ≡ marker_limits t ps (grades_of (pairs_of pairs) i) =
        λ i. ap (count_limits t) (C i ∙ ap length (unread ps p₀ (grades_of (pairs_of pairs) i) (rw e (grades-known i)))) ∙ sym (limits_counted t ps (grades_of (pairs_of pairs) i)) in
        map_cong (limits_at t cs) (λ i. marker_limits t ps (grades_of (pairs_of pairs) i)) (range 0 m)
        (All-every (λ i. limits_at t cs i ≡ marker_limits t ps (grades_of (pairs_of pairs) i)) each (range 0 m))
        ∙ (λ j. map (λ i. marker_limits t ps (grades_of (sym f.pairs j) i)) (range 0 (sym f.markers j)))

    pub bale-made :
        (p r : List Bool) (at end : ℕ) (cs : List ℕ) →
        at ≡ (draw_each (replicate g t.prior) x).state →
        p ≡ overwrite (draw_each (replicate g t.prior) x).successes p₀ →
        PresentCounted p pairs cs →
        end ≡ (draw_reads (map (limits_at t cs) (range 0 m)) at).state →
        r ≡ overwrite (draw_reads (map (limits_at t cs) (range 0 m)) at).successes r₀ →
        DrewBale (made_up t b x) p₀ r₀ end p r
    unfolding made_up grade_limits
    bale-made p r at end cs a q c e o =
        let first = draw_each (replicate g t.prior) x in
        let given : first ≡ draw_each (grade_limits t b) x = ap (λ (n : ℕ). draw_each (replicate n t.prior) x) (sym f.grades) in
        let limits = limits_are first.successes cs (presences_length t.prior x g) (subst (λ (y : List Bool). PresentCounted y pairs cs) q c) in
        let d : draw_reads (map (limits_at t cs) (range 0 m)) at ≡ draw_reads (read_limits t b (draw_each (grade_limits t b) x).successes) (draw_each (grade_limits t b) x).state =
        ap (λ (y : List (List ℕ)). draw_reads y at) limits ∙ ap (draw_reads (read_limits t b first.successes)) a
        ∙ ap (λ (y : Draws). draw_reads (read_limits t b y.successes) y.state) given in
        record {
          state = e ∙ ap (λ (y : Draws). y.state) d;
          presences = q ∙ ap (λ (y : Draws). overwrite y.successes p₀) given;
          reads = o ∙ ap (λ (y : Draws). overwrite y.successes r₀) d;
        }
