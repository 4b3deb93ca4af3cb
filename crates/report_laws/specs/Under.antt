-- The bale under reads: other reads, other settings in their range, and other buffers that are large enough, are accepted alike.
use Rattle.std.specs.Prelude.{ℕ, ◌+◌, ◌*◌, ◌≡◌, refl, Bool, true, false, ◌||◌, List, [], ◌∷◌, map, ltb, leb, length, replicate}
use Rattle.std.proofs.Common.{sym, ap, ◌∙◌, subst}
use Rattle.std.specs.Float.Ieee.{le}
use Rattle.std.proofs.lemmas.List.{length-map, length-replicate}
use Rattle.definition.specs.Lists.{range}
use Rattle.definition.specs.Settings.{Settings}
use Rattle.definition.specs.FactorGraph.{Pair, Bale}
use Rattle.definition.specs.Refusals.{Buffers, accepted, outside, least_probability, greatest_probability, too_many, work_needed, too_small, bad_tolerance, bad_evidence, unknown_pair, too_many_grades, verdict}
use Rattle.definition.specs.Reads.{read_evidence, with_reads, all_weak}
use Rattle.graph_laws.specs.Lists.{All}
use Rattle.graph_laws.specs.Accepted.{passes_all, all-passed}

-- ---- a read passes check 5

good_read : (r : Bool) → bad_evidence (read_evidence r) ≡ false
unfolding bad_evidence outside le
good_read true = refl
good_read false = refl

pub good_reads : (rs : List Bool) → All (λ c. c ≡ false) (map bad_evidence (map read_evidence rs))
good_reads [] = tt
good_reads (r ∷ rs) = (good_read r, good_reads rs)

-- ---- as many markers

pub markers_under : (b : Bale) (rs : List Bool) → length (with_reads rs b).markers ≡ length rs
unfolding with_reads
markers_under b rs = length-map rs read_evidence

pub all-weak_markers : (b : Bale) → length (all_weak b).markers ≡ length b.markers
unfolding all_weak
all-weak_markers b = markers_under b (replicate (length b.markers) false) ∙ length-replicate (length b.markers) false

-- ---- other reads, other settings, and other buffers

-- alpha, beta and prior lie in their range
abbrev pub InRange : Settings → Type 0
InRange s = All (λ c. c ≡ false) (map (outside least_probability greatest_probability) (s.alpha ∷ s.beta ∷ s.prior ∷ []))

pub reads_accepted :
    (s t : Settings) (e f : Buffers) (b : Bale) (qs rs : List Bool) → length qs ≡ length rs → InRange t → s.tolerance ≡ t.tolerance → s.loop_limit ≡ t.loop_limit →
    too_small f (with_reads rs b) ≡ false → verdict s e (with_reads qs b) ≡ accepted → verdict t f (with_reads rs b) ≡ accepted
unfolding with_reads too_many unknown_pair too_many_grades
reads_accepted s t e f b qs rs n inside same-tolerance same-limit room h =
    let p = passes_all s e (with_reads qs b) h in
    let k : length (map read_evidence qs) ≡ length (map read_evidence rs) = markers_under b qs ∙ n ∙ sym (markers_under b rs) in
    all-passed t f (with_reads rs b)
    record {
      sizes = subst (λ (m : ℕ). All (λ c. c ≡ false) ((ltb 1024 b.grades || ltb 1024 m || ltb 8192 (length b.pairs)) ∷ [])) k p.sizes;
      buffers = (room, tt);
      numbers = inside;
      loop = (ap bad_tolerance (sym same-tolerance) ∙ p.loop.0, (ap (ltb 1000000) (sym same-limit) ∙ p.loop.1.0, tt));
      evidence = good_reads rs;
      known = subst (λ (m : ℕ). All (λ c. c ≡ false) (map (λ (q : Pair). leb b.grades q.grade || leb m q.marker) b.pairs)) k p.known;
      once = p.once;
      few = subst (λ (m : ℕ). All (λ c. c ≡ false) (map (too_many_grades b) (range 0 m))) k p.few;
    }

work_under : (b : Bale) (qs rs : List Bool) → length qs ≡ length rs → work_needed (with_reads qs b) ≡ work_needed (with_reads rs b)
unfolding with_reads work_needed
work_under b qs rs n = ap (λ (m : ℕ). 64 * (b.grades + m + length b.pairs) + 4096) (markers_under b qs ∙ n ∙ sym (markers_under b rs))

pub room_under : (f : Buffers) (b : Bale) (qs rs : List Bool) → length qs ≡ length rs → too_small f (with_reads qs b) ≡ too_small f (with_reads rs b)
unfolding with_reads too_small work_needed
room_under f b qs rs n =
    let g = b.grades in
    ap
    (λ (w : ℕ).
    ltb f.work_floats w || ltb f.work_numbers w || ltb f.belief_numbers g || ltb f.belief_floats (2 * g) || ltb f.ending_numbers (4 * g)
    || ltb f.ending_floats g)
    (work_under b qs rs n)
