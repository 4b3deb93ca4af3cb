-- A run under reads: what a call with a report accepts is accepted with the run's own room for the answer.
use Rattle.std.specs.Prelude.{ℕ, ◌+◌, ◌*◌, ◌≡◌, refl, Bool, false, List, Float, length}
use Rattle.std.proofs.Common.{arith, sym, ap, ◌∙◌}
use Rattle.definition.specs.Settings.{Settings}
use Rattle.definition.specs.FactorGraph.{Bale}
use Rattle.definition.specs.Refusals.{accepted, work_needed, too_small, pairs_of, bale_of, verdict}
use Rattle.definition.specs.Reads.{with_reads}
use Rattle.definition.specs.Report.{ReportBuffers, ample_for}
use Rattle.graph_laws.specs.Bools.{no_or, ltb_no}
use Rattle.graph_laws.specs.Accepted.{passes_all, sized}
use Rattle.graph_laws.specs.CallLengths.{room}
use Rattle.report_laws.specs.Under.{reads_accepted}
use Rattle.reads.specs.Put.{read_floats, markers_of_reads}
use Rattle.reads.specs.Ran.{room_with}

-- room for the answer of any bale within the limits
answer_room : (s : Settings) (f : ReportBuffers) (b c : Bale) → verdict s (ample_for f b) c ≡ accepted →
    too_small (room_with f.work_floats f.work_numbers 1024 2048) c ≡ false
unfolding too_small work_needed ample_for
answer_room s f b c h =
    let p = passes_all s (ample_for f b) c h in
    let R = room (ample_for f b) c p.buffers.0 in
    let z = sized c p.sizes.0 in
    let g = c.grades in
    let w = 64 * (g + length c.markers + length c.pairs) + 4096 in
    no_or _ _
    (no_or _ _
    (no_or _ _
    (no_or _ _ (no_or _ _ (ltb_no f.work_floats w R.work_floats) (ltb_no f.work_numbers w R.work_numbers)) (ltb_no 1024 g z.grades))
    (ltb_no 2048 (2 * g) (omega (arith, z.grades))))
    (ltb_no 4096 (4 * g) (omega (arith, z.grades))))
    (ltb_no 1024 g z.grades)

-- the graph under reads, as they lie in a slice
pub read-bale : (g : ℕ) (es : List Float) (ps : List ℕ) (rs : List Bool) → with_reads rs (bale_of g es ps) ≡ bale_of g (read_floats rs) ps
unfolding with_reads bale_of
read-bale g es ps rs = λ i. record { grades = g; markers = sym (markers_of_reads rs) i; pairs = pairs_of ps }

pub run_accepted :
    (s : Settings) (f : ReportBuffers) (g : ℕ) (es : List Float) (ps : List ℕ) (rs : List Bool) →
    verdict s (ample_for f (bale_of g es ps)) (with_reads rs (bale_of g es ps)) ≡ accepted →
    verdict s (room_with f.work_floats f.work_numbers 1024 2048) (bale_of g (read_floats rs) ps) ≡ accepted
run_accepted s f g es ps rs h =
    let b = bale_of g es ps in
    let own = room_with f.work_floats f.work_numbers 1024 2048 in
    ap (verdict s own) (sym (read-bale g es ps rs))
    ∙ reads_accepted s s (ample_for f b) own b rs rs refl (passes_all s (ample_for f b) (with_reads rs b) h).numbers refl refl (answer_room s f b (with_reads rs b) h) h
