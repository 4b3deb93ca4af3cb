-- `pattern::put_pattern` meets its contract.
use Rattle.std.proofs.Common.{ℕ, ◌+◌, ◌*◌, ◌/◌, ◌%◌, ◌^◌, ◌<◌, ◌≡◌, eqb, List, Float, length, arith, ap, ◌∙◌}
use Rattle.definition.specs.Call.{overwrite}
use Rattle.pattern_laws.specs.Numbers.{pattern_at}
use Rattle.reads.specs.Put.{put_read, read_floats}
use Rattle.patterns.specs.Pattern.{put_bit, bits_done}
use Rattle.patterns.proofs.pattern.put_pattern.Goals as goal

pub loop-m-preserved : goal.loop-m-preserved
loop-m-preserved c =
    let l = c.args.evidence.now in
    let m = c.loop-m.m in
    let p = c.args.p in
    let h : 2 * m + 1 < length l = omega arith in
    c.put_read.ensures ∙ ap (λ (x : List Float). put_read x m (eqb (p / 2 ^ m % 2) 1)) c.loop-m.invariant ∙ put_bit l m p h

pub returns : goal.returns
returns c =
    let l = c.args.evidence.now in
    let p = c.args.p in
    let e : c.loop-m.m ≡ c.args.markers = omega arith in
    c.loop-m.invariant ∙ ap (λ (k : ℕ). overwrite (read_floats (pattern_at k p)) l) e ∙ bits_done l c.args.markers p c.requires.0
