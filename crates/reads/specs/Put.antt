-- The reads as they lie in a slice of evidence, two floats to a marker.
use Rattle.std.specs.Prelude.{ℕ, suc, ◌+◌, ◌-◌, ◌*◌, ◌≤◌, ◌<◌, ◌≡◌, refl, Bool, false, List, [], ◌∷◌, ◌++◌, map, Float, length, get_or, set, take, replicate}
use Rattle.std.proofs.Common.{arith, sym, ap, ◌∙◌, length-take-le, take-suc, take_at}
use Rattle.std.specs.Float.{nan}
use Rattle.std.proofs.lemmas.List.{length-replicate, replicate-append-replicate}
use Rattle.definition.specs.Refusals.{markers_of}
use Rattle.definition.specs.Call.{overwrite}
use Rattle.definition.specs.Reads.{read_evidence}
use Rattle.graph_laws.specs.Overwriting.{over-two}

abbrev pub put_read : List Float → ℕ → Bool → List Float
put_read l m r = set (set l (2 * m) (read_evidence r).absent) (2 * m + 1) (read_evidence r).present

-- the evidence of a list of reads
abbrev pub read_floats : List Bool → List Float
read_floats [] = []
read_floats (r ∷ rs) = (read_evidence r).absent ∷ (read_evidence r).present ∷ read_floats rs

pub markers_of_reads : (rs : List Bool) → markers_of (read_floats rs) ≡ map read_evidence rs
unfolding markers_of
markers_of_reads [] = refl
markers_of_reads (r ∷ rs) = ap (λ l. read_evidence r ∷ l) (markers_of_reads rs)

pub length-reads : (rs : List Bool) → length (read_floats rs) ≡ 2 * length rs
length-reads [] = refl
length-reads (r ∷ rs) = omega (arith, length-reads rs)

reads_append : (qs rs : List Bool) → read_floats (qs ++ rs) ≡ read_floats qs ++ read_floats rs
reads_append [] rs = refl
reads_append (q ∷ qs) rs = ap (λ (l : List Float). (read_evidence q).absent ∷ (read_evidence q).present ∷ l) (reads_append qs rs)

-- one read more: the two floats behind the reads so far
pub put_next :
    (rs : List Bool) (r : Bool) (l : List Float) (m : ℕ) → length rs ≡ m → 2 * m + 1 < length l →
    put_read (overwrite (read_floats rs) l) m r ≡ overwrite (read_floats (rs ++ r ∷ [])) l
put_next rs r l m e h =
    over-two nan (read_floats rs) l (2 * m) (read_evidence r).absent (read_evidence r).present (omega (arith, length-reads rs)) h
    ∙ ap (λ (x : List Float). overwrite x l) (sym (reads_append rs (r ∷ [])))

-- the next of a list of reads
pub put-taken :
    (rs : List Bool) (l : List Float) (m : ℕ) → 2 * m + 1 < length l → m < length rs →
    put_read (overwrite (read_floats (take m rs)) l) m (get_or rs m false) ≡ overwrite (read_floats (take (m + 1) rs)) l
put-taken rs l m h k =
    let e : suc m ≡ m + 1 = omega arith in
    put_next (take m rs) (get_or rs m false) l m (length-take-le m rs (omega arith)) h
    ∙ ap (λ (qs : List Bool). overwrite (read_floats qs) l) (sym (take-suc rs m false k) ∙ ap (λ (j : ℕ). take j rs) e)

-- the first m of n weak reads, where they were put
pub weak-front : (l : List Float) (m n : ℕ) → m ≤ n → take (2 * m) (overwrite (read_floats (take m (replicate n false))) l) ≡ read_floats (replicate m false)
weak-front l m n h =
    let e : m + (n - m) ≡ n = omega arith in
    let few : take m (replicate n false) ≡ replicate m false =
    ap (λ (k : ℕ). take m (replicate k false)) (sym e)
    ∙ ap (take m) (sym (replicate-append-replicate m (n - m) false))
    ∙ take_at (replicate m false) (replicate (n - m) false) m (length-replicate m false) in
    ap (λ (rs : List Bool). take (2 * m) (overwrite (read_floats rs) l)) few
    ∙ take_at (read_floats (replicate m false)) _ (2 * m) (omega (arith, length-reads (replicate m false), length-replicate m false))
