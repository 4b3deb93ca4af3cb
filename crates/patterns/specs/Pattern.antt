-- One pattern: the bale under its reads, what its run asks for, and what it adds.
use Rattle.std.specs.Prelude.{ℕ, suc, ◌+◌, ◌*◌, ◌/◌, ◌%◌, ◌^◌, ◌≤◌, ◌<◌, ◌≡◌, Bool, List, ◌++◌, eqb, Float, length, drop, replicate}
use Rattle.std.proofs.Common.{arith, sym, ap, ◌∙◌, subst, drop_of_length-le}
use Rattle.std.proofs.lemmas.List.{length-map, length-replicate}
use Rattle.definition.specs.Floats.{zeroᶠ}
use Rattle.definition.specs.Settings.{Settings}
use Rattle.definition.specs.FactorGraph.{Bale}
use Rattle.definition.specs.Refusals.{accepted, work_needed, bale_of, verdict}
use Rattle.definition.specs.Answer.{answer, answered_beliefs, belief_numbers, belief_floats}
use Rattle.definition.specs.Call.{overwrite}
use Rattle.definition.specs.Reads.{read_evidence}
use Rattle.graph_laws.specs.Lists.{All-mono, append_none}
use Rattle.graph_laws.specs.AnswerSizes.{answer-sizes}
use Rattle.pattern_laws.specs.Numbers.{pattern_at, length-pattern, pattern_snoc}
use Rattle.reads.specs.Put.{put_read, read_floats, markers_of_reads, length-reads, put_next}
use Rattle.reads.specs.Ran.{room_with, Ran}
use Rattle.patterns.specs.Tally.{tallied, Movable}
use Rattle.patterns.specs.Beliefs.{RowRoom, tally, tallied-beliefs, movable_beliefs}

-- ---- the reads of a pattern, as they lie in a slice

pub put_bit :
    (l : List Float) (m p : ℕ) → 2 * m + 1 < length l →
    put_read (overwrite (read_floats (pattern_at m p)) l) m (eqb (p / 2 ^ m % 2) 1) ≡ overwrite (read_floats (pattern_at (m + 1) p)) l
put_bit l m p h =
    let e : suc m ≡ m + 1 = omega arith in
    put_next (pattern_at m p) (eqb (p / 2 ^ m % 2) 1) l m (length-pattern m p) h
    ∙ ap (λ (rs : List Bool). overwrite (read_floats rs) l) (sym (pattern_snoc m p) ∙ ap (λ (k : ℕ). pattern_at k p) e)

pub bits_done : (l : List Float) (m p : ℕ) → length l ≡ 2 * m → overwrite (read_floats (pattern_at m p)) l ≡ read_floats (pattern_at m p)
bits_done l m p h =
    let fs = read_floats (pattern_at m p) in
    ap (λ (k : List Float). fs ++ k) (drop_of_length-le l {i = length fs} (omega (arith, length-reads (pattern_at m p), length-pattern m p))) ∙ append_none fs

-- ---- its run

-- the bale under pattern p
abbrev pub pattern_bale : ℕ → ℕ → ℕ → List ℕ → Bale
pattern_bale g m p ps = bale_of g (read_floats (pattern_at m p)) ps

pub reads-many : (m p : ℕ) → length (read_floats (pattern_at m p)) / 2 ≡ m
reads-many m p = omega (arith, length-reads (pattern_at m p), length-pattern m p)

pub markers_many : (g m p : ℕ) (ps : List ℕ) → length (pattern_bale g m p ps).markers ≡ m
unfolding bale_of
markers_many g m p ps = ap length (markers_of_reads (pattern_at m p)) ∙ length-map (pattern_at m p) read_evidence ∙ length-pattern m p

pub record Ready (s : Settings) (g m p : ℕ) (ps : List ℕ) (wf wn : ℕ) (r : List ℕ) : Type 0 where
  pub markers : m ≤ 10
  pub accepts : verdict s (room_with wf wn 1024 2048) (pattern_bale g m p ps) ≡ accepted
  pub rooms : (h : ℕ) → h < g → RowRoom r h

pub record Added (s : Settings) (g m p : ℕ) (ps : List ℕ) (wf : List Float) (wn r : List ℕ) (wf' : List Float) (wn' r' : List ℕ) : Type 0 where
  pub work_floats : wf' ≡ overwrite (replicate (work_needed (pattern_bale g m p ps)) zeroᶠ) wf
  pub work_numbers : wn' ≡ overwrite (replicate (work_needed (pattern_bale g m p ps)) 0) wn
  pub report : r' ≡ tally (answered_beliefs (answer s (pattern_bale g m p ps))) r

module _ (s : Settings) (g m p : ℕ) (ps : List ℕ) (wf : List Float) (wn r : List ℕ) (R : Ready s g m p ps (length wf) (length wn) r) (es : List Float) (e : es ≡ read_floats (pattern_at m p)) where
  abbrev b : Bale
  b = pattern_bale g m p ps

  pub reads-run : verdict s (room_with (length wf) (length wn) (length (replicate {A = ℕ} 1024 0)) (length (replicate 2048 zeroᶠ))) (bale_of g es ps) ≡ accepted
  reads-run =
      (λ i. verdict s (room_with (length wf) (length wn) (length-replicate {A = ℕ} 1024 0 i) (length-replicate 2048 zeroᶠ i)) (bale_of g (e i) ps)) ∙ R.accepts

  module _
      (bn : List ℕ) (bf : List Float) (count : ℕ) (wf' : List Float) (wn' bn' : List ℕ) (bf' : List Float)
      (A : Ran s (bale_of g es ps) wf wn bn bf count wf' wn' bn' bf') where
    ran : Ran s (pattern_bale g m p ps) wf wn bn bf count wf' wn' bn' bf'
    ran = subst (λ (x : List Float). Ran s (bale_of g x ps) wf wn bn bf count wf' wn' bn' bf') e A

    pub beliefs_movable : Movable count bn' bf' r
    unfolding bale_of
    beliefs_movable =
        let z = answer-sizes s (room_with (length wf) (length wn) 1024 2048) b R.accepts in
        let xs = answered_beliefs (answer s b) in
        rw (ran.count, ran.numbers, ran.floats)
        (movable_beliefs xs (drop (length (belief_numbers xs)) bn) (drop (length (belief_floats xs)) bf) r z.floats z.once
        (All-mono (λ h. h < g) (λ h. RowRoom r h) (λ h l. R.rooms h l) (belief_numbers xs) z.below))

    pub pattern-added : (r' : List ℕ) → r' ≡ tallied count bn' bf' r → Added s g m p ps wf wn r wf' wn' r'
    pattern-added r' q =
        let z = answer-sizes s (room_with (length wf) (length wn) 1024 2048) b R.accepts in
        let xs = answered_beliefs (answer s b) in
        record {
          work_floats = ran.work_floats;
          work_numbers = ran.work_numbers;
          report =
              q ∙ (λ i. tallied (ran.count i) (ran.numbers i) (ran.floats i) r)
              ∙ tallied-beliefs xs (drop (length (belief_numbers xs)) bn) (drop (length (belief_floats xs)) bf) r z.floats;
        }
