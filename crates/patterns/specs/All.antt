-- All patterns of an accepted call, one after the other.
use Rattle.std.specs.Prelude.{ℕ, zero, suc, ◌+◌, ◌*◌, ◌%◌, ◌^◌, ◌≤◌, ◌<◌, ◌≡◌, refl, Float, drop, replicate}
use Rattle.std.proofs.Common.{arith, le_trans, ◌∙◌, subst}
use Rattle.std.proofs.Math.Nat.{one-le-pow, pow-le-pow_right}
use Rattle.std.proofs.Math.Path.{sym, ap}
use mathlib.Core.List.{List}
use Rattle.std.proofs.Math.ListN.{length}
use Rattle.std.proofs.lemmas.List.{length-replicate}
use Rattle.definition.specs.Floats.{zeroᶠ}
use Rattle.definition.specs.Settings.{Settings}
use Rattle.definition.specs.FactorGraph.{Bale}
use Rattle.definition.specs.Refusals.{Buffers, accepted, work_needed, pairs_of, bale_of, verdict}
use Rattle.definition.specs.Answer.{answer, answered_beliefs}
use Rattle.definition.specs.Call.{overwrite}
use Rattle.definition.specs.Reads.{present_of}
use Rattle.definition.specs.Patterns.{pattern_counts}
use Rattle.graph_laws.specs.Accepted.{passes_all}
use Rattle.graph_laws.specs.AnswerSizes.{answer-sizes}
use Rattle.graph_laws.specs.CallLengths.{Room, room}
use Rattle.graph_laws.specs.Overwriting.{over-length, over_other, over_again}
use Rattle.report_laws.specs.Unread.{work-same}
use Rattle.pattern_laws.specs.Numbers.{pattern_at}
use Rattle.pattern_laws.specs.Report.{report_long}
use Rattle.reads.specs.Put.{read_floats}
use Rattle.reads.specs.Room.{read-bale}
use Rattle.reads.specs.Ran.{room_with}
use Rattle.patterns.specs.Tally.{started, started-long, start-long}
use Rattle.patterns.specs.Beliefs.{cell, stepped, tally, tally-long, tally-behind, tally-row}
use Rattle.patterns.specs.Pattern.{pattern_bale, markers_many, Ready, Added}
use Rattle.patterns.specs.Counting.{CountedTo, counted_start, counted_next, counted_rooms, present_in, counted_done}

pub record Countable (s : Settings) (g m : ℕ) (ps : List ℕ) (es wf wn r : ℕ) : Type 0 where
  pub markers : m ≤ 10
  pub evidence : es ≡ 2 * m
  pub report : 3 * g ≤ r
  pub accepts : (p : ℕ) → verdict s (room_with wf wn 1024 2048) (pattern_bale g m p ps) ≡ accepted

pub record CountedAll (s : Settings) (g m : ℕ) (ps : List ℕ) (wf : List Float) (wn r : List ℕ) (wf' : List Float) (wn' r' : List ℕ) : Type 0 where
  pub work_floats : wf' ≡ overwrite (replicate (work_needed (pattern_bale g m 0 ps)) zeroᶠ) wf
  pub work_numbers : wn' ≡ overwrite (replicate (work_needed (pattern_bale g m 0 ps)) 0) wn
  pub report : r' ≡ overwrite (pattern_counts s (pattern_bale g m 0 ps)) r

-- ---- a front that is written again and again

module _ {A : Type 0} (z : List A) where
  -- so many times
  abbrev pub written_times : ℕ → List A → List A
  written_times zero l = l
  written_times (suc k) l = overwrite z l

  pub written_next : (k : ℕ) (l : List A) → overwrite z (written_times k l) ≡ written_times (k + 1) l
  written_next zero l = refl
  written_next (suc k) l = over_again z l ∙ ap (λ (n : ℕ). written_times n l) (let e : suc (suc k) ≡ suc k + 1 = omega arith in e)

  pub written-long : (k : ℕ) (l : List A) → length z ≤ length l → length (written_times k l) ≡ length l
  written-long zero l h = refl
  written-long (suc k) l h = over-length z l h

  pub written_once : (k : ℕ) (l : List A) → 1 ≤ k → written_times k l ≡ overwrite z l
  written_once zero l h = absurd (let y : ⊥ = omega arith in y)
  written_once (suc k) l h = refl

pub few_patterns : (m : ℕ) → m ≤ 10 → 2 ^ m ≤ 1024
few_patterns m h = le_trans (pow-le-pow_right {n = 2} (omega arith) {i = m} {j = 10} h) (omega arith)

pub total-is : (m : ℕ) → m ≤ 10 → 1 * 2 ^ m % 4294967296 ≡ 2 ^ m
total-is m h = omega (arith, few_patterns m h)

pub countable_started :
    (s : Settings) (g m : ℕ) (ps : List ℕ) (es wf wn n : ℕ) (r l : List ℕ) → Countable s g m ps es wf wn (length r) → l ≡ overwrite (started g n) r →
    Countable s g m ps es wf wn (length l)
countable_started s g m ps es wf wn n r l C e =
    record { markers = C.markers; evidence = C.evidence; report = omega (arith, C.report, start-long g n r l C.report e); accepts = C.accepts }

-- ---- the loop

module _ (s : Settings) (g m : ℕ) (ps : List ℕ) where
  abbrev b : Bale
  b = pattern_bale g m 0 ps

  abbrev float_zeros : List Float
  float_zeros = replicate (work_needed (pattern_bale g m 0 ps)) zeroᶠ

  abbrev number_zeros : List ℕ
  number_zeros = replicate (work_needed (pattern_bale g m 0 ps)) 0

  -- p patterns are counted
  pub record CountedSo (p : ℕ) (es : ℕ) (wf₀ : List Float) (wn₀ r₀ : List ℕ) (wf : List Float) (wn r : List ℕ) : Type 0 where
    pub counts : CountedTo (present_in s (pattern_bale g m 0 ps) m) g (2 ^ m) p r₀ r
    pub floats : wf ≡ written_times (replicate (work_needed (pattern_bale g m 0 ps)) zeroᶠ) p wf₀
    pub numbers : wn ≡ written_times (replicate (work_needed (pattern_bale g m 0 ps)) 0) p wn₀
    pub evidence : es ≡ 2 * m

  same-work : (p : ℕ) → work_needed (pattern_bale g m p ps) ≡ work_needed (pattern_bale g m 0 ps)
  unfolding bale_of
  same-work p = work-same g (pairs_of ps) _ _ (markers_many g m p ps ∙ sym (markers_many g m 0 ps))

  module _ (wf₀ : List Float) (wn₀ r₀ : List ℕ) (es : ℕ) (C : Countable s g m ps es (length wf₀) (length wn₀) (length r₀)) where
    abbrev lent : Buffers
    lent = room_with (length wf₀) (length wn₀) 1024 2048

    fits : Room lent (pattern_bale g m 0 ps)
    fits = room lent b (passes_all s lent b (C.accepts 0)).buffers.0

    pub floats_long : (p k : ℕ) (wf : List Float) (wn r : List ℕ) → CountedSo p k wf₀ wn₀ r₀ wf wn r → length wf ≡ length wf₀
    floats_long p k wf wn r W = ap length W.floats ∙ written-long float_zeros p wf₀ (omega (arith, length-replicate (work_needed b) zeroᶠ, fits.work_floats))

    pub numbers-long : (p k : ℕ) (wf : List Float) (wn r : List ℕ) → CountedSo p k wf₀ wn₀ r₀ wf wn r → length wn ≡ length wn₀
    numbers-long p k wf wn r W = ap length W.numbers ∙ written-long number_zeros p wn₀ (omega (arith, length-replicate {A = ℕ} (work_needed b) 0, fits.work_numbers))

    pub so_ready : (p k : ℕ) (wf : List Float) (wn r : List ℕ) → CountedSo p k wf₀ wn₀ r₀ wf wn r → p < 2 ^ m → Ready s g m p ps (length wf) (length wn) r
    so_ready p k wf wn r W l =
        record {
          markers = C.markers;
          accepts = (λ i. verdict s (room_with (floats_long p k wf wn r W i) (numbers-long p k wf wn r W i) 1024 2048) (pattern_bale g m p ps)) ∙ C.accepts p;
          rooms = counted_rooms (present_in s b m) g (2 ^ m) p r₀ r W.counts l (few_patterns m C.markers) C.report;
        }

    -- the row of each grade has moved by what the pattern says of it
    row_moved : (p : ℕ) (r r' : List ℕ) → length r ≡ length r₀ → r' ≡ tally (answered_beliefs (answer s (pattern_bale g m p ps))) r → (h j : ℕ) → h < g → j ≤ 2 →
        cell r' h j ≡ stepped (present_in s (pattern_bale g m 0 ps) m p h) j (cell r h j)
    unfolding bale_of
    row_moved p r r' n e h j l k =
        let q = pattern_bale g m p ps in
        ap (λ (x : List ℕ). cell x h j) e
        ∙ tally-row (answered_beliefs (answer s q)) r h j k (omega (arith, n, C.report)) (answer-sizes s lent q (C.accepts p)).once
        ∙ ap (λ (x : Bale). stepped (present_of (answered_beliefs (answer s x)) h) j (cell r h j)) (sym (read-bale g (read_floats (pattern_at m 0)) ps (pattern_at m p)))

    pub so_next :
        (p k k' : ℕ) (wf : List Float) (wn r : List ℕ) (wf' : List Float) (wn' r' : List ℕ) → CountedSo p k wf₀ wn₀ r₀ wf wn r → p < 2 ^ m →
        Added s g m p ps wf wn r wf' wn' r' → k' ≡ k → CountedSo (p + 1) k' wf₀ wn₀ r₀ wf' wn' r'
    unfolding bale_of
    so_next p k k' wf wn r wf' wn' r' W l A e =
        let q = pattern_bale g m p ps in
        let xs = answered_beliefs (answer s q) in
        record {
          counts =
              counted_next (present_in s b m) g (2 ^ m) p r₀ r r' W.counts l (ap length A.report ∙ tally-long xs r)
              (ap (drop (3 * g)) A.report ∙ tally-behind xs r g (answer-sizes s lent q (C.accepts p)).below) (row_moved p r r' W.counts.long A.report);
          floats = A.work_floats ∙ (λ i. overwrite (replicate (same-work p i) zeroᶠ) (W.floats i)) ∙ written_next float_zeros p wf₀;
          numbers = A.work_numbers ∙ (λ i. overwrite (replicate (same-work p i) 0) (W.numbers i)) ∙ written_next number_zeros p wn₀;
          evidence = e ∙ W.evidence;
        }

    -- the report was started over r
    module _ (r : List ℕ) (start : r₀ ≡ overwrite (started g (2 ^ m)) r) where
      pub so_start : CountedSo 0 es wf₀ wn₀ r₀ wf₀ wn₀ r₀
      so_start = record { counts = counted_start (present_in s b m) g (2 ^ m) r r₀ start; floats = refl; numbers = refl; evidence = C.evidence }

      pub so_done : (p k : ℕ) (wf : List Float) (wn r' : List ℕ) → CountedSo p k wf₀ wn₀ r₀ wf wn r' → p ≡ 2 ^ m → CountedAll s g m ps wf₀ wn₀ r wf wn r'
      unfolding bale_of
      so_done p k wf wn r' W e =
          let some : 1 ≤ p = omega (arith, one-le-pow m 2 (omega arith)) in
          record {
            work_floats = W.floats ∙ written_once float_zeros p wf₀ some;
            work_numbers = W.numbers ∙ written_once number_zeros p wn₀ some;
            report =
                counted_done s b m (markers_many g m 0 ps) r₀ r' (subst (λ (n : ℕ). CountedTo (present_in s b m) g (2 ^ m) n r₀ r') e W.counts) C.report
                ∙ ap (overwrite (pattern_counts s b)) start
                ∙ over_other (pattern_counts s b) (started g (2 ^ m)) r (report_long s b ∙ sym (started-long g (2 ^ m)));
          }
