-- The call's contract can be met: whatever is lent, every buffer comes back with its length; a refusal leaves all as it was; what is answered fits.
use Rattle.std.specs.Prelude.{ℕ, ◌*◌, ◌^◌, ◌≤◌, ◌<◌, false, List, Float, drop, replicate}
use native.Mathlib.Omega.{arith}
use Rattle.std.proofs.Math.Path.{◌≡◌, refl, ap}
use Rattle.std.proofs.Math.ListN.{length}
use Rattle.std.proofs.lemmas.List.{length-replicate}
use Rattle.graph_laws.specs.Bools.{or_no, no_ltb}
use Rattle.definition.specs.Floats.{zeroᶠ}
use Rattle.definition.specs.Settings.{Settings}
use Rattle.definition.specs.FactorGraph.{Bale}
use Rattle.definition.specs.Answer.{answer, answered_beliefs, belief_numbers, belief_floats, ending_numbers, ending_floats}
use Rattle.definition.specs.Refusals.{Buffers, Verdict, accepted, refused, work_needed, too_small, bale_of, verdict}
use Rattle.definition.specs.Call.{Lent, sizes_of, answered, refused_at, overwrite, answered_by, result_of, call}
use Rattle.graph_laws.specs.Lists.{All, All-append, All-drop, All-replicate}
use Rattle.graph_laws.specs.Accepted.{passes_all, sized}
use Rattle.graph_laws.specs.Refused.{refused_small}
use Rattle.graph_laws.specs.AnswerSizes.{answer-sizes}
use Rattle.graph_laws.specs.Overwriting.{over-length}

-- m has every buffer as long as l has it
pub record SameLengths (m l : Lent) : Type 0 where
  pub work_floats : length m.work_floats ≡ length l.work_floats
  pub work_numbers : length m.work_numbers ≡ length l.work_numbers
  pub belief_numbers : length m.belief_numbers ≡ length l.belief_numbers
  pub belief_floats : length m.belief_floats ≡ length l.belief_floats
  pub ending_numbers : length m.ending_numbers ≡ length l.ending_numbers
  pub ending_floats : length m.ending_floats ≡ length l.ending_floats

-- the room that check 2 asks for
pub record Room (f : Buffers) (b : Bale) : Type 0 where
  pub work_floats : work_needed b ≤ f.work_floats
  pub work_numbers : work_needed b ≤ f.work_numbers
  pub belief_numbers : b.grades ≤ f.belief_numbers
  pub belief_floats : 2 * b.grades ≤ f.belief_floats
  pub ending_numbers : 4 * b.grades ≤ f.ending_numbers
  pub ending_floats : b.grades ≤ f.ending_floats

pub room : (f : Buffers) (b : Bale) → too_small f b ≡ false → Room f b
unfolding too_small work_needed
room f b h =
    let x5 = or_no _ _ h in
    let x4 = or_no _ _ x5.0 in
    let x3 = or_no _ _ x4.0 in
    let x2 = or_no _ _ x3.0 in
    let x1 = or_no _ _ x2.0 in
    record {
      work_floats = no_ltb _ _ x1.0;
      work_numbers = no_ltb _ _ x1.1;
      belief_numbers = no_ltb _ _ x2.1;
      belief_floats = no_ltb _ _ x3.1;
      ending_numbers = no_ltb _ _ x4.1;
      ending_floats = no_ltb _ _ x5.1;
    }

over-work : {A : Type 0} (w : ℕ) (x : A) (m : List A) → w ≤ length m → length (overwrite (replicate w x) m) ≡ length m
over-work w x m h = over-length (replicate w x) m (omega (arith, length-replicate w x))

-- ---- an answer keeps every length

answer-lengths : (s : Settings) (b : Bale) (l : Lent) → verdict s (sizes_of l) b ≡ accepted → SameLengths (answered_by (work_needed b) (answer s b) l).lent l
unfolding answered_by sizes_of
answer-lengths s b l h =
    let c = answer-sizes s (sizes_of l) b h in
    let r : Room (sizes_of l) b = room (sizes_of l) b (passes_all s (sizes_of l) b h).buffers.0 in
    record {
      work_floats = over-work (work_needed b) zeroᶠ l.work_floats r.work_floats;
      work_numbers = over-work (work_needed b) 0 l.work_numbers r.work_numbers;
      belief_numbers = over-length (belief_numbers (answered_beliefs (answer s b))) l.belief_numbers (omega (arith, c.belief_numbers_long, c.beliefs, r.belief_numbers));
      belief_floats = over-length (belief_floats (answered_beliefs (answer s b))) l.belief_floats (omega (arith, c.belief_floats_long, c.beliefs, r.belief_floats));
      ending_numbers = over-length (ending_numbers (answer s b)) l.ending_numbers (omega (arith, c.ending_numbers_long, c.parts, r.ending_numbers));
      ending_floats = over-length (ending_floats (answer s b)) l.ending_floats (omega (arith, c.ending_floats_long, c.parts, r.ending_floats));
    }

result_lengths : (s : Settings) (b : Bale) (l : Lent) (v : Verdict) → verdict s (sizes_of l) b ≡ v → SameLengths (result_of v s b l).lent l
unfolding result_of
result_lengths s b l accepted h = answer-lengths s b l h
result_lengths s b l (refused n p) h =
    record { work_floats = refl; work_numbers = refl; belief_numbers = refl; belief_floats = refl; ending_numbers = refl; ending_floats = refl }

-- ---- numbers that fit 32 bits stay so

-- every number of the buffers fits 32 bits
pub record NumbersFit (l : Lent) : Type 0 where
  pub work_numbers : All (λ n. n < 2 ^ 32) l.work_numbers
  pub belief_numbers : All (λ n. n < 2 ^ 32) l.belief_numbers
  pub ending_numbers : All (λ n. n < 2 ^ 32) l.ending_numbers

All-over : {A : Type 0} (P : A → Type 0) (xs m : List A) → All P xs → All P m → All P (overwrite xs m)
All-over P xs m h k = All-append P xs (drop (length xs) m) h (All-drop P (length xs) m k)

result_fits : (s : Settings) (b : Bale) (l : Lent) (v : Verdict) → verdict s (sizes_of l) b ≡ v → NumbersFit l → NumbersFit (result_of v s b l).lent
unfolding result_of answered_by
result_fits s b l (refused n p) h x = x
result_fits s b l accepted h x =
    let c = answer-sizes s (sizes_of l) b h in
    record {
      work_numbers = All-over (λ n. n < 2 ^ 32) (replicate (work_needed b) 0) l.work_numbers (All-replicate (λ n. n < 2 ^ 32) (work_needed b) 0 (omega arith)) x.work_numbers;
      belief_numbers = All-over (λ n. n < 2 ^ 32) (belief_numbers (answered_beliefs (answer s b))) l.belief_numbers c.belief_numbers_fit x.belief_numbers;
      ending_numbers = All-over (λ n. n < 2 ^ 32) (ending_numbers (answer s b)) l.ending_numbers c.ending_numbers_fit x.ending_numbers;
    }

-- ---- the call

module _ (s : Settings) (g : ℕ) (es : List Float) (ps : List ℕ) (l : Lent) where
  -- whatever is given, every buffer keeps its length
  pub call-lengths : SameLengths (call s g es ps l).lent l
  unfolding call
  call-lengths = result_lengths s (bale_of g es ps) l (verdict s (sizes_of l) (bale_of g es ps)) refl

  -- and numbers that fit 32 bits give numbers that do
  pub call_fits : NumbersFit l → NumbersFit (call s g es ps l).lent
  unfolding call
  call_fits = result_fits s (bale_of g es ps) l (verdict s (sizes_of l) (bale_of g es ps)) refl

  -- a refusal is the outcome, and every buffer is left as it was
  pub call_refused : (n p : ℕ) → verdict s (sizes_of l) (bale_of g es ps) ≡ refused n p → call s g es ps l ≡ record { outcome = refused_at n p; lent = l }
  unfolding call result_of
  call_refused n p h = ap (λ (v : Verdict). result_of v s (bale_of g es ps) l) h

  pub call_accepted : verdict s (sizes_of l) (bale_of g es ps) ≡ accepted
      → call s g es ps l ≡ answered_by (work_needed (bale_of g es ps)) (answer s (bale_of g es ps)) l
  unfolding call result_of
  call_accepted h = ap (λ (v : Verdict). result_of v s (bale_of g es ps) l) h

  -- the same, by the outcome; its number and place are small
  pub call_declined : (n p : ℕ) → (call s g es ps l).outcome ≡ refused_at n p → ((call s g es ps l).lent ≡ l) × (1 ≤ n) × (n ≤ 8) × (p < 8192)
  unfolding call result_of answered_by
  call_declined n p h = go (verdict s (sizes_of l) (bale_of g es ps)) refl h
    where
      go : (v : Verdict) → verdict s (sizes_of l) (bale_of g es ps) ≡ v → (result_of v s (bale_of g es ps) l).outcome ≡ refused_at n p
          → ((result_of v s (bale_of g es ps) l).lent ≡ l) × (1 ≤ n) × (n ≤ 8) × (p < 8192)
      go accepted q e = absurd (let z : ◌≡◌ {A = ℕ} 0 1 = cc in let w : ⊥ = omega arith in w)
      go (refused m k) q e =
          let r = refused_small s (sizes_of l) (bale_of g es ps) m k q in
          let x : m ≡ n = cc in
          let y : k ≡ p = cc in
          (refl, omega arith, omega arith, omega arith)

  -- so many beliefs and endings are at most the grades, and those at most 1,024
  pub call-counts : (n k : ℕ) → (call s g es ps l).outcome ≡ answered n k → (n ≤ g) × (k ≤ g) × (g ≤ 1024)
  unfolding call result_of answered_by bale_of
  call-counts n k h = go (verdict s (sizes_of l) (bale_of g es ps)) refl h
    where
      go : (v : Verdict) → verdict s (sizes_of l) (bale_of g es ps) ≡ v → (result_of v s (bale_of g es ps) l).outcome ≡ answered n k → (n ≤ g) × (k ≤ g) × (g ≤ 1024)
      go accepted q e =
          let c = answer-sizes s (sizes_of l) (bale_of g es ps) q in
          let z = sized (bale_of g es ps) (passes_all s (sizes_of l) (bale_of g es ps) q).sizes.0 in
          let x : length (answered_beliefs (answer s (bale_of g es ps))) ≡ n = cc in
          let y : length (answer s (bale_of g es ps)) ≡ k = cc in
          (omega (arith, c.beliefs), omega (arith, c.parts), z.grades)
      go (refused m q) r e = absurd (let z : ◌≡◌ {A = ℕ} 0 1 = cc in let w : ⊥ = omega arith in w)
