-- What is read back from the buffers of an accepted call is its answer; and a bale given as a call's arguments is that bale.
use Rattle.std.specs.Prelude.{ℕ, suc, ◌*◌, List, [], ◌∷◌, ◌++◌, map, Float, drop}
use native.Mathlib.Omega.{arith}
use Rattle.std.proofs.Math.Path.{◌≡◌, refl, sym}
use Rattle.std.proofs.Common.{ap, ◌∙◌, append_assoc, length-append, drop_at}
use Rattle.std.proofs.lemmas.List.{map-append, length-map}
use Rattle.std.proofs.Math.ListN.{length}
use Rattle.definition.specs.Settings.{Settings}
use Rattle.definition.specs.FactorGraph.{Evidence, Pair, Bale}
use Rattle.definition.specs.Run.{Ending, limit, settled, empty}
use Rattle.definition.specs.Answer.{Belief, PartAnswer, answer, ending_number, ending_residual, answered_beliefs, belief_numbers, belief_floats, ending_numbers, ending_floats}
use Rattle.definition.specs.Refusals.{markers_of, pairs_of, bale_of, Verdict, accepted, refused, verdict}
use Rattle.definition.specs.Call.{Lent, sizes_of, answered, Result, answered_by, result_of, call}
use Rattle.claims.specs.Claims.{relabel_belief, relabel_answer}
use Rattle.claims.specs.CallByParts.{ending_of, beliefs_in, answers_in, read_back, evidence_floats, pair_numbers}
use Rattle.graph_laws.specs.Lists.{All, All-left, All-right}
use Rattle.graph_laws.specs.AnswerSizes.{TwoFloats, numbers-length, floats_append, floats_length, answer_floats}
use Rattle.graph_laws.specs.CallLengths.{call_accepted}

pub ending-back : (e : Ending) → ending_of (ending_number e) (ending_residual e) ≡ e
unfolding ending_number ending_residual
ending-back (limit r) = refl
ending-back (settled r) = refl
ending-back empty = refl

-- ---- beliefs behind one another

pub numbers_append : (bs cs : List Belief) → belief_numbers (bs ++ cs) ≡ belief_numbers bs ++ belief_numbers cs
unfolding belief_numbers
numbers_append bs cs = map-append (λ (b : Belief). b.grade) bs cs

-- ---- read back from the front of the buffers, whatever stands behind

beliefs-read :
    (bs : List Belief) → All TwoFloats bs → (ns : List ℕ) (xs : List Float) →
    beliefs_in (length bs) (belief_numbers bs ++ ns) (belief_floats bs ++ xs) ≡ bs
unfolding beliefs_in belief_numbers belief_floats
beliefs-read [] t ns xs = refl
beliefs-read (b ∷ bs) t ns xs = go b.value refl t.0 (beliefs-read bs t.1 ns xs)
  where
    go : (v : List Float) → b.value ≡ v → length v ≡ 2 → beliefs_in (length bs) (belief_numbers bs ++ ns) (belief_floats bs ++ xs) ≡ bs
        → beliefs_in (suc (length bs)) (b.grade ∷ belief_numbers bs ++ ns) ((v ++ belief_floats bs) ++ xs) ≡ b ∷ bs
    go [] e l r = absurd (let z : ⊥ = omega arith in z)
    go (x ∷ []) e l r = absurd (let z : ⊥ = omega arith in z)
    go (x ∷ y ∷ []) e l r = λ i. record { grade = b.grade; value = sym e i } ∷ r i
    go (x ∷ y ∷ z ∷ v) e l r = absurd (let w : ⊥ = omega arith in w)

-- of one part before others
module _ (bs cs : List Belief) where
  numbers_split : (ns : List ℕ) → belief_numbers (bs ++ cs) ++ ns ≡ belief_numbers bs ++ (belief_numbers cs ++ ns)
  numbers_split ns = ap (λ (l : List ℕ). l ++ ns) (numbers_append bs cs) ∙ append_assoc (belief_numbers bs) (belief_numbers cs) ns

  floats_split : (xs : List Float) → belief_floats (bs ++ cs) ++ xs ≡ belief_floats bs ++ (belief_floats cs ++ xs)
  floats_split xs = ap (λ (l : List Float). l ++ xs) (floats_append bs cs) ∙ append_assoc (belief_floats bs) (belief_floats cs) xs

  first_read : All TwoFloats bs → (ns : List ℕ) (xs : List Float) → beliefs_in (length bs) (belief_numbers (bs ++ cs) ++ ns) (belief_floats (bs ++ cs) ++ xs) ≡ bs
  first_read two ns xs =
      (λ i. beliefs_in (length bs) (numbers_split ns i) (floats_split xs i))
      ∙ beliefs-read bs two (belief_numbers cs ++ ns) (belief_floats cs ++ xs)

  numbers-later : (ns : List ℕ) → drop (length bs) (belief_numbers (bs ++ cs) ++ ns) ≡ belief_numbers cs ++ ns
  numbers-later ns = ap (drop (length bs)) (numbers_split ns) ∙ drop_at (belief_numbers bs) (belief_numbers cs ++ ns) (length bs) (numbers-length bs)

  floats_later : All TwoFloats bs → (xs : List Float) → drop (2 * length bs) (belief_floats (bs ++ cs) ++ xs) ≡ belief_floats cs ++ xs
  floats_later two xs = ap (drop (2 * length bs)) (floats_split xs) ∙ drop_at (belief_floats bs) (belief_floats cs ++ xs) (2 * length bs) (floats_length bs two)

answers-read :
    (qs : List PartAnswer) → All TwoFloats (answered_beliefs qs) → (bn : List ℕ) (bf : List Float) (en : List ℕ) (ef : List Float) →
    answers_in (length qs) (belief_numbers (answered_beliefs qs) ++ bn) (belief_floats (answered_beliefs qs) ++ bf) (ending_numbers qs ++ en) (ending_floats qs ++ ef)
    ≡ qs
unfolding answers_in answered_beliefs ending_numbers ending_floats
answers-read [] t bn bf en ef = refl
answers-read (q ∷ qs) t bn bf en ef =
    let bs = q.beliefs in
    let cs = answered_beliefs qs in
    let two = All-left TwoFloats bs cs t in
    let later =
    (λ i. answers_in (length qs) (numbers-later bs cs bn i) (floats_later bs cs two bf i) (ending_numbers qs ++ en) (ending_floats qs ++ ef))
    ∙ answers-read qs (All-right TwoFloats bs cs t) bn bf en ef in
    λ i. record { number = q.number; ending = ending-back q.ending i; steps = q.steps; beliefs = first_read bs cs two bn bf i } ∷ later i

-- ---- the call

pub answered_read : (w : ℕ) (qs : List PartAnswer) (l : Lent) → All TwoFloats (answered_beliefs qs) → read_back (answered_by w qs l) ≡ qs
unfolding answered_by
answered_read w qs l t =
    answers-read qs t (drop (length (belief_numbers (answered_beliefs qs))) l.belief_numbers)
    (drop (length (belief_floats (answered_beliefs qs))) l.belief_floats)
    (drop (length (ending_numbers qs)) l.ending_numbers) (drop (length (ending_floats qs)) l.ending_floats)

pub call-read :
    (s : Settings) (g : ℕ) (es : List Float) (ps : List ℕ) (l : Lent) → verdict s (sizes_of l) (bale_of g es ps) ≡ accepted →
    read_back (call s g es ps l) ≡ answer s (bale_of g es ps)
call-read s g es ps l h = let b = bale_of g es ps in ap read_back (call_accepted s g es ps l h) ∙ answered_read _ (answer s b) l (answer_floats s b)

-- a call that answered was accepted, and its counts are the answer's
module _ (s : Settings) (g : ℕ) (es : List Float) (ps : List ℕ) (l : Lent) (m k : ℕ) (h : (call s g es ps l).outcome ≡ answered m k) where
  pub call_accepts : verdict s (sizes_of l) (bale_of g es ps) ≡ accepted
  unfolding call result_of
  call_accepts = go (verdict s (sizes_of l) (bale_of g es ps)) h
    where
      go : (v : Verdict) → (result_of v s (bale_of g es ps) l).outcome ≡ answered m k → v ≡ accepted
      go accepted e = refl
      go (refused n p) e = absurd (let z : ◌≡◌ {A = ℕ} 0 1 = cc in let w : ⊥ = omega arith in w)

  pub call_totals : (length (answered_beliefs (answer s (bale_of g es ps))) ≡ m) × (length (answer s (bale_of g es ps)) ≡ k)
  unfolding answered_by
  call_totals =
      let e = sym (ap (λ (r : Result). r.outcome) (call_accepted s g es ps l call_accepts)) ∙ h in
      let x : length (answered_beliefs (answer s (bale_of g es ps))) ≡ m = cc in
      let y : length (answer s (bale_of g es ps)) ≡ k = cc in
      (x, y)

-- ---- a bale as arguments

evidence-given : (es : List Evidence) → markers_of (evidence_floats es) ≡ es
unfolding markers_of
evidence-given [] = refl
evidence-given (e ∷ es) = ap (λ (l : List Evidence). e ∷ l) (evidence-given es)

pairs-given : (qs : List Pair) → pairs_of (pair_numbers qs) ≡ qs
unfolding pairs_of
pairs-given [] = refl
pairs-given (q ∷ qs) = ap (λ (l : List Pair). q ∷ l) (pairs-given qs)

pub bale-given : (b : Bale) → bale_of b.grades (evidence_floats b.markers) (pair_numbers b.pairs) ≡ b
unfolding bale_of
bale-given b = λ i. record { grades = b.grades; markers = evidence-given b.markers i; pairs = pairs-given b.pairs i }

-- answers led back have as many beliefs
pub relabelled_many : (n : ℕ) (gs : List ℕ) (qs : List PartAnswer) → length (answered_beliefs (map (relabel_answer n gs) qs)) ≡ length (answered_beliefs qs)
unfolding answered_beliefs
relabelled_many n gs [] = refl
relabelled_many n gs (q ∷ qs) =
    omega (
      arith,
      length-append (map (relabel_belief gs) q.beliefs) (answered_beliefs (map (relabel_answer n gs) qs)),
      length-append q.beliefs (answered_beliefs qs),
      length-map q.beliefs (relabel_belief gs),
      relabelled_many n gs qs,
    )
