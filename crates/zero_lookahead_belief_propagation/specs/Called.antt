-- The call as the code has it, and the definition's.
use Rattle.std.specs.Prelude.{ℕ, suc, ◌+◌, ◌-◌, ◌*◌, ◌/◌, ◌≤◌, ◌<◌, ◌≡◌, true, List, [], ◌∷◌, ◌++◌, T, Float, length, get_or, take, drop, replicate}
use Rattle.std.specs.Prelude as std
use Rattle.std.specs.Prelude.{Ok, Err}
use Rattle.std.proofs.Common.{arith, ◌∙◌, subst, length-take-le}
use Rattle.std.proofs.Math.Path.{sym, ap}
use Rattle.std.specs.Float.{binary32, nan}
use Rattle.std.specs.Float.Ieee.{fits}
use Rattle.std.proofs.lemmas.List.{length-replicate}
use Rattle.definition.specs.Floats.{zeroᶠ}
use Rattle.definition.specs.Settings.{Settings}
use Rattle.definition.specs.FactorGraph.{Bale}
use Rattle.definition.specs.Refusals.{markers_of, bale_of, work_needed, accepted, verdict}
use Rattle.definition.specs.Answer.{answer}
use Rattle.definition.specs.Call as definition
use Rattle.definition.specs.Call.{Lent, sizes_of, Result, answered, refused_at, overwrite, answered_by, call}
use Rattle.claims.specs.Parts.{EvidenceFits, AllEvidence, Binary32}
use Rattle.claims.specs.CallByParts.{AnsweredByParts}
use Rattle.message_bounds.specs.CallByParts.{call-by-parts}
use Rattle.graph_laws.specs.Accepted.{passes_all, sized}
use Rattle.graph_laws.specs.AnswerSizes.{answer-sizes}
use Rattle.graph_laws.specs.CallLengths.{Room, room, call_accepted}
use Rattle.checks.specs.declared.refusal.Refusal.{Refusal}
use Rattle.checks.specs.Verdicts.{number_of}
use Rattle.checks.specs.Accepted.{accepted_checked}
use Rattle.checks.specs.Slices.{length_markers, length_pairs}
use Rattle.zero_lookahead_belief_propagation.specs.declared.call.Counts.{Counts}
use Rattle.zero_lookahead_belief_propagation.specs.Answered.{Answers, answers_with, Written}
use Rattle.zero_lookahead_belief_propagation.specs.Calibrated.{AcceptedCall}

abbrev pub outcome_of : std.Result Counts Refusal → definition.Outcome
outcome_of (Ok c) = answered c.beliefs c.endings
outcome_of (Err r) = refused_at (number_of r.check) r.place

abbrev pub lent_with : List Float → List ℕ → List ℕ → List Float → List ℕ → List Float → Lent
lent_with wf wn bn bf en ef = record { work_floats = wf; work_numbers = wn; belief_numbers = bn; belief_floats = bf; ending_numbers = en; ending_floats = ef }

abbrev pub result_with : std.Result Counts Refusal → Lent → Result
result_with r l = record { outcome = outcome_of r; lent = l }

-- ---- demand 3 of it

-- two floats to a marker
evidence-fits : (es : List Float) → ((i : ℕ) → T (fits binary32 (get_or es i nan))) → AllEvidence EvidenceFits (markers_of es)
unfolding markers_of
evidence-fits [] h = tt
evidence-fits (x ∷ []) h = tt
evidence-fits (x ∷ y ∷ es) h = (record { absent = h 0; present = h 1 }, evidence-fits es (λ i. h (suc (suc i))))

pub all_fit :
    (s : Settings) (g : ℕ) (es : List Float) (ps : List ℕ) →
    fits binary32 s.alpha ≡ true → fits binary32 s.beta ≡ true → fits binary32 s.prior ≡ true →
    ((i : ℕ) → T (fits binary32 (get_or es i nan))) → Binary32 s (bale_of g es ps)
unfolding bale_of
all_fit s g es ps a b p h =
    record { settings = record { alpha = subst T (sym a) tt; beta = subst T (sym b) tt; prior = subst T (sym p) tt }; evidence = evidence-fits es h }

-- a result that is the definition's is answered by parts
pub by_parts :
    (s : Settings) (g : ℕ) (es : List Float) (ps : List ℕ) (l : Lent) → Binary32 s (bale_of g es ps) → (r : Result) → r ≡ call s g es ps l →
    (r ≡ call s g es ps l) × AnsweredByParts s g es ps l r
by_parts s g es ps l v r e = (e, subst (AnsweredByParts s g es ps l) (sym e) (call-by-parts s g es ps l v))

-- ---- an accepted call

-- the work that is needed, in the slices' lengths
abbrev needed : ℕ → List Float → List ℕ → ℕ
needed g es ps = 64 * (g + length es / 2 + length ps / 2) + 4096

module _ {A : Type 0} where
  -- the front of a slice, as it is lent, and what is left in the whole
  abbrev front_of : List A → ℕ → List A
  front_of l n = take (n - 0) (drop 0 l)

  abbrev with_front : List A → ℕ → List A → List A
  with_front l n x = take 0 l ++ (x ++ drop (n - 0) (drop 0 l))

  front_long : (l : List A) (n : ℕ) → n ≤ length l → length (front_of l n) ≡ n
  front_long l n h = length-take-le (n - 0) l (omega arith) ∙ omega arith

  front-filled : (l x : List A) (d : A) (n : ℕ) → n ≤ length l → x ≡ replicate (length (front_of l n)) d → with_front l n x ≡ overwrite (replicate n d) l
  front-filled l x d n h e =
      ap (λ (y : List A). y ++ drop (n - 0) l) (e ∙ ap (λ (k : ℕ). replicate k d) (front_long l n h))
      ∙ ap (λ (k : ℕ). replicate n d ++ drop k l) (let z : n - 0 ≡ length (replicate n d) = omega (arith, length-replicate n d) in z)

module _ (s : Settings) (g : ℕ) (es : List Float) (ps : List ℕ) (l : Lent) (h : verdict s (sizes_of l) (bale_of g es ps) ≡ accepted) where
  abbrev b : Bale
  b = bale_of g es ps

  needed-is : needed g es ps ≡ work_needed (bale_of g es ps)
  unfolding work_needed bale_of
  needed-is = omega (arith, length_markers es, length_pairs ps)

  pub call-counted : (g ≤ 1024) × (length es / 2 ≤ 1024) × (length ps / 2 ≤ 8192)
  call-counted = let c = accepted_checked s (sizes_of l) g es ps h in (c.grades, c.markers, c.pairs)

  rooms : Room (sizes_of l) (bale_of g es ps)
  rooms = room (sizes_of l) b (passes_all s (sizes_of l) b h).buffers.0

  pub floats_in : needed g es ps ≤ length l.work_floats
  unfolding sizes_of
  floats_in = omega (arith, needed-is, rooms.work_floats)

  pub numbers_in : needed g es ps ≤ length l.work_numbers
  unfolding sizes_of
  numbers_in = omega (arith, needed-is, rooms.work_numbers)

  pub call_asks : AcceptedCall s g es ps (length (front_of l.work_floats (needed g es ps))) (length (front_of l.work_numbers (needed g es ps))) (answers_with l.belief_numbers l.belief_floats l.ending_numbers l.ending_floats)
  unfolding sizes_of
  call_asks =
      let z = answer-sizes s (sizes_of l) b h in
      record {
        buffers = sizes_of l;
        accepts = h;
        floats_room = omega (arith, front_long l.work_floats (needed g es ps) floats_in, needed-is);
        words_room = omega (arith, front_long l.work_numbers (needed g es ps) numbers_in, needed-is);
        fits = record {
          belief_numbers = omega (arith, z.beliefs, rooms.belief_numbers);
          belief_floats = omega (arith, z.beliefs, rooms.belief_floats);
          ending_numbers = omega (arith, z.parts, rooms.ending_numbers);
          ending_floats = omega (arith, z.parts, rooms.ending_floats);
        };
      }

  module _ (m k : ℕ) (l' : Answers) (W : Written (answer s (bale_of g es ps)) (answers_with l.belief_numbers l.belief_floats l.ending_numbers l.ending_floats) m k l') where
    pub counts_small : (m < 4294967296) × (k < 4294967296)
    counts_small =
        let z = answer-sizes s (sizes_of l) b h in
        let q = sized b (passes_all s (sizes_of l) b h).sizes.0 in
        (omega (arith, W.beliefs_are, z.beliefs, q.grades), omega (arith, W.endings_are, z.parts, q.grades))

    pub call_answered : (x : List Float) (y : List ℕ) → x ≡ replicate (length (front_of l.work_floats (needed g es ps))) zeroᶠ → y ≡ replicate (length (front_of l.work_numbers (needed g es ps))) 0
        → result_with (Ok record { beliefs = m; endings = k }) (lent_with (with_front l.work_floats (needed g es ps) x) (with_front l.work_numbers (needed g es ps) y) l'.belief_numbers l'.belief_floats l'.ending_numbers l'.ending_floats)
        ≡ call s g es ps l
    unfolding answered_by
    call_answered x y ex ey =
        (λ i. record {
          outcome = answered (W.beliefs_are i) (W.endings_are i);
          lent = lent_with (fs i) (ns i) (W.is i).belief_numbers (W.is i).belief_floats (W.is i).ending_numbers (W.is i).ending_floats;
        })
        ∙ sym (call_accepted s g es ps l h)
      where
        fs : with_front l.work_floats (needed g es ps) x ≡ overwrite (replicate (work_needed (bale_of g es ps)) zeroᶠ) l.work_floats
        fs = front-filled l.work_floats x zeroᶠ (needed g es ps) floats_in ex ∙ ap (λ (n : ℕ). overwrite (replicate n zeroᶠ) l.work_floats) needed-is

        ns : with_front l.work_numbers (needed g es ps) y ≡ overwrite (replicate (work_needed (bale_of g es ps)) 0) l.work_numbers
        ns = front-filled l.work_numbers y 0 (needed g es ps) numbers_in ey ∙ ap (λ (n : ℕ). overwrite (replicate n 0) l.work_numbers) needed-is
