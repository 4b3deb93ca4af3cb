-- Beliefs as they stand in two slices, judged by the draws of their grades.
use Rattle.std.specs.Prelude.{ℕ, suc, ◌+◌, ◌*◌, ◌^◌, ◌≤◌, ◌<◌, ◌≡◌, refl, true, not, eqb, Float, drop}
use Rattle.std.proofs.Common.{add-one, arith, ◌∙◌, length-append}
use Rattle.std.proofs.Math.Path.{sym, ap}
use Rattle.std.proofs.Math.Bool.{Bool, false, not-not}
use Rattle.std.proofs.Math.Option.{Option, none, some}
use mathlib.Core.List.{List, [], ◌∷◌, ◌++◌, map, map-append, map-map}
use Rattle.std.specs.Float.{nan}
use Rattle.std.proofs.Math.ListN.{length, get_or, get_or-append}
use Rattle.std.proofs.lemmas.List.{length-map}
use Rattle.definition.specs.Lists.{range, how_many}
use Rattle.definition.specs.Vectors.{Message, entry}
use Rattle.definition.specs.Settings.{Settings}
use Rattle.definition.specs.FactorGraph.{Bale}
use Rattle.definition.specs.Answer.{Belief, answer, answered_beliefs, belief_numbers, belief_floats}
use Rattle.definition.specs.Call.{overwrite}
use Rattle.definition.specs.Reads.{above_half, with_reads, present_of}
use Rattle.definition.specs.Trials.{MadeUp, Judgement, judgements, agrees_with, agrees, differs}
use Rattle.graph_laws.specs.Lists.{All, All-every, All-mono, All-map-from, count_suc, filter_cong, length_count, map_cong, upto_snoc}
use Rattle.graph_laws.specs.Ranks.{NoDup}
use Rattle.graph_laws.specs.AloneChecks.{All-getD}
use Rattle.graph_laws.specs.AnswerSizes.{TwoFloats, numbers-length, floats_length}
use Rattle.report_laws.specs.Counts.{one_if, count_snoc, count_le, count_map}
use Rattle.trial_laws.specs.Beliefs.{by_belief}

-- what is asked of the slices, and of what was counted before
pub record Tallied (count : ℕ) (ns : List ℕ) (fs : List Float) (drawn : List Bool) (agreed differed : ℕ) : Type 0 where
  pub numbered : count ≤ length ns
  pub valued : 2 * count ≤ length fs
  pub known : (i : ℕ) → i < count → get_or ns i 0 < length drawn
  pub few_agreed : agreed + count < 2 ^ 32
  pub few_differed : differed + count < 2 ^ 32

-- belief i
abbrev pub judged_at : List ℕ → List Float → List Bool → ℕ → Judgement
judged_at ns fs ds i = record { drawn = get_or ds (get_or ns i 0) false; present = some (get_or fs (2 * i + 1) nan) }

-- the first n beliefs
abbrev pub judged_to : ℕ → List ℕ → List Float → List Bool → List Judgement
judged_to n ns fs ds = map (judged_at ns fs ds) (range 0 n)

-- ---- one belief more

module _ (is : Judgement → Bool) (ns : List ℕ) (fs : List Float) (ds : List Bool) where
  pub count_next : (i : ℕ) → how_many is (judged_to (i + 1) ns fs ds) ≡ how_many is (judged_to i ns fs ds) + one_if (is (judged_at ns fs ds i))
  count_next i =
      ap (λ (k : ℕ). how_many is (judged_to k ns fs ds)) (add-one i)
      ∙ ap (λ (l : List ℕ). how_many is (map (judged_at ns fs ds) l)) (upto_snoc i)
      ∙ ap (how_many is) (map-append (judged_at ns fs ds) (range 0 i) (i ∷ []))
      ∙ count_snoc is (judged_to i ns fs ds) (judged_at ns fs ds i)

  pub count_few : (i : ℕ) → how_many is (judged_to i ns fs ds) ≤ i
  count_few i = omega (arith, count_le is (judged_to i ns fs ds), length-map (range 0 i) (judged_at ns fs ds), length_count 0 i)

-- a belief that does not agree differs
pub or_differs : (d : Bool) (x : Float) → not (agrees_with d (some x)) ≡ agrees_with (not d) (some x)
or_differs true x = refl
or_differs false x = not-not (above_half x)

-- ---- a made-up bale

-- the beliefs xs, of grades below g and none of them twice, stand at the front of the slices, and the draws ps of the g grades at the front of theirs
pub record BeliefsStand (xs : List Belief) (ps : List Bool) (g n : ℕ) (ns₀ ns : List ℕ) (fs₀ fs : List Float) (ds₀ ds : List Bool) : Type 0 where
  pub once : NoDup eqb (belief_numbers xs)
  pub below : All (λ k. k < g) (belief_numbers xs)
  pub two : All TwoFloats xs
  pub drawn : length ps ≡ g
  pub count : n ≡ length xs
  pub numbers : ns ≡ overwrite (belief_numbers xs) ns₀
  pub floats : fs ≡ overwrite (belief_floats xs) fs₀
  pub draws : ds ≡ overwrite ps ds₀

abbrev judged : List Bool → Belief → Judgement
judged ds x = record { drawn = get_or ds x.grade false; present = some (entry 1 x.value) }

judged-beliefs :
    (ds : List Bool) (xs : List Belief) (ns : List ℕ) (fs : List Float) → All TwoFloats xs →
    judged_to (length xs) (belief_numbers xs ++ ns) (belief_floats xs ++ fs) ds ≡ map (judged ds) xs
unfolding belief_numbers belief_floats
judged-beliefs ds [] ns fs t = refl
judged-beliefs ds (x ∷ xs) ns fs t = go x.value t.0 (judged-beliefs ds xs ns fs t.1)
  where
    ks : List ℕ
    ks = belief_numbers xs ++ ns

    vs : List Float
    vs = belief_floats xs ++ fs

    go : (v : Message) → length v ≡ 2 → judged_to (length xs) ks vs ds ≡ map (judged ds) xs →
        judged_to (suc (length xs)) (x.grade ∷ ks) ((v ++ belief_floats xs) ++ fs) ds
        ≡ record { drawn = get_or ds x.grade false; present = some (entry 1 v) } ∷ map (judged ds) xs
    go [] e h = absurd (let z : ⊥ = omega arith in z)
    go (a ∷ []) e h = absurd (let z : ⊥ = omega arith in z)
    go (a ∷ p ∷ []) e h =
        let all = judged_at (x.grade ∷ ks) (a ∷ p ∷ vs) ds in
        let rest = judged_at ks vs ds in
        let each : (i : ℕ) → all (suc i) ≡ rest i =
        λ i. ap (λ (k : ℕ). record { drawn = get_or ds (get_or ks i 0) false; present = some (get_or (a ∷ p ∷ vs) k nan) })
        (let z : 2 * suc i + 1 ≡ suc (suc (2 * i + 1)) = omega arith in z) in
        ap (λ (l : List Judgement). all 0 ∷ l)
        (ap (map all) (count_suc 0 (length xs))
        ∙ map-map all suc (range 0 (length xs))
        ∙ map_cong (λ i. all (suc i)) rest (range 0 (length xs)) (All-every (λ i. all (suc i) ≡ rest i) each (range 0 (length xs)))
        ∙ h)
    go (a ∷ p ∷ q ∷ v) e h = absurd (let z : ⊥ = omega arith in z)

module _ {xs : List Belief} {ps : List Bool} {g n : ℕ} {ns₀ ns : List ℕ} {fs₀ fs : List Float} {ds₀ ds : List Bool} (S : BeliefsStand xs ps g n ns₀ ns fs₀ fs ds₀ ds) where
  -- by a test that a grade without belief does not pass
  stands_counted :
      (is : Bool → Option Float → Bool) → ((d : Bool) → is d none ≡ false) →
      how_many (λ j. is j.drawn j.present) (judged_to n ns fs ds) ≡ how_many (λ k. is (get_or ps k false) (present_of xs k)) (range 0 g)
  unfolding belief_numbers
  stands_counted is h =
      let test : Judgement → Bool = λ j. is j.drawn j.present in
      let same : (x : Belief) → x.grade < g → test (judged ds x) ≡ test (judged ps x) =
      λ x l.
      ap (λ (d : Bool). is d (some (entry 1 x.value)))
      (ap (λ (ds : List Bool). get_or ds x.grade false) S.draws ∙ get_or-append ps (drop (length ps) ds₀) false x.grade (omega arith)) in
      (λ i. how_many test (judged_to (S.count i) (S.numbers i) (S.floats i) ds))
      ∙ ap (how_many test) (judged-beliefs ds xs (drop (length (belief_numbers xs)) ns₀) (drop (length (belief_floats xs)) fs₀) S.two)
      ∙ count_map (judged ds) test xs
      ∙ ap length
      (filter_cong (λ x. test (judged ds x)) (λ x. test (judged ps x)) xs
      (All-mono (λ x. x.grade < g) (λ x. test (judged ds x) ≡ test (judged ps x)) same xs (All-map-from (λ k. k < g) (λ x. x.grade) xs S.below)))
      ∙ sym (by_belief is h ps g xs S.once S.below)

  -- what `count_beliefs` asks; the lists' lengths follow from what stands in them
  pub stands_tallied : (agreed differed : ℕ) → n ≤ 1024 → agreed + 1024 < 2 ^ 32 → differed + 1024 < 2 ^ 32 → Tallied n ns fs ds agreed differed
  stands_tallied agreed differed few a d =
      let ks = belief_numbers xs in
      let vs = belief_floats xs in
      let long : length ks ≡ length xs = numbers-length xs in
      record {
        numbered = omega (arith, ap length S.numbers, length-append ks (drop (length ks) ns₀));
        valued = omega (arith, ap length S.floats, length-append vs (drop (length vs) fs₀), floats_length xs S.two);
        known = λ i l.
            omega (
              arith,
              ap (λ (ns : List ℕ). get_or ns i 0) S.numbers,
              get_or-append ks (drop (length ks) ns₀) 0 i (omega arith),
              All-getD (λ k. k < g) ks S.below 0 i (omega arith),
              ap length S.draws,
              length-append ps (drop (length ps) ds₀),
            );
        few_agreed = omega arith;
        few_differed = omega arith;
      }

-- what is counted is what the bale's judgements come to
pub record BaleTallied (s : Settings) (b : Bale) (d : MadeUp) (n : ℕ) (ns : List ℕ) (fs : List Float) (ds : List Bool) : Type 0 where
  pub agreed : how_many agrees (judged_to n ns fs ds) ≡ how_many agrees (judgements s b d)
  pub differed : how_many differs (judged_to n ns fs ds) ≡ how_many differs (judgements s b d)

-- r is the bale that was run: b, with the reads of d
pub bale-tallied :
    (s : Settings) (b : Bale) (d : MadeUp) (r : Bale) {n : ℕ} {ns₀ ns : List ℕ} {fs₀ fs : List Float} {ds₀ ds : List Bool} →
    with_reads d.reads b ≡ r → BeliefsStand (answered_beliefs (answer s r)) d.presences b.grades n ns₀ ns fs₀ fs ds₀ ds → BaleTallied s b d n ns fs ds
unfolding judgements
bale-tallied s b d r {n} {ns = ns} {fs = fs} {ds = ds} e S =
    record { agreed = each agrees_with none-agrees; differed = each (λ x o. agrees_with (not x) o) (λ x. none-agrees (not x)) }
  where
    none-agrees : (x : Bool) → agrees_with x none ≡ false
    none-agrees true = refl
    none-agrees false = refl

    each : (is : Bool → Option Float → Bool) → ((x : Bool) → is x none ≡ false) →
        how_many (λ j. is j.drawn j.present) (judged_to n ns fs ds) ≡ how_many (λ j. is j.drawn j.present) (judgements s b d)
    each is h =
        let at : Bale → ℕ → Judgement = λ q k. record { drawn = get_or d.presences k false; present = present_of (answered_beliefs (answer s q)) k } in
        let test : Judgement → Bool = λ j. is j.drawn j.present in
        stands_counted S is h
        ∙ ap (λ (q : Bale). how_many (λ k. test (at q k)) (range 0 b.grades)) (sym e)
        ∙ sym (count_map (at (with_reads d.reads b)) test (range 0 b.grades))
