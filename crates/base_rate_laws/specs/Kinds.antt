-- The words of a good file by their kinds: a word of kind 7 is word 2, and only of kinds 4 and 5 there are several. Where number 11 falls.
use Rattle.std.specs.Prelude.{ℕ, zero, suc, ◌≤◌, ◌≡◌, refl, Bool, true, false, cond, eqb, length, get_or, replicate}
use Rattle.std.proofs.Common.{arith, sym, ap, ◌∙◌, subst, true≢false}
use Rattle.std.proofs.Math.Option.{Option, none, some}
use mathlib.Core.List.{List, [], ◌∷◌, ◌++◌, map, nil≢cons, head-eq_of_cons-eq, tail-eq_of_cons-eq}
use Rattle.std.proofs.lemmas.List.{length-map}
use Rattle.std.proofs.Math.ListN.{get_elem?}
use Rattle.definition.specs.Lists.{cons_if, filter}
use Rattle.definition.specs.Refusals.{lowest_place_from, lowest_place}
use Rattle.definition.specs.BaleFile.{words, word_kind, bad_word, words_of_kind, first_of_kind, first_rate, base_rate, evidence_of, bale_of_words}
use Rattle.definition.specs.FileAnswer.{zero_base}
use Rattle.claims.specs.BaseRate.{BaseAtTwo, BareWithoutBase}
use Rattle.graph_laws.specs.Bools.{not-true, eqb_sound, eqb_same}
use Rattle.graph_laws.specs.Lists.{All, All-append, All-replicate, All-map-into, All-map-from, All-mono, filter_append, filter_none, filter_map}
use Rattle.graph_laws.specs.Ranks.{NoDup, one_of}
use Rattle.graph_laws.specs.FirstChecks.{nothing}
use Rattle.graph_laws.specs.Accepted.{nowhere}
use Rattle.graph_laws.specs.GoodFile.{none_bad}

-- ---- a word of kind 7

abbrev NotSeven : ℕ → Type 0
NotSeven k = eqb k 7 ≡ false

abbrev Other : ℕ → Type 0
Other w = NotSeven (word_kind w)

-- the words of a good file: none of kind 7, or word 2 alone
data Sevens : List ℕ → Type 0 where
  bare : {ws : List ℕ} → All Other ws → Sevens ws
  based : {a b w : ℕ} {ws : List ℕ} → Other a → Other b → word_kind w ≡ 7 → All Other ws → Sevens (a ∷ b ∷ w ∷ ws)

by-kinds : (d : Bool) (ks ws : List ℕ) → All NotSeven ks → map word_kind ws ≡ 1 ∷ 2 ∷ cons_if d 7 ks → Sevens ws
by-kinds false ks ws h e = bare (All-map-from NotSeven word_kind ws (subst (All NotSeven) (sym e) (refl, (refl, h))))
by-kinds true ks [] h e = absurd (nil≢cons e)
by-kinds true ks (a ∷ []) h e = absurd (nil≢cons (tail-eq_of_cons-eq e))
by-kinds true ks (a ∷ b ∷ []) h e = absurd (nil≢cons (tail-eq_of_cons-eq (tail-eq_of_cons-eq e)))
by-kinds true ks (a ∷ b ∷ w ∷ ws) h e =
    let f = tail-eq_of_cons-eq e in
    let g = tail-eq_of_cons-eq f in
    based (ap (λ (k : ℕ). eqb k 7) (head-eq_of_cons-eq e)) (ap (λ (k : ℕ). eqb k 7) (head-eq_of_cons-eq f)) (head-eq_of_cons-eq g)
    (All-map-from NotSeven word_kind ws (subst (All NotSeven) (sym (tail-eq_of_cons-eq g)) h))

of_file : (bs : List ℕ) → bad_word bs ≡ none → Sevens (words bs)
of_file bs h =
    let g = (none_bad bs).0 h in
    let five = All-append NotSeven (replicate g.pairs 5) (6 ∷ []) (All-replicate NotSeven g.pairs 5 refl) (refl, tt) in
    by-kinds g.based _ (words bs) (refl, All-append NotSeven (replicate g.markers 4) _ (All-replicate NotSeven g.markers 4 refl) five) g.kinds

-- word p of such words is not of kind 7
not-seven : (ws : List ℕ) → All Other ws → (p w : ℕ) → get_elem? ws p ≡ some w → word_kind w ≡ 7 → ⊥
not-seven [] h p w e k = nothing e
not-seven (v ∷ ws) h zero w e k = let z : v ≡ w = cc in true≢false (sym (ap (λ (j : ℕ). eqb j 7) (ap word_kind z ∙ k)) ∙ h.0)
not-seven (v ∷ ws) h (suc p) w e k = not-seven ws h.1 p w e k

seven-place : {ws : List ℕ} → Sevens ws → (p w : ℕ) → get_elem? ws p ≡ some w → word_kind w ≡ 7 → p ≡ 2
seven-place (bare {ws} h) p w e k = absurd (not-seven ws h p w e k)
seven-place (based {a} x y z h) zero w e k = absurd (not-seven (a ∷ []) (x, tt) 0 w e k)
seven-place (based {b = b} x y z h) (suc zero) w e k = absurd (not-seven (b ∷ []) (y, tt) 0 w e k)
seven-place (based x y z h) (suc (suc zero)) w e k = refl
seven-place (based {ws = ws} x y z h) (suc (suc (suc p))) w e k = absurd (not-seven ws h p w e k)

pub base-at-two : BaseAtTwo
base-at-two bs h = seven-place (of_file bs h)

pub bare_without-base : BareWithoutBase
unfolding bale_of_words base_rate evidence_of
bare_without-base ws e = ap (λ (l : List ℕ). map (evidence_of (first_rate l)) (words_of_kind 4 ws)) e

-- ---- number 11

-- its place by the word of kind 7, which is 0 where there is none
abbrev pub zero_place : ℕ → Option ℕ
zero_place w = cond (zero_base w) (some 2) none

no_word : none ≡ zero_place 0
unfolding zero_base word_kind
no_word = refl

not-zero : (w : ℕ) → Other w → zero_base w ≡ false
unfolding zero_base
not-zero w o = rw o

no_zero-base : (i : ℕ) (ws : List ℕ) → All Other ws → lowest_place_from i (map zero_base ws) ≡ none
no_zero-base i ws h = nowhere i (map zero_base ws) (All-map-into (λ c. c ≡ false) zero_base ws (All-mono Other (λ w. zero_base w ≡ false) not-zero ws h))

zero-place : {ws : List ℕ} → Sevens ws → lowest_place_from 0 (map zero_base ws) ≡ zero_place (get_or (filter (λ w. eqb (word_kind w) 7) ws) 0 0)
unfolding lowest_place_from
zero-place (bare {ws} h) = no_zero-base 0 ws h ∙ no_word ∙ ap (λ (l : List ℕ). zero_place (get_or l 0 0)) (sym (filter_none (λ w. eqb (word_kind w) 7) ws h))
zero-place (based {a} {b} {w} {ws} x y z h) = rw (not-zero a x, not-zero b y, x, y, z) (go (zero_base w))
  where
    go : (t : Bool) → lowest_place_from 2 (t ∷ map zero_base ws) ≡ cond t (some 2) none
    go true = refl
    go false = no_zero-base 3 ws h

pub zero-base-at : (bs : List ℕ) → bad_word bs ≡ none → lowest_place (map zero_base (words bs)) ≡ zero_place (first_of_kind 7 (words bs))
unfolding lowest_place first_of_kind words_of_kind
zero-base-at bs h = zero-place (of_file bs h)

-- ---- one word at most of every other kind than 4 and 5

module _ (k : ℕ) where
  abbrev is_kind : ℕ → Bool
  is_kind j = eqb j k

  run_skipped : (j : ℕ) → (k ≡ j → ⊥) → (n : ℕ) (ks : List ℕ) → filter is_kind (replicate n j ++ ks) ≡ filter is_kind ks
  run_skipped j c n ks =
      filter_append is_kind (replicate n j) ks
      ∙ ap (λ (l : List ℕ). l ++ filter is_kind ks)
      (filter_none is_kind (replicate n j) (All-replicate (λ i. is_kind i ≡ false) n j (not-true (is_kind j) (λ t. c (sym (eqb_sound j k t))))))

  one-kind : (d : Bool) (ks : List ℕ) → filter is_kind ks ≡ filter is_kind (6 ∷ []) → length (filter is_kind (1 ∷ 2 ∷ cons_if d 7 (3 ∷ ks))) ≤ 1
  one-kind d ks e = go d
    where
      only : (ks : List ℕ) → NoDup eqb ks → length (filter is_kind ks) ≤ 1
      only = one_of k is_kind (λ x t. subst (λ (i : ℕ). eqb i x ≡ true) (eqb_sound x k t) (eqb_same x))

      go : (d : Bool) → length (filter is_kind (1 ∷ 2 ∷ cons_if d 7 (3 ∷ ks))) ≤ 1
      go true = rw e (only (1 ∷ 2 ∷ 7 ∷ 3 ∷ 6 ∷ []) (refl, (refl, (refl, (refl, (refl, tt))))))
      go false = rw e (only (1 ∷ 2 ∷ 3 ∷ 6 ∷ []) (refl, (refl, (refl, (refl, tt)))))

pub once : (bs : List ℕ) → bad_word bs ≡ none → (k : ℕ) → (k ≡ 4 → ⊥) → (k ≡ 5 → ⊥) → length (words_of_kind k (words bs)) ≤ 1
unfolding words_of_kind
once bs h k a b =
    let g = (none_bad bs).0 h in
    let l : length (filter (is_kind k) (map word_kind (words bs))) ≤ 1 =
    rw g.kinds (one-kind k g.based _ (run_skipped k 4 a g.markers _ ∙ run_skipped k 5 b g.pairs _)) in
    omega (arith, ap length (filter_map word_kind (is_kind k) (words bs)), length-map (filter (λ w. eqb (word_kind w) k) (words bs)) word_kind)
