-- The answer is a list of matches that uses no read twice; it is made by the rule, and its upper indices rise.
use Rattle.std.specs.Prelude.{ℕ, zero, suc, ◌+◌, ◌-◌, ◌≤◌, ◌<◌, ◌≡◌, refl, true, false, List, [], ◌∷◌, ◌++◌, eqb, ltb, length}
use Rattle.std.proofs.Common.{arith, sym, ap, ◌∙◌, subst, true≢false, append_assoc, lt-ltb, le-ltb, length-append}
use Rattle.std.proofs.lemmas.List.{map-append, length-map}
use Rattle.std.proofs.Math.Seq.{get_or-append_seam}
use Rattle.definition.specs.Lists.{mem}
use Rattle.definition.specs.Readers.{Read, read_at, Match, lowers_of, is_free, matches_up_to, matches}
use Rattle.claims.specs.Matching.{no_match, match_at, before, AnswerMatches, Rule, AnswerListed}
use Rattle.graph_laws.specs.Bools.{eqb_sound, eqb_same, no_or}
use Rattle.graph_laws.specs.Lists.{upto, length_count, All-mono, All-map-into, filter_append, filter-every, append_none}
use Rattle.graph_laws.specs.Ranks.{NoDup, others, mem-upto}
use Rattle.graph_laws.specs.Partition.{nodup_append}
use Rattle.graph_laws.specs.Places.{All-numbered}
use Rattle.graph_laws.specs.Subsets.{no_longer}
use Rattle.readers_laws.specs.Turns.{free_unused, free_may, Lowest, Turn, passes, takes, turn, by-turns}
use Rattle.readers_laws.specs.Indexed.{Each, EachTwo, each_more, two-more, lowers_once}

module _ (w : ℕ) (us ls : List Read) where
  -- the matches of the first n upper reads
  abbrev made : ℕ → List Match
  made n = matches_up_to w us ls n

  -- each match was made in its upper read's turn
  abbrev Made : ℕ → Match → Type 0
  Made n m = (m.upper < n) × Lowest w ls (made m.upper) (read_at us m.upper) m.lower

  pub each_made : (n : ℕ) → Each (Made n) (made n)
  each_made =
      by-turns w us ls (λ n. Each (Made n)) (λ k l. absurd (let z : ⊥ = omega arith in z))
      (λ n r. older n r)
      (λ n j f r. each_more (Made (suc n)) (made n) (record { upper = n; lower = j }) (older n r) (omega arith, f))
    where
      older : (n : ℕ) → Each (Made n) (made n) → Each (Made (suc n)) (made n)
      older n r k l = let x = r k l in (omega (arith, x.0), x.1)

  -- ---- no read is used twice

  rising : (n : ℕ) → EachTwo (λ a b. a.upper < b.upper) (made n)
  rising =
      by-turns w us ls (λ n. EachTwo (λ a b. a.upper < b.upper)) (λ k l a b. absurd (let z : ⊥ = omega arith in z))
      (λ n r. r)
      (λ n j f r. two-more (λ a b. a.upper < b.upper) (made n) (record { upper = n; lower = j }) r (λ k l. (each_made n k l).0))

  once : (n : ℕ) → NoDup eqb (lowers_of (made n))
  once =
      by-turns w us ls (λ n ms. NoDup eqb (lowers_of ms)) tt
      (λ n r. r)
      (λ n j f r.
      subst (NoDup eqb) (sym (map-append (λ (m : Match). m.lower) (made n) (record { upper = n; lower = j } ∷ [])))
      (nodup_append eqb eqb_sound eqb_same (lowers_of (made n)) (j ∷ []) r (refl, tt)
      (All-mono (λ a. eqb a j ≡ false) (λ a. mem eqb a (j ∷ []) ≡ false) (λ a h. no_or (eqb a j) false h refl) (lowers_of (made n))
      (others eqb eqb_sound eqb_same j (lowers_of (made n)) (free_unused w ls (made n) (read_at us n) j f.free)))))

  -- ---- how many

  pub few_upper : (n : ℕ) → length (made n) ≤ n
  few_upper =
      by-turns w us ls (λ n ms. length ms ≤ n) (omega arith)
      (λ n r. omega arith)
      (λ n j f r. omega (arith, length-append (made n) (record { upper = n; lower = j } ∷ [])))

  pub few_lower : (n : ℕ) → length (made n) ≤ length ls
  few_lower n =
      omega (
        arith,
        no_longer eqb eqb_sound eqb_same (lowers_of (made n)) (upto (length ls)) (once n)
            (All-map-into (λ j. mem eqb j (upto (length ls)) ≡ true) (λ (m : Match). m.lower) (made n)
            (All-numbered (λ m. mem eqb m.lower (upto (length ls)) ≡ true) no_match (made n) (λ k l. mem-upto (length ls) (match_at (made n) k).lower (each_made n k l).1.there))),
        length-map (made n) (λ (m : Match). m.lower),
        length_count 0 (length ls),
      )

  -- ---- the matches before upper read i are those of the first i turns

  all-before : (n : ℕ) → before n (made n) ≡ made n
  all-before n =
      filter-every (λ m. ltb m.upper n) (made n)
      (All-numbered (λ m. ltb m.upper n ≡ true) no_match (made n) (λ k l. lt-ltb _ _ (each_made n k l).0))

  before-made : (i d : ℕ) → before i (made (i + d)) ≡ made i
  before-made i zero = let e : i + 0 ≡ i = omega arith in rw e (all-before i)
  before-made i (suc d) = ap (λ n. before i (made n)) (let e : i + suc d ≡ suc (i + d) = omega arith in e) ∙ go (turn w us ls (i + d)) (before-made i d)
    where
      go : Turn w us ls (i + d) → before i (made (i + d)) ≡ made i → before i (made (suc (i + d))) ≡ made i
      go (passes e f) r = ap (before i) e ∙ r
      go (takes j e f) r =
          ap (before i) e
          ∙ filter_append (λ m. ltb m.upper i) (made (i + d)) (record { upper = i + d; lower = j } ∷ [])
          ∙ rw (le-ltb (i + d) i (omega arith)) (append_none (before i (made (i + d))))
          ∙ r

  turn-before : (n i : ℕ) → i ≤ n → made i ≡ before i (made n)
  turn-before n i l = sym (ap (λ k. before i (made k)) (let e : n ≡ i + (n - i) = omega arith in e) ∙ before-made i (n - i))

  -- the match of a turn stands in the answer
  record MatchStands (n i j : ℕ) : Type 0 where
    rest : List Match
    is : made n ≡ (made i ++ (record { upper = i; lower = j } ∷ [])) ++ rest

  stands : (i j d : ℕ) → made (suc i) ≡ made i ++ (record { upper = i; lower = j } ∷ []) → MatchStands (suc i + d) i j
  stands i j zero e = record { rest = []; is = ap made (let z : suc i + 0 ≡ suc i = omega arith in z) ∙ e ∙ sym (append_none _) }
  stands i j (suc d) e = go (turn w us ls (suc i + d)) (stands i j d e)
    where
      go : Turn w us ls (suc i + d) → MatchStands (suc i + d) i j → MatchStands (suc i + suc d) i j
      go (passes q f) r = record { rest = r.rest; is = ap made (let z : suc i + suc d ≡ suc (suc i + d) = omega arith in z) ∙ q ∙ r.is }
      go (takes k q f) r =
          let more : List Match = record { upper = suc i + d; lower = k } ∷ [] in
          record {
            rest = r.rest ++ more;
            is = ap made (let z : suc i + suc d ≡ suc (suc i + d) = omega arith in z) ∙ q ∙ ap (λ ms. ms ++ more) r.is ∙ append_assoc (made i ++ (record { upper = i; lower = j } ∷ [])) r.rest more;
          }

  there : (n i j : ℕ) → MatchStands n i j → (k : ℕ) × (k < length (made n)) × ((match_at (made n) k).upper ≡ i)
  there n i j s =
      let m : Match = record { upper = i; lower = j } in
      let e : made n ≡ made i ++ (m ∷ s.rest) = s.is ∙ append_assoc (made i) (m ∷ []) s.rest in (
        length (made i),
        omega (arith, ap length e, length-append (made i) (m ∷ s.rest)),
        ap (λ ms. (match_at ms (length (made i))).upper) e ∙ ap (λ (x : Match). x.upper) (get_or-append_seam (made i) m s.rest no_match),
      )

  -- an upper read that is in no match found nothing free
  left_out : (n i : ℕ) → i < n → ((k : ℕ) → k < length (made n) → (match_at (made n) k).upper ≡ i → ⊥) → (j : ℕ) → j < length ls → is_free w ls (made i) (read_at us i) j ≡ false
  left_out n i l h = go (turn w us ls i)
    where
      go : Turn w us ls i → (j : ℕ) → j < length ls → is_free w ls (made i) (read_at us i) j ≡ false
      go (passes e f) = f
      go (takes k e f) =
          let q : suc i + (n - suc i) ≡ n = omega arith in
          let r = there n i k (subst (λ x. MatchStands x i k) q (stands i k (n - suc i) e)) in
          absurd (h r.0 r.1 r.2)

pub answer-matches : AnswerMatches
unfolding matches
answer-matches w us ls =
    let n = length us in
    record {
      joins = λ k l. let r = each_made w us ls n k l in record { upper_there = r.0; lower-there = r.1.there; may = free_may w ls _ _ _ r.1.free };
      upper_once = λ k l a b e. let z : ⊥ = omega (arith, rising w us ls n k l a b) in z;
      lower_once = lowers_once (matches_up_to w us ls n) (once w us ls n);
    }

pub rule : Rule
unfolding matches
rule w us ls =
    let n = length us in
    let ms = matches_up_to w us ls n in
    let same : (i j : ℕ) → i ≤ n → is_free w ls (before i ms) (read_at us i) j ≡ is_free w ls (matches_up_to w us ls i) (read_at us i) j =
    λ i j l. ap (λ xs. is_free w ls xs (read_at us i) j) (sym (turn-before w us ls n i l)) in
    record {
      free = λ k l. let r = each_made w us ls n k l in same _ _ (omega (arith, r.0)) ∙ r.1.free;
      lowest = λ k j l b t. let r = each_made w us ls n k l in true≢false (sym t ∙ same _ j (omega (arith, r.0)) ∙ r.1.before j b);
      none_free = λ i l h j b t. true≢false (sym t ∙ same i j (omega arith) ∙ left_out w us ls n i l h j b);
    }

pub answer-listed : AnswerListed
unfolding matches
answer-listed w us ls = let n = length us in record { rise = rising w us ls n; upper_few = few_upper w us ls n; lower_few = few_lower w us ls n }
