-- No list of matches is longer than the answer, where ticks never fall. Of what any list still has for the upper reads to come, each turn takes away at most
-- one match: where it gives read n another lower read than the list does, the list can be changed to agree.
use Rattle.std.specs.Prelude.{ℕ, zero, suc, ◌+◌, ◌≤◌, ◌<◌, ◌≡◌, refl, ◌⊎◌, true, false, not, ◌||◌, List, [], ◌∷◌, ◌++◌, map, eqb, length}
use Rattle.std.proofs.Common.{zero-add, arith, sym, ap, ◌∙◌, subst, inl, inr, true≢false, ne_eqb, length-append}
use Rattle.std.proofs.lemmas.List.{map-append, length-map}
use Rattle.std.proofs.lemmas.Bool.{eqb-false, not-true}
use Rattle.definition.specs.Lists.{mem}
use Rattle.definition.specs.Readers.{Read, read_at, Match, lowers_of, is_free, matches_up_to, matches}
use Rattle.claims.specs.Matching.{no_match, InOrder, Longest}
use Rattle.graph_laws.specs.Bools.{no_or}
use Rattle.graph_laws.specs.Lists.{All, All-mono, All-both, All-filter, All-map-into, filter_holds}
use Rattle.graph_laws.specs.Places.{All-numbered}
use Rattle.graph_laws.specs.Reach.{mem_append}
use Rattle.readers_laws.specs.Turns.{May, may, may_match_lem, in_order, free_may, is_free_lem, Lowest, Turn, passes, takes, turn}
use Rattle.readers_laws.specs.Exchange.{Apart, apart, apart_filter, apart_map, without, one_less, swapped, Swap, first, second, neither, swap, swap_inj, exchange, partner, partner-only, partner_holds}

module _ (w : ℕ) (us ls : List Read) (ou : InOrder us) (ol : InOrder ls) where
  abbrev made : ℕ → List Match
  made n = matches_up_to w us ls n

  -- upper read u has its turn yet to come, and lower read l, which it may have, is unused after n turns
  record Ahead (n u l : ℕ) : Type 0 where
    to_come : n ≤ u
    upper_there : u < length us
    lower-there : l < length ls
    unused : mem eqb l (lowers_of (made n)) ≡ false
    pair : May w (read_at us u) (read_at ls l)

  free : (n l : ℕ) → Ahead n n l → is_free w ls (made n) (read_at us n) l ≡ true
  free n l a = is_free_lem w ls (made n) (read_at us n) l a.unused (may_match_lem w (read_at us n) (read_at ls l) a.pair)

  -- ---- a turn that takes nothing leaves all that is ahead

  module _ (n : ℕ) (e : made (suc n) ≡ made n) (none : (j : ℕ) → j < length ls → is_free w ls (made n) (read_at us n) j ≡ false) where
    passed-by : (u l : ℕ) → Ahead n u l → Ahead (suc n) u l
    passed-by u l a =
        let other : n ≡ u → ⊥ = λ q. true≢false (sym (free n l (subst (λ k. Ahead n k l) (sym q) a)) ∙ none l a.lower-there) in
        record {
          to_come = let z = a.to_come in omega arith;
          upper_there = a.upper_there;
          lower-there = a.lower-there;
          unused = ap (λ ms. mem eqb l (lowers_of ms)) e ∙ a.unused;
          pair = a.pair;
        }

  -- ---- a turn that takes lower read j, where the list has q for upper read n, or nothing for it and q is j

  module _ (n j : ℕ) (e : made (suc n) ≡ made n ++ (record { upper = n; lower = j } ∷ [])) (f : Lowest w ls (made n) (read_at us n) j) (q : ℕ) (known : (q ≡ j) ⊎ Ahead n n q) where
    still_unused : (l : ℕ) → mem eqb l (lowers_of (made n)) ≡ false → (l ≡ j → ⊥) → mem eqb l (lowers_of (made (suc n))) ≡ false
    still_unused l h d =
        ap (λ ms. mem eqb l (lowers_of ms)) e
        ∙ ap (mem eqb l) (map-append (λ (m : Match). m.lower) (made n) (record { upper = n; lower = j } ∷ []))
        ∙ mem_append eqb l (lowers_of (made n)) (j ∷ [])
        ∙ no_or (mem eqb l (lowers_of (made n))) (eqb l j || false) h (no_or (eqb l j) false (ne_eqb l j d) refl)

    -- upper read u, that had j, may have q: all four reads have one marker, n is before u, and j before q
    may_have : (u : ℕ) → Ahead n u j → Ahead n n q → May w (read_at us u) (read_at ls q)
    may_have u a b =
        let c = may w (read_at us n) (read_at ls j) (free_may w ls (made n) (read_at us n) j f.free) in
        let x = a.pair in
        let y = b.pair in
        let early : q < j → ⊥ = λ l. true≢false (sym (free n q b) ∙ f.before q l) in
        let s = in_order us ou n u a.to_come a.upper_there in
        let t = in_order ls ol j q (let z : j ≤ q = omega arith in z) b.lower-there in
        record {
          marker = x.marker ∙ sym c.marker ∙ y.marker;
          not_late = omega (arith, x.not_late, t);
          not-early = omega (arith, y.not-early, s);
        }

    taken-by : (u l : ℕ) → Ahead n u l → (u ≡ n → l ≡ q) → (swapped j q l ≡ j → ⊥) → Ahead (suc n) u (swapped j q l)
    taken-by u l a own = go (swapped j q l) (swap j q l)
      where
        after : (x : ℕ) → (u ≡ n → ⊥) → x < length ls → mem eqb x (lowers_of (made n)) ≡ false → (x ≡ j → ⊥) → May w (read_at us u) (read_at ls x) → Ahead (suc n) u x
        after x d t h k p =
            record { to_come = let z = a.to_come in omega arith; upper_there = a.upper_there; lower-there = t; unused = still_unused x h k; pair = p }

        moved : l ≡ j → (q ≡ j → ⊥) → (q ≡ j) ⊎ Ahead n n q → Ahead (suc n) u q
        moved p d (inl z) = absurd (d z)
        moved p d (inr b) =
            after q (λ z. d (sym (own z) ∙ p)) b.lower-there b.unused d (may_have u (subst (Ahead n u) p a) b)

        go : (x : ℕ) → Swap j q l x → (x ≡ j → ⊥) → Ahead (suc n) u x
        go x (first p) d = moved p d known
        go x (second p r) d = absurd (d refl)
        go x (neither p r) d = after l (λ z. r (own z)) a.lower-there a.unused p a.pair

  -- ---- the list after a turn

  abbrev AllAhead : ℕ → List Match → Type 0
  AllAhead n ms = All (λ m. Ahead n m.upper m.lower) ms

  abbrev changed : ℕ → ℕ → List Match → List Match
  changed n j ms = without (λ m. m.lower) j (map (exchange j (partner n j ms)) ms)

  changed_ahead : (n j : ℕ) → made (suc n) ≡ made n ++ (record { upper = n; lower = j } ∷ []) → Lowest w ls (made n) (read_at us n) j →
      (ms : List Match) → AllAhead n ms → Apart (λ m. m.upper) ms → AllAhead (suc n) (changed n j ms)
  changed_ahead n j e f ms h o =
      All-mono (λ m. ((m.lower ≡ j → ⊥) → Ahead (suc n) m.upper m.lower) × (not (eqb m.lower j) ≡ true)) (λ m. Ahead (suc n) m.upper m.lower)
      (λ m r. r.0 (eqb-false m.lower j (not-true (eqb m.lower j) r.1))) (changed n j ms)
      (All-both (λ m. (m.lower ≡ j → ⊥) → Ahead (suc n) m.upper m.lower) (λ m. not (eqb m.lower j) ≡ true) (changed n j ms)
      (All-filter (λ m. (m.lower ≡ j → ⊥) → Ahead (suc n) m.upper m.lower) (λ m. not (eqb m.lower j)) (map (exchange j q) ms)
      (All-map-into (λ m. (m.lower ≡ j → ⊥) → Ahead (suc n) m.upper m.lower) (exchange j q) ms
      (All-mono (λ m. Ahead n m.upper m.lower × (m.upper ≡ n → m.lower ≡ q)) (λ m. (swapped j q m.lower ≡ j → ⊥) → Ahead (suc n) m.upper (swapped j q m.lower))
      (λ m r. taken-by n j e f q (partner_holds (Ahead n) n j ms h) m.upper m.lower r.0 r.1) ms
      (All-both (λ m. Ahead n m.upper m.lower) (λ m. m.upper ≡ n → m.lower ≡ q) ms h (partner-only n j ms o)))))
      (filter_holds (λ m. not (eqb m.lower j)) (map (exchange j q) ms)))
    where
      q : ℕ
      q = partner n j ms

  changed-length : (n j : ℕ) (ms : List Match) → Apart (λ m. m.lower) ms → length ms ≤ suc (length (changed n j ms))
  changed-length n j ms o =
      let q = partner n j ms in
      omega
      (arith, one_less (λ m. m.lower) j (map (exchange j q) ms) (apart_map (λ m. m.lower) (exchange j q) (λ a b. swap_inj j q a.lower b.lower) ms o), length-map ms (exchange j q))

  -- ---- all turns

  longest_from : (k n : ℕ) → n + k ≡ length us → (ms : List Match) → AllAhead n ms → Apart (λ m. m.upper) ms → Apart (λ m. m.lower) ms →
      length (made n) + length ms ≤ length (made (length us))
  longest_from zero n e [] h o p = let z : n ≡ length us = omega arith in rw z (omega arith)
  longest_from zero n e (m ∷ ms) h o p = absurd (let z : ⊥ = omega (arith, h.0.to_come, h.0.upper_there) in z)
  longest_from (suc k) n e ms h o p = go (turn w us ls n) (longest_from k (suc n) (omega arith))
    where
      go : Turn w us ls n → ((xs : List Match) → AllAhead (suc n) xs → Apart (λ m. m.upper) xs → Apart (λ m. m.lower) xs → length (made (suc n)) + length xs ≤ length (made (length us)))
          → length (made n) + length ms ≤ length (made (length us))
      go (passes q f) r =
          let a = All-mono (λ m. Ahead n m.upper m.lower) (λ m. Ahead (suc n) m.upper m.lower) (λ m. passed-by n q f m.upper m.lower) ms h in
          omega (arith, r ms a o p, ap length q)
      go (takes j q f) r =
          let d = partner n j ms in
          let u = apart_filter (λ m. m.upper) (λ m. not (eqb m.lower j)) (map (exchange j d) ms) (apart_map (λ m. m.upper) (exchange j d) (λ a b x. x) ms o) in
          let l = apart_filter (λ m. m.lower) (λ m. not (eqb m.lower j)) (map (exchange j d) ms) (apart_map (λ m. m.lower) (exchange j d) (λ a b. swap_inj j d a.lower b.lower) ms p) in
          omega
          (arith, r (changed n j ms) (changed_ahead n j q f ms h o) u l, changed-length n j ms p, ap length q, length-append (made n) (record { upper = n; lower = j } ∷ []))

pub longest : Longest
unfolding matches matches_up_to
longest w us ls ou ol ms m =
    rw zero-add at
    (longest_from w us ls ou ol (length us) 0 (omega arith) ms
    (All-numbered (λ x. Ahead w us ls ou ol 0 x.upper x.lower) no_match ms
    (λ k l.
    let r = m.joins k l in
    record { to_come = omega arith; upper_there = r.upper_there; lower-there = r.lower-there; unused = refl; pair = may w _ _ r.may }))
    (apart (λ x. x.upper) ms m.upper_once) (apart (λ x. x.lower) ms m.lower_once))
