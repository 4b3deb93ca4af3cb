-- Lists of matches with nothing twice, and the exchange of two lower reads in one: what the proof needs that no list of matches is longer.
use Rattle.std.specs.Prelude.{ℕ, suc, ◌≤◌, ◌≡◌, refl, ◌⊎◌, Bool, true, false, not, cond, List, [], ◌∷◌, map, eqb, length}
use Rattle.std.proofs.Common.{arith, sym, ap, ◌∙◌, subst, inl, inr, eqb-true, ne_eqb}
use Rattle.std.proofs.lemmas.Bool.{eqb-false}
use Rattle.definition.specs.Lists.{cons_if, filter}
use Rattle.definition.specs.Readers.{Match}
use Rattle.claims.specs.Matching.{no_match}
use Rattle.graph_laws.specs.Lists.{All, All-mono, All-filter, filter-every}
use Rattle.graph_laws.specs.Places.{All-numbered}
use Rattle.readers_laws.specs.Indexed.{EachTwo}

-- ---- nothing twice

-- no two matches have the same number k
abbrev pub Apart : (Match → ℕ) → List Match → Type 0
Apart k [] = Unit {0}
Apart k (m ∷ ms) = All (λ x. k x ≡ k m → ⊥) ms × Apart k ms

pub apart : (k : Match → ℕ) (ms : List Match) → EachTwo (λ a b. k a ≡ k b → ⊥) ms → Apart k ms
apart k [] h = tt
apart k (m ∷ ms) h =
    (All-numbered (λ x. k x ≡ k m → ⊥) no_match ms (λ i l e. h 0 (suc i) (omega arith) (omega arith) (sym e)), apart k ms (λ i j a b. h (suc i) (suc j) (omega arith) (omega arith)))

pub apart_filter : (k : Match → ℕ) (f : Match → Bool) (ms : List Match) → Apart k ms → Apart k (filter f ms)
apart_filter k f [] h = tt
apart_filter k f (m ∷ ms) h = go (f m) (apart_filter k f ms h.1)
  where
    go : (b : Bool) → Apart k (filter f ms) → Apart k (cons_if b m (filter f ms))
    go true r = (All-filter (λ x. k x ≡ k m → ⊥) f ms h.0, r)
    go false r = r

pub apart_map : (k : Match → ℕ) (g : Match → Match) → ((a b : Match) → k (g a) ≡ k (g b) → k a ≡ k b) → (ms : List Match) → Apart k ms → Apart k (map g ms)
apart_map k g inj [] h = tt
apart_map k g inj (m ∷ ms) h = (go ms h.0, apart_map k g inj ms h.1)
  where
    go : (xs : List Match) → All (λ x. k x ≡ k m → ⊥) xs → All (λ x. k x ≡ k (g m) → ⊥) (map g xs)
    go [] r = tt
    go (x ∷ xs) r = ((λ e. r.0 (inj x m e)), go xs r.1)

-- at most one of them has the number n
abbrev pub without : (Match → ℕ) → ℕ → List Match → List Match
without k n ms = filter (λ m. not (eqb (k m) n)) ms

pub one_less : (k : Match → ℕ) (n : ℕ) (ms : List Match) → Apart k ms → length ms ≤ suc (length (without k n ms))
one_less k n [] h = omega arith
one_less k n (m ∷ ms) h = go (eqb (k m) n) refl (one_less k n ms h.1)
  where
    go : (b : Bool) → eqb (k m) n ≡ b → length ms ≤ suc (length (without k n ms)) → suc (length ms) ≤ suc (length (cons_if (not b) m (without k n ms)))
    go false e r = omega arith
    go true e r =
        let same : without k n ms ≡ ms =
        filter-every (λ x. not (eqb (k x) n)) ms
        (All-mono (λ x. k x ≡ k m → ⊥) (λ x. not (eqb (k x) n) ≡ true) (λ x d. ap not (ne_eqb (k x) n (λ q. d (q ∙ sym (eqb-true (k m) n e))))) ms h.0) in
        omega (arith, ap length same)

-- ---- two lower reads change places

abbrev pub swapped : ℕ → ℕ → ℕ → ℕ
swapped i j n = cond (eqb n i) j (cond (eqb n j) i n)

-- what n becomes
pub data Swap (i j n : ℕ) : ℕ → Type 0 where
  first : n ≡ i → Swap i j n j
  second : (n ≡ i → ⊥) → n ≡ j → Swap i j n i
  neither : (n ≡ i → ⊥) → (n ≡ j → ⊥) → Swap i j n n

pub swap : (i j n : ℕ) → Swap i j n (swapped i j n)
swap i j n = go (eqb n i) (eqb n j) refl refl
  where
    go : (a b : Bool) → eqb n i ≡ a → eqb n j ≡ b → Swap i j n (cond a j (cond b i n))
    go true b e f = first (eqb-true n i e)
    go false true e f = second (eqb-false n i e) (eqb-true n j f)
    go false false e f = neither (eqb-false n i e) (eqb-false n j f)

pub swap_inj : (i j a b : ℕ) → swapped i j a ≡ swapped i j b → a ≡ b
swap_inj i j a b e = go (swapped i j a) (swapped i j b) (swap i j a) (swap i j b) e
  where
    go : (x y : ℕ) → Swap i j a x → Swap i j b y → x ≡ y → a ≡ b
    go x y (first p) (first q) e = omega arith
    go x y (first p) (second q r) e = omega arith
    go x y (first p) (neither q r) e = absurd (r (sym e))
    go x y (second p r) (first q) e = omega arith
    go x y (second p r) (second q s) e = omega arith
    go x y (second p r) (neither q s) e = absurd (q (sym e))
    go x y (neither p r) (first q) e = absurd (r e)
    go x y (neither p r) (second q s) e = absurd (p e)
    go x y (neither p r) (neither q s) e = e

abbrev pub exchange : ℕ → ℕ → Match → Match
exchange i j m = record { upper = m.upper; lower = swapped i j m.lower }

-- ---- the lower read of an upper one

-- that of upper read i, or d if it has none
abbrev pub partner : ℕ → ℕ → List Match → ℕ
partner i d [] = d
partner i d (m ∷ ms) = cond (eqb m.upper i) m.lower (partner i d ms)

-- it is the only one
pub partner-only : (i d : ℕ) (ms : List Match) → Apart (λ m. m.upper) ms → All (λ m. m.upper ≡ i → m.lower ≡ partner i d ms) ms
partner-only i d [] h = tt
partner-only i d (m ∷ ms) h = go (eqb m.upper i) refl (partner-only i d ms h.1)
  where
    go : (b : Bool) → eqb m.upper i ≡ b → All (λ x. x.upper ≡ i → x.lower ≡ partner i d ms) ms →
        All (λ x. x.upper ≡ i → x.lower ≡ cond b m.lower (partner i d ms)) (m ∷ ms)
    go true e r = (
      (λ q. refl),
      All-mono (λ x. x.upper ≡ m.upper → ⊥) (λ x. x.upper ≡ i → x.lower ≡ m.lower) (λ x n q. absurd (n (q ∙ sym (eqb-true m.upper i e)))) ms h.0,
    )
    go false e r = ((λ q. absurd (eqb-false m.upper i e q)), r)

-- what holds of every match holds of that one
pub partner_holds : (P : ℕ → ℕ → Type 0) (i d : ℕ) (ms : List Match) → All (λ m. P m.upper m.lower) ms → (partner i d ms ≡ d) ⊎ P i (partner i d ms)
partner_holds P i d [] h = inl refl
partner_holds P i d (m ∷ ms) h = go (eqb m.upper i) refl (partner_holds P i d ms h.1)
  where
    go : (b : Bool) → eqb m.upper i ≡ b → (partner i d ms ≡ d) ⊎ P i (partner i d ms) →
        (cond b m.lower (partner i d ms) ≡ d) ⊎ P i (cond b m.lower (partner i d ms))
    go true e r = inr (subst (λ k. P k m.lower) (eqb-true m.upper i e) h.0)
    go false e r = r
