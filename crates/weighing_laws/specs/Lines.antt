-- The lines of bytes: what each equation of the claim says, and that the lines joined are the bytes.
use Rattle.std.specs.Prelude.{ℕ, ◌≡◌, refl, Bool, true, false, ◌||◌, List, [], ◌∷◌, ◌++◌, eqb}
use Rattle.std.proofs.Common.{sym, ap, ◌∙◌, true≢false, ne_eqb}
use Rattle.std.proofs.lemmas.Bool.{eqb-false}
use Rattle.definition.specs.Lists.{concat, mem}
use Rattle.definition.specs.Tonnage.{before_lines, lines_of}
use Rattle.claims.specs.Tonnage.{LinesCut}

pub neither : (a b : Bool) → (a || b) ≡ false → (a ≡ false) × (b ≡ false)
neither true b h = absurd (true≢false h)
neither false b h = (refl, h)

pub other : (a b : ℕ) → eqb a b ≡ false → eqb b a ≡ false
other a b h = ne_eqb b a (λ e. eqb-false a b h (sym e))

pub lines_first : (l cs : List ℕ) → mem eqb 10 l ≡ false → lines_of (l ++ 10 ∷ cs) ≡ (l ++ 10 ∷ []) ∷ lines_of cs
unfolding lines_of before_lines
lines_first [] cs h = refl
lines_first (c ∷ l) cs h = let n = neither (eqb 10 c) (mem eqb 10 l) h in rw (other 10 c n.0, lines_first l cs n.1)

pub lines_last : (c : ℕ) (l : List ℕ) → mem eqb 10 (c ∷ l) ≡ false → lines_of (c ∷ l) ≡ (c ∷ l) ∷ []
unfolding lines_of before_lines
lines_last c [] h = let n = neither (eqb 10 c) false h in rw (other 10 c n.0)
lines_last c (d ∷ l) h = let n = neither (eqb 10 c) (mem eqb 10 (d ∷ l)) h in rw (other 10 c n.0, lines_last d l n.1)

pub lines_cut : LinesCut
unfolding lines_of
lines_cut = record { none = refl; first = lines_first; last = lines_last }

before-joined : (b : Bool) (c : ℕ) (ls : List (List ℕ)) → concat (before_lines b c ls) ≡ c ∷ concat ls
unfolding before_lines
before-joined true c ls = refl
before-joined false c [] = refl
before-joined false c (l ∷ ls) = refl

pub lines_joined : (cs : List ℕ) → concat (lines_of cs) ≡ cs
unfolding lines_of
lines_joined [] = refl
lines_joined (c ∷ cs) = before-joined (eqb c 10) c (lines_of cs) ∙ ap (λ (l : List ℕ). c ∷ l) (lines_joined cs)

-- where there is a byte there is a line
pub lines_some : (c : ℕ) (cs : List ℕ) → (l : List ℕ) × (ls : List (List ℕ)) × (lines_of (c ∷ cs) ≡ l ∷ ls)
unfolding lines_of before_lines
lines_some c cs = go (eqb c 10) (lines_of cs)
  where
    go : (b : Bool) (ms : List (List ℕ)) → (l : List ℕ) × (ls : List (List ℕ)) × (before_lines b c ms ≡ l ∷ ls)
    go true ms = (c ∷ [], ms, refl)
    go false [] = (c ∷ [], [], refl)
    go false (m ∷ ms) = (c ∷ m, ms, refl)

-- bytes without a line feed begin the first line, whatever follows
pub lines_begin : (c : ℕ) (cs more : List ℕ) → mem eqb 10 (c ∷ cs) ≡ false → (x : List ℕ) × (ls : List (List ℕ)) × (lines_of (c ∷ cs ++ more) ≡ (c ∷ cs ++ x) ∷ ls)
unfolding lines_of before_lines
lines_begin c [] more h = rw (other 10 c (neither (eqb 10 c) false h).0) (go (lines_of more))
  where
    go : (ms : List (List ℕ)) → (x : List ℕ) × (ls : List (List ℕ)) × (before_lines false c ms ≡ (c ∷ x) ∷ ls)
    go [] = ([], [], refl)
    go (m ∷ ms) = (m, ms, refl)
lines_begin c (d ∷ cs) more h =
    let n = neither (eqb 10 c) (mem eqb 10 (d ∷ cs)) h in
    let r = lines_begin d cs more n.1 in
    (r.0, r.1, rw (other 10 c n.0, r.2))
