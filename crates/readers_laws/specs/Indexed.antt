-- What holds of each match of a list, and of each two, by index, where one more is put behind them.
use Rattle.std.specs.Prelude.{ℕ, zero, suc, ◌<◌, ◌≡◌, true, List, [], ◌∷◌, ◌++◌, eqb, length}
use Rattle.std.proofs.Common.{arith, sym, ap, ◌∙◌, true≢false}
use Rattle.definition.specs.Lists.{mem}
use Rattle.definition.specs.Readers.{Match, lowers_of}
use Rattle.claims.specs.Matching.{match_at}
use Rattle.graph_laws.specs.Bools.{or_left, or_right, eqb_same}
use Rattle.graph_laws.specs.Ranks.{NoDup}

abbrev pub Each : (Match → Type 0) → List Match → Type 0
Each P ms = (k : ℕ) → k < length ms → P (match_at ms k)

abbrev pub EachTwo : (Match → Match → Type 0) → List Match → Type 0
EachTwo R ms = (k l : ℕ) → k < l → l < length ms → R (match_at ms k) (match_at ms l)

pub each_more : (P : Match → Type 0) (ms : List Match) (m : Match) → Each P ms → P m → Each P (ms ++ (m ∷ []))
each_more P [] m h p zero l = p
each_more P [] m h p (suc k) l = absurd (let z : ⊥ = omega arith in z)
each_more P (x ∷ ms) m h p zero l = h 0 (omega arith)
each_more P (x ∷ ms) m h p (suc k) l = each_more P ms m (λ i q. h (suc i) (omega arith)) p k (omega arith)

pub two-more : (R : Match → Match → Type 0) (ms : List Match) (m : Match) → EachTwo R ms → Each (λ x. R x m) ms → EachTwo R (ms ++ (m ∷ []))
two-more R [] m h e k l a b = absurd (let z : ⊥ = omega arith in z)
two-more R (x ∷ ms) m h e k zero a b = absurd (let z : ⊥ = omega arith in z)
two-more R (x ∷ ms) m h e zero (suc l) a b = each_more (R x) ms m (λ i q. h 0 (suc i) (omega arith) (omega arith)) (e 0 (omega arith)) l (omega arith)
two-more R (x ∷ ms) m h e (suc k) (suc l) a b =
    two-more R ms m (λ i j p q. h (suc i) (suc j) (omega arith) (omega arith)) (λ i q. e (suc i) (omega arith)) k l (omega arith) (omega arith)

lower_in : (ms : List Match) → Each (λ m. mem eqb m.lower (lowers_of ms) ≡ true) ms
lower_in [] k l = absurd (let z : ⊥ = omega arith in z)
lower_in (x ∷ ms) zero l = or_left (eqb x.lower x.lower) (mem eqb x.lower (lowers_of ms)) (eqb_same x.lower)
lower_in (x ∷ ms) (suc k) l = or_right (eqb (match_at ms k).lower x.lower) (mem eqb (match_at ms k).lower (lowers_of ms)) (lower_in ms k (omega arith))

pub lowers_once : (ms : List Match) → NoDup eqb (lowers_of ms) → EachTwo (λ a b. a.lower ≡ b.lower → ⊥) ms
lowers_once [] n k l a b e = let z : ⊥ = omega arith in z
lowers_once (x ∷ ms) n k zero a b e = let z : ⊥ = omega arith in z
lowers_once (x ∷ ms) n zero (suc l) a b e = true≢false (sym (lower_in ms l (omega arith)) ∙ ap (λ (j : ℕ). mem eqb j (lowers_of ms)) (sym e) ∙ n.0)
lowers_once (x ∷ ms) n (suc k) (suc l) a b e = lowers_once ms n.1 k l (omega arith) (omega arith) e
