-- What does not count: bales that no line names, and bytes behind the first 100,011.
use Rattle.std.specs.Prelude.{ℕ, zero, suc, ◌+◌, ◌*◌, ◌≤◌, ◌≡◌, refl, ◌⊎◌, Bool, true, false, List, [], ◌∷◌, ◌++◌, eqb, length, replicate}
use Rattle.std.proofs.Common.{arith, sym, ap, ◌∙◌, subst, inl, inr, append_assoc, length-append, eqb-true}
use Rattle.std.proofs.Math.Option.{Option, none, some}
use Rattle.definition.specs.Lists.{mem}
use Rattle.definition.specs.Answer.{PartAnswer}
use Rattle.definition.specs.Tonnage.{lines_of, Row, row_of, grams_in, add_each, Answers, weighing_from, weighing}
use Rattle.weighing_laws.specs.Lines.{lines_first, lines_last, lines_begin}
use Rattle.weighing_laws.specs.Rows.{rows-read, good_short}
use Rattle.weighing_laws.specs.Weighings.{line_malformed, line_unanswered, line_good, from_nothing}

abbrev zeros : List ℕ
zeros = replicate 1024 0

-- ---- one line, before lines that come to the same

module _ (a b : Answers) where
  same_line :
      (k n : ℕ) (ts l : List ℕ) (ls ms : List (List ℕ)) → ((r : Row) → row_of n l ≡ some r → a r.bale ≡ b r.bale) →
      ((r : Row) (ps : List PartAnswer) → row_of n l ≡ some r →
      weighing_from a (suc k) (suc r.bale) (add_each (grams_in r ps) 0 ts) ls ≡ weighing_from b (suc k) (suc r.bale) (add_each (grams_in r ps) 0 ts) ms) →
      weighing_from a k n ts (l ∷ ls) ≡ weighing_from b k n ts (l ∷ ms)
  same_line k n ts l ls ms h i = go (row_of n l) refl
    where
      answered : (r : Row) → row_of n l ≡ some r → (o : Option (List PartAnswer)) → b r.bale ≡ o →
          weighing_from a k n ts (l ∷ ls) ≡ weighing_from b k n ts (l ∷ ms)
      answered r e none f = line_unanswered a k n ts l ls r e (h r e ∙ f) ∙ sym (line_unanswered b k n ts l ms r e f)
      answered r e (some ps) f = line_good a k n ts l ls r ps e (h r e ∙ f) ∙ i r ps e ∙ sym (line_good b k n ts l ms r ps e f)

      go : (o : Option Row) → row_of n l ≡ o → weighing_from a k n ts (l ∷ ls) ≡ weighing_from b k n ts (l ∷ ms)
      go none e = line_malformed a k n ts l ls e ∙ sym (line_malformed b k n ts l ms e)
      go (some r) e = answered r e (b r.bale) refl

-- ---- bales that no line names

-- alike for the bale of every line's row
abbrev SameAnswers : Answers → Answers → List (List ℕ) → Type 0
SameAnswers a b ls =
    (xs : List (List ℕ)) (l : List ℕ) (ys : List (List ℕ)) (next : ℕ) (r : Row) → ls ≡ xs ++ l ∷ ys → row_of next l ≡ some r → a r.bale ≡ b r.bale

module _ (a b : Answers) where
  same_from : (k n : ℕ) (ts : List ℕ) (ls : List (List ℕ)) → SameAnswers a b ls → weighing_from a k n ts ls ≡ weighing_from b k n ts ls
  same_from k n ts [] h = from_nothing a k n ts ∙ sym (from_nothing b k n ts)
  same_from k n ts (l ∷ ls) h =
      let later : SameAnswers a b ls = λ xs m ys i q e. h (l ∷ xs) m ys i q (ap (λ (t : List (List ℕ)). l ∷ t) e) in
      same_line a b k n ts l ls ls (λ r. h [] l ls n r refl) (λ r ps e. same_from (suc k) (suc r.bale) (add_each (grams_in r ps) 0 ts) ls later)

  pub same_named : (csv : List ℕ) → SameAnswers a b (lines_of csv) → weighing a csv ≡ weighing b csv
  unfolding weighing
  same_named csv h = same_from 0 0 zeros (lines_of csv) h

-- ---- bytes behind the first 100,011

-- bytes up to their first line feed and behind it, or bytes without one
abbrev Feed : List ℕ → Type 0
Feed cs = ((l : List ℕ) × (rest : List ℕ) × (mem eqb 10 l ≡ false) × (cs ≡ l ++ 10 ∷ rest)) ⊎ (mem eqb 10 cs ≡ false)

feed : (cs : List ℕ) → Feed cs
feed [] = inr refl
feed (c ∷ cs) = go (eqb 10 c) refl (feed cs)
  where
    go : (b : Bool) → eqb 10 c ≡ b → Feed cs → Feed (c ∷ cs)
    go true e f = inl ([], cs, refl, ap (λ (x : ℕ). x ∷ cs) (sym (eqb-true 10 c e)))
    go false e (inl f) = inl (c ∷ f.0, f.1, rw e f.2, ap (λ (t : List ℕ). c ∷ t) f.3)
    go false e (inr f) = inr (rw e f)

too_long : (n : ℕ) (l : List ℕ) → 11 ≤ length l → row_of n l ≡ none
too_long n l h = go (row_of n l) refl
  where
    go : (o : Option Row) → row_of n l ≡ o → o ≡ none
    go none e = refl
    go (some r) e = absurd (let z : ⊥ = omega (arith, good_short n l r e) in z)

module _ (a : Answers) (more : List ℕ) where
  abbrev LongFrom : ℕ → ℕ → List ℕ → List ℕ → Type 0
  LongFrom k n ts cs = weighing_from a k n ts (lines_of (cs ++ more)) ≡ weighing_from a k n ts (lines_of cs)

  -- no line feed: too long a line in both
  unfed : (k n : ℕ) (ts cs : List ℕ) → 11 ≤ length cs → mem eqb 10 cs ≡ false → LongFrom k n ts cs
  unfed k n ts [] h f = absurd (let z : ⊥ = omega arith in z)
  unfed k n ts (c ∷ cs) h f =
      let x = lines_begin c cs more f in
      ap (weighing_from a k n ts) x.2
      ∙ line_malformed a k n ts (c ∷ cs ++ x.0) x.1 (too_long n (c ∷ cs ++ x.0) (omega (arith, length-append cs x.0)))
      ∙ sym (ap (weighing_from a k n ts) (lines_last c cs f) ∙ line_malformed a k n ts (c ∷ cs) [] (too_long n (c ∷ cs) h))

  -- a line in both, and behind it what is left
  fed :
      (k n : ℕ) (ts l rest : List ℕ) → mem eqb 10 l ≡ false →
      ((r : Row) (ps : List PartAnswer) → row_of n (l ++ 10 ∷ []) ≡ some r → LongFrom (suc k) (suc r.bale) (add_each (grams_in r ps) 0 ts) rest) →
      LongFrom k n ts (l ++ 10 ∷ rest)
  fed k n ts l rest f i =
      ap (λ (t : List ℕ). weighing_from a k n ts (lines_of t)) (append_assoc l (10 ∷ rest) more)
      ∙ ap (weighing_from a k n ts) (lines_first l (rest ++ more) f)
      ∙ same_line a a k n ts (l ++ 10 ∷ []) (lines_of (rest ++ more)) (lines_of rest) (λ r e. refl) i
      ∙ sym (ap (weighing_from a k n ts) (lines_first l rest f))

  by_feed :
      (k n : ℕ) (ts cs : List ℕ) → 11 ≤ length cs →
      ((r : Row) (ps : List PartAnswer) (rest : List ℕ) → n ≤ r.bale → r.bale ≤ 9999 → length cs ≤ 10 + length rest →
      LongFrom (suc k) (suc r.bale) (add_each (grams_in r ps) 0 ts) rest) →
      LongFrom k n ts cs
  by_feed k n ts cs h i = go (feed cs)
    where
      go : Feed cs → LongFrom k n ts cs
      go (inr f) = unfed k n ts cs h f
      go (inl f) =
          let m = f.0 ++ 10 ∷ [] in
          let c = ap length (f.3 ∙ sym (append_assoc f.0 (10 ∷ []) f.1)) ∙ length-append m f.1 in
          subst (LongFrom k n ts) (sym f.3) (fed k n ts f.0 f.1 f.2
          (λ r ps e. let g = (rows-read n m r).0 e in i r ps f.1 g.rising g.bale-most (omega (arith, c, good_short n m r e))))

  -- d bales are left to name, in lines of at most 10 bytes
  long-from : (d k n : ℕ) (ts cs : List ℕ) → 10000 ≤ n + d → 10 * d + 11 ≤ length cs → LongFrom k n ts cs
  long-from zero k n ts cs h j = by_feed k n ts cs (omega arith) (λ r ps rest x y z. absurd (let w : ⊥ = omega arith in w))
  long-from (suc d) k n ts cs h j =
      by_feed k n ts cs (omega arith) (λ r ps rest x y z. long-from d (suc k) (suc r.bale) (add_each (grams_in r ps) 0 ts) rest (omega arith) (omega arith))

pub long_lines : (a : Answers) (csv more : List ℕ) → 100011 ≤ length csv → weighing a (csv ++ more) ≡ weighing a csv
unfolding weighing
long_lines a csv more h = long-from a more 10000 0 0 zeros csv (omega arith) (omega arith)
