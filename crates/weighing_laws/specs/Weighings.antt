-- The lines, one after the other: where they end, and with what (Outcomes).
use Rattle.std.specs.Prelude.{ℕ, zero, suc, ◌+◌, ◌<◌, ◌≡◌, ◌⊎◌, List, [], ◌∷◌, ◌++◌, length, get_or, replicate}
use Rattle.std.proofs.Common.{arith, sym, ◌∙◌, inl, inr, append-nil, ext_get_or}
use Rattle.std.proofs.Math.Path.{refl, ap}
use Rattle.std.proofs.Math.Option.{Option, none, some}
use Rattle.std.proofs.lemmas.List.{length-replicate, get_or-replicate}
use Rattle.definition.specs.Answer.{PartAnswer}
use Rattle.definition.specs.Tonnage.{lines_of, Row, row_of, grams_in, add_each, Weighing, weighed, refused_at, Answers, weighing_from, weighing}
use Rattle.claims.specs.Tonnage.{Entry, Good, At, MalformedAt, UnansweredAt, total, Summed, Outcome, Outcomes}
use Rattle.weighing_laws.specs.Totals.{add_all, all-length, all-at}

module _ (a : Answers) where
  -- ---- one line

  -- what comes of it by its bale's answer, and by its row
  abbrev by_answer : ℕ → List ℕ → List (List ℕ) → Row → Option (List PartAnswer) → Weighing
  by_answer k ts ls r o = elim o [ none ↦ refused_at 15 k | some ps ↦ weighing_from a (suc k) (suc r.bale) (add_each (grams_in r ps) 0 ts) ls ]

  abbrev by_row : ℕ → List ℕ → List (List ℕ) → Option Row → Weighing
  by_row k ts ls o = elim o [ none ↦ refused_at 14 k | some r ↦ by_answer k ts ls r (a r.bale) ]

  module _ (k n : ℕ) (ts : List ℕ) (l : List ℕ) (ls : List (List ℕ)) where
    pub line_malformed : row_of n l ≡ none → weighing_from a k n ts (l ∷ ls) ≡ refused_at 14 k
    unfolding weighing_from
    line_malformed h = ap (by_row k ts ls) h

    pub line_unanswered : (r : Row) → row_of n l ≡ some r → a r.bale ≡ none → weighing_from a k n ts (l ∷ ls) ≡ refused_at 15 k
    unfolding weighing_from
    line_unanswered r h i = ap (by_row k ts ls) h ∙ ap (by_answer k ts ls r) i

    pub line_good :
        (r : Row) (ps : List PartAnswer) → row_of n l ≡ some r → a r.bale ≡ some ps →
        weighing_from a k n ts (l ∷ ls) ≡ weighing_from a (suc k) (suc r.bale) (add_each (grams_in r ps) 0 ts) ls
    unfolding weighing_from
    line_good r ps h i = ap (by_row k ts ls) h ∙ ap (by_answer k ts ls r) i

  -- ---- good lines, and what follows them

  through :
      (k n : ℕ) (ts : List ℕ) (ls : List (List ℕ)) (es : List Entry) (m : ℕ) (rest : List (List ℕ)) → Good a n ls es m →
      weighing_from a k n ts (ls ++ rest) ≡ weighing_from a (k + length ls) m (add_all es ts) rest
  through k n ts [] [] m rest g =
      let e : k ≡ k + 0 = omega arith in
      ap (λ (x : ℕ). weighing_from a x n ts rest) e ∙ ap (λ (x : ℕ). weighing_from a (k + 0) x ts rest) g
  through k n ts [] (e ∷ es) m rest g = absurd g
  through k n ts (l ∷ ls) [] m rest g = absurd g
  through k n ts (l ∷ ls) (e ∷ es) m rest g =
      let z : suc k + length ls ≡ k + suc (length ls) = omega arith in
      line_good k n ts l (ls ++ rest) e.row e.parts g.0 g.1
      ∙ through (suc k) (suc e.row.bale) (add_each (grams_in e.row e.parts) 0 ts) ls es m rest g.2
      ∙ ap (λ (x : ℕ). weighing_from a x m (add_all (e ∷ es) ts) rest) z

  -- ---- where lines end: all are good, or one is the first that is not

  record Whole (n : ℕ) (ls : List (List ℕ)) : Type 0 where
    pub entries : List Entry
    pub after : ℕ
    pub good : Good a n ls entries after

  record First (n : ℕ) (ls : List (List ℕ)) : Type 0 where
    pub before : List (List ℕ)
    pub here : List ℕ
    pub behind : List (List ℕ)
    pub entries : List Entry
    pub next : ℕ
    pub cut : ls ≡ before ++ here ∷ behind
    pub good : Good a n before entries next

  data Ends (n : ℕ) (ls : List (List ℕ)) : Type 0 where
    all_good : Whole n ls → Ends n ls
    bad_line : (x : First n ls) → row_of x.next x.here ≡ none → Ends n ls
    no_answer : (x : First n ls) (r : Row) → row_of x.next x.here ≡ some r → a r.bale ≡ none → Ends n ls

  walk : (n : ℕ) (ls : List (List ℕ)) → Ends n ls
  walk n [] = all_good (record { entries = []; after = n; good = refl })
  walk n (l ∷ ls) = go (row_of n l) refl (λ r. walk (suc r.bale) ls)
    where
      first : First n (l ∷ ls)
      first = record { before = []; here = l; behind = ls; entries = []; next = n; cut = refl; good = refl }

      later : (r : Row) (ps : List PartAnswer) → row_of n l ≡ some r → a r.bale ≡ some ps → First (suc r.bale) ls → First n (l ∷ ls)
      later r ps h i x =
          record {
            before = l ∷ x.before;
            here = x.here;
            behind = x.behind;
            entries = record { row = r; parts = ps } ∷ x.entries;
            next = x.next;
            cut = ap (λ (t : List (List ℕ)). l ∷ t) x.cut;
            good = (h, i, x.good);
          }

      more : (r : Row) (ps : List PartAnswer) → row_of n l ≡ some r → a r.bale ≡ some ps → Ends (suc r.bale) ls → Ends n (l ∷ ls)
      more r ps h i (all_good w) = all_good (record { entries = record { row = r; parts = ps } ∷ w.entries; after = w.after; good = (h, i, w.good) })
      more r ps h i (bad_line x e) = bad_line (later r ps h i x) e
      more r ps h i (no_answer x q e f) = no_answer (later r ps h i x) q e f

      answered : (r : Row) → row_of n l ≡ some r → (o : Option (List PartAnswer)) → a r.bale ≡ o → Ends (suc r.bale) ls → Ends n (l ∷ ls)
      answered r h none i w = no_answer first r h i
      answered r h (some ps) i w = more r ps h i w

      go : (o : Option Row) → row_of n l ≡ o → ((r : Row) → Ends (suc r.bale) ls) → Ends n (l ∷ ls)
      go none h w = bad_line first h
      go (some r) h w = answered r h (a r.bale) refl (w r)

  -- ---- the value in each case

  abbrev zeros : List ℕ
  zeros = replicate 1024 0

  pub from_nothing : (k n : ℕ) (ts : List ℕ) → weighing_from a k n ts [] ≡ weighed k ts
  unfolding weighing_from
  from_nothing k n ts = refl

  module _ (csv : List ℕ) where
    is-from : weighing a csv ≡ weighing_from a 0 0 zeros (lines_of csv)
    unfolding weighing
    is-from = refl

    all_lines : (es : List Entry) (m : ℕ) → Good a 0 (lines_of csv) es m → weighing a csv ≡ weighed (length (lines_of csv)) (add_all es zeros)
    all_lines es m g =
        let z : 0 + length (lines_of csv) ≡ length (lines_of csv) = omega arith in
        is-from
        ∙ ap (weighing_from a 0 0 zeros) (sym (append-nil (lines_of csv)))
        ∙ through 0 0 zeros (lines_of csv) es m [] g
        ∙ from_nothing (0 + length (lines_of csv)) m (add_all es zeros)
        ∙ ap (λ (k : ℕ). weighed k (add_all es zeros)) z

    up_to : (x : First 0 (lines_of csv)) → weighing a csv ≡ weighing_from a (length x.before) x.next (add_all x.entries zeros) (x.here ∷ x.behind)
    up_to x =
        let z : 0 + length x.before ≡ length x.before = omega arith in
        is-from
        ∙ ap (weighing_from a 0 0 zeros) x.cut
        ∙ through 0 0 zeros x.before x.entries x.next (x.here ∷ x.behind) x.good
        ∙ ap (λ (k : ℕ). weighing_from a k x.next (add_all x.entries zeros) (x.here ∷ x.behind)) z

    at_malformed : (x : First 0 (lines_of csv)) → row_of x.next x.here ≡ none → weighing a csv ≡ refused_at 14 (length x.before)
    at_malformed x h = up_to x ∙ line_malformed (length x.before) x.next (add_all x.entries zeros) x.here x.behind h

    at_unanswered :
        (x : First 0 (lines_of csv)) (r : Row) → row_of x.next x.here ≡ some r → a r.bale ≡ none →
        weighing a csv ≡ refused_at 15 (length x.before)
    at_unanswered x r h i = up_to x ∙ line_unanswered (length x.before) x.next (add_all x.entries zeros) x.here x.behind r h i

    -- ---- and so which case it is

    apart : (k n j : ℕ) (ts : List ℕ) → weighed k ts ≡ refused_at n j → ⊥
    apart k n j ts h = let z : ◌≡◌ {A = ℕ} 0 1 = cc in omega arith

    same_number : (n m j k : ℕ) → refused_at n j ≡ refused_at m k → (n ≡ m) × (j ≡ k)
    same_number n m j k h = (cc, cc)

    abbrev at_first : (k : ℕ) (x : First 0 (lines_of csv)) → length x.before ≡ k → At a (lines_of csv) k
    at_first k x e = record { before = x.before; here = x.here; behind = x.behind; entries = x.entries; next = x.next; cut = x.cut; place = e; good = x.good }

    abbrev first-at : (k : ℕ) → At a (lines_of csv) k → First 0 (lines_of csv)
    first-at k x = record { before = x.before; here = x.here; behind = x.behind; entries = x.entries; next = x.next; cut = x.cut; good = x.good }

    sums_of : (es : List Entry) (g : ℕ) → g < 1024 → get_or (add_all es zeros) g 0 ≡ total g es
    sums_of es g h =
        let l = length-replicate 1024 (zero) in
        omega (arith, all-at es zeros g (omega (arith, l)), get_or-replicate 1024 g zero zero h)

    long_of : (es : List Entry) → length (add_all es zeros) ≡ 1024
    long_of es = all-length es zeros ∙ length-replicate 1024 zero

    summed : (k : ℕ) (ts : List ℕ) → weighing a csv ≡ weighed k ts → Ends 0 (lines_of csv) → Summed a (lines_of csv) k ts
    summed k ts h (all_good w) =
        let e = sym h ∙ all_lines w.entries w.after w.good in
        let p : k ≡ length (lines_of csv) = cc in
        let q : ts ≡ add_all w.entries zeros = cc in
        record {
          entries = w.entries;
          after = w.after;
          good = w.good;
          lines = p;
          long = ap length q ∙ long_of w.entries;
          sums = λ g i. ap (λ (t : List ℕ). get_or t g 0) q ∙ sums_of w.entries g i;
        }
    summed k ts h (bad_line x e) = absurd (apart k 14 (length x.before) ts (sym h ∙ at_malformed x e))
    summed k ts h (no_answer x r e f) = absurd (apart k 15 (length x.before) ts (sym h ∙ at_unanswered x r e f))

    weighs : (k : ℕ) (ts : List ℕ) → Summed a (lines_of csv) k ts → weighing a csv ≡ weighed k ts
    weighs k ts s =
        let es = s.entries in
        let q : add_all es zeros ≡ ts =
        ext_get_or 0 (add_all es zeros) ts (long_of es ∙ sym s.long) (λ i h. let j : i < 1024 = omega (arith, long_of es) in sums_of es i j ∙ sym (s.sums i j)) in
        all_lines es s.after s.good ∙ ap (weighed (length (lines_of csv))) q ∙ ap (λ (j : ℕ). weighed j ts) (sym s.lines)

    malformed : (k : ℕ) → weighing a csv ≡ refused_at 14 k → Ends 0 (lines_of csv) → MalformedAt a (lines_of csv) k
    malformed k h (all_good w) = absurd (apart _ 14 k _ (sym (all_lines w.entries w.after w.good) ∙ h))
    malformed k h (bad_line x e) = record { at = at_first k x (same_number 14 14 _ k (sym (at_malformed x e) ∙ h)).1; bad = e }
    malformed k h (no_answer x r e f) = absurd (let z : 15 ≡ 14 = (same_number 15 14 _ k (sym (at_unanswered x r e f) ∙ h)).0 in let y : ⊥ = omega arith in y)

    unanswered : (k : ℕ) → weighing a csv ≡ refused_at 15 k → Ends 0 (lines_of csv) → UnansweredAt a (lines_of csv) k
    unanswered k h (all_good w) = absurd (apart _ 15 k _ (sym (all_lines w.entries w.after w.good) ∙ h))
    unanswered k h (bad_line x e) = absurd (let z : 14 ≡ 15 = (same_number 14 15 _ k (sym (at_malformed x e) ∙ h)).0 in let y : ⊥ = omega arith in y)
    unanswered k h (no_answer x r e f) = record { at = at_first k x (same_number 15 15 _ k (sym (at_unanswered x r e f) ∙ h)).1; row = r; read = e; missing = f }

    number : (n k : ℕ) → weighing a csv ≡ refused_at n k → Ends 0 (lines_of csv) → (n ≡ 14) ⊎ (n ≡ 15)
    number n k h (all_good w) = absurd (apart _ n k _ (sym (all_lines w.entries w.after w.good) ∙ h))
    number n k h (bad_line x e) = inl (sym (same_number 14 n _ k (sym (at_malformed x e) ∙ h)).0)
    number n k h (no_answer x r e f) = inr (sym (same_number 15 n _ k (sym (at_unanswered x r e f) ∙ h)).0)

    outcome : Outcome a csv
    outcome =
        let w = walk 0 (lines_of csv) in
        record {
          accepted = λ k ts. (λ h. summed k ts h w, weighs k ts);
          malformed = λ k. (λ h. malformed k h w, λ x. at_malformed (first-at k x.at) x.bad ∙ ap (refused_at 14) x.at.place);
          unanswered = λ k. (λ h. unanswered k h w, λ x. at_unanswered (first-at k x.at) x.row x.read x.missing ∙ ap (refused_at 15) x.at.place);
          no_other = λ n k h. number n k h w;
        }

pub outcomes : Outcomes
outcomes a csv = outcome a csv
