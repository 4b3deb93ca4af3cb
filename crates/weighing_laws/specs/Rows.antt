-- A line is good exactly if it is its row written out (RowsRead), and what is read at the front of bytes is their first line.
use Rattle.std.specs.Prelude.{ℕ, ◌≤◌, ◌≡◌, refl, Bool, true, false, cond, ◌&&◌, List, [], ◌∷◌, ◌++◌, eqb, leb, length}
use Rattle.std.proofs.Common.{arith, sym, ap, ◌∙◌, subst, append_assoc, length-append, leb-true, le-leb}
use Rattle.std.proofs.Math.Option.{Option, none, some}
use Rattle.definition.specs.Lists.{concat, mem}
use Rattle.definition.specs.Text.{ascii}
use Rattle.definition.specs.Listing.{decimal}
use Rattle.definition.specs.Tonnage.{lines_of, Number, number_from, Row, Front, front_with, front_row, alone, row_of}
use Rattle.claims.specs.Tonnage.{GoodLine, RowsRead}
use Rattle.text_laws.specs.Decimal.{decimal-short}
use Rattle.weighing_laws.specs.Lines.{lines_first, lines_joined}
use Rattle.weighing_laws.specs.Numbers.{none-some, number_stands, number-reads, mem_append, decimal_clean}

-- ---- the two numbers, one after the other

-- the row by the second number, and by the first
abbrev by_kilograms : ℕ → Number → Option Number → Option Front
by_kilograms next b o = elim o [ none ↦ none | some k ↦ front_with next b k ]

abbrev by_bale : ℕ → Option Number → Option Front
by_bale next o = elim o [ none ↦ none | some b ↦ by_kilograms next b (number_from 2000 10 none b.rest) ]

pub front-both :
    (next : ℕ) (l : List ℕ) (b k : Number) → number_from 9999 44 none l ≡ some b → number_from 2000 10 none b.rest ≡ some k →
    front_row next l ≡ front_with next b k
unfolding front_row
front-both next l b k e f = ap (by_bale next) e ∙ ap (by_kilograms next b) f

pub front_no_bale : (next : ℕ) (l : List ℕ) → number_from 9999 44 none l ≡ none → front_row next l ≡ none
unfolding front_row
front_no_bale next l e = ap (by_bale next) e

pub front_no_kilograms :
    (next : ℕ) (l : List ℕ) (b : Number) → number_from 9999 44 none l ≡ some b → number_from 2000 10 none b.rest ≡ none → front_row next l ≡ none
unfolding front_row
front_no_kilograms next l b e f = ap (by_bale next) e ∙ ap (by_kilograms next b) f

-- the bytes of a row and of what follows
abbrev pub written : Row → List ℕ → List ℕ
written r cs = decimal r.bale ++ 44 ∷ (decimal r.kilograms ++ 10 ∷ cs)

pub record Read (next : ℕ) (l : List ℕ) (f : Front) : Type 0 where
  pub text : l ≡ written f.row f.rest
  pub rising : next ≤ f.row.bale
  pub bale-most : f.row.bale ≤ 9999
  pub kilograms_least : 1 ≤ f.row.kilograms
  pub kilograms_most : f.row.kilograms ≤ 2000

-- in range: the two tests
front_with_lem : (next : ℕ) (b k : Number) (f : Front) → front_with next b k ≡ some f →
    (next ≤ b.value) × (1 ≤ k.value) × (record { row = record { bale = b.value; kilograms = k.value }; rest = k.rest } ≡ f)
unfolding front_with
front_with_lem next b k f h = go (leb next b.value) (leb 1 k.value) refl refl h
  where
    go : (x y : Bool) → leb next b.value ≡ x → leb 1 k.value ≡ y →
        cond (x && y) (some (record { row = record { bale = b.value; kilograms = k.value }; rest = k.rest })) none ≡ some f →
        (next ≤ b.value) × (1 ≤ k.value) × (record { row = record { bale = b.value; kilograms = k.value }; rest = k.rest } ≡ f)
    go true true d e g = (leb-true next b.value d, leb-true 1 k.value e, cc)
    go true false d e g = absurd (none-some f g)
    go false y d e g = absurd (none-some f g)

pub front_read : (next : ℕ) (l : List ℕ) (f : Front) → front_row next l ≡ some f → Read next l f
front_read next l f h = go (number_from 9999 44 none l) refl
  where
    both : (b k : Number) → number_from 9999 44 none l ≡ some b → number_from 2000 10 none b.rest ≡ some k → Read next l f
    both b k e g =
        let w = front_with_lem next b k f (sym (front-both next l b k e g) ∙ h) in
        let s = number_stands 9999 44 none l b tt e in
        let t = number_stands 2000 10 none b.rest k tt g in
        let second = t.0.cut ∙ ap (λ (d : List ℕ). d ++ 10 ∷ k.rest) (sym t.0.text) in
        subst (Read next l) w.2
        (record {
          text = s.0.cut ∙ ap (λ (d : List ℕ). d ++ 44 ∷ b.rest) (sym s.0.text) ∙ ap (λ (r : List ℕ). decimal b.value ++ 44 ∷ r) second;
          rising = w.0;
          bale-most = s.1;
          kilograms_least = w.1;
          kilograms_most = t.1;
        })

    second : (b : Number) → number_from 9999 44 none l ≡ some b → (o : Option Number) → number_from 2000 10 none b.rest ≡ o → Read next l f
    second b e none g = absurd (none-some f (sym (front_no_kilograms next l b e g) ∙ h))
    second b e (some k) g = both b k e g

    go : (o : Option Number) → number_from 9999 44 none l ≡ o → Read next l f
    go none e = absurd (none-some f (sym (front_no_bale next l e) ∙ h))
    go (some b) e = second b e (number_from 2000 10 none b.rest) refl

pub front_reads :
    (next : ℕ) (r : Row) (cs : List ℕ) → next ≤ r.bale → r.bale ≤ 9999 → 1 ≤ r.kilograms → r.kilograms ≤ 2000 →
    front_row next (written r cs) ≡ some (record { row = r; rest = cs })
unfolding front_with
front_reads next r cs h k m n =
    let behind = decimal r.kilograms ++ 10 ∷ cs in
    let first = number-reads 9999 44 (omega arith) r.bale behind k in
    let second = number-reads 2000 10 (omega arith) r.kilograms cs n in
    front-both next (written r cs) (record { value = r.bale; rest = behind }) (record { value = r.kilograms; rest = cs }) first second
    ∙ rw (le-leb next r.bale h, le-leb 1 r.kilograms m)

-- ---- a line by itself

row_of_lem : (next : ℕ) (l : List ℕ) (f : Front) → front_row next l ≡ some f → row_of next l ≡ alone f.row f.rest
unfolding row_of
row_of_lem next l f e = ap (λ (o : Option Front). elim o [ none ↦ none | some f ↦ alone f.row f.rest ]) e

row-none : (next : ℕ) (l : List ℕ) → front_row next l ≡ none → row_of next l ≡ none
unfolding row_of
row-none next l e = ap (λ (o : Option Front). elim o [ none ↦ none | some f ↦ alone f.row f.rest ]) e

is-alone : (q : Row) (cs : List ℕ) (r : Row) → alone q cs ≡ some r → (q ≡ r) × (cs ≡ [])
unfolding alone
is-alone q [] r h = (cc, refl)
is-alone q (c ∷ cs) r h = absurd (none-some r h)

commas : (r : Row) → written r [] ≡ decimal r.bale ++ ascii "," ++ decimal r.kilograms ++ ascii "\n"
unfolding ascii
commas r =
    let b = decimal r.bale in
    let k = decimal r.kilograms in
    sym (append_assoc (b ++ 44 ∷ []) k (10 ∷ []) ∙ append_assoc b (44 ∷ []) (k ++ 10 ∷ []))

good_line : (next : ℕ) (l : List ℕ) (r : Row) → row_of next l ≡ some r → GoodLine next l r
good_line next l r h = go (front_row next l) refl
  where
    go : (o : Option Front) → front_row next l ≡ o → GoodLine next l r
    go none e = absurd (none-some r (sym (row-none next l e) ∙ h))
    go (some f) e =
        let a = is-alone f.row f.rest r (sym (row_of_lem next l f e) ∙ h) in
        let d = front_read next l f e in
        subst (GoodLine next l) a.0
        (record {
          text = d.text ∙ ap (written f.row) a.1 ∙ commas f.row;
          rising = d.rising;
          bale-most = d.bale-most;
          kilograms_least = d.kilograms_least;
          kilograms_most = d.kilograms_most;
        })

line_good : (next : ℕ) (l : List ℕ) (r : Row) → GoodLine next l r → row_of next l ≡ some r
unfolding alone
line_good next l r g =
    ap (row_of next) (g.text ∙ sym (commas r))
    ∙ row_of_lem next (written r []) (record { row = r; rest = [] }) (front_reads next r [] g.rising g.bale-most g.kilograms_least g.kilograms_most)

pub rows-read : RowsRead
rows-read next l r = (good_line next l r, line_good next l r)

-- at most four digits each
pub good_short : (next : ℕ) (l : List ℕ) (r : Row) → row_of next l ≡ some r → length l ≤ 10
good_short next l r h =
    let g = good_line next l r h in
    let e = simp length-append at (ap length (g.text ∙ sym (commas r))) in
    omega (arith, e, decimal-short 3 r.bale (omega (arith, g.bale-most)), decimal-short 3 r.kilograms (omega (arith, g.kilograms_most)))

-- ---- at the front of bytes

-- what is read there is the first line
pub record FirstLine (next : ℕ) (l : List ℕ) (f : Front) : Type 0 where
  pub line : List ℕ
  pub first : lines_of l ≡ line ∷ lines_of f.rest
  pub row : row_of next line ≡ some f.row
  pub cut : l ≡ line ++ f.rest

-- a row's bytes up to its line feed
abbrev body : Row → List ℕ
body r = decimal r.bale ++ 44 ∷ decimal r.kilograms

body_clean : (r : Row) → mem eqb 10 (body r) ≡ false
body_clean r = mem_append (decimal r.bale) (44 ∷ decimal r.kilograms) (decimal_clean r.bale) (decimal_clean r.kilograms)

body-written : (r : Row) (cs : List ℕ) → written r cs ≡ body r ++ 10 ∷ cs
body-written r cs = sym (append_assoc (decimal r.bale) (44 ∷ decimal r.kilograms) (10 ∷ cs))

pub front-line : (next : ℕ) (l : List ℕ) (f : Front) → front_row next l ≡ some f → FirstLine next l f
unfolding alone
front-line next l f h =
    let d = front_read next l f h in
    let e = d.text ∙ body-written f.row f.rest in
    let reads = front_reads next f.row [] d.rising d.bale-most d.kilograms_least d.kilograms_most in
    record {
      line = body f.row ++ 10 ∷ [];
      first = ap lines_of e ∙ lines_first (body f.row) f.rest (body_clean f.row);
      row = ap (row_of next) (sym (body-written f.row [])) ∙ row_of_lem next (written f.row []) (record { row = f.row; rest = [] }) reads;
      cut = e ∙ sym (append_assoc (body f.row) (10 ∷ []) f.rest);
    }

-- where nothing is read the first line is malformed
pub front_malformed : (next : ℕ) (l line : List ℕ) (ls : List (List ℕ)) → front_row next l ≡ none → lines_of l ≡ line ∷ ls → row_of next line ≡ none
front_malformed next l line ls h k = go (row_of next line) refl
  where
    go : (o : Option Row) → row_of next line ≡ o → o ≡ none
    go none e = refl
    go (some r) e =
        let g = good_line next line r e in
        let cs = concat ls in
        let t : l ≡ written r cs =
        sym (lines_joined l)
        ∙ ap concat k
        ∙ ap (λ (m : List ℕ). m ++ cs) (g.text ∙ sym (commas r) ∙ body-written r [])
        ∙ append_assoc (body r) (10 ∷ []) cs
        ∙ sym (body-written r cs) in
        absurd (none-some _ (sym h ∙ ap (front_row next) t ∙ front_reads next r cs g.rising g.bale-most g.kilograms_least g.kilograms_most))
