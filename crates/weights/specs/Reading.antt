-- What the functions answer, in the definition's terms, and the laws that their proofs cite.
use Prim.Native.Nat.{ℕ, suc, ◌+◌, ◌≤◌, ◌<◌}
use native.Mathlib.Omega.{arith}
use Rattle.std.specs.Prelude.{◌≡◌, refl, true, false, Option, None, Some, Result, Ok, Err, IfSome, List, ◌∷◌, eqb, get_or}
use Rattle.std.proofs.Common.{sym, ◌∙◌, drop_of_length-le, drop-cons}
use Rattle.std.proofs.Math.Path.{ap}
use Rattle.std.proofs.Math.Option.{Option as Maybe, none, some}
use Rattle.std.proofs.Math.ListN.{length, drop, length-drop, length-append}
use borrow.Author.Tests.{le-leb, lt-leb}
use Rattle.definition.specs.Tonnage.{lines_of, Number as Value, next_digit, ended, number_from, front_with, front_row, row_of}
use Rattle.weighing_laws.specs.Numbers.{digit-read, number_step, number-ends, number_fails, number-nothing}
use Rattle.weighing_laws.specs.Rows.{front-both, front_no_bale, front_no_kilograms, front-line, front_malformed}
use Rattle.weights.specs.declared.Number.{Number}
use Rattle.weights.specs.declared.Line.{Line}
use Rattle.weights.specs.declared.Malformed.{Malformed}

-- ---- a digit

-- what is read so far: nothing before the first digit
abbrev pub so_far : Option ℕ → Maybe ℕ
so_far None = none
so_far (Some v) = some v

-- ---- a number

-- the number from place `at` on, and the place after it
abbrev pub NumberAt : ℕ → ℕ → List ℕ → ℕ → Option Number → Type 0
NumberAt most end csv at (Some n) =
    (number_from most end none (drop at csv) ≡ some (record { value = n.value; rest = drop n.after csv })) × (at < n.after) × (n.after ≤ length csv)
NumberAt most end csv at None = number_from most end none (drop at csv) ≡ none

-- while it is read: up to place i, with what was read so far
pub record Reading (most end : ℕ) (csv : List ℕ) (at : ℕ) (read : Option ℕ) (i : ℕ) : Type 0 where
  pub same : number_from most end none (drop at csv) ≡ number_from most end (so_far read) (drop i csv)
  pub fits : IfSome read (λ v. v ≤ most)

module _ {most end : ℕ} {csv : List ℕ} {at : ℕ} {read : Option ℕ} {i : ℕ} (R : Reading most end csv at read i) where
  here : i < length csv → number_from most end none (drop at csv) ≡ number_from most end (so_far read) (get_or csv i 0 ∷ drop (suc i) csv)
  here h = R.same ∙ ap (number_from most end (so_far read)) (drop-cons csv i 0 h)

  pub reading_next : {n : ℕ} → i < length csv → eqb (get_or csv i 0) end ≡ false → some n ≡ next_digit most (so_far read) (get_or csv i 0) → Reading most end csv at (Some n) (i + 1)
  reading_next {n} h e d =
      let z : suc i ≡ i + 1 = omega arith in
      record {
        same = here h ∙ number_step most end (so_far read) (get_or csv i 0) n (drop (suc i) csv) e (sym d) ∙ ap (λ (j : ℕ). number_from most end (some n) (drop j csv)) z;
        fits = (digit-read most (so_far read) (get_or csv i 0) n (sym d)).fits;
      }

  pub reading_stops : i < length csv → eqb (get_or csv i 0) end ≡ false → none ≡ next_digit most (so_far read) (get_or csv i 0) → NumberAt most end csv at None
  reading_stops h e d = here h ∙ number_fails most end (so_far read) (get_or csv i 0) (drop (suc i) csv) e (sym d)

  pub reading_out : length csv ≤ i → NumberAt most end csv at None
  reading_out h = R.same ∙ ap (number_from most end (so_far read)) (drop_of_length-le csv h) ∙ number-nothing most end (so_far read)

  pub reading_nothing : i < length csv → eqb (get_or csv i 0) end ≡ true → read ≡ None → NumberAt most end csv at None
  unfolding ended
  reading_nothing h e f =
      here h ∙ number-ends most end (so_far read) (get_or csv i 0) (drop (suc i) csv) e ∙ ap (λ (r : Option ℕ). ended (so_far r) (drop (suc i) csv)) f

  pub reading_ends : {v : ℕ} → at ≤ i → i < length csv → eqb (get_or csv i 0) end ≡ true → read ≡ Some v → NumberAt most end csv at (Some (record { value = v; after = i + 1 }))
  unfolding ended
  reading_ends {v} l h e f =
      let z : suc i ≡ i + 1 = omega arith in (
        here h ∙ number-ends most end (so_far read) (get_or csv i 0) (drop (suc i) csv) e ∙ ap (λ (r : Option ℕ). ended (so_far r) (drop (suc i) csv)) f
            ∙ ap (λ (j : ℕ). some (record { value = v; rest = drop j csv })) z,
        omega arith,
        omega arith,
      )

-- ---- a line

-- The line from place `at` on: its row, where bales start at `next`, and the place after it.
pub record GoodAt (next : ℕ) (csv : List ℕ) (at b k after : ℕ) : Type 0 where
  pub line : List ℕ
  pub first : lines_of (drop at csv) ≡ line ∷ lines_of (drop after csv)
  pub row : row_of next line ≡ some (record { bale = b; kilograms = k })
  pub long : at + length line ≡ after
  pub inside : after ≤ length csv

pub record MalformedAt (next : ℕ) (csv : List ℕ) (at : ℕ) : Type 0 where
  pub there : at < length csv
  pub none_good : (line : List ℕ) (ls : List (List ℕ)) → lines_of (drop at csv) ≡ line ∷ ls → row_of next line ≡ none

-- it is good, or malformed, or there is none
abbrev pub LineAt : ℕ → List ℕ → ℕ → Result (Option Line) Malformed → Type 0
LineAt next csv at (Ok (Some l)) = GoodAt next csv at l.bale l.kilograms l.after
LineAt next csv at (Ok None) = length csv ≤ at
LineAt next csv at (Err e) = MalformedAt next csv at

module _ (next : ℕ) (csv : List ℕ) (at : ℕ) (there : at < length csv) where
  -- nothing is read at the front: the first line is malformed
  bad_line : front_row next (drop at csv) ≡ none → MalformedAt next csv at
  bad_line h = record { there = there; none_good = λ line ls e. front_malformed next (drop at csv) line ls h e }

  pub no_bale : NumberAt 9999 44 csv at None → MalformedAt next csv at
  no_bale h = bad_line (front_no_bale next (drop at csv) h)

  module _ (b : Number) (B : NumberAt 9999 44 csv at (Some b)) where
    abbrev bale : Value
    bale = record { value = b.value; rest = drop b.after csv }

    pub no_kilograms : NumberAt 2000 10 csv b.after None → MalformedAt next csv at
    no_kilograms h = bad_line (front_no_kilograms next (drop at csv) bale B.0 h)

    -- what is read is a number and what follows it, whatever that is
    pub falling : b.value < next → MalformedAt next csv at
    unfolding front_with
    falling h = bad_line (go (number_from 2000 10 none (drop b.after csv)) refl)
      where
        go : (o : Maybe Value) → number_from 2000 10 none (drop b.after csv) ≡ o → front_row next (drop at csv) ≡ none
        go none e = front_no_kilograms next (drop at csv) bale B.0 e
        go (some k) e = front-both next (drop at csv) bale k B.0 e ∙ rw (lt-leb next b.value h)

    module _ (k : Number) (K : NumberAt 2000 10 csv b.after (Some k)) where
      both : front_row next (drop at csv) ≡ front_with next bale (record { value = k.value; rest = drop k.after csv })
      both = front-both next (drop at csv) bale (record { value = k.value; rest = drop k.after csv }) B.0 K.0

      pub no_weight : next ≤ b.value → k.value ≡ 0 → MalformedAt next csv at
      unfolding front_with
      no_weight h e = bad_line (both ∙ rw (le-leb next b.value h, e))

      pub whole-line : next ≤ b.value → 0 < k.value → GoodAt next csv at b.value k.value k.after
      unfolding front_with
      whole-line h p =
          let f =
          front-line next (drop at csv) (record { row = record { bale = b.value; kilograms = k.value }; rest = drop k.after csv })
          (both ∙ rw (le-leb next b.value h, le-leb 1 k.value p)) in
          let n = ap length f.cut in
          record {
            line = f.line;
            first = f.first;
            row = f.row;
            long = omega (arith, length-drop at csv, length-drop k.after csv, length-append f.line (drop k.after csv), n, B.1, K.1, K.2);
            inside = K.2;
          }
