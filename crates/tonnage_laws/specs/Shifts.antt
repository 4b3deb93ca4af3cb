-- The bales of a shift by their numbers, as its bytes come: an ended one is answered as its own file, and one that was not ended has no answer.
use Rattle.std.specs.Prelude.{ℕ, zero, suc, ◌≤◌, ◌≡◌, refl, Bool, true, false, eqb, length, get_or}
use Rattle.std.proofs.Common.{arith, sym, ◌∙◌}
use Rattle.std.proofs.Math.Path.{ap}
use Rattle.std.proofs.Math.Option.{Option, none, some}
use mathlib.Core.List.{List, [], ◌∷◌, ◌++◌, append-nil, cons≢nil, map}
use Rattle.std.proofs.lemmas.Bool.{eqb-false}
use Rattle.definition.specs.Lists.{cons_if}
use Rattle.definition.specs.Answer.{PartAnswer}
use Rattle.definition.specs.BaleFile.{words, word_kind, words_of_kind}
use Rattle.definition.specs.FileAnswer.{file_answer}
use Rattle.definition.specs.Shift.{bales}
use Rattle.definition.specs.Tonnage.{answer_at, answer_among}
use Rattle.claims.specs.FileRefused.{missing_end, bad_file}
use Rattle.theorems.specs.Facts.{NoEnd, EndedBale, file-listing}
use Rattle.theorems.specs.Facts.{last_bale, ended_bales, open_bale, cut, bales_split, none-ended, all_open, ended-first, open_first, ended-more, open_more}
use Rattle.tonnage_laws.specs.Answers.{bale_answered}

-- ---- more bytes

module _ (bs y : List ℕ) where
  abbrev held : List ℕ
  held = open_bale bs ++ y

  -- they end the open bale, or they do not
  pub ended_by : EndedBale (open_bale bs ++ y) → (ended_bales (bs ++ y) ≡ ended_bales bs ++ (open_bale bs ++ y) ∷ []) × (open_bale (bs ++ y) ≡ [])
  unfolding bales
  ended_by h = (
    ended-more bs y ∙ ap (λ (ps : List (List ℕ)). ended_bales bs ++ ps) (ap ended_bales (sym (append-nil held)) ∙ ended-first h []),
    open_more bs y ∙ ap open_bale (sym (append-nil held)) ∙ open_first h [],
  )

  pub still_open : NoEnd (open_bale bs ++ y) → (ended_bales (bs ++ y) ≡ ended_bales bs) × (open_bale (bs ++ y) ≡ open_bale bs ++ y)
  still_open n = (
    ended-more bs y ∙ ap (λ (ps : List (List ℕ)). ended_bales bs ++ ps) (none-ended held n) ∙ append-nil (ended_bales bs),
    open_more bs y ∙ all_open held n,
  )

-- ---- a bale that was not ended

-- the last word's kind, or the one before them all
no_end-last : (j : ℕ) (ws : List ℕ) → (j ≡ 6 → ⊥) → words_of_kind 6 ws ≡ [] → get_or (j ∷ map word_kind ws) (length ws) 0 ≡ 6 → ⊥
unfolding words_of_kind
no_end-last j [] h n = h
no_end-last j (w ∷ ws) h n = go (eqb (word_kind w) 6) refl n (no_end-last (word_kind w) ws)
  where
    go : (b : Bool) → eqb (word_kind w) 6 ≡ b → cons_if b w (words_of_kind 6 ws) ≡ [] →
        ((word_kind w ≡ 6 → ⊥) → words_of_kind 6 ws ≡ [] → get_or (word_kind w ∷ map word_kind ws) (length ws) 0 ≡ 6 → ⊥) →
        get_or (word_kind w ∷ map word_kind ws) (length ws) 0 ≡ 6 → ⊥
    go true e k r = absurd (cons≢nil k)
    go false e k r = r (eqb-false (word_kind w) 6 e) k

pub open_unanswered : (p : List ℕ) → NoEnd p → file_answer p ≡ none
open_unanswered p n = go (file_answer p) refl
  where
    go : (o : Option (List PartAnswer)) → file_answer p ≡ o → o ≡ none
    go none e = refl
    go (some ps) e =
        let bad = missing_end (no_end-last 0 (words p) (λ z. omega arith) n) in
        absurd ((file-listing p).accepted_as.0 (bale_answered p ps e).judged 9 (length (words p)) (bad_file bad))

-- ---- by number

pub among_ended : (es : List (List ℕ)) (p : List ℕ) (qs : List (List ℕ)) → answer_among (es ++ p ∷ qs) (length es) ≡ file_answer p
unfolding answer_among answer_at
among_ended [] p qs = refl
among_ended (e ∷ es) p qs = among_ended es p qs

behind-ended : (es : List (List ℕ)) (p : List ℕ) → NoEnd p → (b : ℕ) → length es ≤ b → answer_among (es ++ last_bale p) b ≡ none
unfolding answer_among answer_at
behind-ended [] [] n b h = refl
behind-ended [] (x ∷ l) n zero h = open_unanswered (x ∷ l) n
behind-ended [] (x ∷ l) n (suc b) h = refl
behind-ended (e ∷ es) p n zero h = absurd (let z : ⊥ = omega arith in z)
behind-ended (e ∷ es) p n (suc b) h = behind-ended es p n b (omega arith)

pub last_unanswered : (bs : List ℕ) (b : ℕ) → length (ended_bales bs) ≤ b → answer_among (bales bs) b ≡ none
last_unanswered bs b h = ap (λ (ps : List (List ℕ)). answer_among ps b) (bales_split bs) ∙ behind-ended (ended_bales bs) (open_bale bs) (cut bs).no_end b h
