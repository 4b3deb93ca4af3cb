-- The cut of an input into bales: ended ones, one after the other, and behind them what was not ended.
use Rattle.std.specs.Prelude.{ℕ, ◌%◌, ◌≡◌, refl, ◌⊎◌, Bool, true, false, eqb, length}
use Rattle.std.proofs.Common.{arith, ap, ◌∙◌, inl, inr}
use mathlib.Core.List.{List, [], ◌∷◌, ◌++◌, append_assoc, nil≢cons, cons≢nil, head-eq_of_cons-eq, tail-eq_of_cons-eq}
use Rattle.definition.specs.Lists.{cons_if, concat}
use Rattle.definition.specs.BaleFile.{word_of, words, word_kind, words_of_kind}
use Rattle.definition.specs.Shift.{on_first, bales}
use Rattle.claims.specs.ShiftCut.{NoEnd, EndedBale}
use Rattle.graph_laws.specs.Bools.{eqb_sound, eqb_same}
use Rattle.graph_laws.specs.Lists.{All}

-- ---- word by word

-- whether four bytes are an end word
abbrev pub is_end_word : ℕ → ℕ → ℕ → ℕ → Bool
is_end_word a b d e = eqb (word_kind (word_of a b d e)) 6

-- an ended bale's first word is its end, or the rest is ended
abbrev Ended : List ℕ → Type 0
Ended [] = ⊥
Ended (a ∷ []) = ⊥
Ended (a ∷ b ∷ []) = ⊥
Ended (a ∷ b ∷ d ∷ []) = ⊥
Ended (a ∷ b ∷ d ∷ e ∷ l) = ((is_end_word a b d e ≡ true) × (l ≡ [])) ⊎ ((is_end_word a b d e ≡ false) × Ended l)

none_kept : (c : Bool) (w : ℕ) (ws : List ℕ) → cons_if c w ws ≡ [] → (c ≡ false) × (ws ≡ [])
none_kept true w ws h = absurd (cons≢nil h)
none_kept false w ws h = (refl, h)

-- no word of a list is of kind 6: not its first, and none behind it
none_of_kind : (w : ℕ) (ws : List ℕ) → words_of_kind 6 (w ∷ ws) ≡ [] → (eqb (word_kind w) 6 ≡ false) × (words_of_kind 6 ws ≡ [])
unfolding words_of_kind
none_of_kind w ws h = none_kept (eqb (word_kind w) 6) w (words_of_kind 6 ws) h

pub no_end_word : (a b d e : ℕ) (l : List ℕ) → NoEnd (a ∷ b ∷ d ∷ e ∷ l) → (is_end_word a b d e ≡ false) × NoEnd l
unfolding words
no_end_word a b d e l h = none_of_kind (word_of a b d e) (words l) h

pub no_end-before : (a b d e : ℕ) (l : List ℕ) → is_end_word a b d e ≡ false → NoEnd l → NoEnd (a ∷ b ∷ d ∷ e ∷ l)
unfolding words words_of_kind
no_end-before a b d e l h n = rw h n

no_words : (l : List ℕ) → length l % 4 ≡ 0 → words l ≡ [] → l ≡ []
unfolding words
no_words [] h e = refl
no_words (a ∷ []) h e = absurd (let z : ⊥ = omega arith in z)
no_words (a ∷ b ∷ []) h e = absurd (let z : ⊥ = omega arith in z)
no_words (a ∷ b ∷ d ∷ []) h e = absurd (let z : ⊥ = omega arith in z)
no_words (a ∷ b ∷ d ∷ e ∷ l) h n = absurd (cons≢nil n)

by-words : (p : List ℕ) → length p % 4 ≡ 0 → (ws : List ℕ) (w : ℕ) → words p ≡ ws ++ w ∷ [] → word_kind w ≡ 6 → words_of_kind 6 ws ≡ [] → Ended p
unfolding words
by-words [] h [] w e k n = nil≢cons e
by-words [] h (x ∷ ws) w e k n = nil≢cons e
by-words (a ∷ []) h ws w e k n = let z : ⊥ = omega arith in z
by-words (a ∷ b ∷ []) h ws w e k n = let z : ⊥ = omega arith in z
by-words (a ∷ b ∷ d ∷ []) h ws w e k n = let z : ⊥ = omega arith in z
by-words (a ∷ b ∷ d ∷ x ∷ l) h [] w e k n =
    let end = ap (λ (v : ℕ). eqb (word_kind v) 6) (head-eq_of_cons-eq e) ∙ ap (λ (i : ℕ). eqb i 6) k ∙ eqb_same 6 in
    inl (end, no_words l (omega arith) (tail-eq_of_cons-eq e))
by-words (a ∷ b ∷ d ∷ x ∷ l) h (y ∷ ws) w e k n =
    let r = none_of_kind y ws n in
    inr (ap (λ (v : ℕ). eqb (word_kind v) 6) (head-eq_of_cons-eq e) ∙ r.0, by-words l (omega arith) ws w (tail-eq_of_cons-eq e) k r.1)

ended-by-words : {p : List ℕ} → EndedBale p → Ended p
ended-by-words {p = p} b = by-words p b.whole b.before b.end b.words_are b.ends b.only

-- a bale of one word, and one with a word before it
pub one_word : (a b d e : ℕ) → is_end_word a b d e ≡ true → EndedBale (a ∷ b ∷ d ∷ e ∷ [])
unfolding words words_of_kind
one_word a b d e h =
    record {
      whole = refl;
      before = [];
      end = word_of a b d e;
      words_are = refl;
      ends = eqb_sound (word_kind (word_of a b d e)) 6 h;
      only = refl;
    }

pub word_before : (a b d e : ℕ) (p : List ℕ) → is_end_word a b d e ≡ false → EndedBale p → EndedBale (a ∷ b ∷ d ∷ e ∷ p)
unfolding words words_of_kind
word_before a b d e p h r =
    record {
      whole = let w = r.whole in omega arith;
      before = word_of a b d e ∷ r.before;
      end = r.end;
      words_are = ap (λ (l : List ℕ). word_of a b d e ∷ l) r.words_are;
      ends = r.ends;
      only = rw h r.only;
    }

-- ---- the first bale, and the last

by_word : (p : List ℕ) → Ended p → (rest : List ℕ) → bales (p ++ rest) ≡ p ∷ bales rest
unfolding bales on_first
by_word [] h rest = absurd h
by_word (a ∷ []) h rest = absurd h
by_word (a ∷ b ∷ []) h rest = absurd h
by_word (a ∷ b ∷ d ∷ []) h rest = absurd h
by_word (a ∷ b ∷ d ∷ e ∷ l) (inl h) rest = rw (h.0, h.1)
by_word (a ∷ b ∷ d ∷ e ∷ l) (inr h) rest = rw (h.0, by_word l h.1 rest)

pub bales-ended : {p : List ℕ} → EndedBale p → (rest : List ℕ) → bales (p ++ rest) ≡ p ∷ bales rest
bales-ended {p = p} b rest = by_word p (ended-by-words b) rest

-- what was not ended is one bale, if any byte is there
abbrev pub last_bale : List ℕ → List (List ℕ)
last_bale [] = []
last_bale (x ∷ l) = (x ∷ l) ∷ []

on-last : (a b d e : ℕ) (l : List ℕ) → on_first (a ∷ b ∷ d ∷ e ∷ []) (last_bale l) ≡ (a ∷ b ∷ d ∷ e ∷ l) ∷ []
unfolding on_first
on-last a b d e [] = refl
on-last a b d e (x ∷ l) = refl

pub bales_open : (p : List ℕ) → NoEnd p → bales p ≡ last_bale p
unfolding bales
bales_open [] h = refl
bales_open (a ∷ []) h = refl
bales_open (a ∷ b ∷ []) h = refl
bales_open (a ∷ b ∷ d ∷ []) h = refl
bales_open (a ∷ b ∷ d ∷ e ∷ l) h =
    let n = no_end_word a b d e l h in
    rw (n.0, bales_open l n.1) (on-last a b d e l)

-- ---- ended bales and what is behind them

pub record CutAs (bs : List ℕ) (es : List (List ℕ)) (rest : List ℕ) : Type 0 where
  pub joined : bs ≡ concat es ++ rest
  pub ended : All EndedBale es
  pub no_end : NoEnd rest

joined-bales : (es : List (List ℕ)) (rest : List ℕ) → All EndedBale es → NoEnd rest → bales (concat es ++ rest) ≡ es ++ last_bale rest
joined-bales [] rest h n = bales_open rest n
joined-bales (p ∷ es) rest h n =
    ap bales (append_assoc p (concat es) rest)
    ∙ bales-ended h.0 (concat es ++ rest)
    ∙ ap (λ (ps : List (List ℕ)). p ∷ ps) (joined-bales es rest h.1 n)

pub cut-bales : {bs : List ℕ} {es : List (List ℕ)} {rest : List ℕ} → CutAs bs es rest → bales bs ≡ es ++ last_bale rest
cut-bales {es = es} {rest = rest} c = ap bales c.joined ∙ joined-bales es rest c.ended c.no_end

-- what has no end word
pub open_cut : {p : List ℕ} → NoEnd p → CutAs p [] p
open_cut n = record { joined = refl; ended = tt; no_end = n }

-- every input is cut so: a word that ends no bale joins the first piece, and one that does is a piece by itself
abbrev Cut : List ℕ → Type 0
Cut bs = (es : List (List ℕ)) × (rest : List ℕ) × CutAs bs es rest

cut-before : (a b d e : ℕ) (l : List ℕ) → is_end_word a b d e ≡ false → Cut l → Cut (a ∷ b ∷ d ∷ e ∷ l)
cut-before a b d e l h ([], rest, c) =
    let j = ap (λ (r : List ℕ). a ∷ b ∷ d ∷ e ∷ r) c.joined in
    ([], a ∷ b ∷ d ∷ e ∷ rest, record { joined = j; ended = tt; no_end = no_end-before a b d e rest h c.no_end })
cut-before a b d e l h (p ∷ es, rest, c) =
    let j = ap (λ (r : List ℕ). a ∷ b ∷ d ∷ e ∷ r) c.joined in
    ((a ∷ b ∷ d ∷ e ∷ p) ∷ es, rest, record { joined = j; ended = (word_before a b d e p h c.ended.0, c.ended.1); no_end = c.no_end })

cut-behind : (a b d e : ℕ) (l : List ℕ) → is_end_word a b d e ≡ true → Cut l → Cut (a ∷ b ∷ d ∷ e ∷ l)
cut-behind a b d e l h (es, rest, c) =
    let j = ap (λ (r : List ℕ). a ∷ b ∷ d ∷ e ∷ r) c.joined in
    ((a ∷ b ∷ d ∷ e ∷ []) ∷ es, rest, record { joined = j; ended = (one_word a b d e h, c.ended); no_end = c.no_end })

pub cut_exists : (bs : List ℕ) → (es : List (List ℕ)) × (rest : List ℕ) × CutAs bs es rest
unfolding words words_of_kind
cut_exists [] = ([], [], open_cut refl)
cut_exists (a ∷ []) = ([], a ∷ [], open_cut refl)
cut_exists (a ∷ b ∷ []) = ([], a ∷ b ∷ [], open_cut refl)
cut_exists (a ∷ b ∷ d ∷ []) = ([], a ∷ b ∷ d ∷ [], open_cut refl)
cut_exists (a ∷ b ∷ d ∷ e ∷ l) = go (is_end_word a b d e) refl (cut_exists l)
  where
    go : (c : Bool) → is_end_word a b d e ≡ c → Cut l → Cut (a ∷ b ∷ d ∷ e ∷ l)
    go true h r = cut-behind a b d e l h r
    go false h r = cut-before a b d e l h r
