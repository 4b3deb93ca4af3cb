-- The bales of an input that were ended, and the bytes of the one that was not. They say what the program `shift` has listed of what it read, and what it still
-- holds: the two are all of the input, and more input adds to what is held.
use Rattle.std.specs.Prelude.{ℕ, ◌≤◌, ◌≡◌, refl, Bool, true, false, not, List, [], ◌∷◌, ◌++◌, eqb, ltb, length}
use Rattle.std.proofs.Common.{arith, sym, ap, ◌∙◌, subst, append_assoc, length-append}
use Rattle.definition.specs.Lists.{filter, concat}
use Rattle.definition.specs.BaleFile.{words, word_kind, words_of_kind}
use Rattle.definition.specs.Shift.{bales}
use Rattle.claims.specs.ShiftCut.{NoEnd, EndedBale}
use Rattle.graph_laws.specs.Bools.{eqb_same}
use Rattle.graph_laws.specs.Lists.{All, All-append, All-mono, concat_append, filter_append, filter_none, filter-every, append_none}
use Rattle.shift_laws.specs.Cut.{CutAs, last_bale, open_cut, cut-bales, cut_exists}

-- whether an end word is there
abbrev pub has_end : List ℕ → Bool
has_end p = ltb 0 (length (words_of_kind 6 (words p)))

-- the bales that were ended, and the bytes of the one that was not
abbrev pub ended_bales : List ℕ → List (List ℕ)
ended_bales bs = filter has_end (bales bs)

abbrev pub open_bale : List ℕ → List ℕ
open_bale bs = concat (filter (λ p. not (has_end p)) (bales bs))

-- ---- they are the cut

pub end-there : (p : List ℕ) → EndedBale p → has_end p ≡ true
unfolding words_of_kind
end-there p b =
    let six = ap (λ (k : ℕ). eqb k 6) b.ends ∙ eqb_same 6 in
    let e = ap (words_of_kind 6) b.words_are ∙ filter_append (λ w. eqb (word_kind w) 6) b.before (b.end ∷ []) in
    ap (λ (ws : List ℕ). ltb 0 (length ws)) e ∙ rw (b.only, six)

pub no_end-there : (p : List ℕ) → NoEnd p → has_end p ≡ false
no_end-there p n = ap (λ (ws : List ℕ). ltb 0 (length ws)) n

last-not-ended : (p : List ℕ) → NoEnd p → filter has_end (last_bale p) ≡ []
last-not-ended [] n = refl
last-not-ended (x ∷ l) n = rw (no_end-there (x ∷ l) n)

last_open : (p : List ℕ) → NoEnd p → concat (filter (λ q. not (has_end q)) (last_bale p)) ≡ p
last_open [] n = refl
last_open (x ∷ l) n = rw (no_end-there (x ∷ l) n) (append_none (x ∷ l))

module _ {bs : List ℕ} {es : List (List ℕ)} {rest : List ℕ} (c : CutAs bs es rest) where
  pub cut-ended : ended_bales bs ≡ es
  cut-ended =
      let k = All-mono EndedBale (λ p. has_end p ≡ true) end-there es c.ended in
      ap (filter has_end) (cut-bales c)
      ∙ filter_append has_end es (last_bale rest)
      ∙ (λ i. filter-every has_end es k i ++ last-not-ended rest c.no_end i)
      ∙ append_none es

  pub cut_open : open_bale bs ≡ rest
  cut_open =
      let t : List ℕ → Bool = λ p. not (has_end p) in
      let k = All-mono EndedBale (λ p. not (has_end p) ≡ false) (λ p b. ap not (end-there p b)) es c.ended in
      ap (λ (ps : List (List ℕ)). concat (filter t ps)) (cut-bales c)
      ∙ ap concat (filter_append t es (last_bale rest))
      ∙ ap (λ (ps : List (List ℕ)). concat (ps ++ filter t (last_bale rest))) (filter_none t es k)
      ∙ last_open rest c.no_end

pub cut : (bs : List ℕ) → CutAs bs (ended_bales bs) (open_bale bs)
cut bs =
    let x = cut_exists bs in
    let e = sym (cut-ended x.2) in
    let o = sym (cut_open x.2) in
    record { joined = x.2.joined ∙ (λ i. concat (e i) ++ o i); ended = subst (All EndedBale) e x.2.ended; no_end = subst NoEnd o x.2.no_end }

pub bales_split : (bs : List ℕ) → bales bs ≡ ended_bales bs ++ last_bale (open_bale bs)
bales_split bs = cut-bales (cut bs)

pub open_short : (bs : List ℕ) → length (open_bale bs) ≤ length bs
open_short bs =
    let e = ap length (cut bs).joined ∙ length-append (concat (ended_bales bs)) (open_bale bs) in
    omega arith

pub none-ended : (p : List ℕ) → NoEnd p → ended_bales p ≡ []
none-ended p n = cut-ended (open_cut n)

pub all_open : (p : List ℕ) → NoEnd p → open_bale p ≡ p
all_open p n = cut_open (open_cut n)

-- ---- an ended bale, and input behind it

first-cut : {p : List ℕ} → EndedBale p → (rest : List ℕ) → CutAs (p ++ rest) (p ∷ ended_bales rest) (open_bale rest)
first-cut {p = p} b rest =
    let c = cut rest in
    record {
      joined = ap (λ (l : List ℕ). p ++ l) c.joined ∙ sym (append_assoc p (concat (ended_bales rest)) (open_bale rest));
      ended = (b, c.ended);
      no_end = c.no_end;
    }

pub ended-first : {p : List ℕ} → EndedBale p → (rest : List ℕ) → ended_bales (p ++ rest) ≡ p ∷ ended_bales rest
ended-first b rest = cut-ended (first-cut b rest)

pub open_first : {p : List ℕ} → EndedBale p → (rest : List ℕ) → open_bale (p ++ rest) ≡ open_bale rest
open_first b rest = cut_open (first-cut b rest)

-- ---- more input

more_cut : (bs xs : List ℕ) → CutAs (bs ++ xs) (ended_bales bs ++ ended_bales (open_bale bs ++ xs)) (open_bale (open_bale bs ++ xs))
more_cut bs xs =
    let c = cut bs in
    let k = cut (open_bale bs ++ xs) in
    let es = ended_bales bs in
    let fs = ended_bales (open_bale bs ++ xs) in
    let rest = open_bale (open_bale bs ++ xs) in
    let j : bs ++ xs ≡ concat (es ++ fs) ++ rest =
    ap (λ (l : List ℕ). l ++ xs) c.joined
    ∙ append_assoc (concat es) (open_bale bs) xs
    ∙ ap (λ (l : List ℕ). concat es ++ l) k.joined
    ∙ sym (append_assoc (concat es) (concat fs) rest)
    ∙ ap (λ (l : List ℕ). l ++ rest) (sym (concat_append es fs)) in
    record { joined = j; ended = All-append EndedBale es fs c.ended k.ended; no_end = k.no_end }

pub ended-more : (bs xs : List ℕ) → ended_bales (bs ++ xs) ≡ ended_bales bs ++ ended_bales (open_bale bs ++ xs)
ended-more bs xs = cut-ended (more_cut bs xs)

pub open_more : (bs xs : List ℕ) → open_bale (bs ++ xs) ≡ open_bale (open_bale bs ++ xs)
open_more bs xs = cut_open (more_cut bs xs)
