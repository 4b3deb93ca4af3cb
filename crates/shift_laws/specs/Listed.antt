-- The cut into bales is the only one of its kind, it may be made at any end word, and its bales are listed as each is run singly (claims: ShiftCut).
use Rattle.std.specs.Prelude.{ℕ, ◌%◌, ◌<◌, ◌≡◌, refl, ◌⊎◌, Bool, true, false, eqb, length, get_or, replicate}
use Rattle.std.proofs.Common.{arith, sym, ap, ◌∙◌, subst, inl, inr, true≢false}
use Rattle.std.proofs.Math.Option.{Option, none, some}
use mathlib.Core.List.{List, [], ◌∷◌, ◌++◌, map, append_assoc, nil≢cons, cons≢nil, head-eq_of_cons-eq, tail-eq_of_cons-eq}
use Rattle.definition.specs.Lists.{cons_if, concat}
use Rattle.definition.specs.Refusals.{or_refused}
use Rattle.definition.specs.BaleFile.{word_of, words, word_kind, bad_word_from, bad_word, words_of_kind}
use Rattle.definition.specs.FileAnswer.{file_verdict}
use Rattle.definition.specs.Listing.{verdict_lines, refusal, listing}
use Rattle.definition.specs.Shift.{on_first, bales, shift_listing}
use Rattle.claims.specs.FileRefused.{GoodFile}
use Rattle.claims.specs.ShiftCut.{NoEnd, EndedBale, EndedButLast, CutIntoBales, CutsJoined, AllGood, ShiftListed}
use Rattle.graph_laws.specs.Bools.{eqb_same}
use Rattle.graph_laws.specs.Lists.{All, All-append, All-keep, All-replicate, All-map-from, concat_append, concat-map_append, keep_append, filter_none, append_none}
use Rattle.graph_laws.specs.GoodFile.{none_bad}
use Rattle.shift_laws.specs.Cut.{is_end_word, one_word, last_bale, bales-ended, bales_open, cut-bales}
use Rattle.shift_laws.specs.Ended.{ended_bales, open_bale, end-there, no_end-there, cut}

-- ---- the cut

joined-last : (p : List ℕ) → concat (last_bale p) ≡ p
joined-last [] = refl
joined-last (x ∷ l) = append_none (x ∷ l)

ended_but_last : (es : List (List ℕ)) (rest : List ℕ) → All EndedBale es → NoEnd rest → EndedButLast (es ++ last_bale rest)
ended_but_last [] [] h n = tt
ended_but_last [] (x ∷ l) h n = inr (record { begun = omega arith; no_end = n })
ended_but_last (p ∷ []) [] h n = inl h.0
ended_but_last (p ∷ []) (x ∷ l) h n = (h.0, inr (record { begun = omega arith; no_end = n }))
ended_but_last (p ∷ q ∷ es) rest h n = (h.0, ended_but_last (q ∷ es) rest h.1 n)

one_open : (p : List ℕ) → 0 < length p → last_bale p ≡ p ∷ []
one_open [] h = absurd (let z : ⊥ = omega arith in z)
one_open (x ∷ l) h = refl

only-cut : (ps : List (List ℕ)) → EndedButLast ps → bales (concat ps) ≡ ps
unfolding bales
only-cut [] h = refl
only-cut (p ∷ []) (inl b) = bales-ended b []
only-cut (p ∷ []) (inr o) = ap bales (append_none p) ∙ bales_open p o.no_end ∙ one_open p o.begun
only-cut (p ∷ q ∷ ps) h = bales-ended h.0 (concat (q ∷ ps)) ∙ ap (λ (l : List (List ℕ)). p ∷ l) (only-cut (q ∷ ps) h.1)

pub cut_into_bales : (bs : List ℕ) → CutIntoBales bs
cut_into_bales bs =
    let c = cut bs in
    let es = ended_bales bs in
    let rest = open_bale bs in
    let j =
    ap concat (cut-bales c) ∙ concat_append es (last_bale rest) ∙ ap (λ (l : List ℕ). concat es ++ l) (joined-last rest) ∙ sym c.joined in
    record {
      joined = j;
      ended = subst EndedButLast (sym (cut-bales c)) (ended_but_last es rest c.ended c.no_end);
      only = λ ps e h. sym (only-cut ps h) ∙ ap bales e;
    }

-- ---- two inputs joined

abbrev Joins : List ℕ → Type 0
Joins a = (b : List ℕ) → bales (a ++ b) ≡ bales a ++ bales b

nothing_joins : (a : List ℕ) → a ≡ [] → Joins a
unfolding bales
nothing_joins a e b = rw e

on-first-joined : (w : List ℕ) (ps qs : List (List ℕ)) → (ps ≡ [] → ⊥) → on_first w (ps ++ qs) ≡ on_first w ps ++ qs
unfolding on_first
on-first-joined w [] qs n = absurd (n refl)
on-first-joined w (p ∷ ps) qs n = refl

on-first-there : (w : List ℕ) (ps : List (List ℕ)) → on_first w ps ≡ [] → ⊥
unfolding on_first
on-first-there w [] = cons≢nil
on-first-there w (p ∷ ps) = cons≢nil

not-ending : (a b d e : ℕ) (l : List ℕ) → is_end_word a b d e ≡ false → bales (a ∷ b ∷ d ∷ e ∷ l) ≡ on_first (a ∷ b ∷ d ∷ e ∷ []) (bales l)
unfolding bales
not-ending a b d e l h = rw h

-- whole words, the last of kind 6, where j is the kind before them
joins_behind :
    (j : ℕ) (a : List ℕ) → length a % 4 ≡ 0 → get_or (j ∷ map word_kind (words a)) (length (words a)) 0 ≡ 6 →
    ((a ≡ []) × (j ≡ 6)) ⊎ ((bales a ≡ [] → ⊥) × Joins a)
unfolding words
joins_behind j [] h k = inl (refl, k)
joins_behind j (a ∷ []) h k = absurd (let z : ⊥ = omega arith in z)
joins_behind j (a ∷ b ∷ []) h k = absurd (let z : ⊥ = omega arith in z)
joins_behind j (a ∷ b ∷ d ∷ []) h k = absurd (let z : ⊥ = omega arith in z)
joins_behind j (a ∷ b ∷ d ∷ e ∷ l) h k = inr (go (is_end_word a b d e) refl (joins_behind (word_kind (word_of a b d e)) l (omega arith) k))
  where
    ending : is_end_word a b d e ≡ true → Joins l → (bales (a ∷ b ∷ d ∷ e ∷ l) ≡ [] → ⊥) × Joins (a ∷ b ∷ d ∷ e ∷ l)
    ending t r =
        let f = bales-ended (one_word a b d e t) in (
          λ n. cons≢nil (sym (f l) ∙ n),
          λ x. f (l ++ x) ∙ ap (λ (ps : List (List ℕ)). (a ∷ b ∷ d ∷ e ∷ []) ∷ ps) (r x) ∙ ap (λ (ps : List (List ℕ)). ps ++ bales x) (sym (f l)),
        )

    go : (c : Bool) → is_end_word a b d e ≡ c → ((l ≡ []) × (word_kind (word_of a b d e) ≡ 6)) ⊎ ((bales l ≡ [] → ⊥) × Joins l)
        → (bales (a ∷ b ∷ d ∷ e ∷ l) ≡ [] → ⊥) × Joins (a ∷ b ∷ d ∷ e ∷ l)
    go true t (inl r) = ending t (nothing_joins l r.0)
    go true t (inr r) = ending t r.1
    go false t (inl r) = absurd (true≢false (sym (eqb_same 6) ∙ ap (λ (i : ℕ). eqb i 6) (sym r.1) ∙ t))
    go false t (inr r) =
        let w = a ∷ b ∷ d ∷ e ∷ [] in (
          λ n. on-first-there w (bales l) (sym (not-ending a b d e l t) ∙ n),
          λ x. not-ending a b d e (l ++ x) t
              ∙ ap (on_first w) (r.1 x)
              ∙ on-first-joined w (bales l) (bales x) r.0
              ∙ ap (λ (ps : List (List ℕ)). ps ++ bales x) (sym (not-ending a b d e l t)),
        )

pub cuts_joined : CutsJoined
cuts_joined a b (inl e) = nothing_joins a e b
cuts_joined a b (inr h) = elim (joins_behind 0 a h.0 h.1) [ inl r ↦ nothing_joins a r.0 b | inr r ↦ r.1 b ]

-- ---- a good file is an ended bale

abbrev SplitLast : List ℕ → List ℕ → ℕ → Type 0
SplitLast ws ks k = (before : List ℕ) × (end : ℕ) × (ws ≡ before ++ end ∷ []) × (map word_kind before ≡ ks) × (word_kind end ≡ k)

split_last : (ws ks : List ℕ) (k : ℕ) → map word_kind ws ≡ ks ++ k ∷ [] → SplitLast ws ks k
split_last [] [] k h = absurd (nil≢cons h)
split_last [] (j ∷ ks) k h = absurd (nil≢cons h)
split_last (w ∷ []) [] k h = ([], w, refl, refl, head-eq_of_cons-eq h)
split_last (w ∷ v ∷ ws) [] k h = absurd (cons≢nil (tail-eq_of_cons-eq h))
split_last (w ∷ ws) (j ∷ ks) k h =
    let r = split_last ws ks k (tail-eq_of_cons-eq h) in
    (w ∷ r.0, r.1, ap (λ (l : List ℕ). w ∷ l) r.2, (λ i. head-eq_of_cons-eq h i ∷ r.3 i), r.4)

none_six : (ws ks : List ℕ) → map word_kind ws ≡ ks → All (λ k. eqb k 6 ≡ false) ks → words_of_kind 6 ws ≡ []
unfolding words_of_kind
none_six ws ks e h =
    filter_none (λ w. eqb (word_kind w) 6) ws (All-map-from (λ k. eqb k 6 ≡ false) word_kind ws (subst (All (λ k. eqb k 6 ≡ false)) (sym e) h))

good_ended : (f : List ℕ) → GoodFile f → EndedBale f
good_ended f g =
    let four : List ℕ = replicate g.markers 4 in
    let five : List ℕ = replicate g.pairs 5 in
    let other : ℕ → Type 0 = λ k. eqb k 6 ≡ false in
    let rest : List ℕ = 3 ∷ (four ++ five) in
    let ks : List ℕ = 1 ∷ 2 ∷ cons_if g.based 7 rest in
    let e : map word_kind (words f) ≡ ks ++ 6 ∷ [] =
    g.kinds
    ∙ ap (λ (l : List ℕ). 1 ∷ 2 ∷ cons_if g.based 7 (3 ∷ l)) (sym (append_assoc four five (6 ∷ [])))
    ∙ ap (λ (l : List ℕ). 1 ∷ 2 ∷ l) (keep_append g.based 7 rest (6 ∷ [])) in
    let s = split_last (words f) ks 6 e in
    let a = All-append other four five (All-replicate other g.markers 4 refl) (All-replicate other g.pairs 5 refl) in
    record {
      whole = g.whole;
      before = s.0;
      end = s.1;
      words_are = s.2;
      ends = s.4;
      only = none_six s.0 ks s.3 (refl, (refl, All-keep other g.based 7 rest refl (refl, a)));
    }

-- ---- the listing

all-ended : (fs : List (List ℕ)) → AllGood fs → All EndedBale fs
all-ended [] h = tt
all-ended (f ∷ fs) h = (good_ended f ((none_bad f).0 h.0), all-ended fs h.1)

good_cut : (fs : List (List ℕ)) → AllGood fs → bales (concat fs) ≡ fs
unfolding words words_of_kind
good_cut fs h =
    cut-bales {es = fs} {rest = []} (record { joined = sym (append_none (concat fs)); ended = all-ended fs h; no_end = refl }) ∙ append_none fs

refused_nine : (p : List ℕ) (i : ℕ) → bad_word p ≡ some i → listing p ≡ refusal 9 i
unfolding listing file_verdict or_refused verdict_lines
refused_nine p i e = rw e

open_refused : (p : List ℕ) → NoEnd p → (o : Option ℕ) → bad_word p ≡ o → (i : ℕ) × (listing p ≡ refusal 9 i)
open_refused p n none e = absurd (true≢false (sym (end-there p (good_ended p ((none_bad p).0 e))) ∙ no_end-there p n))
open_refused p n (some i) e = (i, refused_nine p i e)

short_refused : (p : List ℕ) → 0 < length p → length p < 4 → listing p ≡ refusal 9 0
unfolding bad_word bad_word_from words
short_refused [] b s = absurd (let z : ⊥ = omega arith in z)
short_refused (x ∷ []) b s = refused_nine (x ∷ []) 0 refl
short_refused (x ∷ y ∷ []) b s = refused_nine (x ∷ y ∷ []) 0 refl
short_refused (x ∷ y ∷ z ∷ []) b s = refused_nine (x ∷ y ∷ z ∷ []) 0 refl
short_refused (x ∷ y ∷ z ∷ v ∷ l) b s = absurd (let n : ⊥ = omega arith in n)

one-listed : (ps : List (List ℕ)) (bs : List ℕ) → length ps ≡ 1 → concat ps ≡ bs → concat (map listing ps) ≡ listing bs
one-listed [] bs h e = absurd (let z : ⊥ = omega arith in z)
one-listed (p ∷ []) bs h e = append_none (listing p) ∙ ap listing (sym (append_none p) ∙ e)
one-listed (p ∷ q ∷ ps) bs h e = absurd (let z : ⊥ = omega arith in z)

pub shift-listed : ShiftListed
unfolding shift_listing bales
shift-listed =
    record {
      singly = λ fs h. ap (λ (ps : List (List ℕ)). concat (map listing ps)) (good_cut fs h);
      one = λ bs h. one-listed (bales bs) bs h (cut_into_bales bs).joined;
      none = refl;
      joined = λ a b h. ap (λ (ps : List (List ℕ)). concat (map listing ps)) (cuts_joined a b h) ∙ concat-map_append listing (bales a) (bales b);
      unended = λ p o. open_refused p o.no_end (bad_word p) refl;
      short = short_refused;
    }
