-- What is fed up to an end word: the input's first bale, however the input was cut.
use Rattle.std.specs.Prelude.{ℕ, suc, ◌+◌, ◌≤◌, ◌<◌, ◌≡◌, refl, Bool, true, false, List, [], ◌∷◌, ◌++◌, eqb, length, take, drop}
use Rattle.std.proofs.Common.{zero-add, arith, sym, ap, ◌∙◌, subst, true≢false, append_assoc, length-append, take-append-drop}
use Rattle.std.proofs.Math.Seq.{take-append-add}
use Rattle.definition.specs.BaleFile.{word_of, words, word_kind, words_of_kind}
use Rattle.definition.specs.Shift.{bales}
use Rattle.claims.specs.ShiftCut.{NoEnd, EndedBale}
use Rattle.shift_laws.specs.Cut.{no_end_word, no_end-before, one_word, word_before, bales-ended}
use Rattle.bale_file.specs.declared.decoder.Decoder.{Decoder}
use Rattle.bale_file.specs.declared.decoder.FedBale.{FedBale}
use Rattle.bale_file.specs.Reading.{Held, held_of, read_word}
use Rattle.bale_file.specs.Decoder.{Fed, fed_of, started, fed_held, fed_at, fed_byte, fed, FedTo, ends_bale, behind, fed_bale_of, fed_bale}
use Rattle.bale_file.specs.Feeding.{bale-ends, bale_goes_on, behind-behind}

-- Behind bs, which ended no bale, r was fed of the bytes xs what ends the first bale, whatever comes behind them; or there is no end word, and all were fed.
pub record FirstBale (bs xs : List ℕ) (r : FedBale) : Type 0 where
  pub ended : r.ended ≡ true → (rest : List ℕ) → bales (bs ++ (xs ++ rest)) ≡ (bs ++ take r.used xs) ∷ bales (drop r.used xs ++ rest)
  pub not-ended : r.ended ≡ false → (r.used ≡ length xs) × NoEnd (bs ++ xs)

-- ---- of any decoder: the bytes that were fed

pub fed-part : (xs : List ℕ) (f : Fed) → (fed_bale xs f).fed_to ≡ fed (take (fed_bale xs f).used xs) f
unfolding fed_bale fed
fed-part [] f = refl
fed-part (x ∷ xs) f = go (ends_bale x f.decoder) refl (fed-part xs (fed_byte x f))
  where
    r : FedTo
    r = fed_bale xs (fed_byte x f)

    go :
        (b : Bool) →
        ends_bale x f.decoder ≡ b →
        r.fed_to ≡ fed (take r.used xs) (fed_byte x f) →
        (fed_bale (x ∷ xs) f).fed_to ≡ fed (take (fed_bale (x ∷ xs) f).used (x ∷ xs)) f
    go true e h = rw (bale-ends x xs f e)
    go false e h = rw (bale_goes_on x xs f e, take-append-add (x ∷ []) xs (fed_bale xs (fed_byte x f)).used) h

pub used_within : (xs : List ℕ) (f : Fed) → (fed_bale xs f).used ≤ length xs
unfolding fed_bale
used_within [] f = omega arith
used_within (x ∷ xs) f = go (ends_bale x f.decoder) refl (used_within xs (fed_byte x f))
  where
    go : (b : Bool) → ends_bale x f.decoder ≡ b → (fed_bale xs (fed_byte x f)).used ≤ length xs → (fed_bale (x ∷ xs) f).used ≤ suc (length xs)
    go true e h = rw (bale-ends x xs f e) (omega arith)
    go false e h = rw (bale_goes_on x xs f e) (omega arith)

pub used_some : (xs : List ℕ) (f : Fed) → 0 < length xs → 0 < (fed_bale xs f).used
used_some [] f l = absurd (let z : ⊥ = omega arith in z)
used_some (x ∷ xs) f l = go (ends_bale x f.decoder) refl
  where
    go : (b : Bool) → ends_bale x f.decoder ≡ b → 0 < (fed_bale (x ∷ xs) f).used
    go true e = rw (bale-ends x xs f e) (omega arith)
    go false e = rw (bale_goes_on x xs f e) (omega arith)

pub ended_some : (xs : List ℕ) (f : Fed) → (fed_bale xs f).ended ≡ true → 0 < (fed_bale xs f).used
unfolding fed_bale
ended_some [] f q = absurd (true≢false (sym q))
ended_some (x ∷ xs) f q = used_some (x ∷ xs) f (omega arith)

-- ---- word by word

-- four bytes at a word's start
module _ (a b d e : ℕ) (l : List ℕ) (h : Held) (x y z : ℕ) where
  abbrev w : ℕ
  w = word_of a b d e

  abbrev start : Fed
  start = fed_held h 0 x y z

  abbrev read : Fed
  read = fed_held (read_word w h) 0 a b d

  word_ends : eqb (word_kind w) 6 ≡ true → fed_bale (a ∷ b ∷ d ∷ e ∷ l) start ≡ record { fed_to = read; used = 4; ended = true }
  unfolding fed_bale ends_bale fed_byte fed_at
  word_ends k = rw k

  word_goes_on : eqb (word_kind w) 6 ≡ false → fed_bale (a ∷ b ∷ d ∷ e ∷ l) start ≡ behind 4 (fed_bale l read)
  unfolding fed_bale ends_bale fed_byte fed_at
  word_goes_on k =
      let r = fed_bale l read in
      rw k (behind-behind 1 1 (behind 1 (behind 1 r)) ∙ behind-behind 2 1 (behind 1 r) ∙ behind-behind 3 1 r)

-- of the bytes xs, fed from a word's start, those up to an end word were fed, or all of them
record Says (xs : List ℕ) (r : FedTo) : Type 0 where
  ended : r.ended ≡ true → EndedBale (take r.used xs)
  not-ended : r.ended ≡ false → (r.used ≡ length xs) × NoEnd xs

says : (xs : List ℕ) (h : Held) (x y z : ℕ) → Says xs (fed_bale xs (fed_held h 0 x y z))
unfolding fed_bale ends_bale fed_byte fed_at words words_of_kind
says [] h x y z = record { ended = λ q. absurd (true≢false (sym q)); not-ended = λ q. (refl, refl) }
says (a ∷ []) h x y z = record { ended = λ q. absurd (true≢false (sym q)); not-ended = λ q. (refl, refl) }
says (a ∷ b ∷ []) h x y z = record { ended = λ q. absurd (true≢false (sym q)); not-ended = λ q. (refl, refl) }
says (a ∷ b ∷ d ∷ []) h x y z = record { ended = λ q. absurd (true≢false (sym q)); not-ended = λ q. (refl, refl) }
says (a ∷ b ∷ d ∷ e ∷ l) h x y z = go (eqb (word_kind (word_of a b d e)) 6) refl (says l (read_word (word_of a b d e) h) a b d)
  where
    xs : List ℕ
    xs = a ∷ b ∷ d ∷ e ∷ l

    r : FedTo
    r = fed_bale l (fed_held (read_word (word_of a b d e) h) 0 a b d)

    go : (c : Bool) → eqb (word_kind (word_of a b d e)) 6 ≡ c → Says l r → Says xs (fed_bale xs (fed_held h 0 x y z))
    go true k t =
        subst (Says xs) (sym (word_ends a b d e l h x y z k)) (record { ended = λ q. one_word a b d e k; not-ended = λ q. absurd (true≢false q) })
    go false k t =
        subst
        (Says xs)
        (sym (word_goes_on a b d e l h x y z k))
        (record {
          ended = λ q. subst EndedBale (sym (take-append-add (a ∷ b ∷ d ∷ e ∷ []) l r.used)) (word_before a b d e (take r.used l) k (t.ended q));
          not-ended = λ q. (omega (arith, (t.not-ended q).0), no_end-before a b d e l k (t.not-ended q).1);
        })

-- bytes that end no bale, and others behind them
behind_open :
    (bs xs : List ℕ) (h : Held) (x y z : ℕ) →
    NoEnd bs →
    fed_bale (bs ++ xs) (fed_held h 0 x y z) ≡ behind (length bs) (fed_bale xs (fed bs (fed_held h 0 x y z)))
unfolding fed_bale ends_bale fed_byte fed_at fed
behind_open [] xs h x y z n = rw zero-add
behind_open (a ∷ []) xs h x y z n = refl
behind_open (a ∷ b ∷ []) xs h x y z n = behind-behind 1 1 _
behind_open (a ∷ b ∷ d ∷ []) xs h x y z n = ap (behind 1) (behind-behind 1 1 _) ∙ behind-behind 1 2 _
behind_open (a ∷ b ∷ d ∷ e ∷ bs) xs h x y z n =
    let t = no_end_word a b d e bs n in
    let g = fed_held (read_word (word_of a b d e) h) 0 a b d in
    let r = fed_bale xs (fed bs g) in
    word_goes_on a b d e (bs ++ xs) h x y z t.0
    ∙ ap (behind 4) (behind_open bs xs (read_word (word_of a b d e) h) a b d t.1)
    ∙ behind-behind 4 (length bs) r
    ∙ ap (λ (k : ℕ). behind k r) (let k : 4 + length bs ≡ length (a ∷ b ∷ d ∷ e ∷ bs) = omega arith in k)

-- ---- the first bale

-- bs was fed before and ended none; now xs are there
module _ (bs xs ms ps : List ℕ) (no_end : NoEnd bs) where
  abbrev pub fed_now : FedTo
  fed_now = fed_bale xs (fed bs (fed_of started ms ps))

  said : Says (bs ++ xs) (behind (length bs) fed_now)
  said =
      let h = held_of started.reading ms ps in
      subst (Says (bs ++ xs)) (behind_open bs xs h 0 0 0 no_end) (says (bs ++ xs) h 0 0 0)

  pub ended-bale : fed_now.ended ≡ true → EndedBale (bs ++ take fed_now.used xs)
  ended-bale q = subst EndedBale (take-append-add bs xs fed_now.used) (said.ended q)

  pub open_bale_lem : fed_now.ended ≡ false → (fed_now.used ≡ length xs) × NoEnd (bs ++ xs)
  open_bale_lem q = (omega (arith, (said.not-ended q).0, length-append bs xs), (said.not-ended q).1)

  -- whatever comes behind
  first-bale :
      fed_now.ended ≡ true →
      (rest : List ℕ) →
      bales (bs ++ (xs ++ rest)) ≡ (bs ++ take fed_now.used xs) ∷ bales (drop fed_now.used xs ++ rest)
  first-bale q rest =
      let n = fed_now.used in
      ap (λ (l : List ℕ). bales (bs ++ (l ++ rest))) (sym (take-append-drop n xs))
      ∙ ap (λ (l : List ℕ). bales (bs ++ l)) (append_assoc (take n xs) (drop n xs) rest)
      ∙ ap bales (sym (append_assoc bs (take n xs) (drop n xs ++ rest)))
      ∙ bales-ended (ended-bale q) (drop n xs ++ rest)

pub first_of :
    (bs xs ms ps : List ℕ) (d : Decoder) (r : FedBale) (ns qs ns' qs' : List ℕ) →
    fed_bale_of r ns' qs' ≡ fed_bale xs (fed_of d ns qs) →
    NoEnd bs →
    fed_of d ns qs ≡ fed bs (fed_of started ms ps) →
    FirstBale bs xs r
first_of bs xs ms ps d r ns qs ns' qs' e n f =
    let g : fed_bale_of r ns' qs' ≡ fed_now bs xs ms ps n = e ∙ ap (fed_bale xs) f in
    let u = ap (λ (t : FedTo). t.used) g in
    let t = ap (λ (t : FedTo). t.ended) g in
    record {
      ended = λ q rest. rw u (first-bale bs xs ms ps n (sym t ∙ q) rest);
      not-ended = λ q. rw u (open_bale_lem bs xs ms ps n (sym t ∙ q));
    }
