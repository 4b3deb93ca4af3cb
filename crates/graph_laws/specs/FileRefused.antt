-- Number 9: the bad word that is found is the first bad place of a bale file. And what the program prints, by the table of its refusals.
use Prim.Native.Nat.{ℕ, zero, suc, ◌%◌, ◌<◌}
use native.Mathlib.Omega.{arith}
use Rattle.std.specs.Prelude.{◌≡◌, ◌↔◌, ◌⊎◌, Bool, cond, not, ◌||◌, ◌&&◌, List, [], ◌∷◌, map, eqb, length, drop}
use Rattle.std.proofs.Math.Path.{refl, ap, subst}
use Rattle.std.proofs.Common.{sym, ◌∙◌, inl, inr, ltb-true, lt-ltb}
use Rattle.std.proofs.Math.Bool.{true, false, true≢false, or-true}
use Rattle.std.proofs.lemmas.Bool.{false≢true}
use Rattle.std.proofs.Math.Option.{Option, none, some}
use Rattle.std.proofs.Math.Dec.{ltb}
use Rattle.std.proofs.Math.ListN.{get_or, get_elem?}
use Rattle.definition.specs.Lists.{range}
use Rattle.definition.specs.Refusals.{too_many, lowest_place_from, lowest_place, Verdict, or_refused}
use Rattle.definition.specs.BaleFile.{words, word_kind, bits, clean_word, may_follow, bad_word_from, bad_word, settings_of_words}
use Rattle.definition.specs.FileAnswer.{buffers, zero_base, file_verdict}
use Rattle.definition.specs.Listing.{verdict_lines, listing}
use Rattle.claims.specs.FileRefused.{BadAt, disorder, stray_bit, missing_end, bytes_left, FirstBad, FileJudged, bale_in, FileFails, bad_file, zero_rate, many_grades, many_markers, many_pairs, as_called, FileListed}
use Rattle.graph_laws.specs.Bools.{not-true, or_cases, or_right, and_left, and_right, eqb_sound}
use Rattle.graph_laws.specs.FirstChecks.{Check, test, number_at, first_of, nothing, FirstTest, Found, found, map-test, test-map, accepted_exactly, refused_exactly}
use Rattle.graph_laws.specs.Refused.{checks, verdict-first, row, listed}

-- ---- the words as a list of tests, and a last one for the end

abbrev bad_tests : Bool → ℕ → List ℕ → List Bool
bad_tests left j [] = not (eqb j 6 && not left) ∷ []
bad_tests left j (w ∷ ws) = not (may_follow j (word_kind w) && clean_word w) ∷ bad_tests left (word_kind w) ws

tests-lowest : (left : Bool) (i j : ℕ) (ws : List ℕ) → bad_word_from left i j ws ≡ lowest_place_from i (bad_tests left j ws)
unfolding bad_word_from lowest_place_from
tests-lowest left i j [] = go (eqb j 6 && not left)
  where
    go : (c : Bool) → cond c none (some i) ≡ lowest_place_from i (not c ∷ [])
    go true = refl
    go false = refl
tests-lowest left i j (w ∷ ws) = go (may_follow j (word_kind w) && clean_word w) (tests-lowest left (suc i) (word_kind w) ws)
  where
    go : (c : Bool) → bad_word_from left (suc i) (word_kind w) ws ≡ lowest_place_from (suc i) (bad_tests left (word_kind w) ws)
        → cond c (bad_word_from left (suc i) (word_kind w) ws) (some i) ≡ lowest_place_from i (not c ∷ bad_tests left (word_kind w) ws)
    go true r = r
    go false r = refl

module _ (left : Bool) where
  at_word :
      (j : ℕ) (ws : List ℕ) (p w : ℕ) → get_elem? ws p ≡ some w →
      get_or (bad_tests left j ws) p false ≡ not (may_follow (get_or (j ∷ map word_kind ws) p 0) (word_kind w) && clean_word w)
  at_word j [] p w e = absurd (nothing e)
  at_word j (x ∷ ws) zero w e = let z : x ≡ w = cc in ap (λ (v : ℕ). not (may_follow j (word_kind v) && clean_word v)) z
  at_word j (x ∷ ws) (suc p) w e = at_word (word_kind x) ws p w e

  at-end : (j : ℕ) (ws : List ℕ) → get_or (bad_tests left j ws) (length ws) false ≡ not (eqb (get_or (j ∷ map word_kind ws) (length ws) 0) 6 && not left)
  at-end j [] = refl
  at-end j (x ∷ ws) = at-end (word_kind x) ws

  -- a test that is true is one of a word, or the last
  of_what : (j : ℕ) (ws : List ℕ) (p : ℕ) → get_or (bad_tests left j ws) p false ≡ true → ((w : ℕ) × (get_elem? ws p ≡ some w)) ⊎ (p ≡ length ws)
  of_what j [] zero h = inr refl
  of_what j [] (suc p) h = absurd (false≢true h)
  of_what j (x ∷ ws) zero h = inl (x, refl)
  of_what j (x ∷ ws) (suc p) h = elim (of_what (word_kind x) ws p h) [ inl a ↦ inl a | inr e ↦ inr (ap suc e) ]

not-both : (a b : Bool) → not (a && b) ≡ true → (a ≡ false) ⊎ (b ≡ false)
not-both true b h = inr (go b h)
  where
    go : (c : Bool) → not c ≡ true → c ≡ false
    go true e = absurd (false≢true e)
    go false e = refl
not-both false b h = inl refl

first-not : (a b : Bool) → a ≡ false → not (a && b) ≡ true
first-not a b h = rw h

second_not : (a b : Bool) → b ≡ false → not (a && b) ≡ true
second_not true b h = rw h
second_not false b h = refl

twice_not : (c : Bool) → not (not c) ≡ false → c ≡ false
twice_not true e = absurd (true≢false e)
twice_not false e = refl

-- ---- a bad place is a test that is true

-- whether bytes are left over
abbrev uneven : List ℕ → Bool
uneven bs = not (eqb (length bs % 4) 0)

abbrev file_tests : List ℕ → List Bool
file_tests bs = bad_tests (uneven bs) 0 (words bs)

-- more than the program takes, and more than the library does
abbrev over_program : List ℕ → Bool
over_program bs = too_many 24 24 140 (bale_in bs)

abbrev over_library : List ℕ → Bool
over_library bs = too_many 1024 1024 8192 (bale_in bs)

-- the library's checks of what the file says
abbrev call_checks : List ℕ → List Check
call_checks bs = checks (settings_of_words (words bs)) buffers (bale_in bs)

-- the test of number 11
pub zero-base : (w : ℕ) → zero_base w ≡ true ↔ ((word_kind w ≡ 7) × (bits 10 0 w ≡ 0))
unfolding zero_base
zero-base w =
    let k = eqb (word_kind w) 7 in
    let z = eqb (bits 10 0 w) 0 in
    (λ h. (eqb_sound (word_kind w) 7 (and_left k z h), eqb_sound (bits 10 0 w) 0 (and_right k z h)), λ h i. eqb (h.0 i) 7 && eqb (h.1 i) 0)

module _ (bs : List ℕ) where
  abbrev before : ℕ → ℕ
  before p = get_or (0 ∷ map word_kind (words bs)) p 0

  bad_end : not (eqb (get_or (0 ∷ map word_kind (words bs)) (length (words bs)) 0) 6 && not (uneven bs)) ≡ true → BadAt bs (length (words bs))
  bad_end e = go (not-both (eqb (before (length (words bs))) 6) (not (uneven bs)) e)
    where
      go : (eqb (get_or (0 ∷ map word_kind (words bs)) (length (words bs)) 0) 6 ≡ false) ⊎ (not (uneven bs) ≡ false) → BadAt bs (length (words bs))
      go (inl a) = missing_end (λ k. true≢false (sym (ap (λ (n : ℕ). eqb n 6) k) ∙ a))
      go (inr a) = bytes_left (λ k. true≢false (sym (ap (λ (n : ℕ). eqb n 0) k) ∙ twice_not (eqb (length bs % 4) 0) a))

  bad_row : (p : ℕ) → get_or (file_tests bs) p false ≡ true → BadAt bs p
  bad_row p h = go (of_what (uneven bs) 0 (words bs) p h)
    where
      word :
          (w : ℕ) → get_elem? (words bs) p ≡ some w →
          (may_follow (get_or (0 ∷ map word_kind (words bs)) p 0) (word_kind w) ≡ false) ⊎ (clean_word w ≡ false) → BadAt bs p
      word w e (inl a) = disorder e a
      word w e (inr a) = stray_bit e a

      go : ((w : ℕ) × (get_elem? (words bs) p ≡ some w)) ⊎ (p ≡ length (words bs)) → BadAt bs p
      go (inl x) =
          word x.0 x.1 (not-both (may_follow (before p) (word_kind x.0)) (clean_word x.0) (sym (at_word (uneven bs) 0 (words bs) p x.0 x.1) ∙ h))
      go (inr e) = subst (BadAt bs) (sym e) (bad_end (sym (at-end (uneven bs) 0 (words bs)) ∙ ap (λ (n : ℕ). get_or (file_tests bs) n false) (sym e) ∙ h))

  bad_listed : {p : ℕ} → BadAt bs p → get_or (file_tests bs) p false ≡ true
  bad_listed (disorder {p = p} {w = w} e a) = at_word (uneven bs) 0 (words bs) p w e ∙ first-not (may_follow (before p) (word_kind w)) (clean_word w) a
  bad_listed (stray_bit {p = p} {w = w} e a) = at_word (uneven bs) 0 (words bs) p w e ∙ second_not (may_follow (before p) (word_kind w)) (clean_word w) a
  bad_listed (missing_end n) =
      at-end (uneven bs) 0 (words bs)
      ∙ first-not (eqb (before (length (words bs))) 6) (not (uneven bs))
      (not-true (eqb (before (length (words bs))) 6) (λ e. n (eqb_sound (before (length (words bs))) 6 e)))
  bad_listed (bytes_left n) =
      at-end (uneven bs) 0 (words bs)
      ∙ second_not (eqb (before (length (words bs))) 6) (not (uneven bs))
      (ap (λ (c : Bool). not (not c)) (not-true (eqb (length bs % 4) 0) (λ e. n (eqb_sound (length bs % 4) 0 e))))

  bad_lowest : bad_word bs ≡ lowest_place (file_tests bs)
  unfolding bad_word lowest_place
  bad_lowest = tests-lowest (uneven bs) 0 0 (words bs)

  -- ---- the first bad place

  none_bad : bad_word bs ≡ none → (p : ℕ) → BadAt bs p → ⊥
  unfolding lowest_place
  none_bad h p x = true≢false (sym (bad_listed x) ∙ subst (Found 0 (file_tests bs)) (sym bad_lowest ∙ h) (found 0 (file_tests bs)) p)

  first_bad : (p : ℕ) → bad_word bs ≡ some p → FirstBad bs p
  unfolding lowest_place
  first_bad p h =
      let t : FirstTest 0 (file_tests bs) p = subst (Found 0 (file_tests bs)) (sym bad_lowest ∙ h) (found 0 (file_tests bs)) in
      let e : t.at ≡ p = let z = t.is in omega arith in
      record {
        bad = bad_row p (subst (λ (k : ℕ). get_or (file_tests bs) k false ≡ true) e t.holds);
        first = λ q l x. true≢false (sym (bad_listed x) ∙ t.before q (omega arith));
      }

  pub file-judged : FileJudged bs
  file-judged = record { good = (none_bad, λ h. good h (bad_word bs) refl); bad = λ p. (first_bad p, λ h. same p h (bad_word bs) refl) }
    where
      good : ((p : ℕ) → BadAt bs p → ⊥) → (o : Option ℕ) → bad_word bs ≡ o → o ≡ none
      good h none e = refl
      good h (some p) e = absurd (h p (first_bad p e).bad)

      same : (p : ℕ) → FirstBad bs p → (o : Option ℕ) → bad_word bs ≡ o → o ≡ some p
      same p h none e = absurd (none_bad e p h.bad)
      same p h (some q) e =
          let x = first_bad q e in
          let a : q < p → ⊥ = λ l. h.first q l x.bad in
          let b : p < q → ⊥ = λ l. x.first p l h.bad in
          ap some (omega arith)

  -- ---- the program's table

  listing-verdict : listing bs ≡ verdict_lines (file_verdict bs) (settings_of_words (words bs)) (bale_in bs)
  unfolding listing
  listing-verdict = refl

  -- number 1 is one check, of what the program takes and of what the library does
  abbrev file_checks : List Check
  file_checks = (9, file_tests bs) ∷ (11, map zero_base (words bs)) ∷ (1, (over_program bs || over_library bs) ∷ []) ∷ drop 1 (call_checks bs)

  one_check :
      (a c : Bool) (v : Verdict) →
      or_refused 1 (lowest_place (a ∷ [])) (or_refused 1 (lowest_place (c ∷ [])) v) ≡ or_refused 1 (lowest_place ((a || c) ∷ [])) v
  unfolding or_refused lowest_place lowest_place_from
  one_check true c v = refl
  one_check false true v = refl
  one_check false false v = refl

  -- number 11, and then what v says
  abbrev zeros : Verdict → Verdict
  zeros v = or_refused 11 (lowest_place (map zero_base (words bs))) v

  file-first : file_verdict bs ≡ first_of file_checks
  unfolding file_verdict
  file-first =
      (λ i. or_refused 9 (bad_lowest i) (zeros (or_refused 1 (lowest_place (over_program bs ∷ [])) (verdict-first (settings_of_words (words bs)) buffers (bale_in bs) i))))
      ∙ ap (λ (v : Verdict). or_refused 9 (lowest_place (file_tests bs)) (zeros v)) (one_check (over_program bs) (over_library bs) (first_of (drop 1 (call_checks bs))))

  program_many : over_program bs ≡ true → FileFails bs 1 0
  unfolding too_many
  program_many h = go (or_cases (ltb 24 (bale_in bs).grades || ltb 24 (length (bale_in bs).markers)) (ltb 140 (length (bale_in bs).pairs)) h)
    where
      two : (ltb 24 (bale_in bs).grades ≡ true) ⊎ (ltb 24 (length (bale_in bs).markers) ≡ true) → FileFails bs 1 0
      two (inl a) = many_grades (ltb-true _ _ a)
      two (inr a) = many_markers (ltb-true _ _ a)

      go : ((ltb 24 (bale_in bs).grades || ltb 24 (length (bale_in bs).markers)) ≡ true) ⊎ (ltb 140 (length (bale_in bs).pairs) ≡ true) → FileFails bs 1 0
      go (inl a) = two (or_cases (ltb 24 (bale_in bs).grades) (ltb 24 (length (bale_in bs).markers)) a)
      go (inr a) = many_pairs (ltb-true _ _ a)

  file-row : (k p : ℕ) → test file_checks k p ≡ true → FileFails bs (number_at file_checks k) p
  file-row zero p h = bad_file (bad_row p h)
  file-row (suc zero) p h = let (w, e, t) = map-test zero_base (words bs) p h in let z = (zero-base w).0 t in zero_rate e z.0 z.1
  file-row (suc (suc zero)) (suc p) h = absurd (false≢true h)
  file-row (suc (suc zero)) zero h = go (or_cases (over_program bs) (over_library bs) h)
    where
      go : (over_program bs ≡ true) ⊎ (over_library bs ≡ true) → FileFails bs 1 0
      go (inl a) = program_many a
      go (inr a) = as_called (row (settings_of_words (words bs)) buffers (bale_in bs) 0 0 a)
  file-row (suc (suc (suc k))) p h = as_called (row (settings_of_words (words bs)) buffers (bale_in bs) (suc k) p h)

  file-listed : (n p : ℕ) → FileFails bs n p → (k : ℕ) × (n ≡ number_at file_checks k) × (test file_checks k p ≡ true)
  unfolding too_many
  file-listed n p (bad_file x) = (0, refl, bad_listed x)
  file-listed n p (zero_rate {w = w} e k z) = (1, refl, test-map zero_base (words bs) p w e ((zero-base w).1 (k, z)))
  file-listed n p (many_grades l) = (2, refl, simp (lt-ltb _ _ l))
  file-listed n p (many_markers l) = (2, refl, simp (lt-ltb _ _ l, or-true))
  file-listed n p (many_pairs l) = (2, refl, simp (lt-ltb _ _ l, or-true))
  file-listed n p (as_called x) = let r = listed (settings_of_words (words bs)) buffers (bale_in bs) x in go r.0 p r.1 r.2
    where
      go : (k q : ℕ) → n ≡ number_at (call_checks bs) k → test (call_checks bs) k q ≡ true
          → (k : ℕ) × (n ≡ number_at file_checks k) × (test file_checks k q ≡ true)
      go zero zero e t = (2, e, or_right (over_program bs) (over_library bs) t)
      go zero (suc q) e t = absurd (false≢true t)
      go (suc k) q e t = (suc (suc (suc k)), e, t)

  said : {v : Verdict} → file_verdict bs ≡ v → listing bs ≡ verdict_lines v (settings_of_words (words bs)) (bale_in bs)
  said e = listing-verdict ∙ ap (λ (v : Verdict). verdict_lines v (settings_of_words (words bs)) (bale_in bs)) e

  pub file-listing : FileListed bs
  unfolding verdict_lines
  file-listing =
      let r = refused_exactly (9 ∷ 11 ∷ range 1 8) (FileFails bs) file_checks (file_verdict bs) file-first refl file-row file-listed in
      let a = accepted_exactly (9 ∷ 11 ∷ range 1 8) (FileFails bs) file_checks (file_verdict bs) file-first refl file-row file-listed in
      record { refused_at_lem = r; accepted_as = a; refuses = λ n p h. said ((r n p).1 h); answers = λ h. said (a.1 h) }
