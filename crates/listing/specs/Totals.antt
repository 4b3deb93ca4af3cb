-- The lines of the depot, as far as a loop has put them: those of the first i totals.
use Rattle.std.specs.Prelude.{◌≡◌, refl, Bool, true, false, cond, List, [], ◌∷◌, ◌++◌, ℕ, suc, ◌+◌, ◌*◌, ◌^◌, ◌≤◌, ◌<◌, eqb, length, get_or, take}
use Rattle.std.proofs.Common.{sym, ap, ◌∙◌, append_assoc, append-nil, add-one, arith, eq-eqb, ne_eqb, length-append, take-suc, length-take-le}
use Rattle.definition.specs.Listing.{decimal, line}
use Rattle.definition.specs.Tonnage.{total_lines}
use Rattle.list_laws.specs.Put.{put-none}
use Rattle.text_laws.specs.Decimal.{decimal-short}
use Rattle.listing.specs.Writing.{Written, line-length, written_is, written_next, written-long}

abbrev pub total_line : ℕ → ℕ → List ℕ
total_line g t = line (decimal g ∷ decimal t ∷ [])

-- 4 digits, a space, 20 digits and the end
pub total-short : (g t : ℕ) → g < 1024 → t < 2 ^ 64 → length (total_line g t) ≤ 26
total-short g t h k = omega (arith, line-length (decimal g) (decimal t ∷ []), decimal-short 3 g (omega arith), decimal-short 19 t (omega arith))

lines_append : (g : ℕ) (ts us : List ℕ) → total_lines g (ts ++ us) ≡ total_lines g ts ++ total_lines (g + length ts) us
unfolding total_lines
lines_append g [] us = ap (λ (n : ℕ). total_lines n us) (let z : g ≡ g + 0 = omega arith in z)
lines_append g (t ∷ ts) us =
    let l = cond (eqb t 0) [] (total_line g t) in
    let e : suc g + length ts ≡ g + suc (length ts) = omega arith in
    ap (λ (r : List ℕ). l ++ r) (lines_append (suc g) ts us ∙ ap (λ (n : ℕ). total_lines (suc g) ts ++ total_lines n us) e)
    ∙ sym (append_assoc l (total_lines (suc g) ts) (total_lines (g + suc (length ts)) us))

-- the lines of one total more
lines_next :
    (ts : List ℕ) (i : ℕ) → i < length ts → (b : Bool) → eqb (get_or ts i 0) 0 ≡ b →
    total_lines 0 (take i ts) ++ cond b [] (total_line i (get_or ts i 0)) ≡ total_lines 0 (take (i + 1) ts)
unfolding total_lines
lines_next ts i h b e =
    let t = get_or ts i 0 in
    let done = total_lines 0 (take i ts) in
    ap (λ (a : Bool). done ++ cond a [] (total_line i t)) (sym e)
    ∙ ap (λ (r : List ℕ). done ++ r) (sym (append-nil (cond (eqb t 0) [] (total_line i t))))
    ∙ ap (λ (n : ℕ). done ++ total_lines n (t ∷ [])) (let z : i ≡ 0 + length (take i ts) = omega (arith, length-take-le i ts (omega arith)) in z)
    ∙ sym (lines_append 0 (take i ts) (t ∷ []))
    ∙ ap (total_lines 0) (sym (take-suc ts i 0 h) ∙ ap (λ (n : ℕ). take n ts) (sym (add-one i)))

-- m is the buffer l with the lines of the first i totals at its front, and k is the place after them
pub record TotalsWritten (l ts m : List ℕ) (k i : ℕ) : Type 0 where
  pub written : Written l 0 (total_lines 0 (take i ts)) m k
  pub short : k ≤ 26 * i
  pub long : length m ≡ length l

pub no_totals : (l ts : List ℕ) → TotalsWritten l ts l 0 0
unfolding total_lines
no_totals l ts = record { written = record { bytes = put-none l 0 (omega arith); place = refl }; short = omega arith; long = refl }

pub total_skipped : {l ts m : List ℕ} {k i : ℕ} → TotalsWritten l ts m k i → i < length ts → get_or ts i 0 ≡ 0 → TotalsWritten l ts m k (i + 1)
total_skipped {l} {ts} {m} {k} {i} a h e =
    record {
      written = written_is (sym (append-nil (total_lines 0 (take i ts))) ∙ lines_next ts i h true (eq-eqb _ _ e)) a.written;
      short = omega (arith, a.short);
      long = a.long;
    }

-- there is room for one line more, of up to 26 bytes
pub total-fits :
    {l ts m : List ℕ} {k i : ℕ} → TotalsWritten l ts m k i → i < length ts → length ts ≤ 1024 → 26 * length ts ≤ length l → get_or ts i 0 < 2 ^ 64 →
    k + length (total_line i (get_or ts i 0)) ≤ length m
total-fits {l} {ts} {m} {k} {i} a h few room f = omega (arith, a.short, a.long, total-short i (get_or ts i 0) (omega arith) f)

pub total-put :
    {l ts m : List ℕ} {k i : ℕ} {n : List ℕ} {j : ℕ} → TotalsWritten l ts m k i → i < length ts → length ts ≤ 1024 → 26 * length ts ≤ length l →
    get_or ts i 0 < 2 ^ 64 → (get_or ts i 0 ≡ 0 → ⊥) → Written m k (total_line i (get_or ts i 0)) n j → TotalsWritten l ts n j (i + 1)
total-put {l} {ts} {m} {k} {i} {n} {j} a h few room f e w =
    let t = total_line i (get_or ts i 0) in
    let z = total-fits a h few room f in
    let fits : 0 + length (total_lines 0 (take i ts) ++ t) ≤ length l = omega (arith, a.written.place, a.long, length-append (total_lines 0 (take i ts)) t) in
    record {
      written = written_is (lines_next ts i h false (ne_eqb _ _ e)) (written_next a.written w fits);
      short = omega (arith, a.short, w.place, total-short i (get_or ts i 0) (omega arith) f);
      long = written-long w z ∙ a.long;
    }
