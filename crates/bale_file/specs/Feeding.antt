-- Bytes fed one by one: each step of the decoder, and that cutting the input changes nothing.
use Rattle.std.specs.Prelude.{ℕ, zero, suc, ◌+◌, ◌≤◌, ◌<◌, ◌≡◌, refl, true, false, List, [], ◌∷◌, ◌++◌, length, drop, get_or}
use Rattle.std.proofs.Common.{add-zero, add-one, arith, sym, ap, ◌∙◌, drop_of_length-le, drop-cons}
use Rattle.definition.specs.BaleFile.{word_of}
use Rattle.bale_file.specs.declared.decoder.Decoder.{Decoder}
use Rattle.bale_file.specs.Reading.{Held, read_word}
use Rattle.bale_file.specs.Decoder.{Fed, fed_of, started, fed_held, held_in, fed_at, fed_byte, fed, FedTo, ends_bale, behind, fed_bale}

at_fourth :
    (n x : ℕ) (f : Fed) →
    (n ≡ 0 → ⊥) →
    (n ≡ 1 → ⊥) →
    (n ≡ 2 → ⊥) →
    fed_at 3 x f ≡ fed_at n x f
unfolding fed_at
at_fourth zero x f a b c = absurd (a refl)
at_fourth (suc zero) x f a b c = absurd (b refl)
at_fourth (suc (suc zero)) x f a b c = absurd (c refl)
at_fourth (suc (suc (suc n))) x f a b c = refl

-- the byte that completes a word
pub fourth :
    (x w : ℕ) (f : Fed) (h : Held) →
    (f.decoder.filled ≡ 0 → ⊥) →
    (f.decoder.filled ≡ 1 → ⊥) →
    (f.decoder.filled ≡ 2 → ⊥) →
    w ≡ word_of f.decoder.first f.decoder.second f.decoder.third x →
    h ≡ read_word w (held_in f) →
    fed_held h 0 f.decoder.first f.decoder.second f.decoder.third ≡ fed_byte x f
unfolding fed_at fed_byte
fourth x w f h a b c e r =
    ap (λ (k : Held). fed_held k 0 f.decoder.first f.decoder.second f.decoder.third) (r ∙ ap (λ (n : ℕ). read_word n (held_in f)) e)
    ∙ at_fourth f.decoder.filled x f a b c

pub fed-next : (xs : List ℕ) (i : ℕ) (f g : Fed) → i < length xs → g ≡ fed_byte (get_or xs i 0) f → fed (drop (i + 1) xs) g ≡ fed (drop i xs) f
unfolding fed
fed-next xs i f g l e = rw (add-one, drop-cons xs i 0 l, e)

-- feeding a and then b is feeding a ++ b
pub fed_append : (a b : List ℕ) (f : Fed) → fed (a ++ b) f ≡ fed b (fed a f)
unfolding fed
fed_append [] b f = refl
fed_append (x ∷ a) b f = fed_append a b (fed_byte x f)

-- what a caller that feeds piece after piece keeps: nothing is fed at the start, and a piece more is the input so far with the piece behind it
pub fed-start : (d : Decoder) (ms ps : List ℕ) → d ≡ started → fed_of d ms ps ≡ fed [] (fed_of started ms ps)
unfolding fed
fed-start d ms ps e = ap (λ (x : Decoder). fed_of x ms ps) e

pub fed-more : (a b : List ℕ) (f g h : Fed) → g ≡ fed a f → h ≡ fed b g → h ≡ fed (a ++ b) f
fed-more a b f g h p q = q ∙ ap (fed b) p ∙ sym (fed_append a b f)

-- ---- up to an end word

pub bale-ends : (x : ℕ) (xs : List ℕ) (f : Fed) → ends_bale x f.decoder ≡ true → fed_bale (x ∷ xs) f ≡ record { fed_to = fed_byte x f; used = 1; ended = true }
unfolding fed_bale
bale-ends x xs f e = rw e

pub bale_goes_on : (x : ℕ) (xs : List ℕ) (f : Fed) → ends_bale x f.decoder ≡ false → fed_bale (x ∷ xs) f ≡ behind 1 (fed_bale xs (fed_byte x f))
unfolding fed_bale
bale_goes_on x xs f e = rw e

pub behind-behind : (n k : ℕ) (r : FedTo) → behind n (behind k r) ≡ behind (n + k) r
behind-behind n k r =
    let e : n + (k + r.used) ≡ n + k + r.used = omega arith in
    ap (λ (u : ℕ). record { fed_to = r.fed_to; used = u; ended = r.ended }) e

abbrev on : ℕ → List ℕ → Fed → FedTo
on i xs f = behind i (fed_bale (drop i xs) f)

-- a loop over the bytes: where all are fed, at the byte that ends the bale, and at any other
pub all-fed : (xs : List ℕ) (i : ℕ) (f : Fed) → length xs ≤ i → record { fed_to = f; used = i; ended = false } ≡ on i xs f
unfolding fed_bale
all-fed xs i f l = rw (drop_of_length-le xs l, add-zero i)

module _ (xs : List ℕ) (i : ℕ) (f g : Fed) (l : i < length xs) (e : g ≡ fed_byte (get_or xs i 0) f) where
  abbrev x : ℕ
  x = get_or xs i 0

  pub bale-fed : ends_bale x f.decoder ≡ true → record { fed_to = g; used = i + 1; ended = true } ≡ on i xs f
  bale-fed h = rw (drop-cons xs i 0 l, bale-ends x (drop (suc i) xs) f h, e)

  pub bale-next : ends_bale x f.decoder ≡ false → on (i + 1) xs g ≡ on i xs f
  bale-next h = rw (drop-cons xs i 0 l, bale_goes_on x (drop (suc i) xs) f h, e, behind-behind i 1 (fed_bale (drop (suc i) xs) (fed_byte x f)), add-one i)
