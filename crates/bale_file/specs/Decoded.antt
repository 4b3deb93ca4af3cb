-- What a decoder says that was started and fed all bytes of a file, however they were cut: the definition's reading of the file.
use Rattle.std.specs.Prelude.{ℕ, ◌%◌, ◌^◌, ◌≤◌, ◌<◌, min, ◌≡◌, Bool, true, false, cond, List, [], ◌∷◌, eqb, length, get_or, take}
use Rattle.std.proofs.Common.{arith, ◌∙◌}
use Rattle.std.proofs.Math.Path.{refl, ap}
use Rattle.std.proofs.Math.Bool.{not}
use Rattle.std.proofs.Math.Option.{none}
use Rattle.definition.specs.BaleFile.{words, bad_word, words_of_kind, first_of_kind}
use Rattle.base_rate_laws.specs.Kinds.{once}
use Rattle.bale_file.specs.declared.reading.Reading.{Reading}
use Rattle.bale_file.specs.Reading.{Held, held_of, most_words, kept_word, read_words}
use Rattle.bale_file.specs.Decoder.{Fed, fed_of, fed_held, held_in, started, fed_at, fed_byte, fed, end_of, finished}
use Rattle.bale_file.specs.Places.{bad_place}
use Rattle.bale_file.specs.Onto.{Slots, slots_of, onto, put_each, put_one, put-all, all_there}
use Rattle.bale_file.specs.Kinds.{every, only_one}

-- ---- the two slices

abbrev marker_slots : Held → Slots
marker_slots h = slots_of h.reading.markers h.markers

abbrev pair_slots : Held → Slots
pair_slots h = slots_of h.reading.pairs h.pairs

either : (b : Bool) (n m : ℕ) (xs ys : List ℕ) → slots_of (cond b n m) (cond b xs ys) ≡ cond b (slots_of n xs) (slots_of m ys)
either true n m xs ys = refl
either false n m xs ys = refl

kept_markers : (w n : ℕ) (h : Held) → marker_slots (kept_word w n h) ≡ cond (eqb n 4) (put_one most_words w (marker_slots h)) (marker_slots h)
unfolding kept_word put_one
kept_markers w n h = either (eqb n 4) _ _ _ _

kept-pairs : (w n : ℕ) (h : Held) → pair_slots (kept_word w n h) ≡ cond (eqb n 5) (put_one most_words w (pair_slots h)) (pair_slots h)
unfolding kept_word put_one
kept-pairs w n h = either (eqb n 5) _ _ _ _

-- ---- bytes to words

pub fed-held : (bs : List ℕ) (h : Held) (x y z : ℕ) → held_in (fed bs (fed_held h 0 x y z)) ≡ read_words (words bs) h
unfolding words fed fed_byte fed_at read_words
fed-held [] h x y z = refl
fed-held (a ∷ []) h x y z = refl
fed-held (a ∷ b ∷ []) h x y z = refl
fed-held (a ∷ b ∷ d ∷ []) h x y z = refl
fed-held (a ∷ b ∷ d ∷ e ∷ bs) h x y z = fed-held bs _ a b d

fed-filled : (bs : List ℕ) (h : Held) (x y z : ℕ) → (fed bs (fed_held h 0 x y z)).decoder.filled ≡ length bs % 4
unfolding fed fed_byte fed_at
fed-filled [] h x y z = refl
fed-filled (a ∷ []) h x y z = refl
fed-filled (a ∷ b ∷ []) h x y z = refl
fed-filled (a ∷ b ∷ d ∷ []) h x y z = refl
fed-filled (a ∷ b ∷ d ∷ e ∷ bs) h x y z = fed-filled bs _ a b d ∙ (let r : length bs % 4 ≡ length (a ∷ b ∷ d ∷ e ∷ bs) % 4 = omega arith in r)

length-words : (bs : List ℕ) → length (words bs) ≤ length bs
unfolding words
length-words [] = omega arith
length-words (a ∷ []) = omega arith
length-words (a ∷ b ∷ []) = omega arith
length-words (a ∷ b ∷ d ∷ []) = omega arith
length-words (a ∷ b ∷ d ∷ e ∷ bs) = omega (arith, length-words bs)

-- ---- number 9

module _ (bs ms ps : List ℕ) where
  -- before the first byte, and once all are fed
  abbrev empty : Held
  empty = held_of started.reading ms ps

  abbrev pub fed_all : Fed
  fed_all = fed bs (fed_of started ms ps)

  pub decoded_bad : length bs < 2 ^ 64 → finished fed_all.decoder ≡ bad_word bs
  unfolding finished bad_word
  decoded_bad l =
      let left = not (eqb (length bs % 4) 0) in
      ap (λ (n : ℕ). end_of (not (eqb n 0)) fed_all.decoder.reading) (fed-filled bs empty 0 0 0)
      ∙ ap (λ (h : Held). end_of left h.reading) (fed-held bs empty 0 0 0)
      ∙ bad_place left (words bs) empty refl (omega (arith, length-words bs))

-- ---- a good file

-- the words of kinds 1, 2, 3 and 7; how many there are of kinds 4 and 5, and the first that fit
pub record Decoded (bs ms ps : List ℕ) (f : Fed) : Type 0 where
  pub rates : f.decoder.reading.rates ≡ first_of_kind 1 (words bs)
  pub prior : f.decoder.reading.prior ≡ first_of_kind 2 (words bs)
  pub grades : f.decoder.reading.grades ≡ first_of_kind 3 (words bs)
  pub base : f.decoder.reading.base ≡ first_of_kind 7 (words bs)
  pub markers : f.decoder.reading.markers ≡ min most_words (length (words_of_kind 4 (words bs)))
  pub pairs : f.decoder.reading.pairs ≡ min most_words (length (words_of_kind 5 (words bs)))
  pub marker_words : f.markers ≡ onto (take most_words (words_of_kind 4 (words bs))) ms
  pub pair_words : f.pairs ≡ onto (take most_words (words_of_kind 5 (words bs))) ps

module _ (bs ms ps : List ℕ) (whole : bad_word bs ≡ none) where
  abbrev all : Held
  all = read_words (words bs) (empty bs ms ps)

  many :
      {A : Type 0} (k : ℕ) (put : ℕ → A → A) (view : Held → A) →
      ((w n : ℕ) (h : Held) → view (kept_word w n h) ≡ cond (eqb n k) (put w (view h)) (view h)) →
      view all ≡ put_each put (words_of_kind k (words bs)) (view (empty bs ms ps))
  unfolding bad_word
  many k put view kept = every k put view kept (not (eqb (length bs % 4) 0)) 0 (words bs) (empty bs ms ps) refl whole

  -- a field that begins with 0 and takes the word of kind k
  one :
      (k : ℕ) → (k ≡ 4 → ⊥) → (k ≡ 5 → ⊥) → (field : Reading → ℕ) → field started.reading ≡ 0 →
      ((w n : ℕ) (h : Held) → field (kept_word w n h).reading ≡ cond (eqb n k) w (field h.reading)) →
      field all.reading ≡ first_of_kind k (words bs)
  unfolding first_of_kind
  one k four five field from kept =
      many k (λ w a. w) (λ h. field h.reading) kept
      ∙ only_one (words_of_kind k (words bs)) (field started.reading) (once bs whole k four five)
      ∙ ap (get_or (words_of_kind k (words bs)) 0) from

  four : marker_slots all ≡ slots_of (min most_words (length (words_of_kind 4 (words bs)))) (onto (take most_words (words_of_kind 4 (words bs))) ms)
  four = many 4 (put_one most_words) marker_slots kept_markers ∙ put-all most_words (words_of_kind 4 (words bs)) ms

  five : pair_slots all ≡ slots_of (min most_words (length (words_of_kind 5 (words bs)))) (onto (take most_words (words_of_kind 5 (words bs))) ps)
  five = many 5 (put_one most_words) pair_slots kept-pairs ∙ put-all most_words (words_of_kind 5 (words bs)) ps

  pub decoded_good : Decoded bs ms ps (fed_all bs ms ps)
  unfolding kept_word
  decoded_good =
      let e = fed-held bs (empty bs ms ps) 0 0 0 in
      record {
        rates = ap (λ (h : Held). h.reading.rates) e ∙ one 1 (λ e. omega arith) (λ e. omega arith) (λ r. r.rates) refl (λ w n h. refl);
        prior = ap (λ (h : Held). h.reading.prior) e ∙ one 2 (λ e. omega arith) (λ e. omega arith) (λ r. r.prior) refl (λ w n h. refl);
        grades = ap (λ (h : Held). h.reading.grades) e ∙ one 3 (λ e. omega arith) (λ e. omega arith) (λ r. r.grades) refl (λ w n h. refl);
        base = ap (λ (h : Held). h.reading.base) e ∙ one 7 (λ e. omega arith) (λ e. omega arith) (λ r. r.base) refl (λ w n h. refl);
        markers = ap (λ (h : Held). h.reading.markers) e ∙ ap (λ (s : Slots). s.count) four;
        pairs = ap (λ (h : Held). h.reading.pairs) e ∙ ap (λ (s : Slots). s.count) five;
        marker_words = ap (λ (h : Held). h.markers) e ∙ ap (λ (s : Slots). s.slots) four;
        pair_words = ap (λ (h : Held). h.pairs) e ∙ ap (λ (s : Slots). s.slots) five;
      }

-- where no more were counted than the slice has room for, all of them are there
module _ (bs ms ps : List ℕ) (f : Fed) (d : Decoded bs ms ps f) where
  pub all_markers : f.decoder.reading.markers < most_words → f.decoder.reading.markers ≤ length ms → take f.decoder.reading.markers f.markers ≡ words_of_kind 4 (words bs)
  all_markers l m = rw d.marker_words (all_there most_words _ (words_of_kind 4 (words bs)) ms d.markers l m)

  pub all-pairs : f.decoder.reading.pairs < most_words → f.decoder.reading.pairs ≤ length ps → take f.decoder.reading.pairs f.pairs ≡ words_of_kind 5 (words bs)
  all-pairs l m = rw d.pair_words (all_there most_words _ (words_of_kind 5 (words bs)) ps d.pairs l m)
