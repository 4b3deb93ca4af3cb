-- What the words of a bale file leave behind, taken one by one: the model of the reading and its two slices.
use Rattle.std.specs.Prelude.{ℕ, ◌+◌, Bool, true, cond, ◌&&◌, List, [], ◌∷◌, min, eqb, ltb, set}
use Rattle.definition.specs.BaleFile.{word_kind, clean_word, may_follow}
use Rattle.bale_file.specs.declared.reading.Reading.{Reading}

-- the reading, and what the two slices hold
pub record Held : Type 0 where
  pub reading : Reading
  pub markers : List ℕ
  pub pairs : List ℕ

abbrev pub held_of : Reading → List ℕ → List ℕ → Held
held_of r ms ps = record { reading = r; markers = ms; pairs = ps }

-- ---- counts that stop at the largest number of their type

abbrev pub most_words : ℕ
most_words = 4294967295

abbrev pub last_place : ℕ
last_place = 18446744073709551615

unfoldable pub one_more : ℕ → ℕ → ℕ
one_more most n = cond (ltb n most) (n + 1) n

-- the word at place n, if the slice has it
unfoldable pub put_at : ℕ → List ℕ → ℕ → ℕ → List ℕ
put_at most xs n w = cond (ltb n most) (set xs n w) xs

-- ---- a word

-- a bad word: the place stays
unfoldable pub spoilt : Held → Held
spoilt h =
    let r = h.reading in
    record {
      reading =
          record { place = r.place; kind = r.kind; bad = true; rates = r.rates; prior = r.prior; grades = r.grades; base = r.base; markers = r.markers; pairs = r.pairs };
      markers = h.markers;
      pairs = h.pairs;
    }

-- a good word of kind k
unfoldable pub kept_word : ℕ → ℕ → Held → Held
kept_word w k h =
    let r = h.reading in
    record {
      reading =
          record {
            place = min (r.place + 1) last_place;
            kind = k;
            bad = r.bad;
            rates = cond (eqb k 1) w r.rates;
            prior = cond (eqb k 2) w r.prior;
            grades = cond (eqb k 3) w r.grades;
            base = cond (eqb k 7) w r.base;
            markers = cond (eqb k 4) (one_more most_words r.markers) r.markers;
            pairs = cond (eqb k 5) (one_more most_words r.pairs) r.pairs;
          };
      markers = cond (eqb k 4) (put_at most_words h.markers r.markers w) h.markers;
      pairs = cond (eqb k 5) (put_at most_words h.pairs r.pairs w) h.pairs;
    }

-- whether a word is good after one of kind j
abbrev pub good_after : ℕ → ℕ → Bool
good_after j w = may_follow j (word_kind w) && clean_word w

unfoldable pub read_word : ℕ → Held → Held
read_word w h = cond h.reading.bad h (cond (good_after h.reading.kind w) (kept_word w (word_kind w) h) (spoilt h))

unfoldable pub read_words : List ℕ → Held → Held
read_words [] h = h
read_words (w ∷ ws) h = read_words ws (read_word w h)
