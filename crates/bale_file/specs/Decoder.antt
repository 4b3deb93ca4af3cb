-- The decoder over bytes: the model of what it is fed and of what it finds.
use Rattle.std.specs.Prelude.{ℕ, zero, suc, ◌+◌, Bool, true, false, cond, not, ◌&&◌, Result, Ok, Err, List, [], ◌∷◌, eqb, leb}
use Rattle.std.proofs.Math.Option.{Option, none, some}
use Rattle.definition.specs.BaleFile.{word_of, word_kind}
use Rattle.bale_file.specs.declared.reading.Reading.{Reading}
use Rattle.bale_file.specs.declared.decoder.Decoder.{Decoder}
use Rattle.bale_file.specs.declared.decoder.FedBale.{FedBale}
use Rattle.bale_file.specs.declared.decoder.BadWord.{BadWord}
use Rattle.bale_file.specs.Reading.{Held, held_of, read_word}

-- the decoder, and what the two slices hold
pub record Fed : Type 0 where
  pub decoder : Decoder
  pub markers : List ℕ
  pub pairs : List ℕ

abbrev pub fed_of : Decoder → List ℕ → List ℕ → Fed
fed_of d ms ps = record { decoder = d; markers = ms; pairs = ps }

abbrev pub decoder_of : Reading → ℕ → ℕ → ℕ → ℕ → Decoder
decoder_of r n a b d = record { reading = r; filled = n; first = a; second = b; third = d }

-- at a word, with the bytes a, b, d before
abbrev pub fed_held : Held → ℕ → ℕ → ℕ → ℕ → Fed
fed_held h n a b d = fed_of (decoder_of h.reading n a b d) h.markers h.pairs

-- the reading and the slices
abbrev pub held_in : Fed → Held
held_in f = held_of f.decoder.reading f.markers f.pairs

abbrev pub started : Decoder
started = decoder_of (record { place = 0; kind = 0; bad = false; rates = 0; prior = 0; grades = 0; base = 0; markers = 0; pairs = 0 }) 0 0 0 0

-- ---- bytes

-- a byte where n bytes of its word are there; the fourth completes the word
unfoldable pub fed_at : ℕ → ℕ → Fed → Fed
fed_at zero x f = let d = f.decoder in fed_of (decoder_of d.reading 1 x d.second d.third) f.markers f.pairs
fed_at (suc zero) x f = let d = f.decoder in fed_of (decoder_of d.reading 2 d.first x d.third) f.markers f.pairs
fed_at (suc (suc zero)) x f = let d = f.decoder in fed_of (decoder_of d.reading 3 d.first d.second x) f.markers f.pairs
fed_at (suc (suc (suc n))) x f =
    let d = f.decoder in
    fed_held (read_word (word_of d.first d.second d.third x) (held_in f)) 0 d.first d.second d.third

unfoldable pub fed_byte : ℕ → Fed → Fed
fed_byte x f = fed_at f.decoder.filled x f

unfoldable pub fed : List ℕ → Fed → Fed
fed [] f = f
fed (x ∷ xs) f = fed xs (fed_byte x f)

-- ---- up to an end word

-- whether a byte completes a word of kind 6
unfoldable pub ends_bale : ℕ → Decoder → Bool
ends_bale x d = leb 3 d.filled && eqb (word_kind (word_of d.first d.second d.third x)) 6

-- what was fed, how many bytes, and whether the last of them ended a bale
pub record FedTo : Type 0 where
  pub fed_to : Fed
  pub used : ℕ
  pub ended : Bool

abbrev pub fed_bale_of : FedBale → List ℕ → List ℕ → FedTo
fed_bale_of r ms ps = record { fed_to = fed_of r.decoder ms ps; used = r.used; ended = r.ended }

-- the same, counted from n bytes before
abbrev pub behind : ℕ → FedTo → FedTo
behind n r = record { fed_to = r.fed_to; used = n + r.used; ended = r.ended }

unfoldable pub fed_bale : List ℕ → Fed → FedTo
fed_bale [] f = record { fed_to = f; used = 0; ended = false }
fed_bale (x ∷ xs) f =
    let g = fed_byte x f in
    cond (ends_bale x f.decoder) (record { fed_to = g; used = 1; ended = true }) (behind 1 (fed_bale xs g))

-- ---- the end of the input

abbrev pub place_of : Result (Unit {0}) BadWord → Option ℕ
place_of (Err e) = some e.place
place_of (Ok u) = none

-- the place of number 9 where the words run out: that of the bad word, or of the missing end, or of bytes that are left over
unfoldable pub end_of : Bool → Reading → Option ℕ
end_of left r = cond (not r.bad && (eqb r.kind 6 && not left)) none (some r.place)

unfoldable pub finished : Decoder → Option ℕ
finished d = end_of (not (eqb d.filled 0)) d.reading
