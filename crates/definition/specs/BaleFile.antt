-- The bale file: 32-bit little-endian words, bits 31 to 29 the kind (document 01, 'The bale file'; document 02, S-16, for kind 7).
use Rattle.std.specs.Prelude.{ℕ, zero, suc, ◌+◌, ◌-◌, ◌*◌, ◌/◌, ◌%◌, ◌^◌, Bool, false, cond, not, ◌&&◌, ◌||◌, List, [], ◌∷◌, map, eqb, leb, length, get_or}
use Rattle.std.proofs.Math.Option.{Option, none, some}
use Rattle.definition.specs.Floats.{ratio}
use Rattle.definition.specs.Lists.{filter}
use Rattle.definition.specs.Settings.{Settings}
use Rattle.definition.specs.FactorGraph.{Evidence, Pair, Bale}

-- ---- bytes to words

-- four bytes, the lowest first
abbrev pub word_of : ℕ → ℕ → ℕ → ℕ → ℕ
word_of a b d e = a + 256 * b + 65536 * d + 16777216 * e

-- the whole words; up to three bytes are left over
unfoldable pub words : List ℕ → List ℕ
words [] = []
words (a ∷ []) = []
words (a ∷ b ∷ []) = []
words (a ∷ b ∷ d ∷ []) = []
words (a ∷ b ∷ d ∷ e ∷ l) = word_of a b d e ∷ words l

-- ---- a word

-- the kind, and bits h - 1 to l
unfoldable pub word_kind : ℕ → ℕ
word_kind w = w / 2 ^ 29

unfoldable pub bits : ℕ → ℕ → ℕ → ℕ
bits h l w = w % 2 ^ h / 2 ^ l

-- how many low bits the fields of a kind take
unfoldable pub field_width : ℕ → ℕ
field_width zero = 0
field_width (suc zero) = 20
field_width (suc (suc zero)) = 11
field_width (suc (suc (suc zero))) = 11
field_width (suc (suc (suc (suc zero)))) = 15
field_width (suc (suc (suc (suc (suc zero))))) = 20
field_width (suc (suc (suc (suc (suc (suc zero)))))) = 0
field_width (suc (suc (suc (suc (suc (suc (suc zero))))))) = 10
field_width (suc (suc (suc (suc (suc (suc (suc (suc k)))))))) = 0

unfoldable pub clean_word : ℕ → Bool
clean_word w = eqb (bits 29 (field_width (word_kind w)) w) 0

-- ---- the order: one each of 1, 2, 3, with at most one 7 between 2 and 3, then all 4s, all 5s, one 6 and nothing after

-- whether kind k may follow kind j; before the first word j is 0
unfoldable pub may_follow : ℕ → ℕ → Bool
may_follow zero k = eqb k 1
may_follow (suc zero) k = eqb k 2
may_follow (suc (suc zero)) k = eqb k 3 || eqb k 7
may_follow (suc (suc (suc zero))) k = leb 4 k && leb k 6
may_follow (suc (suc (suc (suc zero)))) k = leb 4 k && leb k 6
may_follow (suc (suc (suc (suc (suc zero))))) k = leb 5 k && leb k 6
may_follow (suc (suc (suc (suc (suc (suc zero)))))) k = false
may_follow (suc (suc (suc (suc (suc (suc (suc zero))))))) k = eqb k 3
may_follow (suc (suc (suc (suc (suc (suc (suc (suc j)))))))) k = false

-- The place of the first bad word: i is the first word's place and j the kind before it. Where the words run out it is i, if the end is missing or
-- bytes are left over.
unfoldable pub bad_word_from : Bool → ℕ → ℕ → List ℕ → Option ℕ
bad_word_from left i j [] = cond (eqb j 6 && not left) none (some i)
bad_word_from left i j (w ∷ ws) = let r = bad_word_from left (suc i) (word_kind w) ws in cond (may_follow j (word_kind w) && clean_word w) r (some i)

unfoldable pub bad_word : List ℕ → Option ℕ
bad_word bs = bad_word_from (not (eqb (length bs % 4) 0)) 0 0 (words bs)

-- ---- what a good file says

unfoldable pub words_of_kind : ℕ → List ℕ → List ℕ
words_of_kind k ws = filter (λ w. eqb (word_kind w) k) ws

unfoldable pub first_of_kind : ℕ → List ℕ → ℕ
first_of_kind k ws = get_or (words_of_kind k ws) 0 0

-- word a has alpha and beta in 1,024ths, word p prior and regularised; the loop limit is 10,000 and the tolerance 0.006
abbrev pub coded_settings : ℕ → ℕ → Settings
coded_settings a p =
    record {
      alpha = ratio (bits 20 10 a) 1024;
      beta = ratio (bits 10 0 a) 1024;
      prior = ratio (bits 10 0 p) 1024;
      regularised = eqb (bits 11 10 p) 1;
      tolerance = ratio 6 1000;
      loop_limit = 10000;
    }

unfoldable pub settings_of_words : List ℕ → Settings
settings_of_words ws = coded_settings (first_of_kind 1 ws) (first_of_kind 2 ws)

-- the base rate that e includes, in 1,024ths, where the file says one: that of its first word of kind 7
abbrev pub first_rate : List ℕ → Option ℕ
first_rate [] = none
first_rate (w ∷ ws) = some (bits 10 0 w)

unfoldable pub base_rate : List ℕ → Option ℕ
base_rate ws = first_rate (words_of_kind 7 ws)

-- e means [(16384 - e) / 16384, e / 16384]; with a base rate b, which is taken out, [(16384 - e) * b, e * (1024 - b)] / 2 ^ 24. Where e is over 16,384
-- nothing is left for absent, which number 5 refuses.
unfoldable pub evidence_of : Option ℕ → ℕ → Evidence
evidence_of none w = let e = bits 15 0 w in record { absent = ratio (16384 - e) 16384; present = ratio e 16384 }
evidence_of (some b) w = let e = bits 15 0 w in record { absent = ratio ((16384 - e) * b) 16777216; present = ratio (e * (1024 - b)) 16777216 }

unfoldable pub pair_of : ℕ → Pair
pair_of w = record { grade = bits 20 10 w; marker = bits 10 0 w }

unfoldable pub bale_of_words : List ℕ → Bale
bale_of_words ws =
    record { grades = bits 11 0 (first_of_kind 3 ws); markers = map (evidence_of (base_rate ws)) (words_of_kind 4 ws); pairs = map pair_of (words_of_kind 5 ws) }
