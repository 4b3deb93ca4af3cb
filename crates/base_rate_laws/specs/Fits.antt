-- The floats of a bale file are binary32 values, since each is a fraction that was rounded.
use Rattle.std.specs.Prelude.{ℕ, false, List, [], ◌∷◌, map}
use Rattle.std.proofs.Math.Option.{Option, none, some}
use Rattle.std.specs.Float.{binary32}
use Rattle.std.specs.Float.Ieee.Fits.{round-fits}
use Rattle.definition.specs.BaleFile.{base_rate, evidence_of, words_of_kind, settings_of_words, bale_of_words}
use Rattle.claims.specs.Parts.{SettingsFit, EvidenceFits, AllEvidence}

pub settings_fit : (ws : List ℕ) → SettingsFit (settings_of_words ws)
unfolding settings_of_words
settings_fit ws = record { alpha = round-fits binary32 false _ 1024; beta = round-fits binary32 false _ 1024; prior = round-fits binary32 false _ 1024 }

word_fits : (b : Option ℕ) (w : ℕ) → EvidenceFits (evidence_of b w)
unfolding evidence_of
word_fits none w = record { absent = round-fits binary32 false _ 16384; present = round-fits binary32 false _ 16384 }
word_fits (some b) w = record { absent = round-fits binary32 false _ 16777216; present = round-fits binary32 false _ 16777216 }

all_fit : (b : Option ℕ) (ws : List ℕ) → AllEvidence EvidenceFits (map (evidence_of b) ws)
all_fit b [] = tt
all_fit b (w ∷ ws) = (word_fits b w, all_fit b ws)

pub evidence-fits : (ws : List ℕ) → AllEvidence EvidenceFits (bale_of_words ws).markers
unfolding bale_of_words
evidence-fits ws = all_fit (base_rate ws) (words_of_kind 4 ws)
