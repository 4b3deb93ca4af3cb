-- The reader's base rate taken out of its evidence (document 02, S-16), stated in full. The table with number 11 is `FileListed` of FileRefused.
use Rattle.std.specs.Prelude.{ℕ, ◌-◌, ◌*◌, ◌^◌, ◌≤◌, ◌≡◌, ◌↔◌, false, List, [], map}
use Rattle.std.proofs.Math.Option.{none, some}
use Rattle.std.proofs.Math.ListN.{get_elem?}
use Rattle.std.specs.Float.Ieee.Exact.{HasValue}
use Rattle.definition.specs.Floats.{ratio}
use Rattle.definition.specs.FactorGraph.{Evidence}
use Rattle.definition.specs.Refusals.{bad_evidence}
use Rattle.definition.specs.BaleFile.{words, word_kind, bits, bad_word, words_of_kind, evidence_of, bale_of_words}

-- in a good file a word of kind 7 is word 2
abbrev pub BaseAtTwo : Type 0
BaseAtTwo = (bs : List ℕ) → bad_word bs ≡ none → (p w : ℕ) → get_elem? (words bs) p ≡ some w → word_kind w ≡ 7 → p ≡ 2

-- e of a marker's word, and its evidence by document 01
abbrev pub read_of : ℕ → ℕ
read_of w = bits 15 0 w

abbrev pub bare_evidence : ℕ → Evidence
bare_evidence w = record { absent = ratio (16384 - read_of w) 16384; present = ratio (read_of w) 16384 }

-- words without kind 7 mean what document 01 says
abbrev pub BareWithoutBase : Type 0
BareWithoutBase = (ws : List ℕ) → words_of_kind 7 ws ≡ [] → (bale_of_words ws).markers ≡ map bare_evidence (words_of_kind 4 ws)

-- With a base rate of b 1,024ths each entry is the exact fraction: nothing is rounded. `HasValue x false n d`: x is finite, not negative, and n / d.
abbrev pub ExactEvidence : Type 0
ExactEvidence =
    (b w : ℕ) → b ≤ 1024 → read_of w ≤ 16384 →
    HasValue (evidence_of (some b) w).absent false ((16384 - read_of w) * b) (2 ^ 24)
    × HasValue (evidence_of (some b) w).present false (read_of w * (1024 - b)) (2 ^ 24)

-- Number 5 takes the pair exactly if both entries are at least 2 ^ -14, in whole numbers; e over 16,384 it does not take.
abbrev pub EvidenceTaken : Type 0
EvidenceTaken =
    (b w : ℕ) → b ≤ 1024 →
    bad_evidence (evidence_of (some b) w) ≡ false ↔ ((1024 ≤ (16384 - read_of w) * b) × (1024 ≤ read_of w * (1024 - b)))
