-- The offsets of a part's messages, read from its words: the last of them is how long a row of messages is.
use Rattle.std.specs.Prelude.{ℕ, ◌+◌, ◌*◌, ◌≤◌, ◌≡◌, List, Float, length, get_or}
use Rattle.std.proofs.Common.{arith, sym, ap, ◌∙◌}
use Rattle.definition.specs.Settings.{Settings}
use Rattle.definition.specs.Directions.{MessageGraph}
use Rattle.list_laws.specs.Part.{get_d_region}
use Rattle.messages.specs.Layout.{offsets_from, width}
use Rattle.messages.specs.LayoutOffsets.{offset-end}
use Rattle.messages.specs.DirectionsRead.{offsets_row}
use Rattle.opening.specs.OpenRows.{MessageRow}
use Rattle.zero_lookahead.specs.Part.{PartWords}

abbrev pub width_in : List ℕ → ℕ → ℕ
width_in words out = get_or words (out + 6 * get_or words 1 0) 0

module _ {s : Settings} {t : MessageGraph} {out : ℕ} {evidence : List Float} {words : List ℕ} (P : PartWords s t out evidence words) where
  pub offset_word : (d : ℕ) → d ≤ 2 * get_or words 1 0 → get_or words (out + 4 * get_or words 1 0 + d) 0 ≡ get_or (offsets_row words 0 out) d 0
  offset_word d h = sym (get_d_region words (out + 4 * get_or words 1 0) (2 * get_or words 1 0 + 1) d 0 (omega arith))

  pub width_is : width_in words out ≡ width t.directions
  width_is =
      let e = get_or words 1 0 in
      ap (λ (i : ℕ). get_or words i 0) (let z : out + 6 * e ≡ out + 4 * e + 2 * e = omega arith in z)
      ∙ offset_word (2 * e) (omega arith)
      ∙ ap (λ (l : List ℕ). get_or l (2 * e) 0) P.rows.rows.offsets_are
      ∙ ap (λ (n : ℕ). get_or (offsets_from 0 t.directions) n 0) P.edges
      ∙ offset-end t.directions

  pub message_row : (row : List Float) → length row ≡ width t.directions → MessageRow t.directions (offsets_row words 0 out) row
  message_row row e = record { offsets_are = P.rows.rows.offsets_are; long = e; wide = P.rows.kept.sound.wide }
