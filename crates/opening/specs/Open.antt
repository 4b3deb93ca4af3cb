-- The opening as a whole: the row of messages afterwards, the floats of a part afterwards, and that they stand for the definition's store.
use Rattle.std.specs.Prelude.{ℕ, ◌+◌, ◌-◌, ◌*◌, ◌≤◌, ◌≡◌, refl, List, [], ◌∷◌, ◌++◌, map, Float, length, get_or, take, drop, replicate}
use Rattle.std.proofs.Common.{arith, sym, ap, ◌∙◌, append_assoc, length-append, drop-drop}
use Rattle.std.proofs.Math.Option.{none}
use Rattle.std.proofs.Math.Seq.{take-append_seam, drop-append_seam}
use Rattle.definition.specs.Vectors.{Message}
use Rattle.definition.specs.Settings.{Settings}
use Rattle.definition.specs.Directions.{MessageNode, MessageGraph}
use Rattle.definition.specs.Messages.{LastBuild}
use Rattle.definition.specs.Sweeps.{initialize_messages, opening}
use Rattle.list_laws.specs.Part.{region, length-region}
use Rattle.list_laws.specs.Put.{put, put-part, length-put}
use Rattle.messages.specs.Layout.{cut, width}
use Rattle.messages.specs.LayoutOffsets.{offset-end}
use Rattle.messages.specs.State.{PartRows, FloatRows, part_floats, builds_of, store_of}
use Rattle.opening.specs.OpenRows.{MessageRow, FactorRows, offsets_long, offset-is}
use Rattle.opening.specs.OpenKinds.{InputsRows, GradesRows}

-- ---- a part with its row of messages in force

pub record OpenPart (s : Settings) (t : MessageGraph) (kinds firsts starts outs offsets labels : List ℕ) (evidence row : List Float) : Type 0 where
  pub part : PartRows s t kinds firsts starts outs offsets labels evidence
  pub long : length row ≡ width t.directions

pub record SomeOpenPart (kinds firsts starts outs offsets labels : List ℕ) (evidence row : List Float) : Type 0 where
  pub settings : Settings
  pub graph : MessageGraph
  pub rows : OpenPart settings graph kinds firsts starts outs offsets labels evidence row

module _ {kinds firsts starts outs offsets labels : List ℕ} {evidence row : List Float} {s : Settings} {t : MessageGraph} (R : OpenPart s t kinds firsts starts outs offsets labels evidence row) where
  pub message_rows : MessageRow t.directions offsets row
  message_rows = record { offsets_are = R.part.rows.offsets_are; long = R.long; wide = R.part.kept.sound.wide }

  module _ {row' : List Float} (e : length row' ≡ length row) where
    pub inputs_rows : InputsRows s t kinds firsts outs offsets labels evidence row'
    inputs_rows = record { starts = starts; part = R.part; long = e ∙ R.long }

    pub factors_rows : FactorRows s t kinds firsts starts outs offsets row'
    factors_rows = record { labels = labels; evidence = evidence; part = R.part; long = e ∙ R.long }

    pub grades-rows : GradesRows s t kinds firsts outs offsets row'
    grades-rows = record { starts = starts; labels = labels; evidence = evidence; part = R.part; long = e ∙ R.long }

-- ---- three rows the same

put_mid_lem : (p q r s : List Float) (at : ℕ) → at ≡ length p → length q ≡ length s → put (p ++ (q ++ r)) at s ≡ p ++ (s ++ r)
unfolding put
put_mid_lem p q r s at e f =
    ap (λ (n : ℕ). take n (p ++ (q ++ r)) ++ (s ++ drop (n + length s) (p ++ (q ++ r)))) e
    ∙ ap (λ (l : List Float). l ++ (s ++ drop (length p + length s) (p ++ (q ++ r)))) (take-append_seam p (q ++ r))
    ∙ ap (λ (l : List Float). p ++ (s ++ l))
    (sym (drop-drop (length s) (length p) (p ++ (q ++ r))) ∙ ap (drop (length s)) (drop-append_seam p (q ++ r)) ∙ ap (λ (n : ℕ). drop n (q ++ r)) (sym f) ∙ drop-append_seam q r)

take-first : (p r : List Float) (n : ℕ) → n ≡ length p → region (p ++ r) 0 n ≡ p
take-first p r n e = ap (λ (k : ℕ). take k (p ++ r)) e ∙ take-append_seam p r

module _ (w a b c r x : List Float) (l : ℕ) (is : w ≡ a ++ (b ++ (c ++ r))) (ea : length a ≡ l) (eb : length b ≡ l) (ec : length c ≡ l) (ex : length x ≡ l) where
  one-row : take 0 w ++ (x ++ drop l (drop 0 w)) ≡ x ++ (b ++ (c ++ r))
  one-row = ap (λ (v : List Float). x ++ drop l v) is ∙ ap (λ (n : ℕ). x ++ drop n (a ++ (b ++ (c ++ r)))) (sym ea) ∙ ap (λ (v : List Float). x ++ v) (drop-append_seam a (b ++ (c ++ r)))

  pub three-rows : (w₁ w₂ w₃ : List Float) → w₁ ≡ take 0 w ++ (x ++ drop l (drop 0 w)) → w₂ ≡ put w₁ l (region w₁ 0 l) → w₃ ≡ put w₂ (2 * l) (region w₂ 0 l) → w₃ ≡ x ++ (x ++ (x ++ r))
  three-rows w₁ w₂ w₃ p q z =
      let u : w₁ ≡ x ++ (b ++ (c ++ r)) = p ∙ one-row in
      let v : w₂ ≡ x ++ (x ++ (c ++ r)) =
      q ∙ ap (λ (y : List Float). put y l (region y 0 l)) u ∙ ap (put (x ++ (b ++ (c ++ r))) l) (take-first x (b ++ (c ++ r)) l (sym ex)) ∙ put_mid_lem x b (c ++ r) x l (sym ex) (eb ∙ sym ex) in
      z
      ∙ ap (λ (y : List Float). put y (2 * l) (region y 0 l)) v
      ∙ ap (put (x ++ (x ++ (c ++ r))) (2 * l)) (take-first x (x ++ (c ++ r)) l (sym ex))
      ∙ ap (λ (y : List Float). put y (2 * l) x) (sym (append_assoc x x (c ++ r)))
      ∙ put_mid_lem (x ++ x) c r x (2 * l) (let y : 2 * l ≡ length (x ++ x) = omega (arith, length-append x x) in y) (ec ∙ sym ex)
      ∙ append_assoc x x (x ++ r)

-- ---- the floats of a part

pub record OpenFloats (s : Settings) (t : MessageGraph) (kinds firsts starts outs offsets labels : List ℕ) (evidence w r_in r_new r_log r_build pending rest : List Float) : Type 0 where
  pub part : PartRows s t kinds firsts starts outs offsets labels evidence
  pub floats : FloatRows t r_in r_new r_log r_build pending rest
  pub is : w ≡ part_floats r_in r_new r_log r_build pending rest

pub record SomeOpenFloats (kinds firsts starts outs offsets labels : List ℕ) (evidence w : List Float) : Type 0 where
  pub settings : Settings
  pub graph : MessageGraph
  pub msg_in : List Float
  pub msg_in_new : List Float
  pub msg_in_log : List Float
  pub last_builds : List Float
  pub pending : List Float
  pub rest : List Float
  pub rows : OpenFloats settings graph kinds firsts starts outs offsets labels evidence w msg_in msg_in_new msg_in_log last_builds pending rest

-- afterwards: one row, three times
pub record Opened (s : Settings) (t : MessageGraph) (r_build pending rest w : List Float) : Type 0 where
  pub row : List Float
  pub long : length row ≡ width t.directions
  pub stands : cut t.directions row ≡ initialize_messages s t
  pub is : w ≡ part_floats row row row r_build pending rest

module _ {s : Settings} {t : MessageGraph} {kinds firsts starts outs offsets labels : List ℕ} {evidence w r_in r_new r_log r_build pending rest : List Float} (F : OpenFloats s t kinds firsts starts outs offsets labels evidence w r_in r_new r_log r_build pending rest) where
  r_in_row : OpenPart s t kinds firsts starts outs offsets labels evidence r_in
  r_in_row = record { part = F.part; long = F.floats.in_long }

  pub some-offset : 1 ≤ length offsets
  some-offset = omega (arith, offsets_long t.directions offsets r_in (message_rows r_in_row))

  pub row-width : get_or offsets (length offsets - 1) 0 ≡ width t.directions
  row-width =
      let n : length offsets - 1 ≡ length t.directions = omega (arith, offsets_long t.directions offsets r_in (message_rows r_in_row)) in
      ap (λ (k : ℕ). get_or offsets k 0) n ∙ offset-is t.directions offsets r_in (message_rows r_in_row) (length t.directions) ∙ offset-end t.directions

  pub floats_room : 3 * get_or offsets (length offsets - 1) 0 ≤ length w
  floats_room =
      let f = F.floats in
      omega (arith, ap length F.is, length-append r_in (r_new ++ (r_log ++ (r_build ++ (pending ++ rest)))), length-append r_new (r_log ++ (r_build ++ (pending ++ rest))), length-append r_log (r_build ++ (pending ++ rest)), row-width, f.in_long, f.new-long, f.log_long)

  pub first-row : (l : ℕ) → l ≡ get_or offsets (length offsets - 1) 0 → OpenPart s t kinds firsts starts outs offsets labels evidence (region w 0 l)
  first-row l e = record { part = F.part; long = length-region w 0 l (omega (arith, floats_room)) ∙ e ∙ row-width }

  -- what the code leaves, by its steps
  pub open_floats : (l n : ℕ) → l ≡ get_or offsets (length offsets - 1) 0 → n ≡ l → (x w₁ w₂ w₃ : List Float) → length x ≡ length (region w 0 n) → cut t.directions x ≡ initialize_messages s t
      → w₁ ≡ take 0 w ++ (x ++ drop n (drop 0 w)) → w₂ ≡ put w₁ l (region w₁ 0 l) → w₃ ≡ put w₂ (2 * l) (region w₂ 0 l)
      → Opened s t r_build pending rest w₃
  open_floats l n e u x w₁ w₂ w₃ o g p q z =
      let f = F.floats in
      let d : l ≡ width t.directions = e ∙ row-width in
      let k : length x ≡ width t.directions = o ∙ (first-row n (u ∙ e)).long in
      record {
        row = x;
        long = k;
        stands = g;
        is =
            three-rows w r_in r_new r_log (r_build ++ (pending ++ rest)) x l F.is (f.in_long ∙ sym d) (f.new-long ∙ sym d) (f.log_long ∙ sym d) (k ∙ sym d) w₁ w₂ w₃ (p ∙ ap (λ (i : ℕ). take 0 w ++ (x ++ drop i (drop 0 w))) u) q z;
      }

-- ---- and they stand for the definition's store

no_builds : (xs : List MessageNode) (ms : List Message) → builds_of xs (replicate (length xs) 0) ms ≡ map (λ (x : MessageNode). none) xs
no_builds [] ms = refl
no_builds (x ∷ xs) ms = ap (λ (l : List LastBuild). none ∷ l) (no_builds xs ms)

pub opening_store : (s : Settings) (t : MessageGraph) (row r_build : List Float) → cut t.directions row ≡ initialize_messages s t → store_of t row row row r_build (replicate (length t.nodes) 0) ≡ opening s t
unfolding store_of opening
opening_store s t row r_build e = λ i. record { msg_in = e i; msg_in_new = e i; msg_in_log = e i; last_builds = no_builds t.nodes (cut t.directions r_build) i }

pub one-row-long : (w x : List Float) (l : ℕ) → l ≤ length w → length x ≡ length (region w 0 l) → length (take 0 w ++ (x ++ drop l (drop 0 w))) ≡ length w
one-row-long w x l h e =
    let k : length x ≡ l = e ∙ length-region w 0 l (omega arith) in
    ap length (put-part w x 0 l k) ∙ length-put w 0 x (omega arith)
