-- The rows that the opening reads and writes: what is asked of them, and that every index of its loops is in range.
use Rattle.std.specs.Prelude.{ℕ, ◌+◌, ◌-◌, ◌≤◌, ◌<◌, ◌≡◌, Bool, List, Float, length, get_or}
use Rattle.std.proofs.Common.{arith, sym, ap, ◌∙◌}
use Rattle.definition.specs.Settings.{Settings}
use Rattle.definition.specs.Directions.{Direction, MessageGraph, node_at}
use Rattle.messages.specs.Layout.{offsets_from, width, kind_code}
use Rattle.messages.specs.LayoutOffsets.{long_at, offset_at, length_offsets, offset-next, offset_mono, offset_room}
use Rattle.messages.specs.LayoutRows.{RowsRead, rows-read}
use Rattle.messages.specs.State.{PartRows}

-- ---- a row of messages by its offsets alone

pub record MessageRow (ds : List Direction) (offsets : List ℕ) (row : List Float) : Type 0 where
  pub offsets_are : offsets ≡ offsets_from 0 ds
  pub long : length row ≡ width ds
  pub wide : (d : ℕ) → d < length ds → 2 ≤ long_at ds d

pub record SomeMessageRow (offsets : List ℕ) (row : List Float) : Type 0 where
  pub directions : List Direction
  pub is : MessageRow directions offsets row

module _ (ds : List Direction) (offsets : List ℕ) (row : List Float) (R : MessageRow ds offsets row) where
  pub offsets_long : length offsets ≡ length ds + 1
  offsets_long = omega (arith, ap length R.offsets_are ∙ length_offsets 0 ds)

  pub offset-is : (d : ℕ) → get_or offsets d 0 ≡ offset_at ds d
  offset-is d = ap (λ (l : List ℕ). get_or l d 0) R.offsets_are

  pub offset-long : (d : ℕ) → d < length ds → get_or offsets (d + 1) 0 ≡ get_or offsets d 0 + long_at ds d
  offset-long d h = offset-is (d + 1) ∙ offset-next ds d h ∙ ap (λ (n : ℕ). n + long_at ds d) (sym (offset-is d))

  pub offset-end-le : (d : ℕ) → d < length ds → get_or offsets (d + 1) 0 ≤ length row
  offset-end-le d h = omega (arith, offset-long d h, offset-is d, offset_room ds d h, R.long)

-- ---- a row of messages of a part

pub record SendRows (s : Settings) (t : MessageGraph) (firsts outs offsets : List ℕ) (row : List Float) : Type 0 where
  pub kinds : List ℕ
  pub starts : List ℕ
  pub labels : List ℕ
  pub evidence : List Float
  pub part : PartRows s t kinds firsts starts outs offsets labels evidence
  pub long : length row ≡ width t.directions

-- node n of some part
pub record SomeSendRows (firsts outs offsets : List ℕ) (row : List Float) (n : ℕ) : Type 0 where
  pub settings : Settings
  pub graph : MessageGraph
  pub rows : SendRows settings graph firsts outs offsets row
  pub there : n < length graph.nodes

module _ (s : Settings) (t : MessageGraph) (firsts outs offsets : List ℕ) (row : List Float) (R : SendRows s t firsts outs offsets row) where
  pub read : RowsRead t R.kinds firsts R.starts outs offsets
  read = let P = R.part in rows-read P.subgraph t P.consistent P.in_order R.kinds firsts R.starts outs offsets P.rows

-- what a loop over a node's positions needs
pub record NodeRoom (firsts outs offsets : List ℕ) (row : List Float) (n : ℕ) : Type 0 where
  pub node : n + 1 < length firsts
  pub ordered : get_or firsts n 0 ≤ get_or firsts (n + 1) 0
  pub last : get_or firsts (n + 1) 0 ≤ length outs
  pub after : length offsets ≡ length outs + 1
  pub out : (k : ℕ) → k < length outs → get_or outs k 0 < length outs
  pub two : (d : ℕ) → d < length outs → get_or offsets d 0 + 1 < length row
  pub offset_mono : (d : ℕ) → d < length outs → get_or offsets d 0 ≤ get_or offsets (d + 1) 0
  pub offset-le : (d : ℕ) → d ≤ length outs → get_or offsets d 0 ≤ length row
  pub span : get_or offsets (get_or firsts n 0) 0 ≤ get_or offsets (get_or firsts (n + 1) 0) 0

pub node_room : (firsts outs offsets : List ℕ) (row : List Float) (n : ℕ) → SomeSendRows firsts outs offsets row n → NodeRoom firsts outs offsets row n
node_room firsts outs offsets row n S =
    let t = S.graph in
    let R = S.rows in
    let Q : RowsRead t R.kinds firsts R.starts outs offsets = read S.settings t firsts outs offsets row R in
    let h : n < length t.nodes = S.there in
    let o : length outs ≡ length t.directions = Q.outs_long in
    record {
      node = omega (arith, Q.firsts-long);
      ordered = Q.first_mono n (n + 1) (omega arith) (omega arith);
      last = omega (arith, Q.first-le (n + 1) (omega arith));
      after = omega (arith, Q.offsets_long);
      out = (λ k q. omega (arith, Q.out-lt k (omega arith)));
      two = (λ d q. omega (arith, Q.offset_room d (omega arith), R.part.kept.sound.wide d (omega arith), R.long));
      offset_mono = (λ d q. omega (arith, Q.offset-next d (omega arith)));
      offset-le = (λ d q. omega (arith, Q.offset-le d (omega arith), R.long));
      span = omega (arith, Q.offset (get_or firsts n 0), Q.offset (get_or firsts (n + 1) 0), offset_mono t.directions (get_or firsts n 0) (get_or firsts (n + 1) 0) (Q.first_mono n (n + 1) (omega arith) (omega arith)) (Q.first-le (n + 1) (omega arith)));
    }

-- ---- for a factor, the kinds and the starts too

pub record FactorRows (s : Settings) (t : MessageGraph) (kinds firsts starts outs offsets : List ℕ) (row : List Float) : Type 0 where
  pub labels : List ℕ
  pub evidence : List Float
  pub part : PartRows s t kinds firsts starts outs offsets labels evidence
  pub long : length row ≡ width t.directions

pub record SomeFactorRows (kinds firsts starts outs offsets : List ℕ) (row : List Float) (n : ℕ) : Type 0 where
  pub settings : Settings
  pub graph : MessageGraph
  pub rows : FactorRows settings graph kinds firsts starts outs offsets row
  pub there : n < length graph.nodes
  pub is-factor : kind_code (node_at graph n).kind ≡ 1

pub record FactorSettings (s : Settings) (alpha beta : Float) (regularised : Bool) : Type 0 where
  pub alpha_is : s.alpha ≡ alpha
  pub beta_is : s.beta ≡ beta
  pub regularised_is : s.regularised ≡ regularised

-- where a factor's message stands, and where its input's does
pub record SendRoom (offsets : List ℕ) (row : List Float) (out inn : ℕ) : Type 0 where
  pub out-there : out + 1 < length offsets
  pub in_there : inn < length offsets
  pub ordered : get_or offsets out 0 ≤ get_or offsets (out + 1) 0
  pub inside : get_or offsets (out + 1) 0 ≤ length row
  pub few : get_or offsets (out + 1) 0 - get_or offsets out 0 ≤ 129
  pub two : get_or offsets inn 0 + 1 < length row

-- ---- a grade

pub record SomeGradeRows (firsts outs offsets : List ℕ) (row : List Float) (n : ℕ) : Type 0 where
  pub settings : Settings
  pub graph : MessageGraph
  pub rows : SendRows settings graph firsts outs offsets row
  pub there : n < length graph.nodes
  pub is-grade : kind_code (node_at graph n).kind ≡ 0

pub grade-some : {firsts outs offsets : List ℕ} {row : List Float} {n : ℕ} → SomeGradeRows firsts outs offsets row n → SomeSendRows firsts outs offsets row n
grade-some S = record { settings = S.settings; graph = S.graph; rows = S.rows; there = S.there }
