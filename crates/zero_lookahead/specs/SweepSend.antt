-- A node of a part that sends in a sweep: what its function asks of the part's words and floats, and what it leaves.
use Rattle.std.specs.Prelude.{ℕ, ◌+◌, ◌-◌, ◌*◌, ◌≤◌, ◌<◌, ◌≡◌, Bool, false, List, ◌++◌, Float, length, get_or}
use Rattle.std.proofs.Math.Decide.{ℕ_discrete}
use Rattle.std.proofs.Common.{arith, sym, ap, ◌∙◌, subst, inl, inr, length-append}
use Rattle.std.proofs.Math.Logic.{by_cases}
use Rattle.definition.specs.Settings.{Settings}
use Rattle.definition.specs.Vectors.{Message}
use Rattle.definition.specs.Directions.{MessageGraph, node_at}
use Rattle.definition.specs.Messages.{initial_belief}
use Rattle.messages.specs.Layout.{width, kind_code}
use Rattle.messages.specs.LayoutKinds.{code_lt}
use Rattle.messages.specs.LayoutOffsets.{offset-end}
use Rattle.messages.specs.LayoutRows.{RowsRead}
use Rattle.messages.specs.DirectionsRead.{kinds_row, labels_row, firsts_row, starts_row, outs_row, offsets_row, RecordFits, RowsFit}
use Rattle.messages.specs.State.{PartRows, FloatRows, part_floats}
use Rattle.sweeps.specs.Sweep.{Pairing, variable_sent, Factoring, factor_sent}
use Rattle.sweeps.specs.SweepCopies.{Directed}
use Rattle.sweeps.specs.SweepRebuild.{Rebuilding, needs_build, tree_sent}
use Rattle.sweeps.specs.SweepRows.{IsVariable, read-rows, variable_fits, first-there}
use Rattle.sweeps.specs.SweepFactor.{factor-fits}
use Rattle.sweeps.specs.SweepTree.{directed}
use Rattle.sweeps.specs.SweepTreeBuild.{tree_rebuilding}
use Rattle.sweeps.specs.SweepNode.{NodeSent, variable_sent_lem, factor-sent, tree-sent}
use Rattle.zero_lookahead.specs.PartOffsets.{width_is as part-width}
use Rattle.zero_lookahead.specs.Part.{rows_end, PartWords}
use Rattle.zero_lookahead.specs.Variable.{SomeVariable, kind_word}

pub record NodeRows (s : Settings) (t : MessageGraph) (out : ℕ) (evidence : List Float) (words : List ℕ) (w r_in r_new r_log r_build pending rest : List Float) (n : ℕ) : Type 0 where
  pub part : PartWords s t out evidence words
  pub floats : FloatRows t r_in r_new r_log r_build pending rest
  pub is : w ≡ part_floats r_in r_new r_log r_build pending rest
  pub node : n < length t.nodes

pub record SomeNode (out : ℕ) (evidence : List Float) (words : List ℕ) (w : List Float) (n : ℕ) : Type 0 where
  pub settings : Settings
  pub graph : MessageGraph
  pub r_in : List Float
  pub r_new : List Float
  pub r_log : List Float
  pub r_build : List Float
  pub pending : List Float
  pub rest : List Float
  pub rows : NodeRows settings graph out evidence words w r_in r_new r_log r_build pending rest n

-- of the kind with this code, whatever the evidence
pub record SomeNodeOf (code out : ℕ) (words : List ℕ) (w : List Float) (n : ℕ) : Type 0 where
  pub evidence : List Float
  pub some : SomeNode out evidence words w n
  pub kind : get_or words (2 + n) 0 ≡ code

module _ {s : Settings} {t : MessageGraph} {out : ℕ} {evidence : List Float} {words : List ℕ} (P : PartWords s t out evidence words) where
  pub record_fits : RecordFits words 0
  record_fits = record { counts = omega (arith, P.behind, P.room); record_in = omega (arith, P.behind, P.room) }

  pub rows_fit : RowsFit words 0 out
  rows_fit = record { counts = omega (arith, P.behind, P.room); rows_in = omega (arith, P.room) }

  pub flag-there : (n : ℕ) → n < get_or words 0 0 → rows_end words out + n < length words
  flag-there n h = omega (arith, P.room)

  -- the rows as they are read
  module _ (firsts outs offsets : List ℕ) (ef : firsts ≡ firsts_row words 0) (eo : outs ≡ outs_row words 0 out) (ex : offsets ≡ offsets_row words 0 out) where
    pub rows_of : PartRows s t (kinds_row words 0) firsts (starts_row words 0 out) outs offsets (labels_row words 0) evidence
    rows_of =
        subst (λ (l : List ℕ). PartRows s t (kinds_row words 0) l (starts_row words 0 out) outs offsets (labels_row words 0) evidence) (sym ef)
        (subst (λ (l : List ℕ). PartRows s t (kinds_row words 0) (firsts_row words 0) (starts_row words 0 out) l offsets (labels_row words 0) evidence) (sym eo)
        (subst (λ (l : List ℕ). PartRows s t (kinds_row words 0) (firsts_row words 0) (starts_row words 0 out) (outs_row words 0 out) l (labels_row words 0) evidence) (sym ex) P.rows))

    rows_in : RowsRead t (kinds_row words 0) firsts (starts_row words 0 out) outs offsets
    rows_in = read-rows s t (kinds_row words 0) firsts (starts_row words 0 out) outs offsets (labels_row words 0) evidence rows_of

    pub offsets_some : 1 ≤ length offsets
    offsets_some = omega (arith, rows_in.offsets_long)

    pub directions_are : length offsets - 1 ≡ length t.directions
    directions_are = omega (arith, rows_in.offsets_long)

    -- where a node's flag stands
    pub flag-place : (n : ℕ) → out + 3 * (length offsets - 1) + 1 + n ≡ rows_end words out + n
    flag-place n = omega (arith, directions_are, P.edges)

    pub width_is : (l : ℕ) → l ≡ get_or offsets (length offsets - 1) 0 → l ≡ width t.directions
    width_is l e = e ∙ ap (λ (d : ℕ). get_or offsets d 0) directions_are ∙ rows_in.offset (length t.directions) ∙ offset-end t.directions

    pub firsts-there : (n : ℕ) → n < length t.nodes → n + 1 < length firsts
    firsts-there n h = omega (arith, rows_in.firsts-long)

    pub firsts_order : (n : ℕ) → n < length t.nodes → get_or firsts n 0 ≤ get_or firsts (n + 1) 0
    firsts_order n h = omega (arith, rows_in.first n h, rows_in.next n h)

    -- what is left of the node's positions
    pub degree-is : (n a b : ℕ) → n < length t.nodes → a ≡ get_or firsts n 0 → b ≡ get_or firsts (n + 1) 0 → b - a ≡ length (node_at t n).outgoing
    degree-is n a b h ea eb = omega (arith, rows_in.degree n h)

  -- the last offset is the length of a row
  pub width-there : (e : ℕ) → e ≡ get_or words 1 0 → out + 6 * e < length words
  width-there e q = omega (arith, P.room)

  pub width_word : (e l : ℕ) → e ≡ get_or words 1 0 → l ≡ get_or words (out + 6 * e) 0 → l ≡ width t.directions
  width_word e l q z = z ∙ ap (λ (i : ℕ). get_or words (out + 6 * i) 0) q ∙ part-width P

module _ {s : Settings} {t : MessageGraph} {out : ℕ} {evidence : List Float} {words : List ℕ} {w r_in r_new r_log r_build pending rest : List Float} {n : ℕ} (N : NodeRows s t out evidence words w r_in r_new r_log r_build pending rest n) where
  rows_roomy : width t.directions + width t.directions ≤ length w
  rows_roomy =
      omega (arith, ap length N.is, length-append r_in (r_new ++ (r_log ++ (r_build ++ (pending ++ rest)))), length-append r_new (r_log ++ (r_build ++ (pending ++ rest))), N.floats.in_long, N.floats.new-long)

  pub node-there : n < get_or words 0 0
  node-there = omega (arith, N.part.nodes, N.node)

  kind-is : get_or words (2 + n) 0 ≡ kind_code (node_at t n).kind
  kind-is = kind_word s t out evidence words N.part n N.node

  -- a node that is neither factor nor tree
  pub variable_kind : (get_or words (2 + n) 0 ≡ 1 → ⊥) → (get_or words (2 + n) 0 ≡ 3 → ⊥) → IsVariable (node_at t n).kind
  variable_kind p q =
      let k = kind_code (node_at t n).kind in
      let a : k ≡ 1 → ⊥ = λ z. p (kind-is ∙ z) in
      let b : k ≡ 3 → ⊥ = λ z. q (kind-is ∙ z) in
      by_cases (ℕ_discrete k 0) (λ (z : k ≡ 0). inl z)
      (λ y.
      by_cases (ℕ_discrete k 2) (λ (z : k ≡ 2). inr z)
      (λ z.
      by_cases (ℕ_discrete k 1) (λ (u : k ≡ 1). absurd (a u))
      (λ u. absurd (b (omega (arith, code_lt (node_at t n).kind))))))

  pub some_variable : IsVariable (node_at t n).kind → SomeVariable words evidence n
  some_variable v = record { settings = s; graph = t; out = out; part = N.part; node = N.node; variable = v }

  sent-at : (flag : ℕ) (anew : Bool) (w' v : List Float) → w' ≡ v → NodeSent s t r_in r_new r_log r_build pending rest flag n anew v → NodeSent s t r_in r_new r_log r_build pending rest flag n anew w'
  sent-at flag anew w' v e S = record { is = e ∙ S.is; last = S.last }

  -- the rows, the length of a row of messages, the node's first position and its degree, as the code reads them
  module _ (firsts outs offsets : List ℕ) (ef : firsts ≡ firsts_row words 0) (eo : outs ≡ outs_row words 0 out) (ex : offsets ≡ offsets_row words 0 out)
      (l f : ℕ) (el : l ≡ get_or offsets (length offsets - 1) 0) (eg : f ≡ get_or firsts n 0) where
    abbrev P : PartRows s t (kinds_row words 0) firsts (starts_row words 0 out) outs offsets (labels_row words 0) evidence
    P = rows_of N.part firsts outs offsets ef eo ex

    wide : l ≡ width t.directions
    wide = width_is N.part firsts outs offsets ef eo ex l el

    pub factor_ready : get_or words (2 + n) 0 ≡ 1 → Factoring outs offsets l f (length w)
    factor_ready c =
        rw (wide, eg) (factor-fits s t (kinds_row words 0) firsts (starts_row words 0 out) outs offsets (labels_row words 0) evidence P n N.node (P.factors n N.node (sym kind-is ∙ c)) (length w) rows_roomy)

    pub factor-left : (flag : ℕ) (w' : List Float) (alpha beta : Float) (regularised : Bool) → get_or words (2 + n) 0 ≡ 1 → s.alpha ≡ alpha → s.beta ≡ beta → s.regularised ≡ regularised
        → w' ≡ factor_sent alpha beta regularised outs offsets l f w → NodeSent s t r_in r_new r_log r_build pending rest flag n false w'
    factor-left flag w' alpha beta regularised c ea eb er q =
        let L = width t.directions in
        sent-at flag false w' (factor_sent s.alpha s.beta s.regularised outs offsets L (get_or firsts n 0) (part_floats r_in r_new r_log r_build pending rest))
        (q ∙ ap (λ (i : Float). factor_sent i beta regularised outs offsets l f w) (sym ea)
        ∙ ap (λ (i : Float). factor_sent s.alpha i regularised outs offsets l f w) (sym eb)
        ∙ ap (λ (i : Bool). factor_sent s.alpha s.beta i outs offsets l f w) (sym er)
        ∙ ap (λ (i : ℕ). factor_sent s.alpha s.beta s.regularised outs offsets i f w) wide
        ∙ ap (λ (i : ℕ). factor_sent s.alpha s.beta s.regularised outs offsets L i w) eg
        ∙ ap (factor_sent s.alpha s.beta s.regularised outs offsets L (get_or firsts n 0)) N.is)
        (factor-sent s t (kinds_row words 0) firsts (starts_row words 0 out) outs offsets (labels_row words 0) evidence P n N.node r_in r_new r_log r_build pending rest N.floats flag (sym kind-is ∙ c))

    module _ (k : ℕ) (ek : k ≡ length (node_at t n).outgoing) where
      pub variable_ready : IsVariable (node_at t n).kind → (f < length offsets) × Pairing outs offsets l (get_or offsets f 0) f k (length w)
      variable_ready v =
          rw (wide, eg, ek)
          (first-there s t (kinds_row words 0) firsts (starts_row words 0 out) outs offsets (labels_row words 0) evidence P n N.node v, variable_fits s t (kinds_row words 0) firsts (starts_row words 0 out) outs offsets (labels_row words 0) evidence P n N.node v (length w) rows_roomy)

      pub variable_left : (flag : ℕ) (b : Message) (w' : List Float) → IsVariable (node_at t n).kind → b ≡ initial_belief s (node_at t n).kind → w' ≡ variable_sent b outs offsets l f k w
          → NodeSent s t r_in r_new r_log r_build pending rest flag n false w'
      variable_left flag b w' v eb q =
          let B = initial_belief s (node_at t n).kind in
          sent-at flag false w' (variable_sent B outs offsets (width t.directions) (get_or firsts n 0) (length (node_at t n).outgoing) (part_floats r_in r_new r_log r_build pending rest))
          (q ∙ ap (λ (i : Message). variable_sent i outs offsets l f k w) eb
          ∙ ap (λ (i : ℕ). variable_sent B outs offsets i f k w) wide
          ∙ ap (λ (i : ℕ). variable_sent B outs offsets (width t.directions) i k w) eg
          ∙ ap (λ (i : ℕ). variable_sent B outs offsets (width t.directions) (get_or firsts n 0) i w) ek
          ∙ ap (variable_sent B outs offsets (width t.directions) (get_or firsts n 0) (length (node_at t n).outgoing)) N.is)
          (variable_sent_lem s t (kinds_row words 0) firsts (starts_row words 0 out) outs offsets (labels_row words 0) evidence P n N.node r_in r_new r_log r_build pending rest N.floats flag v)

      pub tree_ready : (scratch : ℕ) → get_or words (2 + n) 0 ≡ 3 → scratch ≡ 4 * l + (length offsets - 1) → Directed outs offsets l f k (length w) × Rebuilding outs offsets l f k scratch w
      tree_ready scratch c es =
          let d = directions_are N.part firsts outs offsets ef eo ex in
          rw (wide, eg, ek) (
            directed s t (kinds_row words 0) firsts (starts_row words 0 out) outs offsets (labels_row words 0) evidence P n N.node (length w) rows_roomy,
            rw N.is (tree_rebuilding s t (kinds_row words 0) firsts (starts_row words 0 out) outs offsets (labels_row words 0) evidence P n N.node (sym kind-is ∙ c) r_in r_new r_log r_build pending rest N.floats scratch (omega (arith, wide, d))),
          )

      pub tree-left : (tolerance : Float) (flag a : ℕ) (anew : Bool) (w' : List Float) → get_or words (2 + n) 0 ≡ 3 → s.tolerance ≡ tolerance → flag ≡ a → anew ≡ needs_build tolerance flag l (get_or offsets f 0) (k - 1) w → w' ≡ tree_sent anew outs offsets l f k w
          → NodeSent s t r_in r_new r_log r_build pending rest a n anew w'
      tree-left tolerance flag a anew w' c et ea p q =
          let L = width t.directions in
          let D = length (node_at t n).outgoing in
          let W = part_floats r_in r_new r_log r_build pending rest in
          sent-at a anew w' (tree_sent anew outs offsets L (get_or firsts n 0) D W)
          (q ∙ ap (λ (i : ℕ). tree_sent anew outs offsets i f k w) wide
          ∙ ap (λ (i : ℕ). tree_sent anew outs offsets L i k w) eg
          ∙ ap (λ (i : ℕ). tree_sent anew outs offsets L (get_or firsts n 0) i w) ek
          ∙ ap (tree_sent anew outs offsets L (get_or firsts n 0) D) N.is)
          (tree-sent s t (kinds_row words 0) firsts (starts_row words 0 out) outs offsets (labels_row words 0) evidence P n N.node r_in r_new r_log r_build pending rest N.floats a (sym kind-is ∙ c) anew
          (p ∙ ap (λ (i : Float). needs_build i flag l (get_or offsets f 0) (k - 1) w) (sym et)
          ∙ ap (λ (i : ℕ). needs_build s.tolerance i l (get_or offsets f 0) (k - 1) w) ea
          ∙ ap (λ (i : ℕ). needs_build s.tolerance a i (get_or offsets f 0) (k - 1) w) wide
          ∙ ap (λ (i : ℕ). needs_build s.tolerance a L (get_or offsets i 0) (k - 1) w) eg
          ∙ ap (λ (i : ℕ). needs_build s.tolerance a L (get_or offsets (get_or firsts n 0) 0) (i - 1) w) ek
          ∙ ap (needs_build s.tolerance a L (get_or offsets (get_or firsts n 0) 0) (D - 1)) N.is))
