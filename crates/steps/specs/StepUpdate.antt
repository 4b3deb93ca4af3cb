-- One message of a step, for a component: what the code computes by the words is what the definition computes.
use Rattle.std.specs.Prelude.{ℕ, ◌+◌, ◌-◌, ◌≤◌, ◌<◌, ◌≡◌, refl, Bool, true, false, List, eqb, Float, length, get_or}
use Rattle.std.proofs.Common.{arith, sym, ap, ◌∙◌, subst}
use Rattle.std.specs.Float.{nan}
use Rattle.definition.specs.Settings.{Settings}
use Rattle.definition.specs.Vectors.{Message, binary}
use Rattle.definition.specs.FactorGraph.{Kind, grade, factor, input, tree, is_input, is_tree}
use Rattle.definition.specs.Directions.{MessageNode, MessageGraph, no_message_node, node_at, direction_at, message_at, messages_in}
use Rattle.definition.specs.Messages.{initial_belief, out_message_variable, out_message_factor, out_message}
use Rattle.graph_laws.specs.AloneChecks.{All-getD}
use Rattle.graph_laws.specs.MessageLengths.{fits as lengths, Along as SoundAlong}
use Rattle.graph_laws.specs.MessageCounts.{message_messages_in}
use Rattle.graph_laws.specs.Sending.{MessageNodeKept, FactorKept, DirectionKept}
use Rattle.node.specs.Rows.{given}
use Rattle.list_laws.specs.Part.{region}
use Rattle.list_laws.specs.Put.{put}
use Rattle.messages.specs.Layout.{cut, kind_code}
use Rattle.messages.specs.LayoutCut.{cut-long}
use Rattle.messages.specs.LayoutKinds.{code_input, grade-two, input_two}
use Rattle.messages.specs.LayoutOffsets.{TwoLong}
use Rattle.messages.specs.LayoutRows.{RowsRead}
use Rattle.messages.specs.LayoutWords.{message_cut}
use Rattle.steps.specs.StepFloats.{in_read}
use Rattle.messages.specs.Pairs.{pairs}
use Rattle.messages.specs.State.{PartRows, FloatRows, part_floats}
use Rattle.steps.specs.StepLog.{PartAt, Along, words_of}
use Rattle.steps.specs.StepSingle.{both, Holder, Sender, both-rows, held_in_lem}
use Rattle.steps.specs.StepPart.{part_at, along_of, out-grade, out_input, out-kept, out-factor, factor-given, pair_along, holder_of, sender_of}

module _ (s : Settings) (t : MessageGraph) (kinds firsts starts outs offsets labels : List ℕ) (evidence : List Float) (P : PartRows s t kinds firsts starts outs offsets labels evidence)
    (w r_in r_new r_log r_build pending rest : List Float) (F : FloatRows t r_in r_new r_log r_build pending rest) (e : w ≡ part_floats r_in r_new r_log r_build pending rest) (d : ℕ) (h : d < length t.directions) where
  abbrev p : PartAt firsts starts offsets w
  p = part_at s t kinds firsts starts outs offsets labels evidence P w r_in r_new r_log r_build pending rest F e

  abbrev ms : List Message
  ms = cut t.directions r_in

  -- a message that is the definition's, written at d
  pub single_rows : (m : Message) → m ≡ out_message s t (cut t.directions r_in) d
      → both w offsets d m ≡ part_floats (put r_in (get_or offsets d 0) (out_message s t (cut t.directions r_in) d)) (put r_new (get_or offsets d 0) (out_message s t (cut t.directions r_in) d)) r_log r_build pending rest
  single_rows m x =
      let A = along_of s t kinds firsts starts outs offsets labels evidence P w r_in r_new r_log r_build pending rest F e d h in
      let Q = (words_of s t kinds firsts starts outs offsets labels evidence P).read in
      let l : length m ≡ (direction_at t d).message_length = ap length x ∙ (lengths s t P.kept.sound).preserved.single ms (λ c k. cut-long t.directions r_in c F.in_long k) d h in
      both-rows firsts starts offsets w p d A m (omega (arith, l, Q.offset-next d h))
      ∙ ap (λ (r : List Float). part_floats (put r_in (get_or offsets d 0) r) (put r_new (get_or offsets d 0) r) r_log r_build pending rest) x

  -- a variable's
  abbrev n : ℕ
  n = get_or starts d 0

  there : get_or starts d 0 < length t.nodes
  there = (words_of s t kinds firsts starts outs offsets labels evidence P).read.start-lt d h

  is-start : get_or starts d 0 ≡ (direction_at t d).start
  is-start = (words_of s t kinds firsts starts outs offsets labels evidence P).read.start d h

  is_position : get_or outs d 0 - get_or firsts (get_or starts d 0) 0 ≡ (direction_at t d).end_in_start
  is_position = ap (λ (i : ℕ). get_or outs d 0 - get_or firsts i 0) is-start ∙ (words_of s t kinds firsts starts outs offsets labels evidence P).read.out_position d h

  pub variable_two : (get_or kinds (get_or starts d 0) 0 ≡ 1 → ⊥) → is_tree (node_at t (direction_at t d).start).kind ≡ false
      → TwoLong t.directions (node_at t (get_or starts d 0)).first_incoming (length (node_at t (get_or starts d 0)).outgoing) × (length (node_at t (get_or starts d 0)).outgoing ≤ 1024)
  variable_two f z = go (node_at t n).kind refl
    where
      K : MessageNodeKept (λ m. Unit {0}) t s (node_at t n).kind (node_at t n)
      K = All-getD (λ x. MessageNodeKept (λ m. Unit {0}) t s x.kind x) t.nodes P.kept.nodes no_message_node n there

      code : get_or kinds n 0 ≡ kind_code (node_at t n).kind
      code = (words_of s t kinds firsts starts outs offsets labels evidence P).read.kind n there

      go : (k : Kind) → (node_at t n).kind ≡ k → TwoLong t.directions (node_at t n).first_incoming (length (node_at t n).outgoing) × (length (node_at t n).outgoing ≤ 1024)
      go grade q = (
        grade-two P.subgraph t P.consistent P.kept.sound n there (ap kind_code q),
        (subst (λ (k : Kind). MessageNodeKept (λ m. Unit {0}) t s k (node_at t n)) q K).few,
      )
      go (input v) q = (
        input_two P.subgraph t P.consistent P.kept.sound n there (ap kind_code q),
        (subst (λ (k : Kind). MessageNodeKept (λ m. Unit {0}) t s k (node_at t n)) q K).0.few,
      )
      go (factor k) q = absurd (f (code ∙ ap kind_code q))
      go (tree k) q =
          absurd (let x : ◌≡◌ {A = Bool} true false = sym (ap is_tree q) ∙ ap (λ (i : ℕ). is_tree (node_at t i).kind) is-start ∙ z in let y : ◌≡◌ {A = ℕ} 0 1 = cc in let o : ⊥ = omega arith in o)

  pub variable_message : (b : Message) → (get_or kinds (get_or starts d 0) 0 ≡ 1 → ⊥) → is_tree (node_at t (direction_at t d).start).kind ≡ false → b ≡ initial_belief s (node_at t (direction_at t d).start).kind
      → out_message_variable b (pairs (region w (get_or offsets (get_or firsts (get_or starts d 0) 0) 0) (get_or offsets (get_or firsts (get_or starts d 0 + 1) 0) 0 - get_or offsets (get_or firsts (get_or starts d 0) 0) 0))) (get_or outs d 0 - get_or firsts (get_or starts d 0) 0)
      ≡ out_message s t (cut t.directions r_in) d
  variable_message b f z q =
      let T = variable_two f z in
      let Q = (words_of s t kinds firsts starts outs offsets labels evidence P).read in
      ap (λ (l : List Message). out_message_variable b l (get_or outs d 0 - get_or firsts n 0)) (held_in_lem firsts starts offsets w p n (omega (arith, Q.firsts-long, there)) T.0)
      ∙ ap (out_message_variable b (messages_in (node_at t n) ms)) is_position
      ∙ ap (λ (i : ℕ). out_message_variable b (messages_in (node_at t i) ms) (direction_at t d).end_in_start) is-start
      ∙ ap (λ (l : Message). out_message_variable l (messages_in (node_at t (direction_at t d).start) ms) (direction_at t d).end_in_start) q
      ∙ go (node_at t (direction_at t d).start).kind refl
    where
      go : (k : Kind) → (node_at t (direction_at t d).start).kind ≡ k
          → out_message_variable (initial_belief s (node_at t (direction_at t d).start).kind) (messages_in (node_at t (direction_at t d).start) ms) (direction_at t d).end_in_start ≡ out_message s t ms d
      go grade x = ap (λ (k : Kind). out_message_variable (initial_belief s k) (messages_in (node_at t (direction_at t d).start) ms) (direction_at t d).end_in_start) x ∙ sym (out-grade s t ms d x)
      go (input v) x = ap (λ (k : Kind). out_message_variable (initial_belief s k) (messages_in (node_at t (direction_at t d).start) ms) (direction_at t d).end_in_start) x ∙ sym (out_input s t ms d v x)
      go (factor k) x =
          absurd (f ((words_of s t kinds firsts starts outs offsets labels evidence P).read.kind n there ∙ ap (λ (i : ℕ). kind_code (node_at t i).kind) is-start ∙ ap kind_code x))
      go (tree k) x = absurd (let y : ◌≡◌ {A = Bool} true false = sym (ap is_tree x) ∙ z in let v : ◌≡◌ {A = ℕ} 0 1 = cc in let o : ⊥ = omega arith in o)

  -- a factor's
  factor-kind : get_or kinds (get_or starts d 0) 0 ≡ 1 → (r : Type 0) → ((k : ℕ) → (node_at t (direction_at t d).start).kind ≡ factor k → r) → r
  factor-kind f r c = go (node_at t (direction_at t d).start).kind refl
    where
      code : 1 ≡ kind_code (node_at t (direction_at t d).start).kind
      code = sym f ∙ (words_of s t kinds firsts starts outs offsets labels evidence P).read.kind n there ∙ ap (λ (i : ℕ). kind_code (node_at t i).kind) is-start

      go : (k : Kind) → (node_at t (direction_at t d).start).kind ≡ k → r
      go grade x = absurd (let y : 1 ≡ kind_code grade = code ∙ ap kind_code x in let o : ⊥ = omega arith in o)
      go (factor k) x = c k x
      go (input v) x = absurd (let y : 1 ≡ kind_code (input v) = code ∙ ap kind_code x in let o : ⊥ = omega arith in o)
      go (tree k) x = absurd (let y : 1 ≡ kind_code (tree k) = code ∙ ap kind_code x in let o : ⊥ = omega arith in o)

  -- to its input
  pub kept_message : get_or kinds (get_or starts d 0) 0 ≡ 1 → is_input (node_at t (direction_at t d).end).kind ≡ true
      → region w (get_or offsets d 0) (get_or offsets (d + 1) 0 - get_or offsets d 0) ≡ out_message s t (cut t.directions r_in) d
  kept_message f g =
      let Q = (words_of s t kinds firsts starts outs offsets labels evidence P).read in
      let o = get_or offsets d 0 in
      let m = get_or offsets (d + 1) 0 - o in
      ap (λ (v : List Float). region v o m) e
      ∙ in_read t r_in r_new r_log r_build pending rest F o m (omega (arith, Q.offset-next d h, Q.offset_room d h))
      ∙ sym (message_cut t kinds firsts starts outs offsets Q d h r_in)
      ∙ factor-kind f (message_at d ms ≡ out_message s t ms d) (λ k x. go k x (node_at t (direction_at t d).end).kind refl)
    where
      go : (k : ℕ) → (node_at t (direction_at t d).start).kind ≡ factor k → (l : Kind) → (node_at t (direction_at t d).end).kind ≡ l → message_at d ms ≡ out_message s t ms d
      go k x grade y = absurd (let u : ◌≡◌ {A = Bool} false true = sym (ap is_input y) ∙ g in let v : ◌≡◌ {A = ℕ} 0 1 = cc in let o : ⊥ = omega arith in o)
      go k x (factor j) y = absurd (let u : ◌≡◌ {A = Bool} false true = sym (ap is_input y) ∙ g in let v : ◌≡◌ {A = ℕ} 0 1 = cc in let o : ⊥ = omega arith in o)
      go k x (input v) y = sym (out-kept s t ms d k v x y)
      go k x (tree j) y = absurd (let u : ◌≡◌ {A = Bool} false true = sym (ap is_input y) ∙ g in let v : ◌≡◌ {A = ℕ} 0 1 = cc in let o : ⊥ = omega arith in o)

  -- to its grade or its tree: of the second message that it holds
  module _ (f : get_or kinds (get_or starts d 0) 0 ≡ 1) (g : is_input (node_at t (direction_at t d).end).kind ≡ false) where
    abbrev x : MessageNode
    x = node_at t (direction_at t d).start

    abbrev i : ℕ
    i = (direction_at t d).end_in_start

    kept_of : (k : ℕ) → x.kind ≡ factor k → FactorKept (λ m. Unit {0}) t k i x × ((direction_at t d).message_length ≡ k)
    kept_of k y = go (node_at t (direction_at t d).end).kind refl
      where
        D : (l : Kind) → (node_at t (direction_at t d).end).kind ≡ l → DirectionKept (λ m. Unit {0}) t (factor k) l i x
        D l z =
            subst (λ (j : Kind). DirectionKept (λ m. Unit {0}) t j l i x) y
            (subst (λ (j : Kind). DirectionKept (λ m. Unit {0}) t x.kind j i x) z (P.kept.directions d h))

        A : (l : Kind) → (node_at t (direction_at t d).end).kind ≡ l → SoundAlong (factor k) l (direction_at t d).message_length
        A l z =
            subst (λ (j : Kind). SoundAlong j l (direction_at t d).message_length) y
            (subst (λ (j : Kind). SoundAlong x.kind j (direction_at t d).message_length) z (P.kept.sound.along d h))

        go : (l : Kind) → (node_at t (direction_at t d).end).kind ≡ l → FactorKept (λ m. Unit {0}) t k i x × ((direction_at t d).message_length ≡ k)
        go grade z = (D grade z, A grade z)
        go (factor j) z = (D (factor j) z, A (factor j) z)
        go (tree j) z = (D (tree j) z, A (tree j) z)
        go (input v) z = absurd (let u : ◌≡◌ {A = Bool} true false = sym (ap is_input z) ∙ g in let v : ◌≡◌ {A = ℕ} 0 1 = cc in let o : ⊥ = omega arith in o)

    -- where the input's message stands, and how long the factor's is
    pub factor-there : (get_or firsts (get_or starts d 0) 0 + 1 < length t.directions) × ((direction_at t d).message_length ≤ 129)
    factor-there =
        let Q = (words_of s t kinds firsts starts outs offsets labels evidence P).read in
        let a = Q.first n there ∙ ap (λ (j : ℕ). (node_at t j).first_incoming) is-start in
        factor-kind f ((get_or firsts n 0 + 1 < length t.directions) × ((direction_at t d).message_length ≤ 129))
        (λ k y. let K = kept_of k y in (omega (arith, K.0.inside), omega (arith, K.0.few, K.1)))

    pub factor_message : out_message_factor (given s.alpha s.beta s.regularised) (get_or offsets (d + 1) 0 - get_or offsets d 0)
        (binary (get_or w (get_or offsets (get_or firsts (get_or starts d 0) 0 + 1) 0) nan) (get_or w (get_or offsets (get_or firsts (get_or starts d 0) 0 + 1) 0 + 1) nan)) ≡ out_message s t (cut t.directions r_in) d
    factor_message = factor-kind f _ (λ k y. of k y)
      where
        Q : RowsRead t kinds firsts starts outs offsets
        Q = (words_of s t kinds firsts starts outs offsets labels evidence P).read

        c : ℕ
        c = get_or firsts n 0 + 1

        first : get_or firsts n 0 ≡ x.first_incoming
        first = Q.first n there ∙ ap (λ (j : ℕ). (node_at t j).first_incoming) is-start

        of : (k : ℕ) → x.kind ≡ factor k → out_message_factor (given s.alpha s.beta s.regularised) (get_or offsets (d + 1) 0 - get_or offsets d 0)
            (binary (get_or w (get_or offsets (get_or firsts n 0 + 1) 0) nan) (get_or w (get_or offsets (get_or firsts n 0 + 1) 0 + 1) nan)) ≡ out_message s t ms d
        of k y =
            let K = kept_of k y in
            let there' : get_or firsts n 0 + 1 < length t.directions = omega (arith, K.0.inside, first) in
            let long : (direction_at t (get_or firsts n 0 + 1)).message_length ≡ 2 = ap (λ (j : ℕ). (direction_at t (j + 1)).message_length) first ∙ K.0.input_long in
            let l : get_or offsets (d + 1) 0 - get_or offsets d 0 ≡ k = omega (arith, Q.offset-next d h, K.1) in
            let m : Message = binary (get_or w (get_or offsets (get_or firsts n 0 + 1) 0) nan) (get_or w (get_or offsets (get_or firsts n 0 + 1) 0 + 1) nan) in
            let a : m ≡ message_at (get_or firsts n 0 + 1) ms =
            pair_along firsts starts offsets w p (get_or firsts n 0 + 1) (along_of s t kinds firsts starts outs offsets labels evidence P w r_in r_new r_log r_build pending rest F e (get_or firsts n 0 + 1) there')
            (omega (arith, Q.offset-next (get_or firsts n 0 + 1) there')) in
            let b : message_at (1 - i) (messages_in x ms) ≡ message_at (x.first_incoming + 1) ms =
            ap (λ (j : ℕ). message_at (1 - j) (messages_in x ms)) K.0.first_slot ∙ message_messages_in x ms 1 (omega (arith, K.0.two-neighbours)) in
            factor-given s (get_or offsets (d + 1) 0 - get_or offsets d 0) m
            ∙ ap (λ (j : ℕ). out_message_factor s j m) l
            ∙ ap (out_message_factor s k) (a ∙ ap (λ (j : ℕ). message_at (j + 1) ms) first ∙ sym b)
            ∙ sym (out-factor s t ms d k y g)

-- ---- a step's message, whatever its start but a tree

-- the words that are read
pub record SingleReads (kinds firsts starts outs : List ℕ) (d : ℕ) : Type 0 where
  pub way : d < length starts
  pub back : d < length outs
  pub node : get_or starts d 0 + 1 < length firsts
  pub kind : get_or starts d 0 < length kinds
  pub position : get_or firsts (get_or starts d 0) 0 ≤ get_or outs d 0
  pub turn : get_or outs d 0 < length starts
  pub end : get_or starts (get_or outs d 0) 0 < length kinds
  pub first : get_or firsts (get_or starts d 0) 0 ≤ length starts

pub record SingleAt (kinds firsts starts outs offsets : List ℕ) (w : List Float) (d : ℕ) (belief : Message) (alpha beta : Float) (regularised : Bool) : Type 0 where
  pub s : Settings
  pub t : MessageGraph
  pub labels : List ℕ
  pub evidence : List Float
  pub words : PartRows s t kinds firsts starts outs offsets labels evidence
  pub r_in : List Float
  pub r_new : List Float
  pub r_log : List Float
  pub r_build : List Float
  pub pending : List Float
  pub rest : List Float
  pub floats : FloatRows t r_in r_new r_log r_build pending rest
  pub is : w ≡ part_floats r_in r_new r_log r_build pending rest
  pub there : d < length t.directions
  pub no_tree : is_tree (node_at t (direction_at t d).start).kind ≡ false
  pub believes : (get_or kinds (get_or starts d 0) 0 ≡ 1 → ⊥) → belief ≡ initial_belief s (node_at t (direction_at t d).start).kind
  pub settings : given alpha beta regularised ≡ given s.alpha s.beta s.regularised

module _ (kinds firsts starts outs offsets : List ℕ) (w : List Float) (d : ℕ) (belief : Message) (alpha beta : Float) (regularised : Bool) (p : SingleAt kinds firsts starts outs offsets w d belief alpha beta regularised) where
  abbrev Q : RowsRead p.t kinds firsts starts outs offsets
  Q = (words_of p.s p.t kinds firsts starts outs offsets p.labels p.evidence p.words).read

  pub single_reads : SingleReads kinds firsts starts outs d
  single_reads =
      let h = p.there in
      let a = Q.start d h in
      let b = Q.back_is d h in
      let c = ap (λ (i : ℕ). get_or firsts i 0) a in
      record {
        way = omega (arith, Q.starts_long);
        back = omega (arith, Q.outs_long);
        node = omega (arith, Q.start-lt d h, Q.firsts-long);
        kind = omega (arith, Q.start-lt d h, Q.kinds-long);
        position = omega arith;
        turn = omega (arith, Q.out-lt d h, Q.starts_long);
        end = omega (arith, Q.start-lt (get_or outs d 0) (Q.out-lt d h), Q.kinds-long);
        first = omega (arith, Q.first-le (get_or starts d 0) (omega (arith, Q.start-lt d h)), Q.starts_long);
      }

  -- what the three functions ask
  pub single_along : Along offsets w d
  single_along = along_of p.s p.t kinds firsts starts outs offsets p.labels p.evidence p.words w p.r_in p.r_new p.r_log p.r_build p.pending p.rest p.floats p.is d p.there

  pub single_holder : (get_or kinds (get_or starts d 0) 0 ≡ 1 → ⊥) → Holder firsts offsets (get_or starts d 0) (get_or outs d 0 - get_or firsts (get_or starts d 0) 0)
  single_holder f =
      let h = p.there in
      let T = variable_two p.s p.t kinds firsts starts outs offsets p.labels p.evidence p.words w p.r_in p.r_new p.r_log p.r_build p.pending p.rest p.floats p.is d h f p.no_tree in
      let z = Q.back_is d h in
      let a = Q.start d h in
      let c = ap (λ (i : ℕ). get_or firsts i 0) a in
      let y = p.words.consistent.direction d h in
      holder_of p.s p.t kinds firsts starts outs offsets p.labels p.evidence p.words (get_or starts d 0) (get_or outs d 0 - get_or firsts (get_or starts d 0) 0) (Q.start-lt d h) T.0 T.1
      (let l : get_or outs d 0 < get_or firsts (get_or starts d 0 + 1) 0 = inner in omega (arith, Q.first (get_or starts d 0) (Q.start-lt d h), Q.next (get_or starts d 0) (Q.start-lt d h)))
    where
      inner : get_or outs d 0 < get_or firsts (get_or starts d 0 + 1) 0
      inner =
          let o = get_or outs d 0 in
          let h = Q.out-lt d p.there in
          let e : (direction_at p.t o).end ≡ get_or starts d 0 = sym (Q.end o h) ∙ ap (λ (i : ℕ). get_or starts i 0) (Q.out-out d p.there) in
          subst (λ (i : ℕ). o < get_or firsts (i + 1) 0) e (Q.end-next o h)

  abbrev goal : Message → Type 0
  goal m =
      both w offsets d m ≡ part_floats (put p.r_in (get_or offsets d 0) (out_message p.s p.t (cut p.t.directions p.r_in) d)) (put p.r_new (get_or offsets d 0) (out_message p.s p.t (cut p.t.directions p.r_in) d)) p.r_log p.r_build p.pending p.rest

  rows : (m : Message) → m ≡ out_message p.s p.t (cut p.t.directions p.r_in) d → goal m
  rows m x = single_rows p.s p.t kinds firsts starts outs offsets p.labels p.evidence p.words w p.r_in p.r_new p.r_log p.r_build p.pending p.rest p.floats p.is d p.there m x

  pub single_variable : (f : get_or kinds (get_or starts d 0) 0 ≡ 1 → ⊥)
      → goal (out_message_variable belief (pairs (region w (get_or offsets (get_or firsts (get_or starts d 0) 0) 0) (get_or offsets (get_or firsts (get_or starts d 0 + 1) 0) 0 - get_or offsets (get_or firsts (get_or starts d 0) 0) 0))) (get_or outs d 0 - get_or firsts (get_or starts d 0) 0))
  single_variable f =
      rows _ (variable_message p.s p.t kinds firsts starts outs offsets p.labels p.evidence p.words w p.r_in p.r_new p.r_log p.r_build p.pending p.rest p.floats p.is d p.there belief f p.no_tree (p.believes f))

  end-code : get_or kinds (get_or starts (get_or outs d 0) 0) 0 ≡ kind_code (node_at p.t (direction_at p.t d).end).kind
  end-code = ap (λ (i : ℕ). get_or kinds i 0) (Q.end d p.there) ∙ Q.kind (direction_at p.t d).end (Q.end_lt d p.there)

  pub single_kept : get_or kinds (get_or starts d 0) 0 ≡ 1 → get_or kinds (get_or starts (get_or outs d 0) 0) 0 ≡ 2 → goal (region w (get_or offsets d 0) (get_or offsets (d + 1) 0 - get_or offsets d 0))
  single_kept f g =
      rows _
      (kept_message p.s p.t kinds firsts starts outs offsets p.labels p.evidence p.words w p.r_in p.r_new p.r_log p.r_build p.pending p.rest p.floats p.is d p.there f
      (code_input (node_at p.t (direction_at p.t d).end).kind ∙ ap (λ (i : ℕ). eqb i 2) (sym end-code ∙ g)))

  not_input : (get_or kinds (get_or starts (get_or outs d 0) 0) 0 ≡ 2 → ⊥) → is_input (node_at p.t (direction_at p.t d).end).kind ≡ false
  not_input g = go (node_at p.t (direction_at p.t d).end).kind refl
    where
      go : (k : Kind) → (node_at p.t (direction_at p.t d).end).kind ≡ k → is_input (node_at p.t (direction_at p.t d).end).kind ≡ false
      go grade x = ap is_input x
      go (factor j) x = ap is_input x
      go (tree j) x = ap is_input x
      go (input v) x = absurd (g (end-code ∙ ap kind_code x))

  pub single_sender : get_or kinds (get_or starts d 0) 0 ≡ 1 → (get_or kinds (get_or starts (get_or outs d 0) 0) 0 ≡ 2 → ⊥) → Along offsets w (get_or firsts (get_or starts d 0) 0 + 1) × Sender offsets d
  single_sender f g =
      let T = factor-there p.s p.t kinds firsts starts outs offsets p.labels p.evidence p.words w p.r_in p.r_new p.r_log p.r_build p.pending p.rest p.floats p.is d p.there f (not_input g) in (
        along_of p.s p.t kinds firsts starts outs offsets p.labels p.evidence p.words w p.r_in p.r_new p.r_log p.r_build p.pending p.rest p.floats p.is (get_or firsts (get_or starts d 0) 0 + 1) T.0,
        sender_of p.s p.t kinds firsts starts outs offsets p.labels p.evidence p.words d p.there T.1,
      )

  pub single_factor : get_or kinds (get_or starts d 0) 0 ≡ 1 → (get_or kinds (get_or starts (get_or outs d 0) 0) 0 ≡ 2 → ⊥)
      → goal (out_message_factor (given alpha beta regularised) (get_or offsets (d + 1) 0 - get_or offsets d 0) (binary (get_or w (get_or offsets (get_or firsts (get_or starts d 0) 0 + 1) 0) nan) (get_or w (get_or offsets (get_or firsts (get_or starts d 0) 0 + 1) 0 + 1) nan)))
  single_factor f g =
      rows _
      (ap (λ (x : Settings). out_message_factor x (get_or offsets (d + 1) 0 - get_or offsets d 0) (binary (get_or w (get_or offsets (get_or firsts (get_or starts d 0) 0 + 1) 0) nan) (get_or w (get_or offsets (get_or firsts (get_or starts d 0) 0 + 1) 0 + 1) nan))) p.settings
      ∙ factor_message p.s p.t kinds firsts starts outs offsets p.labels p.evidence p.words w p.r_in p.r_new p.r_log p.r_build p.pending p.rest p.floats p.is d p.there f (not_input g))
