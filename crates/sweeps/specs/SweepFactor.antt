-- What a factor's part of a sweep writes in words is what the definition's factor sends.
use Rattle.std.specs.Prelude.{ℕ, suc, ◌+◌, ◌-◌, ◌≤◌, ◌<◌, ◌≡◌, refl, true, false, List, [], ◌∷◌, ◌++◌, Float, length, get_or, take}
use Rattle.std.proofs.Common.{add-one, arith, sym, ap, ◌∙◌, subst, length-append, drop-cons}
use Rattle.std.specs.Float.{nan}
use Rattle.definition.specs.Vectors.{Message, binary}
use Rattle.definition.specs.Settings.{Settings}
use Rattle.definition.specs.FactorGraph.{Kind, grade, factor, input, tree, is_input, is_tree}
use Rattle.definition.specs.Directions.{MessageNode, MessageGraph, node_at, direction_at, message_at, messages_in}
use Rattle.definition.specs.Messages.{out_message_factor, out_message_factor_to, out_message_by, LastBuild, out_messages}
use Rattle.graph_laws.specs.MessageCounts.{message_messages_in}
use Rattle.graph_laws.specs.MessageLengths.{Along}
use Rattle.graph_laws.specs.Consistency.{PositionFits}
use Rattle.graph_laws.specs.Sending.{FactorKept, DirectionKept}
use Rattle.list_laws.specs.Part.{region}
use Rattle.list_laws.specs.Put.{put}
use Rattle.node.specs.Rows.{given}
use Rattle.messages.specs.Factor.{factor-given}
use Rattle.messages.specs.Layout.{cut, width, kind_code}
use Rattle.messages.specs.LayoutOffsets.{offset_at, offset_room}
use Rattle.messages.specs.LayoutPuts.{puts_none, puts-next}
use Rattle.messages.specs.LayoutRows.{RowsRead}
use Rattle.messages.specs.LayoutWords.{message_cut}
use Rattle.messages.specs.LayoutWrite.{Takes, sent}
use Rattle.messages.specs.LayoutSweeps.{Sends}
use Rattle.messages.specs.State.{FactorShape, PartRows}
use Rattle.sweeps.specs.Sweep.{Factoring, factor_sent}
use Rattle.sweeps.specs.SweepRows.{puts_middle, region-front, read-rows, position, out-at, plain_at, sends_fit}

-- ---- by the kinds

abbrev pub degree_in : Kind → ℕ
degree_in grade = 0
degree_in (factor d) = d
degree_in (input e) = 0
degree_in (tree d) = 0

abbrev Free : Message → Type 0
Free m = Unit {0}

pub no_tree : (k : Kind) → kind_code k ≡ 1 → is_tree k ≡ false
no_tree grade c = refl
no_tree (factor d) c = refl
no_tree (input e) c = refl
no_tree (tree d) c = absurd (let z : ⊥ = omega arith in z)

kept-first : (t : MessageGraph) (k r : Kind) (i : ℕ) (x : MessageNode) → kind_code k ≡ 1 → is_input r ≡ false → DirectionKept Free t k r i x → FactorKept Free t (degree_in k) i x
kept-first t grade r i x c e f = absurd (let z : ⊥ = omega arith in z)
kept-first t (input y) r i x c e f = absurd (let z : ⊥ = omega arith in z)
kept-first t (tree d) r i x c e f = absurd (let z : ⊥ = omega arith in z)
kept-first t (factor d) grade i x c e f = f
kept-first t (factor d) (factor y) i x c e f = f
kept-first t (factor d) (tree y) i x c e f = f
kept-first t (factor d) (input y) i x c e f = absurd (let z : ◌≡◌ {A = ℕ} 0 1 = cc in let y : ⊥ = omega arith in y)

-- at its second position stands its input
kept_second : (t : MessageGraph) (k r : Kind) (x : MessageNode) → kind_code k ≡ 1 → DirectionKept Free t k r 1 x → is_input r ≡ true
kept_second t grade r x c f = absurd (let z : ⊥ = omega arith in z)
kept_second t (input y) r x c f = absurd (let z : ⊥ = omega arith in z)
kept_second t (tree d) r x c f = absurd (let z : ⊥ = omega arith in z)
kept_second t (factor d) grade x c f = absurd (let z : ⊥ = omega (arith, f.first_slot) in z)
kept_second t (factor d) (factor y) x c f = absurd (let z : ⊥ = omega (arith, f.first_slot) in z)
kept_second t (factor d) (tree y) x c f = absurd (let z : ⊥ = omega (arith, f.first_slot) in z)
kept_second t (factor d) (input y) x c f = refl

along_first : (k r : Kind) (l : ℕ) → kind_code k ≡ 1 → is_input r ≡ false → Along k r l → l ≡ degree_in k
along_first grade r l c e f = absurd (let z : ⊥ = omega arith in z)
along_first (input y) r l c e f = absurd (let z : ⊥ = omega arith in z)
along_first (tree d) r l c e f = absurd (let z : ⊥ = omega arith in z)
along_first (factor d) grade l c e f = f
along_first (factor d) (factor y) l c e f = f
along_first (factor d) (tree y) l c e f = f
along_first (factor d) (input y) l c e f = absurd (let z : ◌≡◌ {A = ℕ} 0 1 = cc in let y : ⊥ = omega arith in y)

by_first : (k r : Kind) → kind_code k ≡ 1 → is_input r ≡ false → (s : Settings) (ms : List Message) (o : Message) → out_message_by k s ms 0 r o ≡ out_message_factor s (degree_in k) (message_at 1 ms)
unfolding out_message_by out_message_factor_to
by_first grade r c e s ms o = absurd (let z : ⊥ = omega arith in z)
by_first (input y) r c e s ms o = absurd (let z : ⊥ = omega arith in z)
by_first (tree d) r c e s ms o = absurd (let z : ⊥ = omega arith in z)
by_first (factor d) grade c e s ms o = refl
by_first (factor d) (factor y) c e s ms o = refl
by_first (factor d) (tree y) c e s ms o = refl
by_first (factor d) (input y) c e s ms o = absurd (let z : ◌≡◌ {A = ℕ} 0 1 = cc in let y : ⊥ = omega arith in y)

by_second : (k r : Kind) → kind_code k ≡ 1 → is_input r ≡ true → (s : Settings) (ms : List Message) (o : Message) → out_message_by k s ms 1 r o ≡ o
unfolding out_message_by out_message_factor_to
by_second grade r c e s ms o = absurd (let z : ⊥ = omega arith in z)
by_second (input y) r c e s ms o = absurd (let z : ⊥ = omega arith in z)
by_second (tree d) r c e s ms o = absurd (let z : ⊥ = omega arith in z)
by_second (factor d) (input y) c e s ms o = refl
by_second (factor d) grade c e s ms o = absurd (let z : ◌≡◌ {A = ℕ} 0 1 = cc in let y : ⊥ = omega arith in y)
by_second (factor d) (factor y) c e s ms o = absurd (let z : ◌≡◌ {A = ℕ} 0 1 = cc in let y : ⊥ = omega arith in y)
by_second (factor d) (tree y) c e s ms o = absurd (let z : ◌≡◌ {A = ℕ} 0 1 = cc in let y : ⊥ = omega arith in y)

region-two : (r : List Float) (a : ℕ) → a + 2 ≤ length r → region r a 2 ≡ binary (get_or r a nan) (get_or r (a + 1) nan)
region-two r a h =
    ap (take 2) (drop-cons r a nan (omega arith)) ∙ ap (λ (l : List Float). get_or r a nan ∷ take 1 l) (drop-cons r (suc a) nan (omega arith)) ∙ ap (λ (n : ℕ). get_or r a nan ∷ get_or r n nan ∷ []) (sym (add-one a))

module _ (s : Settings) (t : MessageGraph) (kinds firsts starts outs offsets labels : List ℕ) (evidence : List Float) (P : PartRows s t kinds firsts starts outs offsets labels evidence) (n : ℕ) (h : n < length t.nodes) (F : FactorShape t n) where
  abbrev x : MessageNode
  x = node_at t n

  abbrev f : ℕ
  f = get_or firsts n 0

  abbrev out : ℕ → ℕ
  out i = get_or (node_at t n).outgoing i 0

  R : RowsRead t kinds firsts starts outs offsets
  R = read-rows s t kinds firsts starts outs offsets labels evidence P

  fits : (i : ℕ) → i < 2 → PositionFits P.subgraph t n i
  fits i q = position s t kinds firsts starts outs offsets labels evidence P n h i (omega (arith, F.two))

  kept : (i : ℕ) → i < 2 → DirectionKept Free t x.kind (node_at t (direction_at t (out i)).end).kind i x
  kept i q =
      let r = (node_at t (direction_at t (out i)).end).kind in
      subst (λ (j : ℕ). DirectionKept Free t x.kind r j x) (fits i q).out_end_in_start
      (subst (λ (m : ℕ). DirectionKept Free t (node_at t m).kind r (direction_at t (out i)).end_in_start (node_at t m)) (fits i q).out-start (P.kept.directions (out i) (fits i q).out-there))

  K : FactorKept Free t (degree_in x.kind) 0 x
  K = kept-first t x.kind (node_at t (direction_at t (out 0)).end).kind 0 x F.code F.receiver (kept 0 (omega arith))

  second : is_input (node_at t (direction_at t (out 1)).end).kind ≡ true
  second = kept_second t x.kind (node_at t (direction_at t (out 1)).end).kind x F.code (kept 1 (omega arith))

  degree-out : (direction_at t (out 0)).message_length ≡ degree_in x.kind
  degree-out =
      along_first x.kind (node_at t (direction_at t (out 0)).end).kind (direction_at t (out 0)).message_length F.code F.receiver
      (subst (λ (m : ℕ). Along (node_at t m).kind (node_at t (direction_at t (out 0)).end).kind (direction_at t (out 0)).message_length) (fits 0 (omega arith)).out-start (P.kept.sound.along (out 0) (fits 0 (omega arith)).out-there))

  first_in : f < length t.directions
  first_in = omega (arith, R.first n h, R.next n h, F.two, R.first-le (n + 1) (omega arith))

  next_in : f + 1 < length t.directions
  next_in = omega (arith, R.first n h, R.next n h, F.two, R.first-le (n + 1) (omega arith))

  out-zero : get_or outs f 0 ≡ out 0
  out-zero = ap (λ (m : ℕ). get_or outs m 0) (let z : f ≡ f + 0 = omega arith in z) ∙ R.out n 0 h (omega (arith, F.two))

  out_one : get_or outs (f + 1) 0 ≡ out 1
  out_one = R.out n 1 h (omega (arith, F.two))

  degree_in_lem : (direction_at t f).message_length ≡ degree_in x.kind
  degree_in_lem =
      ap (λ (m : ℕ). (direction_at t m).message_length) (let z : f ≡ x.first_incoming + 0 = omega (arith, R.first n h) in z)
      ∙ sym (fits 0 (omega arith)).reversed.message_length ∙ degree-out

  input_in : (direction_at t (f + 1)).message_length ≡ 2
  input_in = ap (λ (m : ℕ). (direction_at t m).message_length) (let z : f + 1 ≡ x.first_incoming + 1 = omega (arith, R.first n h) in z) ∙ K.input_long

  input_out : (direction_at t (out 1)).message_length ≡ 2
  input_out = (fits 1 (omega arith)).reversed.message_length ∙ K.input_long

  degree-is : get_or offsets (f + 1) 0 - get_or offsets f 0 ≡ degree_in x.kind
  degree-is = omega (arith, R.offset-next f first_in, degree_in_lem)

  at_zero : get_or offsets (get_or outs f 0) 0 ≡ offset_at t.directions (out 0)
  at_zero = R.offset (get_or outs f 0) ∙ ap (offset_at t.directions) out-zero

  at_one : get_or offsets (get_or outs (f + 1) 0) 0 ≡ offset_at t.directions (out 1)
  at_one = R.offset (get_or outs (f + 1) 0) ∙ ap (offset_at t.directions) out_one

  pub factor-fits : (room : ℕ) → width t.directions + width t.directions ≤ room → Factoring outs offsets (width t.directions) f room
  factor-fits room g =
      record {
        few = omega (arith, degree_in_lem, R.offset-next f first_in, K.few);
        order = omega (arith, R.offset-next f first_in);
        held = omega (arith, input_in, R.offset_room (f + 1) next_in);
        roomy = g;
        offsets_long = omega (arith, next_in, R.offsets_long);
        listed = omega (arith, next_in, R.outs_long);
        there = omega (arith, out-zero, (fits 0 (omega arith)).out-there, R.offsets_long);
        there_back = omega (arith, out_one, (fits 1 (omega arith)).out-there, R.offsets_long);
        fits = omega (arith, at_zero, degree-is, degree-out, offset_room t.directions (out 0) (fits 0 (omega arith)).out-there);
        fits-back = omega (arith, at_one, input_out, offset_room t.directions (out 1) (fits 1 (omega arith)).out-there);
      }

  module _ (r_in r_new rest : List Float) (ein : length r_in ≡ width t.directions) (enew : length r_new ≡ width t.directions) where
    abbrev ms : List Message
    ms = cut t.directions r_in

    abbrev w : List Float
    w = r_in ++ (r_new ++ rest)

    -- the input's message
    input_is : binary (get_or w (get_or offsets (f + 1) 0) nan) (get_or w (get_or offsets (f + 1) 0 + 1) nan) ≡ message_at 1 (messages_in x ms)
    input_is =
        let a = get_or offsets (f + 1) 0 in
        let z = R.offset_room (f + 1) next_in in
        sym (region-two w a (omega (arith, input_in, ein, length-append r_in (r_new ++ rest))))
        ∙ region-front r_in (r_new ++ rest) a 2 (omega (arith, input_in, ein))
        ∙ ap (region r_in a) (let y : 2 ≡ get_or offsets (f + 1 + 1) 0 - a = omega (arith, R.offset-next (f + 1) next_in, input_in) in y)
        ∙ sym (message_cut t kinds firsts starts outs offsets R (f + 1) next_in r_in)
        ∙ ap (λ (m : ℕ). message_at m ms) (let y : f + 1 ≡ x.first_incoming + 1 = omega (arith, R.first n h) in y)
        ∙ sym (message_messages_in x ms 1 (omega (arith, F.two)))

    -- what is in force towards the input
    back_is : region w (get_or offsets (get_or outs (f + 1) 0) 0) 2 ≡ message_at (out 1) ms
    back_is =
        let b = (fits 1 (omega arith)).out-there in
        let z = offset_room t.directions (out 1) b in
        ap (λ (a : ℕ). region w a 2) (at_one ∙ sym (R.offset (out 1)))
        ∙ region-front r_in (r_new ++ rest) (get_or offsets (out 1) 0) 2 (omega (arith, input_out, ein, R.offset (out 1)))
        ∙ ap (region r_in (get_or offsets (out 1) 0)) (let y : 2 ≡ get_or offsets (out 1 + 1) 0 - get_or offsets (out 1) 0 = omega (arith, R.offset-next (out 1) b, input_out) in y)
        ∙ sym (message_cut t kinds firsts starts outs offsets R (out 1) b r_in)

    pub factor-row : (b : LastBuild) → factor_sent s.alpha s.beta s.regularised outs offsets (width t.directions) f w
        ≡ r_in ++ (sent t.directions x.outgoing (out_messages s t ms x b).messages r_new (length x.outgoing) ++ rest)
    factor-row b =
        let m = (out_messages s t ms x b).messages in
        let L = width t.directions in
        let S : Sends t.directions x.outgoing m = sends_fit s t kinds firsts starts outs offsets labels evidence P n h r_in ein b in
        let at : ℕ → ℕ = λ i. length r_in + offset_at t.directions (out i) in
        let g : ℕ → Message = λ i. message_at i m in
        let o : (i : ℕ) → i < 2 → out_message_by x.kind s (messages_in x ms) i (node_at t (direction_at t (out i)).end).kind (message_at (out i) ms) ≡ g i = λ i q.
        sym (out-at s t kinds firsts starts outs offsets labels evidence P n h ms i (omega (arith, F.two))) ∙ plain_at s t kinds firsts starts outs offsets labels evidence P n h ms b (no_tree x.kind F.code) i (omega (arith, F.two)) in
        let q = get_or offsets (f + 1) 0 in
        let u : out_message_factor (given s.alpha s.beta s.regularised) (q - get_or offsets f 0) (binary (get_or w q nan) (get_or w (q + 1) nan)) ≡ g 0 =
        ap (λ (d : ℕ). out_message_factor (given s.alpha s.beta s.regularised) d (binary (get_or w q nan) (get_or w (q + 1) nan))) degree-is
        ∙ ap (out_message_factor (given s.alpha s.beta s.regularised) (degree_in x.kind)) input_is
        ∙ sym (factor-given s (degree_in x.kind) (message_at 1 (messages_in x ms)))
        ∙ sym (by_first x.kind (node_at t (direction_at t (out 0)).end).kind F.code F.receiver s (messages_in x ms) (message_at (out 0) ms))
        ∙ o 0 (omega arith) in
        let v : region w (get_or offsets (get_or outs (f + 1) 0) 0) 2 ≡ g 1 =
        back_is ∙ sym (by_second x.kind (node_at t (direction_at t (out 1)).end).kind F.code second s (messages_in x ms) (message_at (out 1) ms)) ∙ o 1 (omega arith) in
        puts-next w (put w (L + get_or offsets (get_or outs f 0) 0) (out_message_factor (given s.alpha s.beta s.regularised) (q - get_or offsets f 0) (binary (get_or w q nan) (get_or w (q + 1) nan)))) at g 1
        (L + get_or offsets (get_or outs (f + 1) 0) 0) (region w (get_or offsets (get_or outs (f + 1) 0) 0) 2)
        (puts-next w w at g 0 (L + get_or offsets (get_or outs f 0) 0) (out_message_factor (given s.alpha s.beta s.regularised) (q - get_or offsets f 0) (binary (get_or w q nan) (get_or w (q + 1) nan))) (puts_none w at g) (omega (arith, ein, at_zero)) u)
        (omega (arith, ein, at_one)) v
        ∙ puts_middle r_in r_new rest (λ i. offset_at t.directions (out i)) g 2
        (λ i q. let T : Takes t.directions (out i) (message_at i m) = S.takes i (omega (arith, F.two)) in omega (arith, T.long, offset_room t.directions (out i) T.there))
        ∙ ap (λ (i : ℕ). r_in ++ (sent t.directions x.outgoing m r_new i ++ rest)) (sym F.two)
