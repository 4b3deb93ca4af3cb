-- A factor at the opening: it sends to its first neighbour, unless that is its input, and all its other messages stay as they are.
use Rattle.std.specs.Prelude.{ℕ, suc, ◌+◌, ◌-◌, ◌≤◌, ◌<◌, ◌≡◌, Bool, List, [], ◌∷◌, ◌++◌, map, Float, length, get_or, take, drop}
use native.Mathlib.Omega.{arith}
use Rattle.std.proofs.Math.Decide.{ℕ_discrete}
use Rattle.std.proofs.Math.Path.{refl, sym, ap}
use Rattle.std.proofs.Common.{◌∙◌, get_or-set_other}
use Rattle.std.proofs.Math.Logic.{by_cases}
use Rattle.std.proofs.Math.ListN.{set}
use Rattle.std.proofs.lemmas.List.{set-get_or}
use Rattle.definition.specs.Vectors.{Message}
use Rattle.definition.specs.Settings.{Settings}
use Rattle.definition.specs.FactorGraph.{Kind, grade, factor, input, tree}
use Rattle.definition.specs.Directions.{MessageNode, MessageGraph, node_at, direction_at, message_at, messages_in, set_messages}
use Rattle.definition.specs.Messages.{out_message_factor, out_message_factor_to, out_message_by, out_message}
use Rattle.definition.specs.Sweeps.{opening_factor}
use Rattle.node.specs.Rows.{given, table_given}
use Rattle.graph_laws.specs.Lengths.{length-out_message_factor}
use Rattle.graph_laws.specs.MessageLengths.{Along}
use Rattle.graph_laws.specs.MessageCounts.{message_messages_in}
use Rattle.graph_laws.specs.Consistency.{PositionFits, outgoing_at}
use Rattle.graph_laws.specs.Sending.{FactorKept, DirectionKept}
use Rattle.list_laws.specs.Part.{region}
use Rattle.list_laws.specs.Put.{put, put-part}
use Rattle.messages.specs.Layout.{cut, width, kind_code}
use Rattle.messages.specs.LayoutRows.{RowsRead, rows-read}
use Rattle.messages.specs.LayoutWords.{message_cut, message_put}
use Rattle.messages.specs.State.{PartRows}
use Rattle.opening.specs.OpenRows.{FactorRows, SomeFactorRows, FactorSettings, SendRoom}

-- ---- messages that are set to what they are

pub stays : (os : List ℕ) (f : ℕ → Message) (l : List Message) → ((i : ℕ) → i < length os → f (get_or os i 0) ≡ message_at (get_or os i 0) l) → set_messages os (map f os) l ≡ l
unfolding set_messages
stays [] f l h = refl
stays (o ∷ os) f l h =
    let e : set l o (f o) ≡ l = ap (set l o) (h 0 (omega arith)) ∙ set-get_or l o [] in
    ap (set_messages os (map f os)) e ∙ stays os f l (λ i q. h (suc i) (omega arith))

pub first-only : (os : List ℕ) (f : ℕ → Message) (l : List Message) → 0 < length os → ((i : ℕ) → 0 < i → i < length os → f (get_or os i 0) ≡ message_at (get_or os i 0) l)
    → ((i : ℕ) → 0 < i → i < length os → get_or os i 0 ≡ get_or os 0 0 → ⊥) → set_messages os (map f os) l ≡ set l (get_or os 0 0) (f (get_or os 0 0))
unfolding set_messages
first-only [] f l p h a = absurd (let z : ⊥ = omega arith in z)
first-only (o ∷ os) f l p h a =
    stays os f (set l o (f o)) (λ i q. h (suc i) (omega arith) (omega arith) ∙ sym (get_or-set_other l o (get_or os i 0) (f o) [] (a (suc i) (omega arith) (omega arith))))

-- ---- by the two kinds

-- to what is no input
pub record FactorOut (s : Settings) (t : MessageGraph) (x : MessageNode) (i l : ℕ) (hs : List Message) (m : Message) : Type 0 where
  pub is : m ≡ out_message_factor s l (message_at (1 - i) hs)
  pub few : l ≤ 129
  pub first_slot : i ≡ 0
  pub two-neighbours : 2 ≤ length x.outgoing
  pub input_there : x.first_incoming + 1 < length t.directions
  pub input_long : (direction_at t (x.first_incoming + 1)).message_length ≡ 2

abbrev Good : Message → Type 0
Good m = Unit {0}

module _ (s : Settings) (t : MessageGraph) (x : MessageNode) (i l : ℕ) (hs : List Message) (o : Message) where
  to-kept : (d : ℕ) → FactorKept Good t d i x → l ≡ d → FactorOut s t x i l hs (out_message_factor s d (message_at (1 - i) hs))
  to-kept d K e =
      record {
        is = ap (λ (n : ℕ). out_message_factor s n (message_at (1 - i) hs)) (sym e);
        few = (let z = K.few in omega arith);
        first_slot = K.first_slot;
        two-neighbours = K.two-neighbours;
        input_there = K.inside;
        input_long = K.input_long;
      }

  to_other : (k j : Kind) → kind_code k ≡ 1 → (kind_code j ≡ 2 → ⊥) → DirectionKept Good t k j i x → Along k j l → FactorOut s t x i l hs (out_message_by k s hs i j o)
  unfolding out_message_by out_message_factor_to
  to_other grade j c q K a = absurd (let z : ⊥ = omega arith in z)
  to_other (input e) j c q K a = absurd (let z : ⊥ = omega arith in z)
  to_other (tree d) j c q K a = absurd (let z : ⊥ = omega arith in z)
  to_other (factor d) grade c q K a = to-kept d K a
  to_other (factor d) (factor e) c q K a = to-kept d K a
  to_other (factor d) (input e) c q K a = absurd (q refl)
  to_other (factor d) (tree e) c q K a = to-kept d K a

  to_input : (k j : Kind) → kind_code k ≡ 1 → kind_code j ≡ 2 → out_message_by k s hs i j o ≡ o
  unfolding out_message_by out_message_factor_to
  to_input grade j c q = absurd (let z : ⊥ = omega arith in z)
  to_input (input e) j c q = absurd (let z : ⊥ = omega arith in z)
  to_input (tree d) j c q = absurd (let z : ⊥ = omega arith in z)
  to_input (factor d) grade c q = absurd (let z : ⊥ = omega arith in z)
  to_input (factor d) (factor e) c q = absurd (let z : ⊥ = omega arith in z)
  to_input (factor d) (input e) c q = refl
  to_input (factor d) (tree e) c q = absurd (let z : ⊥ = omega arith in z)

by-settings : (s : Settings) (d : ℕ) (m : Message) → out_message_factor (given s.alpha s.beta s.regularised) d m ≡ out_message_factor s d m
unfolding out_message_factor
by-settings s d m = rw (table_given s d)

-- ---- in rows

module _ (s : Settings) (t : MessageGraph) (kinds firsts starts outs offsets labels : List ℕ) (evidence row : List Float) (P : PartRows s t kinds firsts starts outs offsets labels evidence) (e : length row ≡ width t.directions)
    (n : ℕ) (h : n < length t.nodes) (c : kind_code (node_at t n).kind ≡ 1) where
  Q : RowsRead t kinds firsts starts outs offsets
  Q = rows-read P.subgraph t P.consistent P.in_order kinds firsts starts outs offsets P.rows

  abbrev x : MessageNode
  x = node_at t n

  abbrev ms : List Message
  ms = cut t.directions row

  abbrev end' : ℕ → Kind
  end' i = (node_at t (direction_at t (outgoing_at t n i)).end).kind

  fits : (i : ℕ) → i < length x.outgoing → PositionFits P.subgraph t n i
  fits i q = let l : n < length P.subgraph.nodes = omega (arith, P.consistent.nodes) in P.consistent.position n i l (omega (arith, (P.consistent.node n l).outgoing))

  -- what goes along position i's direction
  out-is : (i : ℕ) → i < length x.outgoing → out_message s t ms (outgoing_at t n i) ≡ out_message_by x.kind s (messages_in x ms) i (end' i) (message_at (outgoing_at t n i) ms)
  unfolding out_message
  out-is i q =
      let F : PositionFits P.subgraph t n i = fits i q in
      ap (λ (m : ℕ). out_message_by (node_at t m).kind s (messages_in (node_at t m) ms) (direction_at t (outgoing_at t n i)).end_in_start (end' i) (message_at (outgoing_at t n i) ms)) F.out-start
      ∙ ap (λ (j : ℕ). out_message_by x.kind s (messages_in x ms) j (end' i) (message_at (outgoing_at t n i) ms)) F.out_end_in_start

  kept_at : (i : ℕ) → i < length x.outgoing → DirectionKept Good t x.kind (end' i) i x
  kept_at i q = let F : PositionFits P.subgraph t n i = fits i q in rw (F.out-start, F.out_end_in_start) at (P.kept.directions (outgoing_at t n i) F.out-there)

  along_at : (i : ℕ) → i < length x.outgoing → Along x.kind (end' i) (direction_at t (outgoing_at t n i)).message_length
  along_at i q = let F : PositionFits P.subgraph t n i = fits i q in rw F.out-start at (P.kept.sound.along (outgoing_at t n i) F.out-there)

  other_out : (i : ℕ) → i < length x.outgoing → (kind_code (end' i) ≡ 2 → ⊥)
      → FactorOut s t x i (direction_at t (outgoing_at t n i)).message_length (messages_in x ms) (out_message_by x.kind s (messages_in x ms) i (end' i) (message_at (outgoing_at t n i) ms))
  other_out i q u = to_other s t x i (direction_at t (outgoing_at t n i)).message_length (messages_in x ms) (message_at (outgoing_at t n i) ms) x.kind (end' i) c u (kept_at i q) (along_at i q)

  -- to an input nothing new is sent
  same_at : (i : ℕ) → i < length x.outgoing → kind_code (end' i) ≡ 2 → out_message s t ms (outgoing_at t n i) ≡ message_at (outgoing_at t n i) ms
  same_at i q u = out-is i q ∙ to_input s t x i (direction_at t (outgoing_at t n i)).message_length (messages_in x ms) (message_at (outgoing_at t n i) ms) x.kind (end' i) c u

  -- and all but the first are inputs
  rest_at : (i : ℕ) → 0 < i → i < length x.outgoing → out_message s t ms (outgoing_at t n i) ≡ message_at (outgoing_at t n i) ms
  rest_at i p q =
      same_at i q (by_cases (ℕ_discrete (kind_code (end' i)) 2) (λ (u : kind_code (end' i) ≡ 2). u) (λ u. absurd (let z : ⊥ = omega (arith, (other_out i q u).first_slot) in z)))

  -- the first neighbour, by the first direction that ends here
  pub first_kind : 0 < length x.outgoing → get_or kinds (get_or starts (get_or firsts n 0) 0) 0 ≡ kind_code (end' 0)
  first_kind p =
      let F : PositionFits P.subgraph t n 0 = fits 0 p in
      let d : get_or firsts n 0 < length t.directions = omega (arith, F.in_there, Q.first n h) in
      let a : get_or starts (get_or firsts n 0) 0 ≡ (direction_at t (outgoing_at t n 0)).end =
      Q.start (get_or firsts n 0) d ∙ ap (λ (k : ℕ). (direction_at t k).start) (let z : get_or firsts n 0 ≡ (node_at t n).first_incoming + 0 = omega (arith, Q.first n h) in z) ∙ sym F.reversed.end in
      ap (λ (k : ℕ). get_or kinds k 0) a ∙ Q.kind (direction_at t (outgoing_at t n 0)).end (omega (arith, a, Q.start-lt (get_or firsts n 0) d))

  pub factor_input : 0 < length x.outgoing → get_or kinds (get_or starts (get_or firsts n 0) 0) 0 ≡ 2 → ms ≡ set_messages x.outgoing (opening_factor s t x ms) ms
  unfolding opening_factor
  factor_input p k =
      sym (stays x.outgoing (out_message s t ms) ms
      (λ i q. by_cases (ℕ_discrete i 0) (λ (u : i ≡ 0). rw u (same_at 0 p (sym (first_kind p) ∙ k))) (λ u. rest_at i (omega arith) q)))

  -- one message is sent
  module _ (p : 0 < length x.outgoing) (k : get_or kinds (get_or starts (get_or firsts n 0) 0) 0 ≡ 2 → ⊥) where
    abbrev o : ℕ
    o = get_or outs (get_or firsts n 0) 0

    o_is : get_or x.outgoing 0 0 ≡ o
    o_is = sym (Q.out n 0 h p) ∙ ap (λ (m : ℕ). get_or outs m 0) (let z : get_or firsts n 0 + 0 ≡ get_or firsts n 0 = omega arith in z)

    first_out : FactorOut s t x 0 (direction_at t (outgoing_at t n 0)).message_length (messages_in x ms) (out_message_by x.kind s (messages_in x ms) 0 (end' 0) (message_at (outgoing_at t n 0) ms))
    first_out = other_out 0 p (λ u. k (first_kind p ∙ u))

    o-there : o < length t.directions
    o-there = let F : PositionFits P.subgraph t n 0 = fits 0 p in omega (arith, F.out-there, o_is)

    abbrev len : ℕ
    len = get_or offsets (o + 1) 0 - get_or offsets o 0

    len_is : len ≡ (direction_at t o).message_length
    len_is = omega (arith, Q.offset-next o o-there)

    first-is : get_or firsts n 0 + 1 ≡ x.first_incoming + 1
    first-is = omega (arith, Q.first n h)

    -- what the code's ranges need
    pub factor_few : get_or offsets (get_or outs (get_or firsts n 0) 0 + 1) 0 - get_or offsets (get_or outs (get_or firsts n 0) 0) 0 ≤ 129
    factor_few = omega (arith, len_is, ap (λ (m : ℕ). (direction_at t m).message_length) o_is, first_out.few)

    pub factor-two : get_or firsts n 0 + 1 < length t.directions
    factor-two = omega (arith, first-is, first_out.input_there)

    input_is : region row (get_or offsets (get_or firsts n 0 + 1) 0) 2 ≡ message_at 1 (messages_in x ms)
    input_is =
        let d = get_or firsts n 0 + 1 in
        let l : 2 ≡ get_or offsets (d + 1) 0 - get_or offsets d 0 = omega (arith, Q.offset-next d factor-two, ap (λ (m : ℕ). (direction_at t m).message_length) first-is, first_out.input_long) in
        ap (region row (get_or offsets d 0)) l ∙ sym (message_cut t kinds firsts starts outs offsets Q d factor-two row) ∙ ap (λ (m : ℕ). message_at m ms) first-is
        ∙ sym (message_messages_in x ms 1 (omega (arith, first_out.two-neighbours)))

    pub factor-sends : (row' : List Float) → row' ≡ put row (get_or offsets (get_or outs (get_or firsts n 0) 0) 0)
        (out_message_factor (given s.alpha s.beta s.regularised) (get_or offsets (get_or outs (get_or firsts n 0) 0 + 1) 0 - get_or offsets (get_or outs (get_or firsts n 0) 0) 0) (region row (get_or offsets (get_or firsts n 0 + 1) 0) 2))
        → cut t.directions row' ≡ set_messages x.outgoing (opening_factor s t x ms) ms
    unfolding opening_factor
    factor-sends row' r =
        let v = out_message_factor (given s.alpha s.beta s.regularised) len (region row (get_or offsets (get_or firsts n 0 + 1) 0) 2) in
        let b : v ≡ out_message s t ms (get_or x.outgoing 0 0) =
        ap (out_message_factor (given s.alpha s.beta s.regularised) len) input_is
        ∙ by-settings s len (message_at 1 (messages_in x ms))
        ∙ ap (λ (d : ℕ). out_message_factor s d (message_at 1 (messages_in x ms))) (len_is ∙ ap (λ (m : ℕ). (direction_at t m).message_length) (sym o_is))
        ∙ sym first_out.is
        ∙ sym (out-is 0 p) in
        ap (cut t.directions) r
        ∙ message_put t kinds firsts starts outs offsets Q o o-there row v e (length-out_message_factor (given s.alpha s.beta s.regularised) len (region row (get_or offsets (get_or firsts n 0 + 1) 0) 2) ∙ len_is)
        ∙ ap (set ms o) b
        ∙ ap (λ (m : ℕ). set ms m (out_message s t ms (get_or x.outgoing 0 0))) (sym o_is)
        ∙ sym (first-only x.outgoing (out_message s t ms) ms p rest_at (λ i a q z. let y : i ≡ 0 = sym (fits i q).out_end_in_start ∙ ap (λ (m : ℕ). (direction_at t m).end_in_start) z ∙ (fits 0 p).out_end_in_start in omega arith))

-- ---- in the code's words

module _ (s : Settings) (t : MessageGraph) (kinds firsts starts outs offsets : List ℕ) (row : List Float) (R : FactorRows s t kinds firsts starts outs offsets row) (n : ℕ) (h : n < length t.nodes) (c : kind_code (node_at t n).kind ≡ 1) where
  abbrev P' : PartRows s t kinds firsts starts outs offsets R.labels R.evidence
  P' = R.part

  Q' : RowsRead t kinds firsts starts outs offsets
  Q' = rows-read P'.subgraph t P'.consistent P'.in_order kinds firsts starts outs offsets P'.rows

  pub opened_input : get_or firsts n 0 < get_or firsts (n + 1) 0 → get_or kinds (get_or starts (get_or firsts n 0) 0) 0 ≡ 2 → cut t.directions row ≡ set_messages (node_at t n).outgoing (opening_factor s t (node_at t n) (cut t.directions row)) (cut t.directions row)
  opened_input q k = factor_input s t kinds firsts starts outs offsets R.labels R.evidence row P' R.long n h c (omega (arith, Q'.degree n h)) k

  pub opened_sends : get_or firsts n 0 < get_or firsts (n + 1) 0 → (get_or kinds (get_or starts (get_or firsts n 0) 0) 0 ≡ 2 → ⊥) → (alpha beta : Float) (regularised : Bool) → FactorSettings s alpha beta regularised → (row' : List Float)
      → row' ≡ put row (get_or offsets (get_or outs (get_or firsts n 0) 0) 0)
      (out_message_factor (given alpha beta regularised) (get_or offsets (get_or outs (get_or firsts n 0) 0 + 1) 0 - get_or offsets (get_or outs (get_or firsts n 0) 0) 0) (region row (get_or offsets (get_or firsts n 0 + 1) 0) 2))
      → cut t.directions row' ≡ set_messages (node_at t n).outgoing (opening_factor s t (node_at t n) (cut t.directions row)) (cut t.directions row)
  opened_sends q k alpha beta regularised F row' r =
      factor-sends s t kinds firsts starts outs offsets R.labels R.evidence row P' R.long n h c (omega (arith, Q'.degree n h)) k row'
      (r ∙ ap (λ (g : Settings). put row at (out_message_factor g len m)) (ap (λ (a : Float). given a beta regularised) (sym F.alpha_is) ∙ ap (λ (a : Float). given s.alpha a regularised) (sym F.beta_is) ∙ ap (λ (a : Bool). given s.alpha s.beta a) (sym F.regularised_is)))
    where
      at : ℕ
      at = get_or offsets (get_or outs (get_or firsts n 0) 0) 0

      len : ℕ
      len = get_or offsets (get_or outs (get_or firsts n 0) 0 + 1) 0 - get_or offsets (get_or outs (get_or firsts n 0) 0) 0

      m : Message
      m = region row (get_or offsets (get_or firsts n 0 + 1) 0) 2

  room' : get_or firsts n 0 < get_or firsts (n + 1) 0 → (get_or kinds (get_or starts (get_or firsts n 0) 0) 0 ≡ 2 → ⊥) → SendRoom offsets row (get_or outs (get_or firsts n 0) 0) (get_or firsts n 0 + 1)
  room' q k =
      let f = get_or firsts n 0 in
      let o = get_or outs f 0 in
      let p : 0 < length (node_at t n).outgoing = omega (arith, Q'.degree n h) in
      let a : f < length t.directions = omega (arith, Q'.first-le (n + 1) (omega arith)) in
      let b : o < length t.directions = Q'.out-lt f a in
      let d : f + 1 < length t.directions = factor-two s t kinds firsts starts outs offsets R.labels R.evidence row P' R.long n h c p k in
      record {
        out-there = omega (arith, Q'.offsets_long);
        in_there = omega (arith, Q'.offsets_long);
        ordered = omega (arith, Q'.offset-next o b);
        inside = omega (arith, Q'.offset-le (o + 1) (omega arith), R.long);
        few = factor_few s t kinds firsts starts outs offsets R.labels R.evidence row P' R.long n h c p k;
        two = omega (arith, Q'.offset_room (f + 1) d, P'.kept.sound.wide (f + 1) d, R.long);
      }

-- what the code's reads need
pub record FactorRoom (kinds firsts starts outs offsets : List ℕ) (row : List Float) (n : ℕ) : Type 0 where
  pub node : n + 1 < length firsts
  pub start : get_or firsts n 0 < get_or firsts (n + 1) 0 → get_or firsts n 0 < length starts
  pub kind : get_or firsts n 0 < get_or firsts (n + 1) 0 → get_or starts (get_or firsts n 0) 0 < length kinds
  pub out : get_or firsts n 0 < get_or firsts (n + 1) 0 → get_or firsts n 0 < length outs
  pub send : get_or firsts n 0 < get_or firsts (n + 1) 0 → (get_or kinds (get_or starts (get_or firsts n 0) 0) 0 ≡ 2 → ⊥) → SendRoom offsets row (get_or outs (get_or firsts n 0) 0) (get_or firsts n 0 + 1)

pub factor_room : (kinds firsts starts outs offsets : List ℕ) (row : List Float) (n : ℕ) → SomeFactorRows kinds firsts starts outs offsets row n → FactorRoom kinds firsts starts outs offsets row n
factor_room kinds firsts starts outs offsets row n S =
    let t = S.graph in
    let R = S.rows in
    let h : n < length t.nodes = S.there in
    let Q'' : RowsRead t kinds firsts starts outs offsets = Q' S.settings t kinds firsts starts outs offsets row R n h S.is-factor in
    let below : get_or firsts n 0 < get_or firsts (n + 1) 0 → get_or firsts n 0 < length t.directions = λ q. omega (arith, Q''.first-le (n + 1) (omega arith)) in
    record {
      node = omega (arith, Q''.firsts-long);
      start = (λ q. omega (arith, below q, Q''.starts_long));
      kind = (λ q. omega (arith, Q''.start-lt (get_or firsts n 0) (below q), Q''.kinds-long));
      out = (λ q. omega (arith, below q, Q''.outs_long));
      send = room' S.settings t kinds firsts starts outs offsets row R n h S.is-factor;
    }

pub kind-read : (kinds starts : List ℕ) (a b k f : ℕ) → a ≡ f → b ≡ get_or starts a 0 → k ≡ get_or kinds b 0 → k ≡ get_or kinds (get_or starts f 0) 0
kind-read kinds starts a b k f u v w = w ∙ ap (λ (i : ℕ). get_or kinds i 0) (v ∙ ap (λ (i : ℕ). get_or starts i 0) u)

pub factor-put : (row m : List Float) (g : Settings) (v : Message) (from to at f' t' a' : ℕ) → from ≡ f' → to ≡ t' → at ≡ a' → v ≡ region row at 2 → m ≡ out_message_factor g (to - from) v
    → take from row ++ (m ++ drop (to - from) (drop from row)) ≡ put row f' (out_message_factor g (t' - f') (region row a' 2))
factor-put row m g v from to at f' t' a' p q r u e =
    put-part row m from (to - from) (ap length e ∙ length-out_message_factor g (to - from) v)
    ∙ ap (put row from) (e ∙ ap (out_message_factor g (to - from)) (u ∙ ap (λ (i : ℕ). region row i 2) r))
    ∙ ap (λ (i : ℕ). put row i (out_message_factor g (to - i) (region row a' 2))) p
    ∙ ap (λ (i : ℕ). put row f' (out_message_factor g (i - f') (region row a' 2))) q
