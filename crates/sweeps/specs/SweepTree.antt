-- What a tree's part of a sweep copies in words is what the definition's tree sends, and that it fits.
use Rattle.std.specs.Prelude.{ℕ, ◌+◌, ◌-◌, ◌≤◌, ◌<◌, ◌≡◌, Bool, Float, length, get_or}
use Rattle.std.proofs.Common.{arith, sym, ◌∙◌}
use Rattle.std.proofs.Math.Path.{ap}
use Rattle.std.proofs.Math.Bool.{true, false}
use Rattle.std.proofs.Math.Option.{some}
use mathlib.Core.List.{List, [], ◌++◌, map}
use Rattle.definition.specs.Vectors.{Message}
use Rattle.definition.specs.Settings.{Settings}
use Rattle.definition.specs.FactorGraph.{is_tree}
use Rattle.definition.specs.Directions.{MessageNode, MessageGraph, node_at, message_at, messages_in}
use Rattle.definition.specs.Messages.{out_message, LastBuild, Outgoing, needs_rebuild, tree_out_messages, out_messages, out_messages_tree}
use Rattle.graph_laws.specs.DirectionNumbers.{get_d_mapped}
use Rattle.list_laws.specs.Part.{region}
use Rattle.messages.specs.Layout.{cut, width}
use Rattle.messages.specs.LayoutOffsets.{offset_at, offset_mono, offset_room}
use Rattle.messages.specs.LayoutCut.{cut-long}
use Rattle.messages.specs.LayoutPuts.{puts_ext}
use Rattle.messages.specs.LayoutRows.{RowsRead}
use Rattle.messages.specs.LayoutWords.{sends-there, sends-at, message_cut}
use Rattle.messages.specs.LayoutWrite.{sent}
use Rattle.messages.specs.State.{PartRows}
use Rattle.sweeps.specs.Sweep.{place_of}
use Rattle.sweeps.specs.SweepCopies.{Directed, Scattering, kept_sent, out_at, out_long}
use Rattle.sweeps.specs.SweepRows.{puts_middle, region-front, read-rows}

-- ---- the definition's tree, by whether it is built anew
module _ (s : Settings) (t : MessageGraph) (ms : List Message) (x : MessageNode) (b : LastBuild) (e : is_tree x.kind ≡ true) where
  pub of_tree_lem : out_messages s t ms x b ≡ out_messages_tree s ms x b
  unfolding out_messages
  of_tree_lem =
      ap (λ (c : Bool). elim c as (λ (z : Bool). Outgoing) [ true ↦ out_messages_tree s ms x b | false ↦ record { messages = map (out_message s t ms) x.outgoing; last_build = b } ]) e

  by-test : (c : Bool) → needs_rebuild s.tolerance (messages_in x ms) b ≡ c → out_messages s t ms x b ≡ elim c as (λ (z : Bool). Outgoing) [
    | true ↦ record { messages = tree_out_messages (messages_in x ms); last_build = some (messages_in x ms) }
    | false ↦ record { messages = map (λ (o : ℕ). message_at o ms) x.outgoing; last_build = b }
  ]
  unfolding out_messages_tree
  by-test c f =
      of_tree_lem
      ∙ ap (λ (d : Bool). elim d as (λ (z : Bool). Outgoing) [ true ↦ record { messages = tree_out_messages (messages_in x ms); last_build = some (messages_in x ms) } | false ↦ record { messages = map (λ (o : ℕ). message_at o ms) x.outgoing; last_build = b } ]) f

  pub tree-kept : needs_rebuild s.tolerance (messages_in x ms) b ≡ false → out_messages s t ms x b ≡ record { messages = map (λ (o : ℕ). message_at o ms) x.outgoing; last_build = b }
  tree-kept f = by-test false f

  pub tree_rebuilt : needs_rebuild s.tolerance (messages_in x ms) b ≡ true → out_messages s t ms x b ≡ record { messages = tree_out_messages (messages_in x ms); last_build = some (messages_in x ms) }
  tree_rebuilt f = by-test true f

module _ (s : Settings) (t : MessageGraph) (kinds firsts starts outs offsets labels : List ℕ) (evidence : List Float) (P : PartRows s t kinds firsts starts outs offsets labels evidence) (n : ℕ) (h : n < length t.nodes) where
  abbrev x : MessageNode
  x = node_at t n

  abbrev k : ℕ
  k = length (node_at t n).outgoing

  abbrev f : ℕ
  f = get_or firsts n 0

  R : RowsRead t kinds firsts starts outs offsets
  R = read-rows s t kinds firsts starts outs offsets labels evidence P

  all_in : f + k ≤ length t.directions
  all_in = omega (arith, R.first n h, R.next n h, R.first-le (n + 1) (omega arith))

  pub directed : (room : ℕ) → width t.directions + width t.directions ≤ room → Directed outs offsets (width t.directions) f k room
  directed room g =
      record {
        listed = omega (arith, all_in, R.outs_long);
        there = (λ i q. omega (arith, R.out-lt (f + i) (omega (arith, all_in)), R.offsets_long));
        order = (λ i q. let d = get_or outs (f + i) 0 in omega (arith, R.offset-next d (R.out-lt (f + i) (omega (arith, all_in)))));
        fits = (λ i q. let l = R.out-lt (f + i) (omega (arith, all_in)) in let d = get_or outs (f + i) 0 in omega (arith, R.offset-next d l, R.offset_room d l));
        roomy = g;
      }

  mono : (a b : ℕ) → a ≤ b → b ≤ length t.directions → get_or offsets a 0 ≤ get_or offsets b 0
  mono a b q r = omega (arith, R.offset a, R.offset b, offset_mono t.directions a b q r)

  pub scattering : (base room : ℕ) → width t.directions + width t.directions ≤ base → base + (get_or offsets (f + k) 0 - get_or offsets f 0) ≤ room → Scattering outs offsets (width t.directions) f k base room
  scattering base room g r =
      record {
        listed = omega (arith, all_in, R.outs_long);
        offsets_long = omega (arith, all_in, R.offsets_long);
        there = (λ i q. omega (arith, R.out-lt (f + i) (omega (arith, all_in)), R.offsets_long));
        above = (λ i q. mono f (f + i) (omega arith) (omega (arith, all_in)));
        order = (λ i q. mono (f + i) (f + i + 1) (omega arith) (omega (arith, all_in)));
        fits = (λ i q.
            let l : f + i < length t.directions = omega (arith, all_in) in
            let d = get_or outs (f + i) 0 in
            omega (arith, R.offset-next (f + i) l, R.out-length (f + i) l, R.offset_room d (R.out-lt (f + i) l)));
        behind = g;
        room_there = (λ i q. omega (arith, mono (f + i + 1) (f + k) (omega arith) all_in));
      }

  -- ---- a tree that is not built anew sends what is in force
  module _ (r_in r_new rest : List Float) (ein : length r_in ≡ width t.directions) (enew : length r_new ≡ width t.directions) where
    abbrev ms : List Message
    ms = cut t.directions r_in

    pub kept_row : kept_sent outs offsets (width t.directions) f (r_in ++ (r_new ++ rest)) k ≡ r_in ++ (sent t.directions x.outgoing (map (λ (o : ℕ). message_at o ms) x.outgoing) r_new k ++ rest)
    kept_row =
        let m = map (λ (o : ℕ). message_at o ms) x.outgoing in
        let at : (i : ℕ) → i < k → message_at i m ≡ message_at (get_or x.outgoing i 0) ms = λ i q. get_d_mapped (λ (o : ℕ). message_at o ms) x.outgoing i 0 [] q in
        puts_ext (r_in ++ (r_new ++ rest)) (place_of outs offsets (width t.directions) f) (λ i. length r_in + offset_at t.directions (get_or x.outgoing i 0))
        (λ i. region (r_in ++ (r_new ++ rest)) (out_at outs offsets f i) (out_long outs offsets f i)) (λ i. message_at i m) k
        (λ i q. omega (arith, ein, sends-at t kinds firsts starts outs offsets R n h i q))
        (λ i q.
        let d = get_or outs (f + i) 0 in
        let l = R.out-lt (f + i) (omega (arith, all_in)) in
        region-front r_in (r_new ++ rest) (out_at outs offsets f i) (out_long outs offsets f i) (omega (arith, ein, R.offset-next d l, R.offset_room d l))
        ∙ sym (message_cut t kinds firsts starts outs offsets R d l r_in)
        ∙ ap (λ (j : ℕ). message_at j ms) (R.out n i h q)
        ∙ sym (at i q))
        ∙ puts_middle r_in r_new rest (λ i. offset_at t.directions (get_or x.outgoing i 0)) (λ i. message_at i m) k
        (λ i q.
        let l = sends-there t kinds firsts starts outs offsets R n h i q in
        omega (arith, ap length (at i q), cut-long t.directions r_in (get_or x.outgoing i 0) ein l, offset_room t.directions (get_or x.outgoing i 0) l))
