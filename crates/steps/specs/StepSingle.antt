-- One message written at a direction, into the messages in force and into the new ones.
use Rattle.std.specs.Prelude.{ℕ, ◌+◌, ◌-◌, ◌/◌, ◌≤◌, ◌<◌, ◌≡◌, List, Float}
use Rattle.std.proofs.Common.{arith, sym, ap, ◌∙◌, inl}
use Rattle.std.specs.Float.{nan}
use lib.ListN.{length, get_or}
use Rattle.definition.specs.Directions.{messages_in, node_at}
use Rattle.list_laws.specs.Part.{region}
use Rattle.list_laws.specs.Put.{put, put-region, length-put, region-all}
use Rattle.messages.specs.Layout.{cut, width}
use Rattle.messages.specs.LayoutOffsets.{TwoLong}
use Rattle.messages.specs.LayoutWords.{held-pairs}
use Rattle.messages.specs.Pairs.{pairs}
use Rattle.messages.specs.State.{FloatRows, part_floats}
use Rattle.steps.specs.StepFloats.{Apart, in_put, new-put, in_read}
use Rattle.steps.specs.StepLog.{NodeIn, Along, PartAt, total, total-is, node_in}

-- m at direction d, in force and new
abbrev pub both : List Float → List ℕ → ℕ → List Float → List Float
both w offsets d m = put (put w (get_or offsets d 0) m) (total offsets + get_or offsets d 0) m

-- node n holds messages of two, one at position i, and at most 1,024 of them
pub record Holder (firsts offsets : List ℕ) (n i : ℕ) : Type 0 where
  pub node : NodeIn firsts offsets n
  pub position : i < (get_or offsets (get_or firsts (n + 1) 0) 0 - get_or offsets (get_or firsts n 0) 0) / 2
  pub few : (get_or offsets (get_or firsts (n + 1) 0) 0 - get_or offsets (get_or firsts n 0) 0) / 2 ≤ 1024

-- a factor's message has as many entries as its degree says
pub record Sender (offsets : List ℕ) (d : ℕ) : Type 0 where
  pub degree : get_or offsets (d + 1) 0 - get_or offsets d 0 ≤ 129

-- the same range of the messages in force and of the new ones
pub along_apart : (offsets : List ℕ) (w : List Float) (d : ℕ) → Along offsets w d
    → Apart (get_or offsets d 0) (get_or offsets (length offsets - 1) 0 + get_or offsets d 0) (get_or offsets (d + 1) 0 - get_or offsets d 0) (length w)
along_apart offsets w d D =
    let o = get_or offsets d 0 in
    let n = get_or offsets (d + 1) 0 - o in
    let L = get_or offsets (length offsets - 1) 0 in
    record {
      from_in = omega (arith, D.two, D.ends, D.rows);
      to_in = omega (arith, D.two, D.ends, D.rows);
      apart = inl (let z : o + n ≤ L + o = omega (arith, D.two, D.ends) in z);
    }

-- what is there already, copied to the new ones
pub keep_both : (offsets : List ℕ) (w : List Float) (d : ℕ) → Along offsets w d
    → put w (get_or offsets (length offsets - 1) 0 + get_or offsets d 0) (region w (get_or offsets d 0) (get_or offsets (d + 1) 0 - get_or offsets d 0)) ≡ both w offsets d (region w (get_or offsets d 0) (get_or offsets (d + 1) 0 - get_or offsets d 0))
keep_both offsets w d D =
    let o = get_or offsets d 0 in
    let n = get_or offsets (d + 1) 0 - o in
    ap (λ (v : List Float). put v (get_or offsets (length offsets - 1) 0 + o) (region w o n)) (put-region nan w o n (along_apart offsets w d D).from_in)

-- a message that was computed in place, copied to the new ones
pub computed_both : (offsets : List ℕ) (w v m : List Float) (d : ℕ) → Along offsets w d → length m ≡ get_or offsets (d + 1) 0 - get_or offsets d 0 → v ≡ put w (get_or offsets d 0) m
    → put v (get_or offsets (length offsets - 1) 0 + get_or offsets d 0) (region v (get_or offsets d 0) (get_or offsets (d + 1) 0 - get_or offsets d 0)) ≡ both w offsets d m
computed_both offsets w v m d D l e =
    let o = get_or offsets d 0 in
    let n = get_or offsets (d + 1) 0 - o in
    let L = get_or offsets (length offsets - 1) 0 in
    let r : region v o n ≡ m =
    ap (λ (x : List Float). region x o n) e ∙ ap (λ (i : ℕ). region (put w o m) o i) (sym l) ∙ region-all nan w o m (omega (arith, (along_apart offsets w d D).from_in)) in
    ap (put v (L + o)) r ∙ ap (λ (x : List Float). put x (L + o) m) e

-- ---- for a component
module _ (firsts starts offsets : List ℕ) (w : List Float) (p : PartAt firsts starts offsets w) (d : ℕ) (D : Along offsets w d) (m : List Float) (long : length m ≡ get_or offsets (d + 1) 0 - get_or offsets d 0) where
  abbrev o : ℕ
  o = get_or offsets d 0

  abbrev ds : List Rattle.definition.specs.Directions.Direction
  ds = p.words.graph.directions

  room : o + length m ≤ width ds
  room = omega (arith, D.two, D.ends, total-is firsts starts offsets p.words)

  -- the two rows
  pub both-rows : both w offsets d m ≡ part_floats (put p.r_in (get_or offsets d 0) m) (put p.r_new (get_or offsets d 0) m) p.r_log p.r_build p.pending p.rest
  both-rows =
      let t = p.words.graph in
      let F = p.floats in
      let l : length (put p.r_in o m) ≡ width ds = length-put p.r_in o m (omega (arith, F.in_long, room)) ∙ F.in_long in
      let F' : FloatRows t (put p.r_in o m) p.r_new p.r_log p.r_build p.pending p.rest =
      record { in_long = l; new-long = F.new-long; log_long = F.log_long; build-long = F.build-long; pending_long = F.pending_long; room = F.room; zeros = F.zeros } in
      ap (λ (i : ℕ). put (put w o m) (i + o) m) (total-is firsts starts offsets p.words)
      ∙ ap (λ (v : List Float). put (put v o m) (width ds + o) m) p.is
      ∙ ap (λ (v : List Float). put v (width ds + o) m) (in_put t p.r_in p.r_new p.r_log p.r_build p.pending p.rest F o m room)
      ∙ new-put t (put p.r_in o m) p.r_new p.r_log p.r_build p.pending p.rest F' o m room

-- the messages that a variable holds
pub held_in_lem : (firsts starts offsets : List ℕ) (w : List Float) (p : PartAt firsts starts offsets w) (n : ℕ) → n + 1 < length firsts
    → TwoLong p.words.graph.directions (node_at p.words.graph n).first_incoming (length (node_at p.words.graph n).outgoing)
    → pairs (region w (get_or offsets (get_or firsts n 0) 0) (get_or offsets (get_or firsts (n + 1) 0) 0 - get_or offsets (get_or firsts n 0) 0)) ≡ messages_in (node_at p.words.graph n) (cut p.words.graph.directions p.r_in)
held_in_lem firsts starts offsets w p n h two =
    let t = p.words.graph in
    let I = node_in firsts starts offsets p.words n h in
    let o = get_or offsets (get_or firsts n 0) 0 in
    let s = get_or offsets (get_or firsts (n + 1) 0) 0 - o in
    ap pairs (ap (λ (v : List Float). region v o s) p.is ∙ in_read t p.r_in p.r_new p.r_log p.r_build p.pending p.rest p.floats o s (omega (arith, I.in_turn, I.ends, total-is firsts starts offsets p.words)))
    ∙ sym (held-pairs t p.words.kinds firsts starts p.words.outs offsets p.words.read n (omega (arith, p.words.read.firsts-long)) p.r_in p.floats.in_long two)
