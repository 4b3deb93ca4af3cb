-- From a component's rows to what the pieces of a step ask, and the one message that a step computes by its sender's kind.
use Rattle.std.specs.Prelude.{ℕ, zero, suc, ◌+◌, ◌-◌, ◌*◌, ◌/◌, ◌≤◌, ◌<◌, false, List, map, Float, length, get_or}
use native.Mathlib.Omega.{arith}
use Rattle.std.proofs.Math.Path.{◌≡◌, refl, ap}
use Rattle.std.proofs.Common.{sym, ◌∙◌, ext_get_or}
use Rattle.std.specs.Float.{nan}
use Rattle.definition.specs.Settings.{Settings}
use Rattle.definition.specs.Floats.{◌⊕◌, ◌⊗◌, clamp}
use Rattle.definition.specs.Vectors.{Message, entry, binary, normalize}
use Rattle.definition.specs.NoisyOr.{CpdRow}
use Rattle.definition.specs.FactorGraph.{Kind, grade, factor, input, tree, Evidence, is_input}
use Rattle.definition.specs.Directions.{MessageGraph, node_at, direction_at, message_at, messages_in}
use Rattle.definition.specs.Messages.{initial_belief, out_message_variable, out_message_factor, out_message_factor_to, out_message_by, out_message}
use Rattle.list_laws.specs.Part.{region, get_d_region, length-region}
use Rattle.node.specs.Rows.{given, table_given}
use Rattle.messages.specs.Layout.{cut}
use Rattle.messages.specs.LayoutRows.{rows-read}
use Rattle.messages.specs.LayoutWords.{message_cut}
use Rattle.messages.specs.State.{PartRows, FloatRows, part_floats}
use Rattle.steps.specs.StepFloats.{floats_long, in_read}
use Rattle.steps.specs.StepPending.{Rows}
use Rattle.steps.specs.StepLog.{words_of, PartAt, Along, total-is, node_in}
use Rattle.steps.specs.StepSingle.{Holder, Sender}
use Rattle.messages.specs.LayoutOffsets.{offset_at, offset-two, TwoLong}

module _ (s : Settings) (t : MessageGraph) (kinds firsts starts outs offsets labels : List ℕ) (evidence : List Float) (P : PartRows s t kinds firsts starts outs offsets labels evidence) where
  -- what `add_residual` asks
  abbrev pub rows_of : Rows firsts starts outs
  rows_of = record { graph = t; kinds = kinds; offsets = offsets; read = rows-read P.subgraph t P.consistent P.in_order kinds firsts starts outs offsets P.rows }

  module _ (w r_in r_new r_log r_build pending rest : List Float) (F : FloatRows t r_in r_new r_log r_build pending rest) (e : w ≡ part_floats r_in r_new r_log r_build pending rest) where
    -- what `update_log` and `copy_neighbours` ask
    abbrev pub part_at : PartAt firsts starts offsets w
    part_at =
        record {
          words = words_of s t kinds firsts starts outs offsets labels evidence P;
          r_in = r_in;
          r_new = r_new;
          r_log = r_log;
          r_build = r_build;
          pending = pending;
          rest = rest;
          floats = F;
          is = e;
        }

    -- what `residual_at` and the single messages ask
    pub along_of : (d : ℕ) → d < length t.directions → Along offsets w d
    along_of d h =
        let Q = rows-read P.subgraph t P.consistent P.in_order kinds firsts starts outs offsets P.rows in
        let T = total-is firsts starts offsets (words_of s t kinds firsts starts outs offsets labels evidence P) in
        record {
          there = omega (arith, Q.offsets_long);
          two = omega (arith, Q.offset-next d h, P.kept.sound.wide d h);
          ends = omega (arith, Q.offset-le (d + 1) (omega arith));
          rows = omega (arith, ap length e, floats_long t r_in r_new r_log r_build pending rest F);
        }

-- ---- the message of a step, by the kinds of its two ends
module _ (s : Settings) (t : MessageGraph) (ms : List Message) (d : ℕ) where
  abbrev start : ℕ
  start = (direction_at t d).start

  abbrev by : Kind → Kind → Message
  by k l = out_message_by k s (messages_in (node_at t start) ms) (direction_at t d).end_in_start l (message_at d ms)

  pub out-grade : (node_at t (direction_at t d).start).kind ≡ grade → out_message s t ms d ≡ out_message_variable (initial_belief s grade) (messages_in (node_at t (direction_at t d).start) ms) (direction_at t d).end_in_start
  unfolding out_message out_message_by
  out-grade e = ap (λ (k : Kind). by k (node_at t (direction_at t d).end).kind) e

  pub out_input : (v : Evidence) → (node_at t (direction_at t d).start).kind ≡ input v
      → out_message s t ms d ≡ out_message_variable (initial_belief s (input v)) (messages_in (node_at t (direction_at t d).start) ms) (direction_at t d).end_in_start
  unfolding out_message out_message_by
  out_input v e = ap (λ (k : Kind). by k (node_at t (direction_at t d).end).kind) e

  -- to its input a factor sends the message in force
  pub out-kept : (k : ℕ) (v : Evidence) → (node_at t (direction_at t d).start).kind ≡ factor k → (node_at t (direction_at t d).end).kind ≡ input v → out_message s t ms d ≡ message_at d ms
  unfolding out_message out_message_by out_message_factor_to
  out-kept k v e f = ap (λ (x : Kind). by x (node_at t (direction_at t d).end).kind) e ∙ ap (λ (x : Kind). by (factor k) x) f

  to_other : (l : Kind) (k : ℕ) (m o : Message) → is_input l ≡ false → out_message_factor_to l s k m o ≡ out_message_factor s k m
  unfolding out_message_factor_to
  to_other grade k m o e = refl
  to_other (factor j) k m o e = refl
  to_other (tree j) k m o e = refl
  to_other (input v) k m o e = absurd (let z : ◌≡◌ {A = ℕ} 0 1 = cc in let y : ⊥ = omega arith in y)

  pub out-factor : (k : ℕ) → (node_at t (direction_at t d).start).kind ≡ factor k → is_input (node_at t (direction_at t d).end).kind ≡ false
      → out_message s t ms d ≡ out_message_factor s k (message_at (1 - (direction_at t d).end_in_start) (messages_in (node_at t (direction_at t d).start) ms))
  unfolding out_message out_message_by
  out-factor k e f =
      ap (λ (x : Kind). by x (node_at t (direction_at t d).end).kind) e
      ∙ to_other (node_at t (direction_at t d).end).kind k (message_at (1 - (direction_at t d).end_in_start) (messages_in (node_at t start) ms)) (message_at d ms) f

-- a factor's message by the three settings that it reads
pub factor-given : (s : Settings) (k : ℕ) (m : Message) → out_message_factor (given s.alpha s.beta s.regularised) k m ≡ out_message_factor s k m
unfolding out_message_factor
factor-given s k m = ap (λ (l : List CpdRow). map clamp (normalize (map (λ (r : CpdRow). r.absent ⊗ entry 0 m ⊕ r.present ⊗ entry 1 m) l))) (sym (table_given s k))

-- the two floats of a message of two
pub pair_along : (firsts starts offsets : List ℕ) (w : List Float) (p : PartAt firsts starts offsets w) (e : ℕ) → Along offsets w e → get_or offsets (e + 1) 0 ≡ get_or offsets e 0 + 2
    → binary (get_or w (get_or offsets e 0) nan) (get_or w (get_or offsets e 0 + 1) nan) ≡ message_at e (cut p.words.graph.directions p.r_in)
pair_along firsts starts offsets w p e D two =
    let t = p.words.graph in
    let Q = p.words.read in
    let o = get_or offsets e 0 in
    let n = get_or offsets (e + 1) 0 - o in
    let T = total-is firsts starts offsets p.words in
    let l : length (region w o 2) ≡ 2 = length-region w o 2 (omega (arith, D.ends, D.rows)) in
    let x : region w o 2 ≡ message_at e (cut t.directions p.r_in) =
    ap (λ (i : ℕ). region w o i) (let z : 2 ≡ n = omega arith in z)
    ∙ ap (λ (v : List Float). region v o n) p.is
    ∙ in_read t p.r_in p.r_new p.r_log p.r_build p.pending p.rest p.floats o n (omega (arith, D.ends))
    ∙ sym (message_cut t p.words.kinds firsts starts p.words.outs offsets Q e (omega (arith, D.there, Q.offsets_long)) p.r_in) in
    ext_get_or nan (binary (get_or w o nan) (get_or w (o + 1) nan)) (region w o 2) (sym l) (λ i h. two_of i h)
    ∙ x
  where
    two_of : (i : ℕ) → i < 2 → get_or (binary (get_or w (get_or offsets e 0) nan) (get_or w (get_or offsets e 0 + 1) nan)) i nan ≡ get_or (region w (get_or offsets e 0) 2) i nan
    two_of zero h = ap (λ (j : ℕ). get_or w j nan) (let z : get_or offsets e 0 ≡ get_or offsets e 0 + 0 = omega arith in z) ∙ sym (get_d_region w (get_or offsets e 0) 2 0 nan (omega arith))
    two_of (suc zero) h = sym (get_d_region w (get_or offsets e 0) 2 1 nan (omega arith))
    two_of (suc (suc i)) h = absurd (let z : ⊥ = omega arith in z)

-- what `update_variable` asks of a grade or an input
pub holder_of : (s : Settings) (t : MessageGraph) (kinds firsts starts outs offsets labels : List ℕ) (evidence : List Float) → PartRows s t kinds firsts starts outs offsets labels evidence → (n i : ℕ) → n < length t.nodes
    → TwoLong t.directions (node_at t n).first_incoming (length (node_at t n).outgoing) → length (node_at t n).outgoing ≤ 1024 → i < length (node_at t n).outgoing → Holder firsts offsets n i
holder_of s t kinds firsts starts outs offsets labels evidence P n i h two few l =
    let g = words_of s t kinds firsts starts outs offsets labels evidence P in
    let Q = g.read in
    let f = (node_at t n).first_incoming in
    let k = length (node_at t n).outgoing in
    let a : get_or offsets (get_or firsts n 0) 0 ≡ offset_at t.directions f = Q.offset (get_or firsts n 0) ∙ ap (offset_at t.directions) (Q.first n h) in
    let b : get_or offsets (get_or firsts (n + 1) 0) 0 ≡ offset_at t.directions (f + k) = Q.offset (get_or firsts (n + 1) 0) ∙ ap (offset_at t.directions) (Q.next n h) in
    let c : offset_at t.directions (f + k) ≡ offset_at t.directions f + 2 * k = offset-two t.directions f k k (omega (arith, Q.next n h, Q.first-le (n + 1) (omega arith))) two (omega arith) in
    let e : (get_or offsets (get_or firsts (n + 1) 0) 0 - get_or offsets (get_or firsts n 0) 0) / 2 ≡ k = omega arith in
    record { node = node_in firsts starts offsets g n (omega (arith, Q.firsts-long)); position = rw e l; few = rw e few }

-- what `update_factor` asks of a factor that sends to a grade or a tree
pub sender_of : (s : Settings) (t : MessageGraph) (kinds firsts starts outs offsets labels : List ℕ) (evidence : List Float) → PartRows s t kinds firsts starts outs offsets labels evidence → (d : ℕ) → d < length t.directions
    → (direction_at t d).message_length ≤ 129 → Sender offsets d
sender_of s t kinds firsts starts outs offsets labels evidence P d h l =
    let Q = (words_of s t kinds firsts starts outs offsets labels evidence P).read in
    record { degree = omega (arith, Q.offset-next d h) }
