-- A step's message by the kind of its sender: a tree's step, or one message.
use Rattle.std.specs.Prelude.{ℕ, ◌+◌, ◌*◌, ◌<◌, ◌≡◌, Bool, List, [], ◌∷◌, Float, length, get_or}
use Rattle.std.proofs.Common.{arith, ◌∙◌}
use Rattle.std.proofs.Math.Path.{sym, ap, subst}
use Rattle.std.proofs.Math.Bool.{true, false}
use Rattle.std.proofs.Math.Dec.{eqb}
use Rattle.definition.specs.Settings as definition
use Rattle.definition.specs.FactorGraph.{is_tree}
use Rattle.definition.specs.Vectors.{Message}
use Rattle.definition.specs.Directions.{MessageGraph, node_at, direction_at}
use Rattle.definition.specs.Sweeps.{Store}
use Rattle.definition.specs.Run.{MessageUpdate, update_single, update_tree, update_message}
use Rattle.messages.specs.Layout.{kind_code}
use Rattle.messages.specs.LayoutKinds.{code-tree}
use Rattle.messages.specs.DirectionsRead.{starts_row, outs_row}
use Rattle.messages.specs.State.{Changed, one, around, changed_of}
use Rattle.zero_lookahead.specs.declared.settings.Settings.{Settings}
use Rattle.zero_lookahead.specs.Part.{StandsFor, SomeStanding}
use Rattle.zero_lookahead.specs.StepReads.{SomePart, reads, start-way, start_is, start-node}
use Rattle.zero_lookahead.specs.StepSingle.{SingleAlong, no_tree_of}
use Rattle.zero_lookahead.specs.StepStands.{StandsWith}
use Rattle.zero_lookahead.specs.StepTree.{SomeTree}
use Rattle.zero_lookahead.specs.Variable.{kind_word}

-- ---- the definition's, by the kind
module _ (s : definition.Settings) (t : MessageGraph) (d : ℕ) (log : List Message) (x : Store) where
  by_kind : (b : Bool) → is_tree (node_at t (direction_at t d).start).kind ≡ b
      → update_message s t d log x ≡ elim b as (λ (c : Bool). MessageUpdate) [ true ↦ update_tree s t (direction_at t d).start log x | false ↦ update_single s t d log x ]
  unfolding update_message
  by_kind b e = ap (λ (c : Bool). elim c as (λ (c : Bool). MessageUpdate) [ true ↦ update_tree s t (direction_at t d).start log x | false ↦ update_single s t d log x ]) e

-- what the function leaves: the store, and which nodes changed
pub record Updated (s : definition.Settings) (t : MessageGraph) (out : ℕ) (evidence : List Float) (x : Store) (d : ℕ) (pending : List Float) (queue : List ℕ) (words : List ℕ) (w : List Float) (c : Changed) : Type 0 where
  pub stands : StandsWith s t out evidence (update_message s t d x.msg_in_log x).store pending queue words w
  pub changed : changed_of t c ≡ (update_message s t d x.msg_in_log x).changed

module _ (s : definition.Settings) (t : MessageGraph) (out : ℕ) (evidence : List Float) (x : Store) (words : List ℕ) (w : List Float) (S : StandsFor s t out evidence x words w) (d n : ℕ) (h : d < 2 * get_or words 1 0)
    (start : n ≡ get_or (starts_row words 0 out) d 0) where
  abbrev begins : n ≡ (direction_at t d).start
  begins = start_is s t out evidence words S.part d n h start

  abbrev node : n < length t.nodes
  node = start-node s t out evidence words S.part d n h start

  pub start-there : n < get_or words 0 0
  start-there = omega (arith, node, S.part.nodes)

  pub start_word : 2 + n < length words
  start_word = omega (arith, start-there, S.part.behind, S.part.room)

  code : get_or words (2 + n) 0 ≡ kind_code (node_at t n).kind
  code = kind_word s t out evidence words S.part n node

  module _ (p : List Float) (q : List ℕ) (words' : List ℕ) (w' : List Float) where
    pub updated_tree : (k : ℕ) → k ≡ get_or words (2 + n) 0 → k ≡ 3 → StandsWith s t out evidence (update_tree s t n x.msg_in_log x).store p q words' w' → Updated s t out evidence x d p q words' w' (around n)
    unfolding changed_of update_tree
    updated_tree k ek f W =
        let e : is_tree (node_at t (direction_at t d).start).kind ≡ true =
        ap (λ (i : ℕ). is_tree (node_at t i).kind) (sym begins) ∙ code-tree (node_at t n).kind ∙ ap (λ (i : ℕ). eqb i 3) (sym code ∙ sym ek ∙ f) in
        let u : update_message s t d x.msg_in_log x ≡ update_tree s t n x.msg_in_log x = by_kind s t d x.msg_in_log x true e ∙ ap (λ (i : ℕ). update_tree s t i x.msg_in_log x) (sym begins) in
        record {
          stands = subst (λ (y : MessageUpdate). StandsWith s t out evidence y.store p q words' w') (sym u) W;
          changed = sym (ap (λ (y : MessageUpdate). y.changed) u);
        }

    pub updated_single : (k e : ℕ) → k ≡ get_or words (2 + n) 0 → (k ≡ 3 → ⊥) → e ≡ get_or (starts_row words 0 out) (get_or (outs_row words 0 out) d 0) 0
        → StandsWith s t out evidence (update_single s t d x.msg_in_log x).store p q words' w' → Updated s t out evidence x d p q words' w' (one e)
    unfolding changed_of update_single
    updated_single k e ek f ee W =
        let i : is_tree (node_at t (direction_at t d).start).kind ≡ false = ap (λ (i : ℕ). is_tree (node_at t i).kind) (sym begins) ∙ no_tree_of (node_at t n).kind (λ z. f (ek ∙ code ∙ z)) in
        let u : update_message s t d x.msg_in_log x ≡ update_single s t d x.msg_in_log x = by_kind s t d x.msg_in_log x false i in
        record {
          stands = subst (λ (y : MessageUpdate). StandsWith s t out evidence y.store p q words' w') (sym u) W;
          changed = ap (λ (j : ℕ). j ∷ []) (ee ∙ (reads s t out evidence words S.part).end d (start-way s t out evidence words S.part d n h start)) ∙ sym (ap (λ (y : MessageUpdate). y.changed) u);
        }

-- ---- what the two ask
module _ (g : Settings) (out : ℕ) (evidence : List Float) (words : List ℕ) (w : List Float) (Y : SomeStanding g out evidence words w) where
  pub standing_part : SomePart out words
  standing_part = record { settings = Y.settings; graph = Y.graph; evidence = evidence; part = Y.stands.part }

  module _ (d n k : ℕ) (h : d < 2 * get_or words 1 0) (start : n ≡ get_or (starts_row words 0 out) d 0) (ek : k ≡ get_or words (2 + n) 0) where
    pub standing_tree : k ≡ 3 → SomeTree g.tolerance out n words w
    standing_tree f =
        record {
          some = record { settings = Y.settings; graph = Y.graph; evidence = evidence; store = Y.store; stands = Y.stands };
          tolerance_is = ap (λ (y : definition.Settings). y.tolerance) Y.given;
          there = start-there Y.settings Y.graph out evidence Y.store words w Y.stands d n h start;
          kind = sym ek ∙ f;
        }

    pub standing_single : (k ≡ 3 → ⊥) → SingleAlong out d n words
    standing_single f = record { there = h; start = start; no_tree = λ z. f (ek ∙ z) }
