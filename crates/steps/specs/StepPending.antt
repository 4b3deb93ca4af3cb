-- What is pending and what waits: what the functions that change them ask and keep.
use Rattle.std.specs.Prelude.{ℕ, ◌+◌, ◌-◌, ◌*◌, ◌≤◌, ◌<◌, ◌≡◌, refl, true, false, List, ◌++◌, T, ℤ, Float, length, get_or, set, replicate}
use Rattle.std.proofs.Math.Decide.{ℕ_discrete}
use Rattle.std.proofs.Common.{arith, sym, ap, ◌∙◌, subst, length-set, length-append, get_or-set_same, get_or-set_other}
use Rattle.std.proofs.Math.Logic.{by_cases}
use Rattle.std.proofs.Math.Option.{Option, none, some}
use Rattle.std.specs.Float.{nan, inf, fin, binary32}
use Rattle.std.specs.Float.Ieee.{add, up, down}
use Rattle.std.proofs.lemmas.List.{length-map, length-replicate}
use Rattle.definition.specs.Floats.{◌⊕◌, zeroᶠ}
use Rattle.definition.specs.Directions.{MessageGraph, node_at, direction_at}
use Rattle.definition.specs.Run.{add_pending, push_priorities, other_outgoing}
use Rattle.float_laws.specs.Rounded.{clear, round-clear}
use Rattle.graph_laws.specs.MessageCounts.{length-add_pending, length_wait}
use Rattle.priorities.specs.Keys.{encode_key, encoded}
use Rattle.priorities.specs.Tournament.{padded, tournament, Holds, Queue, length-padded, length_fill}
use Rattle.priorities.specs.Waiting.{waiting_set}
use Rattle.messages.specs.LayoutLists.{get_d_any}
use Rattle.messages.specs.LayoutRows.{RowsRead}
use Rattle.messages.specs.LayoutWords.{others_to, others-row, outs_apart}
use Rattle.messages.specs.LayoutPending.{priorities_none, priorities_pass, priorities_step, pending_at_lem, pending_before}

-- ---- amounts: no sign, and no NaN

-- a sum of two such values is one
finite-sum : (m n : ℕ) (e d : ℤ) → T (clear (fin false m e ⊕ fin false n d))
unfolding add
finite-sum m n e d = round-clear binary32 (m * up e * down d + n * up d * down e) (down e * down d)

pub clear-sum : (x y : Float) → T (clear x) → T (clear y) → T (clear (x ⊕ y))
unfolding add
clear-sum nan y p q = absurd p
clear-sum (inf true) y p q = absurd p
clear-sum (inf false) nan p q = absurd q
clear-sum (inf false) (inf true) p q = absurd q
clear-sum (inf false) (inf false) p q = tt
clear-sum (inf false) (fin s m e) p q = tt
clear-sum (fin true m e) y p q = absurd p
clear-sum (fin false m e) nan p q = absurd q
clear-sum (fin false m e) (inf true) p q = absurd q
clear-sum (fin false m e) (inf false) p q = tt
clear-sum (fin false m e) (fin true n d) p q = absurd q
clear-sum (fin false m e) (fin false n d) p q = finite-sum m n e d

queue_long : (leaves : ℕ) (words : List ℕ) → Queue leaves words → length words ≡ 2 * leaves
unfolding tournament
queue_long leaves words q =
    let H = q.holds in
    let zs : List ℕ = replicate leaves 0 in
    let a : length zs ≡ leaves = length-replicate leaves 0 in
    let b : length (padded leaves q.keys) ≡ leaves = length-padded leaves q.keys H.fits in
    ap length H.is ∙ length_fill (leaves - 1) (zs ++ padded leaves q.keys) ∙ length-append zs (padded leaves q.keys) ∙ omega arith

-- what is pending for each direction, and a queue with a leaf for each
pub record Waiting (leaves : ℕ) (pending : List Float) (words : List ℕ) : Type 0 where
  pub queue : Queue leaves words
  pub room : length pending ≤ leaves
  pub clear_signs : (d : ℕ) → d < length pending → T (clear (get_or pending d zeroᶠ))

-- the queue's words stay as many
pub waiting_words : (leaves : ℕ) (p p' : List Float) (words words' : List ℕ) → Waiting leaves p words → Waiting leaves p' words' → length words ≡ length words'
waiting_words leaves p p' words words' H W = queue_long leaves words H.queue ∙ sym (queue_long leaves words' W.queue)

-- direction d, one of n, now waits with o, or not, and all others as before
pub record OneKept (leaves n d : ℕ) (o : Option Float) (before after : List ℕ) : Type 0 where
  pub waits : (q : List (Option Float)) → length q ≡ n → Holds leaves (encoded q) before → Holds leaves (encoded (set q d o)) after

-- the words from `from` to before `to` are directions, n in all, and none of them is there twice
pub record Others (outs : List ℕ) (from to d n : ℕ) : Type 0 where
  pub begins : from ≤ d
  pub ends : d < to
  pub long : length outs ≡ n
  pub within : to ≤ n
  pub there : (k : ℕ) → k < n → get_or outs k 0 < n
  pub apart : (i j : ℕ) → i < n → j < n → get_or outs i 0 ≡ get_or outs j 0 → i ≡ j

-- rows of words that are those of a message graph
pub record Rows (firsts starts outs : List ℕ) : Type 0 where
  pub graph : MessageGraph
  pub kinds : List ℕ
  pub offsets : List ℕ
  pub read : RowsRead graph kinds firsts starts outs offsets

-- ---- one direction

pub waiting_after : (leaves : ℕ) (p : List Float) (words after : List ℕ) (d : ℕ) (x : Float) → Waiting leaves p words → T (clear x) → Queue leaves after → Waiting leaves (set p d x) after
waiting_after leaves p words after d x W h q =
    record {
      queue = q;
      room = (let e : length (set p d x) ≡ length p = length-set p d x in omega (arith, W.room));
      clear_signs = (λ c k.
          let l : c < length p = omega (arith, length-set p d x) in
          by_cases (ℕ_discrete c d) (λ (e : c ≡ d). rw e (subst (λ (y : Float). T (clear y)) (sym (get_or-set_same p d x zeroᶠ (omega arith))) h))
          (λ e. subst (λ (y : Float). T (clear y)) (sym (get_or-set_other p d c x zeroᶠ e)) (W.clear_signs c l)));
    }

pub one_kept : (leaves n d : ℕ) (o : Option Float) (key : ℕ) (before after : List ℕ) → d < n → key ≡ encode_key o
    → ((keys : List ℕ) → Holds leaves keys before → d < length keys → after ≡ tournament leaves (set keys d key)) → OneKept leaves n d o before after
one_kept leaves n d o key before after h k f =
    record {
      waits = (λ q e H. waiting_set leaves q before after d o key H k (f (encoded q) H (let z : length (encoded q) ≡ length q = length-map q encode_key in omega arith)));
    }

-- what is read may be read with any default
pub sum-clear : (leaves : ℕ) (p : List Float) (words : List ℕ) (d : ℕ) (r : Float) → Waiting leaves p words → d < length p → T (clear r) → T (clear (get_or p d nan ⊕ r))
sum-clear leaves p words d r W h k =
    clear-sum (get_or p d nan) r (subst (λ (y : Float). T (clear y)) (get_d_any p d zeroᶠ nan h) (W.clear_signs d h)) k

-- ---- several directions

-- each direction of a list, of n in all, now waits with what is pending for it
pub record AllKept (leaves n : ℕ) (pending : List Float) (os before after : List ℕ) : Type 0 where
  pub waits : (q : List (Option Float)) → length q ≡ n → Holds leaves (encoded q) before → Holds leaves (encoded (push_priorities pending os q)) after

module _ (leaves : ℕ) (outs : List ℕ) (f e d : ℕ) (p : List Float) (O : Others outs f e d (length p)) (r : Float) where
  abbrev lastly : List Float
  lastly = add_pending r (others_to outs f d e) p

  pub all_none : (words : List ℕ) → AllKept leaves (length p) (add_pending r (others_to outs f d e) p) (others_to outs f d f) words words
  all_none words =
      record { waits = (λ q z H. subst (λ (x : List (Option Float)). Holds leaves (encoded x) words) (priorities_none outs f d O.begins lastly q) H) }

  pub all_pass : (k : ℕ) → k ≡ d → (before after : List ℕ) → AllKept leaves (length p) (add_pending r (others_to outs f d e) p) (others_to outs f d k) before after
      → AllKept leaves (length p) (add_pending r (others_to outs f d e) p) (others_to outs f d (k + 1)) before after
  all_pass k z before after K =
      record {
        waits = (λ q y H.
            subst (λ (x : List (Option Float)). Holds leaves (encoded x) after) (priorities_pass outs f d O.begins lastly q (push_priorities lastly (others_to outs f d k) q) k z refl) (K.waits q y H));
      }

  -- what is pending for word k's direction once its turn is over: as at the end
  pub all_step : (k : ℕ) → f ≤ k → k < e → (k ≡ d → ⊥) → (w : List Float) → w ≡ add_pending r (others_to outs f d k) p → (before mid after : List ℕ)
      → AllKept leaves (length p) (add_pending r (others_to outs f d e) p) (others_to outs f d k) before mid
      → OneKept leaves (length w) (get_or outs k 0) (some (get_or w (get_or outs k 0) zeroᶠ ⊕ r)) mid after
      → AllKept leaves (length p) (add_pending r (others_to outs f d e) p) (others_to outs f d (k + 1)) before after
  all_step k h l z w u before mid after K S =
      let o = get_or outs k 0 in
      let long : length outs ≡ length p = O.long in
      let there : k < length outs = omega (arith, O.within) in
      let o-there : o < length p = O.there k (omega arith) in
      let apart : (i j : ℕ) → i < length outs → j < length outs → get_or outs i 0 ≡ get_or outs j 0 → i ≡ j = λ i j a b y. O.apart i j (omega arith) (omega arith) y in
      let wl : length w ≡ length p = ap length u ∙ length-add_pending r (others_to outs f d k) p in
      let x : get_or w o zeroᶠ ⊕ r ≡ get_or lastly o zeroᶠ =
      ap (λ (y : Float). y ⊕ r) (ap (λ (v : List Float). get_or v o zeroᶠ) u ∙ pending_before outs f d O.begins apart r p k h there o-there k h (omega arith))
      ∙ sym (pending_at_lem outs f d O.begins apart r p k h there o-there z e l (omega (arith, O.within))) in
      record {
        waits = (λ q y H.
            let q' = push_priorities lastly (others_to outs f d k) q in
            subst (λ (v : List (Option Float)). Holds leaves (encoded v) after)
            (ap (λ (y : Float). set q' o (some y)) x ∙ priorities_step outs f d O.begins k h there z lastly q q' zeroᶠ (omega (arith, length-add_pending r (others_to outs f d e) p)) refl)
            (S.waits q' (length_wait lastly (others_to outs f d k) q ∙ y ∙ sym wl) (K.waits q y H)));
      }

-- ---- a step's residual

-- what is pending and what waits are as the definition's step has them
pub record ResidualAdded (t : MessageGraph) (leaves d : ℕ) (r : Float) (pending : List Float) (words : List ℕ) (pending' : List Float) (words' : List ℕ) : Type 0 where
  pub pending_is : pending' ≡ add_pending r (other_outgoing (direction_at t d).start_in_end (node_at t (direction_at t d).end).outgoing) (set pending d zeroᶠ)
  pub waits : (q : List (Option Float)) → length q ≡ length pending → Holds leaves (encoded q) words
      → Holds leaves (encoded (push_priorities pending' (other_outgoing (direction_at t d).start_in_end (node_at t (direction_at t d).end).outgoing) (set q d none))) words'

module _ (firsts starts outs : List ℕ) (g : Rows firsts starts outs) (n d : ℕ) (long : length outs ≡ n) (h : d < n) where
  abbrev e : ℕ
  e = get_or starts (get_or outs d 0) 0

  abbrev Q : RowsRead g.graph g.kinds firsts starts outs g.offsets
  Q = g.read

  way : d < length g.graph.directions
  way = omega (arith, Q.outs_long)

  pub residual-others : Others outs (get_or firsts (get_or starts (get_or outs d 0) 0) 0) (get_or firsts (get_or starts (get_or outs d 0) 0 + 1) 0) d n
  residual-others =
      let z = Q.end d way in
      let lt = Q.end_lt d way in
      record {
        begins = rw z (Q.end-first d way);
        ends = rw z (Q.end-next d way);
        long = long;
        within = (let y = Q.first-le (e + 1) (omega arith) in omega (arith, Q.outs_long));
        there = (λ k l. omega (arith, Q.out-lt k (omega (arith, Q.outs_long)), Q.outs_long));
        apart = (λ i j a b y. outs_apart g.graph g.kinds firsts starts outs g.offsets Q i j (omega (arith, Q.outs_long)) (omega (arith, Q.outs_long)) y);
      }

  pub residual-row : others_to outs (get_or firsts (get_or starts (get_or outs d 0) 0) 0) d (get_or firsts (get_or starts (get_or outs d 0) 0 + 1) 0)
      ≡ other_outgoing (direction_at g.graph d).start_in_end (node_at g.graph (direction_at g.graph d).end).outgoing
  residual-row =
      ap (λ (i : ℕ). others_to outs (get_or firsts i 0) d (get_or firsts (i + 1) 0)) (Q.end d way) ∙ sym (others-row g.graph g.kinds firsts starts outs g.offsets Q d way)

  pub residual-added : (leaves : ℕ) (r : Float) (p p' : List Float) (words mid after : List ℕ) → length p ≡ n
      → p' ≡ add_pending r (others_to outs (get_or firsts (get_or starts (get_or outs d 0) 0) 0) d (get_or firsts (get_or starts (get_or outs d 0) 0 + 1) 0)) (set p d zeroᶠ)
      → OneKept leaves (length p) d none words mid
      → AllKept leaves (length (set p d zeroᶠ)) p' (others_to outs (get_or firsts (get_or starts (get_or outs d 0) 0) 0) d (get_or firsts (get_or starts (get_or outs d 0) 0 + 1) 0)) mid after
      → ResidualAdded g.graph leaves d r p words p' after
  residual-added leaves r p p' words mid after l x S K =
      record {
        pending_is = x ∙ ap (λ (os : List ℕ). add_pending r os (set p d zeroᶠ)) residual-row;
        waits = (λ q y H.
            subst (λ (os : List ℕ). Holds leaves (encoded (push_priorities p' os (set q d none))) after) residual-row
            (K.waits (set q d none) (length-set q d none ∙ y ∙ sym (length-set p d zeroᶠ)) (S.waits q y H)));
      }

  -- the same of an end e and of what is pending p₁ once nothing is pending for d
  pub residual-added-from : (leaves : ℕ) (r : Float) (e : ℕ) (p p₁ p' : List Float) (words mid after : List ℕ) → length p ≡ n → e ≡ get_or starts (get_or outs d 0) 0 → p₁ ≡ set p d zeroᶠ
      → p' ≡ add_pending r (others_to outs (get_or firsts e 0) d (get_or firsts (e + 1) 0)) p₁ → OneKept leaves (length p) d none words mid
      → AllKept leaves (length p₁) p' (others_to outs (get_or firsts e 0) d (get_or firsts (e + 1) 0)) mid after → ResidualAdded g.graph leaves d r p words p' after
  residual-added-from leaves r i p p₁ p' words mid after l z y x S K =
      let m = get_or starts (get_or outs d 0) 0 in
      residual-added leaves r p p' words mid after l
      (x ∙ ap (λ (j : ℕ). add_pending r (others_to outs (get_or firsts j 0) d (get_or firsts (j + 1) 0)) p₁) z ∙ ap (add_pending r (others_to outs (get_or firsts m 0) d (get_or firsts (m + 1) 0))) y) S
      (subst (λ (v : List Float). AllKept leaves (length v) p' (others_to outs (get_or firsts m 0) d (get_or firsts (m + 1) 0)) mid after) y
      (subst (λ (j : ℕ). AllKept leaves (length p₁) p' (others_to outs (get_or firsts j 0) d (get_or firsts (j + 1) 0)) mid after) z K))
