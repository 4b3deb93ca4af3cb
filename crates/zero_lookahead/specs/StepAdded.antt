-- A step's residual added in a part's words: what is asked, and that what is pending and what waits are as the definition's step has them.
use Rattle.std.specs.Prelude.{ℕ, ◌+◌, ◌-◌, ◌*◌, ◌≤◌, ◌<◌, ◌≡◌, refl, List, ◌++◌, T, Float, length, get_or, take, drop, set}
use Rattle.std.proofs.Common.{arith, sym, ap, ◌∙◌, subst, length-set}
use Rattle.std.proofs.Math.Option.{none}
use Rattle.std.specs.Float.{nan}
use Rattle.definition.specs.Settings.{Settings}
use Rattle.definition.specs.Floats.{zeroᶠ}
use Rattle.definition.specs.Directions.{MessageGraph}
use Rattle.definition.specs.Run.{add_pending}
use Rattle.float_laws.specs.Rounded.{clear}
use Rattle.graph_laws.specs.MessageCounts.{length-add_pending}
use Rattle.list_laws.specs.Part.{region, length-region}
use Rattle.list_laws.specs.Put.{put, put-part, region-all}
use Rattle.messages.specs.DirectionsRead.{kinds_row, labels_row, firsts_row, starts_row, outs_row, offsets_row}
use Rattle.messages.specs.LayoutWords.{others_to}
use Rattle.steps.specs.StepLog.{total}
use Rattle.steps.specs.StepPart.{rows_of}
use Rattle.steps.specs.StepPending.{Waiting, OneKept, AllKept, Others, ResidualAdded, residual-others, residual-added-from}
use Rattle.zero_lookahead.specs.Part.{leaves_in, queue_at, queue_row, PartWords}
use Rattle.zero_lookahead.specs.StepReads.{SomePart, reads}
use Rattle.zero_lookahead.specs.StepQueue.{WaitingAt, OnlyAt, OthersAt, only_row, only_next}

pub record Adding (out d : ℕ) (r : Float) (pending : List Float) (words : List ℕ) : Type 0 where
  pub part : SomePart out words
  pub long : 2 * get_or words 1 0 ≡ length pending
  pub waits : Waiting (leaves_in words) pending (queue_row words out)
  pub there : d < length pending
  pub clear_sign : T (clear r)

pub record Added (out d : ℕ) (r : Float) (pending : List Float) (words : List ℕ) (pending' : List Float) (words' : List ℕ) : Type 0 where
  pub waits : Waiting (leaves_in words) pending' (region words' (queue_at words out) (2 * leaves_in words))
  pub only : OnlyAt (queue_at words out) (2 * leaves_in words) words words'
  pub is : (s : Settings) (t : MessageGraph) (evidence : List Float) → PartWords s t out evidence words
      → ResidualAdded t (leaves_in words) d r pending (queue_row words out) pending' (region words' (queue_at words out) (2 * leaves_in words))

-- ---- by the words that are read: where the direction ends, and which directions end there
module _ (out d : ℕ) (r : Float) (p : List Float) (words : List ℕ) (A : Adding out d r p words) (leaves queue : ℕ) (is-leaves : leaves ≡ leaves_in words) (is-queue : queue ≡ queue_at words out) where
  abbrev E : ℕ
  E = get_or words 1 0

  room : queue + 2 * leaves ≤ length words
  room = omega (arith, is-leaves, is-queue, A.part.part.room)

  pub adding-at : WaitingAt queue leaves p words
  adding-at =
      record {
        room = room;
        waits =
            subst (λ (l : ℕ). Waiting l p (region words queue (2 * l))) (sym is-leaves) (subst (λ (q : ℕ). Waiting (leaves_in words) p (region words q (2 * leaves_in words))) (sym is-queue) A.waits);
      }

  module _ (outs end from to : ℕ) (is-outs : outs ≡ out + 2 * get_or words 1 0) (is-end : end ≡ get_or (starts_row words 0 out) (get_or (outs_row words 0 out) d 0) 0)
      (is-from : from ≡ get_or (firsts_row words 0) end 0) (is-to : to ≡ get_or (firsts_row words 0) (end + 1) 0)
      (p₁ : List Float) (words₁ : List ℕ) (cleared : p₁ ≡ set p d zeroᶠ) (K₁ : OnlyAt queue (2 * leaves) words words₁) where
    abbrev F : List ℕ
    F = firsts_row words 0

    abbrev O : List ℕ
    O = outs_row words 0 out

    abbrev S : List ℕ
    S = starts_row words 0 out

    long₁ : length p₁ ≡ length p
    long₁ = ap length cleared ∙ length-set p d zeroᶠ

    outs_row_lem : region words₁ outs (length p₁) ≡ O
    outs_row_lem =
        ap (λ (i : ℕ). region words₁ i (length p₁)) is-outs
        ∙ ap (region words₁ (out + 2 * E)) (long₁ ∙ sym A.long)
        ∙ only_row queue (2 * leaves) words room words₁ K₁ (out + 2 * E) (2 * E) (omega (arith, is-queue))

    outs_long : (s : Settings) (t : MessageGraph) (evidence : List Float) → PartWords s t out evidence words → length O ≡ length p
    outs_long s t evidence P = (reads s t out evidence words P).outs_long ∙ sym P.edges ∙ A.long

    pub adding-others : OthersAt words₁ outs queue from to d (length p₁)
    adding-others =
        let Q = A.part in
        let R : Others O (get_or F (get_or S (get_or O d 0) 0) 0) (get_or F (get_or S (get_or O d 0) 0 + 1) 0) d (length p) =
        residual-others F S O (rows_of Q.settings Q.graph (kinds_row words 0) F S O (offsets_row words 0 out) (labels_row words 0) Q.evidence Q.part.rows) (length p) d (outs_long Q.settings Q.graph Q.evidence Q.part) A.there in
        let f : get_or F (get_or S (get_or O d 0) 0) 0 ≡ from = sym (is-from ∙ ap (λ (i : ℕ). get_or F i 0) is-end) in
        let g : get_or F (get_or S (get_or O d 0) 0 + 1) 0 ≡ to = sym (is-to ∙ ap (λ (i : ℕ). get_or F (i + 1) 0) is-end) in
        record {
          others =
              subst (λ (l : List ℕ). Others l from to d (length p₁)) (sym outs_row_lem)
              (subst (λ (n : ℕ). Others O from to d n) (sym long₁)
              (subst (λ (i : ℕ). Others O i to d (length p)) f (subst (λ (i : ℕ). Others O (get_or F (get_or S (get_or O d 0) 0) 0) i d (length p)) g R)));
          front = omega (arith, is-outs, is-queue, long₁, A.long);
        }

    others_are : others_to (region words₁ outs (length p₁)) from d to ≡ others_to O (get_or F end 0) d (get_or F (end + 1) 0)
    others_are =
        ap (λ (l : List ℕ). others_to l from d to) outs_row_lem ∙ ap (λ (i : ℕ). others_to O i d to) is-from ∙ ap (λ (i : ℕ). others_to O (get_or F end 0) d i) is-to

    pub added : (p₂ : List Float) (words₂ : List ℕ) → OneKept leaves (length p) d none (region words queue (2 * leaves)) (region words₁ queue (2 * leaves)) → WaitingAt queue leaves p₂ words₂
        → OnlyAt queue (2 * leaves) words₁ words₂ → p₂ ≡ add_pending r (others_to (region words₁ outs (length p₁)) from d to) p₁
        → AllKept leaves (length p₁) p₂ (others_to (region words₁ outs (length p₁)) from d to) (region words₁ queue (2 * leaves)) (region words₂ queue (2 * leaves)) → Added out d r p words p₂ words₂
    added p₂ words₂ C W K₂ e M =
        let at : (P : ℕ → ℕ → Type 0) → P leaves queue → P (leaves_in words) (queue_at words out) =
        λ P h. subst (λ (l : ℕ). P l (queue_at words out)) is-leaves (subst (λ (q : ℕ). P leaves q) is-queue h) in
        record {
          waits = at (λ l q. Waiting l p₂ (region words₂ q (2 * l))) W.waits;
          only = at (λ l q. OnlyAt q (2 * l) words words₂) (only_next queue (2 * leaves) words room words₁ words₂ K₁ K₂);
          is = (λ s t evidence P.
              at (λ l q. ResidualAdded t l d r p (region words q (2 * l)) p₂ (region words₂ q (2 * l)))
              (residual-added-from F S O (rows_of s t (kinds_row words 0) F S O (offsets_row words 0 out) (labels_row words 0) evidence P.rows) (length p) d (outs_long s t evidence P) A.there leaves r end p p₁ p₂ (region words queue (2 * leaves)) (region words₁ queue (2 * leaves)) (region words₂ queue (2 * leaves)) refl is-end cleared
              (e ∙ ap (λ (os : List ℕ). add_pending r os p₁) others_are) C
              (subst (λ (os : List ℕ). AllKept leaves (length p₁) p₂ os (region words₁ queue (2 * leaves)) (region words₂ queue (2 * leaves))) others_are M)));
        }

-- ---- what is pending, in a part's floats

abbrev pub pending_at : List ℕ → ℕ → ℕ
pending_at words out = 4 * total (offsets_row words 0 out)

abbrev pub pending_row : List ℕ → ℕ → List Float → List Float
pending_row words out w = region w (pending_at words out) (2 * get_or words 1 0)

pub record AddingAlong (out d : ℕ) (r : Float) (words : List ℕ) (w : List Float) : Type 0 where
  pub adding : Adding out d r (pending_row words out w) words
  pub room : pending_at words out + 2 * get_or words 1 0 ≤ length w

pub record AddedAlong (out d : ℕ) (r : Float) (words : List ℕ) (w : List Float) (words' : List ℕ) (w' : List Float) : Type 0 where
  pub added : Added out d r (pending_row words out w) words (pending_row words out w') words'
  pub floats : w' ≡ put w (pending_at words out) (pending_row words out w')

-- l floats a row, e edges
module _ (out d : ℕ) (r : Float) (words : List ℕ) (w : List Float) (A : AddingAlong out d r words w) (l e : ℕ) (is_row : l ≡ total (offsets_row words 0 out)) (is-edges : e ≡ get_or words 1 0) where
  abbrev lent : List Float
  lent = take (4 * l + 2 * e - 4 * l) (drop (4 * l) w)

  pub along_room : 4 * l + 2 * e ≤ length w
  along_room = omega (arith, is_row, is-edges, A.room)

  region-is : (v : List Float) → region v (4 * l) (2 * e) ≡ pending_row words out v
  region-is v = ap (λ (i : ℕ). region v (4 * i) (2 * e)) is_row ∙ ap (λ (i : ℕ). region v (pending_at words out) (2 * i)) is-edges

  count : 4 * l + 2 * e - 4 * l ≡ 2 * e
  count = omega arith

  lent_is : lent ≡ pending_row words out w
  lent_is = ap (λ (n : ℕ). take n (drop (4 * l) w)) count ∙ region-is w

  pub along_adding : Adding out d r (take (4 * l + 2 * e - 4 * l) (drop (4 * l) w)) words
  along_adding = subst (λ (p : List Float). Adding out d r p words) (sym lent_is) A.adding

  module _ (p : List Float) (words' : List ℕ) (D : Added out d r (take (4 * l + 2 * e - 4 * l) (drop (4 * l) w)) words p words') where
    abbrev w' : List Float
    w' = take (4 * l) w ++ (p ++ drop (4 * l + 2 * e - 4 * l) (drop (4 * l) w))

    p-long : length p ≡ 2 * e
    p-long =
        let P = A.adding.part in
        let x = (D.is P.settings P.graph P.evidence P.part).pending_is in
        ap length x
        ∙ length-add_pending r _ (set lent d zeroᶠ)
        ∙ length-set lent d zeroᶠ
        ∙ ap (λ (n : ℕ). length (take n (drop (4 * l) w))) count
        ∙ length-region w (4 * l) (2 * e) along_room

    put_is' : w' ≡ put w (4 * l) p
    put_is' = ap (λ (n : ℕ). take (4 * l) w ++ (p ++ drop n (drop (4 * l) w))) count ∙ put-part w p (4 * l) (2 * e) p-long

    row' : pending_row words out w' ≡ p
    row' = sym (region-is w') ∙ ap (λ (v : List Float). region v (4 * l) (2 * e)) put_is' ∙ ap (λ (n : ℕ). region (put w (4 * l) p) (4 * l) n) (sym p-long) ∙ region-all nan w (4 * l) p (omega (arith, p-long, along_room))

    pub along_added : AddedAlong out d r words w words' (take (4 * l) w ++ (p ++ drop (4 * l + 2 * e - 4 * l) (drop (4 * l) w)))
    along_added =
        record {
          added = subst (λ (q : List Float). Added out d r q words (pending_row words out w') words') lent_is (subst (λ (q : List Float). Added out d r lent words q words') (sym row') D);
          floats = put_is' ∙ ap (put w (4 * l)) (sym row') ∙ ap (λ (i : ℕ). put w (4 * i) (pending_row words out w')) is_row;
        }
