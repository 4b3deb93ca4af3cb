-- The queue of a part, where it stands in its words.
use Rattle.std.specs.Prelude.{ℕ, ◌+◌, ◌-◌, ◌*◌, ◌^◌, ◌≤◌, ◌<◌, ◌≡◌, List, Float, Option, length, get_or, take, drop}
use Rattle.std.proofs.Common.{arith, sym, ap, ◌∙◌, subst}
use Rattle.definition.specs.Settings.{Settings}
use Rattle.definition.specs.Directions.{MessageGraph}
use Rattle.definition.specs.Priorities.{highest_priority}
use Rattle.definition.specs.Run.{State}
use Rattle.priorities.specs.Leaves.{leaves_for, leaves_full, leaves-within}
use Rattle.priorities.specs.Keys.{encoded, decoded, decoded-encoded, encoded_amounts}
use Rattle.priorities.specs.Tournament.{Holds, Queue}
use Rattle.priorities.specs.Answer.{highest_of}
use Rattle.priorities.specs.declared.Highest.{Highest}
use Rattle.zero_lookahead.specs.Part.{leaves_in, queue_at, queue_row, Runs}

pub record SomeQueue (out : ℕ) (words : List ℕ) : Type 0 where
  pub counts : 1 < length words
  pub few : 2 * get_or words 1 0 ≤ 2 ^ 31
  pub room : queue_at words out + 2 * leaves_in words ≤ length words
  pub queue : Queue (leaves_in words) (queue_row words out)

pub runs_queue : (s : Settings) (t : MessageGraph) (out : ℕ) (evidence : List Float) (x : State) (words : List ℕ) (w : List Float) → Runs s t out evidence x words w → SomeQueue out words
runs_queue s t out evidence x words w R =
    let P = R.stands.part in
    record {
      counts = omega (arith, P.behind, P.room);
      few = P.few;
      room = P.room;
      queue = record { full = leaves_full (2 * get_or words 1 0); keys = encoded x.priorities; holds = R.holds; amounts = encoded_amounts x.priorities R.amounts };
    }

-- as the code finds it: the counts read, the number of leaves computed, and from there the queue lent
module _ (out : ℕ) (words : List ℕ) (nodes edges leaves : ℕ) (en : nodes ≡ get_or words 0 0) (ee : edges ≡ get_or words 1 0) (el : leaves ≡ leaves_for (2 * edges)) where
  leaves_are : leaves ≡ leaves_in words
  leaves_are = el ∙ ap (λ (e : ℕ). leaves_for (2 * e)) ee

  abbrev from : ℕ
  from = out + (6 * edges + 1) + nodes

  from_is : from ≡ queue_at words out
  from_is = omega (arith, en, ee)

  lent_is : take (from + 2 * leaves - from) (drop from words) ≡ queue_row words out
  lent_is =
      ap (λ (n : ℕ). take n (drop from words)) (let z : from + 2 * leaves - from ≡ 2 * leaves_in words = omega (arith, leaves_are) in z)
      ∙ ap (λ (n : ℕ). take (2 * leaves_in words) (drop n words)) from_is

  pub queue_lent : SomeQueue out words → Queue leaves (take (out + (6 * edges + 1) + nodes + 2 * leaves - (out + (6 * edges + 1) + nodes)) (drop (out + (6 * edges + 1) + nodes) words)) × (leaves ≤ 2 ^ 32)
  queue_lent Q = (
    subst (λ (n : ℕ). Queue n (take (from + 2 * leaves - from) (drop from words))) (sym leaves_are) (subst (λ (l : List ℕ). Queue (leaves_in words) l) (sym lent_is) Q.queue),
    omega (arith, leaves_are, leaves-within (2 * get_or words 1 0) 31 Q.few),
  )

  -- what it answers is the definition's
  pub highest_is : (s : Settings) (t : MessageGraph) (evidence : List Float) (x : State) (w : List Float) → Runs s t out evidence x words w → (r : Option Highest)
      → ((keys : List ℕ) → Holds leaves keys (take (out + (6 * edges + 1) + nodes + 2 * leaves - (out + (6 * edges + 1) + nodes)) (drop (out + (6 * edges + 1) + nodes) words)) → highest_of r ≡ highest_priority (decoded keys))
      → highest_of r ≡ highest_priority x.priorities
  highest_is s t evidence x w R r h =
      h (encoded x.priorities)
      (subst (λ (n : ℕ). Holds n (encoded x.priorities) (take (from + 2 * leaves - from) (drop from words))) (sym leaves_are) (subst (λ (l : List ℕ). Holds (leaves_in words) (encoded x.priorities) l) (sym lent_is) R.holds))
      ∙ ap highest_priority (decoded-encoded x.priorities R.amounts)
