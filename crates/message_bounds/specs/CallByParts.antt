-- Demand 3: the messages in force of a part are bounded; and the whole of it of a call, by what is left in its buffers.
use Rattle.std.specs.Prelude.{ℕ, ◌≡◌, List, map, eqb, Float, length}
use Rattle.std.proofs.Common.{sym, ◌∙◌}
use Rattle.std.proofs.Math.Path.{ap}
use Rattle.std.proofs.Math.Option.{some}
use Rattle.std.proofs.Math.ListN.{get_elem?}
use Rattle.std.proofs.lemmas.List.{length-map}
use Rattle.definition.specs.Lists.{filter}
use Rattle.definition.specs.Settings.{Settings}
use Rattle.definition.specs.FactorGraph.{Bale, Node}
use Rattle.definition.specs.Components.{components_of}
use Rattle.definition.specs.Directions.{message_graph_of}
use Rattle.definition.specs.Answer.{PartAnswer, answer, answered_beliefs}
use Rattle.definition.specs.Refusals.{bale_of, accepted, verdict}
use Rattle.definition.specs.PartAlone.{grades_in, part_alone}
use Rattle.definition.specs.Call.{Lent, sizes_of, answered, Result, answered_by, call}
use Rattle.claims.specs.Parts.{AcceptedPart, Binary32}
use Rattle.claims.specs.Claims.{BoundedMessages, Alike, relabel_answer}
use Rattle.claims.specs.CallByParts.{read_back, read_of, evidence_floats, pair_numbers, call_of, PartAnswered, CallByParts}
use Rattle.graph_laws.specs.Consistency.{consistent}
use Rattle.graph_laws.specs.MessageCounts.{counted, messages_in-long, messages_in-within}
use Rattle.graph_laws.specs.Events.{run_follows}
use Rattle.graph_laws.specs.LocalAnswer.{locality, whole-answers_from}
use Rattle.graph_laws.specs.CallLengths.{call_accepted}
use Rattle.graph_laws.specs.ReadBack.{call-read, call_accepts, call_totals, bale-given, relabelled_many}
use Rattle.message_bounds.specs.Bounds.{bounds}

pub bounded : BoundedMessages
bounded s f b n p h v es x =
    record {
      two_for_each_edge = (counted s (message_graph_of b p) es x).store.msg_in ∙ (consistent s f b n p h).directions;
      long = messages_in-long s f b n p h es x;
      within = messages_in-within s f b n p h (bounds s f b n p h v.settings v.evidence) es x;
    }

-- a bale that is accepted, as arguments: how many beliefs and endings there are, and what is read
module _ (s : Settings) (b : Bale) (l : Lent) (h : verdict s (sizes_of l) b ≡ accepted) where
  given_accepted : verdict s (sizes_of l) (bale_of b.grades (evidence_floats b.markers) (pair_numbers b.pairs)) ≡ accepted
  given_accepted = ap (verdict s (sizes_of l)) (bale-given b) ∙ h

  given-counts : (call_of s b l).outcome ≡ answered (length (answered_beliefs (answer s b))) (length (answer s b))
  unfolding answered_by
  given-counts =
      ap (λ (r : Result). r.outcome) (call_accepted s b.grades (evidence_floats b.markers) (pair_numbers b.pairs) l given_accepted)
      ∙ ap (λ (c : Bale). answered (length (answered_beliefs (answer s c))) (length (answer s c))) (bale-given b)

  given-read : read_back (call_of s b l) ≡ answer s b
  given-read = call-read s b.grades (evidence_floats b.markers) (pair_numbers b.pairs) l given_accepted ∙ ap (answer s) (bale-given b)

module _
    (s : Settings) (g : ℕ) (es : List Float) (ps : List ℕ) (l : Lent) (v : Binary32 s (bale_of g es ps))
    (h : verdict s (sizes_of l) (bale_of g es ps) ≡ accepted) where
  part_answered : (n : ℕ) (p : List Node) → get_elem? (components_of (bale_of g es ps)) n ≡ some p → PartAnswered s (bale_of g es ps) l (call s g es ps l) n p
  part_answered n p e =
      record {
        bounded = bounded s (sizes_of l) b n p part v;
        runs = run_follows s (message_graph_of b p);
        left = read ∙ whole-answers_from s b n p e;
        alone = given-counts s (part_alone b p) l like.accepts ∙ (λ i. answered (beliefs i) (endings i));
        alike = ap (map (relabel_answer n (grades_in b p))) (given-read s (part_alone b p) l like.accepts) ∙ same;
      }
    where
      b : Bale
      b = bale_of g es ps

      part : AcceptedPart s (sizes_of l) (bale_of g es ps) n p
      part = record { accepts = h; stands = e }

      like : Alike s (sizes_of l) (bale_of g es ps) n p
      like = locality s (sizes_of l) b n p part

      read : read_of n (call s g es ps l) ≡ filter (λ q. eqb q.number n) (answer s (bale_of g es ps))
      read = ap (filter (λ (q : PartAnswer). eqb q.number n)) (call-read s g es ps l h)

      same : map (relabel_answer n (grades_in (bale_of g es ps) p)) (answer s (part_alone (bale_of g es ps) p)) ≡ read_of n (call s g es ps l)
      same = like.same ∙ sym read

      beliefs : length (answered_beliefs (answer s (part_alone (bale_of g es ps) p))) ≡ length (answered_beliefs (read_of n (call s g es ps l)))
      beliefs = sym (relabelled_many n (grades_in b p) (answer s (part_alone b p))) ∙ ap (λ (qs : List PartAnswer). length (answered_beliefs qs)) same

      endings : length (answer s (part_alone (bale_of g es ps) p)) ≡ length (read_of n (call s g es ps l))
      endings = sym (length-map (answer s (part_alone b p)) (relabel_answer n (grades_in b p))) ∙ ap length same

pub call-by-parts : CallByParts
call-by-parts s g es ps l v m k e =
    let h = call_accepts s g es ps l m k e in
    let r = call-read s g es ps l h in
    let t = call_totals s g es ps l m k e in
    record {
      beliefs = ap (λ (qs : List PartAnswer). length (answered_beliefs qs)) r ∙ t.0;
      endings = ap length r ∙ t.1;
      whole = r;
      part = part_answered s g es ps l v h;
    }
