-- One part of an accepted call: its record at the front of the words, with room for its run, and room for its answer.
use Rattle.std.specs.Prelude.{ℕ, zero, suc, ◌+◌, ◌*◌, ◌≤◌, ◌<◌, ◌≡◌, refl, Float, length, get_or, take, set}
use Rattle.std.proofs.Common.{arith, sym, ◌∙◌, subst, take-take, length-take-le}
use Rattle.std.proofs.Math.Path.{ap}
use Rattle.std.proofs.Math.Option.{some}
use mathlib.Core.List.{List, [], ◌∷◌, map}
use Rattle.std.proofs.Math.ListN.{get_elem?}
use Rattle.std.proofs.Math.Seq.{take_at}
use Rattle.definition.specs.Settings as definition
use Rattle.definition.specs.FactorGraph.{Bale, Node}
use Rattle.definition.specs.Components.{Subgraph, subgraph_of, components_of}
use Rattle.definition.specs.Directions.{MessageGraph, message_graph, message_graph_of}
use Rattle.definition.specs.Refusals.{Buffers, bale_of, work_needed, accepted, verdict}
use Rattle.definition.specs.Sweeps.{Store}
use Rattle.definition.specs.Run.{run}
use Rattle.definition.specs.Answer.{PartAnswer, beliefs_among, part_answer, answers_of}
use Rattle.definition.specs.Call.{overwrite}
use Rattle.definition.specs.Settings.{settings_of}
use Rattle.claims.specs.Parts.{AcceptedPart}
use Rattle.list_laws.specs.Put.{put}
use Rattle.factor_graph.specs.Words.{label}
use Rattle.messages.specs.DirectionsRecord.{record_end, Recorded, node_count, edge_count, recorded-kept}
use Rattle.messages.specs.DirectionsRows.{direction_rows}
use Rattle.messages.specs.Directions.{Ready}
use Rattle.messages.specs.DirectionsRead.{Laid, laid-put, labels_row}
use Rattle.zero_lookahead.specs.declared.settings.Settings.{Settings}
use Rattle.part.specs.declared.run.Ending.{Ending}
use Rattle.zero_lookahead.specs.Part.{Given, PartRoom, StandsFor, KeptFront}
use Rattle.part.specs.Ending.{ending_from, Ran}
use Rattle.part.specs.Named.{Named, Believed, SomeBeliefs}
use Rattle.part.specs.AcceptedWords.{labels-recorded}
use Rattle.part.specs.Accepted.{part-words, part_floats_lem, part_narrow, part_few, part_room, part_named}
use Rattle.zero_lookahead_belief_propagation.specs.Answered.{Answers, Fits, part_at}

abbrev pub settings_from : Settings → ℕ → definition.Settings
settings_from g limit = settings_of g.alpha g.beta g.prior g.regularised g.tolerance limit

-- Part number n of an accepted call: its record is at the front of the words, and from index `out` on there is room for its rows, its flags and its queue.
-- The words are the work from some index on, and the work has the length that the call asks for.
pub record Placed (s : definition.Settings) (b : Bale) (n out : ℕ) (evidence : List Float) (words : List ℕ) (floats : ℕ) : Type 0 where
  pub buffers : Buffers
  pub accepts : verdict s buffers b ≡ accepted
  pub there : n < length (components_of b)
  pub pairs : List ℕ
  pub bale : b ≡ bale_of b.grades evidence pairs
  pub recorded : Recorded words 0 (map label (part_at b n)) (subgraph_of b (part_at b n))
  pub behind : record_end 0 (length (subgraph_of b (part_at b n)).nodes) (length (subgraph_of b (part_at b n)).edges) ≤ out
  pub from : ℕ
  pub near : from + out ≤ 37 * (b.grades + length b.markers + length b.pairs) + 3
  pub room : work_needed b ≤ from + length words
  pub floats_room : work_needed b ≤ floats

-- and it is one that is run, with room for its beliefs
pub record Large (s : definition.Settings) (b : Bale) (n out : ℕ) (evidence : List Float) (words : List ℕ) (floats m k : ℕ) : Type 0 where
  pub placed : Placed s b n out evidence words floats
  pub large : 2 < length (part_at b n)
  pub numbers_room : length (part_answer s n (part_at b n) (message_graph_of b (part_at b n))).beliefs ≤ m
  pub floats_fit : 2 * length (part_answer s n (part_at b n) (message_graph_of b (part_at b n))).beliefs ≤ k

pub record SomeLarge (s : definition.Settings) (out : ℕ) (evidence : List Float) (words : List ℕ) (floats m k : ℕ) : Type 0 where
  pub bale : Bale
  pub number : ℕ
  pub part : Large s bale number out evidence words floats m k

-- how it ends, and its beliefs written
pub record PartRuns (q : PartAnswer) (numbers : List ℕ) (floats : List Float) (ending : Ending) (steps count : ℕ) (numbers' : List ℕ) (floats' : List Float) : Type 0 where
  pub ending-is : ending_from ending ≡ q.ending
  pub steps_are : steps ≡ q.steps
  pub believed : Believed q.beliefs numbers floats count numbers' floats'

-- a part, with room for what it yields
pub record Asked (s : definition.Settings) (b : Bale) (n out : ℕ) (evidence : List Float) (words : List ℕ) (floats : ℕ) (l : Answers) : Type 0 where
  pub placed : Placed s b n out evidence words floats
  pub fits : Fits (answers_of s b n (part_at b n)) l

pub record SomeAsked (s : definition.Settings) (n out : ℕ) (evidence : List Float) (words : List ℕ) (floats : ℕ) (l : Answers) : Type 0 where
  pub bale : Bale
  pub part : Asked s bale n out evidence words floats l

-- ---- a list's front after four stores, and after one

pub four_stored : (a b c d : ℕ) (l : List ℕ) → 4 ≤ length l → set (set (set (set l 0 a) 1 b) 2 c) 3 d ≡ overwrite (a ∷ b ∷ c ∷ d ∷ []) l
four_stored a b c d [] h = absurd (let z : ⊥ = omega arith in z)
four_stored a b c d (x ∷ []) h = absurd (let z : ⊥ = omega arith in z)
four_stored a b c d (x ∷ y ∷ []) h = absurd (let z : ⊥ = omega arith in z)
four_stored a b c d (x ∷ y ∷ z ∷ []) h = absurd (let q : ⊥ = omega arith in q)
four_stored a b c d (x ∷ y ∷ z ∷ u ∷ l) h = refl

pub one_stored : (a : Float) (l : List Float) → 1 ≤ length l → set l 0 a ≡ overwrite (a ∷ []) l
one_stored a [] h = absurd (let z : ⊥ = omega arith in z)
one_stored a (x ∷ l) h = refl

-- ---- a record in front of what was written

pub front_of_lem : (m out : ℕ) (w v : List ℕ) → m ≤ out → KeptFront out w v → take m v ≡ take m w
front_of_lem m out w v h e = sym (take-take m out v h) ∙ ap (take m) e ∙ take-take m out w h

recorded-front : (w v labels : List ℕ) (g : Subgraph) (out : ℕ) → Recorded w 0 labels g → record_end 0 (length g.nodes) (length g.edges) ≤ out → length v ≡ length w → KeptFront out w v → Recorded v 0 labels g
recorded-front w v labels g out R h l e =
    recorded-kept w v 0 labels g R l (front_of_lem (3 + 3 * length g.nodes + 7 * length g.edges) out w v (omega arith) e)

-- ---- a large part

pub nth_is : {A : Type 0} (l : List A) (n : ℕ) (d : A) → n < length l → get_elem? l n ≡ some (get_or l n d)
nth_is [] n d h = absurd (let z : ⊥ = omega arith in z)
nth_is (x ∷ l) zero d h = refl
nth_is (x ∷ l) (suc n) d h = nth_is l n d (omega arith)

module _ (s : definition.Settings) (b : Bale) (n out : ℕ) (evidence : List Float) (words : List ℕ) (floats m k : ℕ) (L : Large s b n out evidence words floats m k) where
  abbrev P : Placed s b n out evidence words floats
  P = L.placed

  abbrev p : List Node
  p = part_at b n

  abbrev g : Subgraph
  g = subgraph_of b (part_at b n)

  part : AcceptedPart s L.placed.buffers b n (part_at b n)
  part = record { accepts = P.accepts; stands = nth_is (components_of b) n [] P.there }

  rows_room : out + (6 * length g.edges + 1) ≤ length words
  rows_room = omega (arith, part_room s P.buffers b n p part L.large (P.from + out) P.near, P.room)

  pub large_ready : Ready words 0 out
  unfolding message_graph_of
  large_ready =
      record {
        labels = map label p;
        graph = g;
        recorded = P.recorded;
        behind = P.behind;
        room = rows_room;
        narrow = part_narrow s P.buffers b n p part L.large;
        few = part_few s P.buffers b n p part L.large;
      }

  -- once its rows are filled
  module _ (words₁ : List ℕ) (filled : words₁ ≡ put words out (direction_rows (message_graph (subgraph_of b (part_at b n))))) where
    large-laid : Laid words₁ 0 out (map label p) g
    large-laid = laid-put words words₁ 0 out (map label p) g P.recorded P.behind rows_room filled

    pub large-front : KeptFront out words words₁
    unfolding put
    large-front = ap (take out) filled ∙ take_at (take out words) _ out (length-take-le out words (omega (arith, rows_room)))

    pub large_room : (w : List Float) → length w ≡ floats → length words₁ ≡ length words → PartRoom s (message_graph_of b p) out evidence words₁ w
    large_room w e l =
        let N = node_count words₁ 0 (map label p) g large-laid.recorded in
        let E = edge_count words₁ 0 (map label p) g large-laid.recorded in
        let r = part_room s P.buffers b n p part L.large (P.from + out) P.near in
        record {
          part =
              part-words s P.buffers b n p part L.large evidence P.pairs words₁ out P.bale large-laid
              (rw (N, E) (omega (arith, r, P.room, l)));
          floats = omega (arith, part_floats_lem s P.buffers b n p part L.large, P.floats_room, e);
        }

    -- and once it has run
    large_named : (words₂ : List ℕ) → length words₂ ≡ length words₁ → KeptFront out words₁ words₂ → Named (message_graph_of b p) p (labels_row words₂ 0)
    large_named words₂ l e =
        subst (Named (message_graph_of b p) p) (sym (labels-recorded words₂ (map label p) g (recorded-front words₁ words₂ (map label p) g out large-laid.recorded P.behind l e)))
        (part_named s P.buffers b n p part)

    module _ (w₂ : List Float) (words₂ : List ℕ) (ending : Ending) (steps : ℕ) (long : length words₂ ≡ length words₁) (front : KeptFront out words₁ words₂) (ran : Ran s (message_graph_of b p) out evidence ending steps words₂ w₂) where
      pub large-beliefs : (h : Settings) → Given s h → SomeBeliefs h out words₂ w₂ m k
      unfolding part_answer
      large-beliefs h e =
          record {
            settings = s;
            given = e;
            graph = message_graph_of b p;
            evidence = evidence;
            store = (run s (message_graph_of b p)).state.store;
            names = p;
            stands = ran.stands;
            named = large_named words₂ long front;
            numbers_room = L.numbers_room;
            floats_room = L.floats_fit;
          }

      -- by what `beliefs` ensures
      pub large-runs : (h : Settings) → Given s h → (numbers numbers' : List ℕ) (fs fs' : List Float) (count : ℕ) → length numbers ≡ m → length fs ≡ k
          → ((s : definition.Settings) (t : MessageGraph) (evidence : List Float) (x : Store) (ns : List Node) → StandsFor s t out evidence x words₂ w₂ → Given s h → Named t ns (labels_row words₂ 0)
          → length (beliefs_among s x.msg_in ns t.nodes) ≤ length numbers → 2 * length (beliefs_among s x.msg_in ns t.nodes) ≤ length fs
          → Believed (beliefs_among s x.msg_in ns t.nodes) numbers fs count numbers' fs')
          → PartRuns (part_answer s n (part_at b n) (message_graph_of b (part_at b n))) numbers fs ending steps count numbers' fs'
      unfolding part_answer
      large-runs h e numbers numbers' fs fs' count ln lf believes =
          record {
            ending-is = ran.ending-is;
            steps_are = ran.steps_are;
            believed =
                believes s (message_graph_of b p) evidence (run s (message_graph_of b p)).state.store p ran.stands e (large_named words₂ long front)
                (rw ln L.numbers_room) (rw lf L.floats_fit);
          }
