-- What the beliefs of a part are read from, row by row.
use Rattle.std.specs.Prelude.{ℕ, ◌-◌, ◌*◌, ◌/◌, ◌≤◌, ◌≡◌, List, ◌++◌, Float, length}
use Rattle.std.proofs.Math.Path.{ap}
use Rattle.definition.specs.Settings.{Settings}
use Rattle.definition.specs.FactorGraph.{Node}
use Rattle.definition.specs.Vectors.{Message}
use Rattle.definition.specs.Directions.{MessageGraph}
use Rattle.definition.specs.Sweeps.{Store}
use Rattle.definition.specs.Answer.{beliefs_among}
use Rattle.messages.specs.Layout.{cut, width}
use Rattle.messages.specs.DirectionsRead.{kinds_row, labels_row, firsts_row, starts_row, outs_row, offsets_row}
use Rattle.messages.specs.State.{PartRows, store_of}
use Rattle.steps.specs.StepLog.{NodeIn, begins_at, ends_at}
use Rattle.zero_lookahead.specs.Part.{StandsFor}
use Rattle.part.specs.Named.{Named}

-- node n's messages lie within the floats, and are few
pub record NodeHeld (firsts offsets : List ℕ) (n long : ℕ) : Type 0 where
  pub node : NodeIn firsts offsets n
  pub inside : ends_at firsts offsets n ≤ long
  pub few : (ends_at firsts offsets n - begins_at firsts offsets n) / 2 ≤ 1024

-- the rows of a part, the messages in force ms at the front of its floats, and the names of its nodes
pub record BeliefRows (s : Settings) (t : MessageGraph) (ms : List Message) (ns : List Node) (kinds labels firsts offsets : List ℕ) (w : List Float) : Type 0 where
  pub starts : List ℕ
  pub outs : List ℕ
  pub evidence : List Float
  pub rows : PartRows s t kinds firsts starts outs offsets labels evidence
  pub r_in : List Float
  pub rest : List Float
  pub long : length r_in ≡ width t.directions
  pub is : w ≡ r_in ++ rest
  pub messages : ms ≡ cut t.directions r_in
  pub named : Named t ns labels

pub record SomeRows (prior : Float) (kinds labels firsts offsets : List ℕ) (w : List Float) (m k : ℕ) : Type 0 where
  pub settings : Settings
  pub given : settings.prior ≡ prior
  pub graph : MessageGraph
  pub messages : List Message
  pub names : List Node
  pub rows : BeliefRows settings graph messages names kinds labels firsts offsets w
  pub numbers_room : length (beliefs_among settings messages names graph.nodes) ≤ m
  pub floats_room : 2 * length (beliefs_among settings messages names graph.nodes) ≤ k

-- ---- of a part that stands for a store

module _ (s : Settings) (t : MessageGraph) (out : ℕ) (evidence : List Float) (x : Store) (words : List ℕ) (w : List Float) (S : StandsFor s t out evidence x words w)
    (ns : List Node) (N : Named t ns (labels_row words 0)) where
  whole : BeliefRows s t x.msg_in ns (kinds_row words 0) (labels_row words 0) (firsts_row words 0) (offsets_row words 0 out) w
  unfolding store_of
  whole =
      record {
        starts = starts_row words 0 out;
        outs = outs_row words 0 out;
        evidence = evidence;
        rows = S.part.rows;
        r_in = S.r_in;
        rest = S.r_new ++ (S.r_log ++ (S.r_build ++ (S.pending ++ S.rest)));
        long = S.floats.in_long;
        is = S.is;
        messages = ap (λ (z : Store). z.msg_in) S.store;
        named = N;
      }

  pub rows_stand : (kinds labels firsts offsets : List ℕ) → kinds ≡ kinds_row words 0 → labels ≡ labels_row words 0 → firsts ≡ firsts_row words 0 → offsets ≡ offsets_row words 0 out
      → BeliefRows s t x.msg_in ns kinds labels firsts offsets w
  rows_stand kinds labels firsts offsets a b c d = rw (a, b, c, d) whole
