-- An accepted call: its graph, built and cut in the work, and room for its answer.
use Rattle.std.specs.Prelude.{ℕ, ◌+◌, ◌*◌, ◌/◌, ◌≤◌, ◌<◌, ◌≡◌, List, Float, length, get_or}
use Rattle.std.proofs.Common.{zero-add, arith, sym, ap, ◌∙◌, subst}
use Rattle.std.proofs.Math.Path.{refl}
use Rattle.definition.specs.Settings.{Settings}
use Rattle.definition.specs.FactorGraph.{Bale, eq_pair}
use Rattle.definition.specs.Refusals.{Buffers, pairs_of, bale_of, work_needed, accepted, verdict}
use Rattle.definition.specs.Answer.{answer}
use Rattle.graph_laws.specs.Ranks.{NoDup}
use Rattle.graph_laws.specs.Names.{Valid}
use Rattle.graph_laws.specs.Accepted.{Passes, passes_all, valid, pairs_apart}
use Rattle.list_laws.specs.Part.{region}
use Rattle.list_laws.specs.Write.{length-write, write-below}
use Rattle.list_laws.specs.Put.{put, length-put, put_in, put-below, region-all}
use Rattle.checks.specs.Accepted.{accepted_checked}
use Rattle.checks.specs.Slices.{length_markers}
use Rattle.factor_graph.specs.Words.{built_words, components_words}
use Rattle.factor_graph.specs.Build.{Buildable}
use Rattle.components.specs.ComponentMemory.{out_at}
use Rattle.components.specs.ComponentBuiltWords.{node_total, edge_total, slot_total, built-length, built-counts}
use Rattle.components.specs.ComponentRoom.{slots_twice, accepted_room}
use Rattle.components.specs.ComponentCut.{accepted_cuttable}
use Rattle.components.specs.ComponentReady.{cleared, Done}
use Rattle.zero_lookahead_belief_propagation.specs.Answered.{Answers, Fits}
use Rattle.zero_lookahead_belief_propagation.specs.AnsweredAll.{RecordsAt, Cut}

-- a call with these grades, this evidence and these pairs is accepted, whatever its settings, and so many words are lent
pub record SomeAccepted (g : ℕ) (es : List Float) (ps : List ℕ) (words : ℕ) : Type 0 where
  pub settings : Settings
  pub buffers : Buffers
  pub accepts : verdict settings buffers (bale_of g es ps) ≡ accepted
  pub room : work_needed (bale_of g es ps) ≤ words

-- and with its settings, so many floats, and room for its answer
pub record AcceptedCall (s : Settings) (g : ℕ) (es : List Float) (ps : List ℕ) (floats words : ℕ) (l : Answers) : Type 0 where
  pub buffers : Buffers
  pub accepts : verdict s buffers (bale_of g es ps) ≡ accepted
  pub floats_room : work_needed (bale_of g es ps) ≤ floats
  pub words_room : work_needed (bale_of g es ps) ≤ words
  pub fits : Fits (answer s (bale_of g es ps)) l

module _ (g : ℕ) (es : List Float) (ps words : List ℕ) (A : SomeAccepted g es ps (length words)) where
  abbrev b : Bale
  b = bale_of g es ps

  abbrev all : Passes A.settings A.buffers (bale_of g es ps)
  all = passes_all A.settings A.buffers (bale_of g es ps) A.accepts

  ok : Valid (bale_of g es ps)
  ok = valid b all.known

  once : NoDup eq_pair (bale_of g es ps).pairs
  once = pairs_apart b all.once

  pub grades_are : (bale_of g es ps).grades ≡ g
  unfolding bale_of
  grades_are = refl

  pub markers_are : length (bale_of g es ps).markers ≡ length es / 2
  unfolding bale_of
  markers_are = length_markers es

  pub pairs_are : (bale_of g es ps).pairs ≡ pairs_of ps
  unfolding bale_of
  pairs_are = refl

  pub markers_small : length es / 2 ≤ 1024
  markers_small = (accepted_checked A.settings A.buffers g es ps A.accepts).markers

  pub cut_asks : Buildable words g (length es / 2) ps × (37 * (g + length es / 2 + length ps / 2) + 3 ≤ length words)
  cut_asks =
      subst (λ (x : ℕ). Buildable words x (length es / 2) ps × (37 * (x + length es / 2 + length ps / 2) + 3 ≤ length words)) grades_are
      (subst (λ (x : ℕ). Buildable words b.grades x ps × (37 * (b.grades + x + length ps / 2) + 3 ≤ length words)) markers_are
      (accepted_cuttable A.settings A.buffers b all words ps pairs_are A.room))

  -- where the records end
  records_room : out_at (node_total b) (edge_total b) (slot_total b) + length (components_words b) ≤ 37 * (b.grades + length b.markers + length b.pairs) + 3
  records_room = accepted_room A.settings A.buffers b all

  in_words : out_at (node_total b) (edge_total b) (slot_total b) + length (components_words b) ≤ length words
  unfolding work_needed
  in_words = omega (arith, records_room, A.room)

  abbrev built : List ℕ
  built = put words 0 (built_words (bale_of g es ps))

  abbrev work : List ℕ
  work = cleared (node_total b) (edge_total b) (slot_total b) (put words 0 (built_words (bale_of g es ps)))

  built_in_lem : length (built_words b) ≤ length words
  built_in_lem = omega (arith, in_words, built-length b ok once)

  built-long : length built ≡ length words
  built-long = length-put words 0 (built_words b) (omega (arith, built_in_lem))

  work-long : length work ≡ length words
  work-long = length-write built (3 + 3 * node_total b + slot_total b + 5 * edge_total b) (node_total b + edge_total b + node_total b) (λ k. 0) ∙ built-long

  module _ (words' : List ℕ) (c k : ℕ) (D : Done (bale_of g es ps) (node_total b) (edge_total b) (slot_total b) (put words 0 (built_words (bale_of g es ps))) words' c k) where
    front_read : (i : ℕ) → i < 3 → get_or words' i 0 ≡ get_or (built_words b) i 0
    front_read i h =
        ap (λ (x : List ℕ). get_or x i 0) D.words
        ∙ put-below work (out_at (node_total b) (edge_total b) (slot_total b)) (components_words b) 0 i (omega (arith, in_words, work-long)) (omega arith)
        ∙ write-below built (3 + 3 * node_total b + slot_total b + 5 * edge_total b) (node_total b + edge_total b + node_total b) i (λ k. 0) 0 (omega arith)
        ∙ ap (λ (j : ℕ). get_or built j 0) (sym (zero-add i))
        ∙ put_in words 0 (built_words b) 0 i (omega arith) (omega (arith, built-length b ok once))

    pub cut-long : 3 ≤ length words'
    cut-long = omega (arith, ap length D.words, length-put work (out_at (node_total b) (edge_total b) (slot_total b)) (components_words b) (omega (arith, in_words, work-long)), work-long, in_words)

    pub cut_records : (start : ℕ) → start ≡ 3 + 5 * get_or words' 0 0 + 8 * get_or words' 1 0 → RecordsAt (bale_of g es ps) start c k words'
    cut_records start e =
        let n = front_read 0 (omega arith) ∙ (built-counts b ok once).0 in
        let m = front_read 1 (omega arith) ∙ (built-counts b ok once).1 in
        let z : start ≡ out_at (node_total b) (edge_total b) (slot_total b) = omega (arith, n, m, slots_twice b ok once) in
        record {
          records =
              ap (λ (x : List ℕ). region x start (length (components_words b))) D.words
              ∙ ap (λ (j : ℕ). region (put work (out_at (node_total b) (edge_total b) (slot_total b)) (components_words b)) j (length (components_words b))) z
              ∙ region-all 0 work (out_at (node_total b) (edge_total b) (slot_total b)) (components_words b) (omega (arith, in_words, work-long));
          count_is = D.count;
          end_is = omega (arith, D.end, z);
          near = omega (arith, D.end, records_room);
        }

-- ---- what the parts ask

pub call-cut : (s : Settings) (g : ℕ) (es : List Float) (ps : List ℕ) (floats : ℕ) (words words' : List ℕ) (l : Answers) (start c k : ℕ) → AcceptedCall s g es ps floats (length words) l
    → length words' ≡ length words → RecordsAt (bale_of g es ps) start c k words' → Cut s (bale_of g es ps) start c k es words' floats l
unfolding bale_of
call-cut s g es ps floats words words' l start c k A e R =
    record {
      buffers = A.buffers;
      accepts = A.accepts;
      pairs = ps;
      bale = refl;
      stand = R;
      room = omega (arith, A.words_room, e);
      floats_room = A.floats_room;
      fits = A.fits;
    }
