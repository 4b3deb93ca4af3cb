-- One turn of the loop over the parts: where the next record stands, what its part asks, and what is left once it is answered.
use Rattle.std.specs.Prelude.{ℕ, suc, ◌+◌, ◌-◌, ◌*◌, ◌≤◌, ◌<◌, ◌≡◌, Float, length, get_or, take}
use Rattle.std.proofs.Common.{add-one, arith, sym, ◌∙◌, subst, length-append, length-drop, take-suc, take-add, length-take-le}
use Rattle.std.proofs.Math.Path.{ap}
use mathlib.Core.List.{List, [], ◌∷◌, ◌++◌, map, map-append}
use Rattle.std.proofs.Math.ListN.{drop}
use Rattle.std.proofs.Math.Seq.{split_at, take-append-add}
use Rattle.definition.specs.Lists.{concat}
use Rattle.definition.specs.Settings.{Settings}
use Rattle.definition.specs.FactorGraph.{Bale, Node}
use Rattle.definition.specs.Components.{subgraph_of, components_of}
use Rattle.definition.specs.Refusals.{work_needed}
use Rattle.definition.specs.Answer.{PartAnswer, answers_of, answered_beliefs}
use Rattle.claims.specs.Parts.{AcceptedPart}
use Rattle.graph_laws.specs.Lists.{All, concat_append}
use Rattle.graph_laws.specs.AnswerSizes.{TwoFloats, answer-sizes}
use Rattle.list_laws.specs.Part.{region}
use Rattle.factor_graph.specs.Words.{label, component_words, components_words}
use Rattle.messages.specs.LayoutLists.{drop-take}
use Rattle.messages.specs.DirectionsRecord.{Recorded, stands_front, stands_back, node_count, edge_count, record_long}
use Rattle.messages.specs.DirectionsRead.{recorded_component}
use Rattle.zero_lookahead.specs.Part.{KeptFront}
use Rattle.zero_lookahead_belief_propagation.specs.Answered.{tail_of, back_of, tail_is, back_is, back_long, Answers, behind, joined, Fits, Written, written-more, fits-behind, part_at, upto, upto_next, upto-two, upto-fits}
use Rattle.zero_lookahead_belief_propagation.specs.AnsweredPart.{nth_is, front_of_lem, Placed, Asked}
use Rattle.zero_lookahead_belief_propagation.specs.AnsweredAll.{Cut, SomeCut, Going, SameSizes, Loop}

-- what a turn finds: its record, and where its answer goes
pub record Turn (end : ℕ) (words : List ℕ) (l : Answers) (at number beliefs endings : ℕ) : Type 0 where
  pub counts_in : at + 1 < length words
  pub next_in : at + (3 + 3 * get_or words at 0 + 7 * get_or words (at + 1) 0) ≤ end
  pub end_in : end ≤ length words
  pub number_small : number < 4294967296
  pub belief_numbers : beliefs ≤ length l.belief_numbers
  pub belief_floats : 2 * beliefs ≤ length l.belief_floats
  pub ending_numbers : 4 * endings ≤ length l.ending_numbers
  pub ending_floats : endings ≤ length l.ending_floats

records_split : (b : Bale) (ps qs : List (List Node)) → concat (map (component_words b) (ps ++ qs)) ≡ concat (map (component_words b) ps) ++ concat (map (component_words b) qs)
records_split b ps qs = ap concat (map-append (component_words b) ps qs) ∙ concat_append (map (component_words b) ps) (map (component_words b) qs)

module _ (s : Settings) (start count end : ℕ) (evidence : List Float) (floats₀ : ℕ) (words₀ : List ℕ) (l₀ : Answers) (floats : ℕ) (words : List ℕ) (l : Answers) (at number beliefs endings : ℕ)
    (L : Loop s start count end evidence floats₀ words₀ l₀ floats words l at number beliefs endings) (more : number < count) (b : Bale) (C : Cut s b start count end evidence words₀ floats₀ l₀) where
  abbrev G : Going s b start l₀ at number beliefs endings l
  G = L.going b C

  abbrev p : List Node
  p = part_at b number

  abbrev front : List ℕ
  front = concat (map (component_words b) (take number (components_of b)))

  abbrev back : List ℕ
  back = concat (map (component_words b) (drop (suc number) (components_of b)))

  there : number < length (components_of b)
  there = omega (arith, more, C.stand.count_is)

  split : components_words b ≡ front ++ (component_words b p ++ back)
  unfolding components_words
  split =
      ap (λ (x : List (List Node)). concat (map (component_words b) x)) (split_at (components_of b) number [] there)
      ∙ records_split b (take number (components_of b)) (p ∷ drop (suc number) (components_of b))

  long : length (components_words b) ≡ length front + (length (component_words b p) + length back)
  long = ap length split ∙ length-append front (component_words b p ++ back) ∙ ap (λ (k : ℕ). length front + k) (length-append (component_words b p) back)

  record_in : at + length (component_words b p) ≤ end
  record_in = omega (arith, G.at-is, C.stand.end_is, long)

  end_in : end ≤ length words
  unfolding work_needed
  end_in = omega (arith, C.stand.near, C.room, L.words_long)

  stands₀ : region words₀ at (length (component_words b p)) ≡ component_words b p
  stands₀ =
      ap (λ (k : ℕ). region words₀ k (length (component_words b p))) G.at-is
      ∙ stands_front words₀ (start + length front) (component_words b p) back
      (stands_back words₀ start front (component_words b p ++ back) (subst (λ (x : List ℕ). region words₀ start (length x) ≡ x) split C.stand.records))

  stands : region words at (length (component_words b p)) ≡ component_words b p
  stands =
      let n = length (component_words b p) in
      sym (drop-take at n words) ∙ ap (drop at) (front_of_lem (at + n) end words₀ words record_in L.words-kept) ∙ drop-take at n words₀ ∙ stands₀

  part : AcceptedPart s C.buffers b number (part_at b number)
  part = record { accepts = C.accepts; stands = nth_is (components_of b) number [] there }

  recorded : Recorded words at (map label p) (subgraph_of b p)
  recorded = recorded_component s C.buffers b number p words at part (omega (arith, record_in, end_in)) stands

  record_words_lem : length (component_words b p) ≡ 3 + 3 * length (subgraph_of b p).nodes + 7 * length (subgraph_of b p).edges
  unfolding component_words
  record_words_lem = record_long words at (map label p) (subgraph_of b p) recorded

  next-is : 3 + 3 * get_or words at 0 + 7 * get_or words (at + 1) 0 ≡ length (component_words b p)
  next-is = omega (arith, node_count words at (map label p) (subgraph_of b p) recorded, edge_count words at (map label p) (subgraph_of b p) recorded, record_words_lem)

  -- the part that is lent
  tail_long : length (tail_of words at) ≡ length words - at
  tail_long = ap length (tail_is words at) ∙ length-drop at words

  placed : Placed s b number (end - at) evidence (tail_of words at) floats
  placed =
      record {
        buffers = C.buffers;
        accepts = C.accepts;
        there = there;
        pairs = C.pairs;
        bale = C.bale;
        recorded =
            recorded_component s C.buffers b number p (tail_of words at) 0 part (omega (arith, tail_long, record_in, end_in))
            (ap (take (length (component_words b p))) (tail_is words at) ∙ stands);
        behind = omega (arith, record_words_lem, record_in);
        from = at;
        near = omega (arith, record_in, C.stand.near);
        room = omega (arith, tail_long, C.room, L.words_long, record_in, end_in);
        floats_room = omega (arith, C.floats_room, L.floats_long);
      }

  two : All TwoFloats (answered_beliefs (upto s b number))
  two = upto-two s b (answer-sizes s C.buffers b C.accepts) number

  next_fits : Fits (upto s b number ++ answers_of s b number (part_at b number)) l₀
  next_fits = subst (λ (x : List PartAnswer). Fits x l₀) (upto_next s b number there) (upto-fits s b l₀ (number + 1) C.fits)

  pub step_asks : Asked s b number (end - at) evidence (tail_of words at) floats (behind beliefs endings l)
  step_asks =
      record {
        placed = placed;
        fits = fits-behind (upto s b number) (answers_of s b number p) two l₀ l beliefs endings G.written next_fits;
      }

  pub turn : Turn end words l at number beliefs endings
  turn =
      let z = answer-sizes s C.buffers b C.accepts in
      let F = upto-fits s b l₀ number C.fits in
      let W = G.written in
      let S = L.sizes in
      record {
        counts_in = omega (arith, record_in, end_in, record_words_lem);
        next_in = omega (arith, next-is, record_in);
        end_in = end_in;
        number_small = omega (arith, there, z.components, z.nodes);
        belief_numbers = omega (arith, F.belief_numbers, W.beliefs_are, S.belief_numbers);
        belief_floats = omega (arith, F.belief_floats, W.beliefs_are, S.belief_floats);
        ending_numbers = omega (arith, F.ending_numbers, W.endings_are, S.ending_numbers);
        ending_floats = omega (arith, F.ending_floats, W.endings_are, S.ending_floats);
      }

  -- and it is answered
  step_goes : (m k : ℕ) (x : Answers) → Written (answers_of s b number (part_at b number)) (behind beliefs endings l) m k x
      → Going s b start l₀ (at + (3 + 3 * get_or words at 0 + 7 * get_or words (at + 1) 0)) (number + 1) (beliefs + m) (endings + k) (joined beliefs endings l x)
  step_goes m k x W =
      record {
        at-is =
            omega
            (arith, G.at-is, next-is, ap (λ (y : List (List Node)). length (concat (map (component_words b) y))) (ap (λ (n : ℕ). take n (components_of b)) (add-one number) ∙ take-suc (components_of b) number [] there), ap length (records_split b (take number (components_of b)) (p ∷ [])), length-append front (component_words b p ++ []), length-append (component_words b p) []);
        written =
            subst (λ (y : List PartAnswer). Written y l₀ (beliefs + m) (endings + k) (joined beliefs endings l x)) (sym (upto_next s b number there))
            (written-more (upto s b number) (answers_of s b number p) two l₀ l beliefs endings G.written m k x W);
      }

  pub counts_fit : (m k : ℕ) (x : Answers) → Written (answers_of s b number (part_at b number)) (behind beliefs endings l) m k x → (beliefs + m ≤ length l₀.belief_numbers) × (endings + k ≤ length l₀.ending_floats)
  counts_fit m k x W =
      let F = upto-fits s b l₀ (number + 1) C.fits in
      let Y = (step_goes m k x W).written in
      (omega (arith, F.belief_numbers, Y.beliefs_are), omega (arith, F.ending_floats, Y.endings_are))

-- ---- the words in front stay

front-back : (words₀ words x : List ℕ) (at end : ℕ) → at ≤ end → end ≤ length words → KeptFront end words₀ words → KeptFront (end - at) (tail_of words at) x → KeptFront end words₀ (back_of words at x)
front-back words₀ words x at end h k e q =
    let z : end ≡ length (take at words) + (end - at) = omega (arith, length-take-le at words (omega arith)) in
    let y : at + (end - at) ≡ end = omega arith in
    ap (take end) (back_is words at x)
    ∙ ap (λ (n : ℕ). take n (take at words ++ x)) z
    ∙ take-append-add (take at words) x (end - at)
    ∙ ap (λ (r : List ℕ). take at words ++ r) (q ∙ ap (take (end - at)) (tail_is words at))
    ∙ sym (take-add at (end - at) words)
    ∙ ap (λ (n : ℕ). take n words) y
    ∙ e

-- ---- the next turn

module _ (s : Settings) (start count end : ℕ) (evidence : List Float) (floats₀ : ℕ) (words₀ : List ℕ) (l₀ : Answers) (floats : ℕ) (words : List ℕ) (l : Answers) (at number beliefs endings : ℕ)
    (L : Loop s start count end evidence floats₀ words₀ l₀ floats words l at number beliefs endings) (more : number < count) (Y : SomeCut s start count end evidence words₀ floats₀ l₀) where
  pub loop-next : (floats' next : ℕ) (x : List ℕ) (m k : ℕ) (y : Answers) → floats' ≡ floats → next ≡ at + (3 + 3 * get_or words at 0 + 7 * get_or words (at + 1) 0)
      → length x ≡ length (tail_of words at) → KeptFront (end - at) (tail_of words at) x → SameSizes y (behind beliefs endings l)
      → ((b : Bale) → Asked s b number (end - at) evidence (tail_of words at) floats (behind beliefs endings l) → Written (answers_of s b number (part_at b number)) (behind beliefs endings l) m k y)
      → Loop s start count end evidence floats₀ words₀ l₀ floats' (back_of words at x) (joined beliefs endings l y) next (number + 1) (beliefs + m) (endings + k)
  loop-next floats' next x m k y ef en long kept same answers =
      let c = Y.cut in
      let r = turn s start count end evidence floats₀ words₀ l₀ floats words l at number beliefs endings L more Y.bale c in
      record {
        floats_long = ef ∙ L.floats_long;
        words_long = back_long words at x (omega (arith, r.next_in, r.end_in)) long ∙ L.words_long;
        words-kept = front-back words₀ words x at end (omega (arith, r.next_in)) r.end_in L.words-kept kept;
        number-le = omega arith;
        sizes = record {
          belief_numbers = back_long l.belief_numbers beliefs y.belief_numbers r.belief_numbers same.belief_numbers ∙ L.sizes.belief_numbers;
          belief_floats = back_long l.belief_floats (2 * beliefs) y.belief_floats r.belief_floats same.belief_floats ∙ L.sizes.belief_floats;
          ending_numbers = back_long l.ending_numbers (4 * endings) y.ending_numbers r.ending_numbers same.ending_numbers ∙ L.sizes.ending_numbers;
          ending_floats = back_long l.ending_floats endings y.ending_floats r.ending_floats same.ending_floats ∙ L.sizes.ending_floats;
        };
        going = λ b C.
            subst (λ (n : ℕ). Going s b start l₀ n (number + 1) (beliefs + m) (endings + k) (joined beliefs endings l y)) (sym en)
            (step_goes s start count end evidence floats₀ words₀ l₀ floats words l at number beliefs endings L more b C m k y
            (answers b (step_asks s start count end evidence floats₀ words₀ l₀ floats words l at number beliefs endings L more b C)));
      }
