-- A bale's graph, built and then cut into its components: the built record is ready to be cut.
use Rattle.std.specs.Prelude.{◌≡◌, refl, List, ℕ, ◌+◌, ◌*◌, ◌/◌, ◌≤◌, ◌<◌, length, get_or, take, replicate}
use Rattle.std.proofs.Common.{sym, ap, ◌∙◌, subst, zero-add, arith, get_or-take, ext_get_or, length-take-le}
use Rattle.std.proofs.lemmas.List.{length-replicate}
use Rattle.definition.specs.FactorGraph.{Bale, no_evidence, eq_pair}
use Rattle.definition.specs.Settings.{Settings}
use Rattle.definition.specs.Refusals.{Buffers, pairs_of, work_needed}
use Rattle.graph_laws.specs.Ranks.{NoDup}
use Rattle.graph_laws.specs.Names.{Valid}
use Rattle.graph_laws.specs.Accepted.{Passes}
use Rattle.list_laws.specs.Put.{put, put_in, length-put}
use Rattle.factor_graph.specs.Words.{built_words, components_words}
use Rattle.factor_graph.specs.Build.{Buildable, accepted_buildable}
use Rattle.factor_graph.specs.BuildPlan.{Known}
use Rattle.factor_graph.specs.BuildGroup.{pairs-length}
use Rattle.components.specs.ComponentMemory.{out_at}
use Rattle.components.specs.ComponentBuiltWords.{node_total, edge_total, slot_total, built-length, built-counts}
use Rattle.components.specs.ComponentRoom.{slots_twice, components_room, components_small}
use Rattle.components.specs.ComponentReady.{Ready, ReadyOf, Done}

-- a bale with these counts and pairs; its evidence isn't read
abbrev pub some_bale : ℕ → ℕ → List ℕ → Bale
some_bale G M pairs = record { grades = G; markers = replicate M no_evidence; pairs = pairs_of pairs }

module _ (w : List ℕ) (G M : ℕ) (pairs : List ℕ) (p : Buildable w G M pairs) (room : 37 * (G + M + length pairs / 2) + 3 ≤ length w)
    (b : Bale) (eg : b.grades ≡ G) (em : length b.markers ≡ M) (ep : b.pairs ≡ pairs_of pairs) where
  valid : Valid b
  valid =
      subst (λ (x : ℕ). Known x (length b.markers) b.pairs) (sym eg)
      (subst (λ (y : ℕ). Known G y b.pairs) (sym em) (subst (Known G M) (sym ep) p.known))

  once : NoDup eq_pair b.pairs
  once = subst (NoDup eq_pair) (sym ep) p.once

  count : length b.pairs ≡ length pairs / 2
  count = ap length ep ∙ pairs-length pairs

  space : out_at (node_total b) (edge_total b) (slot_total b) + length (components_words b) ≤ length w
  space =
      omega
      (arith, components_room b valid once (omega (arith, eg, p.grades)) (omega (arith, em, p.markers)) (omega (arith, count, p.few)), eg, em, count, room)

  fits : length (built_words b) ≤ length w
  fits = omega (arith, space, built-length b valid once)

  abbrev built : List ℕ
  built = put w 0 (built_words b)

  at : (k : ℕ) → k < length (built_words b) → get_or built k 0 ≡ get_or (built_words b) k 0
  at k h = ap (λ (j : ℕ). get_or built j 0) (sym (zero-add k)) ∙ put_in w 0 (built_words b) 0 k (omega (arith, fits)) h

  size : length built ≡ length w
  size = length-put w 0 (built_words b) (omega (arith, fits))

  front : take (length (built_words b)) built ≡ built_words b
  front =
      let l : length (take (length (built_words b)) built) ≡ length (built_words b) = length-take-le (length (built_words b)) built (omega (arith, size, fits)) in
      ext_get_or 0 (take (length (built_words b)) built) (built_words b) l
      (λ i h.
      let k : i < length (built_words b) = subst (λ (j : ℕ). i < j) l h in
      get_or-take (length (built_words b)) built i 0 k ∙ at i k)

  -- the two counts are read from the words, and there are twice as many slots as edges
  module _ (w₁ : List ℕ) (is : w₁ ≡ put w 0 (built_words b)) (n e : ℕ) (en : n ≡ get_or w₁ 0 0) (ee : e ≡ get_or w₁ 1 0) where
    nodes-is : n ≡ node_total b
    nodes-is = en ∙ ap (λ (l : List ℕ). get_or l 0 0) is ∙ at 0 (omega (arith, built-length b valid once)) ∙ (built-counts b valid once).0

    edges-is : e ≡ edge_total b
    edges-is = ee ∙ ap (λ (l : List ℕ). get_or l 1 0) is ∙ at 1 (omega (arith, built-length b valid once)) ∙ (built-counts b valid once).1

    slots-is : 2 * e ≡ slot_total b
    slots-is = omega (arith, edges-is, slots_twice b valid once)

    pub cut_ready : Ready b n e (2 * e) w₁
    cut_ready =
        record {
          valid = valid;
          once = once;
          nodes = nodes-is;
          edges = edges-is;
          slots = slots-is;
          front = ap (take (length (built_words b))) is ∙ front;
          small = subst (λ (x : ℕ). (x < 4294967296) × (length (components_words b) < 4294967296)) (sym nodes-is) (components_small b valid once (omega (arith, eg, p.grades)) (omega (arith, em, p.markers)) (omega (arith, count, p.few)));
          room = omega (arith, space, nodes-is, edges-is, slots-is, ap length is, size);
        }

    pub cut_done : (w₂ : List ℕ) (c k : ℕ) → Done b n e (2 * e) w₁ w₂ c k → Done b (node_total b) (edge_total b) (slot_total b) (put w 0 (built_words b)) w₂ c k
    cut_done w₂ c k d =
        subst (λ (x : List ℕ). Done b (node_total b) (edge_total b) (slot_total b) x w₂ c k) is
        (subst (λ (x : ℕ). Done b x (edge_total b) (slot_total b) w₁ w₂ c k) nodes-is
        (subst (λ (x : ℕ). Done b n x (slot_total b) w₁ w₂ c k) edges-is (subst (λ (x : ℕ). Done b n e x w₁ w₂ c k) slots-is d)))

-- what cutting asks, whatever the evidence
pub cut_asks : (w : List ℕ) (G M : ℕ) (pairs : List ℕ) → Buildable w G M pairs → 37 * (G + M + length pairs / 2) + 3 ≤ length w → (w₁ : List ℕ)
    → ((b : Bale) → b.grades ≡ G → length b.markers ≡ M → b.pairs ≡ pairs_of pairs → w₁ ≡ put w 0 (built_words b))
    → (n e : ℕ) → n ≡ get_or w₁ 0 0 → e ≡ get_or w₁ 1 0 → ReadyOf n e (2 * e) w₁
cut_asks w G M pairs p room w₁ is n e en ee =
    let b = some_bale G M pairs in
    let l : length (replicate M no_evidence) ≡ M = length-replicate M no_evidence in
    record { bale = b; ready = cut_ready w G M pairs p room b refl l refl w₁ (is b refl l refl) n e en ee }

-- an accepted bale can be built and cut in the words that a call is lent
pub accepted_cuttable : (s : Settings) (f : Buffers) (b : Bale) → Passes s f b → (w pairs : List ℕ) → b.pairs ≡ pairs_of pairs → work_needed b ≤ length w
    → Buildable w b.grades (length b.markers) pairs × (37 * (b.grades + length b.markers + length pairs / 2) + 3 ≤ length w)
unfolding work_needed
accepted_cuttable s f b p w pairs e h =
    let k : length b.pairs ≡ length pairs / 2 = ap length e ∙ pairs-length pairs in
    (accepted_buildable s f b p w pairs e (omega (arith, h, k)), omega (arith, h, k))
