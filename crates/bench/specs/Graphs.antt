-- What building and cutting a checked call's graph leaves.
use Rattle.std.specs.Prelude.{◌≡◌, List, ℕ, ◌+◌, ◌*◌, ◌/◌, ◌≤◌, ◌<◌, Float, length}
use Rattle.std.proofs.Math.Path.{refl}
use Rattle.std.proofs.Common.{subst, arith}
use Rattle.definition.specs.FactorGraph.{Bale}
use Rattle.definition.specs.Settings.{Settings}
use Rattle.definition.specs.Refusals.{Buffers, Verdict, accepted, refused, work_needed, verdict, pairs_of, bale_of}
use Rattle.graph_laws.specs.Accepted.{Passes, passes_all, sized, valid, pairs_apart}
use Rattle.graph_laws.specs.AnswerSizes.{components_few}
use Rattle.graph_laws.specs.CallLengths.{room}
use Rattle.list_laws.specs.Put.{put}
use Rattle.checks.specs.Accepted.{Checked, accepted_checked}
use Rattle.checks.specs.Slices.{length_markers, length_pairs}
use Rattle.factor_graph.specs.Words.{built_words}
use Rattle.factor_graph.specs.Build.{Buildable, accepted_buildable}
use Rattle.components.specs.ComponentBuilt.{nodes_count}
use Rattle.components.specs.ComponentBuiltWords.{node_total, edge_total, slot_total}
use Rattle.components.specs.ComponentReady.{Done}
use Rattle.components.specs.ComponentRoom.{components_room}

-- both work buffers with the words' length, and the others as long as any call asks
abbrev pub lent_of : ℕ → Buffers
lent_of n = record { work_floats = n; work_numbers = n; belief_numbers = 1024; belief_floats = 2048; ending_numbers = 4096; ending_floats = 1024 }

-- v is the verdict of a call with this graph, which lends so many words
pub record Judged (v : Verdict) (g : ℕ) (es : List Float) (ps : List ℕ) (n : ℕ) : Type 0 where
  pub settings : Settings
  pub lent : Buffers
  pub is : v ≡ verdict settings lent (bale_of g es ps)
  pub words : lent.work_numbers ≡ n

-- a refusal's number and place, the rest of the reply 0, and the words as they were; or number and place 0, and the graph and its components
abbrev pub CutAfter : Verdict → Bale → List ℕ → List ℕ → ℕ → ℕ → ℕ → ℕ → Type 0
CutAfter accepted b w w' number place count end =
    (number ≡ 0) × (place ≡ 0) × Done b (node_total b) (edge_total b) (slot_total b) (put w 0 (built_words b)) w' count end
CutAfter (refused n p) b w w' number place count end = (number ≡ n) × (place ≡ p) × (count ≡ 0) × (end ≡ 0) × (w' ≡ w)

module _ (s : Settings) (f : Buffers) (g : ℕ) (es : List Float) (ps w : List ℕ) (lent : f.work_numbers ≡ length w) (h : verdict s f (bale_of g es ps) ≡ accepted) where
  abbrev b : Bale
  b = bale_of g es ps

  abbrev all : Passes s f (bale_of g es ps)
  all = passes_all s f (bale_of g es ps) h

  abbrev known : Checked g es ps
  known = accepted_checked s f g es ps h

  pub cut_markers : length es / 2 ≤ 1024
  cut_markers = known.markers

  pub cut_room : 37 * (g + length es / 2 + length ps / 2) + 3 ≤ length w
  unfolding work_needed bale_of
  cut_room = omega (arith, (room f b all.buffers.0).work_numbers, lent, length_markers es, length_pairs ps)

  pub grades_are : b.grades ≡ g
  unfolding bale_of
  grades_are = refl

  pub markers_are : length b.markers ≡ length es / 2
  unfolding bale_of
  markers_are = length_markers es

  pub pairs_are : b.pairs ≡ pairs_of ps
  unfolding bale_of
  pairs_are = refl

  pub cut_buildable : Buildable w g (length es / 2) ps
  cut_buildable =
      subst (λ (x : ℕ). Buildable w x (length es / 2) ps) grades_are
      (subst (λ (x : ℕ). Buildable w b.grades x ps) markers_are
      (accepted_buildable s f b all w ps pairs_are (omega (arith, cut_room, grades_are, markers_are))))

  -- the two answers are small
  pub cut_small : (w' : List ℕ) (c k : ℕ) → Done b (node_total b) (edge_total b) (slot_total b) (put w 0 (built_words b)) w' c k → (c < 4294967296) × (k < 4294967296)
  cut_small w' c k d =
      let z = sized b all.sizes.0 in
      let ok = valid b all.known in
      let once = pairs_apart b all.once in
      let r = components_room b ok once z.grades z.markers z.pairs in
      (omega (arith, d.count, components_few b ok, nodes_count b ok once, r, z.grades, z.markers, z.pairs), omega (arith, d.end, r, z.grades, z.markers, z.pairs))
