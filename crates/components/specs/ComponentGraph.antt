-- What stands where in the record of a graph.
use Rattle.std.specs.Prelude.{◌≡◌, List, [], ◌∷◌, ◌++◌, map, ℕ, zero, suc, ◌+◌, ◌*◌, ◌-◌, ◌≤◌, ◌<◌, length, take}
use Rattle.std.proofs.Math.Path.{refl, ap}
use Rattle.std.proofs.Common.{sym, ◌∙◌, subst, zero-add, arith, ext_get_or, get_or-append-add}
use Rattle.std.proofs.Math.ListN.{get_or, length-append, get_or-append}
use Rattle.std.proofs.lemmas.List.{length-map}
use Rattle.definition.specs.Lists.{range, concat}
use Rattle.definition.specs.Components.{SubgraphNode, SubgraphEdge, Subgraph}
use Rattle.graph_laws.specs.Lists.{length_count}
use Rattle.factor_graph.specs.Words.{kind_code, edge_words, first_slots, graph_words}
use Rattle.components.specs.ComponentWalk.{first_of, slot_of, end_of}
use Rattle.components.specs.ComponentSlots.{map_range}

-- ---- lists one after the other

-- the entries of row v
pub concat-at : (rows : List (List ℕ)) (v j : ℕ) → v < length rows → j < length (get_or rows v []) → get_or (concat rows) (length (concat (take v rows)) + j) 0 ≡ get_or (get_or rows v []) j 0
concat-at [] v j h q = absurd (let z : ⊥ = omega arith in z)
concat-at (r ∷ rows) zero j h q = ap (λ (k : ℕ). get_or (r ++ concat rows) k 0) (zero-add j) ∙ get_or-append r (concat rows) 0 j q
concat-at (r ∷ rows) (suc v) j h q =
    let z : length (r ++ concat (take v rows)) + j ≡ length r + (length (concat (take v rows)) + j) = omega (arith, length-append r (concat (take v rows))) in
    ap (λ (k : ℕ). get_or (r ++ concat rows) k 0) z ∙ get_or-append-add r (concat rows) (length (concat (take v rows)) + j) 0 ∙ concat-at rows v j (omega arith) q

pub row-end : (rows : List (List ℕ)) (v : ℕ) → v < length rows → length (concat (take (suc v) rows)) ≡ length (concat (take v rows)) + length (get_or rows v [])
row-end [] v h = absurd (let z : ⊥ = omega arith in z)
row-end (r ∷ rows) zero h = length-append r [] ∙ omega arith
row-end (r ∷ rows) (suc v) h = omega (arith, length-append r (concat (take (suc v) rows)), length-append r (concat (take v rows)), row-end rows v (omega arith))

pub row_last : (rows : List (List ℕ)) (v : ℕ) → v ≤ length rows → length (concat (take v rows)) ≤ length (concat rows)
row_last rows zero h = omega arith
row_last [] (suc v) h = absurd (let z : ⊥ = omega arith in z)
row_last (r ∷ rows) (suc v) h = omega (arith, length-append r (concat (take v rows)), length-append r (concat rows), row_last rows v (omega arith))

-- the five words of edge k
pub five-at : (es : List SubgraphEdge) (e₀ : SubgraphEdge) (k j : ℕ) → k < length es → j < 5 → get_or (concat (map edge_words es)) (5 * k + j) 0 ≡ get_or (edge_words (get_or es k e₀)) j 0
five-at [] e₀ k j h q = absurd (let z : ⊥ = omega arith in z)
five-at (e ∷ es) e₀ zero j h q = ap (λ (i : ℕ). get_or (edge_words e ++ concat (map edge_words es)) i 0) (let z : 5 * 0 + j ≡ j = omega arith in z) ∙ get_or-append (edge_words e) (concat (map edge_words es)) 0 j q
five-at (e ∷ es) e₀ (suc k) j h q =
    ap (λ (i : ℕ). get_or (edge_words e ++ concat (map edge_words es)) i 0) (let z : 5 * suc k + j ≡ 5 + (5 * k + j) = omega arith in z)
    ∙ get_or-append-add (edge_words e) (concat (map edge_words es)) (5 * k + j) 0 ∙ five-at es e₀ k j (omega arith) q

fives-length : (es : List SubgraphEdge) → length (concat (map edge_words es)) ≡ 5 * length es
fives-length [] = refl
fives-length (e ∷ es) = length-append (edge_words e) (concat (map edge_words es)) ∙ omega (arith, fives-length es)

abbrev pub row_of : SubgraphNode → List ℕ
row_of x = x.edges

first-at : (f : ℕ) (xs : List SubgraphNode) (v : ℕ) → v ≤ length xs → get_or (first_slots f xs) v 0 ≡ f + length (concat (take v (map row_of xs)))
first-at f [] zero h = omega arith
first-at f [] (suc v) h = absurd (let z : ⊥ = omega arith in z)
first-at f (x ∷ xs) zero h = omega arith
first-at f (x ∷ xs) (suc v) h = first-at (f + length x.edges) xs v (omega arith) ∙ omega (arith, length-append x.edges (concat (take v (map row_of xs))))

first_slots-length : (f : ℕ) (xs : List SubgraphNode) → length (first_slots f xs) ≡ suc (length xs)
first_slots-length f [] = refl
first_slots-length f (x ∷ xs) = ap suc (first_slots-length (f + length x.edges) xs)

module _ (labels : List ℕ) (g : Subgraph) (sized : length labels ≡ length g.nodes) where
  abbrev N : ℕ
  N = length g.nodes

  abbrev E : ℕ
  E = length g.edges

  abbrev rows : List (List ℕ)
  rows = map row_of g.nodes

  abbrev S : ℕ
  S = length (concat rows)

  abbrev kinds : List ℕ
  kinds = map (λ (x : SubgraphNode). kind_code x.kind) g.nodes

  abbrev firsts : List ℕ
  firsts = first_slots 0 g.nodes

  abbrev fives : List ℕ
  fives = concat (map edge_words g.edges)

  abbrev w : List ℕ
  w = graph_words labels g

  kinds-length : length kinds ≡ N
  kinds-length = length-map g.nodes (λ (x : SubgraphNode). kind_code x.kind)

  pub words-length : length w ≡ 3 + 3 * length g.nodes + length (concat (map row_of g.nodes)) + 5 * length g.edges
  unfolding graph_words
  words-length =
      omega
      (arith, sized, length-append kinds (labels ++ (firsts ++ (concat rows ++ fives))), length-append labels (firsts ++ (concat rows ++ fives)), length-append firsts (concat rows ++ fives), length-append (concat rows) fives, kinds-length, first_slots-length 0 g.nodes, fives-length g.edges)

  pub words-nodes : get_or w 0 0 ≡ length g.nodes
  unfolding graph_words
  words-nodes = refl

  pub words-edges : get_or w 1 0 ≡ length g.edges
  unfolding graph_words
  words-edges = refl

  behind : (i k : ℕ) → i ≡ suc (suc k) → get_or w i 0 ≡ get_or (kinds ++ (labels ++ (firsts ++ (concat rows ++ fives)))) k 0
  unfolding graph_words
  behind i k q = ap (λ (j : ℕ). get_or (N ∷ E ∷ (kinds ++ (labels ++ (firsts ++ (concat rows ++ fives))))) j 0) q

  past : (xs ys : List ℕ) (n i k : ℕ) → length xs ≡ n → i ≡ n + k → get_or (xs ++ ys) i 0 ≡ get_or ys k 0
  past xs ys n i k e q = ap (λ (j : ℕ). get_or (xs ++ ys) j 0) (let z : i ≡ length xs + k = omega arith in z) ∙ get_or-append-add xs ys k 0

  pub words-kind : (v : ℕ) → v < length g.nodes → get_or w (2 + v) 0 ≡ get_or kinds v 0
  words-kind v h = behind (2 + v) v (omega arith) ∙ get_or-append kinds (labels ++ (firsts ++ (concat rows ++ fives))) 0 v (rw kinds-length h)

  after-kinds : (i k : ℕ) → i ≡ 2 + N + k → get_or w i 0 ≡ get_or (labels ++ (firsts ++ (concat rows ++ fives))) k 0
  after-kinds i k q = behind i (N + k) (omega arith) ∙ past kinds (labels ++ (firsts ++ (concat rows ++ fives))) N (N + k) k kinds-length refl

  pub words-label : (v : ℕ) → v < length g.nodes → get_or w (2 + length g.nodes + v) 0 ≡ get_or labels v 0
  words-label v h = after-kinds (2 + N + v) v refl ∙ get_or-append labels (firsts ++ (concat rows ++ fives)) 0 v (rw sized h)

  after-labels : (i k : ℕ) → i ≡ 2 + 2 * N + k → get_or w i 0 ≡ get_or (firsts ++ (concat rows ++ fives)) k 0
  after-labels i k q = after-kinds i (N + k) (omega arith) ∙ past labels (firsts ++ (concat rows ++ fives)) N (N + k) k sized refl

  -- where the slots of a node begin
  pub words-first : (s v : ℕ) → v ≤ length g.nodes → first_of (length g.nodes) s w v ≡ length (concat (take v (map row_of g.nodes)))
  words-first s v h =
      after-labels (2 + 2 * N + v) v refl
      ∙ get_or-append firsts (concat rows ++ fives) 0 v (omega (arith, first_slots-length 0 g.nodes)) ∙ (first-at 0 g.nodes v h ∙ zero-add (length (concat (take v rows))))

  after-firsts : (i k : ℕ) → i ≡ 3 + 3 * N + k → get_or w i 0 ≡ get_or (concat rows ++ fives) k 0
  after-firsts i k q = after-labels i (suc N + k) (omega arith) ∙ past firsts (concat rows ++ fives) (suc N) (suc N + k) k (first_slots-length 0 g.nodes) refl

  pub words_slot : (s i : ℕ) → i < length (concat (map row_of g.nodes)) → slot_of (length g.nodes) s w i ≡ get_or (concat (map row_of g.nodes)) i 0
  words_slot s i h = after-firsts (3 + 3 * N + i) i refl ∙ get_or-append (concat rows) fives 0 i h

  pub words-end : (e₀ : SubgraphEdge) (k j : ℕ) → k < length g.edges → j < 5 → end_of (length g.nodes) (length (concat (map row_of g.nodes))) w k j ≡ get_or (edge_words (get_or g.edges k e₀)) j 0
  words-end e₀ k j h q =
      after-firsts (3 + 3 * N + S + 5 * k + j) (S + (5 * k + j)) (omega arith) ∙ past (concat rows) fives S (S + (5 * k + j)) (5 * k + j) refl refl ∙ five-at g.edges e₀ k j h q

  -- the slots of a node are its edges
  pub words_row : (v : ℕ) → v < length g.nodes
      → map (slot_of (length g.nodes) (length (concat (map row_of g.nodes))) w) (range (first_of (length g.nodes) (length (concat (map row_of g.nodes))) w v) (first_of (length g.nodes) (length (concat (map row_of g.nodes))) w (v + 1) - first_of (length g.nodes) (length (concat (map row_of g.nodes))) w v))
      ≡ get_or (map row_of g.nodes) v []
  words_row v h =
      let a = length (concat (take v rows)) in
      let r = get_or rows v [] in
      let l : length rows ≡ N = length-map g.nodes row_of in
      let z : v + 1 ≡ suc v = omega arith in
      let f₀ : first_of N S w v ≡ a = words-first S v (omega arith) in
      let f₁ : first_of N S w (v + 1) ≡ length (concat (take (suc v) rows)) = words-first S (v + 1) (omega arith) ∙ ap (λ (k : ℕ). length (concat (take k rows))) z in
      let e = row-end rows v (omega arith) in
      let d : first_of N S w (v + 1) - first_of N S w v ≡ length r = omega (arith, f₀, f₁, e) in
      let b = row_last rows (suc v) (omega arith) in
      ap (λ (k : ℕ). map (slot_of N S w) (range k (first_of N S w (v + 1) - k))) f₀
      ∙ ap (λ (k : ℕ). map (slot_of N S w) (range a k)) (ap (λ (k : ℕ). first_of N S w (v + 1) - k) (sym f₀) ∙ d)
      ∙ ext_get_or 0 (map (slot_of N S w) (range a (length r))) r (length-map (range a (length r)) (slot_of N S w) ∙ length_count a (length r))
      (λ i q.
      let y : i < length r = subst (λ (k : ℕ). i < k) (length-map (range a (length r)) (slot_of N S w) ∙ length_count a (length r)) q in
      map_range (slot_of N S w) a (length r) i y ∙ words_slot S (a + i) (omega (arith, e, b)) ∙ concat-at rows v i (omega arith) y)
