-- Edges written one after the other, five words each, with the degrees that their ends have so far: an edge's place in a node's list is the node's degree before it.
use Rattle.std.specs.Prelude.{◌≡◌, refl, Bool, true, false, cond, get_or, take, drop, set, leb}
use Rattle.std.proofs.Math.Path.{sym, ap, subst}
use Rattle.std.proofs.Common.{◌∙◌, length-set, length-append, drop-cons, get_or-take, length-take-le, le-leb}
use mathlib.Core.List.{List, [], ◌∷◌, ◌++◌, map}
use Prim.Native.Nat.{ℕ, zero, suc, ◌+◌, ◌-◌, ◌*◌, ◌≤◌, ◌<◌}
use native.Mathlib.Omega.{arith}
use Rattle.std.proofs.Math.ListN.{length}
use Rattle.std.proofs.lemmas.List.{length-map}
use Rattle.std.proofs.lemmas.Bool.{lt-leb}
use Rattle.definition.specs.FactorGraph.{Edge, has_tree}
use Rattle.graph_laws.specs.Lists.{All, All-left}
use Rattle.list_laws.specs.Part.{region, length-region}
use Rattle.list_laws.specs.Put.{put, put-none, length-put}
use Rattle.list_laws.specs.PutParts.{put_cons}
use Rattle.factor_graph.specs.BuildGroup.{Countable, countable_step, drop-end}
use Rattle.factor_graph.specs.BuildSums.{sum_of}

pub record Writing : Type 0 where
  pub words : List ℕ
  pub degrees : List ℕ

abbrev pub writing : List ℕ → List ℕ → Writing
writing w d = record { words = w; degrees = d }

abbrev pub edge_by : ℕ → ℕ → ℕ → Edge ℕ
edge_by a c l = record { node1 = a; node2 = c; message_length = l }

abbrev pub one_more : List ℕ → ℕ → List ℕ
one_more d v = set d v (get_or d v 0 + 1)

-- the edge's words, where d has the degrees before it
abbrev pub words_after : List ℕ → Edge ℕ → List ℕ
words_after d e = e.node1 ∷ e.node2 ∷ get_or d e.node1 0 ∷ get_or (one_more d e.node1) e.node2 0 ∷ e.message_length ∷ []

unfoldable pub push_edge : ℕ → Edge ℕ → Writing → Writing
push_edge k e s = record { words = put s.words (5 * k) (words_after s.degrees e); degrees = one_more (one_more s.degrees e.node1) e.node2 }

unfoldable pub push_all : ℕ → List (Edge ℕ) → Writing → Writing
push_all k [] s = s
push_all k (e ∷ es) s = push_all (k + 1) es (push_edge k e s)

pub push_append : (k : ℕ) (xs ys : List (Edge ℕ)) (s : Writing) → push_all k (xs ++ ys) s ≡ push_all (k + length xs) ys (push_all k xs s)
unfolding push_all
push_append k [] ys s = let e : k + 0 ≡ k = omega arith in rw e
push_append k (x ∷ xs) ys s =
    let e : k + 1 + length xs ≡ k + suc (length xs) = omega arith in
    push_append (k + 1) xs ys (push_edge k x s) ∙ ap (λ (n : ℕ). push_all n ys (push_all (k + 1) xs (push_edge k x s))) e

pub push_one : (k : ℕ) (e : Edge ℕ) (s : Writing) → push_edge k e s ≡ push_all k (e ∷ []) s
unfolding push_all
push_one k e s = refl

-- ---- what a writing may be given

abbrev pub Inside : ℕ → Edge ℕ → Type 0
Inside n e = (e.node1 < n) × (e.node2 < n)

pub record Writable (k : ℕ) (es : List (Edge ℕ)) (s : Writing) : Type 0 where
  pub room : 5 * (k + length es) ≤ length s.words
  pub inside : All (Inside (length s.degrees)) es
  pub small : Countable (2 * length es) s.degrees

length-one_more : (d : List ℕ) (v : ℕ) → length (one_more d v) ≡ length d
length-one_more d v = length-set d v (get_or d v 0 + 1)

pub push_degrees : (k : ℕ) (e : Edge ℕ) (s : Writing) → length (push_edge k e s).degrees ≡ length s.degrees
unfolding push_edge
push_degrees k e s = length-one_more (one_more s.degrees e.node1) e.node2 ∙ length-one_more s.degrees e.node1

pub push_words : (k : ℕ) (e : Edge ℕ) (s : Writing) → 5 * (k + 1) ≤ length s.words → length (push_edge k e s).words ≡ length s.words
unfolding push_edge
push_words k e s h = length-put s.words (5 * k) (words_after s.degrees e) (omega arith)

pub writable_head : (k : ℕ) (e : Edge ℕ) (es : List (Edge ℕ)) (s : Writing) → Writable k (e ∷ es) s → Writable k (e ∷ []) s
writable_head k e es s w = record { room = omega (arith, w.room); inside = (w.inside.0, tt); small = λ v. omega (arith, w.small v) }

pub writable_tail : (k : ℕ) (e : Edge ℕ) (es : List (Edge ℕ)) (s : Writing) → Writable k (e ∷ es) s → Writable (k + 1) es (push_edge k e s)
unfolding push_edge
writable_tail k e es s w =
    record {
      room = omega (arith, w.room, push_words k e s (omega (arith, w.room)));
      inside = subst (λ (n : ℕ). All (Inside n) es) (sym (push_degrees k e s)) w.inside.1;
      small =
          countable_step (2 * length es) (one_more s.degrees e.node1) e.node2
          (countable_step (suc (2 * length es)) s.degrees e.node1 (λ v. omega (arith, w.small v)));
    }

pub writable_left : (k : ℕ) (xs ys : List (Edge ℕ)) (s : Writing) → Writable k (xs ++ ys) s → Writable k xs s
writable_left k xs ys s w =
    record {
      room = omega (arith, w.room, length-append xs ys);
      inside = All-left (Inside (length s.degrees)) xs ys w.inside;
      small = λ v. omega (arith, w.small v, length-append xs ys);
    }

pub writable_right : (k : ℕ) (xs ys : List (Edge ℕ)) (s : Writing) → Writable k (xs ++ ys) s → Writable (k + length xs) ys (push_all k xs s)
unfolding push_all
writable_right k [] ys s w = let e : k + 0 ≡ k = omega arith in rw e w
writable_right k (x ∷ xs) ys s w =
    let e : k + 1 + length xs ≡ k + suc (length xs) = omega arith in
    subst (λ (n : ℕ). Writable n ys (push_all (k + 1) xs (push_edge k x s))) e (writable_right (k + 1) xs ys (push_edge k x s) (writable_tail k x (xs ++ ys) s w))

pub pushed_degrees : (k : ℕ) (es : List (Edge ℕ)) (s : Writing) → length (push_all k es s).degrees ≡ length s.degrees
unfolding push_all
pushed_degrees k [] s = refl
pushed_degrees k (e ∷ es) s = pushed_degrees (k + 1) es (push_edge k e s) ∙ push_degrees k e s

-- five words stored
pub five : (w : List ℕ) (at a b c d e : ℕ) → at + 5 ≤ length w → set (set (set (set (set w at a) (at + 1) b) (at + 2) c) (at + 3) d) (at + 4) e ≡ put w at (a ∷ b ∷ c ∷ d ∷ e ∷ [])
five w at a b c d e h =
    let w1 = set w at a in
    let w2 = set w1 (at + 1) b in
    let w3 = set w2 (at + 2) c in
    let w4 = set w3 (at + 3) d in
    let l1 : length w1 ≡ length w = length-set w at a in
    let l2 : length w2 ≡ length w = length-set w1 (at + 1) b ∙ l1 in
    let l3 : length w3 ≡ length w = length-set w2 (at + 2) c ∙ l2 in
    let l4 : length w4 ≡ length w = length-set w3 (at + 3) d ∙ l3 in
    let l5 : length (set w4 (at + 4) e) ≡ length w = length-set w4 (at + 4) e ∙ l4 in
    let i4 : at + 3 + 1 ≡ at + 4 = omega arith in
    let i3 : at + 2 + 1 ≡ at + 3 = omega arith in
    let i2 : at + 1 + 1 ≡ at + 2 = omega arith in
    put-none (set w4 (at + 4) e) (at + 4 + 1) (omega arith)
    ∙ put_cons w4 (at + 4) e [] (omega arith)
    ∙ ap (λ (i : ℕ). put w4 i (e ∷ [])) (sym i4)
    ∙ put_cons w3 (at + 3) d (e ∷ []) (omega arith)
    ∙ ap (λ (i : ℕ). put w3 i (d ∷ e ∷ [])) (sym i3)
    ∙ put_cons w2 (at + 2) c (d ∷ e ∷ []) (omega arith)
    ∙ ap (λ (i : ℕ). put w2 i (c ∷ d ∷ e ∷ [])) (sym i2)
    ∙ put_cons w1 (at + 1) b (c ∷ d ∷ e ∷ []) (omega arith)
    ∙ put_cons w at a (b ∷ c ∷ d ∷ e ∷ []) (omega arith)

-- ---- the edges of a marker, by the numbers of its nodes

abbrev pub tree_edge : ℕ → ℕ → Edge ℕ
tree_edge t g = edge_by t g 2

abbrev pub grade_edge : ℕ → ℕ → Edge ℕ
grade_edge f g = edge_by g f 2

unfoldable pub marker_edges_by : ℕ → ℕ → ℕ → List ℕ → List (Edge ℕ)
marker_edges_by f i t gs =
    cond (has_tree gs)
    (edge_by t f (length gs + 1) ∷ map (tree_edge t) gs ++ edge_by i f 2 ∷ [])
    (map (grade_edge f) gs ++ edge_by i f 2 ∷ [])

pub length-marker_edges_by : (f i t : ℕ) (gs : List ℕ) → length (marker_edges_by f i t gs) ≡ length gs + 1 + cond (leb 2 (length gs)) 1 0
unfolding marker_edges_by
length-marker_edges_by f i t gs = go (leb 2 (length gs))
  where
    go : (b : Bool) → length (cond b (edge_by t f (length gs + 1) ∷ map (tree_edge t) gs ++ edge_by i f 2 ∷ []) (map (grade_edge f) gs ++ edge_by i f 2 ∷ [])) ≡ length gs + 1 + cond b 1 0
    go true = omega (arith, length-append (map (tree_edge t) gs) (edge_by i f 2 ∷ []), length-map gs (tree_edge t))
    go false = omega (arith, length-append (map (grade_edge f) gs) (edge_by i f 2 ∷ []), length-map gs (grade_edge f))

-- ---- marker after marker: what each has of the grades is said by the counts

-- n markers from m on, whose factors begin at f, inputs at i; the next tree is t, and the grades of marker m begin at s
unfoldable pub edges_from : ℕ → ℕ → List ℕ → List ℕ → ℕ → ℕ → ℕ → ℕ → List (Edge ℕ)
edges_from f i counts grades zero m t s = []
edges_from f i counts grades (suc n) m t s =
    marker_edges_by (f + m) (i + m) t (region grades s (get_or counts m 0)) ++ edges_from f i counts grades n (m + 1) (t + cond (leb 2 (get_or counts m 0)) 1 0) (s + get_or counts m 0)

-- ---- what the functions' proofs cite

pub push_five : (w d : List ℕ) (k a b l : ℕ) → 5 * k + 5 ≤ length w →
    writing (set (set (set (set (set w (5 * k) a) (5 * k + 1) b) (5 * k + 2) (get_or d a 0)) (5 * k + 3) (get_or (one_more d a) b 0)) (5 * k + 4) l) (one_more (one_more d a) b) ≡ push_edge k (edge_by a b l) (writing w d)
unfolding push_edge
push_five w d k a b l h = ap (λ (x : List ℕ). writing x (one_more (one_more d a) b)) (five w (5 * k) a b (get_or d a 0) (get_or (one_more d a) b 0) l h)

pub record TreePushed (t k : ℕ) (grades w₀ d₀ w d : List ℕ) (i : ℕ) : Type 0 where
  pub rest : push_all (k + i) (map (tree_edge t) (drop i grades)) (writing w d) ≡ push_all k (map (tree_edge t) grades) (writing w₀ d₀)
  pub writable : Writable (k + i) (map (tree_edge t) (drop i grades)) (writing w d)

module _ (t k : ℕ) (grades w₀ d₀ w d : List ℕ) (i : ℕ) (h : i < length grades) (p : TreePushed t k grades w₀ d₀ w d i) where
  abbrev next : Edge ℕ
  next = tree_edge t (get_or grades i 0)

  split : map (tree_edge t) (drop i grades) ≡ next ∷ map (tree_edge t) (drop (i + 1) grades)
  split = let a : i + 1 ≡ suc i = omega arith in rw a (ap (map (tree_edge t)) (drop-cons grades i 0 h))

  writable_now : Writable (k + i) (next ∷ map (tree_edge t) (drop (i + 1) grades)) (writing w d)
  writable_now = subst (λ (es : List (Edge ℕ)). Writable (k + i) es (writing w d)) split p.writable

  pub tree-turn : (w' d' : List ℕ) → writing w' d' ≡ push_edge (k + i) next (writing w d) → TreePushed t k grades w₀ d₀ w' d' (i + 1)
  unfolding push_all
  tree-turn w' d' e =
      let a : k + i + 1 ≡ k + (i + 1) = omega arith in
      let es = map (tree_edge t) (drop (i + 1) grades) in
      record {
        rest =
            ap (push_all (k + (i + 1)) es) e
            ∙ ap (λ (n : ℕ). push_all n es (push_edge (k + i) next (writing w d))) (sym a)
            ∙ ap (λ (l : List (Edge ℕ)). push_all (k + i) l (writing w d)) (sym split)
            ∙ p.rest;
        writable = subst (λ (n : ℕ). Writable n es (writing w' d')) a (subst (Writable (k + i + 1) es) (sym e) (writable_tail (k + i) next es (writing w d) writable_now));
      }

pub tree_done : (t k : ℕ) (grades w₀ d₀ w d : List ℕ) (i : ℕ) → length grades ≤ i → TreePushed t k grades w₀ d₀ w d i → writing w d ≡ push_all k (map (tree_edge t) grades) (writing w₀ d₀)
unfolding push_all
tree_done t k grades w₀ d₀ w d i h p = ap (λ (l : List ℕ). push_all (k + i) (map (tree_edge t) l) (writing w d)) (sym (drop-end i grades h)) ∙ p.rest

-- ---- the three shapes of a marker

module _ (f i t k : ℕ) (gs : List ℕ) (s : Writing) (w : Writable k (marker_edges_by f i t gs) s) where
  abbrev last : Edge ℕ
  last = edge_by i f 2

  shape : (c : Bool) → leb 2 (length gs) ≡ c
      → marker_edges_by f i t gs ≡ cond c (edge_by t f (length gs + 1) ∷ map (tree_edge t) gs ++ last ∷ []) (map (grade_edge f) gs ++ last ∷ [])
  unfolding marker_edges_by
  shape c e = rw e

  bare : (c : Bool) → leb 2 (length gs) ≡ c → (es : List (Edge ℕ)) → cond c (edge_by t f (length gs + 1) ∷ map (tree_edge t) gs ++ last ∷ []) (map (grade_edge f) gs ++ last ∷ []) ≡ es → marker_edges_by f i t gs ≡ es
  bare c e es q = shape c e ∙ q

  -- no grade
  none : length gs ≡ 0 → marker_edges_by f i t gs ≡ last ∷ []
  none h = bare false (lt-leb 2 (length gs) (omega arith)) (last ∷ []) (empty gs h)
    where
      empty : (l : List ℕ) → length l ≡ 0 → map (grade_edge f) l ++ last ∷ [] ≡ last ∷ []
      empty [] q = refl
      empty (x ∷ l) q = absurd (let z : ⊥ = omega arith in z)

  pub none_only : length gs ≡ 0 → Writable k (last ∷ []) s
  none_only h = subst (λ (es : List (Edge ℕ)). Writable k es s) (none h) w

  pub none-whole : length gs ≡ 0 → (s1 : Writing) → s1 ≡ push_edge k last s → s1 ≡ push_all k (marker_edges_by f i t gs) s
  none-whole h s1 e = e ∙ push_one k last s ∙ ap (λ (es : List (Edge ℕ)). push_all k es s) (sym (none h))

  -- one grade
  abbrev first : Edge ℕ
  first = edge_by (get_or gs 0 0) f 2

  one : length gs ≡ 1 → marker_edges_by f i t gs ≡ first ∷ last ∷ []
  one h = bare false (lt-leb 2 (length gs) (omega arith)) (first ∷ last ∷ []) (single gs h)
    where
      single : (l : List ℕ) → length l ≡ 1 → map (grade_edge f) l ++ last ∷ [] ≡ edge_by (get_or l 0 0) f 2 ∷ last ∷ []
      single [] q = absurd (let z : ⊥ = omega arith in z)
      single (x ∷ []) q = refl
      single (x ∷ y ∷ l) q = absurd (let z : ⊥ = omega arith in z)

  one_writable : length gs ≡ 1 → Writable k (first ∷ last ∷ []) s
  one_writable h = subst (λ (es : List (Edge ℕ)). Writable k es s) (one h) w

  pub one-first : length gs ≡ 1 → Writable k (first ∷ []) s
  one-first h = writable_head k first (last ∷ []) s (one_writable h)

  pub one_last : length gs ≡ 1 → (s1 : Writing) → s1 ≡ push_edge k first s → Writable (k + 1) (last ∷ []) s1
  one_last h s1 e = subst (Writable (k + 1) (last ∷ [])) (sym e) (writable_tail k first (last ∷ []) s (one_writable h))

  pub one-whole : length gs ≡ 1 → (s1 s2 : Writing) → s1 ≡ push_edge k first s → s2 ≡ push_edge (k + 1) last s1 → s2 ≡ push_all k (marker_edges_by f i t gs) s
  unfolding push_all
  one-whole h s1 s2 e1 e2 = e2 ∙ ap (push_edge (k + 1) last) e1 ∙ ap (λ (es : List (Edge ℕ)). push_all k es s) (sym (one h))

  -- two grades or more
  abbrev top : Edge ℕ
  top = edge_by t f (length gs + 1)

  abbrev leaves : List (Edge ℕ)
  leaves = map (tree_edge t) gs

  many : 2 ≤ length gs → marker_edges_by f i t gs ≡ top ∷ leaves ++ last ∷ []
  many h = shape true (le-leb 2 (length gs) h)

  many_writable : 2 ≤ length gs → Writable k (top ∷ leaves ++ last ∷ []) s
  many_writable h = subst (λ (es : List (Edge ℕ)). Writable k es s) (many h) w

  pub many-first : 2 ≤ length gs → Writable k (top ∷ []) s
  many-first h = writable_head k top (leaves ++ last ∷ []) s (many_writable h)

  pub many-leaves : 2 ≤ length gs → (s1 : Writing) → s1 ≡ push_edge k top s → Writable (k + 1) leaves s1
  many-leaves h s1 e = subst (Writable (k + 1) leaves) (sym e) (writable_left (k + 1) leaves (last ∷ []) (push_edge k top s) (writable_tail k top (leaves ++ last ∷ []) s (many_writable h)))

  pub many-last : 2 ≤ length gs → (s1 s2 : Writing) → s1 ≡ push_edge k top s → s2 ≡ push_all (k + 1) leaves s1 → Writable (k + 1 + length gs) (last ∷ []) s2
  many-last h s1 s2 e1 e2 =
      subst (Writable (k + 1 + length gs) (last ∷ [])) (sym (e2 ∙ ap (push_all (k + 1) leaves) e1))
      (subst (λ (n : ℕ). Writable (k + 1 + n) (last ∷ []) (push_all (k + 1) leaves (push_edge k top s))) (length-map gs (tree_edge t))
      (writable_right (k + 1) leaves (last ∷ []) (push_edge k top s) (writable_tail k top (leaves ++ last ∷ []) s (many_writable h))))

  pub many-whole : 2 ≤ length gs → (s1 s2 s3 : Writing) → s1 ≡ push_edge k top s → s2 ≡ push_all (k + 1) leaves s1 → s3 ≡ push_edge (k + 1 + length gs) last s2 → s3 ≡ push_all k (marker_edges_by f i t gs) s
  unfolding push_all
  many-whole h s1 s2 s3 e1 e2 e3 =
      e3
      ∙ ap (push_edge (k + 1 + length gs) last) (e2 ∙ ap (push_all (k + 1) leaves) e1)
      ∙ ap (λ (n : ℕ). push_edge (k + 1 + n) last (push_all (k + 1) leaves (push_edge k top s))) (sym (length-map gs (tree_edge t)))
      ∙ sym (push_append (k + 1) leaves (last ∷ []) (push_edge k top s))
      ∙ ap (λ (es : List (Edge ℕ)). push_all k es s) (sym (many h))

-- ---- marker by marker

pub part_length : (s n : ℕ) → s + n - s ≡ n
part_length s n = omega arith

abbrev pub trees_of : ℕ → ℕ
trees_of n = cond (leb 2 n) 1 0

pub record MarkersPushed (f M : ℕ) (counts grades w₀ d₀ w d : List ℕ) (m t s k : ℕ) : Type 0 where
  pub starts : s + sum_of (drop m (take M counts)) ≤ length grades
  pub trees : t + (M - m) ≤ f + 3 * M
  pub rest : push_all k (edges_from f (f + M) counts grades (M - m) m t s) (writing w d) ≡ push_all 0 (edges_from f (f + M) counts grades M 0 (f + 2 * M) 0) (writing w₀ d₀)
  pub writable : Writable k (edges_from f (f + M) counts grades (M - m) m t s) (writing w d)

module _ (f M : ℕ) (counts grades w₀ d₀ w d : List ℕ) (m t s k : ℕ) (fits : M ≤ length counts) (h : m < M) (p : MarkersPushed f M counts grades w₀ d₀ w d m t s k) where
  abbrev n : ℕ
  n = get_or counts m 0

  abbrev own : List (Edge ℕ)
  own = marker_edges_by (f + m) (f + M + m) t (region grades s n)

  abbrev others : List (Edge ℕ)
  others = edges_from f (f + M) counts grades (M - (m + 1)) (m + 1) (t + trees_of n) (s + n)

  sum_split : sum_of (drop m (take M counts)) ≡ n + sum_of (drop (m + 1) (take M counts))
  sum_split =
      let a : m + 1 ≡ suc m = omega arith in
      ap sum_of (drop-cons (take M counts) m 0 (omega (arith, length-take-le M counts fits)) ∙ ap (λ (j : ℕ). get_or (take M counts) m 0 ∷ drop j (take M counts)) (sym a) ∙ ap (λ (x : ℕ). x ∷ drop (m + 1) (take M counts)) (get_or-take M counts m 0 h))

  pub marker_room : s + n ≤ length grades
  marker_room = omega (arith, p.starts, sum_split)

  marker_split : edges_from f (f + M) counts grades (M - m) m t s ≡ own ++ others
  unfolding edges_from
  marker_split = let a : M - m ≡ suc (M - (m + 1)) = omega arith in rw a

  own-length : length own ≡ n + 1 + trees_of n
  own-length =
      let e : length (region grades s n) ≡ n = length-region grades s n marker_room in
      length-marker_edges_by (f + m) (f + M + m) t (region grades s n) ∙ ap (λ (j : ℕ). j + 1 + trees_of j) e

  writable_split : Writable k (own ++ others) (writing w d)
  writable_split = subst (λ (es : List (Edge ℕ)). Writable k es (writing w d)) marker_split p.writable

  pub marker_part : length (region grades s (s + n - s)) ≡ n
  marker_part = ap (λ (j : ℕ). length (region grades s j)) (part_length s n) ∙ length-region grades s n marker_room

  pub marker_writable : Writable k own (writing w d)
  marker_writable = writable_left k own others (writing w d) writable_split

  -- as the part that is lent says it
  abbrev lent : List (Edge ℕ)
  lent = marker_edges_by (f + m) (f + M + m) t (region grades s (s + n - s))

  pub marker_lent : Writable k lent (writing w d)
  marker_lent = subst (λ (j : ℕ). Writable k (marker_edges_by (f + m) (f + M + m) t (region grades s j)) (writing w d)) (sym (part_length s n)) marker_writable

  few : trees_of n ≤ 1
  few = go (leb 2 n)
    where
      go : (b : Bool) → cond b 1 0 ≤ 1
      go true = omega arith
      go false = omega arith

  marker_next : (w' d' : List ℕ) → writing w' d' ≡ push_all k own (writing w d) → MarkersPushed f M counts grades w₀ d₀ w' d' (m + 1) (t + trees_of n) (s + n) (k + (n + 1 + trees_of n))
  marker_next w' d' e =
      record {
        starts = omega (arith, p.starts, sum_split);
        trees = omega (arith, p.trees, few);
        rest =
            ap (λ (j : ℕ). push_all (k + j) others (writing w' d')) (sym own-length)
            ∙ ap (push_all (k + length own) others) e
            ∙ sym (push_append k own others (writing w d))
            ∙ ap (λ (es : List (Edge ℕ)). push_all k es (writing w d)) (sym marker_split)
            ∙ p.rest;
        writable =
            subst (λ (j : ℕ). Writable (k + j) others (writing w' d')) own-length
            (subst (Writable (k + length own) others) (sym e) (writable_right k own others (writing w d) writable_split));
      }

  pub marker_turn : (w' d' : List ℕ) (r : ℕ) → writing w' d' ≡ push_all k lent (writing w d) → r ≡ trees_of n → MarkersPushed f M counts grades w₀ d₀ w' d' (m + 1) (t + r) (s + n) (k + (n + 1 + r))
  marker_turn w' d' r e q =
      subst (λ (x : ℕ). MarkersPushed f M counts grades w₀ d₀ w' d' (m + 1) (t + x) (s + n) (k + (n + 1 + x))) (sym q)
      (marker_next w' d' (e ∙ ap (λ (j : ℕ). push_all k (marker_edges_by (f + m) (f + M + m) t (region grades s j)) (writing w d)) (part_length s n)))

pub markers_done : (f M : ℕ) (counts grades w₀ d₀ w d : List ℕ) (m t s k : ℕ) → M ≤ m → MarkersPushed f M counts grades w₀ d₀ w d m t s k
    → writing w d ≡ push_all 0 (edges_from f (f + M) counts grades M 0 (f + 2 * M) 0) (writing w₀ d₀)
unfolding edges_from push_all
markers_done f M counts grades w₀ d₀ w d m t s k h p =
    let a : M - m ≡ 0 = omega arith in
    ap (λ (j : ℕ). push_all k (edges_from f (f + M) counts grades j m t s) (writing w d)) (sym a) ∙ p.rest
