-- Locality, of the whole answer: the part entered by itself is accepted and answers what the part yields in the whole.
use Prim.Native.Nat.{ℕ, zero, suc, ◌+◌, ◌≤◌, ◌<◌}
use native.Mathlib.Omega.{arith}
use Rattle.std.proofs.Common.{add-zero, sym, ◌∙◌, subst}
use Rattle.std.proofs.Math.Path.{◌≡◌, refl, ap}
use Rattle.std.specs.Prelude.{Bool, not, T, ltb}
use Rattle.std.proofs.Math.Bool.{true, false}
use Rattle.std.proofs.Math.Option.{Option, none, some}
use mathlib.Core.List.{List, [], ◌∷◌, map}
use Rattle.std.proofs.Math.Dec.{eqb, ltb→lt, nltb→le}
use Rattle.std.proofs.Math.ListN.{length, get_elem?}
use Rattle.std.proofs.lemmas.List.{length-map}
use Rattle.graph_laws.specs.Bools.{not-true, eqb_sound, eqb_same}
use Rattle.definition.specs.Lists.{filter}
use Rattle.definition.specs.Vectors.{Message}
use Rattle.definition.specs.Settings.{Settings}
use Rattle.definition.specs.FactorGraph.{Bale, Node, grade_node, factor_node, input_node, tree_node, eq_node, built_edges, built_graph, grade}
use Rattle.definition.specs.Components.{components_of}
use Rattle.definition.specs.Directions.{MessageNode, MessageGraph, message_graph, message_graph_of, messages_in}
use Rattle.definition.specs.Messages.{initial_belief}
use Rattle.definition.specs.Run.{run}
use Rattle.definition.specs.Answer.{marginal, beliefs_among, part_answer, answers_of, answers_from, answer}
use Rattle.definition.specs.Answer as Answer
use Rattle.definition.specs.PartAlone.{grades_in, markers_in, part_alone}
use Rattle.graph_laws.specs.Lists.{All, All-append, All-mono, mem_self, filter_append, filter_none, filter-every, append_none}
use Rattle.graph_laws.specs.Ranks.{get_d_index}
use Rattle.graph_laws.specs.Components.{Holds, Both}
use Rattle.graph_laws.specs.Names.{Valid, eq_node-same}
use Rattle.graph_laws.specs.Renumbering.{name, of_grade_lem}
use Rattle.graph_laws.specs.Locality.{Part, of_nodes, alone-components, alone-subgraph, all-components}
use Rattle.graph_laws.specs.Accepted.{Passes, passes_all, valid, alone_accepted}
use Rattle.definition.specs.Refusals.{Buffers}
use Rattle.claims.specs.Parts.{AcceptedPart}
use Rattle.claims.specs.Claims.{relabel_belief, relabel_answer, Alike}

-- ---- options and lists

abbrev IsThere : {A : Type 0} → Option A → Type 0
IsThere none = ⊥
IsThere (some x) = Unit {0}

abbrev or_else : {A : Type 0} → A → Option A → A
or_else d none = d
or_else d (some x) = x

some_same : {A : Type 0} {x y : A} → some x ≡ some y → x ≡ y
some_same {x = x} h = ap (or_else x) h

-- ---- a part by its number

abbrev pub OnSome : {A : Type 0} → (A → Type 0) → Option A → Type 0
OnSome P none = Unit {0}
OnSome P (some x) = P x

all_nth : {A : Type 0} (P : A → Type 0) (xs : List A) (n : ℕ) → All P xs → OnSome P (get_elem? xs n)
all_nth P [] n h = tt
all_nth P (x ∷ xs) zero h = h.0
all_nth P (x ∷ xs) (suc n) h = all_nth P xs n h.1

pub is-part : (b : Bale) (v : Valid b) (n : ℕ) (p : List Node) → get_elem? (components_of b) n ≡ some p → Part b v p
is-part b v n p e = subst (OnSome (Part b v)) e (all_nth (Part b v) (components_of b) n (all-components b v))

-- ---- the labels

module _ (b : Bale) (v : Valid b) (p : List Node) (is : Part b v p) where
  abbrev gs : List ℕ
  gs = grades_in b p

  abbrev ρ : Node → Node
  ρ = name (grades_in b p) (markers_in b p)

  both : All (Both eq_node p) (built_edges b)
  unfolding built_graph
  both = is.both

  beliefs_relabelled : (s : Settings) (ms : List Message) (ns : List Node) (xs : List MessageNode) → All (Holds eq_node p) ns → map (relabel_belief gs) (beliefs_among s ms (map ρ ns) xs) ≡ beliefs_among s ms ns xs
  unfolding beliefs_among
  beliefs_relabelled s ms [] xs h = refl
  beliefs_relabelled s ms (grade_node g ∷ ns) [] h = refl
  beliefs_relabelled s ms (factor_node m ∷ ns) [] h = refl
  beliefs_relabelled s ms (input_node m ∷ ns) [] h = refl
  beliefs_relabelled s ms (tree_node m ∷ ns) [] h = refl
  beliefs_relabelled s ms (grade_node g ∷ ns) (x ∷ xs) h =
      λ i. record { grade = get_d_index eqb eqb_sound eqb_same 0 g gs (of_grade_lem b v p both (of_nodes b v p is) g h.0) i; value = marginal (initial_belief s grade) (messages_in x ms) }
      ∷ beliefs_relabelled s ms ns xs h.1 i
  beliefs_relabelled s ms (factor_node m ∷ ns) (x ∷ xs) h = beliefs_relabelled s ms ns xs h.1
  beliefs_relabelled s ms (input_node m ∷ ns) (x ∷ xs) h = beliefs_relabelled s ms ns xs h.1
  beliefs_relabelled s ms (tree_node m ∷ ns) (x ∷ xs) h = beliefs_relabelled s ms ns xs h.1

  part_relabelled : (s : Settings) (n m : ℕ) (t : MessageGraph) → relabel_answer n gs (part_answer s m (map ρ p) t) ≡ part_answer s n p t
  unfolding part_answer
  part_relabelled s n m t =
      λ i. record {
        number = n;
        ending = (run s t).ending;
        steps = (run s t).state.steps;
        beliefs = beliefs_relabelled s (run s t).state.store.msg_in p t.nodes (mem_self eq_node eq_node-same p) i;
      }

  same-message_graph : message_graph_of (part_alone b p) (map ρ p) ≡ message_graph_of b p
  unfolding message_graph_of
  same-message_graph = ap message_graph (alone-subgraph b v p is)

  answers_of_relabelled : (s : Settings) (n m : ℕ) → map (relabel_answer n gs) (answers_of s (part_alone b p) m (map ρ p)) ≡ answers_of s b n p
  unfolding answers_of
  answers_of_relabelled s n m =
      ap (λ (l : ℕ). map (relabel_answer n gs) (elim (ltb 2 l) as (λ _. List Answer.PartAnswer) [ true ↦ part_answer s m (map ρ p) (message_graph_of (part_alone b p) (map ρ p)) ∷ [] | false ↦ [] ])) (length-map p ρ)
      ∙ go (ltb 2 (length p))
    where
      go : (c : Bool) → map (relabel_answer n gs) (elim c as (λ _. List Answer.PartAnswer) [ true ↦ part_answer s m (map ρ p) (message_graph_of (part_alone b p) (map ρ p)) ∷ [] | false ↦ [] ])
          ≡ (elim c as (λ _. List Answer.PartAnswer) [ true ↦ part_answer s n p (message_graph_of b p) ∷ [] | false ↦ [] ])
      go true = ap (λ (t : MessageGraph). relabel_answer n gs (part_answer s m (map ρ p) t) ∷ []) same-message_graph ∙ ap (λ (q : Answer.PartAnswer). q ∷ []) (part_relabelled s n m (message_graph_of b p))
      go false = refl

  answer_relabelled : (s : Settings) (n : ℕ) → map (relabel_answer n gs) (answer s (part_alone b p)) ≡ answers_of s b n p
  unfolding answer answers_from
  answer_relabelled s n =
      ap (λ (ps : List (List Node)). map (relabel_answer n gs) (answers_from s (part_alone b p) 0 ps)) (alone-components b v p is)
      ∙ ap (map (relabel_answer n gs)) (append_none (answers_of s (part_alone b p) 0 (map ρ p)))
      ∙ answers_of_relabelled s n 0

  -- of at most 2 nodes it answers nothing
  answers_of-none : (s : Settings) (n : ℕ) → length p ≤ 2 → answers_of s b n p ≡ []
  unfolding answers_of
  answers_of-none s n l = go (ltb 2 (length p)) (λ t. ltb→lt 2 (length p) t)
    where
      go : (c : Bool) → (T c → 2 < length p) → ◌≡◌ {A = List Answer.PartAnswer} (elim c [ true ↦ part_answer s n p (message_graph_of b p) ∷ [] | false ↦ [] ]) []
      go true f = absurd (let z : ⊥ = omega (arith, f tt) in z)
      go false f = refl

  map-none : {A B : Type 0} (f : A → B) (l : List A) → map f l ≡ [] → l ≡ []
  map-none f [] h = refl
  map-none {B = B} f (x ∷ l) h = absurd (subst full h tt)
    where
      full : List B → Type 0
      full [] = ⊥
      full (y ∷ ys) = Unit {0}

  answer-none : (s : Settings) → length p ≤ 2 → answer s (part_alone b p) ≡ []
  answer-none s l = map-none (relabel_answer 0 gs) (answer s (part_alone b p)) (answer_relabelled s 0 ∙ answers_of-none s 0 l)

  -- and of more than 2 nodes one answer
  answers_of-one : (s : Settings) (n : ℕ) → 2 < length p → length (answers_of s b n p) ≡ 1
  unfolding answers_of
  answers_of-one s n l = go (ltb 2 (length p)) (λ e. nltb→le 2 (length p) e)
    where
      go : (c : Bool) → (T (not c) → length p ≤ 2) → length {A = Answer.PartAnswer} (elim c [ true ↦ part_answer s n p (message_graph_of b p) ∷ [] | false ↦ [] ]) ≡ 1
      go true f = refl
      go false f = absurd (let z : ⊥ = omega (arith, f tt) in z)

  answer-one : (s : Settings) → 2 < length p → length (answer s (part_alone b p)) ≡ 1
  answer-one s l = sym (length-map (answer s (part_alone b p)) (relabel_answer 0 gs)) ∙ ap length (answer_relabelled s 0) ∙ answers_of-one s 0 l

-- ---- what the whole answers with a part's number is what the part yields

abbrev Numbered : ℕ → Answer.PartAnswer → Bool
Numbered n q = eqb q.number n

module _ (s : Settings) (b : Bale) where
  answers_of-number : (P : ℕ → Type 0) (k : ℕ) (p : List Node) → P k → All (λ q. P q.number) (answers_of s b k p)
  unfolding answers_of part_answer
  answers_of-number P k p h = go (ltb 2 (length p))
    where
      go : (c : Bool) → All {A = Answer.PartAnswer} (λ q. P q.number) (elim c [ true ↦ part_answer s k p (message_graph_of b p) ∷ [] | false ↦ [] ])
      go true = (h, tt)
      go false = tt

  answers_from-number : (k : ℕ) (ps : List (List Node)) → All (λ q. k ≤ q.number) (answers_from s b k ps)
  unfolding answers_from
  answers_from-number k [] = tt
  answers_from-number k (p ∷ ps) =
      All-append (λ q. k ≤ q.number) (answers_of s b k p) (answers_from s b (suc k) ps) (answers_of-number (λ n. k ≤ n) k p (omega arith))
      (All-mono (λ q. suc k ≤ q.number) (λ q. k ≤ q.number) (λ q l. omega arith) (answers_from s b (suc k) ps) (answers_from-number (suc k) ps))

  apart : (n m : ℕ) → (m ≡ n → ⊥) → eqb m n ≡ false
  apart n m h = not-true (eqb m n) (λ t. h (eqb_sound m n t))

  of_number : (k i : ℕ) (ps : List (List Node)) (p : List Node) → get_elem? ps i ≡ some p → filter (Numbered (k + i)) (answers_from s b k ps) ≡ answers_of s b (k + i) p
  unfolding answers_from
  of_number k i [] p h = absurd (subst IsThere (sym h) tt)
  of_number k zero (x ∷ ps) p h =
      filter_append (Numbered (k + 0)) (answers_of s b k x) (answers_from s b (suc k) ps)
      ∙ rw (
        filter_none (Numbered (k + 0)) (answers_from s b (suc k) ps)
            (All-mono (λ q. suc k ≤ q.number) (λ q. Numbered (k + 0) q ≡ false) (λ q l. apart (k + 0) q.number (λ e. let z : ⊥ = omega arith in z)) (answers_from s b (suc k) ps) (answers_from-number (suc k) ps)),
        filter-every (Numbered (k + 0)) (answers_of s b k x) (answers_of-number (λ n. eqb n (k + 0) ≡ true) k x (ap (eqb k) (add-zero k) ∙ eqb_same k)),
        append_none (answers_of s b k x),
      )
      (ap (λ (n : ℕ). answers_of s b n x) (sym (add-zero k)) ∙ ap (answers_of s b (k + 0)) (some_same h))
  of_number k (suc i) (x ∷ ps) p h =
      filter_append (Numbered (k + suc i)) (answers_of s b k x) (answers_from s b (suc k) ps)
      ∙ rw (filter_none (Numbered (k + suc i)) (answers_of s b k x) (answers_of-number (λ n. eqb n (k + suc i) ≡ false) k x (apart (k + suc i) k (λ e. let z : ⊥ = omega arith in z))))
      (ap (λ (n : ℕ). filter (Numbered n) (answers_from s b (suc k) ps)) (let z : k + suc i ≡ suc k + i = omega arith in z)
      ∙ of_number (suc k) i ps p h
      ∙ ap (λ (n : ℕ). answers_of s b n p) (let z : suc k + i ≡ k + suc i = omega arith in z))

  pub whole-answers_from : (n : ℕ) (p : List Node) → get_elem? (components_of b) n ≡ some p → filter (Numbered n) (answer s b) ≡ answers_of s b n p
  unfolding answer
  whole-answers_from n p h = ap (λ (m : ℕ). filter (Numbered m) (answers_from s b 0 (components_of b))) (let z : n ≡ 0 + n = omega arith in z) ∙ of_number 0 n (components_of b) p h ∙ ap (λ (m : ℕ). answers_of s b m p) (let z : 0 + n ≡ n = omega arith in z)

-- ---- the theorem

pub locality : (s : Settings) (f : Buffers) (b : Bale) (n : ℕ) (p : List Node) → AcceptedPart s f b n p → Alike s f b n p
locality s f b n p h =
    let P : Passes s f b = passes_all s f b h.accepts in
    let v = valid b P.known in
    let is = is-part b v n p h.stands in
    let e = answer_relabelled b v p is s n ∙ sym (whole-answers_from s b n p h.stands) in
    record {
      accepts = alone_accepted s f b P p is;
      one-part = ap length (alone-components b v p is);
      same = e;
      none-alone = answer-none b v p is s;
      none_in_whole = λ l. sym e ∙ ap (map (relabel_answer n (grades_in b p))) (answer-none b v p is s l);
      one-alone = answer-one b v p is s;
    }
