-- The walk on the lent words is the walk of the definition.
use Rattle.std.specs.Prelude.{◌≡◌, Bool, not, ◌||◌, ◌&&◌, get_or, set}
use Rattle.std.proofs.Math.Path.{refl, ap, subst}
use Rattle.std.proofs.Common.{sym, ◌∙◌, true≢false, add-zero, zero-add, add-one, length-set, length-append, get_or-set_same, get_or-set_other, set-set}
use Rattle.std.proofs.Math.Bool.{true, false, cond}
use mathlib.Core.List.{List, [], ◌∷◌, ◌++◌, map, map-append}
use Prim.Native.Nat.{ℕ, zero, suc, ◌+◌, ◌-◌, ◌≤◌, ◌<◌}
use native.Mathlib.Omega.{arith}
use Rattle.std.proofs.Math.Dec.{eqb, eqb-suc-zero}
use Rattle.std.proofs.Math.ListN.{length}
use Rattle.std.proofs.lemmas.List.{set-get_or}
use Rattle.std.proofs.lemmas.List.Edits.{sets}
use Rattle.graph_laws.specs.Bools.{eqb_sound, eqb_same}
use Rattle.definition.specs.Lists.{range, mem}
use Rattle.definition.specs.Components.{Search, is_visited, visit, visit_all, pop_node, walk, walk_start}
use Rattle.graph_laws.specs.WalkLoop.{visit_all_append}
use Rattle.components.specs.ComponentMemory.{Memory}
use Rattle.components.specs.ComponentWalk.{Walk, walk_of, first_of, slot_of, other_end_of, meet, visit_node, visit_slots, visit_neighbours, top_of, pop, turn, walked, Walking, Sound, turn_walking, top-node}
use Rattle.components.specs.ComponentStep.{walked_from}

-- each of the list, from number i + 1 on, gets the next number
abbrev pub number_all : ℕ → List ℕ → List ℕ → List ℕ
number_all i l [] = l
number_all i l (x ∷ xs) = number_all (suc i) (set l x (suc i)) xs

pub number_snoc : (i : ℕ) (l xs : List ℕ) (v : ℕ) → number_all i l (xs ++ v ∷ []) ≡ set (number_all i l xs) v (i + length xs + 1)
number_snoc i l [] v = ap (set l v) (let z : suc i ≡ i + 0 + 1 = omega arith in z)
number_snoc i l (x ∷ xs) v = number_snoc (suc i) (set l x (suc i)) xs v ∙ ap (set (number_all (suc i) (set l x (suc i)) xs) v) (let z : suc i + length xs + 1 ≡ i + suc (length xs) + 1 = omega arith in z)

pub number-length : (i : ℕ) (l xs : List ℕ) → length (number_all i l xs) ≡ length l
number-length i l [] = refl
number-length i l (x ∷ xs) = number-length (suc i) (set l x (suc i)) xs ∙ length-set l x (suc i)

-- who has no number: who had none, and is not of the list
pub number_free : (i : ℕ) (l xs : List ℕ) (v : ℕ) → v < length l → eqb (get_or (number_all i l xs) v 0) 0 ≡ (not (mem eqb v xs) && eqb (get_or l v 0) 0)
number_free i l [] v h = refl
number_free i l (x ∷ xs) v h =
    number_free (suc i) (set l x (suc i)) xs v (rw length-set h) ∙ ap (λ (b : Bool). not (mem eqb v xs) && b) (one (eqb v x) refl) ∙ swap (eqb v x) (mem eqb v xs) (eqb (get_or l v 0) 0)
  where
    one : (b : Bool) → eqb v x ≡ b → eqb (get_or (set l x (suc i)) v 0) 0 ≡ (not b && eqb (get_or l v 0) 0)
    one true q =
        let z = eqb_sound v x q in
        rw (← z, get_or-set_same l v (suc i) 0 h, eqb-suc-zero i)
    one false q = rw (get_or-set_other l x v (suc i) 0 (λ z. true≢false (sym (eqb_same v) ∙ (ap (eqb v) z ∙ q))))

    swap : (a b c : Bool) → (not b && (not a && c)) ≡ (not (a || b) && c)
    swap true true c = refl
    swap true false c = refl
    swap false true c = refl
    swap false false c = refl

-- the stack on the words, from the bottom
abbrev pub stack_all : List ℕ → List ℕ → List ℕ
stack_all l [] = l
stack_all l (v ∷ st) = set (stack_all l st) (length st) v

stack_length : (l st : List ℕ) → length (stack_all l st) ≡ length l
stack_length l [] = refl
stack_length l (v ∷ st) = length-set (stack_all l st) (length st) v ∙ stack_length l st

stack_above : (l st : List ℕ) (j : ℕ) → length st ≤ j → get_or (stack_all l st) j 0 ≡ get_or l j 0
stack_above l [] j h = refl
stack_above l (v ∷ st) j h = get_or-set_other (stack_all l st) (length st) j v 0 (λ z. omega arith) ∙ stack_above l st j (omega arith)

sets_snoc : (l : List ℕ) (i : ℕ) (xs : List ℕ) (v : ℕ) → sets l i (xs ++ v ∷ []) ≡ set (sets l i xs) (i + length xs) v
sets_snoc l i [] v = ap (λ (j : ℕ). set l j v) (sym (add-zero i))
sets_snoc l i (x ∷ xs) v = sets_snoc (set l i x) (suc i) xs v ∙ ap (λ (j : ℕ). set (sets (set l i x) (suc i) xs) j v) (let z : suc i + length xs ≡ i + suc (length xs) = omega arith in z)

-- the state of the definition's walk on the words
abbrev pub lay : ℕ → Memory → Search ℕ → Walk
lay at m s =
    walk_of
    (record { graph = m.graph; node_numbers = number_all 0 m.node_numbers s.visited; edge_numbers = m.edge_numbers; stack = stack_all m.stack s.stack; out = sets m.out (at + 2) s.visited })
    (length s.visited) (length s.stack)

snoc_length : (xs : List ℕ) (v : ℕ) → length xs + 1 ≡ length (xs ++ v ∷ [])
snoc_length xs v = sym (length-append xs (v ∷ []))

pub range_snoc : (i k : ℕ) → range i (suc k) ≡ range i k ++ (i + k) ∷ []
range_snoc i zero = ap (λ (j : ℕ). j ∷ []) (sym (add-zero i))
range_snoc i (suc k) = ap (λ (l : List ℕ). i ∷ l) (range_snoc (suc i) k ∙ ap (λ (j : ℕ). range (suc i) k ++ j ∷ []) (let z : suc i + k ≡ i + suc k = omega arith in z))

-- `done` are the nodes that have a number
abbrev pub Marks : ℕ → List ℕ → List ℕ → Type 0
Marks n l done = (v : ℕ) → v < n → eqb (get_or l v 0) 0 ≡ not (mem eqb v done)

module _ (n e s at : ℕ) (m : Memory) (sized : length m.node_numbers ≡ n) (done : List ℕ) (marks : Marks n m.node_numbers done) where
  meet-lay : (v : ℕ) (x : Search ℕ) → meet at v (lay at m x) ≡ lay at m (record { visited = x.visited ++ v ∷ []; stack = v ∷ x.stack })
  meet-lay v x = λ i. walk_of
      (record {
        graph = m.graph;
        node_numbers = (ap (λ (j : ℕ). set (number_all 0 m.node_numbers x.visited) v (j + 1)) (sym (zero-add (length x.visited))) ∙ sym (number_snoc 0 m.node_numbers x.visited v)) i;
        edge_numbers = m.edge_numbers;
        stack = set (stack_all m.stack x.stack) (length x.stack) v;
        out = sym (sets_snoc m.out (at + 2) x.visited v) i;
      })
      (snoc_length x.visited v i) (add-one (length x.stack) i)

  free_is : (v : ℕ) (x : Search ℕ) → v < n → eqb (get_or (number_all 0 m.node_numbers x.visited) v 0) 0 ≡ not (is_visited eqb done x v)
  free_is v x h = number_free 0 m.node_numbers x.visited v (rw sized h) ∙ (ap (λ (b : Bool). not (mem eqb v x.visited) && b) (marks v h) ∙ both (mem eqb v x.visited) (mem eqb v done))
    where
      both : (a b : Bool) → (not a && not b) ≡ not (a || b)
      both true b = refl
      both false b = refl

  pub visit-lay : (v : ℕ) (x : Search ℕ) → v < n → visit_node at v (lay at m x) ≡ lay at m (visit eqb done v x)
  unfolding visit_node
  visit-lay v x h = ap (λ (b : Bool). cond b (meet at v (lay at m x)) (lay at m x)) (free_is v x h) ∙ go (is_visited eqb done x v)
    where
      go : (b : Bool) → cond (not b) (meet at v (lay at m x)) (lay at m x) ≡ lay at m (cond b x (record { visited = x.visited ++ v ∷ []; stack = v ∷ x.stack }))
      go true = refl
      go false = meet-lay v x

  module _ (sound : Sound n e s m.graph) where
    -- the neighbours, slot by slot
    abbrev pub slot_neighbours : ℕ → ℕ → ℕ → List ℕ
    slot_neighbours v first k = map (λ j. other_end_of n s m.graph v (slot_of n s m.graph j)) (range first k)

    slots-lay : (v first k : ℕ) (x : Search ℕ) → first + k ≤ s → visit_slots n s at m.graph v first k (lay at m x) ≡ lay at m (visit_all eqb done (slot_neighbours v first k) x)
    unfolding visit_slots
    slots-lay v first zero x h = refl
    slots-lay v first (suc k) x h =
        let f : ℕ → ℕ = λ j. other_end_of n s m.graph v (slot_of n s m.graph j) in
        let u = f (first + k) in
        let y = visit_all eqb done (slot_neighbours v first k) x in
        let l : slot_neighbours v first (suc k) ≡ slot_neighbours v first k ++ u ∷ [] = ap (map f) (range_snoc first k) ∙ map-append f (range first k) ((first + k) ∷ []) in
        ap (visit_node at u) (slots-lay v first k x (omega arith))
        ∙ visit-lay u y (Rattle.components.specs.ComponentWalk.other_below n e s at m.graph sound v (first + k) (omega arith))
        ∙ ap (lay at m) (sym (ap (λ (z : List ℕ). visit_all eqb done z x) l ∙ visit_all_append eqb done (slot_neighbours v first k) (u ∷ []) x))

    abbrev pub neighbours_of : ℕ → List ℕ
    neighbours_of v = slot_neighbours v (first_of n s m.graph v) (first_of n s m.graph (v + 1) - first_of n s m.graph v)

    module _ (nb : ℕ → List ℕ) (same : (v : ℕ) → v < n → neighbours_of v ≡ nb v) (empty : (j : ℕ) → get_or m.stack j 0 ≡ 0) (high : length m.stack ≡ n) where
      top-lay : (v : ℕ) (rest vs : List ℕ) → length rest < n → top_of (lay at m (record { visited = vs; stack = v ∷ rest })) ≡ v
      top-lay v rest vs h =
          let z : suc (length rest) - 1 ≡ length rest = omega arith in
          ap (λ (j : ℕ). get_or (set (stack_all m.stack rest) (length rest) v) j 0) z ∙ get_or-set_same (stack_all m.stack rest) (length rest) v 0 (rw (stack_length m.stack rest, high) h)

      pop-lay : (v : ℕ) (rest vs : List ℕ) → pop (lay at m (record { visited = vs; stack = v ∷ rest })) ≡ lay at m (record { visited = vs; stack = rest })
      pop-lay v rest vs =
          let z : suc (length rest) - 1 ≡ length rest = omega arith in
          let o : set (set (stack_all m.stack rest) (length rest) v) (length rest) 0 ≡ stack_all m.stack rest =
          set-set (stack_all m.stack rest) (length rest) v 0
          ∙ ap (set (stack_all m.stack rest) (length rest)) (sym (stack_above m.stack rest (length rest) (omega arith) ∙ empty (length rest)))
          ∙ set-get_or (stack_all m.stack rest) (length rest) 0
          in
          λ i. walk_of
          (record {
            graph = m.graph;
            node_numbers = number_all 0 m.node_numbers vs;
            edge_numbers = m.edge_numbers;
            stack = (ap (λ (j : ℕ). set (set (stack_all m.stack rest) (length rest) v) j 0) z ∙ o) i;
            out = sets m.out (at + 2) vs;
          })
          (length vs) (z i)

      turn-lay : (v : ℕ) (rest vs : List ℕ) → length rest < n → v < n → turn n s at (lay at m (record { visited = vs; stack = v ∷ rest })) ≡ lay at m (pop_node eqb done nb vs (v ∷ rest))
      unfolding visit_neighbours
      turn-lay v rest vs h l =
          ap (λ (u : ℕ). visit_neighbours n s at u (pop (lay at m (record { visited = vs; stack = v ∷ rest })))) (top-lay v rest vs h)
          ∙ ap (visit_neighbours n s at v) (pop-lay v rest vs)
          ∙ slots-lay v (first_of n s m.graph v) (first_of n s m.graph (v + 1) - first_of n s m.graph v) (record { visited = vs; stack = rest }) (omega (arith, sound.firsts v l, sound.lasts v l))
          ∙ ap (λ (z : List ℕ). lay at m (visit_all eqb done z (record { visited = vs; stack = rest }))) (same v l)

      still : (k : ℕ) (vs : List ℕ) → walk eqb done nb k (record { visited = vs; stack = [] }) ≡ record { visited = vs; stack = [] }
      unfolding walk
      still zero vs = refl
      still (suc k) vs = still k vs

      pub walked-lay : (k : ℕ) (vs st : List ℕ) → Walking n e s at (lay at m (record { visited = vs; stack = st })) → walked n s at k (lay at m (record { visited = vs; stack = st })) ≡ lay at m (walk eqb done nb k (record { visited = vs; stack = st }))
      unfolding walk walked
      walked-lay zero vs st w = refl
      walked-lay (suc k) vs [] w = ap (lay at m) (sym (still k vs))
      walked-lay (suc k) vs (v ∷ rest) w =
          let p : 0 < suc (length rest) = omega arith in
          let x = lay at m (record { visited = vs; stack = v ∷ rest }) in
          let y = pop_node eqb done nb vs (v ∷ rest) in
          let h : length rest < n = omega (arith, w.tops) in
          let l : v < n = subst (λ (u : ℕ). u < n) (top-lay v rest vs h) (top-node n e s at x w p) in
          let t = turn-lay v rest vs h l in
          ap (λ (b : Bool). cond b x (walked n s at k (turn n s at x))) (eqb-suc-zero (length rest))
          ∙ ap (walked n s at k) t
          ∙ walked-lay k y.visited y.stack (subst (Walking n e s at) t (turn_walking n e s at x w p))

      pub walked_from-lay : (v : ℕ) → v < n → mem eqb v done ≡ false → Walking n e s at (visit_node at v (walk_of m 0 0)) → walked_from n s at v m ≡ lay at m (walk eqb done nb n (walk_start v))
      unfolding walked_from
      walked_from-lay v h q w =
          let b : visit_node at v (walk_of m 0 0) ≡ lay at m (walk_start v) = visit-lay v (record { visited = []; stack = [] }) h ∙ ap (λ (c : Bool). lay at m (cond c (record { visited = []; stack = [] }) (walk_start v))) q in
          ap (walked n s at n) b ∙ walked-lay n (v ∷ []) (v ∷ []) (subst (Walking n e s at) b w)
