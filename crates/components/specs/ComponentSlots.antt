-- The labels, first slots and slots that the code writes, as lists put in a row.
use Rattle.std.specs.Prelude.{◌≡◌, get_or, take}
use Rattle.std.proofs.Math.Path.{refl, sym, ap}
use Rattle.std.proofs.Common.{◌∙◌, add-zero, add-suc, add-one, take-suc}
use mathlib.Core.List.{List, [], ◌∷◌, ◌++◌, map, map-append, append-nil}
use Prim.Native.Nat.{ℕ, zero, suc, ◌+◌, ◌*◌, ◌-◌, ◌≤◌, ◌<◌}
use native.Mathlib.Omega.{arith}
use Rattle.std.proofs.Math.ListN.{length, set, length-append}
use Rattle.std.proofs.lemmas.List.{length-map}
use Rattle.std.proofs.Math.Seq.{take-length}
use Rattle.definition.specs.Lists.{range, concat}
use Rattle.graph_laws.specs.Lists.{length_count, concat_append}
use Rattle.list_laws.specs.Write.{write}
use Rattle.list_laws.specs.Put.{put, length-put, put_next, put-none}
use Rattle.list_laws.specs.PutMore.{write-put, put_snoc, set-put}
use Rattle.components.specs.ComponentWalk.{first_of, slot_of}
use Rattle.components.specs.ComponentRecord.{node_at, degree_at, slots_of, lists, listed}

pub map_range : (f : ℕ → ℕ) (a k j : ℕ) → j < k → get_or (map f (range a k)) j 0 ≡ f (a + j)
map_range f a zero j h = absurd (let z : ⊥ = omega arith in z)
map_range f a (suc k) zero h = ap f (sym (add-zero a))
map_range f a (suc k) (suc j) h = map_range f (suc a) k j (omega arith) ∙ ap f (let z : suc a + j ≡ a + suc j = omega arith in z)

-- where the list of each node begins, and where the last one ends
abbrev pub firsts_from : (ℕ → List ℕ) → ℕ → List ℕ → List ℕ
firsts_from inc f [] = f ∷ []
firsts_from inc f (v ∷ vs) = f ∷ firsts_from inc (f + length (inc v)) vs

firsts_snoc : (inc : ℕ → List ℕ) (f : ℕ) (xs : List ℕ) (v : ℕ) → firsts_from inc f (xs ++ v ∷ []) ≡ firsts_from inc f xs ++ (f + length (concat (map inc xs)) + length (inc v)) ∷ []
firsts_snoc inc f [] v = ap (λ (k : ℕ). f ∷ (k + length (inc v)) ∷ []) (sym (add-zero f))
firsts_snoc inc f (x ∷ xs) v =
    ap (λ (l : List ℕ). f ∷ l)
    (firsts_snoc inc (f + length (inc x)) xs v
    ∙ ap (λ (k : ℕ). firsts_from inc (f + length (inc x)) xs ++ k ∷ [])
    (let z : f + length (inc x) + length (concat (map inc xs)) + length (inc v) ≡ f + length (inc x ++ concat (map inc xs)) + length (inc v) = omega (arith, length-append (inc x) (concat (map inc xs))) in z))

pub firsts-length : (inc : ℕ → List ℕ) (f : ℕ) (xs : List ℕ) → length (firsts_from inc f xs) ≡ suc (length xs)
firsts-length inc f [] = refl
firsts-length inc f (x ∷ xs) = ap suc (firsts-length inc (f + length (inc x)) xs)

module _ (n s at : ℕ) (g : List ℕ) (inc : ℕ → List ℕ)
    (slots_are : (v : ℕ) → v < n → map (slot_of n s g) (range (first_of n s g v) (first_of n s g (v + 1) - first_of n s g v)) ≡ inc v)
    (p o : List ℕ) (nodes : (i : ℕ) → i < length p → get_or p i 0 < n) (order : (i : ℕ) → i < length p → get_or o (at + 2 + i) 0 ≡ get_or p i 0)
    (room : at + 3 + 3 * length p + length (concat (map inc p)) ≤ length o) where
  abbrev c : ℕ
  c = length p

  abbrev total : ℕ → ℕ
  total i = slots_of n s at c g o i

  abbrev rows : ℕ → List ℕ
  rows i = concat (map inc (take i p))

  node-is : (i : ℕ) → i < c → node_at n s at c g o i ≡ get_or p i 0
  node-is i h = order i h

  degree-is : (i : ℕ) → i < c → degree_at n s at c g o i ≡ length (inc (get_or p i 0))
  degree-is i h =
      rw (node-is i h)
      (let v = get_or p i 0 in
      sym (length_count (first_of n s g v) (first_of n s g (v + 1) - first_of n s g v))
      ∙ sym (length-map (range (first_of n s g v) (first_of n s g (v + 1) - first_of n s g v)) (slot_of n s g)) ∙ ap length (slots_are v (nodes i h)))

  rows_next : (i : ℕ) → i < c → rows (suc i) ≡ rows i ++ inc (get_or p i 0)
  rows_next i h =
      ap (λ (l : List ℕ). concat (map inc l)) (take-suc p i 0 h)
      ∙ ap concat (map-append inc (take i p) (get_or p i 0 ∷ []))
      ∙ concat_append (map inc (take i p)) (inc (get_or p i 0) ∷ [])
      ∙ ap (λ (l : List ℕ). rows i ++ l) (append-nil (inc (get_or p i 0)))

  total-is : (i : ℕ) → i ≤ c → total i ≡ length (rows i)
  unfolding slots_of
  total-is zero h = refl
  total-is (suc i) h =
      let r = total-is i (omega arith) in
      omega (arith, r, degree-is i (omega arith), ap length (rows_next i (omega arith)), length-append (rows i) (inc (get_or p i 0)))

  abbrev firsts : ℕ → List ℕ
  firsts zero = []
  firsts (suc i) = firsts i ++ total i ∷ []

  firsts-size : (i : ℕ) → length (firsts i) ≡ i
  firsts-size zero = refl
  firsts-size (suc i) = length-append (firsts i) (total i ∷ []) ∙ (ap (λ (k : ℕ). k + 1) (firsts-size i) ∙ add-one i)

  firsts_are : (i : ℕ) → i ≤ c → firsts (suc i) ≡ firsts_from inc 0 (take i p)
  unfolding slots_of
  firsts_are zero h = refl
  firsts_are (suc i) h =
      ap (λ (l : List ℕ). l ++ total (suc i) ∷ []) (firsts_are i (omega arith))
      ∙ ap (λ (k : ℕ). firsts_from inc 0 (take i p) ++ k ∷ [])
      (let z : total (suc i) ≡ 0 + length (rows i) + length (inc (get_or p i 0)) = omega (arith, total-is (suc i) h, ap length (rows_next i (omega arith)), length-append (rows i) (inc (get_or p i 0))) in z)
      ∙ sym (firsts_snoc inc 0 (take i p) (get_or p i 0))
      ∙ ap (firsts_from inc 0) (sym (take-suc p i 0 (omega arith)))

  rows_grow : (i k : ℕ) → i + k ≤ c → length (rows i) ≤ length (rows (i + k))
  rows_grow i zero h = rw add-zero (omega arith)
  rows_grow i (suc k) h = rw add-suc (omega (arith, rows_grow i k (omega arith), ap length (rows_next (i + k) (omega arith)), length-append (rows (i + k)) (inc (get_or p (i + k) 0))))

  rows_all : rows c ≡ concat (map inc p)
  rows_all = ap (λ (l : List ℕ). concat (map inc l)) (take-length p)

  rows_room : (i : ℕ) → i ≤ c → at + 3 + 3 * c + length (rows i) ≤ length o
  rows_room i h =
      let z : i + (c - i) ≡ c = omega arith in
      let r = rows_grow i (c - i) (omega arith) in
      omega (arith, (rw z at r), ap length rows_all, room)

  abbrev row_list : List ℕ → List ℕ → List ℕ
  row_list f r = put (put o (at + 2 + 2 * c) f) (at + 3 + 3 * c) r

  abbrev slot_at : ℕ → ℕ → ℕ
  slot_at i j = slot_of n s g (first_of n s g (node_at n s at c g o i) + j)

  slot_is : (i k : ℕ) → i < c → k < length (inc (get_or p i 0)) → slot_at i k ≡ get_or (inc (get_or p i 0)) k 0
  slot_is i k h q =
      let v = get_or p i 0 in
      let d = degree-is i h in
      let e : degree_at n s at c g o i ≡ first_of n s g (v + 1) - first_of n s g v = rw (node-is i h) in
      rw (node-is i h)
      (sym (map_range (slot_of n s g) (first_of n s g v) (first_of n s g (v + 1) - first_of n s g v) k (omega (arith, d, e)))
      ∙ ap (λ (l : List ℕ). get_or l k 0) (slots_are v (nodes i h)))

  first_step : (i : ℕ) → i < c → set (row_list (firsts i) (rows i)) (at + 2 + 2 * c + i) (total i) ≡ row_list (firsts (suc i)) (rows i)
  first_step i h =
      let q = rows_room i (omega arith) in
      let z = firsts-size i in
      let y = length-put o (at + 2 + 2 * c) (firsts i) (omega arith) in
      let x : at + 2 + 2 * c + i ≡ at + 2 + 2 * c + length (firsts i) = omega arith in
      set-put 0 (put o (at + 2 + 2 * c) (firsts i)) (at + 3 + 3 * c) (rows i) (at + 2 + 2 * c + i) (total i) (omega arith) (omega arith)
      ∙ ap (λ (l : List ℕ). put l (at + 3 + 3 * c) (rows i))
      (ap (λ (k : ℕ). set (put o (at + 2 + 2 * c) (firsts i)) k (total i)) x ∙ put_snoc 0 o (at + 2 + 2 * c) (firsts i) (total i) (omega arith))

  row_step : (i : ℕ) (q : List ℕ) → i < c → length q ≡ length o
      → write (put q (at + 3 + 3 * c) (rows i)) (at + 3 + 3 * c + total i) (degree_at n s at c g o i) (slot_at i) ≡ put q (at + 3 + 3 * c) (rows (suc i))
  row_step i q h e =
      let v = get_or p i 0 in
      let r₀ = rows_room i (omega arith) in
      let r₁ = rows_room (suc i) (omega arith) in
      let a = ap length (rows_next i h) ∙ length-append (rows i) (inc v) in
      let t = total-is i (omega arith) in
      let y = length-put q (at + 3 + 3 * c) (rows i) (omega arith) in
      ap (λ (k : ℕ). write (put q (at + 3 + 3 * c) (rows i)) (at + 3 + 3 * c + k) (degree_at n s at c g o i) (slot_at i)) t
      ∙ ap (λ (k : ℕ). write (put q (at + 3 + 3 * c) (rows i)) (at + 3 + 3 * c + length (rows i)) k (slot_at i)) (degree-is i h)
      ∙ write-put 0 (put q (at + 3 + 3 * c) (rows i)) (at + 3 + 3 * c + length (rows i)) (inc v) (slot_at i) (omega arith) (λ k l. slot_is i k h l)
      ∙ put_next 0 q (at + 3 + 3 * c) (rows i) (inc v) (omega arith)
      ∙ ap (put q (at + 3 + 3 * c)) (sym (rows_next i h))

  lists-put : (i : ℕ) → i ≤ c → lists n s at c g o i ≡ row_list (firsts i) (rows i)
  unfolding lists
  lists-put zero h =
      put-none o (at + 2 + 2 * c) (omega arith) ∙ put-none (put o (at + 2 + 2 * c) []) (at + 3 + 3 * c) (rw (length-put o (at + 2 + 2 * c) [] (omega arith)) (omega arith))
  lists-put (suc i) h =
      ap (λ (l : List ℕ). write (set l (at + 2 + 2 * c + i) (total i)) (at + 3 + 3 * c + total i) (degree_at n s at c g o i) (slot_at i)) (lists-put i (omega arith))
      ∙ ap (λ (l : List ℕ). write l (at + 3 + 3 * c + total i) (degree_at n s at c g o i) (slot_at i)) (first_step i (omega arith))
      ∙ row_step i (put o (at + 2 + 2 * c) (firsts (suc i))) (omega arith) (length-put o (at + 2 + 2 * c) (firsts (suc i)) (omega (arith, firsts-size (suc i), room)))

  pub total-all : slots_of n s at (length p) g o (length p) ≡ length (concat (map inc p))
  total-all = total-is c (omega arith) ∙ ap length rows_all

  -- the first slots and the slots, in a row
  pub listed-put : listed n s at (length p) g o ≡ put o (at + 2 + 2 * length p) (firsts_from inc 0 p ++ concat (map inc p))
  unfolding listed
  listed-put =
      let z : at + 2 + 3 * c ≡ at + 2 + 2 * c + c = omega arith in
      let f : firsts (suc c) ≡ firsts_from inc 0 p = firsts_are c (omega arith) ∙ ap (firsts_from inc 0) (take-length p) in
      let y = firsts-size c in
      let l = length-put o (at + 2 + 2 * c) (firsts c) (omega (arith, room)) in
      let r = ap length rows_all in
      let x : at + 2 + 3 * c ≡ at + 2 + 2 * c + length (firsts c) = omega arith in
      let w : at + 3 + 3 * c ≡ at + 2 + 2 * c + length (firsts_from inc 0 p) = omega (arith, firsts-length inc 0 p) in
      ap (λ (q : List ℕ). set q (at + 2 + 3 * c) (total c)) (lists-put c (omega arith))
      ∙ set-put 0 (put o (at + 2 + 2 * c) (firsts c)) (at + 3 + 3 * c) (rows c) (at + 2 + 3 * c) (total c) (omega (arith, room)) (omega arith)
      ∙ ap (λ (q : List ℕ). put q (at + 3 + 3 * c) (rows c)) (ap (λ (k : ℕ). set (put o (at + 2 + 2 * c) (firsts c)) k (total c)) x ∙ put_snoc 0 o (at + 2 + 2 * c) (firsts c) (total c) (omega (arith, room)))
      ∙ ap (λ (q : List ℕ). put (put o (at + 2 + 2 * c) q) (at + 3 + 3 * c) (rows c)) f
      ∙ ap (put (put o (at + 2 + 2 * c) (firsts_from inc 0 p)) (at + 3 + 3 * c)) rows_all
      ∙ ap (λ (k : ℕ). put (put o (at + 2 + 2 * c) (firsts_from inc 0 p)) k (concat (map inc p))) w
      ∙ put_next 0 o (at + 2 + 2 * c) (firsts_from inc 0 p) (concat (map inc p)) (omega (arith, room, firsts-length inc 0 p))
