-- What the code leaves of a component, once its nodes are known: its record, put in one piece.
use Rattle.std.specs.Prelude.{◌≡◌, refl, List, [], ◌∷◌, ◌++◌, map, ℕ, suc, ◌+◌, ◌*◌, ◌-◌, ◌≤◌, ◌<◌, eqb, true, get_or, set}
use Rattle.std.proofs.Math.Path.{sym, ap}
use Rattle.std.proofs.Common.{◌∙◌, append_assoc, length-set}
use native.Mathlib.Omega.{arith}
use Rattle.std.proofs.Math.ListN.{length, length-append, get_or-append}
use Rattle.std.proofs.lemmas.List.{length-map}
use Rattle.definition.specs.Lists.{range, concat, index_of}
use Rattle.definition.specs.Components.{add_all_new}
use Rattle.graph_laws.specs.DirectionNumbers.{get_d_mapped}
use Rattle.list_laws.specs.Write.{write}
use Rattle.list_laws.specs.Put.{put, length-put, put_next, put_in}
use Rattle.list_laws.specs.PutMore.{write-put, put_one_lem, put_snoc, set-put, put_middle}
use Rattle.components.specs.ComponentMemory.{Memory, with_out}
use Rattle.components.specs.ComponentWalk.{first_of, slot_of}
use Rattle.components.specs.ComponentRecord.{slots_of, listed, Seen, seen_of, see_slots}
use Rattle.components.specs.ComponentRecorded.{recorded_of, recorded, table_out, labelled, total_of, filled, edged, kinded}
use Rattle.components.specs.ComponentSearch.{number_all}
use Rattle.components.specs.ComponentSlots.{firsts_from, firsts-length, listed-put, total-all}
use Rattle.components.specs.ComponentFirstSight.{five_words, see_all}

-- a table looked up at the numbers of a list
table_put : (g o : List ℕ) (table from to : ℕ) (p : List ℕ) → ((k : ℕ) → k < length p → get_or o (from + k) 0 ≡ get_or p k 0) → to + length p ≤ length o
    → write o to (length p) (λ k. get_or g (table + get_or o (from + k) 0) 0) ≡ put o to (map (λ v. get_or g (table + v) 0) p)
table_put g o table from to p h r =
    let z : length (map (λ (v : ℕ). get_or g (table + v) 0) p) ≡ length p = length-map p (λ v. get_or g (table + v) 0) in
    ap (λ (c : ℕ). write o to c (λ k. get_or g (table + get_or o (from + k) 0) 0)) (sym z)
    ∙ write-put 0 o to (map (λ v. get_or g (table + v) 0) p) (λ k. get_or g (table + get_or o (from + k) 0) 0) (omega arith)
    (λ k q. ap (λ (v : ℕ). get_or g (table + v) 0) (h k (omega arith)) ∙ sym (get_d_mapped (λ v. get_or g (table + v) 0) p k 0 0 (omega arith)))

module _ (n s at : ℕ) (m : Memory) (inc : ℕ → List ℕ)
    (slots_are : (v : ℕ) → v < n → map (slot_of n s m.graph) (range (first_of n s m.graph v) (first_of n s m.graph (v + 1) - first_of n s m.graph v)) ≡ inc v)
    (p : List ℕ) (nodes : (i : ℕ) → i < length p → get_or p i 0 < n)
    (known : (t : ℕ) → t < length (concat (map inc p)) → get_or (concat (map inc p)) t 0 < length m.edge_numbers)
    (free : (t : ℕ) → t < length (concat (map inc p)) → eqb (get_or m.edge_numbers (get_or (concat (map inc p)) t 0) 0) 0 ≡ true) where
  abbrev c : ℕ
  c = length p

  abbrev ks : List ℕ
  ks = concat (map inc p)

  abbrev ls : List ℕ
  ls = add_all_new eqb [] ks

  abbrev L : List ℕ
  L = map (λ v. get_or m.graph (2 + n + v) 0) p

  abbrev K : List ℕ
  K = map (λ v. get_or m.graph (2 + v) 0) p

  abbrev F : List ℕ
  F = firsts_from inc 0 p

  abbrev NE : List ℕ
  NE = map (λ k. index_of eqb k ls) ks ++ concat (map (five_words n s m) ls)

  -- the words of the component's record
  abbrev pub record_words : List ℕ
  record_words = c ∷ length ls ∷ (K ++ (L ++ (F ++ NE)))

  module _ (o : List ℕ) (room : at + 3 + 3 * c + length ks + 5 * length ls ≤ length o) where
    abbrev memory_with : List ℕ → List ℕ → Memory
    memory_with es q = record { graph = m.graph; node_numbers = m.node_numbers; edge_numbers = es; stack = m.stack; out = q }

    abbrev x : Memory
    x = memory_with m.edge_numbers (put o (at + 2) p)

    L-size : length L ≡ c
    L-size = length-map p (λ v. get_or m.graph (2 + n + v) 0)

    K-size : length K ≡ c
    K-size = length-map p (λ v. get_or m.graph (2 + v) 0)

    p_l_size : length (p ++ L) ≡ c + c
    p_l_size = length-append p L ∙ ap (λ (k : ℕ). c + k) L-size

    o₁ : List ℕ
    o₁ = put o (at + 2) (p ++ L)

    labelled-is : labelled n s at c x ≡ memory_with m.edge_numbers o₁
    unfolding o₁
    labelled-is =
        let a = length-put o (at + 2) p (omega arith) in
        ap (memory_with m.edge_numbers)
        (table_put m.graph (put o (at + 2) p) (2 + n) (at + 2) (at + 2 + c) p (λ k q. put_in o (at + 2) p 0 k (omega arith) q) (omega arith)
        ∙ put_next 0 o (at + 2) p L (omega (arith, L-size)))

    o₁_size : length o₁ ≡ length o
    unfolding o₁
    o₁_size = length-put o (at + 2) (p ++ L) (omega (arith, p_l_size))

    order : (i : ℕ) → i < c → get_or o₁ (at + 2 + i) 0 ≡ get_or p i 0
    unfolding o₁
    order i h = put_in o (at + 2) (p ++ L) 0 i (omega arith) (omega (arith, p_l_size)) ∙ get_or-append p L 0 i h

    total-is : total_of n s at c x ≡ length ks
    total-is = ap (λ (y : Memory). slots_of n s at c y.graph y.out c) labelled-is ∙ total-all n s at m.graph inc slots_are p o₁ nodes order (omega (arith, o₁_size))

    o₂ : List ℕ
    o₂ = put o₁ (at + 2 + 2 * c) F

    o₂_size : length o₂ ≡ length o
    unfolding o₂
    o₂_size = length-put o₁ (at + 2 + 2 * c) F (omega (arith, o₁_size, firsts-length inc 0 p)) ∙ o₁_size

    -- what is put behind the first slots
    behind : (r : List ℕ) → at + 3 + 3 * c + length r ≤ length o → put o₂ (at + 3 + 3 * c) r ≡ put o (at + 2) (p ++ (L ++ (F ++ r)))
    unfolding o₁ o₂
    behind r h =
        let f = firsts-length inc 0 p in
        let z : at + 3 + 3 * c ≡ at + 2 + 2 * c + length F = omega arith in
        let y : at + 2 + 2 * c ≡ at + 2 + length (p ++ L) = omega (arith, p_l_size) in
        ap (λ (k : ℕ). put (put o₁ (at + 2 + 2 * c) F) k r) z
        ∙ put_next 0 o₁ (at + 2 + 2 * c) F r (omega (arith, o₁_size))
        ∙ ap (λ (k : ℕ). put o₁ k (F ++ r)) y
        ∙ put_next 0 o (at + 2) (p ++ L) (F ++ r) (omega (arith, p_l_size, length-append F r))
        ∙ ap (put o (at + 2)) (append_assoc p L (F ++ r))

    filled_is : filled n s at c x ≡ memory_with m.edge_numbers (put o₂ (at + 3 + 3 * c) ks)
    unfolding o₂
    filled_is =
        let f = firsts-length inc 0 p in
        let z : at + 2 + 2 * c + length F ≡ at + 3 + 3 * c = omega arith in
        ap (λ (y : Memory). with_out y (listed n s at c y.graph y.out)) labelled-is
        ∙ ap (memory_with m.edge_numbers)
        (listed-put n s at m.graph inc slots_are p o₁ nodes order (omega (arith, o₁_size))
        ∙ sym (put_next 0 o₁ (at + 2 + 2 * c) F ks (omega (arith, o₁_size))) ∙ ap (λ (k : ℕ). put (put o₁ (at + 2 + 2 * c) F) k ks) z)

    edged-is : edged n s at c x ≡ seen_of (memory_with (number_all 0 m.edge_numbers ls) (put o₂ (at + 3 + 3 * c) NE)) (length ls)
    edged-is =
        ap (λ (t : ℕ). see_slots n s (at + 3 + 3 * c) (at + 3 + 3 * c + t) t (seen_of (filled n s at c x) 0)) total-is
        ∙ ap (λ (y : Memory). see_slots n s (at + 3 + 3 * c) (at + 3 + 3 * c + length ks) (length ks) (seen_of y 0)) filled_is
        ∙ see_all n s (at + 3 + 3 * c) m ks o₂ known free (omega (arith, o₂_size))

    NE-size : length NE ≡ length ks + 5 * length ls
    NE-size = length-append (map (λ k. index_of eqb k ls) ks) (concat (map (five_words n s m) ls)) ∙ omega (arith, length-map ks (λ k. index_of eqb k ls), fives ls)
      where
        fives : (l : List ℕ) → length (concat (map (five_words n s m) l)) ≡ 5 * length l
        fives [] = refl
        fives (k ∷ l) = length-append (five_words n s m k) (concat (map (five_words n s m) l)) ∙ omega (arith, fives l)

    rest-size : length (L ++ (F ++ NE)) ≡ c + (suc c + (length ks + 5 * length ls))
    rest-size = length-append L (F ++ NE) ∙ omega (arith, L-size, length-append F NE, firsts-length inc 0 p, NE-size)

    all-size : length (p ++ (L ++ (F ++ NE))) ≡ c + (c + (suc c + (length ks + 5 * length ls)))
    all-size = length-append p (L ++ (F ++ NE)) ∙ omega (arith, rest-size)

    kinded-is : kinded n s at c x ≡ memory_with (number_all 0 m.edge_numbers ls) (put o (at + 2) (K ++ (L ++ (F ++ NE))))
    kinded-is =
        let q = put o (at + 2) (p ++ (L ++ (F ++ NE))) in
        let z : length q ≡ length o = length-put o (at + 2) (p ++ (L ++ (F ++ NE))) (omega (arith, all-size)) in
        let y : at + 2 ≡ at + 2 + 0 = omega arith in
        ap (λ (u : Seen). table_out 2 (at + 2) (at + 2) c u.memory) (edged-is ∙ ap (λ (l : List ℕ). seen_of (memory_with (number_all 0 m.edge_numbers ls) l) (length ls)) (behind NE (omega (arith, NE-size))))
        ∙ ap (memory_with (number_all 0 m.edge_numbers ls))
        (table_put m.graph q 2 (at + 2) (at + 2) p (λ k h. put_in o (at + 2) (p ++ (L ++ (F ++ NE))) 0 k (omega arith) (omega (arith, all-size)) ∙ get_or-append p (L ++ (F ++ NE)) 0 k h) (omega arith)
        ∙ ap (λ (k : ℕ). put q k K) y
        ∙ put_middle 0 o (at + 2) [] p (L ++ (F ++ NE)) K (omega (arith, all-size)) K-size)

    header : (r : List ℕ) (a b : ℕ) → at + 2 + length r ≤ length o → set (set (put o (at + 2) r) at a) (at + 1) b ≡ put o at (a ∷ b ∷ r)
    header r a b h =
        ap (λ (l : List ℕ). set l (at + 1) b) (set-put 0 o (at + 2) r at a h (omega arith))
        ∙ set-put 0 (set o at a) (at + 2) r (at + 1) b (rw length-set h) (omega arith)
        ∙ ap (λ (l : List ℕ). put l (at + 2) r) (ap (λ (l : List ℕ). set l (at + 1) b) (put_one_lem 0 o at a (omega arith)) ∙ put_snoc 0 o at (a ∷ []) b (omega arith))
        ∙ put_next 0 o at (a ∷ b ∷ []) r (omega arith)

    pub recorded-put : recorded n s at (length p) (record { graph = m.graph; node_numbers = m.node_numbers; edge_numbers = m.edge_numbers; stack = m.stack; out = put o (at + 2) p })
        ≡ recorded_of (record { graph = m.graph; node_numbers = m.node_numbers; edge_numbers = number_all 0 m.edge_numbers (add_all_new eqb [] (concat (map inc p))); stack = m.stack; out = put o at record_words })
        (at + length record_words)
    unfolding recorded
    recorded-put =
        let k : (edged n s at c x).count ≡ length ls = ap (λ (u : Seen). u.count) edged-is in
        let a : with_out (kinded n s at c x) (set (set (kinded n s at c x).out at c) (at + 1) (edged n s at c x).count) ≡ memory_with (number_all 0 m.edge_numbers ls) (put o at record_words) =
        ap (λ (y : Memory). with_out y (set (set y.out at c) (at + 1) (edged n s at c x).count)) kinded-is
        ∙ ap (λ (b : ℕ). memory_with (number_all 0 m.edge_numbers ls) (set (set (put o (at + 2) (K ++ (L ++ (F ++ NE)))) at c) (at + 1) b)) k
        ∙ ap (memory_with (number_all 0 m.edge_numbers ls)) (header (K ++ (L ++ (F ++ NE))) c (length ls) (omega (arith, length-append K (L ++ (F ++ NE)), K-size, rest-size)))
        in
        let b : at + 3 + 3 * c + total_of n s at c x + 5 * (edged n s at c x).count ≡ at + length record_words = omega (arith, k, total-is, length-append K (L ++ (F ++ NE)), K-size, rest-size) in
        λ i. recorded_of (a i) (b i)
