-- The edges that the code numbers at first sight are those of the definition, and so are their numbers in the slots.
use Rattle.std.specs.Prelude.{◌≡◌, Bool, ◌||◌, ◌&&◌}
use Rattle.std.proofs.Math.Path.{refl, ap}
use Rattle.std.proofs.Common.{sym, ◌∙◌, subst, true≢false, add-zero, add-suc, zero-add, take-suc, drop-cons, get_or-set_same, get_or-set_other, length-take-le}
use Rattle.std.proofs.Math.Bool.{true, false, cond, not, or-false, or-true}
use Rattle.std.proofs.lemmas.Bool.{false≢true}
use mathlib.Core.List.{List, [], ◌∷◌, ◌++◌, map, map-append, append_assoc, append-nil}
use Prim.Native.Nat.{ℕ, zero, suc, ◌+◌, ◌*◌, ◌-◌, ◌≤◌, ◌<◌}
use native.Mathlib.Omega.{arith}
use Rattle.std.proofs.Math.Dec.{eqb}
use lib.ListN.{length, get_or, set, take, drop, length-set, length-append, length-map}
use Rattle.std.proofs.Math.Seq.{take-length, drop-length, get_or-append_seam}
use Rattle.std.proofs.lemmas.List.{set_at}
use Rattle.definition.specs.Lists.{concat, mem, index_of}
use Rattle.definition.specs.Components.{add_if_new, add_all_new}
use Rattle.graph_laws.specs.Bools.{eqb_sound, eqb_same}
use Rattle.graph_laws.specs.Lists.{All, All-mono, All-append, concat_append, map_cong}
use Rattle.graph_laws.specs.Reach.{mem_append}
use Rattle.graph_laws.specs.Ranks.{NoDup, others}
use Rattle.graph_laws.specs.Partition.{nodup_append}
use Rattle.graph_laws.specs.Numbers.{index_front}
use Rattle.list_laws.specs.Put.{put, length-put, put_next, put-none, put-below, put_in, put-set}
use Rattle.list_laws.specs.PutMore.{put_one_lem, put_snoc, set-put}
use Rattle.components.specs.ComponentMemory.{Memory}
use Rattle.components.specs.ComponentWalk.{end_of}
use Rattle.components.specs.ComponentRecord.{Seen, seen_of, edge_out, new_edge, number_edge, set_slot, see_slot, see_slots}
use Rattle.components.specs.ComponentSearch.{number_all, number_snoc, number_free}

-- ---- numbers given in a row

pub number_other : (i : ℕ) (l xs : List ℕ) (v : ℕ) → mem eqb v xs ≡ false → get_or (number_all i l xs) v 0 ≡ get_or l v 0
number_other i l [] v h = refl
number_other i l (x ∷ xs) v h = go (eqb v x) refl h (number_other (suc i) (set l x (suc i)) xs v)
  where
    go : (b : Bool) → eqb v x ≡ b → (b || mem eqb v xs) ≡ false → (mem eqb v xs ≡ false → get_or (number_all (suc i) (set l x (suc i)) xs) v 0 ≡ get_or (set l x (suc i)) v 0)
        → get_or (number_all (suc i) (set l x (suc i)) xs) v 0 ≡ get_or l v 0
    go true q k r = absurd (true≢false k)
    go false q k r = r k ∙ get_or-set_other l x v (suc i) 0 (λ z. true≢false (sym (eqb_same v) ∙ (ap (eqb v) z ∙ q)))

pub number_at : (i : ℕ) (l xs : List ℕ) (v : ℕ) → NoDup eqb xs → mem eqb v xs ≡ true → v < length l → get_or (number_all i l xs) v 0 ≡ i + index_of eqb v xs + 1
number_at i l [] v n h q = absurd (false≢true h)
number_at i l (x ∷ xs) v n h q = go (eqb v x) refl h (number_at (suc i) (set l x (suc i)) xs v n.1)
  where
    go : (b : Bool) → eqb v x ≡ b → (b || mem eqb v xs) ≡ true
        → (mem eqb v xs ≡ true → v < length (set l x (suc i)) → get_or (number_all (suc i) (set l x (suc i)) xs) v 0 ≡ suc i + index_of eqb v xs + 1)
        → get_or (number_all (suc i) (set l x (suc i)) xs) v 0 ≡ i + cond b zero (suc (index_of eqb v xs)) + 1
    go true e k r =
        let z = eqb_sound v x e in
        number_other (suc i) (set l x (suc i)) xs v (ap (λ (y : ℕ). mem eqb y xs) z ∙ n.0)
        ∙ ap (λ (y : ℕ). get_or (set l y (suc i)) v 0) (sym z) ∙ get_or-set_same l v (suc i) 0 q ∙ (let y : suc i ≡ i + 0 + 1 = omega arith in y)
    go false e k r = r k (rw length-set q) ∙ (let y : suc i + index_of eqb v xs + 1 ≡ i + suc (index_of eqb v xs) + 1 = omega arith in y)

-- ---- what is seen first

pub add_snoc : (acc xs : List ℕ) (k : ℕ) → add_all_new eqb acc (xs ++ k ∷ []) ≡ add_if_new eqb (add_all_new eqb acc xs) k
add_snoc acc [] k = refl
add_snoc acc (x ∷ xs) k = add_snoc (add_if_new eqb acc x) xs k

add_nodup : (acc : List ℕ) (k : ℕ) → NoDup eqb acc → NoDup eqb (add_if_new eqb acc k)
add_nodup acc k n = go (mem eqb k acc) refl
  where
    none : (b : Bool) → b ≡ false → (b || false) ≡ false
    none b h = or-false b ∙ h

    go : (b : Bool) → mem eqb k acc ≡ b → NoDup eqb (cond b acc (acc ++ k ∷ []))
    go true q = n
    go false q =
        nodup_append eqb eqb_sound eqb_same acc (k ∷ []) n (refl, tt)
        (All-mono (λ a. eqb a k ≡ false) (λ a. mem eqb a (k ∷ []) ≡ false) (λ a h. none (eqb a k) h) acc (others eqb eqb_sound eqb_same k acc q))

pub seen_nodup : (acc xs : List ℕ) → NoDup eqb acc → NoDup eqb (add_all_new eqb acc xs)
seen_nodup acc [] n = n
seen_nodup acc (x ∷ xs) n = seen_nodup (add_if_new eqb acc x) xs (add_nodup acc x n)

add_holds : (acc : List ℕ) (k a : ℕ) → mem eqb a acc ≡ true → mem eqb a (add_if_new eqb acc k) ≡ true
add_holds acc k a h = go (mem eqb k acc)
  where
    go : (b : Bool) → mem eqb a (cond b acc (acc ++ k ∷ [])) ≡ true
    go true = h
    go false = rw (mem_append eqb a acc (k ∷ []), h)

add_has : (acc : List ℕ) (k : ℕ) → mem eqb k (add_if_new eqb acc k) ≡ true
add_has acc k = go (mem eqb k acc) refl
  where
    go : (b : Bool) → mem eqb k acc ≡ b → mem eqb k (cond b acc (acc ++ k ∷ [])) ≡ true
    go true q = q
    go false q = rw (mem_append eqb k acc (k ∷ []), eqb_same k) (or-true (mem eqb k acc))

-- the numbers of those seen stay
add_index : (acc : List ℕ) (k a : ℕ) → mem eqb a acc ≡ true → index_of eqb a acc ≡ index_of eqb a (add_if_new eqb acc k)
add_index acc k a h = go (mem eqb k acc)
  where
    go : (b : Bool) → index_of eqb a acc ≡ index_of eqb a (cond b acc (acc ++ k ∷ []))
    go true = refl
    go false = sym (index_front eqb a acc (k ∷ []) h)

-- ---- the slots

-- the five words of an edge in the component
abbrev pub five_words : ℕ → ℕ → Memory → ℕ → List ℕ
five_words n s m k =
    (get_or m.node_numbers (end_of n s m.graph k 0) 0 - 1) ∷ (get_or m.node_numbers (end_of n s m.graph k 1) 0 - 1) ∷ end_of n s m.graph k 2 ∷ end_of n s m.graph k 3 ∷ end_of n s m.graph k 4 ∷ []

five-put : (o : List ℕ) (j a b p q r : ℕ) → j + 5 ≤ length o → set (set (set (set (set o j a) (j + 1) b) (j + 2) p) (j + 3) q) (j + 4) r ≡ put o j (a ∷ b ∷ p ∷ q ∷ r ∷ [])
five-put o j a b p q r h =
    ap (λ (l : List ℕ). set (set (set (set l (j + 1) b) (j + 2) p) (j + 3) q) (j + 4) r) (put_one_lem 0 o j a (omega arith))
    ∙ ap (λ (l : List ℕ). set (set (set l (j + 2) p) (j + 3) q) (j + 4) r) (put_snoc 0 o j (a ∷ []) b (omega arith))
    ∙ ap (λ (l : List ℕ). set (set l (j + 3) q) (j + 4) r) (put_snoc 0 o j (a ∷ b ∷ []) p (omega arith))
    ∙ ap (λ (l : List ℕ). set l (j + 4) r) (put_snoc 0 o j (a ∷ b ∷ p ∷ []) q (omega arith))
    ∙ put_snoc 0 o j (a ∷ b ∷ p ∷ q ∷ []) r (omega arith)

fives-length : (n s : ℕ) (m : Memory) (ls : List ℕ) → length (concat (map (five_words n s m) ls)) ≡ 5 * length ls
fives-length n s m [] = refl
fives-length n s m (k ∷ ls) = length-append (five_words n s m k) (concat (map (five_words n s m) ls)) ∙ omega (arith, fives-length n s m ls)

module _ (n s from : ℕ) (m : Memory) (ks o : List ℕ) (known : (t : ℕ) → t < length ks → get_or ks t 0 < length m.edge_numbers)
    (free : (t : ℕ) → t < length ks → eqb (get_or m.edge_numbers (get_or ks t 0) 0) 0 ≡ true)
    (room : from + length ks + 5 * length (add_all_new eqb [] ks) ≤ length o) where
  abbrev to : ℕ
  to = from + length ks

  abbrev seen : ℕ → List ℕ
  seen t = add_all_new eqb [] (take t ks)

  abbrev numbers : ℕ → List ℕ
  numbers t = map (λ k. index_of eqb k (seen t)) (take t ks)

  abbrev edges : ℕ → List ℕ
  edges t = concat (map (five_words n s m) (seen t))

  abbrev slots : ℕ → List ℕ
  slots t = numbers t ++ drop t ks

  abbrev state : List ℕ → List ℕ → List ℕ → Seen
  state ls sl es =
      seen_of (record { graph = m.graph; node_numbers = m.node_numbers; edge_numbers = number_all 0 m.edge_numbers ls; stack = m.stack; out = put (put o from sl) to es }) (length ls)

  seen_next : (t : ℕ) → t < length ks → seen (suc t) ≡ add_if_new eqb (seen t) (get_or ks t 0)
  seen_next t h = ap (add_all_new eqb []) (take-suc ks t 0 h) ∙ add_snoc [] (take t ks) (get_or ks t 0)

  numbers-size : (t : ℕ) → t ≤ length ks → length (numbers t) ≡ t
  numbers-size t h = length-map (take t ks) (λ k. index_of eqb k (seen t)) ∙ length-take-le t ks h

  slots-size : (t : ℕ) → t ≤ length ks → length (slots t) ≡ length ks
  slots-size t h = length-append (numbers t) (drop t ks) ∙ omega (arith, numbers-size t h, lib.ListN.length-drop t ks)

  -- what was seen is among those seen
  seen_all : (t : ℕ) → t ≤ length ks → All (λ k. mem eqb k (seen t) ≡ true) (take t ks)
  seen_all zero h = tt
  seen_all (suc t) h =
      let k = get_or ks t 0 in
      subst (λ (l : List ℕ). All (λ a. mem eqb a (seen (suc t)) ≡ true) l) (sym (take-suc ks t 0 (omega arith)))
      (subst (λ (l : List ℕ). All (λ a. mem eqb a l ≡ true) (take t ks ++ k ∷ [])) (sym (seen_next t (omega arith)))
      (All-append (λ a. mem eqb a (add_if_new eqb (seen t) k) ≡ true) (take t ks) (k ∷ [])
      (All-mono (λ a. mem eqb a (seen t) ≡ true) (λ a. mem eqb a (add_if_new eqb (seen t) k) ≡ true) (λ a q. add_holds (seen t) k a q) (take t ks) (seen_all t (omega arith)))
      (add_has (seen t) k, tt)))

  numbers-next : (t : ℕ) → t < length ks → numbers (suc t) ≡ numbers t ++ index_of eqb (get_or ks t 0) (seen (suc t)) ∷ []
  numbers-next t h =
      let k = get_or ks t 0 in
      ap (map (λ a. index_of eqb a (seen (suc t)))) (take-suc ks t 0 h)
      ∙ map-append (λ a. index_of eqb a (seen (suc t))) (take t ks) (k ∷ [])
      ∙ ap (λ (l : List ℕ). l ++ index_of eqb k (seen (suc t)) ∷ [])
      (map_cong (λ a. index_of eqb a (seen (suc t))) (λ a. index_of eqb a (seen t)) (take t ks)
      (All-mono (λ a. mem eqb a (seen t) ≡ true) (λ a. index_of eqb a (seen (suc t)) ≡ index_of eqb a (seen t))
      (λ a q. ap (index_of eqb a) (seen_next t h) ∙ sym (add_index (seen t) k a q)) (take t ks) (seen_all t (omega arith))))

  -- the edges that are seen grow
  add_longer : (acc : List ℕ) (k : ℕ) → length acc ≤ length (add_if_new eqb acc k)
  add_longer acc k = go (mem eqb k acc)
    where
      go : (b : Bool) → length acc ≤ length (cond b acc (acc ++ k ∷ []))
      go true = omega arith
      go false = omega (arith, length-append acc (k ∷ []))

  seen_grow : (t j : ℕ) → t + j ≤ length ks → length (seen t) ≤ length (seen (t + j))
  seen_grow t zero h = rw add-zero (omega arith)
  seen_grow t (suc j) h = rw add-suc (omega (arith, seen_grow t j (omega arith), ap length (seen_next (t + j) (omega arith)), add_longer (seen (t + j)) (get_or ks (t + j) 0)))

  seen_room : (t : ℕ) → t ≤ length ks → to + 5 * length (seen t) ≤ length o
  seen_room t h =
      let z : t + (length ks - t) ≡ length ks = omega arith in
      let r = seen_grow t (length ks - t) (omega arith) in
      omega (arith, (rw z at r), ap (λ (l : List ℕ). length (add_all_new eqb [] l)) (take-length ks), room)

  inner_size : (t : ℕ) → t ≤ length ks → length (put o from (slots t)) ≡ length o
  inner_size t h = length-put o from (slots t) (omega (arith, slots-size t h, room))

  out-size : (t : ℕ) → t ≤ length ks → length (put (put o from (slots t)) to (edges t)) ≡ length o
  out-size t h = length-put (put o from (slots t)) to (edges t) (omega (arith, inner_size t h, fives-length n s m (seen t), seen_room t h)) ∙ inner_size t h

  -- slot t still holds the edge
  slot_read : (t : ℕ) → t < length ks → get_or (put (put o from (slots t)) to (edges t)) (from + t) 0 ≡ get_or ks t 0
  slot_read t h =
      put-below (put o from (slots t)) to (edges t) 0 (from + t) (omega (arith, inner_size t (omega arith), room)) (omega arith)
      ∙ put_in o from (slots t) 0 t (omega (arith, room)) (omega (arith, slots-size t (omega arith)))
      ∙ ap (λ (l : List ℕ). get_or (numbers t ++ l) t 0) (drop-cons ks t 0 h)
      ∙ ap (λ (i : ℕ). get_or (numbers t ++ get_or ks t 0 ∷ drop (suc t) ks) i 0) (sym (numbers-size t (omega arith)))
      ∙ get_or-append_seam (numbers t) (get_or ks t 0) (drop (suc t) ks) 0

  slot_set : (t v : ℕ) (es : List ℕ) → t < length ks → to + length es ≤ length o → v ≡ index_of eqb (get_or ks t 0) (seen (suc t))
      → set (put (put o from (slots t)) to es) (from + t) v ≡ put (put o from (slots (suc t))) to es
  slot_set t v es h q e =
      set-put 0 (put o from (slots t)) to es (from + t) v (omega (arith, inner_size t (omega arith))) (omega arith)
      ∙ ap (λ (l : List ℕ). put l to es)
      (put-set 0 o from (slots t) t v (omega (arith, slots-size t (omega arith), room)) (omega (arith, slots-size t (omega arith)))
      ∙ ap (put o from)
      (ap (λ (l : List ℕ). set (numbers t ++ l) t v) (drop-cons ks t 0 h)
      ∙ set_at (numbers t) (get_or ks t 0) (drop (suc t) ks) v t (numbers-size t (omega arith))
      ∙ ap (λ (w : ℕ). numbers t ++ w ∷ drop (suc t) ks) e
      ∙ sym (append_assoc (numbers t) (index_of eqb (get_or ks t 0) (seen (suc t)) ∷ []) (drop (suc t) ks))
      ∙ ap (λ (l : List ℕ). l ++ drop (suc t) ks) (sym (numbers-next t h))))

  grow_state : (t : ℕ) → t < length ks → mem eqb (get_or ks t 0) (seen t) ≡ false
      → new_edge n s to (get_or ks t 0) (state (seen t) (slots t) (edges t)) ≡ state (seen t ++ get_or ks t 0 ∷ []) (slots t) (concat (map (five_words n s m) (seen t ++ get_or ks t 0 ∷ [])))
  grow_state t h q =
      let k = get_or ks t 0 in
      let ls = seen t in
      let f = fives-length n s m ls in
      let grown : seen (suc t) ≡ ls ++ k ∷ [] = seen_next t h ∙ ap (λ (b : Bool). cond b ls (ls ++ k ∷ [])) q in
      let r = seen_room (suc t) (omega arith) in
      let l : length (seen (suc t)) ≡ length ls + 1 = ap length grown ∙ length-append ls (k ∷ []) in
      let i = inner_size t (omega arith) in
      let z : to + 5 * length ls ≡ to + length (edges t) = omega arith in
      let five : edge_out n s (state ls (slots t) (edges t)).memory k (put (put o from (slots t)) to (edges t)) (to + 5 * length ls) ≡ put (put o from (slots t)) to (concat (map (five_words n s m) (ls ++ k ∷ []))) =
      five-put (put (put o from (slots t)) to (edges t)) (to + 5 * length ls) (get_or m.node_numbers (end_of n s m.graph k 0) 0 - 1) (get_or m.node_numbers (end_of n s m.graph k 1) 0 - 1) (end_of n s m.graph k 2) (end_of n s m.graph k 3) (end_of n s m.graph k 4) (omega (arith, out-size t (omega arith)))
      ∙ ap (λ (j : ℕ). put (put (put o from (slots t)) to (edges t)) j (five_words n s m k)) z
      ∙ put_next 0 (put o from (slots t)) to (edges t) (five_words n s m k) (omega arith)
      ∙ ap (put (put o from (slots t)) to) (sym (ap concat (map-append (five_words n s m) ls (k ∷ [])) ∙ (concat_append (map (five_words n s m) ls) (five_words n s m k ∷ []) ∙ ap (λ (l : List ℕ). edges t ++ l) (append-nil (five_words n s m k)))))
      in
      λ j. seen_of
      (record {
        graph = m.graph;
        node_numbers = m.node_numbers;
        edge_numbers = (ap (λ (c : ℕ). set (number_all 0 m.edge_numbers ls) k (c + 1)) (sym (zero-add (length ls))) ∙ sym (number_snoc 0 m.edge_numbers ls k)) j;
        stack = m.stack;
        out = five j;
      })
      (sym (length-append ls (k ∷ [])) j)

  number_step : (t : ℕ) → t < length ks → number_edge n s to (get_or ks t 0) (state (seen t) (slots t) (edges t)) ≡ state (seen (suc t)) (slots t) (edges (suc t))
  unfolding number_edge
  number_step t h =
      let k = get_or ks t 0 in
      ap (λ (b : Bool). cond b (new_edge n s to k (state (seen t) (slots t) (edges t))) (state (seen t) (slots t) (edges t)))
      (number_free 0 m.edge_numbers (seen t) k (known t h) ∙ ap (λ (b : Bool). not (mem eqb k (seen t)) && b) (free t h))
      ∙ go (mem eqb k (seen t)) refl
      ∙ ap (λ (ls : List ℕ). state ls (slots t) (concat (map (five_words n s m) ls))) (sym (seen_next t h))
    where
      go : (b : Bool) → mem eqb (get_or ks t 0) (seen t) ≡ b
          → cond (not b && true) (new_edge n s to (get_or ks t 0) (state (seen t) (slots t) (edges t))) (state (seen t) (slots t) (edges t))
          ≡ state (cond (mem eqb (get_or ks t 0) (seen t)) (seen t) (seen t ++ get_or ks t 0 ∷ [])) (slots t) (concat (map (five_words n s m) (cond (mem eqb (get_or ks t 0) (seen t)) (seen t) (seen t ++ get_or ks t 0 ∷ []))))
      go true q = ap (λ (b : Bool). state (cond b (seen t) (seen t ++ get_or ks t 0 ∷ [])) (slots t) (concat (map (five_words n s m) (cond b (seen t) (seen t ++ get_or ks t 0 ∷ []))))) (sym q)
      go false q = grow_state t h q ∙ ap (λ (b : Bool). state (cond b (seen t) (seen t ++ get_or ks t 0 ∷ [])) (slots t) (concat (map (five_words n s m) (cond b (seen t) (seen t ++ get_or ks t 0 ∷ []))))) (sym q)

  value_is : (t : ℕ) → t < length ks → get_or (number_all 0 m.edge_numbers (seen (suc t))) (get_or ks t 0) 0 - 1 ≡ index_of eqb (get_or ks t 0) (seen (suc t))
  value_is t h =
      let k = get_or ks t 0 in
      let a = number_at 0 m.edge_numbers (seen (suc t)) k (seen_nodup [] (take (suc t) ks) tt) (ap (mem eqb k) (seen_next t h) ∙ add_has (seen t) k) (known t h) in
      ap (λ (x : ℕ). x - 1) a ∙ omega arith

  see_state : (t : ℕ) → t ≤ length ks
      → see_slots n s from to t (seen_of (record { graph = m.graph; node_numbers = m.node_numbers; edge_numbers = m.edge_numbers; stack = m.stack; out = put o from ks }) 0) ≡ state (seen t) (slots t) (edges t)
  unfolding see_slots
  see_state zero h =
      ap (λ (l : List ℕ). seen_of (record { graph = m.graph; node_numbers = m.node_numbers; edge_numbers = m.edge_numbers; stack = m.stack; out = l }) 0)
      (put-none (put o from ks) to (rw (length-put o from ks (omega (arith, room))) (omega (arith, room))))
  see_state (suc t) h =
      let k = get_or ks t 0 in
      let l : t < length ks = omega arith in
      ap (see_slot n s to (from + t)) (see_state t (omega arith))
      ∙ ap (λ (j : ℕ). set_slot (from + t) j (number_edge n s to j (state (seen t) (slots t) (edges t)))) (slot_read t l)
      ∙ ap (set_slot (from + t) k) (number_step t l)
      ∙ ap (λ (q : List ℕ). seen_of (record { graph = m.graph; node_numbers = m.node_numbers; edge_numbers = number_all 0 m.edge_numbers (seen (suc t)); stack = m.stack; out = q }) (length (seen (suc t))))
      (slot_set t (get_or (number_all 0 m.edge_numbers (seen (suc t))) k 0 - 1) (edges (suc t)) l (omega (arith, fives-length n s m (seen (suc t)), seen_room (suc t) h)) (value_is t l))

  -- all slots: the edges in the order of first sight, their numbers in the slots, and their words behind
  pub see_all : see_slots n s from (from + length ks) (length ks) (seen_of (record { graph = m.graph; node_numbers = m.node_numbers; edge_numbers = m.edge_numbers; stack = m.stack; out = put o from ks }) 0)
      ≡ seen_of (record { graph = m.graph; node_numbers = m.node_numbers; edge_numbers = number_all 0 m.edge_numbers (add_all_new eqb [] ks); stack = m.stack; out = put o from (map (λ k. index_of eqb k (add_all_new eqb [] ks)) ks ++ concat (map (five_words n s m) (add_all_new eqb [] ks))) }) (length (add_all_new eqb [] ks))
  see_all =
      let d : drop (length ks) ks ≡ [] = drop-length ks in
      let num : slots (length ks) ≡ map (λ k. index_of eqb k (add_all_new eqb [] ks)) ks =
      ap (λ (l : List ℕ). numbers (length ks) ++ l) d ∙ (append-nil (numbers (length ks)) ∙ ap (λ (l : List ℕ). map (λ k. index_of eqb k (add_all_new eqb [] l)) l) (take-length ks)) in
      let sz : length (map (λ k. index_of eqb k (add_all_new eqb [] ks)) ks) ≡ length ks = length-map ks (λ k. index_of eqb k (add_all_new eqb [] ks)) in
      let f = fives-length n s m (add_all_new eqb [] ks) in
      see_state (length ks) (omega arith)
      ∙ ap (λ (l : List ℕ). state (add_all_new eqb [] l) (slots (length ks)) (concat (map (five_words n s m) (add_all_new eqb [] l)))) (take-length ks)
      ∙ ap (λ (l : List ℕ). state (add_all_new eqb [] ks) l (concat (map (five_words n s m) (add_all_new eqb [] ks)))) num
      ∙ ap (λ (l : List ℕ). seen_of (record { graph = m.graph; node_numbers = m.node_numbers; edge_numbers = number_all 0 m.edge_numbers (add_all_new eqb [] ks); stack = m.stack; out = l }) (length (add_all_new eqb [] ks)))
      (ap (λ (j : ℕ). put (put o from (map (λ k. index_of eqb k (add_all_new eqb [] ks)) ks)) (from + j) (concat (map (five_words n s m) (add_all_new eqb [] ks)))) (sym sz)
      ∙ put_next 0 o from (map (λ k. index_of eqb k (add_all_new eqb [] ks)) ks) (concat (map (five_words n s m) (add_all_new eqb [] ks))) (omega (arith, room)))
