-- For the proof of code: a scan of neighbours, and positions as counts of what came before.
use Rattle.std.specs.Prelude.{◌≡◌, refl, Bool, true, false, List, [], ◌∷◌, ◌++◌, map, ℕ, zero, suc, ◌<◌, length, eqb}
use Rattle.std.proofs.Common.{sym, ap, ◌∙◌, arith}
use Rattle.std.proofs.lemmas.List.{length-map}
use Rattle.std.proofs.Math.Dec.{eqb-suc-suc, eqb-suc-zero}
use Rattle.definition.specs.Lists.{cons_if, filter, index_of}
use Rattle.graph_laws.specs.Lists.{upto, count_suc, All-every, filter_map}
use Rattle.definition.specs.Components.{Search, visit, visit_all}
use Rattle.graph_laws.specs.Walk.{index_map}

-- a scan, neighbour by neighbour
pub visit_all_append : {A : Type 0} (eq : A → A → Bool) (done xs ys : List A) (s : Search A) → visit_all eq done (xs ++ ys) s ≡ visit_all eq done ys (visit_all eq done xs s)
visit_all_append eq done [] ys s = refl
visit_all_append eq done (x ∷ xs) ys s = visit_all_append eq done xs ys (visit eq done x s)

-- the place of m among the numbers that pass a test is how many below m pass it
pub index_filter : (f : ℕ → Bool) (M m : ℕ) → m < M → f m ≡ true → index_of eqb m (filter f (upto M)) ≡ length (filter f (upto m))
index_filter f zero m h t = absurd (omega arith)
index_filter f (suc M) zero h t = rw t
index_filter f (suc M) (suc m) h t =
    rw (count_suc 0 M, count_suc 0 m, filter_map suc f (upto M), filter_map suc f (upto m)) (go (f 0) refl (index_filter (λ a. f (suc a)) M m (omega arith) t))
  where
    g : ℕ → Bool
    g a = f (suc a)

    shift : index_of eqb m (filter g (upto M)) ≡ length (filter g (upto m)) → index_of eqb (suc m) (map suc (filter g (upto M))) ≡ length (map suc (filter g (upto m)))
    shift r =
        index_map eqb eqb suc (λ k. Unit {0}) (λ a b c d. eqb-suc-suc a b) m (filter g (upto M)) tt (All-every (λ k. Unit {0}) (λ k. tt) (filter g (upto M)))
        ∙ r
        ∙ sym (length-map (filter g (upto m)) suc)

    go : (c : Bool) → f 0 ≡ c → index_of eqb m (filter g (upto M)) ≡ length (filter g (upto m)) → index_of eqb (suc m) (cons_if c 0 (map suc (filter g (upto M)))) ≡ length (cons_if c 0 (map suc (filter g (upto m))))
    go true e r = rw (eqb-suc-zero m) (ap suc (shift r))
    go false e r = shift r
