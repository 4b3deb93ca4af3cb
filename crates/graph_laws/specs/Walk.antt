-- A walk does not leave a set that its neighbours do not leave, and it commutes with a renaming of the nodes.
use Rattle.std.specs.Prelude.{◌≡◌, Bool, true, false, cond, List, [], ◌∷◌, ◌++◌, map}
use Rattle.std.proofs.Math.Path.{refl, ap}
use Rattle.std.proofs.Common.{sym, ◌∙◌}
use Rattle.std.proofs.lemmas.List.{map-append}
use Prim.Native.Nat.{ℕ, zero, suc}
use Rattle.definition.specs.Lists.{mem, index_of}
use Rattle.definition.specs.Components.{Search, is_visited, visit, visit_all, pop_node, walk_step, walk}
use Rattle.graph_laws.specs.Lists.{All, All-append}

abbrev pub map_search : {A B : Type 0} → (A → B) → Search A → Search B
map_search ρ s = record { visited = map ρ s.visited; stack = map ρ s.stack }

module _ {A B : Type 0} (eq_a : A → A → Bool) (eq_b : B → B → Bool) (ρ : A → B) (C : A → Type 0)
    (inj : (a b : A) → C a → C b → eq_b (ρ a) (ρ b) ≡ eq_a a b) where
  pub mem-map : (a : A) (xs : List A) → C a → All C xs → mem eq_b (ρ a) (map ρ xs) ≡ mem eq_a a xs
  mem-map a [] c h = refl
  mem-map a (x ∷ xs) c h = cc (inj a x c h.0, mem-map a xs c h.1)

  pub index_map : (a : A) (xs : List A) → C a → All C xs → index_of eq_b (ρ a) (map ρ xs) ≡ index_of eq_a a xs
  index_map a [] c h = refl
  index_map a (x ∷ xs) c h = cc (inj a x c h.0, index_map a xs c h.1)

abbrev pub SearchWithin : {A : Type 0} → (A → Type 0) → Search A → Type 0
SearchWithin C s = All C s.visited × All C s.stack

-- a walk does not leave a set that holds its start and the neighbours of each of its nodes
module _ {A : Type 0} (eq : A → A → Bool) (done : List A) (C : A → Type 0) where
  visit-within : (n : A) (s : Search A) → C n → SearchWithin C s → SearchWithin C (visit eq done n s)
  visit-within n s c w = go (is_visited eq done s n)
    where
      go : (b : Bool) → SearchWithin C (cond b s (record { visited = s.visited ++ n ∷ []; stack = n ∷ s.stack }))
      go true = w
      go false = (All-append C s.visited (n ∷ []) w.0 (c, tt), (c, w.1))

  visit_all-within : (ns : List A) (s : Search A) → All C ns → SearchWithin C s → SearchWithin C (visit_all eq done ns s)
  visit_all-within [] s c w = w
  visit_all-within (n ∷ ns) s c w = visit_all-within ns (visit eq done n s) c.1 (visit-within n s c.0 w)

  module _ (nb : A → List A) (stays : (a : A) → C a → All C (nb a)) where
    pop_node-within : (met rest : List A) → All C met → All C rest → SearchWithin C (pop_node eq done nb met rest)
    pop_node-within met [] c d = (c, tt)
    pop_node-within met (v ∷ rest) c d = visit_all-within (nb v) (record { visited = met; stack = rest }) (stays v d.0) (c, d.1)

    pub walk-within : (k : ℕ) (s : Search A) → SearchWithin C s → SearchWithin C (walk eq done nb k s)
    unfolding walk
    walk-within zero s w = w
    walk-within (suc k) s w = walk-within k (walk_step eq done nb s) (pop_node-within s.visited s.stack w.0 w.1)

-- `nb_b` at the image of a node is the image of `nb_a`, inside a set C that `nb_a` does not leave; and what was met before is the same to both
module _ {A B : Type 0} (eq_a : A → A → Bool) (eq_b : B → B → Bool) (ρ : A → B) (C : A → Type 0)
    (inj : (a b : A) → C a → C b → eq_b (ρ a) (ρ b) ≡ eq_a a b)
    (done_a : List A) (done_b : List B) (apart : (a : A) → C a → mem eq_b (ρ a) done_b ≡ mem eq_a a done_a) where
  known_map : (n : A) (s : Search A) → C n → SearchWithin C s → is_visited eq_b done_b (map_search ρ s) (ρ n) ≡ is_visited eq_a done_a s n
  known_map n s c w = cc (mem-map eq_a eq_b ρ C inj n s.visited c w.0, apart n c)

  visit-map : (n : A) (s : Search A) → C n → SearchWithin C s → visit eq_b done_b (ρ n) (map_search ρ s) ≡ map_search ρ (visit eq_a done_a n s)
  visit-map n s c w = rw (known_map n s c w) (go (is_visited eq_a done_a s n))
    where
      go : (b : Bool)
          → cond b (map_search ρ s) (record { visited = map ρ s.visited ++ ρ n ∷ []; stack = ρ n ∷ map ρ s.stack })
          ≡ map_search ρ (cond b s (record { visited = s.visited ++ n ∷ []; stack = n ∷ s.stack }))
      go true = refl
      go false = λ i. record { visited = sym (map-append ρ s.visited (n ∷ [])) i; stack = ρ n ∷ map ρ s.stack }

  visit_all-map : (ns : List A) (s : Search A) → All C ns → SearchWithin C s → visit_all eq_b done_b (map ρ ns) (map_search ρ s) ≡ map_search ρ (visit_all eq_a done_a ns s)
  visit_all-map [] s c w = refl
  visit_all-map (n ∷ ns) s c w =
      ap (λ (t : Search B). visit_all eq_b done_b (map ρ ns) t) (visit-map n s c.0 w)
      ∙ visit_all-map ns (visit eq_a done_a n s) c.1 (visit-within eq_a done_a C n s c.0 w)

  module _ (nb_a : A → List A) (nb_b : B → List B) (stays : (a : A) → C a → All C (nb_a a))
      (carries : (a : A) → C a → nb_b (ρ a) ≡ map ρ (nb_a a)) where
    pop_node-map : (met rest : List A) → All C met → All C rest
        → pop_node eq_b done_b nb_b (map ρ met) (map ρ rest) ≡ map_search ρ (pop_node eq_a done_a nb_a met rest)
    pop_node-map met [] c d = refl
    pop_node-map met (v ∷ rest) c d =
        ap (λ (l : List B). visit_all eq_b done_b l (record { visited = map ρ met; stack = map ρ rest })) (carries v d.0)
        ∙ visit_all-map (nb_a v) (record { visited = met; stack = rest }) (stays v d.0) (c, d.1)

    -- the walk commutes with the renaming
    pub walk-map : (k : ℕ) (s : Search A) → SearchWithin C s → walk eq_b done_b nb_b k (map_search ρ s) ≡ map_search ρ (walk eq_a done_a nb_a k s)
    unfolding walk
    walk-map zero s w = refl
    walk-map (suc k) s w =
        ap (λ (t : Search B). walk eq_b done_b nb_b k t) (pop_node-map s.visited s.stack w.0 w.1)
        ∙ walk-map k (walk_step eq_a done_a nb_a s) (pop_node-within eq_a done_a C nb_a stays s.visited s.stack w.0 w.1)
