-- Lists with nothing twice: what is chosen of one has nothing twice, and a list within another is no longer.
use Rattle.std.specs.Prelude.{◌≡◌, refl, Bool, true, false, not, ◌||◌, List, [], ◌∷◌, ◌++◌, suc, ◌≤◌, length}
use Rattle.std.proofs.Common.{sym, ap, ◌∙◌, inl, inr, true≢false, arith, length-append}
use Rattle.std.proofs.lemmas.Bool.{false≢true}
use Rattle.graph_laws.specs.Bools.{not-true, or_cases, or_left, or_right, or_no}
use Rattle.definition.specs.Lists.{cons_if, filter, concat, mem}
use Rattle.graph_laws.specs.Lists.{All, All-mono, All-both}
use Rattle.graph_laws.specs.Reach.{mem_append}
use Rattle.graph_laws.specs.Ranks.{NoDup, mem-filter, others}
use Rattle.graph_laws.specs.OneComponent.{filter-length}
use Rattle.graph_laws.specs.Partition.{nodup_append}

module _ {A : Type 0} (eq : A → A → Bool) where
  pub nodup_left : (xs ys : List A) → NoDup eq (xs ++ ys) → NoDup eq xs
  nodup_left [] ys n = tt
  nodup_left (x ∷ xs) ys n = ((or_no (mem eq x xs) (mem eq x ys) (sym (mem_append eq x xs ys) ∙ n.0)).0, nodup_left xs ys n.1)

  pub nodup_right : (xs ys : List A) → NoDup eq (xs ++ ys) → NoDup eq ys
  nodup_right [] ys n = n
  nodup_right (x ∷ xs) ys n = nodup_right xs ys n.1

  pub nodup_across : (xs ys : List A) → NoDup eq (xs ++ ys) → All (λ x. mem eq x ys ≡ false) xs
  nodup_across [] ys n = tt
  nodup_across (x ∷ xs) ys n = ((or_no (mem eq x xs) (mem eq x ys) (sym (mem_append eq x xs ys) ∙ n.0)).1, nodup_across xs ys n.1)

  -- lists chosen of lists
  pub mem-chosen : (f : List A → Bool) (a : A) (ps : List (List A)) → mem eq a (concat (filter f ps)) ≡ true → mem eq a (concat ps) ≡ true
  mem-chosen f a [] m = m
  mem-chosen f a (p ∷ ps) m = mem_append eq a p (concat ps) ∙ go (f p) m (mem-chosen f a ps)
    where
      r : List (List A)
      r = filter f ps

      go : (c : Bool) → mem eq a (concat (cons_if c p r)) ≡ true → (mem eq a (concat r) ≡ true → mem eq a (concat ps) ≡ true) → (mem eq a p || mem eq a (concat ps)) ≡ true
      go false n h = or_right (mem eq a p) (mem eq a (concat ps)) (h n)
      go true n h = elim (or_cases (mem eq a p) (mem eq a (concat r)) (sym (mem_append eq a p (concat r)) ∙ n)) [
        | inl q ↦ or_left (mem eq a p) (mem eq a (concat ps)) q
        | inr q ↦ or_right (mem eq a p) (mem eq a (concat ps)) (h q)
      ]

module _ {A : Type 0} (eq : A → A → Bool) (sound : (a b : A) → eq a b ≡ true → a ≡ b) (same : (a : A) → eq a a ≡ true) where
  pub nodup_chosen : (f : List A → Bool) (ps : List (List A)) → NoDup eq (concat ps) → NoDup eq (concat (filter f ps))
  nodup_chosen f [] n = tt
  nodup_chosen f (p ∷ ps) n = go (f p) (nodup_chosen f ps (nodup_right eq p (concat ps) n))
    where
      r : List (List A)
      r = filter f ps

      go : (c : Bool) → NoDup eq (concat r) → NoDup eq (concat (cons_if c p r))
      go false h = h
      go true h =
          nodup_append eq sound same p (concat r) (nodup_left eq p (concat ps) n) h
          (All-mono (λ a. mem eq a (concat ps) ≡ false) (λ a. mem eq a (concat r) ≡ false)
          (λ a e. not-true (mem eq a (concat r)) (λ t. true≢false (sym (mem-chosen eq f a ps t) ∙ e))) p (nodup_across eq p (concat ps) n))

  -- a list without x
  abbrev without : A → List A → List A
  without x ys = filter (λ y. not (eq y x)) ys

  shorter : (x : A) (ys : List A) → mem eq x ys ≡ true → suc (length (without x ys)) ≤ length ys
  shorter x [] m = absurd (false≢true m)
  shorter x (y ∷ ys) m = go (eq y x) refl (shorter x ys)
    where
      there : eq y x ≡ false → mem eq x ys ≡ true
      there e = elim (or_cases (eq x y) (mem eq x ys) m) [
        | inl q ↦ absurd (true≢false (sym (same y) ∙ ap (eq y) (sym (sound x y q)) ∙ e))
        | inr q ↦ q
      ]

      go : (c : Bool) → eq y x ≡ c → (mem eq x ys ≡ true → suc (length (without x ys)) ≤ length ys) → suc (length (cons_if (not c) y (without x ys))) ≤ suc (length ys)
      go true e r = omega (arith, filter-length (λ a. not (eq a x)) ys)
      go false e r = omega (arith, r (there e))

  -- a list with nothing twice is no longer than one that has all of it
  pub no_longer : (xs ys : List A) → NoDup eq xs → All (λ x. mem eq x ys ≡ true) xs → length xs ≤ length ys
  no_longer [] ys n h = omega arith
  no_longer (x ∷ xs) ys n h = omega (arith, no_longer xs (without x ys) n.1 rest, shorter x ys h.0)
    where
      rest : All (λ a. mem eq a (without x ys) ≡ true) xs
      rest =
          All-mono (λ a. (eq a x ≡ false) × (mem eq a ys ≡ true)) (λ a. mem eq a (without x ys) ≡ true)
          (λ a h. mem-filter eq sound same (λ y. not (eq y x)) a ys ∙ rw (h.0, h.1))
          xs (All-both (λ a. eq a x ≡ false) (λ a. mem eq a ys ≡ true) xs (others eq sound same x xs n.0) h.1)

-- lists that each have something are no more than what they have together
pub no_more : {A : Type 0} (ps : List (List A)) → All (λ p. 1 ≤ length p) ps → length ps ≤ length (concat ps)
no_more [] h = omega arith
no_more (p ∷ ps) h = omega (arith, length-append p (concat ps), h.0, no_more ps h.1)
