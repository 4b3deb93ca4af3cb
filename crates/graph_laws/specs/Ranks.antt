-- Index, membership, `upto` and `concat`: what the renumbering of a part needs of lists.
use Rattle.std.specs.Prelude.{◌≡◌, refl, Bool, true, false, cond, ◌||◌, ◌&&◌, List, [], ◌∷◌, ◌++◌, map, ℕ, zero, suc, ◌≤◌, ◌<◌, length, get_or, eqb}
use Rattle.std.proofs.Common.{sym, ap, ◌∙◌, subst, true≢false, arith}
use Rattle.std.proofs.lemmas.Bool.{false≢true}
use Rattle.std.proofs.lemmas.Simd.{map-map}
use Rattle.std.proofs.lemmas.List.{map-append}
use Rattle.std.proofs.Math.Dec.{eqb-zero-suc, eqb-suc-zero, eqb-suc-suc}
use Rattle.graph_laws.specs.Bools.{not-true, eqb_sound, eqb_same}
use Rattle.definition.specs.Lists.{cons_if, filter, concat, mem, index_of}
use Rattle.graph_laws.specs.Lists.{All, upto, count_suc, All-append, All-left, All-right, All-map-into, All-mono, All-every, All-in, map_cong, filter_append, filter_none}
use Rattle.graph_laws.specs.Walk.{mem-map}

abbrev pub NoDup : {A : Type 0} → (A → A → Bool) → List A → Type 0
NoDup eq [] = Unit {0}
NoDup eq (x ∷ xs) = (mem eq x xs ≡ false) × NoDup eq xs

module _ {A : Type 0} (eq : A → A → Bool) (sound : (a b : A) → eq a b ≡ true → a ≡ b) (same : (a : A) → eq a a ≡ true) where
  pub index_lt : (a : A) (xs : List A) → mem eq a xs ≡ true → index_of eq a xs < length xs
  index_lt a [] h = absurd (false≢true h)
  index_lt a (x ∷ xs) h = go (eq a x) h (index_lt a xs)
    where
      go : (b : Bool) → (b || mem eq a xs) ≡ true → (mem eq a xs ≡ true → index_of eq a xs < length xs) → cond b zero (suc (index_of eq a xs)) < suc (length xs)
      go true m r = omega arith
      go false m r = omega (arith, r m)

  pub get_d_map_index : {B : Type 0} (f : A → B) (d : B) (a : A) (xs : List A) → mem eq a xs ≡ true → get_or (map f xs) (index_of eq a xs) d ≡ f a
  get_d_map_index f d a [] h = absurd (false≢true h)
  get_d_map_index f d a (x ∷ xs) h = go (eq a x) refl h (get_d_map_index f d a xs)
    where
      go : (b : Bool) → eq a x ≡ b → (b || mem eq a xs) ≡ true → (mem eq a xs ≡ true → get_or (map f xs) (index_of eq a xs) d ≡ f a)
          → get_or (f x ∷ map f xs) (cond b zero (suc (index_of eq a xs))) d ≡ f a
      go true e m r = ap f (sym (sound a x e))
      go false e m r = r m

  pub get_d_index : (d : A) (a : A) (xs : List A) → mem eq a xs ≡ true → get_or xs (index_of eq a xs) d ≡ a
  get_d_index d a [] h = absurd (false≢true h)
  get_d_index d a (x ∷ xs) h = go (eq a x) refl h (get_d_index d a xs)
    where
      go : (b : Bool) → eq a x ≡ b → (b || mem eq a xs) ≡ true → (mem eq a xs ≡ true → get_or xs (index_of eq a xs) d ≡ a)
          → get_or (x ∷ xs) (cond b zero (suc (index_of eq a xs))) d ≡ a
      go true e m r = sym (sound a x e)
      go false e m r = r m

  eq_swap : (a b : A) → eq a b ≡ true → eq b a ≡ true
  eq_swap a b e = subst (λ (x : A). eq x a ≡ true) (sound a b e) (same a)

  pub index_inj : (a b : A) (xs : List A) → mem eq a xs ≡ true → mem eq b xs ≡ true → eqb (index_of eq a xs) (index_of eq b xs) ≡ eq a b
  index_inj a b [] h k = absurd (false≢true h)
  index_inj a b (x ∷ xs) h k = go (eq a x) (eq b x) refl refl h k (index_inj a b xs)
    where
      go : (p q : Bool) → eq a x ≡ p → eq b x ≡ q → (p || mem eq a xs) ≡ true → (q || mem eq b xs) ≡ true
          → (mem eq a xs ≡ true → mem eq b xs ≡ true → eqb (index_of eq a xs) (index_of eq b xs) ≡ eq a b)
          → eqb (cond p zero (suc (index_of eq a xs))) (cond q zero (suc (index_of eq b xs))) ≡ eq a b
      go true true e f h k r = sym (subst (λ (y : A). eq a y ≡ true) (sym (sound b x f)) e)
      go true false e f h k r =
          eqb-zero-suc (index_of eq b xs)
          ∙ sym (not-true (eq a b) (λ t. false≢true (sym f ∙ subst (λ (y : A). eq y x ≡ true) (sound a b t) e)))
      go false true e f h k r =
          eqb-suc-zero (index_of eq a xs)
          ∙ sym (not-true (eq a b) (λ t. false≢true (sym e ∙ subst (λ (y : A). eq y x ≡ true) (sound b a (eq_swap a b t)) f)))
      go false false e f h k r = eqb-suc-suc (index_of eq a xs) (index_of eq b xs) ∙ r h k

  pub mem-filter : (f : A → Bool) (a : A) (xs : List A) → mem eq a (filter f xs) ≡ (mem eq a xs && f a)
  mem-filter f a [] = refl
  mem-filter f a (x ∷ xs) = go (f x) (eq a x) refl refl (mem-filter f a xs)
    where
      go : (p q : Bool) → f x ≡ p → eq a x ≡ q → mem eq a (filter f xs) ≡ (mem eq a xs && f a) → mem eq a (cons_if p x (filter f xs)) ≡ ((q || mem eq a xs) && f a)
      go true true e g r = rw g (sym (ap f (sound a x g) ∙ e))
      go true false e g r = rw g r
      go false true e g r = r ∙ rw (ap f (sound a x g) ∙ e) (and_no (mem eq a xs))
        where
          and_no : (b : Bool) → (b && false) ≡ false
          and_no true = refl
          and_no false = refl
      go false false e g r = r

  pub filter_nodup : (f : A → Bool) (xs : List A) → NoDup eq xs → NoDup eq (filter f xs)
  filter_nodup f [] n = tt
  filter_nodup f (x ∷ xs) n = go (f x) (filter_nodup f xs n.1)
    where
      go : (b : Bool) → NoDup eq (filter f xs) → NoDup eq (cons_if b x (filter f xs))
      go true r = (mem-filter f x xs ∙ rw n.0, r)
      go false r = r

  pub others : (x : A) (xs : List A) → mem eq x xs ≡ false → All (λ a. eq a x ≡ false) xs
  others x xs n = All-in eq same (λ a. eq a x ≡ false) xs
      (λ a m. not-true (eq a x) (λ t. true≢false (sym (subst (λ (y : A). mem eq y xs ≡ true) (sound a x t) m) ∙ n)))

  -- in a list with no element twice the indexes count up
  pub map_index : (xs : List A) → NoDup eq xs → map (λ a. index_of eq a xs) xs ≡ upto (length xs)
  map_index [] n = refl
  map_index (x ∷ xs) n =
      rw (same x)
      (ap (λ (l : List ℕ). zero ∷ l)
      (map_cong (λ a. cond (eq a x) zero (suc (index_of eq a xs))) (λ a. suc (index_of eq a xs)) xs
      (All-mono (λ a. eq a x ≡ false) (λ a. cond (eq a x) zero (suc (index_of eq a xs)) ≡ suc (index_of eq a xs)) (λ a e. rw e) xs (others x xs n.0))
      ∙ sym (map-map suc (λ a. index_of eq a xs) xs) ∙ ap (map suc) (map_index xs n.1) ∙ sym (count_suc 0 (length xs))))

-- upto
mem-suc : (a : ℕ) (xs : List ℕ) → mem eqb (suc a) (map suc xs) ≡ mem eqb a xs
mem-suc a xs = mem-map eqb eqb suc (λ n. Unit {0}) (λ n m c d. eqb-suc-suc n m) a xs tt (All-every (λ n. Unit {0}) (λ n. tt) xs)

zero-not : (xs : List ℕ) → mem eqb zero (map suc xs) ≡ false
zero-not [] = refl
zero-not (x ∷ xs) = rw (eqb-zero-suc x) (zero-not xs)

pub mem-upto : (n m : ℕ) → m < n → mem eqb m (upto n) ≡ true
mem-upto zero m h = absurd (omega arith)
mem-upto (suc n) zero h = refl
mem-upto (suc n) (suc m) h = rw (eqb-suc-zero m, count_suc 0 n, mem-suc m (upto n)) (mem-upto n m (omega arith))

pub upto-below : (n : ℕ) → All (λ m. m < n) (upto n)
upto-below zero = tt
upto-below (suc n) = (omega arith, subst (All (λ m. m < suc n)) (sym (count_suc 0 n)) (All-map-into (λ m. m < suc n) suc (upto n) (All-mono (λ m. m < n) (λ m. suc m < suc n) (λ m h. omega arith) (upto n) (upto-below n))))

pub upto_nodup : (n : ℕ) → NoDup eqb (upto n)
upto_nodup zero = tt
upto_nodup (suc n) = (rw (count_suc 0 n) (zero-not (upto n)), subst (NoDup eqb) (sym (count_suc 0 n)) (shifted (upto n) (upto_nodup n)))
  where
    shifted : (xs : List ℕ) → NoDup eqb xs → NoDup eqb (map suc xs)
    shifted [] d = tt
    shifted (x ∷ xs) d = (mem-suc x xs ∙ d.0, shifted xs d.1)

-- joined
module _ {A B : Type 0} where
  pub All-concat-from : (P : B → Type 0) (f : A → List B) (xs : List A) → All P (concat (map f xs)) → All (λ x. All P (f x)) xs
  All-concat-from P f [] h = tt
  All-concat-from P f (x ∷ xs) h = (All-left P (f x) (concat (map f xs)) h, All-concat-from P f xs (All-right P (f x) (concat (map f xs)) h))

  pub All-concat-into : (P : B → Type 0) (f : A → List B) (xs : List A) → All (λ x. All P (f x)) xs → All P (concat (map f xs))
  All-concat-into P f [] h = tt
  All-concat-into P f (x ∷ xs) h = All-append P (f x) (concat (map f xs)) h.0 (All-concat-into P f xs h.1)

  pub filter-concat : (t : B → Bool) (f : A → List B) (xs : List A) → filter t (concat (map f xs)) ≡ concat (map (λ x. filter t (f x)) xs)
  filter-concat t f [] = refl
  filter-concat t f (x ∷ xs) = filter_append t (f x) (concat (map f xs)) ∙ ap (λ (l : List B). filter t (f x) ++ l) (filter-concat t f xs)

  pub concat-filter : (t : A → Bool) (f : A → List B) (xs : List A) → All (λ x. t x ≡ false → f x ≡ []) xs → concat (map f (filter t xs)) ≡ concat (map f xs)
  concat-filter t f [] h = refl
  concat-filter t f (x ∷ xs) h = go (t x) h.0 (concat-filter t f xs h.1)
    where
      go : (b : Bool) → (b ≡ false → f x ≡ []) → concat (map f (filter t xs)) ≡ concat (map f xs) → concat (map f (cons_if b x (filter t xs))) ≡ f x ++ concat (map f xs)
      go true k r = ap (λ (l : List B). f x ++ l) r
      go false k r = rw (k refl) r

pub map-concat : {A B C : Type 0} (g : B → C) (f : A → List B) (xs : List A) → concat (map (λ x. map g (f x)) xs) ≡ map g (concat (map f xs))
map-concat g f [] = refl
map-concat g f (x ∷ xs) = ap (λ l. map g (f x) ++ l) (map-concat g f xs) ∙ sym (map-append g (f x) (concat (map f xs)))

pub mem-none : {A B : Type 0} (eq : B → B → Bool) (b : B) (f : A → B) → ((a : A) → eq b (f a) ≡ false) → (xs : List A) → mem eq b (map f xs) ≡ false
mem-none eq b f h [] = refl
mem-none eq b f h (x ∷ xs) = rw (h x) (mem-none eq b f h xs)

-- in a list without repeats at most one number passes a test that only g passes
pub one_of : (g : ℕ) (f : ℕ → Bool) → ((x : ℕ) → f x ≡ true → eqb g x ≡ true) → (xs : List ℕ) → NoDup eqb xs → length (filter f xs) ≤ 1
one_of g f h [] n = omega arith
one_of g f h (x ∷ xs) n = go (f x) refl (one_of g f h xs n.1)
  where
    go : (c : Bool) → f x ≡ c → length (filter f xs) ≤ 1 → length (cons_if c x (filter f xs)) ≤ 1
    go false e r = r
    go true e r =
        let z : filter f xs ≡ [] =
        filter_none f xs
        (All-in eqb eqb_same (λ a. f a ≡ false) xs
        (λ a k.
        not-true (f a)
        (λ t. true≢false (sym (subst (λ (y : ℕ). mem eqb y xs ≡ true) (sym (eqb_sound g a (h a t)) ∙ eqb_sound g x (h x e)) k) ∙ n.0))))
        in
        omega (arith, ap length z)
