-- What holds of each thing of a list; choosing, renaming and membership.
use Rattle.std.specs.Prelude.{◌≡◌, refl, Bool, true, false, ◌||◌, List, [], ◌∷◌, ◌++◌, map, ℕ, zero, suc, ◌+◌, ◌<◌, length, get_or, take, drop, replicate}
use Rattle.std.proofs.Common.{sym, ap, ◌∙◌, subst, append_assoc, arith}
use Rattle.std.proofs.lemmas.Bool.{false≢true}
use Rattle.std.proofs.Math.Bool.{or-true}
use Rattle.std.proofs.lemmas.List.{map-append}
use Rattle.definition.specs.Lists.{range, cons_if, filter, concat, mem}

-- the numbers below n
abbrev pub upto : ℕ → List ℕ
upto n = range 0 n

pub count_suc : (i n : ℕ) → range (suc i) n ≡ map suc (range i n)
count_suc i zero = refl
count_suc i (suc n) = ap (λ (l : List ℕ). suc i ∷ l) (count_suc (suc i) n)

pub length_count : (i n : ℕ) → length (range i n) ≡ n
length_count i zero = refl
length_count i (suc n) = ap suc (length_count (suc i) n)

pub range_append : (i m n : ℕ) → range i (m + n) ≡ range i m ++ range (i + m) n
range_append i zero n =
    let a : 0 + n ≡ n = omega arith in
    let b : i + 0 ≡ i = omega arith in
    rw (a, b)
range_append i (suc m) n =
    let a : suc m + n ≡ suc (m + n) = omega arith in
    let b : i + suc m ≡ suc i + m = omega arith in
    rw (a, b) (ap (λ (l : List ℕ). i ∷ l) (range_append (suc i) m n))

-- one more number
pub upto_snoc : (n : ℕ) → upto (suc n) ≡ upto n ++ n ∷ []
upto_snoc n =
    let a : suc n ≡ n + 1 = omega arith in
    let b : 0 + n ≡ n = omega arith in
    ap upto a ∙ range_append 0 n 1 ∙ ap (λ (k : ℕ). upto n ++ k ∷ []) b

-- lists one after the other, of two lists of them
pub concat_append : {A : Type 0} (xs ys : List (List A)) → concat (xs ++ ys) ≡ concat xs ++ concat ys
concat_append [] ys = refl
concat_append (x ∷ xs) ys = ap (λ l. x ++ l) (concat_append xs ys) ∙ sym (append_assoc x (concat xs) (concat ys))

pub concat-map_append : {A B : Type 0} (f : A → List B) (xs ys : List A) → concat (map f (xs ++ ys)) ≡ concat (map f xs) ++ concat (map f ys)
concat-map_append f xs ys = ap concat (map-append f xs ys) ∙ concat_append (map f xs) (map f ys)

-- an entry of what is made of a run of numbers
module _ {A : Type 0} (f : ℕ → A) (d : A) where
  from_at : (i n k : ℕ) → k < n → get_or (map f (range i n)) k d ≡ f (i + k)
  from_at i zero k h = absurd (let z : ⊥ = omega arith in z)
  from_at i (suc n) zero h = ap f (let z : i ≡ i + 0 = omega arith in z)
  from_at i (suc n) (suc k) h = from_at (suc i) n k (omega arith) ∙ ap f (let z : suc i + k ≡ i + suc k = omega arith in z)

  pub count_at : (n k : ℕ) → k < n → get_or (map f (range 0 n)) k d ≡ f k
  count_at n k h = from_at 0 n k h ∙ ap f (let z : 0 + k ≡ k = omega arith in z)

-- what holds of each thing of a list
abbrev pub All : {A : Type 0} → (A → Type 0) → List A → Type 0
All P [] = Unit {0}
All P (x ∷ xs) = P x × All P xs

module _ {A : Type 0} (P : A → Type 0) where
  pub All-append : (xs ys : List A) → All P xs → All P ys → All P (xs ++ ys)
  All-append [] ys p q = q
  All-append (x ∷ xs) ys p q = (p.0, All-append xs ys p.1 q)

  pub All-keep : (b : Bool) (x : A) (r : List A) → P x → All P r → All P (cons_if b x r)
  All-keep true x r p q = (p, q)
  All-keep false x r p q = q

  pub All-filter : (f : A → Bool) (xs : List A) → All P xs → All P (filter f xs)
  All-filter f [] p = tt
  All-filter f (x ∷ xs) p = All-keep (f x) x (filter f xs) p.0 (All-filter f xs p.1)

  pub All-every : ((a : A) → P a) → (xs : List A) → All P xs
  All-every h [] = tt
  All-every h (x ∷ xs) = (h x, All-every h xs)

  pub All-map-into : {B : Type 0} (f : B → A) (xs : List B) → All (λ b. P (f b)) xs → All P (map f xs)
  All-map-into f [] p = tt
  All-map-into f (x ∷ xs) p = (p.0, All-map-into f xs p.1)

  pub All-map-from : {B : Type 0} (f : B → A) (xs : List B) → All P (map f xs) → All (λ b. P (f b)) xs
  All-map-from f [] p = tt
  All-map-from f (x ∷ xs) p = (p.0, All-map-from f xs p.1)

  pub All-left : (xs ys : List A) → All P (xs ++ ys) → All P xs
  All-left [] ys p = tt
  All-left (x ∷ xs) ys p = (p.0, All-left xs ys p.1)

  pub All-right : (xs ys : List A) → All P (xs ++ ys) → All P ys
  All-right [] ys p = p
  All-right (x ∷ xs) ys p = All-right xs ys p.1

  pub All-take : (n : ℕ) (xs : List A) → All P xs → All P (take n xs)
  All-take zero xs p = tt
  All-take (suc n) [] p = tt
  All-take (suc n) (x ∷ xs) p = (p.0, All-take n xs p.1)

  pub All-drop : (n : ℕ) (xs : List A) → All P xs → All P (drop n xs)
  All-drop zero xs p = p
  All-drop (suc n) [] p = tt
  All-drop (suc n) (x ∷ xs) p = All-drop n xs p.1

  pub All-replicate : (n : ℕ) (x : A) → P x → All P (replicate n x)
  All-replicate zero x p = tt
  All-replicate (suc n) x p = (p, All-replicate n x p)

module _ {A : Type 0} (P Q : A → Type 0) where
  pub All-mono : ((a : A) → P a → Q a) → (xs : List A) → All P xs → All Q xs
  All-mono h [] p = tt
  All-mono h (x ∷ xs) p = (h x p.0, All-mono h xs p.1)

  pub All-both : (xs : List A) → All P xs → All Q xs → All (λ a. P a × Q a) xs
  All-both [] p q = tt
  All-both (x ∷ xs) p q = ((p.0, q.0), All-both xs p.1 q.1)

-- select
module _ {A : Type 0} where
  pub keep_append : (b : Bool) (x : A) (xs ys : List A) → cons_if b x (xs ++ ys) ≡ cons_if b x xs ++ ys
  keep_append true x xs ys = refl
  keep_append false x xs ys = refl

  pub filter_append : (f : A → Bool) (xs ys : List A) → filter f (xs ++ ys) ≡ filter f xs ++ filter f ys
  filter_append f [] ys = refl
  filter_append f (x ∷ xs) ys = rw (filter_append f xs ys) (keep_append (f x) x (filter f xs) (filter f ys))

  pub filter_cong : (f g : A → Bool) (xs : List A) → All (λ a. f a ≡ g a) xs → filter f xs ≡ filter g xs
  filter_cong f g [] h = refl
  filter_cong f g (x ∷ xs) h = cc (h.0, filter_cong f g xs h.1)

  pub filter_none : (f : A → Bool) (xs : List A) → All (λ a. f a ≡ false) xs → filter f xs ≡ []
  filter_none f [] h = refl
  filter_none f (x ∷ xs) h = rw h.0 (filter_none f xs h.1)

  pub filter-every : (f : A → Bool) (xs : List A) → All (λ a. f a ≡ true) xs → filter f xs ≡ xs
  filter-every f [] h = refl
  filter-every f (x ∷ xs) h = rw h.0 (ap (λ (l : List A). x ∷ l) (filter-every f xs h.1))

  pub append_none : (l : List A) → l ++ [] ≡ l
  append_none [] = refl
  append_none (x ∷ l) = ap (λ (r : List A). x ∷ r) (append_none l)

  pub filter_holds : (f : A → Bool) (xs : List A) → All (λ a. f a ≡ true) (filter f xs)
  filter_holds f [] = tt
  filter_holds f (x ∷ xs) = go (f x) refl (filter_holds f xs)
    where
      go : (b : Bool) → f x ≡ b → All (λ a. f a ≡ true) (filter f xs) → All (λ a. f a ≡ true) (cons_if b x (filter f xs))
      go true e r = (e, r)
      go false e r = r

module _ {A B : Type 0} where
  pub map_keep : (f : A → B) (b : Bool) (x : A) (r : List A) → map f (cons_if b x r) ≡ cons_if b (f x) (map f r)
  map_keep f true x r = refl
  map_keep f false x r = refl

  pub filter_map : (f : A → B) (p : B → Bool) (xs : List A) → filter p (map f xs) ≡ map f (filter (λ a. p (f a)) xs)
  filter_map f p [] = refl
  filter_map f p (x ∷ xs) = rw (filter_map f p xs) (sym (map_keep f (p (f x)) x (filter (λ a. p (f a)) xs)))

  pub map_cong : (f g : A → B) (xs : List A) → All (λ a. f a ≡ g a) xs → map f xs ≡ map g xs
  map_cong f g [] h = refl
  map_cong f g (x ∷ xs) h = cc (h.0, map_cong f g xs h.1)

-- membership and All
module _ {A : Type 0} (eq : A → A → Bool) where
  pub All-at : (sound : (a b : A) → eq a b ≡ true → a ≡ b) (P : A → Type 0) (xs : List A) → All P xs → (a : A) → mem eq a xs ≡ true → P a
  All-at sound P [] h a m = absurd (false≢true m)
  All-at sound P (x ∷ xs) h a m = go (eq a x) refl m (All-at sound P xs h.1 a)
    where
      go : (b : Bool) → eq a x ≡ b → (b || mem eq a xs) ≡ true → (mem eq a xs ≡ true → P a) → P a
      go true e n r = subst P (sym (sound a x e)) h.0
      go false e n r = r n

  pub mem_self : (same : (a : A) → eq a a ≡ true) (xs : List A) → All (λ a. mem eq a xs ≡ true) xs
  mem_self same [] = tt
  mem_self same (x ∷ xs) =
      (rw (same x), All-mono (λ a. mem eq a xs ≡ true) (λ a. mem eq a (x ∷ xs) ≡ true) (λ a m. rw (m, or-true (eq a x))) xs (mem_self same xs))

  pub All-in : (same : (a : A) → eq a a ≡ true) (P : A → Type 0) (xs : List A) → ((a : A) → mem eq a xs ≡ true → P a) → All P xs
  All-in same P xs h = All-mono (λ a. mem eq a xs ≡ true) P h xs (mem_self same xs)
