-- Laws of lists that the rows need: regions of regions and of maps, and runs of numbers.
use Rattle.std.specs.Prelude.{ℕ, zero, suc, ◌+◌, ◌<◌, ◌≡◌, refl, List, [], ◌∷◌, ◌++◌, map, length, get_or, take, drop}
use Rattle.std.proofs.Common.{zero-add, arith, sym, ap, ◌∙◌, length-drop, take-suc, get_or-drop}
use Rattle.std.proofs.Math.Seq.{take-nil}
use Rattle.definition.specs.Lists.{range}
use Rattle.list_laws.specs.Part.{region}

module _ {A : Type 0} where
  pub drop-take : (n m : ℕ) (l : List A) → drop n (take (n + m) l) ≡ take m (drop n l)
  drop-take zero m l = ap (λ (k : ℕ). take k l) (zero-add m)
  drop-take (suc n) m [] = ap (λ (k : ℕ). drop {A = A} (suc n) (take k [])) (let z : suc n + m ≡ suc (n + m) = omega arith in z) ∙ sym (take-nil m)
  drop-take (suc n) m (a ∷ l) = ap (λ (k : ℕ). drop (suc n) (take k (a ∷ l))) (let z : suc n + m ≡ suc (n + m) = omega arith in z) ∙ drop-take n m l

  -- an entry that is there may be read with any default
  pub get_d_any : (l : List A) (i : ℕ) (d e : A) → i < length l → get_or l i d ≡ get_or l i e
  get_d_any [] i d e h = absurd (let z : ⊥ = omega arith in z)
  get_d_any (a ∷ l) zero d e h = refl
  get_d_any (a ∷ l) (suc i) d e h = get_d_any l i d e (omega arith)

  pub region-suc : (l : List A) (f n : ℕ) (d : A) → f + n < length l → region l f (suc n) ≡ region l f n ++ (get_or l (f + n) d ∷ [])
  region-suc l f n d h = take-suc (drop f l) n d (simp length-drop (omega arith)) ∙ ap (λ (a : A). region l f n ++ (a ∷ [])) (get_or-drop f l n d)

module _ {A B : Type 0} (f : A → B) where
  pub map-take : (n : ℕ) (l : List A) → map f (take n l) ≡ take n (map f l)
  map-take zero l = refl
  map-take (suc n) [] = refl
  map-take (suc n) (a ∷ l) = ap {B = List B} (λ r. f a ∷ r) (map-take n l)

  pub map-drop : (n : ℕ) (l : List A) → map f (drop n l) ≡ drop n (map f l)
  map-drop zero l = refl
  map-drop (suc n) [] = refl
  map-drop (suc n) (a ∷ l) = map-drop n l

pub get_d_range : (i n k : ℕ) → k < n → get_or (range i n) k 0 ≡ i + k
get_d_range i zero k h = absurd (let z : ⊥ = omega arith in z)
get_d_range i (suc n) zero h = omega arith
get_d_range i (suc n) (suc k) h = get_d_range (suc i) n k (omega arith) ∙ omega arith
