-- When one list of bytes begins with the other, what is left of the two decides whether they are the same.
use Rattle.std.specs.Prelude.{ℕ, ◌≤◌, ◌≡◌, refl, Bool, true, false, ◌&&◌, List, [], ◌∷◌, ◌++◌, eqb, length, take, drop}
use Rattle.std.proofs.Common.{arith, length-take}
use Rattle.std.specs.Str.{bytes_eq}
use Rattle.std.specs.List.{starts_with}
use lib.Pointwise.{pointwise_long}

pub starts_fits : (text a : List ℕ) → starts_with eqb text a ≡ true → length a ≤ length text
starts_fits text a h = omega (arith, pointwise_long eqb a (take (length a) text) h, length-take (length a) text)

-- the front, and then the rest
pub same-joined : (a b text : List ℕ) → bytes_eq (a ++ b) text ≡ starts_with eqb text a && bytes_eq b (drop (length a) text)
same-joined [] b text = refl
same-joined (x ∷ a) b [] = refl
same-joined (x ∷ a) b (y ∷ ys) = go (eqb x y) (same-joined a b ys)
  where
    go : (t : Bool) → bytes_eq (a ++ b) ys ≡ starts_with eqb ys a && bytes_eq b (drop (length a) ys)
        → (t && bytes_eq (a ++ b) ys) ≡ (t && starts_with eqb ys a) && bytes_eq b (drop (length a) ys)
    go true e = e
    go false e = refl
