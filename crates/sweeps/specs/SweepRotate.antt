-- Three rows of l floats that change places: each gets the next one's, and the last one the first one's.
use Rattle.std.specs.Prelude.{ℕ, ◌+◌, ◌≡◌, List, ◌++◌, Float, length, take, drop}
use Rattle.std.proofs.Common.{arith, sym, ap, ◌∙◌, drop-drop, take_at, drop_at}
use Rattle.std.proofs.Math.Seq.{drop-append-add}
use Rattle.list_laws.specs.Part.{region}

abbrev pub rotated : ℕ → List Float → List Float
rotated l w = region w l l ++ (region w (l + l) l ++ (region w 0 l ++ drop (l + l + l) w))

-- as the code leaves it: the slice is cut at l, and behind that again; the first two rows change places, then the last two
pub rotated-swapped :
    (l : ℕ) (w f b g h x y z v : List Float) → f ≡ take l w → b ≡ drop l w → g ≡ take l b → h ≡ drop l b → x ≡ g → y ≡ f → z ≡ take l h → v ≡ y →
    x ++ (z ++ (v ++ drop l h)) ≡ rotated l w
rotated-swapped l w f b g h x y z v ef eb eg eh ex ey ez ev =
    let two : drop l (drop l w) ≡ drop (l + l) w = drop-drop l l w in
    let three : drop l (drop (l + l) w) ≡ drop (l + l + l) w = drop-drop l (l + l) w in
    cc

-- three rows of one length and what follows them
pub rotated-rows : (a b c r : List Float) (l : ℕ) → length a ≡ l → length b ≡ l → length c ≡ l → rotated l (a ++ (b ++ (c ++ r))) ≡ b ++ (c ++ (a ++ r))
rotated-rows a b c r l x y z =
    let w = a ++ (b ++ (c ++ r)) in
    let one : drop l w ≡ b ++ (c ++ r) = drop_at a (b ++ (c ++ r)) l x in
    let two : drop (l + l) w ≡ c ++ r = ap (λ (n : ℕ). drop (n + l) w) (sym x) ∙ drop-append-add a (b ++ (c ++ r)) l ∙ drop_at b (c ++ r) l y in
    let three : drop (l + l + l) w ≡ r =
    ap (λ (n : ℕ). drop n w) (let q : l + l + l ≡ length a + (length b + l) = omega arith in q) ∙ drop-append-add a (b ++ (c ++ r)) (length b + l)
    ∙ drop-append-add b (c ++ r) l ∙ drop_at c r l z in
    ap (λ (u : List Float). take l u ++ (region w (l + l) l ++ (region w 0 l ++ drop (l + l + l) w))) one
    ∙ ap (λ (u : List Float). u ++ (region w (l + l) l ++ (region w 0 l ++ drop (l + l + l) w))) (take_at b (c ++ r) l y)
    ∙ ap (λ (u : List Float). b ++ (take l u ++ (region w 0 l ++ drop (l + l + l) w))) two
    ∙ ap (λ (u : List Float). b ++ (u ++ (region w 0 l ++ drop (l + l + l) w))) (take_at c r l z)
    ∙ ap (λ (u : List Float). b ++ (c ++ (u ++ drop (l + l + l) w))) (take_at a (b ++ (c ++ r)) l x)
    ∙ ap (λ (u : List Float). b ++ (c ++ (a ++ u))) three
