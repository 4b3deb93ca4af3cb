-- Interval arithmetic with ends that antt computes: from x in [xl, xh] and y in [yl, yh], the result of an operation is in [L, H] where one computed test on the ends passes.
-- Write `add_in L H i j (unfold add-test in tt)`, with closed ends.
use Rattle.std.proofs.Common.{⊎_elim}
use Rattle.std.specs.Prelude.{Bool, true, false, not, ◌&&◌, cond, List, [], ◌∷◌, T, Float}
use Rattle.std.specs.Float.Ieee.{binary32, add, sub, mul, div, le, lt, is_nan}
use Rattle.std.specs.Float.Ieee.Fits.{and_l, and_r}
use Rattle.std.specs.Float.Ieee.Scale.{finite}
use Rattle.std.specs.Float.Ieee.Positive.{positive, between}
use Rattle.float_laws.specs.Order.{le_trans_at, le-refl-at, le-total-at, nlt→le, finite-between, finite_number, le-number-l}
use Rattle.float_laws.specs.Laws.{zeroᶠ, add_mono, sub_mono, mul_mono_l, mul_mono_r, mul_anti_l, mul_anti_r, div_mono, div_anti, div_rise}

pub record In (lo hi z : Float) : Type 0 where
  pub low : T (le lo z)
  pub high : T (le z hi)

-- ---- many tests at once
abbrev pub allb : List Bool → Bool
allb [] = true
allb (c ∷ cs) = c && allb cs

abbrev pub AllTrue : List Bool → Type 0
AllTrue [] = Unit {0}
AllTrue (c ∷ cs) = T c × AllTrue cs

pub all→ : (cs : List Bool) → T (allb cs) → AllTrue cs
all→ [] t = tt
all→ (c ∷ cs) t = (and_l c (allb cs) t, all→ cs (and_r c (allb cs) t))

-- ---- what an interval tells
pub in_finite : {lo hi z : Float} → In lo hi z → T (finite lo && finite hi) → T (finite z)
in_finite {lo} {hi} {z} i t = finite-between lo z hi (and_l (finite lo) (finite hi) t) (and_r (finite lo) (finite hi) t) i.low i.high

pub in_number : {lo hi z : Float} → In lo hi z → T (not (is_nan z))
in_number {lo} {hi} {z} i = le-number-l z hi i.high

pub in_wider : {lo hi z : Float} (L H : Float) → In lo hi z → T (le L lo && le hi H) → In L H z
in_wider {lo} {hi} {z} L H i t = record { low = le_trans_at L lo z (and_l (le L lo) (le hi H) t) i.low; high = le_trans_at z hi H i.high (and_r (le L lo) (le hi H) t) }

pub in_positive : {lo hi z : Float} → In lo hi z → T (positive lo && positive hi) → T (positive z)
in_positive {lo} {hi} {z} i t = between lo z hi (and_l (positive lo) (positive hi) t) (and_r (positive lo) (positive hi) t) i.low i.high

pub in_self : (x : Float) → T (not (is_nan x)) → In x x x
in_self x h = record { low = le-refl-at x h; high = le-refl-at x h }

-- ---- the tests, and the law of each operation
unfoldable pub add-test : Float → Float → Float → Float → Float → Float → Bool
unfolding add le
add-test L H xl xh yl yh = allb (finite xl ∷ finite xh ∷ finite yl ∷ finite yh ∷ le L (add binary32 xl yl) ∷ le (add binary32 xh yh) H ∷ [])

pub add_in : {xl xh yl yh x y : Float} (L H : Float) → In xl xh x → In yl yh y → T (add-test L H xl xh yl yh) → In L H (add binary32 x y)
add_in {xl} {xh} {yl} {yh} {x} {y} L H i j t =
    let c = all→ (finite xl ∷ finite xh ∷ finite yl ∷ finite yh ∷ le L (add binary32 xl yl) ∷ le (add binary32 xh yh) H ∷ []) (unfold add-test in t) in
    let p = finite-between xl x xh c.0 c.1.0 i.low i.high in
    let q = finite-between yl y yh c.1.1.0 c.1.1.1.0 j.low j.high in
    let d = c.1.1.1.1 in
    record {
      low = le_trans_at L (add binary32 xl yl) (add binary32 x y) d.0 (add_mono xl x yl y c.0 p c.1.1.0 q i.low j.low);
      high = le_trans_at (add binary32 x y) (add binary32 xh yh) H (add_mono x xh y yh p c.1.0 q c.1.1.1.0 i.high j.high) d.1.0;
    }

unfoldable pub sub-test : Float → Float → Float → Float → Float → Float → Bool
unfolding sub le
sub-test L H xl xh yl yh = allb (finite xl ∷ finite xh ∷ finite yl ∷ finite yh ∷ le L (sub binary32 xl yh) ∷ le (sub binary32 xh yl) H ∷ [])

pub sub_in : {xl xh yl yh x y : Float} (L H : Float) → In xl xh x → In yl yh y → T (sub-test L H xl xh yl yh) → In L H (sub binary32 x y)
sub_in {xl} {xh} {yl} {yh} {x} {y} L H i j t =
    let c = all→ (finite xl ∷ finite xh ∷ finite yl ∷ finite yh ∷ le L (sub binary32 xl yh) ∷ le (sub binary32 xh yl) H ∷ []) (unfold sub-test in t) in
    let p = finite-between xl x xh c.0 c.1.0 i.low i.high in
    let q = finite-between yl y yh c.1.1.0 c.1.1.1.0 j.low j.high in
    let d = c.1.1.1.1 in
    record {
      low = le_trans_at L (sub binary32 xl yh) (sub binary32 x y) d.0 (sub_mono xl x yh y c.0 p c.1.1.1.0 q i.low j.high);
      high = le_trans_at (sub binary32 x y) (sub binary32 xh yl) H (sub_mono x xh y yl p c.1.0 q c.1.1.0 i.high j.low) d.1.0;
    }

-- the product, of any signs: the four corners lie in [L, H]
unfoldable pub mul-test : Float → Float → Float → Float → Float → Float → Bool
unfolding mul le
mul-test L H xl xh yl yh =
    allb
    (finite xl ∷ finite xh ∷ finite yl ∷ finite yh ∷ le L (mul binary32 xl yl) ∷ le (mul binary32 xl yl) H ∷ le L (mul binary32 xl yh) ∷ le (mul binary32 xl yh) H ∷ le L (mul binary32 xh yl) ∷ le (mul binary32 xh yl) H ∷ le L (mul binary32 xh yh) ∷ le (mul binary32 xh yh) H ∷ [])

-- with x fixed, the product lies between those at the ends of y
mul_right : (L H x yl yh y : Float) → T (finite x) → T (finite yl) → T (finite yh) → T (finite y) → In yl yh y → In L H (mul binary32 x yl) → In L H (mul binary32 x yh) → In L H (mul binary32 x y)
mul_right L H x yl yh y p ql qh q j a b =
    ⊎_elim
    (λ (z : T (le zeroᶠ x)). record { low = le_trans_at L (mul binary32 x yl) (mul binary32 x y) a.low (mul_mono_r x yl y p ql q z j.low); high = le_trans_at (mul binary32 x y) (mul binary32 x yh) H (mul_mono_r x y yh p q qh z j.high) b.high })
    (λ (z : T (le x zeroᶠ)). record { low = le_trans_at L (mul binary32 x yh) (mul binary32 x y) b.low (mul_anti_r x y yh p q qh z j.high); high = le_trans_at (mul binary32 x y) (mul binary32 x yl) H (mul_anti_r x yl y p ql q z j.low) a.high })
    (le-total-at zeroᶠ x (unfold is_nan in tt) (finite_number x p))

mul_left : (L H xl xh x y : Float) → T (finite xl) → T (finite xh) → T (finite x) → T (finite y) → In xl xh x → In L H (mul binary32 xl y) → In L H (mul binary32 xh y) → In L H (mul binary32 x y)
mul_left L H xl xh x y pl ph p q i a b =
    ⊎_elim
    (λ (z : T (le zeroᶠ y)). record { low = le_trans_at L (mul binary32 xl y) (mul binary32 x y) a.low (mul_mono_l xl x y pl p q i.low z); high = le_trans_at (mul binary32 x y) (mul binary32 xh y) H (mul_mono_l x xh y p ph q i.high z) b.high })
    (λ (z : T (le y zeroᶠ)). record { low = le_trans_at L (mul binary32 xh y) (mul binary32 x y) b.low (mul_anti_l x xh y p ph q i.high z); high = le_trans_at (mul binary32 x y) (mul binary32 xl y) H (mul_anti_l xl x y pl p q i.low z) a.high })
    (le-total-at zeroᶠ y (unfold is_nan in tt) (finite_number y q))

pub mul_in : {xl xh yl yh x y : Float} (L H : Float) → In xl xh x → In yl yh y → T (mul-test L H xl xh yl yh) → In L H (mul binary32 x y)
mul_in {xl} {xh} {yl} {yh} {x} {y} L H i j t =
    let c =
    all→
    (finite xl ∷ finite xh ∷ finite yl ∷ finite yh ∷ le L (mul binary32 xl yl) ∷ le (mul binary32 xl yl) H ∷ le L (mul binary32 xl yh) ∷ le (mul binary32 xl yh) H ∷ le L (mul binary32 xh yl) ∷ le (mul binary32 xh yl) H ∷ le L (mul binary32 xh yh) ∷ le (mul binary32 xh yh) H ∷ [])
    (unfold mul-test in t) in
    let p = finite-between xl x xh c.0 c.1.0 i.low i.high in
    let q = finite-between yl y yh c.1.1.0 c.1.1.1.0 j.low j.high in
    let d = c.1.1.1.1 in
    let e = d.1.1.1.1 in
    mul_left L H xl xh x y c.0 c.1.0 p q i
    (mul_right L H xl yl yh y c.0 c.1.1.0 c.1.1.1.0 q j (record { low = d.0; high = d.1.0 }) (record { low = d.1.1.0; high = d.1.1.1.0 }))
    (mul_right L H xh yl yh y c.1.0 c.1.1.0 c.1.1.1.0 q j (record { low = e.0; high = e.1.0 }) (record { low = e.1.1.0; high = e.1.1.1.0 }))

-- the quotient by a value above zero, the numerator of any sign
unfoldable pub div-test : Float → Float → Float → Float → Float → Float → Bool
unfolding div le
div-test L H xl xh yl yh =
    allb
    (finite xl ∷ finite xh ∷ positive yl ∷ positive yh ∷ le L (div binary32 xl yl) ∷ le (div binary32 xl yl) H ∷ le L (div binary32 xl yh) ∷ le (div binary32 xl yh) H ∷ le L (div binary32 xh yl) ∷ le (div binary32 xh yl) H ∷ le L (div binary32 xh yh) ∷ le (div binary32 xh yh) H ∷ [])

div_right : (L H x yl yh y : Float) → T (finite x) → T (positive yl) → T (positive yh) → T (positive y) → In yl yh y → In L H (div binary32 x yl) → In L H (div binary32 x yh) → In L H (div binary32 x y)
div_right L H x yl yh y p ql qh q j a b =
    ⊎_elim
    (λ (z : T (le zeroᶠ x)). record { low = le_trans_at L (div binary32 x yh) (div binary32 x y) b.low (div_anti x y yh p q qh z j.high); high = le_trans_at (div binary32 x y) (div binary32 x yl) H (div_anti x yl y p ql q z j.low) a.high })
    (λ (z : T (le x zeroᶠ)). record { low = le_trans_at L (div binary32 x yl) (div binary32 x y) a.low (div_rise x yl y p ql q z j.low); high = le_trans_at (div binary32 x y) (div binary32 x yh) H (div_rise x y yh p q qh z j.high) b.high })
    (le-total-at zeroᶠ x (unfold is_nan in tt) (finite_number x p))

pub div_in : {xl xh yl yh x y : Float} (L H : Float) → In xl xh x → In yl yh y → T (div-test L H xl xh yl yh) → In L H (div binary32 x y)
div_in {xl} {xh} {yl} {yh} {x} {y} L H i j t =
    let c =
    all→
    (finite xl ∷ finite xh ∷ positive yl ∷ positive yh ∷ le L (div binary32 xl yl) ∷ le (div binary32 xl yl) H ∷ le L (div binary32 xl yh) ∷ le (div binary32 xl yh) H ∷ le L (div binary32 xh yl) ∷ le (div binary32 xh yl) H ∷ le L (div binary32 xh yh) ∷ le (div binary32 xh yh) H ∷ [])
    (unfold div-test in t) in
    let p = finite-between xl x xh c.0 c.1.0 i.low i.high in
    let q = between yl y yh c.1.1.0 c.1.1.1.0 j.low j.high in
    let d = c.1.1.1.1 in
    let e = d.1.1.1.1 in
    let l = div_right L H xl yl yh y c.0 c.1.1.0 c.1.1.1.0 q j (record { low = d.0; high = d.1.0 }) (record { low = d.1.1.0; high = d.1.1.1.0 }) in
    let r = div_right L H xh yl yh y c.1.0 c.1.1.0 c.1.1.1.0 q j (record { low = e.0; high = e.1.0 }) (record { low = e.1.1.0; high = e.1.1.1.0 }) in
    record {
      low = le_trans_at L (div binary32 xl y) (div binary32 x y) l.low (div_mono xl x y c.0 p q i.low);
      high = le_trans_at (div binary32 x y) (div binary32 xh y) H (div_mono x xh y p c.1.0 q i.high) r.high;
    }

-- ---- a test in code, `if x < lo { lo } else { x }`, of a number x that is at most hi
pub raised_in : (lo hi x : Float) → T (not (is_nan x)) → T (le lo hi) → T (le x hi) → In lo hi (cond (lt x lo) lo x)
raised_in lo hi x n b h = go (lt x lo) (λ (t : T (not (lt x lo))). nlt→le x lo n (le-number-l lo hi b) t)
  where
    go : (t : Bool) → (T (not t) → T (le lo x)) → In lo hi (cond t lo x)
    go true k = record { low = le-refl-at lo (le-number-l lo hi b); high = b }
    go false k = record { low = k tt; high = h }
