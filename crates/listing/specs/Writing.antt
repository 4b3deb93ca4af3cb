-- Bytes written into a buffer from a place on, and a line as its fields, each with the byte that ends it.
use Rattle.std.specs.Prelude.{◌≡◌, refl, List, [], ◌∷◌, ◌++◌, ℕ, ◌+◌, ◌≤◌, ◌<◌, length, set}
use Rattle.std.proofs.Common.{ap, ◌∙◌, arith, length-append}
use Rattle.list_laws.specs.Put.{put, put_next, put-none, length-put}
use Rattle.list_laws.specs.PutMore.{put_one_lem}
use Rattle.definition.specs.Text.{ascii}
use Rattle.definition.specs.Listing.{line}

-- m is the buffer l with the bytes s from place at on, and k is the place after them
pub record Written (l : List ℕ) (at : ℕ) (s m : List ℕ) (k : ℕ) : Type 0 where
  pub bytes : m ≡ put l at s
  pub place : k ≡ at + length s

pub written_byte : (l : List ℕ) (at b : ℕ) → at < length l → Written l at (b ∷ []) (set l at b) (at + 1)
written_byte l at b h = record { bytes = put_one_lem 0 l at b h; place = refl }

-- s and then t
pub written_next :
    {l : List ℕ} {at : ℕ} {s m : List ℕ} {k : ℕ} {t n : List ℕ} {j : ℕ} →
    Written l at s m k → Written m k t n j → at + length (s ++ t) ≤ length l → Written l at (s ++ t) n j
written_next {l} {at} {s} {m} {k} {t} {n} {j} a b h =
    let e : length (s ++ t) ≡ length s + length t = length-append s t in
    record {
      bytes = b.bytes ∙ ap (λ (z : List ℕ). put z k t) a.bytes ∙ ap (λ (z : ℕ). put (put l at s) z t) a.place ∙ put_next 0 l at s t (omega arith);
      place = omega (arith, a.place, b.place);
    }

pub written_is : {l : List ℕ} {at : ℕ} {s t m : List ℕ} {k : ℕ} → s ≡ t → Written l at s m k → Written l at t m k
written_is {l} {at} {s} {t} {m} {k} e w = rw e at w

pub written-long : {l : List ℕ} {at : ℕ} {s m : List ℕ} {k : ℕ} → Written l at s m k → at + length s ≤ length l → length m ≡ length l
written-long {l} {at} {s} w h = ap length w.bytes ∙ length-put l at s h

-- ---- what is left to write

-- the buffer m from place k on still wants the bytes t, and then it is l with s from place at on
pub record Left (l : List ℕ) (at : ℕ) (s m : List ℕ) (k : ℕ) (t : List ℕ) : Type 0 where
  pub bytes : put m k t ≡ put l at s
  pub place : k + length t ≡ at + length s
  pub fits : k + length t ≤ length m

pub left-all : (l : List ℕ) (at : ℕ) (s : List ℕ) → at + length s ≤ length l → Left l at s l at s
left-all l at s h = record { bytes = refl; place = refl; fits = h }

pub left-next :
    {l : List ℕ} {at : ℕ} {s m : List ℕ} {k : ℕ} {u t n : List ℕ} {j : ℕ} →
    Left l at s m k (u ++ t) → Written m k u n j → Left l at s n j t
left-next {l} {at} {s} {m} {k} {u} {t} {n} {j} a w =
    let e : length (u ++ t) ≡ length u + length t = length-append u t in
    let p : length n ≡ length m = written-long w (omega (arith, a.fits)) in
    record {
      bytes = ap (λ (z : List ℕ). put z j t) w.bytes ∙ ap (λ (z : ℕ). put (put m k u) z t) w.place ∙ put_next 0 m k u t (omega (arith, a.fits)) ∙ a.bytes;
      place = omega (arith, a.place, w.place);
      fits = omega (arith, a.fits, w.place);
    }

pub left-none : {l : List ℕ} {at : ℕ} {s m : List ℕ} {k : ℕ} → Left l at s m k [] → Written l at s m k
left-none {l} {at} {s} {m} {k} a = record { bytes = put-none m k (omega (arith, a.fits)) ∙ a.bytes; place = omega (arith, a.place) }

-- ---- fields

-- a field f, and the byte that ends it
abbrev pub field : List ℕ → ℕ → List ℕ
field f b = f ++ b ∷ []

pub field-length : (f : List ℕ) (b : ℕ) → length (field f b) ≡ length f + 1
field-length f b = length-append f (b ∷ [])

-- so many bytes are taken by the fields fs
abbrev pub taken : List (List ℕ) → ℕ
taken [] = 0
taken (f ∷ fs) = length f + 1 + taken fs

line-last : (f : List ℕ) → line (f ∷ []) ≡ field f 10
unfolding line ascii
line-last f = refl

line-more : (f g : List ℕ) (fs : List (List ℕ)) → line (f ∷ g ∷ fs) ≡ field f 32 ++ line (g ∷ fs)
unfolding line ascii
line-more f g fs = refl

pub line-length : (f : List ℕ) (fs : List (List ℕ)) → length (line (f ∷ fs)) ≡ taken (f ∷ fs)
line-length f [] = ap length (line-last f) ∙ field-length f 10 ∙ (let z : length f + 1 ≡ length f + 1 + 0 = omega arith in z)
line-length f (g ∷ fs) =
    ap length (line-more f g fs) ∙ length-append (field f 32) (line (g ∷ fs)) ∙ (let p = field-length f 32 in let q = line-length g fs in let z : length (field f 32) + length (line (g ∷ fs)) ≡ length f + 1 + taken (g ∷ fs) = omega arith in z)

-- ---- a line, field by field

pub left-last : {l : List ℕ} {at : ℕ} {s m : List ℕ} {k : ℕ} {u n : List ℕ} {j : ℕ} → Left l at s m k u → Written m k u n j → Written l at s n j
left-last a w = record { bytes = w.bytes ∙ a.bytes; place = w.place ∙ a.place }

-- the fields fs are left, as a line
pub record Fields (l : List ℕ) (at : ℕ) (s m : List ℕ) (k : ℕ) (fs : List (List ℕ)) : Type 0 where
  pub left : Left l at s m k (line fs)

pub all_fields : (l : List ℕ) (at : ℕ) (fs : List (List ℕ)) → at + length (line fs) ≤ length l → Fields l at (line fs) l at fs
all_fields l at fs h = record { left = left-all l at (line fs) h }

pub next_field :
    {l : List ℕ} {at : ℕ} {s m : List ℕ} {k : ℕ} {f g : List ℕ} {fs : List (List ℕ)} {n : List ℕ} {j : ℕ} →
    Fields l at s m k (f ∷ g ∷ fs) → Written m k (field f 32) n j → Fields l at s n j (g ∷ fs)
next_field {l} {at} {s} {m} {k} {f} {g} {fs} a w = record { left = left-next (rw (line-more f g fs) at a.left) w }

pub last-field :
    {l : List ℕ} {at : ℕ} {s m : List ℕ} {k : ℕ} {f n : List ℕ} {j : ℕ} →
    Fields l at s m k (f ∷ []) → Written m k (field f 10) n j → Written l at s n j
last-field {l} {at} {s} {m} {k} {f} a w = left-last (rw (line-last f) at a.left) w

-- there is room for the first field, and for the byte that ends it
pub field_fits : {l : List ℕ} {at : ℕ} {s m : List ℕ} {k : ℕ} {f : List ℕ} {fs : List (List ℕ)} → Fields l at s m k (f ∷ fs) → k + length f < length m
field_fits {l} {at} {s} {m} {k} {f} {fs} a = omega (arith, line-length f fs, a.left.fits)
