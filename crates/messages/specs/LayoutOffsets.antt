-- Where the messages of a row begin and end: each as far in as those before it are long.
use Rattle.std.specs.Prelude.{ℕ, zero, suc, ◌+◌, ◌-◌, ◌*◌, ◌≤◌, ◌<◌, ◌≡◌, refl, List, [], ◌∷◌, length, get_or}
use Rattle.std.proofs.Common.{add-one, arith, ap, ◌∙◌}
use Rattle.definition.specs.Directions.{Direction, no_direction}
use Rattle.messages.specs.Layout.{offsets_from, width}

-- how long the messages of direction d are, and where its message begins
abbrev pub long_at : List Direction → ℕ → ℕ
long_at ds d = (get_or ds d no_direction).message_length

abbrev pub offset_at : List Direction → ℕ → ℕ
offset_at ds d = get_or (offsets_from 0 ds) d 0

pub length_offsets : (f : ℕ) (ds : List Direction) → length (offsets_from f ds) ≡ suc (length ds)
length_offsets f [] = refl
length_offsets f (x ∷ ds) = ap suc (length_offsets (f + x.message_length) ds)

-- the offsets from anywhere
pub offsets_from_lem : (f : ℕ) (ds : List Direction) (d : ℕ) → d ≤ length ds → get_or (offsets_from f ds) d 0 ≡ f + offset_at ds d
offsets_from_lem f [] zero h = omega arith
offsets_from_lem f [] (suc d) h = absurd (let z : ⊥ = omega arith in z)
offsets_from_lem f (x ∷ ds) zero h = omega arith
offsets_from_lem f (x ∷ ds) (suc d) h =
    omega (arith, offsets_from_lem (f + x.message_length) ds d (omega arith), offsets_from_lem (0 + x.message_length) ds d (omega arith))

pub offset-zero : (ds : List Direction) → offset_at ds 0 ≡ 0
offset-zero [] = refl
offset-zero (x ∷ ds) = refl

pub offset_cons : (x : Direction) (ds : List Direction) (d : ℕ) → d ≤ length ds → offset_at (x ∷ ds) (suc d) ≡ x.message_length + offset_at ds d
offset_cons x ds d h = omega (arith, offsets_from_lem (0 + x.message_length) ds d h)

pub offset-suc : (ds : List Direction) (d : ℕ) → d < length ds → offset_at ds (suc d) ≡ offset_at ds d + long_at ds d
offset-suc [] d h = absurd (let z : ⊥ = omega arith in z)
offset-suc (x ∷ ds) zero h = omega (arith, offset_cons x ds 0 (omega arith), offset-zero ds)
offset-suc (x ∷ ds) (suc d) h = omega (arith, offset_cons x ds (suc d) (omega arith), offset_cons x ds d (omega arith), offset-suc ds d (omega arith))

pub offset-next : (ds : List Direction) (d : ℕ) → d < length ds → offset_at ds (d + 1) ≡ offset_at ds d + long_at ds d
offset-next ds d h = ap (λ (n : ℕ). offset_at ds n) (add-one d) ∙ offset-suc ds d h

-- behind the last one the row ends
pub offset-end : (ds : List Direction) → offset_at ds (length ds) ≡ width ds
offset-end [] = refl
offset-end (x ∷ ds) = omega (arith, offset_cons x ds (length ds) (omega arith), offset-end ds)

pub offset_mono : (ds : List Direction) (d e : ℕ) → d ≤ e → e ≤ length ds → offset_at ds d ≤ offset_at ds e
offset_mono ds zero e h k = omega (arith, offset-zero ds)
offset_mono ds (suc d) zero h k = absurd (let z : ⊥ = omega arith in z)
offset_mono [] (suc d) (suc e) h k = absurd (let z : ⊥ = omega arith in z)
offset_mono (x ∷ ds) (suc d) (suc e) h k = omega (arith, offset_cons x ds d (omega arith), offset_cons x ds e (omega arith), offset_mono ds d e (omega arith) (omega arith))

pub offset-le : (ds : List Direction) (d : ℕ) → d ≤ length ds → offset_at ds d ≤ width ds
offset-le ds d h = omega (arith, offset_mono ds d (length ds) h (omega arith), offset-end ds)

-- each message lies within the row
pub offset_room : (ds : List Direction) (d : ℕ) → d < length ds → offset_at ds d + long_at ds d ≤ width ds
offset_room ds d h = omega (arith, offset-suc ds d h, offset-le ds (suc d) h)

-- two messages of a row lie apart
pub offset_apart : (ds : List Direction) (d e : ℕ) → d < e → e ≤ length ds → offset_at ds d + long_at ds d ≤ offset_at ds e
offset_apart ds d e h k = omega (arith, offset-suc ds d (omega arith), offset_mono ds (suc d) e h k)

-- the floats of directions f to f + n - 1
abbrev pub span_at : List Direction → ℕ → ℕ → ℕ
span_at ds f n = offset_at ds (f + n) - offset_at ds f

pub span_room : (ds : List Direction) (f n : ℕ) → f + n ≤ length ds → offset_at ds f + span_at ds f n ≤ width ds
span_room ds f n h = omega (arith, offset_mono ds f (f + n) (omega arith) h, offset-le ds (f + n) h)

pub span-end : (ds : List Direction) (f n : ℕ) → f + n ≤ length ds → offset_at ds f + span_at ds f n ≡ offset_at ds (f + n)
span-end ds f n h = omega (arith, offset_mono ds f (f + n) (omega arith) h)

-- ---- where every one of n directions from f on is two long

abbrev pub TwoLong : List Direction → ℕ → ℕ → Type 0
TwoLong ds f n = (i : ℕ) → i < n → long_at ds (f + i) ≡ 2

pub offset-two : (ds : List Direction) (f n i : ℕ) → f + n ≤ length ds → TwoLong ds f n → i ≤ n → offset_at ds (f + i) ≡ offset_at ds f + 2 * i
offset-two ds f n zero h b k = ap (λ (m : ℕ). offset_at ds m) (let z : f + 0 ≡ f = omega arith in z) ∙ omega arith
offset-two ds f n (suc i) h b k =
    let e = ap (λ (m : ℕ). offset_at ds m) (let z : f + suc i ≡ suc (f + i) = omega arith in z) in
    omega (arith, e, offset-suc ds (f + i) (omega arith), offset-two ds f n i h b (omega arith), b i (omega arith))

pub span-two : (ds : List Direction) (f n : ℕ) → f + n ≤ length ds → TwoLong ds f n → span_at ds f n ≡ 2 * n
span-two ds f n h b = omega (arith, offset-two ds f n n h b (omega arith))
