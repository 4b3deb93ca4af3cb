-- A row of floats cut into messages, and a message set laid out as a row: each undoes the other, and what is read of the one is a region of the other.
use Rattle.std.specs.Prelude.{ℕ, zero, suc, ◌+◌, ◌≤◌, ◌<◌, ◌≡◌, refl, List, [], ◌∷◌, ◌++◌, Float, length, take, drop}
use Rattle.std.proofs.Common.{zero-add, arith, sym, ap, ◌∙◌, length-drop, take-append-drop, length-take-le, take-take, drop-drop}
use Rattle.std.proofs.Math.Seq.{take-append_seam, drop-append_seam}
use Rattle.definition.specs.Vectors.{Message}
use Rattle.definition.specs.Directions.{Direction, MessageNode, message_at, messages_in}
use Rattle.graph_laws.specs.Flat.{flat}
use Rattle.list_laws.specs.Part.{region, length-region}
use Rattle.messages.specs.Layout.{cut, width}
use Rattle.messages.specs.LayoutLists.{drop-take}
use Rattle.messages.specs.LayoutOffsets.{long_at, offset_at, offset-zero, offset_cons, offset-end, offset-le, offset_room, span_at, span_room}

-- ---- a row, cut and laid out again

pub length_cut : (ds : List Direction) (r : List Float) → length (cut ds r) ≡ length ds
length_cut [] r = refl
length_cut (x ∷ ds) r = ap suc (length_cut ds (drop x.message_length r))

pub flat-cut : (ds : List Direction) (r : List Float) → length r ≡ width ds → flat (cut ds r) ≡ r
unfolding flat
flat-cut [] [] h = refl
flat-cut [] (a ∷ r) h = absurd (let z : ⊥ = omega arith in z)
flat-cut (x ∷ ds) r h =
    ap (λ (l : List Float). take x.message_length r ++ l) (flat-cut ds (drop x.message_length r) (length-drop x.message_length r ∙ omega arith))
    ∙ take-append-drop x.message_length r

-- A message set fits: one message for each direction, as long as that says.
pub record SetFits (ds : List Direction) (ms : List Message) : Type 0 where
  pub count : length ms ≡ length ds
  pub long : (d : ℕ) → d < length ds → length (message_at d ms) ≡ long_at ds d

pub fits_tail : (x : Direction) (ds : List Direction) (m : Message) (ms : List Message) → SetFits (x ∷ ds) (m ∷ ms) → SetFits ds ms
fits_tail x ds m ms F = record { count = (let e = F.count in omega arith); long = (λ d h. F.long (suc d) (omega arith)) }

pub cut-flat : (ds : List Direction) (ms : List Message) → SetFits ds ms → cut ds (flat ms) ≡ ms
unfolding flat
cut-flat [] [] F = refl
cut-flat [] (m ∷ ms) F = absurd (let z : ⊥ = omega (arith, F.count) in z)
cut-flat (x ∷ ds) [] F = absurd (let z : ⊥ = omega (arith, F.count) in z)
cut-flat (x ∷ ds) (m ∷ ms) F =
    let e : length m ≡ x.message_length = F.long 0 (omega arith) in
    ap (λ (n : ℕ). take n (m ++ flat ms) ∷ cut ds (drop n (m ++ flat ms))) (sym e)
    ∙ ap (λ (l : Message). l ∷ cut ds (drop (length m) (m ++ flat ms))) (take-append_seam m (flat ms))
    ∙ ap (λ (l : List Float). m ∷ cut ds l) (drop-append_seam m (flat ms))
    ∙ ap (λ (l : List Message). m ∷ l) (cut-flat ds ms (fits_tail x ds m ms F))

-- ---- one message

pub cut_at : (ds : List Direction) (r : List Float) (d : ℕ) → d < length ds → message_at d (cut ds r) ≡ region r (offset_at ds d) (long_at ds d)
cut_at [] r d h = absurd (let z : ⊥ = omega arith in z)
cut_at (x ∷ ds) r zero h = refl
cut_at (x ∷ ds) r (suc d) h =
    cut_at ds (drop x.message_length r) d (omega arith)
    ∙ ap (take (long_at ds d)) (drop-drop (offset_at ds d) x.message_length r)
    ∙ ap (λ (n : ℕ). region r n (long_at ds d)) (sym (offset_cons x ds d (omega arith)))

pub cut-long : (ds : List Direction) (r : List Float) (d : ℕ) → length r ≡ width ds → d < length ds → length (message_at d (cut ds r)) ≡ long_at ds d
cut-long ds r d e h = ap length (cut_at ds r d h) ∙ length-region r (offset_at ds d) (long_at ds d) (omega (arith, offset_room ds d h))

pub cut_fits : (ds : List Direction) (r : List Float) → length r ≡ width ds → SetFits ds (cut ds r)
cut_fits ds r e = record { count = length_cut ds r; long = (λ d h. cut-long ds r d e h) }

-- what stands as a row is the cut of it
pub cut_of : (ds : List Direction) (ms : List Message) (r : List Float) → SetFits ds ms → flat ms ≡ r → ms ≡ cut ds r
cut_of ds ms r F e = sym (cut-flat ds ms F) ∙ ap (cut ds) e

-- ---- several in a row

pub cut-drop : (ds : List Direction) (r : List Float) (k : ℕ) → k ≤ length ds → drop k (cut ds r) ≡ cut (drop k ds) (drop (offset_at ds k) r)
cut-drop ds r zero h = ap (λ (n : ℕ). cut ds (drop n r)) (sym (offset-zero ds))
cut-drop [] r (suc k) h = absurd (let z : ⊥ = omega arith in z)
cut-drop (x ∷ ds) r (suc k) h =
    cut-drop ds (drop x.message_length r) k (omega arith)
    ∙ ap (cut (drop k ds)) (drop-drop (offset_at ds k) x.message_length r ∙ ap (λ (n : ℕ). drop n r) (sym (offset_cons x ds k (omega arith))))

take_less : (n m : ℕ) (r : List Float) → n ≤ m → take n r ≡ take n (take m r)
take_less n m r h = sym (take-take n m r h)

pub cut-take : (ds : List Direction) (r : List Float) (k : ℕ) → k ≤ length ds → take k (cut ds r) ≡ cut (take k ds) (take (offset_at ds k) r)
cut-take ds r zero h = refl
cut-take [] r (suc k) h = absurd (let z : ⊥ = omega arith in z)
cut-take (x ∷ ds) r (suc k) h =
    let n = x.message_length in
    ap (λ (l : List Message). take n r ∷ l) (cut-take ds (drop n r) k (omega arith))
    ∙ ap (λ (l : List Float). take n r ∷ cut (take k ds) l) (sym (drop-take n (offset_at ds k) r))
    ∙ ap (λ (l : Message). l ∷ cut (take k ds) (drop n (take (n + offset_at ds k) r))) (take_less n (n + offset_at ds k) r (omega arith))
    ∙ ap (λ (j : ℕ). cut (x ∷ take k ds) (take j r)) (sym (offset_cons x ds k (omega arith)))

offset-taken : (es : List Direction) (n : ℕ) → n ≤ length es → offset_at (take n es) n ≡ offset_at es n
offset-taken es zero h = sym (offset-zero es)
offset-taken [] (suc n) h = absurd (let z : ⊥ = omega arith in z)
offset-taken (x ∷ es) (suc n) h = omega (arith, offset_cons x es n (omega arith), offset_cons x (take n es) n (omega (arith, length-take-le n es (omega arith))), offset-taken es n (omega arith))

width-take : (ds : List Direction) (n : ℕ) → n ≤ length ds → width (take n ds) ≡ offset_at ds n
width-take ds n h = sym (offset-end (take n ds)) ∙ ap (λ (k : ℕ). offset_at (take n ds) k) (length-take-le n ds h) ∙ offset-taken ds n h

width-drop : (ds : List Direction) (k : ℕ) → k ≤ length ds → offset_at ds k + width (drop k ds) ≡ width ds
width-drop ds zero h = omega (arith, offset-zero ds)
width-drop [] (suc k) h = absurd (let z : ⊥ = omega arith in z)
width-drop (x ∷ ds) (suc k) h = omega (arith, offset_cons x ds k (omega arith), width-drop ds k (omega arith))

-- the first messages are the first floats, and the last ones the last
pub flat-take : (ds : List Direction) (r : List Float) (k : ℕ) → length r ≡ width ds → k ≤ length ds → flat (take k (cut ds r)) ≡ take (offset_at ds k) r
flat-take ds r k e h =
    ap flat (cut-take ds r k h) ∙ flat-cut (take k ds) (take (offset_at ds k) r) (length-take-le (offset_at ds k) r (omega (arith, offset-le ds k h)) ∙ sym (width-take ds k h))

pub flat-drop : (ds : List Direction) (r : List Float) (k : ℕ) → length r ≡ width ds → k ≤ length ds → flat (drop k (cut ds r)) ≡ drop (offset_at ds k) r
flat-drop ds r k e h =
    ap flat (cut-drop ds r k h) ∙ flat-cut (drop k ds) (drop (offset_at ds k) r) (length-drop (offset_at ds k) r ∙ omega (arith, width-drop ds k h))

offset_dropped : (ds : List Direction) (f n : ℕ) → f + n ≤ length ds → offset_at (drop f ds) n ≡ span_at ds f n
offset_dropped ds zero n h = omega (arith, offset-zero ds, ap (λ (k : ℕ). offset_at ds k) (zero-add n))
offset_dropped [] (suc f) n h = absurd (let z : ⊥ = omega arith in z)
offset_dropped (x ∷ ds) (suc f) n h =
    let e = ap (λ (k : ℕ). offset_at (x ∷ ds) k) (let z : suc f + n ≡ suc (f + n) = omega arith in z) in
    omega (arith, e, offset_dropped ds f n (omega arith), offset_cons x ds f (omega arith), offset_cons x ds (f + n) (omega arith))

-- n directions from f on
pub cut-part : (ds : List Direction) (r : List Float) (f n : ℕ) → f + n ≤ length ds
    → take n (drop f (cut ds r)) ≡ cut (take n (drop f ds)) (region r (offset_at ds f) (span_at ds f n))
cut-part ds r f n h =
    ap (take n) (cut-drop ds r f (omega arith)) ∙ cut-take (drop f ds) (drop (offset_at ds f) r) n (simp length-drop (omega arith))
    ∙ ap (λ (k : ℕ). cut (take n (drop f ds)) (region r (offset_at ds f) k)) (offset_dropped ds f n h)

pub width-part : (ds : List Direction) (f n : ℕ) → f + n ≤ length ds → width (take n (drop f ds)) ≡ span_at ds f n
width-part ds f n h = width-take (drop f ds) n (simp length-drop (omega arith)) ∙ offset_dropped ds f n h

pub flat-part : (ds : List Direction) (r : List Float) (f n : ℕ) → length r ≡ width ds → f + n ≤ length ds → flat (take n (drop f (cut ds r))) ≡ region r (offset_at ds f) (span_at ds f n)
flat-part ds r f n e h =
    ap flat (cut-part ds r f n h)
    ∙ flat-cut (take n (drop f ds)) (region r (offset_at ds f) (span_at ds f n))
    (length-region r (offset_at ds f) (span_at ds f n) (omega (arith, span_room ds f n h)) ∙ sym (width-part ds f n h))

-- all that a node holds
abbrev pub directions_in : MessageNode → List Direction → List Direction
directions_in x ds = take (length x.outgoing) (drop x.first_incoming ds)

abbrev pub row_in : MessageNode → List Direction → List Float → List Float
row_in x ds r = region r (offset_at ds x.first_incoming) (span_at ds x.first_incoming (length x.outgoing))

module _ (x : MessageNode) (ds : List Direction) (r : List Float) (inside : x.first_incoming + length x.outgoing ≤ length ds) where
  pub messages_in-cut : messages_in x (cut ds r) ≡ cut (directions_in x ds) (row_in x ds r)
  messages_in-cut = cut-part ds r x.first_incoming (length x.outgoing) inside

  pub flat-messages_in : length r ≡ width ds → flat (messages_in x (cut ds r)) ≡ row_in x ds r
  flat-messages_in e = flat-part ds r x.first_incoming (length x.outgoing) e inside

  pub length-row_in : length r ≡ width ds → length (row_in x ds r) ≡ span_at ds x.first_incoming (length x.outgoing)
  length-row_in e = length-region r (offset_at ds x.first_incoming) (span_at ds x.first_incoming (length x.outgoing)) (omega (arith, span_room ds x.first_incoming (length x.outgoing) inside))
