-- What each kind of node sends at the opening, in a row: the blanks, an input's belief, a factor's message to its first neighbour, a grade's messages.
use Rattle.std.specs.Prelude.{ℕ, zero, suc, ◌+◌, ◌-◌, ◌≤◌, ◌<◌, ◌≡◌, refl, Bool, true, false, not, List, [], ◌∷◌, ◌++◌, map, T, ltb, Float, length, get_or, take, drop, set, replicate}
use Rattle.std.proofs.Common.{add-zero, arith, sym, ap, ◌∙◌, lt→ltb, nltb→le, ltb→lt, ext_get_or}
use Rattle.std.proofs.Math.Dec.{not_T}
use Rattle.std.specs.Float.{nan}
use Rattle.std.specs.Float.Ieee.Bits.{is_true, is_false}
use Rattle.std.proofs.lemmas.List.{length-map, length-replicate}
use Rattle.definition.specs.Floats.{oneᶠ, halfᶠ}
use Rattle.definition.specs.Vectors.{Message, binary}
use Rattle.definition.specs.Settings.{Settings}
use Rattle.definition.specs.Directions.{Direction, MessageGraph, no_direction, node_at, direction_at, message_at, set_messages}
use Rattle.definition.specs.Sweeps.{initial_message}
use Rattle.graph_laws.specs.DirectionNumbers.{get_d_mapped}
use Rattle.graph_laws.specs.MessageLengths.{AllBinary}
use Rattle.list_laws.specs.Put.{put, put-part}
use Rattle.list_laws.specs.Part.{region, get_d_region, length-region}
use Rattle.list_laws.specs.Write.{write, write-next, write-none}
use Rattle.list_laws.specs.Whole.{write-whole}
use Rattle.messages.specs.Layout.{cut}
use Rattle.messages.specs.LayoutOffsets.{long_at}
use Rattle.messages.specs.LayoutCut.{length_cut}
use Rattle.messages.specs.LayoutWrite.{cut-put, sent}
use Rattle.messages.specs.LayoutWords.{sent-next, sends-there}
use Rattle.messages.specs.LayoutPuts.{puts}
use Rattle.messages.specs.LayoutRows.{RowsRead}
use Rattle.messages.specs.LayoutSweeps.{Sends, set_messages-sends}
use Rattle.opening.specs.OpenRows.{MessageRow, offset-is, offset-long, offset-end-le, SendRows, read}

-- ---- before anything is sent

-- the one value of all entries
abbrev pub initial_entry : ℕ → Float
initial_entry n = elim (ltb 2 n) as (λ (b : Bool). Float) [ true ↦ oneᶠ | false ↦ halfᶠ ]

pub initial_message-is : (d : Direction) → 2 ≤ d.message_length → replicate d.message_length (initial_entry d.message_length) ≡ initial_message d
unfolding initial_message
initial_message-is d h = go (ltb 2 d.message_length) (λ e. nltb→le 2 d.message_length e)
  where
    go : (b : Bool) → (T (not b) → d.message_length ≤ 2) → replicate {A = Float} d.message_length (elim b as (λ (b : Bool). Float) [ true ↦ oneᶠ | false ↦ halfᶠ ]) ≡ elim b as (λ (c : Bool). List Float) [ true ↦ replicate d.message_length oneᶠ | false ↦ binary halfᶠ halfᶠ ]
    go true f = refl
    go false f = let e : d.message_length ≡ 2 = omega (arith, f tt) in ap (λ (n : ℕ). replicate n halfᶠ) e

pub entry-long : (n : ℕ) → 2 < n → oneᶠ ≡ initial_entry n
entry-long n h = sym (ap (λ (b : Bool). elim b as (λ (c : Bool). Float) [ true ↦ oneᶠ | false ↦ halfᶠ ]) (is_true (ltb 2 n) (lt→ltb 2 n h)))

pub entry-two : (n : ℕ) → n ≤ 2 → halfᶠ ≡ initial_entry n
entry-two n h =
    sym (ap (λ (b : Bool). elim b as (λ (c : Bool). Float) [ true ↦ oneᶠ | false ↦ halfᶠ ]) (is_false (ltb 2 n) (not_T (ltb 2 n) (λ z. let l = ltb→lt 2 n z in omega arith))))

-- the messages of the first i directions stand
abbrev pub InitialTo : List Direction → List Float → ℕ → List Float → Type 0
InitialTo ds row₀ i row = cut ds row ≡ write (cut ds row₀) 0 i (λ k. message_at k (map initial_message ds))

pub initial_none : (ds : List Direction) (row : List Float) → InitialTo ds row 0 row
initial_none ds row = write-none (cut ds row) 0 (λ k. message_at k (map initial_message ds))

pub initial_next : (ds : List Direction) (offsets : List ℕ) (row₀ row m : List Float) (x : Float) (i : ℕ) → MessageRow ds offsets row₀ → length row ≡ length row₀ → i < length ds → InitialTo ds row₀ i row
    → x ≡ initial_entry (get_or offsets (i + 1) 0 - get_or offsets i 0) → m ≡ replicate (get_or offsets (i + 1) 0 - get_or offsets i 0) x → InitialTo ds row₀ (i + 1) (put row (get_or offsets i 0) m)
initial_next ds offsets row₀ row m x i R e h I p q =
    let n : get_or offsets (i + 1) 0 - get_or offsets i 0 ≡ long_at ds i = omega (arith, offset-long ds offsets row₀ R i h) in
    let b : m ≡ initial_message (get_or ds i no_direction) = q ∙ ap (replicate (get_or offsets (i + 1) 0 - get_or offsets i 0)) p ∙ ap (λ (k : ℕ). replicate k (initial_entry k)) n ∙ initial_message-is (get_or ds i no_direction) (R.wide i h) in
    let l : length m ≡ long_at ds i = ap length q ∙ length-replicate (get_or offsets (i + 1) 0 - get_or offsets i 0) x ∙ n in
    ap (λ (k : ℕ). cut ds (put row k m)) (offset-is ds offsets row₀ R i)
    ∙ cut-put ds row i m (e ∙ R.long) h l
    ∙ ap (λ (k : ℕ). set (cut ds row) k m) (let z : i ≡ 0 + i = omega arith in z)
    ∙ write-next (cut ds row₀) (cut ds row) (λ k. message_at k (map initial_message ds)) 0 i m I (b ∙ sym (get_d_mapped initial_message ds i no_direction [] h))

-- in the code's words: from and to are where the message begins and ends, and the part between them is filled
module _ (ds : List Direction) (offsets : List ℕ) (row₀ row m : List Float) (x : Float) (i from to : ℕ) (R : MessageRow ds offsets row₀) (e : length row ≡ length row₀) (h : i < length ds)
    (f : from ≡ get_or offsets i 0) (g : to ≡ get_or offsets (i + 1) 0) (q : m ≡ replicate (length (region row from (to - from))) x) where
  part-long : length (region row from (to - from)) ≡ to - from
  part-long = length-region row from (to - from) (omega (arith, offset-long ds offsets row₀ R i h, offset-end-le ds offsets row₀ R i h))

  m-is : m ≡ replicate (to - from) x
  m-is = q ∙ ap (λ (n : ℕ). replicate n x) part-long

  m-long : length m ≡ to - from
  m-long = ap length m-is ∙ length-replicate (to - from) x

  is-put : take from row ++ (m ++ drop (to - from) (drop from row)) ≡ put row (get_or offsets i 0) m
  is-put = put-part row m from (to - from) m-long ∙ ap (λ (n : ℕ). put row n m) f

  pub initial_turn : x ≡ initial_entry (to - from) → InitialTo ds row₀ i row → InitialTo ds row₀ (i + 1) (take from row ++ (m ++ drop (to - from) (drop from row)))
  initial_turn p I =
      let d : to - from ≡ get_or offsets (i + 1) 0 - get_or offsets i 0 = omega arith in
      ap (cut ds) is-put
      ∙ initial_next ds offsets row₀ row m x i R e h I (p ∙ ap initial_entry d) (m-is ∙ ap (λ (n : ℕ). replicate n x) d)

pub initial_all : (ds : List Direction) (row₀ row : List Float) → InitialTo ds row₀ (length ds) row → cut ds row ≡ map initial_message ds
initial_all ds row₀ row I = I ∙ write-whole [] (cut ds row₀) (map initial_message ds) (length ds) (length_cut ds row₀) (length-map ds initial_message)

-- ---- the same message to all neighbours

pub binary-at : (t : MessageGraph) (os : List ℕ) (i : ℕ) → AllBinary t os → i < length os → (direction_at t (get_or os i 0)).message_length ≡ 2
binary-at t [] i a h = absurd (let z : ⊥ = omega arith in z)
binary-at t (o ∷ os) zero a h = a.0
binary-at t (o ∷ os) (suc i) a h = binary-at t os i a.1 (omega arith)

abbrev pub sames : Message → List ℕ → List Message
sames m os = map (λ (o : ℕ). m) os

pub same_at : (m : Message) (os : List ℕ) (i : ℕ) → i < length os → m ≡ message_at i (sames m os)
same_at m [] i h = absurd (let z : ⊥ = omega arith in z)
same_at m (o ∷ os) zero h = refl
same_at m (o ∷ os) (suc i) h = same_at m os i (omega arith)

module _ (s : Settings) (t : MessageGraph) (firsts outs offsets : List ℕ) (row₀ : List Float) (R : SendRows s t firsts outs offsets row₀) (n : ℕ) (h : n < length t.nodes) where
  Q : RowsRead t R.kinds firsts R.starts outs offsets
  Q = read s t firsts outs offsets row₀ R

  -- a loop over the node's positions, from its first direction on: one message more is put
  pub sent-more : (ms : List Message) (w w' : List Float) (m : Message) (o at k : ℕ) → get_or firsts n 0 ≤ k → k < get_or firsts (n + 1) 0 → w ≡ sent t.directions (node_at t n).outgoing ms row₀ (k - get_or firsts n 0)
      → o ≡ get_or outs k 0 → at ≡ get_or offsets o 0 → w' ≡ put w at m → m ≡ message_at (k - get_or firsts n 0) ms → w' ≡ sent t.directions (node_at t n).outgoing ms row₀ (k + 1 - get_or firsts n 0)
  sent-more ms w w' m o at k p q I u v r e =
      let f = get_or firsts n 0 in
      let i = k - f in
      let z : k ≡ f + i = omega arith in
      r
      ∙ ap (λ (j : ℕ). put w j m) (v ∙ ap (λ (j : ℕ). get_or offsets j 0) (u ∙ ap (λ (j : ℕ). get_or outs j 0) z))
      ∙ sent-next t R.kinds firsts R.starts outs offsets Q n h ms row₀ w m i (omega (arith, Q.first n h, Q.next n h)) I e
      ∙ ap (sent t.directions (node_at t n).outgoing ms row₀) (let y : i + 1 ≡ k + 1 - f = omega arith in y)

  pub same_next : (w w' : List Float) (a b : Float) (o at k : ℕ) → get_or firsts n 0 ≤ k → k < get_or firsts (n + 1) 0 → w ≡ sent t.directions (node_at t n).outgoing (sames (binary a b) (node_at t n).outgoing) row₀ (k - get_or firsts n 0)
      → o ≡ get_or outs k 0 → at ≡ get_or offsets o 0 → w' ≡ put w at (binary a b) → w' ≡ sent t.directions (node_at t n).outgoing (sames (binary a b) (node_at t n).outgoing) row₀ (k + 1 - get_or firsts n 0)
  same_next w w' a b o at k p q I u v r =
      sent-more (sames (binary a b) (node_at t n).outgoing) w w' (binary a b) o at k p q I u v r (same_at (binary a b) (node_at t n).outgoing (k - get_or firsts n 0) (omega (arith, Q.first n h, Q.next n h)))

  -- at the end all is sent
  pub sent-all : (ms : List Message) (w : List Float) (k : ℕ) → k ≡ get_or firsts (n + 1) 0 → w ≡ sent t.directions (node_at t n).outgoing ms row₀ (k - get_or firsts n 0) → Sends t.directions (node_at t n).outgoing ms
      → cut t.directions w ≡ set_messages (node_at t n).outgoing ms (cut t.directions row₀)
  sent-all ms w k e I S =
      ap (cut t.directions) (I ∙ ap (sent t.directions (node_at t n).outgoing ms row₀) (let z : k - get_or firsts n 0 ≡ length (node_at t n).outgoing = omega (arith, Q.degree n h) in z))
      ∙ sym (set_messages-sends t.directions (node_at t n).outgoing ms row₀ R.long S)

  pub two-sends : (ms : List Message) → length ms ≡ length (node_at t n).outgoing → AllBinary t (node_at t n).outgoing → ((k : ℕ) → k < length (node_at t n).outgoing → length (message_at k ms) ≡ 2) → Sends t.directions (node_at t n).outgoing ms
  two-sends ms c a l =
      record {
        count = c;
        takes = (λ k q. record { there = sends-there t R.kinds firsts R.starts outs offsets Q n h k q; long = l k q ∙ sym (binary-at t (node_at t n).outgoing k a q) });
      }

  pub same-sends : (a b : Float) → AllBinary t (node_at t n).outgoing → Sends t.directions (node_at t n).outgoing (sames (binary a b) (node_at t n).outgoing)
  same-sends a b y =
      two-sends (sames (binary a b) (node_at t n).outgoing) (length-map (node_at t n).outgoing (λ (o : ℕ). binary a b)) y
      (λ k q. ap length (sym (same_at (binary a b) (node_at t n).outgoing k q)))

-- nothing is sent yet
pub sent-start : (t : MessageGraph) (os : List ℕ) (ms : List Message) (row : List Float) (k f : ℕ) → k ≡ f → row ≡ sent t.directions os ms row (k - f)
unfolding puts
sent-start t os ms row k f e = ap (sent t.directions os ms row) (let z : 0 ≡ k - f = omega arith in z)

-- two floats of a row
pub region-two : (row : List Float) (at : ℕ) → at + 1 < length row → binary (get_or row at nan) (get_or row (at + 1) nan) ≡ region row at 2
region-two row at h =
    let z : length (region row at 2) ≡ 2 = length-region row at 2 (omega arith) in
    ext_get_or nan (binary (get_or row at nan) (get_or row (at + 1) nan)) (region row at 2) (sym z) here
  where
    here : (i : ℕ) → i < 2 → get_or (binary (get_or row at nan) (get_or row (at + 1) nan)) i nan ≡ get_or (region row at 2) i nan
    here zero q = sym (get_d_region row at 2 0 nan q ∙ ap (λ (n : ℕ). get_or row n nan) (add-zero at))
    here (suc zero) q = sym (get_d_region row at 2 1 nan q)
    here (suc (suc i)) q = absurd (let z : ⊥ = omega arith in z)
