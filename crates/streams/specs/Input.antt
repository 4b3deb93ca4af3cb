-- What a program takes of its input, read by read.
use Rattle.std.specs.Prelude.{ℕ, zero, suc, ◌+◌, ◌-◌, ◌≤◌, ◌<◌, ◌≡◌, min, refl, Bool, true, false, cond, Option, None, Some, IfSome, List, [], ◌∷◌, ◌++◌, ltb, length, take}
use Rattle.std.proofs.Common.{arith, sym, ap, subst, ◌∙◌, true≢false, length-append, length-take, length-take-le, append_assoc, append-nil, ltb-false}
use Rattle.std.specs.Io.KnownBytes.{Consumes, IsAtEnd}
use Rattle.streams.specs.Calls.{AnsweredWithin, counted, moved, ReadMoves}
use Rattle.streams.specs.Reads.{ReadCall, read_call, given, ReadsAnswered}
use Rattle.streams.specs.declared.input.Phase.{Phase}
use Rattle.streams.specs.declared.input.Phase.TheVariants.{Reading, Whole, TooLong, Unreadable}

abbrev pub is_reading : Phase → Bool
is_reading Reading = true
is_reading Whole = false
is_reading TooLong = false
is_reading Unreadable = false

-- after a read that gave n bytes, with which there are b: it failed, or found the end, or gave some; over 2^32 bytes are too long
abbrev pub phase_after : Option ℕ → ℕ → ℕ → Bool → Phase
phase_after None n b enough = Unreadable
phase_after (Some k) zero b enough = Whole
phase_after (Some k) (suc n) b enough = cond (ltb 4294967296 b) TooLong (cond enough Whole Reading)

-- the bytes that came, and whether there is more to read
pub record Came : Type 0 where
  pub bytes : List ℕ
  pub phase : Phase

-- no byte is ever enough
abbrev pub never : List ℕ → Bool
never bs = false

-- `enough` tells of the bytes that came whether no further byte counts
module _ (enough : List ℕ → Bool) where
  abbrev pub after_read : ReadCall → List ℕ → Came
  after_read r bs =
      let new = given r in
      record { bytes = bs ++ new; phase = phase_after r.answer (length new) (length (bs ++ new)) (enough (bs ++ new)) }

  -- by a list of reads, the last one first
  abbrev pub came_by : List ReadCall → Came
  came_by [] = record { bytes = []; phase = Reading }
  came_by (r ∷ rs) = after_read r (came_by rs).bytes

  -- each read was made because there was more to read
  abbrev pub Wanted : List ReadCall → Type 0
  Wanted [] = Unit {0}
  Wanted (r ∷ rs) = ((came_by rs).phase ≡ Reading) × Wanted rs

  -- the last of them moved nothing only if the reader was at its end
  abbrev pub EndFound : List ReadCall → Option (List ℕ) → Type 0
  EndFound [] after = Unit {0}
  EndFound (r ∷ rs) after = r.answer ≡ Some 0 → IsAtEnd after

  -- x came by some calls of `read`, each lent 65,536 bytes. Of a reader whose bytes are known before and after them it is what it gave.
  pub record CameBy (before after : Option (List ℕ)) (x : Came) : Type 0 where
    pub reads : List ReadCall
    pub answered : ReadsAnswered 65536 reads
    pub wanted : Wanted reads
    pub came : x ≡ came_by reads
    pub consumed : Consumes before after x.bytes
    pub ended : EndFound reads after

-- ---- what a read gave, where n of the buffer's bytes were counted

module _ (enough : List ℕ → Bool) (got : Option ℕ) (buffer bs : List ℕ) (n : ℕ) (is : n ≡ counted got (length buffer)) where
  abbrev after : Came
  after = after_read enough (read_call got buffer) bs

  pub bytes_after : bs ++ take n buffer ≡ after.bytes
  bytes_after = ap (λ (m : ℕ). bs ++ take m buffer) is

  pub length-after : n ≤ length buffer → length after.bytes ≡ length bs + n
  length-after l = sym (ap length bytes_after) ∙ length-append bs (take n buffer) ∙ ap (λ (m : ℕ). length bs + m) (length-take-le n buffer l)

  pub phase_is : n ≤ length buffer → (b : ℕ) (e : Bool) → b ≡ length after.bytes → e ≡ enough after.bytes → phase_after got n b e ≡ after.phase
  phase_is l b e h g =
      let k = sym (length-take-le n buffer l) ∙ ap (λ (m : ℕ). length (take m buffer)) is in
      rw (h, g) (ap (λ (m : ℕ). phase_after got m (length after.bytes) (enough after.bytes)) k)

-- ---- where there is more to read

pub is_reading_lem : (p : Phase) → is_reading p ≡ true → p ≡ Reading
is_reading_lem Reading e = refl
is_reading_lem Whole e = absurd (true≢false (sym e))
is_reading_lem TooLong e = absurd (true≢false (sym e))
is_reading_lem Unreadable e = absurd (true≢false (sym e))

-- a read gave bytes, and all that came are few enough
some-new : (got : Option ℕ) (n b : ℕ) (e : Bool) → is_reading (phase_after got n b e) ≡ true → 0 < n
some-new None n b e h = absurd (true≢false (sym h))
some-new (Some k) zero b e h = absurd (true≢false (sym h))
some-new (Some k) (suc n) b e h = omega arith

few_came : (got : Option ℕ) (n b : ℕ) (e : Bool) → is_reading (phase_after got n b e) ≡ true → b ≤ 4294967296
few_came None n b e h = absurd (true≢false (sym h))
few_came (Some k) zero b e h = absurd (true≢false (sym h))
few_came (Some k) (suc n) b e h = go (ltb 4294967296 b) refl
  where
    go : (t : Bool) → ltb 4294967296 b ≡ t → b ≤ 4294967296
    go false f = ltb-false 4294967296 b f
    go true f = absurd (true≢false (sym (subst (λ (t : Bool). is_reading (cond t TooLong (cond e Whole Reading)) ≡ true) f h)))

-- and they are not enough
not-enough : (got : Option ℕ) (n b : ℕ) (e : Bool) → is_reading (phase_after got n b e) ≡ true → e ≡ false
not-enough None n b e h = absurd (true≢false (sym h))
not-enough (Some k) zero b e h = absurd (true≢false (sym h))
not-enough (Some k) (suc n) b false h = refl
not-enough (Some k) (suc n) b true h = go (ltb 4294967296 b) h
  where
    go : (t : Bool) → is_reading (cond t TooLong Whole) ≡ true → true ≡ false
    go true f = absurd (true≢false (sym f))
    go false f = absurd (true≢false (sym f))

-- how much more may come
abbrev pub to_read : Phase → ℕ → ℕ
to_read p n = cond (is_reading p) (4294967297 - n) 0

pub consumes_nothing : (known : Option (List ℕ)) → Consumes known known []
consumes_nothing None = tt
consumes_nothing (Some xs) = refl

pub consumes-then : (a b c : Option (List ℕ)) (xs ys : List ℕ) → Consumes a b xs → Consumes b c ys → Consumes a c (xs ++ ys)
consumes-then None b c xs ys p q = tt
consumes-then (Some us) None c xs ys p q = absurd p
consumes-then (Some us) (Some vs) None xs ys p q = absurd q
consumes-then (Some us) (Some vs) (Some ws) xs ys p q = p ∙ ap (λ (l : List ℕ). xs ++ l) q ∙ sym (append_assoc xs ys ws)

module _ (enough : List ℕ → Bool) where
  abbrev pub came-nothing : (known : Option (List ℕ)) → CameBy enough known known (came_by enough [])
  came-nothing known = record { reads = []; answered = tt; wanted = tt; came = refl; consumed = consumes_nothing known; ended = tt }

  module _ (before now : Option (List ℕ)) (x : Came) (by : CameBy enough before now x) (more : is_reading x.phase ≡ true) where
    pub few_while_reading : length x.bytes ≤ 4294967296
    few_while_reading =
        let e = ap (λ (y : Came). is_reading y.phase) (sym by.came) ∙ more in
        subst (λ (y : Came). length y.bytes ≤ 4294967296) (sym by.came) (few by.reads e)
      where
        few : (rs : List ReadCall) → is_reading (came_by enough rs).phase ≡ true → length (came_by enough rs).bytes ≤ 4294967296
        few [] h = omega arith
        few (r ∷ rs) h = few_came r.answer (length (given r)) _ _ h

    pub more_wanted : enough [] ≡ false → enough x.bytes ≡ false
    more_wanted none =
        let e = ap (λ (y : Came). is_reading y.phase) (sym by.came) ∙ more in
        subst (λ (y : Came). enough y.bytes ≡ false) (sym by.came) (wanted by.reads e)
      where
        wanted : (rs : List ReadCall) → is_reading (came_by enough rs).phase ≡ true → enough (came_by enough rs).bytes ≡ false
        wanted [] h = none
        wanted (r ∷ rs) h = not-enough r.answer (length (given r)) _ _ h

    -- a read more
    module _ (got : Option ℕ) (buffer : List ℕ) where
      abbrev new : List ℕ
      new = given (read_call got buffer)

      abbrev next : Came
      next = after_read enough (read_call got buffer) x.bytes

      abbrev pub came-more : (after : Option (List ℕ)) → length buffer ≡ 65536 → AnsweredWithin 65536 got → ReadMoves now after got buffer → CameBy enough before after next
      came-more after l m moves =
          record {
            reads = read_call got buffer ∷ by.reads;
            answered = ((l, m), by.answered);
            wanted = (ap (λ (y : Came). y.phase) (sym by.came) ∙ is_reading_lem x.phase more, by.wanted);
            came = ap (λ (y : Came). after_read enough (read_call got buffer) y.bytes) by.came;
            consumed = consumes-then before now after x.bytes new by.consumed moves.0;
            ended = λ e. moves.1 e (omega (arith, l));
          }

      pub less_to-read : to_read next.phase (length next.bytes) < to_read x.phase (length x.bytes)
      less_to-read = rw more (go (is_reading next.phase) refl)
        where
          go : (b : Bool) → is_reading next.phase ≡ b → cond b (4294967297 - length next.bytes) 0 < 4294967297 - length x.bytes
          go true e = omega (arith, few_while_reading, length-append x.bytes new, some-new got (length new) (length next.bytes) (enough next.bytes) e)
          go false e = omega (arith, few_while_reading)

-- ---- all of a reader whose bytes are known

-- a read that ended it, where no byte was enough, gave none
gave_none : (got : Option ℕ) (n b : ℕ) (e : Bool) → phase_after got n b e ≡ Whole → e ≡ false → (k : ℕ) × ((got ≡ Some k) × (n ≡ 0))
gave_none None n b e h f = cc
gave_none (Some k) zero b e h f = (k, (refl, refl))
gave_none (Some k) (suc n) b true h f = cc
gave_none (Some k) (suc n) b false h f = go (ltb 4294967296 b) h
  where
    go : (t : Bool) → cond t TooLong Reading ≡ Whole → (j : ℕ) × ((Some k ≡ Some j) × (suc n ≡ 0))
    go true g = cc
    go false g = cc

module _ (enough : List ℕ → Bool) (xs : List ℕ) (after : Option (List ℕ)) where
  all_gone : (ys : List ℕ) (end : Option (List ℕ)) → Consumes (Some xs) end ys → IsAtEnd end → ys ≡ xs
  all_gone ys None c e = absurd c
  all_gone ys (Some zs) c e = sym (c ∙ ap (λ (l : List ℕ). ys ++ l) e ∙ append-nil ys)

  at_end : (rs : List ReadCall) → ReadsAnswered 65536 rs → EndFound enough rs after → (came_by enough rs).phase ≡ Whole → enough (came_by enough rs).bytes ≡ false → IsAtEnd after
  at_end [] a f w e = absurd (let z : ⊥ = cc in z)
  at_end (r ∷ rs) a f w e =
      let (k, (is, none)) = gave_none r.answer (length (given r)) _ _ w e in
      let answered : k ≤ 65536 = subst (AnsweredWithin 65536) is a.0.1 in
      let few : length (take (min k (length r.buffer)) r.buffer) ≡ 0 = subst (λ (g : Option ℕ). length (moved g r.buffer) ≡ 0) is none in
      let zero_moved : k ≡ 0 = omega (arith, few, length-take (min k (length r.buffer)) r.buffer, a.0.0, answered) in
      f (is ∙ ap (λ (n : ℕ). Some n) zero_moved)

  -- the whole input is all that the reader had
  pub whole_came : (x : Came) → CameBy enough (Some xs) after x → x.phase ≡ Whole → enough x.bytes ≡ false → x.bytes ≡ xs
  whole_came x by w e =
      let p = ap (λ (y : Came). y.phase) (sym by.came) ∙ w in
      let n = ap (λ (y : Came). enough y.bytes) (sym by.came) ∙ e in
      all_gone x.bytes after by.consumed (at_end by.reads by.answered by.ended p n)

-- of any reader: nothing is said where its bytes are not known
pub all_came : (enough : List ℕ → Bool) (before after : Option (List ℕ)) (x : Came) → CameBy enough before after x → x.phase ≡ Whole → enough x.bytes ≡ false
    → IfSome before (λ xs. x.bytes ≡ xs)
all_came enough None rest x by w e = tt
all_came enough (Some xs) rest x by w e = whole_came enough xs rest x by w e
