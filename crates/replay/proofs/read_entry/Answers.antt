-- `replay::read_entry` meets its contract: what it took is a head and a file, a head and a text.
use Rattle.std.specs.Prelude.{◌≡◌, ℕ, ◌≤◌, Option, Some, List, ◌++◌, refl, length, take}
use Rattle.std.proofs.Common.{arith, sym, ap, subst, ◌∙◌, take_at, take_all, length-take-le}
use Rattle.std.specs.Io.KnownBytes.{Consumes}
use Rattle.streams.specs.Input.{consumes-then}
use Rattle.replay.specs.declared.Head.{Head}
use Rattle.replay.specs.Entries.{HeadTaken, HeadOf, WholeIn}
use Rattle.replay.proofs.read_entry.Goals as goal

-- a buffer's front was lent whole and filled
module _ (new rest : List ℕ) (n got : ℕ) (long : length new ≡ n) (full : n ≤ got) where
  filled : take got new ≡ take n (new ++ rest)
  filled = take_all got new (omega arith) ∙ sym (take_at new rest n long)

  kept : n ≡ length (take n (new ++ rest))
  kept = sym (ap length (take_at new rest n long) ∙ long)

-- what was taken of the list from its first head on, and of the second
module _ (a b c : Option (List ℕ)) (h : Head) (t : HeadTaken a b (Some h)) (new : List ℕ) (p : Consumes b c new) where
  first_taken : Consumes a c (t.bytes ++ new)
  first_taken = consumes-then a b c t.bytes new t.consumed p

  both_taken : (d : Option (List ℕ)) (behind : Option Head) (u : HeadTaken c d behind) → Consumes a d ((t.bytes ++ new) ++ u.bytes)
  both_taken d behind u = consumes-then a c d (t.bytes ++ new) u.bytes first_taken u.consumed

whole_taken :
    (a b c d e : Option (List ℕ)) (new text rest behind : List ℕ) (h i : Head) (got more : ℕ) (t : HeadTaken a b (Some h)) → Consumes b c (take got new) →
    (u : HeadTaken c d (Some i)) → Consumes d e (take more text) → length new ≡ h.len → length text ≡ i.len → h.len ≤ got → i.len ≤ more →
    (bytes : List ℕ) × Consumes a e bytes × WholeIn h.shift (take h.len (new ++ rest)) (take i.len (text ++ behind)) bytes
whole_taken a b c d e new text rest behind h i got more t p u q long short full all =
    let file = take h.len (new ++ rest) in
    let listed = take i.len (text ++ behind) in
    let r = subst (Consumes b c) (filled new rest h.len got long full) p in
    let s = subst (Consumes d e) (filled text behind i.len more short all) q in
    let up = both_taken a b c h t file r d (Some i) u in (
      ((t.bytes ++ file) ++ u.bytes) ++ listed,
      consumes-then a d e ((t.bytes ++ file) ++ u.bytes) listed up s,
      record {
        first = t.bytes;
        behind = u.bytes;
        kind = i.shift;
        of-file = subst (λ (j : ℕ). HeadOf j h.shift t.bytes) (kept new rest h.len got long full) t.is;
        of-text = subst (λ (j : ℕ). HeadOf j i.shift u.bytes) (kept text behind i.len more short all) u.is;
        is = refl;
      },
    )

pub returns-then-got-n-clause-bytes : goal.returns-then-got-n-clause-bytes
returns-then-got-n-clause-bytes g c =
    (_, both_taken _ _ _ _ c.in-Some.ensures.bytes _ c.read_full-got.ensures.bytes _ _ c.read_head-behind.ensures.bytes)

pub returns-in_default-behind-clause-bytes : goal.returns-in_default-behind-clause-bytes
returns-in_default-behind-clause-bytes g c =
    (_, both_taken _ _ _ _ c.in-Some.ensures.bytes _ c.read_full-got.ensures.bytes _ _ c.read_head-behind.ensures.bytes)

pub returns-then-read_full-k-clause-bytes : goal.returns-then-read_full-k-clause-bytes
returns-then-read_full-k-clause-bytes g c =
    let up = both_taken _ _ _ _ c.in-Some.ensures.bytes _ c.read_full-got.ensures.bytes _ _ c.read_head-behind.ensures.bytes in
    (_, consumes-then _ _ _ _ _ up c.read_full.ensures.bytes)

pub returns-clause-bytes : goal.returns-clause-bytes
returns-clause-bytes g c =
    let h = c.in-Some in
    let n : h.head.len ≤ 4096 = h.ensures.len in
    let b = rw c.in-Some-behind.is at c.read_head-behind.ensures in
    let k : c.in-Some-behind.behind.len ≤ 4096 = b.len in
    let long = c.read_full-got.auto.buffer ∙ length-take-le h.head.len c.args.file.now (omega (arith, n, c.requires.0)) in
    let short = c.read_full.auto.buffer ∙ length-take-le c.in-Some-behind.behind.len c.args.text.now (omega (arith, k, c.requires.1)) in
    whole_taken _ _ _ _ _ c.read_full-got.new.buffer c.read_full.new.buffer _ _ h.head c.in-Some-behind.behind _ _ h.ensures.bytes
    c.read_full-got.ensures.bytes b.bytes c.read_full.ensures.bytes long short c.if-got-n.false c.if-read_full-k.false
